-- From which literals of one step and one time a literal of a formula comes.
use Rattle.std.proofs.Common.{arith, ◌≡◌, ◌≢◌, ◌==◌, ℕ, suc, ◌+◌, ◌-◌, ◌*◌, ◌/◌, ◌%◌, ◌<◌, ◌≤◌, ltb, Bool, true, false, refl, sym, ap, ◌∙◌}
use Rattle.std.proofs.Math.Nat.{mul-le-mul_right}
use Rattle.std.proofs.lemmas.Bool.Decides.{nat_tests}
use Rattle.cdcl_tables.specs.declared.shape.Shape.{Shape}
use Rattle.clause_base.specs.Repeats.{moved_code}
use Rattle.cdcl_tables.specs.own.Lists.{facts_begin, facts_end, step_move, time_move}
use Rattle.cdcl_tables.proofs.Shifts.{IsFrom, IsFromNone, code_own, code_fact, test_same, test_false}

-- a product of a number that is less
mul_less : (u v c : ℕ) → u < v → u * c + c ≤ v * c
mul_less u v c h = let e : suc u ≤ v = omega (arith, h) in omega (arith, mul-le-mul_right c e)

-- where the variables of a step are
pub record IsInStep (z : Shape) (x u l : ℕ) : Type 0 where
  pub step : u < z.horizon
  pub own : l < 2 * z.width
  pub is : x ≡ 2 * (u * z.width) + l

-- where a fact at a time is
pub record IsAtTime (z : Shape) (x t l : ℕ) : Type 0 where
  pub time : t ≤ z.horizon
  pub fact : l < 2 * z.facts
  pub is : x ≡ 2 * (z.horizon * z.width + t * z.facts) + l

abbrev step_codes : Shape → ℕ
step_codes z = 2 * (z.width + 2 * z.facts)

-- a literal of one step is below its width or is a fact
own_or_fact : (z : Shape) (u a : ℕ) (b : Bool) → ltb a (2 * z.width) ≡ b → (x l : ℕ) → (a < 2 * z.width → 2 * (u * z.width) + a ≡ x → a ≡ l) → (a < 2 * z.width → a ≡ l → 2 * (u * z.width) + a ≡ x) → (2 * z.width ≤ a → 2 * (z.horizon * z.width + u * z.facts) + (a - 2 * z.width) ≡ x → a ≡ l) → (2 * z.width ≤ a → a ≡ l → 2 * (z.horizon * z.width + u * z.facts) + (a - 2 * z.width) ≡ x) → (moved_code z.width (u * z.width) (z.horizon * z.width + u * z.facts) a == x) ≡ (a == l)
own_or_fact z u a true e x l o o' f f' =
    let h : a < 2 * z.width = grind (arith, nat_tests) in
    let q : moved_code z.width (u * z.width) (z.horizon * z.width + u * z.facts) a ≡ 2 * (u * z.width) + a = code_own z.width (u * z.width) (z.horizon * z.width + u * z.facts) a h in
    test_same _ x a l (λ w. o h (sym q ∙ w)) (λ w. q ∙ o' h w)
own_or_fact z u a false e x l o o' f f' =
    let h : 2 * z.width ≤ a = grind (arith, nat_tests) in
    let q : moved_code z.width (u * z.width) (z.horizon * z.width + u * z.facts) a ≡ 2 * (z.horizon * z.width + u * z.facts) + (a - 2 * z.width) = code_fact z.width (u * z.width) (z.horizon * z.width + u * z.facts) a h in
    test_same _ x a l (λ w. f h (sym q ∙ w)) (λ w. q ∙ f' h w)

never : (z : Shape) (u a : ℕ) (b : Bool) → ltb a (2 * z.width) ≡ b → (x : ℕ) → (a < 2 * z.width → 2 * (u * z.width) + a ≢ x) → (2 * z.width ≤ a → 2 * (z.horizon * z.width + u * z.facts) + (a - 2 * z.width) ≢ x) → (moved_code z.width (u * z.width) (z.horizon * z.width + u * z.facts) a == x) ≡ false
never z u a true e x o f =
    let h : a < 2 * z.width = grind (arith, nat_tests) in
    let q : moved_code z.width (u * z.width) (z.horizon * z.width + u * z.facts) a ≡ 2 * (u * z.width) + a = code_own z.width (u * z.width) (z.horizon * z.width + u * z.facts) a h in
    test_false _ x (λ w. o h (sym q ∙ w))
never z u a false e x o f =
    let h : 2 * z.width ≤ a = grind (arith, nat_tests) in
    let q : moved_code z.width (u * z.width) (z.horizon * z.width + u * z.facts) a ≡ 2 * (z.horizon * z.width + u * z.facts) + (a - 2 * z.width) = code_fact z.width (u * z.width) (z.horizon * z.width + u * z.facts) a h in
    test_false _ x (λ w. f h (sym q ∙ w))

-- a variable of a step comes from its own step alone
pub own_from : (z : Shape) (x u l : ℕ) → IsInStep z x u l → IsFrom (step_move z u) (step_codes z) x l
own_from z x u l i a below =
    let room = mul_less u z.horizon z.width i.step in
    own_or_fact z u a (ltb a (2 * z.width)) refl x l
    (λ h w. omega (arith, i.is, w)) (λ h w. omega (arith, i.is, w))
    (λ h w. absurd (omega (arith, i.is, i.own, w, room)))
    (λ h w. absurd (omega (arith, i.own, w, h)))

pub own_not : (z : Shape) (x u l v : ℕ) → IsInStep z x u l → v < z.horizon → v ≢ u → IsFromNone (step_move z v) (step_codes z) x
own_not z x u l v i hv ne a below =
    let room = mul_less u z.horizon z.width i.step in
    never z v a (ltb a (2 * z.width)) refl x (λ h w. by (ltb v u) refl h w) (λ h w. absurd (omega (arith, i.is, i.own, w, room)))
  where
    by : (b : Bool) → ltb v u ≡ b → a < 2 * z.width → 2 * (v * z.width) + a ≡ x → ⊥
    by true e h w = let less : v < u = grind (arith, nat_tests) in omega (arith, mul_less v u z.width less, i.is, i.own, h, w)
    by false e h w =
        let more : u ≤ v = grind (arith, nat_tests) in
        let less : u < v = omega (arith, more, ne) in omega (arith, mul_less u v z.width less, i.is, i.own, h, w)

pub own_no_time : (z : Shape) (x u l t : ℕ) → IsInStep z x u l → IsFromNone (time_move z t) (2 * z.facts) x
own_no_time z x u l t i a below =
    let h : 2 * 0 ≤ a = omega arith in
    let q : moved_code 0 0 (z.horizon * z.width + t * z.facts) a ≡ 2 * (z.horizon * z.width + t * z.facts) + (a - 2 * 0) = code_fact 0 0 (z.horizon * z.width + t * z.facts) a h in
    test_false _ x (λ w. omega (arith, i.is, i.own, mul_less u z.horizon z.width i.step, q, w))

-- a fact comes from the step that begins where it is, and from the one that ends there
pub next_from : (z : Shape) (x t l : ℕ) → IsAtTime z x t l → t < z.horizon → IsFrom (step_move z t) (step_codes z) x (2 * z.width + l)
next_from z x t l i ht a below =
    let room = mul_less t z.horizon z.width ht in
    own_or_fact z t a (ltb a (2 * z.width)) refl x (2 * z.width + l)
    (λ h w. absurd (omega (arith, i.is, h, w, room)))
    (λ h w. absurd (omega (arith, h, w)))
    (λ h w. omega (arith, i.is, h, w))
    (λ h w. omega (arith, i.is, h, w))

pub last_from : (z : Shape) (x t u l : ℕ) → IsAtTime z x t l → t ≡ u + 1 → IsFrom (step_move z u) (step_codes z) x (2 * z.width + 2 * z.facts + l)
last_from z x t u l i e a below =
    let room = mul_less u z.horizon z.width (omega (arith, i.time, e)) in
    let next : t * z.facts ≡ u * z.facts + z.facts = ap (λ (k : ℕ). k * z.facts) e ∙ omega arith in
    own_or_fact z u a (ltb a (2 * z.width)) refl x (2 * z.width + 2 * z.facts + l)
    (λ h w. absurd (omega (arith, i.is, h, w, room)))
    (λ h w. absurd (omega (arith, h, w)))
    (λ h w. omega (arith, i.is, h, w, next))
    (λ h w. omega (arith, i.is, h, w, next))

pub fact_not : (z : Shape) (x t l v : ℕ) → IsAtTime z x t l → v < z.horizon → v ≢ t → v + 1 ≢ t → IsFromNone (step_move z v) (step_codes z) x
fact_not z x t l v i hv ne nx a below =
    let room = mul_less v z.horizon z.width hv in
    never z v a (ltb a (2 * z.width)) refl x (λ h w. omega (arith, i.is, h, w, room)) (λ h w. by (ltb v t) refl h w)
  where
    by : (b : Bool) → ltb v t ≡ b → 2 * z.width ≤ a → 2 * (z.horizon * z.width + v * z.facts) + (a - 2 * z.width) ≡ x → ⊥
    by true e h w =
        let less : v < t = grind (arith, nat_tests) in
        let two : v + 1 < t = omega (arith, less, nx) in
        let m : (v + 1) * z.facts + z.facts ≤ t * z.facts = mul_less (v + 1) t z.facts two in omega (arith, m, i.is, i.fact, h, w, below)
    by false e h w =
        let more : t ≤ v = grind (arith, nat_tests) in
        let less : t < v = omega (arith, more, ne) in omega (arith, mul_less t v z.facts less, i.is, i.fact, h, w)

-- and from its own time alone
pub time_from : (z : Shape) (x t l : ℕ) → IsAtTime z x t l → IsFrom (time_move z t) (2 * z.facts) x l
time_from z x t l i a below =
    let h : 2 * 0 ≤ a = omega arith in
    let q : moved_code 0 0 (z.horizon * z.width + t * z.facts) a ≡ 2 * (z.horizon * z.width + t * z.facts) + (a - 2 * 0) = code_fact 0 0 (z.horizon * z.width + t * z.facts) a h in
    test_same _ x a l (λ w. omega (arith, i.is, q, w)) (λ w. omega (arith, i.is, q, w))

pub time_not : (z : Shape) (x t l v : ℕ) → IsAtTime z x t l → v ≢ t → IsFromNone (time_move z v) (2 * z.facts) x
time_not z x t l v i ne a below =
    let h : 2 * 0 ≤ a = omega arith in
    let q : moved_code 0 0 (z.horizon * z.width + v * z.facts) a ≡ 2 * (z.horizon * z.width + v * z.facts) + (a - 2 * 0) = code_fact 0 0 (z.horizon * z.width + v * z.facts) a h in
    test_false _ x (λ w. by (ltb v t) refl (sym q ∙ w))
  where
    by : (b : Bool) → ltb v t ≡ b → 2 * (z.horizon * z.width + v * z.facts) + (a - 2 * 0) ≡ x → ⊥
    by true e w = let less : v < t = grind (arith, nat_tests) in omega (arith, mul_less v t z.facts less, i.is, i.fact, w, below)
    by false e w =
        let more : t ≤ v = grind (arith, nat_tests) in
        let less : t < v = omega (arith, more, ne) in omega (arith, mul_less t v z.facts less, i.is, i.fact, w)

-- a literal past all facts comes from nowhere
pub past_step : (z : Shape) (x v : ℕ) → facts_end z ≤ x → v < z.horizon → IsFromNone (step_move z v) (step_codes z) x
past_step z x v h hv a below =
    let room = mul_less v z.horizon z.width hv in
    let facts : (v + 1) * z.facts + z.facts ≤ (z.horizon + 1) * z.facts = mul_less (v + 1) (z.horizon + 1) z.facts (omega (arith, hv)) in
    never z v a (ltb a (2 * z.width)) refl x (λ g w. omega (arith, h, g, w, room)) (λ g w. omega (arith, h, g, w, facts, below))

pub past_time : (z : Shape) (x v : ℕ) → facts_end z ≤ x → v ≤ z.horizon → IsFromNone (time_move z v) (2 * z.facts) x
past_time z x v h hv a below =
    let g : 2 * 0 ≤ a = omega arith in
    let q : moved_code 0 0 (z.horizon * z.width + v * z.facts) a ≡ 2 * (z.horizon * z.width + v * z.facts) + (a - 2 * 0) = code_fact 0 0 (z.horizon * z.width + v * z.facts) a g in
    test_false _ x (λ w. omega (arith, h, mul_less v (z.horizon + 1) z.facts (omega (arith, hv)), q, w, below))

-- where there is a number below a product, no factor is 0
room_of : (n c x : ℕ) → x < 2 * (n * c) → 0 < 2 * c
room_of n c x h = by (c == 0) refl
  where
    by : (b : Bool) → (c == 0) ≡ b → 0 < 2 * c
    by true e =
        let q : c ≡ 0 = grind (arith, nat_tests) in
        let p : n * c ≡ n * 0 = ap (λ (k : ℕ). n * k) q in absurd (omega (arith, h, p))
    by false e = let q : c ≢ 0 = grind (arith, nat_tests) in omega (arith, q)

-- where a literal is, by division
pub in_step_of : (z : Shape) (x : ℕ) → x < facts_begin z → IsInStep z x (x / (2 * z.width)) (x % (2 * z.width))
in_step_of z x h = record {
  step = by (ltb (x / (2 * z.width)) z.horizon) refl;
  own = own;
  is = is;
}
  where
    some : 0 < 2 * z.width
    some = room_of z.horizon z.width x h

    own : x % (2 * z.width) < 2 * z.width
    own = omega (arith, some)

    is : x ≡ 2 * (x / (2 * z.width) * z.width) + x % (2 * z.width)
    is = omega (arith, some)

    by : (b : Bool) → ltb (x / (2 * z.width)) z.horizon ≡ b → x / (2 * z.width) < z.horizon
    by true e = grind (arith, nat_tests)
    by false e =
        let more : z.horizon ≤ x / (2 * z.width) = grind (arith, nat_tests) in
        absurd (omega (arith, mul-le-mul_right z.width more, is, h))

pub at_time_of : (z : Shape) (x : ℕ) → facts_begin z ≤ x → x < facts_end z → IsAtTime z x ((x - facts_begin z) / (2 * z.facts)) ((x - facts_begin z) % (2 * z.facts))
at_time_of z x g h = record {
  time = by (ltb z.horizon (y / (2 * z.facts))) refl;
  fact = omega (arith, some);
  is = is;
}
  where
    y : ℕ
    y = x - facts_begin z

    some : 0 < 2 * z.facts
    some = room_of (z.horizon + 1) z.facts (x - facts_begin z) (omega (arith, g, h))

    parts : y ≡ 2 * (y / (2 * z.facts) * z.facts) + y % (2 * z.facts)
    parts = omega (arith, some)

    is : x ≡ 2 * (z.horizon * z.width + y / (2 * z.facts) * z.facts) + y % (2 * z.facts)
    is = omega (arith, parts, g)

    by : (b : Bool) → ltb z.horizon (y / (2 * z.facts)) ≡ b → y / (2 * z.facts) ≤ z.horizon
    by true e =
        let more : z.horizon < y / (2 * z.facts) = grind (arith, nat_tests) in
        absurd (omega (arith, mul_less z.horizon (y / (2 * z.facts)) z.facts more, is, h))
    by false e = grind (arith, nat_tests)
