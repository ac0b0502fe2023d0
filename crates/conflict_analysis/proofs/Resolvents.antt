-- What a resolvent over a trail keeps when a literal is put in or taken out.
use Rattle.std.proofs.Common.{arith, ◌≡◌, ◌==◌, ℕ, ◌+◌, ◌*◌, ◌/◌, ◌<◌, ◌≤◌, List, length, set, Bool, true, false, not, filter, refl, sym, ap, subst, ◌∙◌, if◌then◌else◌, length-set}
use Rattle.clause_base.specs.Literal.{opposite}
use Rattle.containers.specs.Rising.{put}
use Rattle.cdcl_defs.specs.declared.trail.Assigned.{Assigned}
use Rattle.cdcl_defs.specs.State.{is_on, decision_count}
use Rattle.cdcl_defs.specs.Trail.{AllFalse}
use Rattle.cdcl_defs.specs.Learn.{level_of}
use Rattle.cdcl_defs.proofs.published.Tests.{test_same}
use Rattle.cdcl_tables.specs.Mirrored.{TrailView}
use Rattle.bit_sets.specs.Marks.{places, at}
use Rattle.conflict_analysis.specs.own.Resolvent.{ResolventView, literals, IsOver}
use Rattle.bit_sets.proofs.published.Places.{in_places, at-set, bit, put_new, removed}
use Rattle.conflict_analysis.proofs.Count.{counted_new, counted_less, number_le}

-- whether a literal is of the current level
abbrev pub is_now : List Assigned → ℕ → Bool
is_now trail l = level_of trail l == decision_count trail

put_false : (trail : List Assigned) (on : List Bool) (l : ℕ) → AllFalse trail (places 0 on) → l < length on → is_on trail (opposite l) ≡ true → AllFalse trail (places 0 (set on l true))
put_false trail on l a h e m f = by (l == m) refl (sym (at-set on l m true (l == m) h refl) ∙ sym (in_places (set on l true) m) ∙ f)
  where
    by : (b : Bool) → (l == m) ≡ b → (if b then true else at on m) ≡ true → is_on trail (opposite m) ≡ true
    by true s t = ap (λ (k : ℕ). is_on trail (opposite k)) (sym (test_same l m s)) ∙ e
    by false s t = a m (in_places on m ∙ t)

remove_false : (trail : List Assigned) (on : List Bool) (l : ℕ) → AllFalse trail (places 0 on) → l < length on → AllFalse trail (places 0 (set on l false))
remove_false trail on l a h m f = by (l == m) refl (sym (at-set on l m false (l == m) h refl) ∙ sym (in_places (set on l false) m) ∙ f)
  where
    by : (b : Bool) → (l == m) ≡ b → (if b then false else at on m) ≡ true → is_on trail (opposite m) ≡ true
    by true s t = cc
    by false s t = a m (in_places on m ∙ t)

-- a resolvent that is seen as one over a trail is one, with a mark for each literal of the trail
seen_over : (trail : TrailView) (r was : ResolventView) → r ≡ was → IsOver trail was → IsOver trail r
seen_over trail r was v o = subst (IsOver trail) (sym v) o

pub marked : (trail : TrailView) (r was : ResolventView) (l : ℕ) → r ≡ was → IsOver trail was → l / 2 < trail.variables → l < length r.on
marked trail r was l v o h = omega (arith, (seen_over trail r was v o).size, h)

-- the literals after a mark was made or taken back
pub put_literals : (trail : TrailView) (r was : ResolventView) (on : List Bool) (l : ℕ) → r ≡ was → IsOver trail was → l / 2 < trail.variables → on ≡ set r.on l true → places 0 on ≡ put (literals was) l
put_literals trail r was on l v o h e = ap (places 0) e ∙ put_new r.on l (marked trail r was l v o h) ∙ ap (λ (w : ResolventView). put (literals w) l) v

pub left_literals : (trail : TrailView) (r was : ResolventView) (on : List Bool) (l : ℕ) → r ≡ was → IsOver trail was → l / 2 < trail.variables → on ≡ set r.on l false → places 0 on ≡ filter (λ m. not (m == l)) (literals was)
left_literals trail r was on l v o h e = ap (places 0) e ∙ removed r.on l (marked trail r was l v o h) ∙ ap (λ (w : ResolventView). filter (λ m. not (m == l)) (literals w)) v

-- and what is counted
pub over_put : (trail : TrailView) (r was : ResolventView) (on : List Bool) (more l : ℕ) (b : Bool) → r ≡ was → IsOver trail was → l / 2 < trail.variables → on ≡ set r.on l true → at r.on l ≡ false → is_on trail.entries (opposite l) ≡ true → is_now trail.entries l ≡ b → more ≡ r.count + bit b → IsOver trail (record { on = on; count = more })
over_put trail r was on more l b v w i s a e n m =
    let o = seen_over trail r was v w in
    let h = marked trail r was l v w i in
    subst (λ (ms : List Bool). IsOver trail (record { on = ms; count = more })) (sym s) (record {
      size = length-set r.on l true ∙ o.size;
      all_false = put_false trail.entries r.on l o.all_false h e;
      counted = m ∙ counted_new (is_now trail.entries) r.on l r.count b h a o.counted n;
    })

pub over_remove : (trail : TrailView) (r was : ResolventView) (on : List Bool) (less l : ℕ) (b : Bool) → r ≡ was → IsOver trail was → l / 2 < trail.variables → on ≡ set r.on l false → at was.on l ≡ true → is_now trail.entries l ≡ b → r.count ≡ less + bit b → IsOver trail (record { on = on; count = less })
over_remove trail r was on less l b v w i s a n e =
    let o = seen_over trail r was v w in
    let h = marked trail r was l v w i in
    let k = counted_less (is_now trail.entries) r.on l r.count b h (ap (λ (t : ResolventView). at t.on l) v ∙ a) o.counted n in
    subst (λ (ms : List Bool). IsOver trail (record { on = ms; count = less })) (sym s) (record {
      size = length-set r.on l false ∙ o.size;
      all_false = remove_false trail.entries r.on l o.all_false h;
      counted = omega (arith, k, e);
    })

-- a literal of the current level is counted
pub counted_one : (trail : TrailView) (r was : ResolventView) (l : ℕ) → r ≡ was → IsOver trail was → l / 2 < trail.variables → at was.on l ≡ true → is_now trail.entries l ≡ true → 1 ≤ r.count
counted_one trail r was l v o i a n =
    let k = counted_less (is_now trail.entries) r.on l r.count true (marked trail r was l v o i) (ap (λ (t : ResolventView). at t.on l) v ∙ a) (seen_over trail r was v o).counted n in
    omega (arith, k)

-- there are no more than literals
pub count_small : (trail : TrailView) (r was : ResolventView) → r ≡ was → IsOver trail was → r.count ≤ 2 * trail.variables
count_small trail r was v w = let o = seen_over trail r was v w in omega (arith, o.counted, o.size, number_le (is_now trail.entries) 0 r.on)
