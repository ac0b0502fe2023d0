-- The tuple of a number is the one that lies there in the list of all tuples.
use Rattle.std.proofs.Common.{arith, ◌≡◌, ℕ, ◌+◌, ◌*◌, ◌/◌, ◌%◌, ◌<◌, zero, suc, List, [], ◌∷◌, ◌++◌, length, get_or, drop, map, refl, ap, sym, ◌∙◌, length-append, append_assoc}
use Rattle.std.specs.List.{flat_map}
use Rattle.std.proofs.lemmas.List.{get_or-map, get_or-append-add, get_or_append_left, length-map, drop_more}
use Rattle.std.proofs.Math.Nat.{div-lt_iff_lt-mul, mul-div_cancel_left}
use Rattle.pd_model.specs.Fits.{fitting, tuples}
use Rattle.pd_model.specs.declared.effects.Effect.{Effect}
use Rattle.pd_model.specs.declared.parts.Parts.{Parts}
use Rattle.grounding_defs.specs.Instance.{Change, change_of, changes_of}
use Rattle.grounder.specs.own.Bindings.{size, tuple_at}

-- each of some objects before each of some tuples
abbrev blocks : List (List ℕ) → List ℕ → List (List ℕ)
blocks rest objects = flat_map (λ o. map (λ os. o ∷ os) rest) objects

times : (n m : ℕ) → suc n * m ≡ m + n * m
times n m = omega arith

length_blocks : (rest : List (List ℕ)) (objects : List ℕ) → length (blocks rest objects) ≡ length objects * length rest
length_blocks rest [] = omega arith
length_blocks rest (o ∷ objects) =
    length-append (map (λ os. o ∷ os) rest) (blocks rest objects)
    ∙ (λ i. length-map rest (λ os. o ∷ os) i + length_blocks rest objects i)
    ∙ sym (times (length objects) (length rest))

at_block : (rest : List (List ℕ)) (objects : List ℕ) (q r : ℕ) (d : List ℕ) → q < length objects → r < length rest
    → get_or (blocks rest objects) (q * length rest + r) d ≡ get_or objects q 0 ∷ get_or rest r []
at_block rest [] q r d l m = absurd (omega arith)
at_block rest (o ∷ objects) zero r d l m =
    let here : r < length (map (λ os. o ∷ os) rest) = omega (arith, length-map rest (λ (os : List ℕ). o ∷ os)) in
    let start : 0 * length rest + r ≡ r = omega arith in
    ap (λ (n : ℕ). get_or (blocks rest (o ∷ objects)) n d) start
    ∙ get_or_append_left (map (λ os. o ∷ os) rest) (blocks rest objects) d r here
    ∙ get_or-map (λ os. o ∷ os) rest r [] d m
at_block rest (o ∷ objects) (suc q) r d l m =
    let long : length (map (λ os. o ∷ os) rest) ≡ length rest = length-map rest (λ (os : List ℕ). o ∷ os) in
    let next : suc q * length rest + r ≡ length (map (λ os. o ∷ os) rest) + (q * length rest + r) = omega (arith, times q (length rest), long) in
    ap (λ (n : ℕ). get_or (blocks rest (o ∷ objects)) n d) next
    ∙ get_or-append-add (map (λ os. o ∷ os) rest) (blocks rest objects) (q * length rest + r) d
    ∙ at_block rest objects q r d (omega arith) m

pub size_is : (p : Parts) (over : List ℕ) → size (map (fitting p) over) ≡ length (tuples p over)
size_is p [] = refl
size_is p (kind ∷ over) = ap (λ (n : ℕ). length (fitting p kind) * n) (size_is p over) ∙ sym (length_blocks (tuples p over) (fitting p kind))

zero_times : (n : ℕ) → n * 0 ≡ 0
zero_times n = omega arith

some_size : (n m s : ℕ) → n < m * s → 0 < s
some_size n m zero l = absurd (omega (arith, l, zero_times m))
some_size n m (suc s) l = omega arith

pub tuple_is : (p : Parts) (over : List ℕ) (n : ℕ) (d : List ℕ) → n < size (map (fitting p) over) → get_or (tuples p over) n d ≡ tuple_at (map (fitting p) over) n
tuple_is p [] zero d l = refl
tuple_is p [] (suc n) d l = absurd (omega arith)
tuple_is p (kind ∷ over) n d l =
    let s = size (map (fitting p) over) in
    let rest = tuples p over in
    let long : s ≡ length rest = size_is p over in
    let some : 0 < s = some_size n (length (fitting p kind)) s l in
    let q : n / s < length (fitting p kind) = (div-lt_iff_lt-mul some).1 l in
    let r : n % s < s = omega arith in
    let r' : n % s < length rest = omega (arith, r, long) in
    let split : n ≡ n / s * s + n % s = omega arith in
    let split' : n ≡ n / s * length rest + n % s = split ∙ ap (λ (m : ℕ). n / s * m + n % s) long in
    ap (λ (m : ℕ). get_or (blocks rest (fitting p kind)) m d) split'
    ∙ at_block rest (fitting p kind) (n / s) (n % s) d q r'
    ∙ ap (λ (os : List ℕ). get_or (fitting p kind) (n / s) 0 ∷ os) (tuple_is p over (n % s) [] r)

-- the change of a number
pub change_at : (p : Parts) (objects : List ℕ) (e : Effect) (n : ℕ) (d : Change) → n < size (map (fitting p) e.over)
    → get_or (changes_of p objects e) n d ≡ change_of e (objects ++ tuple_at (map (fitting p) e.over) n)
change_at p objects e n d l =
    let l' : n < length (tuples p e.over) = omega (arith, l, size_is p e.over) in
    get_or-map (λ more. change_of e (objects ++ more)) (tuples p e.over) n [] d l'
    ∙ ap (λ (more : List ℕ). change_of e (objects ++ more)) (tuple_is p e.over n [] l)

pub count_is : (p : Parts) (objects : List ℕ) (e : Effect) → length (changes_of p objects e) ≡ size (map (fitting p) e.over)
count_is p objects e = length-map (tuples p e.over) (λ more. change_of e (objects ++ more)) ∙ sym (size_is p e.over)

-- what is left to push of a tuple, once the first object is pushed
pub record Pushed (d : List ℕ) (rest : List (List ℕ)) (all n : ℕ) : Type 0 where
  pub divides : 0 < length d
  pub left : all / length d ≡ size rest
  pub some : 0 < size rest
  pub index : n / size rest < length d
  pub number : n % size rest < size rest

pub pushed : (d : List ℕ) (rest : List (List ℕ)) (all n : ℕ) → all ≡ size (d ∷ rest) → n < all → Pushed d rest all n
pushed d rest all n e l =
    let l' : n < length d * size rest = omega (arith, e, l) in
    let some : 0 < size rest = some_size n (length d) (size rest) l' in
    let turned : n < size rest * length d = omega (arith, l') in
    let divides : 0 < length d = some_size n (size rest) (length d) turned in
    record {
      divides = divides;
      left = ap (λ (m : ℕ). m / length d) e ∙ mul-div_cancel_left (size rest) divides;
      some = some;
      index = (div-lt_iff_lt-mul some).1 l';
      number = omega arith;
    }

-- the same in a loop over lists of objects
pub pushed_at : (domains : List (List ℕ)) (i : ℕ) (d : List ℕ) (all n : ℕ) → i < length domains → d ≡ get_or domains i d → all ≡ size (drop i domains) → n < all
    → Pushed d (drop (i + 1) domains) all n
pushed_at domains i d all n l at e m =
    pushed d (drop (i + 1) domains) all n (e ∙ ap size (drop_more domains i d l ∙ ap (λ (x : List ℕ). x ∷ drop (i + 1) domains) (sym at))) m

pub tuple_more : (domains : List (List ℕ)) (i : ℕ) (d : List ℕ) (n : ℕ) → i < length domains → d ≡ get_or domains i d
    → tuple_at (drop i domains) n ≡ get_or d (n / size (drop (i + 1) domains)) 0 ∷ tuple_at (drop (i + 1) domains) (n % size (drop (i + 1) domains))
tuple_more domains i d n l at = ap (λ (ds : List (List ℕ)). tuple_at ds n) (drop_more domains i d l ∙ ap (λ (x : List ℕ). x ∷ drop (i + 1) domains) (sym at))

-- one object is pushed, and the rest of the tuple is left
pub push_more : (domains : List (List ℕ)) (i : ℕ) (d : List ℕ) (all n x : ℕ) (into out start : List ℕ) (whole : List ℕ) → i < length domains → d ≡ get_or domains i d
    → all ≡ size (drop i domains) → n < all → into ++ tuple_at (drop i domains) n ≡ start ++ whole → x ≡ get_or d (n / (all / length d)) 0 → out ≡ into ++ x ∷ []
    → out ++ tuple_at (drop (i + 1) domains) (n % (all / length d)) ≡ start ++ whole
push_more domains i d all n x into out start whole l at e m so_far x_is out_is =
    let left : all / length d ≡ size (drop (i + 1) domains) = (pushed_at domains i d all n l at e m).left in
    let more = tuple_more domains i d n l at in
    (λ j. out_is j ++ tuple_at (drop (i + 1) domains) (n % left j))
    ∙ append_assoc into (x ∷ []) (tuple_at (drop (i + 1) domains) (n % size (drop (i + 1) domains)))
    ∙ (λ j. into ++ (x_is ∙ (λ k. get_or d (n / left k) 0)) j ∷ tuple_at (drop (i + 1) domains) (n % size (drop (i + 1) domains)))
    ∙ (λ j. into ++ sym more j) ∙ so_far
