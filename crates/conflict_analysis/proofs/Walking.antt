-- The walk from one marked entry to the next: the entries between are passed over.
use Rattle.std.proofs.Common.{arith, ◌≡◌, ◌==◌, ℕ, zero, suc, ◌+◌, ◌-◌, ◌*◌, ◌/◌, ◌<◌, ◌≤◌, List, ◌∷◌, length, take, reverse, get_or, Bool, true, false, not, ◌&&◌, refl, sym, ap, ◌∙◌, if◌then◌else◌, Option, Some, None, All}
use Rattle.std.proofs.lemmas.List.{get_or-map, get_or_default, length-map}
use Rattle.clause_base.specs.Literal.{opposite}
use Rattle.cdcl_defs.specs.declared.trail.Assigned.{Assigned}
use Rattle.cdcl_defs.specs.State.{clause_at, decision_count}
use Rattle.cdcl_defs.specs.Learn.{Learned, walk, current, resolvent}
use Rattle.cdcl_defs.proofs.published.Members.{is_in}
use Rattle.cdcl_tables.specs.Assignment.{literals}
use Rattle.cdcl_tables.specs.Mirrored.{AreApart}
use Rattle.cdcl_tables.proofs.published.Mirrors.{half_opposite}
use Rattle.bit_sets.specs.Marks.{places}
use Rattle.bit_sets.proofs.published.Places.{in_places}
use Rattle.conflict_analysis.specs.own.Resolvent.{IsLatest}
use Rattle.conflict_analysis.proofs.Marks.{table, table_at, marked_at}
use Rattle.conflict_analysis.proofs.Steps.{step_back}

no_entry : Assigned
no_entry = record { literal = 0; reason = None }

-- the literal of an entry, as it stands among the literals
pub literal_at : (trail : List Assigned) (p : ℕ) (a : Assigned) → p < length trail → a ≡ get_or trail p a → get_or (literals trail) p 0 ≡ a.literal
literal_at trail p a h e = get_or-map (λ (x : Assigned). x.literal) trail p a 0 h ∙ ap (λ (x : Assigned). x.literal) (sym e)

pub code_below : (n l : ℕ) → l / 2 < n → opposite l < 2 * n
code_below n l h = omega (arith, h, half_opposite l)

pub entry_below : (n : ℕ) (trail : List Assigned) (p : ℕ) → All (λ a. a.literal / 2 < n) trail → p < length trail → get_or (literals trail) p 0 / 2 < n
entry_below n trail p below h =
    let e : get_or (literals trail) p 0 ≡ (get_or trail p no_entry).literal = get_or-map (λ (x : Assigned). x.literal) trail p no_entry 0 h in
    let b = below p no_entry h in
    omega (arith, e, b)

-- an entry's negation is in the clause just where its position is marked
pub mark_is : (n : ℕ) (trail : List Assigned) (has : ℕ → Bool) (p : ℕ) → All (λ a. a.literal / 2 < n) trail → AreApart (literals trail) → p < length trail
    → is_in (places 0 (table (2 * n) (literals trail) has)) (opposite (get_or (literals trail) p 0)) ≡ has p
mark_is n trail has p below apart h =
    let long = length-map trail (λ (x : Assigned). x.literal) in
    in_places (table (2 * n) (literals trail) has) (opposite (get_or (literals trail) p 0))
    ∙ table_at (2 * n) (literals trail) has (opposite (get_or (literals trail) p 0)) (code_below n (get_or (literals trail) p 0) (entry_below n trail p below h))
    ∙ marked_at has p (literals trail) apart (omega (arith, h, long))

-- entries that are not in the clause are passed over
pub skip_back : (clauses : List (List ℕ)) (trail : List Assigned) (m d n : ℕ) (c : Learned) → n ≡ m + d → n ≤ length trail → ((q : ℕ) → m ≤ q → q < n → is_in c.clause (opposite (get_or (literals trail) q 0)) ≡ false)
    → walk clauses trail (reverse (take n trail)) c ≡ walk clauses trail (reverse (take m trail)) c
skip_back clauses trail m zero n c e l h = let s : n ≡ m = omega (arith, e) in ap (λ (k : ℕ). walk clauses trail (reverse (take k trail)) c) s
skip_back clauses trail m (suc d) n c e l h =
    let a : Assigned = get_or trail (n - 1) no_entry in
    let some : 0 < n = omega (arith, e) in
    let inside : n - 1 < length trail = omega (arith, some, l) in
    let own : a ≡ get_or trail (n - 1) a = get_or_default trail (n - 1) no_entry a inside in
    let off : is_in c.clause (opposite a.literal) ≡ false = ap (λ (x : ℕ). is_in c.clause (opposite x)) (sym (literal_at trail (n - 1) a inside own)) ∙ h (n - 1) (omega (arith, e)) (omega (arith, some)) in
    step_back clauses trail trail n a c false _ _ some l refl own off refl refl
    ∙ skip_back clauses trail m d (n - 1) c (omega (arith, e)) (omega (arith, l)) (λ q f g. h q f (omega (arith, g)))

-- where no entry is left that is marked, the walk ends with its clause
pub walk_end : (clauses : List (List ℕ)) (trail : List Assigned) (n : ℕ) (has : ℕ → Bool) (index : ℕ) (hints : List ℕ) → All (λ a. a.literal / 2 < n) trail → AreApart (literals trail) → IsLatest has index None → index ≤ length trail
    → walk clauses trail (reverse (take index trail)) (record { clause = places 0 (table (2 * n) (literals trail) has); hints = hints }) ≡ record { clause = places 0 (table (2 * n) (literals trail) has); hints = hints }
walk_end clauses trail n has index hints below apart none l =
    skip_back clauses trail 0 index index (record { clause = places 0 (table (2 * n) (literals trail) has); hints = hints }) (omega arith) l
    (λ q f g. mark_is n trail has q below apart (omega (arith, g, l)) ∙ none q g)

-- the walk at the latest entry that is marked
pub walk_at : (clauses : List (List ℕ)) (trail es : List Assigned) (n : ℕ) (has : ℕ → Bool) (index p : ℕ) (a : Assigned) (hints : List ℕ) (stop : Bool) (o : Option ℕ) → All (λ a. a.literal / 2 < n) trail → AreApart (literals trail)
    → IsLatest has index (Some p) → index ≤ length trail → es ≡ trail → a ≡ get_or es p a
    → (not (decision_count trail == 0) && (length (current trail (places 0 (table (2 * n) (literals trail) has))) == 1)) ≡ stop → a.reason ≡ o
    → walk clauses trail (reverse (take index trail)) (record { clause = places 0 (table (2 * n) (literals trail) has); hints = hints })
    ≡ (if stop then record { clause = places 0 (table (2 * n) (literals trail) has); hints = hints } else elim o [
      | None ↦ record { clause = places 0 (table (2 * n) (literals trail) has); hints = hints }
      | Some r ↦ walk clauses trail (reverse (take p trail)) (record { clause = resolvent (places 0 (table (2 * n) (literals trail) has)) a.literal (clause_at clauses r); hints = r ∷ hints })
    ])
walk_at clauses trail es n has index p a hints stop o below apart latest l same e s r =
    let c : Learned = record { clause = places 0 (table (2 * n) (literals trail) has); hints = hints } in
    let inside : p < length trail = omega (arith, latest.0, l) in
    let own : a ≡ get_or trail p a = e ∙ ap (λ (xs : List Assigned). get_or xs p a) same in
    let back : p + 1 - 1 ≡ p = omega arith in
    let read : a ≡ get_or trail (p + 1 - 1) a = own ∙ ap (λ (k : ℕ). get_or trail k a) (sym back) in
    let on : is_in c.clause (opposite a.literal) ≡ true = ap (λ (x : ℕ). is_in c.clause (opposite x)) (sym (literal_at trail p a inside own)) ∙ mark_is n trail has p below apart inside ∙ latest.1 in
    skip_back clauses trail (p + 1) (index - (p + 1)) index c (omega (arith, latest.0)) l
    (λ q f g. mark_is n trail has q below apart (omega (arith, g, l)) ∙ latest.2 q (omega (arith, f)) g)
    ∙ step_back clauses trail trail (p + 1) a c true stop o (omega arith) (omega (arith, inside)) refl read on s r
    ∙ ap (λ (k : ℕ). if stop then c else elim o as (λ _. Learned) [ None ↦ c | Some r ↦ walk clauses trail (reverse (take k trail)) (record { clause = resolvent c.clause a.literal (clause_at clauses r); hints = r ∷ hints }) ]) back

-- where it stops there
pub walk_stops : (clauses : List (List ℕ)) (trail : List Assigned) (n : ℕ) (has : ℕ → Bool) (index p : ℕ) (hints : List ℕ) → All (λ a. a.literal / 2 < n) trail → AreApart (literals trail) → IsLatest has index (Some p) → index ≤ length trail
    → (not (decision_count trail == 0) && (length (current trail (places 0 (table (2 * n) (literals trail) has))) == 1)) ≡ true
    → walk clauses trail (reverse (take index trail)) (record { clause = places 0 (table (2 * n) (literals trail) has); hints = hints }) ≡ record { clause = places 0 (table (2 * n) (literals trail) has); hints = hints }
walk_stops clauses trail n has index p hints below apart latest l s =
    let a : Assigned = get_or trail p no_entry in
    walk_at clauses trail trail n has index p a hints true a.reason below apart latest l refl (get_or_default trail p no_entry a (omega (arith, latest.0, l))) s refl
