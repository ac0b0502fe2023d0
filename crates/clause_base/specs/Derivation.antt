-- Derivations by reverse unit propagation (Goldberg and Novikov, 2003) along hints, as in the LRAT format (Cruz-Filipe and others, 2017).
use Rattle.std.specs.Prelude.{ℕ, ◌-◌, ◌<◌, ◌==◌, ◌&&◌, List, [], ◌∷◌, ◌++◌, take, length, Bool, false, not, filter, slice_get, if◌then◌else◌, Option, Some, None, IsSomeAnd, IsTrue}
use Rattle.std.specs.List.{list_any}
use Rattle.std.specs.Option.{is_some}
use Rattle.clause_base.specs.Literal.{opposite}
use Rattle.clause_base.specs.Clause.{has_literal, has_variables_below}
use Rattle.clause_base.specs.declared.log.Entry.{Entry}
use Rattle.clause_base.specs.declared.log.Entry.TheVariants.{Learn, Drop}

-- the literals of a clause that are not among those taken as false
abbrev pub open_literals : List ℕ → List ℕ → List ℕ
open_literals falsified clause = filter (λ l. not (has_literal falsified l)) clause

-- what a clause says where some literals are taken as false:
-- all its literals are false, or all but this one, which has no value, or neither
pub data Effect : Type 0 where
  Conflicts : Effect
  Forces : ℕ → Effect
  Loose : Effect

-- the effect of a clause with these open literals; a literal whose negation is taken as false has a value
abbrev pub effect_of_open : List ℕ → List ℕ → Effect
effect_of_open falsified [] = Conflicts
effect_of_open falsified (l ∷ []) = if has_literal falsified (opposite l) then Loose else Forces l
effect_of_open falsified (l ∷ m ∷ rest) = Loose

-- the effect of the clause that a hint names; a hint that names none is loose
abbrev pub effect_of : List ℕ → Option (List ℕ) → Effect
effect_of falsified (Some clause) = effect_of_open falsified (open_literals falsified clause)
effect_of falsified None = Loose

-- whether hints go on after an effect: after a conflict where they end, and else with the forced literal
abbrev pub goes_on : (ℕ → Bool) → Bool → Effect → Bool
goes_on next ends Conflicts = ends
goes_on next ends (Forces l) = next l
goes_on next ends Loose = false

-- each hint but the last names a clause that forces a literal, which is then true, and the last one a clause that is false
abbrev pub leads_to_conflict : (ℕ → Option (List ℕ)) → List ℕ → List ℕ → Bool
leads_to_conflict named falsified [] = false
leads_to_conflict named falsified (hint ∷ hints) =
    goes_on (λ l. leads_to_conflict named (falsified ++ opposite l ∷ []) hints) (length hints == 0) (effect_of falsified (named hint))

-- the clauses that entries learn, in order; the formula's clauses are numbered first, then these, and an entry that drops a clause takes no number
abbrev pub clauses_of : List Entry → List (List ℕ)
clauses_of [] = []
clauses_of (Learn clause hints ∷ entries) = clause ∷ clauses_of entries
clauses_of (Drop number ∷ entries) = clauses_of entries

-- whether an entry drops the clause with this number
abbrev pub drops : ℕ → Entry → Bool
drops number (Learn clause hints) = false
drops number (Drop dropped) = dropped == number

-- whether the clause with this number is kept after these entries: it is from its beginning until one of them drops it
abbrev pub is_kept_after : List Entry → ℕ → Bool
is_kept_after earlier number = not (list_any (drops number) earlier)

-- the clause that a number names after these entries, where it is kept
abbrev pub clause_kept : List (List ℕ) → List Entry → ℕ → Option (List ℕ)
clause_kept clauses earlier number = if is_kept_after earlier number then slice_get (clauses ++ clauses_of earlier) number else None

-- whether an entry follows from a formula with so many variables and these clauses, and from the entries before it:
-- a learned clause is over the formula's variables and follows by its hints, which name kept clauses; a clause that is dropped was kept
abbrev pub is_derived_after : ℕ → List (List ℕ) → List Entry → Option Entry → Bool
is_derived_after variables clauses earlier (Some (Learn clause hints)) = has_variables_below variables clause && leads_to_conflict (clause_kept clauses earlier) clause hints
is_derived_after variables clauses earlier (Some (Drop number)) = is_some (clause_kept clauses earlier number)
is_derived_after variables clauses earlier None = false

-- the entry with this number, counted from 0 over all entries, is derived
abbrev pub IsDerivedAt : ℕ → List (List ℕ) → List Entry → ℕ → Type 0
IsDerivedAt variables clauses log e = IsTrue (is_derived_after variables clauses (take e log) (slice_get log e))

-- each entry is derived
abbrev pub IsDerivation : ℕ → List (List ℕ) → List Entry → Type 0
IsDerivation variables clauses log = (e : ℕ) → e < length log → IsDerivedAt variables clauses log e

-- an entry learns the empty clause
abbrev pub learns_empty : Entry → Bool
learns_empty (Learn clause hints) = length clause == 0
learns_empty (Drop number) = false

-- there is a last entry, and it learns the empty clause
abbrev pub EndsEmpty : List Entry → Type 0
EndsEmpty log = IsSomeAnd (slice_get log (length log - 1)) (λ last. IsTrue (learns_empty last))

-- this entry is not derived, and each before it is
pub record IsFirstUnderived (variables : ℕ) (clauses : List (List ℕ)) (log : List Entry) (e : ℕ) : Type 0 where
  pub in_range : e < length log
  pub earlier : (k : ℕ) → k < e → IsDerivedAt variables clauses log k
  pub here : IsDerivedAt variables clauses log e → ⊥

-- a derivation from a formula with so many variables and these clauses, whose last entry learns the empty clause
pub record IsRefutation (variables : ℕ) (clauses : List (List ℕ)) (log : List Entry) : Type 0 where
  pub derived : IsDerivation variables clauses log
  pub ends_empty : EndsEmpty log
