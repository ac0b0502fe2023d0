-- What a line of a proof comes to, after the lines before it.
use Rattle.std.specs.Prelude.{ℕ, ◌&&◌, not, List, [], ◌∷◌, ◌++◌, length, nat_lt, Bool, Option, Some, None, option_map, option_and_then, if◌then◌else◌}
use Rattle.std.specs.List.{range_with_len, list_all}
use Rattle.clause_base.specs.Clause.{clause_of}
use Rattle.clause_base.specs.Formula.{Cnf}
use Rattle.clause_base.specs.Derivation.{is_derived_after}
use Rattle.clause_base.specs.declared.log.Entry.{Entry}
use Rattle.clause_base.specs.declared.log.Entry.TheVariants.{Learn, Drop}
use Rattle.lrat_judge.specs.Ids.{place_of}
use Rattle.sat_text.specs.LratLine.{LineView, codes_of, plain_ids, is_foreign}

-- what is known after some lines: the ids of the clauses, the formula's first, and then of those that were added, and the entries so far
pub record Known : Type 0 where
  pub ids : List ℕ
  pub log : List Entry

-- what is known before the first line: the formula's clauses have the ids from 1 on
abbrev pub known_first : Cnf → Known
known_first formula = record { ids = range_with_len 1 (length formula.clauses); log = [] }

-- the number of the clause that an id names; numbers have 32 bits
abbrev pub number_named : List ℕ → ℕ → Option ℕ
number_named ids id = option_and_then (λ n. if nat_lt n 4294967296 then Some n else None) (place_of ids id)

-- the numbers of the clauses that ids name
abbrev pub numbers_named : List ℕ → List ℕ → Option (List ℕ)
numbers_named ids [] = Some []
numbers_named ids (id ∷ more) = option_and_then (λ n. option_map (λ ns. n ∷ ns) (numbers_named ids more)) (number_named ids id)

-- an id is above 0 and above all of these
abbrev pub rises : ℕ → List ℕ → Bool
rises id ids = nat_lt 0 id && list_all (λ k. nat_lt k id) ids

-- entries with one more, where it is derived from the formula and them
unfoldable pub with_entry : Cnf → List Entry → Entry → Option (List Entry)
with_entry formula log entry = if is_derived_after formula.variables formula.clauses log (Some entry) then Some (log ++ entry ∷ []) else None

-- what is known with this clause more, where the line's id is above all others, its hints name clauses, and they lead to a conflict
unfoldable pub with_lawful : Cnf → Known → LineView → List ℕ → Option Known
with_lawful formula known line clause =
    if not (rises line.id known.ids) then None
    else option_and_then (λ hints. option_map (λ log. record { ids = known.ids ++ line.id ∷ []; log = log }) (with_entry formula known.log (Learn clause hints))) (numbers_named known.ids (plain_ids line.hints))

-- the same with the clause of these literals; a tautology is always true, and is passed over: its id names no clause
abbrev pub with_literals : Cnf → Known → LineView → Option (List ℕ) → Option Known
with_literals formula known line None = Some known
with_literals formula known line (Some clause) = with_lawful formula known line clause

-- the same with the clause of a line
unfoldable pub with_clause : Cnf → Known → LineView → Option Known
with_clause formula known line = if is_foreign line then None else with_literals formula known line (clause_of (codes_of line.literals))

-- entries with one more for each of these ids, which drops the clause that it names, where that is kept
abbrev pub without : Cnf → List ℕ → List ℕ → List Entry → Option (List Entry)
without formula table [] log = Some log
without formula table (id ∷ ids) log = option_and_then (λ n. option_and_then (without formula table ids) (with_entry formula log (Drop n))) (number_named table id)

-- what is known after a line, where it follows
unfoldable pub follow : Cnf → Known → LineView → Option Known
follow formula known line =
    if line.deletes then option_map (λ log. record { ids = known.ids; log = log }) (without formula known.ids (plain_ids line.hints) known.log) else with_clause formula known line
