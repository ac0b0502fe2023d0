-- What a clause is that has literals which are not false, and a propagator as its clients see it.
use Rattle.std.specs.Prelude.{◌≡◌, ℕ, ◌+◌, ◌<◌, ◌≤◌, List, Bool, true, false, not, Option, MatchOption, length, nat_le, slice_index}
use Rattle.clause_base.specs.Literal.{opposite}
use Rattle.clause_base.specs.Clause.{has_literal}
use Rattle.cdcl_defs.specs.declared.trail.Assigned.{Assigned}
use Rattle.cdcl_defs.specs.State.{clause_at}
use Rattle.cdcl_defs.specs.Pending.{open_ones, is_pending_in}

-- a literal is not false, where these are true
abbrev pub is_free : (ℕ → Bool) → ℕ → Bool
is_free on l = not (on (opposite l))

-- of a clause the literals at these places, or all, are false but for this one
abbrev pub AreFalseFrom : List ℕ → List ℕ → ℕ → ℕ → ℕ → Type 0
AreFalseFrom trail clause skipped low high =
    (p : ℕ) → low ≤ p → p < high → (slice_index clause p ≡ skipped → ⊥) → is_free (has_literal trail) (slice_index clause p) ≡ false

-- all literals of a clause are false but this one
abbrev pub AreFalseBut : List ℕ → List ℕ → ℕ → Type 0
AreFalseBut trail clause skipped =
    (p : ℕ) → p < length clause → (slice_index clause p ≡ skipped → ⊥) → is_free (has_literal trail) (slice_index clause p) ≡ false

-- among literals that go up by a number, one at a place from `low` up to `high` is not false and not the skipped one, or there is none
abbrev pub IsSought : List ℕ → List ℕ → ℕ → ℕ → ℕ → ℕ → Option ℕ → Type 0
IsSought trail lits up skipped low high result =
    MatchOption result
    ((p : ℕ) → low ≤ p → p < high → (up + slice_index lits p ≡ skipped → ⊥) → is_free (has_literal trail) (up + slice_index lits p) ≡ false)
    (λ p. (low ≤ p) × (p < high) × (up + slice_index lits p ≡ skipped → ⊥) × (is_free (has_literal trail) (up + slice_index lits p) ≡ true))

-- a clause has two literals at least that are not false
abbrev pub has_two_free : (ℕ → Bool) → List ℕ → Bool
has_two_free on clause = not (nat_le (length (open_ones on clause)) 1)

-- the clause with a number is kept and pending on a trail of literals
abbrev pub is_pending_on : List (List ℕ) → List Bool → List ℕ → ℕ → Bool
is_pending_on clauses kept trail k = is_pending_in clauses kept (has_literal trail) k

-- the clauses by number, which of them are kept, and the entries of the trail, oldest first
pub record PropagatorView : Type 0 where
  pub variables : ℕ
  pub clauses : List (List ℕ)
  pub kept : List Bool
  pub entries : List Assigned

-- the clause that forced an entry has its literal
abbrev pub HasOwn : List (List ℕ) → Assigned → Type 0
HasOwn clauses a = MatchOption a.reason (Unit {0}) (λ n. has_literal (clause_at clauses n) a.literal ≡ true)
