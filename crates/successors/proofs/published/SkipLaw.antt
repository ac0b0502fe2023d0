-- What is passed over in a trie cannot run.
use Rattle.std.proofs.Common.{arith, ◌≡◌, ℕ, ◌+◌, ◌<◌, ◌≤◌, List, true, false, length, sym, subst, ◌∙◌, ◌⊎◌, inl, inr}
use Rattle.std.specs.Prelude.{slice_index}
use Rattle.std.proofs.lemmas.Bool.{cases_lt}
use Rattle.bit_sets.specs.Rows.{row_has}
use Rattle.gt_core.specs.Literal.{state_of, holds, all_hold, is_in}
use Rattle.gt_core.specs.Task.{Task, precondition}
use Rattle.gt_core.specs.Lawful.{is_task}
use Rattle.gt_core.specs.Execution.{Runs}
use Rattle.gt_core.proofs.published.Basics.{all_at, apart}
use Rattle.gt_core.proofs.published.Literals.{in_among}
use Rattle.gt_core.proofs.published.Within.{precondition_within}
use Rattle.state_store.specs.Packed.{unpacked, IsPacked}
use Rattle.successors.specs.Trie.{Branches, IsTrie, IsBefore}
use Rattle.successors.proofs.RowState.{hold_same}

-- one action more
pub before_more : (acts : List ℕ) (place act : ℕ) → act ≡ slice_index acts place → (a : ℕ) → IsBefore acts (place + 1) a → IsBefore acts place a ⊎ (a ≡ act)
before_more acts place act is a b = by (cases_lt b.0 place)
  where
    by : (b.0 < place) ⊎ (place ≤ b.0) → IsBefore acts place a ⊎ (a ≡ act)
    by (inl lt) = inl (b.0, lt, b.2)
    by (inr le) =
        let below = b.1 in
        let same : b.0 ≡ place = omega (arith, le, below) in
        inr (sym (subst (λ (p : ℕ). slice_index acts p ≡ a) same b.2) ∙ sym is)

pub before_less : (acts : List ℕ) (less more : ℕ) → less ≤ more → (a : ℕ) → IsBefore acts less a → IsBefore acts more a
before_less acts less more le a b = let lt = b.1 in (b.0, omega (arith, lt, le), b.2)

pub before_none : (acts : List ℕ) (a : ℕ) → IsBefore acts 0 a → ⊥
before_none acts a b = let lt = b.1 in omega (arith, lt)

module _ (task : Task) (lawful_task : is_task task ≡ true) (row : List ℕ) (is : IsPacked task.facts row) (t : Branches) (trie : IsTrie task t) (i : ℕ) (lt : i < length t.lits) (none : holds (row_has row) (slice_index t.lits i) ≡ false) where
  abbrev lit : ℕ
  lit = slice_index t.lits i

  cannot : (a p : ℕ) → slice_index t.acts p ≡ a → slice_index t.froms i ≤ p → p < slice_index t.froms (slice_index t.skips i) → Runs task (state_of (unpacked task.facts row)) a → ⊥
  cannot a p at le below runs =
      let needs : is_in (precondition task a) lit ≡ true = subst (λ (x : ℕ). is_in (precondition task x) lit ≡ true) at (trie.needs i lt p le below) in
      let can : all_hold (row_has row) (precondition task a) ≡ true = hold_same task lawful_task row is (precondition task a) (precondition_within task a lawful_task runs.action) ∙ runs.able in
      apart (holds (row_has row) lit) (all_at (holds (row_has row)) (precondition task a) lit can (in_among (precondition task a) lit needs)) none

  pub skipped : (a : ℕ) → IsBefore t.acts (slice_index t.froms (slice_index t.skips i)) a → IsBefore t.acts (slice_index t.froms i) a ⊎ (Runs task (state_of (unpacked task.facts row)) a → ⊥)
  skipped a b = elim (cases_lt b.0 (slice_index t.froms i)) [ inl before ↦ inl (b.0, before, b.2) | inr le ↦ inr (cannot a b.0 b.2 le b.1) ]
