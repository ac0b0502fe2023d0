-- Which two literals of a clause are not false for longest along a trail.
use Rattle.std.specs.Prelude.{◌≡◌, ℕ, ◌<◌, ◌≤◌, List, length, take, slice_index, nat_le}
use Rattle.clause_base.specs.Clause.{has_literal}
use Rattle.propagation.specs.declared.fall.Latest.{Latest}
use Rattle.propagation.specs.own.Added.{Outlasts}
use Rattle.propagation.specs.Pending.{is_free}

-- the length of the longest prefix of a trail in which a literal is not false, which is at most the number of variables
pub record IsFreeUntil (trail : List ℕ) (l variables until : ℕ) : Type 0 where
  pub lasts : (n : ℕ) → n ≤ length trail → is_free (has_literal (take n trail)) l ≡ nat_le n until
  pub within : until ≤ length trail
  pub short : until ≤ variables

-- two places of a clause: of its first so many literals the one at the first place is not false for longest, and of the others that
-- at the second
pub record AreLatest (trail clause : List ℕ) (variables n : ℕ) (two : Latest) : Type 0 where
  pub first_in : two.first < n
  pub second_in : two.second < n
  pub apart : two.second ≡ two.first → ⊥
  pub first_until : IsFreeUntil trail (slice_index clause two.first) variables two.first_until
  pub second_until : IsFreeUntil trail (slice_index clause two.second) variables two.second_until
  pub most : (p : ℕ) → p < n → Outlasts trail (slice_index clause two.first) (slice_index clause p)
  pub next : (p : ℕ) → p < n → (p ≡ two.first → ⊥) → Outlasts trail (slice_index clause two.second) (slice_index clause p)
