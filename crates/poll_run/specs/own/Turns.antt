-- Futures that are polled in turn.
use Rattle.std.specs.Global.{Vec}
use Rattle.std.specs.declared.alloc.AllocError.{AllocError}
use Rattle.std.specs.Prelude.{Result, IfOk, ℕ, ◌<◌, ◌≤◌, ◌+◌, ◌-◌, List, [], ◌∷◌, length, slice_index_or, Contains}
use Rattle.std.specs.List.{All, AllByRecursion, AllZip}
use Rattle.futures.specs.Joined.{IsLive, MayGive}
use Rattle.futures.specs.declared.future.made.maybe_done.MaybeDone.{MaybeDone}
use Rattle.futures.specs.declared.future.made.maybe_done.MaybeDone.TheVariants.{Future, Done, Gone}
use Rattle.poll_run.specs.declared.in_turns.InTurns.{InTurns}

-- each place of a list of so many items is among the turns
abbrev pub AreAllPlaces : ℕ → List ℕ → Type 0
AreAllPlaces n turns = (place : ℕ) → place < n → Contains turns place

module _ {F A : Type 0} where
  -- what each of the new slots may give, that of the old may give
  abbrev pub Narrows : (F → A → Type 0) → List (MaybeDone F A) → List (MaybeDone F A) → Type 0
  Narrows gives old new = (ends : List A) → AllZip (MayGive gives) new ends → AllZip (MayGive gives) old ends

  -- each future may be polled, and each turn is a place of the list
  abbrev pub AreLive : (F → Type 0) → InTurns F A → Type 0
  AreLive can_poll all = AllByRecursion (IsLive can_poll) all.slots.items × All (λ t. t < length all.slots.items) all.turns.now

  -- an end of each future, in order
  abbrev pub GivesAll : (F → A → Type 0) → InTurns F A → List A → Type 0
  GivesAll gives all ends = AllZip (MayGive gives) all.slots.items ends

  -- the same of ends that want of memory may keep from being given
  abbrev pub MayEnd : (F → A → Type 0) → InTurns F A → Result (Vec A) AllocError → Type 0
  MayEnd gives all result = IfOk result (λ ends. GivesAll gives all ends.items)

  -- how many more polls of a slot are left: that in which its future is ready, and those before it in which it is pending
  abbrev pub slot_left : (F → ℕ) → MaybeDone F A → ℕ
  slot_left polls_left (Future f) = polls_left f + 1
  slot_left polls_left (Done x) = 0
  slot_left polls_left Gone = 0

  -- how many polls are left of all futures together
  abbrev pub slots_left : (F → ℕ) → List (MaybeDone F A) → ℕ
  slots_left polls_left [] = 0
  slots_left polls_left (s ∷ ss) = slot_left polls_left s + slots_left polls_left ss

  -- no more polls are left to the slot at a place than before, and fewer by these, unless there were none
  abbrev pub Falls : (F → ℕ) → List (MaybeDone F A) → List (MaybeDone F A) → (place by : ℕ) → Type 0
  Falls polls_left old new place by =
      (d e : MaybeDone F A) → place < length old → slot_left polls_left (slice_index_or new place d) ≤ slot_left polls_left (slice_index_or old place e) - by

  -- fewer polls are left to the slot at each of these places, unless there were none, and no more to any other
  abbrev pub FallAt : (F → ℕ) → List (MaybeDone F A) → List (MaybeDone F A) → List ℕ → Type 0
  FallAt polls_left old new turns = ((place : ℕ) → Falls polls_left old new place 0) × ((turn : ℕ) → turn < length turns → Falls polls_left old new (slice_index_or turns turn 0) 1)
