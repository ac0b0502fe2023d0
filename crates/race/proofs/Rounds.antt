use Rattle.std.proofs.Common.{arith, ◌≡◌, ℕ, zero, suc, ◌+◌, ◌-◌, ◌≤◌, sym, ap, ◌∙◌}
use Rattle.race.specs.Input.{RaceInput}
use Rattle.race.specs.Race.{Stage, On, round, next_stage, after_rounds}
use Rattle.race.specs.State.{RaceState, start}

-- one more round
pub after-next : (input : RaceInput) (k : ℕ) (race : RaceState) → after_rounds input k ≡ On race → after_rounds input (k + 1) ≡ round input race
unfolding after_rounds
after-next input k race e = let n : k + 1 ≡ suc k = omega arith in ap (after_rounds input) n ∙ ap (next_stage input) e

stays : (input : RaceInput) (k j : ℕ) (s : Stage) → after_rounds input k ≡ s → next_stage input s ≡ s → after_rounds input (j + k) ≡ s
unfolding after_rounds
stays input k zero s e f = let n : 0 + k ≡ k = omega arith in ap (after_rounds input) n ∙ e
stays input k (suc j) s e f =
    let n : suc j + k ≡ suc (j + k) = omega arith in
    ap (after_rounds input) n ∙ (ap (next_stage input) (stays input k j s e f) ∙ f)

-- a race that ended by some round has that end
pub ends-by : (input : RaceInput) (k n : ℕ) (s : Stage) → after_rounds input k ≡ s → next_stage input s ≡ s → k ≤ n → after_rounds input n ≡ s
ends-by input k n s e f l = let m : n ≡ (n - k) + k = omega arith in ap (after_rounds input) m ∙ stays input k (n - k) s e f

pub at-first : (input : RaceInput) (race : RaceState) → race ≡ start → after_rounds input 0 ≡ On race
unfolding after_rounds
at-first input race e = ap (λ (r : RaceState). On r) (sym e)
