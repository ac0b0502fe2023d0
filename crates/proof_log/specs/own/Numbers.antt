-- A list of numbers below 2 ^ 32 as bytes: how far each is from the one before it.
use Rattle.std.specs.Prelude.{ℕ, zero, suc, ◌+◌, ◌-◌, ◌*◌, ◌/◌, ◌%◌, ◌==◌, List, [], ◌∷◌, ◌++◌, nat_le, if◌then◌else◌}
use Rattle.proof_log.specs.own.Number.{bytes_of, number_of, after_number}

-- the step from one number to another: upwards an even number, downwards an odd one
abbrev pub step_to : ℕ → ℕ → ℕ
step_to last n = if nat_le last n then 2 * (n - last) else 2 * (last - n) - 1

-- the number that a step leads to
abbrev pub step_from : ℕ → ℕ → ℕ
step_from last step = if step % 2 == 0 then (last + step / 2) % 4294967296 else last - (step / 2 + 1)

-- the bytes of numbers, where this one stands before them
abbrev pub steps_of : ℕ → List ℕ → List ℕ
steps_of last [] = []
steps_of last (n ∷ numbers) = bytes_of (step_to last n) ++ steps_of n numbers

-- so many numbers that bytes begin with, where this one stands before them
abbrev pub numbers_of : ℕ → ℕ → List ℕ → List ℕ
numbers_of zero last bytes = []
numbers_of (suc k) last bytes = step_from last (number_of bytes) ∷ numbers_of k (step_from last (number_of bytes)) (after_number bytes)

-- the bytes after so many numbers
abbrev pub after_numbers : ℕ → List ℕ → List ℕ
after_numbers zero bytes = bytes
after_numbers (suc k) bytes = after_numbers k (after_number bytes)
