-- A number as bytes, seven bits a byte, the lowest first; each byte but the last has 128 more (LEB128).
use Rattle.std.specs.Prelude.{ℕ, zero, suc, ◌+◌, ◌-◌, ◌*◌, ◌/◌, ◌%◌, ◌^◌, List, [], ◌∷◌, nat_lt, if◌then◌else◌}

-- the bytes of a number that takes so many more than one at most
abbrev pub bytes_by : ℕ → ℕ → List ℕ
bytes_by zero n = n ∷ []
bytes_by (suc k) n = if nat_lt n 128 then n ∷ [] else (n % 128 + 128) ∷ bytes_by k (n / 128)

-- the bytes of a number below 2 ^ 64: ten at most
unfoldable pub bytes_of : ℕ → List ℕ
bytes_of n = bytes_by 9 n

-- the number that bytes begin with, and 0 where there are none
abbrev pub number_of : List ℕ → ℕ
number_of [] = 0
number_of (b ∷ bytes) = if nat_lt b 128 then b else (number_of bytes * 128 % 2 ^ 64 + (b - 128)) % 2 ^ 64

-- the bytes after it
abbrev pub after_number : List ℕ → List ℕ
after_number [] = []
after_number (b ∷ bytes) = if nat_lt b 128 then bytes else after_number bytes
