-- Numbers and literals where they stand.
use Rattle.std.specs.Prelude.{ℕ, List}
use Rattle.proof_log.specs.own.Number.{number_of, after_number}
use Rattle.proof_log.specs.own.Numbers.{numbers_of}
use Rattle.proof_log.specs.declared.numbers.Place.{Place}
use Rattle.proof_log.specs.declared.numbers.Place.TheVariants.{Bytes, Lits}
use Rattle.proof_log.specs.declared.literals.Form.{Form}
use Rattle.proof_log.specs.declared.literals.Form.TheVariants as form

-- the numbers at a place
abbrev pub numbers_at : Place → List ℕ
numbers_at (Bytes bytes left last) = numbers_of left last bytes.now
numbers_at (Lits lits) = lits.now

-- the numbers of bytes that begin with how many there are
abbrev pub counted_numbers : List ℕ → List ℕ
counted_numbers bytes = numbers_of (number_of bytes) 0 (after_number bytes)

-- the literals of a clause in their form
abbrev pub literals_in : Form → List ℕ
literals_in (form.Shared list) = list
literals_in (form.Bytes bytes) = counted_numbers bytes
