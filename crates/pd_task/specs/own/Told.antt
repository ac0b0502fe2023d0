-- What `read_pddl` answers.
use Rattle.std.specs.Prelude.{◌≡◌, Result, Err}
use Rattle.pd_model.specs.declared.which.Which.{Which}
use Rattle.pd_model.specs.declared.parts.Parts.{Parts}
use Rattle.pd_words.specs.declared.fault.ReadError.{ReadError}
use Rattle.pd_words.specs.declared.fault.ReadError.TheVariants as read
use Rattle.pd_task.specs.declared.error.PddlError.{PddlError}
use Rattle.pd_task.specs.declared.error.PddlError.TheVariants as errors
use Rattle.pd_task.specs.Reading.{told}

-- the error is the first cause; of want of memory nothing is said
abbrev pub IsTold : Result Parts PddlError → PddlError → Type 0
IsTold reading errors.Memory = Unit {0}
IsTold reading error = reading ≡ Err error

-- the fault with the file that has it, or want of memory
abbrev pub told_error : Which → ReadError → PddlError
told_error file read.Memory = errors.Memory
told_error file (read.Fault fault) = told file fault
