-- What a tape did in a run, and the verdict on the proof that it gave.
use Rattle.std.specs.Prelude.{◌≡◌, ◌≢◌, ℕ, List, [], ◌∷◌, ◌++◌}
use Rattle.clause_base.specs.Formula.{Cnf}
use Rattle.pl_io.specs.Outside.{Rose}
use Rattle.pl_io.specs.Tape as tapes
use Rattle.pl_io.specs.declared.tape.Reading.TheVariants.{Lost}
use Rattle.pl_io.specs.declared.outside.TakeError.{TakeError}
use Rattle.pl_io.specs.declared.outside.TakeError.TheVariants as takes
use Rattle.lrat_judge.specs.Verdicts.{verdict_of}
use Rattle.lrat_judge.specs.declared.verdict.Verdict.{Verdict}
use Rattle.plan_endings.specs.declared.ending.Ending.{Ending}
use Rattle.plan_endings.specs.declared.ending.Ending.TheVariants.{ReadFault}
use Rattle.plan_endings.specs.declared.ending.File.TheVariants.{Proof}
use Rattle.plan_endings.specs.declared.stop.Stop.{Stop}
use Rattle.plan_endings.specs.declared.stop.Stop.TheVariants.{Ends, Memory}

-- What a tape did in a run: the counts of its faults before it and after it, and what it had opened and handed over.
pub record TapeRun : Type 0 where
  pub faults : ℕ
  pub rises : ℕ
  pub before : tapes.Given
  pub given : tapes.Given

-- the record of these counts and of what was handed over
abbrev pub tape_run : ℕ → ℕ → tapes.Given → tapes.Given → TapeRun
tape_run faults rises before given = record { faults = faults; rises = rises; before = before; given = given }

-- a run opened a file of this name, once, and no other
abbrev pub HasOpened : TapeRun → List ℕ → Type 0
HasOpened tape name = tape.given.opened ≡ tape.before.opened ++ name ∷ []

-- the ending tells that the proof could not be read, and the count of a tape's faults rose
abbrev pub IsUnread : ℕ → ℕ → Ending → Type 0
IsUnread before now end = (end ≡ ReadFault Proof) × Rose before now

-- the stop of a tape that gave nothing
abbrev pub stop_of : TakeError → Stop
stop_of takes.Failed = Ends (ReadFault Proof)
stop_of takes.Memory = Memory

-- no call that read the file failed, and the verdict is the one on the bytes of the whole file, whatever these are past those that were
-- handed over, for a formula
pub record IsVerdictOn (formula : Cnf) (given : tapes.Given) (verdict : Verdict) : Type 0 where
  pub sound : given.reading ≢ Lost
  pub is : (file : List ℕ) → tapes.IsFileOf given file → verdict ≡ verdict_of formula file
