-- What words can ask for, and what the matches of a command give.
use Rattle.std.specs.Prelude.{ℕ, List, Option, Some, codes, if◌then◌else◌}
use Rattle.std.specs.Str.{bytes_eq}
use Rattle.clap.specs.Walk.{Text, Row}
use Rattle.requests.specs.Passed.{text_at, number_at}
use Rattle.requests.specs.declared.request.Stepping.{Stepping}
use Rattle.requests.specs.declared.request.Stepping.TheVariants.{Exists, All}
use Rattle.judge_top.specs.declared.command.Name.{Name}
use Rattle.judge_top.specs.declared.command.Name.TheVariants as name
use Rattle.judge_top.specs.declared.request.Request.{Request}
use Rattle.judge_top.specs.declared.request.Request.TheVariants as request

-- What is asked for, of a horizon; a file is given by its name.
pub data Seen : Type 0 where
  formulas : (domain problem : Text) → (horizon : ℕ) → Stepping → Seen
  judges : (domain problem : Text) → (horizon : ℕ) → (proof : Text) → Stepping → Seen
  models : (domain problem : Text) → (horizon : ℕ) → (model : Text) → Stepping → Seen

-- The kind of steps that a word names.
abbrev pub steps_of : Text → Stepping
steps_of text = if bytes_eq text (codes "all") then All else Exists

-- What a command's matches ask for.
abbrev pub seen_in : Name → List Row → Seen
seen_in name.Formula rows = formulas (text_at (codes "domain") rows) (text_at (codes "problem") rows) (number_at (codes "horizon") rows) (steps_of (text_at (codes "steps") rows))
seen_in name.Judge rows = judges (text_at (codes "domain") rows) (text_at (codes "problem") rows) (number_at (codes "horizon") rows) (text_at (codes "proof") rows) (steps_of (text_at (codes "steps") rows))
seen_in name.Model rows = models (text_at (codes "domain") rows) (text_at (codes "problem") rows) (number_at (codes "horizon") rows) (text_at (codes "model") rows) (steps_of (text_at (codes "steps") rows))

-- The same of a command that asks for something whatever its matches are, as each of these does.
abbrev pub some_in : Name → List Row → Option Seen
some_in name rows = Some (seen_in name rows)

-- A request of the code, by the names and the numbers in it.
abbrev pub seen : Request → Seen
seen (request.Formula d p h s) = formulas d.now p.now h s
seen (request.Judge d p h l s) = judges d.now p.now h l.now s
seen (request.Model d p h m s) = models d.now p.now h m.now s

-- The names of the domain and of the problem of a request.
abbrev pub domain_of : Seen → Text
domain_of (formulas d p h s) = d
domain_of (judges d p h l s) = d
domain_of (models d p h m s) = d

-- The name of the problem.
abbrev pub problem_of : Seen → Text
problem_of (formulas d p h s) = p
problem_of (judges d p h l s) = p
problem_of (models d p h m s) = p

-- The horizon of a request.
abbrev pub horizon_of : Seen → ℕ
horizon_of (formulas d p h s) = h
horizon_of (judges d p h l s) = h
horizon_of (models d p h m s) = h
