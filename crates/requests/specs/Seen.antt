-- What words can ask for, and what the matches of a command give.
use Rattle.std.specs.Prelude.{◌≡◌, ◌≤◌, ◌&&◌, ⊤, ℕ, Option, Some, None, List, [], ◌∷◌, codes, length, nat_le, if◌then◌else◌}
use Rattle.std.specs.Str.{bytes_eq}
use Rattle.clap.specs.Walk.{Text, Row, texts}
use Rattle.requests.specs.Passed.{text_at, texts_at, number_at}
use Rattle.horizon_rates.specs.declared.rates.Algorithm.{Algorithm}
use Rattle.horizon_rates.specs.declared.rates.Algorithm.TheVariants.{A, B, C}
use Rattle.horizon_rates.specs.declared.settings.Settings.{Settings}
use Rattle.plan_gen.specs.declared.Kind.{Kind}
use Rattle.plan_gen.specs.declared.Kind.TheVariants.{Corridor, Gripper}
use Rattle.requests.specs.declared.command.Name.{Name}
use Rattle.requests.specs.declared.command.Name.TheVariants as name
use Rattle.requests.specs.declared.request.Show.{Show}
use Rattle.requests.specs.declared.request.Show.TheVariants as shows
use Rattle.requests.specs.declared.request.Stepping.{Stepping}
use Rattle.requests.specs.declared.request.Stepping.TheVariants as steppings
use Rattle.requests.specs.declared.request.Turns.{Turns}
use Rattle.requests.specs.declared.request.Turns.TheVariants as turnings
use Rattle.requests.specs.declared.request.Request.{Request}
use Rattle.requests.specs.declared.request.Request.TheVariants as request
use Rattle.horizon_rates.specs.Limits.{last_horizon}

-- The settings of a race, as numbers; their ranges are those of the readers.
pub record Numbers : Type 0 where
  pub algorithm : Algorithm
  pub width : ℕ
  pub quota : ℕ
  pub percent : ℕ
  pub growth : ℕ
  pub start : ℕ
  pub max : ℕ
  pub budget : ℕ
  pub slice : ℕ
  pub workers : ℕ

-- What is asked for; a file is given by its name.
pub data Seen : Type 0 where
  plans_by : Stepping → (domain problem : Text) → Numbers → Seen
  checks : (domain problem plan : Text) → Seen
  grounds : (domain problem : Text) → Seen
  orders : (domain problem : Text) → Seen
  generates : Kind → ℕ → Numbers → Show → Seen
  proves : (domain problem : Text) → (horizon budget : ℕ) → Seen
  verifies : (domain problem certificate : Text) → Seen
  batches : (domain : Text) → (problems : List Text) → Numbers → Turns → Seen

-- A plan of which some order of each step's members runs, as `plan` gives it.
abbrev pub plans : (domain problem : Text) → Numbers → Seen
plans domain problem numbers = plans_by steppings.Exists domain problem numbers

-- A plan of which every order of each step's members runs, as `plan-all` gives it.
abbrev pub plans_all : (domain problem : Text) → Numbers → Seen
plans_all domain problem numbers = plans_by steppings.All domain problem numbers

-- The values of the lists of words.
abbrev pub algorithm_of : Text → Algorithm
algorithm_of text = if bytes_eq text (codes "b") then B else if bytes_eq text (codes "c") then C else A

-- The kind that a word names.
abbrev pub kind_of : Text → Kind
kind_of text = if bytes_eq text (codes "gripper") then Gripper else Corridor

-- What a word asks `gen` to show.
abbrev pub show_of : Text → Show
show_of text = if bytes_eq text (codes "domain") then shows.Domain else if bytes_eq text (codes "problem") then shows.Problem else shows.None

-- The order of turns that a word names.
abbrev pub turns_of : Text → Turns
turns_of text = if bytes_eq text (codes "backward") then turnings.Backward else turnings.Forward

-- The settings that a command's matches give, with so many workers.
abbrev pub numbers_with : ℕ → List Row → Numbers
numbers_with workers rows = record {
  algorithm = algorithm_of (text_at (codes "alg") rows);
  width = number_at (codes "width") rows;
  quota = number_at (codes "quota") rows;
  percent = number_at (codes "percent") rows;
  growth = number_at (codes "growth") rows;
  start = number_at (codes "start") rows;
  max = number_at (codes "max-horizon") rows;
  budget = number_at (codes "budget") rows;
  slice = number_at (codes "slice") rows;
  workers = workers;
}

-- The settings that a command's matches give.
abbrev pub numbers_in : List Row → Numbers
numbers_in rows = numbers_with (number_at (codes "workers") rows) rows

-- What a command's matches ask for.
abbrev pub seen_in : Name → List Row → Seen
seen_in (name.Plan stepping) rows = plans_by stepping (text_at (codes "domain") rows) (text_at (codes "problem") rows) (numbers_in rows)
seen_in name.Check rows = checks (text_at (codes "domain") rows) (text_at (codes "problem") rows) (text_at (codes "plan") rows)
seen_in name.Ground rows = grounds (text_at (codes "domain") rows) (text_at (codes "problem") rows)
seen_in name.Order rows = orders (text_at (codes "domain") rows) (text_at (codes "problem") rows)
seen_in name.Gen rows = generates (kind_of (text_at (codes "kind") rows)) (number_at (codes "number") rows) (numbers_in rows) (show_of (text_at (codes "show") rows))
seen_in name.Prove rows = proves (text_at (codes "domain") rows) (text_at (codes "problem") rows) (number_at (codes "horizon") rows) (number_at (codes "budget") rows)
seen_in name.Verify rows = verifies (text_at (codes "domain") rows) (text_at (codes "problem") rows) (text_at (codes "certificate") rows)
seen_in name.Batch rows = batches (text_at (codes "domain") rows) (texts_at (codes "problem") rows) (numbers_with 1 rows) (turns_of (text_at (codes "turns") rows))

-- A request that is none of several problems, or one of 1 to 16 of them.
abbrev pub counted : Seen → Option Seen
counted (batches d ps n t) = if nat_le 1 (length ps) && nat_le (length ps) 16 then Some (batches d ps n t) else None
counted request = Some request

-- Settings of the code, as numbers.
abbrev pub numbers : Settings → Numbers
numbers s = record {
  algorithm = s.rates.algorithm;
  width = s.rates.width;
  quota = s.rates.quota;
  percent = s.rates.percent;
  growth = s.rates.growth;
  start = s.rates.start;
  max = s.rates.max;
  budget = s.budget;
  slice = s.slice;
  workers = s.workers;
}

-- Settings with the same numbers are the same.
abbrev pub NumbersAreSettings : Type 0
NumbersAreSettings = (s t : Settings) → numbers s ≡ numbers t → s ≡ t

-- A request of the code, by the names and the numbers in it.
abbrev pub seen : Request → Seen
seen (request.Plan stepping d p s) = plans_by stepping d.now p.now (numbers s)
seen (request.Check d p l) = checks d.now p.now l.now
seen (request.Ground d p) = grounds d.now p.now
seen (request.Order d p) = orders d.now p.now
seen (request.Gen k n s w) = generates k n (numbers s) w
seen (request.Prove d p h b) = proves d.now p.now h b
seen (request.Verify d p c) = verifies d.now p.now c.now
seen (request.Batch d ps s t) = batches d.now (texts ps) (numbers s) t

-- The names of the files that a request takes, in the order of the words.
abbrev pub files_of : Seen → List Text
files_of (plans_by stepping d p n) = d ∷ p ∷ []
files_of (checks d p l) = d ∷ p ∷ l ∷ []
files_of (grounds d p) = d ∷ p ∷ []
files_of (orders d p) = d ∷ p ∷ []
files_of (generates k n s w) = []
files_of (proves d p h b) = d ∷ p ∷ []
files_of (verifies d p c) = d ∷ p ∷ c ∷ []
files_of (batches d ps n t) = d ∷ ps

-- What is no setting of a race is in its range: the size of a generated task, a horizon and its budget, and how many
-- problems there are.
abbrev pub IsSized : Seen → Type 0
IsSized (generates k n s w) = (1 ≤ n) × (n ≤ 64)
IsSized (proves d p h b) = (h ≤ last_horizon) × (b ≤ 1000000)
IsSized (batches d ps n t) = (1 ≤ length ps) × (length ps ≤ 16)
IsSized _ = ⊤
