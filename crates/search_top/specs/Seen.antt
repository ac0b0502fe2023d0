-- What words can ask for, and what the matches of a command give.
use Rattle.std.specs.Prelude.{ℕ, ◌≤◌, List, [], ◌∷◌, Option, Some, None, codes, if◌then◌else◌}
use Rattle.std.specs.Str.{bytes_eq}
use Rattle.clap.specs.Walk.{Text, Row}
use Rattle.requests.specs.Passed.{text_at, texts_at, number_at}
use Rattle.search_top.specs.Limits.{most_count, most_memory}
use Rattle.search_top.specs.declared.command.Name.{Name}
use Rattle.search_top.specs.declared.command.Name.TheVariants as name
use Rattle.search_top.specs.declared.request.How.{How}
use Rattle.search_top.specs.declared.request.How.TheVariants.{Greedy, Least}
use Rattle.search_top.specs.declared.request.Format.{Format}
use Rattle.search_top.specs.declared.request.Format.TheVariants.{Blif, Aiger}
use Rattle.search_top.specs.declared.request.Request.{Request}
use Rattle.search_top.specs.declared.request.Request.TheVariants as request

-- What is asked for; a file is given by its name. A walk has a number of states and of megabytes.
pub data Seen : Type 0 where
  searches : (domain problem : Text) → How → (states memory : ℕ) → Seen
  nevers : (domain problem : Text) → Seen
  certifies : (domain problem certificate : Text) → Seen
  explores : (domain problem : Text) → (budget : ℕ) → Seen
  systems : (domain problem : Text) → Format → Seen
  formulates : (domain problem certificate : Text) → Seen
  refutes : (domain problem certificate proof : Text) → Seen

-- How a walk goes that a word names.
abbrev pub how_of : Text → How
how_of text = if bytes_eq text (codes "least") then Least else Greedy

-- The format that a word names.
abbrev pub format_of : Text → Format
format_of text = if bytes_eq text (codes "aiger") then Aiger else Blif

-- What `never` asks for of a domain and of the files after it: a problem, or a problem and a certificate.
abbrev pub never_of : Text → List Text → Option Seen
never_of domain (problem ∷ []) = Some (nevers domain problem)
never_of domain (problem ∷ certificate ∷ []) = Some (certifies domain problem certificate)
never_of domain _ = None

-- What a command's matches ask for; nothing where they are too many.
abbrev pub seen_in : Name → List Row → Option Seen
seen_in name.Search rows = Some (searches (text_at (codes "domain") rows) (text_at (codes "problem") rows) (how_of (text_at (codes "how") rows)) (number_at (codes "states") rows) (number_at (codes "memory") rows))
seen_in name.NeverSearch rows = Some (explores (text_at (codes "domain") rows) (text_at (codes "problem") rows) (number_at (codes "budget") rows))
seen_in name.System rows = Some (systems (text_at (codes "domain") rows) (text_at (codes "problem") rows) (format_of (text_at (codes "format") rows)))
seen_in name.NeverFormula rows = Some (formulates (text_at (codes "domain") rows) (text_at (codes "problem") rows) (text_at (codes "certificate") rows))
seen_in name.NeverJudge rows = Some (refutes (text_at (codes "domain") rows) (text_at (codes "problem") rows) (text_at (codes "certificate") rows) (text_at (codes "proof") rows))
seen_in name.Never rows = never_of (text_at (codes "domain") rows) (texts_at (codes "problem") rows)

-- A request of the code, by the names and the numbers in it.
abbrev pub seen : Request → Seen
seen (request.Search d p how states memory) = searches d.now p.now how states memory
seen (request.Never d p) = nevers d.now p.now
seen (request.Certify d p c) = certifies d.now p.now c.now
seen (request.NeverSearch d p budget) = explores d.now p.now budget
seen (request.System d p format) = systems d.now p.now format
seen (request.NeverFormula d p c) = formulates d.now p.now c.now
seen (request.NeverJudge d p c l) = refutes d.now p.now c.now l.now

-- The names of the files that are taken from the shelf, in the order of the words.
abbrev pub names_of : Seen → List Text
names_of (searches d p how states memory) = d ∷ p ∷ []
names_of (nevers d p) = d ∷ p ∷ []
names_of (certifies d p c) = d ∷ p ∷ c ∷ []
names_of (explores d p budget) = d ∷ p ∷ []
names_of (systems d p format) = d ∷ p ∷ []
names_of (formulates d p c) = d ∷ p ∷ c ∷ []
names_of (refutes d p c l) = d ∷ p ∷ c ∷ []

-- The numbers of a request are in their ranges.
abbrev pub IsSized : Seen → Type 0
IsSized (searches d p how states memory) = ((1 ≤ states) × (states ≤ most_count)) × ((1 ≤ memory) × (memory ≤ most_memory))
IsSized _ = Unit {0}
