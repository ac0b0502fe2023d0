-- Each command can be parsed, and gives its numbers.
use Rattle.std.proofs.Common.{◌≡◌, ℕ, true, false, List, map, Some, slice_get, refl, codes}
use Rattle.clap.specs.Walk.{Row, Rule, Text, arg_by_id}
use Rattle.clap.specs.ValueTests.{accepts}
use Rattle.clap.specs.declared.builder.value_parser.ValueParser.{ValueParser}
use Rattle.requests.specs.declared.command.Name.{Name}
use Rattle.requests.specs.declared.command.Name.TheVariants.{Plan, Check, Ground, Order, Gen, Prove, Verify, Batch}
use Rattle.requests.specs.declared.command.Readers.{Readers}
use Rattle.requests.specs.Arguments.{number}
use Rattle.requests.specs.Command.{AreReaders, command_of, race_options, workers_option}
use Rattle.requests.specs.Fit.{IsFit}
use Rattle.requests.specs.Passed.{Passed}
use Rattle.requests.specs.own.Ranges.{Has, HasNumbers, HasSettings}
use Rattle.requests.proofs.published.ListReaders.{one_passes}
use Rattle.requests.proofs.published.Ranges.{number_in, found_each}
use Rattle.horizon_rates.specs.Limits.{last_horizon}

-- the word for the first list of horizons, which is the default, passes
list_passes : (by : Readers) → AreReaders by → accepts false by.algorithms (codes "a") ≡ true
list_passes by are = one_passes _ by.algorithms (codes "a") are.algorithms refl

pub fit : (by : Readers) → AreReaders by → (name : Name) → IsFit (command_of by name)
fit by are (Plan stepping) = record { simple = refl; leaf = refl; defaults = rw (list_passes by are) refl; values = refl }
fit by are Check = record { simple = refl; leaf = refl; defaults = refl; values = refl }
fit by are Ground = record { simple = refl; leaf = refl; defaults = refl; values = refl }
fit by are Order = record { simple = refl; leaf = refl; defaults = refl; values = refl }
fit by are Gen = record { simple = refl; leaf = refl; defaults = rw (list_passes by are, one_passes _ by.shows (codes "none") are.shows refl) refl; values = refl }
fit by are Prove = record { simple = refl; leaf = refl; defaults = refl; values = refl }
fit by are Verify = record { simple = refl; leaf = refl; defaults = refl; values = refl }
fit by are Batch = record { simple = refl; leaf = refl; defaults = rw (list_passes by are, one_passes _ by.turns (codes "forward") are.turns refl) refl; values = refl }

-- the numbers of a race, where its options are among the arguments
race_of : (algorithms : ValueParser) (rules : List Rule) (rows : List Row) → Passed rules rows
    → map (λ (r : Rule). arg_by_id rules r.id) (race_options algorithms) ≡ map (λ r. Some r) (race_options algorithms) → HasNumbers rows
race_of algorithms rules rows passed all =
    let each = λ (k low high : ℕ) (name default : Text) (at : slice_get (race_options algorithms) k ≡ Some (number name low high default)).
    number_in rules rows passed name (number name low high default) low high (found_each rules (race_options algorithms) all k _ at) refl in
    record {
      width = each 1 1 16 (codes "width") (codes "4") refl;
      quota = each 2 1 10000 (codes "quota") (codes "50") refl;
      percent = each 3 1 99 (codes "percent") (codes "50") refl;
      growth = each 4 101 400 (codes "growth") (codes "150") refl;
      start = each 5 0 last_horizon (codes "start") (codes "0") refl;
      max = each 6 0 last_horizon (codes "max-horizon") (codes "64") refl;
      budget = each 7 0 1000000 (codes "budget") (codes "100000") refl;
      slice = each 8 1 10000 (codes "slice") (codes "10") refl;
    }

settings_of : (algorithms : ValueParser) (rules : List Rule) (rows : List Row) → Passed rules rows
    → map (λ (r : Rule). arg_by_id rules r.id) (race_options algorithms) ≡ map (λ r. Some r) (race_options algorithms)
    → arg_by_id rules (codes "workers") ≡ Some workers_option → HasSettings rows
settings_of algorithms rules rows passed all workers = (race_of algorithms rules rows passed all, number_in rules rows passed (codes "workers") workers_option 1 16 workers refl)

pub numbers_of : (by : Readers) (name : Name) (rows : List Row) → Passed (command_of by name).top.rules rows → Has name rows
numbers_of by (Plan stepping) rows passed = settings_of by.algorithms (command_of by (Plan stepping)).top.rules rows passed refl refl
numbers_of by Check rows passed = tt
numbers_of by Ground rows passed = tt
numbers_of by Order rows passed = tt
numbers_of by Gen rows passed =
    let rules = (command_of by Gen).top.rules in
    (number_in rules rows passed (codes "number") _ 1 64 refl refl, settings_of by.algorithms rules rows passed refl refl)
numbers_of by Prove rows passed =
    let each = number_in (command_of by Prove).top.rules rows passed in
    (each (codes "horizon") _ 0 last_horizon refl refl, each (codes "budget") _ 0 1000000 refl refl)
numbers_of by Verify rows passed = tt
numbers_of by Batch rows passed = race_of by.algorithms (command_of by Batch).top.rules rows passed refl
