-- Each command can be parsed, and gives its horizon.
use Rattle.std.proofs.Common.{List, refl, codes}
use Rattle.clap.specs.Walk.{Row}
use Rattle.clap.specs.Takes.{takes}
use Rattle.clap.specs.declared.builder.value_parser.ValueParser.{ValueParser}
use Rattle.requests.specs.Arguments.{TakesWords}
use Rattle.requests.specs.Fit.{IsFit}
use Rattle.requests.specs.Passed.{HasNumber, Passed}
use Rattle.requests.specs.Same.{IsSame}
use Rattle.requests.proofs.published.ListReaders.{one_passes, norm_lists}
use Rattle.requests.proofs.published.Ranges.{number_in}
use Rattle.judge_top.specs.declared.command.Name.{Name}
use Rattle.judge_top.specs.declared.command.Name.TheVariants.{Formula, Judge, Model}
use Rattle.judge_top.specs.Command.{command_of, step_words, steps_list}
use Rattle.horizon_rates.specs.Limits.{last_horizon}

pub fit : (by : ValueParser) → TakesWords step_words by → (name : Name) → IsFit (command_of by name)
fit by takes Formula = let e = one_passes step_words by (codes "exists") takes refl in record { simple = refl; leaf = refl; defaults = rw e refl; values = refl }
fit by takes Judge = let e = one_passes step_words by (codes "exists") takes refl in record { simple = refl; leaf = refl; defaults = rw e refl; values = refl }
fit by takes Model = let e = one_passes step_words by (codes "exists") takes refl in record { simple = refl; leaf = refl; defaults = rw e refl; values = refl }

pub horizon_in : (by : ValueParser) (name : Name) (rows : List Row) → Passed (command_of by name).top.rules rows → HasNumber 0 last_horizon (codes "horizon") rows
horizon_in by Formula rows passed = number_in (command_of by Formula).top.rules rows passed (codes "horizon") _ 0 last_horizon refl refl
horizon_in by Judge rows passed = number_in (command_of by Judge).top.rules rows passed (codes "horizon") _ 0 last_horizon refl refl
horizon_in by Model rows passed = number_in (command_of by Model).top.rules rows passed (codes "horizon") _ 0 last_horizon refl refl

-- any reader of the kinds of steps makes the same commands, but for where the list lies
pub as_list : (by : ValueParser) → TakesWords step_words by → (name : Name) → IsSame (command_of by name) (command_of steps_list name)
as_list by takes Formula = let e = norm_lists step_words by steps_list takes refl in record { simple_a = refl; simple_b = refl; leaf_a = refl; leaf_b = refl; binary = refl; tops = rw e refl }
as_list by takes Judge = let e = norm_lists step_words by steps_list takes refl in record { simple_a = refl; simple_b = refl; leaf_a = refl; leaf_b = refl; binary = refl; tops = rw e refl }
as_list by takes Model = let e = norm_lists step_words by steps_list takes refl in record { simple_a = refl; simple_b = refl; leaf_a = refl; leaf_b = refl; binary = refl; tops = rw e refl }
