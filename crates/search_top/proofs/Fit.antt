-- Each command can be parsed, and gives its numbers.
use Rattle.std.proofs.Common.{List, refl, codes}
use Rattle.clap.specs.Walk.{Row}
use Rattle.clap.specs.declared.builder.value_parser.ValueParser.{ValueParser}
use Rattle.requests.specs.Arguments.{TakesWords, one_among}
use Rattle.requests.specs.Fit.{IsFit}
use Rattle.requests.specs.Passed.{Passed}
use Rattle.requests.specs.Same.{IsSame}
use Rattle.requests.proofs.published.ListReaders.{one_passes, norm_lists}
use Rattle.requests.proofs.published.Ranges.{number_in}
use Rattle.search_top.specs.declared.command.Name.{Name}
use Rattle.search_top.specs.declared.command.Name.TheVariants.{Search, Never, NeverSearch, System, NeverFormula, NeverJudge}
use Rattle.search_top.specs.Command.{command_of, simple_command, how_words, format_words, list_words, Has}
use Rattle.search_top.specs.Limits.{most_count, most_memory}

pub fit : (name : Name) (by : ValueParser) → TakesWords (list_words name) by → IsFit (command_of by name)
fit Search by takes = let e = one_passes how_words by (codes "greedy") takes refl in record { simple = refl; leaf = refl; defaults = rw e refl; values = refl }
fit Never by takes = record { simple = refl; leaf = refl; defaults = refl; values = refl }
fit NeverSearch by takes = record { simple = refl; leaf = refl; defaults = refl; values = refl }
fit System by takes = let e = one_passes format_words by (codes "blif") takes refl in record { simple = refl; leaf = refl; defaults = rw e refl; values = refl }
fit NeverFormula by takes = record { simple = refl; leaf = refl; defaults = refl; values = refl }
fit NeverJudge by takes = record { simple = refl; leaf = refl; defaults = refl; values = refl }

pub numbers_of : (by : ValueParser) (name : Name) (rows : List Row) → Passed (command_of by name).top.rules rows → Has name rows
numbers_of by Search rows passed =
    let each = number_in (command_of by Search).top.rules rows passed in
    (each (codes "states") _ 1 most_count refl refl, each (codes "memory") _ 1 most_memory refl refl)
numbers_of by Never rows passed = tt
numbers_of by System rows passed = tt
numbers_of by NeverFormula rows passed = tt
numbers_of by NeverJudge rows passed = tt
numbers_of by NeverSearch rows passed = number_in (command_of by NeverSearch).top.rules rows passed (codes "budget") _ 1 most_count refl refl

-- any reader of the list of a command makes the same command, but for where the list lies
pub as_list : (name : Name) (by : ValueParser) → TakesWords (list_words name) by → IsSame (command_of by name) (simple_command name)
as_list Search by takes = let e = norm_lists how_words by (one_among how_words) takes refl in record { simple_a = refl; simple_b = refl; leaf_a = refl; leaf_b = refl; binary = refl; tops = rw e refl }
as_list Never by takes = record { simple_a = refl; simple_b = refl; leaf_a = refl; leaf_b = refl; binary = refl; tops = refl }
as_list NeverSearch by takes = record { simple_a = refl; simple_b = refl; leaf_a = refl; leaf_b = refl; binary = refl; tops = refl }
as_list System by takes = let e = norm_lists format_words by (one_among format_words) takes refl in record { simple_a = refl; simple_b = refl; leaf_a = refl; leaf_b = refl; binary = refl; tops = rw e refl }
as_list NeverFormula by takes = record { simple_a = refl; simple_b = refl; leaf_a = refl; leaf_b = refl; binary = refl; tops = refl }
as_list NeverJudge by takes = record { simple_a = refl; simple_b = refl; leaf_a = refl; leaf_b = refl; binary = refl; tops = refl }
