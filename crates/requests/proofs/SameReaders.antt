-- Any readers of the lists make the same commands, but for where the lists lie.
use Rattle.std.proofs.Common.{refl}
use Rattle.requests.specs.declared.command.Name.{Name}
use Rattle.requests.specs.declared.command.Name.TheVariants.{Plan, Check, Ground, Order, Gen, Prove, Verify, Batch}
use Rattle.requests.specs.declared.request.Stepping.TheVariants.{Exists, All}
use Rattle.requests.specs.declared.command.Readers.{Readers}
use Rattle.requests.specs.Same.{IsSame}
use Rattle.requests.proofs.published.ListReaders.{norm_lists}
use Rattle.requests.specs.Command.{AreReaders, algorithm_words, command_of, kind_words, lists, show_words, turn_words}

same_commands : (by to : Readers) → AreReaders by → AreReaders to → (name : Name) → IsSame (command_of by name) (command_of to name)
same_commands by to are too (Plan Exists) =
    let a = norm_lists algorithm_words by.algorithms to.algorithms are.algorithms too.algorithms in
    record { simple_a = refl; simple_b = refl; leaf_a = refl; leaf_b = refl; binary = refl; tops = rw a refl }
same_commands by to are too (Plan All) =
    let a = norm_lists algorithm_words by.algorithms to.algorithms are.algorithms too.algorithms in
    record { simple_a = refl; simple_b = refl; leaf_a = refl; leaf_b = refl; binary = refl; tops = rw a refl }
same_commands by to are too Check = record { simple_a = refl; simple_b = refl; leaf_a = refl; leaf_b = refl; binary = refl; tops = refl }
same_commands by to are too Ground = record { simple_a = refl; simple_b = refl; leaf_a = refl; leaf_b = refl; binary = refl; tops = refl }
same_commands by to are too Order = record { simple_a = refl; simple_b = refl; leaf_a = refl; leaf_b = refl; binary = refl; tops = refl }
same_commands by to are too Gen =
    let a = norm_lists algorithm_words by.algorithms to.algorithms are.algorithms too.algorithms in
    let k = norm_lists kind_words by.kinds to.kinds are.kinds too.kinds in
    let w = norm_lists show_words by.shows to.shows are.shows too.shows in
    record { simple_a = refl; simple_b = refl; leaf_a = refl; leaf_b = refl; binary = refl; tops = rw (a, k, w) refl }
same_commands by to are too Prove = record { simple_a = refl; simple_b = refl; leaf_a = refl; leaf_b = refl; binary = refl; tops = refl }
same_commands by to are too Verify = record { simple_a = refl; simple_b = refl; leaf_a = refl; leaf_b = refl; binary = refl; tops = refl }
same_commands by to are too Batch =
    let a = norm_lists algorithm_words by.algorithms to.algorithms are.algorithms too.algorithms in
    let t = norm_lists turn_words by.turns to.turns are.turns too.turns in
    record { simple_a = refl; simple_b = refl; leaf_a = refl; leaf_b = refl; binary = refl; tops = rw (a, t) refl }

are_lists : AreReaders lists
are_lists = record { algorithms = refl; kinds = refl; shows = refl; turns = refl }

pub as_lists : (by : Readers) → AreReaders by → (name : Name) → IsSame (command_of by name) (command_of lists name)
as_lists by are name = same_commands by lists are are_lists name
