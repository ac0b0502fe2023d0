use Rattle.std.proofs.Common.{◌≡◌, ◌-◌, ◌++◌, ◌∷◌, List, length}
use Rattle.clap.specs.Walk.{texts}
use Rattle.pl_io.specs.Outside.{Heard, Agrees}
use Rattle.plan_endings.specs.declared.ending.File.TheVariants.{Problem}
use Rattle.plan_tasks.specs.Limits.{file_in}
use Rattle.plan_tasks.specs.Files.{IsFault, IsWholeOrFront}
use Rattle.plan_tasks.proofs.published.Taking.{SoFar}
use Rattle.plan_tasks.proofs.take.take_batch.Given as goal

abbrev pub invariant-taking : goal.invariant-taking
invariant-taking g l = record {
  told : g.S.Shelf.told l.shelf ≡ g.S.Shelf.told l.fn.shelf;
  lacks : g.S.Shelf.lacks l.shelf ≡ g.S.Shelf.lacks l.fn.shelf;
  agrees : Agrees (g.S.Shelf.told l.fn.shelf) (g.S.Shelf.lacks l.fn.shelf) (g.S.Shelf.heard l.fn.shelf) (g.S.Shelf.heard l.shelf);
  so : (took : List Heard) × (g.S.Shelf.heard l.shelf ≡ g.S.Shelf.heard l.fn.shelf ++ took)
      × SoFar IsWholeOrFront (IsFault (g.S.Shelf.failed l.fn.shelf)) (file_in Problem) (l.domain ∷ texts l.problems) (g.S.Shelf.failed l.fn.shelf) (g.S.Shelf.failed l.shelf) took (l.files.domain ∷ l.files.problems.items);
}

abbrev pub decreases-taking : goal.decreases-taking
decreases-taking g l = length l.problems - length l.files.problems.items
