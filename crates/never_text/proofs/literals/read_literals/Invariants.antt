use Rattle.std.proofs.Common.{◌≡◌, ◌<◌, ◌*◌, [], length}
use Rattle.std.specs.List.{AllByRecursion}
use Rattle.never_text.specs.Certificate.{literals_of}
use Rattle.never_text.proofs.literals.read_literals.Given as goal

abbrev pub invariant-reading : goal.invariant-reading
invariant-reading l = record {
  below : AllByRecursion (λ m. m < 2 * l.facts) l.lits.items;
  told : literals_of l.facts [] l.initial.words ≡ literals_of l.facts l.lits.items l.words;
}

abbrev pub decreases-reading : goal.decreases-reading
decreases-reading l = length l.words
