use Rattle.std.proofs.Common.{◌≡◌, drop}
use Rattle.pl_io.specs.own.MemShelf.{bytes_at}
use Rattle.pl_io.proofs.mem_shelf.find.Given as goal

abbrev pub invariant-loop-file : goal.invariant-loop-file
invariant-loop-file l = bytes_at (drop l.file-index l.files) l.name ≡ bytes_at l.files l.name
