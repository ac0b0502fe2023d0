use Rattle.std.proofs.Common.{Some, ap, arith, length}
use Rattle.pl_io.proofs.Grown.{piece_taken, range_rest}
use Rattle.pl_io.proofs.mem_tape.MemTapeTape.take.Goals as goal

pub returns-clause-taken : goal.returns-clause-taken
returns-clause-taken c =
    let copied = rw range_rest at c.copy_front-count.ensures.copied in
    ap Some (piece_taken c.args.self.now.file.bytes c.copy_front-count.new.into c.args.self.now.at c.min-at.result c.copy_front-count.result (omega (arith, ap length c.as_slice-bytes.ensures)) (rw c.as_slice-bytes.ensures at copied))
