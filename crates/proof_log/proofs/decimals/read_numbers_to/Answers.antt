use Rattle.std.proofs.lemmas.Bool.Decides.{Decides-eqb}
use Rattle.std.proofs.lemmas.Slice.Eq.{strip_prefix_is}
use Rattle.proof_log.proofs.Cuts.{not_stripped, stripped}
use Rattle.proof_log.proofs.decimals.read_numbers_to.Goals as goal

pub returns-in-Some-clause-text : goal.returns-in-Some-clause-text
returns-in-Some-clause-text c =
    let read = rw c.in-Some.is at c.in_ok-rest.ensures.some in
    stripped c.args.bytes.now c.read_numbers.new.numbers.items c.in-Some.rest.now c.args.end.now c.strip_prefix.result read
    (strip_prefix_is Decides-eqb c.in-Some.rest.now c.args.end.now c.strip_prefix.result c.strip_prefix.ensures.cases)

pub returns-in-Some-clause-none : goal.returns-in-Some-clause-none
returns-in-Some-clause-none c =
    let read = rw c.in-Some.is at c.in_ok-rest.ensures.some in
    not_stripped c.args.bytes.now c.read_numbers.new.numbers.items c.in-Some.rest.now c.args.end.now c.strip_prefix.result read c.requires
    (strip_prefix_is Decides-eqb c.in-Some.rest.now c.args.end.now c.strip_prefix.result c.strip_prefix.ensures.cases)
