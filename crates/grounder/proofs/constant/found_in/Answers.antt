use Rattle.grounder.proofs.Few.{kept_few}
use Rattle.grounder.proofs.Assembled.{left_facts}
use Rattle.grounder.proofs.constant.found_in.Goals as goal

pub constant_atoms-requires : goal.constant_atoms-requires
constant_atoms-requires c = kept_few c.args.domains.now c.in_ok-reached.reached.calls c.requires (λ d h. (c.in_ok-reached.ensures.least.calls d).0 h)

pub returns : goal.returns
returns c = record {
  reached = c.in_ok-reached.reached.atoms;
  least = c.in_ok-reached.ensures.least;
  atoms_sorted = c.in_ok-reached.ensures.atoms_sorted;
  calls_sorted = c.in_ok-reached.ensures.calls_sorted;
  facts_are = left_facts c.args.domains.now c.in_ok-reached.reached.atoms c.in_ok-reached.reached.calls c.in_ok-constant.constant c.in_ok-facts.facts c.in_ok-constant.ensures c.in_ok-facts.ensures;
}
