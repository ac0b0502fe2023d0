use Rattle.std.proofs.Common.{arith, ◌∙◌, ap}
use Rattle.std.specs.Prelude.{nat_eq, nat_lt, filter_map}
use Rattle.std.proofs.lemmas.List.{take_all}
use Rattle.std.proofs.lemmas.List.Filters.{dedup_is}
use Rattle.grounding_defs.specs.Instance.{literals_of}
use Rattle.grounding_defs.specs.Simplify.{number_of}
use Rattle.grounding_defs.specs.Sorted.{sorted_set}
use Rattle.grounder.specs.own.Putting.{add_literal}
use Rattle.grounder.proofs.Compared.{numbers_sorted}
use Rattle.grounder.proofs.Put.{literal_more}
use Rattle.grounder.proofs.simplify.simplified.Goals as goal

pub loop-cond-preserved : goal.loop-cond-preserved
loop-cond-preserved c =
    literal_more c.args.known.now.facts c.args.objects.now c.args.conds.now c.loop-cond.cond-index c.cond-item.result c.loop-cond.literals.items c.add_literal.new.into.items (omega arith) c.cond-item.is
    c.loop-cond.invariant (c.in_ok-add_literal.ensures ∙ ap (λ o. add_literal o c.loop-cond.literals.items) c.number_of.ensures)

pub returns : goal.returns
returns c =
    let literals = c.loop-cond.literals.items in
    let facts = c.args.known.now.facts in
    let conds = c.args.conds.now in
    let ordered = numbers_sorted literals c.sort_unstable.new.self.items c.dedup.new.self.items c.sort_unstable.ensures.permutation c.sort_unstable.ensures.sorted
    (dedup_is nat_eq c.sort_unstable.new.self.items c.dedup.new.self.items c.dedup.ensures.filtered) in
    let whole = take_all c.loop-cond.cond-index conds (omega arith) in
    c.of.ensures ∙ ordered ∙ ap (sorted_set nat_lt) (c.loop-cond.invariant ∙ ap (λ cs. filter_map (number_of facts) (literals_of c.args.objects.now cs)) whole)
