use Rattle.std.proofs.Common.{◌≡◌, ◌∷◌, [], length, sym, ap, ◌∙◌, rules}
use Rattle.std.proofs.lemmas.List.{nil_from_length}
use Rattle.race.specs.Tied.{race_state}
use Rattle.race_outcome.specs.Ends.{conflicts_in, line_view}
use Rattle.race.proofs.Finds.{line-next, lines-next, lines-end, told-lines}
use Rattle.std.proofs.Common.{map}
use Rattle.race.proofs.racing.Racing.finish.Goals as goal

pub loop-run-preserved : goal.loop-run-preserved
loop-run-preserved g c =
    let old : c.loop-run.run-iterator.rest.items ≡ c.in-Some.run' ∷ c.next.new.self.rest.items = search rules in
    record {
      told = line-next c.loop-run.lines.items c.push.new.self.items c.in_ok-open.field-0 _ _ c.in-Some.run' old c.in_ok-push.ensures.items c.in_ok-open.ensures.told ∙ c.loop-run.invariant.told;
      lines = lines-next g.input c.loop-run.lines.items c.push.new.self.items c.in_ok-open.field-0 c.in_ok-push.ensures.items c.loop-run.invariant.lines c.in_ok-open.ensures.line;
      runs = search rules;
    }

pub returns-clause-told : goal.returns-clause-told
returns-clause-told g c =
    let l = c.loop-run in
    let empty : length l.run-iterator.rest.items ≡ 0 = search rules in
    let none : l.run-iterator.rest.items ≡ [] = nil_from_length l.run-iterator.rest.items empty in
    ap (map line_view) c.of.ensures ∙ (sym (lines-end l.lines.items l.run-iterator.rest.items none) ∙ l.invariant.told)

pub returns-clause-sums : goal.returns-clause-sums
returns-clause-sums g c =
    let t = c.requires in
    ap conflicts_in (returns-clause-told g c) ∙ (told-lines (race_state c.args.self) ∙ sym t.spent)
