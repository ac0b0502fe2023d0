use Rattle.std.proofs.Common.{[], ◌∷◌, map, codes}
use Rattle.requests.specs.Arguments.{many_words, option, rule_for, word}
use Rattle.requests.specs.Command.{race_options}
use Rattle.requests.proofs.Chain.{three_added}
use Rattle.requests.proofs.command.put_batching.Goals as goal

pub returns : goal.returns
returns c =
    three_added (map rule_for c.args.into.now.items) (map rule_for c.put.new.into.items) (map rule_for c.put_race.new.into.items) (map rule_for c.put-2.new.into.items)
    (word (codes "domain") ∷ many_words (codes "problem") ∷ []) (race_options c.args.by.algorithms) (option (codes "turns") c.args.by.turns (codes "forward") ∷ []) c.in_ok-put.ensures c.in_ok-put_race.ensures c.in_ok-put-2.ensures
