use Rattle.std.proofs.Common.{[], ◌∷◌, map, codes}
use Rattle.std.specs.Prelude.{pos}
use Rattle.clap.specs.declared.builder.value_parser.ValueParser.TheVariants as reader
use Rattle.requests.specs.Arguments.{option, reading_word, rule_for}
use Rattle.requests.specs.Command.{options}
use Rattle.requests.proofs.Chain.{three_added}
use Rattle.requests.proofs.command.put_generating.Goals as goal

pub returns : goal.returns
returns c =
    three_added (map rule_for c.args.into.now.items) (map rule_for c.put.new.into.items) (map rule_for c.put_options.new.into.items) (map rule_for c.put-2.new.into.items)
    (reading_word (codes "kind") c.args.by.kinds ∷ reading_word (codes "number") (reader.Signed (pos 1) (pos 64)) ∷ []) (options c.args.by.algorithms) (option (codes "show") c.args.by.shows (codes "none") ∷ []) c.in_ok-put.ensures c.in_ok-put_options.ensures c.in_ok-put-2.ensures
