use Rattle.std.proofs.Common.{◌∙◌, ℕ, Some, false, sym, ap}
use Rattle.std.specs.Option.{option_map}
use Rattle.clause_base.specs.Literal.{literal_of}
use Rattle.clause_base.proofs.ValueLemmas.{plain_choice-least}
use Rattle.clause_base.proofs.chooser.PlainChooserChooser.choose.Goals as goal

pub returns-in-None-clause-chosen : goal.returns-in-None-clause-chosen
returns-in-None-clause-chosen c =
    sym (plain_choice-least 0 c.args.values.now ∙ ap (option_map (λ v. literal_of v false)) (sym c.in-None.ensures.value))

pub returns-in-Some-clause-chosen : goal.returns-in-Some-clause-chosen
returns-in-Some-clause-chosen c =
    ap (λ (l : ℕ). Some l) c.of.ensures
    ∙ sym (plain_choice-least 0 c.args.values.now ∙ ap (option_map (λ v. literal_of v false)) (sym c.in-Some.ensures.value))
