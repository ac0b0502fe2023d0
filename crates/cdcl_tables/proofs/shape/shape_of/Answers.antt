use Rattle.std.proofs.Common.{ℕ, ◌+◌, List, length, refl, ap, ◌∙◌}
use Rattle.cdcl_tables.proofs.Shapes.{shape_made}
use Rattle.cdcl_tables.proofs.shape.shape_of.Goals as goal

pub returns-clause-shape : goal.returns-clause-shape
returns-clause-shape c = shape_made _ c.args.variables c.args.told.now c.args.part.now c.args.after.now (record {
  variables_is = refl;
  horizon = c.horizon-horizon.ensures.value;
  width = c.width-width.ensures;
  facts = c.facts-facts.ensures;
  tolds = c.count-tolds.ensures.value;
  steps = c.count-steps.ensures.value ∙ ap (λ (xs : List (List ℕ)). length xs) c.step.ensures;
  times = c.count-times.ensures.value ∙ ap (λ (xs : List (List ℕ)). length xs) c.time.ensures;
  afters = c.count-afters.ensures.value;
}) c.requires.small c.requires.fits c.requires.few c.all_steps-all_steps.ensures (ap (λ (k : ℕ). c.count-tolds.result + k) c.count-repeats.ensures.value) refl refl c.of-step_codes.ensures c.of-time_codes.ensures
