use Rattle.std.proofs.Common.{◌≡◌, ◌++◌}
use Rattle.plan_gen.specs.Numbered.{numbered}
use Rattle.plan_gen.proofs.text.put_numbered.Given as goal

abbrev pub invariant-loop-passed : goal.invariant-loop-passed
invariant-loop-passed l = l.text.items ≡ l.initial.text.items ++ numbered l.before l.after l.passed
