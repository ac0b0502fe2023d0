use Rattle.std.proofs.Common.{◌≡◌, drop, map}
use Rattle.clap.specs.Words.{app_of, new_app}
use Rattle.requests.specs.Arguments.{rule_for, with_rules}
use Rattle.requests.proofs.building.with_all.Given as goal

-- The command with the arguments that are left is the one that is asked for.
abbrev pub invariant-loop-argument : goal.invariant-loop-argument
invariant-loop-argument l =
    with_rules (app_of l.command) (map rule_for (drop l.argument-index l.arguments)) ≡ with_rules (new_app l.fn.name) (map rule_for l.arguments)
