use Rattle.std.proofs.Common.{◌≡◌, ◌==◌, ◌&&◌, drop}
use Rattle.std.specs.List.{list_any, list_all}
use Rattle.gt_core.specs.Literal.{is_in}
use Rattle.never_defs.specs.After.{makes_surely}
use Rattle.never_check.proofs.after.makes_surely.Given as goal

abbrev pub invariant-loop-effect : goal.invariant-loop-effect
invariant-loop-effect l = list_any (λ e. (e.literal == l.lit) && list_all (is_in l.trail.literals) e.condition) (drop l.effect-index l.effect-items) ≡ makes_surely (is_in l.trail.literals) l.act l.lit
