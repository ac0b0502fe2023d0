use Rattle.std.proofs.Common.{◌≡◌, ◌==◌, ◌&&◌, not, drop}
use Rattle.std.specs.List.{list_any}
use Rattle.gt_core.specs.Literal.{opposite, is_in}
use Rattle.never_defs.specs.After.{makes_perhaps}
use Rattle.never_check.proofs.after.makes_perhaps.Given as goal

abbrev pub invariant-loop-effect : goal.invariant-loop-effect
invariant-loop-effect l = list_any (λ e. (e.literal == l.lit) && not (list_any (λ m. is_in l.trail.literals (opposite m)) e.condition)) (drop l.effect-index l.effect-items) ≡ makes_perhaps (is_in l.trail.literals) l.act l.lit
