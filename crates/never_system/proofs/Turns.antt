-- Facts of a circuit, one after another.
use Rattle.std.proofs.Common.{arith, ◌≡◌, ◌+◌, ◌-◌, ◌<◌, ℕ, suc, ap}
use Rattle.gt_core.specs.Task.{Task}
use Rattle.never_system.specs.Aiger.{Circuit, with_fact, with_facts}

-- facts from one on, and those from the next on
pub next : (task : Task) (width facts fact : ℕ) (c : Circuit) → fact < facts → with_facts task width (facts - fact) fact c ≡ with_facts task width (facts - (fact + 1)) (fact + 1) (with_fact task width fact c)
next task width facts fact c low = let e : facts - fact ≡ suc (facts - (fact + 1)) = omega arith in ap (λ (k : ℕ). with_facts task width k fact c) e
