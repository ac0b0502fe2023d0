-- The whole of what grounding gives is made of its facts and calls.
use Rattle.std.proofs.Common.{◌≡◌, refl, sym}
use Rattle.pd_model.specs.declared.parts.Parts.{Parts}
use Rattle.grounding_defs.specs.Grounded.{Grounded, IsGrounded}
use Rattle.grounding_defs.specs.Found.{grounded_by}

pub made : (p : Parts) (g : Grounded) → IsGrounded p g → grounded_by p g.facts g.calls ≡ g
made p g is = λ i. record { facts = g.facts; calls = g.calls; task = sym is.task i }

pub remade : (p : Parts) (g : Grounded) → IsGrounded p g → IsGrounded p (grounded_by p g.facts g.calls)
remade p g is = record { fact_is = is.fact_is; call_is = is.call_is; facts_sorted = is.facts_sorted; calls_sorted = is.calls_sorted; task = refl }
