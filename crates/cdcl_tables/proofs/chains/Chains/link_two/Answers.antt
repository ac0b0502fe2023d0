use Rattle.std.proofs.Common.{arith, ◌≡◌, ◌==◌, ℕ, ◌+◌, false, Bool, Option, Some, None, ap, ◌∙◌, if◌then◌else◌}
use Rattle.std.proofs.lemmas.Bool.Decides.{nat_tests}
use Rattle.cdcl_tables.specs.Linked.{placed}
use Rattle.cdcl_tables.proofs.chains.Chains.link_two.Goals as goal

next_apart : (node : ℕ) (code : Option ℕ) (on : ℕ → Option ℕ) → on (node + 1) ≡ None → placed node code on (node + 1) ≡ None
next_apart node code on e =
    let apart : (node + 1 == node) ≡ false = grind (arith, nat_tests) in
    ap (λ (b : Bool). if b then code else on (node + 1)) apart ∙ e

pub link-requires-2 : goal.link-requires-2
link-requires-2 c =
    let node = c.args.node in
    let on = c.requires.off.on in
    record {
      code = omega (arith, c.requires.beside, c.link.ensures.codes);
      node = omega (arith, c.requires.node, c.link.ensures.nodes);
      off = record {
        on = placed node (Some c.args.code) on;
        linked = c.link.ensures.linked on c.requires.off.linked c.requires.off.first;
        off = next_apart node (Some c.args.code) on c.requires.off.second;
      };
    }
