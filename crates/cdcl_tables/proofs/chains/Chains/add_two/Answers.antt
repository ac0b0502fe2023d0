use Rattle.std.proofs.Common.{arith, ◌≡◌, ◌++◌, ◌∷◌, [], List, sym, ◌∙◌, ap, subst, length-append}
use Rattle.cdcl_tables.specs.declared.chains.Node.{Node}
use Rattle.cdcl_tables.specs.Linked.{IsLinked, no_node}
use Rattle.cdcl_tables.proofs.Linking.{linked_more}
use Rattle.cdcl_tables.proofs.chains.Chains.add_two.Goals as goal

pub returns-clause-linked : goal.returns-clause-linked
returns-clause-linked c on m =
    let h = c.args.self.now.heads.items in
    let n = c.args.self.now.nodes.items in
    let a : c.push.new.self.items ≡ n ++ no_node ∷ [] = c.in_ok-push.ensures.items ∙ ap (λ (xs : List Node). xs ++ no_node ∷ []) c.in_ok-reserve.ensures.items in
    let b : c.push-2.new.self.items ≡ (n ++ no_node ∷ []) ++ no_node ∷ [] = c.in_ok-push-2.ensures.items ∙ ap (λ (xs : List Node). xs ++ no_node ∷ []) a in
    let l1 = length-append n (no_node ∷ []) in
    let l2 = length-append (n ++ no_node ∷ []) (no_node ∷ []) in
    subst (λ (xs : List Node). IsLinked h xs on) (sym b) (linked_more h (n ++ no_node ∷ []) (no_node ∷ []) on (omega (arith, l1, l2, c.requires)) (linked_more h n (no_node ∷ []) on (omega (arith, l1, c.requires)) m))
