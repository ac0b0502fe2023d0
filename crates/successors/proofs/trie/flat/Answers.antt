use Rattle.std.proofs.Common.{arith, rules, ◌≡◌, ◌∙◌, ap, vec_len, length, List, ℕ, [], ◌∷◌, ◌++◌}
use Rattle.successors.proofs.TrieLaw.{flat_trie}
use Rattle.successors.proofs.trie.flat.Goals as goal

pub overflow_cast-len : goal.overflow_cast-len
overflow_cast-len c = omega (arith, c.len.ensures, c.in_ok-acts.ensures.few)

pub returns : goal.returns
returns c =
    let long : vec_len c.in_ok-acts.acts ≡ length c.in_ok-acts.acts.items = search rules in
    let froms = c.in_ok-push.ensures.items ∙ ap (λ (xs : List ℕ). xs ++ c.len.result ∷ []) c.new-froms.ensures.items ∙ ap (λ (n : ℕ). n ∷ []) (c.len.ensures ∙ long) in
    flat_trie c.args.task.now _ c.new.ensures.items c.new-2.ensures.items froms c.in_ok-acts.ensures.long c.in_ok-acts.ensures.each
