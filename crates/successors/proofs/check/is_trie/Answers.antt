use Rattle.std.proofs.Common.{◌∙◌, ap, subst, ℕ, ◌<◌, length}
use Rattle.std.specs.Prelude.{slice_index}
use Rattle.successors.specs.Trie.{IsBefore}
use Rattle.successors.proofs.check.is_trie.Goals as goal

pub returns : goal.returns
returns c = λ needing.
    let t = c.args.trie.now in
    let end = c.from.ensures ∙ ap (λ (n : ℕ). slice_index t.froms n) c.len.ensures in
    record {
      skips = c.is_shaped.ensures.skips c.if-not-is_shaped.false;
      froms = c.is_shaped.ensures.froms c.if-not-is_shaped.false;
      first = c.is_shaped.ensures.first c.if-not-is_shaped.false;
      nodes = c.are_nodes.ensures c.if-not-are_nodes.false;
      acts = c.are_actions.ensures c.if-not-are_actions.false;
      all = subst (λ (n : ℕ). (a : ℕ) → a < length c.args.task.now.actions → IsBefore t.acts n a) end (c.are_there.ensures c.if-not-are_there.false);
      needs = c.are_all_needing.ensures needing;
    }
