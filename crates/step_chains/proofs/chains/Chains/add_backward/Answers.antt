use Rattle.std.proofs.Common.{reverse, sym, ap, ◌∙◌}
use Rattle.step_chains.proofs.published.ExtendLaw.{links_back}
use Rattle.step_chains.proofs.chains.Chains.add_backward.Goals as goal

pub returns : goal.returns
returns c task members m is =
    c.in_ok-add.ensures.added task (reverse members) m (c.as_slice.ensures.value ∙ c.reverse.ensures.items ∙ ap reverse (c.in_ok-back.ensures.items ∙ is) ∙ sym (links_back task m members))
