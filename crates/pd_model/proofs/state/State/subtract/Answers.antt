use Rattle.std.proofs.Common.{rules, ◌≡◌, length}
use Rattle.std.proofs.lemmas.List.{nil_from_length}
use Rattle.pd_model.proofs.published.States.{leaves, none_left}
use Rattle.pd_model.proofs.state.State.subtract.Goals as goal

pub loop-atom-preserved : goal.loop-atom-preserved
loop-atom-preserved c =
    let more = rw (c.in-Some.ensures.removal) at c.loop-atom.invariant in
    leaves c.in-Some.atom c.pop_first.new.self.keys c.loop-atom.self c.remove.new.self _ c.remove.ensures more

pub returns : goal.returns
returns c =
    let none : length c.loop-atom.other-inside.atoms.keys ≡ 0 = search rules in
    none_left c.loop-atom.self _ (rw (nil_from_length c.loop-atom.other-inside.atoms.keys none) at c.loop-atom.invariant)
