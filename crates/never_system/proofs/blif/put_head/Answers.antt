use Rattle.std.proofs.Common.{◌∙◌, ◌++◌, List, ℕ, ap}
use Rattle.std.specs.Prelude.{codes}
use Rattle.never_system.specs.Blif.{head, bit_names, numbered, latch, width_of}
use Rattle.never_system.proofs.Texts.{joined}
use Rattle.never_system.proofs.blif.put_head.Goals as goal

pub returns : goal.returns
unfolding head
returns c =
    let t = c.args.text.now.items in
    let u = c.put.new.text.items in
    let v = c.put_bit_names.new.text.items in
    let w = c.put-2.new.text.items in
    let x = c.put_latches.new.text.items in
    let names = bit_names (width_of c.args.task.now) in
    let outputs = codes "\n.outputs goal\n" in
    let latches = numbered (latch c.args.task.now) c.args.task.now.facts in
    joined t (codes ".model task\n.inputs") (names ++ (outputs ++ latches)) u x (c.in_ok-put.ensures ∙ ap (λ (y : List ℕ). t ++ y) c.as_slice.ensures)
    (joined u names (outputs ++ latches) v x (c.in_ok-put_bit_names.ensures ∙ ap (λ (n : ℕ). u ++ bit_names n) c.requires)
    (joined v outputs latches w x (c.in_ok-put-2.ensures ∙ ap (λ (y : List ℕ). v ++ y) c.as_slice-2.ensures) c.in_ok-put_latches.ensures))
