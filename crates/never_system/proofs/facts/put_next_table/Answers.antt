use Rattle.std.proofs.Common.{◌∙◌, ◌++◌, List, ℕ, ap}
use Rattle.std.specs.Prelude.{codes}
use Rattle.never_system.specs.Blif.{next_names, next_table}
use Rattle.never_system.proofs.Texts.{joined}
use Rattle.never_system.proofs.facts.put_next_table.Goals as goal

pub returns : goal.returns
unfolding next_table
returns c =
    let t = c.args.text.now.items in
    let u = c.put.new.text.items in
    let v = c.put_next_names.new.text.items in
    let w = c.put-2.new.text.items in
    let last = codes "\n-1- 1\n1-0 1\n" in
    joined t (codes ".names") (next_names c.args.fact ++ last) u w (c.in_ok-put.ensures ∙ ap (λ (x : List ℕ). t ++ x) c.as_slice.ensures)
    (joined u (next_names c.args.fact) last v w c.in_ok-put_next_names.ensures (c.in_ok-put-2.ensures ∙ ap (λ (x : List ℕ). v ++ x) c.as_slice-2.ensures))
