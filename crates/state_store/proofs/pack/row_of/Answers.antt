use Rattle.std.proofs.Common.{◌≡◌, ◌∙◌, ap, refl, subst, sym, length}
use Rattle.state_store.specs.Packed.{packed, unpacked, width_of, IsPacked}
use Rattle.state_store.proofs.PackLaw.{unpacks, is_packed}
use Rattle.state_store.proofs.pack.row_of.Goals as goal

pub returns-clause-packed : goal.returns-clause-packed
returns-clause-packed c =
    let row : c.pack.new.row.items ≡ packed (width_of (length c.args.state.now)) c.args.state.now = c.pack.ensures.row ∙ ap (λ n. packed n c.args.state.now) c.width_of-width.ensures in
    subst (IsPacked (length c.args.state.now)) (sym row) (is_packed (length c.args.state.now) c.args.state.now refl)

pub returns-clause-state : goal.returns-clause-state
returns-clause-state c =
    let row : c.pack.new.row.items ≡ packed (width_of (length c.args.state.now)) c.args.state.now = c.pack.ensures.row ∙ ap (λ n. packed n c.args.state.now) c.width_of-width.ensures in
    ap (unpacked (length c.args.state.now)) row ∙ unpacks (length c.args.state.now) c.args.state.now refl
