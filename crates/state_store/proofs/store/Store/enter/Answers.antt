use Rattle.std.proofs.Common.{arith, ◌≡◌, ◌≤◌, ◌++◌, ◌∷◌, [], ◌∙◌, refl, ap, sym, subst, length, map}
use Rattle.std.specs.List.{AllByRecursion}
use Rattle.std.proofs.lemmas.List.{length-map, length-append, map-append}
use Rattle.state_store.specs.Packed.{unpacked, width_of, IsPacked}
use Rattle.state_store.proofs.PackLaw.{length-packed}
use Rattle.state_store.proofs.TableLaw.{absent_unless}
use Rattle.state_store.proofs.StoreLaw.{state_of_row, none_there, all_push}
use Rattle.state_store.proofs.store.Store.enter.Goals as goal

pub spot-spot-requires-clause-width : goal.spot-spot-requires-clause-width
spot-spot-requires-clause-width c =
    let is : IsPacked c.self.inside.facts c.args.row.now = rw (← c.self.view_is) at c.requires in
    ap length is ∙ length-packed (width_of c.self.inside.facts) (unpacked c.self.inside.facts c.args.row.now) ∙ sym c.self.invariant.0.width

pub returns-in-Known : goal.returns-in-Known
returns-in-Known c =
    (refl, rw (← c.self.view_is) (state_of_row c.self.inside.facts c.self.inside.rows.rows c.in-Known.number c.args.row.now c.in-Known.ensures.1))

pub returns-then-len-self : goal.returns-then-len-self
returns-then-len-self c =
    let is : IsPacked c.self.inside.facts c.args.row.now = rw (← c.self.view_is) at c.requires in
    let kept = c.self.invariant.0.kept in
    let few : length c.self.inside.table.nodes ≤ 4294967295 = omega (arith, kept.all, kept.within, c.self.invariant.0.room) in
    let none = absent_unless c.self.inside.rows.width c.self.inside.table.heads c.self.inside.table.nodes c.self.inside.rows.rows c.args.row.now c.spot-spot.result kept.trees few c.spot-spot.ensures c.in_default.not-Known in (
      refl,
      rw (← c.self.view_is) (none_there c.self.inside.facts c.self.inside.rows.rows c.args.row.now c.self.invariant.0.packed is (λ k lt at. none k (omega (arith, lt, kept.all)) at)),
      rw (← c.self.view_is) (length-map c.self.inside.rows.rows (unpacked c.self.inside.facts) ∙ sym c.len.ensures.len ∙ c.if-len-self.true),
    )

pub add_row-requires : goal.add_row-requires
add_row-requires c =
    let is : IsPacked c.self.inside.facts c.args.row.now = rw (← c.self.view_is) at c.requires in
    let kept = c.self.invariant.0.kept in
    let few : length c.self.inside.table.nodes ≤ 4294967295 = omega (arith, kept.all, kept.within, c.self.invariant.0.room) in
    let none = absent_unless c.self.inside.rows.width c.self.inside.table.heads c.self.inside.table.nodes c.self.inside.rows.rows c.args.row.now c.spot-spot.result kept.trees few c.spot-spot.ensures c.in_default.not-Known in
    record {
      kept = kept;
      room = omega (arith, c.self.invariant.0.within, c.self.invariant.0.most, c.len.ensures.len, c.if-len-self.false);
      width = ap length is ∙ length-packed (width_of c.self.inside.facts) (unpacked c.self.inside.facts c.args.row.now) ∙ sym c.self.invariant.0.width;
      absent = λ k lt at. none k (omega (arith, lt, kept.all)) at;
      spot = c.spot-spot.ensures;
    }

pub invariant_of-self : goal.invariant_of-self
invariant_of-self c =
    let is : IsPacked c.self.inside.facts c.args.row.now = rw (← c.self.view_is) at c.requires in
    let old = c.self.invariant.0 in
    let rows : c.add_row.new.rows.rows ≡ c.self.inside.rows.rows ++ c.args.row.now ∷ [] = ap (λ b. b.rows) c.add_row.ensures.rows in
    let count = ap length rows ∙ length-append c.self.inside.rows.rows (c.args.row.now ∷ []) in
    let most : c.add_row.new.rows.most ≡ c.self.inside.rows.most = ap (λ b. b.most) c.add_row.ensures.rows in (
      record {
        facts = old.facts;
        width = ap (λ b. b.width) c.add_row.ensures.rows ∙ old.width;
        room = omega (arith, most, old.room);
        most = omega (arith, most, old.most);
        within = omega (arith, count, old.within, c.len.ensures.len, c.if-len-self.false);
        kept = c.add_row.ensures.kept;
        packed = subst (AllByRecursion (IsPacked c.self.inside.facts)) (sym rows) (all_push c.self.inside.facts c.self.inside.rows.rows c.args.row.now old.packed is);
        parents = omega (arith, count, ap length c.push_reserved.ensures.items, length-append c.self.inside.parents.items (c.args.parent ∷ []), old.parents);
        actions = omega (arith, count, ap length c.push_reserved-2.ensures.items, length-append c.self.inside.actions.items (c.args.action ∷ []), old.actions);
      },
      record {
        parents = omega (arith, most, c.self.invariant.1.parents, c.push_reserved.ensures.capacity);
        actions = omega (arith, most, c.self.invariant.1.actions, c.push_reserved-2.ensures.capacity);
      },
    )

pub returns : goal.returns
returns c =
    let is : IsPacked c.self.inside.facts c.args.row.now = rw (← c.self.view_is) at c.requires in
    let kept = c.self.invariant.0.kept in
    let few : length c.self.inside.table.nodes ≤ 4294967295 = omega (arith, kept.all, kept.within, c.self.invariant.0.room) in
    let none = absent_unless c.self.inside.rows.width c.self.inside.table.heads c.self.inside.table.nodes c.self.inside.rows.rows c.args.row.now c.spot-spot.result kept.trees few c.spot-spot.ensures c.in_default.not-Known in
    let most : c.add_row.new.rows.most ≡ c.self.inside.rows.most = ap (λ b. b.most) c.add_row.ensures.rows in
    let states : map (unpacked c.self.inside.facts) c.add_row.new.rows.rows ≡ map (unpacked c.self.inside.facts) c.self.inside.rows.rows ++ unpacked c.self.inside.facts c.args.row.now ∷ [] =
    ap (λ b. map (unpacked c.self.inside.facts) b.rows) c.add_row.ensures.rows ∙ map-append (unpacked c.self.inside.facts) c.self.inside.rows.rows (c.args.row.now ∷ []) in (
      rw (← c.self.view_is) (none_there c.self.inside.facts c.self.inside.rows.rows c.args.row.now c.self.invariant.0.packed is (λ k lt at. none k (omega (arith, lt, kept.all)) at)),
      rw (← c.self.view_is) (
          λ i. record {
            facts = c.self.inside.facts;
            room = most i;
            most = c.self.inside.most;
            states = states i;
            parents = c.push_reserved.ensures.items i;
            actions = c.push_reserved-2.ensures.items i;
          }
          ),
    )
