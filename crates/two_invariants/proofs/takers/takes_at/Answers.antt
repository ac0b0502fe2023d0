use Rattle.std.proofs.Common.{◌≡◌, ◌∙◌, ◌*◌, length, refl, sym, subst, false}
use Rattle.std.proofs.lemmas.Option.{slice_get_read}
use Rattle.bit_sets.specs.Rows.{row_has}
use Rattle.two_invariants.specs.own.Index.{takes_in}
use Rattle.two_invariants.specs.declared.groups.Group.{Group}
use Rattle.two_invariants.proofs.Counting.{same_group}
use Rattle.two_invariants.proofs.Taking.{takes_loses}
use Rattle.two_invariants.proofs.takers.takes_at.Goals as goal

pub returns-clause-some : goal.returns-clause-some
returns-clause-some c = λ t.
    let g = c.in-Some.group.now in
    let at = slice_get_read c.args.here.now.before.now.groups.now (length c.args.here.now.before.now.groups.now) c.args.number g refl c.in-Some.ensures.lookup.3.0 c.in-Some.ensures.lookup.1 in
    takes_loses c.args.here.now.before.now.facts c.args.here.now.before.now.rows.now c.args.here.now.before.now.groups.now (row_has c.args.here.now.set.now) g c.args.l (2 * c.args.here.now.before.now.facts) c.args.number c.requires.here.before.groups at (sym c.in_ok-taken.ensures ∙ t)

pub returns-clause-none : goal.returns-clause-none
returns-clause-none c = λ f h other.
    let g = c.in-Some.group.now in
    let at = slice_get_read c.args.here.now.before.now.groups.now (length c.args.here.now.before.now.groups.now) c.args.number g refl c.in-Some.ensures.lookup.3.0 c.in-Some.ensures.lookup.1 in
    subst (λ (x : Group). takes_in c.args.here.now.before.now.facts c.args.here.now.before.now.rows.now c.args.here.now.before.now.groups.now (row_has c.args.here.now.set.now) x c.args.l ≡ false) (same_group c.args.here.now.before.now.groups.now c.args.number g h at other) (sym c.in_ok-taken.ensures ∙ f)
