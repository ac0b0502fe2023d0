use Rattle.std.proofs.Common.{arith, ◌<◌, ◌||◌, ◌∙◌, ℕ, List, Some, None, length, get_or, sym, ap, subst, refl}
use Rattle.std.proofs.lemmas.List.{length-map}
use Rattle.clause_base.specs.Literal.{opposite}
use Rattle.cdcl_defs.specs.declared.trail.Assigned.{Assigned}
use Rattle.cdcl_tables.specs.Assignment.{literals}
use Rattle.bit_sets.specs.Layered.{words_have}
use Rattle.conflict_analysis.specs.own.Resolvent.{MarksView, IsLatest, is_marked}
use Rattle.conflict_analysis.proofs.Walking.{literal_at, entry_below, code_below}
use Rattle.conflict_analysis.proofs.Marked.{taken_next, taken_all, viewed}
use Rattle.conflict_analysis.proofs.resolvent.Resolvent.take.Goals as goal

pub loop-position-init : goal.loop-position-init
loop-position-init c =
    let o = viewed c.args.trail.now c.self.view_is c.requires.over in
    let long = ap (λ (es : List Assigned). length es) c.entries-entries.ensures.value in
    record {
      within = omega (arith, long);
      size = refl;
      room = refl;
      taken = record { beyond = λ p h. o.beyond p (omega (arith, long, h)); moved = λ l. refl };
    }

pub latest-requires : goal.latest-requires
latest-requires c =
    let o = viewed c.args.trail.now c.self.view_is c.requires.over in
    let room = o.room in
    omega (arith, room, c.loop-position.invariant.within, c.loop-position.invariant.size, c.entries-entries.ensures.short, ap (λ (ws : List ℕ). length ws) c.as_slice.ensures.value)

pub loop-position-preserved : goal.loop-position-preserved
loop-position-preserved c =
    let i = c.loop-position.invariant in
    let w = c.args.trail.now in
    let p = c.in-Some.position in
    let latest = subst (λ (ws : List ℕ). IsLatest (words_have ws) c.loop-position.bound (Some p)) c.as_slice.ensures.value c.in-Some.ensures in
    let a = c.index-entries-position.result in
    let inside : p < length w.entries = omega (arith, i.within, c.in-Some.ensures.0) in
    let own = c.index-entries-position.is ∙ ap (λ (es : List Assigned). get_or es p a) c.entries-entries.ensures.value in
    let code = ap opposite (literal_at w.entries p a inside own) ∙ sym (c.lit.view_is ∙ c.opposite-lit.ensures) in
    let long = length-map w.entries (λ (x : Assigned). x.literal) in
    record {
      within = omega (arith, inside);
      size = c.clear_bit.ensures.len ∙ i.size;
      room = omega (arith, c.insert.ensures.room, i.room);
      taken = taken_next (literals w.entries) (words_have c.loop-position.self-inside.marks.items) (words_have c.clear_bit.new.words.items) (words_have c.self.inside.marks.items) (words_have c.loop-position.codes.words) (words_have c.insert.new.self.words) (words_have c.args.codes.now.words)
          c.loop-position.bound p c.lit.inside.0 i.taken latest (omega (arith, inside, long)) code c.clear_bit.ensures.has c.insert.ensures.has;
    }

pub returns-clause-clear : goal.returns-clause-clear
returns-clause-clear c =
    let o = viewed c.args.trail.now c.self.view_is c.requires.over in
    let room = o.room in
    let i = c.loop-position.invariant in
    let all = taken_all (literals c.args.trail.now.entries) (words_have c.loop-position.self-inside.marks.items) (words_have c.self.inside.marks.items) (words_have c.loop-position.codes.words) (words_have c.args.codes.now.words) c.loop-position.bound i.taken (subst (λ (ws : List ℕ). IsLatest (words_have ws) c.loop-position.bound None) c.as_slice.ensures.value c.in_default.ensures) in
    record { room = omega (arith, room, i.size); none = all.0; count = refl }

pub returns-clause-codes : goal.returns-clause-codes
returns-clause-codes c =
    let i = c.loop-position.invariant in
    let all = taken_all (literals c.args.trail.now.entries) (words_have c.loop-position.self-inside.marks.items) (words_have c.self.inside.marks.items) (words_have c.loop-position.codes.words) (words_have c.args.codes.now.words) c.loop-position.bound i.taken (subst (λ (ws : List ℕ). IsLatest (words_have ws) c.loop-position.bound None) c.as_slice.ensures.value c.in_default.ensures) in
    λ l. all.1 l ∙ ap (λ (m : MarksView). words_have c.args.codes.now.words l || is_marked (words_have m.words) 0 (literals c.args.trail.now.entries) l) c.self.view_is

pub insert-requires : goal.insert-requires
insert-requires c =
    let w = c.args.trail.now in
    let p = c.in-Some.position in
    let a = c.index-entries-position.result in
    let inside : p < length w.entries = omega (arith, c.loop-position.invariant.within, c.in-Some.ensures.0) in
    let own = c.index-entries-position.is ∙ ap (λ (es : List Assigned). get_or es p a) c.entries-entries.ensures.value in
    let low = code_below w.variables (get_or (literals w.entries) p 0) (entry_below w.variables w.entries p c.entries-entries.ensures.below inside) in
    let code = ap opposite (literal_at w.entries p a inside own) ∙ sym (c.lit.view_is ∙ c.opposite-lit.ensures) in
    omega (arith, low, code, c.requires.room, c.loop-position.invariant.room)
