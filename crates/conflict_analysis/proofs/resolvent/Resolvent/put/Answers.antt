use Rattle.std.proofs.Common.{arith, ◌≡◌, ◌==◌, ◌∙◌, ℕ, List, Bool, true, false, length, sym, ap, subst, refl}
use Rattle.containers.specs.Rising.{put}
use Rattle.cdcl_defs.specs.State.{decision_count}
use Rattle.bit_sets.specs.Layered.{words_have}
use Rattle.conflict_analysis.specs.own.Resolvent.{MarksView, AreMarks, literals, seen}
use Rattle.conflict_analysis.proofs.Resolvents.{count_small, is_now}
use Rattle.conflict_analysis.proofs.Marked.{StandsAt, put_marked, put_over, put_seen, viewed, room_at}
use Rattle.conflict_analysis.proofs.resolvent.Resolvent.put.Goals as goal
use Rattle.conflict_analysis.proofs.resolvent.Resolvent.put.Goals.{After-has_mark, After-set_bit, After-is_current}

pub has_mark-requires : goal.has_mark-requires
has_mark-requires c =
    let room = room_at c.args.trail.now c.self.inside.marks.items c.self.inside.count c.position-position.result c.self.view_is c.requires.over c.position-position.ensures.within c.entries-known.ensures.short in
    omega (arith, room, ap (λ (ws : List ℕ). length ws) c.as_slice.ensures.value)

pub set_bit-requires : goal.set_bit-requires
set_bit-requires c = room_at c.args.trail.now c.self.inside.marks.items c.self.inside.count c.position-position.result c.self.view_is c.requires.over c.position-position.ensures.within c.entries-known.ensures.short

-- the marks, and the entry that made the literal false
abbrev marks : After-has_mark → MarksView
marks c = record { words = c.self.inside.marks.items; count = c.self.inside.count }

there : (c : After-has_mark) → StandsAt c.args.trail.now c.position-position.result c.args.lit
there c = record { apart = c.entries-known.ensures.apart; within = c.position-position.ensures.within; place = c.position-position.ensures.place; below = c.position-position.ensures.below }

over : (c : After-has_mark) → AreMarks c.args.trail.now (marks c)
over c = viewed c.args.trail.now c.self.view_is c.requires.over

mark : (c : After-has_mark) (b : Bool) → c.has_mark.result ≡ b → words_have c.self.inside.marks.items c.position-position.result ≡ b
mark c b is = sym (ap (λ (ws : List ℕ). words_have ws c.position-position.result) c.as_slice.ensures.value) ∙ sym c.has_mark.ensures ∙ is

-- whether it is of the current level
current : (c : After-is_current) (b : Bool) → c.is_current.result ≡ b → is_now c.args.trail.now.entries c.args.lit ≡ b
current c b is = ap (λ (n : ℕ). n == decision_count c.args.trail.now.entries) (sym c.position-position.ensures.level) ∙ sym c.is_current.ensures ∙ is

-- what the marks tell with one more
more : (c : After-set_bit) → StandsAt c.args.trail.now c.position-position.result c.args.lit
    → AreMarks c.args.trail.now (record { words = c.self.inside.marks.items; count = c.self.inside.count })
    → literals (seen c.args.trail.now (record { words = c.set_bit.new.words.items; count = c.self.inside.count })) ≡ put (literals (seen c.args.trail.now c.args.self.now)) c.args.lit
more c stands over =
    let w = c.args.trail.now in
    put_seen w (record { words = c.self.inside.marks.items; count = c.self.inside.count }) c.set_bit.new.words.items c.self.inside.count c.position-position.result c.args.lit stands over c.set_bit.ensures.has
    ∙ ap (λ (m : MarksView). put (literals (seen w m)) c.args.lit) c.self.view_is

pub returns-then-has_mark-clause-put : goal.returns-then-has_mark-clause-put
returns-then-has_mark-clause-put c =
    let w = c.args.trail.now in
    let a = (goal.at.returns-then-has_mark-clause-put c).After-has_mark in
    subst (λ (m : MarksView). literals (seen w m) ≡ put (literals (seen w m)) c.args.lit) c.self.view_is
    (put_marked w (marks a) c.position-position.result c.args.lit (there a) (mark a true c.if-has_mark.true))

pub overflow_add-self : goal.overflow_add-self
overflow_add-self c =
    let w = c.args.trail.now in
    let a = (goal.at.overflow_add-self c).After-has_mark in
    let few = count_small w (seen w (marks a)) (seen w (marks a)) refl (over a).over in
    omega (arith, few, c.entries-known.ensures.small)

pub returns-then-is_current-clause-over : goal.returns-then-is_current-clause-over
returns-then-is_current-clause-over c =
    let a = (goal.at.returns-then-is_current-clause-over c).After-has_mark in
    let now = current (goal.at.returns-then-is_current-clause-over c).After-is_current true c.if-is_current.true in
    put_over c.args.trail.now (marks a) _ _ c.position-position.result c.args.lit true (there a) (over a) c.requires.is_false (mark a false c.if-has_mark.false) c.set_bit.ensures.len c.set_bit.ensures.has now (omega arith)

pub returns-then-is_current-clause-put : goal.returns-then-is_current-clause-put
returns-then-is_current-clause-put c =
    let a = (goal.at.returns-then-is_current-clause-put c).After-has_mark in
    more (goal.at.returns-then-is_current-clause-put c).After-set_bit (there a) (over a)

pub returns-else-is_current-clause-over : goal.returns-else-is_current-clause-over
returns-else-is_current-clause-over c =
    let a = (goal.at.returns-else-is_current-clause-over c).After-has_mark in
    let now = current (goal.at.returns-else-is_current-clause-over c).After-is_current false c.if-is_current.false in
    put_over c.args.trail.now (marks a) _ _ c.position-position.result c.args.lit false (there a) (over a) c.requires.is_false (mark a false c.if-has_mark.false) c.set_bit.ensures.len c.set_bit.ensures.has now (omega arith)

pub returns-else-is_current-clause-put : goal.returns-else-is_current-clause-put
returns-else-is_current-clause-put c =
    let a = (goal.at.returns-else-is_current-clause-put c).After-has_mark in
    more (goal.at.returns-else-is_current-clause-put c).After-set_bit (there a) (over a)
