use Rattle.std.proofs.Common.{arith, ◌≡◌, ◌==◌, ◌≤◌, ◌∙◌, ℕ, Bool, true, false, not, filter, get_or, sym, ap}
use Rattle.clause_base.specs.Literal.{opposite}
use Rattle.cdcl_defs.specs.State.{decision_count}
use Rattle.cdcl_tables.specs.Assignment.{literals as true_ones}
use Rattle.bit_sets.specs.Layered.{words_have}
use Rattle.conflict_analysis.specs.own.Resolvent.{MarksView, AreMarks, literals, seen}
use Rattle.conflict_analysis.proofs.Resolvents.{is_now}
use Rattle.conflict_analysis.proofs.Marked.{StandsAt, stands, level_there, counted_mark, remove_over, remove_seen, viewed, room_at}
use Rattle.conflict_analysis.proofs.resolvent.Resolvent.remove.Goals as goal
use Rattle.conflict_analysis.proofs.resolvent.Resolvent.remove.Goals.{After-clear_bit, After-is_current}

pub clear_bit-requires : goal.clear_bit-requires
clear_bit-requires c = room_at c.args.trail.now c.self.inside.marks.items c.self.inside.count c.args.position c.self.view_is c.requires.over c.requires.within c.entries-known.ensures.short

-- the marks, and the literal at the position, whose negation is in the clause
abbrev marks : After-clear_bit → MarksView
marks c = record { words = c.self.inside.marks.items; count = c.self.inside.count }

abbrev lit : After-clear_bit → ℕ
lit c = opposite (get_or (true_ones c.args.trail.now.entries) c.args.position 0)

there : (c : After-clear_bit) → StandsAt c.args.trail.now c.args.position (lit c)
there c = stands c.args.trail.now c.args.position c.entries-known.ensures.apart c.entries-known.ensures.below c.requires.within

over : (c : After-clear_bit) → AreMarks c.args.trail.now (marks c)
over c = viewed c.args.trail.now c.self.view_is c.requires.over

marked : (c : After-clear_bit) → words_have (marks c).words c.args.position ≡ true
marked c = ap (λ (m : MarksView). words_have m.words c.args.position) c.self.view_is ∙ c.requires.marked

removed : (c : After-clear_bit)
    → literals (seen c.args.trail.now (record { words = c.clear_bit.new.words.items; count = c.self.inside.count })) ≡ filter (λ k. not (k == lit c)) (literals (seen c.args.trail.now c.args.self.now))
removed c =
    let w = c.args.trail.now in
    remove_seen w (marks c) c.clear_bit.new.words.items c.self.inside.count c.args.position (lit c) (there c) (over c) (marked c) c.clear_bit.ensures.has
    ∙ ap (λ (m : MarksView). filter (λ k. not (k == lit c)) (literals (seen w m))) c.self.view_is

-- whether it is of the current level; then it is counted
current : (c : After-is_current) (l : ℕ) → StandsAt c.args.trail.now c.args.position l → (b : Bool) → c.is_current.result ≡ b → is_now c.args.trail.now.entries l ≡ b
current c l stands b is = ap (λ (n : ℕ). n == decision_count c.args.trail.now.entries) (level_there c.args.trail.now c.args.position l stands) ∙ sym c.is_current.ensures ∙ is

counted : (c : After-clear_bit) → is_now c.args.trail.now.entries (lit c) ≡ true → 1 ≤ c.self.inside.count
counted c now = counted_mark c.args.trail.now (marks c) c.args.position (lit c) (there c) (over c) (marked c) now

pub overflow_sub-self : goal.overflow_sub-self
overflow_sub-self c =
    let a = (goal.at.overflow_sub-self c).After-clear_bit in
    counted a (current (goal.at.overflow_sub-self c).After-is_current (lit a) (there a) true c.if-is_current.true)

pub returns-then-is_current-clause-over : goal.returns-then-is_current-clause-over
returns-then-is_current-clause-over c =
    let a = (goal.at.returns-then-is_current-clause-over c).After-clear_bit in
    let now = current (goal.at.returns-then-is_current-clause-over c).After-is_current (lit a) (there a) true c.if-is_current.true in
    let one = counted a now in
    remove_over c.args.trail.now (marks a) _ _ c.args.position (lit a) true (there a) (over a) (marked a) c.clear_bit.ensures.len c.clear_bit.ensures.has now (omega (arith, one))

pub returns-then-is_current-clause-removed : goal.returns-then-is_current-clause-removed
returns-then-is_current-clause-removed c = removed (goal.at.returns-then-is_current-clause-removed c).After-clear_bit

pub returns-else-is_current-clause-over : goal.returns-else-is_current-clause-over
returns-else-is_current-clause-over c =
    let a = (goal.at.returns-else-is_current-clause-over c).After-clear_bit in
    let now = current (goal.at.returns-else-is_current-clause-over c).After-is_current (lit a) (there a) false c.if-is_current.false in
    remove_over c.args.trail.now (marks a) _ _ c.args.position (lit a) false (there a) (over a) (marked a) c.clear_bit.ensures.len c.clear_bit.ensures.has now (omega arith)

pub returns-else-is_current-clause-removed : goal.returns-else-is_current-clause-removed
returns-else-is_current-clause-removed c = removed (goal.at.returns-else-is_current-clause-removed c).After-clear_bit
