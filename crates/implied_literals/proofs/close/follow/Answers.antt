use Rattle.std.proofs.Common.{arith, ◌≡◌, ◌∙◌, ap, sym, subst, not, get_or, ◌&&◌, ◌||◌, ◌==◌, ◌*◌, ◌<◌, Bool, ℕ, List, [], length}
use Rattle.std.proofs.lemmas.List.{get_or_read}
use Rattle.bit_sets.specs.Rows.{row_has}
use Rattle.implied_literals.specs.Rows.{row_at, clause_in}
use Rattle.implied_literals.proofs.published.Closing.{follows_done}
use Rattle.implied_literals.proofs.close.follow.Goals as goal

pub returns-then-is_done : goal.returns-then-is_done
returns-then-is_done c =
    let V = clause_in c.args.done.now.rules.now.clauses.now in
    let R = row_has c.args.row.now in
    let T = row_has c.args.spare.now.rest in
    let is = c.is_done.ensures c.if-is_done.true in
    let within = c.requires.growing.within c.args.x (c.requires.growing.listed c.args.x c.requires.todo) in
    let lt : c.args.x < length c.args.done.now.rows.now = let n = c.requires.done.long in omega arith in
    let read = sym c.index-done-x.is ∙ get_or_read c.args.done.now.rows.now c.args.x c.index-done-x.result lt c.index-done-x.is [] in
    let f = follows_done V (2 * c.args.done.now.rules.now.facts) c.requires.done.rules.clauses.within R T c.args.x c.requires.growing c.requires.todo
    (row_has (row_at c.args.done.now.rows.now c.args.x)) (row_has c.unite.new.self) (row_has c.subtract.new.self) (c.requires.done.each c.args.x is.0 is.1)
    (λ m. subst (λ (r : List ℕ). row_has c.unite.new.self m ≡ (R m || row_has r m)) read (c.in_ok-unite.ensures.has m))
    (λ m. subst (λ (r : List ℕ). row_has c.subtract.new.self m ≡ ((not (c.args.x == m) && T m) && not (row_has r m))) read
    (c.subtract.ensures.has m ∙ ap (λ (b : Bool). b && not (row_has (get_or c.args.done.now.rows.now c.args.x c.index-done-x.result) m)) (c.remove.ensures.has m))) in
    record { grown = f.grown; growing = f.growing; less = f.less }
