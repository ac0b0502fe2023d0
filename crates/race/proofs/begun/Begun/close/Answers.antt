use Rattle.std.proofs.Common.{arith, Vec, Global, ◌≤◌, length, ℕ, List, ◌∙◌, sym, ap, refl, subst}
use Rattle.horizon_rates.specs.Ledger.{Account, left_of}
use Rattle.horizon_run.specs.Run.{RunView}
use Rattle.race_outcome.specs.declared.line.Line.{Line}
use Rattle.race.specs.Runs.{moved_all, conflicts_of, IsBooked}
use Rattle.race.proofs.published.Advances.{tied-advanced, length-moved}
use Rattle.race.proofs.Booked.{booked}
use Rattle.race.proofs.begun.Begun.close.Goals as goal

pub conflicts_of-now_used-requires : goal.conflicts_of-now_used-requires
conflicts_of-now_used-requires g c =
    let h = c.requires in
    let few = h.began.out.few in
    omega (arith, ap length c.as_slice.ensures.value, ap length h.moved, length-moved h.first h.gs, few)

pub book-requires : goal.book-requires
book-requires g c =
    let h = c.requires in
    let b = h.began in
    let out = b.out in
    let r = b.racing in
    let small : r.ledger.budget ≤ 1000000 = omega (arith, b.tied.budget, b.tied.small) in
    let is = booked g.input r.runs.items c.args.runs.items h.gs r.ledger c.args.self.ledger (left_of r.ledger) (left_of c.args.self.ledger)
    c.args.self.used c.conflicts_of-now_used.result b.tied.runs b.tied.aside small out.ledger out.sums out.sums_now refl refl
    (h.moved ∙ ap (λ (rs : List RunView). moved_all rs h.gs) out.runs_are) out.used
    (c.conflicts_of-now_used.ensures ∙ ap conflicts_of c.as_slice.ensures.value) in
    subst (λ (n : ℕ). IsBooked c.args.self.ledger.set_aside n c.args.self.used c.conflicts_of-now_used.result) (sym out.granted) is

pub overflow_add-result : goal.overflow_add-result
overflow_add-result g c =
    let b = c.requires.began in
    let few = b.few in
    let spent = ap (λ (a : Account). a.spent) b.out.ledger in
    omega (arith, few, spent, b.tied.within, b.tied.small)

pub returns-clause-tied : goal.returns-clause-tied
returns-clause-tied g c =
    let h = c.requires in
    let b = h.began in
    let out = b.out in
    let r = b.racing in
    let spent = ap (λ (a : Account). a.spent) out.ledger in
    let used = out.used in
    let now = c.conflicts_of-now_used.ensures ∙ ap conflicts_of c.as_slice.ensures.value in
    tied-advanced g.input r _ h.gs b.tied out.window (ap (λ (ls : Vec Line Global). ls.items) out.lines) out.last
    (h.moved ∙ ap (λ (rs : List RunView). moved_all rs h.gs) out.runs_are)
    c.book.ensures.freed
    (c.book.ensures.budget ∙ ap (λ (a : Account). a.budget) out.ledger)
    (omega (arith, spent, used, now, c.book.ensures.spent))
    c.book.ensures.sums
