use Rattle.std.proofs.Common.{arith, ◌≡◌, ◌+◌, ◌∙◌, ℕ, sym, ap, refl, subst, map, None}
use Rattle.clause_base.specs.Formula.{Cnf}
use Rattle.horizon_rates.specs.Ledger.{Account}
use Rattle.step_encoding.specs.Numbers.{literals_of}
use Rattle.race_outcome.specs.Ends.{line_view}
use Rattle.race.specs.Grants.{advanced}
use Rattle.race.specs.Race.{TooLarge, judged, after_rounds}
use Rattle.race.specs.own.Filling.{racing_of}
use Rattle.race.specs.Runs.{AreLow}
use Rattle.race.specs.Starts.{too_large, filled}
use Rattle.race.specs.Tied.{race_state}
use Rattle.race.proofs.published.Advances.{used-same}
use Rattle.race.proofs.Fills.{same-state, same-tied, same-books}
use Rattle.race.proofs.published.Starts.{large}
use Rattle.race.proofs.published.Ends.{round-too_large, round-on}
use Rattle.race.proofs.Rounds.{after-next, ends-by}
use Rattle.race.proofs.racing.Racing.open.Goals as goal

pub fill-requires : goal.fill-requires
fill-requires g c κs within =
    let same = c.in_ok-filling.ensures in
    let tied = same-tied g.input c.args.self (racing_of c.in_ok-filling.filling) same c.requires.1.0.tied in
    (within, (tied, (subst AreLow (sym same.runs) c.requires.1.0.low, c.requires.1.1)))

pub grant-requires : goal.grant-requires
grant-requires g c =
    let old = c.args.self in
    let new = racing_of c.fill.new.self in
    let books = same-books old (racing_of c.in_ok-filling.filling) new c.in_ok-filling.ensures c.in_ok-fill.ensures.books in
    (c.in_ok-fill.ensures.tied, (c.in_ok-fill.ensures.low, (c.requires.1.1.0, c.used-used.ensures ∙ used-same g.input old new c.requires.1.0.tied c.in_ok-fill.ensures.tied books)))

pub returns-in-Some-clause-large : goal.returns-in-Some-clause-large
returns-in-Some-clause-large g c =
    let h = c.in-Some.horizon in
    let between = c.requires.1.0 in
    let few = between.few in
    let within = between.tied.within in
    let starts = c.in_ok-fill.ensures.filled ∙ ap (filled g.input) (same-state c.args.self (racing_of c.in_ok-filling.filling) c.in_ok-filling.ensures) in
    let some = ap (too_large g.input) (sym starts) ∙ (sym c.too_large.ensures.value ∙ c.in-Some.is) in
    let literals : c.size-count.result ≡ literals_of (g.input.formula h) = c.size-count.ensures.size ∙ ap (λ (f : ℕ → Cnf). literals_of (f h)) (sym c.requires.1.1.1.1.0) in
    let over = large g.input (race_state c.args.self) h some in
    let at = after-next g.input c.args.self.rounds (race_state c.args.self) between.after ∙ round-too_large g.input (race_state c.args.self) h some in
    (ends-by g.input (c.args.self.rounds + 1) (g.input.budget + 1) (TooLarge h) at refl (omega (arith, few, within)), literals, omega (arith, literals, over))

pub returns-clause-begun : goal.returns-clause-begun
returns-clause-begun g c =
    let between = c.requires.1.0 in
    let racing = racing_of c.fill.new.self in
    let starts = c.in_ok-fill.ensures.filled ∙ ap (filled g.input) (same-state c.args.self (racing_of c.in_ok-filling.filling) c.in_ok-filling.ensures) in
    let out = c.in_ok-grant.ensures.granted in
    let books = same-books c.args.self (racing_of c.in_ok-filling.filling) racing c.in_ok-filling.ensures c.in_ok-fill.ensures.books in
    let empty : c.too_large.result ≡ None = cc in
    let none = sym c.too_large.ensures.value ∙ empty in
    let spent = ap (λ (a : Account). a.spent) out.ledger ∙ ap (λ (a : Account). a.spent) books.ledger in
    let few = between.few in
    let rounds = out.rounds ∙ books.rounds in
    record {
      racing = racing;
      tied = c.in_ok-fill.ensures.tied;
      low = c.in_ok-fill.ensures.low;
      startable = none;
      out = out;
      since = race_state c.args.self;
      after = ap (after_rounds g.input) rounds ∙ between.after;
      closed = ap (λ ls. map line_view ls.items) (out.lines ∙ books.lines);
      spent = spent ∙ between.tied.spent;
      few = omega (arith, few, spent, rounds);
      comes = round-on g.input (race_state c.args.self) (ap (too_large g.input) (sym starts) ∙ none) ∙ ap (λ race. judged g.input (advanced g.input race)) (sym starts);
    }
