use Rattle.std.proofs.Common.{arith, ◌≡◌, ◌∙◌, List, ℕ, true, replicate, length, sym, ap, subst}
use Rattle.clause_base.specs.Clause.{IsClause}
use Rattle.cdcl_defs.specs.State.{clause_at}
use Rattle.propagation.specs.own.Added.{RestsWith}
use Rattle.propagation.specs.own.Asks.{IsAsk}
use Rattle.propagation.specs.own.Given.{AreGiven}
use Rattle.propagation.specs.own.Visit.{slot_clauses}
use Rattle.propagation.proofs.Asks.{fit_read}
use Rattle.propagation.proofs.Enters.{pair_loose}
use Rattle.propagation.proofs.Filters.{clause_is}
use Rattle.propagation.proofs.Givens.{given_wider, given_two, given_short, given_long}
use Rattle.propagation.proofs.Slotted.{slots_long}
use Rattle.propagation.proofs.given.Given.enter.Goals as goal
use Rattle.propagation.proofs.given.Given.enter.Goals.{After-clause-clause, After-widen}

read : (c : After-clause-clause) → c.clause-clause.result ≡ clause_at c.args.store.now.clauses c.args.number
read c = c.clause-clause.ensures ∙ sym (clause_is c.args.store.now.clauses c.args.number)

wide : (c : After-widen) → AreGiven c.args.codes c.args.store.now.clauses c.args.number (record c.args.self.now { lists = c.widen.new.self })
wide c = given_wider c.args.codes c.args.store.now.clauses c.args.number c.args.self.now c.widen.new.self (omega (arith, c.requires.inside)) c.requires.given c.widen.ensures.wider

pub returns-then-length-eq2 : goal.returns-then-length-eq2
returns-then-length-eq2 c =
    let here = (goal.at.returns-then-length-eq2 c).After-clause-clause in
    given_two c.args.codes c.args.store.now.clauses c.args.number c.args.self.now c.requires.given (omega (arith, ap (λ (xs : List ℕ). length xs) (read here), c.len-length.ensures, c.if-length-eq2.true))

pub returns-then-length-lt2 : goal.returns-then-length-lt2
returns-then-length-lt2 c =
    let here = (goal.at.returns-then-length-lt2 c).After-clause-clause in
    given_short c.args.codes c.args.store.now.clauses c.args.number c.only_ask.result c.args.self.now c.put.new.self c.requires.given
    (omega (arith, ap (λ (xs : List ℕ). length xs) (read here), c.len-length.ensures, c.if-length-lt2.true)) c.requires.inside
    (λ on. subst (λ (xs : List ℕ). IsAsk on xs c.only_ask.result) (read here) (c.only_ask.ensures on)) c.put.ensures

pub clause-clause-requires-clause-read : goal.clause-clause-requires-clause-read
clause-clause-requires-clause-read c = c.requires.read c.args.number

pub put-requires-clause-number : goal.put-requires-clause-number
put-requires-clause-number c = omega (arith, c.requires.inside, c.requires.given.room)

pub put-requires-clause-ask : goal.put-requires-clause-ask
put-requires-clause-ask c = omega (arith, c.requires.inside, c.requires.given.long)

pub widen-requires : goal.widen-requires
widen-requires c =
    let g = c.requires.given in
    let long = slots_long c.args.store.now.clauses c.args.self.now.slots.items in
    record {
      few = omega (arith, c.requires.inside, c.requires.few);
      few_slots = omega (arith, c.requires.inside, c.requires.few, g.few, c.len-slot.ensures);
      numbers = omega (arith, c.requires.inside, g.room);
      asks = omega (arith, c.requires.inside, g.long);
      nodes = omega (arith, g.rest.many, long, c.len-slot.ensures);
      resume_at = omega (arith, g.rest.long, long, c.len-slot.ensures);
    }

pub enter_last-requires-clause-below : goal.enter_last-requires-clause-below
enter_last-requires-clause-below c = fit_read c.args.store.now.clauses c.args.codes c.args.number c.clause-clause.result c.requires.fit c.clause-clause.ensures

pub enter_last-requires-clause-lawful : goal.enter_last-requires-clause-lawful
enter_last-requires-clause-lawful c =
    subst IsClause (sym (read (goal.at.enter_last-requires-clause-lawful c).After-clause-clause)) (c.requires.fit.lawful c.args.number)

pub enter_last-requires-clause-short : goal.enter_last-requires-clause-short
enter_last-requires-clause-short c =
    omega (arith, c.requires.fit.short c.args.number, ap (λ (xs : List ℕ). length xs) (read (goal.at.enter_last-requires-clause-short c).After-clause-clause))

pub enter_last-requires-clause-codes : goal.enter_last-requires-clause-codes
enter_last-requires-clause-codes c = (wide (goal.at.enter_last-requires-clause-codes c).After-widen).rest.codes

pub enter_last-requires-clause-loose : goal.enter_last-requires-clause-loose
enter_last-requires-clause-loose c =
    let slots = c.args.self.now.slots.items in
    let w = c.widen.new.self in
    pair_loose (slot_clauses c.args.store.now.clauses slots) w.resume_at.items w.chains.heads.items w.chains.nodes.items c.args.codes (replicate (length slots) true) c.len-slot.result
    (wide (goal.at.enter_last-requires-clause-loose c).After-widen).rest (omega (arith, c.len-slot.ensures, slots_long c.args.store.now.clauses slots))

pub returns : goal.returns
returns c =
    let here = (goal.at.returns c).After-clause-clause in
    let store = c.args.store.now.clauses in
    let g = record c.args.self.now { lists = c.widen.new.self } in
    let g' = record c.args.self.now { slots = c.push.new.self; lists = c.enter_last.new.self } in
    let rests = subst (λ (n : ℕ). RestsWith (clause_at store c.args.number) n c.args.codes g.lists g'.lists)
    (let f : c.len-slot.result ≡ length c.args.self.now.slots.items = omega (arith, c.len-slot.ensures) in f)
    (subst (λ (xs : List ℕ). RestsWith xs c.len-slot.result c.args.codes g.lists g'.lists) (read here) c.enter_last.ensures.rest) in
    given_long c.args.codes store c.args.number g g' (wide (goal.at.returns c).After-widen)
    (omega (arith, ap (λ (xs : List ℕ). length xs) (read here), c.len-length.ensures, c.if-length-eq2.false, c.if-length-lt2.false)) c.in_ok-push.ensures.items c.enter_last.ensures.pending rests
