use Rattle.std.proofs.Common.{arith, sym, subst}
use Rattle.never_text.specs.Reading.{IsReading}
use Rattle.never_text.specs.own.Reading.{told_by}
use Rattle.never_text.proofs.ReadLaw.{at_fault, at_end, usable}
use Rattle.never_text.proofs.read.read.Goals as goal

pub returns-in-Some-2-clause-exact : goal.returns-in-Some-2-clause-exact
returns-in-Some-2-clause-exact c =
    let left = rw c.in-Some.is at c.reading.invariant.left in
    let stops = rw (c.in-Some-2.is, c.reading.invariant.facts) at c.in_ok-fault.ensures.told in
    let first = c.next_line.ensures.first in
    at_fault c.args.facts c.args.text.now c.in-Some.rest.now c.next_line.result.0.now (told_by c.reading.reader) c.reading.at c.in-Some-2.fault first.0 first.1 left.0 stops

pub reading-smaller : goal.reading-smaller
reading-smaller c = let left = rw c.in-Some.is at c.reading.invariant.left in omega (arith, left.1)

pub returns-clause-exact : goal.returns-clause-exact
returns-clause-exact c =
    let all = rw c.in_default.is at c.reading.invariant.left in
    subst (IsReading c.finish.result) (sym (at_end c.args.facts c.args.text.now (told_by c.reading.reader) all)) c.finish.ensures

pub returns-clause-usable : goal.returns-clause-usable
returns-clause-usable c =
    let all = rw c.in_default.is at c.reading.invariant.left in
    usable c.args.facts c.args.text.now c.requires.small c.finish.result (subst (IsReading c.finish.result) (sym (at_end c.args.facts c.args.text.now (told_by c.reading.reader) all)) c.finish.ensures)
