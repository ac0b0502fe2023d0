use Rattle.std.proofs.Common.{arith, Some}
use Rattle.rup_check.proofs.PagesLaws.{last_whole_by, last_more_by}
use Rattle.rup_check.proofs.pages.push_last.Goals as goal

pub returns-then-len-eq-PAGE-clause-whole : goal.returns-then-len-eq-PAGE-clause-whole
returns-then-len-eq-PAGE-clause-whole c e =
    let own = c.len-count.ensures in
    let long = c.len.ensures.value in
    let full = c.if-len-eq-PAGE.true in
    last_whole_by c.args.pages.now.items c.len-count.result c.index_mut-last.result.now (omega (arith, own)) c.if-count-eq0.false c.index_mut-last.ensures.value c.requires (omega (arith, long, full))

pub returns-clause-full : goal.returns-clause-full
returns-clause-full c =
    let own = c.len-count.ensures in
    let long = c.len.ensures.value in
    let few = c.len.ensures.few in
    let room = c.if-len-eq-PAGE.false in
    (last_more_by c.args.pages.now.items c.len-count.result c.index_mut-last.result.now (omega (arith, own)) c.if-count-eq0.false c.index_mut-last.ensures.value c.requires c.push.new.self (Some c.args.clause.now) c.in_ok-push.ensures.ok (omega (arith, long, few, room))).0

pub returns-clause-added : goal.returns-clause-added
returns-clause-added c e =
    let own = c.len-count.ensures in
    let long = c.len.ensures.value in
    let few = c.len.ensures.few in
    let room = c.if-len-eq-PAGE.false in
    (last_more_by c.args.pages.now.items c.len-count.result c.index_mut-last.result.now (omega (arith, own)) c.if-count-eq0.false c.index_mut-last.ensures.value c.requires c.push.new.self (Some c.args.clause.now) c.in_ok-push.ensures.ok (omega (arith, long, few, room))).1
