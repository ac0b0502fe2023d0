use Rattle.std.proofs.Common.{rules, ◌≡◌, ◌-◌, ◌<◌, length}
use Rattle.std.proofs.lemmas.List.{get_or_read}
use Rattle.lrat_judge.proofs.Places.{most_dense, is_dense, most_later, is_later}
use Rattle.lrat_judge.proofs.ids.IdTable.last.Goals as goal

pub returns-then-count-eq0-clause-most : goal.returns-then-count-eq0-clause-most
returns-then-count-eq0-clause-most c =
    let none : length c.self.inside.later.items ≡ 0 = search rules in
    most_dense c.self.inside.dense c.self.inside.later.items c.args.self.now c.self.view_is none

pub returns-then-count-eq0-clause-is : goal.returns-then-count-eq0-clause-is
returns-then-count-eq0-clause-is c = is_dense c.self.inside.dense c.self.inside.later.items c.args.self.now c.self.view_is

pub returns-else-count-eq0-clause-most : goal.returns-else-count-eq0-clause-most
returns-else-count-eq0-clause-most c =
    let later = c.self.inside.later.items in
    let place = c.len-count.result - 1 in
    let last : place ≡ length later - 1 = search rules in
    let within : place < length later = search rules in
    most_later c.self.inside.dense later c.args.self.now place c.index.result.now c.self.view_is c.self.invariant last within (get_or_read later place c.index.result.now within c.index.ensures 0)

pub returns-else-count-eq0-clause-is : goal.returns-else-count-eq0-clause-is
returns-else-count-eq0-clause-is c _ =
    let later = c.self.inside.later.items in
    let place = c.len-count.result - 1 in
    let within : place < length later = search rules in
    is_later c.self.inside.dense later c.args.self.now place c.index.result.now c.self.view_is within (get_or_read later place c.index.result.now within c.index.ensures 0)
