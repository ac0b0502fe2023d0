use Rattle.std.proofs.Common.{Err}
use Rattle.std.proofs.lemmas.List.Sorted.{searched}
use Rattle.lrat_judge.proofs.Places.{searched_none, not_falling}
use Rattle.lrat_judge.proofs.ids.place_in.Goals as goal

pub returns-in-Err-clause-none : goal.returns-in-Err-clause-none
returns-in-Err-clause-none c =
    let ids = c.args.ids.now in
    let s = searched ids c.args.id (Err c.in-Err.field-0) c.in-Err.ensures.position (not_falling ids c.requires) in
    searched_none ids c.args.id (c.in-Err.field-0, s.1, s.2)
