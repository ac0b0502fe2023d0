use Rattle.std.proofs.Common.{true, false, [], ◌∷◌, Ok, Err, refl, ap, arith, inl, inr, length, sym, ◌∙◌, append-nil}
use Rattle.pl_io.specs.Outside.{Heard}
use Rattle.plan_tasks.proofs.published.Hearing.{heard_is, so_whole, so_front, agrees_same, agrees_one}
use Rattle.plan_tasks.proofs.take.BytesKept.read.Goals as goal

pub returns-in-Ok-Whole-clause-agrees : goal.returns-in-Ok-Whole-clause-agrees
returns-in-Ok-Whole-clause-agrees g c =
    let so = so_whole (g.S.Shelf.told c.args.shelf.now c.args.name.now) c.most_of.result c.new-bytes.result.items c.take.new.into.items c.new-bytes.ensures.items (c.in-Ok-Whole.ensures.whole (ap Ok c.in-Ok-Whole.field-0-is)) in
    agrees_one (g.S.Shelf.told c.args.shelf.now) (g.S.Shelf.lacks c.args.shelf.now) true (g.S.Shelf.heard c.args.shelf.now) (g.S.Shelf.heard c.take.new.self) c.args.name.now c.new-bytes.result.items c.take.new.into.items c.new-bytes.ensures.items (c.in-Ok-Whole.ensures.heard (ap Ok c.in-Ok-Whole.field-0-is)) c.in-Ok-Whole.ensures.missing so

pub returns-in-Ok-Whole-clause-kept : goal.returns-in-Ok-Whole-clause-kept
returns-in-Ok-Whole-clause-kept g c =
    let e = ap Ok c.in-Ok-Whole.field-0-is in
    let fits = c.in-Ok-Whole.ensures.whole_fits e in
    let none = c.new-bytes.ensures.items in (
      (c.args.name.now, (true, c.take.new.into.items)),
      heard_is true (g.S.Shelf.heard c.args.shelf.now) (g.S.Shelf.heard c.take.new.self) c.args.name.now c.new-bytes.result.items c.take.new.into.items none (c.in-Ok-Whole.ensures.heard e),
      (rw c.of.ensures refl, rw c.of.ensures (omega (arith, fits, ap length none, c.most_of.ensures.value))),
    )

pub returns-in-Ok-Longer-clause-agrees : goal.returns-in-Ok-Longer-clause-agrees
returns-in-Ok-Longer-clause-agrees g c =
    let so = so_front (g.S.Shelf.told c.args.shelf.now c.args.name.now) c.most_of.result c.new-bytes.result.items c.take.new.into.items c.new-bytes.ensures.items (c.in-Ok-Longer.ensures.longer (ap Ok c.in-Ok-Longer.field-0-is)) in
    agrees_one (g.S.Shelf.told c.args.shelf.now) (g.S.Shelf.lacks c.args.shelf.now) false (g.S.Shelf.heard c.args.shelf.now) (g.S.Shelf.heard c.take.new.self) c.args.name.now c.new-bytes.result.items c.take.new.into.items c.new-bytes.ensures.items (c.in-Ok-Longer.ensures.heard_front (ap Ok c.in-Ok-Longer.field-0-is)) c.in-Ok-Longer.ensures.missing so

pub returns-in-Ok-Longer-clause-ends : goal.returns-in-Ok-Longer-clause-ends
returns-in-Ok-Longer-clause-ends g c before rises =
    let e = ap Ok c.in-Ok-Longer.field-0-is in
    let full = c.in-Ok-Longer.ensures.longer_fills e in
    let none = c.new-bytes.ensures.items in
    let front : Heard = (c.args.name.now, (false, c.take.new.into.items)) in (
      front ∷ [],
      heard_is false (g.S.Shelf.heard c.args.shelf.now) (g.S.Shelf.heard c.take.new.self) c.args.name.now c.new-bytes.result.items c.take.new.into.items none (c.in-Ok-Longer.ensures.heard_front e),
      inr (refl, (front, refl, (c.take.new.into.items, refl, omega (arith, full, ap length none, c.most_of.ensures.value)))),
    )

pub returns-in-Err-Failed-clause-agrees : goal.returns-in-Err-Failed-clause-agrees
returns-in-Err-Failed-clause-agrees g c = agrees_same (g.S.Shelf.told c.args.shelf.now) (g.S.Shelf.lacks c.args.shelf.now) (g.S.Shelf.heard c.args.shelf.now) (g.S.Shelf.heard c.take.new.self) c.in-Err-Failed.ensures.unheard

pub returns-in-Err-Failed-clause-ends : goal.returns-in-Err-Failed-clause-ends
returns-in-Err-Failed-clause-ends g c before rises =
    let rose = c.in-Err-Failed.ensures.rose (ap Err c.in-Err-Failed.field-0-is) in
    let more = rises c.args.name.now in
    ([], c.in-Err-Failed.ensures.unheard ∙ sym (append-nil (g.S.Shelf.heard c.args.shelf.now)), inl (refl, omega (arith, rose, more), refl))
