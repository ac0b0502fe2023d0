use Rattle.std.proofs.Common.{◌∙◌, sym}
use Rattle.pd_model.proofs.Alike.{call_runs, call_stops}
use Rattle.pd_model.proofs.published.Reading.{read_at}
use Rattle.pd_model.proofs.run.run_call.Goals as goal

pub returns-then-not-branch : goal.returns-then-not-branch
returns-then-not-branch c =
    let p = c.args.p.now in
    let call = c.args.call.now in
    let schema = c.in-Some.schema.now in
    let found = read_at c.as_slice.result.now p.schemas call.schema schema (c.as_slice.ensures ∙ c.schemas.ensures.schemas) c.in-Some.ensures.lookup.3.0 c.in-Some.ensures.lookup.1 in
    let met = rw (c.as_slice-objects.ensures, c.as_slice-2.ensures, c.if-not-branch.true) at (sym c.in_ok-are_true.ensures) in
    call_stops p c.args.state.now c.args.state.now call schema c.requires found met

pub returns : goal.returns
returns c =
    let p = c.args.p.now in
    let call = c.args.call.now in
    let schema = c.in-Some.schema.now in
    let found = read_at c.as_slice.result.now p.schemas call.schema schema (c.as_slice.ensures ∙ c.schemas.ensures.schemas) c.in-Some.ensures.lookup.3.0 c.in-Some.ensures.lookup.1 in
    let met = rw (c.as_slice-objects.ensures, c.as_slice-2.ensures, c.if-not-branch.false) at (sym c.in_ok-are_true.ensures) in
    let same = rw (c.as_slice-objects.ensures, c.as_slice-3.ensures) at c.in_ok-apply.ensures in
    call_runs p c.args.state.now c.apply.new.state call schema c.requires found met same
