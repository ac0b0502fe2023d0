use Rattle.std.proofs.Common.{◌∙◌, ap, sym}
use Rattle.pd_model.specs.Fits.{is_call_of, all_fit}
use Rattle.pd_model.proofs.published.Reading.{read_at, nothing_at}
use Rattle.pd_model.proofs.pddl.Pddl.is_call.Goals as goal

pub returns-in-Some : goal.returns-in-Some
returns-in-Some c =
    let p = c.args.self.now in
    let call = c.args.call.now in
    let schema = c.in-Some.schema.now in
    let found = read_at c.as_slice.result.now p.schemas call.schema schema (c.as_slice.ensures ∙ c.schemas.ensures.schemas) c.in-Some.ensures.lookup.3.0 c.in-Some.ensures.lookup.1 in
    c.fit_types.ensures ∙ (λ i. all_fit p (c.as_slice-in-Some.ensures i) (c.as_slice-in-Some-2.ensures i)) ∙ sym (ap (λ (o : _). is_call_of p o call.objects) found)

pub returns-in-None : goal.returns-in-None
returns-in-None c =
    let p = c.args.self.now in
    sym (ap (λ (o : _). is_call_of p o c.args.call.now.objects) (nothing_at c.as_slice.result.now p.schemas c.args.call.now.schema (c.as_slice.ensures ∙ c.schemas.ensures.schemas) c.in-None.ensures.lookup.0))
