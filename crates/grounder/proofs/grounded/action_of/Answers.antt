use Rattle.std.proofs.Common.{◌∙◌, length, refl}
use Rattle.std.proofs.lemmas.Option.{slice_get_read}
use Rattle.grounder.proofs.Put.{action_is}
use Rattle.grounder.proofs.grounded.action_of.Goals as goal

pub returns : goal.returns
returns c =
    let got = rw (c.as_slice.ensures, c.schemas.ensures.schemas) at
    (slice_get_read c.as_slice.result.now (length c.as_slice.result.now) c.args.call.now.schema c.in-Some.schema.now refl c.in-Some.ensures.lookup.3.0 c.in-Some.ensures.lookup.1) in
    let pre = rw (c.as_slice-objects.ensures, c.as_slice-2.ensures) at c.in_ok-pre.ensures in
    let effects = rw (c.as_slice-objects.ensures, c.as_slice-3.ensures) at c.in_ok-effects.ensures in
    c.new-2.ensures ∙ (λ i. record { precondition = pre i; effects = effects i }) ∙ action_is c.args.known.now.domains.now c.args.known.now.facts c.args.call.now c.in-Some.schema.now got
