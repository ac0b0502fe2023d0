use Rattle.std.proofs.Common.{◌≡◌, ◌∙◌, ◌∷◌, ◌++◌, [], codes, decimal, refl, rules}
use Rattle.proof_log.specs.Step.{told}
use Rattle.proof_log.proofs.Lengths.{entries_done, entry_written, first_then_all, first_written}
use Rattle.proof_log.proofs.write.write_proof.Goals as goal

pub loop-step-init : goal.loop-step-init
loop-step-init c =
    let first : c.extend_from_slice.new.self.items ≡ codes "horizon " = search rules in
    let digits : c.push_number.new.text.items ≡ c.extend_from_slice.new.self.items ++ decimal c.args.horizon = search rules in
    let whole : c.push.new.self.items ≡ c.push_number.new.text.items ++ 10 ∷ [] = search rules in
    let line = first_written c.args.horizon [] c.extend_from_slice.new.self.items c.push_number.new.text.items c.push.new.self.items refl first digits whole in
    first_then_all c.args.horizon c.args.log.now c.entries-reader.result c.push.new.self.items line c.entries-reader.ensures

pub loop-step-preserved : goal.loop-step-preserved
loop-step-preserved c =
    entry_written c.loop-step.reader c.next.new.self (told c.in-Some.step) c.loop-step.text.items c.push_entry.new.text.items _ c.in-Some.ensures.some c.loop-step.invariant c.in_ok-push_entry.ensures

pub returns : goal.returns
returns c =
    let none : c.loop-step.reader ≡ [] = search rules in
    c.of.ensures ∙ entries_done c.args.horizon c.loop-step.reader c.args.log.now c.loop-step.text.items none c.loop-step.invariant
