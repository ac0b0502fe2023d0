use Rattle.std.proofs.Common.{◌≡◌, ◌∙◌, ap, sym, subst, length}
use Rattle.state_store.specs.Packed.{unpacked, IsPacked}
use Rattle.state_store.proofs.published.RowLaw.{length-row}
use Rattle.gt_core.proofs.published.Within.{lawful}
use Rattle.state_search.proofs.room.Room.new.Goals as goal

pub returns-clause-room : goal.returns-clause-room
returns-clause-room c =
    let facts : length c.init.result.now ≡ c.args.task.now.facts = ap length c.init.ensures ∙ (lawful c.args.task.now c.facts-facts.ensures.lawful).initial in
    let first : IsPacked c.args.task.now.facts c.in_ok-first.first.items = subst (λ n. IsPacked n c.in_ok-first.first.items) facts c.in_ok-first.ensures.packed in
    let long = length-row c.args.task.now.facts c.in_ok-first.first.items first in
    record {
      facts = ap (λ s. s.facts) c.in_ok-store.ensures ∙ c.facts.ensures.facts;
      ways = c.in_ok-new.ensures;
      first = first;
      initial = ap (λ n. unpacked n c.in_ok-first.first.items) (sym facts) ∙ c.in_ok-first.ensures.state ∙ c.init.ensures;
      before = ap length (c.in_ok-from_slice.ensures.items ∙ c.deref.ensures.value) ∙ long;
      after = ap length (c.in_ok-from_slice-2.ensures.items ∙ c.deref-2.ensures.value) ∙ long;
    }
