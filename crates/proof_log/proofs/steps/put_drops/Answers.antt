use Rattle.std.proofs.Common.{◌∙◌, ◌++◌, ◌<◌, ◌+◌, ap, sym, subst, List, ℕ, map, length, take, drop, get_or}
use Rattle.std.proofs.lemmas.List.{drop_more, take_more}
use Rattle.clause_base.specs.declared.log.Entry.TheVariants.{Drop}
use Rattle.proof_log.proofs.NumbersLaws.{first_still}
use Rattle.proof_log.specs.own.Held.{log_bytes, AreSmall}
use Rattle.proof_log.proofs.HeldLaws.{drops_told, drops_small}
use Rattle.proof_log.proofs.steps.put_drops.Goals as goal

pub loop-number-preserved : goal.loop-number-preserved
loop-number-preserved c =
    let numbers = c.args.numbers.now in
    let index = c.loop-number.number-index in
    let n = get_or numbers index 0 in
    let within : index < length numbers = c.loop-number-test.true in
    let told = ap (λ (ns : List ℕ). c.loop-number.steps.items ++ log_bytes (map (λ n. Drop n) ns)) (sym (drop_more numbers index 0 within)) ∙ c.loop-number.invariant.told in
    record {
      told = drops_told _ c.loop-number.steps.items c.put_number.new.bytes.items (drop (index + 1) numbers) n c.in_ok-put_number.ensures.ok told;
      small = subst (λ (ns : List ℕ). AreSmall (map (λ n. Drop n) ns)) (sym (take_more numbers index 0 within)) (drops_small (take index numbers) n c.loop-number.invariant.small (c.type_inv.numbers index).fits);
      before = first_still c.args.steps.now.items c.loop-number.steps.items c.put_number.new.bytes.items c.loop-number.invariant.before c.put_number.ensures.before;
    }
