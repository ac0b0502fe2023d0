use Rattle.std.proofs.Common.{arith, ◌+◌, ◌++◌, ◌∙◌, ◌%◌, ◌<◌, ◌^◌, ℕ, List, length, sym, ap}
use Rattle.std.proofs.lemmas.List.{length_push}
use Rattle.proof_log.proofs.NumberLaws.{bytes_of-last, bytes_of-more, put_more, some_bytes}
use Rattle.proof_log.proofs.number.put_within.Goals as goal

pub push_reserved-requires : goal.push_reserved-requires
push_reserved-requires c = omega (arith, c.loop-rest.invariant.room, some_bytes c.loop-rest.rest, c.loop-rest.bytes.ok)

pub push_reserved-requires-2 : goal.push_reserved-requires-2
push_reserved-requires-2 c = omega (arith, c.loop-rest.invariant.room, some_bytes c.loop-rest.rest, c.loop-rest.bytes.ok)

pub loop-rest-preserved : goal.loop-rest-preserved
loop-rest-preserved c =
    let rest = c.loop-rest.rest in
    let fits : rest < 2 ^ 64 = omega (arith, c.loop-rest.auto.rest-fits) in
    let high = c.loop-rest-test.true in
    let one = ap (λ (xs : List ℕ). length xs) (bytes_of-more rest high fits) in
    record {
      told = put_more c.loop-rest.bytes.items c.push_reserved.new.self.items c.args.bytes.now.items rest c.args.number high fits c.push_reserved.ensures.items c.loop-rest.invariant.told;
      room =
          omega (
            arith,
            c.loop-rest.invariant.room,
            one,
            ap (λ (xs : List ℕ). length xs) c.push_reserved.ensures.items,
            length_push c.loop-rest.bytes.items (rest % 128 + 128),
            c.push_reserved.ensures.capacity,
          );
      capacity = c.push_reserved.ensures.capacity ∙ c.loop-rest.invariant.capacity;
    }

pub returns-clause-put : goal.returns-clause-put
returns-clause-put c =
    let rest = c.loop-rest.rest in
    c.push_reserved-2.ensures.items
    ∙ ap (λ (xs : List ℕ). c.loop-rest.bytes.items ++ xs) (sym (bytes_of-last rest c.loop-rest-test.false))
    ∙ c.loop-rest.invariant.told
