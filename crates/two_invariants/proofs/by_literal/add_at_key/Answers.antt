use Rattle.std.proofs.Common.{◌≡◌, ◌%◌, ◌<◌, length, ap, sym, subst, ℕ, rules}
use Rattle.std.proofs.lemmas.Nat.{mod_below}
use Rattle.two_invariants.proofs.Numbering.{more_numbers, own_number}
use Rattle.two_invariants.proofs.by_literal.add_at_key.Goals as goal

pub returns-clause-more : goal.returns-clause-more
returns-clause-more c = λ k n h.
    let lists = c.args.lists.now.items in
    let long : c.len.result ≡ length lists = search rules in
    let lt : c.args.key % c.len.result < length lists = subst (λ (count : ℕ). c.args.key % count < length lists) (sym long) (mod_below c.args.key (length lists) c.requires) in
    more_numbers c.index_mut.result.now c.push.new.self c.args.number c.in_ok-push.ensures.items lists (c.args.key % c.len.result) k n lt c.index_mut.ensures.value h

pub returns-clause-own : goal.returns-clause-own
returns-clause-own c =
    let lists = c.args.lists.now.items in
    let long : c.len.result ≡ length lists = search rules in
    let lt : c.args.key % c.len.result < length lists = subst (λ (count : ℕ). c.args.key % count < length lists) (sym long) (mod_below c.args.key (length lists) c.requires) in
    own_number c.index_mut.result.now c.push.new.self c.args.number c.in_ok-push.ensures.items lists (c.args.key % c.len.result) c.args.key lt (ap (λ (count : ℕ). c.args.key % count) long)
