use Rattle.std.proofs.Common.{◌≡◌, ◌++◌, ◌∷◌, [], ◌∙◌, length, None, refl, ap, sym}
use Rattle.pd_words.specs.Names.{number_of}
use Rattle.pd_words.proofs.Tables.{numbered}
use Rattle.pd_words.proofs.table.Table.put.Goals as goal

pub invariant_of-self-2 : goal.invariant_of-self-2
invariant_of-self-2 c = λ name.
    let old = c.self.inside in
    let key = c.args.key in
    let fresh : number_of key.items old.names.items ≡ None = rw (c.requires.same, c.self.view_is) c.requires.fresh in
    let met = numbered (λ k. k.items) old.numbers.entries old.names.items key c.self.invariant fresh name in
    let names : c.push.new.self.items ≡ old.names.items ++ key.items ∷ [] = rw (c.in_ok-push.ensures.items, c.in_ok-reserve.ensures.items, c.requires.same) refl in
    let number : c.args.number ≡ length old.names.items = c.requires.number ∙ ap length (sym c.self.view_is) in
    rw (c.in_ok-insert.ensures.entries, names, number) met
