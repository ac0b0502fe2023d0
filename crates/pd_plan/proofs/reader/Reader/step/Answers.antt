use Rattle.std.proofs.Common.{Ok, Result, arith, ap, sym, subst, ◌∙◌}
use Rattle.pd_plan.specs.Fault.{Fault}
use Rattle.pd_plan.specs.own.Progress as reading
use Rattle.pd_plan.specs.own.Reader.{Steps, state_of, state_from, place_of}
use Rattle.pd_plan.proofs.Words.{then_token, then_none}
use Rattle.pd_plan.proofs.reader.Reader.step.Goals as goal

pub returns-then-token : goal.returns-then-token
returns-then-token c =
    let before = c.args.self.now in
    let later = c.add_word.new.self in
    let added = c.in_ok-add_word-in-Ended.ensures in
    let is = then_token before.done.items before.start before.words.items c.in-Ended.first c.in-Ended.text c.args.at c.args.byte before.lexer before.place (place_of later.place later.start later.words.items)
    (grind (arith, c.in_ok-step.ensures.lexed, c.in-Ended.is, c.if-token.true)) added.place in
    let taken = subst (λ ls. Steps (reading.token ls (place_of later.place later.start later.words.items) c.args.at c.args.byte) (state_of c.token-then-token.new.self) c.token-then-token.result) added.done c.token-then-token.ensures in
    subst (λ read. Steps read (state_of c.token-then-token.new.self) c.token-then-token.result) (sym is) taken

pub returns-else-token : goal.returns-else-token
returns-else-token c =
    let before = c.args.self.now in
    let later = c.add_word.new.self in
    let added = c.in_ok-add_word-in-Ended.ensures in
    let is = then_none before.done.items before.start before.words.items c.in-Ended.first c.in-Ended.text c.args.at c.args.byte before.lexer later.lexer before.place later.place later.start later.words.items
    (grind (arith, c.in_ok-step.ensures.lexed, c.in-Ended.is, c.if-token.false)) (added.lexer ∙ c.in_ok-step.ensures.standing) added.place in
    is ∙ ap (λ ls. let read : Result reading.State Fault = Ok (state_from ls later.lexer later.place later.start later.words.items) in read) (sym added.done)
