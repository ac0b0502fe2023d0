use Rattle.std.proofs.Common.{arith, ◌∙◌}
use Rattle.pd_sexp.specs.own.Reader.{frame_of, outer_of}
use Rattle.pd_sexp.proofs.Words.{then_token, then_none}
use Rattle.pd_sexp.proofs.reader.Reader.step.Goals as goal

pub returns-then-token : goal.returns-then-token
returns-then-token c =
    then_token (frame_of c.args.self.now.frame) (outer_of c.args.self.now.outer.items) c.in-Ended.start c.in-Ended.text c.args.at c.args.byte c.args.self.now.lexer c.args.self.now.place _ _ c.token-then-token.result
    (grind (arith, c.in_ok-step.ensures.lexed, c.in-Ended.is, c.if-token.true)) c.in_ok-add_word-in-Ended.ensures.place c.token-then-token.ensures

pub returns-else-token : goal.returns-else-token
returns-else-token c =
    let added = c.in_ok-add_word-in-Ended.ensures in
    then_none (frame_of c.args.self.now.frame) (outer_of c.args.self.now.outer.items) c.in-Ended.start c.in-Ended.text c.args.at c.args.byte c.args.self.now.lexer _ c.args.self.now.place _ _ _
    (grind (arith, c.in_ok-step.ensures.lexed, c.in-Ended.is, c.if-token.false)) (added.lexer ∙ c.in_ok-step.ensures.standing) added.place
