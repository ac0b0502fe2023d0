use Rattle.std.proofs.Common.{refl, map, string_bytes, option_map}
use Rattle.std.proofs.lemmas.Result.{IfOk-weaker}
use Rattle.clap.specs.Words.{app_of, found_of, rows_of}
use Rattle.requests.proofs.Commands.{asked, unasked}
use Rattle.requests.proofs.asked.read_command.Goals as goal

pub parse-requires : goal.parse-requires
parse-requires g c = c.in-Ok.ensures.fit

pub request_in-requires : goal.request_in-requires
request_in-requires g c lifetimes =
    let passed = rw c.in-Ok-Some.field-0-is at c.in-Ok-Some.ensures.passed in
    ((refl, tt), c.in-Ok.ensures.values (rows_of (found_of c.in-Ok-Some.matches)) passed)

pub returns-in-Ok-Some-clause-request : goal.returns-in-Ok-Some-clause-request
returns-in-Ok-Some-clause-request g c =
    let rows = rows_of (found_of c.in-Ok-Some.matches) in
    let taken = rw c.in-Ok-Some.field-0-is at c.in-Ok-Some.ensures.taken in
    let found = rw c.in-Ok-Some.field-0-is at c.in-Ok-Some.ensures.rows in
    IfOk-weaker c.request_in.result _ _
    (λ o value. asked (app_of c.in-Ok.command) (g.A.Asked.command c.args.name) (map string_bytes c.args.words.now) (g.A.Asked.seen_in c.args.name) c.in-Ok.ensures.same rows (option_map g.A.Asked.seen o) taken found value)
    c.request_in.ensures.value

pub returns-in-Ok-None-clause-request : goal.returns-in-Ok-None-clause-request
returns-in-Ok-None-clause-request g c =
    let refused = rw c.in-Ok-None.field-0-is at c.in-Ok-None.ensures.taken in
    unasked (app_of c.in-Ok.command) (g.A.Asked.command c.args.name) (map string_bytes c.args.words.now) (g.A.Asked.seen_in c.args.name) c.in-Ok.ensures.same refused
