use Rattle.std.proofs.Common.{◌∙◌, sym, map, string_bytes}
use Rattle.clap.specs.Words.{app_of, takes}
use Rattle.clap.specs.Simple.{is_simple}
use Rattle.clap.proofs.WalkLemmas.{both}
use Rattle.requests.proofs.Addresses.{matches_same, takes_same}
use Rattle.requests.proofs.NoFault.{taken, untrue}
use Rattle.requests.proofs.PassedReaders.{passed}
use Rattle.requests.proofs.parsing.parse.Goals as goal

pub returns-in-Ok-clause-taken : goal.returns-in-Ok-clause-taken
returns-in-Ok-clause-taken c = λ app same.
    let fit = c.requires in
    let words = map string_bytes c.args.words.now in
    sym (taken (app_of c.args.command) words fit.simple fit.leaf fit.defaults (c.in-Ok.ensures.kinds fit.simple)) ∙ takes_same (app_of c.args.command) app words same

pub returns-in-Ok-clause-rows : goal.returns-in-Ok-clause-rows
returns-in-Ok-clause-rows c = λ app same.
    (c.in-Ok.ensures.matches (both (is_simple (app_of c.args.command)) _ c.requires.simple).0).0
    ∙ matches_same (app_of c.args.command) app (map string_bytes c.args.words.now) same

pub returns-in-Ok-clause-passed : goal.returns-in-Ok-clause-passed
returns-in-Ok-clause-passed c = passed c.args.command c.in-Ok.matches c.in-Ok.ensures.parsed c.requires.values

pub returns : goal.returns
returns c = record {
  taken = λ app same.
      let words = map string_bytes c.args.words.now in
      untrue (takes (app_of c.args.command) words) (λ t. c.in_default.not-OutOfMemory (c.kind.ensures ∙ c.in-Err.ensures.passes t)) ∙ takes_same (app_of c.args.command) app words same;
  rows = λ app same. tt;
  passed = tt;
}
