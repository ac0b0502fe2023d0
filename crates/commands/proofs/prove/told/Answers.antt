use Rattle.std.proofs.Common.{◌≡◌, List, sym, ap, ◌∙◌}
use Rattle.std.proofs.lemmas.Result.{IfOk-weaker}
use Rattle.clause_base.specs.declared.log.Entry.{Entry}
use Rattle.cdcl_defs.specs.declared.standing.Standing.{Standing}
use Rattle.cdcl_defs.specs.declared.standing.Standing.TheVariants.{Going, Found, Refuted}
use Rattle.commands.specs.Proved.{certificate_of, proved_as, proved_of}
use Rattle.commands.specs.declared.prove.Proved.TheVariants.{Plan, Open}
use Rattle.commands.proofs.Runs.{no_other, used_up, certifies, found_model}
use Rattle.horizon_run.specs.Run.{truths_of}
use Rattle.commands.proofs.prove.told.Goals as goal

pub returns-in-Refuted : goal.returns-in-Refuted
returns-in-Refuted c =
    let run = c.args.solving.now in
    let h = c.args.horizon in
    let refuted : run.state.standing ≡ Refuted = sym c.standing.ensures.value ∙ c.in-Refuted.is in
    let log : c.log.result.now ≡ run.state.log = c.log.ensures.value in
    let same : certificate_of h c.log.result.now ≡ proved_of h run.state =
    ap (λ (l : List Entry). certificate_of h l) log ∙ ap (λ (s : Standing). proved_as h s run.state) (sym refuted) in
    record {
      proved = IfOk-weaker c.certificate.result (λ p. p ≡ certificate_of h c.log.result.now) (λ p. p ≡ proved_of h run.state) (λ p e. e ∙ same) c.certificate.ensures.proved;
      certified = λ text e. certifies run text h (c.standing.ensures.moved c.requires.sane) (c.standing.ensures.reached run.granted) refuted c.log.result.now log (c.certificate.ensures.spelled text e);
      spent = λ conflicts e. no_other (Open conflicts) (λ text k. cc) (λ k. cc) h c.log.result.now c.certificate.result e c.certificate.ensures.proved;
      found = λ conflicts e. no_other (Plan conflicts) (λ text k. cc) (λ k. cc) h c.log.result.now c.certificate.result e c.certificate.ensures.proved;
      stays = c.standing.ensures.settled;
    }

pub returns-in-Found : goal.returns-in-Found
returns-in-Found c =
    let run = c.args.solving.now in
    let found : run.state.standing ≡ Found = sym c.standing.ensures.value ∙ c.in-Found.is in
    record {
      proved = ap Plan c.conflicts.ensures.value ∙ ap (λ (s : Standing). proved_as c.args.horizon s run.state) (sym found);
      certified = λ text e. cc;
      spent = λ conflicts e. cc;
      found = λ conflicts e. (truths_of run.formula run.state, found_model run (c.standing.ensures.moved c.requires.sane) (c.standing.ensures.reached run.granted) found);
      stays = c.standing.ensures.settled;
    }

pub returns-in-Going : goal.returns-in-Going
returns-in-Going c =
    let run = c.args.solving.now in
    let going : run.state.standing ≡ Going = sym c.standing.ensures.value ∙ c.in-Going.is in
    let used = used_up run (c.standing.ensures.moved c.requires.sane) (c.standing.ensures.reached run.granted) going in
    let n : c.conflicts-in-Going.result ≡ run.state.conflicts = c.conflicts-in-Going.ensures.value in
    record {
      proved = ap Open n ∙ ap (λ (s : Standing). proved_as c.args.horizon s run.state) (sym going);
      certified = λ text e. cc;
      spent = λ conflicts e. cc;
      found = λ conflicts e. cc;
      stays = c.standing.ensures.settled;
    }
