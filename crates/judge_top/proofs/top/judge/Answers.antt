use Rattle.std.proofs.Common.{refl, arith, sym, ap, map, string_bytes}
use Rattle.plan_endings.specs.Ends.{end_in}
use Rattle.plan_endings.proofs.published.Stopped.{end_answers}
use Rattle.judge_top.specs.declared.ended.Ended.TheVariants.{Plain, Usage}
use Rattle.judge_top.proofs.Promises.{is_judged, is_accepted, is_rejected, is_no_proof, is_planned, is_model_told, is_no_model, is_no_text, is_told, is_untaken, read_fault, usage, not_taken, no_command, status_apart}
use Rattle.judge_top.proofs.top.judge.Goals as goal

pub finish-requires : goal.finish-requires
finish-requires g c = λ end is. status_apart _ _ _ _ _ (map string_bytes c.args.words.now) end (end_answers Plain _ c.decide.result end c.decide.ensures.cause (sym is))

pub returns-clause-due : goal.returns-clause-due
returns-clause-due g c not_six not_eight =
    let due = c.finish.ensures.due not_six not_eight in
    (due.0, due.1, end_answers Plain _ c.decide.result due.0 c.decide.ensures.cause (sym due.2), due.3)

pub returns-clause-judged : goal.returns-clause-judged
returns-clause-judged g c = is_judged _ _ _ _ _ _ _ _ _ c.laws.ensures.of_tasks (returns-clause-due g c)

pub returns-clause-accepted : goal.returns-clause-accepted
returns-clause-accepted g c = is_accepted _ _ _ _ _ _ _ _ _ c.laws.ensures.of_tasks (returns-clause-due g c)

pub returns-clause-rejected : goal.returns-clause-rejected
returns-clause-rejected g c = is_rejected _ _ _ _ _ _ _ _ _ c.laws.ensures.of_tasks (returns-clause-due g c)

pub returns-clause-no_proof : goal.returns-clause-no_proof
returns-clause-no_proof g c = is_no_proof _ _ _ _ _ _ _ _ _ c.laws.ensures.of_tasks (returns-clause-due g c)

pub returns-clause-model_told : goal.returns-clause-model_told
returns-clause-model_told g c = is_model_told _ _ _ _ _ _ _ _ _ c.laws.ensures.of_tasks (returns-clause-due g c)

pub returns-clause-no_model : goal.returns-clause-no_model
returns-clause-no_model g c = is_no_model _ _ _ _ _ _ _ _ _ c.laws.ensures.of_tasks (returns-clause-due g c)

pub returns-clause-no_text : goal.returns-clause-no_text
returns-clause-no_text g c = is_no_text _ _ _ _ _ _ _ _ _ c.laws.ensures.of_tasks (returns-clause-due g c)

pub returns-clause-formula_told : goal.returns-clause-formula_told
returns-clause-formula_told g c = is_told _ _ _ _ _ _ _ _ _ c.laws.ensures.of_tasks (returns-clause-due g c)

pub returns-clause-untaken : goal.returns-clause-untaken
returns-clause-untaken g c = is_untaken _ _ _ _ _ _ _ _ _ (returns-clause-due g c)

pub returns-clause-planned : goal.returns-clause-planned
returns-clause-planned g c = is_planned _ _ _ _ _ _ _ _ _ c.laws.ensures (returns-clause-due g c)

pub returns-clause-read_fault : goal.returns-clause-read_fault
returns-clause-read_fault g c = read_fault _ _ _ _ _ _ _ _ _ (returns-clause-due g c)

pub returns-clause-front : goal.returns-clause-front
returns-clause-front g c six =
    let front = c.finish.ensures.front (λ eight. absurd (omega (arith, six, eight))) in
    (front.0, end_answers Plain _ c.decide.result front.0 c.decide.ensures.cause (sym front.1), front.3)

pub returns-clause-usage : goal.returns-clause-usage
returns-clause-usage g c = usage _ _ _ _ _ _ _ _ _ (returns-clause-due g c)

pub returns-clause-not_taken : goal.returns-clause-not_taken
returns-clause-not_taken g c = not_taken _ _ _ _ _ _ _ _ _ (returns-clause-due g c)

pub returns-clause-no_command : goal.returns-clause-no_command
returns-clause-no_command g c none = no_command _ _ _ _ _ _ _ _ _ (returns-clause-due g c) (rw none refl) (c.finish.ensures.there Usage (ap (end_in Plain) (c.decide.ensures.no_command none)) refl)
