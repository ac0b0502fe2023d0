use Rattle.std.proofs.Common.{refl, arith, sym, ap, map, string_bytes}
use Rattle.plan_endings.specs.Ends.{end_in}
use Rattle.plan_endings.proofs.published.Stopped.{end_answers}
use Rattle.search_top.specs.declared.request.How.TheVariants as how
use Rattle.search_top.specs.declared.ended.Ended.TheVariants.{Plain, Usage}
use Rattle.search_top.proofs.Promises.{runs, least, no_plan, spent, never, excluded, left_open, certified, accepted, rejected, explored, told_set, searched, met, system_told, formula_told, proved_none, refuted, unproved, read_fault, usage, not_taken, no_command, status_apart}
use Rattle.search_top.proofs.top.run.Goals as goal

pub finish-requires : goal.finish-requires
finish-requires g c = λ end is. status_apart _ _ _ _ _ (map string_bytes c.args.words.now) end (end_answers Plain _ c.decide.result end c.decide.ensures.cause (sym is))

pub returns-clause-due : goal.returns-clause-due
returns-clause-due g c not_six not_eight =
    let due = c.finish.ensures.due not_six not_eight in
    (due.0, due.1, end_answers Plain _ c.decide.result due.0 c.decide.ensures.cause (sym due.2), due.3)

pub returns-clause-plan_runs : goal.returns-clause-plan_runs
returns-clause-plan_runs g c text domain problem by n m zero printed is =
    runs _ _ _ _ _ _ _ _ _ c.laws.ensures (returns-clause-due g c) domain problem by n m is text zero printed

pub returns-clause-least : goal.returns-clause-least
returns-clause-least g c text domain problem n m zero printed is =
    least _ _ _ _ _ _ _ _ _ c.laws.ensures (returns-clause-due g c) domain problem how.Least n m is refl text zero printed

pub returns-clause-no_plan : goal.returns-clause-no_plan
returns-clause-no_plan g c domain problem by n m one is =
    no_plan _ _ _ _ _ _ _ _ _ c.laws.ensures (returns-clause-due g c) domain problem by n m is one

pub returns-clause-spent : goal.returns-clause-spent
returns-clause-spent g c text domain problem by n m two printed is =
    spent _ _ _ _ _ _ _ _ _ c.laws.ensures (returns-clause-due g c) domain problem by n m is text two printed

pub returns-clause-never : goal.returns-clause-never
returns-clause-never g c domain problem zero is = never _ _ _ _ _ _ _ _ _ c.laws.ensures (returns-clause-due g c) domain problem is zero

pub returns-clause-excluded : goal.returns-clause-excluded
returns-clause-excluded g c text domain problem zero printed is = excluded _ _ _ _ _ _ _ _ _ c.laws.ensures (returns-clause-due g c) domain problem is text zero printed

pub returns-clause-open : goal.returns-clause-open
returns-clause-open g c domain problem two is = left_open _ _ _ _ _ _ _ _ _ c.laws.ensures (returns-clause-due g c) domain problem is two

pub returns-clause-certified : goal.returns-clause-certified
returns-clause-certified g c domain problem certificate zero is = certified _ _ _ _ _ _ _ _ _ c.laws.ensures (returns-clause-due g c) domain problem certificate is zero

pub returns-clause-accepted : goal.returns-clause-accepted
returns-clause-accepted g c text domain problem certificate zero printed is = accepted _ _ _ _ _ _ _ _ _ c.laws.ensures (returns-clause-due g c) domain problem certificate is text zero printed

pub returns-clause-rejected : goal.returns-clause-rejected
returns-clause-rejected g c text domain problem certificate one printed is = rejected _ _ _ _ _ _ _ _ _ c.laws.ensures (returns-clause-due g c) domain problem certificate is text one printed

pub returns-clause-explored : goal.returns-clause-explored
returns-clause-explored g c domain problem budget zero is = explored _ _ _ _ _ _ _ _ _ c.laws.ensures (returns-clause-due g c) domain problem budget is zero

pub returns-clause-found : goal.returns-clause-found
returns-clause-found g c text domain problem budget zero printed is = told_set _ _ _ _ _ _ _ _ _ c.laws.ensures (returns-clause-due g c) domain problem budget is text zero printed

pub returns-clause-searched : goal.returns-clause-searched
returns-clause-searched g c domain problem budget two is = searched _ _ _ _ _ _ _ _ _ c.laws.ensures (returns-clause-due g c) domain problem budget is two

pub returns-clause-met : goal.returns-clause-met
returns-clause-met g c text domain problem budget one printed is = met _ _ _ _ _ _ _ _ _ c.laws.ensures (returns-clause-due g c) domain problem budget is text one printed

pub returns-clause-system_told : goal.returns-clause-system_told
returns-clause-system_told g c text domain problem format zero printed is = system_told _ _ _ _ _ _ _ _ _ c.laws.ensures (returns-clause-due g c) domain problem format is text zero printed

pub returns-clause-never_formula_told : goal.returns-clause-never_formula_told
returns-clause-never_formula_told g c text domain problem certificate zero printed is = formula_told _ _ _ _ _ _ _ _ _ c.laws.ensures (returns-clause-due g c) domain problem certificate is text zero printed

pub returns-clause-never_judged : goal.returns-clause-never_judged
returns-clause-never_judged g c domain problem certificate proof zero is = proved_none _ _ _ _ _ _ _ _ _ c.laws.ensures (returns-clause-due g c) domain problem certificate proof is zero

pub returns-clause-never_accepted : goal.returns-clause-never_accepted
returns-clause-never_accepted g c text domain problem certificate proof zero printed is = refuted _ _ _ _ _ _ _ _ _ c.laws.ensures (returns-clause-due g c) domain problem certificate proof is text zero printed

pub returns-clause-never_rejected : goal.returns-clause-never_rejected
returns-clause-never_rejected g c text domain problem certificate proof one printed is = unproved _ _ _ _ _ _ _ _ _ c.laws.ensures (returns-clause-due g c) domain problem certificate proof is text one printed

pub returns-clause-read_fault : goal.returns-clause-read_fault
returns-clause-read_fault g c = read_fault _ _ _ _ _ _ _ _ _ (returns-clause-due g c)

pub returns-clause-front : goal.returns-clause-front
returns-clause-front g c six =
    let front = c.finish.ensures.front (λ eight. absurd (omega (arith, six, eight))) in
    (front.0, end_answers Plain _ c.decide.result front.0 c.decide.ensures.cause (sym front.1), front.3)

pub returns-clause-usage : goal.returns-clause-usage
returns-clause-usage g c = usage _ _ _ _ _ _ _ _ _ (returns-clause-due g c)

pub returns-clause-not_taken : goal.returns-clause-not_taken
returns-clause-not_taken g c = not_taken _ _ _ _ _ _ _ _ _ (returns-clause-due g c)

pub returns-clause-no_command : goal.returns-clause-no_command
returns-clause-no_command g c none = no_command _ _ _ _ _ _ _ _ _ (returns-clause-due g c) (rw none refl) (c.finish.ensures.there Usage (ap (end_in Plain) (c.decide.ensures.no_command none)) refl)
