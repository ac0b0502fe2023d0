use Rattle.std.proofs.Common.{◌≡◌, Some, ap, refl, sym, arith, map, string_bytes, Result}
use Rattle.plan_endings.specs.declared.stop.Stop.{Stop}
use Rattle.plan_endings.specs.Ends.{EndsAs, ending_in}
use Rattle.plan_endings.proofs.published.Stopped.{ending_answers}
use Rattle.plan_endings.specs.declared.ending.Ending.{Ending}
use Rattle.plan_endings.specs.declared.ending.Ending.TheVariants.{Usage}
use Rattle.plan_top.proofs.Promises.{status_apart, plan_runs, refuted_steps, refuted_plans, least, unfinished, lines, ground_told, order_told, reached, read_fault, usage, not_taken, no_command, same_report, complete, certified, verified, accepted, rejected, batch, parts_are_so, as_alone, not_reached, exhausted, found_steps, every_order_runs, proved_plan, passes, proves_refuted, proves_found}
use Rattle.plan_top.proofs.top.run.Goals as goal

-- of the ending that was written a front is there
front_by : (claim small front : Ending → Type 0) (r : Result Ending Stop) {said : Type 0} → EndsAs claim r → (said → (end : Ending) × (ending_in r ≡ Some end) × small end × front end)
    → said → (end : Ending) × claim end × small end × front end
front_by claim small front r h by s = let f = by s in (f.0, ending_answers claim r f.0 h (sym f.1), f.2, f.3)

pub finish-requires : goal.finish-requires
finish-requires g c = λ end is.
    let handed = c.decide.ensures.agrees in
    let comes = ending_answers _ c.decide.result end (c.decide.ensures.cause handed.0 handed.1) (sym is) in
    status_apart (g.S.Shelf.failed c.args.shelf.now) (g.S.Shelf.failed c.decide.new.shelf) handed.0 (map string_bytes c.args.words.now) end comes

pub returns-clause-due : goal.returns-clause-due
returns-clause-due g c took handed not_six not_eight =
    let due = c.finish.ensures.due not_six not_eight in
    (due.0, due.1, ending_answers _ c.decide.result due.0 (c.decide.ensures.cause took handed) (sym due.2), due.3)

pub returns-clause-plan_runs : goal.returns-clause-plan_runs
returns-clause-plan_runs g c = let h = c.decide.ensures.agrees in plan_runs _ _ h.0 h.1 _ _ _ _ _ _ c.laws.ensures (returns-clause-due g c h.0 h.1)

pub returns-clause-unfinished : goal.returns-clause-unfinished
returns-clause-unfinished g c = let h = c.decide.ensures.agrees in unfinished _ _ h.0 h.1 _ _ _ _ _ _ c.laws.ensures (returns-clause-due g c h.0 h.1)

pub returns-clause-refuted_steps : goal.returns-clause-refuted_steps
returns-clause-refuted_steps g c = let h = c.decide.ensures.agrees in refuted_steps _ _ h.0 h.1 _ _ _ _ _ _ c.laws.ensures (front_by _ _ _ c.decide.result (c.decide.ensures.cause h.0 h.1) c.finish.ensures.front) (λ eight. ap g.K.Sink.taken (c.finish.ensures.nothing eight))

pub returns-clause-refuted_plans : goal.returns-clause-refuted_plans
returns-clause-refuted_plans g c = let h = c.decide.ensures.agrees in refuted_plans _ _ h.0 h.1 _ _ _ _ _ _ c.laws.ensures (front_by _ _ _ c.decide.result (c.decide.ensures.cause h.0 h.1) c.finish.ensures.front) (λ eight. ap g.K.Sink.taken (c.finish.ensures.nothing eight))

pub returns-clause-least : goal.returns-clause-least
returns-clause-least g c = let h = c.decide.ensures.agrees in least _ _ h.0 h.1 _ _ _ _ _ _ c.laws.ensures (front_by _ _ _ c.decide.result (c.decide.ensures.cause h.0 h.1) c.finish.ensures.front) (λ eight. ap g.K.Sink.taken (c.finish.ensures.nothing eight))

pub returns-clause-lines : goal.returns-clause-lines
returns-clause-lines g c = let h = c.decide.ensures.agrees in lines _ _ h.0 h.1 _ _ _ _ _ _ c.laws.ensures (front_by _ _ _ c.decide.result (c.decide.ensures.cause h.0 h.1) c.finish.ensures.front) (λ eight. ap g.K.Sink.taken (c.finish.ensures.nothing eight))

pub returns-clause-ground_told : goal.returns-clause-ground_told
returns-clause-ground_told g c = let h = c.decide.ensures.agrees in ground_told _ _ h.0 h.1 _ _ _ _ _ _ (returns-clause-due g c h.0 h.1)

pub returns-clause-order_told : goal.returns-clause-order_told
returns-clause-order_told g c = let h = c.decide.ensures.agrees in order_told _ _ h.0 h.1 _ _ _ _ _ _ (returns-clause-due g c h.0 h.1)

pub returns-clause-reached : goal.returns-clause-reached
returns-clause-reached g c = let h = c.decide.ensures.agrees in reached _ _ h.0 h.1 _ _ _ _ _ _ (returns-clause-due g c h.0 h.1)

pub returns-clause-read_fault : goal.returns-clause-read_fault
returns-clause-read_fault g c = let h = c.decide.ensures.agrees in read_fault _ _ h.0 h.1 _ _ _ _ _ _ (returns-clause-due g c h.0 h.1)

pub returns-clause-usage : goal.returns-clause-usage
returns-clause-usage g c = let h = c.decide.ensures.agrees in usage _ _ h.0 h.1 _ _ _ _ _ _ (returns-clause-due g c h.0 h.1)

pub returns-clause-not_taken : goal.returns-clause-not_taken
returns-clause-not_taken g c = let h = c.decide.ensures.agrees in not_taken _ _ h.0 h.1 _ _ _ _ _ _ (returns-clause-due g c h.0 h.1)

pub returns-clause-certified : goal.returns-clause-certified
returns-clause-certified g c = let h = c.decide.ensures.agrees in certified _ _ h.0 h.1 _ _ _ _ _ _ c.laws.ensures (returns-clause-due g c h.0 h.1)

pub returns-clause-verified : goal.returns-clause-verified
returns-clause-verified g c = let h = c.decide.ensures.agrees in verified _ _ h.0 h.1 _ _ _ _ _ _ c.laws.ensures (returns-clause-due g c h.0 h.1)

pub returns-clause-accepted : goal.returns-clause-accepted
returns-clause-accepted g c = let h = c.decide.ensures.agrees in accepted _ _ h.0 h.1 _ _ _ _ _ _ c.laws.ensures (returns-clause-due g c h.0 h.1)

pub returns-clause-rejected : goal.returns-clause-rejected
returns-clause-rejected g c = let h = c.decide.ensures.agrees in rejected _ _ h.0 h.1 _ _ _ _ _ _ c.laws.ensures (returns-clause-due g c h.0 h.1)

pub returns-clause-no_command : goal.returns-clause-no_command
returns-clause-no_command g c none = let h = c.decide.ensures.agrees in no_command _ _ h.0 h.1 _ _ _ _ _ _ (returns-clause-due g c h.0 h.1) (rw none refl) (c.finish.ensures.there Usage (ap ending_in (c.decide.ensures.no_command none)) refl)

pub returns-clause-same_report : goal.returns-clause-same_report
returns-clause-same_report g c took handed = same_report _ _ took handed _ _ _ _ _ _ c.laws.ensures (returns-clause-due g c took handed)

pub returns-clause-complete : goal.returns-clause-complete
returns-clause-complete g c took handed well quiet = complete _ _ took handed _ _ _ _ _ _ c.laws.ensures (returns-clause-due g c took handed) (λ six. quiet (c.finish.ensures.write_fault six)) well

pub returns-clause-front : goal.returns-clause-front
returns-clause-front g c took handed six = let f = front_by _ _ _ c.decide.result (c.decide.ensures.cause took handed) c.finish.ensures.front (λ eight. absurd (omega (arith, six, eight))) in (f.0, f.1, f.3)

pub returns-clause-batch : goal.returns-clause-batch
returns-clause-batch g c took handed = batch _ _ took handed _ _ _ _ _ _ (returns-clause-due g c took handed)

pub returns-clause-as_alone : goal.returns-clause-as_alone
returns-clause-as_alone g c took handed = as_alone _ _ took handed _ _ _ _ _ _ c.laws.ensures (returns-clause-due g c took handed)

pub returns-clause-parts_are_so : goal.returns-clause-parts_are_so
returns-clause-parts_are_so g c took handed = parts_are_so _ _ took handed _ _ _ _ _ _ c.laws.ensures (returns-clause-due g c took handed)

pub returns-clause-not_reached : goal.returns-clause-not_reached
returns-clause-not_reached g c = let h = c.decide.ensures.agrees in not_reached _ _ h.0 h.1 _ _ _ _ _ _ (returns-clause-due g c h.0 h.1)

pub returns-clause-exhausted : goal.returns-clause-exhausted
returns-clause-exhausted g c = let h = c.decide.ensures.agrees in exhausted _ _ h.0 h.1 _ _ _ _ _ _ c.laws.ensures (returns-clause-due g c h.0 h.1)

pub returns-clause-found_steps : goal.returns-clause-found_steps
returns-clause-found_steps g c = let h = c.decide.ensures.agrees in found_steps _ _ h.0 h.1 _ _ _ _ _ _ c.laws.ensures (front_by _ _ _ c.decide.result (c.decide.ensures.cause h.0 h.1) c.finish.ensures.front) (λ eight. ap g.K.Sink.taken (c.finish.ensures.nothing eight))

pub returns-clause-every_order_runs : goal.returns-clause-every_order_runs
returns-clause-every_order_runs g c = let h = c.decide.ensures.agrees in every_order_runs _ _ h.0 h.1 _ _ _ _ _ _ c.laws.ensures (returns-clause-due g c h.0 h.1)

pub returns-clause-proved_plan : goal.returns-clause-proved_plan
returns-clause-proved_plan g c = let h = c.decide.ensures.agrees in proved_plan _ _ h.0 h.1 _ _ _ _ _ _ c.laws.ensures (returns-clause-due g c h.0 h.1)

pub returns-clause-passes : goal.returns-clause-passes
returns-clause-passes g c took handed = passes _ _ took handed _ _ _ _ _ _ c.laws.ensures (returns-clause-due g c took handed)

pub returns-clause-proves_refuted : goal.returns-clause-proves_refuted
returns-clause-proves_refuted g c took handed = proves_refuted _ _ took handed _ _ _ _ _ _ c.laws.ensures (returns-clause-due g c took handed)

pub returns-clause-proves_found : goal.returns-clause-proves_found
returns-clause-proves_found g c took handed = proves_found _ _ took handed _ _ _ _ _ _ c.laws.ensures (returns-clause-due g c took handed)
