use Rattle.std.proofs.Common.{arith, ◌*◌, ◌<◌, ◌≡◌, sym, refl, subst, true, ℕ, List, length, Vec, Global, ◌∙◌}
use Rattle.bit_sets.specs.Rows.{row_has}
use Rattle.std.specs.List.{AllByRecursion}
use Rattle.gt_core.specs.Task.{Action}
use Rattle.implied_literals.specs.Rows.{clause_in}
use Rattle.implied_literals.specs.declared.known.Known.{Known}
use Rattle.gt_core.proofs.published.Basics.{and_split}
use Rattle.gt_core.proofs.published.Lists.{each_number}
use Rattle.implied_literals.proofs.published.Steps.{opposite_below}
use Rattle.two_invariants.specs.own.Losses.{CanTest, AreAllLosses}
use Rattle.two_invariants.proofs.RoundLaw.{known_fit, actions_fit, fits_at, pieces_fit, round_is}
use Rattle.two_invariants.proofs.round.drop_broken.Goals as goal

pub all_losses-requires-clause-can : goal.all_losses-requires-clause-can
all_losses-requires-clause-can g c κs within =
    let task = c.args.task.now in
    let todo = c.args.todo.now in
    let n = c.facts-facts.result in
    let known = c.args.known.now in
    let fit = known_fit task.facts task.facts c.args.rows.now.items known (row_has c.args.asked.now) refl c.requires.rows c.requires.either c.requires.known in
    let number : (i : ℕ) → i < length todo → _ = λ i lt. each_number (λ a. a < length task.actions) todo _ 0 c.requires.tested.numbers lt in
    let can : CanTest task.facts known c.args.rows.now.items task.actions todo = record {
      numbers = number;
      rows = fit.0;
      none = fit.1;
      lawful = c.requires.rows;
      fits = λ i lt. fits_at (2 * task.facts) task.actions _ (actions_fit task c.facts-facts.ensures.lawful) (number i lt);
    } in
    subst (λ (k : ℕ). CanTest k known c.as_slice.result.now c.acts.result.now todo) (sym c.facts-facts.ensures.facts)
    (subst (λ (r : List (List ℕ)). CanTest task.facts known r c.acts.result.now todo) (sym c.as_slice.ensures.value)
    (subst (λ (xs : List Action). CanTest task.facts known c.args.rows.now.items xs todo) (sym c.acts.ensures.acts) can))

pub drop_all-requires-clause-even : goal.drop_all-requires-clause-even
drop_all-requires-clause-even g c l lt =
    let n = c.requires.rows.long in
    let below = opposite_below l c.args.task.now.facts (omega arith) in
    let room = c.in_ok-make_room.ensures.room in
    let same = c.facts-facts.ensures.facts in
    omega arith

losses : (n facts : ℕ) (given rows : List (List ℕ)) (xs acts : List Action) (known : Known) (todo : List ℕ) (tables : List (Vec (List ℕ) Global)) → n ≡ facts → given ≡ rows → xs ≡ acts
    → AreAllLosses n known given xs todo tables → AreAllLosses facts known rows acts todo tables
losses n facts given rows xs acts known todo tables e f h z =
    subst (λ (k : ℕ). AreAllLosses k known rows acts todo tables) e (subst (λ (r : List (List ℕ)). AreAllLosses n known r acts todo tables) f (subst (λ (ys : List Action). AreAllLosses n known given ys todo tables) h z))

pub drop_all-requires-clause-fit : goal.drop_all-requires-clause-fit
drop_all-requires-clause-fit g c =
    let facts = c.args.task.now.facts in
    let tables = c.in_ok-tables.tables.items in
    let all = losses c.facts-facts.result facts c.as_slice.result.now c.args.rows.now.items c.acts.result.now c.args.task.now.actions c.args.known.now c.args.todo.now tables c.facts-facts.ensures.facts c.as_slice.ensures.value c.acts.ensures.acts c.in_ok-tables.ensures in
    let fit = pieces_fit facts c.args.known.now c.args.rows.now.items c.args.task.now.actions c.args.todo.now tables c.requires.rows all in
    subst (λ (ts : List (Vec (List ℕ) Global)). AllByRecursion (λ t. (length t.items ≡ length c.args.rows.now.items) × ((l m : ℕ) → clause_in t.items l m ≡ true → m < length c.args.rows.now.items)) ts) (sym c.as_slice-2.ensures.value) fit

pub returns-clause-round : goal.returns-clause-round
returns-clause-round g c =
    let facts = c.args.task.now.facts in
    let tables = c.in_ok-tables.tables.items in
    let all = losses c.facts-facts.result facts c.as_slice.result.now c.args.rows.now.items c.acts.result.now c.args.task.now.actions c.args.known.now c.args.todo.now tables c.facts-facts.ensures.facts c.as_slice.ensures.value c.acts.ensures.acts c.in_ok-tables.ensures in
    round_is c.args.task.now c.args.known.now c.args.rows.now.items c.args.todo.now c.requires.rows c.requires.tested c.requires.either tables all _ c.drop_all.result
    (rw c.as_slice-2.ensures.value at c.drop_all.ensures.has) (rw c.as_slice-2.ensures.value at c.drop_all.ensures.some) (rw c.as_slice-2.ensures.value at c.drop_all.ensures.none)

pub returns-clause-rows : goal.returns-clause-rows
returns-clause-rows g c = record {
  few = c.requires.rows.few;
  long = c.drop_all.ensures.long ∙ c.requires.rows.long;
  within = λ l m t. c.requires.rows.within l m (and_split _ _ (sym (c.drop_all.ensures.has l m) ∙ t)).0;
}
