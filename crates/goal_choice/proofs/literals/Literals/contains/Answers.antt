use Rattle.std.proofs.Common.{◌≡◌, ◌*◌, ℕ, Bool, true, false, sym, subst}
use Rattle.std.specs.Bool.{OnFalse}
use Rattle.std.specs.List.{AllByRecursion, filter, range_with_len}
use Rattle.bit_sets.specs.Rows.{row_has}
use Rattle.goal_choice.specs.own.Members.{Literals}
use Rattle.goal_choice.proofs.Sets.{is_absent}
use Rattle.goal_choice.proofs.literals.Literals.contains.Goals as goal

absent : (p : ℕ → Bool) (l n : ℕ) (b : Bool) → b ≡ p l → OnFalse b (AllByRecursion (λ m. m ≡ l → ⊥) (filter p (range_with_len 0 n)))
absent p l n true e = tt
absent p l n false e = is_absent p l 0 n (sym e)

pub returns : goal.returns
returns c =
    subst (λ (s : Literals). OnFalse c.contains.result (AllByRecursion (λ m. m ≡ c.args.lit → ⊥) s.members)) c.self.view_is
    (absent (row_has c.self.inside.row) c.args.lit (2 * c.self.inside.facts) c.contains.result c.contains.ensures)
