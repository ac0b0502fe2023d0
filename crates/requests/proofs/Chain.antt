-- Arguments that are added one after the other.
use Rattle.std.proofs.Common.{◌≡◌, ◌∙◌, ℕ, ◌+◌, ◌<◌, List, ◌++◌, map, length, get_or, drop, append_assoc, ap, sym}
use Rattle.std.proofs.lemmas.List.{drop_more}
use Rattle.clap.specs.Walk.{Rule}
use Rattle.clap.specs.Simple.{App, with_rule}
use Rattle.requests.specs.declared.building.Argument.{Argument}
use Rattle.requests.specs.Arguments.{rule_for, with_rules}

-- two lists
pub then_added : (a b c r s : List Rule) → b ≡ a ++ r → c ≡ b ++ s → c ≡ a ++ (r ++ s)
then_added a b c r s first second = second ∙ ap (λ (x : List Rule). x ++ s) first ∙ append_assoc a r s

-- three lists
pub three_added : (a b c d r s t : List Rule) → b ≡ a ++ r → c ≡ b ++ s → d ≡ c ++ t → d ≡ a ++ (r ++ (s ++ t))
three_added a b c d r s t first second third = then_added a b d r (s ++ t) first (then_added b c d s t second third)

-- the argument that a loop reads
pub one_with : (app next whole : App) (xs : List Argument) (i : ℕ) (d : Argument) → i < length xs → with_rules app (map rule_for (drop i xs)) ≡ whole
    → next ≡ with_rule app (rule_for (get_or xs i d)) → with_rules next (map rule_for (drop (i + 1) xs)) ≡ whole
one_with app next whole xs i d lt so_far new =
    ap (λ (a : App). with_rules a (map rule_for (drop (i + 1) xs))) new ∙ sym (ap (λ (ys : List Argument). with_rules app (map rule_for ys)) (drop_more xs i d lt)) ∙ so_far
