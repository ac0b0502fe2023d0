-- A text to which pieces were put one after another ends with these pieces.
use Rattle.std.proofs.Common.{◌≡◌, ℕ, List, ◌++◌, ap, ◌∙◌, append_assoc}

pub after_three : (old a b c : List ℕ) {x y z : List ℕ} → x ≡ old ++ a → y ≡ x ++ b → z ≡ y ++ c → z ≡ old ++ (a ++ b ++ c)
after_three old a b c is_x is_y is_z =
    is_z ∙ ap (λ t. t ++ c) (is_y ∙ ap (λ t. t ++ b) is_x) ∙ simp append_assoc

pub after_five : (old a b c d e : List ℕ) {v w x y z : List ℕ} → v ≡ old ++ a → w ≡ v ++ b → x ≡ w ++ c → y ≡ x ++ d → z ≡ y ++ e → z ≡ old ++ (a ++ b ++ c ++ d ++ e)
after_five old a b c d e is_v is_w is_x is_y is_z =
    is_z ∙ ap (λ t. t ++ e) (is_y ∙ ap (λ t. t ++ d) (after_three old a b c is_v is_w is_x)) ∙ simp append_assoc

pub after_seven : (old a b c d e f g : List ℕ) {t u v w x y z : List ℕ} → t ≡ old ++ a → u ≡ t ++ b → v ≡ u ++ c → w ≡ v ++ d → x ≡ w ++ e → y ≡ x ++ f → z ≡ y ++ g → z ≡ old ++ (a ++ b ++ c ++ d ++ e ++ f ++ g)
after_seven old a b c d e f g is_t is_u is_v is_w is_x is_y is_z =
    is_z ∙ ap (λ s. s ++ g) (is_y ∙ ap (λ s. s ++ f) (after_five old a b c d e is_t is_u is_v is_w is_x)) ∙ simp append_assoc
