-- Texts of numbers and of items, one after another.
use Rattle.std.proofs.Common.{arith, ◌≡◌, ◌∙◌, ◌+◌, ℕ, zero, suc, List, ◌++◌, sym, ap, append_assoc}
use Rattle.std.specs.List.{flat_map, range_with_len}
use Rattle.std.proofs.lemmas.List.{append-nil}
use Rattle.never_system.specs.Blif.{numbered}

-- the texts of numbers from one on, and of one more
joined_more : (text : ℕ → List ℕ) (a n : ℕ) → flat_map text (range_with_len a (n + 1)) ≡ flat_map text (range_with_len a n) ++ text (a + n)
joined_more text a zero = let f : a + zero ≡ a = omega arith in rw f (append-nil (text a))
joined_more text a (suc n) =
    let e : suc n + 1 ≡ suc (n + 1) = omega arith in
    let f : a + suc n ≡ (a + 1) + n = omega arith in
    rw (e, f) (ap (λ (t : List ℕ). text a ++ t) (joined_more text (a + 1) n) ∙ sym (append_assoc (text a) (flat_map text (range_with_len (a + 1) n)) (text ((a + 1) + n))))

-- a text that has those of so many numbers, and then that of the next
pub numbered_more : (text : ℕ → List ℕ) (n : ℕ) (begun old new : List ℕ) → old ≡ begun ++ numbered text n → new ≡ old ++ text n → new ≡ begun ++ numbered text (n + 1)
numbered_more text n begun old new has is =
    let z : 0 + n ≡ n = omega arith in
    let more = rw z at (joined_more text 0 n) in
    is ∙ (ap (λ (t : List ℕ). t ++ text n) has ∙ (append_assoc begun (numbered text n) (text n) ∙ ap (λ (t : List ℕ). begun ++ t) (sym more)))

-- a text that got one text and then another got both
pub joined : (t a b u v : List ℕ) → u ≡ t ++ a → v ≡ u ++ b → v ≡ t ++ (a ++ b)
joined t a b u v first second = second ∙ (ap (λ (w : List ℕ). w ++ b) first ∙ append_assoc t a b)
