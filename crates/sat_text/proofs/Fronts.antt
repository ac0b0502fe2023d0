-- The word at the front of a text, met byte by byte.
use Rattle.std.proofs.Common.{◌≡◌, ◌∙◌, ℕ, List, [], ◌∷◌, ◌++◌, length, take, drop, refl, sym, ap, arith}
use Rattle.sat_text.specs.Words.{words_of}
use Rattle.sat_text.specs.own.Cut.{after_blanks, word_front, after_word}
use Rattle.sat_text.proofs.WordsLaws.{words_at, words_none, front_no_blank}

-- what was passed is the front of the word, and the rest of it follows
abbrev pub FrontsAt : List ℕ → ℕ → Type 0
FrontsAt text i = (word_front text ≡ take i text ++ word_front (drop i text)) × (after_word text ≡ after_word (drop i text))

-- the first word of a text, and the words after it
pub next_word : (bytes text : List ℕ) → text ≡ after_blanks bytes → (word rest : List ℕ) → word ≡ word_front text → rest ≡ after_word text → (length word ≡ 0 → ⊥) → words_of bytes ≡ word ∷ words_of rest
next_word bytes [] is word rest w r some = absurd (some (ap (λ (t : List ℕ). length t) w))
next_word bytes (b ∷ more) is word rest w r some =
    let plain = front_no_blank bytes b more (sym is) in
    let front : word_front (b ∷ more) ≡ b ∷ word_front more = rw plain refl in
    let after : after_word (b ∷ more) ≡ after_word more = rw plain refl in
    words_at bytes b more (sym is) ∙ ap (λ (t : List ℕ). t ∷ words_of (after_word more)) (sym (w ∙ front)) ∙ ap (λ (t : List ℕ). word ∷ words_of t) (sym (r ∙ after))

-- there is none where it is empty
pub no_word : (bytes text : List ℕ) → text ≡ after_blanks bytes → length (word_front text) ≡ 0 → words_of bytes ≡ []
no_word bytes [] is none = words_none bytes (sym is)
no_word bytes (b ∷ more) is none =
    let plain = front_no_blank bytes b more (sym is) in
    let front : word_front (b ∷ more) ≡ b ∷ word_front more = rw plain refl in
    let long = ap (λ (t : List ℕ). length t) front in absurd (let never : ⊥ = omega (arith, none, long) in never)
