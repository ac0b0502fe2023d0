-- What is known of the lines of a text that was read in pieces, as it goes on.
use Rattle.std.proofs.Common.{arith, ◌≡◌, ◌∙◌, ◌+◌, ℕ, List, [], ◌∷◌, ◌++◌, length, true, ap, append_assoc, length-append}
use Rattle.sat_text.specs.Lines.{whole_lines, last_part, has_no_end}
use Rattle.sat_text.proofs.published.Texts.{lines_on, last_on, lines_same, last_more}

-- what is made of lines, where what is made of the whole lines of a text and of lines after them is known
module _ {A : Type 0} (made left : List (List ℕ) → A) (text : List ℕ) (leads : (more : List (List ℕ)) → made (whole_lines text ++ more) ≡ left more) where
  -- up to the end of one line more
  pub leads_on : (end others : List ℕ) (more : List (List ℕ)) → has_no_end end ≡ true → made (whole_lines (text ++ (end ++ 10 ∷ others)) ++ more) ≡ left ((last_part text ++ end) ∷ (whole_lines others ++ more))
  leads_on end others more none =
      ap (λ (lines : List (List ℕ)). made (lines ++ more)) (lines_on text end others none)
      ∙ ap made (append_assoc (whole_lines text) ((last_part text ++ end) ∷ whole_lines others) more)
      ∙ leads ((last_part text ++ end) ∷ (whole_lines others ++ more))

  -- where no line ends
  pub leads_same : (rest : List ℕ) (more : List (List ℕ)) → has_no_end rest ≡ true → made (whole_lines (text ++ rest) ++ more) ≡ left more
  leads_same rest more none = ap (λ (lines : List (List ℕ)). made (lines ++ more)) (lines_same text rest none) ∙ leads more

-- where the last part begins
module _ (at : ℕ) (text : List ℕ) (begins : at + length (last_part text) ≡ length text) where
  pub begins_on : (end : List ℕ) → has_no_end end ≡ true → at + length (last_part text ++ end) + 1 + length (last_part (text ++ (end ++ 10 ∷ []))) ≡ length (text ++ (end ++ 10 ∷ []))
  begins_on end none =
      let l1 : length (text ++ (end ++ 10 ∷ [])) ≡ length text + length (end ++ 10 ∷ []) = length-append text (end ++ 10 ∷ []) in
      let l2 : length (end ++ 10 ∷ []) ≡ length end + 1 = length-append end (10 ∷ []) in
      let l3 : length (last_part text ++ end) ≡ length (last_part text) + length end = length-append (last_part text) end in
      let l4 : length (last_part (text ++ (end ++ 10 ∷ []))) ≡ 0 = ap (λ (t : List ℕ). length t) (last_on text end [] none) in
      omega (arith, begins, l1, l2, l3, l4)

  pub begins_same : (rest : List ℕ) → has_no_end rest ≡ true → at + length (last_part (text ++ rest)) ≡ length (text ++ rest)
  begins_same rest none =
      let l1 : length (text ++ rest) ≡ length text + length rest = length-append text rest in
      let l2 : length (last_part (text ++ rest)) ≡ length (last_part text) + length rest = ap (λ (t : List ℕ). length t) (last_more text rest none) ∙ length-append (last_part text) rest in
      omega (arith, begins, l1, l2)
