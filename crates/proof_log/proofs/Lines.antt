-- Lines of a certificate have no LF in them, so they are read back.
use Rattle.std.proofs.Common.{◌≡◌, ◌≤◌, ℕ, true, List, [], ◌∷◌, ◌++◌, map, codes, refl, arith}
use Rattle.std.specs.Prelude.{decimal}
use Rattle.std.specs.List.{list_all}
use Rattle.report_lines.specs.Lines.{is_line, lines_of}
use Rattle.report_lines.proofs.published.Entries.{decimal_word, line-append, word_line}
use Rattle.report_lines.proofs.published.ReadBack.{read_back}
use Rattle.clause_base.specs.declared.log.Entry.{Entry}
use Rattle.clause_base.specs.declared.log.Entry.TheVariants.{Learn, Drop}
use Rattle.proof_log.specs.Text.{AreSmall, AreWritten, IsWritten, after_blanks, entry_line, horizon_words, proof_lines, proof_text, spaced}
use Rattle.horizon_rates.specs.Limits.{last_horizon}

number_line : (n : ℕ) → n ≤ 4294967295 → is_line (decimal n) ≡ true
number_line n small = word_line (decimal n) (decimal_word n (omega (arith, small)))

-- numbers, and then other words
numbers_line : (ns : List ℕ) (words : List (List ℕ)) → AreSmall ns → is_line (after_blanks words) ≡ true → is_line (after_blanks (map decimal ns ++ words)) ≡ true
numbers_line [] words are rest = rest
numbers_line (n ∷ ns) words are rest = line-append (decimal n) (after_blanks (map decimal ns ++ words)) (number_line n are.0) (numbers_line ns words are.1 rest)

last_line : (ns : List ℕ) → AreSmall ns → is_line (after_blanks (map decimal ns)) ≡ true
last_line [] are = refl
last_line (n ∷ ns) are = line-append (decimal n) (after_blanks (map decimal ns)) (number_line n are.0) (last_line ns are.1)

entry_is_line : (e : Entry) → IsWritten e → is_line (entry_line e) ≡ true
entry_is_line (Learn clause hints) is =
    line-append (codes "learn") (after_blanks (map decimal clause ++ codes "by" ∷ map decimal hints)) refl
    (numbers_line clause (codes "by" ∷ map decimal hints) is.1 (line-append (codes " by") (after_blanks (map decimal hints)) refl (last_line hints is.2)))
entry_is_line (Drop number) is = line-append (codes "drop") (after_blanks (decimal number ∷ [])) refl (last_line (number ∷ []) (is, tt))

entries_are_lines : (es : List Entry) → AreWritten es → list_all is_line (map entry_line es) ≡ true
entries_are_lines [] are = refl
entries_are_lines (e ∷ es) are = rw (entry_is_line e are.0) (entries_are_lines es are.1)

first_is_line : (horizon : ℕ) → horizon ≤ last_horizon → is_line (spaced (horizon_words horizon)) ≡ true
first_is_line horizon small = line-append (codes "horizon") (after_blanks (decimal horizon ∷ [])) refl (last_line (horizon ∷ []) (omega (arith, small), tt))

pub lines_read : (horizon : ℕ) (log : List Entry) → horizon ≤ last_horizon → AreWritten log → lines_of (proof_text horizon log) ≡ proof_lines horizon log
lines_read horizon log small are = read_back (proof_lines horizon log) (rw (first_is_line horizon small) (entries_are_lines log are))
