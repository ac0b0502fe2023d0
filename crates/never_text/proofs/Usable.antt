-- What is read is over the facts, and not too much.
use Rattle.std.proofs.Common.{arith, ◌≡◌, ◌∙◌, ◌==◌, ◌+◌, ◌*◌, ◌-◌, ◌<◌, ◌≤◌, ℕ, zero, suc, List, [], ◌∷◌, ◌++◌, Bool, true, false, Ok, Err, Result, length, length-append, refl, ap, subst}
use Rattle.std.specs.Prelude.{nat_lt, if◌then◌else◌}
use Rattle.std.specs.List.{AllByRecursion, filter}
use Rattle.std.proofs.lemmas.List.Sums.{sum_by-append}
use Rattle.std.proofs.lemmas.Bool.Decides.{nat_tests}
use Rattle.gt_core.specs.Literal.{is_in, range_from}
use Rattle.sat_text.specs.declared.words.Signed.{Signed}
use Rattle.sat_text.specs.Lines.{put_first, whole_lines, last_part}
use Rattle.sat_text.specs.Words.{words_of}
use Rattle.sat_text.specs.LratLine.{is_passed}
use Rattle.never_text.specs.declared.fault.Fault.{Fault}
use Rattle.never_text.specs.declared.fault.Fault.TheVariants as fault
use Rattle.never_text.specs.Certificate.{Certificate, Nothing, Forward, Backward, Weights, lines_of, kind_of, begun, sorted, sum_of, literals_of, weight_with, weight_after, weight_of, next_number, with_clause, with_weight, told_as, with_words, with_line, with_lines}
use Rattle.never_text.specs.declared.kind.Kind.TheVariants as kind
use Rattle.never_text.specs.Reading.{AreWeighted}
use Rattle.std.specs.Prelude.{Option, Some, None}
use Rattle.never_text.specs.declared.kind.Kind.{Kind}

-- numbers from one on that pass a test are below the end
filtered_below : (p : ℕ → Bool) (n first top : ℕ) → first + n ≤ top → AllByRecursion (λ l. l < top) (filter p (range_from first n))
filtered_below p zero first top within = tt
filtered_below p (suc n) first top within = by (p first) refl (filtered_below p n (first + 1) top (omega arith))
  where
    by : (b : Bool) → p first ≡ b → AllByRecursion (λ l. l < top) (filter p (range_from (first + 1) n)) → AllByRecursion (λ l. l < top) (filter p (range_from first (suc n)))
    by true e rest = rw e (omega arith, rest)
    by false e rest = rw e rest

pub sorted_below : (facts : ℕ) (lits : List ℕ) → AllByRecursion (λ l. l < 2 * facts) (sorted facts lits)
unfolding sorted
sorted_below facts lits = filtered_below (is_in lits) (2 * facts) 0 (2 * facts) (omega arith)

-- one item more
all_more : {A : Type 0} (P : A → Type 0) (xs : List A) (x : A) → AllByRecursion P xs → P x → AllByRecursion P (xs ++ x ∷ [])
all_more P [] x all here = (here, tt)
all_more P (y ∷ xs) x all here = (all.0, all_more P xs x all.1 here)

-- what was told is over the facts, and takes fewer lines than so many
abbrev pub IsWithin : ℕ → ℕ → Certificate → Type 0
IsWithin facts n Nothing = Unit {0}
IsWithin facts n (Forward clauses) = (length clauses < n) × AllByRecursion (AllByRecursion (λ l. l < 2 * facts)) clauses
IsWithin facts n (Backward clauses) = (length clauses < n) × AllByRecursion (AllByRecursion (λ l. l < 2 * facts)) clauses
IsWithin facts n (Weights weights) = AreWeighted facts weights

module _ (facts : ℕ) where
  -- a certificate that was only begun
  begun_within : (n : ℕ) (o : Option Kind) (next : Certificate) → begun o ≡ Ok next → IsWithin facts (n + 1) next
  begun_within n None next e = absurd (cc)
  begun_within n (Some kind.Forward) next e = let s : Forward [] ≡ next = cc in subst (IsWithin facts (n + 1)) s (omega arith, tt)
  begun_within n (Some kind.Backward) next e = let s : Backward [] ≡ next = cc in subst (IsWithin facts (n + 1)) s (omega arith, tt)
  begun_within n (Some kind.Weights) next e = let s : Weights [] ≡ next = cc in subst (IsWithin facts (n + 1)) s (record { over = tt; sum = omega arith })

  -- a clause more
  clause_within : (n : ℕ) (clauses : List (List ℕ)) (lits : List ℕ) → length clauses < n → AllByRecursion (AllByRecursion (λ l. l < 2 * facts)) clauses
      → (length (clauses ++ sorted facts lits ∷ []) < n + 1) × AllByRecursion (AllByRecursion (λ l. l < 2 * facts)) (clauses ++ sorted facts lits ∷ [])
  clause_within n clauses lits few over =
      let long : length (clauses ++ sorted facts lits ∷ []) ≡ length clauses + 1 = length-append clauses (sorted facts lits ∷ []) in
      (omega (arith, long), all_more (AllByRecursion (λ l. l < 2 * facts)) clauses (sorted facts lits) over (sorted_below facts lits))

  forward_within : (n : ℕ) (clauses : List (List ℕ)) (r : Result (List ℕ) Fault) (next : Certificate) → IsWithin facts n (Forward clauses) → told_as Forward (with_clause facts clauses r) ≡ Ok next → IsWithin facts (n + 1) next
  forward_within n clauses (Err f) next w e = absurd (cc)
  forward_within n clauses (Ok lits) next w e = let s : Forward (clauses ++ sorted facts lits ∷ []) ≡ next = cc in subst (IsWithin facts (n + 1)) s (clause_within n clauses lits w.0 w.1)

  backward_within : (n : ℕ) (clauses : List (List ℕ)) (r : Result (List ℕ) Fault) (next : Certificate) → IsWithin facts n (Backward clauses) → told_as Backward (with_clause facts clauses r) ≡ Ok next → IsWithin facts (n + 1) next
  backward_within n clauses (Err f) next w e = absurd (cc)
  backward_within n clauses (Ok lits) next w e = let s : Backward (clauses ++ sorted facts lits ∷ []) ≡ next = cc in subst (IsWithin facts (n + 1)) s (clause_within n clauses lits w.0 w.1)

  -- the literal of a weight
  with_below : (fact weight : Signed) (w : ℕ × ℕ) → weight_with facts fact weight ≡ Ok w → w.0 < 2 * facts
  with_below fact weight w e = by fact.minus refl (fact.number == 0) refl (nat_lt facts fact.number) refl weight.minus refl
    where
      by : (a : Bool) → fact.minus ≡ a → (b : Bool) → (fact.number == 0) ≡ b → (d : Bool) → nat_lt facts fact.number ≡ d → (m : Bool) → weight.minus ≡ m → w.0 < 2 * facts
      by true ea b eb d ed m em = absurd (let never : Err fault.Fact ≡ Ok w = rw ea at e in cc)
      by false ea true eb d ed m em = absurd (let never : Err fault.Fact ≡ Ok w = rw (ea, eb) at e in cc)
      by false ea false eb true ed m em = absurd (let never : Err fault.Fact ≡ Ok w = rw (ea, eb, ed) at e in cc)
      by false ea false eb false ed true em =
          let is : Ok (2 * (fact.number - 1) + 1, weight.number) ≡ Ok w = rw (ea, eb, ed, em) at e in
          let first : (2 * (fact.number - 1) + 1, weight.number) ≡ w = cc in
          let l : 2 * (fact.number - 1) + 1 ≡ w.0 = ap (λ (p : ℕ × ℕ). p.0) first in
          grind (arith, nat_tests)
      by false ea false eb false ed false em =
          let is : Ok (2 * (fact.number - 1), weight.number) ≡ Ok w = rw (ea, eb, ed, em) at e in
          let first : (2 * (fact.number - 1), weight.number) ≡ w = cc in
          let l : 2 * (fact.number - 1) ≡ w.0 = ap (λ (p : ℕ × ℕ). p.0) first in
          grind (arith, nat_tests)

  after_below : (r : Result (Signed × List (List ℕ)) Fault) (w : ℕ × ℕ) → weight_after facts r ≡ Ok w → w.0 < 2 * facts
  after_below (Err f) w e = absurd (cc)
  after_below (Ok fact) w e = by (next_number fact.1) e
    where
      by : (r : Result (Signed × List (List ℕ)) Fault) → (elim r as (λ _. Result (ℕ × ℕ) Fault) [ Err f ↦ Err f | Ok weight ↦ if length weight.1 == 0 then weight_with facts fact.0 weight.0 else Err fault.End ]) ≡ Ok w → w.0 < 2 * facts
      by (Err f) er = absurd (let never : Err f ≡ Ok w = er in cc)
      by (Ok weight) er = last (length weight.1 == 0) refl
        where
          last : (b : Bool) → (length weight.1 == 0) ≡ b → w.0 < 2 * facts
          last true eb = with_below fact.0 weight.0 w (rw eb at er)
          last false eb = absurd (let never : Err fault.End ≡ Ok w = rw eb at er in cc)

  -- a weight more
  weights_within : (n : ℕ) (weights : List (ℕ × ℕ)) (r : Result (ℕ × ℕ) Fault) (next : Certificate) → ((w : ℕ × ℕ) → r ≡ Ok w → w.0 < 2 * facts) → AreWeighted facts weights → told_as Weights (with_weight weights r) ≡ Ok next → IsWithin facts n next
  weights_within n weights (Err f) next below h e = absurd (cc)
  weights_within n weights (Ok w) next below h e = by (nat_lt (sum_of weights + w.1) 9223372036854775808) refl
    where
      by : (b : Bool) → nat_lt (sum_of weights + w.1) 9223372036854775808 ≡ b → IsWithin facts n next
      by false eb = absurd (let never : Err fault.Sum ≡ Ok next = rw eb at e in cc)
      by true eb =
          let is : Ok (Weights (weights ++ w ∷ [])) ≡ Ok next = rw eb at e in
          let s : Weights (weights ++ w ∷ []) ≡ next = cc in
          let joined : sum_of (weights ++ w ∷ []) ≡ sum_of weights + w.1 = sum_by-append (λ (v : ℕ × ℕ). v.1) weights (w ∷ []) ∙ omega arith in
          subst (IsWithin facts n) s (record { over = all_more (λ v. v.0 < 2 * facts) weights w h.over (below w refl); sum = rw joined (grind (arith, nat_tests)) })

  words_within : (n : ℕ) (told next : Certificate) (words : List (List ℕ)) → IsWithin facts n told → with_words facts told words ≡ Ok next → IsWithin facts (n + 1) next
  words_within n Nothing next words w e = begun_within n (kind_of words) next e
  words_within n (Forward clauses) next words w e = forward_within n clauses (literals_of facts [] words) next w e
  words_within n (Backward clauses) next words w e = backward_within n clauses (literals_of facts [] words) next w e
  words_within n (Weights weights) next words w e = weights_within (n + 1) weights (weight_of facts words) next (λ v ev. after_below (next_number words) v ev) w e

  -- one line more
  more_within : (n : ℕ) (told : Certificate) → IsWithin facts n told → IsWithin facts (n + 1) told
  more_within n Nothing w = tt
  more_within n (Forward clauses) w = (omega (arith, w.0), w.1)
  more_within n (Backward clauses) w = (omega (arith, w.0), w.1)
  more_within n (Weights weights) w = w

  line_within : (n : ℕ) (told next : Certificate) (line : List ℕ) → IsWithin facts n told → with_line facts told line ≡ Ok next → IsWithin facts (n + 1) next
  line_within n told next line w e = by (is_passed (words_of line)) refl
    where
      by : (b : Bool) → is_passed (words_of line) ≡ b → IsWithin facts (n + 1) next
      by true eb = let is : Ok told ≡ Ok next = rw eb at e in let s : told ≡ next = cc in subst (IsWithin facts (n + 1)) s (more_within n told w)
      by false eb = words_within n told next (words_of line) w (rw eb at e)

  pub lines_within : (n : ℕ) (told out : Certificate) (at : ℕ) (lines : List (List ℕ)) → IsWithin facts n told → with_lines facts told at lines ≡ Ok out → IsWithin facts (n + length lines) out
  lines_within n told out at [] w e = let s : told ≡ out = cc in let z : n + length {A = List ℕ} [] ≡ n = omega arith in rw z (subst (IsWithin facts n) s w)
  lines_within n told out at (line ∷ lines) w e = by (with_line facts told line) refl e (λ next w2 e2. lines_within (n + 1) next out (at + length line + 1) lines w2 e2)
    where
      by : (r : Result Certificate Fault) → with_line facts told line ≡ r
          → (elim r as (λ _. Result Certificate (ℕ × Fault)) [ Ok next ↦ with_lines facts next (at + length line + 1) lines | Err f ↦ Err (at, f) ]) ≡ Ok out
          → ((next : Certificate) → IsWithin facts (n + 1) next → with_lines facts next (at + length line + 1) lines ≡ Ok out → IsWithin facts ((n + 1) + length lines) out)
          → IsWithin facts (n + length (line ∷ lines)) out
      by (Err f) er e2 rest = absurd (let never : Err (at, f) ≡ Ok out = e2 in cc)
      by (Ok next) er e2 rest =
          let z : n + length (line ∷ lines) ≡ (n + 1) + length lines = omega arith in
          rw z (rest next (line_within n told next line w er) e2)

-- a text has no more lines than bytes, but for one
whole_few : (text : List ℕ) → length (whole_lines text) ≤ length text
whole_few [] = omega arith
whole_few (b ∷ text) = by (b == 10) refl (whole_few text)
  where
    put_long : (lines : List (List ℕ)) → length (put_first b lines) ≡ length lines
    put_long [] = refl
    put_long (line ∷ lines) = refl

    by : (t : Bool) → (b == 10) ≡ t → length (whole_lines text) ≤ length text → length (whole_lines (b ∷ text)) ≤ length (b ∷ text)
    by true e few = rw e (omega arith)
    by false e few = rw e (rw (put_long (whole_lines text)) (omega arith))

pub lines_few : (text : List ℕ) → length (lines_of text) ≤ length text + 1
lines_few text = let long : length (lines_of text) ≡ length (whole_lines text) + 1 = length-append (whole_lines text) (last_part text ∷ []) in omega (arith, long, whole_few text)
