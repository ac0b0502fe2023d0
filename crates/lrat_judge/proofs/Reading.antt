-- A judge that has read a text reads on, and what it says at the end.
use Rattle.std.proofs.Common.{arith, ◌≡◌, ◌+◌, ◌<◌, ℕ, List, [], ◌∷◌, ◌++◌, length, Bool, true, false, Option, Some, None, Result, Ok, Err, refl, sym, ap, ◌∙◌, subst, length-append}
use Rattle.std.specs.List.{list_any}
use Rattle.std.specs.Prelude.{nat_lt, IfOk}
use Rattle.containers.specs.declared.memory.Memory.{Memory}
use Rattle.std.proofs.lemmas.Bool.{lt-ltb}
use Rattle.clause_base.specs.Formula.{Cnf}
use Rattle.clause_base.specs.Derivation.{learns_empty}
use Rattle.sat_text.specs.Words.{words_of}
use Rattle.sat_text.specs.LratLine.{LineView, line_of, is_passed}
use Rattle.lrat_judge.specs.Judged.{Judged, counted}
use Rattle.lrat_judge.specs.Follow.{Known, known_first, follow}
use Rattle.lrat_judge.specs.Verdicts.{Outcome, Ends, Goes, most_line, outcome_known, outcome_line, outcome_of, judged, whole_lines, last_part, verdict_ended, verdict_of, has_empty}
use Rattle.lrat_judge.specs.Reached.{IsBefore, Comes, HasRead, has_no_end}
use Rattle.lrat_judge.specs.declared.verdict.Verdict.{Verdict}
use Rattle.lrat_judge.specs.declared.verdict.Verdict.TheVariants.{More, Refuted, Rejected, NotEmpty, Syntax, TooLong}
use Rattle.sat_text.proofs.published.Texts.{Split, no_end, cut, split_line, last_on, last_more}
use Rattle.sat_text.proofs.published.Pieces as pieces

-- no line ends the judging with a verdict by which it goes on
line_apart : (formula : Cnf) (known : Known) (at count : ℕ) (passed : Bool) (line : Option LineView) → outcome_line formula known at count passed line ≡ Ends More → ⊥
line_apart formula known at count true None e = let never : Goes known ≡ Ends More = e in cc
line_apart formula known at count false None e = let never : Ends (Syntax (counted at)) ≡ Ends More = e in cc
line_apart formula known at count passed (Some line) e = by (follow formula known line) e
  where
    by : (o : Option Known) → outcome_known count o ≡ Ends More → ⊥
    by None f = let never : Ends (Rejected (counted (count + 1))) ≡ Ends More = f in cc
    by (Some next) f = empty (list_any learns_empty next.log) refl f
      where
        empty : (b : Bool) → list_any learns_empty next.log ≡ b → outcome_known count (Some next) ≡ Ends More → ⊥
        empty true t g = let never : Ends (Refuted (counted (length next.log))) ≡ Ends More = rw t at g in cc
        empty false t g = let never : Goes next ≡ Ends More = rw t at g in cc

ends_apart : (formula : Cnf) (known : Known) (at count : ℕ) (line : List ℕ) → outcome_of formula known at count line ≡ Ends More → ⊥
unfolding outcome_of
ends_apart formula known at count line e = by (nat_lt most_line (length line)) refl e
  where
    by : (b : Bool) → nat_lt most_line (length line) ≡ b → outcome_of formula known at count line ≡ Ends More → ⊥
    by true t g = let never : Ends (TooLong (counted (count + 1))) ≡ Ends More = rw t at g in cc
    by false t g = line_apart formula known at count (is_passed (words_of line)) (line_of line) (rw t at g)

-- A judge that has read a text, and the end of a line that it takes next.
module _ (judge next : Judged) (text end : List ℕ) (read : HasRead judge text) (none : has_no_end end ≡ true) (verdict : Verdict)
    (comes : (known : Known) (at count : ℕ) → IsBefore judge known at count → Comes (outcome_of judge.formula known at count (judge.front ++ end)) verdict next (at + length (judge.front ++ end) + 1) (count + 1)) where
  abbrev line : List ℕ
  line = last_part text ++ end

  came : Comes (outcome_of judge.formula read.known read.at read.count line) verdict next (read.at + length line + 1) (read.count + 1)
  came = subst (λ (front : List ℕ). Comes (outcome_of judge.formula read.known read.at read.count (front ++ end)) verdict next (read.at + length (front ++ end) + 1) (read.count + 1)) read.front (comes read.known read.at read.count read.before)

  abbrev step : List (List ℕ) → Outcome → Verdict
  step more outcome = elim outcome [ Ends said ↦ said | Goes known ↦ judged judge.formula known (read.at + length line + 1) (read.count + 1) more ]

  -- judging the text up to that end, and lines after it, goes by what the line comes to
  leads_on : (others : List ℕ) (more : List (List ℕ)) → judged judge.formula (known_first judge.formula) 0 0 (whole_lines (text ++ (end ++ 10 ∷ others)) ++ more)
      ≡ step (whole_lines others ++ more) (outcome_of judge.formula read.known read.at read.count line)
  leads_on others more = pieces.leads_on (judged judge.formula (known_first judge.formula) 0 0) (judged judge.formula read.known read.at read.count) text read.leads end others more none

  -- a verdict that ends the judging is that on the lines of the text, whatever follows
  pub ended : (others : List ℕ) (more : List (List ℕ)) → (verdict ≡ More → ⊥) → verdict ≡ judged judge.formula (known_first judge.formula) 0 0 (whole_lines (text ++ (end ++ 10 ∷ others)) ++ more)
  ended others more ends = by (outcome_of judge.formula read.known read.at read.count line) refl came
    where
      by : (outcome : Outcome) → outcome_of judge.formula read.known read.at read.count line ≡ outcome → Comes outcome verdict next (read.at + length line + 1) (read.count + 1)
          → verdict ≡ judged judge.formula (known_first judge.formula) 0 0 (whole_lines (text ++ (end ++ 10 ∷ others)) ++ more)
      by (Ends said) is c = c ∙ sym (leads_on others more ∙ ap (step (whole_lines others ++ more)) is)
      by (Goes known) is c = absurd (ends c.0)

  -- and a judge that goes on has read the text up to that end
  pub went_on : next.formula ≡ judge.formula → next.front ≡ [] → verdict ≡ More → HasRead next (text ++ (end ++ 10 ∷ []))
  went_on same empty more = by (outcome_of judge.formula read.known read.at read.count line) refl came
    where
      by : (outcome : Outcome) → outcome_of judge.formula read.known read.at read.count line ≡ outcome → Comes outcome verdict next (read.at + length line + 1) (read.count + 1) → HasRead next (text ++ (end ++ 10 ∷ []))
      by (Ends said) is c = absurd (ends_apart judge.formula read.known read.at read.count line (is ∙ ap Ends (sym c ∙ more)))
      by (Goes known) is c =
          record {
            known = known;
            at = read.at + length line + 1;
            count = read.count + 1;
            before = c.1;
            leads = λ more. subst (λ (f : Cnf). judged f (known_first f) 0 0 (whole_lines (text ++ (end ++ 10 ∷ [])) ++ more) ≡ judged f known (read.at + length line + 1) (read.count + 1) more) (sym same) (leads_on [] more ∙ ap (step more) is);
            front = empty ∙ sym (last_on text end [] none);
            begins = pieces.begins_on read.at text read.begins end none;
          }

-- a judge that has read a text holds a rest more, in which no line ends
pub held_on : (judge next : Judged) (text rest : List ℕ) → HasRead judge text → has_no_end rest ≡ true → next ≡ record { formula = judge.formula; checker = judge.checker; ids = judge.ids; at = judge.at; count = judge.count; entries = judge.entries; front = judge.front ++ rest }
    → HasRead next (text ++ rest)
held_on judge next text rest read none is = subst (λ (j : Judged). HasRead j (text ++ rest)) (sym is) (record {
  known = read.known;
  at = read.at;
  count = read.count;
  before = record { stands = read.before.stands; at_is = read.before.at_is; count_is = read.before.count_is };
  leads = λ more. pieces.leads_same (judged judge.formula (known_first judge.formula) 0 0) (judged judge.formula read.known read.at read.count) text read.leads rest more none;
  front = ap (λ (t : List ℕ). t ++ rest) read.front ∙ sym (last_more text rest none);
  begins = pieces.begins_same read.at text read.begins rest none;
})

-- ---- a line that is too long

-- what it comes to
long_ends : (formula : Cnf) (known : Known) (at count : ℕ) (line : List ℕ) → most_line < length line → outcome_of formula known at count line ≡ Ends (TooLong (counted (count + 1)))
unfolding outcome_of
long_ends formula known at count line long = rw (lt-ltb most_line (length line) long) refl

long_first : (formula : Cnf) (known : Known) (at count : ℕ) (bytes : List ℕ) (more : List (List ℕ)) → most_line < length bytes → judged formula known at count (bytes ∷ more) ≡ TooLong (counted (count + 1))
long_first formula known at count bytes more long = ap (λ (o : Outcome). elim o as (λ _. Verdict) [ Ends said ↦ said | Goes next ↦ judged formula next (at + length bytes + 1) (count + 1) more ]) (long_ends formula known at count bytes long)

-- where the front of the next line is too long, the verdict is this, however the text goes on
pub too_long : (judge : Judged) (text : List ℕ) → HasRead judge text → most_line < length judge.front → (more : List ℕ)
    → TooLong (counted (judge.count + 1)) ≡ judged judge.formula (known_first judge.formula) 0 0 (whole_lines (text ++ more) ++ last_part (text ++ more) ∷ [])
too_long judge text read long more = count_same ∙ sym (by (split_line more))
  where
    count_same : TooLong (counted (judge.count + 1)) ≡ TooLong (counted (read.count + 1))
    count_same = let count_is = read.before.count_is in ap (λ (n : ℕ). TooLong n) (omega (arith, count_is))

    front : most_line < length (last_part text)
    front = subst (λ (t : List ℕ). most_line < length t) read.front long

    longer : (rest : List ℕ) → most_line < length (last_part text ++ rest)
    longer rest = let l : length (last_part text ++ rest) ≡ length (last_part text) + length rest = length-append (last_part text) rest in omega (arith, l, front)

    by : Split more → judged judge.formula (known_first judge.formula) 0 0 (whole_lines (text ++ more) ++ last_part (text ++ more) ∷ []) ≡ TooLong (counted (read.count + 1))
    by (no_end none) =
        pieces.leads_same (judged judge.formula (known_first judge.formula) 0 0) (judged judge.formula read.known read.at read.count) text read.leads more (last_part (text ++ more) ∷ []) none
        ∙ (ap (λ (line : List ℕ). judged judge.formula read.known read.at read.count (line ∷ [])) (last_more text more none)
        ∙ long_first judge.formula read.known read.at read.count (last_part text ++ more) [] (longer more))
    by (cut line others none is) =
        ap (λ (t : List ℕ). judged judge.formula (known_first judge.formula) 0 0 (whole_lines (text ++ t) ++ last_part (text ++ t) ∷ [])) is
        ∙ (pieces.leads_on (judged judge.formula (known_first judge.formula) 0 0) (judged judge.formula read.known read.at read.count) text read.leads line others (last_part (text ++ (line ++ 10 ∷ others)) ∷ []) none
        ∙ long_first judge.formula read.known read.at read.count (last_part text ++ line) (whole_lines others ++ last_part (text ++ (line ++ 10 ∷ others)) ∷ []) (longer line))

-- ---- the verdict on the whole text

-- a formula that has the empty clause
pub at_once : (formula : Cnf) (text : List ℕ) → has_empty formula.clauses ≡ true → Refuted 0 ≡ verdict_of formula text
unfolding verdict_of
at_once formula text some = rw some refl

-- the verdict on all lines of a text, and what is said once it has ended
pub at_end : (formula : Cnf) (text : List ℕ) (verdict : Verdict) → has_empty formula.clauses ≡ false → verdict ≡ judged formula (known_first formula) 0 0 (whole_lines text ++ last_part text ∷ []) → verdict_ended verdict ≡ verdict_of formula text
unfolding verdict_of
at_end formula text verdict none is = rw none (ap verdict_ended is)

-- a verdict that ends the judging
ended_same : (verdict : Verdict) → (verdict ≡ More → ⊥) → verdict ≡ verdict_ended verdict
ended_same More ends = absurd (ends refl)
ended_same (Refuted entries) ends = refl
ended_same (Rejected number) ends = refl
ended_same NotEmpty ends = refl
ended_same (TooLong number) ends = refl
ended_same (Syntax at) ends = refl

pub decided : (formula : Cnf) (text : List ℕ) (verdict : Verdict) → has_empty formula.clauses ≡ false → verdict ≡ judged formula (known_first formula) 0 0 (whole_lines text ++ last_part text ∷ []) → (verdict ≡ More → ⊥) → verdict ≡ verdict_of formula text
decided formula text verdict none is ends = ended_same verdict ends ∙ at_end formula text verdict none is

-- what is said of the part that is left is the verdict on all lines
pub last_line : (judge next : Judged) (text : List ℕ) (verdict : Verdict) (a n : ℕ) (read : HasRead judge text) → Comes (outcome_of judge.formula read.known read.at read.count judge.front) verdict next a n
    → verdict ≡ judged judge.formula (known_first judge.formula) 0 0 (whole_lines text ++ last_part text ∷ [])
last_line judge next text verdict a n read comes = by (outcome_of judge.formula read.known read.at read.count (last_part text)) refl (subst (λ (t : List ℕ). Comes (outcome_of judge.formula read.known read.at read.count t) verdict next a n) read.front comes)
  where
    step : Outcome → Verdict
    step outcome = elim outcome [ Ends said ↦ said | Goes known ↦ judged judge.formula known (read.at + length (last_part text) + 1) (read.count + 1) [] ]

    by : (outcome : Outcome) → outcome_of judge.formula read.known read.at read.count (last_part text) ≡ outcome → Comes outcome verdict next a n → verdict ≡ judged judge.formula (known_first judge.formula) 0 0 (whole_lines text ++ last_part text ∷ [])
    by (Ends said) is c = c ∙ sym (read.leads (last_part text ∷ []) ∙ ap step is)
    by (Goes known) is c = c.0 ∙ sym (read.leads (last_part text ∷ []) ∙ ap step is)

-- a rest that is held is too long, and that is said
pub ok_too_long : (r : Result Verdict Memory) (judge next : Judged) (formula : Cnf) (text piece rest : List ℕ) → has_empty formula.clauses ≡ false → judge.formula ≡ formula
    → (done : List ℕ) × (text ++ piece ≡ done ++ rest) × HasRead judge done → has_no_end rest ≡ true
    → IfOk r (λ verdict. (verdict ≡ More → ⊥) → (verdict ≡ TooLong (counted (judge.count + 1))) × (most_line < length (judge.front ++ rest)))
    → IfOk r (λ verdict. (verdict ≡ More → ⊥) → (more : List ℕ) → verdict ≡ verdict_of formula ((text ++ piece) ++ more))
ok_too_long (Err error) judge next formula text piece rest some same s none long = tt
ok_too_long (Ok verdict) judge next formula text piece rest some same s none long = λ ends more.
    let said = long ends in
    let held : Judged = record { formula = judge.formula; checker = judge.checker; ids = judge.ids; at = judge.at; count = judge.count; entries = judge.entries; front = judge.front ++ rest } in
    let read : HasRead held (s.0 ++ rest) = held_on judge held s.0 rest s.2 none refl in
    let all = (s.0 ++ rest) ++ more in
    let on : verdict ≡ judged judge.formula (known_first judge.formula) 0 0 (whole_lines all ++ last_part all ∷ []) = said.0 ∙ too_long held (s.0 ++ rest) read said.1 more in
    let empty : has_empty judge.formula.clauses ≡ false = ap (λ (f : Cnf). has_empty f.clauses) same ∙ some in
    decided judge.formula all verdict empty on ends ∙ (ap (λ (f : Cnf). verdict_of f all) same ∙ ap (λ (t : List ℕ). verdict_of formula (t ++ more)) (sym s.1))
