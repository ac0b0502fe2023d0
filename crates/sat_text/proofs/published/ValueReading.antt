-- A reader that has read a text reads on.
use Rattle.std.proofs.Common.{◌≡◌, ◌+◌, ◌<◌, ℕ, List, [], ◌∷◌, ◌++◌, length, Bool, true, false, Option, Some, None, Result, Ok, Err, refl, sym, ap, ◌∙◌, subst, arith, length-append}
use Rattle.std.specs.Prelude.{nat_lt, IfOk, IfSome}
use Rattle.std.proofs.lemmas.Bool.{lt-ltb}
use Rattle.containers.specs.declared.memory.Memory.{Memory}
use Rattle.sat_text.specs.declared.value_reader.Refused.{Refused}
use Rattle.sat_text.specs.declared.value_reader.Refused.TheVariants as refused
use Rattle.sat_text.specs.Lines.{whole_lines, last_part, has_no_end, counted}
use Rattle.sat_text.proofs.published.Texts.{Split, no_end, cut, split_line, last_on, last_more}
use Rattle.sat_text.proofs.published.Pieces as pieces
use Rattle.sat_text.specs.Values.{Told, with_line, Outcome, Stops, Tells, outcome_told, outcome_of, most_values_line, after_lines, NoText, LongLine, Values, values_told, reading_of, model_of, refused_by}
use Rattle.sat_text.specs.Stands.{ReaderView, Holds, HasTold, Goes, Comes, HasRead}
use Rattle.sat_text.proofs.ValueNumbers.{went, went_not}
use Rattle.sat_text.proofs.ValueMarks.{row_is, values_long}

abbrev nothing : Told
nothing = record { literals = []; ended = false }

-- ---- a line

-- what it comes to where it is too long, and else
pub long_stops : (variables : ℕ) (told : Told) (at count : ℕ) (line : List ℕ) → nat_lt most_values_line (length line) ≡ true → outcome_of variables told at count line ≡ Stops (refused.LongLine (counted (count + 1)))
unfolding outcome_of
long_stops variables told at count line long = rw long refl

pub short_tells : (variables : ℕ) (told : Told) (at count : ℕ) (line : List ℕ) → nat_lt most_values_line (length line) ≡ false → outcome_of variables told at count line ≡ outcome_told at (with_line variables told line)
unfolding outcome_of
short_tells variables told at count line short = rw short refl

module _ (variables : ℕ) (told : Told) (at count : ℕ) (line : List ℕ) (said : Option Refused) (next : ReaderView) (a n : ℕ) where
  pub line_long : nat_lt most_values_line (length line) ≡ true → said ≡ Some (refused.LongLine (counted (count + 1))) → Comes variables (outcome_of variables told at count line) said next a n
  line_long long is = subst (λ (o : Outcome). Comes variables o said next a n) (sym (long_stops variables told at count line long)) is

  pub line_refused : nat_lt most_values_line (length line) ≡ false → (reader : ReaderView) → Goes false variables reader (with_line variables told line) → said ≡ Some (refused.NoText (counted at)) → Comes variables (outcome_of variables told at count line) said next a n
  line_refused short reader goes is =
      let none = went_not variables reader (with_line variables told line) goes in
      subst (λ (o : Outcome). Comes variables o said next a n) (sym (short_tells variables told at count line short ∙ ap (outcome_told at) none)) is

  pub line_taken : nat_lt most_values_line (length line) ≡ false → Goes true variables next (with_line variables told line) → said ≡ None → next.at ≡ counted a → next.count ≡ counted n → Comes variables (outcome_of variables told at count line) said next a n
  line_taken short goes is place lines =
      let w = went variables next (with_line variables told line) goes in
      subst (λ (o : Outcome). Comes variables o said next a n) (sym (short_tells variables told at count line short ∙ ap (outcome_told at) w.1)) (is, record { has = w.2; at_is = place; count_is = lines })

-- a line that is the same comes to the same
pub comes_at : (variables : ℕ) (told : Told) (at count : ℕ) (line other : List ℕ) → line ≡ other → (said : Option Refused) (next : ReaderView)
    → Comes variables (outcome_of variables told at count line) said next (at + length line + 1) (count + 1) → Comes variables (outcome_of variables told at count other) said next (at + length other + 1) (count + 1)
comes_at variables told at count line other is said next comes = subst (λ (t : List ℕ). Comes variables (outcome_of variables told at count t) said next (at + length t + 1) (count + 1)) is comes

-- and a reader that holds the same, but for the front of a line
pub comes_as : (variables : ℕ) (told : Told) (at count : ℕ) (line other : List ℕ) → line ≡ other → (said : Option Refused) (reader next : ReaderView) → next.table ≡ reader.table → next.ended ≡ reader.ended → next.at ≡ reader.at → next.count ≡ reader.count
    → Comes variables (outcome_of variables told at count line) said reader (at + length line + 1) (count + 1) → Comes variables (outcome_of variables told at count other) said next (at + length other + 1) (count + 1)
comes_as variables told at count line other is said reader next table ended place lines comes =
    by (outcome_of variables told at count other) (comes_at variables told at count line other is said reader comes)
  where
    by : (o : Outcome) → Comes variables o said reader (at + length other + 1) (count + 1) → Comes variables o said next (at + length other + 1) (count + 1)
    by (Stops refusal) c = c
    by (Tells then) c = (c.0, record { has = record { holds = subst (Holds variables then.literals) (sym table) c.1.has.holds; ended = ended ∙ c.1.has.ended }; at_is = place ∙ c.1.at_is; count_is = lines ∙ c.1.count_is })

-- what lines come to after one, by what that comes to
abbrev step : ℕ → ℕ → ℕ → List (List ℕ) → Outcome → Outcome
step variables at count more outcome = elim outcome [ Stops refusal ↦ Stops refusal | Tells next ↦ after_lines variables next at count more ]

-- A reader that has read a text, and the end of a line that it takes next.
module _ (variables : ℕ) (text : List ℕ) (reader : ReaderView) (read : HasRead variables text reader) where
  module _ (end : List ℕ) (none : has_no_end end ≡ true) (said : Option Refused) (next : ReaderView)
      (comes : Comes variables (outcome_of variables read.told read.at read.count (reader.front ++ end)) said next (read.at + length (reader.front ++ end) + 1) (read.count + 1)) where
    abbrev line : List ℕ
    line = last_part text ++ end

    came : Comes variables (outcome_of variables read.told read.at read.count line) said next (read.at + length line + 1) (read.count + 1)
    came = subst (λ (front : List ℕ). Comes variables (outcome_of variables read.told read.at read.count (front ++ end)) said next (read.at + length (front ++ end) + 1) (read.count + 1)) read.front comes

    -- the lines up to that end, and lines after it, come to what the line leads to
    leads_on : (others : List ℕ) (more : List (List ℕ))
        → after_lines variables nothing 0 0 (whole_lines (text ++ (end ++ 10 ∷ others)) ++ more) ≡ step variables (read.at + length line + 1) (read.count + 1) (whole_lines others ++ more) (outcome_of variables read.told read.at read.count line)
    leads_on others more = pieces.leads_on (after_lines variables nothing 0 0) (after_lines variables read.told read.at read.count) text read.leads end others more none

    -- a line of which a refusal was said tells that the text is none
    pub refuses : (refusal : Refused) (others : List ℕ) → said ≡ Some refusal → model_of variables (text ++ (end ++ 10 ∷ others)) ≡ refused_by refusal
    unfolding model_of
    refuses refusal others is = by (outcome_of variables read.told read.at read.count line) refl came
      where
        all : List ℕ
        all = text ++ (end ++ 10 ∷ others)

        by : (outcome : Outcome) → outcome_of variables read.told read.at read.count line ≡ outcome → Comes variables outcome said next (read.at + length line + 1) (read.count + 1)
            → reading_of variables (length (text ++ (end ++ 10 ∷ others))) (after_lines variables nothing 0 0 (whole_lines (text ++ (end ++ 10 ∷ others)) ++ last_part (text ++ (end ++ 10 ∷ others)) ∷ [])) ≡ refused_by refusal
        by (Stops other) o c =
            let same : other ≡ refusal = (let both : Some other ≡ Some refusal = sym c ∙ is in cc) in
            ap (reading_of variables (length (text ++ (end ++ 10 ∷ others)))) (leads_on others (last_part (text ++ (end ++ 10 ∷ others)) ∷ []) ∙ ap (step variables (read.at + length line + 1) (read.count + 1) (whole_lines others ++ last_part (text ++ (end ++ 10 ∷ others)) ∷ [])) o) ∙ ap refused_by same
        by (Tells told) o c = absurd (let never : None ≡ Some refusal = sym c.0 ∙ is in cc)

    -- after one that may come the reader has read the text up to that end
    pub went_on : said ≡ None → next.front ≡ [] → HasRead variables (text ++ (end ++ 10 ∷ [])) next
    went_on is empty = by (outcome_of variables read.told read.at read.count line) refl came
      where
        by : (outcome : Outcome) → outcome_of variables read.told read.at read.count line ≡ outcome → Comes variables outcome said next (read.at + length line + 1) (read.count + 1) → HasRead variables (text ++ (end ++ 10 ∷ [])) next
        by (Stops refusal) o c = absurd (let never : None ≡ Some refusal = sym is ∙ c in cc)
        by (Tells told) o c = record {
          told = told;
          at = read.at + length line + 1;
          count = read.count + 1;
          before = c.1;
          leads = λ more. leads_on [] more ∙ ap (step variables (read.at + length line + 1) (read.count + 1) more) o;
          front = empty ∙ sym (last_on text end [] none);
          begins = pieces.begins_on read.at text read.begins end none;
        }

  -- ---- a rest in which no line ends

  pub held_on : (next : ReaderView) (rest : List ℕ) → has_no_end rest ≡ true → next ≡ record { table = reader.table; ended = reader.ended; at = reader.at; count = reader.count; front = reader.front ++ rest } → HasRead variables (text ++ rest) next
  held_on next rest none is = subst (HasRead variables (text ++ rest)) (sym is) (record {
    told = read.told;
    at = read.at;
    count = read.count;
    before = record { has = record { holds = read.before.has.holds; ended = read.before.has.ended }; at_is = read.before.at_is; count_is = read.before.count_is };
    leads = λ more. pieces.leads_same (after_lines variables nothing 0 0) (after_lines variables read.told read.at read.count) text read.leads rest more none;
    front = ap (λ (t : List ℕ). t ++ rest) read.front ∙ sym (last_more text rest none);
    begins = pieces.begins_same read.at text read.begins rest none;
  })

  -- ---- a front that is too long

  -- the text is refused, however it goes on
  pub too_long : most_values_line < length reader.front → (more : List ℕ) → model_of variables (text ++ more) ≡ LongLine (counted (reader.count + 1))
  unfolding model_of
  too_long long more = by (split_line more) ∙ ap (λ (n : ℕ). LongLine n) (let count_is = read.before.count_is in omega (arith, count_is))
    where
      front : most_values_line < length (last_part text)
      front = subst (λ (t : List ℕ). most_values_line < length t) read.front long

      longer : (rest : List ℕ) → nat_lt most_values_line (length (last_part text ++ rest)) ≡ true
      longer rest = let l : length (last_part text ++ rest) ≡ length (last_part text) + length rest = length-append (last_part text) rest in lt-ltb most_values_line (length (last_part text ++ rest)) (omega (arith, l, front))

      stops : (rest : List ℕ) (others : List (List ℕ)) → after_lines variables read.told read.at read.count ((last_part text ++ rest) ∷ others) ≡ Stops (refused.LongLine (counted (read.count + 1)))
      stops rest others = ap (step variables (read.at + length (last_part text ++ rest) + 1) (read.count + 1) others) (long_stops variables read.told read.at read.count (last_part text ++ rest) (longer rest))

      by : Split more → reading_of variables (length (text ++ more)) (after_lines variables nothing 0 0 (whole_lines (text ++ more) ++ last_part (text ++ more) ∷ [])) ≡ LongLine (counted (read.count + 1))
      by (no_end none) = ap (reading_of variables (length (text ++ more)))
          (pieces.leads_same (after_lines variables nothing 0 0) (after_lines variables read.told read.at read.count) text read.leads more (last_part (text ++ more) ∷ []) none
          ∙ (ap (λ (line : List ℕ). after_lines variables read.told read.at read.count (line ∷ [])) (last_more text more none) ∙ stops more []))
      by (cut line others none is) = ap (reading_of variables (length (text ++ more)))
          (ap (λ (t : List ℕ). after_lines variables nothing 0 0 (whole_lines (text ++ t) ++ last_part (text ++ t) ∷ [])) is
          ∙ (pieces.leads_on (after_lines variables nothing 0 0) (after_lines variables read.told read.at read.count) text read.leads line others (last_part (text ++ (line ++ 10 ∷ others)) ∷ []) none
          ∙ stops line (whole_lines others ++ last_part (text ++ (line ++ 10 ∷ others)) ∷ [])))

  -- ---- the end of the text

  module _ (said : Option Refused) (next : ReaderView) (a n : ℕ) (comes : Comes variables (outcome_of variables read.told read.at read.count reader.front) said next a n) where
    at_end : (outcome : Outcome) → outcome_of variables read.told read.at read.count (last_part text) ≡ outcome → model_of variables text ≡ reading_of variables (length text) (step variables (read.at + length (last_part text) + 1) (read.count + 1) [] outcome)
    unfolding model_of
    at_end outcome is = ap (reading_of variables (length text)) (read.leads (last_part text ∷ []) ∙ ap (step variables (read.at + length (last_part text) + 1) (read.count + 1) []) is)

    came_last : Comes variables (outcome_of variables read.told read.at read.count (last_part text)) said next a n
    came_last = subst (λ (t : List ℕ). Comes variables (outcome_of variables read.told read.at read.count t) said next a n) read.front comes

    -- the last line refuses it
    pub end_refuses : (refusal : Refused) → said ≡ Some refusal → model_of variables text ≡ refused_by refusal
    end_refuses refusal is = by (outcome_of variables read.told read.at read.count (last_part text)) refl came_last
      where
        by : (outcome : Outcome) → outcome_of variables read.told read.at read.count (last_part text) ≡ outcome → Comes variables outcome said next a n → model_of variables text ≡ refused_by refusal
        by (Stops other) o c = at_end (Stops other) o ∙ ap refused_by (let both : Some other ≡ Some refusal = sym c ∙ is in let same : other ≡ refusal = cc in same)
        by (Tells told) o c = absurd (let never : None ≡ Some refusal = sym c.0 ∙ is in cc)

    -- or this was told up to the end
    module _ (is : said ≡ None) where
      told_last : (told : Told) × (model_of variables text ≡ reading_of variables (length text) (Tells told)) × HasTold variables told next
      told_last = by (outcome_of variables read.told read.at read.count (last_part text)) refl came_last
        where
          by : (outcome : Outcome) → outcome_of variables read.told read.at read.count (last_part text) ≡ outcome → Comes variables outcome said next a n
              → (told : Told) × (model_of variables text ≡ reading_of variables (length text) (Tells told)) × HasTold variables told next
          by (Stops refusal) o c = absurd (let never : None ≡ Some refusal = sym is ∙ c in cc)
          by (Tells told) o c = (told, at_end (Tells told) o, c.1.has)

      -- the values have an end
      pub end_values : next.ended ≡ true → model_of variables text ≡ Values next.table.truths
      end_values ended =
          let t = told_last in
          let still : t.0.ended ≡ true = sym t.2.ended ∙ ended in
          let all : reading_of variables (length text) (Tells t.0) ≡ Values (values_told variables t.0.literals) = rw still refl in
          t.1 ∙ all ∙ ap Values (sym (row_is variables t.0.literals next.table.truths t.2.holds.truths))

      -- or not
      pub end_open : (at : ℕ) → next.ended ≡ false → at ≡ counted (length text) → model_of variables text ≡ NoText at
      end_open at going place =
          let t = told_last in
          let still : t.0.ended ≡ false = sym t.2.ended ∙ going in
          let all : reading_of variables (length text) (Tells t.0) ≡ NoText (counted (length text)) = rw still refl in
          t.1 ∙ all ∙ ap NoText (sym place)

-- a rest that is held is too long, and that is said
pub ok_too_long : (r : Result (Option Refused) Memory) (variables : ℕ) (reader : ReaderView) (text piece rest : List ℕ) → (done : List ℕ) × (text ++ piece ≡ done ++ rest) × HasRead variables done reader → has_no_end rest ≡ true
    → IfOk r (λ o. IfSome o (λ refusal. (refusal ≡ refused.LongLine (counted (reader.count + 1))) × (most_values_line < length (reader.front ++ rest))))
    → IfOk r (λ o. IfSome o (λ refusal. (more : List ℕ) → model_of variables ((text ++ piece) ++ more) ≡ refused_by refusal))
ok_too_long (Err error) variables reader text piece rest s none long = tt
ok_too_long (Ok None) variables reader text piece rest s none long = tt
ok_too_long (Ok (Some refusal)) variables reader text piece rest s none long = λ more.
    let held : ReaderView = record { table = reader.table; ended = reader.ended; at = reader.at; count = reader.count; front = reader.front ++ rest } in
    ap (λ (t : List ℕ). model_of variables (t ++ more)) s.1 ∙ (too_long variables (s.0 ++ rest) held (held_on variables s.0 reader s.2 held rest none refl) long.1 more ∙ ap refused_by (sym long.0))

-- the values of a text are as many as the variables
pub values_are : (variables : ℕ) (text : List ℕ) (values : List Bool) → model_of variables text ≡ Values values → length values ≡ variables
unfolding model_of
values_are variables text values is = by (after_lines variables nothing 0 0 (whole_lines text ++ last_part text ∷ [])) is
  where
    by : (o : Outcome) → reading_of variables (length text) o ≡ Values values → length values ≡ variables
    by (Stops (refused.NoText at)) e = absurd (let never : NoText at ≡ Values values = e in cc)
    by (Stops (refused.LongLine line)) e = absurd (let never : LongLine line ≡ Values values = e in cc)
    by (Tells told) e = ended told.ended refl e
      where
        ended : (b : Bool) → told.ended ≡ b → reading_of variables (length text) (Tells told) ≡ Values values → length values ≡ variables
        ended true f e = let all : Values (values_told variables told.literals) ≡ Values values = rw f at e in let same : values_told variables told.literals ≡ values = cc in ap (λ (vs : List Bool). length vs) (sym same) ∙ values_long variables told.literals
        ended false f e = absurd (let never : NoText (counted (length text)) ≡ Values values = rw f at e in cc)
