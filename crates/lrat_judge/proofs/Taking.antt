-- What a judge says of a line is its outcome's.
use Rattle.std.proofs.Common.{arith, ◌≡◌, ◌+◌, ℕ, List, [], ◌∷◌, length, Bool, true, false, Option, Some, None, Result, Ok, Err, refl, sym, ap, ◌∙◌, subst}
use Rattle.std.specs.Prelude.{IfOk, nat_lt, if◌then◌else◌}
use Rattle.std.specs.List.{list_any}
use Rattle.containers.specs.declared.memory.Memory.{Memory}
use Rattle.clause_base.specs.Formula.{Cnf}
use Rattle.clause_base.specs.Derivation.{learns_empty}
use Rattle.rup_check.specs.Taken.{CheckerView, HasTaken}
use Rattle.sat_text.specs.Words.{words_of}
use Rattle.sat_text.specs.LratLine.{LineView, line_of, is_passed}
use Rattle.lrat_judge.specs.Judged.{Judged, counted}
use Rattle.lrat_judge.specs.Follow.{Known, follow}
use Rattle.lrat_judge.specs.Verdicts.{Outcome, Ends, Goes, most_line, outcome_known, outcome_line, outcome_of}
use Rattle.lrat_judge.specs.Reached.{StandsAt, Stands, Comes}
use Rattle.lrat_judge.specs.declared.verdict.Verdict.{Verdict}
use Rattle.lrat_judge.specs.declared.verdict.Verdict.TheVariants.{More, Refuted, Rejected, Syntax, TooLong}
use Rattle.lrat_judge.proofs.Entering.{not_stood, stood}

-- What a line comes to where this is known, and a judge after it.
module _ (formula : Cnf) (known : Known) (at count : ℕ) (passed : Bool) (judge : Judged) (a n : ℕ) where
  -- bytes that spell no line are passed over, or are none
  pub unread_comes : (spelled : Option LineView) (said : Verdict) (begins : ℕ) → spelled ≡ None → said ≡ (if passed then More else Syntax begins) → begins ≡ counted at
      → StandsAt judge.checker judge.ids judge.entries known → judge.at ≡ counted a → judge.count ≡ counted n → Comes (outcome_line formula known at count passed spelled) said judge a n
  unread_comes spelled said begins none is place stands at_is count_is =
      subst (λ (o : Option LineView). Comes (outcome_line formula known at count passed o) said judge a n) (sym none) (by passed is)
    where
      by : (b : Bool) → said ≡ (if b then More else Syntax begins) → Comes (outcome_line formula known at count b None) said judge a n
      by true e = (e, record { stands = stands; at_is = at_is; count_is = count_is })
      by false e = e ∙ ap (λ (k : ℕ). Syntax k) place

  -- the same of what is known after it
  known_comes : (spelled : Option LineView) (view : LineView) (other : Cnf) (said : Verdict) (o : Option Known) → spelled ≡ Some view → other ≡ formula → follow other known view ≡ o → Comes (outcome_known count o) said judge a n
      → Comes (outcome_line formula known at count passed spelled) said judge a n
  known_comes spelled view other said o is same follows h =
      subst (λ (s : Option LineView). Comes (outcome_line formula known at count passed s) said judge a n) (sym is)
      (subst (λ (k : Option Known). Comes (outcome_known count k) said judge a n) (sym (ap (λ (f : Cnf). follow f known view) (sym same) ∙ follows)) h)

  pub rejected_comes : (spelled : Option LineView) (view : LineView) (other : Cnf) (checker : CheckerView) (ids : List ℕ) (entries said : ℕ) → spelled ≡ Some view → other ≡ formula → Stands false checker ids entries (follow other known view)
      → said ≡ counted (count + 1) → Comes (outcome_line formula known at count passed spelled) (Rejected said) judge a n
  rejected_comes spelled view other checker ids entries said is same stands number =
      known_comes spelled view other (Rejected said) None is same (not_stood checker ids entries (follow other known view) stands) (ap (λ (k : ℕ). Rejected k) number)

  pub refuted_comes : (spelled : Option LineView) (view : LineView) (other : Cnf) (checker : CheckerView) (ids : List ℕ) (entries : ℕ) → spelled ≡ Some view → other ≡ formula → Stands true checker ids entries (follow other known view)
      → checker.refuted ≡ true → Comes (outcome_line formula known at count passed spelled) (Refuted entries) judge a n
  refuted_comes spelled view other checker ids entries is same stands refuted =
      let s = stood checker ids entries (follow other known view) stands in
      let empty : list_any learns_empty s.0.log ≡ true = sym s.2.taken.refuted ∙ refuted in
      known_comes spelled view other (Refuted entries) (Some s.0) is same s.1 (rw empty (ap (λ (k : ℕ). Refuted k) s.2.entries_are))

  pub more_comes : (spelled : Option LineView) (view : LineView) (other : Cnf) → spelled ≡ Some view → other ≡ formula → Stands true judge.checker judge.ids judge.entries (follow other known view)
      → judge.checker.refuted ≡ false → judge.at ≡ counted a → judge.count ≡ counted n → Comes (outcome_line formula known at count passed spelled) More judge a n
  more_comes spelled view other is same stands going at_is count_is =
      let s = stood judge.checker judge.ids judge.entries (follow other known view) stands in
      let none : list_any learns_empty s.0.log ≡ false = sym s.2.taken.refuted ∙ going in
      known_comes spelled view other More (Some s.0) is same s.1 (rw none (refl, record { stands = s.2; at_is = at_is; count_is = count_is }))

-- What the bytes of a line come to, by how many they are.
module _ (formula : Cnf) (known : Known) (at count : ℕ) (bytes : List ℕ) (said : Verdict) (judge : Judged) (a n : ℕ) where
  pub line_comes : nat_lt most_line (length bytes) ≡ false → Comes (outcome_line formula known at count (is_passed (words_of bytes)) (line_of bytes)) said judge a n → Comes (outcome_of formula known at count bytes) said judge a n
  unfolding outcome_of
  line_comes short h = rw short h

  pub long_comes : nat_lt most_line (length bytes) ≡ true → said ≡ TooLong (counted (count + 1)) → Comes (outcome_of formula known at count bytes) said judge a n
  unfolding outcome_of
  long_comes long is = rw long is

-- what is said of a line is said of a judge that stands likewise
pub comes_as : (outcome : Outcome) (said : Verdict) (judge other : Judged) (a n : ℕ) → other.checker ≡ judge.checker → other.ids ≡ judge.ids → other.entries ≡ judge.entries → other.at ≡ judge.at → other.count ≡ judge.count
    → Comes outcome said judge a n → Comes outcome said other a n
comes_as (Ends verdict) said judge other a n c i e t k h = h
comes_as (Goes known) said judge other a n c i e t k h = (
  h.0,
  record {
    stands = record {
      taken = subst (λ (checker : CheckerView). HasTaken checker known.log) (sym c) h.1.stands.taken;
      ids_are = i ∙ h.1.stands.ids_are;
      entries_are = e ∙ h.1.stands.entries_are;
    };
    at_is = t ∙ h.1.at_is;
    count_is = k ∙ h.1.count_is;
  },
)

-- the same where the line, and the formula, are told otherwise
pub comes_at : (f g : Cnf) (known : Known) (at count : ℕ) (line other : List ℕ) (said : Verdict) (judge next : Judged) → f ≡ g → line ≡ other
    → next.checker ≡ judge.checker → next.ids ≡ judge.ids → next.entries ≡ judge.entries → next.at ≡ judge.at → next.count ≡ judge.count
    → Comes (outcome_of f known at count line) said judge (at + length line + 1) (count + 1) → Comes (outcome_of g known at count other) said next (at + length other + 1) (count + 1)
comes_at f g known at count line other said judge next same is c i e t k h =
    subst (λ (l : List ℕ). Comes (outcome_of g known at count l) said next (at + length l + 1) (count + 1)) is
    (comes_as (outcome_of g known at count line) said judge next (at + length line + 1) (count + 1) c i e t k (subst (λ (x : Cnf). Comes (outcome_of x known at count line) said judge (at + length line + 1) (count + 1)) same h))

pub ok_comes_at : (r : Result Verdict Memory) (f g : Cnf) (known : Known) (at count : ℕ) (line other : List ℕ) (judge next : Judged) → f ≡ g → line ≡ other
    → next.checker ≡ judge.checker → next.ids ≡ judge.ids → next.entries ≡ judge.entries → next.at ≡ judge.at → next.count ≡ judge.count
    → IfOk r (λ said. Comes (outcome_of f known at count line) said judge (at + length line + 1) (count + 1)) → IfOk r (λ said. Comes (outcome_of g known at count other) said next (at + length other + 1) (count + 1))
ok_comes_at (Ok said) f g known at count line other judge next same is c i e t k h = comes_at f g known at count line other said judge next same is c i e t k h
ok_comes_at (Err error) f g known at count line other judge next same is c i e t k h = tt

pub none_left : (xs : List ℕ) → length xs ≡ 0 → xs ≡ []
none_left [] e = refl
none_left (x ∷ xs) e = absurd (let never : ⊥ = omega (arith, e) in never)
