-- Numbers in a line are cut from what follows them in one way.
use Rattle.std.proofs.Common.{◌≡◌, ◌≢◌, ◌∙◌, ◌≤◌, ℕ, suc, List, [], ◌∷◌, ◌++◌, length, codes, Option, Some, None, is_some, IfSome, MatchOption, true≢false, refl, sym, ap, subst, arith}
use Rattle.std.specs.Borrow.{Bor}
use Rattle.std.specs.Prelude.{decimal, get_or}
use Rattle.std.specs.Str.Parse.{AllDigits, IsNumeral}
use Rattle.std.proofs.lemmas.Fmt.{decimal_is_IsNumeral, decimal_injective}
use Rattle.clause_base.specs.Clause.{IsClause}
use Rattle.proof_log.specs.Text.{AreSmall}
use Rattle.proof_log.specs.own.Reading.{BeginsDigit, BeginsNumber, EndsNumbers, HasNoNumber, HasNoLearn, HasNoNumbers, HasNoNumbersTo, ReadsNumbers, Stops, learn_then, numbered}

-- digits, up to the first byte that is none
pub digits_cut : (xs ys us vs : List ℕ) → AllDigits 10 xs → AllDigits 10 ys → Stops us → Stops vs → xs ++ us ≡ ys ++ vs → (xs ≡ ys) × (us ≡ vs)
digits_cut [] [] us vs p q s t e = (refl, e)
digits_cut [] (y ∷ ys) us vs p q s t e = absurd (s (subst BeginsDigit (sym e) q.0))
digits_cut (x ∷ xs) [] us vs p q s t e = absurd (t (subst BeginsDigit e p.0))
digits_cut (x ∷ xs) (y ∷ ys) us vs p q s t e =
    let head : x ≡ y = cc in
    let tails : xs ++ us ≡ ys ++ vs = cc in
    let rest = digits_cut xs ys us vs p.1 q.1 s t tails in
    (cc (head, rest.0), rest.1)

pub digits_of : (n : ℕ) → n ≤ 4294967295 → AllDigits 10 (decimal n)
digits_of n small = (decimal_is_IsNumeral n (omega (arith, small))).0.1

-- a number and what follows it
pub number_cut : (n m : ℕ) (us vs : List ℕ) → n ≤ 4294967295 → m ≤ 4294967295 → Stops us → Stops vs → decimal n ++ us ≡ decimal m ++ vs → (n ≡ m) × (us ≡ vs)
number_cut n m us vs p q s t e =
    let cut = digits_cut (decimal n) (decimal m) us vs (digits_of n p) (digits_of m q) s t e in
    (decimal_injective n m (omega (arith, p)) (omega (arith, q)) cut.0, cut.1)

-- a number begins with a digit
begins : (ds us : List ℕ) → IsNumeral 10 ds → BeginsDigit (ds ++ us)
begins [] us is = absurd (omega (arith, is.0))
begins (d ∷ ds) us is = is.1.0

pub number_begins : (n : ℕ) (us : List ℕ) → n ≤ 4294967295 → BeginsDigit (decimal n ++ us)
number_begins n us small = begins (decimal n) us (decimal_is_IsNumeral n (omega (arith, small))).0

-- a number ends before a blank
blank_stops : (us : List ℕ) → Stops (32 ∷ us)
blank_stops us digit = omega (arith, digit)

-- it ends before further numbers
pub numbered_stops : (ns us : List ℕ) → Stops us → Stops (numbered ns us)
numbered_stops [] us s = s
numbered_stops (n ∷ ns) us s = blank_stops (decimal n ++ numbered ns us)

begins_number : (n : ℕ) (ns us : List ℕ) → n ≤ 4294967295 → BeginsNumber (numbered (n ∷ ns) us)
begins_number n ns us small = (decimal n ++ numbered ns us, refl, number_begins n (numbered ns us) small)

-- numbers and what follows them
pub numbers_cut : (ns ms us vs : List ℕ) → AreSmall ns → AreSmall ms → ((ns ≡ [] → ⊥) → Stops us) → (BeginsNumber us → ⊥) → Stops vs → (BeginsNumber vs → ⊥)
    → numbered ns us ≡ numbered ms vs → (ns ≡ ms) × (us ≡ vs)
numbers_cut [] [] us vs p q s u t v e = (refl, e)
numbers_cut [] (m ∷ ms) us vs p q s u t v e = absurd (u (subst BeginsNumber (sym e) (begins_number m ms vs q.0)))
numbers_cut (n ∷ ns) [] us vs p q s u t v e = absurd (v (subst BeginsNumber e (begins_number n ns us p.0)))
numbers_cut (n ∷ ns) (m ∷ ms) us vs p q s u t v e =
    let stops : Stops us = s (λ none. let never : suc (length ns) ≡ 0 = ap length none in omega (arith, never)) in
    let tails : decimal n ++ numbered ns us ≡ decimal m ++ numbered ms vs = cc in
    let cut = number_cut n m (numbered ns us) (numbered ms vs) p.0 q.0 (numbered_stops ns us stops) (numbered_stops ms vs t) tails in
    let rest = numbers_cut ns ms us vs p.1 q.1 (λ some. stops) u t v cut.1 in
    (cc (cut.0, rest.0), rest.1)

-- numbers that were read are those that are there
pub same_numbers : (bytes ns us ms vs : List ℕ) → ReadsNumbers bytes ns us → AreSmall ms → EndsNumbers vs → bytes ≡ numbered ms vs → (ns ≡ ms) × (us ≡ vs)
same_numbers bytes ns us ms vs r small ends e =
    numbers_cut ns ms us vs r.small small r.ended r.last ends.0 ends.1 (sym r.text ∙ e)

-- after numbers that were read, where one more begins, it is there
pub number_after : (ns ms tail vs : List ℕ) → AreSmall ns → AreSmall ms → BeginsDigit tail → Stops vs → (BeginsNumber vs → ⊥)
    → numbered ns (32 ∷ tail) ≡ numbered ms vs → (m : ℕ) × (rest : List ℕ) × (m ≤ 4294967295) × Stops rest × (tail ≡ decimal m ++ rest)
number_after [] [] tail vs p q b t v e = absurd (v (tail, sym e, b))
number_after [] (m ∷ ms) tail vs p q b t v e = (m, numbered ms vs, q.0, numbered_stops ms vs t, cc)
number_after (n ∷ ns) [] tail vs p q b t v e = absurd (v (subst BeginsNumber e (begins_number n ns (32 ∷ tail) p.0)))
number_after (n ∷ ns) (m ∷ ms) tail vs p q b t v e =
    let tails : decimal n ++ numbered ns (32 ∷ tail) ≡ decimal m ++ numbered ms vs = cc in
    let cut = number_cut n m (numbered ns (32 ∷ tail)) (numbered ms vs) p.0 q.0 (numbered_stops ns (32 ∷ tail) (blank_stops tail)) (numbered_stops ms vs t) tails in
    number_after ns ms tail vs p.1 q.1 b t v cut.1

-- after numbers, these bytes are stripped off
pub stripped : (bytes ns rest end : List ℕ) (r : Option (Bor (List ℕ))) → ReadsNumbers bytes ns rest
    → MatchOption r ((more : List ℕ) → rest ≢ end ++ more) (λ x. rest ≡ end ++ x.now) → IfSome r (λ x. bytes ≡ numbered ns (end ++ x.now))
stripped bytes ns rest end None r m = tt
stripped bytes ns rest end (Some x) r m = r.text ∙ ap (numbered ns) m

pub not_stripped : (bytes ns rest end : List ℕ) (r : Option (Bor (List ℕ))) → ReadsNumbers bytes ns rest → ((more : List ℕ) → EndsNumbers (end ++ more))
    → MatchOption r ((more : List ℕ) → rest ≢ end ++ more) (λ x. rest ≡ end ++ x.now) → r ≡ None → HasNoNumbersTo end bytes
not_stripped bytes ns rest end None r ends m none ms vs small text = m vs (same_numbers bytes ns rest ms (end ++ vs) r small (ends vs) text).1
not_stripped bytes ns rest end (Some x) r ends m none ms vs small text = absurd (true≢false (ap is_some none))

-- these numbers were read, and this is left
pub record IsReading (bytes ns rest : List ℕ) : Type 0 where
  pub text : bytes ≡ numbered ns rest
  pub small : AreSmall ns
  pub ended : (ns ≡ [] → ⊥) → Stops rest

pub numbered-push : (ns : List ℕ) (n : ℕ) (rest : List ℕ) → numbered (ns ++ n ∷ []) rest ≡ numbered ns (numbered (n ∷ []) rest)
numbered-push [] n rest = refl
numbered-push (m ∷ ns) n rest = ap (λ (l : List ℕ). 32 ∷ (decimal m ++ l)) (numbered-push ns n rest)

pub small-push : (ns : List ℕ) (n : ℕ) → AreSmall ns → n ≤ 4294967295 → AreSmall (ns ++ n ∷ [])
small-push [] n are is = (is, tt)
small-push (m ∷ ns) n are is = (are.0, small-push ns n are.1 is)

pub one_more : (bytes ns rest digits others : List ℕ) (n : ℕ) → IsReading bytes ns rest → rest ≡ 32 ∷ digits → digits ≡ decimal n ++ others → Stops others → n ≤ 4294967295
    → IsReading bytes (ns ++ n ∷ []) others
one_more bytes ns rest digits others n r e f stops small = record {
  text = r.text ∙ (ap (numbered ns) (e ∙ ap (λ (l : List ℕ). 32 ∷ l) f) ∙ sym (numbered-push ns n others));
  small = small-push ns n r.small small;
  ended = λ some. stops;
}

pub none_there : (bytes ns rest digits : List ℕ) → IsReading bytes ns rest → rest ≡ 32 ∷ digits → BeginsDigit digits → HasNoNumber digits → HasNoNumbers bytes
none_there bytes ns rest digits r e begins none ms vs small ends text =
    let there = number_after ns ms digits vs r.small small begins ends.0 ends.1 (ap (numbered ns) (sym e) ∙ (sym r.text ∙ text)) in
    none there.0 there.1 there.2 there.3 there.4

-- ---- where numbers end

pub heads : (a b : ℕ) (xs ys : List ℕ) → a ∷ xs ≡ b ∷ ys → a ≡ b
heads a b xs ys e = ap (λ (l : List ℕ). get_or l 0 0) e

pub feed_ends : (rest : List ℕ) → EndsNumbers (10 ∷ rest)
feed_ends rest = ((λ digit. omega (arith, digit)), λ more. no_blank more)
  where
    no_blank : BeginsNumber (10 ∷ rest) → ⊥
    no_blank more = let never = heads 10 32 rest more.0 more.1 in omega (arith, never)

pub by_ends : (rest : List ℕ) → EndsNumbers (codes " by" ++ rest)
by_ends rest = ((λ digit. omega (arith, digit)), λ more. no_digit more)
  where
    there : (xs ys : List ℕ) → 32 ∷ xs ≡ 32 ∷ ys → ys ≡ xs
    there xs ys e = cc

    no_digit : BeginsNumber (codes " by" ++ rest) → ⊥
    no_digit more =
        let digit = subst BeginsDigit (there (98 ∷ 121 ∷ rest) more.0 more.1) more.2 in
        omega (arith, digit)

pub ended_cut : (ns ms us vs : List ℕ) → AreSmall ns → AreSmall ms → EndsNumbers us → EndsNumbers vs → numbered ns us ≡ numbered ms vs → (ns ≡ ms) × (us ≡ vs)
ended_cut ns ms us vs p q s t e = numbers_cut ns ms us vs p q (λ some. s.0) s.1 t.0 t.1 e

-- ---- what follows `learn`

pub learn_no_codes : (end bytes : List ℕ) → end ≡ codes " by" → HasNoNumbersTo end bytes → HasNoLearn bytes
learn_no_codes end bytes is none clause hints rest written text =
    none clause (numbered hints (10 ∷ rest)) written.1 (text ∙ ap (λ (l : List ℕ). numbered clause (l ++ numbered hints (10 ∷ rest))) (sym is))

-- numbers that were read, up to `by`, are the codes, and the hints are left
codes_there : (end bytes ns left clause hints rest : List ℕ) → end ≡ codes " by" → bytes ≡ numbered ns (end ++ left) → AreSmall ns → AreSmall clause
    → bytes ≡ learn_then clause hints rest → (ns ≡ clause) × (left ≡ numbered hints (10 ∷ rest))
codes_there end bytes ns left clause hints rest is read small p text =
    let there : numbered ns (codes " by" ++ left) ≡ learn_then clause hints rest = ap (λ (l : List ℕ). numbered ns (l ++ left)) (sym is) ∙ (sym read ∙ text) in
    let cut = ended_cut ns clause (codes " by" ++ left) (codes " by" ++ numbered hints (10 ∷ rest)) small p (by_ends left) (by_ends (numbered hints (10 ∷ rest))) there in
    (cut.0, tails left (numbered hints (10 ∷ rest)) cut.1)
  where
    tails : (xs ys : List ℕ) → codes " by" ++ xs ≡ codes " by" ++ ys → xs ≡ ys
    tails xs ys e = cc

pub learn_no_clause : (end bytes ns left : List ℕ) → end ≡ codes " by" → bytes ≡ numbered ns (end ++ left) → AreSmall ns → (IsClause ns → ⊥) → HasNoLearn bytes
learn_no_clause end bytes ns left is read small none clause hints rest written text =
    none (subst IsClause (sym (codes_there end bytes ns left clause hints rest is read small written.1 text).0) written.0)

pub learn_no_hints : (end feed bytes ns left : List ℕ) → end ≡ codes " by" → feed ≡ 10 ∷ [] → bytes ≡ numbered ns (end ++ left) → AreSmall ns → HasNoNumbersTo feed left → HasNoLearn bytes
learn_no_hints end feed bytes ns left is line read small none clause hints rest written text =
    none hints rest written.2 ((codes_there end bytes ns left clause hints rest is read small written.1 text).1 ∙ ap (λ (l : List ℕ). numbered hints (l ++ rest)) (sym line))
