-- What holds of each pair of lists, and of the list in which they stand one after another.
use Rattle.std.proofs.Common.{arith, ◌≡◌, ℕ, ◌+◌, ◌-◌, ◌<◌, ◌≤◌, List, ◌++◌, length, ltb, Bool, true, false, refl, sym, subst, length-append}
use Rattle.std.proofs.lemmas.Bool.Decides.{nat_tests}
use Rattle.std.proofs.lemmas.List.{get_or_append_left, get_or-append_right, get_or-append-add}
use Rattle.clause_base.specs.declared.pair.Pair.{Pair}
use Rattle.clause_base.specs.Pairs.{no_pair, pair_in}

abbrev pub EachPair : (Pair → Type 0) → List Pair → Type 0
EachPair P list = (place : ℕ) → place < length list → P (pair_in list place)

pub each_append : (P : Pair → Type 0) (xs ys : List Pair) → EachPair P xs → EachPair P ys → EachPair P (xs ++ ys)
each_append P xs ys hx hy place h = by (ltb place (length xs)) refl
  where
    by : (b : Bool) → ltb place (length xs) ≡ b → P (pair_in (xs ++ ys) place)
    by true e = let i : place < length xs = grind (arith, nat_tests) in subst P (sym (get_or_append_left xs ys no_pair place i)) (hx place i)
    by false e =
        let i : length xs ≤ place = grind (arith, nat_tests) in
        subst P (sym (get_or-append_right xs ys (length xs) place no_pair refl i)) (hy (place - length xs) (omega (arith, h, i, length-append xs ys)))

pub each_left : (P : Pair → Type 0) (xs ys : List Pair) → EachPair P (xs ++ ys) → EachPair P xs
each_left P xs ys h place i = subst P (get_or_append_left xs ys no_pair place i) (h place (omega (arith, i, length-append xs ys)))

pub each_right : (P : Pair → Type 0) (xs ys : List Pair) → EachPair P (xs ++ ys) → EachPair P ys
each_right P xs ys h place i = subst P (get_or-append-add xs ys place no_pair) (h (length xs + place) (omega (arith, i, length-append xs ys)))

-- five lists
pub each_of_five : (P : Pair → Type 0) (a b c d e : List Pair) → EachPair P a → EachPair P b → EachPair P c → EachPair P d → EachPair P e → EachPair P (a ++ (b ++ (c ++ (d ++ e))))
each_of_five P a b c d e ha hb hc hd he =
    each_append P a (b ++ (c ++ (d ++ e))) ha (each_append P b (c ++ (d ++ e)) hb (each_append P c (d ++ e) hc (each_append P d e hd he)))

pub record AreFive (P : Pair → Type 0) (a b c d e : List Pair) : Type 0 where
  pub first : EachPair P a
  pub second : EachPair P b
  pub third : EachPair P c
  pub fourth : EachPair P d
  pub fifth : EachPair P e

pub five_of_each : (P : Pair → Type 0) (a b c d e : List Pair) → EachPair P (a ++ (b ++ (c ++ (d ++ e)))) → AreFive P a b c d e
five_of_each P a b c d e h =
    let h1 = each_right P a (b ++ (c ++ (d ++ e))) h in
    let h2 = each_right P b (c ++ (d ++ e)) h1 in
    let h3 = each_right P c (d ++ e) h2 in
    record {
      first = each_left P a (b ++ (c ++ (d ++ e))) h;
      second = each_left P b (c ++ (d ++ e)) h1;
      third = each_left P c (d ++ e) h2;
      fourth = each_left P d e h3;
      fifth = each_right P d e h3;
    }
