-- What a shelf handed over, and what it tells.
use Rattle.std.proofs.Common.{◌≡◌, ◌<◌, ℕ, ◌+◌, Bool, true, false, List, [], ◌∷◌, ◌++◌, length, take, Option, Some, None, refl, sym, ap, ap₂, subst, ◌∙◌, arith, append_assoc, append-nil}
use Rattle.std.specs.Prelude.{IfSome, IsTrue}
use Rattle.std.specs.List.{AllByRecursion}
use Rattle.std.proofs.lemmas.List.{append_cancel_left, length-take-le}
use Rattle.pl_io.specs.Outside.{Heard, whole, Hears, IsSo, IsAsTold, Agrees, TookWhole, TookFirst}
use Rattle.plan_endings.specs.declared.ending.File.{File}
use Rattle.plan_tasks.specs.Limits.{most_of}
use Rattle.plan_tasks.specs.Files.{IsWhole, IsFront, AreTaken, AreOf}

-- what was handed over, where nothing stood in front of it
pub heard_is : (w : Bool) (old new : List Heard) (name before after : List ℕ) → before ≡ [] → Hears w old new name before after → new ≡ old ++ (name, (w, after)) ∷ []
heard_is w old new name before after none h =
    let all : h.0 ≡ after = sym (h.1 ∙ ap (λ (xs : List ℕ). xs ++ h.0) none) in
    subst (λ (xs : List ℕ). new ≡ old ++ (name, (w, xs)) ∷ []) all h.2

-- more was handed over
pub more_heard : (old middle new took more : List Heard) → middle ≡ old ++ took → new ≡ middle ++ more → new ≡ old ++ (took ++ more)
more_heard old middle new took more first second = second ∙ (ap (λ (xs : List Heard). xs ++ more) first ∙ append_assoc old took more)

-- one thing was handed over
pub handed_once : (old new took other : List Heard) → new ≡ old ++ took → new ≡ old ++ other → took ≡ other
handed_once old new took other first second = append_cancel_left old took other (sym first ∙ second)

-- nothing was handed over
pub handed_none : (old took : List Heard) → old ≡ old ++ took → took ≡ []
handed_none old took same = append_cancel_left old took [] (sym same ∙ sym (append-nil old))

-- all of a file that is told, and a front of one
pub so_whole : (told : Option (List ℕ)) (most : ℕ) (before after : List ℕ) → before ≡ [] → IfSome told (TookWhole most before after) → IfSome told (λ file. IsSo file true after)
so_whole None most before after none took = tt
so_whole (Some file) most before after none took = took.1 ∙ ap (λ (xs : List ℕ). xs ++ file) none

pub so_front : (told : Option (List ℕ)) (most : ℕ) (before after : List ℕ) → before ≡ [] → IfSome told (TookFirst most before after) → IfSome told (λ file. IsSo file false after)
so_front None most before after none took = tt
so_front (Some file) most before after none took =
    let is : after ≡ take most file = took.1 ∙ ap (λ (xs : List ℕ). xs ++ take most file) none in
    let full : length after ≡ most = ap length is ∙ length-take-le most file (omega (arith, took.0)) in
    (omega (arith, full, took.0), rw full is)

module _ (told : List ℕ → Option (List ℕ)) (lacks : List ℕ → Bool) where
  pub agrees_same : (old new : List Heard) → new ≡ old → Agrees told lacks old new
  agrees_same old new same = ([], same ∙ sym (append-nil old), tt)

  -- what is handed over of one file agrees with what is told of it
  pub agrees_one : (w : Bool) (old new : List Heard) (name before after : List ℕ) → before ≡ [] → Hears w old new name before after → (IsTrue (lacks name) → false ≡ true) → IfSome (told name) (λ file. IsSo file w after)
      → Agrees told lacks old new
  agrees_one w old new name before after none h there so = ((name, (w, after)) ∷ [], heard_is w old new name before after none h, (((λ lacked. let never : false ≡ true = there lacked in cc), so), tt))

  both_told : (xs ys : List Heard) → AllByRecursion (IsAsTold told lacks) xs → AllByRecursion (IsAsTold told lacks) ys → AllByRecursion (IsAsTold told lacks) (xs ++ ys)
  both_told [] ys a b = b
  both_told (x ∷ xs) ys a b = (a.0, both_told xs ys a.1 b)

  pub agrees_more : (old middle new : List Heard) → Agrees told lacks old middle → Agrees told lacks middle new → Agrees told lacks old new
  agrees_more old middle new a b = (a.0 ++ b.0, more_heard old middle new a.0 b.0 a.1 b.1, both_told a.0 b.0 a.2 b.2)

  -- and so does what is handed over of three, one after the other
  pub agrees_three : (old one two new : List Heard) → Agrees told lacks old one → Agrees told lacks one two → Agrees told lacks two new → Agrees told lacks old new
  agrees_three old one two new a b c = agrees_more old two new (agrees_more old one two a b) c

-- ---- what was handed over of files that are known

-- a file of which a front was handed over has more bytes than it may have
pub front_long : (file : File) (name : List ℕ) (heard : Heard) (bytes : List ℕ) → IsFront file name heard → IsSo bytes heard.1.0 heard.1.1 → most_of file < length bytes
front_long file name heard bytes front so =
    let is = subst (λ (h : Heard). IsSo bytes h.1.0 h.1.1) front.1 so in
    let less = is.0 in
    omega (arith, less, front.2)

-- what was handed over whole is the file
pub whole_is : (file : File) (name : List ℕ) (heard : Heard) (taken bytes : List ℕ) → IsWhole file name heard taken → IsSo bytes heard.1.0 heard.1.1 → taken ≡ bytes
whole_is file name heard taken bytes is so = subst (λ (h : Heard). IsSo bytes h.1.0 h.1.1) is.0 so

pub taken_are : (file : ℕ → File) (place : ℕ) (names : List (List ℕ)) (took : List Heard) (taken files : List (List ℕ)) → AreTaken file place names took taken → AreOf files took → length files ≡ length names → taken ≡ files
taken_are file place [] [] [] [] h of count = refl
taken_are file place [] [] [] (f ∷ fs) h of count = absurd (omega (arith, count))
taken_are file place [] [] (t ∷ ts) files h of count = absurd h
taken_are file place [] (e ∷ es) taken files h of count = absurd h
taken_are file place (n ∷ ns) [] taken files h of count = absurd h
taken_are file place (n ∷ ns) (e ∷ es) [] files h of count = absurd h
taken_are file place (n ∷ ns) (e ∷ es) (t ∷ ts) [] h of count = absurd of
taken_are file place (n ∷ ns) (e ∷ es) (t ∷ ts) (f ∷ fs) h of count =
    ap₂ (λ (x : List ℕ) (xs : List (List ℕ)). x ∷ xs) (whole_is (file place) n e t f h.0 of.0) (taken_are file (place + 1) ns es ts fs h.1 of.1 (omega (arith, count)))

-- a front of what was handed over
pub of_front : (files : List (List ℕ)) (took rest : List Heard) → AreOf files (took ++ rest) → AreOf files took
of_front files [] rest of = tt
of_front [] (e ∷ es) rest of = absurd of
of_front (f ∷ fs) (e ∷ es) rest of = (of.0, of_front fs es rest of.1)

-- two files that were taken, and three
pub two_taken : (file : ℕ → File) (place : ℕ) (one two : List ℕ) (took : List Heard) (files : List (List ℕ)) → AreTaken file place (one ∷ two ∷ []) took files
    → (first second : List ℕ) × (files ≡ first ∷ second ∷ []) × (took ≡ whole one first ∷ whole two second ∷ [])
two_taken file place one two [] files h = absurd h
two_taken file place one two (a ∷ es) [] h = absurd h
two_taken file place one two (a ∷ []) (f ∷ fs) h = absurd h.1
two_taken file place one two (a ∷ (b ∷ es)) (f ∷ []) h = absurd h.1
two_taken file place one two (a ∷ (b ∷ (c ∷ es))) (f ∷ (g ∷ fs)) h = absurd h.1.1
two_taken file place one two (a ∷ (b ∷ [])) (f ∷ (g ∷ (k ∷ fs))) h = absurd h.1.1
two_taken file place one two (a ∷ (b ∷ [])) (f ∷ (g ∷ [])) h = (f, g, refl, ap₂ (λ (x y : Heard). x ∷ y ∷ []) h.0.0 h.1.0.0)

pub three_taken : (file : ℕ → File) (place : ℕ) (one two three : List ℕ) (took : List Heard) (files : List (List ℕ)) → AreTaken file place (one ∷ two ∷ three ∷ []) took files
    → (first second third : List ℕ) × (files ≡ first ∷ second ∷ third ∷ []) × (took ≡ whole one first ∷ whole two second ∷ whole three third ∷ [])
three_taken file place one two three [] files h = absurd h
three_taken file place one two three (a ∷ es) [] h = absurd h
three_taken file place one two three (a ∷ es) (f ∷ fs) h =
    let rest = two_taken file (place + 1) two three es fs h.1 in
    (f, rest.0, rest.1, ap (λ (xs : List (List ℕ)). f ∷ xs) rest.2, ap₂ (λ (x : Heard) (xs : List Heard). x ∷ xs) h.0.0 rest.3)
