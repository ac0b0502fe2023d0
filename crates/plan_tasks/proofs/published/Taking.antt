-- What is known while the files of a request are taken, in order: what holds of the rest of them holds of all.
use Rattle.std.proofs.Common.{◌≡◌, ◌<◌, ◌≤◌, ℕ, ◌+◌, ◌==◌, Bool, true, false, List, [], ◌∷◌, ◌++◌, length, drop, Option, Some, None, refl, sym, ap, subst, ◌∙◌, arith, inl, inr, append_assoc, append-nil, length-append, add-one, suc}
use Rattle.std.specs.Prelude.{slice_get, option_map, if◌then◌else◌}
use Rattle.std.specs.Borrow.{Bor}
use Rattle.clap.specs.Walk.{texts}
use Rattle.std.proofs.Math.Seq.{drop-cons}
use Rattle.std.proofs.Math.ListN.{drop_of_length-le}
use Rattle.std.proofs.lemmas.Option.{slice_get_within, slice_get_cases, slice_get_past, slice_get-map, get_or_from_slice_get}
use Rattle.std.proofs.lemmas.Bool.Decides.{eqb_tells}
use Rattle.std.proofs.lemmas.List.{length-map}
use Rattle.std.proofs.lemmas.List.Sums.{sum_by-append}
use Rattle.pl_io.specs.Outside.{Heard, Notes, fault_count}
use Rattle.requests.specs.Among.{AreAmong}
use Rattle.plan_endings.specs.declared.ending.Ending.{Ending}
use Rattle.plan_endings.specs.declared.ending.Ending.TheVariants.{TooLong, ReadFault}
use Rattle.plan_endings.specs.declared.ending.File.{File}
use Rattle.plan_endings.specs.declared.ending.File.TheVariants.{Domain, Problem}
use Rattle.plan_endings.specs.Ends.{EndsBy}
use Rattle.plan_endings.specs.declared.stop.Stop.{Stop}
use Rattle.plan_endings.specs.declared.stop.Stop.TheVariants.{Ends}
use Rattle.plan_tasks.specs.Limits.{AreShort, file_in}
use Rattle.plan_tasks.specs.Files.{Stops, IsWhole, IsWholeOrFront, IsFault, IsFront, IsKept, AreTaken, AreKept, OneEnds, Rises, NotesAmong}

-- ---- what is left of a list

pub drop_at : {X : Type 0} (xs : List X) (n : ℕ) (x : X) → slice_get xs n ≡ Some x → drop n xs ≡ x ∷ drop (n + 1) xs
drop_at {X = X} xs n x at =
    let within : n < length xs = slice_get_within xs n x at in
    rw add-one (drop-cons xs n x within ∙ ap (λ (y : X). y ∷ drop (suc n) xs) (get_or_from_slice_get xs n x x at))

pub drop_none : {X : Type 0} (xs : List X) (n : ℕ) → slice_get xs n ≡ None → drop n xs ≡ []
drop_none xs n none = elim (slice_get_cases xs n).1 [
  | inl at ↦ absurd (let never : Some at.0 ≡ None = sym at.2 ∙ none in cc)
  | inr past ↦ drop_of_length-le xs past.0
]

-- the name after those whose files were taken
pub name_at : {A : Type 0} (names : List A) (n m : ℕ) (name : A) → n ≡ m → Some name ≡ slice_get names n → slice_get names m ≡ Some name
name_at names n m name e h = rw e at (sym h)

-- the problem after those that were taken, among the names of a batch
pub text_at : (domain : List ℕ) (problems : List (Bor (List ℕ))) (n m : ℕ) (name : Bor (List ℕ)) → m ≡ n + 1 → slice_get problems n ≡ Some name → slice_get (domain ∷ texts problems) m ≡ Some name.now
text_at domain problems n m name next at = rw (next, add-one) (slice_get-map (λ (b : Bor (List ℕ)). b.now) problems n ∙ ap (option_map (λ (b : Bor (List ℕ)). b.now)) at)

-- there is none
pub no_text_at : (domain : List ℕ) (problems : List (Bor (List ℕ))) (n m : ℕ) → m ≡ n + 1 → length problems ≤ n → slice_get (domain ∷ texts problems) m ≡ None
no_text_at domain problems n m next past = slice_get_past (domain ∷ texts problems) m (omega (arith, next, past, length-map problems (λ (b : Bor (List ℕ)). b.now)))

-- a file of a batch that is not the first is a problem
pub problem_at : (n : ℕ) → file_in Problem (suc n) ≡ Problem
problem_at n = elim (eqb_tells (suc n) 0) [
  | inl (t, zero) ↦ absurd (omega (arith, zero))
  | inr (f, not_zero) ↦ rw f (either (suc n == 1))
]
  where
    either : (b : Bool) → (if b then Problem else Problem) ≡ Problem
    either true = refl
    either false = refl

length_push : {X : Type 0} (xs : List X) (x : X) → length (xs ++ x ∷ []) ≡ length xs + 1
length_push xs x = omega (arith, length-append xs (x ∷ []))

-- ---- names among names

skip : (name : List ℕ) (names more : List (List ℕ)) → AreAmong names more → AreAmong (name ∷ names) more
skip name names [] h = tt
skip name names (m ∷ ms) h = inr h

more_count : (name : List ℕ) (old more new : List (List ℕ)) → new ≡ old ++ more → fault_count name old ≤ fault_count name new
more_count name old more new e = rw e (longer name old more)
  where
    longer : (n : List ℕ) (xs ys : List (List ℕ)) → fault_count n xs ≤ fault_count n (xs ++ ys)
    longer n xs ys = rw sum_by-append (omega arith)

-- no count of faults falls where names are noted
pub never_falls : (names old new : List (List ℕ)) (name : List ℕ) → NotesAmong names old new → fault_count name old ≤ fault_count name new
never_falls names old new name notes = more_count name old notes.0 new notes.1

-- ---- files that were taken

pub taken_short : (file : ℕ → File) (place : ℕ) (names : List (List ℕ)) (took : List Heard) (files : List (List ℕ)) → AreTaken file place names took files → AreShort file place files
taken_short file place [] [] [] h = tt
taken_short file place [] [] (f ∷ fs) h = absurd h
taken_short file place [] (e ∷ es) files h = absurd h
taken_short file place (n ∷ ns) [] files h = absurd h
taken_short file place (n ∷ ns) (e ∷ es) [] h = absurd h
taken_short file place (n ∷ ns) (e ∷ es) (f ∷ fs) h = (h.0.1, taken_short file (place + 1) ns es fs h.1)

-- as many as there are names
pub kept_count : {X : Type 0} (is : File → List ℕ → Heard → X → Type 0) (file : ℕ → File) (place : ℕ) (names : List (List ℕ)) (took : List Heard) (files : List X) → AreKept is file place names took files → length files ≡ length names
kept_count is file place [] [] [] h = refl
kept_count is file place [] [] (f ∷ fs) h = absurd h
kept_count is file place [] (e ∷ es) files h = absurd h
kept_count is file place (n ∷ ns) [] files h = absurd h
kept_count is file place (n ∷ ns) (e ∷ es) [] h = absurd h
kept_count is file place (n ∷ ns) (e ∷ es) (f ∷ fs) h = let rest = kept_count is file (place + 1) ns es fs h.1 in omega (arith, rest)

-- ---- a file that is too long

-- a stop that tells so
pub ended_long : (old new : List (List ℕ)) (was now : List Heard) (file : File) (name : List ℕ) (stop : Stop) (end : Ending) (other : File) → stop ≡ Ends end → end ≡ TooLong other
    → EndsBy (λ end. (took : List Heard) × (now ≡ was ++ took) × Stops old new file name took end) stop → (heard : Heard) × (now ≡ was ++ heard ∷ []) × IsFront file name heard
ended_long old new was now file name stop end other is long h =
    let e = subst (EndsBy (λ end. (took : List Heard) × (now ≡ was ++ took) × Stops old new file name took end)) is h in
    step e.0 e.1 (subst (Stops old new file name e.0) long e.2)
  where
    step : (took : List Heard) → now ≡ was ++ took → Stops old new file name took (TooLong other) → (heard : Heard) × (now ≡ was ++ heard ∷ []) × IsFront file name heard
    step took handed (inl fault) = absurd (let never : TooLong other ≡ ReadFault file = fault.0 in cc)
    step took handed (inr (same, (heard, one, front))) = (heard, handed ∙ ap (λ (xs : List Heard). was ++ xs) one, front)

-- the ending of a file that ends the run goes before the files after it
pub one_ends : (ends : File → List ℕ → List Heard → Ending → Type 0) (goes : File → List ℕ → Heard → Type 0) (file : ℕ → File) (place : ℕ) (name : List ℕ) (names : List (List ℕ)) (took : List Heard) (end : Ending)
    → ends (file place) name took end → OneEnds ends goes file place (name ∷ names) took end
one_ends ends goes file place name names [] end h = h
one_ends ends goes file place name names (e ∷ es) end h = inl h

-- ---- the faults that were noted so far

-- with faults of the names that are left, all that were noted are of these names
abbrev pub NotedSoFar : (names old now : List (List ℕ)) → ℕ → Type 0
NotedSoFar names old now done = (more : List (List ℕ)) → AreAmong (drop done names) more → NotesAmong names old (now ++ more)

pub none_noted : (names old : List (List ℕ)) → NotedSoFar names old old 0
none_noted names old more among = (more, refl, among)

pub noted_at : (names old now : List (List ℕ)) (done : ℕ) → NotedSoFar names old now done → NotesAmong names old now
noted_at names old now done so = rw append-nil at (so [] tt)

-- with those of the files that are left
pub noted_then : (names old now new : List (List ℕ)) (done : ℕ) → NotedSoFar names old now done → (noted : List (List ℕ)) → new ≡ now ++ noted → AreAmong (drop done names) noted → NotesAmong names old new
noted_then names old now new done so noted is among = rw is (so noted among)

-- with the next file's faults
pub noted_next : (names old now next : List (List ℕ)) (done : ℕ) (name : List ℕ) → slice_get names done ≡ Some name → Notes now next name → NotedSoFar names old now done → NotedSoFar names old next (done + 1)
noted_next names old now next done name at notes so more among = step notes
  where
    step : Notes now next name → NotesAmong names old (next ++ more)
    step (inl same) = rw same (so more (rw (drop_at names done name at) (skip name (drop (done + 1) names) more among)))
    step (inr one) = rw (one, append_assoc) (so (name ∷ more) (rw (drop_at names done name at) (inl (refl, among))))

-- ---- the files that were taken so far

module _ {X : Type 0} (is : File → List ℕ → Heard → X → Type 0) (ends : List (List ℕ) → File → List ℕ → List Heard → Ending → Type 0) (file : ℕ → File) (names old : List (List ℕ)) where
  -- this was handed over and kept of so many files, and so many faults were noted
  pub record SoFar (now : List (List ℕ)) (took : List Heard) (files : List X) : Type 0 where
    pub noted : NotedSoFar names old now (length files)
    pub taken : (more : List Heard) (others : List X) → AreKept is file (length files) (drop (length files) names) more others → AreKept is file 0 names (took ++ more) (files ++ others)
    pub on : (new : List (List ℕ)) (more : List Heard) (end : Ending) → OneEnds (ends new) (IsKept is) file (length files) (drop (length files) names) more end → OneEnds (ends new) (IsKept is) file 0 names (took ++ more) end

  pub none_taken : SoFar old [] []
  none_taken = record { noted = none_noted names old; taken = λ more others h. h; on = λ new more end h. h }

  module _ (now : List (List ℕ)) (took : List Heard) (files : List X) (so : SoFar now took files) where
    pub noted_so : NotesAmong names old now
    noted_so = noted_at names old now (length files) so.noted

    pub rises_so : Rises old now
    rises_so name = never_falls names old now name noted_so

    pub all_taken : slice_get names (length files) ≡ None → AreKept is file 0 names took files
    all_taken none = rw (append-nil took, append-nil files) at (so.taken [] [] (rw (drop_none names (length files) none) tt))

    -- with the next file
    module _ (next : List (List ℕ)) (name : List ℕ) (at : slice_get names (length files) ≡ Some name) (notes : Notes now next name) where
      noted_more : NotedSoFar names old next (length files + 1)
      noted_more = noted_next names old now next (length files) name at notes so.noted

      pub noted_here : NotesAmong names old next
      noted_here = noted_at names old next (length files + 1) noted_more

      pub ends_here : (more : List Heard) (end : Ending) → ends next (file (length files)) name more end → OneEnds (ends next) (IsKept is) file 0 names (took ++ more) end
      ends_here more end h = so.on next more end (rw (drop_at names (length files) name at) (one_ends (ends next) (IsKept is) file (length files) name (drop (length files + 1) names) more end h))

      pub one_more : (heard : Heard) (x : X) → is (file (length files)) name heard x → SoFar next (took ++ heard ∷ []) (files ++ x ∷ [])
      one_more heard x here = record {
        noted = rw (length_push files x) noted_more;
        taken = λ more others h. rw (append_assoc took (heard ∷ []) more, append_assoc files (x ∷ []) others) (so.taken (heard ∷ more) (x ∷ others) (rw (drop_at names (length files) name at) (here, rw (length_push files x) at h)));
        on = λ new more end h. rw (append_assoc took (heard ∷ []) more) (so.on new (heard ∷ more) end (rw (drop_at names (length files) name at) (inr ((x, here), rw (length_push files x) at h))));
      }

-- ---- files that are taken whole, one by one

module _ (third : File) (names old : List (List ℕ)) where
  -- the first of them
  pub one_whole : (new : List (List ℕ)) (name : List ℕ) → slice_get names 0 ≡ Some name → Notes old new name → (heard : Heard) (bytes : List ℕ) → IsWhole Domain name heard bytes
      → SoFar IsWhole (Stops old) (file_in third) names old new (heard ∷ []) (bytes ∷ [])
  one_whole new name at notes heard bytes here = one_more IsWhole (Stops old) (file_in third) names old old [] [] (none_taken IsWhole (Stops old) (file_in third) names old) new name at notes heard bytes here

  -- the first two, and what follows them
  module _ (middle new : List (List ℕ)) (domain problem : List ℕ) (first_at : slice_get names 0 ≡ Some domain) (at : slice_get names 1 ≡ Some problem) (first_notes : Notes old middle domain) (notes : Notes middle new problem) (heard also : Heard) (bytes others : List ℕ) (is : IsWhole Domain domain heard bytes) (here : IsWhole Problem problem also others) where
    pub two_whole : SoFar IsWhole (Stops old) (file_in third) names old new (heard ∷ also ∷ []) (bytes ∷ others ∷ [])
    two_whole = one_more IsWhole (Stops old) (file_in third) names old middle (heard ∷ []) (bytes ∷ []) (one_whole middle domain first_at first_notes heard bytes is) new problem at notes also others here

-- ---- the files of a batch

-- the domain
pub one_kept : (names old new : List (List ℕ)) (name : List ℕ) → slice_get names 0 ≡ Some name → Notes old new name → (heard : Heard) (kept : Option (List ℕ)) → IsWholeOrFront Domain name heard kept
    → SoFar IsWholeOrFront (IsFault old) (file_in Problem) names old new (heard ∷ []) (kept ∷ [])
one_kept names old new name at notes heard kept here = one_more IsWholeOrFront (IsFault old) (file_in Problem) names old old [] [] (none_taken IsWholeOrFront (IsFault old) (file_in Problem) names old) new name at notes heard kept here
