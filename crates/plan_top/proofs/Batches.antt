-- The parts of a batch: from its files to an ending for each problem.
use Rattle.std.proofs.Common.{◌≡◌, ◌≤◌, ℕ, ◌+◌, true, false, List, [], ◌∷◌, ◌++◌, length, Option, Some, None, refl, sym, subst, arith, inl, inr, ◌∙◌}
use Rattle.pl_io.specs.Outside.{Heard}
use Rattle.std.specs.List.{AllByRecursion, AllZip}
use Rattle.horizon_rates.specs.declared.settings.Settings.{Settings}
use Rattle.requests.specs.Seen.{Seen, Numbers, numbers, plans, batches, files_of}
use Rattle.requests.specs.Requested.{requested}
use Rattle.requests.specs.declared.request.Turns.{Turns}
use Rattle.plan_endings.specs.declared.ending.Ending.{Ending}
use Rattle.plan_endings.specs.declared.ending.Ending.TheVariants.{ReadFault}
use Rattle.plan_endings.specs.declared.ending.File.{File}
use Rattle.plan_endings.specs.declared.ending.File.TheVariants.{Domain, Problem}
use Rattle.plan_tasks.specs.Limits.{most_of}
use Rattle.commands.specs.Files.{file_at}
use Rattle.containers.specs.Limits.{most_bytes}
use Rattle.plan_tasks.specs.Files.{FaultsFrom, IsWhole, IsFront, IsWholeOrFront, AreTakenOrLong}
use Rattle.commands.specs.Tasks.{grounded}
use Rattle.plan_top.specs.Causes.{HasRead, stopped, IsPartOf, ArePartsOf, Comes, unread, in_parts, is_answer}
use Rattle.plan_top.specs.own.Parts.{IsBatch, IsShort, AnswersPart, AnswersBatch, IsRunOf, IsPart, IsSound, ArePrepared, AnswersRun, open_in, woven}
use Rattle.plan_top.specs.declared.parts.Part.{Part}
use Rattle.plan_top.specs.declared.parts.Part.TheVariants as parts
use Rattle.plan_top.specs.declared.parts.Run.{Run}
use Rattle.plan_top.proofs.Complete.{batch_most}
use Rattle.plan_tasks.proofs.published.Taking.{kept_count}
use Rattle.plan_top.proofs.Told.{decides_answer, taken_comes}

-- ---- files

answered_read : (domain problem : List ℕ) (n : Numbers) (end : Ending) → is_answer (plans domain problem n) end ≡ true → HasRead end
answered_read domain problem n (ReadFault file) h = let never : false ≡ true = h in cc
answered_read domain problem n end h = tt

-- of a file with the same limit
whole_as : (f g : File) (name : List ℕ) (heard : Heard) (bytes : List ℕ) → most_of f ≡ most_of g → IsWhole f name heard bytes → IsWhole g name heard bytes
whole_as f g name heard bytes same is = (is.0, rw same at is.1)

front_as : (f g : File) (name : List ℕ) (heard : Heard) → most_of f ≡ most_of g → IsFront f name heard → IsFront g name heard
front_as f g name heard same is = (is.0, is.1, is.2 ∙ same)

met_short : (f : File) (name : List ℕ) (heard : Heard) (x : Option (List ℕ)) → most_of f ≡ most_bytes → IsWholeOrFront f name heard x → IsShort x
met_short f name heard (Some bytes) same is = rw same at is.1
met_short f name heard None same is = tt

-- what two files come to that were taken, or have more bytes than they may have
part_comes : (old new : List (List ℕ)) (domain problem : List ℕ) (settings : Settings) (f g : File) → most_of f ≡ most_bytes → most_of g ≡ most_bytes
    → (e o : Heard) (first second : Option (List ℕ)) → IsWholeOrFront f domain e first → IsWholeOrFront g problem o second → (end : Ending) → AnswersPart settings first second end
    → IsPartOf old new e o (plans domain problem (numbers settings)) end
part_comes old new domain problem settings f g one other e o None second first_is second_is end h = record {
  took = e ∷ [];
  rest = o ∷ [];
  split = refl;
  comes = stopped (inl (inr (h, (e, refl, front_as f Domain domain e one first_is))));
  has_read = subst HasRead (sym h) tt;
}
part_comes old new domain problem settings f g one other e o (Some a) None first_is second_is end h = record {
  took = e ∷ o ∷ [];
  rest = [];
  split = refl;
  comes = stopped (inr ((a, whole_as f Domain domain e a one first_is), inl (inr (h, (o, refl, front_as g Problem problem o other second_is)))));
  has_read = subst HasRead (sym h) tt;
}
part_comes old new domain problem settings f g one other e o (Some a) (Some b) first_is second_is end h =
    let n = numbers settings in
    record {
      took = e ∷ o ∷ [];
      rest = [];
      split = refl;
      comes = taken_comes (e ∷ o ∷ []) old new (plans domain problem n) (a ∷ b ∷ []) (whole_as f Domain domain e a one first_is, (whole_as g Problem problem o b other second_is, tt)) end (settings, refl, h);
      has_read = answered_read domain problem n end (decides_answer (plans domain problem n) (a ∷ b ∷ []) end (settings, refl, h));
    }

module _ (old new : List (List ℕ)) (domain : List ℕ) (all : List (List ℕ)) (settings : Settings) (turns : Turns) where
  -- the limit of each file
  limit_at : (place : ℕ) → most_of (file_at (batches domain all (numbers settings) turns) place) ≡ most_bytes
  limit_at place = batch_most domain all (numbers settings) turns place

  pub all_short : (place : ℕ) (names : List (List ℕ)) (took : List Heard) (files : List (Option (List ℕ))) → AreTakenOrLong (file_at (batches domain all (numbers settings) turns)) place names took files → AllByRecursion IsShort files
  all_short place [] [] [] are = tt
  all_short place [] [] (x ∷ xs) are = absurd are
  all_short place [] (e ∷ es) files are = absurd are
  all_short place (n ∷ ns) [] files are = absurd are
  all_short place (n ∷ ns) (e ∷ es) [] are = absurd are
  all_short place (n ∷ ns) (e ∷ es) (x ∷ xs) are = (met_short (file_at (batches domain all (numbers settings) turns) place) n e x (limit_at place) are.0, all_short (place + 1) ns es xs are.1)

  parts_come : (e : Heard) (first : Option (List ℕ)) → IsWholeOrFront Domain domain e first → (place : ℕ) (problems : List (List ℕ)) (others : List Heard) (files : List (Option (List ℕ))) (parts : List Ending)
      → AreTakenOrLong (file_at (batches domain all (numbers settings) turns)) place problems others files → AllZip (AnswersPart settings first) files parts → ArePartsOf old new domain (numbers settings) e problems others parts
  parts_come e first is place [] [] [] [] are h = tt
  parts_come e first is place [] [] [] (x ∷ xs) are h = absurd h
  parts_come e first is place [] [] (x ∷ xs) parts are h = absurd are
  parts_come e first is place [] (o ∷ os) files parts are h = absurd are
  parts_come e first is place (p ∷ ps) [] files parts are h = absurd are
  parts_come e first is place (p ∷ ps) (o ∷ os) [] parts are h = absurd are
  parts_come e first is place (p ∷ ps) (o ∷ os) (x ∷ xs) [] are h = absurd h
  parts_come e first is place (p ∷ ps) (o ∷ os) (x ∷ xs) (part ∷ parts) are h = (
    part_comes old new domain p settings Domain (file_at (batches domain all (numbers settings) turns) place) refl (limit_at place) e o first x is are.0 part h.0,
    parts_come e first is (place + 1) ps os xs parts are.1 h.1,
  )

  -- what the files come to comes of words that ask for the batch
  pub batch_comes : (words : List (List ℕ)) → requested words ≡ Some (batches domain all (numbers settings) turns) → (took : List Heard) (first : Option (List ℕ)) (files : List (Option (List ℕ)))
      → AreTakenOrLong (file_at (batches domain all (numbers settings) turns)) 0 (domain ∷ all) took (first ∷ files) → (end : Ending) → AnswersBatch settings first files end → Comes took old new words end
  batch_comes words asked [] first files are end h = absurd are
  batch_comes words asked (e ∷ es) first files are end (parts, h, is) =
      in_parts domain all (numbers settings) turns asked parts (record { first = e; others = es; all = refl; are = parts_come e first are.0 1 all es files parts are.1 h }) is

-- the same of a request for a batch
module _ (took : List Heard) (old new : List (List ℕ)) (settings : Settings) (turns : Turns) (request : Seen) (is : IsBatch settings turns request) where
  -- its files were taken, or have more bytes than they may have
  abbrev AreMet : List (Option (List ℕ)) → Type 0
  AreMet files = AreTakenOrLong (file_at request) 0 (files_of request) took files

  met_batch : (files : List (Option (List ℕ))) → AreMet files → AreTakenOrLong (file_at (batches is.0 is.1 (numbers settings) turns)) 0 (is.0 ∷ is.1) took files
  met_batch files are = subst (λ (r : Seen). AreTakenOrLong (file_at r) 0 (files_of r) took files) is.2 are

  met_count : (files : List (Option (List ℕ))) → AreMet files → length files ≡ length (is.0 ∷ is.1)
  met_count files are = kept_count IsWholeOrFront (file_at (batches is.0 is.1 (numbers settings) turns)) 0 (is.0 ∷ is.1) took files (met_batch files are)

  files_short : (files : List (Option (List ℕ))) → AreMet files → AllByRecursion IsShort files
  files_short files are = all_short old new is.0 is.1 settings turns 0 (is.0 ∷ is.1) took files (met_batch files are)

  files_few : (files : List (Option (List ℕ))) → AreMet files → length files ≤ 17
  files_few files are = let count = met_count files are in let few = is.3 in omega (arith, count, few)

  -- however they are named
  pub files_fit : (met files : List (Option (List ℕ))) → met ≡ files → AreMet met → AllByRecursion IsShort files × (length files ≤ 17)
  files_fit met files is are = let here = subst (λ (fs : List (Option (List ℕ))). AreMet fs) is are in (files_short files here, files_few files here)

  -- words that ask for it
  module _ (words : List (List ℕ)) (asked : requested words ≡ Some request) where
    asked_batch : requested words ≡ Some (batches is.0 is.1 (numbers settings) turns)
    asked_batch = subst (λ (r : Seen). requested words ≡ Some r) is.2 asked

    pub request_comes : (first : Option (List ℕ)) (files : List (Option (List ℕ))) → AreMet (first ∷ files) → (end : Ending) → AnswersBatch settings first files end → Comes took old new words end
    request_comes first files are end h = batch_comes old new is.0 is.1 settings turns words asked_batch took first files (met_batch (first ∷ files) are) end h

    pub request_unread : (end : Ending) → FaultsFrom old new (file_at request) 0 (files_of request) took end → Comes took old new words end
    request_unread end h = unread is.0 is.1 (numbers settings) turns asked_batch (subst (λ (r : Seen). FaultsFrom old new (file_at r) 0 (files_of r) took end) is.2 h)

-- ---- before the races

-- the ending of a part, and its run
abbrev pub ended_of : Part → Option Ending
ended_of (parts.Ends end) = Some end
ended_of (parts.Runs run) = None

abbrev pub runs_of : Part → List Run
runs_of (parts.Ends end) = []
runs_of (parts.Runs run) = run ∷ []

-- with the part of one more problem
pub more_prepared : (domain : Option (List ℕ)) (problems : List (Option (List ℕ))) (ended : List (Option Ending)) (runs : List Run) (problem : Option (List ℕ)) (part : Part) → ArePrepared domain problems ended runs
    → IsPart domain problem part → ArePrepared domain (problems ++ problem ∷ []) (ended ++ ended_of part ∷ []) (runs ++ runs_of part)
more_prepared domain [] [] [] problem (parts.Ends end) are h = (h, tt)
more_prepared domain [] [] [] problem (parts.Runs run) are h = (h, tt)
more_prepared domain [] [] (r ∷ rs) problem part are h = absurd are
more_prepared domain [] (x ∷ xs) runs problem part are h = absurd are
more_prepared domain (p ∷ ps) [] runs problem part are h = absurd are
more_prepared domain (p ∷ ps) (Some e ∷ es) runs problem part are h = (are.0, more_prepared domain ps es runs problem part are.1 h)
more_prepared domain (p ∷ ps) (None ∷ es) [] problem part are h = absurd are
more_prepared domain (p ∷ ps) (None ∷ es) (r ∷ rs) problem part are h = (are.0, more_prepared domain ps es rs problem part are.1 h)

run_sound : (domain problem : Option (List ℕ)) (run : Run) → IsRunOf domain problem run → IsSound run
run_sound None problem run h = absurd h
run_sound (Some a) None run h = absurd h
run_sound (Some a) (Some b) run h = (h.1, h.2)

pub runs_sound : (domain : Option (List ℕ)) (problems : List (Option (List ℕ))) (ended : List (Option Ending)) (runs : List Run) → ArePrepared domain problems ended runs → AllByRecursion IsSound runs
runs_sound domain [] [] [] are = tt
runs_sound domain [] [] (r ∷ rs) are = absurd are
runs_sound domain [] (x ∷ xs) runs are = absurd are
runs_sound domain (p ∷ ps) [] runs are = absurd are
runs_sound domain (p ∷ ps) (Some e ∷ es) runs are = runs_sound domain ps es runs are.1
runs_sound domain (p ∷ ps) (None ∷ es) [] are = absurd are
runs_sound domain (p ∷ ps) (None ∷ es) (r ∷ rs) are = (run_sound domain p r are.0, runs_sound domain ps es rs are.1)

-- as many runs as problems without an ending, and not more than there are problems
pub runs_open : (domain : Option (List ℕ)) (problems : List (Option (List ℕ))) (ended : List (Option Ending)) (runs : List Run) → ArePrepared domain problems ended runs
    → (open_in ended ≡ length runs) × (length ended ≡ length problems) × (length runs ≤ length problems)
runs_open domain [] [] [] are = (refl, refl, omega arith)
runs_open domain [] [] (r ∷ rs) are = absurd are
runs_open domain [] (x ∷ xs) runs are = absurd are
runs_open domain (p ∷ ps) [] runs are = absurd are
runs_open domain (p ∷ ps) (Some e ∷ es) runs are = let rest = runs_open domain ps es runs are.1 in (rest.0, omega (arith, rest.1), omega (arith, rest.2))
runs_open domain (p ∷ ps) (None ∷ es) [] are = absurd are
runs_open domain (p ∷ ps) (None ∷ es) (r ∷ rs) are = let rest = runs_open domain ps es rs are.1 in (omega (arith, rest.0), omega (arith, rest.1), omega (arith, rest.2))

-- ---- after them

run_answers : (settings : Settings) (domain problem : Option (List ℕ)) (run : Run) (end : Ending) → IsRunOf domain problem run → AnswersRun settings run end → AnswersPart settings domain problem end
run_answers settings None problem run end is h = absurd is
run_answers settings (Some a) None run end is h = absurd is
run_answers settings (Some a) (Some b) run end is h = grounded run.ready.task run.ready.grounded is.0 is.1 h

-- each problem has its ending, or that of its run
pub woven_answers : (settings : Settings) (domain : Option (List ℕ)) (problems : List (Option (List ℕ))) (ended : List (Option Ending)) (runs : List Run) (others : List Ending) → ArePrepared domain problems ended runs
    → AllZip (AnswersRun settings) runs others → AllZip (AnswersPart settings domain) problems (woven ended others)
woven_answers settings domain [] [] runs others are h = tt
woven_answers settings domain [] (x ∷ xs) runs others are h = absurd are
woven_answers settings domain (p ∷ ps) [] runs others are h = absurd are
woven_answers settings domain (p ∷ ps) (Some e ∷ es) runs others are h = (are.0 settings, woven_answers settings domain ps es runs others are.1 h)
woven_answers settings domain (p ∷ ps) (None ∷ es) [] others are h = absurd are
woven_answers settings domain (p ∷ ps) (None ∷ es) (r ∷ rs) [] are h = absurd h
woven_answers settings domain (p ∷ ps) (None ∷ es) (r ∷ rs) (o ∷ os) are h = (run_answers settings domain p r o are.0 h.0, woven_answers settings domain ps es rs os are.1 h.1)
