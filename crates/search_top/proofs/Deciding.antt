-- How the files of a run come to an ending.
use Rattle.std.proofs.Common.{◌≡◌, List, ℕ, ◌++◌, refl, subst}
use Rattle.pl_io.specs.Outside.{Heard}
use Rattle.plan_tasks.specs.Limits.{file_in}
use Rattle.plan_tasks.specs.Files.{AreTaken, StopsFrom}
use Rattle.plan_endings.specs.declared.ending.Ending.{Ending}
use Rattle.plan_endings.specs.declared.ending.File.TheVariants.{Proof}
use Rattle.proof_verdict.specs.Verdict.{TapeRun}
use Rattle.search_top.specs.declared.ended.Ended.{Ended}
use Rattle.search_top.specs.declared.ended.Ended.TheVariants.{Plain}
use Rattle.search_top.specs.Seen.{Seen, names_of}
use Rattle.search_top.specs.Answers.{Answers}
use Rattle.search_top.specs.Causes.{ComesFor, stopped, decided}

-- the names of the files of a request
module _ (request : Seen) (names : List (List ℕ)) (are : names ≡ names_of request) (heard hears : List Heard) (failed fails : List (List ℕ)) (tape : TapeRun) where
  pub stops_for : (end : Ending) → ((took : List Heard) × (hears ≡ heard ++ took) × StopsFrom failed fails (file_in Proof) 0 names took end) → ComesFor heard hears failed fails tape request (Plain end)
  stops_for end h = stopped end h.0 h.1 (subst (λ (ns : List (List ℕ)). StopsFrom failed fails (file_in Proof) 0 ns h.0 end) are h.2) refl

  pub taken_for : (files : List (List ℕ)) → ((took : List Heard) × (hears ≡ heard ++ took) × AreTaken (file_in Proof) 0 names took files) → (end : Ended) → Answers tape request files end → ComesFor heard hears failed fails tape request end
  taken_for files h end answers = decided files h.0 h.1 (subst (λ (ns : List (List ℕ)). AreTaken (file_in Proof) 0 ns h.0 files) are h.2) answers
