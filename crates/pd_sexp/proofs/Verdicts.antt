-- What a reader knows after some bytes, and what it may answer.
use Rattle.std.proofs.Common.{◌≡◌, ◌+◌, ◌-◌, ◌≤◌, ◌<◌, ℕ, suc, List, [], ◌∷◌, ◌++◌, length, take, drop, Option, Some, None, refl, sym, ap, subst, ◌∙◌, arith, add-one, ◌⊎◌, inl, inr}
use Rattle.std.specs.Prelude.{slice_index}
use Rattle.std.proofs.Math.Seq.{split_at, take-suc, take-length, take-add}
use Rattle.std.proofs.lemmas.Bool.{cases_lt}
use Rattle.std.proofs.lemmas.List.{take-append-drop, length-take-le}
use Rattle.pd_sexp.specs.Bytes.{open_paren}
use Rattle.pd_sexp.specs.Tree.{Tree}
use Rattle.pd_sexp.specs.File.{IsFile}
use Rattle.pd_sexp.specs.Fault as fault
use Rattle.pd_sexp.specs.Fault.{uncommented, level_after, IsViable, OpensTooDeep, IsLongestViable, IsFault, Reads}
use Rattle.pd_sexp.specs.Progress as at
use Rattle.pd_sexp.specs.Progress.{State, step, run, then_run, finished, tree_after, level_of, in_comment, IsTooDeep}
use Rattle.pd_sexp.proofs.published.Whole.{run-append, file-run}
use Rattle.pd_sexp.proofs.Parts.{run-file}
use Rattle.pd_sexp.proofs.Viable.{viable, not_viable, viable_front}
use Rattle.pd_sexp.proofs.Levels.{level_is, opens_here, opens_only}

-- where the reader stands after this many bytes, none of which opens a list too deep
pub record Reached (bytes : List ℕ) (done : ℕ) (state : State) : Type 0 where
  pub within : done ≤ length bytes
  pub leads : run (at.gap at.before) 0 (take done bytes) ≡ Some state
  pub shallow : (k : ℕ) → k < done → OpensTooDeep bytes k → ⊥

module _ (bytes : List ℕ) (done : ℕ) (state : State) where
  one_more : done < length bytes → take (done + 1) bytes ≡ take done bytes ++ slice_index bytes done ∷ []
  one_more h = rw add-one (take-suc bytes done 0 h)

  long : Reached bytes done state → length (take done bytes) ≡ done
  long r = length-take-le done bytes r.within

  -- one byte more
  further : Reached bytes done state → done < length bytes → run (at.gap at.before) 0 (take (done + 1) bytes) ≡ step state done (slice_index bytes done)
  further r h =
      let last : run (at.gap at.before) 0 (take done bytes ++ slice_index bytes done ∷ []) ≡ then_run (λ t. run t (0 + length (take done bytes)) (slice_index bytes done ∷ [])) (Some state) =
      run-append (at.gap at.before) 0 (take done bytes) (slice_index bytes done ∷ []) ∙ ap (then_run (λ t. run t (0 + length (take done bytes)) (slice_index bytes done ∷ []))) r.leads in
      let here : 0 + length (take done bytes) ≡ done = omega (arith, long r) in
      ap (run (at.gap at.before) 0) (one_more h) ∙ last ∙ rw here (one_step (step state done (slice_index bytes done)) (done + 1))
    where
      one_step : (next : Option State) (n : ℕ) → then_run (λ t. run t n []) next ≡ next
      one_step None n = refl
      one_step (Some t) n = refl

  -- the definition's words on the next byte, in the reader's
  parts : done < length bytes → bytes ≡ take done bytes ++ slice_index bytes done ∷ drop (suc done) bytes
  parts h = split_at bytes done 0 h

  pub too_deep_here : Reached bytes done state → done < length bytes → IsTooDeep state (slice_index bytes done) → (next : State) → step state done (slice_index bytes done) ≡ Some next → OpensTooDeep bytes done
  too_deep_here r h deep next goes = record {
    inside = h;
    opens =
        let o = opens_here (take done bytes) state (slice_index bytes done) (drop (suc done) bytes) r.leads deep.0 deep.1 in
        let at_place = subst (λ (n : ℕ). slice_index (uncommented (take done bytes ++ slice_index bytes done ∷ drop (suc done) bytes)) n ≡ open_paren) (long r) o in
        subst (λ (xs : List ℕ). slice_index (uncommented xs) done ≡ open_paren) (sym (parts h)) at_place;
    level = level_is (take done bytes) state r.leads ∙ deep.2;
    viable = viable (take (done + 1) bytes) next (further r h ∙ goes);
  }

  deep_only : Reached bytes done state → OpensTooDeep bytes done → IsTooDeep state (slice_index bytes done)
  deep_only r d =
      let here = subst (λ (xs : List ℕ). slice_index (uncommented xs) done ≡ open_paren) (parts d.inside) d.opens in
      let at_place = subst (λ (n : ℕ). slice_index (uncommented (take done bytes ++ slice_index bytes done ∷ drop (suc done) bytes)) n ≡ open_paren) (sym (long r)) here in
      let o = opens_only (take done bytes) state (slice_index bytes done) (drop (suc done) bytes) r.leads at_place in
      (o.0, o.1, sym (level_is (take done bytes) state r.leads) ∙ d.level)

  -- one byte more, that opens no list too deep
  pub Reached-step : Reached bytes done state → done < length bytes → (next : State) → step state done (slice_index bytes done) ≡ Some next → (IsTooDeep state (slice_index bytes done) → ⊥) → Reached bytes (done + 1) next
  Reached-step r h next goes safe = record {
    within = omega arith;
    leads = further r h ∙ goes;
    shallow = λ k less deep. elim (last_or_before k less) [ inl before ↦ r.shallow k before deep | inr here ↦ safe (deep_only r (subst (λ (n : ℕ). OpensTooDeep bytes n) here deep)) ];
  }
    where
      last_or_before : (k : ℕ) → k < done + 1 → (k < done) ⊎ (k ≡ done)
      last_or_before k less = elim (cases_lt k done) [ inl h ↦ inl h | inr h ↦ inr (omega arith) ]

  pub too_deep : Reached bytes done state → done < length bytes → IsTooDeep state (slice_index bytes done) → (next : State) → step state done (slice_index bytes done) ≡ Some next → IsFault bytes (fault.deep done)
  too_deep r h deep next goes = (too_deep_here r h deep next goes, r.shallow)

  -- no file goes on with this byte
  pub wrong_byte : Reached bytes done state → done < length bytes → step state done (slice_index bytes done) ≡ None → IsFault bytes (fault.syntax done)
  wrong_byte r h stops =
      let fails = further r h ∙ stops in
      let never : IsViable (take (done + 1) bytes) → ⊥ = not_viable (take (done + 1) bytes) fails in
      let longest : IsLongestViable bytes done = record { within = r.within; viable = viable (take done bytes) state r.leads; no_longer = λ _. never } in (
        λ tree file. never ([] ++ drop (done + 1) bytes, tree, subst (λ (xs : List ℕ). IsFile xs tree) (sym (take-append-drop (done + 1) bytes)) file),
        longest,
        λ k deep. elim (before_or_on k) [ inl before ↦ r.shallow k before deep | inr on ↦ never (shorter k on deep.viable) ],
      )
    where
      before_or_on : (k : ℕ) → (k < done) ⊎ (done ≤ k)
      before_or_on k = cases_lt k done

      shorter : (k : ℕ) → done ≤ k → IsViable (take (k + 1) bytes) → IsViable (take (done + 1) bytes)
      shorter k on v =
          let more : done + 1 + (k - done) ≡ k + 1 = omega arith in
          viable_front (take (done + 1) bytes) (take (k - done) (drop (done + 1) bytes)) (subst IsViable (ap (λ n. take n bytes) (sym more) ∙ take-add (done + 1) (k - done) bytes) v)

whole_run : (bytes : List ℕ) (state : State) → Reached bytes (length bytes) state → run (at.gap at.before) 0 bytes ≡ Some state
whole_run bytes state r = ap (run (at.gap at.before) 0) (sym (take-length bytes)) ∙ r.leads

-- the file ends before its list
pub ends_early : (bytes : List ℕ) (state : State) → Reached bytes (length bytes) state → finished state ≡ None → IsFault bytes (fault.syntax (length bytes))
ends_early bytes state r unended =
    let longest : IsLongestViable bytes (length bytes) = record { within = r.within; viable = viable (take (length bytes) bytes) state r.leads; no_longer = λ less _. absurd (omega arith) } in (
      λ tree file. let leads = sym (file-run bytes tree file) ∙ ap tree_after (whole_run bytes state r) in let never : Some tree ≡ None = leads ∙ unended in absurd (some_none tree never),
      longest,
      λ k deep. r.shallow k deep.inside deep,
    )
  where
    some_none : (tree : Tree) → Some tree ≡ None → ⊥
    some_none tree h = cc

-- bytes are at most one tree
one_tree : (bytes : List ℕ) (tree other : Tree) → IsFile bytes tree → IsFile bytes other → tree ≡ other
one_tree bytes tree other file again = let same : Some tree ≡ Some other = sym (file-run bytes tree file) ∙ file-run bytes other again in cc

pub ends_well : (bytes : List ℕ) (state : State) (tree : Tree) → Reached bytes (length bytes) state → finished state ≡ Some tree → Reads bytes tree
ends_well bytes state tree r ends = record {
  file = run-file bytes state tree (whole_run bytes state r) ends;
  shallow = λ k deep. r.shallow k deep.inside deep;
  only = λ other file. one_tree bytes other tree file (run-file bytes state tree (whole_run bytes state r) ends);
}
