-- What wanted literals ask for, one after another, and one step of the walk.
use Rattle.std.proofs.Common.{arith, ◌≡◌, ◌==◌, ℕ, suc, ◌+◌, ◌-◌, ◌<◌, ◌≤◌, List, [], ◌∷◌, ◌++◌, Option, Some, None, fold, refl, sym, ap, ◌∙◌, append_assoc}
use Rattle.std.proofs.lemmas.List.Sums.{fold-append}
use Rattle.clause_base.specs.Clause.{IsRising}
use Rattle.containers.specs.Rising.{put}
use Rattle.clause_base.proofs.published.ClauseLemmas.{rising-fold, list_any-fold}
use Rattle.clause_base.proofs.published.Rising.{rising_unique}
use Rattle.goal_choice.specs.own.Members.{Literals}
use Rattle.goal_choice.specs.Walk.{Support, Chooses, Wants, both, supports, walk}
use Rattle.goal_choice.specs.own.Supports.{IsStep}

both_assoc : (ks ms : List ℕ) (w : Support) → both (Wants ks) (both (Wants ms) w) ≡ both (Wants (ks ++ ms)) w
both_assoc ks ms (Chooses c) = refl
both_assoc ks ms (Wants ns) = ap Wants (sym (append_assoc ks ms ns))

pub one_wants : (support : ℕ → Support) (whole : Support) (ks ms wanted rest : List ℕ) (l : ℕ) → whole ≡ both (Wants ks) (supports support wanted) → wanted ≡ l ∷ rest → Wants ms ≡ support l → whole ≡ both (Wants (ks ++ ms)) (supports support rest)
one_wants support whole ks ms wanted rest l e w h =
    e ∙ ap (λ (ls : List ℕ). both (Wants ks) (supports support ls)) w ∙ ap (λ (x : Support). both (Wants ks) (both x (supports support rest))) (sym h) ∙ both_assoc ks ms (supports support rest)

pub put_more : (ks ms before after : List ℕ) → before ≡ fold put [] ks → after ≡ fold put before ms → after ≡ fold put [] (ks ++ ms)
put_more ks ms before after b a = a ∙ ap (λ (ls : List ℕ). fold put ls ms) b ∙ sym (fold-append put [] ks ms)

-- what the literals that were passed ask for, with what is left to ask
abbrev pub IsGathered : ℕ → (ℕ → Support) → Support → ℕ → List ℕ → Literals → Type 0
IsGathered facts support whole from rest before =
    (from ≤ 4096)
    × (before.facts ≡ facts)
    × (ks : List ℕ)
    × (before.members ≡ fold put [] ks)
    × (whole ≡ both (Wants ks) (supports support rest))

-- literals that are put in one list after the other
pub put_both : (before after : Literals) (xs ys : List ℕ) → after ≡ record before { members = fold put before.members xs } → (record after { members = fold put after.members ys }) ≡ record before { members = fold put before.members (xs ++ ys) }
put_both before after xs ys e =
    ap (λ (s : Literals). (let t : Literals = record s { members = fold put s.members ys } in t)) e ∙ ap (λ (ls : List ℕ). (let t : Literals = record before { members = ls } in t)) (sym (fold-append put before.members xs ys))

pub gathered_more : (facts : ℕ) (support : ℕ → Support) (whole : Support) (from l : ℕ) (wanted rest ms : List ℕ) (before after : Literals) → IsGathered facts support whole from wanted before → after ≡ record before { members = fold put before.members ms } → l < 4096 → wanted ≡ l ∷ rest → Wants ms ≡ support l → IsGathered facts support whole (l + 1) rest after
gathered_more facts support whole from l wanted rest ms before after g e small is w = (
  omega (arith, small),
  ap (λ (s : Literals). s.facts) e ∙ g.1,
  g.2 ++ ms,
  put_more g.2 ms before.members after.members g.3 (ap (λ (s : Literals). s.members) e),
  one_wants support whole g.2 ms wanted rest l g.4 is w,
)

-- before the first of them nothing is wanted
pub wants_none : (support : ℕ → Support) (wanted rest : List ℕ) → rest ≡ wanted → supports support wanted ≡ both (Wants []) (supports support rest)
wants_none support wanted rest e = sym (nothing (supports support rest) ∙ ap (supports support) e)
  where
    nothing : (w : Support) → both (Wants []) w ≡ w
    nothing (Chooses c) = refl
    nothing (Wants ms) = refl

-- the walk after the supports of a step
abbrev onward : (ℕ → ℕ → Support) → ℕ → Support → Option ℕ
onward support t w = elim w [ Chooses c ↦ Some c | Wants ls ↦ walk support t (fold put [] ls) ]

pub step_chooses : (support : ℕ → ℕ → Support) (t c : ℕ) (wanted before : List ℕ) → IsStep (supports (support t) wanted) (Some c) before → walk support (suc t) wanted ≡ Some c
step_chooses support t c wanted before e = ap (onward support t) e

pub step_goes_on : (support : ℕ → ℕ → Support) (t : ℕ) (wanted before : List ℕ) → IsStep (supports (support t) wanted) None before → walk support (suc t) wanted ≡ walk support t before
step_goes_on support t wanted before s = ap (onward support t) s.1 ∙ ap (walk support t) (sym s.2)

-- a rising list is what putting its members in gives
pub put_rising : (ls : List ℕ) → IsRising ls → fold put [] ls ≡ ls
put_rising ls r = rising_unique (fold put [] ls) ls (rising-fold [] ls tt) r (λ l. list_any-fold (λ m. m == l) [] ls)
