-- One entry of the walk.
use Rattle.std.proofs.Common.{arith, ◌≡◌, ◌==◌, ℕ, ◌+◌, ◌-◌, ◌<◌, ◌≤◌, List, [], ◌∷◌, ◌++◌, length, get_or, take, reverse, Bool, true, not, ◌&&◌, refl, sym, ap, ◌∙◌, subst, fold, if◌then◌else◌, Option, Some, None, nat_lt, append_assoc}
use Rattle.std.proofs.lemmas.List.{take_more, reverse-append, append-nil}
use Rattle.std.proofs.lemmas.Bool.Decides.{nat_tests}
use Rattle.clause_base.specs.Literal.{opposite}
use Rattle.clause_base.specs.Clause.{IsRising}
use Rattle.containers.specs.Rising.{put}
use Rattle.clause_base.proofs.published.ClauseLemmas.{rising-tail}
use Rattle.cdcl_defs.specs.declared.trail.Assigned.{Assigned}
use Rattle.cdcl_defs.specs.State.{clause_at, decision_count}
use Rattle.cdcl_defs.specs.Learn.{Learned, walk, current, resolvent}
use Rattle.cdcl_defs.proofs.published.Members.{is_in}
use Rattle.conflict_analysis.specs.Walk.{stops}
use Rattle.bit_sets.proofs.published.Places.{IsFrom, from_less}

-- the entries that are left, the last one first
entries_back : (trail : List Assigned) (index : ℕ) (a : Assigned) → 0 < index → index ≤ length trail → a ≡ get_or trail (index - 1) a → reverse (take index trail) ≡ a ∷ reverse (take (index - 1) trail)
entries_back trail index a h l e =
    let s : index - 1 + 1 ≡ index = omega arith in
    let m : take (index - 1 + 1) trail ≡ take (index - 1) trail ++ get_or trail (index - 1) a ∷ [] = take_more trail (index - 1) a (omega arith) in
    ap (λ (i : ℕ). reverse (take i trail)) (sym s)
    ∙ ap reverse m
    ∙ reverse-append (take (index - 1) trail) (get_or trail (index - 1) a ∷ [])
    ∙ ap (λ (x : Assigned). x ∷ reverse (take (index - 1) trail)) (sym e)

walk_step : (clauses : List (List ℕ)) (trail : List Assigned) (a : Assigned) (es : List Assigned) (c : Learned) (found stop : Bool) (o : Option ℕ) → is_in c.clause (opposite a.literal) ≡ found → (not (decision_count trail == 0) && (length (current trail c.clause) == 1)) ≡ stop → a.reason ≡ o → walk clauses trail (a ∷ es) c ≡ (if not found then walk clauses trail es c else if stop then c else elim o [ None ↦ c | Some r ↦ walk clauses trail es (record { clause = resolvent c.clause a.literal (clause_at clauses r); hints = r ∷ c.hints }) ])
walk_step clauses trail a es c found stop o e f g = rw (e, f, g)

-- the walk at the entry that was read last
pub step_back : (clauses : List (List ℕ)) (trail es : List Assigned) (index : ℕ) (a : Assigned) (c : Learned) (found stop : Bool) (o : Option ℕ) → 0 < index → index ≤ length trail → es ≡ trail → a ≡ get_or es (index - 1) a → is_in c.clause (opposite a.literal) ≡ found → (not (decision_count trail == 0) && (length (current trail c.clause) == 1)) ≡ stop → a.reason ≡ o → walk clauses trail (reverse (take index trail)) c ≡ (if not found then walk clauses trail (reverse (take (index - 1) trail)) c else if stop then c else elim o [ None ↦ c | Some r ↦ walk clauses trail (reverse (take (index - 1) trail)) (record { clause = resolvent c.clause a.literal (clause_at clauses r); hints = r ∷ c.hints }) ])
step_back clauses trail es index a c found stop o h l s e f t r =
    let read = subst (λ (xs : List Assigned). a ≡ get_or xs (index - 1) a) s e in
    ap (λ (xs : List Assigned). walk clauses trail xs c) (entries_back trail index a h l read) ∙ walk_step clauses trail a (reverse (take (index - 1) trail)) c found stop o f t r

-- a rising clause is its own sorted list
abbrev IsUpTo : ℕ → List ℕ → Type 0
IsUpTo b [] = Unit {0}
IsUpTo b (m ∷ ls) = (m < b) × IsUpTo b ls

up_to_push : (b l : ℕ) (ls : List ℕ) → b ≤ l → IsUpTo b ls → IsUpTo (l + 1) (ls ++ l ∷ [])
up_to_push b l [] h u = (omega arith, tt)
up_to_push b l (m ∷ ls) h u = (omega (arith, u.0), up_to_push b l ls h u.1)

put_last : (b l : ℕ) (ls : List ℕ) → b ≤ l → IsUpTo b ls → put ls l ≡ ls ++ l ∷ []
put_last b l [] h u = refl
put_last b l (m ∷ ls) h u =
    let e : nat_lt m l ≡ true = grind (arith, nat_tests, u.0) in rw e (ap (λ (t : List ℕ). m ∷ t) (put_last b l ls h u.1))

rising_from : (l : ℕ) (ls : List ℕ) → IsRising (l ∷ ls) → IsFrom (l + 1) ls
rising_from l [] r = tt
rising_from l (k ∷ ls) r = (omega (arith, r.0), from_less (l + 1) (k + 1) ls (omega (arith, r.0)) (rising_from k ls r.1))

fold_sorted : (pre ls : List ℕ) (b : ℕ) → IsUpTo b pre → IsFrom b ls → IsRising ls → fold put pre ls ≡ pre ++ ls
fold_sorted pre [] b u f r = sym (append-nil pre)
fold_sorted pre (l ∷ ls) b u f r =
    ap (λ (t : List ℕ). fold put t ls) (put_last b l pre f.0 u)
    ∙ fold_sorted (pre ++ l ∷ []) ls (l + 1) (up_to_push b l pre f.0 u) (rising_from l ls r) (rising-tail l ls r)
    ∙ append_assoc pre (l ∷ []) ls

from_zero : (ls : List ℕ) → IsFrom 0 ls
from_zero [] = tt
from_zero (l ∷ ls) = (omega arith, from_zero ls)

pub rising_fold : (ls : List ℕ) → IsRising ls → fold put [] ls ≡ ls
rising_fold ls r = fold_sorted [] ls 0 tt (from_zero ls) r

pub learned_same : (k l : List ℕ) (h j : List ℕ) → k ≡ l → h ≡ j → (let x : Learned = record { clause = k; hints = h } in x) ≡ (let y : Learned = record { clause = l; hints = j } in y)
learned_same k l h j e f = cc

-- the test by which the code stops is the walk's
pub stop_at : (trail : List Assigned) (clause : List ℕ) (level count : ℕ) (b : Bool) → level ≡ decision_count trail → count ≡ length (current trail clause) → stops level count ≡ b → (not (decision_count trail == 0) && (length (current trail clause) == 1)) ≡ b
stop_at trail clause level count b e f s =
    ap (λ (n : ℕ). not (decision_count trail == 0) && (n == 1)) (sym f) ∙ ap (λ (n : ℕ). not (n == 0) && (count == 1)) (sym e) ∙ s

begun : (old new from clause : List ℕ) → old ≡ [] → from ≡ clause → new ≡ fold put old from → IsRising clause → new ≡ clause
begun old new from clause e f g r = g ∙ ap (λ (t : List ℕ). fold put t from) e ∙ ap (λ (t : List ℕ). fold put [] t) f ∙ rising_fold clause r

-- the walk begins with the conflict's clause
pub learned_from : (clauses : List (List ℕ)) (trail : List Assigned) (old new from clause : List ℕ) (d : Learned) → old ≡ [] → from ≡ clause → new ≡ fold put old from → IsRising clause → walk clauses trail (reverse trail) (record { clause = new; hints = [] }) ≡ d → walk clauses trail (reverse trail) (record { clause = clause; hints = [] }) ≡ d
learned_from clauses trail old new from clause d e f g r w = subst (λ (ls : List ℕ). walk clauses trail (reverse trail) (record { clause = ls; hints = [] }) ≡ d) (begun old new from clause e f g r) w
