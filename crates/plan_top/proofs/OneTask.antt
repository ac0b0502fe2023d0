-- Two files are one task or are refused in one way, and a task is grounded in one way or is past one limit.
use Rattle.std.proofs.Common.{◌≡◌, ◌<◌, ◌+◌, ◌-◌, ℕ, List, ◌++◌, length, take, drop, Some, Ok, Err, refl, sym, ap, ap₂, subst, ◌∙◌, arith, append_assoc}
use Rattle.std.proofs.Math.Seq.{take-add}
use Rattle.pd_sexp.specs.Tree.{Tree}
use Rattle.pd_sexp.specs.Fault.{Fault, syntax, deep, IsFault, IsViable, IsLongestViable, Reads}
use Rattle.plan_endings.specs.declared.ending.File.{File}
use Rattle.plan_endings.specs.declared.ending.File.TheVariants.{Domain, Problem}
use Rattle.pd_model.specs.declared.parts.Parts.{Parts}
use Rattle.pd_task.specs.Reading.{reading}
use Rattle.gt_core.specs.Lawful.{conditional_in}
use Rattle.grounding_defs.specs.Grounded.{Grounded, IsGrounded}
use Rattle.grounding_defs.specs.Limits.{IsWithin}
use Rattle.grounding_defs.specs.Laws.{OneResult}
use Rattle.grounding_defs.specs.Tuples.{saturated}
use Rattle.plan_endings.specs.declared.ending.Limit.{Limit}
use Rattle.plan_endings.specs.declared.ending.Limit.TheVariants.{Tuples, Facts, Actions, Effects}
use Rattle.plan_endings.specs.declared.ending.Kind.{Kind}
use Rattle.plan_endings.specs.declared.ending.Kind.TheVariants.{Syntax, Deep}
use Rattle.plan_endings.specs.declared.ending.Ending.{Ending}
use Rattle.plan_endings.specs.declared.ending.Ending.TheVariants.{Refused, TooMany}
use Rattle.commands.specs.Tasks.{AreTask, IsTreeFault, RefusesTree, RefusesTrees, RefusesTask, domain_tree, problem_tree, no_task, IsOver, TellsOver, IsReady, StopsTask, refused, past, OnceRead, not_read, read, OnceGrounded, not_grounded, grounded, refusal_of}

-- ---- trees and their faults

-- fewer bytes of a viable beginning are one
front : (bytes : List ℕ) (j k : ℕ) → IsViable (take (j + k) bytes) → IsViable (take j bytes)
front bytes j k v =
    let w = subst IsViable (take-add j k bytes) v in
    (take k (drop j bytes) ++ w.0, w.1, rw append_assoc at w.2)

no_longer : (bytes : List ℕ) (j k : ℕ) → IsLongestViable bytes j → IsLongestViable bytes k → j < k → ⊥
no_longer bytes j k p q lt =
    let sum : k ≡ j + 1 + (k - (j + 1)) = omega arith in
    p.no_longer (omega (arith, q.within)) (front bytes (j + 1) (k - (j + 1)) (subst (λ (n : ℕ). IsViable (take n bytes)) sum q.viable))

equal : (j k : ℕ) → (j < k → ⊥) → (k < j → ⊥) → j ≡ k
equal j k p q = omega (arith, p, q)

one_fault : (bytes : List ℕ) (f g : Fault) → IsFault bytes f → IsFault bytes g → f ≡ g
one_fault bytes (syntax j) (syntax k) p q = ap syntax (equal j k (no_longer bytes j k p.1 q.1) (no_longer bytes k j q.1 p.1))
one_fault bytes (syntax j) (deep k) p q = absurd (p.2 k q.0)
one_fault bytes (deep j) (syntax k) p q = absurd (q.2 j p.0)
one_fault bytes (deep j) (deep k) p q = ap deep (equal j k (λ lt. q.1 j lt p.0) (λ lt. p.1 k lt q.0))

no_fault : (bytes : List ℕ) (tree : Tree) (f : Fault) → Reads bytes tree → IsFault bytes f → ⊥
no_fault bytes tree (syntax j) r f = f.0 tree r.file
no_fault bytes tree (deep j) r f = r.shallow j f.0

abbrev refusal : File → Fault → Ending
refusal file (syntax at) = Refused Syntax file at
refusal file (deep at) = Refused Deep file at

-- the fault of which a refusal tells
fault_of : (bytes : List ℕ) (file : File) (kind : Kind) (at : ℕ) → IsTreeFault bytes kind at → (f : Fault) × IsFault bytes f × (Refused kind file at ≡ refusal file f)
fault_of bytes file Syntax at h = (syntax at, h, refl)
fault_of bytes file Deep at h = (deep at, h, refl)
fault_of bytes file _ at h = absurd h

fault_in : (bytes : List ℕ) (file : File) (end : Ending) → RefusesTree bytes file end → (f : Fault) × IsFault bytes f × (end ≡ refusal file f)
fault_in bytes file end (kind, at, is, h) = let f = fault_of bytes file kind at h in (f.0, f.1, is ∙ f.2)

one_tree_refusal : (bytes : List ℕ) (file : File) (x y : Ending) → RefusesTree bytes file x → RefusesTree bytes file y → x ≡ y
one_tree_refusal bytes file x y p q =
    let f = fault_in bytes file x p in
    let g = fault_in bytes file y q in
    f.2 ∙ (ap (refusal file) (one_fault bytes f.0 g.0 f.1 g.1) ∙ sym g.2)

no_tree_refusal : (bytes : List ℕ) (file : File) (tree : Tree) (x : Ending) → Reads bytes tree → RefusesTree bytes file x → ⊥
no_tree_refusal bytes file tree x r p = let f = fault_in bytes file x p in no_fault bytes tree f.0 r f.1

one_tree : (bytes : List ℕ) (t u : Tree) → Reads bytes t → Reads bytes u → t ≡ u
one_tree bytes t u r s = s.only t r.file

-- ---- two files

one_reading : (domain problem : List ℕ) (s t u v : Tree) → Reads domain s → Reads problem t → Reads domain u → Reads problem v → reading s t ≡ reading u v
one_reading domain problem s t u v rs rt ru rv = ap₂ reading (one_tree domain s u rs ru) (one_tree problem t v rt rv)

pub one_task : (domain problem : List ℕ) (a b : Parts) → AreTask domain problem a → AreTask domain problem b → a ≡ b
one_task domain problem a b (s, t, rs, rt, p) (u, v, ru, rv, q) =
    let both : Ok a ≡ Ok b = sym p ∙ (one_reading domain problem s t u v rs rt ru rv ∙ q) in
    cc

one_trees_refusal : (s t u v : Tree) (x y : Ending) → reading s t ≡ reading u v → RefusesTrees s t x → RefusesTrees u v y → x ≡ y
one_trees_refusal s t u v x y same (c, p, r) (d, q, w) =
    let both : Err c ≡ Err d = sym p ∙ (same ∙ q) in
    let causes : c ≡ d = cc in
    let told : Some x ≡ Some y = sym r ∙ (ap refusal_of causes ∙ w) in
    cc

module _ (domain problem : List ℕ) where
  one_refusal : (x y : Ending) → RefusesTask domain problem x → RefusesTask domain problem y → x ≡ y
  one_refusal x y (domain_tree p) (domain_tree q) = one_tree_refusal domain Domain x y p q
  one_refusal x y (domain_tree p) (problem_tree u r q) = absurd (no_tree_refusal domain Domain u x r p)
  one_refusal x y (domain_tree p) (no_task u v r s q) = absurd (no_tree_refusal domain Domain u x r p)
  one_refusal x y (problem_tree s r p) (domain_tree q) = absurd (no_tree_refusal domain Domain s y r q)
  one_refusal x y (problem_tree s r p) (problem_tree u w q) = one_tree_refusal problem Problem x y p q
  one_refusal x y (problem_tree s r p) (no_task u v ru rv q) = absurd (no_tree_refusal problem Problem v x rv p)
  one_refusal x y (no_task s t rs rt p) (domain_tree q) = absurd (no_tree_refusal domain Domain s y rs q)
  one_refusal x y (no_task s t rs rt p) (problem_tree u r q) = absurd (no_tree_refusal problem Problem t y rt q)
  one_refusal x y (no_task s t rs rt p) (no_task u v ru rv q) = one_trees_refusal s t u v x y (one_reading domain problem s t u v rs rt ru rv) p q

  pub no_refusal : (x : Ending) (a : Parts) → RefusesTask domain problem x → AreTask domain problem a → ⊥
  no_refusal x a (domain_tree p) (s, t, rs, rt, e) = no_tree_refusal domain Domain s x rs p
  no_refusal x a (problem_tree u r p) (s, t, rs, rt, e) = no_tree_refusal problem Problem t x rt p
  no_refusal x a (no_task u v ru rv (c, p, r)) (s, t, rs, rt, e) =
      let never : Ok a ≡ Err c = sym e ∙ (one_reading domain problem s t u v rs rt ru rv ∙ p) in
      cc

  -- what two files come to that are only read is one ending, where it is for each task
  pub once_read : (A B : Parts → Ending → Type 0) (x y : Ending) → ((task : Parts) → A task x → B task y → x ≡ y) → OnceRead domain problem A x → OnceRead domain problem B y → x ≡ y
  once_read A B x y same (not_read p) (not_read q) = one_refusal x y p q
  once_read A B x y same (not_read p) (read b too j) = absurd (no_refusal x b p too)
  once_read A B x y same (read a are h) (not_read q) = absurd (no_refusal y a q are)
  once_read A B x y same (read a are h) (read b too j) = same a h (subst (λ (t : Parts). B t y) (one_task domain problem b a too are) j)

-- ---- grounding

module _ (one : OneResult) (task : Parts) where
  facts_same : (g h : Grounded) → IsGrounded task g → IsGrounded task h → length g.facts ≡ length h.facts
  facts_same g h is too = ap (λ (z : Grounded). length z.facts) (one task g h is too)

  calls_same : (g h : Grounded) → IsGrounded task g → IsGrounded task h → length g.calls ≡ length h.calls
  calls_same g h is too = ap (λ (z : Grounded). length z.calls) (one task g h is too)

  effects_same : (g h : Grounded) → IsGrounded task g → IsGrounded task h → conditional_in g.task.actions ≡ conditional_in h.task.actions
  effects_same g h is too = ap (λ (z : Grounded). conditional_in z.task.actions) (one task g h is too)

  one_limit : (a b : Limit) (m n : ℕ) → IsOver a task m → IsOver b task n → TooMany a m ≡ TooMany b n
  one_limit Tuples Tuples m n x y = ap (TooMany Tuples) (x.count_is ∙ sym y.count_is)
  one_limit Tuples Facts m n x y = absurd (omega (arith, x.over, y.tuples))
  one_limit Tuples Actions m n x y = absurd (omega (arith, x.over, y.tuples))
  one_limit Tuples Effects m n x y = absurd (omega (arith, x.over, y.tuples))
  one_limit Facts Tuples m n x y = absurd (omega (arith, y.over, x.tuples))
  one_limit Facts Facts m n x y = ap (TooMany Facts) (x.count_is ∙ (facts_same x.grounded y.grounded x.is y.is ∙ sym y.count_is))
  one_limit Facts Actions m n x y = absurd (omega (arith, x.over, y.facts, facts_same x.grounded y.grounded x.is y.is))
  one_limit Facts Effects m n x y = absurd (omega (arith, x.over, y.facts, facts_same x.grounded y.grounded x.is y.is))
  one_limit Actions Tuples m n x y = absurd (omega (arith, y.over, x.tuples))
  one_limit Actions Facts m n x y = absurd (omega (arith, y.over, x.facts, facts_same x.grounded y.grounded x.is y.is))
  one_limit Actions Actions m n x y = ap (TooMany Actions) (x.count_is ∙ (calls_same x.grounded y.grounded x.is y.is ∙ sym y.count_is))
  one_limit Actions Effects m n x y = absurd (omega (arith, x.over, y.actions, calls_same x.grounded y.grounded x.is y.is))
  one_limit Effects Tuples m n x y = absurd (omega (arith, y.over, x.tuples))
  one_limit Effects Facts m n x y = absurd (omega (arith, y.over, x.facts, facts_same x.grounded y.grounded x.is y.is))
  one_limit Effects Actions m n x y = absurd (omega (arith, y.over, x.actions, calls_same x.grounded y.grounded x.is y.is))
  one_limit Effects Effects m n x y = ap (TooMany Effects) (x.count_is ∙ (ap saturated (effects_same x.grounded y.grounded x.is y.is) ∙ sym y.count_is))

  pub no_limit : (a : Limit) (m : ℕ) (g : Grounded) → IsOver a task m → IsGrounded task g → IsWithin task g → ⊥
  no_limit Tuples m g x is fits = omega (arith, x.over, fits.tuples)
  no_limit Facts m g x is fits = omega (arith, x.over, fits.facts, facts_same x.grounded g x.is is)
  no_limit Actions m g x is fits = omega (arith, x.over, fits.actions, calls_same x.grounded g x.is is)
  no_limit Effects m g x is fits = omega (arith, x.over, fits.effects, effects_same x.grounded g x.is is)

  -- an ending that tells of a limit is one
  pub one_over : (x y : Ending) → TellsOver task x → TellsOver task y → x ≡ y
  one_over x y (a, m, p, over) (b, n, q, too) = p ∙ (one_limit a b m n over too ∙ sym q)

module _ (one : OneResult) (domain problem : List ℕ) where
  one_stop : (x y : Ending) → StopsTask domain problem x → StopsTask domain problem y → x ≡ y
  one_stop x y (refused p) (refused q) = one_refusal domain problem x y p q
  one_stop x y (refused p) (past b are q) = absurd (no_refusal domain problem x b p are)
  one_stop x y (past a are p) (refused q) = absurd (no_refusal domain problem y a q are)
  one_stop x y (past a are p) (past b too q) = one_over one a x y p (subst (λ (t : Parts). TellsOver t y) (one_task domain problem b a too are) q)

  pub no_stop : (x : Ending) (task : Parts) (g : Grounded) → StopsTask domain problem x → AreTask domain problem task → IsReady task g → ⊥
  no_stop x task g (refused p) are ready = no_refusal domain problem x task p are
  no_stop x task g (past a too over) are ready =
      no_limit one task over.0 over.1 g (subst (λ (t : Parts). IsOver over.0 t over.1) (one_task domain problem a task too are) over.3) ready.grounded ready.fits

  -- what two files come to that are grounded is one ending, where it is for each ground task
  pub once_grounded : (A B : Parts → Grounded → Ending → Type 0) (x y : Ending) → ((task : Parts) (g : Grounded) → A task g x → B task g y → x ≡ y)
      → OnceGrounded domain problem A x → OnceGrounded domain problem B y → x ≡ y
  once_grounded A B x y same (not_grounded p) (not_grounded q) = one_stop x y p q
  once_grounded A B x y same (not_grounded p) (grounded b k too also h) = absurd (no_stop x b k p too also)
  once_grounded A B x y same (grounded a g are ready h) (not_grounded q) = absurd (no_stop y a g q are ready)
  once_grounded A B x y same (grounded a g are ready h) (grounded b k too also j) =
      let tasks : b ≡ a = one_task domain problem b a too are in
      let there : IsReady a k = subst (λ (t : Parts). IsReady t k) tasks also in
      let moved : B a k y = subst (λ (t : Parts). B t k y) tasks j in
      same a g h (subst (λ (z : Grounded). B a z y) (one a k g there.grounded ready.grounded) moved)
