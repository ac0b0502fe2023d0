use Rattle.std.proofs.Common.{◌≡◌, ℕ, ◌+◌, List, [], ◌∷◌, ◌++◌, Bool, true, false, ◌||◌, ◌&&◌, refl, sym, ap, ◌∙◌, if◌then◌else◌, inl, inr}
use Rattle.std.specs.List.{list_any}
use Rattle.gt_core.specs.Interference.{reads}
use Rattle.gt_core.specs.Published.{Pairwise}
use Rattle.gt_core.proofs.published.Basics.{Among, any_at, each_at, each_from, or_split, or_left, or_right, and_split, apart}
use Rattle.formula_defs.specs.Clause.{Literal, Is, Not, clause_true, AllTrue}
use Rattle.formula_defs.specs.Chain.{if_read, enter_clauses, pass_clauses}
use Rattle.formula_defs.proofs.published.Satisfied.{joined, parted, implies, implied, excludes, excluded}

-- what stands where a reader is left holds of each reader
read_one : (v : ℕ → Bool) (reads : ℕ → Bool) (ks : List ℕ) (clause : List Literal) (k : ℕ) → AllTrue v (if_read reads ks clause) → Among k ks → reads k ≡ true → clause_true v clause ≡ true
read_one v reads ks clause k s a r =
    let any : list_any reads ks ≡ true = any_at reads ks k a r in
    let t : AllTrue v (clause ∷ []) = rw any at s in t.0

read_given : (v : ℕ → Bool) (b : Bool) (clause : List Literal) → (b ≡ true → clause_true v clause ≡ true) → AllTrue v (if b then clause ∷ [] else [])
read_given v true clause h = (h refl, tt)
read_given v false clause h = tt

module _ (v : ℕ → Bool) (act var : ℕ → ℕ) (takes reads : ℕ → Bool) where
  -- no true taker stands before a true reader
  abbrev pub NoneBefore : List ℕ → Type 0
  NoneBefore ks = Pairwise (λ a b. takes a ≡ true → v (act a) ≡ true → reads b ≡ true → v (act b) ≡ false) ks

  -- a true chain variable forbids each reader that is left
  abbrev Forbids : ℕ → List ℕ → Type 0
  Forbids i ks = AllTrue v (pass_clauses act var takes reads true i ks) → v (var i) ≡ true → (b : ℕ) → Among b ks → reads b ≡ true → v (act b) ≡ false

  forbids_at : (i k : ℕ) (ks : List ℕ) (r : Bool) → reads k ≡ r → ((j : ℕ) → Forbids j ks) → AllTrue v ((if r then (Not (var i) ∷ Not (act k) ∷ []) ∷ if_read reads ks (Not (var i) ∷ Is (var (i + 1)) ∷ []) else []) ++ pass_clauses act var takes reads true (if r then i + 1 else i) ks) → v (var i) ≡ true → (b : ℕ) → Among b (k ∷ ks) → reads b ≡ true → v (act b) ≡ false
  forbids_at i k ks false f on s t b (inl e) r = absurd (apart (reads b) r (ap reads e ∙ f))
  forbids_at i k ks false f on s t b (inr a) r = on i s t b a r
  forbids_at i k ks true f on s t b (inl e) r = ap (λ x. v (act x)) e ∙ excludes (v (var i)) (v (act k)) s.0 t
  forbids_at i k ks true f on s t b (inr a) r =
      let p = parted v (if_read reads ks (Not (var i) ∷ Is (var (i + 1)) ∷ [])) (pass_clauses act var takes reads true (i + 1) ks) s.1 in
      let n = implies (v (var i)) (v (var (i + 1))) (read_one v reads ks _ b p.0 a r) t in
      on (i + 1) p.1 n b a r

  forbids : (ks : List ℕ) (i : ℕ) → Forbids i ks
  forbids [] i s t b a r = absurd a
  forbids (k ∷ ks) i s t b a r = forbids_at i k ks (reads k) refl (forbids ks) s t b a r

  forbids_seen : (seen : Bool) (i : ℕ) (ks : List ℕ) → seen ≡ true → AllTrue v (pass_clauses act var takes reads seen i ks) → v (var i) ≡ true → (b : ℕ) → Among b ks → reads b ≡ true → v (act b) ≡ false
  forbids_seen true i ks e = forbids ks i
  forbids_seen false i ks e = cc

  -- satisfied chain clauses leave no true taker before a true reader
  pub chain_holds : (seen : Bool) (i : ℕ) (ks : List ℕ) → AllTrue v (enter_clauses act var takes reads seen i ks) → AllTrue v (pass_clauses act var takes reads seen i ks) → NoneBefore ks
  chain_holds seen i [] e p = tt
  chain_holds seen i (k ∷ ks) e p =
      let i2 = if seen && reads k then i + 1 else i in
      let es = parted v (if takes k then if_read reads ks (Not (act k) ∷ Is (var i2) ∷ []) else []) (enter_clauses act var takes reads (seen || takes k) i2 ks) e in
      let ps = parted v (if seen && reads k then (Not (var i) ∷ Not (act k) ∷ []) ∷ if_read reads ks (Not (var i) ∷ Is (var (i + 1)) ∷ []) else []) (pass_clauses act var takes reads (seen || takes k) i2 ks) p in (
        each_from _ ks (λ b a t x r.
            let en : AllTrue v (if_read reads ks (Not (act k) ∷ Is (var i2) ∷ [])) = rw t at es.0 in
            forbids_seen (seen || takes k) i2 ks (or_right seen (takes k) t) ps.1 (implies (v (act k)) (v (var i2)) (read_one v reads ks _ b en a r) x) b a r),
        chain_holds (seen || takes k) i2 ks es.1 ps.1,
      )

  -- each chain variable says that a true taker stands before its reader
  abbrev pub HasChainValues : Bool → Bool → ℕ → List ℕ → Type 0
  HasChainValues taken seen i [] = Unit {0}
  HasChainValues taken seen i (k ∷ ks) =
      ((seen && reads k) ≡ true → v (var i) ≡ taken)
      × HasChainValues (taken || (takes k && v (act k))) (seen || takes k) (if seen && reads k then i + 1 else i) ks

  -- with those values the next variable, where there is one, says what is taken so far
  next_at : (taken : Bool) (i k : ℕ) (ks : List ℕ) (r : Bool) → taken ≡ true → (r ≡ true → v (var i) ≡ taken) → (list_any reads ks ≡ true → r ≡ false → v (var i) ≡ true) → (r || list_any reads ks) ≡ true → v (var i) ≡ true
  next_at taken i k ks true t h g e = h refl ∙ t
  next_at taken i k ks false t h g e = g e refl

  next_value : (ks : List ℕ) (taken : Bool) (i : ℕ) → taken ≡ true → HasChainValues taken true i ks → list_any reads ks ≡ true → v (var i) ≡ true
  next_value [] taken i t h e = cc
  next_value (k ∷ ks) taken i t h e =
      next_at taken i k ks (reads k) t h.0
      (λ a f. next_value ks (taken || (takes k && v (act k))) i (or_left taken _ t) (rw f at h.1) a) e

  next_seen : (seen : Bool) (ks : List ℕ) (taken : Bool) (i : ℕ) → seen ≡ true → taken ≡ true → HasChainValues taken seen i ks → list_any reads ks ≡ true → v (var i) ≡ true
  next_seen true ks taken i s = next_value ks taken i
  next_seen false ks taken i s = cc

  -- and all chain clauses hold, where no true taker stands before a true reader
  enter_at : (taken seen : Bool) (i k : ℕ) (ks : List ℕ) (t : Bool) → takes k ≡ t → HasChainValues (taken || (t && v (act k))) (seen || t) i ks → AllTrue v (if t then if_read reads ks (Not (act k) ∷ Is (var i) ∷ []) else [])
  enter_at taken seen i k ks false f h = tt
  enter_at taken seen i k ks true f h =
      read_given v (list_any reads ks) _ (λ e. implied (v (act k)) (v (var i)) (λ x.
      next_seen (seen || true) ks (taken || v (act k)) i (or_right seen true refl) (or_right taken (v (act k)) x) h e))

  pub enter_holds : (taken seen : Bool) (i : ℕ) (ks : List ℕ) → HasChainValues taken seen i ks → AllTrue v (enter_clauses act var takes reads seen i ks)
  enter_holds taken seen i [] h = tt
  enter_holds taken seen i (k ∷ ks) h =
      let i2 = if seen && reads k then i + 1 else i in
      joined v _ (enter_clauses act var takes reads (seen || takes k) i2 ks)
      (enter_at taken seen i2 k ks (takes k) refl h.1)
      (enter_holds (taken || (takes k && v (act k))) (seen || takes k) i2 ks h.1)

  pass_at : (taken seen : Bool) (i k : ℕ) (ks : List ℕ) (r : Bool) → (seen && reads k) ≡ r → (r ≡ true → v (var i) ≡ taken) → HasChainValues (taken || (takes k && v (act k))) (seen || takes k) (if r then i + 1 else i) ks → (taken ≡ true → (b : ℕ) → Among b (k ∷ ks) → reads b ≡ true → v (act b) ≡ false) → AllTrue v (if r then (Not (var i) ∷ Not (act k) ∷ []) ∷ if_read reads ks (Not (var i) ∷ Is (var (i + 1)) ∷ []) else [])
  pass_at taken seen i k ks false f h g n = tt
  pass_at taken seen i k ks true f h g n =
      let both = and_split seen (reads k) f in (
        excluded (v (var i)) (v (act k)) (λ x. n (sym (h refl) ∙ x) k (inl refl) both.1),
        read_given v (list_any reads ks) _ (λ e. implied (v (var i)) (v (var (i + 1))) (λ x.
            next_seen (seen || takes k) ks (taken || (takes k && v (act k))) (i + 1) (or_left seen (takes k) both.0) (or_left taken _ (sym (h refl) ∙ x)) g e)),
      )

  pub pass_holds : (taken seen : Bool) (i : ℕ) (ks : List ℕ) → HasChainValues taken seen i ks → (taken ≡ true → (b : ℕ) → Among b ks → reads b ≡ true → v (act b) ≡ false) → NoneBefore ks → AllTrue v (pass_clauses act var takes reads seen i ks)
  pass_holds taken seen i [] h n o = tt
  pass_holds taken seen i (k ∷ ks) h n o =
      let i2 = if seen && reads k then i + 1 else i in
      joined v _ (pass_clauses act var takes reads (seen || takes k) i2 ks)
      (pass_at taken seen i k ks (seen && reads k) refl h.0 h.1 n)
      (pass_holds (taken || (takes k && v (act k))) (seen || takes k) i2 ks h.1
      (λ t b a r. elim (or_split taken (takes k && v (act k)) t) [
        | inl e ↦ n e b (inr a) r
        | inr e ↦ let x = and_split (takes k) (v (act k)) e in each_at _ ks b o.0 a x.0 x.1 r
      ]) o.1)
