-- What is read of a store's clauses by their numbers.
use Rattle.std.proofs.Common.{arith, ◌≡◌, ℕ, zero, suc, ◌+◌, ◌-◌, ◌≤◌, List, [], ◌∷◌, ◌++◌, map, length, replicate, get_or, set, false, sym, ap, refl, ◌∙◌, length-append, length-set}
use Rattle.std.proofs.lemmas.List.{get_or-append_right, length-map}
use Rattle.cdcl_tables.specs.declared.added.Added.{Added}
use Rattle.cdcl_tables.specs.declared.added.Added.TheVariants.{Packed}
use Rattle.cdcl_tables.specs.Stored.{StoreView}
use Rattle.cdcl_tables.specs.own.Stored.{lits_of, is_packed}

-- what a store shows of its parts
abbrev pub shown : List (List ℕ) → List Added → StoreView
shown given added = record { clauses = given ++ map lits_of added; packed = replicate (length given) false ++ map is_packed added }

-- the literals of a clause are kept in another form
lits_set : (added : List Added) (p : ℕ) (l : List ℕ) → get_or (map lits_of added) p [] ≡ l → map lits_of (set added p (Packed l)) ≡ map lits_of added
lits_set [] p l e = refl
lits_set (a ∷ added) zero l e = ap (λ (k : List ℕ). k ∷ map lits_of added) (sym e)
lits_set (a ∷ added) (suc p) l e = ap (λ (ks : List (List ℕ)). lits_of a ∷ ks) (lits_set added p l e)

pub lits_same : (given : List (List ℕ)) (count : ℕ) (added : List Added) (n : ℕ) (l : List ℕ) → count ≡ length given → count ≤ n
    → get_or (given ++ map lits_of added) n [] ≡ l → map lits_of (set added (n - count) (Packed l)) ≡ map lits_of added
lits_same given count added n l e le is = lits_set added (n - count) l (sym (get_or-append_right given (map lits_of added) count n [] (sym e) le) ∙ is)

pub flags_same : (k : ℕ) (added : List Added) (p : ℕ) (l : List ℕ)
    → length (replicate k false ++ map is_packed (set added p (Packed l))) ≡ length (replicate k false ++ map is_packed added)
flags_same k added p l = omega (
  arith,
  length-append (replicate k false) (map is_packed (set added p (Packed l))),
  length-append (replicate k false) (map is_packed added),
  length-map (set added p (Packed l)) is_packed,
  length-map added is_packed,
  length-set added p (Packed l),
)

flags_set : (added : List Added) (p n : ℕ) (l : List ℕ) → (n ≡ p → ⊥) → get_or (map is_packed added) n false ≡ false
    → get_or (map is_packed (set added p (Packed l))) n false ≡ false
flags_set [] p n l apart e = e
flags_set (a ∷ added) zero zero l apart e = absurd (apart refl)
flags_set (a ∷ added) zero (suc n) l apart e = e
flags_set (a ∷ added) (suc p) zero l apart e = e
flags_set (a ∷ added) (suc p) (suc n) l apart e = flags_set added p n l (λ q. apart (ap (λ (i : ℕ). suc i) q)) e

-- each other clause can be read as before
pub read_other : (k : ℕ) (added : List Added) (p n : ℕ) (l : List ℕ) → (n ≡ k + p → ⊥) → get_or (replicate k false ++ map is_packed added) n false ≡ false
    → get_or (replicate k false ++ map is_packed (set added p (Packed l))) n false ≡ false
read_other zero added p n l apart e = flags_set added p n l (λ q. apart (omega (arith, q))) e
read_other (suc k) added p zero l apart e = e
read_other (suc k) added p (suc n) l apart e = read_other k added p n l (λ q. apart (omega (arith, q))) e
