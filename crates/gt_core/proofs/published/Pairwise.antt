use Rattle.std.proofs.Common.{◌≡◌, ℕ, List, [], ◌∷◌, ◌++◌, map, Bool, true, false, refl, sym, ap, ◌∙◌, subst, if◌then◌else◌, ◌⊎◌, inl, inr}
use Rattle.std.specs.List.{filter, flat_map, AllByRecursion}
use Rattle.gt_core.specs.Published.{Pairwise}
use Rattle.gt_core.proofs.published.Basics.{Among, each_at, each_from}

-- What holds of each two elements of a list.

pub pairwise_map : {A : Type 0} (Q R : A → A → Type 0) (xs : List A) → ((x y : A) → Q x y → R x y) → Pairwise Q xs → Pairwise R xs
pairwise_map Q R [] h p = tt
pairwise_map Q R (x ∷ xs) h p = (each_from (R x) xs (λ y a. h x y (each_at (Q x) xs y p.0 a)), pairwise_map Q R xs h p.1)

pub pairwise_all : {A I : Type 0} (R : I → A → A → Type 0) (xs : List A) → ((i : I) → Pairwise (R i) xs) → Pairwise (λ x y. (i : I) → R i x y) xs
pairwise_all R [] p = tt
pairwise_all R (x ∷ xs) p = (each_from _ xs (λ y a i. each_at (R i x) xs y (p i).0 a), pairwise_all R xs (λ i. (p i).1))

pub among_split : {A : Type 0} (xs ys : List A) (y : A) → Among y (xs ++ ys) → Among y xs ⊎ Among y ys
among_split [] ys y a = inr a
among_split (x ∷ xs) ys y (inl e) = inl (inl e)
among_split (x ∷ xs) ys y (inr a) = elim (among_split xs ys y a) [ inl b ↦ inl (inr b) | inr b ↦ inr b ]

pub pairwise_joined : {A : Type 0} (R : A → A → Type 0) (xs ys : List A) → Pairwise R xs → Pairwise R ys → ((x y : A) → Among x xs → Among y ys → R x y) → Pairwise R (xs ++ ys)
pairwise_joined R [] ys p q h = q
pairwise_joined R (x ∷ xs) ys p q h = (
  each_from (R x) (xs ++ ys) (λ y a. elim (among_split xs ys y a) [ inl b ↦ each_at (R x) xs y p.0 b | inr b ↦ h x y (inl refl) b ]),
  pairwise_joined R xs ys p.1 q (λ z y a b. h z y (inr a) b),
)

pub among_left : {A : Type 0} (xs ys : List A) (y : A) → Among y xs → Among y (xs ++ ys)
among_left [] ys y a = absurd a
among_left (x ∷ xs) ys y (inl e) = inl e
among_left (x ∷ xs) ys y (inr a) = inr (among_left xs ys y a)

pub among_right : {A : Type 0} (xs ys : List A) (y : A) → Among y ys → Among y (xs ++ ys)
among_right [] ys y a = a
among_right (x ∷ xs) ys y a = inr (among_right xs ys y a)

pub among_map : {A B : Type 0} (f : A → B) (xs : List A) (x : A) → Among x xs → Among (f x) (map f xs)
among_map f [] x a = absurd a
among_map f (y ∷ ys) x (inl e) = inl (ap f e)
among_map f (y ∷ ys) x (inr a) = inr (among_map f ys x a)

pub among_flat : {A B : Type 0} (f : A → List B) (xs : List A) (x : A) (y : B) → Among x xs → Among y (f x) → Among y (flat_map f xs)
among_flat f [] x y a b = absurd a
among_flat f (z ∷ zs) x y (inl e) b = among_left (f z) (flat_map f zs) y (subst (λ w. Among y (f w)) e b)
among_flat f (z ∷ zs) x y (inr a) b = among_right (f z) (flat_map f zs) y (among_flat f zs x y a b)

pub flat_among : {A B : Type 0} (f : A → List B) (xs : List A) (y : B) → Among y (flat_map f xs) → (x : A) × Among x xs × Among y (f x)
flat_among f [] y a = absurd a
flat_among f (z ∷ zs) y a = elim (among_split (f z) (flat_map f zs) y a) [
  | inl b ↦ (z, inl refl, b)
  | inr b ↦ let r = flat_among f zs y b in (r.0, inr r.1, r.2)
]

-- within each list, and across each two
pub pairwise_flat : {A : Type 0} (R : A → A → Type 0) (xss : List (List A)) → ((xs : List A) → Among xs xss → Pairwise R xs) → Pairwise (λ xs ys. AllByRecursion (λ x. AllByRecursion (R x) ys) xs) xss → Pairwise R (flat_map (λ xs. xs) xss)
pairwise_flat R [] h p = tt
pairwise_flat R (xs ∷ xss) h p =
    pairwise_joined R xs (flat_map (λ xs. xs) xss) (h xs (inl refl)) (pairwise_flat R xss (λ ys a. h ys (inr a)) p.1)
    (λ x y a b.
    let r = flat_among (λ xs. xs) xss y b in
    each_at (R x) r.0 y (each_at (λ z. AllByRecursion (R z) r.0) xs x (each_at (λ ys. AllByRecursion (λ z. AllByRecursion (R z) ys) xs) xss r.0 p.0 r.1) a) r.2)

pub pairwise_both : {A : Type 0} (Q R : A → A → Type 0) (xs : List A) → Pairwise Q xs → Pairwise R xs → Pairwise (λ x y. Q x y × R x y) xs
pairwise_both Q R [] p q = tt
pairwise_both Q R (x ∷ xs) p q = (each_from _ xs (λ y a. (each_at (Q x) xs y p.0 a, each_at (R x) xs y q.0 a)), pairwise_both Q R xs p.1 q.1)

pairwise_filter_by : (S : ℕ → Bool) (D : ℕ → ℕ → Type 0) (k : ℕ) (ks ms : List ℕ) (b : Bool) → (b ≡ true → AllByRecursion (D k) ms) → Pairwise D ms → Pairwise D (if b then k ∷ ms else ms)
pairwise_filter_by S D k ks ms true h p = (h refl, p)
pairwise_filter_by S D k ks ms false h p = p

among_filter_by : (S : ℕ → Bool) (k : ℕ) (ms : List ℕ) (x : ℕ) (b : Bool) → S k ≡ b → Among x (if b then k ∷ ms else ms) → ((x ≡ k) × S x ≡ true) ⊎ Among x ms
among_filter_by S k ms x true e (inl i) = inl (i, ap S i ∙ e)
among_filter_by S k ms x true e (inr i) = inr i
among_filter_by S k ms x false e i = inr i

pub filtered : (S : ℕ → Bool) (ks : List ℕ) (x : ℕ) → Among x (filter S ks) → Among x ks × S x ≡ true
filtered S [] x i = absurd i
filtered S (k ∷ ks) x i = elim (among_filter_by S k (filter S ks) x (S k) refl i) [
  | inl e ↦ (inl e.0, e.1)
  | inr j ↦ let r = filtered S ks x j in (inr r.0, r.1)
]

into_filter_by : (k : ℕ) (ms : List ℕ) (x : ℕ) (b : Bool) → ((x ≡ k) × b ≡ true) ⊎ Among x ms → Among x (if b then k ∷ ms else ms)
into_filter_by k ms x true (inl e) = inl e.0
into_filter_by k ms x true (inr i) = inr i
into_filter_by k ms x false (inl e) = absurd (let c = e.1 in cc)
into_filter_by k ms x false (inr i) = i

pub into_filter : (S : ℕ → Bool) (ks : List ℕ) (x : ℕ) → Among x ks → S x ≡ true → Among x (filter S ks)
into_filter S [] x i e = absurd i
into_filter S (k ∷ ks) x (inl s) e = into_filter_by k (filter S ks) x (S k) (inl (s, ap S (sym s) ∙ e))
into_filter S (k ∷ ks) x (inr i) e = into_filter_by k (filter S ks) x (S k) (inr (into_filter S ks x i e))

pub pairwise_filter : (S : ℕ → Bool) (Q D : ℕ → ℕ → Type 0) (ks : List ℕ) → ((a b : ℕ) → S a ≡ true → S b ≡ true → Q a b → D a b) → Pairwise Q ks → Pairwise D (filter S ks)
pairwise_filter S Q D [] h p = tt
pairwise_filter S Q D (k ∷ ks) h p =
    pairwise_filter_by S D k ks (filter S ks) (S k) (λ e. each_from (D k) (filter S ks) (λ b i. let r = filtered S ks b i in h k b e r.1 (each_at (Q k) ks b p.0 r.0))) (pairwise_filter S Q D ks h p.1)

-- what holds of any two of a list
pub pairwise_among : (R : ℕ → ℕ → Type 0) (ks : List ℕ) → ((a b : ℕ) → Among a ks → Among b ks → R a b) → Pairwise R ks
pairwise_among R [] h = tt
pairwise_among R (k ∷ ks) h = (each_from (R k) ks (λ b i. h k b (inl refl) (inr i)), pairwise_among R ks (λ a b i j. h a b (inr i) (inr j)))

pub every_pair : (R : ℕ → ℕ → Type 0) (ks : List ℕ) → ((a b : ℕ) → R a b) → Pairwise R ks
every_pair R ks h = pairwise_among R ks (λ a b i j. h a b)
