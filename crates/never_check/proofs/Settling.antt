-- Propagation over more clauses, round by round.
use Rattle.std.proofs.Common.{arith, ◌≡◌, ◌<◌, ◌+◌, ℕ, List, [], ◌∷◌, ◌++◌, length, take, drop, Bool, ap, sym, ◌∙◌, subst, Some, slice_get, append_assoc}
use Rattle.std.specs.List.{AllByRecursion}
use Rattle.std.proofs.lemmas.List.{take_all, drop_more}
use Rattle.gt_core.specs.Literal.{is_in}
use Rattle.never_check.specs.Follow.{Obeys, IsGrown, IsContradiction, ObeysAll, IsFollowed}
use Rattle.never_check.proofs.Grown.{front_in, grown_then, grown_by, contradiction_by, contradiction_then}
use Rattle.never_check.proofs.Beginning.{Told, each_map}
use Rattle.never_check.proofs.Following.{clause_among}

pub joined_next : (xs ys zs : List (List ℕ)) (i : ℕ) (c : List ℕ) → i < length ys → slice_get ys i ≡ Some c → xs ++ drop i ys ≡ zs → (xs ++ c ∷ []) ++ drop (i + 1) ys ≡ zs
joined_next xs ys zs i c lt at e =
    let same = (clause_among ys i c at).1 in
    let cut : drop i ys ≡ c ∷ drop (i + 1) ys = drop_more ys i [] lt ∙ ap (λ (d : List ℕ). d ∷ drop (i + 1) ys) same in
    append_assoc xs (c ∷ []) (drop (i + 1) ys) ∙ ap (λ (r : List (List ℕ)). xs ++ r) (sym cut) ∙ e

-- what all obey
abbrev pub All : List (ℕ × ℕ) → List (List ℕ) → List (List ℕ) → (ℕ → Bool) → Type 0
All known clauses more set = ObeysAll known clauses set × AllByRecursion (Obeys set) more

module _ (known : List (ℕ × ℕ)) (clauses more : List (List ℕ)) (old mid next : List ℕ) (grown : IsGrown (All known clauses more) old mid) where
  pub rules_clash : IsContradiction (ObeysAll known clauses) mid → IsContradiction (All known clauses more) old
  rules_clash k = contradiction_then (All known clauses more) old mid grown (contradiction_by (All known clauses more) (ObeysAll known clauses) mid (λ set all has. all.0) k)

  pub rules_grown : IsGrown (ObeysAll known clauses) mid next → IsGrown (All known clauses more) old next
  rules_grown g = grown_then (All known clauses more) old mid next grown (grown_by (All known clauses more) (ObeysAll known clauses) mid next (λ set all has. all.0) g)

  pub more_clash : IsContradiction (λ set. AllByRecursion (Obeys set) more) mid → IsContradiction (All known clauses more) old
  more_clash k = contradiction_then (All known clauses more) old mid grown (contradiction_by (All known clauses more) (λ set. AllByRecursion (Obeys set) more) mid (λ set all has. all.1) k)

  pub more_grown : IsGrown (λ set. AllByRecursion (Obeys set) more) mid next → IsGrown (All known clauses more) old next
  more_grown g = grown_then (All known clauses more) old mid next grown (grown_by (All known clauses more) (λ set. AllByRecursion (Obeys set) more) mid next (λ set all has. all.1) g)

-- what was followed whole is followed among more literals
pub followed_later : (known : List (ℕ × ℕ)) (clauses : List (List ℕ)) (mid new : List ℕ) → IsFollowed known clauses mid mid → take (length mid) new ≡ mid → IsFollowed known clauses (take (length mid) new) new
followed_later known clauses mid new f front = subst (λ (ls : List ℕ). IsFollowed known clauses ls new) (sym front) (record {
  single = λ l v. front_in mid new front l (f.single l v);
  chain = λ x y i v. front_in mid new front y (f.chain x y i v);
  unit = each_map (Told mid mid) (Told mid new) clauses (λ c t l left. front_in mid new front l (t l left)) f.unit;
})

pub same_long : (mid new : List ℕ) → take (length mid) new ≡ mid → length new ≡ length mid → mid ≡ new
same_long mid new front long = sym front ∙ take_all (length mid) new (omega (arith, long))

-- where nothing was added, all obey
pub settled : (known : List (ℕ × ℕ)) (clauses more : List (List ℕ)) (mid new : List ℕ) → IsFollowed known clauses mid mid → take (length mid) new ≡ mid → length new ≡ length mid
    → AllByRecursion (Told mid new) more → IsFollowed known clauses new new × AllByRecursion (Obeys (is_in new)) more
settled known clauses more mid new f front long told =
    let same = same_long mid new front long in
    (subst (λ (ls : List ℕ). IsFollowed known clauses ls ls) same f, subst (λ (ls : List ℕ). AllByRecursion (Told ls new) more) same told)
