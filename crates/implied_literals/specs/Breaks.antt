use Rattle.std.specs.Prelude.{◌≡◌, ℕ, ◌==◌, ◌%◌, List, [], ◌∷◌, ◌++◌, ◌⊎◌, Bool, true}
use Rattle.std.specs.List.{AllByRecursion}
use Rattle.gt_core.specs.Literal.{opposite}
use Rattle.gt_core.specs.Task.{Effect, Action}
use Rattle.implied_literals.specs.Known.{IsKnown, AllKnown, IsConsistent}

-- What an action may do to clauses, in a state in which each clause of a set holds.

-- some element of a list
abbrev pub AnyByRecursion : {A : Type 0} → (A → Type 0) → List A → Type 0
AnyByRecursion P [] = ⊥
AnyByRecursion P (x ∷ xs) = P x ⊎ AnyByRecursion P xs

-- a literal says that its fact is true
abbrev pub is_add : ℕ → Bool
is_add l = l % 2 == 0

-- from the precondition, more literals and the effect's condition no contradiction is known, and the effect has the
-- opposite of l; where it deletes l, no effect of the action surely adds it
pub record Takes (V : ℕ → ℕ → Bool) (x : Action) (more : List ℕ) (e : Effect) (l : ℕ) : Type 0 where
  pub against : e.literal ≡ opposite l
  pub consistent : IsConsistent V (x.precondition ++ (more ++ e.condition))
  pub stands : is_add l ≡ true → AllByRecursion (λ f. f.literal ≡ l → AllKnown V (x.precondition ++ (more ++ e.condition)) f.condition → ⊥) x.effects

-- a literal may become false
abbrev pub Loses : (ℕ → ℕ → Bool) → Action → List ℕ → ℕ → Type 0
Loses V x more l = AnyByRecursion (λ e. Takes V x more e l) x.effects

-- an effect surely makes a literal true
abbrev pub Gives : (ℕ → ℕ → Bool) → Action → List ℕ → ℕ → Type 0
Gives V x more m = AnyByRecursion (λ e. (e.literal ≡ m) × AllKnown V (x.precondition ++ more) e.condition) x.effects

-- a literal surely holds after the action
pub record Sure (V : ℕ → ℕ → Bool) (x : Action) (more : List ℕ) (m : ℕ) : Type 0 where
  pub stays : Loses V x more m → ⊥
  pub holds : IsKnown V (x.precondition ++ more) m ⊎ Gives V x more m

-- an effect may take l where m is not sure
abbrev pub BreaksBy : (ℕ → ℕ → Bool) → Action → ℕ → ℕ → Type 0
BreaksBy V x l m = AnyByRecursion (λ e. Takes V x [] e l × (Sure V x e.condition m → ⊥)) x.effects

-- an action breaks the clause of one literal, given twice, or of two
abbrev pub Breaks : (ℕ → ℕ → Bool) → Action → ℕ → ℕ → Type 0
Breaks V x l m = ((l ≡ m) × Loses V x [] l) ⊎ ((l ≡ m → ⊥) × (BreaksBy V x l m ⊎ BreaksBy V x m l))
