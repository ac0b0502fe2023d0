-- What the supports that the code finds say.
use Rattle.std.specs.Prelude.{◌≡◌, ℕ, ◌/◌, ◌<◌, List, [], ◌∷◌, ◌++◌, Option, Some, None, fold}
use Rattle.std.specs.List.{AllByRecursion}
use Rattle.containers.specs.Rising.{put}
use Rattle.goal_choice.specs.Walk.{Support as Meaning, Chooses, Wants}
use Rattle.goal_choice.specs.declared.support.Support.{Support}
use Rattle.goal_choice.specs.declared.support.Support.TheVariants.{Choose, Want, Keep}

-- the support of a literal
abbrev pub meaning : ℕ → Support → Meaning
meaning l (Choose c) = Chooses c
meaning l (Want ps cs) = Wants (ps.now ++ cs.now)
meaning l Keep = Wants (l ∷ [])

-- the literals that are wanted are of so many facts
abbrev pub WantsWithin : ℕ → Support → Type 0
WantsWithin facts (Choose c) = Unit {0}
WantsWithin facts (Want ps cs) = AllByRecursion (λ l. l / 2 < facts) (ps.now ++ cs.now)
WantsWithin facts Keep = Unit {0}

-- what the wanted literals of a step ask for is a choice, or else that these literals, rising, are wanted before it
abbrev pub IsStep : Meaning → Option ℕ → List ℕ → Type 0
IsStep support (Some c) before = support ≡ Chooses c
IsStep support None before = (ls : List ℕ) × (support ≡ Wants ls) × (before ≡ fold put [] ls)
