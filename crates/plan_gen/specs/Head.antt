-- The head of a problem.
use Rattle.std.specs.Prelude.{ℕ, List, [], ◌++◌, codes, decimal}
use Rattle.plan_gen.specs.Numbered.{numbered}

-- The problem's name, which is the domain's with a number, and the domain's.
abbrev pub names : (name : List ℕ) (number : ℕ) → List ℕ
names name number =
    codes "(define (problem " ++ name ++ codes "-" ++ decimal number ++ codes ")\n(:domain " ++ name ++ codes ")\n"

-- The objects: those that are always there, with numbered ones between them.
abbrev pub objects : (first object last : List ℕ) (number : ℕ) → List ℕ
objects first object last number = codes "(:objects " ++ first ++ numbered object [] number ++ last ++ codes ")\n"

-- The head.
abbrev pub head : (name first object last : List ℕ) (number : ℕ) → List ℕ
head name first object last number = names name number ++ objects first object last number
