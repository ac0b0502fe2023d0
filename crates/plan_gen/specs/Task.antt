-- The texts of a generated task, by its kind.
use Rattle.std.specs.Prelude.{ℕ, List}
use Rattle.plan_gen.specs.declared.Kind.{Kind}
use Rattle.plan_gen.specs.declared.Kind.TheVariants.{Corridor, Gripper}
use Rattle.plan_gen.specs.Corridor.{corridor_domain, corridor_problem}
use Rattle.plan_gen.specs.Gripper.{gripper_domain, gripper_problem}

-- The text of the domain.
abbrev pub domain_of : Kind → List ℕ
domain_of Corridor = corridor_domain
domain_of Gripper = gripper_domain

-- The text of the problem of a number.
abbrev pub problem_of : Kind → (number : ℕ) → List ℕ
problem_of Corridor number = corridor_problem number
problem_of Gripper number = gripper_problem number
