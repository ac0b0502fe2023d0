-- How much is left to do on the ring: it falls with each turn of the owner while no other pass is out, so its turns come to an end.
use Rattle.std.specs.Prelude.{◌≡◌, ℕ, ◌-◌, ◌<◌}
use Rattle.std.specs.List.{sum_by}
use Rattle.solver_pool.specs.declared.pass_view.PassView.{PassView}
use Rattle.solver_pool.specs.declared.pass_view.Note.{Note}
use Rattle.solver_pool.specs.declared.serve.Served.{Served}
use Rattle.solver_pool.specs.declared.serve.Served.TheVariants.{Back, Done, Idle}
use Rattle.solver_pool.specs.own.PassView.{IsAlone}

-- how many units the run of the note is below the most that any run is granted, and one
abbrev pub left_at : Note → ℕ
left_at n = 1073741825 - n.granted

-- the same of what the pass put and did not take
abbrev pub left_in : {R : Type 0} → PassView R → ℕ
left_in v = sum_by left_at v.put - sum_by left_at v.took

-- from the owner's pass, while no other is out, to the same with less to do
abbrev pub Falls : {R : Type 0} → PassView R → PassView R → Type 0
Falls v w = IsAlone v → IsAlone w × (left_in w < left_in v)

-- a turn that finds a job leaves less to do; one that finds none leaves the pass as it was
abbrev pub FallsOrIdle : {R : Type 0} → PassView R → PassView R → Served R → Type 0
FallsOrIdle v w Idle = w ≡ v
FallsOrIdle v w Back = Falls v w
FallsOrIdle v w (Done j) = Falls v w
