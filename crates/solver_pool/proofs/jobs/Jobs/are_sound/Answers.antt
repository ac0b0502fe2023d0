use Rattle.solver_pool.proofs.jobs.Jobs.are_sound.Goals as goal

pub returns : goal.returns
returns g c = rw c.as_slice.ensures at c.are_sound.ensures
