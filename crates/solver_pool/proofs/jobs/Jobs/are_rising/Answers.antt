use Rattle.solver_pool.proofs.jobs.Jobs.are_rising.Goals as goal

pub returns-clause-value : goal.returns-clause-value
returns-clause-value g c = rw c.as_slice.ensures at c.are_rising.ensures.value

pub returns-clause-differ : goal.returns-clause-differ
returns-clause-differ g c = rw c.as_slice.ensures at c.are_rising.ensures.differ
