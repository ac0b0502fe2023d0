-- Requests of one task.
use Rattle.requests.specs.Seen.{Seen, batches}

-- a request of one task
abbrev pub IsOfOne : Seen → Type 0
IsOfOne (batches domain problems numbers turns) = ⊥
IsOfOne request = Unit {0}
