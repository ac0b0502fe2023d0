-- What is known of a call that ends the run is handed on.
use Rattle.std.proofs.Common.{◌≡◌, Result, Ok, Err, Some, None, subst}
use Rattle.std.specs.Prelude.{IfOk, IsErrAnd}
use Rattle.std.proofs.lemmas.Result.{err_from_is_err_and}
use Rattle.plan_endings.specs.declared.ending.Ending.{Ending}
use Rattle.plan_endings.specs.declared.stop.Stop.{Stop}
use Rattle.plan_endings.specs.declared.stop.Stop.TheVariants.{Ends, Memory}
use Rattle.plan_endings.specs.Ends.{EndsBy, StopsBy, OnlyMemory, EndsWith, end_in, EndsAs, ending_in}

pub EndsBy-weaker : (claim other : Ending → Type 0) → ((end : Ending) → claim end → other end) → (stop : Stop) → EndsBy claim stop → EndsBy other stop
EndsBy-weaker claim other weaker (Ends end) h = weaker end h
EndsBy-weaker claim other weaker Memory h = tt

pub StopsBy-weaker : {A : Type 0} (claim other : Ending → Type 0) → ((end : Ending) → claim end → other end) → (r : Result A Stop) → StopsBy claim r → StopsBy other r
StopsBy-weaker claim other weaker (Ok x) h = tt
StopsBy-weaker claim other weaker (Err stop) h = EndsBy-weaker claim other weaker stop h

-- a stop that is handed on as it is
pub Stops-handed : {A : Type 0} (claim other : Ending → Type 0) → ((end : Ending) → claim end → other end) → (stop : Stop) (r : Result A Stop) → IsErrAnd r (λ told. told ≡ stop) → EndsBy claim stop → StopsBy other r
Stops-handed claim other weaker stop r handed h = let p = err_from_is_err_and r handed in rw (p.1, p.2) (EndsBy-weaker claim other weaker stop h)

-- ---- endings of a program, which are those that all programs have, and others

module _ {E : Type 0} (plain : Ending → E) where
  pub weaker : (claim other : E → Type 0) → ((end : E) → claim end → other end) → (r : Result E Stop) → EndsWith plain claim r → EndsWith plain other r
  weaker claim other more (Ok end) h = more end h
  weaker claim other more (Err stop) h = EndsBy-weaker (λ end. claim (plain end)) (λ end. other (plain end)) (λ end. more (plain end)) stop h

  -- a stop that is handed on as it is
  pub handed : (claim : Ending → Type 0) (other : E → Type 0) → ((end : Ending) → claim end → other (plain end)) → (stop : Stop) (r : Result E Stop) → IsErrAnd r (λ told. told ≡ stop) → EndsBy claim stop → EndsWith plain other r
  handed claim other more stop r is h = let p = err_from_is_err_and r is in rw (p.1, p.2) (EndsBy-weaker claim (λ end. other (plain end)) more stop h)

  -- of want of memory nothing is said
  pub no_memory : (claim : E → Type 0) (r : Result E Stop) → IsErrAnd r (λ told. told ≡ Memory) → EndsWith plain claim r
  no_memory claim r is = let p = err_from_is_err_and r is in rw (p.1, p.2) tt

  -- the ending that there is, is of the kind that was answered
  pub end_answers : (claim : E → Type 0) (r : Result E Stop) (end : E) → EndsWith plain claim r → Some end ≡ end_in plain r → claim end
  end_answers claim (Ok other) end h is = let same : other ≡ end = cc in subst claim same h
  end_answers claim (Err (Ends other)) end h is = let same : plain other ≡ end = cc in subst claim same h
  end_answers claim (Err Memory) end h is = absurd (let never : Some end ≡ None = is in cc)

-- ---- the same of a program that has no others

pub EndsAs-weaker : (claim other : Ending → Type 0) → ((end : Ending) → claim end → other end) → (r : Result Ending Stop) → EndsAs claim r → EndsAs other r
EndsAs-weaker claim other more r h = weaker (λ end. end) claim other more r h

pub EndsAs-handed : (claim other : Ending → Type 0) → ((end : Ending) → claim end → other end) → (stop : Stop) (r : Result Ending Stop) → IsErrAnd r (λ told. told ≡ stop) → EndsBy claim stop → EndsAs other r
EndsAs-handed claim other more stop r is h = handed (λ end. end) claim other more stop r is h

pub ending_answers : (claim : Ending → Type 0) (r : Result Ending Stop) (end : Ending) → EndsAs claim r → Some end ≡ ending_in r → claim end
ending_answers claim r end h is = end_answers (λ end. end) claim r end h is

pub memory_handed : (claim : Ending → Type 0) (r : Result Ending Stop) → IsErrAnd r (λ told. told ≡ Memory) → EndsAs claim r
memory_handed claim r is = no_memory (λ end. end) claim r is

-- what was made, or want of memory
pub EndsAs-made : (claim other : Ending → Type 0) → ((end : Ending) → claim end → other end) → (r : Result Ending Stop) → IfOk r claim → OnlyMemory r → EndsAs other r
EndsAs-made claim other more (Ok end) made only = more end made
EndsAs-made claim other more (Err (Ends end)) made only = absurd only
EndsAs-made claim other more (Err Memory) made only = tt
