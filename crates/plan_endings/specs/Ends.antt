-- What is known of a call that ends the run, or goes on.
use Rattle.std.specs.Prelude.{Result, Ok, Err, Option, Some, None}
use Rattle.plan_endings.specs.declared.ending.Ending.{Ending}
use Rattle.plan_endings.specs.declared.stop.Stop.{Stop}
use Rattle.plan_endings.specs.declared.stop.Stop.TheVariants.{Ends, Memory}

-- the run ends with an ending of this kind; of want of memory nothing is said
abbrev pub EndsBy : (Ending → Type 0) → Stop → Type 0
EndsBy claim (Ends end) = claim end
EndsBy claim Memory = Unit {0}

-- a call that ends the run does so with an ending of this kind
abbrev pub StopsBy : {A : Type 0} → (Ending → Type 0) → Result A Stop → Type 0
StopsBy claim (Ok x) = Unit {0}
StopsBy claim (Err stop) = EndsBy claim stop

-- a call stops for want of memory alone
abbrev pub OnlyMemory : {A : Type 0} → Result A Stop → Type 0
OnlyMemory result = StopsBy (λ end. ⊥) result

-- ---- endings of a program, which are those that all programs have, and others

-- the ending, answered or handed on as one that all programs have, is of this kind; of want of memory nothing is said
abbrev pub EndsWith : {E : Type 0} → (Ending → E) → (E → Type 0) → Result E Stop → Type 0
EndsWith plain claim (Ok end) = claim end
EndsWith plain claim (Err stop) = EndsBy (λ end. claim (plain end)) stop

-- the ending, if there is one
abbrev pub end_in : {E : Type 0} → (Ending → E) → Result E Stop → Option E
end_in plain (Ok end) = Some end
end_in plain (Err (Ends end)) = Some (plain end)
end_in plain (Err Memory) = None

-- the same of a program that has no others
abbrev pub EndsAs : (Ending → Type 0) → Result Ending Stop → Type 0
EndsAs claim result = EndsWith (λ end. end) claim result

-- the ending of such a program, if there is one
abbrev pub ending_in : Result Ending Stop → Option Ending
ending_in result = end_in (λ end. end) result
