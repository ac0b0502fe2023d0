-- Counts of faults, where a list of faults grows at its end.
use Rattle.std.proofs.Common.{◌≡◌, ◌≤◌, ℕ, ◌+◌, List, [], ◌∷◌, ◌++◌, true, inl, inr, arith, refl, ap, cond}
use Rattle.std.proofs.lemmas.Slice.Eq.{bytes_eq-Decides}
use Rattle.std.specs.Str.{bytes_eq}
use Rattle.std.proofs.lemmas.List.Sums.{sum_by-append}
use Rattle.pl_io.specs.Outside.{Notes, fault_count, FaultRose}

counted-once : (name : List ℕ) (old : List (List ℕ)) → fault_count name (old ++ name ∷ []) ≡ fault_count name old + 1
counted-once name old =
    let same : bytes_eq name name ≡ true = (bytes_eq-Decides name name).1 refl in
    let one : cond {A = ℕ} (bytes_eq name name) 1 0 ≡ 1 = rw same refl in
    rw sum_by-append (omega arith)

no_fewer : (other name : List ℕ) (old : List (List ℕ)) → fault_count other old ≤ fault_count other (old ++ name ∷ [])
no_fewer other name old = rw sum_by-append (omega arith)

-- no count of faults falls
pub Notes-keeps : (old new : List (List ℕ)) (name other : List ℕ) → Notes old new name → fault_count other old ≤ fault_count other new
Notes-keeps old new name other (inl same) = omega (arith, ap (fault_count other) same)
Notes-keeps old new name other (inr more) = omega (arith, ap (fault_count other) more, no_fewer other name old)

-- a fault that is written down raises the count for its name
pub FaultRose-noted : (old new : List (List ℕ)) (name : List ℕ) → new ≡ old ++ name ∷ [] → FaultRose name old new
FaultRose-noted old new name noted = omega (arith, counted-once name old, ap (fault_count name) noted)

pub ruleset counting = (Notes-keeps, FaultRose-noted)
