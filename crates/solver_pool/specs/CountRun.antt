-- The run that counts.
use Rattle.std.specs.Prelude.{◌≡◌, ℕ, ◌+◌, Bool, true, false, cond, refl}
use Rattle.std.proofs.Common.{nat_lt}
use Rattle.std.proofs.Math.Nat.{lt_irrefl}
use Rattle.std.proofs.lemmas.Bool.{false_from_ne_true, ltb-true}
use Rattle.solver_pool.specs.declared.count_run.CountRun.{CountRun}

-- a counting run that was granted k units more
abbrev pub count_moved : CountRun → ℕ → CountRun
count_moved r k = record r { granted = r.granted + k }

-- what is granted past the need is not told
abbrev pub count_state : CountRun → CountRun
count_state r = record r { granted = cond (nat_lt r.granted r.need) r.granted r.need }

-- what is granted past the need does not unsettle a run
pub count_state-unsettled : (r : CountRun) → nat_lt (count_state r).granted (count_state r).need ≡ nat_lt r.granted r.need
count_state-unsettled r =
    let P : Bool → Type 0 = λ b. nat_lt r.granted r.need ≡ b → nat_lt (cond b r.granted r.need) r.need ≡ b in
    let over : nat_lt r.need r.need ≡ false = false_from_ne_true (nat_lt r.need r.need) (λ e. lt_irrefl r.need (ltb-true r.need r.need e)) in
    (elim (nat_lt r.granted r.need) as P [ true ↦ (λ e. e) | false ↦ (λ e. over) ]) refl
