-- What a reader answers is what the definition says.
use Rattle.std.proofs.Common.{◌≡◌, ◌≤◌, ◌<◌, ℕ, List, length, Result, Ok, Err, sym, subst, arith}
use Rattle.std.specs.Prelude.{slice_index, IfOk}
use Rattle.pd_sexp.specs.Fault.{IsFault, Reads, syntax, deep}
use Rattle.pd_sexp.specs.Progress as reading
use Rattle.pd_sexp.specs.own.Reader.{Steps, Ends}
use Rattle.pd_sexp.specs.View.{view}
use Rattle.pd_sexp.specs.declared.tree.Tree.{Tree}
use Rattle.pd_sexp.specs.declared.tree.TreeError.{TreeError}
use Rattle.pd_sexp.specs.declared.tree.TreeError.TheVariants.{Syntax, Deep, Memory}
use Rattle.pd_sexp.proofs.Verdicts.{Reached, too_deep, wrong_byte, ends_early, ends_well}

abbrev pub Judged : List ℕ → Result Tree TreeError → Type 0
Judged bytes (Ok tree) = Reads bytes (view tree)
Judged bytes (Err (Syntax at)) = IsFault bytes (syntax at)
Judged bytes (Err (Deep at)) = IsFault bytes (deep at)
Judged bytes (Err Memory) = Unit {0}

module _ (bytes : List ℕ) (done : ℕ) (state : reading.State) (r : Reached bytes done state) where
  pub from_step : (next : reading.State) (e : TreeError) → done < length bytes → Steps state done (slice_index bytes done) next (Err e) → Judged bytes (Err e)
  from_step next (Syntax at) inside h = subst (λ (n : ℕ). IsFault bytes (syntax n)) (sym h.0) (wrong_byte bytes done state r inside h.1)
  from_step next (Deep at) inside h = subst (λ (n : ℕ). IsFault bytes (deep n)) (sym h.0) (too_deep bytes done state r inside h.1 h.2.0 h.2.1)
  from_step next Memory inside h = tt

  all_read : length bytes ≤ done → Reached bytes (length bytes) state
  all_read end = let within = r.within in let whole : done ≡ length bytes = omega arith in subst (λ (n : ℕ). Reached bytes n state) whole r

  pub from_end : (result : Result Tree TreeError) → length bytes ≤ done → Ends state (length bytes) result → Judged bytes result
  from_end (Ok tree) end h = ends_well bytes state (view tree) (all_read end) h
  from_end (Err (Syntax at)) end h = subst (λ (n : ℕ). IsFault bytes (syntax n)) (sym h.0) (ends_early bytes state (all_read end) h.1)
  from_end (Err (Deep at)) end h = absurd h
  from_end (Err Memory) end h = tt

pub syntax_of : (bytes : List ℕ) (result : Result Tree TreeError) → Judged bytes result → (at : ℕ) → result ≡ Err (Syntax at) → IsFault bytes (syntax at)
syntax_of bytes result judged at is = let j = subst (Judged bytes) is judged in j

pub deep_of : (bytes : List ℕ) (result : Result Tree TreeError) → Judged bytes result → (at : ℕ) → result ≡ Err (Deep at) → IsFault bytes (deep at)
deep_of bytes result judged at is = let j = subst (Judged bytes) is judged in j

pub read_of : (bytes : List ℕ) (result : Result Tree TreeError) → Judged bytes result → IfOk result (λ tree. Reads bytes (view tree))
read_of bytes (Ok tree) judged = judged
read_of bytes (Err e) judged = tt
