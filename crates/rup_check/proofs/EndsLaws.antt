-- The last entry, met one after another.
use Rattle.std.proofs.Common.{arith, ◌≡◌, ℕ, suc, ◌+◌, ◌-◌, ◌<◌, ◌≤◌, List, [], ◌∷◌, ◌++◌, length, take, get_or, Bool, false, IsTrue, ◌↔◌, Option, Some, refl, ap, sym, subst, ◌∙◌}
use Rattle.std.specs.List.{slice_get}
use Rattle.std.specs.Option.{IsSomeAnd}
use Rattle.std.proofs.lemmas.List.{take_all}
use Rattle.clause_base.specs.Derivation.{learns_empty, EndsEmpty}
use Rattle.clause_base.specs.declared.log.Entry.{Entry}
use Rattle.rup_check.specs.own.Ends.{ends_by}
use Rattle.rup_check.proofs.KeptLemmas.{take_more}

-- the last of these entries, and whether it learns the empty clause
record HasLast (before : Bool) (log : List Entry) : Type 0 where
  last : Entry
  at : slice_get log (length log - 1) ≡ Some last
  tells : ends_by before log ≡ learns_empty last

last_of : (before : Bool) (entry : Entry) (log : List Entry) → HasLast before (entry ∷ log)
last_of before entry [] = record { last = entry; at = refl; tells = refl }
last_of before entry (next ∷ log) =
    let r = last_of (learns_empty entry) next log in
    let less : suc (suc (length log)) - 1 ≡ suc (length log) = omega arith in
    let same : suc (length log) - 1 ≡ length log = omega arith in
    record {
      last = r.last;
      at = ap (slice_get (entry ∷ next ∷ log)) less ∙ ap (slice_get (next ∷ log)) (sym same) ∙ r.at;
      tells = r.tells;
    }

-- it says whether a log ends with the empty clause
pub ends_is : (log : List Entry) → IsTrue (ends_by false log) ↔ EndsEmpty log
ends_is [] = (λ h. cc, λ h. absurd h)
ends_is (entry ∷ log) =
    let r = last_of false entry log in (
      λ h. subst (λ (o : Option Entry). IsSomeAnd o (λ last. IsTrue (learns_empty last))) (sym r.at) (subst (λ (b : Bool). IsTrue b) r.tells h),
      λ h. subst (λ (b : Bool). IsTrue b) (sym r.tells) (subst (λ (o : Option Entry). IsSomeAnd o (λ last. IsTrue (learns_empty last))) r.at h),
    )

ends_append : (before : Bool) (log : List Entry) (entry : Entry) → ends_by before (log ++ entry ∷ []) ≡ learns_empty entry
ends_append before [] entry = refl
ends_append before (x ∷ log) entry = ends_append (learns_empty x) log entry

-- of entries up to one, that one is the last
pub ends_next : (log : List Entry) (n : ℕ) (entry : Entry) (b : Bool) → n < length log → entry ≡ get_or log n entry → b ≡ learns_empty entry → b ≡ ends_by false (take (n + 1) log)
ends_next log n entry b within is e = e ∙ sym (ap (ends_by false) (take_more log n entry within is) ∙ ends_append false (take n log) entry)

-- what is known of all entries tells whether the log ends with the empty clause
pub ends_all : (log : List Entry) (n : ℕ) (b : Bool) → length log ≤ n → b ≡ ends_by false (take n log) → IsTrue b ↔ EndsEmpty log
ends_all log n b h e = subst (λ (x : Bool). IsTrue x ↔ EndsEmpty log) (sym (e ∙ ap (ends_by false) (take_all n log h))) (ends_is log)
