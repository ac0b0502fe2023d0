-- Entries come back from their bytes.
use Rattle.std.proofs.Common.{arith, ◌≡◌, ℕ, suc, ◌+◌, ◌*◌, ◌/◌, ◌%◌, ◌^◌, ◌<◌, ◌≤◌, ◌==◌, List, [], ◌∷◌, ◌++◌, length, append_assoc, append-nil, length-append, map, true, false, Result, Ok, Err, OnOk, refl, ap, sym, subst, ◌∙◌}
use Rattle.std.specs.declared.alloc.AllocError.{AllocError}
use Rattle.std.proofs.lemmas.Bool.Decides.{nat_tests}
use Rattle.proof_log.specs.own.Number.{bytes_of, number_of, after_number}
use Rattle.proof_log.specs.own.Numbers.{steps_of, numbers_of, after_numbers}
use Rattle.proof_log.proofs.NumberLaws.{number_back, after_back, some_bytes}
use Rattle.proof_log.proofs.NumbersLaws.{numbers_back, after_numbers_back}
use Rattle.clause_base.specs.Derivation.{clauses_of}
use Rattle.clause_base.specs.declared.log.Entry.{Entry}
use Rattle.clause_base.specs.declared.log.Entry.TheVariants.{Learn, Drop}
use Rattle.proof_log.specs.own.Held.{hint_bytes, entry_bytes, log_bytes, entry_of, clauses_after, after_entry, entries_of, AreFew, IsSmall, AreSmall, IsHeld}

-- the first entry, and what is left of the clauses and of the bytes after it
record IsFirst (entry : Entry) (clauses others : List (List ℕ)) (bytes rest : List ℕ) : Type 0 where
  is : entry_of clauses bytes ≡ entry
  others_are : clauses_after clauses bytes ≡ others
  after : after_entry bytes ≡ rest

first_learn : (clause hints rest : List ℕ) (others : List (List ℕ)) → AreFew hints → IsFirst (Learn clause hints) (clause ∷ others) others (hint_bytes hints ++ rest) rest
first_learn clause hints rest others s =
    let bytes = hint_bytes hints ++ rest in
    let tail = steps_of 0 hints ++ rest in
    let parts : bytes ≡ bytes_of (2 * length hints) ++ tail = append_assoc (bytes_of (2 * length hints)) (steps_of 0 hints) rest in
    let fits : 2 * length hints < 2 ^ 64 = omega (arith, s.few) in
    let head : number_of bytes ≡ 2 * length hints = ap number_of parts ∙ number_back (2 * length hints) tail fits in
    let half : number_of bytes / 2 ≡ length hints = omega (arith, head) in
    let even : (number_of bytes % 2 == 0) ≡ true = grind (arith, nat_tests, head) in
    let left : after_number bytes ≡ tail = ap after_number parts ∙ after_back (2 * length hints) tail fits in
    let hints_are : numbers_of (number_of bytes / 2) 0 (after_number bytes) ≡ hints = (λ i. numbers_of (half i) 0 (left i)) ∙ numbers_back 0 hints rest (omega arith) s.small in
    let after_is : after_numbers (number_of bytes / 2) (after_number bytes) ≡ rest = (λ i. after_numbers (half i) (left i)) ∙ after_numbers_back 0 hints rest (omega arith) s.small in
    record {
      is = rw even (ap (λ (ns : List ℕ). Learn clause ns) hints_are);
      others_are = rw even refl;
      after = rw even after_is;
    }

first_drop : (number : ℕ) (rest : List ℕ) (clauses : List (List ℕ)) → number < 2 ^ 32 → IsFirst (Drop number) clauses clauses (bytes_of (2 * number + 1) ++ rest) rest
first_drop number rest clauses s =
    let bytes = bytes_of (2 * number + 1) ++ rest in
    let fits : 2 * number + 1 < 2 ^ 64 = omega (arith, s) in
    let head : number_of bytes ≡ 2 * number + 1 = number_back (2 * number + 1) rest fits in
    let half : number_of bytes / 2 % 4294967296 ≡ number = omega (arith, head, s) in
    let odd : (number_of bytes % 2 == 0) ≡ false = grind (arith, nat_tests, head) in
    record {
      is = rw odd (ap (λ (n : ℕ). Drop n) half);
      others_are = rw odd refl;
      after = rw odd (after_back (2 * number + 1) rest fits);
    }

first_of : (entry : Entry) (log : List Entry) (rest : List ℕ) → IsSmall entry → IsFirst entry (clauses_of (entry ∷ log)) (clauses_of log) (entry_bytes entry ++ rest) rest
first_of (Learn clause hints) log rest s = first_learn clause hints rest (clauses_of log) s.1
first_of (Drop number) log rest s = first_drop number rest (clauses_of log) s

-- entries come back
pub entries_back : (log : List Entry) → AreSmall log → entries_of (length log) (clauses_of log) (log_bytes log) ≡ log
entries_back [] s = refl
entries_back (entry ∷ log) s =
    let f = first_of entry log (log_bytes log) s.0 in
    (λ i. f.is i ∷ entries_of (length log) (f.others_are i) (f.after i)) ∙ ap (λ (l : List Entry). entry ∷ l) (entries_back log s.1)

pub shown : (log : List Entry) (count : ℕ) (learned : List (List ℕ)) (bytes : List ℕ) → IsHeld log count learned bytes → entries_of count learned bytes ≡ log
shown log count learned bytes h = (λ i. entries_of (h.count_is i) (h.learned_are i) (h.bytes_are i)) ∙ entries_back log h.small

-- with further entries at the end
bytes-append : (log more : List Entry) → log_bytes (log ++ more) ≡ log_bytes log ++ log_bytes more
bytes-append [] more = refl
bytes-append (entry ∷ log) more = ap (λ (bs : List ℕ). entry_bytes entry ++ bs) (bytes-append log more) ∙ sym (append_assoc (entry_bytes entry) (log_bytes log) (log_bytes more))

clauses-append : (log more : List Entry) → clauses_of (log ++ more) ≡ clauses_of log ++ clauses_of more
clauses-append [] more = refl
clauses-append (Learn clause hints ∷ log) more = ap (λ (cs : List (List ℕ)). clause ∷ cs) (clauses-append log more)
clauses-append (Drop number ∷ log) more = clauses-append log more

small-append : (log more : List Entry) → AreSmall log → AreSmall more → AreSmall (log ++ more)
small-append [] more s t = t
small-append (entry ∷ log) more s t = (s.0, small-append log more s.1 t)

held-append : (log more : List Entry) (count : ℕ) (learned : List (List ℕ)) (bytes : List ℕ) → IsHeld log count learned bytes → AreSmall more
    → IsHeld (log ++ more) (count + length more) (learned ++ clauses_of more) (bytes ++ log_bytes more)
held-append log more count learned bytes h s = record {
  count_is = ap (λ (n : ℕ). n + length more) h.count_is ∙ sym (length-append log more);
  learned_are = ap (λ (cs : List (List ℕ)). cs ++ clauses_of more) h.learned_are ∙ sym (clauses-append log more);
  bytes_are = ap (λ (bs : List ℕ). bs ++ log_bytes more) h.bytes_are ∙ sym (bytes-append log more);
  small = small-append log more h.small s;
}

-- the entries that are shown are those that are held
pub held_shown : (log : List Entry) (count : ℕ) (learned : List (List ℕ)) (bytes : List ℕ) → IsHeld log count learned bytes → IsHeld (entries_of count learned bytes) count learned bytes
held_shown log count learned bytes h = subst (λ (es : List Entry). IsHeld es count learned bytes) (sym (shown log count learned bytes h)) h

-- there are no more entries than bytes
entry_long : (entry : Entry) → 1 ≤ length (entry_bytes entry)
entry_long (Learn clause hints) = let one = some_bytes (2 * length hints) in omega (arith, one, length-append (bytes_of (2 * length hints)) (steps_of 0 hints))
entry_long (Drop number) = some_bytes (2 * number + 1)

bytes_long : (log : List Entry) → length log ≤ length (log_bytes log)
bytes_long [] = omega arith
bytes_long (entry ∷ log) =
    let r = bytes_long log in
    let one = entry_long entry in
    omega (arith, r, one, length-append (entry_bytes entry) (log_bytes log))

pub count_within : (log : List Entry) (count : ℕ) (learned : List (List ℕ)) (bytes : List ℕ) → IsHeld log count learned bytes → count ≤ length bytes
count_within log count learned bytes h = omega (arith, bytes_long log, h.count_is, ap length h.bytes_are)

-- one more clause is learned
pub held_learn : (log : List Entry) (count : ℕ) (learned clauses : List (List ℕ)) (bytes steps clause hints : List ℕ) → IsHeld log count learned bytes → clauses ≡ learned ++ clause ∷ [] → steps ≡ bytes ++ hint_bytes hints
    → IsSmall (Learn clause hints) → IsHeld (log ++ Learn clause hints ∷ []) (count + 1) clauses steps
held_learn log count learned clauses bytes steps clause hints h l b s =
    let r = held-append log (Learn clause hints ∷ []) count learned bytes h (s, tt) in
    record {
      count_is = r.count_is;
      learned_are = l ∙ r.learned_are;
      bytes_are = b ∙ ap (λ (bs : List ℕ). bytes ++ bs) (sym (append-nil (hint_bytes hints))) ∙ r.bytes_are;
      small = r.small;
    }

drops_none : (numbers : List ℕ) → clauses_of (map (λ n. Drop n) numbers) ≡ []
drops_none [] = refl
drops_none (n ∷ numbers) = drops_none numbers

length-drops : (numbers : List ℕ) → length (map (λ n. Drop n) numbers) ≡ length numbers
length-drops [] = refl
length-drops (n ∷ numbers) = ap (λ (k : ℕ). suc k) (length-drops numbers)

-- clauses are dropped
pub held_drops : (log : List Entry) (count : ℕ) (learned : List (List ℕ)) (bytes steps numbers : List ℕ) → IsHeld log count learned bytes → steps ≡ bytes ++ log_bytes (map (λ n. Drop n) numbers)
    → AreSmall (map (λ n. Drop n) numbers) → IsHeld (log ++ map (λ n. Drop n) numbers) (count + length numbers) learned steps
held_drops log count learned bytes steps numbers h b s =
    let r = held-append log (map (λ n. Drop n) numbers) count learned bytes h s in
    record {
      count_is = ap (λ (n : ℕ). count + n) (sym (length-drops numbers)) ∙ r.count_is;
      learned_are = sym (append-nil learned) ∙ ap (λ (cs : List (List ℕ)). learned ++ cs) (sym (drops_none numbers)) ∙ r.learned_are;
      bytes_are = b ∙ r.bytes_are;
      small = r.small;
    }

-- the bytes of one number more that is dropped
pub drops_told : (old now last rest : List ℕ) (n : ℕ) → last ≡ now ++ bytes_of (2 * n + 1) → now ++ log_bytes (map (λ n. Drop n) (n ∷ rest)) ≡ old → last ++ log_bytes (map (λ n. Drop n) rest) ≡ old
drops_told old now last rest n l e =
    ap (λ (xs : List ℕ). xs ++ log_bytes (map (λ n. Drop n) rest)) l ∙ append_assoc now (bytes_of (2 * n + 1)) (log_bytes (map (λ n. Drop n) rest)) ∙ e

pub drops_small : (before : List ℕ) (n : ℕ) → AreSmall (map (λ n. Drop n) before) → n < 2 ^ 32 → AreSmall (map (λ n. Drop n) (before ++ n ∷ []))
drops_small [] n s h = (h, tt)
drops_small (m ∷ before) n s h = (s.0, drops_small before n s.1 h)

-- two parts, one after the other
pub both_by : (r : Result (Unit {0}) AllocError) (last now old a b : List ℕ) → now ≡ old ++ a → OnOk r (last ≡ now ++ b) → OnOk r (last ≡ old ++ (a ++ b))
both_by (Ok u) last now old a b n l = l ∙ ap (λ (xs : List ℕ). xs ++ b) n ∙ append_assoc old a b
both_by (Err e) last now old a b n l = tt

-- where entries are left to read their count is not 0
pub not_all_read : (k : ℕ) (clauses : List (List ℕ)) (bytes : List ℕ) (log : List Entry) → entries_of k clauses bytes ≡ log → 0 < length log → k ≡ 0 → ⊥
not_all_read k clauses bytes log e some none =
    let long : length log ≡ 0 = sym (ap length e) ∙ ap (λ (n : ℕ). length (entries_of n clauses bytes)) none in
    omega (arith, long, some)
