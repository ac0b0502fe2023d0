use Rattle.std.proofs.Common.{arith, ◌≡◌, ◌==◌, ℕ, ◌+◌, ◌-◌, ◌*◌, ◌%◌, ◌<◌, List, [], length, Bool, true, false, ◌&&◌, ◌||◌, refl, sym, ap, ◌∙◌, subst}
use Rattle.std.specs.Prelude.{slice_index_or, slice_set, nat_lt, if◌then◌else◌}
use Rattle.std.specs.List.{AllByRecursion}
use Rattle.std.proofs.lemmas.List.{get_or-set_same, get_or-set_other, get_or_read, length-set}
use Rattle.std.proofs.lemmas.Bool.Decides.{nat_tests}
use Rattle.bit_sets.specs.Rows.{row_has}
use Rattle.gt_core.specs.Literal.{opposite}
use Rattle.gt_core.specs.Task.{Effect, Action}
use Rattle.gt_core.specs.Active.{EffectWithin}
use Rattle.gt_core.proofs.published.Basics.{each_at, each_from, same_test, test_same, apart}
use Rattle.action_order.specs.own.Graph.{row_at}
use Rattle.action_order.specs.own.Readers.{ActionWithin, IsEntered, AreRowsOf, act_at}
use Rattle.gt_core.proofs.published.Lists.{each_number}

-- The rows of readers.

turned : (p q y z : Bool) → ((q && y) || ((p && y) || z)) ≡ (((q || p) && y) || z)
turned p q y z = grind arith

-- entered for some keys, and then for others
pub entered_then : (first second both : ℕ → Bool) (b : ℕ) (before between after : List (List ℕ)) → IsEntered first b before between → IsEntered second b between after → ((k : ℕ) → both k ≡ (second k || first k)) → IsEntered both b before after
entered_then first second both b before between after one two is = record {
  long = two.long ∙ one.long;
  tells = λ k x lt.
      two.tells k x (let l = one.long in omega arith)
      ∙ ap (λ (t : Bool). (second k && (b == x)) || t) (one.tells k x lt)
      ∙ turned (first k) (second k) (b == x) (row_has (row_at before k) x)
      ∙ ap (λ (t : Bool). (t && (b == x)) || row_has (row_at before k) x) (sym (is k));
}

-- one row with one more number
pub entered_one : (rows : List (List ℕ)) (row : List ℕ) (key b : ℕ) → key < length rows → ((x : ℕ) → row_has row x ≡ ((b == x) || row_has (row_at rows key) x)) → IsEntered (λ k. key == k) b rows (slice_set rows key row)
entered_one rows row key b lt h = record { long = length-set rows key row; tells = λ k x below. by k x (key == k) refl }
  where
    by : (k x : ℕ) (t : Bool) → (key == k) ≡ t → row_has (row_at (slice_set rows key row) k) x ≡ ((t && (b == x)) || row_has (row_at rows k) x)
    by k x true e = subst (λ (n : ℕ). row_has (row_at (slice_set rows key row) n) x ≡ ((true && (b == x)) || row_has (row_at rows n) x)) (test_same key k e) (ap (λ (xs : List ℕ). row_has xs x) (get_or-set_same rows key row [] lt) ∙ h x)
    by k x false e = ap (λ (xs : List ℕ). row_has xs x) (get_or-set_other rows key k row [] (λ s. apart (key == k) (same_test key k (sym s)) e))

-- no number yet
pub none_entered : (test : ℕ → ℕ → Bool) (keys : ℕ) (rows : List (List ℕ)) → length rows ≡ keys → ((k b : ℕ) → row_has (row_at rows k) b ≡ false) → AreRowsOf test keys 0 rows
none_entered test keys rows long none = record { long = long; tells = λ k b lt. none k b ∙ before b (test b k) }
  where
    before : (b : ℕ) (t : Bool) → false ≡ (nat_lt b 0 && t)
    before b t = let e : nat_lt b 0 ≡ false = grind (arith, nat_tests) in rw e refl

-- nothing of a test counts
none_of : (t u : Bool) → ((t && false) || u) ≡ u
none_of true u = refl
none_of false u = refl

-- what holds of the numbers below one more
pub upto_more : (test : ℕ → Bool) (b x : ℕ) → ((test b && (b == x)) || (nat_lt x b && test x)) ≡ (nat_lt x (b + 1) && test x)
upto_more test b x = by (b == x) refl
  where
    always : (t u : Bool) → ((t && true) || (false && u)) ≡ (true && t)
    always true u = refl
    always false u = refl

    by : (t : Bool) → (b == x) ≡ t → ((test b && t) || (nat_lt x b && test x)) ≡ (nat_lt x (b + 1) && test x)
    by true s =
        let no : nat_lt b b ≡ false = grind (arith, nat_tests) in
        let yes : nat_lt b (b + 1) ≡ true = grind (arith, nat_tests) in
        subst (λ (n : ℕ). ((test b && true) || (nat_lt n b && test n)) ≡ (nat_lt n (b + 1) && test n)) (test_same b x s) (rw (no, yes) (always (test b) (test b)))
    by false s =
        let same : nat_lt x b ≡ nat_lt x (b + 1) = grind (arith, nat_tests) in
        none_of (test b) _ ∙ ap (λ (t : Bool). t && test x) same

-- one more number
pub entered_more : (test : ℕ → ℕ → Bool) (keys b : ℕ) (before after : List (List ℕ)) → AreRowsOf test keys b before → IsEntered (test b) b before after → AreRowsOf test keys (b + 1) after
entered_more test keys b before after r e = record {
  long = e.long ∙ r.long;
  tells = λ k x lt. e.tells k x (let l = r.long in omega arith) ∙ ap (λ (t : Bool). (test b k && (b == x)) || t) (r.tells k x lt) ∙ upto_more (λ n. test n k) b x;
}

pub opposite_below : (l f : ℕ) → l < 2 * f → opposite l < 2 * f
opposite_below l f lt = by (l % 2 == 0) refl
  where
    by : (b : Bool) → (l % 2 == 0) ≡ b → (if b then l + 1 else l - 1) < 2 * f
    by true e = let m = test_same (l % 2) 0 e in omega arith
    by false e = omega arith

-- the literals of effects are below twice the facts
pub effects_below : (facts top : ℕ) (es : List Effect) → AllByRecursion (EffectWithin facts) es → top ≡ 2 * facts → AllByRecursion (λ e. e.literal < top) es
effects_below facts top es h is = each_from _ es (λ e i. let w = each_at (EffectWithin facts) es e h i in let l = w.literal in omega arith)

-- an action that was read from the list
pub act_is : (acts : List Action) (b : ℕ) (x : Action) → b < length acts → x ≡ slice_index_or acts b x → x ≡ act_at acts b
act_is acts b x lt is = get_or_read acts b x lt is (record { precondition = []; effects = [] })

-- what the literals of an action that was read from the list keep
pub within_at : (facts : ℕ) (acts : List Action) (b : ℕ) (x : Action) → AllByRecursion (ActionWithin facts) acts → b < length acts → x ≡ slice_index_or acts b x → ActionWithin facts x
within_at facts acts b x h lt is = subst (ActionWithin facts) (sym is) (each_number (ActionWithin facts) acts b x h lt)
