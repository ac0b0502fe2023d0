use Rattle.std.proofs.Common.{arith, ◌≡◌, ◌==◌, ℕ, zero, suc, ◌+◌, ◌*◌, ◌/◌, ◌<◌, ◌≤◌, List, [], ◌∷◌, length, Bool, true, false, not, ◌&&◌, ◌||◌, refl, ap, sym, ◌∙◌, ◌⊎◌, inl, inr, subst, Vec, Global}
use Rattle.std.specs.Prelude.{if◌then◌else◌, slice_index}
use Rattle.std.specs.List.{list_any, AllByRecursion, AllZip, range_with_len}
use Rattle.gt_core.specs.Task.{Action, Task}
use Rattle.gt_core.specs.Lawful.{is_task, is_action}
use Rattle.gt_core.specs.Active.{EffectWithin}
use Rattle.gt_core.proofs.published.Basics.{Among, passing, any_at, or_split, or_left, or_right, and_split, and_both, cases, test_same, same_if, and_same, apart, each_at, each_from, all_at}
use Rattle.gt_core.proofs.published.Within.{lawful, literals_within, effects_within, among_at}
use Rattle.implied_literals.specs.Rows.{clause_in, AreRows, total}
use Rattle.bit_sets.specs.Rows.{row_has}
use Rattle.implied_literals.specs.Tested.{AreKnown, ActionFits, AreRowsOf, IsSetOf, breaks_by, act_at}
use Rattle.two_invariants.specs.own.Losses.{are_lost, IsBroken, AreLosses, AreAllLosses}
use Rattle.two_invariants.specs.own.Rounds.{breaks_any, clause_count, IsRound}
use Rattle.implied_literals.specs.Renewed.{IsTested, IsSettled, WereKnown}
use Rattle.gt_core.specs.Literal.{opposite}
use Rattle.implied_literals.specs.declared.known.Known.{Known}
use Rattle.implied_literals.proofs.published.Lists.{all_map}
use Rattle.implied_literals.proofs.published.Closing.{total_below, total_less}
use Rattle.implied_literals.proofs.published.Exact.{row_within, none_within}
use Rattle.implied_literals.proofs.published.Steps.{opposite_below}
use Rattle.std.proofs.lemmas.Bool.{cases_lt}
use Rattle.gt_core.proofs.published.Lists.{each_number}

-- A round drops what some action breaks, and nothing else; where it drops nothing, what is left are the invariants.

-- ---- the actions of a task

action_fits : (facts : ℕ) (x : Action) → is_action facts x ≡ true → ActionFits (2 * facts) x
action_fits facts x t =
    let p = and_split _ _ t in
    record {
      precondition = each_from _ x.precondition (λ l i. let h : l / 2 < facts = each_at (λ l. l / 2 < facts) x.precondition l (literals_within facts x.precondition p.0) i in omega arith);
      effects = each_from _ x.effects (λ e i.
          let w = each_at (EffectWithin facts) x.effects e (effects_within facts _ x.effects p.1) i in
          record {
            literal = opposite_below e.literal facts w.literal;
            condition = each_from _ e.condition (λ l j. let h : l / 2 < facts = each_at (λ l. l / 2 < facts) e.condition l w.condition j in omega arith);
          });
    }

pub actions_fit : (task : Task) → is_task task ≡ true → AllByRecursion (ActionFits (2 * task.facts)) task.actions
actions_fit task t = each_from _ task.actions (λ x i. action_fits task.facts x (all_at (is_action task.facts) task.actions x (lawful task t).each i))

pub fits_at : (size : ℕ) (xs : List Action) (a : ℕ) → AllByRecursion (ActionFits size) xs → a < length xs → ActionFits size (act_at xs a)
fits_at size xs a all lt = each_at (ActionFits size) xs (act_at xs a) all (among_at xs a _ lt)

-- ---- what listed actions break

module _ (facts : ℕ) (known : Known) (clauses : List (List ℕ)) (acts : List Action) (todo : List ℕ) where
  abbrev breaks_at : ℕ → ℕ → ℕ → Bool
  breaks_at i l m = breaks_by facts known (act_at acts (slice_index todo i)) l m

  -- one more action is tested
  pub one_more_action : (low i : ℕ) (old new : List (List ℕ)) → i < length todo → AreLosses facts known clauses acts todo low i old → length new ≡ length old
      → ((l m : ℕ) → clause_in new l m ≡ (clause_in old l m || (clause_in clauses l m && breaks_at i l m))) → AreLosses facts known clauses acts todo low (i + 1) new
  one_more_action low i old new lt are long has = record {
    long = long ∙ are.long;
    only = λ l m t. by l m (or_split _ _ (sym (has l m) ∙ t));
    all = λ k ge lk within l m v b. step k ge within l m v b (cases_lt k i) lk;
  }
    where
      by : (l m : ℕ) → (clause_in old l m ≡ true) ⊎ ((clause_in clauses l m && breaks_at i l m) ≡ true) → IsBroken facts known clauses acts todo l m
      by l m (inl h) = are.only l m h
      by l m (inr h) = let p = and_split _ _ h in (p.0, i, lt, p.1)

      step : (k : ℕ) → low ≤ k → k < length todo → (l m : ℕ) → clause_in clauses l m ≡ true → breaks_at k l m ≡ true → (k < i) ⊎ (i ≤ k) → k < i + 1 → clause_in new l m ≡ true
      step k ge within l m v b (inl h) lk = has l m ∙ or_left _ _ (are.all k ge h within l m v b)
      step k ge within l m v b (inr h) lk =
          let e : k ≡ i = omega (arith, h, lk) in
          has l m ∙ or_right (clause_in old l m) _ (and_both _ _ v (subst (λ (n : ℕ). breaks_at n l m ≡ true) e b))

  -- all of a piece were tested
  pub losses_to : (low i high : ℕ) (lost : List (List ℕ)) → AreLosses facts known clauses acts todo low i lost → ((k : ℕ) → k < high → k < length todo → k < i) → AreLosses facts known clauses acts todo low high lost
  losses_to low i high lost are end = record {
    long = are.long;
    only = are.only;
    all = λ k ge lk within l m v b. are.all k ge (end k lk within) within l m v b;
  }

-- ---- pieces of a list

zip_each : {B : Type 0} (P : ℕ → B → Type 0) (Q : B → Type 0) (k n : ℕ) (ts : List B) → ((p : ℕ) (t : B) → P p t → Q t) → AllZip P (range_with_len k n) ts → AllByRecursion Q ts
zip_each P Q k zero [] f z = tt
zip_each P Q k zero (t ∷ ts) f z = absurd z
zip_each P Q k (suc n) [] f z = absurd z
zip_each P Q k (suc n) (t ∷ ts) f z = (f k t z.0, zip_each P Q (k + 1) n ts f z.1)

zip_at : {B : Type 0} (P : ℕ → B → Type 0) (k n p : ℕ) (ts : List B) → AllZip P (range_with_len k n) ts → p < n → (t : B) × Among t ts × P (k + p) t
zip_at P k zero p ts z lt = absurd (omega (arith, lt))
zip_at P k (suc n) p [] z lt = absurd z
zip_at P k (suc n) zero (t ∷ ts) z lt = (t, inl refl, subst (λ (x : ℕ). P x t) (omega arith) z.0)
zip_at P k (suc n) (suc p) (t ∷ ts) z lt = let r = zip_at P (k + 1) n p ts z.1 (omega (arith, lt)) in (r.0, inr r.1, subst (λ (x : ℕ). P x r.0) (omega arith) r.2)

listed_at : (todo : List ℕ) (a : ℕ) → list_any (λ b. b == a) todo ≡ true → (i : ℕ) × (i < length todo) × (slice_index todo i ≡ a)
listed_at [] a t = absurd (let e : false ≡ true = t in cc)
listed_at (b ∷ todo) a t = by (or_split (b == a) _ t) (listed_at todo a)
  where
    by : ((b == a) ≡ true) ⊎ (list_any (λ c. c == a) todo ≡ true) → (list_any (λ c. c == a) todo ≡ true → (i : ℕ) × (i < length todo) × (slice_index todo i ≡ a)) → (i : ℕ) × (i < length (b ∷ todo)) × (slice_index (b ∷ todo) i ≡ a)
    by (inl e) more = (0, omega arith, test_same b a e)
    by (inr h) more = let r = more h in (suc r.0, (let lt = r.1 in omega arith), r.2)

-- rows of each piece are of literals of the task, and of clauses that are broken
pub each_piece : (facts : ℕ) (known : Known) (clauses : List (List ℕ)) (acts : List Action) (todo : List ℕ) (tables : List (Vec (List ℕ) Global)) → AreAllLosses facts known clauses acts todo tables
    → AllByRecursion (λ t. (length t.items ≡ 2 * facts) × ((l m : ℕ) → clause_in t.items l m ≡ true → IsBroken facts known clauses acts todo l m)) tables
each_piece facts known clauses acts todo tables all =
    zip_each (λ p (t : Vec (List ℕ) Global). AreLosses facts known clauses acts todo (2048 * p) (2048 * p + 2048) t.items) _ 0 (length tables) tables (λ p t h. (h.long, h.only)) all.pieces

pub pieces_fit : (facts : ℕ) (known : Known) (clauses : List (List ℕ)) (acts : List Action) (todo : List ℕ) (tables : List (Vec (List ℕ) Global)) → AreRows facts clauses → AreAllLosses facts known clauses acts todo tables
    → AllByRecursion (λ t. (length t.items ≡ length clauses) × ((l m : ℕ) → clause_in t.items l m ≡ true → m < length clauses)) tables
pieces_fit facts known clauses acts todo tables rows all =
    all_map _ _ (λ t h. (h.0 ∙ sym rows.long, λ l m v. subst (λ (n : ℕ). m < n) (sym rows.long) (rows.within l m (h.1 l m v).0))) tables (each_piece facts known clauses acts todo tables all)

-- the rows of what is known
pub known_rows : (V : ℕ → ℕ → Bool) (facts : ℕ) (known : Known) (asked : ℕ → Bool) → ((l m : ℕ) → V l m ≡ true → (l < 2 * facts) × (m < 2 * facts)) → AreKnown V (2 * facts) asked known → AreRowsOf (2 * facts) known.rows.items
known_rows V facts known asked bound are = record {
  long = are.long;
  each = λ k m t. by k m t (cases (asked k));
}
  where
    by : (k m : ℕ) → clause_in known.rows.items k m ≡ true → (asked k ≡ true) ⊎ (asked k ≡ false) → m < 2 * facts
    by k m t (inl h) = row_within V facts known bound asked are k h m t
    by k m t (inr n) = absurd (apart (clause_in known.rows.items k m) t (are.other k m n))

pub both_within : (facts : ℕ) (rows : List (List ℕ)) → AreRows facts rows → ((l m : ℕ) → clause_in rows l m ≡ clause_in rows m l) → (l m : ℕ) → clause_in rows l m ≡ true → (l < 2 * facts) × (m < 2 * facts)
both_within facts rows are either l m t = (are.within m l (sym (either l m) ∙ t), are.within l m t)

-- what is known for so many facts by another name
pub known_fit : (n facts : ℕ) (rows : List (List ℕ)) (known : Known) (asked : ℕ → Bool) → n ≡ facts → AreRows facts rows → ((l m : ℕ) → clause_in rows l m ≡ clause_in rows m l) → AreKnown (clause_in rows) (2 * facts) asked known
    → AreRowsOf (2 * n) known.rows.items × IsSetOf (2 * n) (row_has known.none)
known_fit n facts rows known asked same of either are =
    let bound = both_within facts rows of either in
    subst (λ (k : ℕ). AreRowsOf (2 * k) known.rows.items × IsSetOf (2 * k) (row_has known.none)) (sym same)
    (known_rows (clause_in rows) facts known asked bound are, none_within (clause_in rows) facts known bound asked are)

-- ---- counts

bit_less : (p q : Bool) → (p ≡ true → q ≡ true) → (if p then 1 else 0) ≤ (if q then 1 else 0)
bit_less true true h = omega arith
bit_less true false h = absurd (let e : false ≡ true = h refl in cc)
bit_less false true h = omega arith
bit_less false false h = omega arith

bit_strict : (p q : Bool) → p ≡ false → q ≡ true → (if p then 1 else 0) < (if q then 1 else 0)
bit_strict true q e f = cc
bit_strict false true e f = omega arith
bit_strict false false e f = cc

pub count_less : (size : ℕ) (before after : List (List ℕ)) → ((l m : ℕ) → clause_in after l m ≡ true → clause_in before l m ≡ true) → (l m : ℕ) → l < size → m < size → clause_in before l m ≡ true → clause_in after l m ≡ false
    → clause_count size after < clause_count size before
count_less size before after part l m ll lm t f =
    total_less (λ k. total (λ n. if clause_in before k n then 1 else 0) size) (λ k. total (λ n. if clause_in after k n then 1 else 0) size) size l
    (λ k. total_below (λ n. if clause_in before k n then 1 else 0) (λ n. if clause_in after k n then 1 else 0) size (λ n. bit_less (clause_in after k n) (clause_in before k n) (part k n)))
    ll
    (total_less (λ n. if clause_in before l n then 1 else 0) (λ n. if clause_in after l n then 1 else 0) size m (λ n. bit_less (clause_in after l n) (clause_in before l n) (part l n)) lm (bit_strict (clause_in after l m) (clause_in before l m) f t))

-- ---- what is left after a round

pub at_number : (xs : List Action) (x : Action) → Among x xs → (a : ℕ) × (a < length xs) × (x ≡ act_at xs a)
at_number [] x i = absurd i
at_number (y ∷ ys) x (inl e) = (0, omega arith, e)
at_number (y ∷ ys) x (inr i) = let r = at_number ys x i in (suc r.0, (let h = r.1 in omega arith), r.2)

pub and_not_true : (p q : Bool) → q ≡ true → (p && not q) ≡ false
and_not_true true true e = refl
and_not_true false true e = refl
and_not_true p false e = cc

and_not_false : (p q : Bool) → q ≡ false → (p && not q) ≡ p
and_not_false true false e = refl
and_not_false false false e = refl
and_not_false p true e = cc

module _ (task : Task) (known : Known) (clauses : List (List ℕ)) (todo : List ℕ) (rows : AreRows task.facts clauses) (tested : IsTested task known clauses todo) (either : (l m : ℕ) → clause_in clauses l m ≡ clause_in clauses m l)
    (tables : List (Vec (List ℕ) Global)) (all : AreAllLosses task.facts known clauses task.actions todo tables) where
  abbrev breaks_clause : ℕ → ℕ → Action → Bool
  breaks_clause l m x = breaks_by task.facts known x l m || breaks_by task.facts known x m l

  -- an action that is not tested breaks nothing
  unbroken : (x : Action) (l m : ℕ) → IsSettled task.facts known clauses x → clause_in clauses l m ≡ true → breaks_clause l m x ≡ true → ⊥
  unbroken x l m settled v t = by (or_split (breaks_by task.facts known x l m) (breaks_by task.facts known x m l) t)
    where
      by : (breaks_by task.facts known x l m ≡ true) ⊎ (breaks_by task.facts known x m l ≡ true) → ⊥
      by (inl b) = apart (clause_in clauses l m && breaks_by task.facts known x l m) (and_both _ _ v b) (settled l m)
      by (inr b) = apart (clause_in clauses m l && breaks_by task.facts known x m l) (and_both _ _ (either m l ∙ v) b) (settled m l)

  -- what is lost is a clause that some action breaks
  broken_lost : (l m : ℕ) → are_lost tables l m ≡ true → (clause_in clauses l m ≡ true) × (breaks_any task.facts known task.actions l m ≡ true)
  broken_lost l m t =
      let p = passing (λ (t : Vec (List ℕ) Global). clause_in t.items l m || clause_in t.items m l) tables t in
      let own = each_at (λ (t : Vec (List ℕ) Global). (length t.items ≡ 2 * task.facts) × ((l m : ℕ) → clause_in t.items l m ≡ true → IsBroken task.facts known clauses task.actions todo l m)) tables p.one (each_piece task.facts known clauses task.actions todo tables all) p.among in
      by p.one.items (or_split (clause_in p.one.items l m) (clause_in p.one.items m l) p.passes) own.1
    where
      some : (i : ℕ) → i < length todo → breaks_clause l m (act_at task.actions (slice_index todo i)) ≡ true → breaks_any task.facts known task.actions l m ≡ true
      some i lt b = any_at (breaks_clause l m) task.actions (act_at task.actions (slice_index todo i)) (among_at task.actions (slice_index todo i) _ (each_number (λ a. a < length task.actions) todo _ 0 tested.numbers lt)) b

      by : (one : List (List ℕ)) → (clause_in one l m ≡ true) ⊎ (clause_in one m l ≡ true) → ((l m : ℕ) → clause_in one l m ≡ true → IsBroken task.facts known clauses task.actions todo l m) → (clause_in clauses l m ≡ true) × (breaks_any task.facts known task.actions l m ≡ true)
      by one (inl h) only = let b = only l m h in (b.0, some b.1 b.2 (or_left _ _ b.3))
      by one (inr h) only = let b = only m l h in (either l m ∙ b.0, some b.1 b.2 (or_right (breaks_by task.facts known (act_at task.actions (slice_index todo b.1)) l m) _ b.3))

  -- a clause that some action breaks is lost
  lost_broken : (l m : ℕ) → clause_in clauses l m ≡ true → breaks_any task.facts known task.actions l m ≡ true → are_lost tables l m ≡ true
  lost_broken l m v t =
      let p = passing (breaks_clause l m) task.actions t in
      let n = at_number task.actions p.one p.among in
      by n.0 (subst (λ (x : Action). breaks_clause l m x ≡ true) n.2 p.passes) (tested.settled n.0 n.1)
    where
      listed : (i : ℕ) → i < length todo → breaks_clause l m (act_at task.actions (slice_index todo i)) ≡ true → are_lost tables l m ≡ true
      listed i lt b =
          let piece = zip_at (λ p (t : Vec (List ℕ) Global). AreLosses task.facts known clauses task.actions todo (2048 * p) (2048 * p + 2048) t.items) 0 (length tables) (i / 2048) tables all.pieces (let e = all.enough in omega (arith, e, lt)) in
          let low : 2048 * (0 + i / 2048) ≤ i = omega arith in
          let high : i < 2048 * (0 + i / 2048) + 2048 = omega arith in
          any_at (λ (t : Vec (List ℕ) Global). clause_in t.items l m || clause_in t.items m l) tables piece.0 piece.1 (both piece.0.items (piece.2.all i low high lt) (or_split (breaks_by task.facts known (act_at task.actions (slice_index todo i)) l m) _ b))
        where
          both : (one : List (List ℕ)) → ((l m : ℕ) → clause_in clauses l m ≡ true → breaks_by task.facts known (act_at task.actions (slice_index todo i)) l m ≡ true → clause_in one l m ≡ true)
              → (breaks_by task.facts known (act_at task.actions (slice_index todo i)) l m ≡ true) ⊎ (breaks_by task.facts known (act_at task.actions (slice_index todo i)) m l ≡ true) → (clause_in one l m || clause_in one m l) ≡ true
          both one has (inl h) = or_left _ _ (has l m v h)
          both one has (inr h) = or_right (clause_in one l m) _ (has m l (either m l ∙ v) h)

      by : (a : ℕ) → breaks_clause l m (act_at task.actions a) ≡ true → (list_any (λ b. b == a) todo ≡ true) ⊎ IsSettled task.facts known clauses (act_at task.actions a) → are_lost tables l m ≡ true
      by a b (inl h) = let i = listed_at todo a h in listed i.0 i.1 (subst (λ (n : ℕ). breaks_clause l m (act_at task.actions n) ≡ true) (sym i.2) b)
      by a b (inr settled) = absurd (unbroken (act_at task.actions a) l m settled v b)

  -- a round
  pub round_is : (after : List (List ℕ)) (dropped : Bool) → ((a b : ℕ) → clause_in after a b ≡ (clause_in clauses a b && not (are_lost tables a b)))
      → (dropped ≡ true → (a b : ℕ) × (are_lost tables a b ≡ true)) → (dropped ≡ false → (a b : ℕ) → are_lost tables a b ≡ false) → IsRound task known clauses after dropped
  round_is after dropped has some none =
      let kept : (l m : ℕ) → clause_in after l m ≡ (clause_in clauses l m && not (breaks_any task.facts known task.actions l m)) = λ l m.
      has l m ∙ and_same (clause_in clauses l m) _ _ (λ v. ap not (same_if _ _ (λ t. (broken_lost l m t).1) (lost_broken l m v))) in
      record {
        kept = kept;
        fewer = λ t. (let d = some t in
            let b = broken_lost d.0 d.1 d.2 in
            let within = both_within task.facts clauses rows either d.0 d.1 b.0 in
            count_less (2 * task.facts) clauses after (λ l m h. (and_split _ _ (sym (kept l m) ∙ h)).0) d.0 d.1 within.0 within.1 b.0
            (kept d.0 d.1 ∙ and_not_true (clause_in clauses d.0 d.1) (breaks_any task.facts known task.actions d.0 d.1) b.1));
        same = λ f l m. has l m ∙ and_not_false (clause_in clauses l m) _ (none f l m);
      }

-- after a round no action breaks what is left, by what was known
pub all_settled : (task : Task) (known : Known) (before after : List (List ℕ)) (dropped : Bool) → ((l m : ℕ) → clause_in before l m ≡ clause_in before m l) → IsRound task known before after dropped → (x : Action) → Among x task.actions → IsSettled task.facts known after x
all_settled task known before after dropped either round x i l m = by (cases (breaks_by task.facts known x l m))
  where
    none : (b c : Bool) → c ≡ false → (b && c) ≡ false
    none true c e = e
    none false c e = refl

    off : (a b : Bool) → a ≡ false → (a && b) ≡ false
    off true b e = cc
    off false b e = refl

    by : (breaks_by task.facts known x l m ≡ true) ⊎ (breaks_by task.facts known x l m ≡ false) → (clause_in after l m && breaks_by task.facts known x l m) ≡ false
    by (inl t) = off _ _ (round.kept l m ∙ and_not_true (clause_in before l m) _ (any_at (λ y. breaks_by task.facts known y l m || breaks_by task.facts known y m l) task.actions x i (or_left _ _ t)))
    by (inr n) = none _ _ n

-- what was known before a round
pub were_known : (task : Task) (asked : ℕ → Bool) (known : Known) (before after : List (List ℕ)) (dropped : Bool) (stale : ℕ → Bool) → AreRows task.facts before → AreKnown (clause_in before) (2 * task.facts) asked known → IsRound task known before after dropped
    → ((l m : ℕ) → clause_in before l m ≡ true → clause_in after l m ≡ false → stale (opposite l) ≡ true) → WereKnown (clause_in after) stale (2 * task.facts) asked known
were_known task asked known before after dropped stale rows are round gone = record {
  before = clause_in before;
  lessened = record { less = λ l m t. (and_split _ _ (sym (round.kept l m) ∙ t)).0; gone = gone; bound = rows.within };
  none = λ _. are.none;
  long = are.long;
  each = λ k a _. are.each k a;
  other = are.other;
}
