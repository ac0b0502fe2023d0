-- A command's arguments, by their rules.
use Rattle.std.proofs.Common.{◌≡◌, ◌∙◌, ◌<◌, ◌≤◌, ◌&&◌, ◌||◌, ◌⊎◌, inl, inr, ℕ, zero, suc, Bool, true, false, not, List, [], ◌∷◌, length, map, Option, Some, None, is_some, refl, sym, ap, arith, true≢false, ltb-true}
use Rattle.std.specs.List.{All, list_any, slice_index_or}
use Rattle.std.specs.Prelude.{nat_lt, unwrap_or}
use Rattle.std.specs.Borrow.{Bor}
use Rattle.std.specs.Str.{bytes_eq}
use Rattle.std.proofs.lemmas.Slice.Eq.{bytes_eq-Decides}
use Rattle.clap.specs.Facts.{WantsDefault, args_of, least_values, unwrap_or_range}
use Rattle.clap.specs.Built.{HasDistinctIds, IsAuto, IsPlain, IsPlainArg}
use Rattle.clap.specs.Walk.{Rule, Text, arg_by_id, is_empty, rule_of, texts}
use Rattle.clap.specs.Simple.{shape_of}
use Rattle.clap.specs.declared.builder.action.ArgAction.{ArgAction}
use Rattle.clap.specs.declared.builder.action.ArgAction.TheVariants.{Set}
use Rattle.clap.specs.declared.builder.arg.Arg.{Arg}
use Rattle.clap.specs.declared.builder.range.ValueRange.{ValueRange}
use Rattle.clap.specs.declared.builder.command.Command.{Command}
use Rattle.clap.specs.declared.builder.command.Command.TheViews.{out-Command}
use Rattle.clap.proofs.SimpleLemmas.{is_false, is_nil, plain_fields}
use Rattle.clap.proofs.TakesLemmas.{each_rule}
use Rattle.clap.proofs.WalkLemmas.{both}
use Rattle.requests.specs.Fit.{has_distinct, has_value, has_values, is_own, is_set, wants_some}

neither : (a b : Bool) → (a || b) ≡ false → (a ≡ false) × (b ≡ false)
neither true b e = absurd (true≢false e)
neither false b e = (refl, e)

pub either : (a b : Bool) → (a || b) ≡ true → (a ≡ true) ⊎ (b ≡ true)
either true b e = inl refl
either false b e = inr e

is_none : {X : Type 0} (o : Option X) → not (is_some o) ≡ true → o ≡ None
is_none None e = refl
is_none (Some x) e = absurd (true≢false (sym e))

set_is : (x : Option ArgAction) → is_set x ≡ true → x ≡ Some Set
set_is (Some Set) e = refl
set_is (Some x) e = absurd (true≢false (sym e))
set_is None e = absurd (true≢false (sym e))

some_wanted : (o : Option ValueRange) → wants_some o ≡ true → 1 ≤ (unwrap_or_range o).start_inclusive
some_wanted None e = omega arith
some_wanted (Some r) e = omega (arith, ltb-true 0 r.start_inclusive e)

differs : (a b : Text) → bytes_eq a b ≡ false → a ≡ b → ⊥
differs a b off same = true≢false (sym ((bytes_eq-Decides a b).1 same) ∙ off)

pub none_some : {X : Type 0} (x : X) → None ≡ Some x → ⊥
none_some x e = true≢false (sym (ap is_some e))

-- the argument that an id finds, and its place
pub found_at : (id : Text) (xs : List Arg) (r : Rule) → arg_by_id (map rule_of xs) id ≡ Some r
    → (k : ℕ) × (x : Arg) × (k < length xs) × (slice_index_or xs k x ≡ x) × (rule_of x ≡ r) × (r.id ≡ id)
found_at id [] r e = absurd (none_some r e)
found_at id (x ∷ xs) r e = go (bytes_eq x.id.now id) refl (found_at id xs r)
  where
    go : (t : Bool) → bytes_eq x.id.now id ≡ t
        → (arg_by_id (map rule_of xs) id ≡ Some r → (k : ℕ) × (y : Arg) × (k < length xs) × (slice_index_or xs k y ≡ y) × (rule_of y ≡ r) × (r.id ≡ id))
        → (k : ℕ) × (y : Arg) × (k < length (x ∷ xs)) × (slice_index_or (x ∷ xs) k y ≡ y) × (rule_of y ≡ r) × (r.id ≡ id)
    go true t later =
        let same : Some (rule_of x) ≡ Some r = rw t at e in
        let is : rule_of x ≡ r = ap (λ (o : Option Rule). unwrap_or o r) same in
        (0, x, omega arith, refl, is, ap (λ (y : Rule). y.id) (sym is) ∙ (bytes_eq-Decides x.id.now id).0 t)
    go false t later =
        let rest = later (rw t at e) in
        let lt = rest.2 in
        (suc rest.0, rest.1, omega arith, rest.3, rest.4, rest.5)

no_other : (xs : List Arg) (id : Text) → list_any (λ y. bytes_eq y.id id) (map rule_of xs) ≡ false
    → (k : ℕ) (d : Arg) → k < length xs → (slice_index_or xs k d).id.now ≡ id → ⊥
no_other [] id none k d lt same = absurd (omega arith)
no_other (x ∷ xs) id none zero d lt same = differs _ _ (neither (bytes_eq x.id.now id) _ none).0 same
no_other (x ∷ xs) id none (suc k) d lt same = no_other xs id (neither (bytes_eq x.id.now id) _ none).1 k d (omega arith) same

pub distinct_ids : (xs : List Arg) → has_distinct (map rule_of xs) ≡ true → HasDistinctIds xs
distinct_ids [] h j k d e lj lk same = absurd (omega arith)
distinct_ids (x ∷ xs) h zero zero d e lj lk same = refl
distinct_ids (x ∷ xs) h zero (suc k) d e lj lk same =
    let t = both (not (list_any (λ y. bytes_eq y.id x.id.now) (map rule_of xs))) _ h in
    absurd (no_other xs x.id.now (is_false _ t.0) k d (omega arith) (sym ((bytes_eq-Decides _ _).0 same)))
distinct_ids (x ∷ xs) h (suc j) zero d e lj lk same =
    let t = both (not (list_any (λ y. bytes_eq y.id x.id.now) (map rule_of xs))) _ h in
    absurd (no_other xs x.id.now (is_false _ t.0) j e (omega arith) ((bytes_eq-Decides _ _).0 same))
distinct_ids (x ∷ xs) h (suc j) (suc k) d e lj lk same =
    let t = both (not (list_any (λ y. bytes_eq y.id x.id.now) (map rule_of xs))) _ h in
    ap suc (distinct_ids xs t.1 j k d e (omega arith) (omega arith) same)

some_default : (xs : List (Bor Text)) → nat_lt 0 (length (texts xs)) ≡ true → 0 < length xs
some_default [] e = absurd (true≢false (sym e))
some_default (x ∷ xs) e = omega arith

-- what the test asks of an argument
pub record HasValue (a : Arg) : Type 0 where
  pub set : (a.action ≡ Some Set) ⊎ (a.value_parser ≡ None)
  pub least : 1 ≤ least_values a
  pub plain : IsPlainArg a
  pub delimiter : a.val_delim ≡ None
  pub given : (a.required ≡ true) ⊎ WantsDefault a
  pub named : a.id.now ≡ [] → ⊥
  pub own : IsAuto a → ⊥

pub value_of : (a : Arg) → (has_value (rule_of a) && not (is_own a.id.now)) ≡ true → HasValue a
value_of a h =
    let t = both (has_value (rule_of a)) _ h in
    let p = both (is_set a.action || not (is_some a.value_parser)) _ t.0 in
    let q = both (wants_some a.num_vals) _ p.1 in
    let r = both (rule_of a).is_simple _ q.1 in
    let s = both (rule_of a).is_free _ r.1 in
    let o = both (is_empty a.overrides.items) _ r.0 in
    let i = both (is_empty a.default_vals_ifs.items) _ o.1 in
    let g = both (is_empty a.groups.items) _ i.1 in
    let v = both (not (is_some a.val_delim)) _ g.1 in
    let x = both (not a.exclusive) _ s.0 in
    let c = both (is_empty a.conflicts.items) _ x.1 in
    let n = neither (bytes_eq a.id.now []) _ (is_false _ t.1) in
    let m = neither (bytes_eq a.id.now _) _ n.1 in
    record {
      set = elim (either (is_set a.action) _ p.0) [ inl set ↦ inl (set_is a.action set) | inr bare ↦ inr (is_none a.value_parser bare) ];
      least = some_wanted a.num_vals q.0;
      plain = (is_false _ x.0, is_nil _ c.0, is_nil _ o.0, is_nil _ g.0);
      delimiter = is_none a.val_delim v.0;
      given = elim (either a.required _ s.1) [ inl must ↦ inl must | inr some ↦ inr (is_nil _ i.0, some_default _ some) ];
      named = differs _ _ n.0;
      own = λ auto. elim auto [ inl help ↦ differs _ _ m.0 help | inr version ↦ differs _ _ m.1 version ];
    }

-- what the test asks of a command
pub record HasValues (c : Command) : Type 0 where
  pub plain : IsPlain c
  pub globals : (out-Command c).has_globals ≡ false
  pub negates : (out-Command c).subcommand_negates_reqs ≡ false
  pub distinct : HasDistinctIds (args_of c)
  pub each : All HasValue (args_of c)

pub values_of : (c : Command) → has_values (shape_of c) ≡ true → HasValues c
values_of c h =
    let p = both (shape_of c).is_plain _ h in
    let n = both (not (shape_of c).subcommand_negates_reqs) _ p.1 in
    let d = both (has_distinct (shape_of c).rules) _ n.1 in
    let fields = plain_fields c p.0 in
    let each : All HasValue (args_of c) = λ k e lt. value_of _ (each_rule (λ r. has_value r && not (is_own r.id)) (args_of c) d.1 k e lt) in
    record {
      plain = (λ k e lt. (each k e lt).plain, fields.groups);
      globals = fields.globals;
      negates = is_false _ n.0;
      distinct = distinct_ids (args_of c) d.0;
      each = each;
    }
