-- Each value of a command passed its reader, whether the words or a default gave it.
use Rattle.std.proofs.Common.{◌≡◌, ◌∙◌, ◌<◌, inl, inr, ℕ, zero, suc, Bool, true, false, List, [], ◌∷◌, length, Option, Some, None, is_some, option_map, refl, sym, ap, subst, arith, true≢false}
use Rattle.std.specs.List.{All, find, slice_index_or}
use Rattle.std.specs.Borrow.{Bor}
use Rattle.std.specs.Str.{bytes_eq}
use Rattle.std.proofs.lemmas.Slice.Eq.{bytes_eq-Decides}
use Rattle.std.proofs.lemmas.List.Elements.{All-head}
use Rattle.clap.specs.Facts.{AllowsNone, Entry, EntryPasses, HasReading, IsCountArg, PassesArg, ValuesPass, args_of, groups_of, parser_of_value}
use Rattle.clap.specs.Built.{IsParsedFrom, SameRules}
use Rattle.clap.specs.Matches.{found_of, matched_of, one_text}
use Rattle.clap.specs.Values.{Accepts, read_as, reading_of}
use Rattle.clap.specs.Walk.{Rule, Text, rows_of}
use Rattle.clap.specs.Simple.{app_of, shape_of}
use Rattle.clap.specs.declared.builder.action.ArgAction.TheVariants.{Count, Set}
use Rattle.clap.specs.declared.builder.arg.Arg.{Arg}
use Rattle.clap.specs.declared.builder.command.Command.{Command}
use Rattle.clap.specs.declared.builder.value_parser.Reading.{Reading}
use Rattle.clap.specs.declared.builder.value_parser.ValueParser.{ValueParser}
use Rattle.clap.specs.declared.parser.matches.ArgMatches.{ArgMatches}
use Rattle.clap.specs.declared.parser.matches.Found.{Found}
use Rattle.clap.specs.declared.parser.matches.MatchedArg.{MatchedArg}
use Rattle.clap.proofs.CallerLemmas.{default_present, entry_by_id, present_has_entry, required_present, same_rules_by_id}
use Rattle.clap.proofs.WalkLemmas.{one_text-rows}
use Rattle.requests.specs.Fit.{has_values}
use Rattle.requests.specs.Passed.{Passed}
use Rattle.requests.proofs.Arguments.{HasValue, HasValues, found_at, none_some, values_of}

-- an entry with an id is found by it
found_in : (xs : List Entry) (id : Text) (i : ℕ) → i < length xs → ((d : Entry) → bytes_eq (slice_index_or xs i d).0.now id ≡ true)
    → is_some (option_map (λ (e : Entry). e.1) (find (λ e. bytes_eq e.0.now id) xs)) ≡ true
found_in [] id i lt h = absurd (omega arith)
found_in (x ∷ xs) id i lt h = go (bytes_eq x.0.now id) refl (found_in xs id) i lt h
  where
    go : (t : Bool) → bytes_eq x.0.now id ≡ t
        → ((j : ℕ) → j < length xs → ((d : Entry) → bytes_eq (slice_index_or xs j d).0.now id ≡ true) → is_some (option_map (λ (e : Entry). e.1) (find (λ e. bytes_eq e.0.now id) xs)) ≡ true)
        → (j : ℕ) → j < length (x ∷ xs) → ((d : Entry) → bytes_eq (slice_index_or (x ∷ xs) j d).0.now id ≡ true)
        → is_some (option_map (λ (e : Entry). e.1) (find (λ e. bytes_eq e.0.now id) (x ∷ xs))) ≡ true
    go true t later j l g = rw t refl
    go false t later zero l g = absurd (true≢false (sym (g x) ∙ t))
    go false t later (suc j) l g = rw t (later j (omega arith) g)

first_read : (f : Found) (id : Text) (Q : Text → Type 0) (how : Reading) (x : MatchedArg) (vs : List (Bor Text)) → matched_of f id ≡ Some x → x.reading ≡ how
    → x.vals.items ≡ vs → 0 < length vs → All (λ v. Q v.now) vs
    → (t : Text) × (one_text f id ≡ Some (read_as how t)) × Q t
first_read f id Q how x [] found is at some all = absurd (omega arith)
first_read f id Q how x (v ∷ vs) found is at some all = (v.now, rw (found, is, at) refl, All-head (λ (w : Bor Text). Q w.now) v vs all)

-- what the entry of an id gives, where it is of an argument that has a value
module _ (c : Command) (f : Found) (id : Text) (Q : Text → Type 0) (how : Reading) (no_groups : groups_of c ≡ []) (named : id ≡ [] → ⊥)
    (reads : (r : Reading) → HasReading c id r → r ≡ how) (no_count : IsCountArg c id → ⊥) (never_empty : AllowsNone c id → ⊥)
    (passes : (v : Bor Text) → PassesArg c id v.now → Q v.now) where
  of_entry : (x : MatchedArg) (e : Entry) → matched_of f id ≡ Some x → e.1 ≡ x → e.0.now ≡ id → EntryPasses c e
      → (t : Text) × (one_text f id ≡ Some (read_as how t)) × Q t
  of_entry x e found same key pass =
      let no_group : e.1.is_group ≡ true → ⊥ = λ g. elim (pass.3 g) [
        | inl empty ↦ named (sym key ∙ empty)
        | inr lots ↦
            let bad : 0 < 0 = rw no_groups at lots in
            absurd (omega arith)
      ] in
      let some : 0 < length e.1.vals.items = elim pass.1 [
        | inl h ↦ absurd (no_group h.0)
        | inr (inl v) ↦ v
        | inr (inr (inl h)) ↦ absurd (no_count (subst (IsCountArg c) key h.1))
        | inr (inr (inr h)) ↦ absurd (never_empty (subst (AllowsNone c) key h))
      ] in
      let all : All (λ v. Q v.now) e.1.vals.items = elim pass.0 [
        | inl g ↦ absurd (no_group g)
        | inr vals ↦ λ k d lt. passes (slice_index_or e.1.vals.items k d) (subst (λ (w : Text). PassesArg c w (slice_index_or e.1.vals.items k d).now) key (vals k d lt))
      ] in
      let is : e.1.reading ≡ how = elim pass.4 [
        | inl g ↦ absurd (no_group g)
        | inr h ↦ reads e.1.reading (subst (λ (w : Text). HasReading c w e.1.reading) key h)
      ] in
      first_read f id Q how e.1 e.1.vals.items (found ∙ ap (λ (y : MatchedArg). Some y) (sym same)) is refl some all

  of_id : ValuesPass c f → is_some (matched_of f id) ≡ true → (t : Text) × (one_text f id ≡ Some (read_as how t)) × Q t
  of_id values has = go (matched_of f id) refl has
    where
      go : (o : Option MatchedArg) → matched_of f id ≡ o → is_some o ≡ true → (t : Text) × (one_text f id ≡ Some (read_as how t)) × Q t
      go None e h = absurd (true≢false (sym h))
      go (Some x) e h =
          let got = entry_by_id (EntryPasses c) f.entries.items id x values e in
          of_entry x got.0 e got.1 ((bytes_eq-Decides got.0.0.now id).0 got.2) got.3

module _ (old : Command) (m : ArgMatches) (p : IsParsedFrom old m) (has : HasValues old) (k : ℕ) (d : Arg) (lt : k < length (args_of old)) where
  abbrev own : Arg
  own = slice_index_or (args_of old) k d

  value : HasValue own
  value = has.each k d lt

  set_with : (by : ValueParser) → own.value_parser ≡ Some by → own.action ≡ Some Set
  set_with by parser = elim value.set [ inl set ↦ set | inr bare ↦ absurd (none_some by (sym bare ∙ parser)) ]

  same_rules : (j : ℕ) (x : Arg) → j < length (args_of p.built) → slice_index_or (args_of p.built) j x ≡ x → bytes_eq x.id.now own.id.now ≡ true → SameRules own x
  same_rules j x lj at same = same_rules_by_id old m p k d lt (λ i e li eq. has.distinct i k d e li lt eq) value.own j x lj at same

  present : is_some (matched_of (found_of m) own.id.now) ≡ true
  present = elim value.given [
    | inl required ↦ present_has_entry (found_of m) own.id.now (required_present old m p has.plain has.globals has.negates k d lt required)
    | inr wants ↦
        let h = default_present old m p has.globals k d lt wants in
        found_in (found_of m).entries.items own.id.now h.0 h.1 h.2
  ]

  pub own_reads : (by : ValueParser) → own.value_parser ≡ Some by
      → (t : Text) × (one_text (found_of m) own.id.now ≡ Some (read_as (reading_of by) t)) × Accepts own.ignore_case by t
  own_reads by parser =
      of_id p.built (found_of m) own.id.now (λ t. Accepts own.ignore_case by t) (reading_of by) (p.from.plain has.plain).1 value.named
      (λ r any.
      let s = same_rules any.0 any.1 any.2 any.3 any.4.0 in
      sym any.4.1 ∙ ap reading_of (ap parser_of_value (s.parser by parser)))
      (λ any.
      let s = same_rules any.0 any.1 any.2 any.3 any.4.0 in
      let set : any.1.action ≡ Some Set = s.action Set (set_with by parser) in
      let bad : Set ≡ Count = rw set at any.4.1 in
      cc)
      (λ any.
      let s = same_rules any.0 any.1 any.2 any.3 any.4.0 in
      elim any.4.1 [
        | inl none ↦
            let one = s.least (set_with by parser) value.least in
            absurd (omega arith)
        | inr splits ↦
            let bad : false ≡ true = rw (s.val_delim, value.delimiter) at splits in
            cc
      ])
      (λ v any.
      let s = same_rules any.0 any.1 any.2 any.3 any.4.0 in
      let as_by : Accepts any.1.ignore_case by v.now = subst (λ (w : ValueParser). Accepts any.1.ignore_case w v.now) (ap parser_of_value (s.parser by parser)) any.4.1 in
      subst (λ (b : Bool). Accepts b by v.now) s.ignore_case as_by)
      (p.parsed (p.from.globals ∙ has.globals)).values present

pub passed : (old : Command) (m : ArgMatches) → IsParsedFrom old m → has_values (shape_of old) ≡ true → Passed (app_of old).top.rules (rows_of (found_of m))
passed old m p test id r by finds parser =
    let at = found_at id (args_of old) r finds in
    let x = at.1 in
    let x_id : x.id.now ≡ id = ap (λ (y : Rule). y.id) at.4 ∙ at.5 in
    let x_by : x.value_parser ≡ Some by = ap (λ (y : Rule). y.parser) at.4 ∙ parser in
    let x_case : x.ignore_case ≡ r.ignore_case = ap (λ (y : Rule). y.ignore_case) at.4 in
    let own_by = ap (λ (a : Arg). a.value_parser) at.3 ∙ x_by in
    let got = own_reads old m p (values_of old test) at.0 x at.2 by own_by in
    let same_id = ap (λ (a : Arg). a.id.now) at.3 ∙ x_id in
    let same_case = ap (λ (a : Arg). a.ignore_case) at.3 ∙ x_case in (
      got.0,
      sym (one_text-rows (found_of m) id) ∙ subst (λ (w : Text). one_text (found_of m) w ≡ Some (read_as (reading_of by) got.0)) same_id got.1,
      subst (λ (b : Bool). Accepts b by got.0) same_case got.2,
    )
