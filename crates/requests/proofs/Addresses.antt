-- Where the texts of a list of words lie in memory does not matter: a parse reads of a reader only what it takes.
-- For each function of clap's walk one lemma says so, by `ap` alone.
use Rattle.std.proofs.Common.{◌≡◌, ◌∙◌, ◌+◌, ◌&&◌, ◌||◌, ℕ, zero, suc, Bool, true, false, not, List, [], ◌∷◌, map, length, min, drop, Option, Some, None, is_some, option_map, refl, sym, ap, ap₂, if◌then◌else◌, fold, nat_le, nat_eq}
use Rattle.std.specs.Prelude.{encode_utf8, slice_get}
use Rattle.std.specs.Option.{option_map_or}
use Rattle.std.specs.List.{list_all, list_any}
use Rattle.std.specs.Borrow.{Bor}
use Rattle.std.specs.Str.{bytes_eq, chars}
use Rattle.clap.specs.Lexer.{long_of, short_of}
use Rattle.clap.specs.Matches.{count_text}
use Rattle.clap.specs.Facts.{parser_of_value, unwrap_or_range}
use Rattle.clap.specs.Values.{reading_of, same_text}
use Rattle.clap.specs.ValueTests.{accepts}
use Rattle.clap.specs.Walk.{Held, Names, Outcome, Row, Rule, Step, Text, Waiting, Walk, action_of, after_flag, after_step, arg_by_id, arg_by_index, arg_by_long, arg_by_short, attached_value, bundle, bundle_met, bundle_step, count_of, default_rows, finished, flag_met, has_long, has_row, has_short, is_multiple, is_pending, long_met, long_or_other, long_word, most_values, next_position, nothing_held, option_met, option_word, plain_word, pushed, reacted, reading_by, rows_after, settled, settled_rows, short_met, short_or_plain, short_word, subcommand_met, subcommand_or_other, takes_several, takes_values, to_positional, used, used_as, used_by_id, values_or_missing, walk, walk_from, walked, walked_from, with_default, word_met}
use Rattle.clap.specs.Walk.Outcome.{done, waits, plain, refused}
use Rattle.clap.specs.Walk.Step.{next, trailing, subcommand, value}
use Rattle.clap.specs.Walk.Waiting.{idle, option, positional}
use Rattle.clap.specs.Facts.{explicit_source}
use Rattle.clap.specs.Values.{is_request}
use Rattle.clap.specs.Walk.{is_empty}
use Rattle.clap.specs.Simple.{App, Shape, argument_words, built, entered, label_of, matches_of}
use Rattle.clap.specs.Takes.{action_passes, built_takes, bundle_passes, bundle_step_passes, count_passes, default_passes, entered_passes, flag_word_passes, flags_pass, is_given, is_valid, level_passes, long_passes, option_passes, other_passes, positional_passes, react_passes, set_passes, settle_passes, short_passes, step_passes, takes, turn_passes, use_passes, value_passes, values_pass, walk_passes}
use Rattle.clap.specs.declared.builder.action.ArgAction.{ArgAction}
use Rattle.clap.specs.declared.builder.action.ArgAction.TheVariants as action
use Rattle.clap.specs.declared.builder.value_parser.Reading.{Reading}
use Rattle.clap.specs.declared.builder.value_parser.ValueParser.{ValueParser}
use Rattle.clap.specs.declared.builder.value_parser.ValueParser.TheVariants as reader
use Rattle.clap.proofs.WalkLemmas.{find-map, list_any-map}
use Rattle.requests.specs.Same.{IsSame, reader_anywhere, rule_anywhere, shape_anywhere, somewhere}

accepts_norm : (i : Bool) (p : ValueParser) (t : Text) → accepts i (reader_anywhere p) t ≡ accepts i p t
accepts_norm i (reader.Names names) t = sym (list_any-map (λ (n : Bor Text). same_text i n.now t) (λ (n : Bor Text). somewhere n.now) names.now)
accepts_norm i p t = refl

reading_norm : (p : ValueParser) → reading_of (reader_anywhere p) ≡ reading_of p
reading_norm (reader.Names names) = refl
reading_norm p = refl

parser_norm : (o : Option ValueParser) → parser_of_value (option_map reader_anywhere o) ≡ reader_anywhere (parser_of_value o)
parser_norm None = refl
parser_norm (Some p) = refl

reading_same : (a : Rule) → reading_by (rule_anywhere a) ≡ reading_by a
reading_same a = ap reading_of (parser_norm a.parser) ∙ reading_norm (parser_of_value a.parser)

missing_same : (a : Rule) (vs : List Text) → values_or_missing (rule_anywhere a) vs ≡ values_or_missing a vs
missing_same a [] = refl
missing_same a (v ∷ vs) = refl

used_same : (a : Rule) (vs : List Text) (rows : List Row) → used (rule_anywhere a) vs rows ≡ used a vs rows
used_same a vs rows = ap₂ (λ (how : Reading) (ws : List Text). used_as (action_of a) a.id how ws rows) (reading_same a) (missing_same a vs)

by_id : (c : List Rule) (id : Text) → arg_by_id (map rule_anywhere c) id ≡ option_map rule_anywhere (arg_by_id c id)
by_id c id = sym (find-map (λ (a : Rule). bytes_eq a.id id) rule_anywhere c)

by_long : (c : List Rule) (name : Text) → arg_by_long (map rule_anywhere c) name ≡ option_map rule_anywhere (arg_by_long c name)
by_long c name = sym (find-map (λ (a : Rule). not (is_some a.index) && has_long a name) rule_anywhere c)

by_short : (c : List Rule) (x : ℕ) → arg_by_short (map rule_anywhere c) x ≡ option_map rule_anywhere (arg_by_short c x)
by_short c x = sym (find-map (λ (a : Rule). not (is_some a.index) && has_short a x) rule_anywhere c)

by_index : (c : List Rule) (i : ℕ) → arg_by_index (map rule_anywhere c) i ≡ option_map rule_anywhere (arg_by_index c i)
by_index c i = sym (find-map (λ (a : Rule). option_map_or (λ (k : ℕ). nat_eq k i) a.index false) rule_anywhere c)

used_found : (o : Option Rule) (vs : List Text) (rows : List Row) → used_by_id (option_map rule_anywhere o) vs rows ≡ used_by_id o vs rows
used_found None vs rows = refl
used_found (Some a) vs rows = used_same a vs rows

module _ (c : List Rule) where
  settled_rows_same : (p : Option (Text × List Text)) (rows : List Row) → settled_rows (map rule_anywhere c) p rows ≡ settled_rows c p rows
  settled_rows_same None rows = refl
  settled_rows_same (Some p) rows = ap (λ (o : Option Rule). used_by_id o p.1 rows) (by_id c p.0) ∙ used_found (arg_by_id c p.0) p.1 rows

  settled_same : (h : Held) → settled (map rule_anywhere c) h ≡ settled c h
  settled_same h = ap (λ (rows : List Row). record h { rows = rows; pending = None }) (settled_rows_same h.pending h.rows)

  reacted_same : (a : Rule) (vs : List Text) (h : Held) → reacted (map rule_anywhere c) (rule_anywhere a) vs h ≡ reacted c a vs h
  reacted_same a vs h = ap (λ (rows : List Row). record h { rows = rows; pending = None })
      (used_same a vs (settled (map rule_anywhere c) h).rows ∙ ap (λ (g : Held). used a vs g.rows) (settled_same h))

  option_met_same : (a : Rule) (v : Option Text) (h : Held) → option_met (map rule_anywhere c) (rule_anywhere a) v h ≡ option_met c a v h
  option_met_same a (Some v) h = ap (λ (g : Held). (g, done)) (reacted_same a (v ∷ []) h)
  option_met_same a None h = ap (λ (g : Held). (record g { pending = Some (a.id, []) }, waits a.id)) (settled_same h)

  flag_met_same : (a : Rule) (v : Option Text) (h : Held) → flag_met (map rule_anywhere c) (rule_anywhere a) v h ≡ flag_met c a v h
  flag_met_same a (Some v) h = refl
  flag_met_same a None h = ap (λ (g : Held). (g, done)) (reacted_same a [] h)

  long_met_same : (o : Option Rule) (v : Option Text) (h : Held) → long_met (map rule_anywhere c) (option_map rule_anywhere o) v h ≡ long_met c o v h
  long_met_same None v h = refl
  long_met_same (Some a) v h = ap₂ (λ (x y : Held × Outcome). if takes_values a then x else y) (option_met_same a v h) (flag_met_same a v h)

  short_met_same : (o : Option Rule) (rest : Text) (h : Held) (f g : Held → Held × Outcome) → ((k : Held) → f k ≡ g k)
      → short_met (map rule_anywhere c) (option_map rule_anywhere o) rest h f ≡ short_met c o rest h g
  short_met_same None rest h f g e = refl
  short_met_same (Some a) rest h f g e = ap₂ (λ (x y : Held × Outcome). if takes_values a then x else y) (option_met_same a (attached_value rest) h)
      (e (reacted (map rule_anywhere c) (rule_anywhere a) [] h) ∙ ap g (reacted_same a [] h))

  bundle_step_same : (x : Option ℕ) (flags : Text) (skip : ℕ) (so_far : Outcome) (h : Held) (f g : Text → ℕ → Outcome → Held → Held × Outcome)
      → ((t : Text) (s : ℕ) (o : Outcome) (k : Held) → f t s o k ≡ g t s o k)
      → bundle_step (map rule_anywhere c) x flags skip so_far h f ≡ bundle_step c x flags skip so_far h g
  bundle_step_same None flags skip so_far h f g e = refl
  bundle_step_same (Some x) flags zero so_far h f g e =
      let rest = drop (length (encode_utf8 x)) flags in
      ap (λ (o : Option Rule). short_met (map rule_anywhere c) o rest h (f rest 0 done)) (by_short c x) ∙ short_met_same (arg_by_short c x) rest h (f rest 0 done) (g rest 0 done) (e rest 0 done)
  bundle_step_same (Some x) flags (suc skip) so_far h f g e = e (drop (length (encode_utf8 x)) flags) skip so_far h

  bundle_met_same : (k : ℕ) (flags : Text) (skip : ℕ) (so_far : Outcome) (h : Held) → bundle_met (map rule_anywhere c) k flags skip so_far h ≡ bundle_met c k flags skip so_far h
  unfolding bundle_met
  bundle_met_same zero flags skip so_far h = refl
  bundle_met_same (suc k) flags skip so_far h =
      bundle_step_same (slice_get (chars flags) 0) flags skip so_far h (bundle_met (map rule_anywhere c) k) (bundle_met c k) (bundle_met_same k)

  option_word_same : (o : Option Rule) (id word : Text) (h : Held) → option_word (option_map rule_anywhere o) id word h ≡ option_word o id word h
  option_word_same None id word h = refl
  option_word_same (Some a) id word h = refl

  plain_word_same : (waiting : Waiting) (word : Text) (h : Held) → plain_word (map rule_anywhere c) waiting word h ≡ plain_word c waiting word h
  plain_word_same (option id) word h =
      ap (λ (o : Option Rule). ((option_word o id word h).0, next (option_word o id word h).1)) (by_id c id)
      ∙ ap (λ (p : Held × Waiting). (p.0, next p.1)) (option_word_same (arg_by_id c id) id word h)
  plain_word_same idle word h = refl
  plain_word_same positional word h = refl

  after_flag_same : (waiting : Waiting) (word : Text) (h : Held) (o : Outcome) → after_flag (map rule_anywhere c) waiting word h o ≡ after_flag c waiting word h o
  after_flag_same waiting word h done = refl
  after_flag_same waiting word h (waits id) = refl
  after_flag_same waiting word h plain = plain_word_same waiting word h
  after_flag_same waiting word h refused = plain_word_same waiting word h

  long_word_same : (waiting : Waiting) (word name : Text) (v : Option Text) (h : Held) → long_word (map rule_anywhere c) waiting word name v h ≡ long_word c waiting word name v h
  long_word_same waiting word name v h =
      let met = ap (λ (o : Option Rule). long_met (map rule_anywhere c) o v h) (by_long c name) ∙ long_met_same (arg_by_long c name) v h in
      ap (λ (p : Held × Outcome). after_flag (map rule_anywhere c) waiting word p.0 p.1) met
      ∙ after_flag_same waiting word (long_met c (arg_by_long c name) v h).0 (long_met c (arg_by_long c name) v h).1

  short_word_same : (waiting : Waiting) (word flags : Text) (h : Held) → short_word (map rule_anywhere c) waiting word flags h ≡ short_word c waiting word flags h
  short_word_same waiting word flags h =
      ap (λ (p : Held × Outcome). after_flag (map rule_anywhere c) waiting word p.0 p.1) (bundle_met_same (length flags) flags h.skip plain (record h { skip = 0 }))
      ∙ after_flag_same waiting word (bundle c flags h).0 (bundle c flags h).1

  short_or_plain_same : (waiting : Waiting) (word : Text) (o : Option Text) (h : Held) → short_or_plain (map rule_anywhere c) waiting word o h ≡ short_or_plain c waiting word o h
  short_or_plain_same waiting word (Some flags) h = short_word_same waiting word flags h
  short_or_plain_same waiting word None h = plain_word_same waiting word h

  long_or_other_same : (waiting : Waiting) (word : Text) (o : Option (Text × Option Text)) (h : Held) → long_or_other (map rule_anywhere c) waiting word o h ≡ long_or_other c waiting word o h
  long_or_other_same waiting word (Some p) h = long_word_same waiting word p.0 p.1 h
  long_or_other_same waiting word None h = short_or_plain_same waiting word (short_of word) h

  other_same : (o : Option Text) (waiting : Waiting) (position : ℕ) (word : Text) (h : Held)
      → subcommand_or_other (map rule_anywhere c) o waiting position word h ≡ subcommand_or_other c o waiting position word h
  other_same (Some name) waiting position word h = refl
  other_same None waiting position word h = ap (λ (x : Held × Step). if bytes_eq word (45 ∷ 45 ∷ []) then (h, trailing position) else x) (long_or_other_same waiting word (long_of word) h)

  word_met_same : (names : Names) (is_trailing : Bool) (waiting : Waiting) (position : ℕ) (word : Text) (h : Held)
      → word_met (map rule_anywhere c) names is_trailing waiting position word h ≡ word_met c names is_trailing waiting position word h
  word_met_same names is_trailing waiting position word h =
      ap (λ (x : Held × Step). if is_trailing then (h, value) else x) (other_same (subcommand_met names waiting word) waiting position word h)

  to_positional_same : (o : Option Rule) (word : Text) (w : Walk) (h : Held) → to_positional (map rule_anywhere c) (option_map rule_anywhere o) word w h ≡ to_positional c o word w h
  to_positional_same None word w h = refl
  to_positional_same (Some a) word w h =
      ap (λ (g : Held). record {
        held = pushed a.id word (if is_pending a h.pending && takes_several a then h else g);
        waiting = if is_multiple a then positional else idle;
        position = next_position a w.position;
        is_trailing = w.is_trailing || a.trailing_var_arg;
        stopped = None;
      }) (settled_same h)

  after_step_same : (word : Text) (w : Walk) (h : Held) (s : Step) → after_step (map rule_anywhere c) word w h s ≡ after_step c word w h s
  after_step_same word w h (next waiting) = refl
  after_step_same word w h (trailing p) = refl
  after_step_same word w h (subcommand name) = refl
  after_step_same word w h value = ap (λ (o : Option Rule). to_positional (map rule_anywhere c) o word w h) (by_index c w.position) ∙ to_positional_same (arg_by_index c w.position) word w h

  walked_from_same : (names : Names) (o : Option (Text × List Text)) (w : Walk) (word : Text) → walked_from (map rule_anywhere c) names o w word ≡ walked_from c names o w word
  walked_from_same names (Some p) w word = refl
  walked_from_same names None w word =
      let met = word_met c names w.is_trailing w.waiting w.position word w.held in
      ap (λ (p : Held × Step). after_step (map rule_anywhere c) word w p.0 p.1) (word_met_same names w.is_trailing w.waiting w.position word w.held) ∙ after_step_same word w met.0 met.1

  walked_same : (names : Names) (w : Walk) (word : Text) → walked (map rule_anywhere c) names w word ≡ walked c names w word
  unfolding walked
  walked_same names w word = walked_from_same names w.stopped w word

  walk_same : (names : Names) (w : Walk) (words : List Text) → fold (walked (map rule_anywhere c) names) w words ≡ fold (walked c names) w words
  walk_same names w [] = refl
  walk_same names w (word ∷ words) = ap (λ (v : Walk). fold (walked (map rule_anywhere c) names) v words) (walked_same names w word) ∙ walk_same names (walked c names w word) words

defaults_same : (rows : List Row) (c : List Rule) → fold with_default rows (map rule_anywhere c) ≡ fold with_default rows c
defaults_same rows [] = refl
defaults_same rows (a ∷ c) =
    ap (λ (r : List Row). fold with_default r (map rule_anywhere c)) (ap (λ (how : Reading). if has_row a.id rows then rows else default_rows a.id how a.defaults rows) (reading_same a))
    ∙ defaults_same (with_default rows a) c

finished_same : (c : List Rule) (h : Held) → finished (map rule_anywhere c) h ≡ finished c h
finished_same c h = ap (λ (g : Held). fold with_default g.rows (map rule_anywhere c)) (settled_same c h) ∙ defaults_same (settled c h).rows c

pub rows_same : (c : List Rule) (names : Names) (words : List Text) → rows_after (map rule_anywhere c) names words ≡ rows_after c names words
rows_same c names words =
    ap (λ (w : Walk). finished (map rule_anywhere c) w.held) (walk_same c names (walk_from nothing_held) words) ∙ finished_same c (walk c names nothing_held words).held

-- ---- what is taken

value_same : (a : Rule) (t : Text) → value_passes (rule_anywhere a) t ≡ value_passes a t
value_same a t = ap (λ (p : ValueParser). accepts a.ignore_case p t) (parser_norm a.parser) ∙ accepts_norm a.ignore_case (parser_of_value a.parser) t

values_same : (a : Rule) (vs : List Text) → values_pass (rule_anywhere a) vs ≡ values_pass a vs
values_same a [] = refl
values_same a (v ∷ vs) = ap₂ (λ (x y : Bool). x && y) (value_same a v) (values_same a vs)

count_same : (a : Rule) (vs : List Text) (rows : List Row) → count_passes (rule_anywhere a) vs rows ≡ count_passes a vs rows
count_same a [] rows = value_same a (count_text (min (count_of a.id rows + 1) 255))
count_same a (v ∷ vs) rows = values_same a (v ∷ vs)

set_same : (again : Bool) (a : Rule) (vs : List Text) (rows : List Row) → set_passes again (rule_anywhere a) vs rows ≡ set_passes again a vs rows
set_same again a vs rows = ap (λ (b : Bool). (not (has_row a.id rows) || again) && b) (values_same a vs)

action_same : (x : ArgAction) (again : Bool) (a : Rule) (vs : List Text) (rows : List Row) → action_passes x again (rule_anywhere a) vs rows ≡ action_passes x again a vs rows
action_same action.Set again a vs rows = set_same again a vs rows
action_same action.SetTrue again a vs rows = set_same again a vs rows
action_same action.SetFalse again a vs rows = set_same again a vs rows
action_same action.Append again a vs rows = values_same a vs
action_same action.Count again a vs rows = count_same a vs rows
action_same x again a vs rows = refl

use_same : (again : Bool) (a : Rule) (vs : List Text) (rows : List Row) → use_passes again (rule_anywhere a) vs rows ≡ use_passes again a vs rows
use_same again a vs rows =
    ap (λ (b : Bool). nat_le (unwrap_or_range a.range).start_inclusive (length vs) && (nat_le (length vs) (most_values a) && b))
    (action_same (action_of a) again a (values_or_missing (rule_anywhere a) vs) rows ∙ ap (λ (ws : List Text). action_passes (action_of a) again a ws rows) (missing_same a vs))

module _ (c : List Rule) (again : Bool) where
  use_found : (o : Option Rule) (vs : List Text) (rows : List Row) → option_map_or (λ a. use_passes again a vs rows) (option_map rule_anywhere o) true ≡ option_map_or (λ a. use_passes again a vs rows) o true
  use_found None vs rows = refl
  use_found (Some a) vs rows = use_same again a vs rows

  settle_of : (p : Option (Text × List Text)) (rows : List Row)
      → option_map_or (λ q. option_map_or (λ a. use_passes again a q.1 rows) (arg_by_id (map rule_anywhere c) q.0) true) p true
      ≡ option_map_or (λ q. option_map_or (λ a. use_passes again a q.1 rows) (arg_by_id c q.0) true) p true
  settle_of None rows = refl
  settle_of (Some q) rows = ap (λ (o : Option Rule). option_map_or (λ a. use_passes again a q.1 rows) o true) (by_id c q.0) ∙ use_found (arg_by_id c q.0) q.1 rows

  settle_same : (h : Held) → settle_passes (map rule_anywhere c) again h ≡ settle_passes c again h
  settle_same h = settle_of h.pending h.rows

  react_same : (a : Rule) (vs : List Text) (h : Held) → react_passes (map rule_anywhere c) again (rule_anywhere a) vs h ≡ react_passes c again a vs h
  react_same a vs h = ap₂ (λ (x y : Bool). x && y) (settle_same h)
      (use_same again a vs (settled (map rule_anywhere c) h).rows ∙ ap (λ (g : Held). use_passes again a vs g.rows) (settled_same c h))

  option_same : (a : Rule) (v : Option Text) (h : Held) → option_passes (map rule_anywhere c) again (rule_anywhere a) v h ≡ option_passes c again a v h
  option_same a (Some v) h = react_same a (v ∷ []) h
  option_same a None h = settle_same h

  long_same : (o : Option Rule) (v : Option Text) (h : Held) → long_passes (map rule_anywhere c) again (option_map rule_anywhere o) v h ≡ long_passes c again o v h
  long_same None v h = refl
  long_same (Some a) v h = ap₂ (λ (x y : Bool). if takes_values a then x else (not (is_some v) && y)) (option_same a v h) (react_same a [] h)

  short_same : (o : Option Rule) (rest : Text) (h : Held) (f g : Held → Bool) → ((k : Held) → f k ≡ g k) → short_passes (map rule_anywhere c) again (option_map rule_anywhere o) rest h f ≡ short_passes c again o rest h g
  short_same None rest h f g e = refl
  short_same (Some a) rest h f g e =
      ap₂ (λ (x y : Bool). if takes_values a then x else y) (option_same a (attached_value rest) h)
      (ap₂ (λ (x y : Bool). x && y) (react_same a [] h) (e (reacted (map rule_anywhere c) (rule_anywhere a) [] h) ∙ ap g (reacted_same c a [] h)))

  step_of_flags_same : (x : Option ℕ) (flags : Text) (skip : ℕ) (h : Held) (f g : Text → ℕ → Held → Bool) → ((t : Text) (s : ℕ) (k : Held) → f t s k ≡ g t s k)
      → bundle_step_passes (map rule_anywhere c) again x flags skip h f ≡ bundle_step_passes c again x flags skip h g
  step_of_flags_same None flags skip h f g e = refl
  step_of_flags_same (Some x) flags zero h f g e =
      let rest = drop (length (encode_utf8 x)) flags in
      ap (λ (o : Option Rule). short_passes (map rule_anywhere c) again o rest h (f rest 0)) (by_short c x) ∙ short_same (arg_by_short c x) rest h (f rest 0) (g rest 0) (e rest 0)
  step_of_flags_same (Some x) flags (suc skip) h f g e = e (drop (length (encode_utf8 x)) flags) skip h

  flags_same : (k : ℕ) (flags : Text) (skip : ℕ) (h : Held) → flags_pass (map rule_anywhere c) again k flags skip h ≡ flags_pass c again k flags skip h
  unfolding flags_pass
  flags_same zero flags skip h = refl
  flags_same (suc k) flags skip h = step_of_flags_same (slice_get (chars flags) 0) flags skip h (flags_pass (map rule_anywhere c) again k) (flags_pass c again k) (flags_same k)

  flag_word_same : (o : Option (Text × Option Text)) (word : Text) (h : Held) → flag_word_passes (map rule_anywhere c) again o word h ≡ flag_word_passes c again o word h
  flag_word_same (Some p) word h = ap (λ (o : Option Rule). long_passes (map rule_anywhere c) again o p.1 h) (by_long c p.0) ∙ long_same (arg_by_long c p.0) p.1 h
  flag_word_same None word h = go (short_of word)
    where
      go : (o : Option Text) → option_map_or (λ flags. bundle_passes (map rule_anywhere c) again flags h) o true ≡ option_map_or (λ flags. bundle_passes c again flags h) o true
      go None = refl
      go (Some flags) = flags_same (length flags) flags h.skip (record h { skip = 0 })

  place_of_same : (o : Option Rule) (h : Held) → option_map_or (λ a. positional_passes (map rule_anywhere c) again a h) (option_map rule_anywhere o) false ≡ option_map_or (λ a. positional_passes c again a h) o false
  place_of_same None h = refl
  place_of_same (Some a) h = ap (λ (b : Bool). (is_pending a h.pending && takes_several a) || b) (settle_same h)

module _ (s : Shape) where
  other_word_same : (o : Option Text) (word : Text) (h : Held) → other_passes (shape_anywhere s) o word h ≡ other_passes s o word h
  other_word_same (Some name) word h = refl
  other_word_same None word h = ap (λ (b : Bool). bytes_eq word (45 ∷ 45 ∷ []) || b) (flag_word_same s.rules s.args_override_self (long_of word) word h)

  step_same : (position : ℕ) (h : Held) (x : Step) → step_passes (shape_anywhere s) position h x ≡ step_passes s position h x
  step_same position h (next waiting) = refl
  step_same position h (trailing p) = refl
  step_same position h (subcommand name) = refl
  step_same position h value =
      ap (λ (o : Option Rule). option_map_or (λ a. positional_passes (map rule_anywhere s.rules) s.args_override_self a h) o false) (by_index s.rules position)
      ∙ place_of_same s.rules s.args_override_self (arg_by_index s.rules position) h

  turn_same : (names : Names) (w : Walk) (word : Text) → turn_passes (shape_anywhere s) names w word ≡ turn_passes s names w word
  turn_same names w word =
      let met = word_met s.rules names w.is_trailing w.waiting w.position word w.held in
      ap₂ (λ (x y : Bool). is_some w.stopped || ((w.is_trailing || x) && y)) (other_word_same (subcommand_met names w.waiting word) word w.held)
      (ap (λ (p : Held × Step). step_passes (shape_anywhere s) w.position p.0 p.1) (word_met_same s.rules names w.is_trailing w.waiting w.position word w.held) ∙ step_same w.position met.0 met.1)

  walk_passes_same : (names : Names) (w : Walk) (words : List Text) → walk_passes (shape_anywhere s) names w words ≡ walk_passes s names w words
  unfolding walk_passes
  walk_passes_same names w [] = refl
  walk_passes_same names w (word ∷ words) = ap₂ (λ (x y : Bool). x && y) (turn_same names w word)
      (ap (λ (v : Walk). walk_passes (shape_anywhere s) names v words) (walked_same s.rules names w word) ∙ walk_passes_same names (walked s.rules names w word) words)

default_same : (a : Rule) → default_passes (rule_anywhere a) ≡ default_passes a
default_same a = ap (λ (b : Bool). is_empty a.defaults || (not (is_request (action_of a)) && b)) (values_same a a.defaults)

all_defaults_same : (c : List Rule) → list_all default_passes (map rule_anywhere c) ≡ list_all default_passes c
all_defaults_same [] = refl
all_defaults_same (a ∷ c) = ap₂ (λ (x y : Bool). x && y) (default_same a) (all_defaults_same c)

all_free_same : (c : List Rule) → list_all (λ (a : Rule). a.is_free) (map rule_anywhere c) ≡ list_all (λ (a : Rule). a.is_free) c
all_free_same [] = refl
all_free_same (a ∷ c) = ap (λ (b : Bool). a.is_free && b) (all_free_same c)

all_given_same : (rows : List Row) (c : List Rule) → list_all (λ (a : Rule). not a.required || is_given a.id rows) (map rule_anywhere c) ≡ list_all (λ (a : Rule). not a.required || is_given a.id rows) c
all_given_same rows [] = refl
all_given_same rows (a ∷ c) = ap (λ (b : Bool). (not a.required || is_given a.id rows) && b) (all_given_same rows c)

valid_same : (s : Shape) (rows : List Row) → is_valid (shape_anywhere s) rows false ≡ is_valid s rows false
valid_same s rows = ap₂ (λ (x y : Bool). (not s.arg_required_else_help || (false || list_any (λ (r : Row). explicit_source r.source) rows))
    && ((not s.subcommand_required || false) && (x && ((s.subcommand_negates_reqs && false) || y)))) (all_free_same s.rules) (all_given_same rows s.rules)

pub level_same : (s : Shape) (words : List Text) → level_passes (shape_anywhere s) [] nothing_held words false ≡ level_passes s [] nothing_held words false
level_same s words =
    let w = walk_from nothing_held in
    let end = (walk s.rules [] nothing_held words).held in
    let ends : walk (map rule_anywhere s.rules) [] nothing_held words ≡ walk s.rules [] nothing_held words = walk_same s.rules [] w words in
    ap₂ (λ (x y : Bool). x && y) (walk_passes_same s [] w words)
    (ap₂ (λ (x y : Bool). x && y) (ap (λ (v : Walk). settle_passes (map rule_anywhere s.rules) s.args_override_self v.held) ends ∙ settle_same s.rules s.args_override_self end)
    (ap₂ (λ (x y : Bool). x && y) (all_defaults_same s.rules)
    (ap (λ (v : Walk). is_valid (shape_anywhere s) (finished (map rule_anywhere s.rules) v.held) false) ends
    ∙ (ap (λ (r : List Row). is_valid (shape_anywhere s) r false) (finished_same s.rules end) ∙ valid_same s (finished s.rules end)))))

-- ---- of a command with no subcommand

leaf_is : (a : App) (words : List Text) → a.subs ≡ [] → built_takes a nothing_held words ≡ level_passes a.top [] nothing_held words false
leaf_is a words none = ap (λ (subs : List Shape). built_takes (record a { subs = subs }) nothing_held words) none ∙ go (walk a.top.rules [] nothing_held words).stopped
  where
    go : (stop : Option (Text × List Text))
        → (entered_passes (record a { subs = [] }) stop && level_passes a.top [] nothing_held words (is_some (entered (record a { subs = [] }) stop))) ≡ level_passes a.top [] nothing_held words false
    go None = refl
    go (Some p) = refl

pub takes_same : (a b : App) (words : List Text) → IsSame a b → takes a words ≡ takes b words
takes_same a b words e =
    let args = λ (x : App). argument_words x words in
    let same_args : args a ≡ args b = ap (λ (n : Bool). if n then words else drop 1 words) e.binary in
    ap₂ (λ (x y : Bool). x && y) (e.simple_a ∙ sym e.simple_b)
    (leaf_is (built a) (args a) e.leaf_a ∙ (sym (level_same (built a).top (args a))
    ∙ (ap₂ (λ (s : Shape) (ws : List Text). level_passes s [] nothing_held ws false) e.tops same_args
    ∙ (level_same (built b).top (args b) ∙ sym (leaf_is (built b) (args b) e.leaf_b)))))

pub matches_same : (a b : App) (words : List Text) → IsSame a b → matches_of a words ≡ matches_of b words
matches_same a b words e =
    let args = λ (x : App). argument_words x words in
    let same_args : args a ≡ args b = ap (λ (n : Bool). if n then words else drop 1 words) e.binary in
    ap (λ (subs : List Shape). rows_after (built a).top.rules (map label_of subs) (args a)) e.leaf_a
    ∙ (sym (rows_same (built a).top.rules [] (args a))
    ∙ (ap₂ (λ (s : Shape) (ws : List Text). rows_after s.rules [] ws) e.tops same_args
    ∙ (rows_same (built b).top.rules [] (args b)
    ∙ sym (ap (λ (subs : List Shape). rows_after (built b).top.rules (map label_of subs) (args b)) e.leaf_b))))
