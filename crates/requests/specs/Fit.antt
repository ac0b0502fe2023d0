-- Commands that can be parsed without a test of the values that they give.
use Rattle.std.specs.Prelude.{◌≡◌, ◌&&◌, ◌||◌, not, Bool, true, false, Option, Some, None, is_some, List, [], ◌∷◌, codes, length, nat_lt}
use Rattle.std.specs.List.{list_all, list_any}
use Rattle.std.specs.Str.{bytes_eq}
use Rattle.clap.specs.Walk.{Text, Rule}
use Rattle.clap.specs.Simple.{App, Shape, built}
use Rattle.clap.specs.Takes.{default_passes}
use Rattle.clap.specs.Faults.{is_simple_and_free}
use Rattle.clap.specs.declared.builder.range.ValueRange.{ValueRange}
use Rattle.clap.specs.declared.builder.action.ArgAction.{ArgAction}
use Rattle.clap.specs.declared.builder.action.ArgAction.TheVariants.{Set}

-- An argument's value is set by its words.
abbrev pub is_set : Option ArgAction → Bool
is_set (Some Set) = true
is_set _ = false

-- An argument takes one value or more.
abbrev pub wants_some : Option ValueRange → Bool
wants_some None = true
wants_some (Some range) = nat_lt 0 range.start_inclusive

-- An argument has one value or more, which the words or a default give, and no rule on another argument. One with a reader
-- of its own is set by its words; one without may also be given again and again.
abbrev pub has_value : Rule → Bool
has_value r = (is_set r.action || not (is_some r.parser)) && (wants_some r.range && (r.is_simple && (r.is_free && (r.required || nat_lt 0 (length r.defaults)))))

-- The name is none, or one that `clap` has arguments of its own for.
abbrev pub is_own : Text → Bool
is_own id = bytes_eq id [] || (bytes_eq id (codes "help") || bytes_eq id (codes "version"))

-- No two arguments have one name.
abbrev pub has_distinct : List Rule → Bool
has_distinct [] = true
has_distinct (r ∷ rs) = not (list_any (λ x. bytes_eq x.id r.id) rs) && has_distinct rs

-- Each argument of a command has a value, under a name of its own.
abbrev pub has_values : Shape → Bool
has_values s = s.is_plain && (not s.subcommand_negates_reqs && (has_distinct s.rules && list_all (λ r. has_value r && not (is_own r.id)) s.rules))

-- A command that can be parsed: it is simple, it has no subcommands, its defaults pass their readers, and each of its
-- arguments has a value.
pub record IsFit (app : App) : Type 0 where
  pub simple : is_simple_and_free app ≡ true
  pub leaf : (built app).subs ≡ []
  pub defaults : list_all default_passes (built app).top.rules ≡ true
  pub values : has_values app.top ≡ true
