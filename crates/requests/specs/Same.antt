-- Commands that differ at most in where the texts of their lists of words lie in memory.
use Rattle.std.specs.Prelude.{◌≡◌, true, [], map, option_map}
use Rattle.std.specs.Borrow.{Bor}
use Rattle.clap.specs.Walk.{Text, Rule}
use Rattle.clap.specs.Simple.{App, Shape, built, is_simple}
use Rattle.clap.specs.declared.builder.value_parser.ValueParser.{ValueParser}
use Rattle.clap.specs.declared.builder.value_parser.ValueParser.TheVariants as reader

-- A reference to a value, at no place in particular.
abbrev pub somewhere : {X : Type 0} → X → Bor X
somewhere x = record { ref_ptr = (0, 0); now = x }

-- A reader whose texts lie at no place in particular.
abbrev pub reader_anywhere : ValueParser → ValueParser
reader_anywhere (reader.Names names) = reader.Names (somewhere (map (λ (n : Bor Text). somewhere n.now) names.now))
reader_anywhere p = p

-- An argument with such a reader.
abbrev pub rule_anywhere : Rule → Rule
rule_anywhere r = record r { parser = option_map reader_anywhere r.parser }

-- A command's arguments, each with such a reader.
abbrev pub shape_anywhere : Shape → Shape
shape_anywhere s = record s { rules = map rule_anywhere s.rules }

-- Two simple commands without subcommands that are the same but for where their texts lie.
pub record IsSame (a b : App) : Type 0 where
  pub simple_a : is_simple a ≡ true
  pub simple_b : is_simple b ≡ true
  pub leaf_a : (built a).subs ≡ []
  pub leaf_b : (built b).subs ≡ []
  pub binary : a.top.no_binary_name ≡ b.top.no_binary_name
  pub tops : shape_anywhere (built a).top ≡ shape_anywhere (built b).top
