-- Arguments with a range, among those of a command.
use Rattle.std.proofs.Common.{◌≡◌, ◌∙◌, ℕ, List, map, Option, Some, None, slice_get, option_map, pos, sym, ap}
use Rattle.std.specs.Prelude.{unwrap_or}
use Rattle.std.proofs.lemmas.Option.{slice_get-map}
use Rattle.clap.specs.Walk.{Row, Rule, Text, arg_by_id}
use Rattle.clap.specs.declared.builder.value_parser.ValueParser.TheVariants as reader
use Rattle.requests.specs.Passed.{HasNumber, Passed}

-- the one lemma for an argument with a range
pub number_in : (rules : List Rule) (rows : List Row) → Passed rules rows → (id : Text) (r : Rule) (low high : ℕ) → arg_by_id rules id ≡ Some r
    → r.parser ≡ Some (reader.Signed (pos low) (pos high)) → HasNumber low high id rows
number_in rules rows passed id r low high finds by = let got = passed id r _ finds by in (got.0, got.1, got.2)

-- each of some arguments is found by its name, where all are
pub found_each : (rules rs : List Rule) → map (λ (r : Rule). arg_by_id rules r.id) rs ≡ map (λ r. Some r) rs → (k : ℕ) (r : Rule) → slice_get rs k ≡ Some r → arg_by_id rules r.id ≡ Some r
found_each rules rs all k r at =
    let left = slice_get-map (λ (x : Rule). arg_by_id rules x.id) rs k ∙ ap (option_map (λ (x : Rule). arg_by_id rules x.id)) at in
    let right = slice_get-map (λ (x : Rule). Some x) rs k ∙ ap (option_map (λ (x : Rule). Some x)) at in
    let same : Some (arg_by_id rules r.id) ≡ Some (Some r) = sym left ∙ (ap (λ (l : List (Option Rule)). slice_get l k) all ∙ right) in
    ap (λ (o : Option (Option Rule)). unwrap_or o None) same
