-- The numbers of a formula's parts.
use Rattle.std.proofs.Common.{arith, ◌≡◌, ℕ, ◌+◌, ◌*◌, ◌≤◌, List, ◌++◌, length, sym, ap, ◌∙◌, length-append}
use Rattle.std.specs.List.{flat_map, range_with_len}
use Rattle.std.proofs.lemmas.List.{length-map}
use Rattle.clause_base.specs.Repeats.{Repeats, step_part, time_part, repeated, variables_of}
use Rattle.cdcl_tables.specs.declared.shape.Shape.{Shape}
use Rattle.cdcl_tables.specs.own.Lists.{AreNumbers, IsShape, clauses_of}
use Rattle.cdcl_tables.proofs.Blocks.{blocks_long}

-- how many clauses all steps and times have
pub repeated_long : (r : Repeats) → length (repeated r) ≡ r.horizon * length r.step + (r.horizon + 1) * length r.time
repeated_long r =
    omega (arith, length-append (flat_map (step_part r) (range_with_len 0 r.horizon)) (flat_map (time_part r) (range_with_len 0 (r.horizon + 1))), blocks_long (step_part r) (length r.step) (λ u. length-map r.step _) 0 r.horizon, blocks_long (time_part r) (length r.time) (λ t. length-map r.time _) 0 (r.horizon + 1))

-- the parts that the numbers are of
same_part : (z : Shape) (v : ℕ) (told : List (List ℕ)) (r : Repeats) (after : List (List ℕ)) → AreNumbers z v told r after → r ≡ record { horizon = z.horizon; width = z.width; facts = z.facts; step = r.step; time = r.time }
same_part z v told r after n =
    let a : r ≡ record { horizon = z.horizon; width = r.width; facts = r.facts; step = r.step; time = r.time } = ap (λ (k : ℕ). (let q : Repeats = record { horizon = k; width = r.width; facts = r.facts; step = r.step; time = r.time } in q)) (sym n.horizon) in
    let b : record { horizon = z.horizon; width = r.width; facts = r.facts; step = r.step; time = r.time } ≡ record { horizon = z.horizon; width = z.width; facts = r.facts; step = r.step; time = r.time } = ap (λ (k : ℕ). (let q : Repeats = record { horizon = z.horizon; width = k; facts = r.facts; step = r.step; time = r.time } in q)) (sym n.width) in
    let c : record { horizon = z.horizon; width = z.width; facts = r.facts; step = r.step; time = r.time } ≡ record { horizon = z.horizon; width = z.width; facts = z.facts; step = r.step; time = r.time } = ap (λ (k : ℕ). (let q : Repeats = record { horizon = z.horizon; width = z.width; facts = k; step = r.step; time = r.time } in q)) (sym n.facts) in
    a ∙ b ∙ c

pub same_clauses : (z : Shape) (v : ℕ) (told step time : List (List ℕ)) (r : Repeats) (after cs : List (List ℕ)) → AreNumbers z v told r after → step ≡ r.step → time ≡ r.time → cs ≡ told ++ (repeated r ++ after) → clauses_of z told step time after ≡ cs
same_clauses z v told step time r after cs n es et e =
    ap (λ (xs : List (List ℕ)). clauses_of z told xs time after) es
    ∙ ap (λ (xs : List (List ℕ)). clauses_of z told r.step xs after) et
    ∙ sym (ap (λ (q : Repeats). told ++ (repeated q ++ after)) (same_part z v told r after n))
    ∙ sym e

-- what is worked out of them
pub shape_made : (z : Shape) (v : ℕ) (told : List (List ℕ)) (r : Repeats) (after : List (List ℕ)) → AreNumbers z v told r after → v ≤ 2147483647 → variables_of r ≤ v → length told + (length (repeated r) + length after) ≤ 1073741824 → z.all_steps ≡ r.horizon * length r.step → z.before ≡ z.tolds + length (repeated r) → z.facts_begin ≡ 2 * (z.horizon * z.width) → z.facts_end ≡ z.facts_begin + 2 * (z.horizon * z.facts + z.facts) → z.step_codes ≡ 2 * z.width → z.time_codes ≡ 2 * z.facts → IsShape z
shape_made z v told r after n small fits few steps before begin end step_codes time_codes = record {
  step_codes = step_codes;
  time_codes = time_codes;
  all_steps = steps ∙ sym hs;
  variables = omega (arith, fits, hw, hf, n.facts, n.variables_is);
  small = omega (arith, small, n.variables_is);
  few = omega (arith, few, long, repeated_long r, n.tolds, n.afters);
  before = omega (arith, before, long, repeated_long r);
  begin = begin;
  end = omega (arith, end, begin);
}
  where
    hw : z.horizon * z.width ≡ r.horizon * r.width
    hw = ap (λ (k : ℕ). k * z.width) n.horizon ∙ ap (λ (k : ℕ). r.horizon * k) n.width

    hf : z.horizon * z.facts ≡ r.horizon * r.facts
    hf = ap (λ (k : ℕ). k * z.facts) n.horizon ∙ ap (λ (k : ℕ). r.horizon * k) n.facts

    hs : z.horizon * z.steps ≡ r.horizon * length r.step
    hs = ap (λ (k : ℕ). k * z.steps) n.horizon ∙ ap (λ (k : ℕ). r.horizon * k) n.steps

    ht : z.horizon * z.times ≡ r.horizon * length r.time
    ht = ap (λ (k : ℕ). k * z.times) n.horizon ∙ ap (λ (k : ℕ). r.horizon * k) n.times

    long : z.horizon * z.steps + (z.horizon + 1) * z.times ≡ r.horizon * length r.step + (r.horizon + 1) * length r.time
    long = omega (arith, hs, ht, n.times)
