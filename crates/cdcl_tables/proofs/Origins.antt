-- Of which step or time a literal is, by the divisors that a shape keeps.
use Rattle.std.proofs.Common.{arith, ◌≡◌, ℕ, ◌-◌, ◌/◌, ◌%◌, ◌<◌, ◌≤◌, ap, ◌∙◌}
use Rattle.cdcl_tables.specs.declared.shape.Shape.{Shape}
use Rattle.cdcl_tables.specs.declared.origin.Origin.TheVariants.{Step, Time}
use Rattle.cdcl_tables.specs.Origin.{IsOrigin}
use Rattle.cdcl_tables.specs.own.Lists.{IsShape, facts_begin, facts_end}

-- of a step
pub of_step : (z : Shape) (x step code : ℕ) → IsShape z → x < z.facts_begin → step ≡ x / z.step_codes → code ≡ x % z.step_codes → IsOrigin z x (Step step code)
of_step z x step code s low quotient rest =
    (omega (arith, low, s.begin), quotient ∙ ap (λ (k : ℕ). x / k) s.step_codes, rest ∙ ap (λ (k : ℕ). x % k) s.step_codes)

-- of a time
pub of_time : (z : Shape) (x time code : ℕ) → IsShape z → z.facts_begin ≤ x → x < z.facts_end → time ≡ (x - z.facts_begin) / z.time_codes → code ≡ (x - z.facts_begin) % z.time_codes → IsOrigin z x (Time time code)
of_time z x time code s high within quotient rest =
    let begin : (x - z.facts_begin) / z.time_codes ≡ (x - facts_begin z) / z.time_codes = ap (λ (k : ℕ). (x - k) / z.time_codes) s.begin in
    let begins : (x - z.facts_begin) % z.time_codes ≡ (x - facts_begin z) % z.time_codes = ap (λ (k : ℕ). (x - k) % z.time_codes) s.begin in (
      omega (arith, high, s.begin),
      omega (arith, within, s.end),
      quotient ∙ begin ∙ ap (λ (k : ℕ). (x - facts_begin z) / k) s.time_codes,
      rest ∙ begins ∙ ap (λ (k : ℕ). (x - facts_begin z) % k) s.time_codes,
    )
