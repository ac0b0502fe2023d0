use Rattle.std.proofs.Common.{arith, ◌≡◌, ◌<◌, ◌-◌, ℕ, List, length, get_or, ◌∙◌, ap}
use Rattle.std.proofs.lemmas.List.{get_or_default}
use Rattle.cdcl_defs.specs.State.{decision_count}
use Rattle.cdcl_tables.specs.Mirrored.{TrailView, starts_from}
use Rattle.cdcl_tables.proofs.published.Levels.{starts_len}
use Rattle.cdcl_tables.proofs.Lookups.{start_none, start_last}
use Rattle.cdcl_tables.proofs.trail.Trail.start.Goals as goal

pub returns-then-level-eq0 : goal.returns-then-level-eq0
returns-then-level-eq0 c =
    let t = c.self.inside in
    let w = c.args.self.now in
    let same = ap (λ (xs : List ℕ). length xs) c.self.invariant.0.starts_are in
    let view = ap (λ (w : TrailView). decision_count w.entries) c.self.view_is in
    let none : decision_count w.entries ≡ 0 = omega (arith, starts_len 0 t.entries.items, same, c.len-level.ensures, t.starts.ok, c.if-level-eq0.true, view) in
    start_none w.entries none

pub returns : goal.returns
returns c =
    let t = c.self.inside in
    let w = c.args.self.now in
    let same : t.starts.items ≡ starts_from 0 w.entries = c.self.invariant.0.starts_are ∙ ap (λ (w : TrailView). starts_from 0 w.entries) c.self.view_is in
    let long : c.len-level.result ≡ length (starts_from 0 w.entries) = omega (arith, c.len-level.ensures, t.starts.ok, ap (λ (xs : List ℕ). length xs) same) in
    let some : 0 < length (starts_from 0 w.entries) = omega (arith, long, c.if-level-eq0.false) in
    let last : c.index.result.now ≡ get_or (starts_from 0 w.entries) (length (starts_from 0 w.entries) - 1) 0 =
    c.index.ensures
    ∙ ap (λ (xs : List ℕ). get_or xs (c.len-level.result - 1) c.index.result.now) same
    ∙ ap (λ (k : ℕ). get_or (starts_from 0 w.entries) (k - 1) c.index.result.now) long
    ∙ get_or_default (starts_from 0 w.entries) (length (starts_from 0 w.entries) - 1) c.index.result.now 0 (omega (arith, some)) in
    start_last w.entries c.index.result.now some last
