-- An action and a clause that are looked through.
use Rattle.std.specs.Prelude.{◌≡◌, ℕ, ◌+◌, ◌*◌, ◌<◌, ◌≤◌, List, length, take, drop, slice_index}
use Rattle.std.specs.List.{AllByRecursion}
use Rattle.gt_core.specs.Literal.{opposite, is_in}
use Rattle.implied_literals.specs.Rows.{HasNoPair}
use Rattle.implied_literals.specs.Tested.{ActionFits}
use Rattle.never_defs.specs.Cases.{Case, cases_of, none_makes, if_made}
use Rattle.never_check.specs.Trail.{Reached}
use Rattle.never_check.specs.Follow.{AreBelow}
use Rattle.never_check.specs.Rules.{AreRules, AreFollowed}
use Rattle.never_check.specs.Refuted.{AreContradicted, IsWayContradicted}
use Rattle.never_check.specs.declared.cases.Pair.{Pair}
use Rattle.never_check.specs.declared.cases.Held.{Held}
use Rattle.never_check.specs.declared.cases.At.{At}

-- the action and the clause are over the facts of the rules
pub record IsPairOf (pair : Pair) : Type 0 where
  pub rules : AreRules pair.rules.now
  pub fits : ActionFits (2 * pair.rules.now.known.now.facts) pair.act.now
  pub over : AreBelow (2 * pair.rules.now.known.now.facts) pair.clause.now

-- a trail without two opposite literals, followed up to a place, and clauses over its facts
pub record IsReady (pair : Pair) (held : Held) (trail : Reached) : Type 0 where
  pub facts : trail.facts ≡ pair.rules.now.known.now.facts
  pub more : AllByRecursion (AreBelow (2 * trail.facts)) held.more.now
  pub within : held.from ≤ length trail.literals
  pub followed : AreFollowed pair.rules.now (take held.from trail.literals) trail.literals
  pub apart : HasNoPair (is_in trail.literals)

-- the clause is looked through from a place on
pub record IsAt (looked : Pair) (from : ℕ) (held : Held) (trail : Reached) : Type 0 where
  pub pair : IsPairOf looked
  pub place : from ≤ length looked.clause.now
  pub ready : IsReady looked held trail

-- a literal of the clause is looked at
pub record IsPlace (at : At) (held : Held) (trail : Reached) : Type 0 where
  pub pair : IsPairOf at.pair.now
  pub place : at.place < length at.pair.now.clause.now
  pub none : at.none.now ≡ none_makes at.pair.now.act.now (opposite (opposite (slice_index at.pair.now.clause.now at.place)))
  pub ready : IsReady at.pair.now held trail

-- each case of the literals from a place on is contradicted
abbrev pub AreLeftRefuted : Pair → ℕ → Held → Reached → Type 0
AreLeftRefuted pair place held trail = AreContradicted pair.rules.now held.more.now trail.literals (cases_of pair.act.now (drop place pair.clause.now))

-- each case of the literals behind a place is contradicted, together with one way at the place
abbrev pub IsWayRefutedAt : Pair → ℕ → Held → Reached → Case → Type 0
IsWayRefutedAt pair place held trail way = IsWayContradicted pair.rules.now held.more.now trail.literals (cases_of pair.act.now (drop (place + 1) pair.clause.now)) way

-- the same of the place that is looked at
abbrev pub IsWayRefuted : At → Held → Reached → Case → Type 0
IsWayRefuted at held trail way = IsWayRefutedAt at.pair.now at.place held trail way

-- the way in which an effect with this condition made the opposite of the literal at a place
abbrev pub made_at : At → List ℕ → Case
made_at at cond = record { literals = cond; clauses = if_made at.pair.now.act.now (opposite (slice_index at.pair.now.clause.now at.place)) }
