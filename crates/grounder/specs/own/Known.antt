-- What is known while literals are simplified.
use Rattle.std.specs.Prelude.{◌≤◌, length}
use Rattle.pd_model.specs.State.{SameState}
use Rattle.grounding_defs.specs.Sorted.{atom_less, IsSorted}
use Rattle.grounder.specs.declared.known.Known.{Known}
use Rattle.gt_core.specs.Limits.{most_facts}

-- the facts are sorted, few enough that their literals are numbers of 32 bits, and the initial atoms are those of the task
pub record IsKnown (known : Known) : Type 0 where
  pub sorted : IsSorted atom_less known.facts
  pub few : length known.facts ≤ most_facts
  pub initial : SameState known.initial known.domains.now.init
