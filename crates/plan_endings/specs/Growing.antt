-- A batch to which parts are added.
use Rattle.std.specs.Prelude.{◌≡◌, List, length, map}
use Rattle.plan_endings.specs.Ending.{greatest, parts_text, status_of}
use Rattle.plan_endings.specs.declared.ending.Ending.{Ending}
use Rattle.plan_endings.specs.declared.parts.Growing.{Growing}

-- it has these parts so far
pub record Has (growing : Growing) (parts : List Ending) : Type 0 where
  pub count : growing.count ≡ length parts
  pub status : growing.status ≡ greatest (map status_of parts)
  pub text : growing.text.items ≡ parts_text 1 parts
