-- What is held of a line while it is read.
use Rattle.std.specs.Prelude.{◌≡◌, ◌++◌, ◌||◌, not, List}
use Rattle.std.specs.List.{list_any}
use Rattle.sat_text.specs.declared.words.Signed.{Signed}
use Rattle.sat_text.specs.declared.lrat_line.Line.{Line}
use Rattle.sat_text.specs.declared.lrat_line.Part.{Part}
use Rattle.sat_text.specs.declared.lrat_line.Part.TheVariants.{Literals, Ids}
use Rattle.sat_text.specs.LratLine.{codes_of, has_code, plain_ids}

-- the id and the kind stay as they are
pub record SameHead (old new : Line) : Type 0 where
  pub id : new.id ≡ old.id
  pub deletes : new.deletes ≡ old.deletes

-- these literals were read: the codes of those that have one are added, and whether one has none is held
pub record ReadsLiterals (old new : Line) (literals : List Signed) : Type 0 where
  pub head : SameHead old new
  pub lits : new.lits.items ≡ old.lits.items ++ codes_of literals
  pub hints : new.ids.items ≡ old.ids.items
  pub foreign : new.foreign ≡ (old.foreign || list_any (λ told. not (has_code told)) literals)

-- these hints, or ids of what is deleted, were read: those without a minus are added, and whether one has a minus is held
pub record ReadsIds (old new : Line) (ids : List Signed) : Type 0 where
  pub head : SameHead old new
  pub lits : new.lits.items ≡ old.lits.items
  pub hints : new.ids.items ≡ old.ids.items ++ plain_ids ids
  pub foreign : new.foreign ≡ (old.foreign || list_any (λ told. told.minus) ids)

-- these numbers of one of the two lists were read
abbrev pub Reads : Part → Line → Line → List Signed → Type 0
Reads Literals = ReadsLiterals
Reads Ids = ReadsIds
