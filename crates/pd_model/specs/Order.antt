-- The order in which atoms are sorted and looked up.
use Rattle.std.specs.declared.cmp.Ordering.{Ordering}
use Rattle.std.specs.Ordering.{nat_cmp, ordering_then}
use Rattle.std.specs.Cmp.Lexicographic.{slice_cmp}
use Rattle.pd_model.specs.declared.atoms.Atom.{Atom}

-- atoms by predicate, then by objects from the left
abbrev pub atom_cmp : Atom → Atom → Ordering
atom_cmp a b = ordering_then (nat_cmp a.predicate b.predicate) (slice_cmp nat_cmp a.objects b.objects)
