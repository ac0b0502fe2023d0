-- The order of atoms tells exactly equal atoms apart, and equal atoms are the same atom.
use Rattle.std.proofs.Common.{◌≡◌, Bool, true, List, refl, ◌∙◌, sym}
use Rattle.std.specs.Prelude.{◌&&◌, ◌==◌}
use Rattle.std.specs.List.{list_any}
use Rattle.std.specs.declared.cmp.Ordering.{Ordering}
use Rattle.std.specs.declared.cmp.Ordering.TheVariants.{Less, Equal, Greater}
use Rattle.std.specs.Ordering.{is_eq, ordering_then, nat_cmp}
use Rattle.std.specs.Cmp.{unsigned_ties, unsigned_Decides}
use Rattle.std.specs.Cmp.Lexicographic.{slice_cmp, texts_ties}
use Rattle.std.specs.Str.{bytes_eq as same_numbers}
use Rattle.std.proofs.lemmas.Bool.{and_parts}
use Rattle.std.proofs.lemmas.Bool.Decides.{same_from_decides}
use Rattle.std.proofs.lemmas.Slice.Eq.{bytes_eq-Decides}
use Rattle.pd_model.specs.declared.atoms.Atom.{Atom}
use Rattle.pd_model.specs.State.{same_atom, is_in}
use Rattle.pd_model.specs.Order.{atom_cmp}

pub is_eq-then : (o q : Ordering) → is_eq (ordering_then o q) ≡ (is_eq o && is_eq q)
is_eq-then Less q = refl
is_eq-then Equal q = refl
is_eq-then Greater q = refl

pub tied : (a b : Atom) → is_eq (atom_cmp a b) ≡ same_atom a b
tied a b =
    is_eq-then (nat_cmp a.predicate b.predicate) (slice_cmp nat_cmp a.objects b.objects)
    ∙ λ i. sym (unsigned_ties a.predicate b.predicate) i && sym (texts_ties a.objects b.objects) i

pub any_tied : (a : Atom) (s : List Atom) → list_any (λ b. is_eq (atom_cmp a b)) s ≡ is_in a s
any_tied a s = λ i. list_any (λ b. tied a b i) s

-- equal atoms are the same atom
pub same_is : (a b : Atom) → same_atom a b ≡ true → a ≡ b
same_is a b h =
    let parts = and_parts (a.predicate == b.predicate) (same_numbers a.objects b.objects) h in
    let p : a.predicate ≡ b.predicate = (unsigned_Decides a.predicate b.predicate).0 parts.0 in
    let o : a.objects ≡ b.objects = (bytes_eq-Decides a.objects b.objects).0 parts.1 in
    λ i. record { predicate = p i; objects = o i }

pub same_refl : (a : Atom) → same_atom a a ≡ true
same_refl a =
    λ i. (unsigned_Decides a.predicate a.predicate).1 refl i && (bytes_eq-Decides a.objects a.objects).1 refl i

from_true : (a b : Atom) (t : Bool) → same_atom a b ≡ t → t ≡ true → same_atom b a ≡ true
from_true a b t is on = let e = same_is a b (is ∙ on) in rw e (same_refl b)

pub same_symm : (a b : Atom) → same_atom a b ≡ same_atom b a
same_symm a b = same_from_decides (same_atom a b) (same_atom b a) (λ h. h, λ h. h) (λ h. from_true b a true h refl, λ h. from_true a b true h refl)
