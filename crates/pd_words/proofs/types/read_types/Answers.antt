use Rattle.std.proofs.Common.{◌≡◌, ℕ, suc, [], ◌∷◌, refl, List, map, length, sym, arith}
use Rattle.pd_sexp.specs.View.{views}
use Rattle.pd_model.specs.declared.types.TypeDecl.{TypeDecl}
use Rattle.pd_words.specs.Types.{declared_from, only_object, with_parents, number_in, types_under, types_of}
use Rattle.pd_words.specs.Types as types
use Rattle.pd_words.specs.own.TypeList.{declared}
use Rattle.pd_words.proofs.published.Sound.{ok_is}
use Rattle.pd_words.proofs.published.TypeLemmas.{declared_counted, lawful, size_is, parents_grow, under_names}
use Rattle.pd_words.proofs.types.read_types.Goals as goal

same_decls : (d : types.Declared) (names parents : List (List ℕ)) (decls : List TypeDecl) → names ≡ with_parents d.names d.parents → parents ≡ d.parents
    → decls ≡ types_under names (0 ∷ map (number_in names) parents) → decls ≡ types_of d
same_decls d names parents decls a b e = rw (e, b, a) refl

pub check_places-requires : goal.check_places-requires
check_places-requires c =
    let d = declared c.in_ok-names.field-0 in
    let counted : length d.names ≡ suc (length d.places) = (ok_is (λ d. (length d.names ≡ suc (length d.places)) × (length d.places ≡ length d.parents)) (declared_from only_object [] (views c.args.items.now)) d c.in_ok-names.ensures (declared_counted (views c.args.items.now))).0 in
    let names : c.add_parents.new.names ≡ with_parents d.names d.parents = cc (c.in_ok-add_parents.ensures.added) in
    let parents : c.as_slice-2.result.now ≡ d.parents = cc in
    let is = same_decls d c.add_parents.new.names c.as_slice-2.result.now c.in_ok-decls.decls.items names parents c.in_ok-decls.ensures.types in
    let decls : c.as_slice-3.result.now ≡ types_of d = cc in
    let places : c.as_slice-4.result.now ≡ d.places = cc in
    record {
      parents = rw decls (lawful d (omega arith));
      room = rw (decls, places) (omega (arith, size_is d, parents_grow d.names d.parents));
    }

pub returns-clause-names : goal.returns-clause-names
returns-clause-names c =
    let names = c.add_parents.new.names in
    rw (c.of.ensures, c.in_ok-decls.ensures.types) (sym (under_names names (0 ∷ map (number_in names) c.as_slice-2.result.now)))
