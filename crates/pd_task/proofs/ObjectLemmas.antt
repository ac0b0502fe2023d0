-- The names and the types of objects.
use Rattle.std.proofs.Common.{◌≡◌, ℕ, suc, ◌<◌, List, [], ◌∷◌, ◌++◌, length, map, get_or, slice_index, refl, ap, sym, ◌∙◌}
use Rattle.std.proofs.lemmas.List.{get_or-map, map-append}
use Rattle.pd_model.specs.Types.{kinds_of}
use Rattle.pd_model.specs.declared.objects.ObjectDecl.{ObjectDecl}
use Rattle.pd_model.specs.declared.predicates.Predicate.{Predicate}
use Rattle.pd_model.specs.Names.{predicate_names, arities_of}

pub kind_is : (objects : List ObjectDecl) (i : ℕ) (o : ObjectDecl) → i < length objects → o ≡ get_or objects i o → slice_index (kinds_of objects) i ≡ o.kind
kind_is objects i o lt is = get_or-map (λ o. o.kind) objects i o 0 lt ∙ ap (λ (x : ObjectDecl). x.kind) (sym is)

pub map_push : {A B : Type 0} (f : A → B) (xs : List A) (x : A) → map f (xs ++ x ∷ []) ≡ map f xs ++ f x ∷ []
map_push f xs x = map-append f xs (x ∷ [])

pub same_lengths : (predicates : List Predicate) → length (arities_of predicates) ≡ length (predicate_names predicates)
same_lengths [] = refl
same_lengths (p ∷ ps) = ap suc (same_lengths ps)
