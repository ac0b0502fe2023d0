use Rattle.std.proofs.lemmas.List.{take_all}
use Rattle.std.proofs.Common.{[], ◌∷◌, ◌++◌, ap, ◌∙◌}
use Rattle.pd_model.specs.declared.types.TypeDecl.{TypeDecl}
use Rattle.pd_words.proofs.Lineage.{map_more}
use Rattle.pd_words.proofs.types.parents_in.Goals as goal

pub loop-decl-preserved : goal.loop-decl-preserved
loop-decl-preserved c =
    map_more (λ (t : TypeDecl). t.parent) c.args.decls.now c.loop-decl.decl-index c.decl-item.result c.loop-decl.parents.items c.push.new.self.items c.loop-decl-test.true c.loop-decl.invariant
    (c.in_ok-push.ensures.items ∙ ap (λ (t : TypeDecl). c.loop-decl.parents.items ++ t.parent ∷ []) c.decl-item.is)

pub returns-clause-parents : goal.returns-clause-parents
returns-clause-parents c = rw (take_all c.loop-decl.decl-index c.args.decls.now c.loop-decl-test.false) at c.loop-decl.invariant
