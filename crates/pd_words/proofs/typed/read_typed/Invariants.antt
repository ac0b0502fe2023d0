use Rattle.std.proofs.Common.{◌≡◌, [], length}
use Rattle.pd_sexp.specs.View.{views}
use Rattle.pd_words.specs.Typed.{typed_from}
use Rattle.pd_words.proofs.typed.read_typed.Given as goal

abbrev pub invariant-loop-item : goal.invariant-loop-item
invariant-loop-item g l =
    typed_from g.L.TypedList.admits (g.L.TypedList.kind_of l.types) g.L.TypedList.gives g.L.TypedList.untyped (g.L.TypedList.listed l.list) l.waiting.items (views l.rest)
    ≡ typed_from g.L.TypedList.admits (g.L.TypedList.kind_of l.types) g.L.TypedList.gives g.L.TypedList.untyped (g.L.TypedList.listed l.fn.list) [] (views l.items)

abbrev pub decreases-loop-item : goal.decreases-loop-item
decreases-loop-item g l = length l.rest
