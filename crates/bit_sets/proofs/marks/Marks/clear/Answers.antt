use Rattle.std.proofs.Common.{arith, false, ◌∙◌, length-set}
use Rattle.bit_sets.proofs.published.Places.{covers_last, covers_set, emptied}
use Rattle.bit_sets.proofs.marks.Marks.clear.Goals as goal

pub index_mut-requires : goal.index_mut-requires
index_mut-requires c =
    let h = covers_last _ _ _ _ c.in-Some.ensures.items c.loop-touched.invariant.covers in
    omega (arith, h, c.loop-touched.self-inside.on.ok)

pub loop-touched-preserved : goal.loop-touched-preserved
loop-touched-preserved c = record {
  covers = covers_set _ _ _ _ c.in-Some.ensures.items c.loop-touched.invariant.covers;
  size = length-set c.loop-touched.self-inside.on.items c.in-Some.touched false ∙ c.loop-touched.invariant.size;
}

pub returns-clause-emptied : goal.returns-clause-emptied
returns-clause-emptied c =
    let touched = c.loop-touched.self-inside.touched in
    emptied touched.items c.loop-touched.self-inside.on.items c.loop-touched.invariant.covers (omega (arith, c.in_default.ensures.cases.0, touched.ok))
