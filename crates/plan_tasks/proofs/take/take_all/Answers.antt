use Rattle.std.proofs.Common.{◌∷◌, [], refl, arith}
use Rattle.plan_tasks.specs.Limits.{file_in}
use Rattle.plan_tasks.specs.Named.{names_of, third_name, third_bytes}
use Rattle.plan_tasks.specs.Files.{IsKept, IsWhole, Stops}
use Rattle.plan_endings.proofs.published.Stopped.{Stops-handed}
use Rattle.plan_tasks.proofs.published.Hearing.{more_heard, agrees_three}
use Rattle.plan_tasks.proofs.published.Taking.{rises_so, noted_here, noted_then, ends_here, one_ends, one_whole, two_whole}
use Rattle.plan_tasks.proofs.take.take_all.Goals as goal

pub returns-in_err-domain-clause-stops : goal.returns-in_err-domain-clause-stops
returns-in_err-domain-clause-stops g c =
    Stops-handed _ _ (λ end h. (h.0, h.1, one_ends (Stops (g.S.Shelf.failed c.args.shelf.now) (g.S.Shelf.failed c.read.new.shelf)) (IsKept IsWhole) (file_in c.args.third) 0 c.args.names.domain.now (c.args.names.problem.now ∷ third_name c.args.names.third) h.0 end h.2)) c.in_err-domain.field-0.0 c.from_residual.result c.from_residual.ensures.1
    (c.in_err-domain.ensures.ends (g.S.Shelf.failed c.args.shelf.now) (λ name. omega arith))

pub returns-in_err-problem-clause-noted : goal.returns-in_err-problem-clause-noted
returns-in_err-problem-clause-noted g c =
    let k = c.in_ok-domain.ensures.kept in
    noted_here _ _ (file_in c.args.third) _ _ _ _ _ (one_whole c.args.third (names_of c.args.names) (g.S.Shelf.failed c.args.shelf.now) (g.S.Shelf.failed c.read.new.shelf) c.args.names.domain.now refl c.in_ok-domain.ensures.notes k.0 c.in_ok-domain.domain k.2)
    (g.S.Shelf.failed c.read-2.new.shelf) c.args.names.problem.now refl c.in_err-problem.ensures.notes

pub returns-in_err-problem-clause-stops : goal.returns-in_err-problem-clause-stops
returns-in_err-problem-clause-stops g c =
    let k = c.in_ok-domain.ensures.kept in
    let so = one_whole c.args.third (names_of c.args.names) (g.S.Shelf.failed c.args.shelf.now) (g.S.Shelf.failed c.read.new.shelf) c.args.names.domain.now refl c.in_ok-domain.ensures.notes k.0 c.in_ok-domain.domain k.2 in
    Stops-handed _ _
    (λ end h. (
      k.0 ∷ h.0,
      more_heard (g.S.Shelf.heard c.args.shelf.now) (g.S.Shelf.heard c.read.new.shelf) (g.S.Shelf.heard c.read-2.new.shelf) (k.0 ∷ []) h.0 k.1 h.1,
      ends_here _ _ (file_in c.args.third) _ _ _ _ _ so (g.S.Shelf.failed c.read-2.new.shelf) c.args.names.problem.now refl c.in_err-problem.ensures.notes h.0 end h.2,
    ))
    c.in_err-problem.field-0.0 c.from_residual-in_err-problem.result c.from_residual-in_err-problem.ensures.1
    (c.in_err-problem.ensures.ends (g.S.Shelf.failed c.args.shelf.now) (rises_so _ _ (file_in c.args.third) _ _ _ _ _ so))

pub returns-in_err-third-clause-noted : goal.returns-in_err-third-clause-noted
returns-in_err-third-clause-noted g c =
    let so = two_whole c.args.third (names_of c.args.names) (g.S.Shelf.failed c.args.shelf.now) (g.S.Shelf.failed c.read.new.shelf) (g.S.Shelf.failed c.read-2.new.shelf) c.args.names.domain.now c.args.names.problem.now refl refl c.in_ok-domain.ensures.notes c.in_ok-problem.ensures.notes c.in_ok-domain.ensures.kept.0 c.in_ok-problem.ensures.kept.0 c.in_ok-domain.domain c.in_ok-problem.problem c.in_ok-domain.ensures.kept.2 c.in_ok-problem.ensures.kept.2 in
    let more = c.in_err-third.ensures.notes in
    noted_then (names_of c.args.names) (g.S.Shelf.failed c.args.shelf.now) (g.S.Shelf.failed c.read-2.new.shelf) (g.S.Shelf.failed c.take_third.new.shelf) 2 so.noted more.0 more.1 more.2

pub returns-in_err-third-clause-agrees : goal.returns-in_err-third-clause-agrees
returns-in_err-third-clause-agrees g c =
    agrees_three _ _ (g.S.Shelf.heard c.args.shelf.now) (g.S.Shelf.heard c.read.new.shelf) (g.S.Shelf.heard c.read-2.new.shelf) (g.S.Shelf.heard c.take_third.new.shelf) c.in_ok-domain.ensures.agrees
    (rw (c.in_ok-domain.ensures.told, c.in_ok-domain.ensures.lacks) at c.in_ok-problem.ensures.agrees)
    (rw (c.in_ok-problem.ensures.told, c.in_ok-problem.ensures.lacks, c.in_ok-domain.ensures.told, c.in_ok-domain.ensures.lacks) at c.in_err-third.ensures.agrees)

pub returns-in_err-third-clause-stops : goal.returns-in_err-third-clause-stops
returns-in_err-third-clause-stops g c =
    let k = c.in_ok-domain.ensures.kept in
    let l = c.in_ok-problem.ensures.kept in
    let so = two_whole c.args.third (names_of c.args.names) (g.S.Shelf.failed c.args.shelf.now) (g.S.Shelf.failed c.read.new.shelf) (g.S.Shelf.failed c.read-2.new.shelf) c.args.names.domain.now c.args.names.problem.now refl refl c.in_ok-domain.ensures.notes c.in_ok-problem.ensures.notes k.0 l.0 c.in_ok-domain.domain c.in_ok-problem.problem k.2 l.2 in
    Stops-handed _ _
    (λ end h. (
      k.0 ∷ l.0 ∷ h.0,
      more_heard (g.S.Shelf.heard c.args.shelf.now) (g.S.Shelf.heard c.read-2.new.shelf) (g.S.Shelf.heard c.take_third.new.shelf) (k.0 ∷ l.0 ∷ []) h.0 (more_heard (g.S.Shelf.heard c.args.shelf.now) (g.S.Shelf.heard c.read.new.shelf) (g.S.Shelf.heard c.read-2.new.shelf) (k.0 ∷ []) (l.0 ∷ []) k.1 l.1) h.1,
      so.on (g.S.Shelf.failed c.take_third.new.shelf) h.0 end h.2,
    ))
    c.in_err-third.field-0.0 c.from_residual-in_err-third.result c.from_residual-in_err-third.ensures.1
    (c.in_err-third.ensures.ends (g.S.Shelf.failed c.args.shelf.now) (rises_so _ _ (file_in c.args.third) _ _ _ _ _ so))

pub returns-clause-agrees : goal.returns-clause-agrees
returns-clause-agrees g c =
    agrees_three _ _ (g.S.Shelf.heard c.args.shelf.now) (g.S.Shelf.heard c.read.new.shelf) (g.S.Shelf.heard c.read-2.new.shelf) (g.S.Shelf.heard c.take_third.new.shelf) c.in_ok-domain.ensures.agrees
    (rw (c.in_ok-domain.ensures.told, c.in_ok-domain.ensures.lacks) at c.in_ok-problem.ensures.agrees)
    (rw (c.in_ok-problem.ensures.told, c.in_ok-problem.ensures.lacks, c.in_ok-domain.ensures.told, c.in_ok-domain.ensures.lacks) at c.in_ok-third.ensures.agrees)

pub returns-clause-taken : goal.returns-clause-taken
returns-clause-taken g c =
    let k = c.in_ok-domain.ensures.kept in
    let l = c.in_ok-problem.ensures.kept in
    let so = two_whole c.args.third (names_of c.args.names) (g.S.Shelf.failed c.args.shelf.now) (g.S.Shelf.failed c.read.new.shelf) (g.S.Shelf.failed c.read-2.new.shelf) c.args.names.domain.now c.args.names.problem.now refl refl c.in_ok-domain.ensures.notes c.in_ok-problem.ensures.notes k.0 l.0 c.in_ok-domain.domain c.in_ok-problem.problem k.2 l.2 in
    let m = c.in_ok-third.ensures.kept in
    (k.0 ∷ l.0 ∷ m.0, more_heard (g.S.Shelf.heard c.args.shelf.now) (g.S.Shelf.heard c.read-2.new.shelf) (g.S.Shelf.heard c.take_third.new.shelf) (k.0 ∷ l.0 ∷ []) m.0 (more_heard (g.S.Shelf.heard c.args.shelf.now) (g.S.Shelf.heard c.read.new.shelf) (g.S.Shelf.heard c.read-2.new.shelf) (k.0 ∷ []) (l.0 ∷ []) k.1 l.1) m.1, so.taken m.0 (third_bytes c.in_ok-third.third) m.2)

pub returns-clause-noted : goal.returns-clause-noted
returns-clause-noted g c =
    let so = two_whole c.args.third (names_of c.args.names) (g.S.Shelf.failed c.args.shelf.now) (g.S.Shelf.failed c.read.new.shelf) (g.S.Shelf.failed c.read-2.new.shelf) c.args.names.domain.now c.args.names.problem.now refl refl c.in_ok-domain.ensures.notes c.in_ok-problem.ensures.notes c.in_ok-domain.ensures.kept.0 c.in_ok-problem.ensures.kept.0 c.in_ok-domain.domain c.in_ok-problem.problem c.in_ok-domain.ensures.kept.2 c.in_ok-problem.ensures.kept.2 in
    let more = c.in_ok-third.ensures.notes in
    noted_then (names_of c.args.names) (g.S.Shelf.failed c.args.shelf.now) (g.S.Shelf.failed c.read-2.new.shelf) (g.S.Shelf.failed c.take_third.new.shelf) 2 so.noted more.0 more.1 more.2
