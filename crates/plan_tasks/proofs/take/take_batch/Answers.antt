use Rattle.std.proofs.Common.{◌≡◌, ◌++◌, ◌∷◌, [], refl, subst, sym, ltb-false, length, None, arith, length-append}
use Rattle.std.proofs.lemmas.Option.{slice_get_read}
use Rattle.clap.specs.Walk.{texts}
use Rattle.plan_endings.specs.declared.ending.File.{File}
use Rattle.plan_endings.specs.declared.ending.File.TheVariants.{Problem}
use Rattle.plan_endings.proofs.published.Stopped.{Stops-handed}
use Rattle.plan_tasks.specs.Limits.{file_in}
use Rattle.plan_tasks.specs.Files.{IsFault, IsKept, IsWholeOrFront}
use Rattle.plan_tasks.proofs.published.Hearing.{more_heard, agrees_more}
use Rattle.plan_tasks.proofs.published.Taking.{problem_at, text_at, no_text_at, noted_so, noted_here, rises_so, ends_here, one_ends, one_kept, one_more, all_taken}
use Rattle.plan_tasks.proofs.take.take_batch.Goals as goal

pub returns-in_err-domain-clause-stops : goal.returns-in_err-domain-clause-stops
returns-in_err-domain-clause-stops g c =
    Stops-handed _ _
    (λ end h. (h.0, h.1, one_ends (IsFault (g.S.Shelf.failed c.args.shelf.now) (g.S.Shelf.failed c.read.new.shelf)) (IsKept IsWholeOrFront) (file_in Problem) 0 c.args.domain.now (texts c.args.problems.now) h.0 end h.2))
    c.in_err-domain.field-0.0 c.from_residual.result c.from_residual.ensures.1 (c.in_err-domain.ensures.ends (g.S.Shelf.failed c.args.shelf.now) (λ name. omega arith))

pub taking-init : goal.taking-init
taking-init g c =
    let k = c.in_ok-domain.ensures.kept in
    record {
      told = c.in_ok-domain.ensures.told;
      lacks = c.in_ok-domain.ensures.lacks;
      agrees = c.in_ok-domain.ensures.agrees;
      so = (k.0 ∷ [], k.1, rw c.new.ensures.items (one_kept (c.args.domain.now ∷ texts c.args.problems.now) (g.S.Shelf.failed c.args.shelf.now) (g.S.Shelf.failed c.read.new.shelf) c.args.domain.now refl c.in_ok-domain.ensures.notes k.0 c.in_ok-domain.domain k.2));
    }

pub returns-in_err-file-clause-noted : goal.returns-in_err-file-clause-noted
returns-in_err-file-clause-noted g c =
    noted_here _ _ (file_in Problem) _ _ _ _ _ c.taking.invariant.so.2 (g.S.Shelf.failed c.read-in-Some.new.shelf) c.in-Some.name.now.now
    (text_at c.args.domain.now c.args.problems.now c.len.result (length (c.taking.files.domain ∷ c.taking.files.problems.items)) c.in-Some.name.now (omega (arith, c.taking.files.problems.ok)) (slice_get_read c.args.problems.now (length c.args.problems.now) c.len.result c.in-Some.name.now refl c.in-Some.ensures.lookup.3.0 c.in-Some.ensures.lookup.1)) c.in_err-file.ensures.notes

pub returns-in_err-file-clause-agrees : goal.returns-in_err-file-clause-agrees
returns-in_err-file-clause-agrees g c =
    agrees_more _ _ (g.S.Shelf.heard c.args.shelf.now) (g.S.Shelf.heard c.taking.shelf) (g.S.Shelf.heard c.read-in-Some.new.shelf) c.taking.invariant.agrees
    (rw (c.taking.invariant.told, c.taking.invariant.lacks) at c.in_err-file.ensures.agrees)

pub returns-in_err-push-clause-agrees : goal.returns-in_err-push-clause-agrees
returns-in_err-push-clause-agrees g c =
    agrees_more _ _ (g.S.Shelf.heard c.args.shelf.now) (g.S.Shelf.heard c.taking.shelf) (g.S.Shelf.heard c.read-in-Some.new.shelf) c.taking.invariant.agrees
    (rw (c.taking.invariant.told, c.taking.invariant.lacks) at c.in_ok-file.ensures.agrees)

pub returns-in_err-file-clause-stops : goal.returns-in_err-file-clause-stops
returns-in_err-file-clause-stops g c =
    let next = g.S.Shelf.failed c.read-in-Some.new.shelf in
    let so = c.taking.invariant.so in
    let at = text_at c.args.domain.now c.args.problems.now c.len.result (length (c.taking.files.domain ∷ c.taking.files.problems.items)) c.in-Some.name.now (omega (arith, c.taking.files.problems.ok)) (slice_get_read c.args.problems.now (length c.args.problems.now) c.len.result c.in-Some.name.now refl c.in-Some.ensures.lookup.3.0 c.in-Some.ensures.lookup.1) in
    let rises = rises_so _ _ (file_in Problem) _ _ _ _ _ so.2 in
    Stops-handed _ _
    (λ end h. (
      so.0 ++ h.0,
      more_heard (g.S.Shelf.heard c.args.shelf.now) (g.S.Shelf.heard c.taking.shelf) (g.S.Shelf.heard c.read-in-Some.new.shelf) so.0 h.0 so.1 h.1,
      ends_here _ _ (file_in Problem) _ _ _ _ _ so.2 next c.in-Some.name.now.now at c.in_err-file.ensures.notes h.0 end (subst (λ (file : File). IsFault (g.S.Shelf.failed c.args.shelf.now) next file c.in-Some.name.now.now h.0 end) (sym (problem_at (length c.taking.files.problems.items))) h.2),
    ))
    c.in_err-file.field-0.0 c.from_residual-in_err-file.result c.from_residual-in_err-file.ensures.1 (c.in_err-file.ensures.ends (g.S.Shelf.failed c.args.shelf.now) rises)

pub taking-preserved : goal.taking-preserved
taking-preserved g c =
    let so = c.taking.invariant.so in
    let at = text_at c.args.domain.now c.args.problems.now c.len.result (length (c.taking.files.domain ∷ c.taking.files.problems.items)) c.in-Some.name.now (omega (arith, c.taking.files.problems.ok)) (slice_get_read c.args.problems.now (length c.args.problems.now) c.len.result c.in-Some.name.now refl c.in-Some.ensures.lookup.3.0 c.in-Some.ensures.lookup.1) in
    let kept = c.in_ok-file.ensures.kept in
    record {
      told = cc (c.in_ok-file.ensures.told, c.taking.invariant.told);
      lacks = cc (c.in_ok-file.ensures.lacks, c.taking.invariant.lacks);
      agrees = agrees_more _ _ (g.S.Shelf.heard c.args.shelf.now) (g.S.Shelf.heard c.taking.shelf) (g.S.Shelf.heard c.read-in-Some.new.shelf) c.taking.invariant.agrees
          (rw (c.taking.invariant.told, c.taking.invariant.lacks) at c.in_ok-file.ensures.agrees);
      so = (
        so.0 ++ kept.0 ∷ [],
        more_heard (g.S.Shelf.heard c.args.shelf.now) (g.S.Shelf.heard c.taking.shelf) (g.S.Shelf.heard c.read-in-Some.new.shelf) so.0 (kept.0 ∷ []) so.1 kept.1,
        rw c.in_ok-push.ensures.items (one_more _ _ (file_in Problem) _ _ _ _ _ so.2 (g.S.Shelf.failed c.read-in-Some.new.shelf) c.in-Some.name.now.now at c.in_ok-file.ensures.notes kept.0 c.in_ok-file.file (subst (λ (file : File). IsWholeOrFront file c.in-Some.name.now.now kept.0 c.in_ok-file.file) (sym (problem_at (length c.taking.files.problems.items))) kept.2)),
      );
    }

pub returns-clause-noted : goal.returns-clause-noted
returns-clause-noted g c = noted_so _ _ (file_in Problem) _ _ _ _ _ c.taking.invariant.so.2

pub returns-clause-taken : goal.returns-clause-taken
returns-clause-taken g c =
    let so = c.taking.invariant.so in
    (so.0, so.1, all_taken _ _ (file_in Problem) _ _ _ _ _ so.2 (no_text_at c.args.domain.now c.args.problems.now c.len.result (length (c.taking.files.domain ∷ c.taking.files.problems.items)) (omega (arith, c.taking.files.problems.ok)) (ltb-false c.len.result (length c.args.problems.now) (sym c.in_default.ensures.lookup.0))))

pub returns-in_err-push-clause-noted : goal.returns-in_err-push-clause-noted
returns-in_err-push-clause-noted g c =
    noted_here _ _ (file_in Problem) _ _ _ _ _ c.taking.invariant.so.2 (g.S.Shelf.failed c.read-in-Some.new.shelf) c.in-Some.name.now.now
    (text_at c.args.domain.now c.args.problems.now c.len.result (length (c.taking.files.domain ∷ c.taking.files.problems.items)) c.in-Some.name.now (omega (arith, c.taking.files.problems.ok)) (slice_get_read c.args.problems.now (length c.args.problems.now) c.len.result c.in-Some.name.now refl c.in-Some.ensures.lookup.3.0 c.in-Some.ensures.lookup.1)) c.in_ok-file.ensures.notes
