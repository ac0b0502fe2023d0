-- Runs that were started, as workers advance them.
use Rattle.std.proofs.Common.{arith, ◌≡◌, ℕ, zero, suc, ◌+◌, Bool, true, false, ◌||◌, refl, sym, ap, ◌∙◌, Result, Ok, Err, OnOk}
use Rattle.cdcl_defs.specs.Run.{after}
use Rattle.horizon_run.specs.Run.{RunView, choice_in, moved_to, AddsUp, IsMoved, Stays}
use Rattle.horizon_run.specs.own.Resume.{origin, moved_by, still, goes}
use Rattle.horizon_run.proofs.Runs.{resumes, rests}
use Rattle.horizon_run.specs.own.Started.{one_if, is_none, still_begun, may_go}

suc-more : (a n : ℕ) → suc a + n ≡ suc (a + n)
suc-more a n = omega arith

-- to be granted more adds to nothing and to something alike
more : (a b n : ℕ) → one_if a ≡ one_if b → one_if (a + n) ≡ one_if (b + n)
more zero zero n e = refl
more zero (suc b) n e = cc
more (suc a) zero n e = cc
more (suc a) (suc b) n e = ap one_if (suc-more a n) ∙ sym (ap one_if (suc-more b n))

-- two runs of one state that were both granted nothing, or both something
begun-of : (r s : RunView) → still r ≡ still s → one_if r.granted ≡ one_if s.granted → still_begun r ≡ still_begun s
begun-of r s e g i = record (e i) { granted = g i }

behind-none : (k n : ℕ) → 0 + k + n ≡ 0 + (k + n)
behind-none k n = omega arith

-- a run that goes on from where its origin has it
begun-resumes : (old new : RunView) (k n : ℕ) → AddsUp (choice_in old) old.formula → new ≡ moved_to old (old.granted + n)
    → new.state ≡ after (choice_in old) old.state n → still_begun old ≡ still_begun (moved_by (origin old) k)
    → still_begun new ≡ still_begun (moved_by (origin old) (k + n))
begun-resumes old new k n add is went was =
    begun-of new (moved_by (origin old) (k + n)) (resumes old new k n add is went (ap still was))
    (ap (λ (r : RunView). one_if r.granted) is ∙ more old.granted (0 + k) n (ap (λ (r : RunView). r.granted) was) ∙ ap one_if (behind-none k n))

-- the same where there was memory
pub begun-on : {T E : Type 0} (old new : RunView) (n : ℕ) (r : Result T E) → OnOk r (AddsUp (choice_in old) old.formula)
    → OnOk r (new ≡ moved_to old (old.granted + n)) → OnOk r (new.state ≡ after (choice_in old) old.state n)
    → OnOk r ((k : ℕ) → still_begun old ≡ still_begun (moved_by (origin old) k) → still_begun new ≡ still_begun (moved_by (origin old) (k + n)))
begun-on old new n (Ok t) add is went = λ k. begun-resumes old new k n add is went
begun-on old new n (Err e) add is went = is

or-right : (a b : Bool) → a || b ≡ false → b ≡ false
or-right true b e = cc
or-right false b e = e

same-more : (k n : ℕ) → 0 + (suc k + n) ≡ suc (k + n)
same-more k n = omega arith

same-none : (k : ℕ) → 0 + suc k ≡ suc k
same-none k = omega arith

-- a settled run stays, apart from how much it was granted
pub begun-rests : (r : RunView) → Stays (choice_in r) r.formula → (k n : ℕ) → may_go (moved_by (origin r) k) ≡ false
    → still_begun (moved_by (origin r) (k + n)) ≡ still_begun (moved_by (origin r) k)
begun-rests r settled zero n off = cc
begun-rests r settled (suc k) n off =
    begun-of (moved_by (origin r) (suc k + n)) (moved_by (origin r) (suc k)) (rests r settled (suc k) n (or-right (is_none (0 + suc k)) (goes (moved_by (origin r) (suc k))) off))
    (ap one_if (same-more k n) ∙ sym (ap one_if (same-none k)))

-- a run that is where its grants have it
pub begun-moved : (r : RunView) → IsMoved r → still_begun r ≡ still_begun (moved_by (origin r) r.granted)
begun-moved r m =
    let same : r.granted ≡ 0 + r.granted = omega arith in
    begun-of r (moved_by (origin r) r.granted) (ap still m) (ap one_if same)

-- what holds anyhow holds where there was memory
pub on-any : {T E : Type 0} (P : Type 0) (r : Result T E) → P → OnOk r P
on-any P (Ok t) p = p
on-any P (Err e) p = tt
