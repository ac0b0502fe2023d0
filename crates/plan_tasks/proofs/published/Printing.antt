-- What a sink took.
use Rattle.std.proofs.Common.{◌≡◌, ℕ, List, [], ◌∷◌, ◌++◌, Option, Some, None, sym, ◌∙◌}
use Rattle.pl_io.specs.Outside.{appended}
use Rattle.plan_tasks.specs.Claims.{Printed}

pub front_cancels : (front xs ys : List ℕ) → front ++ xs ≡ front ++ ys → xs ≡ ys
front_cancels [] xs ys e = e
front_cancels (f ∷ fs) xs ys e = front_cancels fs xs ys (let tails : fs ++ xs ≡ fs ++ ys = cc in tails)

pub printed_is : (old new : Option (List ℕ)) (text taken : List ℕ) → Printed old new text → new ≡ appended old taken → text ≡ taken
printed_is None new text taken p e = absurd (let never : None ≡ Some p.0 = p.1 in cc)
printed_is (Some before) new text taken p e =
    let same : p.0 ≡ before = cc in
    let all : Some (p.0 ++ text) ≡ Some (before ++ taken) = sym p.2 ∙ e in
    front_cancels before text taken (let inner : p.0 ++ text ≡ before ++ taken = cc in rw same at inner)
