use Rattle.std.proofs.Common.{arith, ◌≡◌, ℕ, suc, ◌+◌, ◌-◌, min, List, [], ◌∷◌, ◌++◌, length, refl, ap, ◌∙◌, append_assoc}
use Rattle.horizon_rates.specs.declared.rates.Rates.{Rates}
use Rattle.horizon_rates.specs.Ledger.{Account}
use Rattle.horizon_rates.specs.Quotas.{quota_at}
use Rattle.horizon_run.specs.Run.{RunView}
use Rattle.race.specs.Grants.{grants}
use Rattle.race.specs.Runs.{total}

pub total-push : (ns : List ℕ) (n : ℕ) → total (ns ++ n ∷ []) ≡ total ns + n
total-push [] n = omega arith
total-push (m ∷ ns) n = let h = total-push ns n in omega (arith, h)

-- one more grant
pub grants-next : (rates : Rates) (place left left' n m g : ℕ) (items : List ℕ) → n ≡ suc m → g ≡ min (quota_at rates place) left → left' ≡ left - g
    → (items ++ g ∷ []) ++ grants rates (place + 1) left' m ≡ items ++ grants rates place left n
grants-next rates place left left' n m g items more is less =
    append_assoc items (g ∷ []) (grants rates (place + 1) left' m) ∙ rw (more, less, is) refl

pub aside-next : (l0 l l' : Account) (items items' : List ℕ) (g : ℕ) → l ≡ record l0 { set_aside = l0.set_aside + total items }
    → l' ≡ record l { set_aside = l.set_aside + g } → items' ≡ items ++ g ∷ [] → l' ≡ record l0 { set_aside = l0.set_aside + total items' }
aside-next l0 l l' items items' g e f p =
    let t = total-push items g in
    let u = ap total p in
    let n : l0.set_aside + total items + g ≡ l0.set_aside + total items' = omega (arith, t, u) in
    f ∙ (ap (λ (m : Account). record m { set_aside = m.set_aside + g }) e ∙ ap (λ (k : ℕ). record l0 { set_aside = k }) n)

pub nil : (xs : List RunView) → length xs ≡ 0 → xs ≡ []
nil [] e = refl
nil (x ∷ xs) e = absurd (omega arith)
