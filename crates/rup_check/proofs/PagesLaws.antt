-- What pages one after another come to as one of them changes.
use Rattle.std.proofs.Common.{arith, ◌≡◌, ℕ, zero, suc, ◌+◌, ◌-◌, ◌*◌, ◌/◌, ◌%◌, ◌<◌, ◌≤◌, List, [], ◌∷◌, ◌++◌, length, set, get_or, Bool, true, false, Result, Ok, refl, sym, ap, ◌∙◌, subst, append-nil, append_assoc, length-append}
use Rattle.std.proofs.lemmas.List.{get_or_past, get_or_append_left, get_or-append-add, get_or_read, set-get_or, length-set}
use Rattle.rup_check.specs.own.Pages.{joined, AreFull, AreWhole}

module _ {A : Type 0} where
  -- the item with a number stands in its page, at its place there
  at_page : (pages : List (List A)) (q r n : ℕ) (d : A) → n ≡ q * 128 + r → r < 128 → AreFull pages → get_or (joined pages) n d ≡ get_or (get_or pages q []) r d
  at_page [] q r n d e lt h = refl
  at_page (page ∷ []) zero r n d e lt h =
      let same : n ≡ r = omega (arith, e) in
      ap (λ (xs : List A). get_or xs n d) (append-nil page) ∙ ap (λ (m : ℕ). get_or page m d) same
  at_page (page ∷ []) (suc q) r n d e lt h =
      ap (λ (xs : List A). get_or xs n d) (append-nil page)
      ∙ get_or_past page n d (omega (arith, h, e))
  at_page (page ∷ next ∷ pages) zero r n d e lt h =
      let same : n ≡ r = omega (arith, e) in
      get_or_append_left page (joined (next ∷ pages)) d n (omega (arith, h.0, lt, same)) ∙ ap (λ (m : ℕ). get_or page m d) same
  at_page (page ∷ next ∷ pages) (suc q) r n d e lt h =
      let long : n ≡ length page + (q * 128 + r) = omega (arith, h.0, e) in
      ap (λ (m : ℕ). get_or (page ++ joined (next ∷ pages)) m d) long
      ∙ get_or-append-add page (joined (next ∷ pages)) (q * 128 + r) d
      ∙ at_page (next ∷ pages) q r (q * 128 + r) d refl lt h.1

  pub found_in : (pages : List (List A)) (n : ℕ) (d : A) → AreFull pages → get_or (joined pages) n d ≡ get_or (get_or pages (n / 128) []) (n % 128) d
  found_in pages n d h =
      let cut : n ≡ n / 128 * 128 + n % 128 = omega arith in
      at_page pages (n / 128) (n % 128) n d cut (omega arith) h

  set_left : (xs ys : List A) (i : ℕ) (a : A) → i < length xs → set (xs ++ ys) i a ≡ set xs i a ++ ys
  set_left [] ys i a lt = let none : ⊥ = omega (arith, lt) in absurd none
  set_left (x ∷ xs) ys zero a lt = refl
  set_left (x ∷ xs) ys (suc i) a lt = ap (λ (r : List A). x ∷ r) (set_left xs ys i a (omega (arith, lt)))

  set_right : (xs ys : List A) (n i : ℕ) (a : A) → n ≡ length xs + i → set (xs ++ ys) n a ≡ xs ++ set ys i a
  set_right [] ys n i a e = let same : n ≡ i = omega (arith, e) in ap (λ (m : ℕ). set ys m a) same
  set_right (x ∷ xs) ys zero i a e = let none : ⊥ = omega (arith, e) in absurd none
  set_right (x ∷ xs) ys (suc n) i a e = ap (λ (r : List A). x ∷ r) (set_right xs ys n i a (omega (arith, e)))

  -- a page of which one item is another
  set_page : (pages : List (List A)) (q r n : ℕ) (a : A) → n ≡ q * 128 + r → r < length (get_or pages q []) → r < 128 → AreFull pages → joined (set pages q (set (get_or pages q []) r a)) ≡ set (joined pages) n a
  set_page [] q r n a e in_page lt h = let none : ⊥ = omega (arith, in_page) in absurd none
  set_page (page ∷ []) zero r n a e in_page lt h =
      let same : r ≡ n = omega (arith, e) in
      sym (set_left page [] r a in_page) ∙ ap (λ (m : ℕ). set (page ++ []) m a) same
  set_page (page ∷ []) (suc q) r n a e in_page lt h = let none : ⊥ = omega (arith, in_page) in absurd none
  set_page (page ∷ next ∷ pages) zero r n a e in_page lt h =
      let same : r ≡ n = omega (arith, e) in
      sym (set_left page (joined (next ∷ pages)) r a in_page) ∙ ap (λ (m : ℕ). set (page ++ joined (next ∷ pages)) m a) same
  set_page (page ∷ next ∷ pages) (suc q) r n a e in_page lt h =
      let long : n ≡ length page + (q * 128 + r) = omega (arith, h.0, e) in
      ap (λ (xs : List A). page ++ xs) (set_page (next ∷ pages) q r (q * 128 + r) a refl in_page lt h.1)
      ∙ sym (set_right page (joined (next ∷ pages)) n (q * 128 + r) a long)

  pub set_in : (pages : List (List A)) (n : ℕ) (a : A) → n % 128 < length (get_or pages (n / 128) []) → AreFull pages → joined (set pages (n / 128) (set (get_or pages (n / 128) []) (n % 128) a)) ≡ set (joined pages) n a
  set_in pages n a in_page h =
      let cut : n ≡ n / 128 * 128 + n % 128 = omega arith in
      set_page pages (n / 128) (n % 128) n a cut in_page (omega arith) h

  -- a number of some page is within it
  in_page : (pages : List (List A)) (q r : ℕ) → r < 128 → q * 128 + r < length (joined pages) → AreFull pages → (q < length pages) × (r < length (get_or pages q []))
  in_page [] q r lt within h = let none : ⊥ = omega (arith, within) in absurd none
  in_page (page ∷ []) zero r lt within h = let same = ap length (append-nil page) in (omega arith, omega (arith, same, within))
  in_page (page ∷ []) (suc q) r lt within h = let same = ap length (append-nil page) in let none : ⊥ = omega (arith, same, within, h) in absurd none
  in_page (page ∷ next ∷ pages) zero r lt within h = (omega arith, omega (arith, h.0, lt))
  in_page (page ∷ next ∷ pages) (suc q) r lt within h =
      let long : length (page ++ joined (next ∷ pages)) ≡ length page + length (joined (next ∷ pages)) = length-append page (joined (next ∷ pages)) in
      let more = in_page (next ∷ pages) q r lt (omega (arith, long, within, h.0)) h.1 in
      let first = more.0 in
      (omega (arith, first), more.1)

  pub within_page : (pages : List (List A)) (n : ℕ) → n < length (joined pages) → AreFull pages → (n / 128 < length pages) × (n % 128 < length (get_or pages (n / 128) []))
  within_page pages n within h =
      let cut : n / 128 * 128 + n % 128 ≡ n = omega arith in
      in_page pages (n / 128) (n % 128) (omega arith) (omega (arith, cut, within)) h

  -- pages stay full where none changes its length
  pub full_set : (pages : List (List A)) (q : ℕ) (page : List A) → length page ≡ length (get_or pages q []) → AreFull pages → AreFull (set pages q page)
  full_set [] q page e h = tt
  full_set (first ∷ []) zero page e h = omega (arith, e, h)
  full_set (first ∷ []) (suc q) page e h = h
  full_set (first ∷ next ∷ pages) zero page e h = (e ∙ h.0, h.1)
  full_set (first ∷ next ∷ []) (suc zero) page e h = (h.0, full_set (next ∷ []) zero page e h.1)
  full_set (first ∷ next ∷ []) (suc (suc q)) page e h = (h.0, full_set (next ∷ []) (suc q) page e h.1)
  full_set (first ∷ next ∷ third ∷ pages) (suc zero) page e h = (h.0, full_set (next ∷ third ∷ pages) zero page e h.1)
  full_set (first ∷ next ∷ third ∷ pages) (suc (suc q)) page e h = (h.0, full_set (next ∷ third ∷ pages) (suc q) page e h.1)

  -- the last page with one more item
  pub last_more : (pages : List (List A)) (k : ℕ) (a : A) → k + 1 ≡ length pages → length (get_or pages k []) < 128 → AreFull pages → AreFull (set pages k (get_or pages k [] ++ a ∷ [])) × (joined (set pages k (get_or pages k [] ++ a ∷ [])) ≡ joined pages ++ a ∷ [])
  last_more [] k a e lt h = let none : ⊥ = omega (arith, e) in absurd none
  last_more (page ∷ []) zero a e lt h =
      let long : length (page ++ a ∷ []) ≡ length page + 1 = length-append page (a ∷ []) in
      (omega (arith, long, lt), append-nil (page ++ a ∷ []) ∙ ap (λ (xs : List A). xs ++ a ∷ []) (sym (append-nil page)))
  last_more (page ∷ []) (suc k) a e lt h = let none : ⊥ = omega (arith, e) in absurd none
  last_more (page ∷ next ∷ pages) zero a e lt h = let none : ⊥ = omega (arith, e) in absurd none
  last_more (page ∷ next ∷ []) (suc zero) a e lt h =
      let more = last_more (next ∷ []) zero a (omega arith) lt h.1 in
      ((h.0, more.0), ap (λ (xs : List A). page ++ xs) more.1 ∙ sym (append_assoc page (joined (next ∷ [])) (a ∷ [])))
  last_more (page ∷ next ∷ []) (suc (suc k)) a e lt h = let none : ⊥ = omega (arith, e) in absurd none
  last_more (page ∷ next ∷ third ∷ pages) (suc zero) a e lt h = let none : ⊥ = omega (arith, e) in absurd none
  last_more (page ∷ next ∷ third ∷ pages) (suc (suc k)) a e lt h =
      let more = last_more (next ∷ third ∷ pages) (suc k) a (omega (arith, e)) lt h.1 in
      ((h.0, more.0), ap (λ (xs : List A). page ++ xs) more.1 ∙ sym (append_assoc page (joined (next ∷ third ∷ pages)) (a ∷ [])))

  -- where the last page has no room, none has
  pub last_whole : (pages : List (List A)) (k : ℕ) → k + 1 ≡ length pages → length (get_or pages k []) ≡ 128 → AreFull pages → AreWhole pages
  last_whole [] k e l h = tt
  last_whole (page ∷ []) zero e l h = (l, tt)
  last_whole (page ∷ []) (suc k) e l h = let none : ⊥ = omega (arith, e) in absurd none
  last_whole (page ∷ next ∷ pages) zero e l h = let none : ⊥ = omega (arith, e) in absurd none
  last_whole (page ∷ next ∷ pages) (suc k) e l h = (h.0, last_whole (next ∷ pages) k (omega (arith, e)) l h.1)

  -- one page more, of one item
  pub page_more : (pages : List (List A)) (a : A) → AreWhole pages → AreFull (pages ++ (a ∷ []) ∷ []) × (joined (pages ++ (a ∷ []) ∷ []) ≡ joined pages ++ a ∷ [])
  page_more [] a h = (omega arith, refl)
  page_more (page ∷ []) a h = ((h.0, omega arith), ap (λ (xs : List A). xs ++ a ∷ []) (sym (append-nil page)))
  page_more (page ∷ next ∷ pages) a h =
      let more = page_more (next ∷ pages) a h.1 in
      ((h.0, more.0), ap (λ (xs : List A). page ++ xs) more.1 ∙ sym (append_assoc page (joined (next ∷ pages)) (a ∷ [])))

  -- the same, with what is read and written by name
  pub found_at : (pages : List (List A)) (page : List A) (n : ℕ) (d : A) → page ≡ get_or pages (n / 128) [] → AreFull pages → get_or (joined pages) n d ≡ get_or page (n % 128) d
  found_at pages page n d e h = found_in pages n d h ∙ ap (λ (xs : List A). get_or xs (n % 128) d) (sym e)

  pub found_past : (pages : List (List A)) (n : ℕ) (d : A) → length pages ≤ n / 128 → AreFull pages → get_or (joined pages) n d ≡ d
  found_past pages n d le h = found_in pages n d h ∙ ap (λ (xs : List A). get_or xs (n % 128) d) (get_or_past pages (n / 128) [] le)

  pub found_by : (now : List A) (pages : List (List A)) (page : List A) (n : ℕ) (d : A) → joined pages ≡ now → n / 128 < length pages → page ≡ get_or pages (n / 128) page → AreFull pages → get_or now n d ≡ get_or page (n % 128) d
  found_by now pages page n d is lt e h = ap (λ (xs : List A). get_or xs n d) (sym is) ∙ found_at pages page n d (get_or_read pages (n / 128) page lt e []) h

  -- the last of so many pages, where it has no room, and where it has some and gets one item more
  module _ (pages : List (List A)) (count : ℕ) (page : List A) (own : count ≡ length pages) (some : count ≡ 0 → ⊥) (e : page ≡ get_or pages (count - 1) page) (h : AreFull pages) where
    at : page ≡ get_or pages (count - 1) []
    at = get_or_read pages (count - 1) page (omega (arith, some, own)) e []

    pub last_whole_by : length page ≡ 128 → AreWhole (set pages (count - 1) page)
    last_whole_by long =
        subst AreWhole (sym (ap (λ (xs : List A). set pages (count - 1) xs) at ∙ set-get_or pages (count - 1) []))
        (last_whole pages (count - 1) (omega (arith, some, own)) (ap length (sym at) ∙ long) h)

    pub last_more_by : (more : List A) (a : A) → more ≡ page ++ a ∷ [] → length page < 128 → AreFull (set pages (count - 1) more) × (joined (set pages (count - 1) more) ≡ joined pages ++ a ∷ [])
    last_more_by more a m lt =
        let same : get_or pages (count - 1) [] ++ a ∷ [] ≡ more = sym (m ∙ ap (λ (xs : List A). xs ++ a ∷ []) at) in
        subst (λ (xs : List A). AreFull (set pages (count - 1) xs) × (joined (set pages (count - 1) xs) ≡ joined pages ++ a ∷ [])) same
        (last_more pages (count - 1) a (omega (arith, some, own)) (let l = ap length at in omega (arith, l, lt)) h)

  pub page_more_by : (pages now : List (List A)) (page : List A) (a : A) → AreWhole pages → page ≡ a ∷ [] → now ≡ pages ++ page ∷ [] → AreFull now × (joined now ≡ joined pages ++ a ∷ [])
  page_more_by pages now page a h p n =
      subst (λ (ps : List (List A)). AreFull ps × (joined ps ≡ joined pages ++ a ∷ [])) (sym (n ∙ ap (λ (xs : List A). pages ++ xs ∷ []) p)) (page_more pages a h)

  pub set_by : (pages : List (List A)) (page now : List A) (n : ℕ) (a : A) → n < length (joined pages) → page ≡ get_or pages (n / 128) [] → now ≡ set page (n % 128) a → AreFull pages → AreFull (set pages (n / 128) now) × (joined (set pages (n / 128) now) ≡ set (joined pages) n a)
  set_by pages page now n a lt p s h =
      let w = within_page pages n lt h in
      let same : now ≡ set (get_or pages (n / 128) []) (n % 128) a = s ∙ ap (λ (xs : List A). set xs (n % 128) a) p in
      let long : length now ≡ length (get_or pages (n / 128) []) = ap length same ∙ length-set (get_or pages (n / 128) []) (n % 128) a in
      (full_set pages (n / 128) now long h, ap (λ (xs : List A). joined (set pages (n / 128) xs)) same ∙ set_in pages n a w.1 h)

pub false_ok : {E : Type 0} (b : Bool) → b ≡ false → ◌≡◌ {A = Result Bool E} (Ok b) (Ok true) → ⊥
false_ok true e f = cc
false_ok false e f = cc
