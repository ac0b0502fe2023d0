-- Joined lines are read back, and a front of a text has no other lines than the text.
use Rattle.std.proofs.Common.{◌≡◌, ◌<◌, ℕ, ◌==◌, Bool, true, false, not, ◌&&◌, List, [], ◌∷◌, ◌++◌, length, refl, sym, ap, ◌∙◌, arith, append-nil, append_assoc, length-append, if◌then◌else◌}
use Rattle.std.proofs.lemmas.Bool.{not-true}
use Rattle.std.specs.Prelude.{IsTrue, Contains}
use Rattle.std.specs.List.{list_all}
use Rattle.std.proofs.lemmas.List.{get_or_append_left}
use Rattle.report_lines.specs.Lines.{lines_from, lines_of, joined, is_line}
use Rattle.report_lines.specs.Horizons.{Says, horizon_line}

pub both : (a b : Bool) → (a && b) ≡ true → (a ≡ true) × (b ≡ true)
both true b h = (refl, h)
both false b h = let never : false ≡ true = h in cc

-- ---- joined lines

line_then : (front xs rest : List ℕ) → is_line xs ≡ true → lines_from front (xs ++ 10 ∷ rest) ≡ (front ++ xs) ∷ lines_from [] rest
line_then front [] rest h = ap (λ (line : List ℕ). line ∷ lines_from [] rest) (sym (append-nil front))
line_then front (b ∷ bs) rest h =
    let p = both (not (b == 10)) (is_line bs) h in
    rw (not-true (b == 10) p.0) (line_then (front ++ b ∷ []) bs rest p.1 ∙ ap (λ (line : List ℕ). line ∷ lines_from [] rest) (append_assoc front (b ∷ []) bs))

pub read_back : (lines : List (List ℕ)) → IsTrue (list_all is_line lines) → lines_of (joined lines) ≡ lines
read_back [] h = refl
read_back (line ∷ lines) h =
    let p = both (is_line line) (list_all is_line lines) h in
    line_then [] line (joined lines) p.0 ∙ ap (λ (more : List (List ℕ)). line ∷ more) (read_back lines p.1)

-- ---- fronts

-- the lines of a front, and then some more
abbrev Goes : List ℕ → List ℕ → List ℕ → Type 0
Goes front xs ys = (more : List (List ℕ)) × (lines_from front (xs ++ ys) ≡ lines_from front xs ++ more)

goes_on_test : (t : Bool) (line : List ℕ) (ps qs rs ss : List (List ℕ)) → (more : List (List ℕ)) × (rs ≡ ps ++ more) → (more : List (List ℕ)) × (ss ≡ qs ++ more)
    → (more : List (List ℕ)) × ((if t then line ∷ rs else ss) ≡ (if t then line ∷ ps else qs) ++ more)
goes_on_test true line ps qs rs ss p q = (p.0, ap (λ (ls : List (List ℕ)). line ∷ ls) p.1)
goes_on_test false line ps qs rs ss p q = q

goes : (front xs ys : List ℕ) → Goes front xs ys
goes front [] ys = (lines_from front ys, refl)
goes front (b ∷ bs) ys =
    goes_on_test (b == 10) front (lines_from [] bs) (lines_from (front ++ b ∷ []) bs) (lines_from [] (bs ++ ys)) (lines_from (front ++ b ∷ []) (bs ++ ys)) (goes [] bs ys) (goes (front ++ b ∷ []) bs ys)

pub contains_longer : {X : Type 0} (xs more : List X) (x : X) → Contains xs x → Contains (xs ++ more) x
contains_longer {X = X} xs more x at =
    let within : at.0 < length xs = at.1 in
    (at.0, omega (arith, length-append xs more), get_or_append_left xs more x at.0 within ∙ at.2)

pub fronts : (text rest : List ℕ) (horizon : ℕ) (word : List ℕ) (conflicts : ℕ) → Says text horizon word conflicts → Says (text ++ rest) horizon word conflicts
fronts text rest horizon word conflicts says =
    let on = goes [] text rest in
    let line = horizon_line says.0 word says.1 in
    (says.0, says.1, says.2, says.3, rw on.1 (contains_longer (lines_of text) on.0 line says.4))
