-- A plan that is printed line by line is read as its calls.
use Rattle.std.proofs.Common.{◌≡◌, ℕ, zero, suc, ◌+◌, ◌<◌, ◌==◌, Bool, true, false, cond, List, [], ◌∷◌, ◌++◌, length, map, get_or, Option, Some, None, Ok, refl, ap, ◌∙◌, sym, subst, append_assoc, arith, MatchBool, length-append, ◌⊎◌, inl, inr}
use Rattle.std.proofs.lemmas.Bool.{and_parts, not-true}
use Rattle.std.specs.Prelude.{IsTrue, ◌&&◌, not, nat_le, slice_get, codes}
use Rattle.std.specs.List.{list_all, flat_map}
use Rattle.std.specs.Str.{bytes_eq}
use Rattle.std.proofs.lemmas.List.{length-map}
use Rattle.std.proofs.lemmas.List.Concat.{flat_map-cons}
use Rattle.std.proofs.lemmas.Bool.Decides.{nat_tests}
use Rattle.std.proofs.lemmas.Slice.Eq.{bytes_eq-Decides}
use Rattle.report_lines.proofs.published.Entries.{line-append}
use Rattle.pd_sexp.specs.Bytes.{open_paren, semicolon, line_feed, is_letter, lowered}
use Rattle.pd_sexp.specs.Tree.{list, word, trees_of}
use Rattle.pd_sexp.specs.File.{IsGap, IsComment, StopsWord, IsTree, AreItems}
use Rattle.pd_sexp.specs.Word.{is_small, is_word}
use Rattle.pd_model.specs.Names.{object_names, schema_names, is_among, are_distinct}
use Rattle.pd_model.specs.Fits.{fits, all_fit, is_call, is_call_of}
use Rattle.pd_model.specs.Text.{object_name, schema_name, spelled, call_text}
use Rattle.pd_model.specs.WellFormed.{IsWellFormed}
use Rattle.pd_model.specs.declared.schemas.Schema.{Schema}
use Rattle.pd_model.specs.declared.calls.Call.{Call}
use Rattle.pd_model.specs.declared.parts.Parts.{Parts}
use Rattle.pd_words.specs.Names.{number_of}
use Rattle.pd_words.specs.Typed.{named}
use Rattle.pd_words.specs.declared.named.Named.{Named}
use Rattle.pd_plan.specs.PlanFile.{argument, arguments, call_from}
use Rattle.pd_plan.specs.own.Spells.{tree_of_word, SpellsFrom}
use Rattle.pd_plan.specs.PlanText.{is_line, SpellsAnywhere}
use Rattle.pd_model.proofs.published.Walks.{fits_below}
use Rattle.pd_sexp.proofs.published.Whole.{choice}

-- ---- gaps in a row

chosen : {P Q : Type 0} (t : Bool) → ((t ≡ true) × P) ⊎ ((t ≡ false) × Q) → MatchBool t P Q
chosen true (inl h) = h.1
chosen true (inr h) = absurd (let e = h.0 in cc)
chosen false (inl h) = absurd (let e = h.0 in cc)
chosen false (inr h) = h.1

mutual
  gap_append : (end : Bool) (g rest : List ℕ) → IsGap false g → IsGap end rest → IsGap end (g ++ rest)
  gap_append end [] rest h more = more
  gap_append end (b ∷ g) rest h more = elim (choice (b == semicolon) h) [
    | inl e ↦ chosen (b == semicolon) (inl (e.0, comment_append end g rest e.1 more))
    | inr e ↦ chosen (b == semicolon) (inr (e.0, (e.1.0, gap_append end g rest e.1.1 more)))
  ]

  comment_append : (end : Bool) (g rest : List ℕ) → IsComment false g → IsGap end rest → IsComment end (g ++ rest)
  comment_append end [] rest h more = absurd (let never : false ≡ true = h in cc)
  comment_append end (b ∷ g) rest h more = elim (choice (b == line_feed) h) [
    | inl e ↦ chosen (b == line_feed) (inl (e.0, gap_append end g rest e.1 more))
    | inr e ↦ chosen (b == line_feed) (inr (e.0, comment_append end g rest e.1 more))
  ]

gap_then : (p : Parts) (o : ℕ) (g rest : List ℕ) (calls : List Call) → IsGap false g → SpellsFrom p (o + length g) rest calls → SpellsFrom p o (g ++ rest) calls
gap_then p o g rest [] gap h = gap_append true g rest gap h
gap_then p o g rest (call ∷ calls) gap h =
    let long : o + length g + length h.0 ≡ o + length (g ++ h.0) = omega (arith, length-append g h.0) in
    let later = subst (λ n. IsTree (list n (trees_of (map tree_of_word h.3))) n h.1 × (call_from p n h.3 ≡ Ok call) × SpellsFrom p (n + length h.1) h.2 calls) long (h.6, h.7, h.8) in
    (g ++ h.0, h.1, h.2, h.3, ap (λ xs. g ++ xs) h.4 ∙ sym (append_assoc g h.0 (h.1 ++ h.2)), gap_append false g h.0 gap h.5, later.0, later.1, later.2)

line_gap : (line : List ℕ) → is_line line ≡ true → IsComment false (line ++ line_feed ∷ [])
line_gap [] is = tt
line_gap (b ∷ bs) is =
    let parts = and_parts (not (b == line_feed)) (is_line bs) is in
    chosen (b == line_feed) (inr (not-true (b == line_feed) parts.0, line_gap bs parts.1))

pub comment_then : (p : Parts) (line rest : List ℕ) (calls : List Call) → IsTrue (is_line line) → SpellsAnywhere p rest calls → SpellsAnywhere p (semicolon ∷ line ++ line_feed ∷ rest) calls
comment_then p line rest calls is h o =
    let same : (semicolon ∷ (line ++ line_feed ∷ [])) ++ rest ≡ semicolon ∷ line ++ line_feed ∷ rest = ap (λ (xs : List ℕ). semicolon ∷ xs) (append_assoc line (line_feed ∷ []) rest) in
    subst (λ xs. SpellsFrom p o xs calls) same (gap_then p o (semicolon ∷ (line ++ line_feed ∷ [])) rest calls (line_gap line is) (h (o + length (semicolon ∷ (line ++ line_feed ∷ [])))))

-- ---- words

small_letter : (b : ℕ) → is_small b ≡ true → (is_letter b ≡ true) × (b ≡ lowered b)
small_letter b is =
    let parts = and_parts (is_letter b) (not (nat_le 65 b && nat_le b 90)) is in
    (parts.0, same (nat_le 65 b && nat_le b 90) parts.1)
  where
    same : (t : Bool) → not t ≡ true → b ≡ cond t (b + 32) b
    same true e = absurd cc
    same false e = refl

small_letters : (bs : List ℕ) → list_all is_small bs ≡ true → (list_all is_letter bs ≡ true) × (bs ≡ map lowered bs)
small_letters [] is = (refl, refl)
small_letters (b ∷ bs) is =
    let parts = and_parts (is_small b) (list_all is_small bs) is in
    let one = small_letter b parts.0 in
    let rest = small_letters bs parts.1 in
    (rw (one.0, rest.0) refl, λ i. one.1 i ∷ rest.1 i)

word_tree : (o at : ℕ) (w : List ℕ) → at ≡ o → is_word w ≡ true → IsTree (word at w) o w
word_tree o at [] e is = absurd cc
word_tree o at (b ∷ bs) e is = let all = small_letters (b ∷ bs) is in (e, (λ n. let h : b ∷ bs ≡ [] = n in cc), all.0, all.1)

-- the objects of a call, each after a space
abbrev spaced : List (List ℕ) → List ℕ
spaced objects = flat_map (λ o. codes " " ++ o) objects

words_after : ℕ → List (List ℕ) → List Named
words_after o [] = []
words_after o (n ∷ ns) = named (o + 1) n ∷ words_after (o + 1 + length n) ns

stops : (objects : List (List ℕ)) → StopsWord (spaced objects)
stops [] = tt
stops (n ∷ ns) = subst StopsWord (sym (flat_map-cons (λ (o : List ℕ). codes " " ++ o) n ns)) blank
  where
    blank : StopsWord ((codes " " ++ n) ++ spaced ns)
    blank l = let never : false ≡ true = l in cc

spaced_items : (o : ℕ) (objects : List (List ℕ)) → list_all is_word objects ≡ true → AreItems (trees_of (map tree_of_word (words_after o objects))) o (spaced objects)
unfolding words_after
spaced_items o [] are = tt
spaced_items o (n ∷ ns) are =
    let parts = and_parts (is_word n) (list_all is_word ns) are in
    (32 ∷ [], n, spaced ns, flat_map-cons (λ o. codes " " ++ o) n ns, (refl, tt), word_tree (o + 1) (o + 1) n refl parts.0, stops ns, spaced_items (o + 1 + length n) ns parts.1)

call_words : ℕ → List ℕ → List (List ℕ) → List Named
call_words o name objects = named (o + 1) name ∷ words_after (o + 1 + length name) objects

spelled_tree : (o : ℕ) (name : List ℕ) (objects : List (List ℕ)) → is_word name ≡ true → list_all is_word objects ≡ true
    → IsTree (list o (trees_of (map tree_of_word (call_words o name objects)))) o (spelled name objects)
unfolding call_words
spelled_tree o name objects is are =
    let zero_more : o + 1 + 0 ≡ o + 1 = omega arith in (
      refl,
      (
        name ++ spaced objects,
        ap (λ (xs : List ℕ). open_paren ∷ xs) (sym (append_assoc name (spaced objects) (codes ")"))),
        (
          [],
          name,
          spaced objects,
          refl,
          tt,
          word_tree (o + 1 + 0) (o + 1) name (sym zero_more) is,
          stops objects,
          subst (λ n. AreItems (trees_of (map tree_of_word (words_after (o + 1 + length name) objects))) (n + length name) (spaced objects)) (sym zero_more) (spaced_items (o + 1 + length name) objects are),
        ),
      ),
    )

-- ---- names are looked up

same_text : (a : List ℕ) → bytes_eq a a ≡ true
same_text a = (bytes_eq-Decides a a).1 refl

differ : (a b : List ℕ) → bytes_eq a b ≡ false → bytes_eq b a ≡ false
differ a b unlike = by_test (bytes_eq b a) refl
  where
    by_test : (t : Bool) → bytes_eq b a ≡ t → t ≡ false
    by_test true e = let is : b ≡ a = (bytes_eq-Decides b a).0 e in let yes = subst (λ x. bytes_eq a x ≡ true) (sym is) (same_text a) in cc
    by_test false e = refl

among_at : (name : List ℕ) (names : List (List ℕ)) (n : ℕ) → is_among name names ≡ false → n < length names → bytes_eq name (get_or names n []) ≡ false
among_at name [] n none lt = absurd (omega (arith, lt))
among_at name (x ∷ xs) zero none lt = first (bytes_eq name x) (is_among name xs) none
  where
    first : (b c : Bool) → cond b true c ≡ false → b ≡ false
    first true c e = absurd cc
    first false c e = refl
among_at name (x ∷ xs) (suc n) none lt = among_at name xs n (second (bytes_eq name x) (is_among name xs) none) (omega (arith, lt))
  where
    second : (b c : Bool) → cond b true c ≡ false → c ≡ false
    second true c e = absurd cc
    second false c e = e

number_at : (names : List (List ℕ)) (n : ℕ) → are_distinct names ≡ true → n < length names → number_of (get_or names n []) names ≡ Some n
number_at [] n once lt = absurd (omega (arith, lt))
number_at (x ∷ xs) zero once lt = rw (same_text x) refl
number_at (x ∷ xs) (suc n) once lt =
    let parts = and_parts (not (is_among x xs)) (are_distinct xs) once in
    let apart = differ x (get_or xs n []) (among_at x xs n (not-true (is_among x xs) parts.0) (omega (arith, lt))) in
    rw (apart, number_at xs n parts.1 (omega (arith, lt))) refl

word_at : (names : List (List ℕ)) (n : ℕ) → list_all is_word names ≡ true → n < length names → is_word (get_or names n []) ≡ true
word_at [] n are lt = absurd (omega (arith, lt))
word_at (x ∷ xs) zero are lt = (and_parts (is_word x) (list_all is_word xs) are).0
word_at (x ∷ xs) (suc n) are lt = word_at xs n ((and_parts (is_word x) (list_all is_word xs) are).1) (omega (arith, lt))

-- ---- the words of a call are read as the call

module _ (p : Parts) (w : IsWellFormed p) where
  object_in : (kind o : ℕ) → fits p kind o ≡ true → o < length (object_names p.objects)
  object_in kind o is = omega (arith, fits_below p kind o is, length-map p.objects (λ d. d.name))

  object_parts : (list_all is_word (object_names p.objects) ≡ true) × (are_distinct (object_names p.objects) ≡ true)
  object_parts = and_parts (list_all is_word (object_names p.objects)) (are_distinct (object_names p.objects)) w.object_names

  schema_parts : (list_all is_word (schema_names p.schemas) ≡ true) × (are_distinct (schema_names p.schemas) ≡ true)
  schema_parts = and_parts (list_all is_word (schema_names p.schemas)) (are_distinct (schema_names p.schemas)) w.schema_names

  object_words : (kinds objects : List ℕ) → all_fit p kinds objects ≡ true → list_all is_word (map (object_name p) objects) ≡ true
  object_words [] [] is = refl
  object_words [] (o ∷ os) is = absurd cc
  object_words (k ∷ ks) [] is = absurd cc
  object_words (k ∷ ks) (o ∷ os) is =
      let parts = and_parts (fits p k o) (all_fit p ks os) is in
      rw (word_at (object_names p.objects) o (object_parts.0) (object_in k o parts.0), object_words ks os parts.1) refl

  argument_is : (kind o at : ℕ) → fits p kind o ≡ true → argument p kind (named at (object_name p o)) ≡ Ok o
  argument_is kind o at is = rw (number_at (object_names p.objects) o (object_parts.1) (object_in kind o is), is) refl

  arguments_are : (kinds objects : List ℕ) (at : ℕ) → all_fit p kinds objects ≡ true → arguments p kinds (words_after at (map (object_name p) objects)) ≡ Ok objects
  unfolding words_after
  arguments_are [] [] at is = refl
  arguments_are [] (o ∷ os) at is = absurd cc
  arguments_are (k ∷ ks) [] at is = absurd cc
  arguments_are (k ∷ ks) (o ∷ os) at is =
      let parts = and_parts (fits p k o) (all_fit p ks os) is in
      rw (argument_is k o (at + 1) parts.0, arguments_are ks os (at + 1 + length (object_name p o)) parts.1) refl

  as_many : (kinds objects : List ℕ) (at : ℕ) → all_fit p kinds objects ≡ true → length (words_after at (map (object_name p) objects)) ≡ length kinds
  unfolding words_after
  as_many [] [] at is = refl
  as_many [] (o ∷ os) at is = absurd cc
  as_many (k ∷ ks) [] at is = absurd cc
  as_many (k ∷ ks) (o ∷ os) at is = ap suc (as_many ks os (at + 1 + length (object_name p o)) ((and_parts (fits p k o) (all_fit p ks os) is).1))

  record Known (call : Call) : Type 0 where
    schema : Schema
    found : slice_get p.schemas call.schema ≡ Some schema
    fitting : all_fit p schema.parameters call.objects ≡ true
    within : call.schema < length (schema_names p.schemas)

  known : (call : Call) → is_call p call ≡ true → Known call
  known call is = by_schema (slice_get p.schemas call.schema) refl is
    where
      below : (ss : List Schema) (n : ℕ) (s : Schema) → slice_get ss n ≡ Some s → n < length ss
      below [] n s e = absurd cc
      below (x ∷ xs) zero s e = omega arith
      below (x ∷ xs) (suc n) s e = omega (arith, below xs n s e)

      by_schema : (found : Option Schema) → slice_get p.schemas call.schema ≡ found → is_call_of p found call.objects ≡ true → Known call
      by_schema None e is = absurd cc
      by_schema (Some s) e is = record {
        schema = s;
        found = e;
        fitting = is;
        within = omega (arith, below p.schemas call.schema s e, length-map p.schemas (λ s. s.name));
      }

  abbrev words_of : ℕ → Call → List Named
  words_of o call = call_words o (schema_name p call.schema) (map (object_name p) call.objects)

  reads_call : (o : ℕ) (call : Call) → is_call p call ≡ true → call_from p o (words_of o call) ≡ Ok call
  unfolding call_words
  reads_call o call is =
      let k = known call is in
      let many : (length (words_after (o + 1 + length (schema_name p call.schema)) (map (object_name p) call.objects)) == length k.schema.parameters) ≡ true
      = same_true (as_many k.schema.parameters call.objects (o + 1 + length (schema_name p call.schema)) k.fitting) in
      rw (number_at (schema_names p.schemas) call.schema (schema_parts.1) k.within, k.found, many, arguments_are k.schema.parameters call.objects (o + 1 + length (schema_name p call.schema)) k.fitting) refl
    where
      same_true : {a b : ℕ} → a ≡ b → (a == b) ≡ true
      same_true e = grind (arith, e)

  pub call_then : (call : Call) (rest : List ℕ) (calls : List Call) → IsTrue (is_call p call) → SpellsAnywhere p rest calls → SpellsAnywhere p (call_text p call ++ line_feed ∷ rest) (call ∷ calls)
  call_then call rest calls is h o =
      let k = known call is in
      let tree = spelled_tree o (schema_name p call.schema) (map (object_name p) call.objects) (word_at (schema_names p.schemas) call.schema (schema_parts.0) k.within) (object_words k.schema.parameters call.objects k.fitting) in
      let zero_more : o + 0 ≡ o = omega arith in
      let rest_spelled = gap_then p (o + length (call_text p call)) (line_feed ∷ []) rest calls (refl, tt) (h (o + length (call_text p call) + 1)) in
      let all = subst (λ n. IsTree (list n (trees_of (map tree_of_word (words_of o call)))) n (call_text p call) × (call_from p n (words_of o call) ≡ Ok call) × SpellsFrom p (n + length (call_text p call)) (line_feed ∷ rest) calls)
      (sym zero_more) (tree, reads_call o call is, rest_spelled) in
      ([], call_text p call, line_feed ∷ rest, words_of o call, refl, tt, all.0, all.1, all.2)

  -- ---- the text of a call is one line

  word_line : (bs : List ℕ) → list_all is_small bs ≡ true → is_line bs ≡ true
  word_line [] is = refl
  word_line (b ∷ bs) is =
      let parts = and_parts (is_small b) (list_all is_small bs) is in
      let letter = (small_letter b parts.0).0 in
      let no : (b == line_feed) ≡ false = grind (arith, nat_tests, letter) in
      rw (no, word_line bs parts.1) refl

  name_line : (name : List ℕ) → is_word name ≡ true → is_line name ≡ true
  name_line [] is = refl
  name_line (b ∷ bs) is = word_line (b ∷ bs) is

  spaced_line : (objects : List (List ℕ)) → list_all is_word objects ≡ true → is_line (spaced objects) ≡ true
  spaced_line [] are = refl
  spaced_line (n ∷ ns) are =
      let parts = and_parts (is_word n) (list_all is_word ns) are in
      subst (λ xs. is_line xs ≡ true) (sym (flat_map-cons (λ (o : List ℕ). codes " " ++ o) n ns)) (line-append n (spaced ns) (name_line n parts.0) (spaced_line ns parts.1))

  pub call_line : (call : Call) → IsTrue (is_call p call) → IsTrue (is_line (call_text p call))
  call_line call is =
      let k = known call is in
      line-append (schema_name p call.schema) (spaced (map (object_name p) call.objects) ++ codes ")") (name_line (schema_name p call.schema) (word_at (schema_names p.schemas) call.schema (schema_parts.0) k.within))
      (line-append (spaced (map (object_name p) call.objects)) (codes ")") (spaced_line (map (object_name p) call.objects) (object_words k.schema.parameters call.objects k.fitting)) refl)
