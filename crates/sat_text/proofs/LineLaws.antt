-- Numbers read up to a 0, one after another.
use Rattle.std.proofs.Common.{◌≡◌, ◌==◌, ◌||◌, Result, Ok, not, ℕ, List, [], ◌∷◌, ◌++◌, map, filter, drop, Bool, true, false, Option, Some, None, option_map, if◌then◌else◌, refl, sym, ap, ◌∙◌, subst, append_assoc, append-nil}
use Rattle.std.specs.Prelude.{codes}
use Rattle.std.specs.List.{list_any}
use Rattle.std.proofs.lemmas.List.{map-append}
use Rattle.std.proofs.lemmas.List.Elements.{filter-append}
use Rattle.containers.specs.declared.memory.Memory.{Memory}
use Rattle.sat_text.specs.declared.words.Signed.{Signed}
use Rattle.sat_text.specs.declared.lrat_line.Line.{Line}
use Rattle.sat_text.specs.declared.lrat_line.Part.{Part}
use Rattle.sat_text.specs.declared.lrat_line.Part.TheVariants.{Literals, Ids}
use Rattle.sat_text.specs.Words.{first_number, words_of, begins_with}
use Rattle.sat_text.proofs.WordsLaws.{not_zero}
use Rattle.sat_text.specs.LratLine.{line_of, up_to_zero, all_to_zero, addition, deletion, rest_of, codes_of, code_of, has_code, plain_ids, IsHeld}
use Rattle.sat_text.specs.own.Reading.{Reads, ReadsLiterals, ReadsIds}

-- numbers that were read, and the words that are left, with these before them
abbrev Read : Type 0
Read = List Signed × List (List ℕ)

abbrev pub ahead : List Signed → Read → Read
ahead passed read = (passed ++ read.0, read.1)

-- a number that is not 0 goes before those up to the 0
pub up_more : (words : List (List ℕ)) (told : Signed) → first_number words ≡ Some told → (told.number == 0) ≡ false → up_to_zero words ≡ option_map (ahead (told ∷ [])) (up_to_zero (drop 1 words))
up_more [] told is apart = absurd (let never : None ≡ Some told = is in cc)
up_more (word ∷ words) told is apart = rw (is, apart) refl

-- what is read of words is these numbers, and then what is read of the words that are left
abbrev pub Passes : List (List ℕ) → List (List ℕ) → List Signed → Type 0
Passes all left passed = up_to_zero all ≡ option_map (ahead passed) (up_to_zero left)

pub passes_none : (words : List (List ℕ)) → Passes words words []
passes_none words = by (up_to_zero words)
  where
    by : (read : Option Read) → read ≡ option_map (ahead []) read
    by None = refl
    by (Some more) = refl

onto : (passed : List Signed) (told : Signed) (read : Option Read) → option_map (ahead passed) (option_map (ahead (told ∷ [])) read) ≡ option_map (ahead (passed ++ told ∷ [])) read
onto passed told None = refl
onto passed told (Some more) = ap (λ (numbers : List Signed). Some (numbers, more.1)) (sym (append_assoc passed (told ∷ []) more.0))

pub passes_more : (all left next : List (List ℕ)) (passed : List Signed) (told : Signed) → Passes all left passed → Some told ≡ first_number left → (told.number ≡ 0 → ⊥) → next ≡ drop 1 left → Passes all next (passed ++ told ∷ [])
passes_more all left next passed told p is apart goes_on =
    let more : Passes all (drop 1 left) (passed ++ told ∷ []) = p ∙ ap (option_map (ahead passed)) (up_more left told (sym is) (not_zero told.number apart)) ∙ onto passed told (up_to_zero (drop 1 left)) in
    subst (λ (words : List (List ℕ)). Passes all words (passed ++ told ∷ [])) (sym goes_on) more

-- ---- what is held

codes_then : (literals others : List Signed) → codes_of (literals ++ others) ≡ codes_of literals ++ codes_of others
codes_then literals others = ap (map code_of) (filter-append has_code literals others) ∙ map-append code_of (filter has_code literals) (filter has_code others)

ids_then : (ids others : List Signed) → plain_ids (ids ++ others) ≡ plain_ids ids ++ plain_ids others
ids_then ids others = ap (map (λ told. told.number)) (filter-append (λ told. not told.minus) ids others) ∙ map-append (λ told. told.number) (filter (λ told. not told.minus) ids) (filter (λ told. not told.minus) others)

any_then : (p : Signed → Bool) (a : Bool) (xs ys : List Signed) → ((a || list_any p xs) || list_any p ys) ≡ (a || list_any p (xs ++ ys))
any_then p true xs ys = refl
any_then p false [] ys = refl
any_then p false (x ∷ xs) ys = any_then p (p x) xs ys

or_none : (a : Bool) → a ≡ (a || false)
or_none true = refl
or_none false = refl

-- of no numbers nothing is read
pub reads_nothing : (part : Part) (line : Line) → Reads part line line []
reads_nothing Literals line = record { head = record { id = refl; deletes = refl }; lits = sym (append-nil line.lits.items); hints = refl; foreign = or_none line.foreign }
reads_nothing Ids line = record { head = record { id = refl; deletes = refl }; lits = refl; hints = sym (append-nil line.ids.items); foreign = or_none line.foreign }

-- numbers are read, and then others
pub reads_then : (part : Part) (old middle new : Line) (numbers others : List Signed) → Reads part old middle numbers → Reads part middle new others → Reads part old new (numbers ++ others)
reads_then Literals old middle new numbers others r s = record {
  head = record { id = s.head.id ∙ r.head.id; deletes = s.head.deletes ∙ r.head.deletes };
  lits = s.lits ∙ ap (λ (xs : List ℕ). xs ++ codes_of others) r.lits ∙ append_assoc old.lits.items (codes_of numbers) (codes_of others) ∙ ap (λ (xs : List ℕ). old.lits.items ++ xs) (sym (codes_then numbers others));
  hints = s.hints ∙ r.hints;
  foreign = s.foreign ∙ ap (λ (b : Bool). b || list_any (λ told. not (has_code told)) others) r.foreign ∙ any_then (λ told. not (has_code told)) old.foreign numbers others;
}
reads_then Ids old middle new numbers others r s = record {
  head = record { id = s.head.id ∙ r.head.id; deletes = s.head.deletes ∙ r.head.deletes };
  lits = s.lits ∙ r.lits;
  hints = s.hints ∙ ap (λ (xs : List ℕ). xs ++ plain_ids others) r.hints ∙ append_assoc old.ids.items (plain_ids numbers) (plain_ids others) ∙ ap (λ (xs : List ℕ). old.ids.items ++ xs) (sym (ids_then numbers others));
  foreign = s.foreign ∙ ap (λ (b : Bool). b || list_any (λ told. told.minus) others) r.foreign ∙ any_then (λ told. told.minus) old.foreign numbers others;
}

-- ---- whole lines

pub addition_is : (id : ℕ) (words left : List (List ℕ)) (literals hints : List Signed) → up_to_zero words ≡ Some (literals, left) → all_to_zero left ≡ Some hints
    → addition id words ≡ Some (record { id = id; deletes = false; literals = literals; hints = hints })
addition_is id words left literals hints is rest = rw (is, rest) refl

pub deletion_is : (id : ℕ) (words : List (List ℕ)) (ids : List Signed) → all_to_zero words ≡ Some ids → list_any (λ told. told.minus) ids ≡ false
    → deletion id words ≡ Some (record { id = id; deletes = true; literals = []; hints = ids })
deletion_is id words ids is plain = rw (is, plain) refl

-- a line that adds a clause is held, once its parts were read
pub held_addition : (old middle new : Line) (literals hints : List Signed) → IsHeld (record { id = old.id; deletes = false; literals = []; hints = [] }) old → ReadsLiterals old middle literals → ReadsIds middle new hints
    → IsHeld (record { id = old.id; deletes = false; literals = literals; hints = hints }) new
held_addition old middle new literals hints held r s = record {
  id = s.head.id ∙ r.head.id;
  deletes = s.head.deletes ∙ (r.head.deletes ∙ held.deletes);
  literals = s.lits ∙ (r.lits ∙ ap (λ (xs : List ℕ). xs ++ codes_of literals) held.literals);
  hints = s.hints ∙ ap (λ (xs : List ℕ). xs ++ plain_ids hints) (r.hints ∙ held.hints);
  foreign = s.foreign ∙ ap (λ (b : Bool). b || list_any (λ told. told.minus) hints) (r.foreign ∙ ap (λ (b : Bool). b || list_any (λ told. not (has_code told)) literals) held.foreign);
}

pub held_deletion : (old new : Line) (ids : List Signed) → IsHeld (record { id = old.id; deletes = true; literals = []; hints = [] }) old → ReadsIds old new ids
    → IsHeld (record { id = old.id; deletes = true; literals = []; hints = ids }) new
held_deletion old new ids held s = record {
  id = s.head.id;
  deletes = s.head.deletes ∙ held.deletes;
  literals = s.lits ∙ held.literals;
  hints = s.hints ∙ ap (λ (xs : List ℕ). xs ++ plain_ids ids) held.hints;
  foreign = s.foreign ∙ ap (λ (b : Bool). b || list_any (λ told. told.minus) ids) held.foreign;
}

-- ---- the line of an id and words

pub line_none : (bytes : List ℕ) → first_number (words_of bytes) ≡ None → line_of bytes ≡ None
unfolding line_of
line_none bytes none = rw none refl

pub line_minus : (bytes : List ℕ) (id : Signed) → first_number (words_of bytes) ≡ Some id → id.minus ≡ true → line_of bytes ≡ None
unfolding line_of
line_minus bytes id is minus = rw (is, minus) refl

pub line_rest : (bytes : List ℕ) (id : Signed) (deletes : Bool) → first_number (words_of bytes) ≡ Some id → id.minus ≡ false → deletes ≡ begins_with (codes "d") (drop 1 (words_of bytes))
    → line_of bytes ≡ rest_of deletes id.number (if deletes then drop 1 (drop 1 (words_of bytes)) else drop 1 (words_of bytes))
unfolding line_of
line_rest bytes id true is plain begins = rw (is, plain, sym begins) refl
line_rest bytes id false is plain begins = rw (is, plain, sym begins) refl

-- where so much of them was read: the words, the id, and whether they delete clauses
pub read_so : (bytes : List ℕ) (all after rest : List (List ℕ)) (told : Option Signed) (id : Signed) (deletes held_deletes : Bool) (held : ℕ) → all ≡ words_of bytes → told ≡ first_number all → told ≡ Some id → after ≡ drop 1 all
    → id.minus ≡ false → deletes ≡ begins_with (codes "d") after → rest ≡ (if deletes then drop 1 after else after) → held_deletes ≡ deletes → held ≡ id.number → line_of bytes ≡ rest_of held_deletes held rest
read_so bytes all after rest told id deletes held_deletes held is read some passed plain begins goes_on same same_id =
    rw (same, same_id, goes_on, passed, is) (line_rest bytes id deletes (ap first_number (sym is) ∙ (sym read ∙ some)) plain (begins ∙ ap (λ (words : List (List ℕ)). begins_with (codes "d") words) (passed ∙ ap (drop 1) is)))

-- where none is held to have a minus, none has
pub plain_ids_of : (old new : Line) (ids : List Signed) → IsHeld (record { id = old.id; deletes = true; literals = []; hints = [] }) old → ReadsIds old new ids
    → ◌≡◌ {A = Result Bool Memory} (Ok (not new.foreign)) (Ok true) → list_any (λ told. told.minus) ids ≡ false
plain_ids_of old new ids held s e =
    let plain : new.foreign ≡ false = not_true new.foreign (let same : not new.foreign ≡ true = cc in same) in
    sym (s.foreign ∙ ap (λ (b : Bool). b || list_any (λ told. told.minus) ids) held.foreign) ∙ plain
  where
    not_true : (b : Bool) → not b ≡ true → b ≡ false
    not_true true f = absurd (let never : false ≡ true = f in cc)
    not_true false f = refl
