-- What is read is calls, and there are no more of them than bytes.
use Rattle.std.proofs.Common.{◌≡◌, ◌≤◌, ◌<◌, ℕ, suc, ◌+◌, Bool, true, false, cond, List, [], ◌∷◌, ◌++◌, length, Result, Ok, Err, drop, get_or, refl, sym, ap, ◌∙◌, append-nil, arith}
use Rattle.std.proofs.lemmas.List.{drop_more}
use Rattle.std.specs.Prelude.{◌==◌, IfOk, IsTrue, slice_get}
use Rattle.std.specs.List.{list_all}
use Rattle.pd_sexp.specs.Bytes.{is_blank, is_letter, lowered, semicolon, line_feed}
use Rattle.pd_sexp.specs.Fault.{uncommented, comment_blanked}
use Rattle.pd_model.specs.Fits.{fits, all_fit, is_call}
use Rattle.pd_model.specs.declared.calls.Call.{Call}
use Rattle.pd_model.specs.declared.parts.Parts.{Parts}
use Rattle.pd_model.specs.Names.{object_names, schema_names}
use Rattle.pd_words.specs.Names.{number_of}
use Rattle.pd_words.specs.Typed.{named}
use Rattle.pd_words.specs.declared.named.Named.{Named}
use Rattle.pd_plan.specs.declared.lists.WordList.{WordList}
use Rattle.pd_plan.specs.Fault.{Fault, syntax, unknown, arity, mistyped}
use Rattle.pd_plan.specs.declared.fault.PlanFault.{PlanFault}
use Rattle.pd_words.specs.First.{◌>>=◌, found, wants, after}
use Rattle.pd_plan.specs.own.Answers.{Gives}
use Rattle.pd_words.proofs.published.Sound.{bind_ok, wants_ok, found_ok, ok_is}
use Rattle.pd_plan.proofs.Steps.{after-one}
use Rattle.pd_plan.specs.Tokens.{Token, opening, closing, word, wrong, sign, joined, tokens}
use Rattle.pd_plan.specs.WordLists.{word_list, lists, list_on, word_lists}
use Rattle.pd_plan.specs.PlanFile.{argument, arguments, call_from, call_of, calls_of}
use Rattle.containers.specs.Limits.{most_bytes}

-- ---- calls

module _ (p : Parts) where
  fitting : (kind : ℕ) (w : Named) → IfOk (argument p kind w) (λ o. IsTrue (fits p kind o))
  fitting kind w =
      found_ok (λ o. IsTrue (fits p kind o)) (unknown w.at) (number_of w.name (object_names p.objects)) (λ o. wants (fits p kind o) (mistyped w.at) >>= λ _. Ok o)
      (λ o is. wants_ok (λ n. IsTrue (fits p kind n)) (fits p kind o) (mistyped w.at) (λ _. Ok o) (λ fit. fit))

  all_fitting : (kinds : List ℕ) (ws : List Named) → length ws ≡ length kinds → IfOk (arguments p kinds ws) (λ os. IsTrue (all_fit p kinds os))
  all_fitting [] [] same = refl
  all_fitting [] (w ∷ ws) same = absurd (omega (arith, same))
  all_fitting (kind ∷ kinds) [] same = absurd (omega (arith, same))
  all_fitting (kind ∷ kinds) (w ∷ ws) same =
      bind_ok (λ o. IsTrue (fits p kind o)) (λ os. IsTrue (all_fit p (kind ∷ kinds) os)) (argument p kind w) (λ o. arguments p kinds ws >>= λ os. Ok (o ∷ os)) (fitting kind w)
      (λ o fit. bind_ok (λ os. IsTrue (all_fit p kinds os)) (λ os. IsTrue (all_fit p (kind ∷ kinds) os)) (arguments p kinds ws) (λ os. Ok (o ∷ os)) (all_fitting kinds ws (omega (arith, same)))
      (λ os fits. rw fit fits))

  abbrev IsCall : Call → Type 0
  IsCall call = IsTrue (is_call p call)

  spelled : (at : ℕ) (ws : List Named) → IfOk (call_from p at ws) IsCall
  spelled at [] = tt
  spelled at (name ∷ objects) =
      found_ok IsCall (unknown name.at) (number_of name.name (schema_names p.schemas))
      (λ n. found (unknown name.at) (slice_get p.schemas n) >>= λ schema. wants (length objects == length schema.parameters) (arity at) >>= λ _. arguments p schema.parameters objects >>= λ os. Ok (record { schema = n; objects = os }))
      (λ n _. found_ok IsCall (unknown name.at) (slice_get p.schemas n)
      (λ schema. wants (length objects == length schema.parameters) (arity at) >>= λ _. arguments p schema.parameters objects >>= λ os. Ok (record { schema = n; objects = os }))
      (λ schema is. wants_ok IsCall (length objects == length schema.parameters) (arity at) (λ _. arguments p schema.parameters objects >>= λ os. Ok (record { schema = n; objects = os }))
      (λ many. bind_ok (λ os. IsTrue (all_fit p schema.parameters os)) IsCall (arguments p schema.parameters objects) (λ os. Ok (record { schema = n; objects = os }))
      (all_fitting schema.parameters objects (grind (arith, many)))
      (λ os fit. rw is fit))))

  pub all_calls : (ls : List WordList) → IfOk (calls_of p ls) (λ calls. IsTrue (list_all (is_call p) calls))
  all_calls [] = refl
  all_calls (l ∷ ls) =
      bind_ok IsCall (λ calls. IsTrue (list_all (is_call p) calls)) (call_of p l) (λ call. calls_of p ls >>= λ calls. Ok (call ∷ calls)) (spelled l.at l.words)
      (λ call is. bind_ok (λ calls. IsTrue (list_all (is_call p) calls)) (λ calls. IsTrue (list_all (is_call p) calls)) (calls_of p ls) (λ calls. Ok (call ∷ calls)) (all_calls ls)
      (λ calls are. rw is are))

  pub as_many : (ls : List WordList) → IfOk (calls_of p ls) (λ calls. length calls ≡ length ls)
  as_many [] = refl
  as_many (l ∷ ls) =
      bind_ok (λ call. Unit {0}) (λ calls. length calls ≡ length (l ∷ ls)) (call_of p l) (λ call. calls_of p ls >>= λ calls. Ok (call ∷ calls)) (any (call_of p l))
      (λ call _. bind_ok (λ calls. length calls ≡ length ls) (λ calls. length calls ≡ length (l ∷ ls)) (calls_of p ls) (λ calls. Ok (call ∷ calls)) (as_many ls)
      (λ calls same. omega (arith, same)))
    where
      any : (read : Result Call Fault) → IfOk read (λ call. Unit {0})
      any (Ok call) = tt
      any (Err e) = tt

-- ---- how many lists there are

wider : (read : Result (List WordList) Fault) (n : ℕ) → IfOk read (λ ls. length ls ≤ n) → IfOk read (λ ls. length ls ≤ suc n)
wider (Ok ls) n few = omega (arith, few)
wider (Err e) n few = tt

closes_one : (t : Bool) (list : WordList) (start : ℕ) (later : Result (List WordList) Fault) (n : ℕ) → IfOk later (λ ls. length ls ≤ n)
    → IfOk (cond t (Err (syntax start)) (later >>= λ more. Ok (list ∷ more))) (λ ls. length ls ≤ suc n)
closes_one true list start later n few = tt
closes_one false list start later n few = bind_ok (λ ls. length ls ≤ n) (λ ls. length ls ≤ suc n) later (λ more. Ok (list ∷ more)) few (λ more fewer. omega (arith, fewer))

mutual
  few_lists : (end : ℕ) (ts : List Token) → IfOk (lists end ts) (λ ls. length ls ≤ length ts)
  few_lists end [] = omega arith
  few_lists end (opening at ∷ ts) = wider (list_on end at [] ts) (length ts) (few_on end at [] ts)
  few_lists end (closing at ∷ ts) = tt
  few_lists end (word at text ∷ ts) = tt
  few_lists end (wrong at ∷ ts) = tt

  few_on : (end start : ℕ) (words : List Named) (ts : List Token) → IfOk (list_on end start words ts) (λ ls. length ls ≤ length ts)
  few_on end start words [] = tt
  few_on end start words (word at text ∷ ts) = wider (list_on end start (words ++ named at text ∷ []) ts) (length ts) (few_on end start (words ++ named at text ∷ []) ts)
  few_on end start words (closing at ∷ ts) = closes_one (length words == 0) (word_list start words) start (lists end ts) (length ts) (few_lists end ts)
  few_on end start words (opening at ∷ ts) = tt
  few_on end start words (wrong at ∷ ts) = tt

joined_one : (start : ℕ) (letters : List ℕ) (end : ℕ) (ts : List Token) → length (joined start letters end ts) ≤ suc (length ts)
joined_one start letters end [] = omega arith
joined_one start letters end (opening at ∷ ts) = omega arith
joined_one start letters end (closing at ∷ ts) = omega arith
joined_one start letters end (wrong at ∷ ts) = omega arith
joined_one start letters end (word at more ∷ ts) = by_test (at == end)
  where
    by_test : (t : Bool) → length (cond t (word start (letters ++ more) ∷ ts) (word start letters ∷ word at more ∷ ts)) ≤ suc (suc (length ts))
    by_test true = omega arith
    by_test false = omega arith

few_tokens : (at : ℕ) (bs : List ℕ) → length (tokens at bs) ≤ length bs
few_tokens at [] = omega arith
few_tokens at (b ∷ bs) = by_tests (is_blank b) (is_letter b) (few_tokens (at + 1) bs) (joined_one at (lowered b ∷ []) (at + 1) (tokens (at + 1) bs))
  where
    by_tests : (p q : Bool) → length (tokens (at + 1) bs) ≤ length bs → length (joined at (lowered b ∷ []) (at + 1) (tokens (at + 1) bs)) ≤ suc (length (tokens (at + 1) bs))
        → length (cond p (tokens (at + 1) bs) (cond q (joined at (lowered b ∷ []) (at + 1) (tokens (at + 1) bs)) (sign at b ∷ tokens (at + 1) bs))) ≤ suc (length bs)
    by_tests true q few one = omega (arith, few)
    by_tests false true few one = omega (arith, few, one)
    by_tests false false few one = omega (arith, few)

longer : (t : Bool) (x y : ℕ) (xs ys : List ℕ) (n : ℕ) → length xs ≡ n → length ys ≡ n → length (cond t (x ∷ xs) (y ∷ ys)) ≡ suc n
longer true x y xs ys n e f = ap suc e
longer false x y xs ys n e f = ap suc f

mutual
  as_long : (bs : List ℕ) → length (uncommented bs) ≡ length bs
  as_long [] = refl
  as_long (b ∷ bs) = longer (b == semicolon) 32 b (comment_blanked bs) (uncommented bs) (length bs) (comment_as_long bs) (as_long bs)

  comment_as_long : (bs : List ℕ) → length (comment_blanked bs) ≡ length bs
  comment_as_long [] = refl
  comment_as_long (b ∷ bs) = longer (b == line_feed) b 32 (uncommented bs) (comment_blanked bs) (length bs) (as_long bs) (comment_as_long bs)

pub few : (bytes : List ℕ) (ls : List WordList) → word_lists bytes ≡ Ok ls → length ls ≤ length bytes
few bytes ls is =
    let lists_few = ok_is (λ (ls : List WordList). length ls ≤ length (tokens 0 (uncommented bytes))) (word_lists bytes) ls is (few_lists (length bytes) (tokens 0 (uncommented bytes))) in
    let tokens_few = few_tokens 0 (uncommented bytes) in
    omega (arith, lists_few, tokens_few, as_long bytes)

-- ---- what the calls of the crate answer

pub are_calls_of : (p : Parts) (ls : List WordList) (result : Result (List Call) PlanFault) → Gives (calls_of p ls) result → IfOk result (λ calls. IsTrue (list_all (is_call p) calls))
are_calls_of p ls (Ok calls) is = ok_is (λ (calls : List Call). IsTrue (list_all (is_call p) calls)) (calls_of p ls) calls is (all_calls p ls)
are_calls_of p ls (Err e) is = tt

pub few_of : (p : Parts) (bytes : List ℕ) (ls : List WordList) (result : Result (List Call) PlanFault) → length bytes ≤ most_bytes → word_lists bytes ≡ Ok ls → Gives (calls_of p ls) result
    → IfOk result (λ calls. length calls < 4294967296)
few_of p bytes ls (Ok calls) limit are is =
    let same = ok_is (λ (calls : List Call). length calls ≡ length ls) (calls_of p ls) calls is (as_many p ls) in
    let fewer = few bytes ls are in
    omega (arith, limit, same, fewer)
few_of p bytes ls (Err e) limit are is = tt

-- ---- loops

pub no_words : (p : Parts) (front kinds : List ℕ) (ws : List Named) → length ws ≡ 0 → after front (arguments p kinds ws) ≡ Ok front
no_words p front [] [] none = rw (append-nil front) refl
no_words p front (kind ∷ kinds) [] none = rw (append-nil front) refl
no_words p front kinds (w ∷ ws) none = absurd (omega (arith, none))

call_more : (p : Parts) (front : List Call) (l : WordList) (ls : List WordList) (call : Call) → call_of p l ≡ Ok call → after (front ++ call ∷ []) (calls_of p ls) ≡ after front (calls_of p (l ∷ ls))
call_more p front l ls call is = rw is (sym (after-one front call (calls_of p ls)))

-- one list more
pub calls_more : (p : Parts) (lists : List WordList) (i : ℕ) (d : WordList) (front : List Call) (call : Call) → i < length lists → call_of p (get_or lists i d) ≡ Ok call
    → after (front ++ call ∷ []) (calls_of p (drop (i + 1) lists)) ≡ after front (calls_of p (drop i lists))
calls_more p lists i d front call within is = call_more p front (get_or lists i d) (drop (i + 1) lists) call is ∙ ap (λ (ls : List WordList). after front (calls_of p ls)) (sym (drop_more lists i d within))
