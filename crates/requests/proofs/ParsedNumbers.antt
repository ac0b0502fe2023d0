-- What a number's reader and its getter give together.
use Rattle.std.proofs.Common.{◌≡◌, ◌∙◌, ◌<◌, ◌≤◌, ◌^◌, ℕ, Option, Some, None, refl, sym, ap, subst, unwrap_or, option_map}
use Rattle.std.specs.Prelude.{Result, Ok}
use Rattle.std.specs.Option.{option_map_or}
use Rattle.std.specs.Borrow.{Bor}
use Rattle.std.specs.Str.Parse.{ParsesUnsigned, digits_value, without_leading_plus}
use Rattle.clap.specs.Lexer.{without_minus}
use Rattle.clap.specs.Matches.{one_text, ReadsOne}
use Rattle.clap.specs.Walk.{Text, rows_of}
use Rattle.clap.specs.declared.parser.matches.Found.{Found}
use Rattle.clap.proofs.WalkLemmas.{one_text-rows}
use Rattle.clap.proofs.CallerReads.{signed_reads}
use Rattle.requests.specs.Passed.{HasNumber, number_at}

-- the text behind a default
pub now_or : (o : Option (Bor Text)) (d : Bor Text) → (unwrap_or o d).now ≡ unwrap_or (option_map (λ s. s.now) o) d.now
now_or None d = refl
now_or (Some x) d = refl

module _ (E : Type 0) (G : Text → Result ℕ E → Type 0) (k : ℕ) (only : (u : Text) (x : Result ℕ E) → G u x → ParsesUnsigned k 10 u x) where
  -- the number that is read is the one that the digits spell
  pub read_value : (t : Text) (r : Option ℕ) (n : ℕ) → r ≡ Some n → ReadsOne G t r → n ≡ digits_value 10 (without_leading_plus t)
  read_value t r n is h = (only t (Ok n) (subst (ReadsOne G t) is h)).1

  pub read_number : (f : Found) (id : Text) (low high : ℕ) (r : Option ℕ) → high < 2 ^ k → HasNumber low high id (rows_of f)
      → ((t : Text) → one_text f id ≡ Some t → ReadsOne G t r)
      → (n : ℕ) × (r ≡ Some n) × (low ≤ n) × (n ≤ high) × (n ≡ number_at id (rows_of f))
  read_number f id low high r fits has reads =
      let one : one_text f id ≡ Some (without_minus has.0) = one_text-rows f id ∙ has.1 in
      let read = reads (without_minus has.0) one in
      let got = signed_reads E G k low high has.0 r read only fits has.2 in (
        got.0,
        got.1,
        got.2,
        got.3,
        read_value (without_minus has.0) r got.0 got.1 read
            ∙ sym (ap (λ (o : Option Text). option_map_or (λ text. digits_value 10 (without_leading_plus text)) o 0) has.1),
      )
