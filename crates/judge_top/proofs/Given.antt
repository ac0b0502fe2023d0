-- What is read of the bytes of a model's text that a tape handed over is read of the bytes of the whole file.
use Rattle.std.proofs.Common.{◌≡◌, ◌<◌, ℕ, List, [], ◌++◌, length}
use Rattle.pl_io.specs.Tape.{Given, given_more}
use Rattle.pl_io.specs.declared.tape.Reading.TheVariants.{Goes}
use Rattle.proof_verdict.proofs.published.Given.{on_all, sound_on, ended_sound, at_end}
use Rattle.sat_text.specs.Values.{Reading, model_of}
use Rattle.judge_top.specs.Answers.{IsReadAs}

-- A file that was read from its front on, and what was given after a call more.
module _ (given next : Given) (goes : given.reading ≡ Goes) where
  -- a piece with bytes
  pub read_early : (piece : List ℕ) → next ≡ given_more given piece → 0 < length piece → (variables : ℕ) (reading : Reading) → ((more : List ℕ) → model_of variables ((given.bytes ++ piece) ++ more) ≡ reading) → IsReadAs variables next reading
  read_early piece is some variables reading said = record { sound = sound_on given next goes piece is some; is = on_all given next goes piece is some (λ file. model_of variables file ≡ reading) said }

  -- its end
  pub read_at_end : next ≡ given_more given [] → (variables : ℕ) (reading : Reading) → model_of variables given.bytes ≡ reading → IsReadAs variables next reading
  read_at_end is variables reading said = record { sound = ended_sound given next goes is; is = at_end given next goes is (λ file. model_of variables file ≡ reading) said }
