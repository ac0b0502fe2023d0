use Rattle.proof_log.proofs.Lines.{lines_read}
use Rattle.proof_log.proofs.Spelling.{one_place, one_spelling, texts_fit}
use Rattle.proof_log.proofs.laws.laws.Goals as goal

pub returns : goal.returns
returns c = record { one_spelling = one_spelling; lines_read = lines_read; fit = texts_fit; one_place = one_place }
