use Rattle.report_lines.proofs.published.ReadBack.{read_back, fronts}
use Rattle.report_lines.proofs.published.Entries.{entries_said}
use Rattle.report_lines.proofs.laws.Goals as goal

pub returns-clause-read_back : goal.returns-clause-read_back
returns-clause-read_back c = read_back

pub returns-clause-fronts : goal.returns-clause-fronts
returns-clause-fronts c = fronts

pub returns-clause-entries : goal.returns-clause-entries
returns-clause-entries c = entries_said
