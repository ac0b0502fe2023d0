use Rattle.std.proofs.Common.{◌≡◌, ◌<◌, ℕ, ◌++◌, ◌∷◌, [], drop, get_or}
use Rattle.std.specs.List.{flat_map}
use Rattle.report_lines.specs.Lines.{joined}
use Rattle.report_lines.specs.Horizons.{entry_line}
use Rattle.race_outcome.specs.declared.line.Line.{Line}
use Rattle.race_outcome.specs.Ends.{line_view}
use Rattle.plan_report.specs.Report.{entry_of}
use Rattle.plan_report.specs.Laws.{IsSmallLine}
use Rattle.plan_report.proofs.horizons.push_horizons.Given as goal

abbrev pub invariant-loop-line : goal.invariant-loop-line
invariant-loop-line l = record {
  told : l.initial.text.items ++ flat_map (λ x. joined (entry_line (entry_of (line_view x)) ∷ [])) l.lines
      ≡ l.text.items ++ flat_map (λ x. joined (entry_line (entry_of (line_view x)) ∷ [])) (drop l.line-index l.lines);
  small : (k : ℕ) (d : Line) → k < l.line-index → IsSmallLine (line_view (get_or l.lines k d));
}
