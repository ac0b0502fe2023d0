use Rattle.std.proofs.Common.{◌≡◌, ◌∙◌, ◌++◌, ◌+◌, ℕ, List, [], ◌∷◌, length, max, sym, ap₂, arith, append_assoc, length-append}
use Rattle.report_lines.specs.Lines.{joined}
use Rattle.plan_endings.specs.Ending.{parts_text, problem_line, text_of}
use Rattle.plan_endings.proofs.Pushed.{one-status, one-text}
use Rattle.plan_endings.proofs.parts.Growing.push.Goals as goal

pub returns : goal.returns
returns c parts has =
    let part = c.args.part in
    let line : List ℕ = joined (problem_line (1 + length parts) ∷ []) in
    let number : c.args.self.now.count + 1 ≡ 1 + length parts = omega (arith, has.count) in
    let due : c.as_slice.result.now ≡ text_of part = c.as_slice.ensures ∙ c.in_ok-due.ensures.text in
    let lined : c.push_problem.new.text.items ≡ parts_text 1 parts ++ line =
    c.in_ok-push_problem.ensures ∙ ap₂ (λ (xs : List ℕ) (n : ℕ). xs ++ joined (problem_line n ∷ [])) has.text number in
    record {
      count = omega (arith, has.count, length-append parts (part ∷ []));
      status = c.max-self.ensures ∙ (ap₂ max has.status c.status-status.ensures ∙ sym (one-status parts part));
      text = c.in_ok-extend_from_slice.ensures.items ∙ (ap₂ (λ (xs ys : List ℕ). xs ++ ys) lined due
          ∙ (append_assoc (parts_text 1 parts) line (text_of part) ∙ sym (one-text 1 parts part)));
    }
