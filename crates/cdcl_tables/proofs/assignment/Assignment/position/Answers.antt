use Rattle.std.proofs.Common.{arith, ◌≡◌, ◌<◌, ◌≤◌, ℕ, ◌/◌, true, Bool, ltb, get_or, List, length, take, ap, sym, ◌∙◌, refl}
use Rattle.clause_base.specs.Literal.{opposite}
use Rattle.clause_base.specs.Clause.{has_literal}
use Rattle.cdcl_tables.specs.Assignment.{AssignmentView, IsAssignment, literals}
use Rattle.cdcl_tables.proofs.published.Assignments.{position_is}
use Rattle.cdcl_tables.proofs.published.Mirrors.{half_opposite}
use Rattle.cdcl_tables.proofs.assignment.Assignment.position.Goals as goal

placed : (n : ℕ) (own : List ℕ) (on : List Bool) (positions trail : List ℕ) (m code half : ℕ) → IsAssignment n own on positions → m ≡ n → own ≡ trail → half < m → code / 2 ≡ half
    → has_literal trail code ≡ true → (k : ℕ) → k ≤ length trail → has_literal (take k trail) code ≡ ltb (get_or positions half 0) k
placed n own on positions trail m code half i e t b c h k kl =
    let l = ap (λ (xs : List ℕ). length xs) t in
    ap (λ (xs : List ℕ). has_literal (take k xs) code) (sym t) ∙ position_is n own on positions code half i c (ap (λ (xs : List ℕ). has_literal xs code) t ∙ h) k (omega (arith, kl, l))

pub returns-clause-risen : goal.returns-clause-risen
returns-clause-risen c h k kl =
    let t = c.self.inside in
    let v : t.variables ≡ c.args.self.now.variables = ap (λ (w : AssignmentView). w.variables) c.self.view_is in
    let tr : literals t.entries.now ≡ c.args.self.now.trail = ap (λ (w : AssignmentView). w.trail) c.self.view_is in
    placed t.variables (literals t.entries.now) t.on.now t.positions.now c.args.self.now.trail c.args.self.now.variables c.args.code (c.args.code / 2) c.self.invariant (sym v) tr
    (omega (arith, c.requires)) refl h k kl

pub returns-clause-falsified : goal.returns-clause-falsified
returns-clause-falsified c h k kl =
    let t = c.self.inside in
    let v : t.variables ≡ c.args.self.now.variables = ap (λ (w : AssignmentView). w.variables) c.self.view_is in
    let tr : literals t.entries.now ≡ c.args.self.now.trail = ap (λ (w : AssignmentView). w.trail) c.self.view_is in
    placed t.variables (literals t.entries.now) t.on.now t.positions.now c.args.self.now.trail c.args.self.now.variables (opposite c.args.code) (c.args.code / 2) c.self.invariant (sym v) tr
    (omega (arith, c.requires)) (half_opposite c.args.code) h k kl
