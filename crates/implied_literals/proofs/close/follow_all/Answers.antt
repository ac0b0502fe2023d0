use Rattle.std.proofs.Common.{◌≡◌, ◌∙◌, ◌*◌, ap, not, ◌&&◌, ◌||◌, Bool, ℕ, List}
use Rattle.bit_sets.specs.Rows.{row_has}
use Rattle.gt_core.proofs.published.Basics.{apart}
use Rattle.implied_literals.specs.Rows.{clause_in, IsChained, IsPart}
use Rattle.implied_literals.proofs.published.Closing.{grown_all, growing_all, less_all}
use Rattle.implied_literals.proofs.close.follow_all.Goals as goal

pub returns : goal.returns
returns c =
    let V = clause_in c.args.rules.now.clauses.now in
    let R = row_has c.args.row.now in
    let T = row_has c.args.spare.now.rest in
    let U = row_has c.add_told.new.told in
    let all = c.in_ok-add_told.ensures.all in
    let only : (other : ℕ → Bool) → IsChained V other → IsPart T other → IsPart U other = λ other ch part. c.in_ok-add_told.ensures.only other ch part (λ m t. absurd (apart (row_has c.clear.new.self m) t (c.clear.ensures m))) in
    let er : (m : ℕ) → row_has c.unite.new.self m ≡ (R m || U m) = c.in_ok-unite.ensures.has in
    let et : (m : ℕ) → row_has c.subtract.new.self m ≡ (U m && not (R m)) = λ m. c.subtract.ensures.has m ∙ ap (λ (r : List ℕ). row_has r m && not (R m)) c.in_ok-make_same.ensures in
    record {
      grown = grown_all V (2 * c.args.rules.now.facts) c.requires.rules.clauses.within R T U _ _ c.requires.growing all only er et;
      growing = growing_all V (2 * c.args.rules.now.facts) c.requires.rules.clauses.within R T U _ _ c.requires.growing all only er et;
      less = less_all V (2 * c.args.rules.now.facts) c.requires.rules.clauses.within R T U _ _ c.requires.growing all only er et;
    }
