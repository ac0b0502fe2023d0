use Rattle.std.proofs.Common.{arith, ◌≡◌, ◌∙◌, ℕ, [], List, fold, sym, ap}
use Rattle.containers.specs.Rising.{put}
use Rattle.formula_defs.specs.Layout.{Layout}
use Rattle.goal_choice.specs.own.Members.{Literals}
use Rattle.goal_choice.specs.Walk.{support_of, walk}
use Rattle.goal_choice.proofs.Steps.{put_rising}
use Rattle.goal_choice.proofs.descent.whole_walk.Goals as goal

pub walking-init : goal.walking-init
walking-init c =
    let m = c.args.means.now in
    let support = support_of m c.args.values.now in
    let top : c.behind-means.inside.horizon ≡ m.layout.horizon = ap (λ (z : Layout). z.horizon) (c.behind-means.view_is ∙ c.layout.ensures.layout) in
    let members : c.put_all.new.self.members ≡ m.goal =
    ap (λ (s : Literals). s.members) c.put_all.ensures ∙ ap (λ (s : Literals). fold put s.members c.goal.result.now) c.clear.ensures ∙ ap (λ (ls : List ℕ). fold put [] ls) c.goal.ensures.goal ∙ put_rising m.goal c.goal.ensures.rising in
    record {
      reached = ap (walk support m.layout.horizon) (sym members) ∙ ap (λ (n : ℕ). walk support n c.put_all.new.self.members) (sym top);
      wanted = ap (λ (s : Literals). s.facts) c.put_all.ensures ∙ ap (λ (s : Literals). s.facts) c.clear.ensures ∙ c.requires.wanted;
      before = c.requires.before;
      top = omega (arith, top);
    }
