use Rattle.std.proofs.Common.{rules, ◌≡◌, replicate, length, sym, ap, ◌∙◌}
use Rattle.containers.proofs.published.Made.{made_alike}
use Rattle.containers.proofs.equal.items_of.Goals as goal

-- src/lib.rt:8:1
pub returns : goal.returns
returns g c = λ item alike.
    let filled = c.in_ok-resize_with.ensures in
    let ran = filled.items in
    let whole : c.resize_with.new.self.items ≡ ran.0 = search rules in
    let long : length c.resize_with.new.self.items ≡ c.args.count = search rules in
    whole ∙ made_alike _ item (λ f x h s. alike f x h s) _ _ ran.0 ran.3 ∙ ap (λ n. replicate n item) (ap length (sym whole) ∙ long)
