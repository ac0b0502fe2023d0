use Rattle.std.proofs.Common.{arith, rules, ◌≡◌, ◌∙◌, ◌<◌, ◌/◌, [], List, ℕ, Option, None, length, vec_len, set, ap}
use Rattle.std.proofs.lemmas.List.{get_or_read}
use Rattle.rup_check.specs.own.Pages.{joined}
use Rattle.rup_check.proofs.PagesLaws.{within_page, set_by}
use Rattle.rup_check.proofs.pages.Pages.remove.Goals as goal

pub index_mut-page-requires : goal.index_mut-page-requires
index_mut-page-requires c =
    let pages = c.self.inside.pages.items in
    let long : vec_len c.self.inside.pages ≡ length pages = search rules in
    let lt : c.args.number < length (joined pages) = let r = c.requires in let same = ap length c.self.view_is in omega (arith, r, same) in
    let place = (within_page pages c.args.number lt c.self.invariant).0 in
    omega (arith, long, place)

pub remove-requires : goal.remove-requires
remove-requires c =
    let pages = c.self.inside.pages.items in
    let lt : c.args.number < length (joined pages) = let r = c.requires in let same = ap length c.self.view_is in omega (arith, r, same) in
    let within = within_page pages c.args.number lt c.self.invariant in
    let page = get_or_read pages (c.args.number / 128) c.index_mut-page.result.now within.0 c.index_mut-page.ensures.value [] in
    let long = ap length page in
    let inside = within.1 in
    omega (arith, long, inside)

pub invariant_of-self : goal.invariant_of-self
invariant_of-self c =
    let pages = c.self.inside.pages.items in
    let lt : c.args.number < length (joined pages) = let r = c.requires in let same = ap length c.self.view_is in omega (arith, r, same) in
    let page = get_or_read pages (c.args.number / 128) c.index_mut-page.result.now (within_page pages c.args.number lt c.self.invariant).0 c.index_mut-page.ensures.value [] in
    (set_by pages c.index_mut-page.result.now c.remove.new.self c.args.number None lt page c.remove.ensures c.self.invariant).0

pub returns : goal.returns
returns c =
    let pages = c.self.inside.pages.items in
    let lt : c.args.number < length (joined pages) = let r = c.requires in let same = ap length c.self.view_is in omega (arith, r, same) in
    let page = get_or_read pages (c.args.number / 128) c.index_mut-page.result.now (within_page pages c.args.number lt c.self.invariant).0 c.index_mut-page.ensures.value [] in
    (set_by pages c.index_mut-page.result.now c.remove.new.self c.args.number None lt page c.remove.ensures c.self.invariant).1
    ∙ ap (λ (os : List (Option (List ℕ))). set os c.args.number None) c.self.view_is
