use Rattle.std.proofs.Common.{rules, true, ◌≡◌, ◌∙◌, ◌++◌, ◌∷◌, [], ap, ℕ, List, Bool, length, if◌then◌else◌, append_assoc}
use Rattle.containers.specs.own.Pieces.{pieces, AreEnds}
use Rattle.containers.proofs.PieceLemmas.{cut_by, pieces_by}
use Rattle.containers.proofs.flat_lists.push_joined.Goals as goal

-- what was added, where there was room for it
added_by : {A : Type 0} (added old more : List A) (b : Bool) → added ≡ (if b then old ++ more else old) → b ≡ true → added ≡ old ++ more
added_by added old more b e t = e ∙ ap (λ (a : Bool). if a then old ++ more else old) t

-- the items of two lists, one after the other
both_by : {A : Type 0} (last items now first second : List A) (b : Bool) → last ≡ (if b then now ++ second else now) → b ≡ true → now ≡ items ++ first → last ≡ items ++ (first ++ second)
both_by last items now first second b e t f = added_by last now second b e t ∙ ap (λ (xs : List _). xs ++ second) f ∙ append_assoc items first second

-- the ends and the lists, with two lists more as one, where there was room for it
one_more :
    {A : Type 0} (items now last first second : List A) (ends pushed : List ℕ) (end : ℕ) (room more : Bool) → AreEnds 0 ends (length items)
    → pushed ≡ (if more then ends ++ end ∷ [] else ends) → more ≡ true → last ≡ (if room then now ++ second else now) → room ≡ true → now ≡ items ++ first → end ≡ length last
    → AreEnds 0 pushed (length last) × (pieces 0 last pushed ≡ pieces 0 items ends ++ (first ++ second) ∷ [])
one_more items now last first second ends pushed end room more a p m l r n e =
    let one = added_by pushed ends (end ∷ []) more p m in
    let both = both_by last items now first second room l r n in
    (cut_by items last ends pushed (first ++ second) end a one both e, pieces_by items last ends pushed (first ++ second) end a one both e)

pub returns-clause-cut : goal.returns-clause-cut
returns-clause-cut g c =
    (one_more c.args.items.now.items c.extend_from_slice.new.self.items c.extend_from_slice-2.new.self.items c.args.first.now c.args.second.now c.args.ends.now.items c.push.new.self.items c.len.result _ _ c.requires.cut c.push.ensures.items c.if-is_err-2.ensures.negation c.extend_from_slice-2.ensures.items c.if-is_err.ensures.negation c.in_ok-extend_from_slice.ensures.items (search rules)).0

pub returns-clause-ok : goal.returns-clause-ok
returns-clause-ok g c =
    (one_more c.args.items.now.items c.extend_from_slice.new.self.items c.extend_from_slice-2.new.self.items c.args.first.now c.args.second.now c.args.ends.now.items c.push.new.self.items c.len.result _ _ c.requires.cut c.push.ensures.items c.if-is_err-2.ensures.negation c.extend_from_slice-2.ensures.items c.if-is_err.ensures.negation c.in_ok-extend_from_slice.ensures.items (search rules)).1
