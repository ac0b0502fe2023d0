use Rattle.std.proofs.Common.{arith, ◌≡◌, ◌<◌, ℕ, List, [], Bool, false, Option, Some, None, get_or, length, vec_len, sym, ◌∙◌, subst, rules}
use Rattle.std.proofs.lemmas.List.{get_or_read}
use Rattle.action_order.specs.own.Graph.{class_at}
use Rattle.action_order.specs.own.Sorting.{is_taken, IsPending}
use Rattle.action_order.proofs.SortingLaw.{passed_more, all_found, waits_for, gets_ready}
use Rattle.action_order.proofs.sort.TopologicalSort.settle.Goals as goal

-- what was found of a component's targets, said of the lists that were read
pending_is : (taken seen : List Bool) (rows : List (List ℕ)) (numbers passed row : List ℕ) (own start : ℕ) (found end : Option ℕ) → seen ≡ taken → own < length rows → row ≡ get_or rows own row → own < length passed → start ≡ get_or passed own start → IsPending seen numbers row start found → found ≡ end → IsPending taken numbers (get_or rows own []) (get_or passed own 0) end
pending_is taken seen rows numbers passed row own start found end s lr r lp p h e =
    let row_is = get_or_read rows own row lr r [] in
    let start_is = get_or_read passed own start lp p 0 in
    let f = subst (IsPending seen numbers row start) e h in
    rw (row_is, s, start_is) at f

pub bounds-numbers-b : goal.bounds-numbers-b
bounds-numbers-b c =
    let f = pending_is c.args.self.now.taken.items c.as_slice.result.now c.args.rows.now c.args.numbers.now c.args.self.now.passed.items c.index-rows-c.result c.args.c c.index-2.result.now c.pending.result (Some c.in-Some.b) c.as_slice.ensures.value c.requires.below c.index-rows-c.is (let l = c.requires.sorting.passed_long in let x = c.requires.below in omega arith) c.index-2.ensures c.pending.ensures c.in-Some.is in
    c.requires.rows.vertex c.args.c c.in-Some.b f.0

pub index_mut-list-requires : goal.index_mut-list-requires
index_mut-list-requires c =
    let f = pending_is c.args.self.now.taken.items c.as_slice.result.now c.args.rows.now c.args.numbers.now c.args.self.now.passed.items c.index-rows-c.result c.args.c c.index-2.result.now c.pending.result (Some c.in-Some.b) c.as_slice.ensures.value c.requires.below c.index-rows-c.is (let l = c.requires.sorting.passed_long in let x = c.requires.below in omega arith) c.index-2.ensures c.pending.ensures c.in-Some.is in
    let lt = c.requires.rows.falls c.args.c c.in-Some.b c.requires.below f.0 in
    let long = c.requires.sorting.waiting_long in
    let len : vec_len c.args.self.now.waiting ≡ length c.args.self.now.waiting.items = search rules in
    let b = c.requires.below in
    omega arith

pub returns-in_ok-push-in-Some-clause-sorting : goal.returns-in_ok-push-in-Some-clause-sorting
returns-in_ok-push-in-Some-clause-sorting c =
    let d = c.requires.sorting in
    let own = c.args.c in
    let b = c.in-Some.b in
    let waiting = c.args.self.now.waiting.items in
    let f = pending_is c.args.self.now.taken.items c.as_slice.result.now c.args.rows.now c.args.numbers.now c.args.self.now.passed.items c.index-rows-c.result c.args.c c.index-2.result.now c.pending.result (Some c.in-Some.b) c.as_slice.ensures.value c.requires.below c.index-rows-c.is (let l = c.requires.sorting.passed_long in let x = c.requires.below in omega arith) c.index-2.ensures c.pending.ensures c.in-Some.is in
    let lt = c.requires.rows.falls own b c.requires.below f.0 in
    let on : class_at c.args.numbers.now b < length waiting = let l = d.waiting_long in let x = c.requires.below in omega arith in
    let list = get_or_read waiting (class_at c.args.numbers.now b) c.index_mut-list.result.now on c.index_mut-list.ensures.value [] in
    let more = passed_more c.args.rows.now c.args.names.now c.args.numbers.now _ _ _ _ _ _ own b c.requires.rows c.requires.below d f.2 in
    rw (c.in_ok-push-in-Some.ensures.ok, list) (waits_for c.args.rows.now c.args.names.now c.args.numbers.now _ _ _ _ _ _ own b c.requires.below (let l = d.waiting_long in omega arith) more f.0 f.1)

pub returns-in_ok-put-in-None-clause-sorting : goal.returns-in_ok-put-in-None-clause-sorting
returns-in_ok-put-in-None-clause-sorting c =
    let d = c.requires.sorting in
    let own = c.args.c in
    let taken = c.args.self.now.taken.items in
    let f = pending_is c.args.self.now.taken.items c.as_slice.result.now c.args.rows.now c.args.numbers.now c.args.self.now.passed.items c.index-rows-c.result c.args.c c.index-2.result.now c.pending.result None c.as_slice.ensures.value c.requires.below c.index-rows-c.is (let l = c.requires.sorting.passed_long in let x = c.requires.below in omega arith) c.index-2.ensures c.pending.ensures c.in-None.is in
    let un : is_taken taken own ≡ false = sym (get_or_read taken own c.index.result.now (let l = d.taken_long in let x = c.requires.below in omega arith) c.index.ensures false) ∙ c.if-index.false in
    gets_ready c.args.rows.now c.args.names.now c.args.numbers.now _ _ _ _ _ _ _ own c.requires.below d un
    (all_found c.args.rows.now c.args.names.now c.args.numbers.now _ _ _ _ _ _ own c.requires.rows c.requires.below d f) c.in_ok-put-in-None.ensures
