-- The texts of a task are short: each piece of a list has at most 40 bytes, and there are at most 64 of each.
use Rattle.std.proofs.Common.{◌+◌, ◌*◌, ◌≤◌, ℕ, zero, suc, List, [], codes, length, arith, refl, leb-true}
use Rattle.std.specs.Fmt.{decimal}
use Rattle.std.proofs.lemmas.List.{length-append}
use Rattle.std.proofs.lemmas.Fmt.{length-decimal-le}
use Rattle.plan_gen.specs.declared.Kind.{Kind}
use Rattle.plan_gen.specs.declared.Kind.TheVariants.{Corridor, Gripper}
use Rattle.plan_gen.specs.Numbered.{numbered}
use Rattle.plan_gen.specs.Corridor.{corridor_problem, doors}
use Rattle.plan_gen.specs.Gripper.{gripper_problem}
use Rattle.plan_gen.specs.Task.{domain_of, problem_of}
use Rattle.containers.specs.Limits.{most_bytes}

two_digits : (n : ℕ) → n ≤ 65 → length (decimal n) ≤ 2
two_digits n small = length-decimal-le 2 n (omega arith) (omega arith) (omega arith)

numbered_le : (before after : List ℕ) → length before ≤ 16 → length after ≤ 16 → (count : ℕ) → count ≤ 64 → length (numbered before after count) ≤ 40 * count
numbered_le before after b a zero small = omega arith
numbered_le before after b a (suc count) small =
    let rest = numbered_le before after b a count (omega arith) in
    let digits = two_digits (count + 1) (omega arith) in
    simp length-append (omega arith)

doors_le : (count : ℕ) → count ≤ 64 → length (doors count) ≤ 80 * count
doors_le zero small = omega arith
doors_le (suc count) small =
    let rest = doors_le count (omega arith) in
    let first = two_digits count (omega arith) in
    let second = two_digits (count + 1) (omega arith) in
    simp length-append (omega arith)

corridor_le : (number : ℕ) → number ≤ 64 → length (corridor_problem number) ≤ most_bytes
corridor_le number small =
    let digits = two_digits number (omega arith) in
    let rooms = numbered_le (codes " r") [] (omega arith) (omega arith) number small in
    let between = doors_le number small in
    simp length-append (omega arith)

gripper_le : (number : ℕ) → number ≤ 64 → length (gripper_problem number) ≤ most_bytes
gripper_le number small =
    let digits = two_digits number (omega arith) in
    let balls = numbered_le (codes " ball") [] (omega arith) (omega arith) number small in
    let are_balls = numbered_le (codes " (ball ball") (codes ")") (omega arith) (omega arith) number small in
    let at_first = numbered_le (codes " (at ball") (codes " rooma)") (omega arith) (omega arith) number small in
    let at_last = numbered_le (codes " (at ball") (codes " roomb)") (omega arith) (omega arith) number small in
    simp length-append (omega arith)

pub domain_le : (kind : Kind) → length (domain_of kind) ≤ most_bytes
domain_le Corridor = leb-true (length (domain_of Corridor)) most_bytes refl
domain_le Gripper = leb-true (length (domain_of Gripper)) most_bytes refl

pub problem_le : (kind : Kind) (number : ℕ) → number ≤ 64 → length (problem_of kind number) ≤ most_bytes
problem_le Corridor number small = corridor_le number small
problem_le Gripper number small = gripper_le number small
