-- The phases that select the entries of a part keep the limits.
use Rattle.std.specs.Prelude.{All}
use Rattle.std.proofs.Common.{ℕ, zero, suc, ◌+◌, ◌*◌, ◌^◌, ◌<◌, ◌≤◌, Bool, true, false, List, [], ◌∷◌, length, lit≤, arith}
use Rattle.std.proofs.lemmas.List.Elements.{All-head, All-tail}
use Rattle.us_code.specs.declared.pieces.Columns.{Columns}
use Rattle.us_code.specs.Plain.{Code, Reg, Number, End, Put, Add}
use Rattle.us_expr.specs.declared.queries.Cond.{Cond}
use Rattle.us_gen_query.specs.declared.selecting.Test.{Test}
use Rattle.us_gen_query.specs.Selecting.{branch, guard, count_chosen, copied, copy_chosen}
use Rattle.us_gen_counting.specs.Selected.{part_tests, both}
use Rattle.us_limits.specs.Small.{Small, KeepText}
use Rattle.us_limits.proofs.Blocks.{block-looser, load-small, var-small, only-for, only-if, only-else}
use Rattle.us_limits.proofs.Phases.{text-looser, phase-keep, more-keep}
use Rattle.us_query_limits.proofs.Words.{register, nothing, one-more}
use Rattle.us_query_limits.proofs.Words as words

-- the bounds of tests are of 32 bits
abbrev AreBounded : List Test → Type 0
AreBounded [] = Unit {0}
AreBounded (t ∷ ts) = (t.bound < 2 ^ 32) × AreBounded ts

branch-keeps : (t : Test) (r n d : ℕ) (inner : Code) → t.bound < 2 ^ 32 → 1 ≤ d → Small n d inner → Small (1 + n) (1 + d) (branch t r inner)
branch-keeps t r n d inner low deep s = either t.less
  where
    either : (b : Bool) → Small (1 + n) (1 + d) (branch (record t { less = b }) r inner)
    either true = only-if register (words.bound t.bound low) deep s
    either false = only-else register (words.bound t.bound low) deep s

guard-keeps : (ts : List Test) (x r n d : ℕ) (inner : Code) → AreBounded ts → 1 ≤ d → Small n d inner → Small (2 * length ts + n) (length ts + d) (guard ts x r inner)
guard-keeps [] x r n d inner low deep s = block-looser (omega arith) (omega arith) s
guard-keeps (t ∷ ts) x r n d inner low deep s =
    let rest = guard-keeps ts x (r + 1) n d inner low.1 deep s in
    block-looser (omega arith) (omega arith) (load-small register (branch-keeps t r _ _ _ low.0 (omega (arith, deep)) rest))

count-keeps : (cs : Columns) (ts : List Test) (n : ℕ) → cs.count < 2 ^ 32 → AreBounded ts → Small (2 * length ts + 3) (length ts + 2) (count_chosen cs ts n)
count-keeps cs ts n named low =
    let raised : Small 1 1 (Put n (Add (Reg n) (Number 1)) End) = record { terms = (one-more, tt); deep = lit≤ tt; long = lit≤ tt } in
    block-looser (omega arith) (omega arith) (var-small nothing (only-for named (guard-keeps ts (n + 1) (n + 2) 1 1 _ low (lit≤ tt) raised)))

copied-keeps : (cs to : Columns) (k x r : ℕ) → to.count < 2 ^ 32 → Small 8 2 (copied cs to k x r)
copied-keeps cs to k x r named = record {
  terms = (
    register,
    (register, (register, (register, named, (register, register, (register, register, (register, register, (one-more, tt)))), tt, tt))),
  );
  deep = lit≤ tt;
  long = lit≤ tt;
}

copy-keeps : (cs : Columns) (ts : List Test) (to : Columns) (n : ℕ) → cs.count < 2 ^ 32 → to.count < 2 ^ 32 → AreBounded ts → Small (2 * length ts + 10) (length ts + 3) (copy_chosen cs ts to n)
copy-keeps cs ts to n named made low =
    let inner = copied-keeps cs to n (n + 1) (n + 2 + length ts) made in
    block-looser (omega arith) (omega arith) (var-small nothing (only-for named (guard-keeps ts (n + 1) (n + 2) 8 2 _ low (lit≤ tt) inner)))

both-keep : (cs : Columns) (ts : List Test) (to : Columns) (b : ℕ) → cs.count < 2 ^ 32 → to.count < 2 ^ 32 → AreBounded ts → length ts ≤ 3 → KeepText 64 (both cs ts to b)
both-keep cs ts to b named made low few =
    text-looser (lit≤ tt)
    (more-keep {m = 9} tt (block-looser (omega (arith, few)) (omega (arith, few)) (count-keeps cs ts (b + 8) named low)) (register, tt)
    (phase-keep {n = 16} (made, tt, (made, tt, (made, tt, tt))) (block-looser (omega (arith, few)) (omega (arith, few)) (copy-keeps cs ts to (b + 8) named made low)) tt))

-- ---- the tests of a part

pub record AreShortTests (ts : List Test) (n : ℕ) : Type 0 where
  pub bounds : AreBounded ts
  pub few : length ts ≤ n

tests-are : (column : ℕ → ℕ) (cs : List Cond) (k : ℕ) → All (λ c. c.bound < 2 ^ 32) cs → AreShortTests (part_tests column cs k) (length cs)
tests-are column [] k low = record { bounds = tt; few = omega arith }
tests-are column (c ∷ cs) zero low = record { bounds = (All-head (λ (c : Cond). c.bound < 2 ^ 32) c cs low, tt); few = omega arith }
tests-are column (c ∷ cs) (suc k) low =
    let rest = tests-are column cs k (All-tail (λ (c : Cond). c.bound < 2 ^ 32) c cs low) in
    record { bounds = (All-head (λ (c : Cond). c.bound < 2 ^ 32) c cs low, rest.bounds); few = omega (arith, rest.few) }

pub selection-keeps : (cs to : Columns) (column : ℕ → ℕ) (conds : List Cond) (k b : ℕ) → cs.count < 2 ^ 32 → to.count < 2 ^ 32 → All (λ c. c.bound < 2 ^ 32) conds → length conds ≤ 3 → KeepText 64 (both cs (part_tests column conds k) to b)
selection-keeps cs to column conds k b named made low few =
    let tests = tests-are column conds k low in both-keep cs (part_tests column conds k) to b named made tests.bounds (omega (arith, few, tests.few))
