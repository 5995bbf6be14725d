-- The loop that fills a column keeps the limits.
use Rattle.std.proofs.Common.{ℕ, zero, suc, ◌+◌, ◌^◌, ◌<◌, ◌≤◌, Bool, true, false, cond, lit≤, arith}
use Rattle.us_code.specs.declared.program.Buf.TheVariants as buf
use Rattle.us_code.specs.declared.pieces.Columns.{Columns}
use Rattle.us_code.specs.Plain.{Reg, End, Load, Set, ◌+++◌}
use Rattle.us_expr.specs.Tree.{Tree, node_count}
use Rattle.us_expr.specs.Value.{IsWithin}
use Rattle.us_gen_query.specs.Terms.{reads, term_of}
use Rattle.us_gen_query.specs.Filling.{column, width, loads, fill}
use Rattle.us_limits.specs.Small.{Small}
use Rattle.us_limits.proofs.Blocks.{block-looser, append-small, only-for}
use Rattle.us_query_limits.proofs.Words.{register, term-of-fits}

loads-keep : (cs : Columns) (e : Tree) (n c : ℕ) → Small c 1 (loads cs e n c)
loads-keep cs e n zero = record { terms = tt; deep = lit≤ tt; long = lit≤ tt }
loads-keep cs e n (suc c) = either (reads e c) (loads-keep cs e n c)
  where
    either : (b : Bool) → Small c 1 (loads cs e n c) → Small (suc c) 1 (cond b (loads cs e n c +++ Load (n + 1 + c) (buf.New (column cs c)) (Reg n) End) (loads cs e n c))
    either true s =
        let l : Small 1 1 (Load (n + 1 + c) (buf.New (column cs c)) (Reg n) End) = record { terms = (register, tt); deep = lit≤ tt; long = lit≤ tt } in
        block-looser (omega arith) (lit≤ tt) (append-small s l)
    either false s = block-looser (omega arith) (lit≤ tt) s

pub fill-keeps : (m : ℕ) (cs : Columns) (e : Tree) (b n : ℕ) → cs.count < 2 ^ 32 → IsWithin m e → node_count e ≤ 32 → Small (width cs + 2) 3 (fill cs e b n)
fill-keeps m cs e b n named within few =
    let l : Small 1 1 (Set (buf.New b) (Reg n) (term_of e (n + 1)) End) = record { terms = (register, term-of-fits m e (n + 1) within few, tt); deep = lit≤ tt; long = lit≤ tt } in
    block-looser (omega arith) (lit≤ tt) (only-for named (append-small (loads-keep cs e n (width cs)) l))
