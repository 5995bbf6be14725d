-- Blocks that build the buffers of levels keep the limits.
use Rattle.std.proofs.Common.{ℕ, suc, ◌+◌, ◌*◌, ◌≤◌, Bool, true, false, List, [], ◌∷◌, length, Option, Some, None, lit<, lit≤, arith}
use Rattle.us_code.specs.declared.program.Dim.{Dim}
use Rattle.us_code.specs.declared.program.Buf.TheVariants as buf
use Rattle.us_code.specs.Plain.{TermTree, Number, Reg, Code, End, Set, For}
use Rattle.us_code.specs.Limits.{FitsDim, FitsTerm}
use Rattle.us_gen.specs.Levels.{size_term}
use Rattle.us_gen_build.specs.declared.levels.Role.{Role}
use Rattle.us_gen_build.specs.declared.levels.Role.TheVariants.{Full, Shared, Single, AtPosition, AtRank, Counted, Marked, Kept}
use Rattle.us_gen_build.specs.Levels.{LevelTree, under, one_more, minus_one, mark, cell_at, new_node, if_new, block_of, below_of, levels, open_of, opens}
use Rattle.us_gen_build.specs.Loops.{loads, picked, entry_loop, fill_up, entry_of}
use Rattle.us_gen_build.specs.Blocks.{close_pos, close_of, closes, build_block}
use Rattle.us_limits.specs.Small.{SmallTerm, Small}
use Rattle.us_limits.proofs.Terms.{term-fits, size-small}
use Rattle.us_limits.proofs.Blocks.{block-looser, append-small}
use Rattle.us_query_limits.proofs.Words.{register}
use Rattle.us_query_limits.proofs.Words as words
use Rattle.us_build_limits.proofs.Positions.{IsPosition, position-fits, position-looser, register-is, top-is, behind-fits, under-is}

-- the terms and dims of a level
pub record IsFit (l : LevelTree) : Type 0 where
  pub size : SmallTerm 1 l.size
  pub coord : SmallTerm 1 l.coord
  pub pos_length : FitsDim l.pos_length
  pub crd_length : FitsDim l.crd_length

abbrev pub AreFit : List LevelTree → Type 0
AreFit [] = Unit {0}
AreFit (l ∷ ls) = IsFit l × AreFit ls

coord-fits : (l : LevelTree) → IsFit l → FitsTerm l.coord
coord-fits l f = term-fits {e = l.coord} (lit≤ tt) f.coord

-- ---- a level, at a position

mark-keeps : (top : Bool) (l : LevelTree) (q t : TermTree) {k n d : ℕ} {rest : Code} → IsFit l → IsPosition k q → k ≤ 60 → FitsTerm t → 2 ≤ d → Small n d rest → Small (2 + n) d (mark top l q t rest)
mark-keeps true l q t f p few g deep s = block-looser (omega arith) (omega arith) s
mark-keeps false l q t f p few g deep s = record {
  terms = (behind-fits q few p, f.pos_length, (register, g, tt), tt, s.terms);
  deep = omega (arith, deep, s.deep);
  long = omega (arith, s.long);
}

cell-keeps : (l : LevelTree) (t : TermTree) {n d : ℕ} {rest : Code} → IsFit l → FitsTerm t → 2 ≤ d → Small n d rest → Small (2 + n) d (cell_at l t rest)
cell-keeps l t f g deep s = record {
  terms = (g, f.crd_length, (register, coord-fits l f, tt), tt, s.terms);
  deep = omega (arith, deep, s.deep);
  long = omega (arith, s.long);
}

new-keeps : (l : LevelTree) (q : TermTree) {k n d : ℕ} {rest : Code} → IsFit l → IsPosition k q → suc k ≤ 60 → Small n d rest → Small (2 + n) d (new_node l q rest)
new-keeps l q f p few s = record {
  terms = (position-fits (under q l.size l.coord) few (under-is q l.size l.coord p f.size f.coord), (words.one-more, s.terms));
  deep = s.deep;
  long = omega (arith, s.long);
}

if-keeps : (l : LevelTree) (q : TermTree) {k m n d : ℕ} {made rest : Code} → IsFit l → IsPosition k q → suc k ≤ 60 → Small m 3 made → 4 ≤ d → Small n d rest → Small (1 + m + n) d (if_new l q made rest)
if-keeps l q f p few s deep t = record {
  terms = (position-fits (under q l.size l.coord) few (under-is q l.size l.coord p f.size f.coord), register, tt, s.terms, t.terms);
  deep = omega (arith, s.deep, deep, t.deep);
  long = omega (arith, s.long, t.long);
}

none : Small 0 3 End
none = record { terms = tt; deep = lit≤ tt; long = lit≤ tt }

block-keeps : (r : Role) (l : LevelTree) (q : TermTree) (x k n : ℕ) (rest : Code) → IsFit l → IsPosition k q → suc k ≤ 60 → Small n 4 rest → Small (7 + n) 4 (block_of r l q x rest)
block-keeps Full l q x k n rest f p few s = block-looser (omega arith) (lit≤ tt) s
block-keeps Shared l q x k n rest f p few s =
    block-looser (omega arith) (lit≤ tt)
    (if-keeps l q f p few (new-keeps l q f p few (mark-keeps l.is_top l q (one_more (l.first + 1)) f p (omega (arith, few)) words.one-more (lit≤ tt) (cell-keeps l (Reg (l.first + 1)) f register (lit≤ tt) none))) (lit≤ tt) s)
block-keeps Single l q x k n rest f p few s =
    let set : Small (1 + n) 4 (Set (buf.New (l.first + 1)) (Reg x) l.coord rest) = record { terms = (register, coord-fits l f, s.terms); deep = s.deep; long = omega (arith, s.long) } in
    block-looser (omega arith) (lit≤ tt) (mark-keeps l.is_top l q (one_more x) {n = 1 + n} f p (omega (arith, few)) words.one-more (lit≤ tt) set)
block-keeps AtPosition l q x k n rest f p few s = block-looser (omega arith) (lit≤ tt) (cell-keeps l q f (position-fits q (omega (arith, few)) p) (lit≤ tt) s)
block-keeps AtRank l q x k n rest f p few s = record { terms = (register, coord-fits l f, s.terms); deep = s.deep; long = omega (arith, s.long) }
block-keeps Counted l q x k n rest f p few s = block-looser (omega arith) (lit≤ tt) (if-keeps l q f p few (new-keeps l q f p few none) (lit≤ tt) s)
block-keeps Marked l q x k n rest f p few s = block-looser (omega arith) (lit≤ tt) (mark-keeps l.is_top l q (one_more x) f p (omega (arith, few)) words.one-more (lit≤ tt) s)
block-keeps Kept l q x k n rest f p few s = block-looser (omega arith) (lit≤ tt) s

pub below-is : (r : Role) (l : LevelTree) (q : TermTree) (x k : ℕ) → IsFit l → IsPosition k q → IsPosition (suc k) (below_of r l q x)
below-is Full l q x k f p = under-is q l.size l.coord p f.size f.coord
below-is Shared l q x k f p = register-is
below-is Single l q x k f p = register-is
below-is AtPosition l q x k f p = position-looser q (omega arith) p
below-is AtRank l q x k f p = position-looser q (omega arith) p
below-is Counted l q x k f p = register-is
below-is Marked l q x k f p = register-is
below-is Kept l q x k f p = position-looser q (omega arith) p

pub levels-keep : (ls : List LevelTree) (q : TermTree) (x k : ℕ) → AreFit ls → IsPosition k q → k + length ls ≤ 60 → Small (7 * length ls) 4 (levels ls q x)
levels-keep [] q x k f p few = record { terms = tt; deep = lit≤ tt; long = omega arith }
levels-keep (l ∷ ls) q x k f p few =
    let rest = levels-keep ls (below_of l.role l q x) x (suc k) f.1 (below-is l.role l q x k f.0 p) (omega (arith, few)) in
    block-looser (omega arith) (lit≤ tt) (block-keeps l.role l q x k (7 * length ls) _ f.0 p (omega (arith, few)) rest)

-- ---- in front of the loop, and behind it

minus-fits : FitsTerm minus_one
minus-fits = ((lit< tt, lit< tt), lit≤ tt, lit≤ tt)

open-keeps : (r : Role) (l : LevelTree) {n d : ℕ} {rest : Code} → Small n d rest → Small (2 + n) d (open_of r l rest)
open-keeps Full l s = block-looser (omega arith) (omega arith) s
open-keeps Shared l s = record { terms = (minus-fits, (minus-fits, s.terms)); deep = s.deep; long = omega (arith, s.long) }
open-keeps Single l s = block-looser (omega arith) (omega arith) s
open-keeps AtPosition l s = block-looser (omega arith) (omega arith) s
open-keeps AtRank l s = block-looser (omega arith) (omega arith) s
open-keeps Counted l s = record { terms = (minus-fits, (minus-fits, s.terms)); deep = s.deep; long = omega (arith, s.long) }
open-keeps Marked l s = block-looser (omega arith) (omega arith) s
open-keeps Kept l s = block-looser (omega arith) (omega arith) s

pub opens-keep : (ls : List LevelTree) {n d : ℕ} {rest : Code} → Small n d rest → Small (2 * length ls + n) d (opens ls rest)
opens-keep [] s = block-looser (omega arith) (omega arith) s
opens-keep (l ∷ ls) s = block-looser (omega arith) (omega arith) (open-keeps l.role l (opens-keep ls s))

fill-up-keeps : (b : ℕ) (d : Dim) (n : ℕ) → FitsDim d → Small 6 5 (fill_up b d n)
fill-up-keeps b d n f = record {
  terms = (words.nothing, (f, (register, (register, register, (register, register, tt), (register, tt), tt)), tt));
  deep = lit≤ tt;
  long = lit≤ tt;
}

pos-keeps : (top : Bool) (l : LevelTree) (k : ℕ) {n : ℕ} {rest : Code} → IsFit l → Small n 5 rest → Small (6 + n) 5 (close_pos top l k rest)
pos-keeps true l k f s = record {
  terms = ((lit< tt, lit≤ tt, lit≤ tt), term-fits {e = size_term l.crd_length} (lit≤ tt) (size-small l.crd_length f.crd_length), s.terms);
  deep = s.deep;
  long = omega (arith, s.long);
}
pos-keeps false l k f s = append-small (fill-up-keeps l.first l.pos_length k f.pos_length) s

close-keeps : (r : Role) (l : LevelTree) (k : ℕ) {n : ℕ} {rest : Code} → IsFit l → Small n 5 rest → Small (6 + n) 5 (close_of r l k rest)
close-keeps Full l k f s = block-looser (omega arith) (lit≤ tt) s
close-keeps Shared l k f s = pos-keeps l.is_top l k f s
close-keeps Single l k f s = pos-keeps l.is_top l k f s
close-keeps AtPosition l k f s = block-looser (omega arith) (lit≤ tt) s
close-keeps AtRank l k f s = block-looser (omega arith) (lit≤ tt) s
close-keeps Counted l k f s = block-looser (omega arith) (lit≤ tt) s
close-keeps Marked l k f s = pos-keeps l.is_top l k f s
close-keeps Kept l k f s = block-looser (omega arith) (lit≤ tt) s

pub closes-keep : (ls : List LevelTree) (n : ℕ) → AreFit ls → Small (6 * length ls) 5 (closes ls n)
closes-keep [] n f = record { terms = tt; deep = lit≤ tt; long = omega arith }
closes-keep (l ∷ ls) n f = block-looser (omega arith) (lit≤ tt) (close-keeps l.role l n f.0 (closes-keep ls (n + 3) f.1))

-- ---- the loop

loads-keep : (cols : List ℕ) (k e : ℕ) {n d : ℕ} {rest : Code} → Small n d rest → Small (length cols + n) d (loads cols k e rest)
loads-keep [] k e s = block-looser (omega arith) (omega arith) s
loads-keep (b ∷ bs) k e s =
    let rest = loads-keep bs (k + 1) e s in record { terms = (register, rest.terms); deep = rest.deep; long = omega (arith, rest.long) }

picked-keeps : (order : Option ℕ) (a : ℕ) {n d : ℕ} {rest : Code} → Small n d rest → Small (1 + n) d (picked order a rest)
picked-keeps None a s = block-looser (omega arith) (omega arith) s
picked-keeps (Some p) a s = record { terms = (register, s.terms); deep = s.deep; long = omega (arith, s.long) }

-- the loop around the block of an entry
pub turns-keep : (d : Dim) (order : Option ℕ) (cols : List ℕ) (a n : ℕ) (inner : Code) → FitsDim d → Small n 4 inner → Small (2 + length cols + n) 5 (For a d (picked order a (loads cols (entry_of order a + 1) (entry_of order a) inner)) End)
turns-keep d order cols a n inner f s =
    let turn = picked-keeps order a (loads-keep cols (entry_of order a + 1) (entry_of order a) s) in
    record { terms = (f, turn.terms, tt); deep = omega (arith, turn.deep); long = omega (arith, turn.long) }

pub build-keeps : (d : Dim) (order : Option ℕ) (cols : List ℕ) (ls : List LevelTree) (a n : ℕ) → FitsDim d → AreFit ls → length ls ≤ 60 → Small (15 * length ls + length cols + 2) 5 (build_block d order cols ls a n)
build-keeps d order cols ls a n f g few =
    let loop : Small (2 + length cols + 7 * length ls) 5 (entry_loop d order cols ls a) = turns-keep d order cols a (7 * length ls) (levels ls (Number 0) a) f (levels-keep ls (Number 0) a 0 g top-is (omega (arith, few))) in
    block-looser (omega arith) (lit≤ tt) (opens-keep ls (append-small loop (closes-keep ls n g)))
