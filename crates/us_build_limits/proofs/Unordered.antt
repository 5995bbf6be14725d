-- Blocks that build buffers have no order but the one by keys.
use Rattle.std.proofs.Common.{◌≡◌, ℕ, zero, suc, ◌+◌, Bool, true, false, cond, List, [], ◌∷◌, length, ℤ, Option, Some, None, refl}
use Rattle.us_code.specs.declared.program.Dim.{Dim}
use Rattle.us_code.specs.declared.program.Dim.TheVariants as dim
use Rattle.us_code.specs.declared.program.Buf.TheVariants as buf
use Rattle.us_code.specs.declared.pieces.Columns.{Columns}
use Rattle.us_code.specs.Plain.{TermTree, Number, Reg, Code, End, Load, Set, ◌+++◌}
use Rattle.us_expr.specs.Tree.{Tree}
use Rattle.us_gen_query.specs.Terms.{reads, term_of}
use Rattle.us_gen_query.specs.Filling.{column, width, loads, fill}
use Rattle.us_gen_build.specs.declared.levels.Role.{Role}
use Rattle.us_gen_build.specs.declared.levels.Role.TheVariants.{Full, Shared, Single, AtPosition, AtRank, Counted, Marked, Kept}
use Rattle.us_gen_build.specs.Levels.{LevelTree, mark, block_of, below_of, levels, open_of, opens}
use Rattle.us_gen_build.specs.Loops as turns
use Rattle.us_gen_build.specs.Blocks.{close_pos, close_of, closes, build_block}
use Rattle.us_gen_packs.specs.Packs.{PackTree, cells_from, write, packs, last_of, packed_block}
use Rattle.us_gen_building.specs.declared.part.PartLevel.{PartLevel}
use Rattle.us_gen_building.specs.Levels.{columns, counted_levels}
use Rattle.us_gen_building.specs.declared.part.PartLoops.{PartLoops}
use Rattle.us_gen_building.specs.Phases.{counting_phase, all_built, order_of, counted_from, dims_from, turn_from, ends_from, order_code, count_code, groups, first_column, all_columns}
use Rattle.us_gen_coordinates.specs.Phase.{given, lower, filled_for, body}
use Rattle.us_gen_extents.specs.Extents.{load_cells}
use Rattle.us_gen_pack_building.specs.Phases.{level_count, pack_count, all_levels, all_packs}
use Rattle.us_limits.specs.Orders.{has_order}
use Rattle.us_limits.proofs.Orders.{both-false, blocks-without}
use Rattle.us_build_limits.specs.Unsorted.{SortNothing}

-- ---- levels

mark-without : (top : Bool) (l : LevelTree) (q t : TermTree) (rest : Code) → has_order rest ≡ false → has_order (mark top l q t rest) ≡ false
mark-without true l q t rest h = h
mark-without false l q t rest h = h

block-without : (r : Role) (l : LevelTree) (q : TermTree) (x : ℕ) (rest : Code) → has_order rest ≡ false → has_order (block_of r l q x rest) ≡ false
block-without Full l q x rest h = h
block-without Shared l q x rest h = both-false _ (has_order rest) (mark-without l.is_top l q _ _ refl) h
block-without Single l q x rest h = mark-without l.is_top l q _ _ h
block-without AtPosition l q x rest h = h
block-without AtRank l q x rest h = h
block-without Counted l q x rest h = h
block-without Marked l q x rest h = mark-without l.is_top l q _ rest h
block-without Kept l q x rest h = h

levels-without : (ls : List LevelTree) (q : TermTree) (x : ℕ) → has_order (levels ls q x) ≡ false
levels-without [] q x = refl
levels-without (l ∷ ls) q x = block-without l.role l q x (levels ls (below_of l.role l q x) x) (levels-without ls (below_of l.role l q x) x)

open-without : (r : Role) (l : LevelTree) (rest : Code) → has_order rest ≡ false → has_order (open_of r l rest) ≡ false
open-without Full l rest h = h
open-without Shared l rest h = h
open-without Single l rest h = h
open-without AtPosition l rest h = h
open-without AtRank l rest h = h
open-without Counted l rest h = h
open-without Marked l rest h = h
open-without Kept l rest h = h

opens-without : (ls : List LevelTree) (rest : Code) → has_order rest ≡ false → has_order (opens ls rest) ≡ false
opens-without [] rest h = h
opens-without (l ∷ ls) rest h = open-without l.role l (opens ls rest) (opens-without ls rest h)

pos-without : (top : Bool) (l : LevelTree) (n : ℕ) (rest : Code) → has_order rest ≡ false → has_order (close_pos top l n rest) ≡ false
pos-without true l n rest h = h
pos-without false l n rest h = h

close-without : (r : Role) (l : LevelTree) (n : ℕ) (rest : Code) → has_order rest ≡ false → has_order (close_of r l n rest) ≡ false
close-without Full l n rest h = h
close-without Shared l n rest h = pos-without l.is_top l n rest h
close-without Single l n rest h = pos-without l.is_top l n rest h
close-without AtPosition l n rest h = h
close-without AtRank l n rest h = h
close-without Counted l n rest h = h
close-without Marked l n rest h = pos-without l.is_top l n rest h
close-without Kept l n rest h = h

closes-without : (ls : List LevelTree) (n : ℕ) → has_order (closes ls n) ≡ false
closes-without [] n = refl
closes-without (l ∷ ls) n = close-without l.role l n (closes ls (n + 3)) (closes-without ls (n + 3))

loads-without : (cols : List ℕ) (k e : ℕ) (rest : Code) → has_order rest ≡ false → has_order (turns.loads cols k e rest) ≡ false
loads-without [] k e rest h = h
loads-without (b ∷ bs) k e rest h = loads-without bs (k + 1) e rest h

picked-without : (order : Option ℕ) (a : ℕ) (rest : Code) → has_order rest ≡ false → has_order (turns.picked order a rest) ≡ false
picked-without None a rest h = h
picked-without (Some p) a rest h = h

turn-without : (order : Option ℕ) (cols : List ℕ) (a : ℕ) (inner : Code) → has_order inner ≡ false → has_order (turns.picked order a (turns.loads cols (turns.entry_of order a + 1) (turns.entry_of order a) inner)) ≡ false
turn-without order cols a inner h = picked-without order a _ (loads-without cols (turns.entry_of order a + 1) (turns.entry_of order a) inner h)

build-without : (d : Dim) (order : Option ℕ) (cols : List ℕ) (ls : List LevelTree) (a n : ℕ) → has_order (build_block d order cols ls a n) ≡ false
build-without d order cols ls a n =
    opens-without ls _ (both-false _ (has_order (closes ls n)) (turn-without order cols a (levels ls (Number 0) a) (levels-without ls (Number 0) a)) (closes-without ls n))

-- ---- packs

cells-without : (b d : ℕ) (p : TermTree) (y : ℕ) (es : List TermTree) (rest : Code) → has_order rest ≡ false → has_order (cells_from b d p y es rest) ≡ false
cells-without b d p y [] rest h = h
cells-without b d p y (e ∷ es) rest h = cells-without b d p (y + 1) es rest h

write-without : (rank : Bool) (w : PackTree) (q : TermTree) (x : ℕ) (rest : Code) → has_order rest ≡ false → has_order (write rank w q x rest) ≡ false
write-without true w q x rest h = cells-without w.first w.cells (Reg x) 0 w.columns rest h
write-without false w q x rest h = both-false _ (has_order rest) (cells-without w.first w.cells (Reg w.first) 0 w.columns End refl) h

packs-without : (ws : List PackTree) (q : TermTree) (x : ℕ) → has_order (packs ws q x) ≡ false
packs-without [] q x = refl
packs-without (w ∷ ws) q x = write-without w.at_rank w q x (packs ws q x) (packs-without ws q x)

packed-without : (d : Dim) (order : Option ℕ) (cols : List ℕ) (ls : List LevelTree) (ws : List PackTree) (a n : ℕ) → has_order (packed_block d order cols ls ws a n) ≡ false
packed-without d order cols ls ws a n =
    let q = last_of ls (Number 0) a in
    let inner = blocks-without (levels ls (Number 0) a) (packs ws q a) (levels-without ls (Number 0) a) (packs-without ws q a) in
    opens-without ls _ (both-false _ (has_order (closes ls n)) (turn-without order cols a (levels ls (Number 0) a +++ packs ws q a) inner) (closes-without ls n))

-- ---- the first phase

counts-without : (count : ℕ) (order : Option ℕ) (ls : List PartLevel) (a first end : ℕ) → has_order (count_code count order ls a first end) ≡ false
counts-without count order [] a first end = refl
counts-without count order (l ∷ ls) a first end = build-without (dim.Name count) order (columns (l ∷ ls)) (counted_levels (l ∷ ls) first (first_column order a)) a end

order-without : (keys : Option ℕ) (ls : List PartLevel) (f : ℕ) → keys ≡ None → has_order (order_code keys ls f) ≡ false
order-without None ls f h = refl
order-without (Some k) ls f h = absurd cc

counting-without : (x : PartLoops) (f : ℕ) → x.keys ≡ None → has_order (counting_phase x f).body ≡ false
counting-without x f unsorted =
    let n = length x.levels.items in
    blocks-without (order_code x.keys x.levels.items f) _ (order-without x.keys x.levels.items f unsorted)
    (counts-without x.count (order_of x.keys f) (groups x.levels.items) (f + 1) (counted_from f n) (dims_from f n))

-- ---- columns

reads-without : (cs : Columns) (e : Tree) (n c : ℕ) → has_order (loads cs e n c) ≡ false
reads-without cs e n zero = refl
reads-without cs e n (suc c) = either (reads e c) (reads-without cs e n c)
  where
    either : (b : Bool) → has_order (loads cs e n c) ≡ false → has_order (cond b (loads cs e n c +++ Load (n + 1 + c) (buf.New (column cs c)) (Reg n) End) (loads cs e n c)) ≡ false
    either true h = blocks-without (loads cs e n c) (Load (n + 1 + c) (buf.New (column cs c)) (Reg n) End) h refl
    either false h = h

fill-without : (cs : Columns) (e : Tree) (b n : ℕ) → has_order (fill cs e b n) ≡ false
fill-without cs e b n =
    both-false _ false (blocks-without (loads cs e n (width cs)) (Set (buf.New b) (Reg n) (term_of e (n + 1)) End) (reads-without cs e n (width cs)) refl) refl

filled-without : (g : Option ℕ) (cs : Columns) (e : Tree) (low : ℤ) (n : ℕ) (rest : Code) → has_order rest ≡ false → has_order (filled_for g cs e low n rest) ≡ false
filled-without None cs e low n rest h = blocks-without (fill cs e n (n + 1)) (lower cs low n (n + 37) +++ rest) (fill-without cs e n (n + 1)) h
filled-without (Some c) cs e low n rest h = h

body-without : (cs : Columns) (es : List Tree) (lows : List ℤ) (n : ℕ) → has_order (body cs es lows n) ≡ false
body-without cs [] lows n = refl
body-without cs (e ∷ es) [] n = refl
body-without cs (e ∷ es) (low ∷ lows) n = filled-without (given cs e low) cs e low n (body cs es lows (n + 40)) (body-without cs es lows (n + 40))

cells-loaded-without : (bs : List ℕ) (r : ℕ) → has_order (load_cells bs r) ≡ false
cells-loaded-without [] r = refl
cells-loaded-without (b ∷ bs) r = cells-loaded-without bs (r + 1)

pub sort-nothing : SortNothing
sort-nothing = record {
  extents = λ bs n. (cells-loaded-without bs n, tt);
  coordinates = λ cs es lows n. (body-without cs es lows n, tt);
  buildings = λ x f unsorted.
      let n = length x.levels.items in (
        counting-without x f unsorted,
        (build-without (dim.Name x.count) (order_of x.keys f) (all_columns x) (all_built x f) (turn_from f n) (ends_from f n), tt),
      );
  packings = λ x f unsorted. (
    counting-without x.part f unsorted,
    (packed-without (dim.Name x.part.count) (order_of x.part.keys f) (all_columns x.part) (all_levels x f) (all_packs x f) (turn_from f (level_count x)) (ends_from f (level_count x) + pack_count x), tt),
  );
}
