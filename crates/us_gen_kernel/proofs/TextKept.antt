-- The phases keep the limits of a text.
use Rattle.std.proofs.Common.{ℕ, ◌+◌, ◌*◌, ◌^◌, ◌<◌, ◌≤◌, Bool, true, false, cond, Option, Some, None, List, [], ◌∷◌, ◌++◌, length, arith}
use Rattle.us_code.specs.declared.program.Dim.TheVariants as dim
use Rattle.us_code.specs.Plain.{TermTree, Number, Reg, Add, Mul, Code, End, For}
use Rattle.us_gen.specs.declared.nests.Level.{Level}
use Rattle.us_gen.specs.Levels.{end_of}
use Rattle.us_limits.specs.Small.{SmallTerm, Small}
use Rattle.us_limits.specs.Nests.{FitsLevel, FitLevels, names_of, blocks_of}
use Rattle.us_limits.proofs.Terms.{term-fits, term-looser, number-small, register-small, sum-small, product-small}
use Rattle.us_limits.proofs.Blocks.{block-looser, end-small, load-small, set-small, only-else, only-for, only-when, append-small}
use Rattle.us_limits.proofs.Nests.{register-fits, level-small, nest-small, positions-small}
use Rattle.us_gen_recover.specs.declared.places.Coordinate.{Coordinate}
use Rattle.us_gen_recover.specs.Recovery.{names_in}
use Rattle.us_gen_walk.specs.declared.places.Column.{Column}
use Rattle.us_gen_walk.specs.declared.places.Column.TheVariants as column
use Rattle.us_gen_walk.specs.declared.places.Loop.{Loop}
use Rattle.us_gen_walk.specs.declared.places.Loop.TheVariants as over
use Rattle.us_gen_walk.specs.declared.places.Slot.{Slot}
use Rattle.us_gen_walk.specs.declared.places.Places.{Places}
use Rattle.us_gen_walk.specs.Walk.{tested, at_node, levels_of, loop_levels, loop_coordinates, slot_levels, slot_coordinates, leaf_at, steps_at, coordinates, is_tight, unless_zero, leaf, position, walk, value_register, index_term, end}
use Rattle.us_gen_unpack.specs.declared.listing.PartWalk.{PartWalk}
use Rattle.us_listing_limits.specs.Fitting.{FitsColumn, FitLoops, FitSlots, FitsWalk, FitWalks, reads_in}
use Rattle.us_listing_limits.proofs.RecoveryFits.{LowFit, term_at-small, recovery-small, names-few}
use Rattle.us_limits.specs.Small.{KeepText}
use Rattle.us_limits.proofs.Phases.{text-looser, phase-keep, more-keep}
use Rattle.us_gen_opening.specs.declared.parts.Opening.{Opening}
use Rattle.us_gen_opening.specs.Opening.{opening_phase}
use Rattle.us_listing_limits.specs.Fitting.{FitOpenings}
use Rattle.us_listing_limits.proofs.OpeningFits.{code-small, all-few}
use Rattle.us_gen_product.specs.declared.product.Product.{Product}
use Rattle.us_gen_product.specs.Product.{is_vector, cells, in_column, add_to_cell, add_product, add_products, room, rooms, add_part, end_of_part, add_parts, product_phase}
use Rattle.us_gen_kernel.specs.Kernel.{multiplying}

-- ---- levels

tested-fits : (c : Column) → FitsColumn c → FitsLevel (tested c)
tested-fits (column.Own k) f = f
tested-fits (column.Packed k w digit) f = (f.0, f.2, f.3)

node-fits : (c : Column) → FitsColumn c → FitsLevel (at_node c)
node-fits (column.Own k) f = tt
node-fits (column.Packed k w digit) f = (f.0, f.2, f.3)

loops-fit : (ls : List Loop) → FitLoops ls → FitLevels (loop_levels ls)
loops-fit [] f = tt
loops-fit (over.Full size low ∷ ls) f = (f.0.0, loops-fit ls f.1)
loops-fit (over.Nodes k more nodes crd low ∷ ls) f = ((f.0.0, f.0.1, f.0.2), (node-fits crd f.0.3, loops-fit ls f.1))

slots-fit : (xs : List Slot) → FitSlots xs → FitLevels (slot_levels xs)
slots-fit [] f = tt
slots-fit (x ∷ xs) f = (tested-fits x.crd f.0, slots-fit xs f.2)

-- how large they are
record Sizes (ls : List Level) (count names blocks : ℕ) : Type 0 where
  levels : length ls ≤ count
  statements : names_of ls ≤ names
  deep : blocks_of ls ≤ blocks

node-sizes : (c : Column) → Sizes (at_node c ∷ []) 1 2 1
node-sizes (column.Own k) = record { levels = omega arith; statements = omega arith; deep = omega arith }
node-sizes (column.Packed k w digit) = record { levels = omega arith; statements = omega arith; deep = omega arith }

tested-sizes : (c : Column) → Sizes (tested c ∷ []) 1 2 1
tested-sizes (column.Own k) = record { levels = omega arith; statements = omega arith; deep = omega arith }
tested-sizes (column.Packed k w digit) = record { levels = omega arith; statements = omega arith; deep = omega arith }

loops-sizes : (ls : List Loop) → Sizes (loop_levels ls) (2 * length ls) (9 * length ls) (6 * length ls)
loops-sizes [] = record { levels = omega arith; statements = omega arith; deep = omega arith }
loops-sizes (over.Full size low ∷ ls) =
    let more = loops-sizes ls in
    record { levels = omega (arith, more.levels); statements = omega (arith, more.statements); deep = omega (arith, more.deep) }
loops-sizes (over.Nodes k nodes below crd low ∷ ls) =
    let more = loops-sizes ls in
    let here = node-sizes crd in
    record { levels = omega (arith, more.levels); statements = omega (arith, more.statements, here.statements); deep = omega (arith, more.deep, here.deep) }

slots-sizes : (xs : List Slot) → Sizes (slot_levels xs) (length xs) (2 * length xs) (length xs)
slots-sizes [] = record { levels = omega arith; statements = omega arith; deep = omega arith }
slots-sizes (x ∷ xs) =
    let more = slots-sizes xs in
    let here = tested-sizes x.crd in
    record { levels = omega (arith, more.levels); statements = omega (arith, more.statements, here.statements); deep = omega (arith, more.deep, here.deep) }

-- ---- the low ends

low-append : (a b : List Coordinate) → LowFit a → LowFit b → LowFit (a ++ b)
low-append [] b h k = k
low-append (x ∷ a) b h k = (h.0, low-append a b h.1 k)

loops-low : (ls : List Loop) (n : ℕ) → FitLoops ls → LowFit (loop_coordinates ls n)
loops-low [] n f = tt
loops-low (over.Full size low ∷ ls) n f = (f.0.1, loops-low ls (end_of (levels_of (over.Full size low)) n) f.1)
loops-low (over.Nodes k more nodes crd low ∷ ls) n f = (f.0.4, loops-low ls (end_of (levels_of (over.Nodes k more nodes crd low)) n) f.1)

slots-low : (xs : List Slot) (n : ℕ) → FitSlots xs → LowFit (slot_coordinates xs n)
slots-low [] n f = tt
slots-low (x ∷ xs) n f = (f.1, slots-low xs (n + 2) f.2)

-- ---- one part

unless-small : {m d : ℕ} (tight : Bool) (r : ℕ) {inner : Code} → 1 ≤ d → Small m d inner → Small (1 + m) (1 + d) (unless_zero tight r inner)
unless-small true r deep s = block-looser (omega arith) (omega arith) s
unless-small false r deep s = only-else register-fits (term-fits {e = Number 0} (omega arith) (number-small (omega arith))) deep s

leaf-small : {m d : ℕ} (b : ℕ) (w : Places) (q : TermTree) (n : ℕ) (inner : Code) → FitsColumn w.values → FitSlots w.slots.items → SmallTerm b q → b + 4 + 4 * length w.slots.items ≤ 64 → 1 ≤ d → Small m d inner
    → Small (3 + 2 * length w.slots.items + m) (2 + length w.slots.items + d) (leaf w q n inner)
leaf-small {m} {d} b w q n inner f g s few deep t =
    let values = tested-sizes w.values in
    let slots = slots-sizes w.slots.items in
    block-looser (omega (arith, values.statements, slots.statements)) (omega (arith, values.deep, slots.deep))
    (level-small (tested w.values) q n (tested-fits w.values f) s (omega (arith, few)) (omega (arith, deep))
    (unless-small (is_tight w) (n + 1) (omega (arith, deep))
    (nest-small (slot_levels w.slots.items) b m d (n + 2) q inner (slots-fit w.slots.items g) s (omega (arith, slots.levels, few)) deep t)))

-- with registers from n on, around a block
walk-small : (x : PartWalk) (n m d : ℕ) (inner : Code) → FitsWalk x → 1 ≤ d → Small m d inner → Small (59 + names_in x.steps.items + m) (40 + d) (walk x.places x.steps.items n inner)
walk-small x n m d inner f deep t =
    let w : Places = x.places in
    let loops = loops-sizes x.places.loops.items in
    let s : SmallTerm (1 + 8 * length x.places.loops.items) (position x.places n) =
    term-looser (omega (arith, loops.levels)) (positions-small (loop_levels x.places.loops.items) 1 n (Number 0) (loops-fit x.places.loops.items f.loops_fit) (number-small (omega arith))) in
    block-looser (omega (arith, loops.statements, f.few)) (omega (arith, loops.deep, f.few, f.twice))
    (nest-small (loop_levels x.places.loops.items) 1 (3 + 2 * length x.places.slots.items + (names_in x.steps.items + m)) (2 + length x.places.slots.items + (reads_in x.steps.items + d)) n (Number 0) _
    (loops-fit x.places.loops.items f.loops_fit) (number-small (omega arith)) (omega (arith, loops.levels, f.few)) (omega arith)
    (leaf-small (1 + 8 * length x.places.loops.items) x.places (position x.places n) (leaf_at x.places n) _ f.values_fit f.slots_fit s (omega (arith, f.few)) (omega (arith, deep))
    (recovery-small (coordinates x.places n) x.places.tables.items x.steps.items [] (steps_at x.places n) m d inner (lows x n f) f.tables_fit f.steps_fit tt deep t)))
  where
    lows : (x : PartWalk) (n : ℕ) → FitsWalk x → LowFit (coordinates x.places n)
    lows x n f = low-append (loop_coordinates x.places.loops.items n) (slot_coordinates x.places.slots.items (leaf_at x.places n + 2)) (loops-low x.places.loops.items n f.loops_fit) (slots-low x.places.slots.items (leaf_at x.places n + 2) f.slots_fit)

index-small : (x : PartWalk) (n k : ℕ) → FitsWalk x → SmallTerm 3 (index_term x.places x.steps.items n k)
index-small x n k f =
    term_at-small (coordinates x.places n) x.steps.items (steps_at x.places n) k
    (low-append (loop_coordinates x.places.loops.items n) (slot_coordinates x.places.slots.items (leaf_at x.places n + 2)) (loops-low x.places.loops.items n f.loops_fit) (slots-low x.places.slots.items (leaf_at x.places n + 2) f.slots_fit))
    f.steps_fit

-- ---- the products

-- the numbers of a product fit
pub record FitsProduct (p : Product) : Type 0 where
  pub operand : p.operand < 2 ^ 32
  pub rows : p.rows < 2 ^ 63
  pub inner : p.inner < 2 ^ 63
  pub columns : p.columns < 2 ^ 63
  pub cells_fit : cells p < 2 ^ 63

column-small : (k : Option ℕ) (size : ℕ) (e : TermTree) → size < 2 ^ 63 → SmallTerm 3 e → SmallTerm 7 (in_column k size e)
column-small None size e f s = term-looser (omega arith) s
column-small (Some r) size e f s = sum-small (product-small register-small (number-small f)) s

add-small : (p : Product) (value n : ℕ) → Small 2 1 (add_to_cell p value n)
add-small p value n =
    load-small register-fits
    (set-small register-fits (term-fits {n = 5} {e = Add (Reg (n + 3)) (Mul (Reg value) (Reg (n + 1)))} (omega arith) (sum-small register-small (product-small register-small register-small))) (end-small (omega arith)))

one-small : (p : Product) (k : Option ℕ) (row col : TermTree) (value n : ℕ) → FitsProduct p → SmallTerm 3 row → SmallTerm 3 col → Small 5 3 (add_product p k row col value n)
one-small p k row col value n f r c =
    only-when {d = 2} (term-fits (omega arith) (column-small k p.inner col f.inner c)) f.operand (omega arith)
    (load-small register-fits (only-when {d = 1} (term-fits (omega arith) (column-small k p.rows row f.rows r)) f.cells_fit (omega arith) (add-small p value n)))

products-small : (p : Product) (row col : TermTree) (value n : ℕ) → FitsProduct p → SmallTerm 3 row → SmallTerm 3 col → Small 6 4 (add_products p row col value n)
products-small p row col value n f r c = by (is_vector p)
  where
    by : (b : Bool) → Small 6 4 (cond b (add_product p None row col value (n + 1)) (For n (dim.Number p.columns) (add_product p (Some n) row col value (n + 1)) End))
    by true = block-looser (omega arith) (omega arith) (one-small p None row col value (n + 1) f r c)
    by false = only-for f.columns (one-small p (Some n) row col value (n + 1) f r c)

part-small : (p : Product) (x : PartWalk) (n : ℕ) → FitsProduct p → FitsWalk x → Small (room x) 64 (add_part p x n)
part-small p x n long f =
    block-looser (omega (arith, names-few x.steps.items)) (omega arith)
    (walk-small x n 6 4 (add_products p (index_term x.places x.steps.items n x.row) (index_term x.places x.steps.items n x.col) (value_register x.places n) (end x.places x.steps.items n)) f (omega arith)
    (products-small p (index_term x.places x.steps.items n x.row) (index_term x.places x.steps.items n x.col) (value_register x.places n) (end x.places x.steps.items n) long (index-small x n x.row f) (index-small x n x.col f)))

parts-small : (p : Product) (xs : List PartWalk) (n : ℕ) → FitsProduct p → FitWalks xs → Small (rooms xs) 64 (add_parts p xs n)
parts-small p [] n long f = end-small (omega arith)
parts-small p (x ∷ xs) n long f = append-small (part-small p x n long f.0) (parts-small p xs (end_of_part x n) long f.1)

product-keeps : (p : Product) (xs : List PartWalk) (k : ℕ) → FitsProduct p → FitWalks xs → KeepText (1 + rooms xs) (product_phase p xs k ∷ [])
product-keeps p xs k long f = text-looser (omega arith) (phase-keep (long.cells_fit, tt, tt) (parts-small p xs k long f) tt)

pub multiplying-keeps : (p : Product) (count n k : ℕ) (os : List Opening) (xs : List PartWalk) → FitsProduct p → length os ≤ 4 → FitOpenings os → FitWalks xs → rooms xs ≤ 8256 → KeepText 16384 (multiplying p count n k os xs)
multiplying-keeps p count n k os xs long few f g rooms_few =
    let lines = all-few count n os few f in
    text-looser (omega (arith, few, rooms_few, lines.number))
    (more-keep {m = 70 * length os} {n = 1 + rooms xs} {p = opening_phase count n os} tt (code-small os n f) lines.fit (product-keeps p xs k long g))
