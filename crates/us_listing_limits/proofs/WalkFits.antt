-- The loops over parts keep the limits.
use Rattle.std.proofs.Common.{◌≡◌, ℕ, ◌+◌, ◌*◌, ◌^◌, ◌<◌, ◌≤◌, Bool, true, false, List, [], ◌∷◌, ◌++◌, length, refl, arith}
use Rattle.us_code.specs.declared.program.Dim.TheVariants as dim
use Rattle.us_code.specs.declared.pieces.Columns.{Columns}
use Rattle.us_code.specs.Plain.{TermTree, Number, Reg, Add, Code}
use Rattle.us_gen.specs.declared.nests.Level.{Level}
use Rattle.us_gen.specs.Columns.{entry, append}
use Rattle.us_gen.specs.Levels.{end_of}
use Rattle.us_limits.specs.Small.{SmallTerm, Small}
use Rattle.us_limits.specs.Orders.{has_order}
use Rattle.us_limits.specs.Nests.{FitsLevel, FitLevels, names_of, blocks_of}
use Rattle.us_limits.proofs.Terms.{term-fits, term-looser, number-small, register-small, sum-small}
use Rattle.us_limits.proofs.Blocks.{block-looser, end-small, var-small, put-small, set-small, only-else, only-when, append-small}
use Rattle.us_limits.proofs.Orders.{blocks-without}
use Rattle.us_limits.proofs.Nests.{register-fits, level-small, nest-small, positions-small, level-without, nest-without}
use Rattle.us_gen_recover.specs.declared.places.Coordinate.{Coordinate}
use Rattle.us_gen_recover.specs.Recovery.{names_in}
use Rattle.us_gen_walk.specs.declared.places.Column.{Column}
use Rattle.us_gen_walk.specs.declared.places.Column.TheVariants as column
use Rattle.us_gen_walk.specs.declared.places.Loop.{Loop}
use Rattle.us_gen_walk.specs.declared.places.Loop.TheVariants as over
use Rattle.us_gen_walk.specs.declared.places.Slot.{Slot}
use Rattle.us_gen_walk.specs.declared.places.Places.{Places}
use Rattle.us_gen_walk.specs.Walk.{tested, at_node, levels_of, loop_levels, loop_coordinates, slot_levels, slot_coordinates, leaf_at, steps_at, coordinates, is_tight, unless_zero, leaf, position, walk, value_register, index_term, end}
use Rattle.us_gen_unpack.specs.declared.listing.PartWalk.{PartWalk}
use Rattle.us_gen_unpack.specs.Listing.{room, rooms, entry_of, list_part, end_of_part, list_parts, listing}
use Rattle.us_listing_limits.specs.Fitting.{FitsColumn, FitLoops, FitSlots, FitsWalk, FitWalks, reads_in}
use Rattle.us_listing_limits.proofs.RecoveryFits.{LowFit, term_at-small, recovery-small, recovery-without, names-few}

-- ---- levels

tested-fits : (c : Column) → FitsColumn c → FitsLevel (tested c)
tested-fits (column.Own k) f = f
tested-fits (column.Packed k w digit) f = (f.0, f.2, f.3)

node-fits : (c : Column) → FitsColumn c → FitsLevel (at_node c)
node-fits (column.Own k) f = tt
node-fits (column.Packed k w digit) f = (f.0, f.2, f.3)

loops-fit : (ls : List Loop) → FitLoops ls → FitLevels (loop_levels ls)
loops-fit [] f = tt
loops-fit (over.Full size low ∷ ls) f = (f.0.0, loops-fit ls f.1)
loops-fit (over.Nodes k more nodes crd low ∷ ls) f = ((f.0.0, f.0.1, f.0.2), (node-fits crd f.0.3, loops-fit ls f.1))

slots-fit : (xs : List Slot) → FitSlots xs → FitLevels (slot_levels xs)
slots-fit [] f = tt
slots-fit (x ∷ xs) f = (tested-fits x.crd f.0, slots-fit xs f.2)

-- how large they are
record Sizes (ls : List Level) (count names blocks : ℕ) : Type 0 where
  levels : length ls ≤ count
  statements : names_of ls ≤ names
  deep : blocks_of ls ≤ blocks

node-sizes : (c : Column) → Sizes (at_node c ∷ []) 1 2 1
node-sizes (column.Own k) = record { levels = omega arith; statements = omega arith; deep = omega arith }
node-sizes (column.Packed k w digit) = record { levels = omega arith; statements = omega arith; deep = omega arith }

tested-sizes : (c : Column) → Sizes (tested c ∷ []) 1 2 1
tested-sizes (column.Own k) = record { levels = omega arith; statements = omega arith; deep = omega arith }
tested-sizes (column.Packed k w digit) = record { levels = omega arith; statements = omega arith; deep = omega arith }

loops-sizes : (ls : List Loop) → Sizes (loop_levels ls) (2 * length ls) (9 * length ls) (6 * length ls)
loops-sizes [] = record { levels = omega arith; statements = omega arith; deep = omega arith }
loops-sizes (over.Full size low ∷ ls) =
    let more = loops-sizes ls in
    record { levels = omega (arith, more.levels); statements = omega (arith, more.statements); deep = omega (arith, more.deep) }
loops-sizes (over.Nodes k nodes below crd low ∷ ls) =
    let more = loops-sizes ls in
    let here = node-sizes crd in
    record { levels = omega (arith, more.levels); statements = omega (arith, more.statements, here.statements); deep = omega (arith, more.deep, here.deep) }

slots-sizes : (xs : List Slot) → Sizes (slot_levels xs) (length xs) (2 * length xs) (length xs)
slots-sizes [] = record { levels = omega arith; statements = omega arith; deep = omega arith }
slots-sizes (x ∷ xs) =
    let more = slots-sizes xs in
    let here = tested-sizes x.crd in
    record { levels = omega (arith, more.levels); statements = omega (arith, more.statements, here.statements); deep = omega (arith, more.deep, here.deep) }

-- ---- the low ends

low-append : (a b : List Coordinate) → LowFit a → LowFit b → LowFit (a ++ b)
low-append [] b h k = k
low-append (x ∷ a) b h k = (h.0, low-append a b h.1 k)

loops-low : (ls : List Loop) (n : ℕ) → FitLoops ls → LowFit (loop_coordinates ls n)
loops-low [] n f = tt
loops-low (over.Full size low ∷ ls) n f = (f.0.1, loops-low ls (end_of (levels_of (over.Full size low)) n) f.1)
loops-low (over.Nodes k more nodes crd low ∷ ls) n f = (f.0.4, loops-low ls (end_of (levels_of (over.Nodes k more nodes crd low)) n) f.1)

slots-low : (xs : List Slot) (n : ℕ) → FitSlots xs → LowFit (slot_coordinates xs n)
slots-low [] n f = tt
slots-low (x ∷ xs) n f = (f.1, slots-low xs (n + 2) f.2)

-- ---- one part

entry-small : (c : Columns) (k n r : ℕ) {row col : TermTree} → c.count < 2 ^ 32 → SmallTerm 3 row → SmallTerm 3 col → Small 5 2 (append k (dim.Name c.count) n (entry c.i c.j c.v row col (Reg r)))
entry-small c k n r long s t =
    only-when {d = 1} register-fits long (omega arith)
    (set-small register-fits (term-fits (omega arith) s)
    (set-small register-fits (term-fits (omega arith) t)
    (set-small register-fits register-fits
    (put-small (term-fits {n = 3} {e = Add (Reg 0) (Number 1)} (omega arith) (sum-small register-small (number-small (omega arith)))) (end-small (omega arith))))))

unless-small : {m d : ℕ} (tight : Bool) (r : ℕ) {inner : Code} → 1 ≤ d → Small m d inner → Small (1 + m) (1 + d) (unless_zero tight r inner)
unless-small true r deep s = block-looser (omega arith) (omega arith) s
unless-small false r deep s = only-else register-fits (term-fits {e = Number 0} (omega arith) (number-small (omega arith))) deep s

leaf-small : {m d : ℕ} (b : ℕ) (w : Places) (q : TermTree) (n : ℕ) (inner : Code) → FitsColumn w.values → FitSlots w.slots.items → SmallTerm b q → b + 4 + 4 * length w.slots.items ≤ 64 → 1 ≤ d → Small m d inner
    → Small (3 + 2 * length w.slots.items + m) (2 + length w.slots.items + d) (leaf w q n inner)
leaf-small {m} {d} b w q n inner f g s few deep t =
    let values = tested-sizes w.values in
    let slots = slots-sizes w.slots.items in
    block-looser (omega (arith, values.statements, slots.statements)) (omega (arith, values.deep, slots.deep))
    (level-small (tested w.values) q n (tested-fits w.values f) s (omega (arith, few)) (omega (arith, deep))
    (unless-small (is_tight w) (n + 1) (omega (arith, deep))
    (nest-small (slot_levels w.slots.items) b m d (n + 2) q inner (slots-fit w.slots.items g) s (omega (arith, slots.levels, few)) deep t)))

-- with registers from n on, around a block
walk-small : (x : PartWalk) (n m d : ℕ) (inner : Code) → FitsWalk x → 1 ≤ d → Small m d inner → Small (59 + names_in x.steps.items + m) (40 + d) (walk x.places x.steps.items n inner)
walk-small x n m d inner f deep t =
    let w : Places = x.places in
    let loops = loops-sizes x.places.loops.items in
    let s : SmallTerm (1 + 8 * length x.places.loops.items) (position x.places n) =
    term-looser (omega (arith, loops.levels)) (positions-small (loop_levels x.places.loops.items) 1 n (Number 0) (loops-fit x.places.loops.items f.loops_fit) (number-small (omega arith))) in
    block-looser (omega (arith, loops.statements, f.few)) (omega (arith, loops.deep, f.few, f.twice))
    (nest-small (loop_levels x.places.loops.items) 1 (3 + 2 * length x.places.slots.items + (names_in x.steps.items + m)) (2 + length x.places.slots.items + (reads_in x.steps.items + d)) n (Number 0) _
    (loops-fit x.places.loops.items f.loops_fit) (number-small (omega arith)) (omega (arith, loops.levels, f.few)) (omega arith)
    (leaf-small (1 + 8 * length x.places.loops.items) x.places (position x.places n) (leaf_at x.places n) _ f.values_fit f.slots_fit s (omega (arith, f.few)) (omega (arith, deep))
    (recovery-small (coordinates x.places n) x.places.tables.items x.steps.items [] (steps_at x.places n) m d inner (lows x n f) f.tables_fit f.steps_fit tt deep t)))
  where
    lows : (x : PartWalk) (n : ℕ) → FitsWalk x → LowFit (coordinates x.places n)
    lows x n f = low-append (loop_coordinates x.places.loops.items n) (slot_coordinates x.places.slots.items (leaf_at x.places n + 2)) (loops-low x.places.loops.items n f.loops_fit) (slots-low x.places.slots.items (leaf_at x.places n + 2) f.slots_fit)

index-small : (x : PartWalk) (n k : ℕ) → FitsWalk x → SmallTerm 3 (index_term x.places x.steps.items n k)
index-small x n k f =
    term_at-small (coordinates x.places n) x.steps.items (steps_at x.places n) k
    (low-append (loop_coordinates x.places.loops.items n) (slot_coordinates x.places.slots.items (leaf_at x.places n + 2)) (loops-low x.places.loops.items n f.loops_fit) (slots-low x.places.slots.items (leaf_at x.places n + 2) f.slots_fit))
    f.steps_fit

part-small : (c : Columns) (k : ℕ) (x : PartWalk) (n : ℕ) → c.count < 2 ^ 32 → FitsWalk x → Small (room x) 64 (list_part c k x n)
part-small c k x n long f =
    block-looser (omega (arith, names-few x.steps.items)) (omega arith)
    (walk-small x n 5 2 (append k (dim.Name c.count) (end x.places x.steps.items n) (entry_of c x n)) f (omega arith)
    (entry-small c k (end x.places x.steps.items n) (value_register x.places n) long (index-small x n x.row f) (index-small x n x.col f)))

parts-small : (c : Columns) (k : ℕ) (xs : List PartWalk) (n : ℕ) → c.count < 2 ^ 32 → FitWalks xs → Small (rooms xs) 64 (list_parts c k xs n)
parts-small c k [] n long f = end-small (omega arith)
parts-small c k (x ∷ xs) n long f = append-small (part-small c k x n long f.0) (parts-small c k xs (end_of_part x n) long f.1)

pub listing-small : (c : Columns) (k : ℕ) (xs : List PartWalk) → c.count < 2 ^ 32 → FitWalks xs → Small (1 + rooms xs) 64 (listing c k xs)
listing-small c k xs long f = var-small (term-fits {e = Number 0} (omega arith) (number-small (omega arith))) (parts-small c k xs (k + 1) long f)

-- ---- nothing is sorted

unless-without : (tight : Bool) (r : ℕ) (inner : Code) → has_order inner ≡ false → has_order (unless_zero tight r inner) ≡ false
unless-without true r inner h = h
unless-without false r inner h = rw h refl

part-without : (c : Columns) (k : ℕ) (x : PartWalk) (n : ℕ) → has_order (list_part c k x n) ≡ false
part-without c k x n =
    nest-without (loop_levels x.places.loops.items) n (Number 0) _
    (level-without (tested x.places.values) (leaf_at x.places n) (position x.places n) _
    (unless-without (is_tight x.places) (leaf_at x.places n + 1) _
    (nest-without (slot_levels x.places.slots.items) (leaf_at x.places n + 2) (position x.places n) _
    (recovery-without (coordinates x.places n) x.places.tables.items x.steps.items [] (steps_at x.places n) _ refl))))

parts-without : (c : Columns) (k : ℕ) (xs : List PartWalk) (n : ℕ) → has_order (list_parts c k xs n) ≡ false
parts-without c k [] n = refl
parts-without c k (x ∷ xs) n = blocks-without (list_part c k x n) _ (part-without c k x n) (parts-without c k xs (end_of_part x n))

pub listing-without : (c : Columns) (k : ℕ) (xs : List PartWalk) → has_order (listing c k xs) ≡ false
listing-without c k xs = parts-without c k xs (k + 1)
