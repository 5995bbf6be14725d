-- The phase of dims keeps the limits.
use Rattle.std.proofs.Common.{◌≡◌, ℕ, ◌+◌, ◌*◌, ◌^◌, ◌<◌, ◌≤◌, Bool, true, false, cond, List, [], ◌∷◌, ◌++◌, length, refl, arith, length-append}
use Rattle.us_code.specs.declared.program.Dim.{Dim}
use Rattle.us_code.specs.declared.program.Dim.TheVariants as dim
use Rattle.us_code.specs.Plain.{TermTree, Number, Reg, Add, Rem, End, LineTree}
use Rattle.us_code.specs.Limits.{FitsDim, FitsLine, FitsLines}
use Rattle.us_limits.specs.Small.{SmallTerm, Small}
use Rattle.us_limits.specs.Orders.{has_order}
use Rattle.us_limits.proofs.Terms.{term-fits, term-looser, number-small, register-small, dim-small, sum-small, quotient-small, remainder-small}
use Rattle.us_limits.proofs.Blocks.{block-looser, end-small, var-small, load-small, put-small, only-for, only-if, only-else, only-when, append-small}
use Rattle.us_limits.proofs.Orders.{blocks-without}
use Rattle.us_limits.proofs.Nests.{register-fits}
use Rattle.us_gen_walk.specs.declared.places.Column.{Column}
use Rattle.us_gen_walk.specs.declared.places.Column.TheVariants as column
use Rattle.us_gen_walk.specs.declared.places.Loop.{Loop}
use Rattle.us_gen_walk.specs.declared.places.Loop.TheVariants as over
use Rattle.us_gen_opening.specs.declared.parts.Extent.{Extent}
use Rattle.us_gen_opening.specs.declared.parts.Opening.{Opening}
use Rattle.us_gen_opening.specs.Opening.{read_extents, extent_lines, cells_term, nodes_lines, more_lines, level_lines, loop_lines, count_cell, count_turn, source_of, count_cells, is_tight, count_part, part_term, counter, opening_code, add_terms, total_term, opening_lines, all_lines}
use Rattle.us_gen_opening.specs.Opening as opens
use Rattle.us_listing_limits.specs.Fitting.{FitsColumn, FitLoops, FitExtents, FitOpenings}

-- ---- extents

extent-small : (e : Extent) (n : ℕ) → e.source < 2 ^ 32 → Small 4 64 (opens.read_extent e n)
extent-small e n h =
    block-looser {d = 2} (omega arith) (omega arith)
    (var-small (term-fits {e = Number 0} (omega arith) (number-small (omega arith)))
    (only-when {d = 1} (term-fits {e = Number 0} (omega arith) (number-small (omega arith))) h (omega arith) (load-small register-fits (put-small register-fits (end-small (omega arith))))))

extents-small : (es : List Extent) (n : ℕ) → FitExtents es → Small (4 * length es) 64 (read_extents es n)
extents-small [] n f = end-small (omega arith)
extents-small (e ∷ es) n f = block-looser (omega arith) (omega arith) (append-small (extent-small e n f.0) (extents-small es (n + 3) f.2))

-- ---- the number of entries

source-fits : (c : Column) → FitsColumn c → source_of c < 2 ^ 32
source-fits (column.Own k) f = f
source-fits (column.Packed k w digit) f = f.0

cell-small : (k n : ℕ) → Small 3 2 (count_cell k n)
cell-small k n =
    load-small register-fits
    (only-else {d = 1} register-fits (term-fits {e = Number 0} (omega arith) (number-small (omega arith))) (omega arith)
    (put-small (term-fits {n = 3} {e = Add (Reg 0) (Number 1)} (omega arith) (sum-small register-small (number-small (omega arith)))) (end-small (omega arith))))

turn-small : (c : Column) (n : ℕ) → FitsColumn c → Small 4 3 (count_turn c n)
turn-small (column.Own k) n f = block-looser (omega arith) (omega arith) (cell-small k n)
turn-small (column.Packed k w digit) n f =
    only-if (term-fits {n = 2} {e = Rem (Reg 0) w} (omega arith) (remainder-small f.1 f.2 register-small)) (term-fits {e = Number digit} (omega arith) (number-small f.3)) (omega arith) (cell-small k n)

cells-small : (c : Column) (n : ℕ) → FitsColumn c → Small 6 64 (count_cells c n)
cells-small c n f =
    block-looser {d = 4} (omega arith) (omega arith)
    (var-small (term-fits {e = Number 0} (omega arith) (number-small (omega arith))) (only-for (source-fits c f) (turn-small c n f)))

count-small : (o : Opening) (n : ℕ) → FitsColumn o.values → Small 6 64 (count_part o n)
count-small o n f = either (is_tight o)
  where
    either : (tight : Bool) → Small 6 64 (cond tight End (count_cells o.values n))
    either true = block-looser {m = 0} {d = 64} (omega arith) (omega arith) (end-small (omega arith))
    either false = cells-small o.values n f

pub code-small : (os : List Opening) (n : ℕ) → FitOpenings os → Small (70 * length os) 64 (opening_code os n)
code-small [] n f = end-small (omega arith)
code-small (o ∷ os) n f =
    block-looser (omega (arith, f.0.asked)) (omega arith)
    (append-small (extents-small o.extents.items n f.0.extents_fit) (append-small (count-small o (counter o n) f.0.values_fit) (code-small os (counter o n + 3) f.1)))

-- ---- lines

-- lines that fit, and how many there are at most
record Few (n : ℕ) (ls : List LineTree) : Type 0 where
  fit : FitsLines ls
  number : length ls ≤ n

lines-append : (a b : List LineTree) → FitsLines a → FitsLines b → FitsLines (a ++ b)
lines-append [] b f g = g
lines-append (l ∷ ls) b f g = (f.0, lines-append ls b f.1 g)

append-few : {m n : ℕ} (a b : List LineTree) → Few m a → Few n b → Few (m + n) (a ++ b)
append-few a b f g = record { fit = lines-append a b f.fit g.fit; number = omega (arith, f.number, g.number, length-append a b) }

extents-few : (es : List Extent) (n : ℕ) → Few (length es) (extent_lines es n)
extents-few [] n = record { fit = tt; number = omega arith }
extents-few (e ∷ es) n = let more = extents-few es (n + 3) in record { fit = (register-fits, more.fit); number = omega (arith, more.number) }

nodes-few : (c : Column) (nodes : Dim) → FitsColumn c → Few 1 (nodes_lines c nodes)
nodes-few (column.Own k) nodes f = record { fit = tt; number = omega arith }
nodes-few (column.Packed k w digit) (dim.Name d) f = record { fit = (term-fits {n = 2} (omega arith) (quotient-small f.1 f.2 (dim-small {d = dim.Len k} f.0)), tt); number = omega arith }
nodes-few (column.Packed k w digit) (dim.Number n) f = record { fit = tt; number = omega arith }
nodes-few (column.Packed k w digit) (dim.Len j) f = record { fit = tt; number = omega arith }

more-few : (more nodes : Dim) → FitsDim nodes → Few 1 (more_lines more nodes)
more-few (dim.Name d) nodes f = record { fit = (f, tt); number = omega arith }
more-few (dim.Number n) nodes f = record { fit = tt; number = omega arith }
more-few (dim.Len j) nodes f = record { fit = tt; number = omega arith }

loops-few : (ls : List Loop) → FitLoops ls → Few (2 * length ls) (loop_lines ls)
loops-few [] f = record { fit = tt; number = omega arith }
loops-few (over.Full size low ∷ ls) f = let more = loops-few ls f.1 in record { fit = more.fit; number = omega (arith, more.number) }
loops-few (over.Nodes k above nodes crd low ∷ ls) f =
    let rest = append-few (nodes_lines crd nodes ++ more_lines above nodes) (loop_lines ls) (append-few (nodes_lines crd nodes) (more_lines above nodes) (nodes-few crd nodes f.0.3) (more-few above nodes f.0.2)) (loops-few ls f.1) in
    record { fit = rest.fit; number = omega (arith, rest.number) }

lines-few : (os : List Opening) (n : ℕ) (last : LineTree) → FitOpenings os → FitsLine last → Few (1 + 28 * length os) (opening_lines os n last)
lines-few [] n last f g = record { fit = (g, tt); number = omega arith }
lines-few (o ∷ os) n last f g =
    let rest = append-few (extent_lines o.extents.items n) (loop_lines o.loops.items ++ opening_lines os (counter o n + 3) last) (extents-few o.extents.items n)
    (append-few (loop_lines o.loops.items) (opening_lines os (counter o n + 3) last) (loops-few o.loops.items f.0.loops_fit) (lines-few os (counter o n + 3) last f.1 g)) in
    record { fit = rest.fit; number = omega (arith, rest.number, f.0.few, f.0.asked) }

-- ---- the number of all entries

column-small : (c : Column) → FitsColumn c → SmallTerm 2 (cells_term c)
column-small (column.Own k) f = term-looser (omega arith) (dim-small {d = dim.Len k} f)
column-small (column.Packed k w digit) f = quotient-small f.1 f.2 (dim-small {d = dim.Len k} f.0)

part-small : (o : Opening) (n : ℕ) → FitsColumn o.values → SmallTerm 2 (part_term o n)
part-small o n f = either (is_tight o)
  where
    either : (tight : Bool) → SmallTerm 2 (cond tight (cells_term o.values) (Reg n))
    either true = column-small o.values f
    either false = term-looser (omega arith) register-small

terms-small : (m : ℕ) (t : TermTree) (os : List Opening) (n : ℕ) → FitOpenings os → SmallTerm m t → SmallTerm (m + 3 * length os) (add_terms t os n)
terms-small m t [] n f s = term-looser (omega arith) s
terms-small m t (o ∷ os) n f s = term-looser (omega arith) (terms-small (1 + m + 2) _ os (counter o n + 3) f.1 (sum-small s (part-small o (counter o n) f.0.values_fit)))

total-small : (os : List Opening) (n : ℕ) → FitOpenings os → SmallTerm (2 + 3 * length os) (total_term os n)
total-small [] n f = term-looser (omega arith) (number-small (omega arith))
total-small (o ∷ os) n f = term-looser (omega arith) (terms-small 2 _ os (counter o n + 3) f.1 (part-small o (counter o n) f.0.values_fit))

pub record LinesFew (count n : ℕ) (os : List Opening) : Type 0 where
  pub fit : FitsLines (all_lines count n os)
  pub number : length (all_lines count n os) ≤ 113

pub all-few : (count n : ℕ) (os : List Opening) → length os ≤ 4 → FitOpenings os → LinesFew count n os
all-few count n os few f =
    let lines = lines-few os n _ f (term-fits (omega (arith, few)) (total-small os n f)) in
    record { fit = lines.fit; number = omega (arith, lines.number, few) }

-- ---- nothing is sorted

extents-without : (es : List Extent) (n : ℕ) → has_order (read_extents es n) ≡ false
extents-without [] n = refl
extents-without (e ∷ es) n = extents-without es (n + 3)

count-without : (o : Opening) (n : ℕ) → has_order (count_part o n) ≡ false
count-without o n = either (is_tight o) o.values
  where
    either : (tight : Bool) (c : Column) → has_order (cond tight End (count_cells c n)) ≡ false
    either true c = refl
    either false (column.Own k) = refl
    either false (column.Packed k w digit) = refl

pub code-without : (os : List Opening) (n : ℕ) → has_order (opening_code os n) ≡ false
code-without [] n = refl
code-without (o ∷ os) n =
    blocks-without (read_extents o.extents.items n) _ (extents-without o.extents.items n)
    (blocks-without (count_part o (counter o n)) _ (count-without o (counter o n)) (code-without os (counter o n + 3)))
