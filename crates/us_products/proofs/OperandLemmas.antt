-- What an operand file gives, and whether its sides fit.
use Rattle.std.proofs.Common.{◌≡◌, ◌≢◌, ℕ, ◌+◌, ◌*◌, ◌<◌, ◌≤◌, ◌^◌, ◌&&◌, not, ℤ, cond, nat_eq, nat_le, nat_lt, Bool, true, false, List, [], ◌∷◌, length, Result, Ok, Err, refl, sym, ap, ◌∙◌, subst, arith}
use Rattle.std.proofs.lemmas.Bool.{false≢true, leb-true}
use Rattle.std.proofs.lemmas.Bool.Decides.{nat_tests}
use Rattle.us_matrix.specs.declared.shape.Shape.{Shape}
use Rattle.us_matrix.specs.Map.{IsSide}
use Rattle.us_matrix.specs.Grid.{Grid}
use Rattle.us_mm.specs.declared.fault.MmFault.{MmFault}
use Rattle.us_mm.specs.declared.fault.MmFault.TheVariants.{SizeLine, TooManyEntries}
use Rattle.us_mm.specs.declared.fault.MmFault.TheVariants as fault
use Rattle.us_mm_lines.specs.Lines.{lines, kept}
use Rattle.us_mm_lines.specs.Words.{words, is_size_word, size_of}
use Rattle.us_mm.specs.Reads.{◌>>=◌, is_side, wanted}
use Rattle.us_mm.specs.Arrays.{array_header_of, array_in, array_lines, array_sized, side_numbers, side_words, sides_of, value_in}
use Rattle.us_mm.specs.Views.{Gives, IsFaultOf}
use Rattle.us_status.specs.declared.status.Slot.TheVariants as slots
use Rattle.us_status.specs.declared.status.Status.{Status}
use Rattle.us_status.specs.declared.status.Status.TheVariants.{Operand}
use Rattle.us_status.specs.Answers.{IsStep, refusal_of, then_step}
use Rattle.us_inputs.proofs.InputLemmas.{and_left}
use Rattle.us_products.specs.Factors.{operand_step, right_columns, right_rows, sides_step}

-- ---- the file

pub operand_read : (read : Result Grid MmFault) (x : Grid) → Gives (Ok x) read → operand_step read ≡ Ok x
operand_read read x h = ap operand_step h

refused_operand : (f : MmFault) (read : Result Grid MmFault) → IsFaultOf f read → IsStep {A = Grid} (operand_step read) (Err (refusal_of slots.Operand f))
refused_operand fault.Memory read h = tt
refused_operand f read h = ap operand_step h

pub operand_refused : (f : MmFault) (read : Result Grid MmFault) (status : Status) → status ≡ refusal_of slots.Operand f → IsFaultOf f read → IsStep {A = Grid} (operand_step read) (Err status)
operand_refused f read status e h = subst (λ t. IsStep {A = Grid} (operand_step read) (Err t)) (sym e) (refused_operand f read h)

-- ---- the sides that a file can tell

pub record AreSides (rows cols : ℕ) : Type 0 where
  pub rows_side : IsSide rows
  pub cols_side : IsSide cols
  pub few : rows * cols ≤ 33554432

and_right : (a b : Bool) → (a && b) ≡ true → b ≡ true
and_right true b h = h
and_right false b h = absurd (false≢true h)

side_true : (n : ℕ) → is_side n ≡ true → IsSide n
side_true n h = record { low = leb-true 1 n (and_left (nat_le 1 n) _ h); high = omega (arith, leb-true n 2147483647 (and_right (nat_le 1 n) _ h)) }

not_above : (k : ℕ) → nat_lt 33554432 k ≡ false → k ≤ 33554432
not_above k h = grind (arith, nat_tests)

abbrev shape_of : ℕ → ℕ → Shape
shape_of m n = record { rows = m; cols = n }

numbers_sides : (line m n : ℕ) (s : Shape) (a b : Bool) → (is_side m && is_side n) ≡ a → nat_lt 33554432 (m * n) ≡ b
    → cond (not a) (Err (fault.Shape line)) (cond b (Err (TooManyEntries (m * n))) (Ok (shape_of m n))) ≡ Ok s → AreSides s.rows s.cols
numbers_sides line m n s false b ea eb h = cc
numbers_sides line m n s true true ea eb h = cc
numbers_sides line m n s true false ea eb h =
    let same : shape_of m n ≡ s = cc in
    subst (λ (s : Shape). AreSides s.rows s.cols) same
    (record { rows_side = side_true m (and_left (is_side m) _ ea); cols_side = side_true n (and_right (is_side m) _ ea); few = not_above (m * n) eb })

word_sides : (line : ℕ) (m n : List ℕ) (s : Shape) (b : Bool) → cond b (side_numbers line (size_of m) (size_of n)) (Err (SizeLine line)) ≡ Ok s → AreSides s.rows s.cols
word_sides line m n s true h = numbers_sides line (size_of m) (size_of n) s _ _ refl refl h
word_sides line m n s false h = cc

words_sides : (line : ℕ) (ws : List (List ℕ)) (s : Shape) → side_words line ws ≡ Ok s → AreSides s.rows s.cols
words_sides line [] s h = cc
words_sides line (m ∷ []) s h = cc
words_sides line (m ∷ n ∷ []) s h = word_sides line m n s (is_size_word m && is_size_word n) h
words_sides line (m ∷ n ∷ k ∷ ws) s h = cc

line_sides : (line : ℕ × List ℕ) (s : Shape) → sides_of line ≡ Ok s → AreSides s.rows s.cols
unfolding sides_of
line_sides line s h = words_sides line.0 (words line.1) s h

abbrev grid_with : Shape → List ℤ → Grid
grid_with s vs = record { rows = s.rows; cols = s.cols; cells = vs }

cells_sides : (s : Shape) (r : Result (List ℤ) MmFault) (g : Grid) → AreSides s.rows s.cols → (r >>= λ vs. Ok (grid_with s vs)) ≡ Ok g → AreSides g.rows g.cols
cells_sides s (Ok vs) g h e =
    let same : grid_with s vs ≡ g = cc in
    subst (λ (g : Grid). AreSides g.rows g.cols) same h
cells_sides s (Err f) g h e = cc

bound_sides : (more : List (ℕ × List ℕ)) (r : Result Shape MmFault) (line : ℕ × List ℕ) (g : Grid) → sides_of line ≡ r
    → (r >>= λ s. wanted value_in (s.rows * s.cols) more >>= λ vs. Ok (grid_with s vs)) ≡ Ok g → AreSides g.rows g.cols
bound_sides more (Ok s) line g e h = cells_sides s (wanted value_in (s.rows * s.cols) more) g (line_sides line s e) h
bound_sides more (Err f) line g e h = cc

sized_sides : (last : ℕ) (ls : List (ℕ × List ℕ)) (g : Grid) → array_sized last ls ≡ Ok g → AreSides g.rows g.cols
sized_sides last [] g h = cc
sized_sides last (line ∷ more) g h = bound_sides more (sides_of line) line g refl h

header_sides : (r : Result (Unit {0}) MmFault) (body : List (List ℕ)) (g : Grid) → (r >>= λ _. array_sized (length body + 1) (kept 2 body)) ≡ Ok g → AreSides g.rows g.cols
header_sides (Ok u) body g h = sized_sides (length body + 1) (kept 2 body) g h
header_sides (Err f) body g h = cc

lines_sides : (ls : List (List ℕ)) (g : Grid) → array_lines ls ≡ Ok g → AreSides g.rows g.cols
lines_sides [] g h = cc
lines_sides (first ∷ body) g h = header_sides (array_header_of first) body g h

-- the sides of an operand, and how many cells there are
pub array_sides : (bytes : List ℕ) (g : Grid) → array_in bytes ≡ Ok g → AreSides g.rows g.cols
unfolding array_in
array_sides bytes g h = lines_sides (lines bytes) g h

pub few_cells_there : (g : Grid) → AreSides g.rows g.cols → length g.cells ≡ g.rows * g.cols → length g.cells ≤ 33554432
few_cells_there g h e = subst (λ n. n ≤ 33554432) (sym e) h.few

-- ---- whether they fit

differ : (have want : ℕ) → have ≢ want → nat_eq have want ≡ false
differ have want h = grind (arith, nat_tests)

agree : (have want : ℕ) → have ≡ want → nat_eq have want ≡ true
agree have want h = grind (arith, nat_tests)

abbrev rows_told : Bool → ℕ → ℕ → Result (Unit {0}) Status
rows_told b have want = cond b (Ok tt) (Err (Operand false have want))

abbrev columns_told : Bool → ℕ → Result (Unit {0}) Status
columns_told b have = cond b (Ok tt) (Err (Operand true have 1))

pub rows_differ : (vector : Bool) (cols : ℕ) (x : Grid) → x.rows ≢ cols → sides_step vector cols x ≡ Err (Operand false x.rows cols)
rows_differ vector cols x h = ap (λ b. then_step (rows_told b x.rows cols) (λ _. right_columns vector x.cols)) (differ x.rows cols h)

pub rows_agree : (vector : Bool) (cols : ℕ) (x : Grid) → x.rows ≡ cols → sides_step vector cols x ≡ right_columns vector x.cols
rows_agree vector cols x h = ap (λ b. then_step (rows_told b x.rows cols) (λ _. right_columns vector x.cols)) (agree x.rows cols h)

pub one_column : (have : ℕ) → have ≡ 1 → right_columns true have ≡ Ok tt
one_column have h = ap (λ b. columns_told b have) (agree have 1 h)

pub other_columns : (have : ℕ) → have ≢ 1 → right_columns true have ≡ Err (Operand true have 1)
other_columns have h = ap (λ b. columns_told b have) (differ have 1 h)
