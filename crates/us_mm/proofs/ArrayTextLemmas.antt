-- The canonical text of a dense matrix is read again.
use Rattle.std.proofs.Common.{◌≡◌, ℕ, suc, ◌+◌, ◌*◌, ◌^◌, ◌<◌, ◌≤◌, ◌==◌, ◌&&◌, Bool, true, cond, List, [], ◌∷◌, ◌++◌, length, map, flat_map, Ok, Err, ℤ, FitsSigned, refl, sym, ap, ◌∙◌, arith, append_assoc, append-nil}
use Rattle.std.specs.Prelude.{codes}
use Rattle.std.specs.Fmt.{decimal, signed_decimal}
use Rattle.std.specs.List.{enumerate_from}
use Rattle.std.specs.Int.{w64}
use Rattle.std.proofs.lemmas.Bool.Decides.{nat_tests}
use Rattle.us_matrix.specs.Map.{IsSide}
use Rattle.us_matrix.specs.Grid.{Grid}
use Rattle.us_mm_lines.specs.Lines.{lines, kept, is_skipped}
use Rattle.us_mm_lines.specs.Words.{words, size_of, value_of}
use Rattle.us_mm_lines.proofs.LineLemmas.{lines-nil, kept_line, kept-nil}
use Rattle.us_mm_lines.proofs.DecimalLemmas.{clear_append, clear_by_test, size_word_decimal, value_word_decimal}
use Rattle.us_mm_lines.proofs.WrittenLemmas.{word_then, word_last, lines_clear, not_skipped, decimal_word, signed_word}
use Rattle.us_mm.specs.declared.fault.MmFault.TheVariants.{SizeLine, EntryLine, ValueRange}
use Rattle.us_mm.specs.Reads.{◌>>=◌, each, wanted}
use Rattle.us_mm.specs.Arrays.{array_header_of, sides_of, side_words, side_numbers, value_in, value_words, value_number, array_in, array_lines, array_sized}
use Rattle.us_mm.specs.Text.{array_text, sides_line, value_line}
use Rattle.us_mm.specs.Laws.{AreCells, IsGrid}
use Rattle.us_mm.proofs.TextLemmas.{value_fits, wanted_read}

-- the size line without its line feed
abbrev sides_bare : ℕ → ℕ → List ℕ
sides_bare rows cols = decimal rows ++ 32 ∷ decimal cols

sides_line-bare : (rows cols : ℕ) (rest : List ℕ) → sides_line rows cols ++ rest ≡ sides_bare rows cols ++ 10 ∷ rest
sides_line-bare rows cols rest = simp append_assoc

value_line-bare : (v : ℤ) (rest : List ℕ) → value_line v ++ rest ≡ signed_decimal v ++ 10 ∷ rest
value_line-bare v rest = simp append_assoc

two_true : (a b : Bool) → a ≡ true → b ≡ true → (a && b) ≡ true
two_true a b p q = rw (p, q) refl

value_read : (n : ℕ) (v : ℤ) → FitsSigned w64 v → value_in (n, signed_decimal v) ≡ Ok v
unfolding value_in
value_read n v f =
    let w = signed_word v f in
    let r = value_word_decimal v f in
    ap (value_words n) (word_last (signed_decimal v) w.some w.blanks)
    ∙ ap (λ b. cond b (value_number n (value_of (signed_decimal v))) (Err (EntryLine n))) r.0
    ∙ ap (value_number n) r.1
    ∙ ap (λ b. cond b (Ok v) (Err (ValueRange n))) (value_fits v f)

values_read : (n : ℕ) (vs : List ℤ) → AreCells vs → each value_in (enumerate_from n (map signed_decimal vs)) ≡ Ok vs
values_read n [] h = refl
values_read n (v ∷ vs) h =
    ap (λ r. r >>= λ y. each value_in (enumerate_from (n + 1) (map signed_decimal vs)) >>= λ ys. Ok (y ∷ ys)) (value_read n v h.0)
    ∙ ap (λ r. r >>= λ ys. Ok (v ∷ ys)) (values_read (n + 1) vs h.1)

lines_values : (vs : List ℤ) → AreCells vs → lines (flat_map value_line vs) ≡ map signed_decimal vs
lines_values [] h = lines-nil
lines_values (v ∷ vs) h =
    let w = signed_word v h.0 in
    ap lines (value_line-bare v (flat_map value_line vs))
    ∙ lines_clear (signed_decimal v) (flat_map value_line vs) w.feeds w.returns
    ∙ ap (λ ls. signed_decimal v ∷ ls) (lines_values vs h.1)

kept_values : (n : ℕ) (vs : List ℤ) → AreCells vs → kept n (map signed_decimal vs) ≡ enumerate_from n (map signed_decimal vs)
kept_values n [] h = kept-nil n
kept_values n (v ∷ vs) h =
    kept_line n (signed_decimal v) (map signed_decimal vs) (ap is_skipped (sym (append-nil (signed_decimal v))) ∙ not_skipped (signed_decimal v) [] (signed_word v h.0))
    ∙ ap (λ ls. (n, signed_decimal v) ∷ ls) (kept_values (n + 1) vs h.1)

sides_pass : (n rows cols : ℕ) → IsSide rows → IsSide cols → rows * cols ≤ 33554432 → side_numbers n rows cols ≡ Ok (record { rows = rows; cols = cols })
sides_pass n rows cols r c le =
    let low_r : 1 ≤ rows = r.low in
    let high_r : rows < 2 ^ 31 = r.high in
    let low_c : 1 ≤ cols = c.low in
    let high_c : cols < 2 ^ 31 = c.high in
    grind (arith, nat_tests)

sides_read : (n rows cols : ℕ) → IsSide rows → IsSide cols → rows * cols ≤ 33554432 → sides_of (n, sides_bare rows cols) ≡ Ok (record { rows = rows; cols = cols })
unfolding sides_of
sides_read n rows cols r c le =
    let sr : rows < 2 ^ 64 = omega (arith, r.high) in
    let sc : cols < 2 ^ 64 = omega (arith, c.high) in
    let ar = decimal_word rows sr in
    let ac = decimal_word cols sc in
    let wr = size_word_decimal rows sr in
    let wc = size_word_decimal cols sc in
    ap (side_words n) (word_then (decimal rows) (decimal cols) ar.some ar.blanks ∙ ap (λ ws. decimal rows ∷ ws) (word_last (decimal cols) ac.some ac.blanks))
    ∙ ap (λ b. cond b (side_numbers n (size_of (decimal rows)) (size_of (decimal cols))) (Err (SizeLine n))) (two_true _ _ wr.0 wc.0)
    ∙ ap (λ x. side_numbers n x (size_of (decimal cols))) wr.1
    ∙ ap (side_numbers n rows) wc.1
    ∙ sides_pass n rows cols r c le

length-numbered : (n : ℕ) (vs : List ℤ) → length (enumerate_from n (map signed_decimal vs)) ≡ length vs
length-numbered n [] = refl
length-numbered n (v ∷ vs) = ap suc (length-numbered (n + 1) vs)

abbrev banner : List ℕ
banner = codes "%%MatrixMarket matrix array integer general"

header_read : array_header_of banner ≡ Ok tt
unfolding array_header_of words
header_read = refl

text_lines : (d : Grid) → IsGrid d → lines (array_text d) ≡ banner ∷ sides_bare d.rows d.cols ∷ map signed_decimal d.cells
unfolding array_text
text_lines d g =
    let a = decimal_word d.rows (omega (arith, g.rows.high)) in
    let b = decimal_word d.cols (omega (arith, g.cols.high)) in
    let cells = flat_map value_line d.cells in
    lines_clear banner (sides_line d.rows d.cols ++ cells) (clear_by_test (λ b. b == 10) banner refl) (clear_by_test (λ b. b == 13) banner refl)
    ∙ ap (λ ls. banner ∷ ls) (ap lines (sides_line-bare d.rows d.cols cells)
    ∙ lines_clear (sides_bare d.rows d.cols) cells (clear_append (λ b. b == 10) _ _ a.feeds (refl, b.feeds)) (clear_append (λ b. b == 13) _ _ a.returns (refl, b.returns))
    ∙ ap (λ ls. sides_bare d.rows d.cols ∷ ls) (lines_values d.cells g.cells))

pub array_text_reads : (d : Grid) → IsGrid d → array_in (array_text d) ≡ Ok d
unfolding array_in
array_text_reads d g =
    let size = sides_bare d.rows d.cols in
    let body = size ∷ map signed_decimal d.cells in
    let ls = enumerate_from 3 (map signed_decimal d.cells) in
    let skip = not_skipped (decimal d.rows) (32 ∷ decimal d.cols) (decimal_word d.rows (omega (arith, g.rows.high))) in
    ap array_lines (text_lines d g)
    ∙ ap (λ r. r >>= λ _. array_sized (length body + 1) (kept 2 body)) header_read
    ∙ ap (array_sized (length body + 1)) (kept_line 2 size (map signed_decimal d.cells) skip ∙ ap (λ ls. (2, size) ∷ ls) (kept_values 3 d.cells g.cells))
    ∙ ap (λ r. r >>= λ s. wanted value_in (s.rows * s.cols) ls >>= λ vs. Ok (record { rows = s.rows; cols = s.cols; cells = vs })) (sides_read 2 d.rows d.cols g.rows g.cols g.size)
    ∙ ap (λ r. r >>= λ vs. Ok (record { rows = d.rows; cols = d.cols; cells = vs })) (wanted_read value_in (d.rows * d.cols) ls d.cells (length-numbered 3 d.cells ∙ g.count) (values_read 3 d.cells g.cells))
