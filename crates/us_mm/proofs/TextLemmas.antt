-- A canonical text is read again.
use Rattle.std.proofs.Common.{◌≡◌, ℕ, suc, ◌+◌, ◌-◌, ◌^◌, ◌<◌, ◌≤◌, ◌==◌, ◌&&◌, not, nat_lt, nat_le, Bool, true, false, cond, List, [], ◌∷◌, ◌++◌, length, drop, map, flat_map, Ok, Err, Result, ℤ, pos, negsuc, FitsSigned, refl, ap, ◌∙◌, arith, append_assoc}
use Rattle.std.specs.Prelude.{codes}
use Rattle.std.specs.Fmt.{decimal, signed_decimal}
use Rattle.std.specs.List.{enumerate_from}
use Rattle.std.proofs.lemmas.Bool.Decides.{nat_tests}
use Rattle.std.proofs.lemmas.List.{take_all, drop_all}
use Rattle.std.specs.Int.{w64}
use Rattle.us_matrix.specs.declared.matrix.Triple.{Triple}
use Rattle.us_matrix.specs.Map.{Map, IsSide, IsMatrix, IsEntry, AreEntries, matrix_of}
use Rattle.us_matrix.proofs.EntriesOf.{matrix_of-entries}
use Rattle.us_mm_lines.specs.Lines.{lines, kept}
use Rattle.us_mm_lines.specs.Words.{words, size_of, value_of, is_value}
use Rattle.us_mm.specs.Reads.{◌>>=◌, each, entry_of, integer_words, entry_numbers, sizes_of, size_words, size_numbers, Sizes, matrix_in, reading_of, read_lines, read_sized, read_entries, wanted, no_more, header_of}
use Rattle.us_mm.specs.declared.fault.MmFault.TheVariants.{SizeLine, EntryLine, Missing, OutOfShape, ValueRange}
use Rattle.us_mm.specs.declared.fault.MmFault.{MmFault}
use Rattle.us_mm.specs.declared.form.Field.TheVariants.{Integer}
use Rattle.us_mm.specs.declared.form.Symmetry.TheVariants.{General}
use Rattle.us_mm.specs.declared.form.Form.{Form}
use Rattle.us_mm.specs.Forms.{stands_for}
use Rattle.us_mm.specs.Text.{text, line_of, entry_line}
use Rattle.us_mm_lines.proofs.LineLemmas.{lines-nil, kept_line, kept-nil}
use Rattle.us_mm_lines.proofs.DecimalLemmas.{clear_by_test, size_word_decimal, value_word_decimal}
use Rattle.us_mm_lines.proofs.WrittenLemmas.{bare, words_bare, clear_bare, lines_clear, not_skipped, decimal_word, signed_word}

line_of-bare : (a b c rest : List ℕ) → line_of a b c ++ rest ≡ bare a b c ++ 10 ∷ rest
line_of-bare a b c rest = simp append_assoc

-- the header of a canonical text, and the numbers of its size line
abbrev plain : Form
plain = record { field = Integer; symmetry = General }

abbrev general : ℕ → ℕ → ℕ → Sizes
general rows cols l = record { form = plain; rows = rows; cols = cols; count = l }

-- an entry of a general file stands for itself alone
own_triples : (ts : List Triple) → flat_map (stands_for General) ts ≡ ts
own_triples [] = refl
own_triples (t ∷ ts) = ap (λ l. t ∷ l) (own_triples ts)

abbrev pub entry_bare : Triple → List ℕ
entry_bare t = bare (decimal (t.i + 1)) (decimal (t.j + 1)) (signed_decimal t.v)

three_true : (a b c : Bool) → a ≡ true → b ≡ true → c ≡ true → ((a && b) && c) ≡ true
three_true a b c p q r = rw (p, q, r) refl

inside_true : (i j rows cols : ℕ) → i < rows → j < cols → (nat_le 1 (i + 1) && nat_le (i + 1) rows && (nat_le 1 (j + 1) && nat_le (j + 1) cols)) ≡ true
inside_true i j rows cols row col = grind (arith, nat_tests)

numbers_read : (n rows cols : ℕ) (t : Triple) → t.i < rows → t.j < cols → is_value t.v ≡ true → entry_numbers General n rows cols (t.i + 1) (t.j + 1) t.v ≡ Ok t
numbers_read n rows cols t row col fits =
    let first : t.i + 1 - 1 ≡ t.i = omega arith in
    let second : t.j + 1 - 1 ≡ t.j = omega arith in
    ap (λ b. cond (not b) (Err (OutOfShape n)) (cond (not (is_value t.v)) (Err (ValueRange n)) (Ok (record { i = t.i + 1 - 1; j = t.j + 1 - 1; v = t.v })))) (inside_true t.i t.j rows cols row col)
    ∙ ap (λ b. cond (not b) (Err (ValueRange n)) (Ok (record { i = t.i + 1 - 1; j = t.j + 1 - 1; v = t.v }))) fits
    ∙ ap (λ x. Ok (record { i = x; j = t.j + 1 - 1; v = t.v })) first ∙ ap (λ x. Ok (record { i = t.i; j = x; v = t.v })) second

test_true : (a b : ℕ) → a < b → nat_lt a b ≡ true
test_true a b h = grind (arith, nat_tests)

pub value_fits : (v : ℤ) → FitsSigned w64 v → is_value v ≡ true
value_fits (pos n) f = let lt : n < 2 ^ 63 = omega (arith, f.sfits) in test_true n (2 ^ 63) lt
value_fits (negsuc n) f = let lt : n < 2 ^ 63 = omega (arith, f.sfits) in test_true n (2 ^ 63) lt

entry_read : (n rows cols l : ℕ) (t : Triple) → rows < 2 ^ 31 → cols < 2 ^ 31 → IsEntry rows cols t → entry_of (general rows cols l) (n, entry_bare t) ≡ Ok t
unfolding entry_of
entry_read n rows cols l t rs cs e =
    let row : t.i < rows = e.row in
    let col : t.j < cols = e.col in
    let si : t.i + 1 < 2 ^ 64 = omega arith in
    let sj : t.j + 1 < 2 ^ 64 = omega arith in
    let wi = size_word_decimal (t.i + 1) si in
    let wj = size_word_decimal (t.j + 1) sj in
    let wv = value_word_decimal t.v e.fits in
    ap (integer_words General n rows cols) (words_bare _ _ _ (decimal_word (t.i + 1) si) (decimal_word (t.j + 1) sj) (signed_word t.v e.fits))
    ∙ ap (λ b. cond b (entry_numbers General n rows cols (size_of (decimal (t.i + 1))) (size_of (decimal (t.j + 1))) (value_of (signed_decimal t.v))) (Err (EntryLine n))) (three_true _ _ _ wi.0 wj.0 wv.0)
    ∙ ap (λ x. entry_numbers General n rows cols x (size_of (decimal (t.j + 1))) (value_of (signed_decimal t.v))) wi.1
    ∙ ap (λ x. entry_numbers General n rows cols (t.i + 1) x (value_of (signed_decimal t.v))) wj.1
    ∙ ap (entry_numbers General n rows cols (t.i + 1) (t.j + 1)) wv.1
    ∙ numbers_read n rows cols t row col (value_fits t.v e.fits)

each_read : (n rows cols l : ℕ) (ts : List Triple) → rows < 2 ^ 31 → cols < 2 ^ 31 → AreEntries rows cols ts → each (entry_of (general rows cols l)) (enumerate_from n (map entry_bare ts)) ≡ Ok ts
each_read n rows cols l [] rs cs e = refl
each_read n rows cols l (t ∷ ts) rs cs e =
    ap (λ r. r >>= λ y. each (entry_of (general rows cols l)) (enumerate_from (n + 1) (map entry_bare ts)) >>= λ ys. Ok (y ∷ ys)) (entry_read n rows cols l t rs cs e.0)
    ∙ ap (λ r. r >>= λ ys. Ok (t ∷ ys)) (each_read (n + 1) rows cols l ts rs cs e.1)

lines_entries : (rows cols : ℕ) (ts : List Triple) → rows < 2 ^ 31 → cols < 2 ^ 31 → AreEntries rows cols ts → lines (flat_map entry_line ts) ≡ map entry_bare ts
lines_entries rows cols [] rs cs e = lines-nil
lines_entries rows cols (t ∷ ts) rs cs e =
    let row : t.i < rows = e.0.row in
    let col : t.j < cols = e.0.col in
    let a = decimal_word (t.i + 1) (omega arith) in
    let b = decimal_word (t.j + 1) (omega arith) in
    let c = signed_word t.v e.0.fits in
    ap lines (line_of-bare (decimal (t.i + 1)) (decimal (t.j + 1)) (signed_decimal t.v) (flat_map entry_line ts))
    ∙ lines_clear (entry_bare t) (flat_map entry_line ts) (clear_bare (λ b. b == 10) _ _ _ refl a.feeds b.feeds c.feeds) (clear_bare (λ b. b == 13) _ _ _ refl a.returns b.returns c.returns)
    ∙ ap (λ ls. entry_bare t ∷ ls) (lines_entries rows cols ts rs cs e.1)

kept_entries : (n rows cols : ℕ) (ts : List Triple) → rows < 2 ^ 31 → cols < 2 ^ 31 → AreEntries rows cols ts → kept n (map entry_bare ts) ≡ enumerate_from n (map entry_bare ts)
kept_entries n rows cols [] rs cs e = kept-nil n
kept_entries n rows cols (t ∷ ts) rs cs e =
    let row : t.i < rows = e.0.row in
    kept_line n (entry_bare t) (map entry_bare ts) (not_skipped (decimal (t.i + 1)) (32 ∷ (decimal (t.j + 1) ++ 32 ∷ signed_decimal t.v)) (decimal_word (t.i + 1) (omega arith)))
    ∙ ap (λ ls. (n, entry_bare t) ∷ ls) (kept_entries (n + 1) rows cols ts rs cs e.1)

sizes_pass : (n rows cols count : ℕ) → IsSide rows → IsSide cols → count ≤ 8388608 → size_numbers plain n rows cols count ≡ Ok (general rows cols count)
sizes_pass n rows cols count r c le =
    let low_r : 1 ≤ rows = r.low in
    let high_r : rows < 2 ^ 31 = r.high in
    let low_c : 1 ≤ cols = c.low in
    let high_c : cols < 2 ^ 31 = c.high in
    grind (arith, nat_tests)

sizes_read : (n rows cols count : ℕ) → IsSide rows → IsSide cols → count ≤ 8388608 → sizes_of plain (n, bare (decimal rows) (decimal cols) (decimal count)) ≡ Ok (general rows cols count)
unfolding sizes_of
sizes_read n rows cols count r c le =
    let sr : rows < 2 ^ 64 = omega (arith, r.high) in
    let sc : cols < 2 ^ 64 = omega (arith, c.high) in
    let sn : count < 2 ^ 64 = omega arith in
    let wr = size_word_decimal rows sr in
    let wc = size_word_decimal cols sc in
    let wn = size_word_decimal count sn in
    ap (size_words plain n) (words_bare _ _ _ (decimal_word rows sr) (decimal_word cols sc) (decimal_word count sn))
    ∙ ap (λ b. cond b (size_numbers plain n (size_of (decimal rows)) (size_of (decimal cols)) (size_of (decimal count))) (Err (SizeLine n))) (three_true _ _ _ wr.0 wc.0 wn.0)
    ∙ ap (λ x. size_numbers plain n x (size_of (decimal cols)) (size_of (decimal count))) wr.1
    ∙ ap (λ x. size_numbers plain n rows x (size_of (decimal count))) wc.1
    ∙ ap (size_numbers plain n rows cols) wn.1
    ∙ sizes_pass n rows cols count r c le

length-numbered : (n : ℕ) (ts : List Triple) → length (enumerate_from n (map entry_bare ts)) ≡ length ts
length-numbered n [] = refl
length-numbered n (t ∷ ts) = ap suc (length-numbered (n + 1) ts)

not_short : (a b : ℕ) → a ≡ b → nat_lt a b ≡ false
not_short a b h = grind (arith, nat_tests)

pub wanted_read : {A : Type 0} (f : ℕ × List ℕ → Result A MmFault) (count : ℕ) (ls : List (ℕ × List ℕ)) (xs : List A) → length ls ≡ count → each f ls ≡ Ok xs → wanted f count ls ≡ Ok xs
unfolding wanted
wanted_read {A} f count ls xs len h =
    let rest : List A → Result (List A) MmFault = λ ys. cond (nat_lt (length ls) count) (Err (Missing (length ls) count)) (no_more (drop count ls) ys) in
    ap (λ l. each f l >>= rest) (take_all count ls (omega arith))
    ∙ ap (λ r. r >>= rest) h
    ∙ ap (λ b. cond b (Err (Missing (length ls) count)) (no_more (drop count ls) xs)) (not_short _ _ len)
    ∙ ap (λ l. no_more l xs) (drop_all count ls (omega arith))

entries_read : (n rows cols : ℕ) (ts : List Triple) → rows < 2 ^ 31 → cols < 2 ^ 31 → AreEntries rows cols ts
    → read_entries (enumerate_from n (map entry_bare ts)) (general rows cols (length ts)) ≡ Ok ts
unfolding read_entries
entries_read n rows cols ts rs cs e =
    let ls = enumerate_from n (map entry_bare ts) in
    ap (λ r. r >>= λ us. Ok (flat_map (stands_for General) us))
    (wanted_read (entry_of (general rows cols (length ts))) (length ts) ls ts (length-numbered n ts) (each_read n rows cols (length ts) ts rs cs e))
    ∙ ap Ok (own_triples ts)

abbrev banner : List ℕ
banner = codes "%%MatrixMarket matrix coordinate integer general"

header_read : header_of banner ≡ Ok plain
unfolding header_of words
header_read = refl

text_lines : (m : Map) → IsMatrix m → length m.entries ≤ 8388608 → lines (text m) ≡ banner ∷ bare (decimal m.rows) (decimal m.cols) (decimal (length m.entries)) ∷ map entry_bare m.entries
unfolding text
text_lines m im le =
    let a = decimal_word m.rows (omega (arith, im.rows.high)) in
    let b = decimal_word m.cols (omega (arith, im.cols.high)) in
    let c = decimal_word (length m.entries) (omega arith) in
    lines_clear banner (line_of (decimal m.rows) (decimal m.cols) (decimal (length m.entries)) ++ flat_map entry_line m.entries) (clear_by_test (λ b. b == 10) banner refl) (clear_by_test (λ b. b == 13) banner refl)
    ∙ ap (λ ls. banner ∷ ls) (ap lines (line_of-bare (decimal m.rows) (decimal m.cols) (decimal (length m.entries)) (flat_map entry_line m.entries))
    ∙ lines_clear (bare (decimal m.rows) (decimal m.cols) (decimal (length m.entries))) (flat_map entry_line m.entries) (clear_bare (λ b. b == 10) _ _ _ refl a.feeds b.feeds c.feeds) (clear_bare (λ b. b == 13) _ _ _ refl a.returns b.returns c.returns)
    ∙ ap (λ ls. bare (decimal m.rows) (decimal m.cols) (decimal (length m.entries)) ∷ ls) (lines_entries m.rows m.cols m.entries im.rows.high im.cols.high im.entries))

text_read : (m : Map) → IsMatrix m → length m.entries ≤ 8388608 → reading_of (text m) ≡ Ok (record { rows = m.rows; cols = m.cols; triples = m.entries })
unfolding reading_of
text_read m im le =
    let size = bare (decimal m.rows) (decimal m.cols) (decimal (length m.entries)) in
    let body = size ∷ map entry_bare m.entries in
    let skip = not_skipped (decimal m.rows) (32 ∷ (decimal m.cols ++ 32 ∷ decimal (length m.entries))) (decimal_word m.rows (omega (arith, im.rows.high))) in
    ap read_lines (text_lines m im le)
    ∙ ap (λ r. r >>= λ form. read_sized form (length body + 1) (kept 2 body)) header_read
    ∙ ap (read_sized plain (length body + 1)) (kept_line 2 size (map entry_bare m.entries) skip ∙ ap (λ ls. (2, size) ∷ ls) (kept_entries 3 m.rows m.cols m.entries im.rows.high im.cols.high im.entries))
    ∙ ap (λ r. r >>= λ s. read_entries (enumerate_from 3 (map entry_bare m.entries)) s >>= λ ts. Ok (record { rows = s.rows; cols = s.cols; triples = ts })) (sizes_read 2 m.rows m.cols (length m.entries) im.rows im.cols le)
    ∙ ap (λ r. r >>= λ ts. Ok (record { rows = m.rows; cols = m.cols; triples = ts })) (entries_read 3 m.rows m.cols m.entries im.rows.high im.cols.high im.entries)

pub text_reads : (m : Map) → IsMatrix m → length m.entries ≤ 8388608 → matrix_in (text m) ≡ Ok m
text_reads m im le =
    ap (λ r. r >>= λ x. Ok (matrix_of x.rows x.cols x.triples)) (text_read m im le) ∙ ap Ok (matrix_of-entries m im)
