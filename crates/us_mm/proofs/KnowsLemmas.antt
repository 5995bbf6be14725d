-- What is known of some lines, with one line more.
use Rattle.std.proofs.Common.{◌≡◌, ℕ, suc, ◌+◌, ◌*◌, ◌<◌, ◌≤◌, Bool, true, false, List, [], ◌∷◌, ◌++◌, length, flat_map, ℤ, Ok, Err, Result, refl, sym, ap, ◌∙◌, arith, append_assoc, append-nil, length-append}
use Rattle.std.proofs.lemmas.Grind.{flat_map-append}
use Rattle.us_matrix.specs.declared.matrix.Triple.{Triple}
use Rattle.us_matrix.specs.Grid.{Grid}
use Rattle.us_mm.specs.declared.fault.MmFault.{MmFault}
use Rattle.us_mm.specs.declared.fault.MmFault.TheVariants.{SizeLine, Missing, Extra, Memory}
use Rattle.us_mm.specs.declared.form.Form.{Form}
use Rattle.us_mm_lines.specs.Lines.{kept, is_skipped}
use Rattle.us_mm.specs.Forms.{stands_for}
use Rattle.us_mm.specs.Reads.{◌>>=◌, each, wanted, Sizes, Reading, header_of, sizes_of, entry_of, read_sized, read_entries, read_lines}
use Rattle.us_mm.specs.Arrays.{array_header_of, sides_of, value_in, array_sized, array_lines}
use Rattle.us_mm.specs.Listed.{Listed, Valued}
use Rattle.us_mm.specs.Known.{Fails, HasForm, HasEntries, HasArray, HasValues, Took}
use Rattle.us_mm_lines.proofs.LineLemmas.{kept-nil}
use Rattle.us_mm.proofs.WantedLemmas.{kept_same, kept_more, kept_then, each_more, wanted_fault, wanted_extra, wanted_short, wanted_full}

-- a fault, or want of memory
pub took_fault : {A : Type 0} (P : A → Type 0) (array : Bool) (f : MmFault) (ls : List (List ℕ)) → Fails array f ls → Took P array (Err f) ls
took_fault P array Memory ls h = tt
took_fault P array f ls h = h

pub took_memory : {A : Type 0} (P : A → Type 0) (array : Bool) (f : MmFault) (ls : List (List ℕ)) → f ≡ Memory → Took P array (Err f) ls
took_memory P array Memory ls h = tt
took_memory P array f ls h = absurd (cc)

-- a line behind some lines, and more behind it
on_body : (first l : List ℕ) (ls body more : List (List ℕ)) → ls ≡ first ∷ body → (ls ++ l ∷ []) ++ more ≡ first ∷ (body ++ l ∷ more)
on_body first l ls body more e = ap (λ x. (x ++ l ∷ []) ++ more) e ∙ ap (λ x. first ∷ x) (append_assoc body (l ∷ []) more)

place : (first : List ℕ) (ls body : List (List ℕ)) (n : ℕ) → ls ≡ first ∷ body → n ≡ length ls + 1 → n ≡ 2 + length body
place first ls body n e is = omega (arith, is, ap length e)

longer : (first l : List ℕ) (ls body : List (List ℕ)) → ls ≡ first ∷ body → ls ++ l ∷ [] ≡ first ∷ (body ++ l ∷ [])
longer first l ls body e = ap (λ x. x ++ l ∷ []) e

-- ---- the header of a coordinate file, and what is behind it

header_reads : (first : List ℕ) (form : Form) (body : List (List ℕ)) → header_of first ≡ Ok form → read_lines (first ∷ body) ≡ read_sized form (length body + 1) (kept 2 body)
header_reads first form body h = ap (λ r. r >>= λ f. read_sized f (length body + 1) (kept 2 body)) h

pub header_known : (line : List ℕ) (form : Form) → header_of line ≡ Ok form → HasForm form (line ∷ [])
header_known line form h = record { first = line; body = []; begun = refl; header = h; none = kept-nil 2 }

pub header_fails : (line : List ℕ) (m : MmFault) → header_of line ≡ Err m → Fails false m (line ∷ [])
header_fails line m h more = ap (λ r. r >>= λ f. read_sized f (length more + 1) (kept 2 more)) h

pub form_skips : (form : Form) (ls : List (List ℕ)) (l : List ℕ) → HasForm form ls → is_skipped l ≡ true → HasForm form (ls ++ l ∷ [])
form_skips form ls l h skip =
    record { first = h.first; body = h.body ++ l ∷ []; begun = longer h.first l ls h.body h.begun; header = h.header; none = kept_same 2 h.body l skip ∙ h.none }

pub form_sizes : (form : Form) (ls : List (List ℕ)) (l : List ℕ) (n : ℕ) (s : Sizes) → HasForm form ls → is_skipped l ≡ false → n ≡ length ls + 1 → sizes_of form (n, l) ≡ Ok s → s.form ≡ form
    → HasEntries (record { sizes = s; found = 0; triples = [] }) (ls ++ l ∷ [])
form_sizes form ls l n s h line is size same = record {
  first = h.first;
  body = h.body ++ l ∷ [];
  begun = longer h.first l ls h.body h.begun;
  header = h.header ∙ ap Ok (sym same);
  size_line = (n, l);
  entry_lines = [];
  kept_lines = kept_more 2 n h.body l line (place h.first ls h.body n h.begun is) ∙ ap (λ ks. ks ++ (n, l) ∷ []) h.none;
  sized = ap (λ f. sizes_of f (n, l)) same ∙ size;
  entries = [];
  read = refl;
  found = refl;
  within = omega arith;
  triples = refl;
}

pub form_fails : (form : Form) (ls : List (List ℕ)) (l : List ℕ) (n : ℕ) (m : MmFault) → HasForm form ls → is_skipped l ≡ false → n ≡ length ls + 1 → sizes_of form (n, l) ≡ Err m → Fails false m (ls ++ l ∷ [])
form_fails form ls l n m h line is size more =
    ap read_lines (on_body h.first l ls h.body more h.begun) ∙ header_reads h.first form (h.body ++ l ∷ more) h.header
    ∙ ap (read_sized form (length (h.body ++ l ∷ more) + 1)) (kept_then 2 n h.body l more line (place h.first ls h.body n h.begun is) ∙ ap (λ ks. ks ++ (n, l) ∷ kept (n + 1) more) h.none)
    ∙ ap (λ r. r >>= λ s. read_entries (kept (n + 1) more) s >>= λ ts. Ok (record { rows = s.rows; cols = s.cols; triples = ts })) size

pub form_end : (form : Form) (ls : List (List ℕ)) → HasForm form ls → read_lines ls ≡ Err (SizeLine (length ls + 1))
form_end form ls h =
    ap read_lines h.begun ∙ header_reads h.first form h.body h.header ∙ ap (read_sized form (length h.body + 1)) h.none
    ∙ ap (λ n. Err (SizeLine (n + 1))) (omega (arith, ap length h.begun))

-- ---- entry lines

-- the triples beside the sides, and what the entries stand for
abbrev with_sides : Listed → Result (List Triple) MmFault → Result Reading MmFault
with_sides e r = r >>= λ ts. Ok (record { rows = e.sizes.rows; cols = e.sizes.cols; triples = ts })

abbrev spread : Listed → Result (List Triple) MmFault → Result (List Triple) MmFault
spread e r = r >>= λ ts. Ok (flat_map (stands_for e.sizes.form.symmetry) ts)

-- what reading makes of a size line and entry lines
sized_reads : (e : Listed) (last : ℕ) (p : ℕ × List ℕ) (es : List (ℕ × List ℕ)) → sizes_of e.sizes.form p ≡ Ok e.sizes
    → read_sized e.sizes.form last (p ∷ es) ≡ with_sides e (read_entries es e.sizes)
sized_reads e last p es h = ap (λ r. r >>= λ s. read_entries es s >>= λ ts. Ok (record { rows = s.rows; cols = s.cols; triples = ts })) h

entries_read : (e : Listed) (ls : List (List ℕ)) (l : List ℕ) (n : ℕ) (h : HasEntries e ls) (more : List (List ℕ)) → is_skipped l ≡ false → n ≡ length ls + 1
    → read_lines ((ls ++ l ∷ []) ++ more) ≡ with_sides e (read_entries (h.entry_lines ++ (n, l) ∷ kept (n + 1) more) e.sizes)
entries_read e ls l n h more line is =
    ap read_lines (on_body h.first l ls h.body more h.begun) ∙ header_reads h.first e.sizes.form (h.body ++ l ∷ more) h.header
    ∙ ap (read_sized e.sizes.form (length (h.body ++ l ∷ more) + 1)) (kept_then 2 n h.body l more line (place h.first ls h.body n h.begun is) ∙ ap (λ ks. ks ++ (n, l) ∷ kept (n + 1) more) h.kept_lines)
    ∙ sized_reads e (length (h.body ++ l ∷ more) + 1) h.size_line (h.entry_lines ++ (n, l) ∷ kept (n + 1) more) h.sized

entries_err : (e : Listed) (es : List (ℕ × List ℕ)) (m : MmFault) → wanted (entry_of e.sizes) e.sizes.count es ≡ Err m
    → with_sides e (read_entries es e.sizes) ≡ Err m
unfolding read_entries
entries_err e es m h = ap (λ r. with_sides e (spread e r)) h

entries_ok : (e : Listed) (es : List (ℕ × List ℕ)) (us : List Triple) → wanted (entry_of e.sizes) e.sizes.count es ≡ Ok us
    → with_sides e (read_entries es e.sizes) ≡ Ok (record { rows = e.sizes.rows; cols = e.sizes.cols; triples = flat_map (stands_for e.sizes.form.symmetry) us })
unfolding read_entries
entries_ok e es us h = ap (λ r. with_sides e (spread e r)) h

pub entries_skip : (e : Listed) (ls : List (List ℕ)) (l : List ℕ) → HasEntries e ls → is_skipped l ≡ true → HasEntries e (ls ++ l ∷ [])
entries_skip e ls l h skip = record {
  first = h.first;
  body = h.body ++ l ∷ [];
  begun = longer h.first l ls h.body h.begun;
  header = h.header;
  size_line = h.size_line;
  entry_lines = h.entry_lines;
  kept_lines = kept_same 2 h.body l skip ∙ h.kept_lines;
  sized = h.sized;
  entries = h.entries;
  read = h.read;
  found = h.found;
  within = h.within;
  triples = h.triples;
}

pub entries_more : (e : Listed) (ls : List (List ℕ)) (l : List ℕ) (n : ℕ) (t : Triple) (ts : List Triple) → HasEntries e ls → is_skipped l ≡ false → n ≡ length ls + 1 → e.found < e.sizes.count
    → entry_of e.sizes (n, l) ≡ Ok t → ts ≡ e.triples ++ stands_for e.sizes.form.symmetry t
    → HasEntries (record { sizes = e.sizes; found = e.found + 1; triples = ts }) (ls ++ l ∷ [])
entries_more e ls l n t ts h line is room entry pushed = record {
  first = h.first;
  body = h.body ++ l ∷ [];
  begun = longer h.first l ls h.body h.begun;
  header = h.header;
  size_line = h.size_line;
  entry_lines = h.entry_lines ++ (n, l) ∷ [];
  kept_lines = kept_more 2 n h.body l line (place h.first ls h.body n h.begun is) ∙ ap (λ ks. ks ++ (n, l) ∷ []) h.kept_lines;
  sized = h.sized;
  entries = h.entries ++ t ∷ [];
  read = each_more (entry_of e.sizes) h.entry_lines h.entries (n, l) t h.read entry;
  found = omega (arith, h.found, length-append h.entry_lines ((n, l) ∷ []));
  within = omega (arith, h.found, length-append h.entry_lines ((n, l) ∷ []));
  triples =
      pushed ∙ ap (λ x. x ++ stands_for e.sizes.form.symmetry t) h.triples
      ∙ ap (λ x. flat_map (stands_for e.sizes.form.symmetry) h.entries ++ x) (sym (append-nil (stands_for e.sizes.form.symmetry t)))
      ∙ sym (flat_map-append (stands_for e.sizes.form.symmetry) h.entries (t ∷ []));
}

pub entries_fail : (e : Listed) (ls : List (List ℕ)) (l : List ℕ) (n : ℕ) (m : MmFault) → HasEntries e ls → is_skipped l ≡ false → n ≡ length ls + 1 → e.found < e.sizes.count → entry_of e.sizes (n, l) ≡ Err m → Fails false m (ls ++ l ∷ [])
entries_fail e ls l n m h line is room entry more =
    entries_read e ls l n h more line is
    ∙ entries_err e _ m (wanted_fault (entry_of e.sizes) e.sizes.count h.entry_lines h.entries h.read (n, l) (kept (n + 1) more) m (omega (arith, h.found)) entry)

pub entries_extra : (e : Listed) (ls : List (List ℕ)) (l : List ℕ) (n : ℕ) → HasEntries e ls → is_skipped l ≡ false → n ≡ length ls + 1 → e.sizes.count ≤ e.found → Fails false (Extra n) (ls ++ l ∷ [])
entries_extra e ls l n h line is full more =
    entries_read e ls l n h more line is
    ∙ entries_err e _ (Extra n) (wanted_extra (entry_of e.sizes) e.sizes.count h.entry_lines h.entries h.read (n, l) (kept (n + 1) more) (omega (arith, h.found, h.within)))

-- no line follows
entries_all : (e : Listed) (ls : List (List ℕ)) (h : HasEntries e ls)
    → read_lines ls ≡ with_sides e (read_entries h.entry_lines e.sizes)
entries_all e ls h =
    ap read_lines h.begun ∙ header_reads h.first e.sizes.form h.body h.header
    ∙ ap (read_sized e.sizes.form (length h.body + 1)) h.kept_lines ∙ sized_reads e (length h.body + 1) h.size_line h.entry_lines h.sized

pub entries_missing : (e : Listed) (ls : List (List ℕ)) → HasEntries e ls → e.found < e.sizes.count → read_lines ls ≡ Err (Missing e.found e.sizes.count)
entries_missing e ls h short =
    entries_all e ls h ∙ entries_err e h.entry_lines (Missing (length h.entry_lines) e.sizes.count) (wanted_short (entry_of e.sizes) e.sizes.count h.entry_lines h.entries h.read (omega (arith, h.found)))
    ∙ ap (λ n. Err (Missing n e.sizes.count)) (sym h.found)

pub entries_end : (e : Listed) (ls : List (List ℕ)) → HasEntries e ls → e.sizes.count ≤ e.found → read_lines ls ≡ Ok (record { rows = e.sizes.rows; cols = e.sizes.cols; triples = e.triples })
entries_end e ls h full =
    entries_all e ls h ∙ entries_ok e h.entry_lines h.entries (wanted_full (entry_of e.sizes) e.sizes.count h.entry_lines h.entries h.read (omega (arith, h.found, h.within)))
    ∙ ap (λ ts. Ok (record { rows = e.sizes.rows; cols = e.sizes.cols; triples = ts })) (sym h.triples)

-- ---- operand files

array_reads : (first : List ℕ) (body : List (List ℕ)) → array_header_of first ≡ Ok tt → array_lines (first ∷ body) ≡ array_sized (length body + 1) (kept 2 body)
array_reads first body h = ap (λ r. r >>= λ _. array_sized (length body + 1) (kept 2 body)) h

pub array_known : (line : List ℕ) → array_header_of line ≡ Ok tt → HasArray (line ∷ [])
array_known line h = record { first = line; body = []; begun = refl; header = h; none = kept-nil 2 }

pub array_fails : (line : List ℕ) (m : MmFault) → array_header_of line ≡ Err m → Fails true m (line ∷ [])
array_fails line m h more = ap (λ r. r >>= λ _. array_sized (length more + 1) (kept 2 more)) h

pub array_skips : (ls : List (List ℕ)) (l : List ℕ) → HasArray ls → is_skipped l ≡ true → HasArray (ls ++ l ∷ [])
array_skips ls l h skip =
    record { first = h.first; body = h.body ++ l ∷ []; begun = longer h.first l ls h.body h.begun; header = h.header; none = kept_same 2 h.body l skip ∙ h.none }

pub array_sizes : (ls : List (List ℕ)) (l : List ℕ) (n rows cols : ℕ) → HasArray ls → is_skipped l ≡ false → n ≡ length ls + 1 → sides_of (n, l) ≡ Ok (record { rows = rows; cols = cols })
    → HasValues (record { rows = rows; cols = cols; values = [] }) (ls ++ l ∷ [])
array_sizes ls l n rows cols h line is size = record {
  first = h.first;
  body = h.body ++ l ∷ [];
  begun = longer h.first l ls h.body h.begun;
  header = h.header;
  size_line = (n, l);
  value_lines = [];
  kept_lines = kept_more 2 n h.body l line (place h.first ls h.body n h.begun is) ∙ ap (λ ks. ks ++ (n, l) ∷ []) h.none;
  sized = size;
  read = refl;
  within = omega arith;
}

pub array_size_fails : (ls : List (List ℕ)) (l : List ℕ) (n : ℕ) (m : MmFault) → HasArray ls → is_skipped l ≡ false → n ≡ length ls + 1 → sides_of (n, l) ≡ Err m → Fails true m (ls ++ l ∷ [])
array_size_fails ls l n m h line is size more =
    ap array_lines (on_body h.first l ls h.body more h.begun) ∙ array_reads h.first (h.body ++ l ∷ more) h.header
    ∙ ap (array_sized (length (h.body ++ l ∷ more) + 1)) (kept_then 2 n h.body l more line (place h.first ls h.body n h.begun is) ∙ ap (λ ks. ks ++ (n, l) ∷ kept (n + 1) more) h.none)
    ∙ ap (λ r. r >>= λ s. wanted value_in (s.rows * s.cols) (kept (n + 1) more) >>= λ vs. Ok (record { rows = s.rows; cols = s.cols; cells = vs })) size

pub array_end : (ls : List (List ℕ)) → HasArray ls → array_lines ls ≡ Err (SizeLine (length ls + 1))
array_end ls h =
    ap array_lines h.begun ∙ array_reads h.first h.body h.header ∙ ap (array_sized (length h.body + 1)) h.none
    ∙ ap (λ n. Err (SizeLine (n + 1))) (omega (arith, ap length h.begun))

-- what reading makes of value lines
abbrev cells_of : Valued → Result (List ℤ) MmFault → Result Grid MmFault
cells_of v r = r >>= λ vs. Ok (record { rows = v.rows; cols = v.cols; cells = vs })

sides_read : (v : Valued) (last : ℕ) (p : ℕ × List ℕ) (es : List (ℕ × List ℕ)) → sides_of p ≡ Ok (record { rows = v.rows; cols = v.cols })
    → array_sized last (p ∷ es) ≡ cells_of v (wanted value_in (v.rows * v.cols) es)
sides_read v last p es h = ap (λ r. r >>= λ s. wanted value_in (s.rows * s.cols) es >>= λ vs. Ok (record { rows = s.rows; cols = s.cols; cells = vs })) h

values_read : (v : Valued) (ls : List (List ℕ)) (l : List ℕ) (n : ℕ) (h : HasValues v ls) (more : List (List ℕ)) → is_skipped l ≡ false → n ≡ length ls + 1
    → array_lines ((ls ++ l ∷ []) ++ more) ≡ cells_of v (wanted value_in (v.rows * v.cols) (h.value_lines ++ (n, l) ∷ kept (n + 1) more))
values_read v ls l n h more line is =
    ap array_lines (on_body h.first l ls h.body more h.begun) ∙ array_reads h.first (h.body ++ l ∷ more) h.header
    ∙ ap (array_sized (length (h.body ++ l ∷ more) + 1)) (kept_then 2 n h.body l more line (place h.first ls h.body n h.begun is) ∙ ap (λ ks. ks ++ (n, l) ∷ kept (n + 1) more) h.kept_lines)
    ∙ sides_read v (length (h.body ++ l ∷ more) + 1) h.size_line (h.value_lines ++ (n, l) ∷ kept (n + 1) more) h.sized

each_length : (es : List (ℕ × List ℕ)) (vs : List ℤ) → each value_in es ≡ Ok vs → length vs ≡ length es
each_length [] vs h = let none : [] ≡ vs = cc in sym (ap length none)
each_length (e ∷ es) vs h = of (value_in e) (each value_in es) (λ zs k. each_length es zs k) h
  where
    of : (r : Result ℤ MmFault) (q : Result (List ℤ) MmFault) → ((zs : List ℤ) → q ≡ Ok zs → length zs ≡ length es) → (r >>= λ y. q >>= λ ys. Ok (y ∷ ys)) ≡ Ok vs → length vs ≡ suc (length es)
    of (Err m) q f k = absurd (cc)
    of (Ok y) (Err m) f k = absurd (cc)
    of (Ok y) (Ok zs) f k = let same : y ∷ zs ≡ vs = cc in sym (ap length same) ∙ ap suc (f zs refl)

pub values_skip : (v : Valued) (ls : List (List ℕ)) (l : List ℕ) → HasValues v ls → is_skipped l ≡ true → HasValues v (ls ++ l ∷ [])
values_skip v ls l h skip = record {
  first = h.first;
  body = h.body ++ l ∷ [];
  begun = longer h.first l ls h.body h.begun;
  header = h.header;
  size_line = h.size_line;
  value_lines = h.value_lines;
  kept_lines = kept_same 2 h.body l skip ∙ h.kept_lines;
  sized = h.sized;
  read = h.read;
  within = h.within;
}

pub values_more : (v : Valued) (ls : List (List ℕ)) (l : List ℕ) (n : ℕ) (x : ℤ) (vs : List ℤ) → HasValues v ls → is_skipped l ≡ false → n ≡ length ls + 1 → length v.values < v.rows * v.cols
    → value_in (n, l) ≡ Ok x → vs ≡ v.values ++ x ∷ [] → HasValues (record { rows = v.rows; cols = v.cols; values = vs }) (ls ++ l ∷ [])
values_more v ls l n x vs h line is room value pushed = record {
  first = h.first;
  body = h.body ++ l ∷ [];
  begun = longer h.first l ls h.body h.begun;
  header = h.header;
  size_line = h.size_line;
  value_lines = h.value_lines ++ (n, l) ∷ [];
  kept_lines = kept_more 2 n h.body l line (place h.first ls h.body n h.begun is) ∙ ap (λ ks. ks ++ (n, l) ∷ []) h.kept_lines;
  sized = h.sized;
  read = each_more value_in h.value_lines v.values (n, l) x h.read value ∙ ap Ok (sym pushed);
  within = omega (arith, each_length h.value_lines v.values h.read, length-append h.value_lines ((n, l) ∷ []));
}

pub values_fail : (v : Valued) (ls : List (List ℕ)) (l : List ℕ) (n : ℕ) (m : MmFault) → HasValues v ls → is_skipped l ≡ false → n ≡ length ls + 1 → length v.values < v.rows * v.cols → value_in (n, l) ≡ Err m → Fails true m (ls ++ l ∷ [])
values_fail v ls l n m h line is room value more =
    values_read v ls l n h more line is
    ∙ ap (cells_of v) (wanted_fault value_in (v.rows * v.cols) h.value_lines v.values h.read (n, l) (kept (n + 1) more) m (omega (arith, each_length h.value_lines v.values h.read)) value)

pub values_extra : (v : Valued) (ls : List (List ℕ)) (l : List ℕ) (n : ℕ) → HasValues v ls → is_skipped l ≡ false → n ≡ length ls + 1 → v.rows * v.cols ≤ length v.values → Fails true (Extra n) (ls ++ l ∷ [])
values_extra v ls l n h line is full more =
    values_read v ls l n h more line is
    ∙ ap (cells_of v) (wanted_extra value_in (v.rows * v.cols) h.value_lines v.values h.read (n, l) (kept (n + 1) more) (omega (arith, h.within, each_length h.value_lines v.values h.read)))

values_all : (v : Valued) (ls : List (List ℕ)) (h : HasValues v ls) → array_lines ls ≡ cells_of v (wanted value_in (v.rows * v.cols) h.value_lines)
values_all v ls h =
    ap array_lines h.begun ∙ array_reads h.first h.body h.header ∙ ap (array_sized (length h.body + 1)) h.kept_lines ∙ sides_read v (length h.body + 1) h.size_line h.value_lines h.sized

pub values_missing : (v : Valued) (ls : List (List ℕ)) → HasValues v ls → length v.values < v.rows * v.cols → array_lines ls ≡ Err (Missing (length v.values) (v.rows * v.cols))
values_missing v ls h short =
    let len : length v.values ≡ length h.value_lines = each_length h.value_lines v.values h.read in
    values_all v ls h ∙ ap (cells_of v) (wanted_short value_in (v.rows * v.cols) h.value_lines v.values h.read (omega arith))
    ∙ ap (λ n. Err (Missing n (v.rows * v.cols))) (sym len)

pub values_end : (v : Valued) (ls : List (List ℕ)) → HasValues v ls → v.rows * v.cols ≤ length v.values → array_lines ls ≡ Ok (record { rows = v.rows; cols = v.cols; cells = v.values })
values_end v ls h full = values_all v ls h ∙ ap (cells_of v) (wanted_full value_in (v.rows * v.cols) h.value_lines v.values h.read (omega (arith, h.within, each_length h.value_lines v.values h.read)))

-- what holds where a line was read may be said otherwise
pub took_map : {A : Type 0} (P Q : A → Type 0) (array : Bool) (r : Result A MmFault) (ls : List (List ℕ)) → ((x : A) → P x → Q x) → Took P array r ls → Took Q array r ls
took_map P Q array (Ok x) ls f h = f x h
took_map P Q array (Err Memory) ls f h = tt
took_map P Q array (Err m) ls f h = h
