-- What was written reads back.
use Rattle.std.proofs.Common.{◌≡◌, ℕ, suc, ◌*◌, ◌-◌, ◌/◌, ◌^◌, ◌≤◌, ◌<◌, List, [], ◌∷◌, ◌++◌, length, take, drop, get_or, map, true, refl, sym, ap, ap₂, ◌∙◌, arith, append_assoc, length-append, drop-cons}
use Rattle.std.specs.Prelude.{ℤ, pos, ◌&&◌, nat_eq, nat_le, if◌then◌else◌, None, Result, Ok, Err, All, FitsSigned}
use Rattle.std.specs.Int.{w64, cast_unsigned}
use Rattle.std.specs.List.{range_with_len, flat_map}
use Rattle.std.specs.Option.{option_map}
use Rattle.std.proofs.lemmas.Bool.{eq-eqb, le-leb, cond-true}
use Rattle.std.proofs.lemmas.Int.{to_z-of_z}
use Rattle.std.proofs.lemmas.List.{take-append-drop, drop_at, take_at, append-nil, length-take-le, ext_get_or}
use Rattle.std.proofs.lemmas.List.Elements.{All-head, All-tail}
use Rattle.std.proofs.lemmas.List.FromFn.{get_or-map-range_with_len, length-map-range_with_len}
use Rattle.std.proofs.lemmas.Grind.{flat_map-append}
use Rattle.byteorder.specs.Endian.{little_number, little_bytes, twos_complement}
use Rattle.byteorder.specs.Numbers.{little_number-reads_back}
use Rattle.us_matrix.specs.Map.{IsSide}
use Rattle.us_matrix.proofs.Merge.{bits_small}
use Rattle.us_format.specs.Matrix.{Shape}
use Rattle.us_format.specs.Reading.{total_count}
use Rattle.us_tokens.specs.Text as text
use Rattle.us_tokens.specs.Reading.{scan}
use Rattle.us_tokens.specs.Lex.{lexed, Between}
use Rattle.us_decl.specs.Words.{language}
use Rattle.us_parse.specs.Piece.{AtFormat}
use Rattle.us_parse.specs.Machine.{reader}
use Rattle.us_parse.specs.Parses.{tokens_of}
use Rattle.us_decl.specs.Declares.{Declared, IsValid}
use Rattle.us_print.specs.Canon.{decl_text, open_text}
use Rattle.us_print.specs.ReadBack.{IsReadBack}
use Rattle.us_print.proofs.RoundTrip.{read_back}
use Rattle.us_judge.specs.Views.{declaration_of}
use Rattle.us_check.specs.Checks.{checked}
use Rattle.us_container.specs.declared.fault.ContainerFault.{ContainerFault}
use Rattle.us_container.specs.declared.fault.ContainerFault.TheVariants as fault
use Rattle.us_container.specs.Bytes.{magic, number_bytes, cell_bytes, buffer_bytes, text_bytes, container_bytes}
use Rattle.us_container.specs.Text.{first_difference, if_canonical, if_alone, by_answer, declaration_in}
use Rattle.us_container.specs.Contained.{◌>>=◌, field, number, cells_of, cells, buffer, buffers, begins, with_magic, version, declaration_at, declaration, accepted, side, right_count, well_formed, buffers_in, contained_in}
use Rattle.us_container.specs.Laws.{IsWritable}
use Rattle.us_container.proofs.Chain.{when_checked, behind_buffers, when_counted, behind_count, behind_rows, when_accepted, when_declared, behind_version, behind_magic}
use Rattle.us_container.proofs.CellsRead.{cell, shown, cells_read}
use Rattle.us_container.proofs.Lengths.{length_number, length_cells}

-- ---- fields

field_read : (len n : ℕ) (f r : List ℕ) → length f ≡ n → field len n (f ++ r) ≡ Ok (f, r)
field_read len n f r h =
    let room : nat_le n (length (f ++ r)) ≡ true = le-leb n (length (f ++ r)) (omega (arith, length-append f r)) in
    cond-true _ _ _ room ∙ ap₂ (λ (a b : List ℕ). Ok (a, b)) (take_at f r n h) (drop_at f r n h)

value_back : (n : ℕ) → n < 2 ^ 64 → little_number 8 (number_bytes n) ≡ n
unfolding number_bytes
value_back n h = ap (little_number 8) (sym (append-nil (little_bytes 8 n))) ∙ little_number-reads_back 8 n [] h

number_read : (len n : ℕ) (r : List ℕ) → n < 2 ^ 64 → number len (number_bytes n ++ r) ≡ Ok (n, r)
number_read len n r h =
    ap (λ x. x >>= λ f. Ok (little_number 8 f.0, f.1)) (field_read len 8 (number_bytes n) r (length_number n)) ∙ ap (λ (m : ℕ). Ok (m, r)) (value_back n h)

side_read : (len n : ℕ) (r : List ℕ) → IsSide n → side len (number_bytes n ++ r) ≡ Ok (n, r)
side_read len n r h =
    let low : nat_le 1 n ≡ true = le-leb 1 n h.low in
    let high : nat_le n 2147483647 ≡ true = le-leb n 2147483647 (omega (arith, h.high)) in
    ap (λ x. x >>= λ n. if nat_le 1 n.0 && nat_le n.0 2147483647 then Ok n else Err fault.Shape) (number_read len n r (omega (arith, h.high)))
    ∙ cond-true (nat_le 1 n && nat_le n 2147483647) _ _ (ap₂ ◌&&◌ low high)

magic_read : (r : List ℕ) → with_magic (magic ++ r) ≡ Ok r
magic_read r =
    let room : nat_le 7 (length (magic ++ r)) ≡ true = le-leb 7 (length (magic ++ r)) (omega arith) in
    cond-true (nat_le 7 (length (magic ++ r)) && begins magic (magic ++ r)) _ _ (ap (λ t. t && true) room)

version_read : (len : ℕ) (r : List ℕ) → version len (1 ∷ r) ≡ Ok r
version_read len r = ap (λ x. x >>= λ f. if nat_eq (get_or f.0 0 0) 1 then Ok f.1 else Err (fault.Version (get_or f.0 0 0))) (field_read len 1 (1 ∷ []) r refl)

-- ---- the text

no_difference : (xs : List ℕ) → first_difference xs xs ≡ None
no_difference [] = refl
no_difference (x ∷ xs) = cond-true _ _ _ (eq-eqb x x refl) ∙ ap (option_map suc) (no_difference xs)

pub line_end : tokens_of (10 ∷ []) ≡ text.End
unfolding lexed
line_end = refl

text_read : (d : Declared) → IsValid d → declaration_in (decl_text d) ≡ Ok d
text_read d v =
    let r : IsReadBack d [] = read_back d v [] in
    let bytes : List ℕ = decl_text d in
    let parts : bytes ≡ (open_text d ++ (125 ∷ [])) ++ (10 ∷ []) = sym (append_assoc (open_text d) (125 ∷ []) (10 ∷ [])) in
    let front : length (open_text d ++ (125 ∷ [])) ≡ length bytes - 1 = omega (arith, ap length parts, length-append (open_text d ++ (125 ∷ [])) (10 ∷ [])) in
    let behind : drop (length bytes - 1) bytes ≡ 10 ∷ [] = ap (drop (length bytes - 1)) parts ∙ drop_at (open_text d ++ (125 ∷ [])) (10 ∷ []) (length bytes - 1) front in
    let alone : tokens_of (drop (length bytes - 1) bytes) ≡ text.End = ap tokens_of behind ∙ line_end in
    ap (λ (t : List ℕ). by_answer bytes (scan (reader []) (lexed language t Between) AtFormat)) (sym (append-nil bytes))
    ∙ ap (by_answer bytes) r.read
    ∙ ap₂ (if_alone bytes) r.is alone
    ∙ ap (if_canonical bytes d) (no_difference bytes)

declaration_read : (len : ℕ) (d : Declared) (r : List ℕ) → IsValid d → length (decl_text d) < 2 ^ 64 → declaration len (text_bytes (decl_text d) ++ r) ≡ Ok (d, r)
declaration_read len d r v h =
    let t : List ℕ = decl_text d in
    let go : List ℕ × List ℕ → ℕ → Result (Declared × List ℕ) ContainerFault = λ f at. declaration_at at (declaration_in f.0) >>= λ e. Ok (e, f.1) in
    ap (declaration len) (append_assoc (number_bytes (length t)) t r)
    ∙ ap (λ x. x >>= λ n. field len n.0 n.1 >>= λ f. go f (len - length n.1)) (number_read len (length t) (t ++ r) h)
    ∙ ap (λ x. x >>= λ f. go f (len - length (t ++ r))) (field_read len (length t) t r refl)
    ∙ ap (λ x. declaration_at (len - length (t ++ r)) x >>= λ e. Ok (e, r)) (text_read d v)

-- ---- cells

cell_back : (z : ℤ) (r : List ℕ) → FitsSigned w64 z → cell (cell_bytes z ++ r) ≡ z
unfolding cell_bytes
cell_back z r h =
    let bits : ℕ = cast_unsigned w64 z in
    let low : bits < 2 ^ 64 = bits_small z h in
    ap (twos_complement 8) (little_number-reads_back 8 bits r low) ∙ sym (shown bits low) ∙ to_z-of_z w64 z h

cells_from : (cs : List ℤ) (k : ℕ) → k ≤ length cs → drop (8 * k) (flat_map cell_bytes cs) ≡ flat_map cell_bytes (drop k cs)
cells_from cs k h =
    let parts : flat_map cell_bytes cs ≡ flat_map cell_bytes (take k cs) ++ flat_map cell_bytes (drop k cs) =
    ap (flat_map cell_bytes) (sym (take-append-drop k cs)) ∙ flat_map-append cell_bytes (take k cs) (drop k cs) in
    let long : length (flat_map cell_bytes (take k cs)) ≡ 8 * k = length_cells (take k cs) ∙ ap (λ n. 8 * n) (length-take-le k cs h) in
    ap (drop (8 * k)) parts ∙ drop_at (flat_map cell_bytes (take k cs)) (flat_map cell_bytes (drop k cs)) (8 * k) long

cells_back : (cs : List ℤ) → All (FitsSigned w64) cs → cs ≡ cells_of (length cs) (flat_map cell_bytes cs)
unfolding cells_of
cells_back cs h =
    let bytes : List ℕ = flat_map cell_bytes cs in
    let f : ℕ → ℤ = λ k. cell (drop (8 * k) bytes) in
    ext_get_or (pos 0) cs (map f (range_with_len 0 (length cs))) (sym (length-map-range_with_len f 0 (length cs)))
    (λ k lt.
    let z : ℤ = get_or cs k (pos 0) in
    let here : drop (8 * k) bytes ≡ cell_bytes z ++ flat_map cell_bytes (drop (suc k) cs) = cells_from cs k (omega arith) ∙ ap (flat_map cell_bytes) (drop-cons cs k (pos 0) lt) in
    sym (cell_back z (flat_map cell_bytes (drop (suc k) cs)) (h k (pos 0) lt)) ∙ ap cell (sym here) ∙ sym (get_or-map-range_with_len f 0 (length cs) k k (pos 0) lt (omega arith)))

buffer_read : (len : ℕ) (cs : List ℤ) (r : List ℕ) → length cs < 2 ^ 61 → All (FitsSigned w64) cs → buffer len (buffer_bytes cs ++ r) ≡ Ok (cs, r)
buffer_read len cs r short h =
    let bytes : List ℕ = flat_map cell_bytes cs in
    let long : length bytes ≡ 8 * length cs = length_cells cs in
    let room : length cs ≤ length (bytes ++ r) / 8 = omega (arith, length-append bytes r) in
    ap (buffer len) (append_assoc (number_bytes (length cs)) bytes r)
    ∙ ap (λ x. x >>= λ n. cells len n.0 n.1) (number_read len (length cs) (bytes ++ r) (omega arith))
    ∙ cells_read len (length cs) (bytes ++ r) cs r room (cells_back cs h ∙ ap (cells_of (length cs)) (sym (take_at bytes r (8 * length cs) long))) (sym (drop_at bytes r (8 * length cs) long))

buffers_read : (len : ℕ) (found bufs : List (List ℤ)) (r : List ℕ) → All (λ cells. length cells < 2 ^ 61) bufs → All (All (FitsSigned w64)) bufs
    → buffers len (length bufs) found (flat_map buffer_bytes bufs ++ r) ≡ Ok (found ++ bufs, r)
buffers_read len found [] r short h = ap (λ (x : List (List ℤ)). Ok (x, r)) (sym (append-nil found))
buffers_read len found (cs ∷ bufs) r short h =
    let bytes : List ℕ = flat_map buffer_bytes bufs in
    let shorter : All (λ (cells : List ℤ). length cells < 2 ^ 61) bufs = All-tail (λ (cells : List ℤ). length cells < 2 ^ 61) cs bufs short in
    let fit : All (All (FitsSigned w64)) bufs = All-tail (All (FitsSigned w64)) cs bufs h in
    ap (buffers len (suc (length bufs)) found) (append_assoc (buffer_bytes cs) bytes r)
    ∙ ap (λ x. x >>= λ b. buffers len (length bufs) (found ++ b.0 ∷ []) b.1)
    (buffer_read len cs (bytes ++ r) (All-head (λ (cells : List ℤ). length cells < 2 ^ 61) cs bufs short) (All-head (All (FitsSigned w64)) cs bufs h))
    ∙ buffers_read len (found ++ cs ∷ []) bufs r shorter fit
    ∙ ap (λ (x : List (List ℤ)). Ok (x, r)) (append_assoc found (cs ∷ []) bufs)

-- ---- the whole

right_read : (n wanted : ℕ) → n ≡ wanted → right_count n wanted ≡ Ok tt
right_read n wanted h = cond-true _ _ _ (eq-eqb n wanted h)

buffers_in_read : (len : ℕ) (d : Declared) (s : Shape) (bufs : List (List ℤ)) → length bufs ≡ total_count (declaration_of d) → length bufs < 2 ^ 64
    → All (λ cells. length cells < 2 ^ 61) bufs → All (All (FitsSigned w64)) bufs
    → buffers_in len d s (number_bytes (length bufs) ++ flat_map buffer_bytes bufs) ≡ when_checked len d s bufs
buffers_in_read len d s bufs count few short h =
    let bytes : List ℕ = flat_map buffer_bytes bufs in
    let n : ℕ = length bufs in
    ap (λ x. x >>= behind_count len d s) (number_read len n bytes few)
    ∙ ap (λ x. x >>= λ _. when_counted len d s (n, bytes)) (right_read n (total_count (declaration_of d)) count)
    ∙ ap (λ (x : List ℕ). when_counted len d s (n, x)) (sym (append-nil bytes))
    ∙ ap (λ x. x >>= behind_buffers len d s) (buffers_read len [] bufs [] short h)

pub reads_back : (d : Declared) (s : Shape) (bufs : List (List ℤ)) → IsWritable d s bufs → length (decl_text d) < 2 ^ 64 → length bufs < 2 ^ 64
    → contained_in (container_bytes d s.rows s.cols bufs) ≡ (well_formed (checked s (declaration_of d) bufs) >>= λ m. Ok (record { declared = d; shape = s; buffers = bufs; entries = m }))
reads_back d s bufs w short few =
    let tail : List ℕ = number_bytes (length bufs) ++ flat_map buffer_bytes bufs in
    let behind : List ℕ = number_bytes s.cols ++ tail in
    let sides : List ℕ = number_bytes s.rows ++ behind in
    let rest : List ℕ = text_bytes (decl_text d) ++ sides in
    let bytes : List ℕ = container_bytes d s.rows s.cols bufs in
    let len : ℕ = length bytes in
    ap (λ x. x >>= behind_magic bytes) (magic_read (1 ∷ rest))
    ∙ ap (λ x. x >>= behind_version bytes) (version_read len rest)
    ∙ ap (λ x. x >>= when_declared bytes) (declaration_read len d sides w.valid short)
    ∙ ap (λ x. accepted x >>= λ _. when_accepted bytes d sides) w.accepted
    ∙ ap (λ x. x >>= behind_rows bytes d) (side_read len s.rows behind w.rows)
    ∙ ap (λ x. x >>= λ cols. buffers_in len d (record { rows = s.rows; cols = cols.0 }) cols.1) (side_read len s.cols tail w.cols)
    ∙ buffers_in_read len d s bufs w.count few w.lengths w.cells
