-- What was read is spelled by the bytes that were read.
use Rattle.std.proofs.Common.{◌≡◌, ℕ, zero, suc, ◌+◌, ◌*◌, ◌-◌, ◌^◌, ◌≤◌, ◌<◌, List, [], ◌∷◌, ◌++◌, length, take, drop, slice_index, map, Bool, true, false, refl, sym, ap, ap₂, subst, ◌∙◌, arith, inl, inr, append_assoc}
use Rattle.std.specs.Prelude.{ℤ, ◌&&◌, nat_eq, nat_le, if◌then◌else◌, Option, Some, None, Result, Ok, Err}
use Rattle.std.specs.Int.{w64, cast_unsigned}
use Rattle.std.specs.List.{range_with_len, flat_map}
use Rattle.std.specs.Option.{option_map}
use Rattle.std.proofs.Math.Seq.{take-add}
use Rattle.std.proofs.lemmas.Bool.{eqb-true, leb-true, cases_lt}
use Rattle.std.proofs.lemmas.Int.{of_z-to_z}
use Rattle.std.proofs.lemmas.Nat.{le_bytes_8}
use Rattle.std.proofs.lemmas.List.{get_or-take, get_or_past, take-append-drop, get_or-drop, length-drop, length-take, length-take-le, append-nil}
use Rattle.std.proofs.lemmas.List.FromFn.{map-range_with_len_more, length-map-range_with_len}
use Rattle.std.proofs.lemmas.Grind.{flat_map-append}
use Rattle.byteorder.specs.Endian.{little_bytes, little_number}
use Rattle.byteorder.specs.Numbers.{little_from-take}
use Rattle.us_tokens.specs.Text as text
use Rattle.us_tokens.specs.Text.{Text}
use Rattle.us_tokens.specs.Reading.{Answer, Read, Whole, NoToken, Form, Broken, scan}
use Rattle.us_decl.specs.declared.lexeme.Lexeme.{Lexeme}
use Rattle.us_decl.specs.Grammar.{Decl}
use Rattle.us_parse.specs.Within.{Break}
use Rattle.us_parse.specs.Piece.{AtFormat}
use Rattle.us_parse.specs.Machine.{reader}
use Rattle.us_parse.specs.Parses.{tokens_of}
use Rattle.us_decl.specs.Declares.{Declared, declared}
use Rattle.us_print.specs.Canon.{decl_text}
use Rattle.us_container.specs.declared.fault.ContainerFault.{ContainerFault}
use Rattle.us_container.specs.declared.fault.ContainerFault.TheVariants.{Version}
use Rattle.us_container.specs.declared.fault.ContainerFault.TheVariants as fault
use Rattle.us_container.specs.Bytes.{magic, text_bytes, number_bytes, cell_bytes, buffer_bytes}
use Rattle.us_container.specs.Text.{first_difference, if_canonical, if_alone, by_answer, declaration_in}
use Rattle.us_container.specs.Contained.{◌>>=◌, field, number, cells_of, cells, buffer, buffers, begins, with_magic, version, declaration_at, declaration, side, at_end}
use Rattle.us_container.proofs.CellsRead.{cell, shown, fits}

-- all are bytes
abbrev pub AreBytes : List ℕ → Type 0
AreBytes xs = (i : ℕ) → slice_index xs i < 256

pub bytes_behind : (n : ℕ) (xs : List ℕ) → AreBytes xs → AreBytes (drop n xs)
bytes_behind n xs h i = rw (get_or-drop n xs i 0) (h (n + i))

-- a step that was done, and what followed
pub undo : {A B : Type 0} (x : Result A ContainerFault) (go : A → Result B ContainerFault) (b : B) → (x >>= go) ≡ Ok b → (a : A) × (x ≡ Ok a) × (go a ≡ Ok b)
undo (Ok a) go b h = (a, refl, h)
undo (Err f) go b h = absurd cc

-- what a test let through
pub passed : {A : Type 0} (t : Bool) (x : A) (f : ContainerFault) (a : A) → (if t then Ok x else Err f) ≡ Ok a → (t ≡ true) × (x ≡ a)
passed true x f a h = (refl, cc)
passed false x f a h = absurd cc

both : (s t : Bool) → (s && t) ≡ true → (s ≡ true) × (t ≡ true)
both true t h = (refl, h)
both false t h = absurd cc

-- ---- numbers

bytes_before : (n : ℕ) (xs : List ℕ) → AreBytes xs → AreBytes (take n xs)
bytes_before n xs h i = elim (cases_lt i n) [
  | inl low ↦ rw (get_or-take n xs i 0 low) (h i)
  | inr high ↦ let past : length (take n xs) ≤ i = omega (arith, length-take n xs) in rw (get_or_past (take n xs) i 0 past) (omega arith)
]

eight : (ys : List ℕ) → length ys ≡ 8 → AreBytes ys → little_bytes 8 (little_number 8 ys) ≡ ys
eight ys h b = le_bytes_8 ys (little_number 8 ys) h b (omega arith)

pub field_spelled : (len n : ℕ) (rest f ys : List ℕ) → field len n rest ≡ Ok (f, ys) → (rest ≡ f ++ ys) × (length f ≡ n) × (f ≡ take n rest) × (ys ≡ drop n rest)
field_spelled len n rest f ys h =
    let p = passed (nat_le n (length rest)) (take n rest, drop n rest) _ (f, ys) h in
    let room : n ≤ length rest = leb-true n (length rest) p.0 in
    let front : take n rest ≡ f = ap (λ (x : List ℕ × List ℕ). x.0) p.1 in
    let back : drop n rest ≡ ys = ap (λ (x : List ℕ × List ℕ). x.1) p.1 in
    (sym (take-append-drop n rest) ∙ ap₂ (λ (a b : List ℕ). a ++ b) front back, ap length (sym front) ∙ length-take-le n rest room, sym front, sym back)

pub number_spelled : (len : ℕ) (rest : List ℕ) (n : ℕ) (ys : List ℕ) → AreBytes rest → number len rest ≡ Ok (n, ys) → (rest ≡ number_bytes n ++ ys) × AreBytes ys
unfolding number_bytes
number_spelled len rest n ys b h =
    let u = undo (field len 8 rest) (λ f. Ok (little_number 8 f.0, f.1)) (n, ys) h in
    let f : List ℕ = u.0.0 in
    let zs : List ℕ = u.0.1 in
    let p = field_spelled len 8 rest f zs u.1 in
    let pair : (little_number 8 f, zs) ≡ (n, ys) = cc (u.2) in
    let value : little_number 8 f ≡ n = ap (λ (x : ℕ × List ℕ). x.0) pair in
    let behind : zs ≡ ys = ap (λ (x : ℕ × List ℕ). x.1) pair in
    let are : AreBytes f = subst AreBytes (sym p.2) (bytes_before 8 rest b) in
    let spelled : f ≡ little_bytes 8 n = sym (eight f p.1 are) ∙ ap (little_bytes 8) value in
    (p.0 ∙ ap₂ (λ (a b : List ℕ). a ++ b) spelled behind, subst AreBytes (sym p.3 ∙ behind) (bytes_behind 8 rest b))

-- ---- cells

cell_spelled : (ys : List ℕ) → 8 ≤ length ys → AreBytes ys → cell_bytes (cell ys) ≡ take 8 ys
unfolding cell_bytes
cell_spelled ys h b =
    let low : little_number 8 ys < 2 ^ 64 = fits ys 0 b in
    let bits : cast_unsigned w64 (cell ys) ≡ little_number 8 ys = ap (cast_unsigned w64) (sym (shown (little_number 8 ys) low)) ∙ of_z-to_z w64 (little_number 8 ys) low in
    let front : little_number 8 ys ≡ little_number 8 (take 8 ys) = sym (little_from-take 0 8 8 ys (omega arith)) in
    ap (little_bytes 8) (bits ∙ front) ∙ eight (take 8 ys) (length-take-le 8 ys h) (bytes_before 8 ys b)

pub cells_spelled : (n : ℕ) (rest : List ℕ) → 8 * n ≤ length rest → AreBytes rest → flat_map cell_bytes (cells_of n rest) ≡ take (8 * n) rest
unfolding cells_of
cells_spelled zero rest h b = refl
cells_spelled (suc n) rest h b =
    let f : ℕ → ℤ = λ k. cell (drop (8 * k) rest) in
    let one : suc n ≡ n + 1 = omega arith in
    let more : 8 * suc n ≡ 8 * n + 8 = omega arith in
    let grown : map f (range_with_len 0 (suc n)) ≡ map f (range_with_len 0 n) ++ f n ∷ [] = ap (λ m. map f (range_with_len 0 m)) one ∙ map-range_with_len_more f 0 n n (omega arith) in
    let room : 8 ≤ length (drop (8 * n) rest) = omega (arith, length-drop (8 * n) rest) in
    let last : cell_bytes (f n) ++ [] ≡ take 8 (drop (8 * n) rest) = append-nil (cell_bytes (f n)) ∙ cell_spelled (drop (8 * n) rest) room (bytes_behind (8 * n) rest b) in
    ap (flat_map cell_bytes) grown ∙ flat_map-append cell_bytes (map f (range_with_len 0 n)) (f n ∷ []) ∙ ap₂ (λ (a b : List ℕ). a ++ b) (cells_spelled n rest (omega arith) b) last
    ∙ sym (take-add (8 * n) 8 rest) ∙ ap (λ m. take m rest) (sym more)

length-cells : (n : ℕ) (rest : List ℕ) → length (cells_of n rest) ≡ n
unfolding cells_of
length-cells n rest = length-map-range_with_len (λ k. cell (drop (8 * k) rest)) 0 n

pub buffer_spelled : (len : ℕ) (rest : List ℕ) (cs : List ℤ) (ys : List ℕ) → AreBytes rest → buffer len rest ≡ Ok (cs, ys) → (rest ≡ buffer_bytes cs ++ ys) × AreBytes ys
buffer_spelled len rest cs ys b h =
    let u = undo (number len rest) (λ n. cells len n.0 n.1) (cs, ys) h in
    let n : ℕ = u.0.0 in
    let left : List ℕ = u.0.1 in
    let p = number_spelled len rest n left b u.1 in
    let q = passed (nat_le (8 * n) (length left)) (cells_of n left, drop (8 * n) left) _ (cs, ys) u.2 in
    let room : 8 * n ≤ length left = leb-true (8 * n) (length left) q.0 in
    let all : cells_of n left ≡ cs = ap (λ (x : List ℤ × List ℕ). x.0) q.1 in
    let back : drop (8 * n) left ≡ ys = ap (λ (x : List ℤ × List ℕ). x.1) q.1 in
    let count : n ≡ length cs = sym (ap length (sym all) ∙ length-cells n left) in
    let spelled : left ≡ flat_map cell_bytes cs ++ ys =
    sym (take-append-drop (8 * n) left) ∙ ap₂ (λ (a b : List ℕ). a ++ b) (sym (cells_spelled n left room p.1) ∙ ap (flat_map cell_bytes) all) back in
    (p.0 ∙ ap₂ (λ (a b : List ℕ). a ++ b) (ap number_bytes count) spelled ∙ sym (append_assoc (number_bytes (length cs)) (flat_map cell_bytes cs) ys), subst AreBytes back (bytes_behind (8 * n) left p.1))

pub record BuffersSpelled (n : ℕ) (found : List (List ℤ)) (rest : List ℕ) (bufs : List (List ℤ)) (ys : List ℕ) : Type 0 where
  pub new : List (List ℤ)
  pub all : bufs ≡ found ++ new
  pub count : length new ≡ n
  pub spelled : rest ≡ flat_map buffer_bytes new ++ ys
  pub bytes : AreBytes ys

pub buffers_spelled : (len n : ℕ) (found : List (List ℤ)) (rest : List ℕ) (bufs : List (List ℤ)) (ys : List ℕ) → AreBytes rest → buffers len n found rest ≡ Ok (bufs, ys)
    → BuffersSpelled n found rest bufs ys
buffers_spelled len zero found rest bufs ys b h =
    let pair : (found, rest) ≡ (bufs, ys) = cc in
    let all : found ≡ bufs = ap (λ (x : List (List ℤ) × List ℕ). x.0) pair in
    let left : rest ≡ ys = ap (λ (x : List (List ℤ) × List ℕ). x.1) pair in
    record { new = []; all = sym all ∙ sym (append-nil found); count = refl; spelled = left; bytes = subst AreBytes left b }
buffers_spelled len (suc n) found rest bufs ys b h =
    let u = undo (buffer len rest) (λ b. buffers len n (found ++ b.0 ∷ []) b.1) (bufs, ys) h in
    let cs : List ℤ = u.0.0 in
    let left : List ℕ = u.0.1 in
    let p = buffer_spelled len rest cs left b u.1 in
    let r = buffers_spelled len n (found ++ cs ∷ []) left bufs ys p.1 u.2 in
    record {
      new = cs ∷ r.new;
      all = r.all ∙ append_assoc found (cs ∷ []) r.new;
      count = omega (arith, r.count);
      spelled = p.0 ∙ ap (λ (x : List ℕ). buffer_bytes cs ++ x) r.spelled ∙ sym (append_assoc (buffer_bytes cs) (flat_map buffer_bytes r.new) ys);
      bytes = r.bytes;
    }

-- ---- the text

no_difference : (t : Bool) (o : Option ℕ) → (if t then option_map suc o else Some 0) ≡ None → (t ≡ true) × (o ≡ None)
no_difference true None h = (refl, refl)
no_difference true (Some n) h = absurd cc
no_difference false o h = absurd cc

pub same_text : (xs ys : List ℕ) → first_difference xs ys ≡ None → xs ≡ ys
same_text [] [] h = refl
same_text [] (y ∷ ys) h = absurd cc
same_text (x ∷ xs) [] h = absurd cc
same_text (x ∷ xs) (y ∷ ys) h =
    let p = no_difference (nat_eq x y) (first_difference xs ys) h in
    ap₂ (λ (a : ℕ) (b : List ℕ). a ∷ b) (eqb-true x y p.0) (same_text xs ys p.1)

canonical_spelled : (bytes : List ℕ) (e d : Declared) (o : Option ℕ) → first_difference bytes (decl_text e) ≡ o → if_canonical bytes e o ≡ Ok d → bytes ≡ decl_text d
canonical_spelled bytes e d None q h = let same : e ≡ d = cc in same_text bytes (decl_text e) q ∙ ap decl_text same
canonical_spelled bytes e d (Some place) q h = absurd cc

alone_spelled : (bytes : List ℕ) (e d : Declared) (behind : Text Lexeme) → if_alone bytes e behind ≡ Ok d → bytes ≡ decl_text d
alone_spelled bytes e d text.End h = canonical_spelled bytes e d (first_difference bytes (decl_text e)) refl h
alone_spelled bytes e d (text.Bad left) h = absurd cc
alone_spelled bytes e d (text.Then k w behind more) h = absurd cc

answer_spelled : (bytes : List ℕ) (d : Declared) (a : Answer Lexeme Decl Break) → by_answer bytes a ≡ Ok d → bytes ≡ decl_text d
answer_spelled bytes d (Read t behind more) h = alone_spelled bytes (declared t) d (tokens_of (drop (length bytes - behind) bytes)) h
answer_spelled bytes d (Whole t) h = alone_spelled bytes (declared t) d text.End h
answer_spelled bytes d (NoToken left) h = absurd cc
answer_spelled bytes d (Form left) h = absurd cc
answer_spelled bytes d (Broken f left) h = absurd cc

pub text_spelled : (bytes : List ℕ) (d : Declared) → declaration_in bytes ≡ Ok d → bytes ≡ decl_text d
text_spelled bytes d h = answer_spelled bytes d (scan (reader []) (tokens_of bytes) AtFormat) h

placed_spelled : (place : ℕ) (r : Result Declared ℕ) (d : Declared) → declaration_at place r ≡ Ok d → r ≡ Ok d
placed_spelled place (Ok e) d h = ap Ok cc
placed_spelled place (Err at) d h = absurd cc

pub declaration_spelled : (len : ℕ) (rest : List ℕ) (d : Declared) (ys : List ℕ) → AreBytes rest → declaration len rest ≡ Ok (d, ys) → (rest ≡ text_bytes (decl_text d) ++ ys) × AreBytes ys
declaration_spelled len rest d ys b h =
    let go : List ℕ × List ℕ → ℕ → Result (Declared × List ℕ) ContainerFault = λ f at. declaration_at at (declaration_in f.0) >>= λ e. Ok (e, f.1) in
    let u = undo (number len rest) (λ n. field len n.0 n.1 >>= λ f. go f (len - length n.1)) (d, ys) h in
    let n : ℕ = u.0.0 in
    let left : List ℕ = u.0.1 in
    let p = number_spelled len rest n left b u.1 in
    let v = undo (field len n left) (λ f. go f (len - length left)) (d, ys) u.2 in
    let f : List ℕ = v.0.0 in
    let zs : List ℕ = v.0.1 in
    let q = field_spelled len n left f zs v.1 in
    let w = undo (declaration_at (len - length left) (declaration_in f)) (λ e. Ok (e, zs)) (d, ys) v.2 in
    let pair : (w.0, zs) ≡ (d, ys) = cc (w.2) in
    let same : w.0 ≡ d = ap (λ (x : Declared × List ℕ). x.0) pair in
    let behind : zs ≡ ys = ap (λ (x : Declared × List ℕ). x.1) pair in
    let spelled : f ≡ decl_text d = text_spelled f w.0 (placed_spelled (len - length left) (declaration_in f) w.0 w.1) ∙ ap decl_text same in
    let long : n ≡ length (decl_text d) = sym q.1 ∙ ap length spelled in (
      p.0 ∙ ap₂ (λ (a b : List ℕ). a ++ b) (ap number_bytes long) (q.0 ∙ ap₂ (λ (a b : List ℕ). a ++ b) spelled behind) ∙ sym (append_assoc (number_bytes (length (decl_text d))) (decl_text d) ys),
      subst AreBytes (sym q.3 ∙ behind) (bytes_behind n left p.1),
    )

-- ---- the rest

begun : (xs ys : List ℕ) → begins xs ys ≡ true → ys ≡ xs ++ drop (length xs) ys
begun [] ys h = refl
begun (x ∷ xs) [] h = absurd cc
begun (x ∷ xs) (y ∷ ys) h =
    let p = both (nat_eq x y) (begins xs ys) h in
    ap₂ (λ (a : ℕ) (b : List ℕ). a ∷ b) (sym (eqb-true x y p.0)) (begun xs ys p.1)

pub magic_spelled : (bytes body : List ℕ) → AreBytes bytes → with_magic bytes ≡ Ok body → (bytes ≡ magic ++ body) × AreBytes body
magic_spelled bytes body b h =
    let p = passed (nat_le 7 (length bytes) && begins magic bytes) (drop 7 bytes) _ body h in
    let q = both (nat_le 7 (length bytes)) (begins magic bytes) p.0 in
    (begun magic bytes q.1 ∙ ap (λ (x : List ℕ). magic ++ x) p.1, subst AreBytes p.1 (bytes_behind 7 bytes b))

single : (f : List ℕ) → length f ≡ 1 → f ≡ slice_index f 0 ∷ []
single [] h = absurd (omega arith)
single (x ∷ []) h = refl
single (x ∷ y ∷ f) h = absurd (omega arith)

pub version_spelled : (len : ℕ) (rest ys : List ℕ) → AreBytes rest → version len rest ≡ Ok ys → (rest ≡ 1 ∷ ys) × AreBytes ys
version_spelled len rest ys b h =
    let u = undo (field len 1 rest) (λ f. if nat_eq (slice_index f.0 0) 1 then Ok f.1 else Err (Version (slice_index f.0 0))) ys h in
    let f : List ℕ = u.0.0 in
    let zs : List ℕ = u.0.1 in
    let p = field_spelled len 1 rest f zs u.1 in
    let q = passed (nat_eq (slice_index f 0) 1) zs (Version (slice_index f 0)) ys u.2 in
    let one : f ≡ 1 ∷ [] = single f p.1 ∙ ap (λ (x : ℕ). x ∷ []) (eqb-true (slice_index f 0) 1 q.0) in
    (p.0 ∙ ap₂ (λ (a b : List ℕ). a ++ b) one q.1, subst AreBytes (sym p.3 ∙ q.1) (bytes_behind 1 rest b))

pub side_spelled : (len : ℕ) (rest : List ℕ) (n : ℕ) (ys : List ℕ) → AreBytes rest → side len rest ≡ Ok (n, ys) → (rest ≡ number_bytes n ++ ys) × AreBytes ys
side_spelled len rest n ys b h =
    let u = undo (number len rest) (λ x. if nat_le 1 x.0 && nat_le x.0 2147483647 then Ok x else Err fault.Shape) (n, ys) h in
    let q = passed (nat_le 1 u.0.0 && nat_le u.0.0 2147483647) u.0 fault.Shape (n, ys) u.2 in
    number_spelled len rest n ys b (u.1 ∙ ap Ok q.1)

pub end_spelled : (len : ℕ) (rest : List ℕ) → at_end len rest ≡ Ok tt → rest ≡ []
end_spelled len [] h = refl
end_spelled len (x ∷ xs) h = absurd cc
