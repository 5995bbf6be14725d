-- The lists of a part's pieces, and the buffers that they make.
use Rattle.std.specs.List.{filter, list_any, position_or_len, range_with_len}
use Rattle.std.proofs.Common.{◌≡◌, ℕ, suc, ◌+◌, ◌<◌, ◌≤◌, List, [], ◌∷◌, ◌++◌, map, length, Bool, true, false, cond, not, ◌||◌, get_or, ℤ, sym, refl, ap, ap₂, ◌∙◌, subst, arith, All, take, drop, append_assoc}
use Rattle.std.proofs.lemmas.List.{drop_all, get_or_default, length-map, map-append, map_more, take_all}
use Rattle.std.proofs.lemmas.List.Elements.{filter-append}
use Rattle.std.proofs.lemmas.List.Sums.{position_or_len_is}
use Rattle.std.proofs.Math.Seq.{drop-cons}
use Rattle.std.proofs.Math.ListN.{get_or-map}
use denote.Ref.{Bor}
use Rattle.us_format.specs.declared.Kind.{Kind}
use Rattle.us_expr.specs.Tree.{Tree}
use Rattle.us_format.proofs.PartLaw.{map-map}
use Rattle.us_format.specs.Declaration.{Column, Part, same_column}
use Rattle.us_format.specs.Kinds.{kind}
use Rattle.us_format.specs.Packs.{Buffer, Piece, PosOf, CellsOf, buffer_of, in_pack, interleaved, is_packed, level_pieces, nothing, own_pieces, packed, pieces, pieces_from, same_piece, written}
use Rattle.us_decl.specs.declared.column.Column as columns
use Rattle.us_decl.specs.declared.decl.Part as held
use Rattle.us_judge.specs.Kinds.{kinds_of}
use Rattle.us_judge.specs.Views.{column_of, plain_part}
use Rattle.us_layout.specs.Arranging.{PacksHaveOneLength, list_of, pieces_by, plain_piece}
use Rattle.us_layout.specs.declared.pieces.Piece as code
use Rattle.us_layout.specs.declared.pieces.Piece.TheVariants.{Values}
use Rattle.us_layout.specs.Interleaving.{HaveOneLength, interleaved_cells}
use Rattle.us_layout.proofs.Interleaved.{interleaved-written}

-- ---- lists

pub same-everywhere : {A B : Type 0} (f g : A → B) (xs : List A) → ((x : A) → f x ≡ g x) → map f xs ≡ map g xs
same-everywhere f g [] h = refl
same-everywhere {A} {B} f g (x ∷ xs) h = let p : f x ≡ g x = h x in let q : map f xs ≡ map g xs = same-everywhere f g xs h in cc

pub same-on : {A B : Type 0} (f g : A → B) (xs : List A) → All (λ x. f x ≡ g x) xs → map f xs ≡ map g xs
same-on f g [] h = refl
same-on f g (x ∷ xs) h = let p : f x ≡ g x = h 0 x (omega arith) in let q : map f xs ≡ map g xs = same-on f g xs (λ k d l. h (suc k) d (omega (arith, l))) in cc

pub All-of_map : {X Y : Type 0} (P : Y → Type 0) (f : X → Y) (xs : List X) → All P (map f xs) → All (λ x. P (f x)) xs
All-of_map P f xs h k d l = subst P (get_or-map f xs k d) (h k (f d) (omega (arith, l, length-map xs f)))

pub list_any-through : {X Y : Type 0} (p : Y → Bool) (f : X → Y) (xs : List X) → list_any p (map f xs) ≡ list_any (λ x. p (f x)) xs
list_any-through p f [] = refl
list_any-through p f (x ∷ xs) = ap (λ b. p (f x) || b) (list_any-through p f xs)

pub list_any-same : {X : Type 0} (p q : X → Bool) (xs : List X) → ((x : X) → p x ≡ q x) → list_any p xs ≡ list_any q xs
list_any-same p q [] h = refl
list_any-same p q (x ∷ xs) h = ap₂ (λ (a b : Bool). a || b) (h x) (list_any-same p q xs h)

pub list_any-never : {X : Type 0} (xs : List X) → list_any (λ _. false) xs ≡ false
list_any-never [] = refl
list_any-never (x ∷ xs) = list_any-never xs

pub position-through : {X Y : Type 0} (p : Y → Bool) (f : X → Y) (xs : List X) → position_or_len p (map f xs) ≡ position_or_len (λ x. p (f x)) xs
position-through p f [] = refl
position-through p f (x ∷ xs) = ap (λ n. cond (not (p (f x))) (1 + n) 0) (position-through p f xs)

-- ---- pieces

-- a part has the pieces of its kinds
pub pieces-by-kinds : (p : Part) → pieces_by 0 (kinds_of p) ≡ pieces p
pieces-by-kinds p = go 0 p.levels
  where
    go : (k : ℕ) (es : List Tree) → pieces_by k (map (kind p) (range_with_len k (length es))) ≡ pieces_from p k es
    go k [] = refl
    go k (e ∷ es) =
        let s : k + 1 ≡ suc k = omega arith in
        ap (λ n. level_pieces k (kind p k) ++ pieces_by (suc k) (map (kind p) (range_with_len n (length es)))) s
        ∙ ap (λ xs. level_pieces k (kind p k) ++ xs) (go (suc k) es)

-- a piece is packed where a pack names it
pub packed-by-names : (x : Piece) (packs : List (List columns.Column)) (p : Part) → map (map column_of) packs ≡ p.packs
    → list_any (λ pack. list_any (λ column. same_piece x (CellsOf (column_of column))) pack) packs ≡ is_packed p x
packed-by-names (PosOf k) packs p e = list_any-same (λ pack. list_any (λ _. false) pack) (λ _. false) packs list_any-never ∙ list_any-never packs
packed-by-names (CellsOf c) packs p e =
    list_any-same (λ pack. list_any (λ column. same_column c (column_of column)) pack) (λ pack. in_pack c (map column_of pack)) packs (λ pack. sym (list_any-through (same_column c) column_of pack))
    ∙ sym (list_any-through (in_pack c) (map column_of) packs)
    ∙ ap (list_any (in_pack c)) e

-- ---- buffers

pub written-buffer_of : (bs : List Buffer) (xs : List Piece) (x : Piece) → written (buffer_of x xs bs) ≡ list_of xs (map written bs) x
written-buffer_of bs xs x = sym (get_or-map written bs (position_or_len (same_piece x) xs) nothing)

-- the lists of the columns of a pack
abbrev pub pack_lists : List Piece → List (List ℤ) → List Column → List (List ℤ)
pack_lists xs lists pack = map (λ c. list_of xs lists (CellsOf c)) pack

pub written-pack : (bs : List Buffer) (xs : List Piece) (pack : List Column) → HaveOneLength (pack_lists xs (map written bs) pack)
    → written (interleaved (map (λ c. buffer_of (CellsOf c) xs bs) pack)) ≡ interleaved_cells (pack_lists xs (map written bs) pack)
written-pack bs xs pack h =
    let e : map written (map (λ c. buffer_of (CellsOf c) xs bs) pack) ≡ pack_lists xs (map written bs) pack =
    map-map written (λ c. buffer_of (CellsOf c) xs bs) pack ∙ same-everywhere (λ c. written (buffer_of (CellsOf c) xs bs)) (λ c. list_of xs (map written bs) (CellsOf c)) pack (λ c. written-buffer_of bs xs (CellsOf c)) in
    interleaved-written (map (λ c. buffer_of (CellsOf c) xs bs) pack) (subst HaveOneLength (sym e) h) ∙ ap interleaved_cells e

-- the lists of a part's buffers, by the lists of its pieces
abbrev pub arranged_lists : Part → List (List ℤ) → List (List ℤ)
arranged_lists p lists = map (list_of (pieces p) lists) (own_pieces p) ++ map (λ pack. interleaved_cells (pack_lists (pieces p) lists pack)) p.packs

pub packed-lists : (p : Part) (bs : List Buffer) → PacksHaveOneLength p (map written bs) → map written (packed p bs) ≡ arranged_lists p (map written bs)
packed-lists p bs h =
    map-append written (map (λ x. buffer_of x (pieces p) bs) (own_pieces p)) (map (λ pack. interleaved (map (λ c. buffer_of (CellsOf c) (pieces p) bs) pack)) p.packs)
    ∙ ap₂ (λ (a b : List (List ℤ)). a ++ b)
    (map-map written (λ x. buffer_of x (pieces p) bs) (own_pieces p) ∙ same-everywhere (λ x. written (buffer_of x (pieces p) bs)) (list_of (pieces p) (map written bs)) (own_pieces p) (written-buffer_of bs (pieces p)))
    (map-map written (λ pack. interleaved (map (λ c. buffer_of (CellsOf c) (pieces p) bs) pack)) p.packs
    ∙ same-on (λ pack. written (interleaved (map (λ c. buffer_of (CellsOf c) (pieces p) bs) pack))) (λ pack. interleaved_cells (pack_lists (pieces p) (map written bs) pack)) p.packs (λ k d l. written-pack bs (pieces p) (get_or p.packs k d) (h k d l)))

-- ---- in the words of the program

pub packs-fit : (part : held.Part) (packs : List (List columns.Column)) (xs : List Piece) (lists : List (List ℤ)) → packs ≡ part.packs → xs ≡ pieces (plain_part part) → PacksHaveOneLength (plain_part part) lists
    → All (λ pack. HaveOneLength (pack_lists xs lists (map column_of pack))) packs
packs-fit part packs xs lists q e h =
    subst (λ (ps : List (List columns.Column)). All (λ pack. HaveOneLength (pack_lists xs lists (map column_of pack))) ps) (sym q)
    (All-of_map (λ pack. HaveOneLength (pack_lists xs lists pack)) (map column_of) part.packs
    (subst (λ (ys : List Piece). All (λ pack. HaveOneLength (pack_lists ys lists pack)) (map (map column_of) part.packs)) (sym e) h))

pub arranged-is : (part : held.Part) (lists : List (List ℤ)) (bs : List Buffer) → PacksHaveOneLength (plain_part part) lists → map written bs ≡ lists
    → map (list_of (pieces (plain_part part)) lists) (own_pieces (plain_part part)) ++ map (λ pack. interleaved_cells (pack_lists (pieces (plain_part part)) lists (map column_of pack))) part.packs ≡ map written (packed (plain_part part) bs)
arranged-is part lists bs h w =
    ap (λ (l : List (List ℤ)). map (list_of (pieces (plain_part part)) lists) (own_pieces (plain_part part)) ++ l) (sym (map-map (λ pack. interleaved_cells (pack_lists (pieces (plain_part part)) lists pack)) (map column_of) part.packs))
    ∙ ap (arranged_lists (plain_part part)) (sym w)
    ∙ sym (packed-lists (plain_part part) bs (subst (λ (l : List (List ℤ)). PacksHaveOneLength (plain_part part) l) (sym w) h))

pub arranged-ends : (part : held.Part) (lists : List (List ℤ)) (bs : List Buffer) (xs ys : List Piece) (packs : List (List columns.Column)) (start own all : List (List ℤ))
    → PacksHaveOneLength (plain_part part) lists → map written bs ≡ lists → start ≡ [] → xs ≡ pieces (plain_part part) → ys ≡ pieces (plain_part part) → packs ≡ part.packs
    → own ≡ start ++ map (list_of xs lists) (filter (λ x. not (is_packed (plain_part part) x)) xs) → all ≡ own ++ map (λ pack. interleaved_cells (pack_lists ys lists (map column_of pack))) packs
    → all ≡ map written (packed (plain_part part) bs)
arranged-ends part lists bs xs ys packs start own all h w z x y q o a =
    a
    ∙ ap (λ (l : List (List ℤ)). l ++ map (λ pack. interleaved_cells (pack_lists ys lists (map column_of pack))) packs) (o ∙ ap (λ (l : List (List ℤ)). l ++ map (list_of xs lists) (filter (λ x. not (is_packed (plain_part part) x)) xs)) z)
    ∙ ap (λ (l : List Piece). map (list_of l lists) (filter (λ x. not (is_packed (plain_part part) x)) l) ++ map (λ pack. interleaved_cells (pack_lists ys lists (map column_of pack))) packs) x
    ∙ ap (λ (l : List Piece). map (list_of (pieces (plain_part part)) lists) (own_pieces (plain_part part)) ++ map (λ pack. interleaved_cells (pack_lists l lists (map column_of pack))) packs) y
    ∙ ap (λ (l : List (List columns.Column)). map (list_of (pieces (plain_part part)) lists) (own_pieces (plain_part part)) ++ map (λ pack. interleaved_cells (pack_lists (pieces (plain_part part)) lists (map column_of pack))) l) q
    ∙ arranged-is part lists bs h w

-- ---- steps of loops

pub place-found : (held : List code.Piece) (x : code.Piece) (i : ℕ) → i ≤ length held → ((k : ℕ) → k < i → same_piece (plain_piece x) (plain_piece (get_or held k x)) ≡ false)
    → (i < length held → same_piece (plain_piece x) (plain_piece (get_or held i x)) ≡ true) → i ≡ position_or_len (same_piece (plain_piece x)) (map plain_piece held)
place-found held x i l before here =
    sym (position-through (same_piece (plain_piece x)) plain_piece held ∙ position_or_len_is (λ y. same_piece (plain_piece x) (plain_piece y)) held i x l before here)

-- the same of the element, whatever stands behind the end
pub same-at : (held : List code.Piece) (x d : code.Piece) (i : ℕ) (b : Bool) → i < length held → same_piece (plain_piece x) (plain_piece (get_or held i d)) ≡ b → same_piece (plain_piece x) (plain_piece (get_or held i x)) ≡ b
same-at held x d i b l e = ap (λ (y : code.Piece). same_piece (plain_piece x) (plain_piece y)) (get_or_default held i x d l) ∙ e

pub level-more : (kinds : List Kind) (k : ℕ) (d : Kind) (before now all : List Piece) → k < length kinds → before ++ pieces_by k (drop k kinds) ≡ all → now ≡ before ++ level_pieces k (get_or kinds k d)
    → now ++ pieces_by (k + 1) (drop (k + 1) kinds) ≡ all
level-more kinds k d before now all l b e =
    let s : k + 1 ≡ suc k = omega arith in
    ap (λ n. now ++ pieces_by n (drop n kinds)) s
    ∙ ap (λ (xs : List Piece). xs ++ pieces_by (suc k) (drop (suc k) kinds)) e
    ∙ append_assoc before (level_pieces k (get_or kinds k d)) (pieces_by (suc k) (drop (suc k) kinds))
    ∙ ap (λ (xs : List Kind). before ++ pieces_by k xs) (sym (drop-cons kinds k d l))
    ∙ b

pub levels-end : (kinds : List Kind) (k : ℕ) (before now : List code.Piece) (all : List Piece) → length kinds ≤ k → map plain_piece before ++ pieces_by k (drop k kinds) ≡ all → now ≡ before ++ Values ∷ []
    → map plain_piece now ≡ all
levels-end kinds k before now all l b e =
    ap (map plain_piece) e ∙ map-append plain_piece before (Values ∷ []) ∙ ap (λ (xs : List Kind). map plain_piece before ++ pieces_by k xs) (sym (drop_all k kinds l)) ∙ b

-- a walk over a list adds what it makes of each element
pub kept-more : {X Y A : Type 0} (f : Y → A) (p : Y → Bool) (g : X → Y) (xs : List X) (i : ℕ) (d : X) (start before now : List A) → i < length xs
    → before ≡ start ++ map f (filter p (map g (take i xs))) → now ≡ before ++ map f (filter p (g (get_or xs i d) ∷ [])) → now ≡ start ++ map f (filter p (map g (take (i + 1) xs)))
kept-more {X} {Y} {A} f p g xs i d start before now l b e =
    e ∙ ap (λ (ys : List A). ys ++ map f (filter p (g (get_or xs i d) ∷ []))) b
    ∙ append_assoc start (map f (filter p (map g (take i xs)))) (map f (filter p (g (get_or xs i d) ∷ [])))
    ∙ ap (λ (ys : List A). start ++ ys)
    (sym (map-append f (filter p (map g (take i xs))) (filter p (g (get_or xs i d) ∷ [])))
    ∙ ap (map f) (sym (filter-append p (map g (take i xs)) (g (get_or xs i d) ∷ [])) ∙ ap (filter p) (sym (map_more g xs i d l))))

-- references to the columns of a pack
pub slices-more : {X Y : Type 0} (f : Y → List ℤ) (g : X → Y) (xs : List X) (i : ℕ) (d : X) (before now : List (Bor (List ℤ))) (a : Bor (List ℤ)) → i < length xs
    → map (λ column. column.now) before ≡ map f (map g (take i xs)) → now ≡ before ++ a ∷ [] → a.now ≡ f (g (get_or xs i d)) → map (λ column. column.now) now ≡ map f (map g (take (i + 1) xs))
slices-more {X} {Y} f g xs i d before now a l b e q =
    ap (map (λ (column : Bor (List ℤ)). column.now)) e ∙ map-append (λ (column : Bor (List ℤ)). column.now) before (a ∷ [])
    ∙ ap (λ (ys : List (List ℤ)). ys ++ a.now ∷ []) b ∙ ap (λ (z : List ℤ). map f (map g (take i xs)) ++ z ∷ []) q
    ∙ sym (ap (map f) (map_more g xs i d l) ∙ map-append f (map g (take i xs)) (g (get_or xs i d) ∷ []))

pub slices-end : {X Y : Type 0} (f : Y → List ℤ) (g : X → Y) (xs pack : List X) (i : ℕ) (held slices : List (Bor (List ℤ))) → length xs ≤ i → map (λ column. column.now) held ≡ map f (map g (take i xs)) → xs ≡ pack → slices ≡ held
    → map (λ column. column.now) slices ≡ map f (map g pack)
slices-end {X} f g xs pack i held slices l b e q =
    ap (map (λ (column : Bor (List ℤ)). column.now)) q ∙ b ∙ ap (λ (ys : List X). map f (map g ys)) (take_all i xs l ∙ e)
