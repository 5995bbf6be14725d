-- Cells of columns in one list, row by row.
use Rattle.std.specs.List.{range_with_len}
use Rattle.std.proofs.Common.{◌≡◌, ℕ, zero, suc, ◌+◌, ◌*◌, ◌/◌, ◌%◌, ◌<◌, List, [], ◌∷◌, ◌++◌, map, length, get_or, ℤ, pos, sym, refl, ap, ◌∙◌, arith, sum_by, append_assoc, mul-le-mul_right, take, All, mul_comm}
use Rattle.std.proofs.lemmas.List.{append-nil, get_or-map, length-map, map_more}
use Rattle.std.proofs.lemmas.List.FromFn.{fill_by_all, get_or-map-range_with_len, length-map-range_with_len, map-range_with_len_more}
use Rattle.std.proofs.lemmas.List.Sums.{sum_by-cons}
use Rattle.std.proofs.lemmas.Nat.{div-add-mod'}
use Rattle.std.proofs.Math.Nat.{div-add-mod, div-lt_iff_lt-mul, mod-lt}
use denote.Ref.{Bor}
use lib.Arith.{digits_div, digits_mod}
use Rattle.us_format.proofs.Climb.{cell-written, length-written}
use Rattle.us_format.proofs.Collect.{Mem-range}
use Rattle.us_format.proofs.PartLaw.{map-map}
use Rattle.us_format.proofs.Packs.{same-map}
use Rattle.us_format.specs.Lists.{cell, nth}
use Rattle.us_format.specs.Packs.{Buffer, column_from, interleaved, nothing, written}
use Rattle.us_layout.specs.Interleaving.{HaveOneLength, InterleavingIsUndone, interleaved_cells, separated_cells}

-- ---- rows

-- cell x of each column
abbrev pub row_at : List (List ℤ) → ℕ → List ℤ
row_at columns x = map (λ column. cell column x) columns

pub row-by-number : (columns : List (List ℤ)) (x : ℕ) → map (λ y. cell (nth columns y) x) (range_with_len 0 (length columns)) ≡ row_at columns x
row-by-number columns x =
    sym (fill_by_all (λ y. cell (nth columns y) x) (row_at columns x) (length columns) (pos 0) (length-map columns (λ column. cell column x)) (λ y l. get_or-map (λ column. cell column x) columns y [] (pos 0) l))

-- the first x rows
pub rows_up_to : List (List ℤ) → ℕ → List ℤ
rows_up_to columns x = map (λ z. cell (nth columns (z % length columns)) (z / length columns)) (range_with_len 0 (x * length columns))

-- a list made from a function is two such lists
pub map-range_split : {A : Type 0} (f : ℕ → A) (a n : ℕ) → map f (range_with_len 0 (a + n)) ≡ map f (range_with_len 0 a) ++ map (λ y. f (a + y)) (range_with_len 0 n)
map-range_split {A} f a zero =
    let e : a + 0 ≡ a = omega arith in
    ap (λ k. map f (range_with_len 0 k)) e ∙ sym (append-nil (map f (range_with_len 0 a)))
map-range_split {A} f a (suc n) =
    let e : a + suc n ≡ (a + n) + 1 = omega arith in
    let s : suc n ≡ n + 1 = omega arith in
    ap (λ k. map f (range_with_len 0 k)) e
    ∙ map-range_with_len_more f 0 (a + n) (a + n) (omega arith)
    ∙ ap (λ (l : List A). l ++ f (a + n) ∷ []) (map-range_split f a n)
    ∙ append_assoc (map f (range_with_len 0 a)) (map (λ y. f (a + y)) (range_with_len 0 n)) (f (a + n) ∷ [])
    ∙ ap (λ (l : List A). map f (range_with_len 0 a) ++ l) (sym (map-range_with_len_more (λ y. f (a + y)) 0 n n (omega arith)) ∙ ap (λ k. map (λ y. f (a + y)) (range_with_len 0 k)) (sym s))

pub rows_up_to_none : (columns : List (List ℤ)) → rows_up_to columns 0 ≡ []
unfolding rows_up_to
rows_up_to_none columns =
    let e : 0 * length columns ≡ 0 = omega arith in
    ap (λ k. map (λ z. cell (nth columns (z % length columns)) (z / length columns)) (range_with_len 0 k)) e

pub rows_up_to_more : (columns : List (List ℤ)) (x : ℕ) → rows_up_to columns (x + 1) ≡ rows_up_to columns x ++ row_at columns x
unfolding rows_up_to
rows_up_to_more columns x =
    let n = length columns in
    let f = λ (z : ℕ). cell (nth columns (z % length columns)) (z / length columns) in
    let e : (x + 1) * n ≡ x * n + n = omega arith in
    ap (λ k. map f (range_with_len 0 k)) e
    ∙ map-range_split f (x * n) n
    ∙ ap (λ (l : List ℤ). map f (range_with_len 0 (x * n)) ++ l)
    (same-map (λ y. f (x * n + y)) (λ y. cell (nth columns y) x) (range_with_len 0 n) (λ y m. at y (omega (arith, (Mem-range 0 n y m).1))) ∙ row-by-number columns x)
  where
    at : (y : ℕ) → y < length columns → cell (nth columns ((x * length columns + y) % length columns)) ((x * length columns + y) / length columns) ≡ cell (nth columns y) x
    at y l = rw (digits_mod x l, digits_div x l) refl

-- ---- how many cells

pub sum-lengths : (columns : List (List ℤ)) (m : ℕ) → ((y : ℕ) → y < length columns → length (nth columns y) ≡ m) → sum_by (λ column. length column) columns ≡ length columns * m
sum-lengths [] m h = omega arith
sum-lengths (c ∷ cs) m h =
    let k : length c ≡ m = h 0 (omega arith) in
    sum_by-cons (λ (column : List ℤ). length column) c cs ∙ omega (arith, k, sum-lengths cs m (λ y l. h (suc y) (omega (arith, l))))

pub rows_up_to_all : (columns : List (List ℤ)) → HaveOneLength columns → rows_up_to columns (length (nth columns 0)) ≡ interleaved_cells columns
unfolding rows_up_to
rows_up_to_all columns h =
    let e : length (nth columns 0) * length columns ≡ sum_by (λ column. length column) columns = mul_comm (length (nth columns 0)) (length columns) ∙ sym (sum-lengths columns (length (nth columns 0)) h) in
    ap (λ k. map (λ z. cell (nth columns (z % length columns)) (z / length columns)) (range_with_len 0 k)) e

-- ---- interleaved buffers

pub sum-written : (bs : List Buffer) → sum_by (λ b. b.len) bs ≡ sum_by (λ column. length column) (map written bs)
sum-written [] = refl
sum-written (b ∷ bs) =
    sum_by-cons (λ (b : Buffer). b.len) b bs
    ∙ omega (arith, length-written b, sum-written bs, sum_by-cons (λ (column : List ℤ). length column) (written b) (map written bs))

pub nth-written : (bs : List Buffer) (y : ℕ) → y < length bs → nth (map written bs) y ≡ written (get_or bs y nothing)
nth-written bs y l = get_or-map written bs y nothing [] l

-- the row and the column of a cell
pub row-below : (n m z : ℕ) → 0 < n → z < n * m → z / n < m
row-below n m z p l = (div-lt_iff_lt-mul {k = n} {x = z} {y = m} p).1 (omega (arith, l, mul_comm n m))

-- interleaved buffers of one length, written out, are the interleaved cells of the buffers
pub interleaved-written : (bs : List Buffer) → HaveOneLength (map written bs) → written (interleaved bs) ≡ interleaved_cells (map written bs)
interleaved-written [] h = refl
interleaved-written (b ∷ bs) h =
    ap (λ k. map (interleaved cs).cell (range_with_len 0 k)) (sum-written cs)
    ∙ same-map (interleaved cs).cell (λ x. cell (nth columns (x % length columns)) (x / length columns)) (range_with_len 0 (sum_by (λ column. length column) columns)) (λ z mz. at z (omega (arith, (Mem-range 0 (sum_by (λ column. length column) columns) z mz).1)))
  where
    cs : List Buffer
    cs = b ∷ bs

    columns : List (List ℤ)
    columns = map written cs

    some : 0 < length cs
    some = omega arith

    count : length columns ≡ length cs
    count = length-map cs written

    at : (z : ℕ) → z < sum_by (λ column. length column) columns → (get_or cs (z % length cs) nothing).cell (z / length cs) ≡ cell (nth columns (z % length columns)) (z / length columns)
    at z l =
        let m = length (nth columns 0) in
        let y : z % length cs < length cs = mod-lt z some in
        let all : z < length cs * m = omega (arith, l, sum-lengths columns m h, ap (λ n. n * m) count) in
        let x : z / length cs < m = row-below (length cs) m z some all in
        let long : length (nth columns (z % length cs)) ≡ m = h (z % length cs) (omega (arith, y, count)) in
        let there : z / length cs < (get_or cs (z % length cs) nothing).len =
        omega (arith, x, long, length-written (get_or cs (z % length cs) nothing), ap length (nth-written cs (z % length cs) y)) in
        sym (cell-written (get_or cs (z % length cs) nothing) (z / length cs) there)
        ∙ ap (λ (c : List ℤ). cell c (z / length cs)) (sym (nth-written cs (z % length cs) y))
        ∙ ap (λ n. cell (nth columns (z % n)) (z / n)) (sym count)

-- ---- back again

pub length-interleaved : (columns : List (List ℤ)) → HaveOneLength columns → length (interleaved_cells columns) ≡ length (nth columns 0) * length columns
length-interleaved columns h =
    length-map-range_with_len (λ z. cell (nth columns (z % length columns)) (z / length columns)) 0 (sum_by (λ column. length column) columns)
    ∙ sum-lengths columns (length (nth columns 0)) h ∙ mul_comm (length columns) (length (nth columns 0))

pub interleaved-cell : (columns : List (List ℤ)) (x y : ℕ) → HaveOneLength columns → y < length columns → x < length (nth columns 0) → cell (interleaved_cells columns) (x * length columns + y) ≡ cell (nth columns y) x
interleaved-cell columns x y h ly lx =
    get_or-map-range_with_len (λ z. cell (nth columns (z % length columns)) (z / length columns)) 0 (sum_by (λ column. length column) columns) (x * length columns + y) (x * length columns + y) (pos 0)
    (omega (arith, sum-lengths columns (length (nth columns 0)) h, mul_comm (length columns) (length (nth columns 0)), mul-le-mul_right (length columns) lx)) (omega arith)
    ∙ rw (digits_mod x ly, digits_div x ly) refl

pub rows-are : (columns : List (List ℤ)) → HaveOneLength columns → 0 < length columns → length (interleaved_cells columns) / length columns ≡ length (nth columns 0)
rows-are columns h p = ap (λ k. k / length columns) (length-interleaved columns h ∙ omega arith) ∙ digits_div (length (nth columns 0)) p

pub column-back : (columns : List (List ℤ)) (y : ℕ) → HaveOneLength columns → y < length columns → column_from (length columns) y (interleaved_cells columns) ≡ nth columns y
column-back columns y h l =
    sym (fill_by_all (λ x. cell (interleaved_cells columns) (x * length columns + y)) (nth columns y) (length (interleaved_cells columns) / length columns) (pos 0)
    (h y l ∙ sym (rows-are columns h (omega (arith, l))))
    (λ x lx. sym (interleaved-cell columns x y h l (omega (arith, lx, rows-are columns h (omega (arith, l)))))))

pub separated-back : (columns : List (List ℤ)) → 0 < length columns → HaveOneLength columns → separated_cells (length columns) (interleaved_cells columns) ≡ columns
separated-back columns p h = sym (fill_by_all (λ y. column_from (length columns) y (interleaved_cells columns)) columns (length columns) [] refl (λ y l. sym (column-back columns y h l)))

-- ---- and the other way

pub separated-count : (n : ℕ) (cells : List ℤ) → length (separated_cells n cells) ≡ n
separated-count n cells = length-map-range_with_len (λ y. column_from n y cells) 0 n

pub separated-nth : (n : ℕ) (cells : List ℤ) (y : ℕ) → y < n → nth (separated_cells n cells) y ≡ column_from n y cells
separated-nth n cells y l = get_or-map-range_with_len (λ y. column_from n y cells) 0 n y y [] l (omega arith)

pub length-column_from : (n y : ℕ) (cells : List ℤ) → length (column_from n y cells) ≡ length cells / n
length-column_from n y cells = length-map-range_with_len (λ x. cell cells (x * n + y)) 0 (length cells / n)

pub separated-length : (n : ℕ) (cells : List ℤ) (y : ℕ) → y < n → length (nth (separated_cells n cells) y) ≡ length cells / n
separated-length n cells y l = ap length (separated-nth n cells y l) ∙ length-column_from n y cells

pub separated-cell : (n : ℕ) (cells : List ℤ) (z : ℕ) → 0 < n → z < n * (length cells / n) → cell (nth (separated_cells n cells) (z % n)) (z / n) ≡ cell cells z
separated-cell n cells z p l =
    ap (λ (c : List ℤ). cell c (z / n)) (separated-nth n cells (z % n) (mod-lt z p))
    ∙ get_or-map-range_with_len (λ x. cell cells (x * n + z % n)) 0 (length cells / n) (z / n) (z / n) (pos 0) (row-below n (length cells / n) z p l) (omega arith)
    ∙ ap (cell cells) (div-add-mod' z n)

pub interleaved-back : (n : ℕ) (cells : List ℤ) → 0 < n → length cells % n ≡ 0 → interleaved_cells (separated_cells n cells) ≡ cells
interleaved-back n cells p whole =
    ap (λ k. map (λ z. cell (nth columns (z % k)) (z / k)) (range_with_len 0 (sum_by (λ column. length column) columns))) count
    ∙ ap (λ k. map (λ z. cell (nth columns (z % n)) (z / n)) (range_with_len 0 k)) (all ∙ sym full)
    ∙ sym (fill_by_all (λ z. cell (nth columns (z % n)) (z / n)) cells (length cells) (pos 0) refl (λ z l. sym (separated-cell n cells z p (omega (arith, l, full)))))
  where
    columns : List (List ℤ)
    columns = separated_cells n cells

    count : length columns ≡ n
    count = separated-count n cells

    full : length cells ≡ n * (length cells / n)
    full = omega (arith, div-add-mod (length cells) n, whole)

    all : sum_by (λ column. length column) columns ≡ n * (length cells / n)
    all =
        sum-lengths columns (length cells / n) (λ y l. separated-length n cells y (omega (arith, l, count)))
        ∙ ap (λ k. k * (length cells / n)) count

pub interleaving-is-undone : InterleavingIsUndone
interleaving-is-undone = record { separated = separated-back; interleaved = interleaved-back }

-- ---- steps of loops

-- one element more of a list made from a function
pub made-more : {A : Type 0} (f : ℕ → A) (n : ℕ) (before now : List A) (a : A) → before ≡ map f (range_with_len 0 n) → now ≡ before ++ a ∷ [] → a ≡ f n → now ≡ map f (range_with_len 0 (n + 1))
made-more {A} f n before now a b e q =
    e ∙ ap (λ (l : List A). l ++ a ∷ []) b ∙ ap (λ (z : A). map f (range_with_len 0 n) ++ z ∷ []) q ∙ sym (map-range_with_len_more f 0 n n (omega arith))

-- the same behind a list
pub made-more_behind : {A : Type 0} (f : ℕ → A) (n : ℕ) (start before now : List A) (a : A) → before ≡ start ++ map f (range_with_len 0 n) → now ≡ before ++ a ∷ [] → a ≡ f n
    → now ≡ start ++ map f (range_with_len 0 (n + 1))
made-more_behind {A} f n start before now a b e q =
    e ∙ ap (λ (l : List A). l ++ a ∷ []) b ∙ append_assoc start (map f (range_with_len 0 n)) (a ∷ [])
    ∙ ap (λ (l : List A). start ++ l) (made-more f n (map f (range_with_len 0 n)) (map f (range_with_len 0 n) ++ a ∷ []) a refl refl q)

-- one element more of a walk over a list
pub walked-more : {X A : Type 0} (f : X → A) (xs : List X) (i : ℕ) (d : X) (start before now : List A) (a : A) → i < length xs → before ≡ start ++ map f (take i xs) → now ≡ before ++ a ∷ [] → a ≡ f (get_or xs i d)
    → now ≡ start ++ map f (take (i + 1) xs)
walked-more {A} f xs i d start before now a l b e q =
    e ∙ ap (λ (l : List A). l ++ a ∷ []) b ∙ append_assoc start (map f (take i xs)) (a ∷ []) ∙ ap (λ (z : A). start ++ (map f (take i xs) ++ z ∷ [])) q ∙ ap (λ (l : List A). start ++ l) (sym (map_more f xs i d l))

-- the columns of some references are long enough for a row
pub long-enough : (columns : List (Bor (List ℤ))) (x : ℕ) → HaveOneLength (map (λ column. column.now) columns) → x < length (nth (map (λ column. column.now) columns) 0) → All (λ column. x < length column.now) columns
long-enough columns x h l k d b =
    omega (arith, l, h k (omega (arith, b, length-map columns (λ (column : Bor (List ℤ)). column.now))), ap length (get_or-map (λ (column : Bor (List ℤ)). column.now) columns k d [] b))

pub row-of_slices : (columns : List (Bor (List ℤ))) (x : ℕ) → map (λ column. cell column.now x) columns ≡ row_at (map (λ column. column.now) columns) x
row-of_slices columns x = sym (map-map (λ (column : List ℤ). cell column x) (λ (column : Bor (List ℤ)). column.now) columns)
