-- The entries with one number, and the matrix that they are.
use Rattle.std.proofs.Common.{◌≡◌, ℕ, zero, suc, ◌+◌, ◌%◌, ◌^◌, ◌<◌, ◌≤◌, ◌==◌, ◌⊎◌, nat_lt, List, [], ◌∷◌, ◌++◌, map, length, get_or, drop, Bool, true, false, cond, eqb, ℤ, sym, refl, ap, ap₂, ◌∙◌, subst, inl, inr, arith, All, add-one, drop-cons, append_assoc}
use Rattle.std.specs.Int.{w64, cast_unsigned, cast_signed}
use Rattle.std.specs.List.{filter}
use Rattle.std.proofs.Math.Nat.{mod-eq_of_lt}
use Rattle.std.proofs.lemmas.Bool.{cases_Bool}
use Rattle.std.proofs.lemmas.Bool.Decides.{nat_tests}
use Rattle.std.proofs.lemmas.Int.{to_z-of_z}
use Rattle.std.proofs.lemmas.List.{append-nil, drop_all}
use Rattle.us_matrix.specs.declared.matrix.Triple.{Triple}
use Rattle.us_matrix.specs.Map.{Map, IsMatrix, IsEntry, IsInShape, IsRisingFrom, AreEntries, place, in_front, added, entries_of, matrix_of}
use Rattle.us_matrix.proofs.Merge.{bits_small}
use Rattle.us_format.specs.Matrix.{Entry}
use Rattle.us_format.specs.Program.{plain_entry, plain_entries}
use Rattle.us_layout.specs.Splitting.{share_in, share_of}

-- ---- entries that rise are the entries of their own matrix

alone : (rows cols : ℕ) (t : Triple) (ts : List Triple) → IsEntry rows cols t → in_front t.i t.j (cast_unsigned w64 t.v % 2 ^ 64) ts ≡ t ∷ ts
alone rows cols t ts e = go (cases_Bool (cast_unsigned w64 t.v % 2 ^ 64 == 0))
  where
    shown : cast_signed w64 (cast_unsigned w64 t.v % 2 ^ 64) ≡ t.v
    shown = ap (cast_signed w64) (mod-eq_of_lt {n = cast_unsigned w64 t.v} {m = 2 ^ 64} (bits_small t.v e.fits)) ∙ to_z-of_z w64 t.v e.fits

    no_bits : (n : ℕ) → (n == 0) ≡ true → n ≡ 0
    no_bits n h = grind (arith, nat_tests)

    go : (((cast_unsigned w64 t.v % 2 ^ 64 == 0) ≡ true) ⊎ ((cast_unsigned w64 t.v % 2 ^ 64 == 0) ≡ false)) → in_front t.i t.j (cast_unsigned w64 t.v % 2 ^ 64) ts ≡ t ∷ ts
    go (inl z) = absurd (e.value (sym shown ∙ ap (cast_signed w64) (no_bits _ z)))
    go (inr z) = rw z (ap (λ (v : ℤ). record { i = t.i; j = t.j; v = v } ∷ ts) shown)

less-is : (a b : ℕ) → a < b → nat_lt a b ≡ true
less-is a b h = grind (arith, nat_tests)

added-first : (rows cols : ℕ) (t : Triple) (ts : List Triple) → IsEntry rows cols t → IsRisingFrom (place t + 1) ts → added t ts ≡ t ∷ ts
added-first rows cols t [] e h = alone rows cols t [] e
added-first rows cols t (x ∷ ts) e h = rw (less-is (place t) (place x) (omega (arith, h.0))) (alone rows cols t (x ∷ ts) e)

pub entries-own : (rows cols low : ℕ) (ts : List Triple) → AreEntries rows cols ts → IsRisingFrom low ts → entries_of ts ≡ ts
unfolding entries_of
entries-own rows cols low [] e h = refl
entries-own rows cols low (t ∷ ts) e h = ap (added t) (entries-own rows cols (place t + 1) ts e.1 h.1) ∙ added-first rows cols t ts e.0 h.1

pub inside-shape : (rows cols : ℕ) (ts : List Triple) → AreEntries rows cols ts → All (IsInShape rows cols) ts
inside-shape rows cols [] e k d l = absurd (omega (arith, l))
inside-shape rows cols (t ∷ ts) e zero d l = record { row = e.0.row; col = e.0.col }
inside-shape rows cols (t ∷ ts) e (suc k) d l = inside-shape rows cols ts e.1 k d (omega (arith, l))

-- ---- a share of entries

from-lower : (low from : ℕ) (ts : List Triple) → low ≤ from → IsRisingFrom from ts → IsRisingFrom low ts
from-lower low from [] l h = tt
from-lower low from (t ∷ ts) l h = (omega (arith, h.0, l), h.1)

pub share-rising : (p low : ℕ) (ns : List ℕ) (ts : List Triple) → IsRisingFrom low ts → IsRisingFrom low (share_of p ns ts)
share-rising p low [] ts h = tt
share-rising p low (n ∷ ns) [] h = tt
share-rising p low (n ∷ ns) (t ∷ ts) h = go (eqb n p) (share-rising p (place t + 1) ns ts h.1)
  where
    go : (b : Bool) → IsRisingFrom (place t + 1) (share_of p ns ts) → IsRisingFrom low (cond b (t ∷ []) [] ++ share_of p ns ts)
    go true r = (h.0, r)
    go false r = from-lower low (place t + 1) (share_of p ns ts) (omega (arith, h.0)) r

pub share-entries : (p rows cols : ℕ) (ns : List ℕ) (ts : List Triple) → AreEntries rows cols ts → AreEntries rows cols (share_of p ns ts)
share-entries p rows cols [] ts h = tt
share-entries p rows cols (n ∷ ns) [] h = tt
share-entries p rows cols (n ∷ ns) (t ∷ ts) h = go (eqb n p) (share-entries p rows cols ns ts h.1)
  where
    go : (b : Bool) → AreEntries rows cols (share_of p ns ts) → AreEntries rows cols (cond b (t ∷ []) [] ++ share_of p ns ts)
    go true r = (h.0, r)
    go false r = r

pub share-matrix : (m : Map) (ns : List ℕ) (p : ℕ) (rows cols : ℕ) (ts : List Triple) → IsMatrix m → rows ≡ m.rows → cols ≡ m.cols → ts ≡ share_of p ns m.entries → matrix_of rows cols ts ≡ share_in m ns p
share-matrix m ns p rows cols ts h e f q =
    ap (λ (xs : List Triple). matrix_of rows cols xs) q
    ∙ ap₂ (λ (r c : ℕ). matrix_of r c (share_of p ns m.entries)) e f
    ∙ ap (λ (xs : List Triple). record { rows = m.rows; cols = m.cols; entries = xs })
    (entries-own m.rows m.cols 0 (share_of p ns m.entries) (share-entries p m.rows m.cols ns m.entries h.entries) (share-rising p 0 ns m.entries h.rising))

pub share-inside : (m : Map) (ns : List ℕ) (p : ℕ) (rows cols : ℕ) (ts : List Triple) → IsMatrix m → rows ≡ m.rows → cols ≡ m.cols → ts ≡ share_of p ns m.entries → All (IsInShape rows cols) ts
share-inside m ns p rows cols ts h e f q =
    subst (λ (r : ℕ). All (IsInShape r cols) ts) (sym e)
    (subst (λ (c : ℕ). All (IsInShape m.rows c) ts) (sym f)
    (subst (λ (xs : List Triple). All (IsInShape m.rows m.cols) xs) (sym q) (inside-shape m.rows m.cols (share_of p ns m.entries) (share-entries p m.rows m.cols ns m.entries h.entries))))

-- a step of the walk over the entries
pub share-more : (p : ℕ) (ns : List ℕ) (ts : List Triple) (k d : ℕ) (e t : Triple) (b : Bool) (old now all : List Triple) → length ns ≡ length ts → k < length ts → t ≡ get_or ts k e → b ≡ eqb (get_or ns k d) p
    → now ≡ old ++ cond b (t ∷ []) [] → old ++ share_of p (drop k ns) (drop k ts) ≡ all → now ++ share_of p (drop (k + 1) ns) (drop (k + 1) ts) ≡ all
share-more p ns ts k d e t b old now all long l at test q h =
    ap (λ (xs : List Triple). xs ++ share_of p (drop (k + 1) ns) (drop (k + 1) ts)) q
    ∙ append_assoc old (cond b (t ∷ []) []) (share_of p (drop (k + 1) ns) (drop (k + 1) ts))
    ∙ ap (λ (xs : List Triple). old ++ xs)
    (ap₂ (λ (c : Bool) (x : Triple). cond c (x ∷ []) [] ++ share_of p (drop (k + 1) ns) (drop (k + 1) ts)) test at
    ∙ ap (λ (n : ℕ). cond (eqb (get_or ns k d) p) (get_or ts k e ∷ []) [] ++ share_of p (drop n ns) (drop n ts)) (add-one k)
    ∙ sym (ap₂ (share_of p) (drop-cons ns k d (omega (arith, l, long))) (drop-cons ts k e l)))
    ∙ h

pub share-end : (p : ℕ) (ns : List ℕ) (ts : List Triple) (k : ℕ) (old all : List Triple) → length ns ≡ length ts → length ts ≤ k → old ++ share_of p (drop k ns) (drop k ts) ≡ all → old ≡ all
share-end p ns ts k old all long l h =
    sym (append-nil old) ∙ ap (λ (xs : List ℕ). old ++ share_of p xs (drop k ts)) (sym (drop_all k ns (omega (arith, l, long)))) ∙ h

-- numbers that are a function of the entries filter them
pub share-filter : (g : Entry → ℕ) (p : ℕ) (ts : List Triple) → plain_entries (share_of p (map g (plain_entries ts)) ts) ≡ filter (λ x. eqb (g x) p) (plain_entries ts)
share-filter g p [] = refl
share-filter g p (t ∷ ts) = go (eqb (g (plain_entry t)) p) (share-filter g p ts)
  where
    rest : List Triple
    rest = share_of p (map g (plain_entries ts)) ts

    go : (b : Bool) → plain_entries (share_of p (map g (plain_entries ts)) ts) ≡ filter (λ x. eqb (g x) p) (plain_entries ts)
        → plain_entries (cond b (t ∷ []) [] ++ share_of p (map g (plain_entries ts)) ts) ≡ cond b (plain_entry t ∷ filter (λ x. eqb (g x) p) (plain_entries ts)) (filter (λ x. eqb (g x) p) (plain_entries ts))
    go true e = ap (λ (xs : List Entry). plain_entry t ∷ xs) e
    go false e = e
