-- A matrix of the program is a matrix of the definitions, and what holds of a lawful part's entries above the first level.
use Rattle.std.proofs.Common.{◌≡◌, ℕ, zero, suc, ◌+◌, ◌*◌, ◌<◌, ◌≤◌, ◌⊎◌, List, [], ◌∷◌, true, false, ℤ, pos, negsuc, refl, inl, inr, arith, All, AllPairs, lt-ltb, eq-eqb}
use Rattle.std.proofs.lemmas.Bool.{or_left, or_right, and_from, cases_order}
use Rattle.std.proofs.lemmas.List.Elements.{All-cons}
use Rattle.std.proofs.lemmas.List.Kept.{AllPairs-cons}
use Rattle.us_matrix.specs.declared.matrix.Triple.{Triple}
use Rattle.us_matrix.specs.Map.{Map, IsEntry, IsMatrix, AreEntries, IsRisingFrom}
use Rattle.us_format.specs.Declaration.{Part}
use Rattle.us_format.specs.Kinds.{levels_of}
use Rattle.us_format.specs.Matrix.{Entry, IsMatrixOf, Shape, earlier, is_zero}
use Rattle.us_format.specs.Positions.{rows_of}
use Rattle.us_format.specs.Program.{entries_in, plain_entries, plain_entry, shape_in}
use Rattle.us_format.specs.Queries.{extents_of}
use Rattle.us_format.specs.Rules.{IsLawful}
use Rattle.us_format.proofs.Climb.{Placed, SlotsTell}
use Rattle.us_format.proofs.Lawful.{sound}
use Rattle.us_format.proofs.PartLaw.{top-placed, top-slots}

-- ---- a matrix of the program

pub not-zero : (v : ℤ) → (v ≡ pos 0 → ⊥) → is_zero v ≡ false
not-zero (pos zero) h = absurd (h refl)
not-zero (pos (suc n)) h = refl
not-zero (negsuc n) h = refl

pub all-entries : (P : Entry → Type 0) (rows cols : ℕ) (ts : List Triple) → ((t : Triple) → IsEntry rows cols t → P (plain_entry t)) → AreEntries rows cols ts → All P (plain_entries ts)
all-entries P rows cols [] f h = λ k d l. absurd (omega (arith, l))
all-entries P rows cols (t ∷ ts) f h = All-cons P (plain_entry t) (plain_entries ts) (f t h.0) (all-entries P rows cols ts f h.1)

pub place-earlier : (s t : Triple) → s.j < 2147483648 → t.j < 2147483648 → 2147483648 * s.i + s.j < 2147483648 * t.i + t.j → earlier (plain_entry s) (plain_entry t) ≡ true
place-earlier s t sj tj h = go (cases_order s.i t.i)
  where
    go : ((s.i ≡ t.i) ⊎ ((s.i < t.i) ⊎ (t.i < s.i))) → earlier (plain_entry s) (plain_entry t) ≡ true
    go (inl e) = or_right _ _ (and_from _ _ (eq-eqb s.i t.i e) (lt-ltb s.j t.j (omega (arith, e, h))))
    go (inr (inl l)) = or_left _ _ (lt-ltb s.i t.i l)
    go (inr (inr l)) = absurd (omega (arith, l, h, sj, tj))

pub all-later : (rows cols : ℕ) (s : Triple) (low : ℕ) (ts : List Triple) → cols ≤ 2147483648 → s.j < 2147483648 → 2147483648 * s.i + s.j < low → AreEntries rows cols ts → IsRisingFrom low ts
    → All (λ y. earlier (plain_entry s) y ≡ true) (plain_entries ts)
all-later rows cols s low [] c sj l h r = λ k d l. absurd (omega (arith, l))
all-later rows cols s low (t ∷ ts) c sj l h r =
    All-cons (λ y. earlier (plain_entry s) y ≡ true) (plain_entry t) (plain_entries ts)
    (place-earlier s t sj (omega (arith, h.0.col, c)) (omega (arith, l, r.0)))
    (all-later rows cols s (2147483648 * t.i + t.j + 1) ts c sj (omega (arith, l, r.0)) h.1 r.1)

pub rising-sorted : (rows cols low : ℕ) (ts : List Triple) → cols ≤ 2147483648 → AreEntries rows cols ts → IsRisingFrom low ts → AllPairs (λ a b. earlier a b ≡ true) (plain_entries ts)
rising-sorted rows cols low [] c h r = λ i j d l k. absurd (omega (arith, k))
rising-sorted rows cols low (t ∷ ts) c h r =
    AllPairs-cons (λ a b. earlier a b ≡ true) (plain_entry t) (plain_entries ts)
    (all-later rows cols t (2147483648 * t.i + t.j + 1) ts c (omega (arith, h.0.col, c)) (omega arith) h.1 r.1)
    (rising-sorted rows cols (2147483648 * t.i + t.j + 1) ts c h.1 r.1)

pub program-matrix : (m : Map) → IsMatrix m → IsMatrixOf (shape_in m) (entries_in m)
program-matrix m h = record {
  sorted = rising-sorted m.rows m.cols 0 m.entries (omega (arith, h.cols.high)) h.entries h.rising;
  rows = all-entries (λ x. x.i < m.rows) m.rows m.cols m.entries (λ t e. e.row) h.entries;
  cols = all-entries (λ x. x.j < m.cols) m.rows m.cols m.entries (λ t e. e.col) h.entries;
  nonzero = all-entries (λ x. is_zero x.v ≡ false) m.rows m.cols m.entries (λ t e. not-zero t.v e.value) h.entries;
}

-- ---- a lawful part

pub lawful-placed : (s : Shape) (p : Part) (m : List Entry) → IsLawful p → IsMatrixOf s m → Placed (levels_of s (extents_of m s p) p) 1 (rows_of m s p)
lawful-placed s p m la im = top-placed m s p (sound s p m la im)

pub lawful-slots : (s : Shape) (p : Part) (m : List Entry) → IsLawful p → IsMatrixOf s m → SlotsTell (levels_of s (extents_of m s p) p) (rows_of m s p)
lawful-slots s p m la im = top-slots m s p (sound s p m la im)
