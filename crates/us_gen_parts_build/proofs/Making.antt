-- The levels of the loops in the making.
use Rattle.std.proofs.Common.{◌≡◌, ℕ, suc, ◌+◌, ◌<◌, ◌≤◌, List, [], ◌∷◌, ◌++◌, map, length, drop, ℤ, Option, sym, refl, ap, ap₂, ◌∙◌, subst, arith, append_assoc, add-one}
use Rattle.std.specs.Prelude.{replicate, slice_index_or}
use Rattle.std.specs.List.{All}
use Rattle.std.proofs.Math.Seq.{drop-cons}
use Rattle.std.proofs.Math.ListN.{drop_of_length-le}
use Rattle.std.proofs.lemmas.List.{append-nil, get_or-map, length-map}
use Rattle.us_expr.specs.declared.ranges.Range.{Range}
use Rattle.us_expr.specs.Tree.{Tree, RowIndex, ColIndex, Number, Variable, Sum, Difference, Quotient, Remainder}
use Rattle.us_expr.specs.Value.{IsWithin}
use Rattle.us_format.specs.declared.Kind.{Kind}
use Rattle.us_format.specs.Matrix.{Shape}
use Rattle.us_format.specs.Declaration.{Part}
use Rattle.us_format.specs.Coordinates.{level_range}
use Rattle.us_format.specs.Kinds.{kind}
use Rattle.us_code.specs.declared.program.Dim.{Dim}
use Rattle.us_code.specs.declared.pieces.Columns.{Columns}
use Rattle.us_gen_places.specs.Places.{range_without}
use Rattle.us_gen_building.specs.declared.part.PartLevel.{PartLevel}
use Rattle.us_gen_coordinates.specs.Phase.{columns_for}
use Rattle.us_gen_parts_build.specs.Parts.{bound_of, size_by, level_by, levels_from, lows_of}

-- what holds of all that a list is mapped to
pub unmapped : {A B : Type 0} (P : B → Type 0) (f : A → B) (xs : List A) → All P (map f xs) → All (λ x. P (f x)) xs
unmapped P f xs h k d lt =
    subst P (get_or-map f xs k d (f d) lt) (h k (f d) (omega (arith, lt, length-map xs f)))

-- of an expression's variables fewer are allowed
pub within-more : (m n : ℕ) → m ≤ n → (e : Tree) → IsWithin m e → IsWithin n e
within-more m n le RowIndex h = tt
within-more m n le ColIndex h = tt
within-more m n le (Number c) h = h
within-more m n le (Variable v) h = omega (arith, h, le)
within-more m n le (Sum a b) h = (within-more m n le a h.0, within-more m n le b h.1)
within-more m n le (Difference a b) h = (within-more m n le a h.0, within-more m n le b h.1)
within-more m n le (Quotient a k) h = (h.0, h.1, within-more m n le a h.2)
within-more m n le (Remainder a k) h = (h.0, h.1, within-more m n le a h.2)

pub columns-many : (cs : Columns) (es : List Tree) (lows : List ℤ) (n : ℕ) → length lows ≡ length es → length (columns_for cs es lows n) ≡ length es
columns-many cs [] [] n h = refl
columns-many cs [] (l ∷ lows) n h = absurd (omega (arith, h))
columns-many cs (e ∷ es) [] n h = absurd (omega (arith, h))
columns-many cs (e ∷ es) (l ∷ lows) n h = ap suc (columns-many cs es lows (n + 40) (omega (arith, h)))

-- one level, by what is known of the part q
pub level-made : (s : Shape) (p q : Part) (d k column : ℕ) (o : Option ℕ) (r : Range) (kd : Kind) (size : Dim) → p ≡ q
    → o ≡ bound_of d p.queries (slice_index_or p.levels k RowIndex) → r ≡ level_range s (replicate 16 0) q (slice_index_or q.levels k RowIndex) → kd ≡ kind q k → size ≡ size_by o r
    → record { kind = kd; size = size; column = column } ≡ level_by s p d k (slice_index_or p.levels k RowIndex) column
level-made s p q d k column o r kd size same o_is r_is kd_is size_is =
    ap₂ (λ (x : Kind) (y : Dim). let z : PartLevel = record { kind = x; size = y; column = column } in z) (kd_is ∙ ap (λ (z : Part). kind z k) (sym same))
    (size_is ∙ ap₂ size_by o_is (r_is ∙ ap (λ (z : Part). level_range s (replicate 16 0) z (slice_index_or z.levels k RowIndex)) (sym same)))

module _ (s : Shape) (p : Part) where
  abbrev low : Tree → ℤ
  low e = (range_without s p e).lo

  pub low-made : (q : Part) (k : ℕ) (r : Range) → p ≡ q → r ≡ level_range s (replicate 16 0) q (slice_index_or q.levels k RowIndex) → r.lo ≡ (range_without s p (slice_index_or p.levels k RowIndex)).lo
  low-made q k r same is = ap (λ (z : Range). z.lo) (is ∙ ap (λ (z : Part). level_range s (replicate 16 0) z (slice_index_or z.levels k RowIndex)) (sym same))

  -- those of the first k levels
  pub record LowsTo (k : ℕ) (xs : List ℤ) : Type 0 where
    pub are : xs ++ map low (drop k p.levels) ≡ lows_of s p

  pub lows-none : (xs : List ℤ) → xs ≡ [] → LowsTo 0 xs
  lows-none xs e = record { are = ap (λ (zs : List ℤ). zs ++ lows_of s p) e }

  pub lows-more : (k : ℕ) (xs ys : List ℤ) (z : ℤ) → k < length p.levels → LowsTo k xs → z ≡ low (slice_index_or p.levels k RowIndex) → ys ≡ xs ++ z ∷ [] → LowsTo (k + 1) ys
  lows-more k xs ys z l h is more = record {
    are =
        ap (λ (zs : List ℤ). zs ++ map low (drop (k + 1) p.levels)) more ∙ append_assoc xs (z ∷ []) (map low (drop (k + 1) p.levels))
        ∙ ap (λ j. xs ++ z ∷ map low (drop j p.levels)) (add-one k) ∙ ap (λ (w : ℤ). xs ++ w ∷ map low (drop (suc k) p.levels)) is
        ∙ ap (λ (es : List Tree). xs ++ map low es) (sym (drop-cons p.levels k RowIndex l)) ∙ h.are;
  }

  pub lows-all : (k : ℕ) (xs : List ℤ) → LowsTo k xs → length p.levels ≤ k → xs ≡ lows_of s p
  lows-all k xs h past = sym (append-nil xs) ∙ ap (λ (es : List Tree). xs ++ map low es) (sym (drop_of_length-le p.levels past)) ∙ h.are

  module _ (d : ℕ) (cs : List ℕ) where
    pub record LevelsTo (k : ℕ) (xs : List PartLevel) : Type 0 where
      pub are : xs ++ levels_from s p d k (drop k p.levels) (drop k cs) ≡ levels_from s p d 0 p.levels cs

    pub levels-none : (xs : List PartLevel) → xs ≡ [] → LevelsTo 0 xs
    levels-none xs e = record { are = ap (λ (zs : List PartLevel). zs ++ levels_from s p d 0 p.levels cs) e }

    pub levels-more : (k c : ℕ) (xs ys : List PartLevel) (x : PartLevel) → k < length p.levels → length cs ≡ length p.levels → LevelsTo k xs
        → x ≡ level_by s p d k (slice_index_or p.levels k RowIndex) (slice_index_or cs k c) → ys ≡ xs ++ x ∷ [] → LevelsTo (k + 1) ys
    levels-more k c xs ys x l n h is more =
        let lc : k < length cs = omega (arith, l, n) in record {
          are =
              ap (λ (zs : List PartLevel). zs ++ levels_from s p d (k + 1) (drop (k + 1) p.levels) (drop (k + 1) cs)) more
              ∙ append_assoc xs (x ∷ []) (levels_from s p d (k + 1) (drop (k + 1) p.levels) (drop (k + 1) cs))
              ∙ ap (λ j. xs ++ x ∷ levels_from s p d j (drop j p.levels) (drop j cs)) (add-one k)
              ∙ ap (λ (w : PartLevel). xs ++ w ∷ levels_from s p d (suc k) (drop (suc k) p.levels) (drop (suc k) cs)) is
              ∙ ap₂ (λ (es : List Tree) (zs : List ℕ). xs ++ levels_from s p d k es zs) (sym (drop-cons p.levels k RowIndex l)) (sym (drop-cons cs k c lc)) ∙ h.are;
        }

    pub levels-all : (k : ℕ) (xs : List PartLevel) → LevelsTo k xs → length p.levels ≤ k → xs ≡ levels_from s p d 0 p.levels cs
    levels-all k xs h past =
        sym (append-nil xs) ∙ ap (λ (es : List Tree). xs ++ levels_from s p d k es (drop k cs)) (sym (drop_of_length-le p.levels past)) ∙ h.are
