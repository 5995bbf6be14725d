-- Numbers of positions are at most the size.
use Rattle.std.specs.Prelude.{slice_get}
use Rattle.std.proofs.Common.{◌≡◌, ℕ, zero, suc, ◌+◌, ◌*◌, ◌^◌, ◌<◌, ◌≤◌, List, [], ◌∷◌, ◌++◌, take, true, ap, ◌∙◌, inl, inr, arith, Some, sum_by, mul-le-mul_right}
use Rattle.std.specs.List.{sum}
use Rattle.std.proofs.lemmas.Bool.{false≢true}
use Rattle.std.proofs.lemmas.List.Sums.{sum_by-cons, sum_by-append}
use Rattle.us_format.proofs.Order.{Mem}
use Rattle.us_format.proofs.Members.{contains-Mem}
use Rattle.us_format.proofs.PackSizes.{packing-keeps-size}
use Rattle.us_format.specs.Buffers.{buffers_at, crd_buffer, level_buffers, parts_of, part_counts, piece_buffers, pos_buffer, size}
use Rattle.us_format.specs.Declaration.{Part, Declaration}
use Rattle.us_format.specs.Kinds.{Level}
use Rattle.us_format.specs.Laws.{cells_of, unpacked_size}
use Rattle.us_format.specs.Matrix.{Entry, Shape}
use Rattle.us_format.specs.Packs.{Buffer}
use Rattle.us_format.specs.Positions.{Row, count_below, counts, down, nodes, rows_of}
use Rattle.us_format.specs.Reading.{limit}
use Rattle.us_format.specs.Rules.{IsLawfulDeclaration}
use Rattle.us_format.specs.declared.Kind.{Kind}
use Rattle.us_format.specs.declared.Kind.TheVariants.{Compressed, Full, Listed, Slot}
use Rattle.us_format_loops.specs.Nodes.{has_nodes, count_after}
use Rattle.us_format_loops.specs.Laws.{levels_on, number_after, AreNumbersSmall, NumbersStaySmall}

pub part-of-sum : {A : Type 0} (f : A → ℕ) (x : A) (xs : List A) → Mem x xs → f x ≤ sum_by f xs
part-of-sum f x [] m = absurd m
part-of-sum f x (y ∷ ys) (inl e) = omega (arith, sum_by-cons f y ys, ap f e)
part-of-sum f x (y ∷ ys) (inr m) = omega (arith, sum_by-cons f y ys, part-of-sum f x ys m)

pub sum-first : (x : ℕ) (xs : List ℕ) → sum (x ∷ xs) ≡ x + sum xs
sum-first x xs = sum_by-cons (λ y. y) x xs

-- each number is one of the numbers above all levels and after each
pub number-counted : (k : ℕ) (ls : List Level) (n : ℕ) (rows : List Row) → count_after (take k ls) n rows ≤ n + sum (counts ls n rows)
number-counted zero ls n rows = omega arith
number-counted (suc k) [] n rows = omega arith
number-counted (suc k) (l ∷ ls) n rows =
    omega (
      arith,
      number-counted k ls (count_below l.kind l.size n rows) (down l.kind l.size rows),
      sum-first (count_below l.kind l.size n rows) (counts ls (count_below l.kind l.size n rows) (down l.kind l.size rows)),
    )

pub number-below : (k : ℕ) (l : Level) (ls : List Level) (n : ℕ) (rows : List Row) → count_after (take (suc k) (l ∷ ls)) n rows ≤ sum (counts (l ∷ ls) n rows)
number-below k l ls n rows =
    omega (
      arith,
      number-counted k ls (count_below l.kind l.size n rows) (down l.kind l.size rows),
      sum-first (count_below l.kind l.size n rows) (counts ls (count_below l.kind l.size n rows) (down l.kind l.size rows)),
    )

pub cells-append : (xs ys : List Buffer) → cells_of (xs ++ ys) ≡ cells_of xs + cells_of ys
cells-append xs ys = sum_by-append (λ (b : Buffer). b.len) xs ys

-- `pos` has a cell more than there are positions above
pub nodes-counted : (k : Kind) (size n : ℕ) (rows : List Row) → has_nodes k ≡ true → n + 1 ≤ cells_of (buffers_at k size n rows)
nodes-counted Full size n rows h = absurd (false≢true h)
nodes-counted Compressed size n rows h = omega (arith, sum_by-cons (λ (b : Buffer). b.len) (pos_buffer (nodes Compressed rows) n) (crd_buffer Compressed size n rows ∷ []))
nodes-counted Listed size n rows h = omega (arith, sum_by-cons (λ (b : Buffer). b.len) (pos_buffer (nodes Listed rows) n) (crd_buffer Listed size n rows ∷ []))
nodes-counted Slot size n rows h = absurd (false≢true h)

pub above-counted : (k : ℕ) (l : Level) (ls : List Level) (n : ℕ) (rows : List Row) → slice_get ls k ≡ Some l → has_nodes l.kind ≡ true → count_after (take k ls) n rows + 1 ≤ cells_of (level_buffers ls n rows)
above-counted k l [] n rows at h = absurd (cc)
above-counted zero l (a ∷ ls) n rows at h =
    let e : a ≡ l = cc in
    omega (
      arith,
      nodes-counted a.kind a.size n rows (ap (λ (z : Level). has_nodes z.kind) e ∙ h),
      cells-append (buffers_at a.kind a.size n rows) (level_buffers ls (count_below a.kind a.size n rows) (down a.kind a.size rows)),
    )
above-counted (suc k) l (a ∷ ls) n rows at h =
    omega (
      arith,
      above-counted k l ls (count_below a.kind a.size n rows) (down a.kind a.size rows) at h,
      cells-append (buffers_at a.kind a.size n rows) (level_buffers ls (count_below a.kind a.size n rows) (down a.kind a.size rows)),
    )

pub pair-small : (n size q c : ℕ) → n ≤ 2 ^ 25 → size < 2 ^ 38 → q < n → c < size → q * size + c < 2 ^ 63
pair-small n size q c small s l b = let h : suc q ≤ 2 ^ 25 = omega (arith, small, l) in omega (arith, mul-le-mul_right size h, s, b)

module _ (s : Shape) (d : Declaration) (m : List Entry) (la : IsLawfulDeclaration d) (small : size s d m ≤ limit) (p : Part) (part : List Entry) (mem : Mem (p, part) (parts_of s d m)) where
  pub part-small : cells_of (piece_buffers s p part) + sum (part_counts s p part) ≤ limit
  part-small =
      omega (arith, small, packing-keeps-size.of_parts s d m la, part-of-sum (λ (x : Part × List Entry). unpacked_size s x.0 x.1) (p, part) (parts_of s d m) mem)

  pub number-small : (k : ℕ) (ls : List Level) (rows : List Row) → sum (counts ls 1 rows) ≤ limit → count_after (take k ls) 1 rows ≤ limit
  number-small zero ls rows h = omega arith
  number-small (suc k) [] rows h = omega arith
  number-small (suc k) (l ∷ ls) rows h = omega (arith, h, number-below k l ls 1 rows)

  pub above-small : (k : ℕ) (l : Level) (ls : List Level) (rows : List Row) → slice_get ls k ≡ Some l → has_nodes l.kind ≡ true → cells_of (level_buffers ls 1 rows) + sum (counts ls 1 rows) ≤ limit
      → count_after (take k ls) 1 rows ≤ 2 ^ 25
  above-small k l [] rows at h b = absurd (cc)
  above-small zero l (a ∷ ls) rows at h b = omega arith
  above-small (suc k) l (a ∷ ls) rows at h b = omega (arith, b, number-below k a ls 1 rows, above-counted (suc k) l (a ∷ ls) 1 rows at h)

  pub numbers-small : AreNumbersSmall s p part
  numbers-small = record {
    numbers = λ k. number-small k (levels_on s p part) (rows_of part s p) (omega (arith, part-small));
    pairs = λ k l at h b q c x y.
        pair-small (number_after s p part k) l.size q c (above-small k l (levels_on s p part) (rows_of part s p) at h part-small) b x y;
  }

pub numbers-stay-small : NumbersStaySmall
numbers-stay-small s d m la small p part mem = numbers-small s d m la small p part (contains-Mem (parts_of s d m) (p, part) mem)
