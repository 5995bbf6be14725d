-- Weights in the making.
use Rattle.std.specs.List.{range_with_len}
use Rattle.std.proofs.Common.{◌≡◌, ℕ, zero, suc, ◌+◌, ◌<◌, ◌≤◌, ◌⊎◌, List, [], ◌∷◌, map, length, get_or, set, take, replicate, cond, eqb, sym, ap, ap₂, ◌∙◌, subst, inl, inr, arith, All, Bool, count_by, eq-eqb, refl, sum}
use Rattle.std.proofs.lemmas.Bool.{cases_eq, ne_eqb}
use Rattle.std.proofs.lemmas.List.Sums.{count_by-le-length, sum_by-cons, sum_by-set}
use Rattle.std.proofs.lemmas.List.{ext_get_or, get_or_default, length-take-le, get_or-replicate, get_or-set_other, get_or-set_same, length-map, length-replicate, length-set, take_all}
use Rattle.std.proofs.lemmas.List.FromFn.{get_or-map-range_with_len, length-range_with_len}
use Rattle.us_expr.specs.declared.queries.Axis.{Axis}
use Rattle.us_expr.specs.declared.queries.Axis.TheVariants.{Rows, Cols}
use Rattle.us_matrix.specs.Map.{Map, AreEntries, IsMatrix}
use Rattle.us_matrix.specs.declared.matrix.Triple.{Triple}
use Rattle.us_format.specs.Matrix.{Shape, index_at, indices}
use Rattle.us_format.specs.Program.{plain_entries, plain_entry, shape_in}
use Rattle.us_format.specs.Queries.{weight}
use Rattle.us_query.proofs.EntryCounts.{count-map, count-more}

plus-none : (x : ℕ) → x + 0 ≡ x
plus-none x = omega arith

sum-zeros : (n : ℕ) → sum (replicate n 0) ≡ 0
sum-zeros zero = refl
sum-zeros (suc n) = sum_by-cons (λ (x : ℕ). x) 0 (replicate n 0) ∙ omega (arith, sum-zeros n)

module _ (axis : Axis) where
  -- the weights of n indices by these entries
  pub record IsTally (n : ℕ) (ts : List Triple) (ws : List ℕ) : Type 0 where
    pub long : length ws ≡ n
    pub each : (a : ℕ) → a < n → get_or ws a 0 ≡ count_by (λ t. eqb (index_at axis (plain_entry t)) a) ts
    pub total : sum ws ≡ length ts

  pub tally-none : (n : ℕ) → IsTally n [] (replicate n 0)
  tally-none n = record { long = length-replicate n 0; each = λ a l. get_or-replicate n a 0 0 l; total = sum-zeros n }

  pub tally-next : (n : ℕ) (es : List Triple) (k : ℕ) (d : Triple) (ws : List ℕ) (i : ℕ) → k < length es → i ≡ index_at axis (plain_entry (get_or es k d)) → i < n → IsTally n (take k es) ws
      → IsTally n (take (k + 1) es) (set ws i (get_or ws i 0 + 1))
  tally-next n es k d ws i l e b h = record {
    long = length-set ws i (get_or ws i 0 + 1) ∙ h.long;
    each = λ a m. go a m (cases_eq a i);
    total =
        omega (arith, sum_by-set (λ (x : ℕ). x) ws i (get_or ws i 0 + 1) 0 (omega (arith, h.long, b)), h.total, length-take-le k es (omega (arith, l)), length-take-le (k + 1) es (omega (arith, l)));
  }
    where
      more : (a : ℕ) → count_by (λ t. eqb (index_at axis (plain_entry t)) a) (take (k + 1) es) ≡ count_by (λ t. eqb (index_at axis (plain_entry t)) a) (take k es) + cond (eqb i a) 1 0
      more a =
          count-more (λ t. eqb (index_at axis (plain_entry t)) a) es k d l
          ∙ ap (λ (x : ℕ). count_by (λ t. eqb (index_at axis (plain_entry t)) a) (take k es) + cond (eqb x a) 1 0) (sym e)

      go : (a : ℕ) → a < n → (a ≡ i) ⊎ (a ≡ i → ⊥) → get_or (set ws i (get_or ws i 0 + 1)) a 0 ≡ count_by (λ t. eqb (index_at axis (plain_entry t)) a) (take (k + 1) es)
      go a m (inl q) =
          ap (λ (x : ℕ). get_or (set ws i (get_or ws i 0 + 1)) x 0) q ∙ get_or-set_same ws i (get_or ws i 0 + 1) 0 (omega (arith, h.long, b))
          ∙ ap (λ (x : ℕ). get_or ws x 0 + 1) (sym q)
          ∙ ap₂ (λ (x : ℕ) (c : Bool). x + cond c 1 0) (h.each a m) (sym (eq-eqb i a (sym q)))
          ∙ sym (more a)
      go a m (inr q) =
          get_or-set_other ws i a (get_or ws i 0 + 1) 0 q ∙ h.each a m
          ∙ sym (more a ∙ ap (λ (c : Bool). count_by (λ t. eqb (index_at axis (plain_entry t)) a) (take k es) + cond c 1 0) (ne_eqb i a (λ x. q (sym x))) ∙ plus-none (count_by (λ t. eqb (index_at axis (plain_entry t)) a) (take k es)))

  pub tally-is : (n : ℕ) (es : List Triple) (k : ℕ) (ws : List ℕ) → length es ≤ k → IsTally n (take k es) ws → ws ≡ map (weight (plain_entries es) axis) (range_with_len 0 n)
  tally-is n es k ws l h =
      ext_get_or 0 ws _ (h.long ∙ sym (length-map (range_with_len 0 n) (weight (plain_entries es) axis) ∙ length-range_with_len 0 n))
      (λ a m. at a (omega (arith, m, h.long)))
    where
      at : (a : ℕ) → a < n → get_or ws a 0 ≡ get_or (map (weight (plain_entries es) axis) (range_with_len 0 n)) a 0
      at a m =
          h.each a m ∙ ap (λ (ts : List Triple). count_by (λ t. eqb (index_at axis (plain_entry t)) a) ts) (take_all k es l)
          ∙ sym (count-map plain_entry (λ y. eqb (index_at axis y) a) es)
          ∙ sym (get_or-map-range_with_len (weight (plain_entries es) axis) 0 n a a 0 m (omega arith))

pub tally-total : (axis : Axis) (n : ℕ) (es : List Triple) (k : ℕ) (ws : List ℕ) → length es ≤ k → IsTally axis n (take k es) ws → sum ws ≡ length es
tally-total axis n es k ws l h = h.total ∙ ap (λ (ts : List Triple). length ts) (take_all k es l)

entries-inside : (rows cols : ℕ) (ts : List Triple) → AreEntries rows cols ts → (k : ℕ) (d : Triple) → k < length ts → ((get_or ts k d).i < rows) × ((get_or ts k d).j < cols)
entries-inside rows cols [] h k d l = absurd (omega arith)
entries-inside rows cols (t ∷ ts) h zero d l = (h.0.row, h.0.col)
entries-inside rows cols (t ∷ ts) h (suc k) d l = entries-inside rows cols ts h.1 k d (omega arith)

pub inside : (axis : Axis) (m : Map) (ts : List Triple) (n : ℕ) → IsMatrix m → ts ≡ m.entries → n ≡ indices axis (shape_in m) → All (λ t. index_at axis (plain_entry t) < n) ts
inside Rows m ts n h e q = λ k d l.
    subst (λ (x : ℕ). (get_or ts k d).i < x) (sym q) (entries-inside m.rows m.cols ts (subst (λ (es : List Triple). AreEntries m.rows m.cols es) (sym e) h.entries) k d l).0
inside Cols m ts n h e q = λ k d l.
    subst (λ (x : ℕ). (get_or ts k d).j < x) (sym q) (entries-inside m.rows m.cols ts (subst (λ (es : List Triple). AreEntries m.rows m.cols es) (sym e) h.entries) k d l).1

pub indices-of : (axis : Axis) (m : Map) (s : Shape) → s.rows ≡ m.rows → s.cols ≡ m.cols → indices axis s ≡ indices axis (shape_in m)
indices-of Rows m s e f = e
indices-of Cols m s e f = f

pub tally-step : (axis : Axis) (n : ℕ) (es : List Triple) (k : ℕ) (d : Triple) (ws : List ℕ) (i v e : ℕ) → k < length es → i ≡ index_at axis (plain_entry (get_or es k d)) → i < n → v ≡ get_or ws i e
    → IsTally axis n (take k es) ws → IsTally axis n (take (k + 1) es) (set ws i (v + 1))
tally-step axis n es k d ws i v e l q b p h =
    subst (λ (x : ℕ). IsTally axis n (take (k + 1) es) (set ws i (x + 1))) (sym (p ∙ get_or_default ws i e 0 (omega (arith, b, h.long)))) (tally-next axis n es k d ws i l q b h)

pub tally-bound : (axis : Axis) (n : ℕ) (es : List Triple) (k : ℕ) (ws : List ℕ) (i v e : ℕ) → k < length es → i < n → v ≡ get_or ws i e → IsTally axis n (take k es) ws → v ≤ k
tally-bound axis n es k ws i v e l b p h =
    omega (arith, p ∙ get_or_default ws i e 0 (omega (arith, b, h.long)) ∙ h.each i b, count_by-le-length (λ t. eqb (index_at axis (plain_entry t)) i) (take k es), length-take-le k es (omega (arith, l)))
