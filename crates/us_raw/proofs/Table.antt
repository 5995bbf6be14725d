-- The table of a plan is written entry by entry.
use Rattle.std.proofs.Common.{◌≡◌, ℕ, ◌+◌, ◌*◌, ◌<◌, ◌≤◌, ◌^◌, ◌⊎◌, inl, inr, List, length, get_or, take, drop, replicate, refl, sym, ap, ◌∙◌, subst, arith, w64}
use Rattle.std.specs.Int.{from_le_bytes, to_le_bytes}
use Rattle.std.specs.List.{sum_by}
use Rattle.std.proofs.lemmas.Bool.{cases_order}
use Rattle.std.proofs.lemmas.List.{length-replicate}
use Rattle.std.proofs.lemmas.List.Sums.{sum_by_more}
use Rattle.std.proofs.lemmas.Nat.{from_le_bytes-to_le_bytes_8}
use lib.Seq.{take-length}
use Rattle.us_raw.specs.declared.region.Segment.{Segment}
use Rattle.us_raw.specs.declared.width.Width.{Width}
use Rattle.us_raw.specs.declared.width.Width.TheVariants.{W1, W2, W4, W8}
use Rattle.us_raw.specs.Layout.{word}
use Rattle.us_raw.specs.Plan.{IsTable, put, entered, cells_size, start_of, size_of_plan, no_segment}
use Rattle.us_raw.specs.Widths.{size_of}
use Rattle.us_raw.proofs.Kept.{over, over-length, kept, written_there, overwritten_is}

module _ (bs : List ℕ) (at w : ℕ) (fits : at + 8 ≤ length bs) where
  put_is : put bs at w ≡ over bs (to_le_bytes w64 w) at fits
  unfolding put
  put_is = overwritten_is bs (to_le_bytes w64 w) at 8 refl

  pub put-length : length (put bs at w) ≡ length bs
  put-length = ap (λ (l : List ℕ). length l) put_is ∙ over-length bs (to_le_bytes w64 w) at fits

  pub put_kept : (p k : ℕ) → (p + k ≤ at) ⊎ (at + 8 ≤ p) → take k (drop p (put bs at w)) ≡ take k (drop p bs)
  put_kept p k apart = ap (λ (l : List ℕ). take k (drop p l)) put_is ∙ kept bs (to_le_bytes w64 w) at fits p k apart

  pub put_other : (p : ℕ) → (p + 8 ≤ at) ⊎ (at + 8 ≤ p) → word (put bs at w) p ≡ word bs p
  unfolding word
  put_other p apart = ap (from_le_bytes w64) (put_kept p 8 apart)

  pub put_there : w < 2 ^ 64 → word (put bs at w) at ≡ w
  unfolding word
  put_there small =
      ap (λ (l : List ℕ). from_le_bytes w64 (take 8 (drop at l))) put_is ∙ ap (from_le_bytes w64) (written_there bs (to_le_bytes w64 w) at fits) ∙ from_le_bytes-to_le_bytes_8 w small

module _ (bs : List ℕ) (i a b c : ℕ) (fits : i * 24 + 24 ≤ length bs) where
  abbrev one : List ℕ
  one = put bs (i * 24) a

  abbrev two : List ℕ
  two = put one (i * 24 + 8) b

  fits1 : i * 24 + 8 ≤ length bs
  fits1 = omega arith

  fits2 : i * 24 + 8 + 8 ≤ length one
  fits2 = omega (arith, put-length bs (i * 24) a fits1)

  fits3 : i * 24 + 16 + 8 ≤ length two
  fits3 = omega (arith, put-length bs (i * 24) a fits1, put-length one (i * 24 + 8) b fits2)

  pub entered-length : length (entered bs i a b c) ≡ length bs
  unfolding entered
  entered-length = put-length two (i * 24 + 16) c fits3 ∙ put-length one (i * 24 + 8) b fits2 ∙ put-length bs (i * 24) a fits1

  pub entered_behind : (p k : ℕ) → i * 24 + 24 ≤ p → take k (drop p (entered bs i a b c)) ≡ take k (drop p bs)
  unfolding entered
  entered_behind p k far =
      put_kept two (i * 24 + 16) c fits3 p k (inr (omega arith)) ∙ put_kept one (i * 24 + 8) b fits2 p k (inr (omega arith)) ∙ put_kept bs (i * 24) a fits1 p k (inr (omega arith))

  pub entered_before : (p : ℕ) → p + 8 ≤ i * 24 → word (entered bs i a b c) p ≡ word bs p
  unfolding entered
  entered_before p low =
      put_other two (i * 24 + 16) c fits3 p (inl (omega arith)) ∙ put_other one (i * 24 + 8) b fits2 p (inl (omega arith)) ∙ put_other bs (i * 24) a fits1 p (inl (omega arith))

  pub entered_start : a < 2 ^ 64 → word (entered bs i a b c) (i * 24) ≡ a
  unfolding entered
  entered_start small =
      put_other two (i * 24 + 16) c fits3 (i * 24) (inl (omega arith)) ∙ put_other one (i * 24 + 8) b fits2 (i * 24) (inl (omega arith)) ∙ put_there bs (i * 24) a fits1 small

  pub entered_len : b < 2 ^ 64 → word (entered bs i a b c) (i * 24 + 8) ≡ b
  unfolding entered
  entered_len small = put_other two (i * 24 + 16) c fits3 (i * 24 + 8) (inl (omega arith)) ∙ put_there one (i * 24 + 8) b fits2 small

  pub entered_size : c < 2 ^ 64 → word (entered bs i a b c) (i * 24 + 16) ≡ c
  unfolding entered
  entered_size small = put_there two (i * 24 + 16) c fits3 small

pub size_small : (w : Width) → size_of w ≤ 8
size_small W1 = omega arith
size_small W2 = omega arith
size_small W4 = omega arith
size_small W8 = omega arith

pub cells_small : (s : Segment) → s.len ≤ 67108865 → cells_size s ≤ 536870920
unfolding cells_size
cells_small s short = elim s.width as (λ (w : Width). s.len * size_of w ≤ 536870920) [ W1 ↦ omega (arith, short) | W2 ↦ omega (arith, short) | W4 ↦ omega (arith, short) | W8 ↦ omega (arith, short) ]

pub start_first : (plan : List Segment) → start_of plan 0 ≡ length plan * 24
unfolding start_of
start_first plan = omega arith

pub start_more : (plan : List Segment) (i : ℕ) (d : Segment) → i < length plan → start_of plan (i + 1) ≡ start_of plan i + cells_size (get_or plan i d)
unfolding start_of
start_more plan i d lt = omega (arith, sum_by_more cells_size plan i d lt)

pub start_last : (plan : List Segment) (i : ℕ) → i ≡ length plan → start_of plan i ≡ size_of_plan plan
unfolding start_of size_of_plan
start_last plan i all = ap (λ (l : List Segment). length plan * 24 + sum_by cells_size l) (ap (λ (k : ℕ). take k plan) all ∙ take-length plan)

pub table_fits : (plan : List Segment) (bs : List ℕ) (i : ℕ) → IsTable plan bs i → i < length plan → i * 24 + 24 ≤ length bs
unfolding size_of_plan
table_fits plan bs i t lt = omega (arith, t.long)

-- below i, or i itself
either : (P : ℕ → Type 0) (i : ℕ) → ((j : ℕ) → j < i → P j) → P i → (j : ℕ) → j < i + 1 → P j
either P i below here j lt = elim (cases_order j i) [
  | inl same ↦ subst P (sym same) here
  | inr (inl before) ↦ below j before
  | inr (inr behind) ↦ absurd (omega (arith, behind, lt))
]

pub table_first : (plan : List Segment) (bs : List ℕ) → bs ≡ replicate (size_of_plan plan) 0 → IsTable plan bs 0
table_first plan bs zeros = record {
  long = ap (λ (l : List ℕ). length l) zeros ∙ length-replicate (size_of_plan plan) 0;
  starts = λ j lt. absurd (omega (arith, lt));
  lengths = λ j lt. absurd (omega (arith, lt));
  sizes = λ j lt. absurd (omega (arith, lt));
  clear = λ p k far. ap (λ (l : List ℕ). take k (drop p l)) zeros;
}

pub table_more : (plan : List Segment) (bs : List ℕ) (i : ℕ) (start : ℕ) (s : Segment) → IsTable plan bs i → i < length plan → start ≡ start_of plan i → start < 2 ^ 64
    → s ≡ get_or plan i no_segment → s.len < 2 ^ 64 → IsTable plan (entered bs i start s.len (size_of s.width)) (i + 1)
table_more plan bs i start s t lt begins small is short =
    let fits = table_fits plan bs i t lt in let len = s.len in let size = size_of s.width in let new = entered bs i start len size in
    record {
      long = entered-length bs i start len size fits ∙ t.long;
      starts = either (λ j. word new (j * 24) ≡ start_of plan j) i (λ j below. entered_before bs i start len size fits (j * 24) (omega (arith, below)) ∙ t.starts j below)
          (entered_start bs i start len size fits small ∙ begins);
      lengths = either (λ j. word new (j * 24 + 8) ≡ (get_or plan j no_segment).len) i
          (λ j below. entered_before bs i start len size fits (j * 24 + 8) (omega (arith, below)) ∙ t.lengths j below)
          (entered_len bs i start len size fits short ∙ ap (λ (r : Segment). r.len) is);
      sizes = either (λ j. word new (j * 24 + 16) ≡ size_of (get_or plan j no_segment).width) i
          (λ j below. entered_before bs i start len size fits (j * 24 + 16) (omega (arith, below)) ∙ t.sizes j below)
          (entered_size bs i start len size fits (omega (arith, size_small s.width)) ∙ ap (λ (r : Segment). size_of r.width) is);
      clear = λ p k far. entered_behind bs i start len size fits p k (omega (arith, far, lt)) ∙ t.clear p k far;
    }
