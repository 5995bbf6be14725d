-- A pack of the loop is the pack of the part.
use Rattle.std.proofs.Common.{◌≡◌, ℕ, zero, suc, ◌+◌, ◌*◌, ◌/◌, ◌%◌, ◌<◌, List, [], ◌∷◌, map, length, get_or, sym, refl, ap, ◌∙◌, inl, inr, subst, arith, ℤ, pos, mul_comm}
use Rattle.std.specs.Prelude.{slice_index_or}
use Rattle.std.proofs.Math.Nat.{mod-lt, div-lt_iff_lt-mul}
use Rattle.std.proofs.lemmas.Nat.{div-add-mod'}
use Rattle.std.proofs.lemmas.List.{ext_get_or, get_or-map, length-map}
use Rattle.us_format.specs.Lists.{cell}
use Rattle.us_format.specs.Declaration.{Column, ValueColumn}
use Rattle.us_format.specs.Packs.{Buffer, interleaved, nothing, written}
use Rattle.us_format.proofs.Order.{Mem}
use Rattle.us_format.proofs.Climb.{length-written}
use Rattle.us_format.proofs.Packs.{AllLong, long-sum, pack-cell}
use Rattle.us_gen_packs.specs.Turns.{Interleaves}

-- columns that are written as these numbers
module _ (n : ℕ) (f : ℕ → ℕ → ℤ) (its : Column → Buffer) where
  pub all-long : (pack : List Column) → ((c : Column) → Mem c pack → (its c).len ≡ n) → AllLong n (map its pack)
  all-long [] h = tt
  all-long (c ∷ cs) h = (h c (inl refl), all-long cs (λ d m. h d (inr m)))

  -- cells that interleave the columns are the pack
  pub pack-is : (pack : List Column) (cells : List ℤ) (w : ℕ) → w ≡ length pack → ((c : Column) → Mem c pack → (its c).len ≡ n) → ((y z : ℕ) → y < length pack → z < n → (its (slice_index_or pack y ValueColumn)).cell z ≡ f y z)
      → Interleaves cells n w f → cells ≡ written (interleaved (map its pack))
  pack-is pack cells w ew long are i =
      ext_get_or (pos 0) cells (written (interleaved bs)) (i.long ∙ (sym total ∙ sym (length-written (interleaved bs)))) (λ x h. at x (omega (arith, h, i.long)))
    where
      bs : List Buffer
      bs = map its pack

      many : length bs ≡ length pack
      many = length-map pack its

      lengths : AllLong n bs
      lengths = all-long pack long

      total : (interleaved bs).len ≡ n * w
      total = long-sum n bs lengths ∙ (ap (λ (k : ℕ). k * n) (many ∙ sym ew) ∙ mul_comm w n)

      column : (y : ℕ) → y < length pack → get_or bs y nothing ≡ its (slice_index_or pack y ValueColumn)
      column y h = get_or-map its pack y ValueColumn nothing h

      split : (z y : ℕ) → z < n → y < w → slice_index_or cells (z * w + y) (pos 0) ≡ slice_index_or (written (interleaved bs)) (z * w + y) (pos 0)
      split z y hz hy =
          let hp : y < length pack = omega (arith, hy, ew) in
          let ww : w ≡ length bs = ew ∙ sym many in
          i.each z y hz hy
          ∙ (sym (are y z hp hz)
          ∙ (ap (λ (b : Buffer). b.cell z) (sym (column y hp))
          ∙ (sym (pack-cell n bs z y lengths (omega (arith, hp, many)) hz) ∙ ap (λ (k : ℕ). cell (written (interleaved bs)) (z * k + y)) (sym ww))))

      at : (x : ℕ) → x < n * w → slice_index_or cells x (pos 0) ≡ slice_index_or (written (interleaved bs)) x (pos 0)
      at x h = go w refl
        where
          go : (v : ℕ) → v ≡ w → slice_index_or cells x (pos 0) ≡ slice_index_or (written (interleaved bs)) x (pos 0)
          go zero e = let q : n * w ≡ n * 0 = ap (λ (k : ℕ). n * k) (sym e) in absurd (omega (arith, h, q))
          go (suc v) e =
              let up : 0 < w = omega (arith, e) in
              subst (λ (y : ℕ). slice_index_or cells y (pos 0) ≡ slice_index_or (written (interleaved bs)) y (pos 0)) (div-add-mod' x w) (split (x / w) (x % w) ((div-lt_iff_lt-mul up).1 h) (mod-lt x up))
