-- Both phases multiply the matrix by the operand.
use Rattle.std.specs.Prelude.{None}
use Rattle.std.specs.Int.{int_wrap}
use mir.Syntax.{w64}
use Rattle.std.proofs.Common.{◌≡◌, ℕ, ◌+◌, ◌*◌, ◌^◌, ◌<◌, ◌≤◌, List, [], ◌∷◌, map, length, ℤ, sym, ap, subst, ◌∙◌, inr, arith}
use Rattle.us_format.specs.Lists.{nth}
use Rattle.us_format.specs.Matrix.{Shape, Entry, IsMatrixOf}
use Rattle.us_format.specs.Buffers.{holds, parts_of, buffers, size}
use Rattle.us_format.specs.Reading.{limit}
use Rattle.us_decl.specs.Declares.{Declared, IsValid}
use Rattle.us_judge.specs.Acceptance.{first_refusal}
use Rattle.us_judge.specs.Views.{declaration_of}
use Rattle.us_judge.proofs.Valid.{queries-valid}
use Rattle.us_code.specs.Run.{Env}
use Rattle.us_code.specs.Runs.{World, Ran, phases}
use Rattle.us_gen.specs.Goes.{Leads}
use Rattle.us_gen.proofs.Going.{leads_both, leads_weaker}
use Rattle.us_gen_unpack.specs.declared.listing.PartWalk.{PartWalk}
use Rattle.us_gen_unpack.specs.Runs.{Listed, total}
use Rattle.us_gen_opening.specs.declared.parts.Opening.{Opening}
use Rattle.us_gen_opening.specs.Dims.{AreNew}
use Rattle.us_gen_opening.specs.Opening.{opening_phase, all_lines}
use Rattle.us_gen_opening.specs.Runs.{Opened, openings, listeds, open_cost, Opens}
use Rattle.us_gen_opening.specs.Tells.{AreOpeningsOf}
use Rattle.us_gen_opening.proofs.OpeningRuns.{opening_opens}
use Rattle.us_gen_opening.proofs.PartDims.{openings_tell}
use Rattle.us_gen_parts.specs.Walks.{AreWalksOf}
use Rattle.us_gen_parts.proofs.EntriesFew.{all-few}
use Rattle.us_gen_product.specs.declared.product.Product.{Product}
use Rattle.us_gen_product.specs.Dense.{column, adds, sum_over, IsDense}
use Rattle.us_gen_product.specs.Product.{product_phase}
use Rattle.us_gen_product.specs.Runs.{IsProductOn, HoldsProduct, product_cost, sum_of_parts}
use Rattle.us_gen_product.proofs.ProductRuns.{products_add}
use Rattle.us_gen_listing.specs.Unpack.{start_at, level_count, query_count}
use Rattle.us_gen_listing.proofs.AllCosts.{weight, weight-is}
use Rattle.us_gen_kernel.specs.Kernel.{multiplying, multiplying_steps, FormatIsMultiplied}
use Rattle.us_gen_kernel.proofs.Costs.{product-few, bound}
use Rattle.us_gen_kernel.proofs.PartsListed.{of_parts, both, steps, law, walks_of, openable, openings_are, listeds_are, listable, total_is, listing_few, opening_few, loops_are}
use Rattle.us_gen_kernel.proofs.SharedSums.{sum-parts}

cheaper : (low m n : ℕ) (w : World) (r : Ran) (Q : World → Type 0) → m ≤ n → Leads low m w r Q → Leads low n w r Q
cheaper low m n w r Q le x = record { end = x.end; arrives = record { is = x.arrives.is; steps = omega (arith, x.arrives.steps, le); keeps = x.arrives.keeps }; post = x.post }

module _ (w : World) (s : Shape) (d : Declared) (m : List Entry) (p : Product) (count first n k low : ℕ) (os : List Opening) (xs : List PartWalk) (valid : IsValid d) (kept : first_refusal (declaration_of d) ≡ None) (im : IsMatrixOf s m)
    (rows : s.rows < 2 ^ 31) (cols : s.cols < 2 ^ 31) (within : size s (declaration_of d) m ≤ limit) (walks : AreWalksOf (start_at first) s (declaration_of d).parts xs) (opens : AreOpeningsOf (start_at first) s (declaration_of d).parts os)
    (sources : (j : ℕ) → j < length (buffers s (declaration_of d) m) → w.env.sources j ≡ nth (buffers s (declaration_of d) m) j) (short : (j : ℕ) → length (w.env.sources j) < 2 ^ 63)
    (on : IsProductOn w.env s p) (new : AreNew low (all_lines count n os)) (le : low ≤ p.result) where
  abbrev bs : List Opened
  bs = both w s d m first os xs valid kept im rows cols within walks opens sources short

  number : total (listeds bs) ≡ length m
  number = total_is w s d m first os xs valid kept im rows cols within walks opens sources short

  abbrev Q : World → Type 0
  Q u = IsDense s m p.columns (w.env.sources p.operand) (u.bufs p.result)

  -- the sum over all parts is that over all entries
  sums : (f : Entry → ℤ) → sum_of_parts f (listeds bs) ≡ sum_over f m
  sums f =
      ap (sum_of_parts f) (listeds_are w s d m first os xs valid kept im rows cols within walks opens sources short)
      ∙ sum-parts f (start_at first) s xs (holds m s (declaration_of d)) (declaration_of d).conds (declaration_of d).parts m (law w s d m first os xs valid kept im rows cols within walks opens sources short).one_more
      (walks_of w s d m first os xs valid kept im rows cols within walks opens sources short)

  dense : (ys : List ℤ) → HoldsProduct s (listeds bs) p.columns (w.env.sources p.operand) ys → IsDense s m p.columns (w.env.sources p.operand) ys
  dense ys h = record { long = h.long; each = λ j i lj li. h.each j i lj li ∙ ap (int_wrap w64) (sums (adds (column (w.env.sources p.operand) s.cols j) i)) }

  on_same : (env : Env) → env.sources ≡ w.env.sources → IsProductOn env s p
  on_same env e = record { rows = on.rows; inner = on.inner; long = ap (λ (f : ℕ → List ℤ). length (f p.operand)) e ∙ on.long; short = on.short; few = on.few }

  abbrev all_steps : ℕ
  all_steps = steps w s d m first os xs valid kept im rows cols within walks opens sources short + 6 * (p.columns * length m)

  phases_lead : Leads low (open_cost w.env s bs + (1 + all_steps)) w (phases (opening_phase count n (openings bs) ∷ (product_phase p (map (λ (x : Listed). x.loops) (listeds bs)) k ∷ [])) w) Q
  phases_lead =
      leads_both low low (open_cost w.env s bs) (1 + all_steps) (opening_phase count n (openings bs) ∷ []) (product_phase p (map (λ (x : Listed). x.loops) (listeds bs)) k ∷ []) w (Opens w s bs count) Q (omega arith)
      (opening_opens w s bs count n low (openable w s d m first os xs valid kept im rows cols within walks opens sources short) (listable w s d m first os xs valid kept im rows cols within walks opens sources short)
      (subst (λ (zs : List Opening). AreNew low (all_lines count n zs)) (sym (openings_are w s d m first os xs valid kept im rows cols within walks opens sources short)) new) few)
      (λ u o keeps.
      cheaper low (1 + product_cost u.env s p (listeds bs)) (1 + all_steps) u (phases (product_phase p (map (λ (x : Listed). x.loops) (listeds bs)) k ∷ []) u) Q
      (omega (arith, product-few u.env s p (listeds bs), listing_few w s d m first os xs valid kept im rows cols within walks opens sources short u.env o.listable, ap (λ (x : ℕ). p.columns * x) number))
      (leads_weaker low (1 + product_cost u.env s p (listeds bs)) u (phases (product_phase p (map (λ (x : Listed). x.loops) (listeds bs)) k ∷ []) u)
      (λ v. HoldsProduct s (listeds bs) p.columns (u.env.sources p.operand) (v.bufs p.result)) Q
      (λ v h kept_too. dense (v.bufs p.result) (subst (λ (f : ℕ → List ℤ). HoldsProduct s (listeds bs) p.columns (f p.operand) (v.bufs p.result)) keeps.sources h))
      (products_add u s (listeds bs) p k low o.listable (on_same u.env keeps.sources) le)))
    where
      few : total (listeds bs) ≤ limit
      few = omega (arith, number, all-few s (declaration_of d) m (law w s d m first os xs valid kept im rows cols within walks opens sources short) im within)

  cost : open_cost w.env s bs + (1 + all_steps) ≤ multiplying_steps s (declaration_of d) m p.columns
  cost =
      let grouped : 1 + (level_count (declaration_of d) + query_count (declaration_of d)) ≡ 1 + level_count (declaration_of d) + query_count (declaration_of d) = omega arith in
      let sizes : size s (declaration_of d) m + 1 + p.columns * length m ≡ size s (declaration_of d) m + length m * p.columns + 1 = omega arith in
      subst (λ (y : ℕ). open_cost w.env s bs + (1 + all_steps) ≤ 64 * ((1 + level_count (declaration_of d) + query_count (declaration_of d)) * y)) sizes
      (subst (λ (y : ℕ). open_cost w.env s bs + (1 + all_steps) ≤ 64 * (y * (size s (declaration_of d) m + 1 + p.columns * length m))) grouped
      (bound (open_cost w.env s bs) all_steps (weight (of_parts (parts_of s (declaration_of d) m))) (level_count (declaration_of d) + query_count (declaration_of d)) (size s (declaration_of d) m + 1) (p.columns * length m)
      (opening_few w s d m first os xs valid kept im rows cols within walks opens sources short) (omega arith) (weight-is s d m valid kept im) (omega arith)))

  pub all-lead : Leads low (multiplying_steps s (declaration_of d) m p.columns) w (phases (multiplying p count n k os xs) w) Q
  all-lead =
      cheaper low (open_cost w.env s bs + (1 + all_steps)) (multiplying_steps s (declaration_of d) m p.columns) w (phases (multiplying p count n k os xs) w) Q cost
      (subst (λ (zs : List Opening). Leads low (open_cost w.env s bs + (1 + all_steps)) w (phases (opening_phase count n zs ∷ (product_phase p xs k ∷ [])) w) Q) (openings_are w s d m first os xs valid kept im rows cols within walks opens sources short)
      (subst (λ (ts : List PartWalk). Leads low (open_cost w.env s bs + (1 + all_steps)) w (phases (opening_phase count n (openings bs) ∷ (product_phase p ts k ∷ [])) w) Q) (loops_are w s d m first os xs valid kept im rows cols within walks opens sources short) phases_lead))

pub format-multiplied : FormatIsMultiplied
format-multiplied w s d m p count first n k low os xs valid kept im rows cols within unpackers sources short on low_first behind low_result =
    all-lead w s d m p count first n k low os xs valid kept im rows cols within unpackers.walks unpackers.openings sources short on
    (openings_tell.new (start_at first) s (declaration_of d).parts os count n low unpackers.openings (queries-valid d valid) low_first (omega (arith, low_first, behind)) (inr behind)) low_result
