-- Both phases are typed, and the result is visible behind them.
use Rattle.std.proofs.Common.{◌≡◌, ℕ, nat_lt, [], ◌∷◌, ap, ◌∙◌, inr, arith, Option, None}
use Rattle.us_judge.specs.Views.{declaration_of}
use Rattle.us_judge.proofs.Valid.{queries-valid}
use Rattle.us_code.specs.Typing.{Context, BufKind, with_bufs, after_phase}
use Rattle.us_code_laws.proofs.Sequence.{put_same}
use Rattle.us_gen.specs.Rooms.{FreshFrom}
use Rattle.us_gen_counting.proofs.PhaseFits.{outer_same}
use Rattle.us_gen_unpack.specs.Rooms.{SeesParts}
use Rattle.us_gen_opening.specs.Dims.{AreNew, DimsSeen}
use Rattle.us_gen_opening.specs.Opening.{opening_phase, all_lines}
use Rattle.us_gen_opening.specs.Rooms.{SeesOpenings}
use Rattle.us_gen_opening.proofs.OpeningFits.{opening_is_typed}
use Rattle.us_gen_opening.proofs.PartDims.{openings_tell}
use Rattle.us_gen_opening.proofs.PartSources.{openings_stand}
use Rattle.us_gen_parts.proofs.Visible.{walks-seen}
use Rattle.us_gen_product.specs.Product.{add_parts, made_result}
use Rattle.us_gen_product.proofs.ProductFits.{product_is_typed}
use Rattle.us_gen_listing.specs.Unpack.{start_at}
use Rattle.us_gen_kernel.specs.Kernel.{KernelIsTyped}

pub kernel-typed : KernelIsTyped
kernel-typed g s d p count first n k low os xs valid kept unpackers room operand free low_first low_n behind low_result =
    let regs : FreshFrom g n = record { none = λ r l. free.regs.none r (omega (arith, l, low_n)) } in
    let sees : SeesOpenings g os = openings_stand.sees g (start_at first) s (declaration_of d).parts os unpackers.openings (omega (arith, room)) in
    let new : AreNew low (all_lines count n os) =
    openings_tell.new (start_at first) s (declaration_of d).parts os count n low unpackers.openings (queries-valid d valid) low_first (omega (arith, low_first, behind)) (inr behind) in
    let seen : (h : Context) → h.sources ≡ g.sources → DimsSeen h os → SeesParts h xs =
    λ h e dims. walks-seen h (start_at first) s d xs valid kept unpackers.walks (omega (arith, room, e)) (openings_tell.forms h (start_at first) s (declaration_of d).parts os unpackers.openings dims) in
    let t = opening_is_typed g count n low os regs free.dims sees new in
    let h : Context = after_phase g (opening_phase count n os) in
    let none : h.bufs p.result ≡ None = ap (λ (f : ℕ → Option BufKind). f p.result) t.opened.bufs ∙ free.bufs p.result low_result in
    let product = product_is_typed h p xs k t.opened.fresh (ap (λ (x : ℕ). nat_lt p.operand x) t.opened.sources ∙ operand) none (seen h t.opened.sources t.opened.dims) in
    record {
      typed = (t.typed.0, t.typed.1, t.typed.2, product);
      result = ap (λ (f : ℕ → Option BufKind). f p.result) (outer_same (with_bufs h (made_result p ∷ [])) (add_parts p xs k)).bufs ∙ put_same h.bufs p.result _;
    }
