-- Both phases are typed, and what is visible behind them.
use Rattle.std.proofs.Common.{◌≡◌, ℕ, List, [], ◌∷◌, true, false, refl, sym, ap, ◌∙◌, inr, arith, Option, Some}
use Rattle.us_judge.specs.Views.{declaration_of}
use Rattle.us_judge.proofs.Valid.{queries-valid}
use Rattle.us_code.specs.declared.program.CellKind.TheVariants as kind
use Rattle.us_code.specs.declared.program.Dim.TheVariants as dim
use Rattle.us_code.specs.declared.pieces.Columns.{Columns}
use Rattle.us_code.specs.Plain.{Code, End, Let, Load, Var, Put, Set, For, Span, If, When, Order}
use Rattle.us_code.specs.Run.{put}
use Rattle.us_code.specs.Typing.{Context, BufKind, Form, is_some, with_reg, with_bufs, kind_of, cell_of, outer, after_phase}
use Rattle.us_code_laws.proofs.Sequence.{put_same, put_other}
use Rattle.us_gen.specs.Rooms.{FreshFrom}
use Rattle.us_gen_counting.specs.Rooms.{SeesColumns}
use Rattle.us_gen_unpack.specs.declared.listing.PartWalk.{PartWalk}
use Rattle.us_gen_unpack.specs.Listing.{listing, listing_phase, words}
use Rattle.us_gen_unpack.specs.Rooms.{SeesParts, AreNew as AreNewColumns}
use Rattle.us_gen_unpack.specs.Runs.{AreApart}
use Rattle.us_gen_opening.specs.Dims.{AreNew, DimsSeen}
use Rattle.us_gen_opening.specs.Opening.{opening_phase, all_lines}
use Rattle.us_gen_opening.specs.Rooms.{SeesOpenings}
use Rattle.us_gen_opening.proofs.BothPhases.{unpack_is_typed}
use Rattle.us_gen_opening.proofs.OpeningFits.{opening_is_typed}
use Rattle.us_gen_opening.proofs.PartDims.{openings_tell}
use Rattle.us_gen_opening.proofs.PartSources.{openings_stand}
use Rattle.us_gen_parts.proofs.Visible.{walks-seen}
use Rattle.us_gen_listing.specs.Unpack.{start_at, FormatIsTyped}

-- a block changes registers alone
record KeepsNames (g h : Context) : Type 0 where
  bufs : h.bufs ≡ g.bufs
  dims : h.dims ≡ g.dims

outer_keeps : (g : Context) (c : Code) → KeepsNames g (outer g c)
outer_keeps g End = record { bufs = refl; dims = refl }
outer_keeps g (Let r e rest) = let x = outer_keeps (with_reg g r false (kind_of g e)) rest in record { bufs = x.bufs; dims = x.dims }
outer_keeps g (Load r b at rest) = let x = outer_keeps (with_reg g r false (cell_of g b)) rest in record { bufs = x.bufs; dims = x.dims }
outer_keeps g (Var r e rest) = let x = outer_keeps (with_reg g r true kind.Word) rest in record { bufs = x.bufs; dims = x.dims }
outer_keeps g (Put r e rest) = outer_keeps g rest
outer_keeps g (Set b at e rest) = outer_keeps g rest
outer_keeps g (For r d body rest) = outer_keeps g rest
outer_keeps g (Span r a b d body rest) = outer_keeps g rest
outer_keeps g (If l eq r body given other rest) = outer_keeps g rest
outer_keeps g (When e d r body given other rest) = outer_keeps g rest
outer_keeps g (Order b keys rest) = outer_keeps g rest

-- three columns behind the phase that fills them
columns_behind : (h : Context) (c : Columns) (k : ℕ) (xs : List PartWalk) → AreApart c → is_some (h.dims c.count) ≡ true → SeesColumns (after_phase h (listing_phase c k xs)) c
columns_behind h c k xs apart seen =
    let kept = outer_keeps (with_bufs h (words c.i c.count ∷ words c.j c.count ∷ words c.v c.count ∷ [])) (listing c k xs) in
    let buf : (b : ℕ) → (outer (with_bufs h (words c.i c.count ∷ words c.j c.count ∷ words c.v c.count ∷ [])) (listing c k xs)).bufs b
    ≡ put (put (put h.bufs c.i (Some record { len = dim.Name c.count; cell = kind.Word })) c.j (Some record { len = dim.Name c.count; cell = kind.Word })) c.v (Some record { len = dim.Name c.count; cell = kind.Word }) b
    = λ b. ap (λ (f : ℕ → Option BufKind). f b) kept.bufs in
    record {
      count = ap (λ (f : ℕ → Option Form). is_some (f c.count)) kept.dims ∙ seen;
      i =
          buf c.i
          ∙ put_other (put (put h.bufs c.i (Some record { len = dim.Name c.count; cell = kind.Word })) c.j (Some record { len = dim.Name c.count; cell = kind.Word })) c.v (Some record { len = dim.Name c.count; cell = kind.Word }) c.i (λ e. apart.i_v (sym e))
          ∙ put_other (put h.bufs c.i (Some record { len = dim.Name c.count; cell = kind.Word })) c.j (Some record { len = dim.Name c.count; cell = kind.Word }) c.i (λ e. apart.i_j (sym e))
          ∙ put_same h.bufs c.i (Some record { len = dim.Name c.count; cell = kind.Word });
      j =
          buf c.j
          ∙ put_other (put (put h.bufs c.i (Some record { len = dim.Name c.count; cell = kind.Word })) c.j (Some record { len = dim.Name c.count; cell = kind.Word })) c.v (Some record { len = dim.Name c.count; cell = kind.Word }) c.j (λ e. apart.j_v (sym e))
          ∙ put_same (put h.bufs c.i (Some record { len = dim.Name c.count; cell = kind.Word })) c.j (Some record { len = dim.Name c.count; cell = kind.Word });
      v = buf c.v ∙ put_same (put (put h.bufs c.i (Some record { len = dim.Name c.count; cell = kind.Word })) c.j (Some record { len = dim.Name c.count; cell = kind.Word })) c.v (Some record { len = dim.Name c.count; cell = kind.Word });
    }

pub format-typed : FormatIsTyped
format-typed g s d c first n k low os xs valid kept unpackers room free low_first low_n behind ci cj cv apart =
    let regs : FreshFrom g n = record { none = λ r l. free.regs.none r (omega (arith, l, low_n)) } in
    let sees : SeesOpenings g os = openings_stand.sees g (start_at first) s (declaration_of d).parts os unpackers.openings (omega (arith, room)) in
    let new : AreNew low (all_lines c.count n os) =
    openings_tell.new (start_at first) s (declaration_of d).parts os c.count n low unpackers.openings (queries-valid d valid) low_first (omega (arith, low_first, behind)) (inr behind) in
    let columns : AreNewColumns g c = record {
      i = free.bufs c.i (omega (arith, low_first, behind, ci));
      j = free.bufs c.j (omega (arith, low_first, behind, cj));
      v = free.bufs c.v (omega (arith, low_first, behind, cv));
      i_j = apart.i_j;
      i_v = apart.i_v;
      j_v = apart.j_v;
    } in
    let seen : (h : Context) → h.sources ≡ g.sources → DimsSeen h os → SeesParts h xs =
    λ h e dims. walks-seen h (start_at first) s d xs valid kept unpackers.walks (omega (arith, room, e)) (openings_tell.forms h (start_at first) s (declaration_of d).parts os unpackers.openings dims) in
    let opened = opening_is_typed g c.count n low os regs free.dims sees new in
    record {
      typed = unpack_is_typed g c n k low os xs regs free.dims sees new columns seen;
      columns = columns_behind (after_phase g (opening_phase c.count n os)) c k xs apart (ap is_some opened.opened.counted);
    }
