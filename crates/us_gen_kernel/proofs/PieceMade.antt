-- What a piece does, by what it is made of.
use Rattle.std.specs.Prelude.{None, Some}
use Rattle.std.proofs.Common.{◌≡◌, ℕ, ◌+◌, ◌*◌, ◌^◌, ◌<◌, ◌≤◌, true, nat_lt, List, [], ◌∷◌, map, length, refl, sym, subst, inl, inr, arith, sum_by, mul-le-mul_left}
use Rattle.std.proofs.lemmas.Bool.Decides.{nat_tests}
use Rattle.std.proofs.lemmas.List.Sums.{sum_by-cons}
use Rattle.us_format.specs.Matrix.{Shape}
use Rattle.us_format.specs.Declaration.{Part}
use Rattle.us_format.specs.Reading.{buffer_count, total_count}
use Rattle.us_format.proofs.Order.{Mem}
use Rattle.us_decl.specs.Declares.{Declared, IsValid}
use Rattle.us_judge.specs.Acceptance.{first_refusal}
use Rattle.us_judge.specs.Short.{AreShort}
use Rattle.us_judge.specs.Views.{declaration_of}
use Rattle.us_judge.proofs.Valid.{short-valid}
use Rattle.us_code.specs.declared.pieces.BuildPiece.{BuildPiece}
use Rattle.us_code.specs.declared.program.CellKind.TheVariants as kind
use Rattle.us_code.specs.Plain.{PhaseTree, phase_tree}
use Rattle.us_code.specs.Runs.{phases}
use Rattle.us_code.specs.Typing.{TypedPhases, after_phases}
use Rattle.us_gen.specs.Goes.{Leads}
use Rattle.us_gen_places.specs.Dims.{dim_count}
use Rattle.us_gen_unpack.specs.declared.listing.PartWalk.{PartWalk}
use Rattle.us_gen_unpack.specs.Listing as list
use Rattle.us_gen_opening.specs.declared.parts.Opening.{Opening}
use Rattle.us_gen_product.specs.declared.product.Product.{Product}
use Rattle.us_gen_product.specs.Dense.{IsDense}
use Rattle.us_gen_product.specs.Product.{rooms, result_length}
use Rattle.us_gen_product.specs.Runs.{IsProductOn}
use Rattle.us_gen_listing.specs.Unpack.{start_at, AreUnpackers}
use Rattle.us_gen_listing.proofs.NumbersFit.{IsTame, HasRoom, buffers_few}
use Rattle.us_gen_listing.proofs.PartsFit.{HaveRoom, parts-tame, walks-fit, openings-fit, openings-number}
use Rattle.us_gen_listing.proofs.PieceMade.{walks-number}
use Rattle.us_gen_parts.proofs.RoomFew.{walks-few}
use Rattle.us_limits.specs.Small.{KeepText}
use Rattle.us_gen_kernel.proofs.TextKept.{FitsProduct, multiplying-keeps}
use Rattle.us_gen_kernel.specs.Kernel.{multiplying, multiplying_steps, product_from, Multiplies, IsTypedTo}
use Rattle.us_gen_kernel.proofs.FormatMultiplied.{format-multiplied}
use Rattle.us_gen_kernel.proofs.KernelTyped.{kernel-typed}

-- ---- numbers

parts_few : (ps : List Part) → ((p : Part) → Mem p ps → IsTame p) → sum_by buffer_count ps ≤ 81 * length ps
parts_few [] tame = let none : sum_by buffer_count [] ≡ 0 = refl in omega (arith, none)
parts_few (p ∷ ps) tame =
    let room : HasRoom (record { source = 0; dim = 0 }) = record { source = omega arith; dim = omega arith } in
    omega (arith, sum_by-cons buffer_count p ps, buffers_few (record { source = 0; dim = 0 }) p (tame p (inl refl)) room, parts_few ps (λ q i. tame q (inr i)))

pub buffers-few : (d : Declared) → IsValid d → first_refusal (declaration_of d) ≡ None → total_count (declaration_of d) ≤ 324
buffers-few d valid kept = omega (arith, parts_few (declaration_of d).parts (parts-tame d valid kept), (short-valid d valid).few)

dims_few : (ps : List Part) → AreShort ps → dim_count ps ≤ 48 * length ps
dims_few [] h = omega arith
dims_few (p ∷ ps) h = omega (arith, h.0.levels, dims_few ps h.1)

pub rooms-few : (xs : List PartWalk) → rooms xs ≤ list.rooms xs + 8 * length xs
rooms-few [] = omega arith
rooms-few (x ∷ xs) = omega (arith, rooms-few xs)

pub cells-few : (rows columns : ℕ) → rows < 2 ^ 31 → columns < 2 ^ 32 → rows * columns < 2 ^ 63
cells-few rows columns r c =
    let most : rows * columns ≤ rows * 4294967296 = mul-le-mul_left rows (omega (arith, c)) in
    omega (arith, most, r)

-- ---- the piece

pub multiplied : (s : Shape) (d : Declared) (columns first : ℕ) (piece : BuildPiece) (os : List Opening) (xs : List PartWalk) → IsValid d → first_refusal (declaration_of d) ≡ None → first < 2 ^ 30 → s.rows < 2 ^ 31 → s.cols < 2 ^ 31 → columns < 2 ^ 32 → AreUnpackers d s first os xs
    → map phase_tree piece.phases ≡ multiplying (product_from s d columns first) (first + 192) (first + 256) (first + 768) os xs → piece.buffers ≡ (first + 193) ∷ [] → Multiplies s d columns first piece
multiplied s d columns first piece os xs valid kept small rows cols narrow are made named =
    let p : Product = product_from s d columns first in
    let few = (short-valid d valid).few in
    let fits : FitsProduct p = record {
      operand = omega (arith, buffers-few d valid kept);
      rows = omega (arith, rows);
      inner = omega (arith, cols);
      columns = omega (arith, narrow);
      cells_fit = cells-few s.rows columns rows narrow;
    } in
    let room : HaveRoom (start_at first) (length (declaration_of d).parts) = record { source = omega (arith, few); dim = omega (arith, few, small) } in
    let loops : rooms xs ≤ 8256 =
    omega (arith, rooms-few xs, walks-few (start_at first) s d xs valid kept are.walks, walks-number (start_at first) s (declaration_of d).parts xs are.walks, few) in
    let text : KeepText 16384 (multiplying p (first + 192) (first + 256) (first + 768) os xs) =
    multiplying-keeps p (first + 192) (first + 256) (first + 768) os xs fits (omega (arith, openings-number (start_at first) s (declaration_of d).parts os are.openings, few))
    (openings-fit (start_at first) s (declaration_of d).parts os (parts-tame d valid kept) room rows cols are.openings) (walks-fit (start_at first) s (declaration_of d).parts xs (parts-tame d valid kept) room rows cols are.walks) loops in
    let behind : first + dim_count (declaration_of d).parts ≤ first + 192 = omega (arith, dims_few (declaration_of d).parts (short-valid d valid).parts, (short-valid d valid).few) in
    record {
      result = first + 193;
      named = named;
      from = omega arith;
      to = omega arith;
      multiplies = λ w m im within sources short long few_operand few.
          let on : IsProductOn w.env s p = record { rows = refl; inner = refl; long = long; short = omega (arith, few_operand); few = omega (arith, few) } in
          subst (λ (ps : List PhaseTree). Leads first (multiplying_steps s (declaration_of d) m columns) w (phases ps w) (λ u. IsDense s m columns (w.env.sources (total_count (declaration_of d))) (u.bufs (first + 193)))) (sym made)
          (format-multiplied w s d m p (first + 192) first (first + 256) (first + 768) first os xs valid kept im rows cols within are sources short on (omega arith) behind (omega arith));
      typed = λ g more free.
          let operand : nat_lt (total_count (declaration_of d)) g.sources ≡ true = grind (arith, nat_tests) in
          let t : IsTypedTo g (multiplying p (first + 192) (first + 256) (first + 768) os xs) p = kernel-typed g s d p (first + 192) first (first + 256) (first + 768) first os xs valid kept are (omega (arith, more)) operand free (omega arith) (omega arith) behind (omega arith) in
          subst (λ (ps : List PhaseTree). TypedPhases g ps × ((after_phases g ps).bufs (first + 193) ≡ Some record { len = result_length p; cell = kind.Word })) (sym made) (t.typed, t.result);
      text = subst (λ (ps : List PhaseTree). KeepText 16384 ps) (sym made) text;
    }
