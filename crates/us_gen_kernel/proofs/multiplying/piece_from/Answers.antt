use Rattle.std.proofs.Common.{◌≡◌, ◌<◌, ◌≤◌, ◌+◌, ◌*◌, ◌^◌, ℕ, List, [], ◌∷◌, ◌++◌, length, sym, ap, ap₂, subst, ◌∙◌, arith, All}
use Rattle.us_format.specs.Program.{plain_shape}
use Rattle.us_judge.specs.Views.{declaration_of}
use Rattle.us_judge.proofs.Valid.{queries-valid, short-valid}
use Rattle.us_gen_opening.specs.declared.parts.Opening.{Opening}
use Rattle.us_gen_opening.specs.Opening.{rooms}
use Rattle.us_gen_unpack.specs.declared.listing.PartWalk.{PartWalk}
use Rattle.us_gen_unpack.specs.Listing as list
use Rattle.us_gen_parts.specs.Walks.{AreWalksOf}
use Rattle.us_gen_parts.proofs.RoomFew.{walks-few}
use Rattle.us_gen_listing.specs.Unpack.{start_at, OpenedFrom}
use Rattle.us_gen_listing.proofs.PartsOpened.{opened-is}
use Rattle.us_gen_listing.proofs.PieceMade.{walks-number, tables-few, dim-rooms-few}
use Rattle.us_gen_product.specs.declared.product.Product.{Product}
use Rattle.us_gen_product.specs.Product.{cells}
use Rattle.us_gen_kernel.specs.Kernel.{multiplying}
use Rattle.us_gen_kernel.proofs.PieceMade.{rooms-few, cells-few, multiplied}
use Rattle.us_gen_kernel.proofs.multiplying.piece_from.Goals as goal

pub openings_of-requires-clause-parts : goal.openings_of-requires-clause-parts
openings_of-requires-clause-parts c =
    let same : length c.as_slice-loops.result.now ≡ length c.in_ok-walks.walks.items = ap (λ (xs : List PartWalk). length xs) c.as_slice-loops.ensures.value in
    same ∙ walks-number (start_at c.args.first) (plain_shape c.args.shape) (declaration_of c.args.format.now).parts c.in_ok-walks.walks.items c.in_ok-walks.ensures

pub openings_of-requires-clause-few : goal.openings_of-requires-clause-few
openings_of-requires-clause-few c =
    omega (
      arith,
      ap (λ (xs : List PartWalk). length xs) c.as_slice-loops.ensures.value,
      walks-number (start_at c.args.first) (plain_shape c.args.shape) (declaration_of c.args.format.now).parts c.in_ok-walks.walks.items c.in_ok-walks.ensures,
      (short-valid c.args.format.now c.first_part.ensures.valid).few,
    )

pub openings_of-requires-clause-tables : goal.openings_of-requires-clause-tables
openings_of-requires-clause-tables c =
    subst (λ (xs : List PartWalk). All (λ x. length x.places.tables.items ≤ 16) xs) (sym c.as_slice-loops.ensures.value)
    (tables-few (start_at c.args.first) (plain_shape c.args.shape) (declaration_of c.args.format.now).parts c.in_ok-walks.walks.items c.in_ok-walks.ensures (queries-valid c.args.format.now c.first_part.ensures.valid))

pub phases_of-requires-clause-dims : goal.phases_of-requires-clause-dims
phases_of-requires-clause-dims c =
    let tables : All (λ x. length x.places.tables.items ≤ 16) c.as_slice-loops.result.now =
    subst (λ (xs : List PartWalk). All (λ x. length x.places.tables.items ≤ 16) xs) (sym c.as_slice-loops.ensures.value)
    (tables-few (start_at c.args.first) (plain_shape c.args.shape) (declaration_of c.args.format.now).parts c.in_ok-walks.walks.items c.in_ok-walks.ensures (queries-valid c.args.format.now c.first_part.ensures.valid)) in
    let few : rooms c.in_ok-openings.openings.items ≤ 51 * length (declaration_of c.args.format.now).parts = dim-rooms-few 0 (declaration_of c.args.format.now).parts c.as_slice-loops.result.now c.in_ok-openings.openings.items c.in_ok-openings.ensures tables in
    let same : rooms c.as_slice-dims.result.now ≡ rooms c.in_ok-openings.openings.items = ap rooms c.as_slice-dims.ensures.value in
    omega (arith, few, same, (short-valid c.args.format.now c.first_part.ensures.valid).few)

pub phases_of-requires-clause-loops : goal.phases_of-requires-clause-loops
phases_of-requires-clause-loops c =
    let same : list.rooms c.as_slice-loops.result.now ≡ list.rooms c.in_ok-walks.walks.items = ap list.rooms c.as_slice-loops.ensures.value in
    omega (
      arith,
      rooms-few c.as_slice-loops.result.now,
      same,
      walks-few (start_at c.args.first) (plain_shape c.args.shape) c.args.format.now c.in_ok-walks.walks.items c.first_part.ensures.valid c.first_part.ensures.accepted c.in_ok-walks.ensures,
      ap (λ (xs : List PartWalk). length xs) c.as_slice-loops.ensures.value,
      walks-number (start_at c.args.first) (plain_shape c.args.shape) (declaration_of c.args.format.now).parts c.in_ok-walks.walks.items c.in_ok-walks.ensures,
      (short-valid c.args.format.now c.first_part.ensures.valid).few,
    )

pub phases_of-requires-clause-cells : goal.phases_of-requires-clause-cells
phases_of-requires-clause-cells c =
    let few : c.args.shape.rows * c.args.columns < 2 ^ 63 = cells-few c.args.shape.rows c.args.columns c.requires.rows.high c.ranges.columns.fits in
    subst (λ (p : Product). cells p < 2 ^ 64) (sym c.product_behind-product.ensures) (omega (arith, few))

pub returns : goal.returns
returns c =
    let walks : AreWalksOf (start_at c.args.first) (plain_shape c.args.shape) (declaration_of c.args.format.now).parts c.as_slice-loops.result.now =
    subst (λ (xs : List PartWalk). AreWalksOf (start_at c.args.first) (plain_shape c.args.shape) (declaration_of c.args.format.now).parts xs) (sym c.as_slice-loops.ensures.value) c.in_ok-walks.ensures in
    let opened : OpenedFrom 0 (declaration_of c.args.format.now).parts c.as_slice-loops.result.now c.as_slice-dims.result.now =
    subst (λ (os : List Opening). OpenedFrom 0 (declaration_of c.args.format.now).parts c.as_slice-loops.result.now os) (sym c.as_slice-dims.ensures.value) c.in_ok-openings.ensures in
    multiplied (plain_shape c.args.shape) c.args.format.now c.args.columns c.args.first _ c.as_slice-dims.result.now c.as_slice-loops.result.now c.first_part.ensures.valid c.first_part.ensures.accepted c.requires.first c.requires.rows.high c.requires.cols.high c.ranges.columns.fits
    (record { openings = opened-is (start_at c.args.first) (plain_shape c.args.shape) (declaration_of c.args.format.now).parts c.as_slice-loops.result.now c.as_slice-dims.result.now walks opened; walks = walks })
    (c.in_ok-phases.ensures ∙ ap (λ (p : Product). multiplying p (c.args.first + 192) (c.args.first + 256) (c.args.first + 768) c.as_slice-dims.result.now c.as_slice-loops.result.now) c.product_behind-product.ensures)
    (c.in_ok-push.ensures.ok ∙ ap₂ (λ (xs : List ℕ) (p : Product). xs ++ (p.result ∷ [])) c.new-buffers.ensures c.product_behind-product.ensures)
