use Rattle.std.proofs.Common.{◌<◌, ◌≤◌, arith, refl, length, ap, ◌∙◌, sym}
use Rattle.std.proofs.lemmas.Result.{err_from_is_err_and}
use Rattle.us_decl.specs.Views.{decl_names}
use Rattle.us_parse.specs.declared.stop.Stop.TheVariants as stop
use Rattle.us_decl.proofs.Places.{length_names}
use Rattle.us_parse.proofs.Declaring.{decl_crowded, decl_no_format, decl_no_name, decl_repeated, decl_no_brace, decl_lost, decl_goes}
use Rattle.us_parse.proofs.reading.Reader.declaration.Goals as goal

pub returns-in_err-expect : goal.returns-in_err-expect
returns-in_err-expect c =
    let p = err_from_is_err_and c.from_residual.result c.from_residual.ensures.1 in
    rw (p.1, p.2) (decl_no_format _ _ c.in_err-expect.field-0.0 c.in_err-expect.ensures.err)

pub returns-then-count-ge256 : goal.returns-then-count-ge256
returns-then-count-ge256 c =
    let full : 256 ≤ length (decl_names c.args.earlier.now) = omega (arith, length_names c.args.earlier.now, c.count-count.ensures, c.if-count-ge256.true) in
    decl_crowded _ _ _ _ c.in_ok-expect.ensures.ok full c.excess-beyond.ensures

pub returns-in_err-name : goal.returns-in_err-name
returns-in_err-name c =
    let p = err_from_is_err_and c.from_residual-in_err-name.result c.from_residual-in_err-name.ensures.1 in
    let few : length (decl_names c.args.earlier.now) < 256 = omega (arith, length_names c.args.earlier.now, c.count-count.ensures, c.if-count-ge256.false) in
    rw (p.1, p.2) (decl_no_name _ _ _ few c.in_ok-expect.ensures.ok c.in_err-name.field-0.0 c.in_err-name.ensures.err)

pub returns-then-has : goal.returns-then-has
returns-then-has c =
    let few : length (decl_names c.args.earlier.now) < 256 = omega (arith, length_names c.args.earlier.now, c.count-count.ensures, c.if-count-ge256.false) in
    decl_repeated _ _ _ few c.in_ok-expect.ensures.ok _ c.in_ok-name.name _ c.in_ok-name.ensures.ok (sym c.has.ensures ∙ c.if-has.true) (ap stop.Repeated c.left.ensures)

pub returns-in_err-expect-2 : goal.returns-in_err-expect-2
returns-in_err-expect-2 c =
    let p = err_from_is_err_and c.from_residual-in_err-expect-2.result c.from_residual-in_err-expect-2.ensures.1 in
    let few : length (decl_names c.args.earlier.now) < 256 = omega (arith, length_names c.args.earlier.now, c.count-count.ensures, c.if-count-ge256.false) in
    rw (p.1, p.2) (decl_no_brace _ _ _ few c.in_ok-expect.ensures.ok _ c.in_ok-name.name c.in_ok-name.ensures.ok (sym c.has.ensures ∙ c.if-has.false) c.in_err-expect-2.field-0.0 c.in_err-expect-2.ensures.err)

pub returns-in_err-body : goal.returns-in_err-body
returns-in_err-body c =
    let p = err_from_is_err_and c.from_residual-in_err-body.result c.from_residual-in_err-body.ensures.1 in
    let few : length (decl_names c.args.earlier.now) < 256 = omega (arith, length_names c.args.earlier.now, c.count-count.ensures, c.if-count-ge256.false) in
    rw (p.1, p.2) (decl_lost _ _ _ few c.in_ok-expect.ensures.ok _ c.in_ok-name.name c.in_ok-name.ensures.ok (sym c.has.ensures ∙ c.if-has.false) _ c.in_ok-expect-2.ensures.ok c.in_err-body.field-0.0 c.in_err-body.ensures)

pub returns : goal.returns
returns c =
    let few : length (decl_names c.args.earlier.now) < 256 = omega (arith, length_names c.args.earlier.now, c.count-count.ensures, c.if-count-ge256.false) in
    decl_goes _ _ _ few c.in_ok-expect.ensures.ok _ c.in_ok-name.name c.in_ok-name.ensures.ok (sym c.has.ensures ∙ c.if-has.false) _ c.in_ok-expect-2.ensures.ok _ c.in_ok-body.body _ c.in_ok-body.ensures refl refl
