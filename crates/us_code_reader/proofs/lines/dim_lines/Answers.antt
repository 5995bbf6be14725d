use Rattle.std.proofs.Common.{map, [], ◌∷◌, ◌++◌, refl, ap, ◌∙◌, arith}
use Rattle.std.proofs.lemmas.Result.{err_from_is_err_and}
use Rattle.us_code_table.specs.declared.mark.Mark.TheVariants as m
use Rattle.us_code_table.specs.Table.{DimLines}
use Rattle.us_code_text.specs.Reads.{answer_of}
use Rattle.us_code_text.proofs.Chains.{via}
use Rattle.std.proofs.lemmas.List.{append-nil}
use Rattle.std.proofs.lemmas.List.{map-append}
use Rattle.us_code.specs.Plain.{line_tree}
use Rattle.us_code_text.specs.Reads.{text_of, count_of}
use Rattle.us_code_reader.proofs.Parts.{goes_on, goes_last, adds, without, lacks_only}
use Rattle.us_code_reader.proofs.lines.dim_lines.Goals as goal

pub returns-in_err-line : goal.returns-in_err-line
returns-in_err-line c =
    let p = err_from_is_err_and c.from_residual.result c.from_residual.ensures.1 in
    rw (p.1, p.2) (λ y s k. via (answer_of c.in_err-line.field-0.0) (c.more.invariant.0 y s k) (c.in_err-line.ensures _ _ _))

pub more-preserved : goal.more-preserved
more-preserved c = (
  goes_on DimLines DimLines (text_of c.args.reader.now) (count_of c.args.reader.now) (text_of c.more.reader) (count_of c.more.reader) (text_of c.dim_line.new.reader) (count_of c.dim_line.new.reader) (λ xs. map line_tree c.more.lines ++ xs) (λ xs. line_tree c.in_ok-line.line ∷ xs) (λ xs. map line_tree c.push.new.self ++ xs) c.more.invariant.0 c.in_ok-line.ensures.0
      (λ v. adds (map line_tree c.more.lines) (map line_tree c.push.new.self) (line_tree c.in_ok-line.line) v (ap (map line_tree) c.in_ok-push.ensures.ok ∙ map-append line_tree c.more.lines (c.in_ok-line.line ∷ []))),
  omega (arith, c.in_ok-line.ensures.1, c.more.invariant.1),
)

pub returns : goal.returns
returns c =
    let ends = without DimLines [] (text_of c.more.reader) (count_of c.more.reader) refl (lacks_only DimLines m.Dim _ (text_of c.more.reader) refl refl (c.stands.ensures.no c.more-test.false)) in
    (goes_last DimLines DimLines (text_of c.args.reader.now) (count_of c.args.reader.now) (text_of c.more.reader) (count_of c.more.reader) (text_of c.more.reader) (count_of c.more.reader) (λ xs. map line_tree c.more.lines ++ xs) [] (map line_tree c.more.lines) c.more.invariant.0 ends (append-nil (map line_tree c.more.lines)), c.more.invariant.1)
