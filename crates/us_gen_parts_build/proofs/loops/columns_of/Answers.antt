use Rattle.std.proofs.Common.{List, length, sym, subst, All}
use Rattle.us_expr.specs.declared.expression.Expr.{Expr}
use Rattle.us_expr.specs.Tree.{tree}
use Rattle.us_expr.specs.Value.{IsWithin}
use Rattle.us_gen_parts_build.proofs.Making.{unmapped}
use Rattle.us_gen_parts_build.proofs.loops.columns_of.Goals as goal

pub coordinate_columns-requires-clause-within : goal.coordinate_columns-requires-clause-within
coordinate_columns-requires-clause-within c =
    subst (λ (es : List Expr). All (λ e. IsWithin (length c.args.columns.now.vars.items) (tree e)) es) (sym c.as_slice.ensures)
    (unmapped (IsWithin (length c.args.columns.now.vars.items)) tree c.args.part.now.levels c.requires.within)
