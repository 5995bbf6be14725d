use Rattle.std.proofs.Common.{List, length, sym, subst, All}
use Rattle.us_expr.specs.declared.expression.Expr.{Expr}
use Rattle.us_expr.specs.Tree.{tree}
use Rattle.us_expr.specs.Value.{IsWithin}
use Rattle.us_gen_parts_build.proofs.Making.{unmapped, within-more}
use Rattle.us_gen_parts_build.proofs.building.phases_of.Goals as goal

pub coordinates_phase-requires-clause-within : goal.coordinates_phase-requires-clause-within
coordinates_phase-requires-clause-within c =
    subst (λ (es : List Expr). All (λ e. IsWithin (length c.args.columns.now.vars.items) (tree e)) es) (sym c.as_slice-values.ensures)
    (unmapped (IsWithin (length c.args.columns.now.vars.items)) tree c.args.part.now.levels c.requires.within)

pub coordinates_phase-requires-clause-few : goal.coordinates_phase-requires-clause-few
coordinates_phase-requires-clause-few c k d lt =
    within-more (length c.args.columns.now.vars.items) 32 c.requires.variables _ (coordinates_phase-requires-clause-within c k d lt)
