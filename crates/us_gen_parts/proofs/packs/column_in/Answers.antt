use Rattle.std.proofs.Common.{ℕ, List, ap, ap₂, refl, ◌∙◌}
use Rattle.std.specs.Prelude.{Option, unwrap_or}
use Rattle.std.specs.List.{position}
use Rattle.us_format.specs.Declaration.{same_column}
use Rattle.us_decl.specs.declared.column.Column.{Column}
use Rattle.us_judge.specs.Views.{column_of}
use Rattle.us_gen_parts.proofs.PackColumns.{position-else, first-map}
use Rattle.us_gen_parts.proofs.packs.column_in.Goals as goal

pub returns : goal.returns
returns c =
    c.unwrap_or.ensures
    ∙ ap₂ (λ (o : Option ℕ) (n : ℕ). unwrap_or o n) (c.first_same.ensures ∙ ap (λ (cs : List Column). position (λ b. same_column (column_of c.args.column) (column_of b)) cs) c.as_slice.ensures) c.len.ensures
    ∙ position-else (λ b. same_column (column_of c.args.column) (column_of b)) c.args.pack.now
    ∙ first-map column_of (same_column (column_of c.args.column)) (λ b. same_column (column_of c.args.column) (column_of b)) (λ x. refl) c.args.pack.now
