use Rattle.std.proofs.Common.{map, ap, ◌∙◌}
use Rattle.std.specs.List.{list_any, position}
use Rattle.us_format.specs.Declaration.{same_column}
use Rattle.us_format.specs.Packs.{in_pack}
use Rattle.us_judge.specs.Views.{column_of}
use Rattle.us_gen_parts.proofs.PackColumns.{position-map, any-map}
use Rattle.us_gen_parts.proofs.packs.pack_with.Goals as goal

pub returns : goal.returns
returns c =
    c.first_with.ensures ∙ ap (λ packs. position (λ pack. list_any (λ b. same_column (column_of c.args.column) (column_of b)) pack) packs) c.as_slice.ensures
    ∙ position-map (map column_of) (in_pack (column_of c.args.column)) (λ pack. list_any (λ b. same_column (column_of c.args.column) (column_of b)) pack)
    (any-map column_of (same_column (column_of c.args.column))) c.args.part.now.packs
