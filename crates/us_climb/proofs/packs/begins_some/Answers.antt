use Rattle.std.proofs.Common.{map, ap, ◌∙◌}
use Rattle.std.specs.List.{list_any}
use Rattle.us_format.specs.Reading.{begins}
use Rattle.us_judge.specs.Views.{column_of}
use Rattle.us_climb.proofs.Columns.{any-map}
use Rattle.us_climb.proofs.packs.begins_some.Goals as goal

pub returns : goal.returns
returns c =
    c.begins_one_of.ensures ∙ ap (λ packs. list_any (λ pack. begins (column_of c.args.column) (map column_of pack)) packs) c.as_slice.ensures
    ∙ any-map (map column_of) (begins (column_of c.args.column)) c.args.part.now.packs
