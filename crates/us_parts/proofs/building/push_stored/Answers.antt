use Rattle.std.specs.Result.{OnOk}
use Rattle.std.proofs.Common.{◌≡◌, ◌-◌, ◌++◌, List, length, map, ap, sym, subst}
use Rattle.us_format.specs.Buffers.{level_buffers}
use Rattle.us_format.specs.Packs.{Buffer, written}
use Rattle.us_judge.specs.Views.{column_of, plain_part}
use Rattle.us_build.specs.Items.{rows_at}
use Rattle.us_build.specs.Sizes.{plain_levels}
use Rattle.us_decl.specs.declared.column.Column as columns
use Rattle.us_parts.proofs.Storing.{without-packs}
use Rattle.us_parts.proofs.building.push_stored.Goals as goal

pub returns-then-is_empty : goal.returns-then-is_empty
returns-then-is_empty c =
    subst (λ (bs : List Buffer). OnOk c.write.result (c.write.new.lists ≡ c.args.lists.now ++ map written bs))
    (sym (without-packs (plain_part c.args.part.now) (level_buffers (plain_levels c.args.levels.now) 1 (rows_at (6 - length c.args.levels.now) c.args.items.now))
    (ap (λ (l : List (List columns.Column)). map (map column_of) l) (c.is_empty.ensures.0 c.if-is_empty.true)) c.requires.stored.count)) c.write.ensures
