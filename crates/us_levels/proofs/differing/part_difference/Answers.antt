use Rattle.std.proofs.Common.{◌≡◌, ◌+◌, ◌++◌, List, ℤ, map, Option, refl, sym, ap, ◌∙◌, arith}
use Rattle.std.proofs.lemmas.Result.{IfOk-weaker}
use Rattle.us_format.specs.Declaration.{query_of}
use Rattle.us_format.specs.Program.{entries_in, shape_in}
use Rattle.us_judge.specs.Views.{plain_part}
use Rattle.us_variables.specs.Counted.{tables_in}
use Rattle.us_parts.specs.Cells.{extent_lists, table_lists}
use Rattle.us_levels.specs.declared.differing.Difference.{Difference}
use Rattle.us_levels.specs.Differences.{part_difference, stored_difference}
use Rattle.us_levels.proofs.Partwise.{all-countable, extents-found, extents-low, extents-many, few-first, few-second, few-triples, low-base, part-early, part-last, part-then, stored-from, tables-found, tables-low, tables-many}
use Rattle.us_levels.proofs.differing.part_difference.Goals as goal

pub variables_of-requires-clause-countable : goal.variables_of-requires-clause-countable
variables_of-requires-clause-countable c =
    all-countable c.args.part.now c.args.matrix.now c.args.first c.args.buffers.now c.requires.comparable

pub variables_of-requires-clause-few : goal.variables_of-requires-clause-few
variables_of-requires-clause-few c =
    few-triples c.args.part.now c.args.matrix.now c.args.first c.args.buffers.now c.requires.comparable

pub push_extents-requires-clause-extents : goal.push_extents-requires-clause-extents
push_extents-requires-clause-extents c =
    extents-many c.args.part.now c.args.matrix.now c.args.first c.args.buffers.now c.requires.comparable c.in_ok-variables.variables c.in_ok-variables.ensures c.as_slice-queries.result.now c.as_slice-queries.ensures c.extents.result.now c.extents.ensures

pub push_extents-requires-clause-small : goal.push_extents-requires-clause-small
push_extents-requires-clause-small c =
    extents-low c.args.part.now c.args.matrix.now c.args.first c.args.buffers.now c.requires.comparable c.in_ok-variables.variables c.in_ok-variables.ensures c.as_slice-queries.result.now c.as_slice-queries.ensures c.extents.result.now c.extents.ensures

pub lists_difference-unlike-requires : goal.lists_difference-unlike-requires
lists_difference-unlike-requires c =
    let is = extents-found c.args.part.now c.args.matrix.now c.args.first c.args.buffers.now c.requires.comparable c.in_ok-variables.variables c.in_ok-variables.ensures c.as_slice-queries.result.now c.as_slice-queries.ensures c.extents.result.now c.push_extents.new.lists c.extents.ensures (c.in_ok-push_extents.ensures ∙ ap (λ (l : List (List ℤ)). l ++ extent_lists (map query_of c.as_slice-queries.result.now) c.extents.result.now) c.new-extents.ensures) in
    omega (arith, c.requires.room, few-first c.args.part.now c.args.matrix.now c.args.first c.args.buffers.now c.requires.comparable c.in_ok-variables.variables c.in_ok-variables.ensures c.as_slice-queries.result.now c.as_slice-queries.ensures c.push_extents.new.lists is)

pub returns-then-is_some : goal.returns-then-is_some
returns-then-is_some c =
    let is = extents-found c.args.part.now c.args.matrix.now c.args.first c.args.buffers.now c.requires.comparable c.in_ok-variables.variables c.in_ok-variables.ensures c.as_slice-queries.result.now c.as_slice-queries.ensures c.extents.result.now c.push_extents.new.lists c.extents.ensures (c.in_ok-push_extents.ensures ∙ ap (λ (l : List (List ℤ)). l ++ extent_lists (map query_of c.as_slice-queries.result.now) c.extents.result.now) c.new-extents.ensures) in
    part-early c.args.part.now c.args.matrix.now c.args.first c.args.buffers.now c.requires.comparable c.in_ok-variables.variables c.in_ok-variables.ensures c.as_slice-queries.result.now c.as_slice-queries.ensures c.push_extents.new.lists is c.lists_difference-unlike.result c.lists_difference-unlike.ensures (sym c.is_some.ensures ∙ c.if-is_some.true)

pub push_tables-requires-clause-tables : goal.push_tables-requires-clause-tables
push_tables-requires-clause-tables c =
    tables-many c.args.part.now c.args.matrix.now c.args.first c.args.buffers.now c.requires.comparable c.in_ok-variables.variables c.in_ok-variables.ensures c.as_slice-queries.result.now c.as_slice-queries.ensures

pub push_tables-requires-clause-small : goal.push_tables-requires-clause-small
push_tables-requires-clause-small c =
    let is = extents-found c.args.part.now c.args.matrix.now c.args.first c.args.buffers.now c.requires.comparable c.in_ok-variables.variables c.in_ok-variables.ensures c.as_slice-queries.result.now c.as_slice-queries.ensures c.extents.result.now c.push_extents.new.lists c.extents.ensures (c.in_ok-push_extents.ensures ∙ ap (λ (l : List (List ℤ)). l ++ extent_lists (map query_of c.as_slice-queries.result.now) c.extents.result.now) c.new-extents.ensures) in
    tables-low c.args.part.now c.args.matrix.now c.args.first c.args.buffers.now c.requires.comparable c.in_ok-variables.variables c.in_ok-variables.ensures c.as_slice-queries.result.now c.as_slice-queries.ensures c.push_extents.new.lists is c.lists_difference-unlike.result c.lists_difference-unlike.ensures (sym c.is_some.ensures ∙ c.if-is_some.false)

pub overflow_add-second : goal.overflow_add-second
overflow_add-second c =
    let is = extents-found c.args.part.now c.args.matrix.now c.args.first c.args.buffers.now c.requires.comparable c.in_ok-variables.variables c.in_ok-variables.ensures c.as_slice-queries.result.now c.as_slice-queries.ensures c.extents.result.now c.push_extents.new.lists c.extents.ensures (c.in_ok-push_extents.ensures ∙ ap (λ (l : List (List ℤ)). l ++ extent_lists (map query_of c.as_slice-queries.result.now) c.extents.result.now) c.new-extents.ensures) in
    record {
      fits = omega (arith, c.requires.room, c.count-many.ensures, few-first c.args.part.now c.args.matrix.now c.args.first c.args.buffers.now c.requires.comparable c.in_ok-variables.variables c.in_ok-variables.ensures c.as_slice-queries.result.now c.as_slice-queries.ensures c.push_extents.new.lists is);
    }

pub lists_difference-found-requires : goal.lists_difference-found-requires
lists_difference-found-requires c =
    let is = extents-found c.args.part.now c.args.matrix.now c.args.first c.args.buffers.now c.requires.comparable c.in_ok-variables.variables c.in_ok-variables.ensures c.as_slice-queries.result.now c.as_slice-queries.ensures c.extents.result.now c.push_extents.new.lists c.extents.ensures (c.in_ok-push_extents.ensures ∙ ap (λ (l : List (List ℤ)). l ++ extent_lists (map query_of c.as_slice-queries.result.now) c.extents.result.now) c.new-extents.ensures) in
    let are = tables-found c.args.part.now c.args.matrix.now c.args.first c.args.buffers.now c.requires.comparable c.in_ok-variables.variables c.in_ok-variables.ensures c.as_slice-queries.result.now c.as_slice-queries.ensures c.push_tables.new.lists (c.in_ok-push_tables.ensures ∙ ap (λ (l : List (List ℤ)). l ++ table_lists (map query_of c.as_slice-queries.result.now) (tables_in c.in_ok-variables.variables)) c.new-tables.ensures) in
    omega (arith, c.requires.room, c.count-many.ensures, few-first c.args.part.now c.args.matrix.now c.args.first c.args.buffers.now c.requires.comparable c.in_ok-variables.variables c.in_ok-variables.ensures c.as_slice-queries.result.now c.as_slice-queries.ensures c.push_extents.new.lists is, few-second c.args.part.now c.args.matrix.now c.args.first c.args.buffers.now c.requires.comparable c.in_ok-variables.variables c.in_ok-variables.ensures c.as_slice-queries.result.now c.as_slice-queries.ensures c.push_tables.new.lists are)

pub returns-then-is_some-2 : goal.returns-then-is_some-2
returns-then-is_some-2 c =
    let is = extents-found c.args.part.now c.args.matrix.now c.args.first c.args.buffers.now c.requires.comparable c.in_ok-variables.variables c.in_ok-variables.ensures c.as_slice-queries.result.now c.as_slice-queries.ensures c.extents.result.now c.push_extents.new.lists c.extents.ensures (c.in_ok-push_extents.ensures ∙ ap (λ (l : List (List ℤ)). l ++ extent_lists (map query_of c.as_slice-queries.result.now) c.extents.result.now) c.new-extents.ensures) in
    let are = tables-found c.args.part.now c.args.matrix.now c.args.first c.args.buffers.now c.requires.comparable c.in_ok-variables.variables c.in_ok-variables.ensures c.as_slice-queries.result.now c.as_slice-queries.ensures c.push_tables.new.lists (c.in_ok-push_tables.ensures ∙ ap (λ (l : List (List ℤ)). l ++ table_lists (map query_of c.as_slice-queries.result.now) (tables_in c.in_ok-variables.variables)) c.new-tables.ensures) in
    part-then c.args.part.now c.args.matrix.now c.args.first c.args.buffers.now c.requires.comparable c.in_ok-variables.variables c.in_ok-variables.ensures c.as_slice-queries.result.now c.as_slice-queries.ensures c.push_extents.new.lists is c.lists_difference-unlike.result c.lists_difference-unlike.ensures (sym c.is_some.ensures ∙ c.if-is_some.false) c.push_tables.new.lists are (c.args.first + c.count-many.result) c.count-many.result refl c.count-many.ensures c.lists_difference-found.result c.lists_difference-found.ensures (sym c.is_some-2.ensures ∙ c.if-is_some-2.true)

pub overflow_add-base : goal.overflow_add-base
overflow_add-base c =
    let is = extents-found c.args.part.now c.args.matrix.now c.args.first c.args.buffers.now c.requires.comparable c.in_ok-variables.variables c.in_ok-variables.ensures c.as_slice-queries.result.now c.as_slice-queries.ensures c.extents.result.now c.push_extents.new.lists c.extents.ensures (c.in_ok-push_extents.ensures ∙ ap (λ (l : List (List ℤ)). l ++ extent_lists (map query_of c.as_slice-queries.result.now) c.extents.result.now) c.new-extents.ensures) in
    let are = tables-found c.args.part.now c.args.matrix.now c.args.first c.args.buffers.now c.requires.comparable c.in_ok-variables.variables c.in_ok-variables.ensures c.as_slice-queries.result.now c.as_slice-queries.ensures c.push_tables.new.lists (c.in_ok-push_tables.ensures ∙ ap (λ (l : List (List ℤ)). l ++ table_lists (map query_of c.as_slice-queries.result.now) (tables_in c.in_ok-variables.variables)) c.new-tables.ensures) in
    record {
      fits = omega (arith, c.requires.room, c.count-many.ensures, c.count-more.ensures, few-first c.args.part.now c.args.matrix.now c.args.first c.args.buffers.now c.requires.comparable c.in_ok-variables.variables c.in_ok-variables.ensures c.as_slice-queries.result.now c.as_slice-queries.ensures c.push_extents.new.lists is, few-second c.args.part.now c.args.matrix.now c.args.first c.args.buffers.now c.requires.comparable c.in_ok-variables.variables c.in_ok-variables.ensures c.as_slice-queries.result.now c.as_slice-queries.ensures c.push_tables.new.lists are);
    }

pub stored_difference-requires-clause-countable : goal.stored_difference-requires-clause-countable
stored_difference-requires-clause-countable c =
    all-countable c.args.part.now c.args.matrix.now c.args.first c.args.buffers.now c.requires.comparable

pub stored_difference-requires-clause-stored : goal.stored_difference-requires-clause-stored
stored_difference-requires-clause-stored c =
    let is = extents-found c.args.part.now c.args.matrix.now c.args.first c.args.buffers.now c.requires.comparable c.in_ok-variables.variables c.in_ok-variables.ensures c.as_slice-queries.result.now c.as_slice-queries.ensures c.extents.result.now c.push_extents.new.lists c.extents.ensures (c.in_ok-push_extents.ensures ∙ ap (λ (l : List (List ℤ)). l ++ extent_lists (map query_of c.as_slice-queries.result.now) c.extents.result.now) c.new-extents.ensures) in
    let are = tables-found c.args.part.now c.args.matrix.now c.args.first c.args.buffers.now c.requires.comparable c.in_ok-variables.variables c.in_ok-variables.ensures c.as_slice-queries.result.now c.as_slice-queries.ensures c.push_tables.new.lists (c.in_ok-push_tables.ensures ∙ ap (λ (l : List (List ℤ)). l ++ table_lists (map query_of c.as_slice-queries.result.now) (tables_in c.in_ok-variables.variables)) c.new-tables.ensures) in
    stored-from c.args.part.now c.args.matrix.now c.args.first c.args.buffers.now c.requires.comparable c.in_ok-variables.variables c.in_ok-variables.ensures c.as_slice-queries.result.now c.as_slice-queries.ensures c.push_extents.new.lists is c.lists_difference-unlike.result c.lists_difference-unlike.ensures (sym c.is_some.ensures ∙ c.if-is_some.false) c.push_tables.new.lists are (c.args.first + c.count-many.result) c.count-many.result refl c.count-many.ensures c.lists_difference-found.result c.lists_difference-found.ensures (sym c.is_some-2.ensures ∙ c.if-is_some-2.false) (c.args.first + c.count-many.result + c.count-more.result) c.count-more.result refl c.count-more.ensures

pub stored_difference-requires-clause-room : goal.stored_difference-requires-clause-room
stored_difference-requires-clause-room c =
    let is = extents-found c.args.part.now c.args.matrix.now c.args.first c.args.buffers.now c.requires.comparable c.in_ok-variables.variables c.in_ok-variables.ensures c.as_slice-queries.result.now c.as_slice-queries.ensures c.extents.result.now c.push_extents.new.lists c.extents.ensures (c.in_ok-push_extents.ensures ∙ ap (λ (l : List (List ℤ)). l ++ extent_lists (map query_of c.as_slice-queries.result.now) c.extents.result.now) c.new-extents.ensures) in
    let are = tables-found c.args.part.now c.args.matrix.now c.args.first c.args.buffers.now c.requires.comparable c.in_ok-variables.variables c.in_ok-variables.ensures c.as_slice-queries.result.now c.as_slice-queries.ensures c.push_tables.new.lists (c.in_ok-push_tables.ensures ∙ ap (λ (l : List (List ℤ)). l ++ table_lists (map query_of c.as_slice-queries.result.now) (tables_in c.in_ok-variables.variables)) c.new-tables.ensures) in
    low-base c.args.part.now c.args.matrix.now c.args.first c.args.buffers.now c.requires.comparable c.in_ok-variables.variables c.in_ok-variables.ensures c.as_slice-queries.result.now c.as_slice-queries.ensures c.push_extents.new.lists is c.lists_difference-unlike.result c.lists_difference-unlike.ensures (sym c.is_some.ensures ∙ c.if-is_some.false) c.push_tables.new.lists are (c.args.first + c.count-many.result) c.count-many.result refl c.count-many.ensures c.lists_difference-found.result c.lists_difference-found.ensures (sym c.is_some-2.ensures ∙ c.if-is_some-2.false) (c.args.first + c.count-many.result + c.count-more.result) c.count-more.result refl c.count-more.ensures c.requires.room

pub returns : goal.returns
returns c =
    let is = extents-found c.args.part.now c.args.matrix.now c.args.first c.args.buffers.now c.requires.comparable c.in_ok-variables.variables c.in_ok-variables.ensures c.as_slice-queries.result.now c.as_slice-queries.ensures c.extents.result.now c.push_extents.new.lists c.extents.ensures (c.in_ok-push_extents.ensures ∙ ap (λ (l : List (List ℤ)). l ++ extent_lists (map query_of c.as_slice-queries.result.now) c.extents.result.now) c.new-extents.ensures) in
    let are = tables-found c.args.part.now c.args.matrix.now c.args.first c.args.buffers.now c.requires.comparable c.in_ok-variables.variables c.in_ok-variables.ensures c.as_slice-queries.result.now c.as_slice-queries.ensures c.push_tables.new.lists (c.in_ok-push_tables.ensures ∙ ap (λ (l : List (List ℤ)). l ++ table_lists (map query_of c.as_slice-queries.result.now) (tables_in c.in_ok-variables.variables)) c.new-tables.ensures) in
    IfOk-weaker c.stored_difference.result (λ (d : Option Difference). d ≡ stored_difference (c.args.first + c.count-many.result + c.count-more.result) (shape_in c.args.matrix.now) (plain_part c.args.part.now) (entries_in c.args.matrix.now) c.args.buffers.now)
    (λ (d : Option Difference). d ≡ part_difference c.args.first (shape_in c.args.matrix.now) (plain_part c.args.part.now) (entries_in c.args.matrix.now) c.args.buffers.now)
    (λ d q. part-last c.args.part.now c.args.matrix.now c.args.first c.args.buffers.now c.requires.comparable c.in_ok-variables.variables c.in_ok-variables.ensures c.as_slice-queries.result.now c.as_slice-queries.ensures c.push_extents.new.lists is c.lists_difference-unlike.result c.lists_difference-unlike.ensures (sym c.is_some.ensures ∙ c.if-is_some.false) c.push_tables.new.lists are (c.args.first + c.count-many.result) c.count-many.result refl c.count-many.ensures c.lists_difference-found.result c.lists_difference-found.ensures (sym c.is_some-2.ensures ∙ c.if-is_some-2.false) (c.args.first + c.count-many.result + c.count-more.result) c.count-more.result refl c.count-more.ensures d q) c.stored_difference.ensures
