use Rattle.std.proofs.Common.{◌≡◌, ℕ, ◌+◌, ◌-◌, ◌<◌, List, length, map, sym, ap, ap₂, ◌∙◌, arith}
use Rattle.std.specs.Prelude.{Option}
use Rattle.std.specs.List.{count_by}
use Rattle.std.proofs.lemmas.List.{length-map}
use Rattle.us_format.specs.Declaration.{Part, Query, has_extent, query_of}
use Rattle.us_format.specs.Lists.{or_else}
use Rattle.us_format.specs.Program.{plain_shape}
use Rattle.us_format.specs.Reading.{extent_count, table_tests}
use Rattle.us_judge.specs.Format.{part_at}
use Rattle.us_judge.specs.Views.{declaration_of}
use Rattle.us_judge.proofs.SomePart.{short-part}
use Rattle.us_climb.specs.Layout.{first_failing, levels_failing}
use Rattle.us_climb.proofs.lengths.stored_misfit.Goals as goal

pub extent_count-requires : goal.extent_count-requires
extent_count-requires c =
    let below : c.args.number - 1 < length (declaration_of c.args.format.now).parts = omega (arith, c.requires.from_one, c.requires.part) in
    let short = short-part c.args.format.now (c.args.number - 1) c.part.ensures.valid below in
    let qs : map query_of c.as_slice-queries.result.now ≡ (part_at (declaration_of c.args.format.now) (c.args.number - 1)).queries = ap (map query_of) c.as_slice-queries.ensures ∙ ap (λ (q : Part). q.queries) c.part.ensures.is in
    omega (arith, short.queries, ap length qs, length-map c.as_slice-queries.result.now query_of)

pub returns-in-Some : goal.returns-in-Some
returns-in-Some c =
    let p = part_at (declaration_of c.args.format.now) (c.args.number - 1) in
    let qs : map query_of c.as_slice-queries.result.now ≡ (part_at (declaration_of c.args.format.now) (c.args.number - 1)).queries = ap (map query_of) c.as_slice-queries.ensures ∙ ap (λ (q : Part). q.queries) c.part.ensures.is in
    let at : c.args.first + c.extent_count.result ≡ c.args.first + extent_count (part_at (declaration_of c.args.format.now) (c.args.number - 1)) = ap (λ n. c.args.first + n) (c.extent_count.ensures.count ∙ ap (count_by has_extent) qs) in
    let tables : c.tables_misfit.result ≡ first_failing (table_tests (plain_shape c.args.shape) (c.args.first + extent_count (part_at (declaration_of c.args.format.now) (c.args.number - 1))) c.args.buffers.now (part_at (declaration_of c.args.format.now) (c.args.number - 1)).queries c.args.extents.now) =
    c.tables_misfit.ensures ∙ ap₂ (λ (k : ℕ) (xs : List Query). first_failing (table_tests (plain_shape c.args.shape) k c.args.buffers.now xs c.args.extents.now)) at qs in
    sym (ap (λ (o : Option ℕ). or_else o (levels_failing (plain_shape c.args.shape) c.args.first c.args.buffers.now p c.args.extents.now)) (sym tables ∙ c.in-Some.is))

pub returns : goal.returns
returns c =
    let p = part_at (declaration_of c.args.format.now) (c.args.number - 1) in
    let qs : map query_of c.as_slice-queries.result.now ≡ (part_at (declaration_of c.args.format.now) (c.args.number - 1)).queries = ap (map query_of) c.as_slice-queries.ensures ∙ ap (λ (q : Part). q.queries) c.part.ensures.is in
    let at : c.args.first + c.extent_count.result ≡ c.args.first + extent_count (part_at (declaration_of c.args.format.now) (c.args.number - 1)) = ap (λ n. c.args.first + n) (c.extent_count.ensures.count ∙ ap (count_by has_extent) qs) in
    let tables : c.tables_misfit.result ≡ first_failing (table_tests (plain_shape c.args.shape) (c.args.first + extent_count (part_at (declaration_of c.args.format.now) (c.args.number - 1))) c.args.buffers.now (part_at (declaration_of c.args.format.now) (c.args.number - 1)).queries c.args.extents.now) =
    c.tables_misfit.ensures ∙ ap₂ (λ (k : ℕ) (xs : List Query). first_failing (table_tests (plain_shape c.args.shape) k c.args.buffers.now xs c.args.extents.now)) at qs in
    c.levels_misfit.ensures
    ∙ sym (ap (λ (o : Option ℕ). or_else o (levels_failing (plain_shape c.args.shape) c.args.first c.args.buffers.now p c.args.extents.now)) (sym tables ∙ c.in_default.is))
