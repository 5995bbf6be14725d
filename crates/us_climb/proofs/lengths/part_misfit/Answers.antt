use Rattle.std.proofs.Common.{◌≡◌, ℕ, ◌-◌, ◌<◌, ◌≤◌, ◌^◌, List, length, map, sym, ap, subst, ◌∙◌, arith}
use Rattle.std.specs.Prelude.{Option}
use Rattle.std.specs.List.{All}
use Rattle.us_format.specs.Declaration.{Part, Query, query_of}
use Rattle.us_format.specs.Lists.{or_else}
use Rattle.us_format.specs.Program.{plain_shape}
use Rattle.us_format.specs.Reading.{extents_in, extent_tests}
use Rattle.us_judge.specs.Format.{part_at}
use Rattle.us_judge.specs.Short.{IsShort}
use Rattle.us_judge.specs.Views.{declaration_of}
use Rattle.us_judge.proofs.SomePart.{short-part}
use Rattle.us_climb.specs.Layout.{first_failing, stored_failing}
use Rattle.us_climb.proofs.PartTests.{extents-few, part-by}
use Rattle.us_climb.proofs.lengths.part_misfit.Goals as goal

pub returns-in-Some : goal.returns-in-Some
returns-in-Some c =
    let p = part_at (declaration_of c.args.format.now) (c.args.number - 1) in
    let qs : map query_of c.as_slice-queries.result.now ≡ (part_at (declaration_of c.args.format.now) (c.args.number - 1)).queries = ap (map query_of) c.as_slice-queries.ensures ∙ ap (λ (q : Part). q.queries) c.part.ensures.is in
    sym (part-by c.args.first c.args.buffers.now (plain_shape c.args.shape) p
    ∙ ap (λ (o : Option ℕ). or_else o (stored_failing (plain_shape c.args.shape) c.args.first c.args.buffers.now p (extents_in c.args.first c.args.buffers.now p.queries)))
    (ap (λ (xs : List Query). first_failing (extent_tests c.args.first c.args.buffers.now xs)) (sym qs) ∙ sym c.extents_misfit.ensures ∙ c.in-Some.is))

pub extents_of-extents-requires-clause-short : goal.extents_of-extents-requires-clause-short
extents_of-extents-requires-clause-short c =
    let below : c.args.number - 1 < length (declaration_of c.args.format.now).parts = omega (arith, c.requires.from_one, c.requires.part) in
    subst IsShort (sym c.part-2.ensures.is) (short-part c.args.format.now (c.args.number - 1) c.part-2.ensures.valid below)

pub stored_misfit-requires-clause-extents : goal.stored_misfit-requires-clause-extents
stored_misfit-requires-clause-extents c =
    let qs : map query_of c.as_slice-queries.result.now ≡ (part_at (declaration_of c.args.format.now) (c.args.number - 1)).queries = ap (map query_of) c.as_slice-queries.ensures ∙ ap (λ (q : Part). q.queries) c.part.ensures.is in
    subst (λ (ns : List ℕ). All (λ n. n ≤ 2 ^ 31) ns)
    (sym (c.as_slice.ensures.value ∙ c.extents_of-extents.ensures ∙ ap (λ (q : Part). extents_in c.args.first c.args.buffers.now q.queries) c.part-2.ensures.is))
    (extents-few c.args.first c.args.buffers.now (part_at (declaration_of c.args.format.now) (c.args.number - 1)).queries
    (ap (λ (xs : List Query). first_failing (extent_tests c.args.first c.args.buffers.now xs)) (sym qs) ∙ sym c.extents_misfit.ensures ∙ c.in_default.is))

pub returns : goal.returns
returns c =
    let p = part_at (declaration_of c.args.format.now) (c.args.number - 1) in
    let qs : map query_of c.as_slice-queries.result.now ≡ (part_at (declaration_of c.args.format.now) (c.args.number - 1)).queries = ap (map query_of) c.as_slice-queries.ensures ∙ ap (λ (q : Part). q.queries) c.part.ensures.is in
    c.stored_misfit.ensures
    ∙ ap (stored_failing (plain_shape c.args.shape) c.args.first c.args.buffers.now p)
    (c.as_slice.ensures.value ∙ c.extents_of-extents.ensures ∙ ap (λ (q : Part). extents_in c.args.first c.args.buffers.now q.queries) c.part-2.ensures.is)
    ∙ sym (part-by c.args.first c.args.buffers.now (plain_shape c.args.shape) p
    ∙ ap (λ (o : Option ℕ). or_else o (stored_failing (plain_shape c.args.shape) c.args.first c.args.buffers.now p (extents_in c.args.first c.args.buffers.now p.queries)))
    (ap (λ (xs : List Query). first_failing (extent_tests c.args.first c.args.buffers.now xs)) (sym qs) ∙ sym c.extents_misfit.ensures ∙ c.in_default.is))
