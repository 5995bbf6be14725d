use Rattle.std.proofs.Common.{◌≡◌, ◌+◌, ◌-◌, ◌^◌, ℕ, ℤ, List, map, length, take, sym, ap, subst, ◌∙◌, arith, All}
use Rattle.us_code.specs.Plain.{phase_tree}
use Rattle.us_expr.specs.Value.{IsWithin}
use Rattle.us_format.specs.Declaration.{Part}
use Rattle.us_format.specs.Program.{plain_shape}
use Rattle.us_format.specs.Reading.{extent_count}
use Rattle.us_judge.specs.Format.{part_at}
use Rattle.us_judge.specs.Views.{declaration_of, plain_part}
use Rattle.us_gen_parts.specs.Own.{IsPartOf}
use Rattle.us_gen_parts.proofs.PartThere.{is-part}
use Rattle.us_gen_parts_build.specs.Meaning.{NamesQueries, BuildsPart}
use Rattle.us_gen_parts_build.specs.Parts.{run_of}
use Rattle.us_gen_parts_build.specs.Phases.{part_phases}
use Rattle.us_gen_parts_build.proofs.Accepted.{part-orderly, part-usable, names-few}
use Rattle.us_gen_parts_build.proofs.Limits.{ranges-short}
use Rattle.us_gen_parts_build.proofs.Packed.{part-packed}
use Rattle.us_gen_parts_build.proofs.Pieces.{builds, runs-end}
use Rattle.us_gen_parts_build.proofs.Ready.{level-number, pack-number, runs-fit}
use Rattle.us_gen_parts_build.proofs.building.piece_from.Goals as goal

pub lows_of-requires-clause-part : goal.lows_of-requires-clause-part
lows_of-requires-clause-part c =
    is-part c.args.format.now c.args.number (plain_part c.part-part.result.now) c.part-part.ensures.valid c.part-part.ensures.accepted c.requires.from_one c.requires.part c.part-part.ensures.is

pub part_loops-requires-clause-part : goal.part_loops-requires-clause-part
part_loops-requires-clause-part c =
    is-part c.args.format.now c.args.number (plain_part c.part-part.result.now) c.part-part.ensures.valid c.part-part.ensures.accepted c.requires.from_one c.requires.part c.part-part.ensures.is

pub part_loops-requires-clause-within : goal.part_loops-requires-clause-within
part_loops-requires-clause-within c =
    let p = plain_part c.part-part.result.now in
    let at : IsPartOf c.args.format.now c.args.number p = part_loops-requires-clause-part c in
    let names : length c.args.query.now.columns.vars.items ≡ p.names = c.requires.query.variables ∙ ap (λ (q : Part). q.names) (sym c.part-part.ensures.is) in
    subst (λ (n : ℕ). All (IsWithin n) p.levels) (sym names) (part-orderly c.args.format.now c.args.number p at).lawful.levels_valid

pub part_loops-requires-clause-runs : goal.part_loops-requires-clause-runs
part_loops-requires-clause-runs c =
    let p = plain_part c.part-part.result.now in
    let at : IsPartOf c.args.format.now c.args.number p = part_loops-requires-clause-part c in
    runs-end (length p.levels + 1) (2 ^ 32) (run_of (length p.levels)) p.packs (omega (arith, at.short.levels)) (part-packed c.args.format.now c.args.number p at).runs

pub piece_of-requires-clause-queries : goal.piece_of-requires-clause-queries
piece_of-requires-clause-queries c =
    let p = plain_part c.part-part.result.now in
    let at : IsPartOf c.args.format.now c.args.number p =
    is-part c.args.format.now c.args.number p c.part-part.ensures.valid c.part-part.ensures.accepted c.requires.from_one c.requires.part c.part-part.ensures.is in
    at.short.queries

pub piece_of-requires-clause-extents : goal.piece_of-requires-clause-extents
piece_of-requires-clause-extents c =
    let same : extent_count (plain_part c.part-part.result.now) ≡ extent_count (part_at (declaration_of c.args.format.now) (c.args.number - 1)) = ap (λ (q : Part). extent_count q) c.part-part.ensures.is in
    omega (arith, c.requires.query.buffers, same)

pub piece_of-requires-clause-within : goal.piece_of-requires-clause-within
piece_of-requires-clause-within c =
    let p = plain_part c.part-part.result.now in
    let at : IsPartOf c.args.format.now c.args.number p =
    is-part c.args.format.now c.args.number p c.part-part.ensures.valid c.part-part.ensures.accepted c.requires.from_one c.requires.part c.part-part.ensures.is in
    let names : length c.args.query.now.columns.vars.items ≡ p.names = c.requires.query.variables ∙ ap (λ (q : Part). q.names) (sym c.part-part.ensures.is) in
    subst (λ (n : ℕ). All (IsWithin n) p.levels) (sym names) (part-orderly c.args.format.now c.args.number p at).lawful.levels_valid

pub piece_of-requires-clause-variables : goal.piece_of-requires-clause-variables
piece_of-requires-clause-variables c =
    let p = plain_part c.part-part.result.now in
    let at : IsPartOf c.args.format.now c.args.number p =
    is-part c.args.format.now c.args.number p c.part-part.ensures.valid c.part-part.ensures.accepted c.requires.from_one c.requires.part c.part-part.ensures.is in
    let names : length c.args.query.now.columns.vars.items ≡ p.names = c.requires.query.variables ∙ ap (λ (q : Part). q.names) (sym c.part-part.ensures.is) in
    omega (arith, names, names-few c.args.format.now c.args.number p at)

pub piece_of-requires-clause-levels : goal.piece_of-requires-clause-levels
piece_of-requires-clause-levels c =
    let p = plain_part c.part-part.result.now in
    let at : IsPartOf c.args.format.now c.args.number p =
    is-part c.args.format.now c.args.number p c.part-part.ensures.valid c.part-part.ensures.accepted c.requires.from_one c.requires.part c.part-part.ensures.is in
    at.short.levels

pub piece_of-requires-clause-loops : goal.piece_of-requires-clause-loops
piece_of-requires-clause-loops c =
    let p = plain_part c.part-part.result.now in
    let at : IsPartOf c.args.format.now c.args.number p =
    is-part c.args.format.now c.args.number p c.part-part.ensures.valid c.part-part.ensures.accepted c.requires.from_one c.requires.part c.part-part.ensures.is in
    let names : NamesQueries p c.args.query.now.columns c.args.query.now.buffers c.args.first =
    subst (λ (q : Part). NamesQueries q c.args.query.now.columns c.args.query.now.buffers c.args.first) (sym c.part-part.ensures.is) c.requires.query in
    let number : length c.in_ok-loops.loops.part.levels.items ≡ length p.levels =
    level-number c.args.sorts (plain_shape c.args.shape) p c.args.query.now.columns c.args.query.now.buffers c.args.first (c.args.first + 16) (c.args.first + 656) c.in_ok-loops.loops
    (part-orderly c.args.format.now c.args.number p at) (part-packed c.args.format.now c.args.number p at) names c.in_ok-loops.ensures.loops (omega arith) in
    omega (arith, number, at.short.levels)

pub piece_of-requires-clause-packs : goal.piece_of-requires-clause-packs
piece_of-requires-clause-packs c =
    let p = plain_part c.part-part.result.now in
    let at : IsPartOf c.args.format.now c.args.number p =
    is-part c.args.format.now c.args.number p c.part-part.ensures.valid c.part-part.ensures.accepted c.requires.from_one c.requires.part c.part-part.ensures.is in
    let names : NamesQueries p c.args.query.now.columns c.args.query.now.buffers c.args.first =
    subst (λ (q : Part). NamesQueries q c.args.query.now.columns c.args.query.now.buffers c.args.first) (sym c.part-part.ensures.is) c.requires.query in
    let number : length c.in_ok-loops.loops.packs.items ≡ length p.packs =
    pack-number c.args.sorts (plain_shape c.args.shape) p c.args.query.now.columns c.args.query.now.buffers c.args.first (c.args.first + 16) (c.args.first + 656) c.in_ok-loops.loops
    (part-orderly c.args.format.now c.args.number p at) (part-packed c.args.format.now c.args.number p at) names c.in_ok-loops.ensures.loops (omega arith) in
    omega (arith, number, at.short.packs)

pub piece_of-requires-clause-keys : goal.piece_of-requires-clause-keys
piece_of-requires-clause-keys c = c.in_ok-loops.ensures.few

pub piece_of-requires-clause-runs : goal.piece_of-requires-clause-runs
piece_of-requires-clause-runs c =
    let p = plain_part c.part-part.result.now in
    let at : IsPartOf c.args.format.now c.args.number p =
    is-part c.args.format.now c.args.number p c.part-part.ensures.valid c.part-part.ensures.accepted c.requires.from_one c.requires.part c.part-part.ensures.is in
    let names : NamesQueries p c.args.query.now.columns c.args.query.now.buffers c.args.first =
    subst (λ (q : Part). NamesQueries q c.args.query.now.columns c.args.query.now.buffers c.args.first) (sym c.part-part.ensures.is) c.requires.query in
    runs-fit c.args.sorts (plain_shape c.args.shape) p c.args.query.now.columns c.args.query.now.buffers c.args.first (c.args.first + 16) (c.args.first + 656) c.in_ok-loops.loops
    (part-orderly c.args.format.now c.args.number p at) (part-packed c.args.format.now c.args.number p at) names c.in_ok-loops.ensures.loops (omega arith)

pub returns : goal.returns
returns c =
    let p = plain_part c.part-part.result.now in
    let s = plain_shape c.args.shape in
    let at : IsPartOf c.args.format.now c.args.number p =
    is-part c.args.format.now c.args.number p c.part-part.ensures.valid c.part-part.ensures.accepted c.requires.from_one c.requires.part c.part-part.ensures.is in
    let names : NamesQueries p c.args.query.now.columns c.args.query.now.buffers c.args.first =
    subst (λ (q : Part). NamesQueries q c.args.query.now.columns c.args.query.now.buffers c.args.first) (sym c.part-part.ensures.is) c.requires.query in
    subst (λ (q : Part). BuildsPart c.args.sorts s q c.args.query.now.columns c.args.query.now.buffers c.args.first (map phase_tree c.in_ok-piece.piece.phases) c.in_ok-piece.piece.buffers) c.part-part.ensures.is
    (builds c.args.sorts s p c.args.query.now.columns c.args.query.now.buffers c.args.first c.in_ok-loops.loops (part-orderly c.args.format.now c.args.number p at)
    (part-usable c.args.format.now c.args.number p at) (part-packed c.args.format.now c.args.number p at) names c.in_ok-loops.ensures.loops
    (ranges-short c.args.format.now c.args.number p s at c.requires.rows c.requires.cols) (names-few c.args.format.now c.args.number p at) at.short.packs c.requires.room
    (map phase_tree c.in_ok-piece.piece.phases) c.in_ok-piece.piece.buffers
    (c.in_ok-piece.ensures.phases
    ∙ ap (λ (zs : List ℤ). part_phases c.args.query.now.columns p.levels zs (take (extent_count p) c.args.query.now.buffers) c.args.first c.in_ok-loops.loops)
    (c.as_slice-low.ensures.value ∙ c.in_ok-lows.ensures))
    c.in_ok-piece.ensures.buffers)
