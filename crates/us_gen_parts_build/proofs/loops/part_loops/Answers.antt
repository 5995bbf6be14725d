use Rattle.std.proofs.Common.{◌≡◌, ◌+◌, ◌<◌, ◌≤◌, ◌^◌, ℕ, ℤ, List, length, map, refl, sym, ap, ap₂, subst, ◌∙◌, All}
use Rattle.std.specs.Prelude.{MatchOption}
use Rattle.std.proofs.lemmas.List.{length-map}
use Rattle.us_expr.specs.Tree.{tree}
use Rattle.us_format.specs.Declaration.{Column as Named}
use Rattle.us_format.specs.Program.{plain_shape}
use Rattle.us_decl.specs.declared.column.Column.{Column}
use Rattle.us_judge.specs.Views.{column_of, plain_part}
use Rattle.us_gen_building.specs.declared.part.PartLevel.{PartLevel}
use Rattle.us_gen_places.specs.Places.{range_without}
use Rattle.us_gen_coordinates.specs.Phase.{columns_for}
use Rattle.us_gen_parts_build.specs.Parts.{run_of, lows_of, levels_from, part_levels, keys_of}
use Rattle.us_gen_parts_build.proofs.Making.{unmapped, columns-many}
use Rattle.us_gen_parts_build.proofs.loops.part_loops.Goals as goal

pub levels_of-requires-clause-columns : goal.levels_of-requires-clause-columns
levels_of-requires-clause-columns c =
    ap (λ (xs : List ℕ). length xs) (c.as_slice.ensures ∙ c.in_ok-names.ensures)
    ∙ columns-many c.args.columns.now (map tree c.args.part.now.levels) c.args.lows.now (c.args.first + 16)
    (ap (λ (xs : List ℤ). length xs) c.requires.lows ∙ length-map (map tree c.args.part.now.levels) (λ e. (range_without (plain_shape c.args.shape) (plain_part c.args.part.now) e).lo))

pub runs_of-requires : goal.runs_of-requires
runs_of-requires c =
    let count : length (map tree c.args.part.now.levels) ≡ c.len-count.result = length-map c.args.part.now.levels tree ∙ sym c.len-count.ensures in
    subst (λ (n : ℕ). All (λ (pack : List Column). (run_of n (map column_of pack)).end < 2 ^ 32) c.as_slice-2.result.now) count
    (subst (λ (ps : List (List Column)). All (λ (pack : List Column). (run_of (length (map tree c.args.part.now.levels)) (map column_of pack)).end < 2 ^ 32) ps) (sym c.as_slice-2.ensures)
    (unmapped (λ (pack : List Named). (run_of (length (map tree c.args.part.now.levels)) pack).end < 2 ^ 32) (map column_of) c.args.part.now.packs c.requires.runs))

pub returns-clause-few : goal.returns-clause-few
returns-clause-few c =
    subst (λ (ls : List PartLevel). MatchOption c.keys_of-keys.result (Unit {0}) (λ k. k ≤ length ls)) c.as_slice-3.ensures.value c.keys_of-keys.ensures.few

pub returns-clause-loops : goal.returns-clause-loops
returns-clause-loops c =
    let s = plain_shape c.args.shape in
    let p = plain_part c.args.part.now in
    let count : c.len-count.result ≡ length (map tree c.args.part.now.levels) = c.len-count.ensures ∙ sym (length-map c.args.part.now.levels tree) in
    let names : c.as_slice.result.now ≡ columns_for c.args.columns.now p.levels (lows_of s p) (c.args.first + 16) =
    c.as_slice.ensures ∙ c.in_ok-names.ensures ∙ ap (λ (xs : List ℤ). columns_for c.args.columns.now p.levels xs (c.args.first + 16)) c.requires.lows in
    let levels : c.in_ok-levels.levels.items ≡ part_levels s p c.args.columns.now c.args.first (c.args.first + 16) =
    c.in_ok-levels.ensures ∙ ap (λ (xs : List ℕ). levels_from s p c.args.first 0 p.levels xs) names in
    record {
      count = refl;
      levels = levels;
      values = refl;
      keys = c.keys_of-keys.ensures.value ∙ ap (λ (ls : List PartLevel). keys_of c.args.sorts ls) (c.as_slice-3.ensures.value ∙ levels);
      packs = c.in_ok-packs.ensures ∙ ap₂ (λ (n : ℕ) (ps : List (List Column)). map (run_of n) (map (map column_of) ps)) count c.as_slice-2.ensures;
    }
