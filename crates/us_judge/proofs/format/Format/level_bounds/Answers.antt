use Rattle.std.proofs.Common.{◌≡◌, ℕ, ◌<◌, ◌≤◌, ◌-◌, ℤ, List, [], ◌∷◌, Option, Some, None, if◌then◌else◌, length, map, take, slice_index_or, sym, ap, ap₂, ◌∙◌, arith}
use Rattle.std.proofs.lemmas.List.{length-map}
use Rattle.us_expr.specs.declared.ranges.Range.{Range}
use Rattle.us_expr.specs.Tree.{RowIndex}
use Rattle.us_format.specs.Declaration.{Part, query_of}
use Rattle.us_format.specs.Matrix.{Shape}
use Rattle.us_judge.specs.declared.level_ranges.LevelBounds.{LevelBounds}
use Rattle.us_judge.specs.Format.{is_counted, part_at, range_with}
use Rattle.us_judge.specs.Views.{declaration_of}
use Rattle.us_judge.proofs.NoExtents.{taken, zeros}
use Rattle.us_judge.proofs.SomePart.{short-part}
use Rattle.us_judge.proofs.format.Format.level_bounds.Goals as goal

pub slice_bounds-extents-end : goal.slice_bounds-extents-end
slice_bounds-extents-end c =
    let below : c.args.part - 1 < length (declaration_of c.args.self.now).parts = omega (arith, c.requires.from_one, c.requires.part) in
    let p : Part = part_at (declaration_of c.args.self.now) (c.args.part - 1) in
    let count : c.len.result ≡ length p.queries =
    c.len.ensures ∙ sym (length-map c.part-the_part.result.now.queries query_of) ∙ ap (λ (q : Part). length q.queries) c.part-the_part.ensures.is in
    let few : length p.queries ≤ 16 = (short-part c.args.self.now (c.args.part - 1) c.part-the_part.ensures.valid below).queries in
    omega (arith, count, few)

pub slice_bounds-none-end : goal.slice_bounds-none-end
slice_bounds-none-end c =
    let below : c.args.part - 1 < length (declaration_of c.args.self.now).parts = omega (arith, c.requires.from_one, c.requires.part) in
    let p : Part = part_at (declaration_of c.args.self.now) (c.args.part - 1) in
    let count : c.len.result ≡ length p.queries =
    c.len.ensures ∙ sym (length-map c.part-the_part.result.now.queries query_of) ∙ ap (λ (q : Part). length q.queries) c.part-the_part.ensures.is in
    let few : length p.queries ≤ 16 = (short-part c.args.self.now (c.args.part - 1) c.part-the_part.ensures.valid below).queries in
    taken c.len.result (0 ∷ 0 ∷ 0 ∷ 0 ∷ 0 ∷ 0 ∷ 0 ∷ 0 ∷ 0 ∷ 0 ∷ 0 ∷ 0 ∷ 0 ∷ 0 ∷ 0 ∷ 0 ∷ []) (omega (arith, count, few))

pub returns : goal.returns
returns c =
    let d = declaration_of c.args.self.now in
    let p : Part = part_at d (c.args.part - 1) in
    let s : Shape = record { rows = c.args.shape_rows; cols = c.args.shape_cols } in
    let below : c.args.part - 1 < length d.parts = omega (arith, c.requires.from_one, c.requires.part) in
    let few : length p.queries ≤ 16 = (short-part c.args.self.now (c.args.part - 1) c.part-the_part.ensures.valid below).queries in
    let count : c.len.result ≡ length p.queries =
    c.len.ensures ∙ sym (length-map c.part-the_part.result.now.queries query_of) ∙ ap (λ (q : Part). length q.queries) c.part-the_part.ensures.is in
    let zero_list : List ℕ = 0 ∷ 0 ∷ 0 ∷ 0 ∷ 0 ∷ 0 ∷ 0 ∷ 0 ∷ 0 ∷ 0 ∷ 0 ∷ 0 ∷ 0 ∷ 0 ∷ 0 ∷ 0 ∷ [] in
    let none : take c.len.result zero_list ≡ map (λ q. 0) p.queries = ap (λ n. take n zero_list) count ∙ zeros p.queries 16 few in
    let is : c.level_range-range.result ≡ range_with s (map (λ q. 0) p.queries) d (c.args.part - 1) c.args.level =
    c.level_range-range.ensures ∙ ap (λ ns. range_with s ns d (c.args.part - 1) c.args.level) none in
    ap₂ (λ (a : ℤ) (b : Option ℤ). let r : LevelBounds = record { lo = a; hi = b } in r)
    (c.bounds_of.ensures.lo ∙ ap (λ (r : Range). r.lo) is)
    (c.bounds_of.ensures.hi
    ∙ ap (λ (q : Part). if is_counted q (slice_index_or q.levels c.args.level RowIndex) then None else Some c.level_range-range.result.hi) c.part-the_part.ensures.is
    ∙ ap (λ (r : Range). if is_counted p (slice_index_or p.levels c.args.level RowIndex) then None else Some r.hi) is)
