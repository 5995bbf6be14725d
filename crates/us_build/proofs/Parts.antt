-- A part: its levels and rows are those of the builder.
use Rattle.std.proofs.Common.{◌≡◌, ℕ, suc, ◌+◌, ◌-◌, List, [], ◌∷◌, map, length, drop, replicate, ℤ, pos, ◌+ℤ◌, ◌-ℤ◌, refl, ap, ap₂, ◌∙◌, inl, inr, arith}
use Rattle.std.specs.List.{range_with_len}
use Rattle.std.proofs.lemmas.Int.{ints}
use Rattle.std.proofs.lemmas.List.{drop_at, length-replicate}
use Rattle.us_expr.specs.Range.{LiesIn, range}
use Rattle.us_expr.specs.Tree.{Tree}
use Rattle.us_expr.specs.Value.{value}
use Rattle.us_expr.specs.declared.ranges.Range.{Range}
use Rattle.us_matrix.specs.declared.matrix.Triple.{Triple}
use Rattle.us_format.specs.declared.Kind.{Kind}
use Rattle.us_format.specs.Coordinates.{coordinate, level_range, span, variable_ranges}
use Rattle.us_format.specs.Declaration.{Part}
use Rattle.us_format.specs.Kinds.{Level as PlainLevel, kind, levels_from}
use Rattle.us_format.specs.Matrix.{Entry, Shape}
use Rattle.us_format.specs.Positions.{Row, row_of}
use Rattle.us_format.specs.Program.{plain_entries, plain_entry}
use Rattle.us_format.specs.Queries.{extents_of, variables_at}
use Rattle.us_format.proofs.Order.{Mem}
use Rattle.us_build.specs.declared.levels.Level.{Level}
use Rattle.us_build.specs.Items.{rows_at}
use Rattle.us_build.specs.Levels.{LiesInLevel, LiesInLevels, item_over, items_over, level_over, levels_over, offsets}
use Rattle.us_build.specs.Sizes.{plain_levels}
use Rattle.us_build.proofs.Spans.{pos-nat_of}

-- ---- levels

pub levels-same : (s : Shape) (extents : List ℕ) (p : Part) (k : ℕ) (es : List Tree)
    → plain_levels (levels_over s.rows s.cols (variable_ranges s extents p) es (map (kind p) (range_with_len k (length es)))) ≡ levels_from s extents p k es
levels-same s extents p k [] = refl
levels-same s extents p k (e ∷ es) =
    let q : k + 1 ≡ suc k = omega arith in
    let l : PlainLevel = record { kind = kind p k; size = span (level_range s extents p e) } in
    ap (λ (i : ℕ). l ∷ plain_levels (levels_over s.rows s.cols (variable_ranges s extents p) es (map (kind p) (range_with_len i (length es))))) q
    ∙ ap (λ ls. l ∷ ls) (levels-same s extents p (suc k) es)

-- ---- coordinates

pub offsets-are : (m : List Entry) (s : Shape) (p : Part) (x : Entry) (es : List Tree) (ks : List Kind) → length ks ≡ length es
    → offsets (pos x.i) (pos x.j) (variables_at m s p x) es (levels_over s.rows s.cols (variable_ranges s (extents_of m s p) p) es ks) ≡ map (coordinate m s p x) es
offsets-are m s p x [] ks n = refl
offsets-are m s p x (e ∷ es) [] n = absurd (omega (arith, n))
offsets-are m s p x (e ∷ es) (k ∷ ks) n = ap (λ (cs : List ℕ). coordinate m s p x e ∷ cs) (offsets-are m s p x es ks (omega (arith, n)))

pub rest-is : (es : List Tree) (ls : List Level) (vs : List ℤ) (t : Triple) → drop (6 - length es) (item_over es ls vs t).coordinates ≡ offsets (pos t.i) (pos t.j) vs es ls
rest-is es ls vs t = drop_at (replicate (6 - length es) 0) (offsets (pos t.i) (pos t.j) vs es ls) (6 - length es) (length-replicate (6 - length es) 0)

pub rows-same : (m : List Entry) (s : Shape) (p : Part) (ts : List Triple) (ks : List Kind) → length ks ≡ length p.levels
    → rows_at (6 - length p.levels) (items_over p.levels (levels_over s.rows s.cols (variable_ranges s (extents_of m s p) p) p.levels ks) (variables_at m s p) ts) ≡ map (row_of m s p) (plain_entries ts)
rows-same m s p [] ks n = refl
rows-same m s p (t ∷ ts) ks n =
    ap₂ (λ (l : List ℕ) (rs : List Row). record { at = 0; rest = l; value = t.v } ∷ rs)
    (rest-is p.levels (levels_over s.rows s.cols (variable_ranges s (extents_of m s p) p) p.levels ks) (variables_at m s p (plain_entry t)) t ∙ offsets-are m s p (plain_entry t) p.levels ks n)
    (rows-same m s p ts ks n)

-- ---- values lie in their levels

pub lies-in_level : (z : ℤ) (m n : ℕ) (rs : List Range) (e : Tree) (k : Kind) → LiesIn z (range m n rs e) → LiesInLevel z (level_over m n rs e k)
lies-in_level z m n rs e k l =
    let q : pos (span (range m n rs e)) ≡ ((range m n rs e).hi +ℤ pos 1) -ℤ (range m n rs e).lo = pos-nat_of (((range m n rs e).hi +ℤ pos 1) -ℤ (range m n rs e).lo) (omega (arith, ints, l.low, l.high)) in
    record { low = l.low; high = omega (arith, ints, l.high, q) }

pub lies-in_levels : (i j : ℤ) (vs : List ℤ) (m n : ℕ) (rs : List Range) (es : List Tree) (ks : List Kind) → ((e : Tree) → Mem e es → LiesIn (value i j vs e) (range m n rs e))
    → LiesInLevels i j vs es (levels_over m n rs es ks)
lies-in_levels i j vs m n rs [] ks h = tt
lies-in_levels i j vs m n rs (e ∷ es) [] h = tt
lies-in_levels i j vs m n rs (e ∷ es) (k ∷ ks) h = (lies-in_level (value i j vs e) m n rs e k (h e (inl refl)), lies-in_levels i j vs m n rs es ks (λ x l. h x (inr l)))
