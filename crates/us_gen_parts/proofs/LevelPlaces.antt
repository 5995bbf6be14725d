-- The place of a level.
use Rattle.std.proofs.Common.{◌≡◌, ℕ, ℤ, ◌+◌, ◌⊎◌, sym, ap, ◌∙◌, inl, inr, Option, IsTrue}
use Rattle.std.specs.Prelude.{replicate, slice_index_or}
use Rattle.us_expr.specs.declared.ranges.Range.{Range}
use Rattle.us_expr.specs.Tree.{Tree, RowIndex}
use Rattle.us_format.specs.declared.Kind.{Kind}
use Rattle.us_format.specs.declared.Kind.TheVariants as kinds
use Rattle.us_format.specs.Matrix.{Shape}
use Rattle.us_format.specs.Declaration.{LevelColumn, Part}
use Rattle.us_format.specs.Coordinates.{level_range}
use Rattle.us_format.specs.Kinds.{kind}
use Rattle.us_format.specs.Packs.{PosOf}
use Rattle.us_format.specs.Reading.{own_place}
use Rattle.us_format_loops.specs.Nodes.{has_nodes}
use Rattle.us_code.specs.declared.program.Dim.{Dim}
use Rattle.us_code.specs.declared.program.Dim.TheVariants as dim
use Rattle.us_gen_walk.specs.declared.places.Column.{Column as Place}
use Rattle.us_gen_walk.specs.declared.places.Loop.TheVariants as over
use Rattle.us_gen_places.specs.declared.start.PartStart.{PartStart}
use Rattle.us_gen_places.specs.declared.levels.LevelPlace.TheVariants.{InFront}
use Rattle.us_gen_places.specs.Places.{place_of, nodes_of, more_name, counted_by, loop_of, place_by, place_at}

pub loop-is : (a : PartStart) (p : Part) (k n m : ℕ) (r : Range) (nodes : Dim) (crd : Place) (low : ℤ) → n ≡ own_place p (PosOf k) → m ≡ more_name a k → nodes ≡ nodes_of a p k → crd ≡ place_of a p (LevelColumn k)
    → low ≡ r.lo → over.Nodes (a.source + n) (dim.Name m) nodes crd low ≡ loop_of a p k r
loop-is a p k n m r nodes crd low h e i j l =
    ap (λ x. over.Nodes (a.source + x) (dim.Name m) nodes crd low) h
    ∙ ap (λ x. over.Nodes (a.source + own_place p (PosOf k)) (dim.Name x) nodes crd low) e
    ∙ ap (λ (x : Dim). over.Nodes (a.source + own_place p (PosOf k)) (dim.Name (more_name a k)) x crd low) i
    ∙ ap (λ (x : Place). over.Nodes (a.source + own_place p (PosOf k)) (dim.Name (more_name a k)) (nodes_of a p k) x low) j
    ∙ ap (λ (x : ℤ). over.Nodes (a.source + own_place p (PosOf k)) (dim.Name (more_name a k)) (nodes_of a p k) (place_of a p (LevelColumn k)) x) l

pub in-front : (a : PartStart) (p : Part) (k : ℕ) (o : Option ℕ) (r : Range) (kd : Kind) → ((kd ≡ kinds.Compressed) ⊎ (kd ≡ kinds.Listed)) → InFront (loop_of a p k r) ≡ place_by a p k o r kd
in-front a p k o r kd (inl e) = ap (λ (x : Kind). place_by a p k o r x) (sym e)
in-front a p k o r kd (inr e) = ap (λ (x : Kind). place_by a p k o r x) (sym e)

-- such a level has nodes
pub nodes-there : (p : Part) (k : ℕ) (kd : Kind) → kd ≡ kind p k → ((kd ≡ kinds.Compressed) ⊎ (kd ≡ kinds.Listed)) → IsTrue (has_nodes (kind p k))
nodes-there p k kd is (inl e) = ap has_nodes (sym is ∙ e)
nodes-there p k kd is (inr e) = ap has_nodes (sym is ∙ e)

-- the place of the level k by what is known of it, where the part is q
pub level-is : (a : PartStart) (s : Shape) (p q : Part) (k : ℕ) (o : Option ℕ) (r : Range) (kd : Kind) (e : Tree) → p ≡ q → e ≡ slice_index_or p.levels k RowIndex → o ≡ counted_by p.queries e
    → r ≡ level_range s (replicate 16 0) q (slice_index_or q.levels k RowIndex) → kd ≡ kind q k → place_by a p k o r kd ≡ place_at a s p k
level-is a s p q k o r kd e same e_is o_is r_is kd_is =
    ap (λ (x : Option ℕ). place_by a p k x r kd) (o_is ∙ ap (λ (t : Tree). counted_by p.queries t) e_is)
    ∙ ap (λ (x : Range). place_by a p k (counted_by p.queries (slice_index_or p.levels k RowIndex)) x kd) (r_is ∙ ap (λ (z : Part). level_range s (replicate 16 0) z (slice_index_or z.levels k RowIndex)) (sym same))
    ∙ ap (λ (x : Kind). place_by a p k (counted_by p.queries (slice_index_or p.levels k RowIndex)) (level_range s (replicate 16 0) p (slice_index_or p.levels k RowIndex)) x) (kd_is ∙ ap (λ (z : Part). kind z k) (sym same))
