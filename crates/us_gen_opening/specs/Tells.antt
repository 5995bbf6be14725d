-- The dims of the phase are those that the places of parts want.
use Rattle.std.specs.Prelude.{◌≡◌, ℕ, ◌+◌, ◌<◌, ◌≤◌, ◌⊎◌, map, length, List, [], ◌∷◌, All, ℤ}
use Rattle.us_format.specs.Lists.{nth}
use Rattle.us_format.specs.Matrix.{Shape, Entry}
use Rattle.us_format.specs.Declaration.{ValueColumn, Part}
use Rattle.us_format.specs.Queries.{extents_of}
use Rattle.us_format.specs.Buffers.{part_buffers}
use Rattle.us_format.specs.Reading.{extent_count, limit}
use Rattle.us_format.specs.Rules.{ArePacksLawful}
use Rattle.us_code.specs.Run.{Env}
use Rattle.us_code.specs.Typing.{Context}
use Rattle.us_gen_places.specs.declared.start.PartStart.{PartStart}
use Rattle.us_gen_places.specs.Places.{place_of, loops_from, tables_from}
use Rattle.us_gen_places.specs.Holds.{held_by, HoldParts}
use Rattle.us_gen_places.specs.Dims.{HasDims, SeesDims, next_start, HaveDims, SeeDims, dim_count}
use Rattle.us_gen_opening.specs.declared.parts.Opening.{Opening}
use Rattle.us_gen_opening.specs.Opening.{extents_from, all_lines}
use Rattle.us_gen_opening.specs.Dims.{AreNew, AreNamed, ExtentsStand, ExtentsAre, NodesAre, DimsAre, ExtentsSeen, NodesSeen, DimsSeen}

-- what the phase needs of a part whose sources and dims begin there: the extents, the levels and the values of its places
pub record IsOpeningOf (a : PartStart) (s : Shape) (p : Part) (o : Opening) : Type 0 where
  pub extents : o.extents.items ≡ extents_from a.source (tables_from a (extent_count p) 0 p.queries)
  pub loops : o.loops.items ≡ loops_from a s p 0 p.levels
  pub values : o.values ≡ place_of a p ValueColumn

-- the sources from a start on are the buffers of a part
abbrev pub HoldsBuffers : (ℕ → List ℤ) → PartStart → Shape → Part → List Entry → Type 0
HoldsBuffers sources a s p m = (k : ℕ) → k < length (part_buffers s p m) → sources (a.source + k) ≡ nth (held_by s p m) k

pub record OpeningTells : Type 0 where
  -- the levels with nodes have dims for them
  pub named : (a : PartStart) (s : Shape) (p : Part) (o : Opening) → IsOpeningOf a s p o → AreNamed o.loops.items
  -- on the buffers of a part the extents are in their sources, and the dims of extents and nodes are those that its places want
  pub extents :
      (sources : ℕ → List ℤ) (a : PartStart) (s : Shape) (p : Part) (m : List Entry) (o : Opening) → IsOpeningOf a s p o → ArePacksLawful p
      → HoldsBuffers sources a s p m → All (λ n. n ≤ limit) (extents_of m s p) → ExtentsStand sources o.extents.items
  pub dims :
      (env : Env) (a : PartStart) (s : Shape) (p : Part) (m : List Entry) (o : Opening) → IsOpeningOf a s p o → ArePacksLawful p
      → HoldsBuffers env.sources a s p m → ExtentsAre env o.extents.items → NodesAre env o.loops.items → HasDims env a s p m
  -- they are visible as its places want
  pub forms :
      (g : Context) (a : PartStart) (s : Shape) (p : Part) (o : Opening) → IsOpeningOf a s p o
      → ExtentsSeen g o.extents.items → NodesSeen g o.loops.items → SeesDims g a p

-- ---- all parts, one behind the other

abbrev pub AreOpeningsOf : PartStart → Shape → List Part → List Opening → Type 0
AreOpeningsOf a s [] [] = Unit {0}
AreOpeningsOf a s [] (o ∷ os) = ⊥
AreOpeningsOf a s (p ∷ ps) [] = ⊥
AreOpeningsOf a s (p ∷ ps) (o ∷ os) = IsOpeningOf a s p o × AreOpeningsOf (next_start a p) s ps os

pub record OpeningsTell : Type 0 where
  pub dims :
      (env : Env) (a : PartStart) (s : Shape) (xs : List (Part × List Entry)) (os : List Opening) → AreOpeningsOf a s (map (λ x. x.0) xs) os
      → All (λ x. ArePacksLawful x.0) xs → HoldParts env a.source s xs → DimsAre env os → HaveDims env a s xs
  pub forms : (g : Context) (a : PartStart) (s : Shape) (ps : List Part) (os : List Opening) → AreOpeningsOf a s ps os → DimsSeen g os → SeeDims g a ps
  -- a dim in front of theirs, or behind, can be the number of entries
  pub new :
      (a : PartStart) (s : Shape) (ps : List Part) (os : List Opening) (count n low : ℕ) → AreOpeningsOf a s ps os
      → All (λ p. length p.queries ≤ 16) ps → low ≤ a.dim → low ≤ count → (count < a.dim) ⊎ (a.dim + dim_count ps ≤ count) → AreNew low (all_lines count n os)
