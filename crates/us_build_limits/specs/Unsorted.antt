-- Phases that build the buffers of a part without keys sort nothing.
use Rattle.std.specs.Prelude.{◌≡◌, ℕ, List, [], ◌∷◌, ℤ, None}
use Rattle.us_code.specs.declared.pieces.Columns.{Columns}
use Rattle.us_expr.specs.Tree.{Tree}
use Rattle.us_gen_building.specs.declared.part.PartLoops.{PartLoops}
use Rattle.us_gen_building.specs.Phases.{building_phases}
use Rattle.us_gen_coordinates.specs.Phase.{coordinates_phase}
use Rattle.us_gen_extents.specs.Extents.{extents_phase}
use Rattle.us_gen_pack_building.specs.declared.part.PackedLoops.{PackedLoops}
use Rattle.us_gen_pack_building.specs.Phases.{packing_phases}
use Rattle.us_limits.specs.Orders.{HaveNoOrder}

pub record SortNothing : Type 0 where
  pub extents : (bs : List ℕ) (n : ℕ) → HaveNoOrder (extents_phase bs n ∷ [])
  pub coordinates : (cs : Columns) (es : List Tree) (lows : List ℤ) (n : ℕ) → HaveNoOrder (coordinates_phase cs es lows n ∷ [])
  pub buildings : (x : PartLoops) (f : ℕ) → x.keys ≡ None → HaveNoOrder (building_phases x f)
  pub packings : (x : PackedLoops) (f : ℕ) → x.part.keys ≡ None → HaveNoOrder (packing_phases x f)
