-- Which parts can be stored.
use Rattle.std.specs.Prelude.{◌≡◌, ◌≤◌, List, length, map, All}
use Rattle.us_expr.specs.Tree.{node_count}
use Rattle.us_format.specs.Declaration.{Part, Query, Schedule, argument}
use Rattle.us_format.specs.Packs.{Buffer, pieces, written}
use Rattle.us_layout.specs.Arranging.{PacksHaveOneLength}
use Rattle.us_format.specs.Rules.{ArePacksLawful, IsLawful}

-- a schedule has few lanes
abbrev pub HasFewLanes : Query → Type 0
HasFewLanes (Schedule l u t n) = n ≤ 64
HasFewLanes _ = Unit {0}

-- a lawful part with few names and levels, small expressions, few lanes and lawful packs
pub record IsStorable (p : Part) : Type 0 where
  pub names : p.names ≤ 32
  pub few_levels : length p.levels ≤ 6
  pub small : All (λ e. node_count e ≤ 32) p.levels
  pub arguments : All (λ q. node_count (argument q) ≤ 32) p.queries
  pub lanes : All HasFewLanes p.queries
  pub lawful : IsLawful p
  pub packs : ArePacksLawful p

-- one buffer for each piece of a part, where the columns of each pack have one length
pub record AreStored (p : Part) (bs : List Buffer) : Type 0 where
  pub count : length bs ≡ length (pieces p)
  pub packs : PacksHaveOneLength p (map written bs)
