-- The lists of a declaration are short, so that each item has a small number.
use Rattle.std.specs.Prelude.{◌≤◌, List, [], ◌∷◌, length}
use Rattle.us_format.specs.Declaration.{Part, Declaration}

-- no list of a part has more than 16 items
pub record IsShort (p : Part) : Type 0 where
  pub queries : length p.queries ≤ 16
  pub levels : length p.levels ≤ 16
  pub trim : length p.trim ≤ 16
  pub merge : length p.merge ≤ 16
  pub packs : length p.packs ≤ 16

abbrev pub AreShort : List Part → Type 0
AreShort [] = Unit {0}
AreShort (p ∷ ps) = IsShort p × AreShort ps

-- nor any list of a declaration, which has at most three conditions and four parts
pub record IsShortDeclaration (d : Declaration) : Type 0 where
  pub head : length d.head ≤ 16
  pub conds : length d.conds ≤ 3
  pub few : length d.parts ≤ 4
  pub parts : AreShort d.parts
