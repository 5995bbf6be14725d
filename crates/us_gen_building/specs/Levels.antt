-- How the loops take the levels of a part: roles, names and dims.
use Rattle.std.specs.Prelude.{ℕ, zero, suc, ◌+◌, Bool, true, false, ◌&&◌, List, [], ◌∷◌, map}
use Rattle.us_format.specs.declared.Kind.{Kind}
use Rattle.us_format.specs.declared.Kind.TheVariants.{Full, Compressed, Listed, Slot}
use Rattle.us_format_loops.specs.Nodes.{is_slot}
use Rattle.us_code.specs.declared.program.Dim.{Dim}
use Rattle.us_code.specs.declared.program.Dim.TheVariants as dim
use Rattle.us_code.specs.Plain.{Number, Reg, LineTree, Of, Product, Successor}
use Rattle.us_gen.specs.Levels.{size_term}
use Rattle.us_gen_build.specs.declared.levels.Role.{Role}
use Rattle.us_gen_build.specs.declared.levels.Role.TheVariants as role
use Rattle.us_gen_build.specs.Levels.{LevelTree, one_more}
use Rattle.us_gen_building.specs.declared.part.PartLevel.{PartLevel}
use Rattle.us_gen_building.specs.declared.part.Descent.{Descent}

-- whether all levels are slot levels
abbrev pub are_last : List PartLevel → Bool
are_last [] = true
are_last (l ∷ ls) = is_slot l.kind && are_last ls

abbrev pub columns : List PartLevel → List ℕ
columns ls = map (λ l. l.column) ls

-- ---- the positions of a level, by its kind and whether only slot levels follow

-- whether the positions are the ranks of the entries
abbrev pub ranks_below : Kind → Bool → Bool → Bool
ranks_below Full last ranked = false
ranks_below Compressed last ranked = last
ranks_below Listed last ranked = true
ranks_below Slot last ranked = ranked

-- how many there are, where `count` is the dim of entries and name is free
abbrev pub positions : Kind → Bool → ℕ → Dim → ℕ → Dim
positions Full last count above name = dim.Name name
positions Compressed true count above name = dim.Name count
positions Compressed false count above name = dim.Name name
positions Listed last count above name = dim.Name count
positions Slot last count above name = above

-- one more than the positions above
abbrev pub starts : Bool → ℕ → Dim
starts true name = dim.Number 2
starts false name = dim.Name name

-- one level down
abbrev pub deeper : ℕ → PartLevel → Bool → Descent → Descent
deeper count l last x = record {
  is_top = false;
  is_rank = ranks_below l.kind last x.is_rank;
  above = positions l.kind last count x.above (x.dims + 1);
  dims = x.dims + 2;
  first = x.first + 4;
  register = x.register + 1;
}

-- ---- the loop that builds

abbrev pub slot_role : Bool → Role
slot_role true = role.AtRank
slot_role false = role.AtPosition

abbrev pub role_of : Kind → Bool → Bool → Role
role_of Full last ranked = role.Full
role_of Compressed true ranked = role.Single
role_of Compressed false ranked = role.Shared
role_of Listed last ranked = role.Single
role_of Slot last ranked = slot_role ranked

abbrev pub built_level : ℕ → PartLevel → Bool → Descent → LevelTree
built_level count l last x = record {
  role = role_of l.kind last x.is_rank;
  is_top = x.is_top;
  first = x.first;
  size = size_term l.size;
  coord = Reg x.register;
  pos_length = starts x.is_top x.dims;
  crd_length = positions l.kind last count x.above (x.dims + 1);
}

abbrev pub built_values : Descent → LevelTree
built_values x = record {
  role = slot_role x.is_rank;
  is_top = false;
  first = x.first;
  size = Number 0;
  coord = Reg x.register;
  pos_length = dim.Number 0;
  crd_length = x.above;
}

-- the levels, and the values behind them
abbrev pub built_levels : ℕ → List PartLevel → Descent → List LevelTree
built_levels count [] x = built_values x ∷ []
built_levels count (l ∷ ls) x = built_level count l (are_last ls) x ∷ built_levels count ls (deeper count l (are_last ls) x)

-- ---- the loop that counts

-- one more than the number of levels behind, if there are any
abbrev pub raised : ℕ → ℕ
raised zero = zero
raised (suc n) = suc (suc n)

abbrev pub group_at : Kind → Bool → ℕ → ℕ
group_at Full last n = raised n
group_at Compressed true n = 0
group_at Compressed false n = suc n
group_at Listed last n = 0
group_at Slot last n = 0

-- how many levels there are up to the last one whose nodes are counted: the last compressed one in front of the last that isn't a slot level
abbrev pub group_count : List PartLevel → ℕ
group_count [] = 0
group_count (l ∷ ls) = group_at l.kind (are_last ls) (group_count ls)

abbrev pub counting_role : Kind → Role
counting_role Full = role.Full
counting_role Compressed = role.Counted
counting_role Listed = role.Counted
counting_role Slot = role.Counted

abbrev pub counted_level : PartLevel → ℕ → ℕ → LevelTree
counted_level l first register = record {
  role = counting_role l.kind;
  is_top = false;
  first = first;
  size = size_term l.size;
  coord = Reg register;
  pos_length = dim.Number 0;
  crd_length = dim.Number 0;
}

abbrev pub counted_levels : List PartLevel → ℕ → ℕ → List LevelTree
counted_levels [] first register = []
counted_levels (l ∷ ls) first register = counted_level l first register ∷ counted_levels ls (first + 4) (register + 1)

-- ---- dims

-- one more than the positions above, which a level with nodes needs
abbrev pub start_line : Bool → Descent → List LineTree → List LineTree
start_line true x rest = rest
start_line false x rest = Successor x.dims x.above ∷ rest

abbrev pub group_lines : Descent → List LineTree → List LineTree
group_lines x rest = start_line x.is_top x (Of (x.dims + 1) (one_more (x.first + 1)) ∷ rest)

-- the dims of a level: its positions are a product, or one more than the last node that was counted
abbrev pub level_lines : Kind → Bool → Dim → Descent → List LineTree → List LineTree
level_lines Full last size x rest = Product (x.dims + 1) x.above size ∷ rest
level_lines Compressed true size x rest = start_line x.is_top x rest
level_lines Compressed false size x rest = group_lines x rest
level_lines Listed last size x rest = start_line x.is_top x rest
level_lines Slot last size x rest = rest

abbrev pub dim_lines : ℕ → List PartLevel → Descent → List LineTree
dim_lines count [] x = []
dim_lines count (l ∷ ls) x = level_lines l.kind (are_last ls) l.size x (dim_lines count ls (deeper count l (are_last ls) x))
