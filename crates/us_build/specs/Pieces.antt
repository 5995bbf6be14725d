-- What is built, and from what.
use Rattle.std.specs.Prelude.{ℕ, ℤ, ◌+◌, ◌-◌, ◌^◌, ◌<◌, ◌≤◌, List, map, length, All, ◌≡◌}
use Rattle.std.specs.List.{range_with_len, sum, sum_by}
use Rattle.us_expr.specs.declared.expression.Expr.{Expr}
use Rattle.us_expr.specs.declared.queries.Query.{Query}
use Rattle.us_expr.specs.Tree.{node_count, tree}
use Rattle.us_matrix.specs.Map.{IsSide}
use Rattle.us_matrix.specs.declared.matrix.Triple.{Triple}
use Rattle.us_matrix.specs.declared.shape.Shape as code
use Rattle.us_format.specs.declared.Kind.{Kind}
use Rattle.us_format.specs.Buffers.{level_buffers, part_counts, piece_buffers}
use Rattle.us_format.specs.Declaration.{Part, query_of}
use Rattle.us_format.specs.Kinds.{kind, levels_of}
use Rattle.us_format.specs.Matrix.{Entry, IsMatrixOf, Shape}
use Rattle.us_format.specs.Packs.{written}
use Rattle.us_format.specs.Queries.{extents_of}
use Rattle.us_format.specs.Program.{plain_entries, plain_shape}
use Rattle.us_format.specs.Reading.{limit}
use Rattle.us_format.specs.Rules.{IsLawful}
use Rattle.us_variables.specs.Counted.{AreVariables, IsCountable}
use Rattle.us_variables.specs.declared.variables.Variables.{Variables}
use Rattle.us_build.specs.declared.items.Item.{Item}
use Rattle.us_build.specs.declared.levels.Level.{Level}
use Rattle.us_build.specs.Items.{rows_at, rows_first}
use Rattle.us_build.specs.Levels.{levels_over}
use Rattle.us_build.specs.Ranges.{ranges_in}
use Rattle.us_build.specs.Ready.{AreReady, size_from}
use Rattle.us_build.specs.Sizes.{plain_levels}

-- the part has these level expressions, kinds of levels and queries, and as many names as there are variables
pub record IsPartOf (p : Part) (exprs : List Expr) (ks : List Kind) (qs : List Query) (t : Variables) : Type 0 where
  pub levels : p.levels ≡ map tree exprs
  pub kinds : ks ≡ map (kind p) (range_with_len 0 (length p.levels))
  pub queries : p.queries ≡ map query_of qs
  pub names : p.names ≡ t.names

-- the lengths of the buffers of a part's levels and values, and its numbers of positions, added up
abbrev pub piece_size : Shape → Part → List Entry → ℕ
piece_size s p m = sum_by (λ b. b.len) (piece_buffers s p m) + sum (part_counts s p m)

-- that size, and the buffers written out, for a matrix of the program
abbrev pub size_on : code.Shape → List Triple → Part → ℕ
size_on shape entries p = piece_size (plain_shape shape) p (plain_entries entries)

abbrev pub pieces_on : code.Shape → List Triple → Part → List (List ℤ)
pieces_on shape entries p = map written (piece_buffers (plain_shape shape) p (plain_entries entries))

-- the level expressions, kinds and queries of a lawful part, a matrix, and the variables of the queries on it
pub record IsBuildable (exprs : List Expr) (kinds : List Kind) (qs : List Query) (t : Variables) (shape : code.Shape) (entries : List Triple) : Type 0 where
  pub count : length exprs ≤ 6
  pub small : All (λ e. node_count (tree e) ≤ 32) exprs
  pub names : t.names ≤ 32
  pub lawful : (p : Part) × IsPartOf p exprs kinds qs t × IsLawful p
  pub countable : All (λ q. IsCountable (plain_shape shape) (query_of q)) qs
  pub variables : AreVariables (plain_entries entries) (plain_shape shape) (map query_of qs) t.names t
  pub rows : IsSide shape.rows
  pub cols : IsSide shape.cols
  pub matrix : IsMatrixOf (plain_shape shape) (plain_entries entries)
  pub few : length entries ≤ limit

-- the levels of the expressions, with their low ends, and items from which what is to be built follows, level by level
pub record AreRowsOf (exprs : List Expr) (ks : List Kind) (qs : List Query) (t : Variables) (shape : code.Shape) (entries : List Triple) (made : List Level) (items : List Item) : Type 0 where
  pub made_are : made ≡ levels_over shape.rows shape.cols (ranges_in (plain_shape shape) qs t) (map tree exprs) ks
  pub count : length made ≤ 6
  pub sizes : All (λ l. l.size < 2 ^ 38) made
  pub few : length items ≤ limit
  pub ready : AreReady (plain_levels made) 1 (rows_at (6 - length made) items)
  pub unmoved : rows_at (6 - length made) items ≡ rows_first (6 - length made) items
  pub levels : (p : Part) → IsPartOf p exprs ks qs t → plain_levels made ≡ levels_of (plain_shape shape) (extents_of (plain_entries entries) (plain_shape shape) p) p
  pub size : (p : Part) → IsPartOf p exprs ks qs t → size_from (plain_levels made) 1 (rows_at (6 - length made) items) ≡ piece_size (plain_shape shape) p (plain_entries entries)
  pub buffers : (p : Part) → IsPartOf p exprs ks qs t → level_buffers (plain_levels made) 1 (rows_at (6 - length made) items) ≡ piece_buffers (plain_shape shape) p (plain_entries entries)
