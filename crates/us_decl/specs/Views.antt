-- The declaration that a value of the program holds.
use Rattle.std.specs.Prelude.{List, map, ℕ}
use Rattle.us_expr.specs.Tree.{tree}
use Rattle.us_expr.specs.declared.queries.Query as asked
use Rattle.us_expr.specs.declared.queries.Query.TheVariants as query
use Rattle.us_decl.specs.declared.decl.Part.{Part}
use Rattle.us_decl.specs.declared.decl.Head.{Head}
use Rattle.us_decl.specs.declared.decl.Body.{Body}
use Rattle.us_decl.specs.declared.decl.Body.TheVariants as bodies
use Rattle.us_decl.specs.declared.decl.Decl.{Decl}
use Rattle.us_decl.specs.Declares.{Query, SumOf, EnumerateOf, ReorderOf, ScheduleOf, DeclaredPart, DeclaredHead, DeclaredBody, Undivided, Divided, Declared}

abbrev pub query_view : asked.Query → Query
query_view (query.Sum v e) = SumOf v (tree e)
query_view (query.Enumerate v e) = EnumerateOf v (tree e)
query_view (query.Reorder v e) = ReorderOf v (tree e)
query_view (query.Schedule v w e k) = ScheduleOf v w (tree e) k

abbrev pub part_view : Part → DeclaredPart
part_view p = record {
  names = p.names;
  queries = map query_view p.queries;
  levels = map tree p.levels;
  trim = p.trim;
  merge = p.merge;
  packs = p.packs;
}

abbrev pub head_view : Head → DeclaredHead
head_view h = record {
  names = h.names;
  queries = map query_view h.queries;
  conds = h.conds;
}

abbrev pub body_view : Body → DeclaredBody
body_view (bodies.One p) = Undivided (part_view p)
body_view (bodies.Split h ps) = Divided (head_view h) (map part_view ps)

abbrev pub decl_view : Decl → Declared
decl_view d = record { name = d.name; body = body_view d.body }

-- the names of declarations, in order
abbrev pub decl_names : List Decl → List (List ℕ)
decl_names ds = map (λ d. d.name) ds
