-- Whether the entries of two formats stand in one order.
use Rattle.std.specs.Prelude.{nat_eq, List, [], ◌∷◌, length, Bool, true, false, ◌&&◌}
use Rattle.us_expr.specs.Tree.{Tree}
use Rattle.us_format.specs.Known.{same_tree}
use Rattle.us_format.specs.Declaration.{Query, Part, Declaration}
use Rattle.us_judge.specs.Format.{part_at}

abbrev pub same_trees : List Tree → List Tree → Bool
same_trees [] [] = true
same_trees [] (y ∷ ys) = false
same_trees (x ∷ xs) [] = false
same_trees (x ∷ xs) (y ∷ ys) = same_tree x y && same_trees xs ys

abbrev pub is_plain : List Query → Bool
is_plain [] = true
is_plain (q ∷ qs) = false

-- no queries, and the same levels
abbrev pub alike_parts : Part → Part → Bool
alike_parts p q = is_plain p.queries && (is_plain q.queries && same_trees p.levels q.levels)

-- one part each, and these are alike
abbrev pub alike : Declaration → Declaration → Bool
alike f g = nat_eq (length f.parts) 1 && (nat_eq (length g.parts) 1 && alike_parts (part_at f 0) (part_at g 0))
