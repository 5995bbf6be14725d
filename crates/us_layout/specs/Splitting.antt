-- The entries of each part of a divided matrix.
use Rattle.std.specs.Prelude.{◌≡◌, ℕ, suc, List, [], ◌∷◌, ◌++◌, map, length, All, nat_eq, if◌then◌else◌}
use Rattle.us_expr.specs.declared.queries.Cond.{Cond}
use Rattle.us_matrix.specs.Map.{Map}
use Rattle.us_matrix.specs.declared.matrix.Triple.{Triple}
use Rattle.us_format.specs.Buffers.{parts_of}
use Rattle.us_format.specs.Declaration.{Query, Declaration}
use Rattle.us_format.specs.Program.{entries_in, shape_in}

-- the matrices are those of the parts of every declaration whose head has these queries and conditions, each in the shape of the whole
pub record AreShares (m : Map) (qs : List Query) (cs : List Cond) (shares : List Map) : Type 0 where
  pub shapes : All (λ share. shape_in share ≡ shape_in m) shares
  pub entries : (d : Declaration) → d.head ≡ qs → d.conds ≡ cs → length d.parts ≡ suc (length cs) → map (λ part. part.1) (parts_of (shape_in m) d (entries_in m)) ≡ map entries_in shares

-- those entries whose number is p
abbrev pub share_of : ℕ → List ℕ → List Triple → List Triple
share_of p [] ts = []
share_of p (n ∷ ns) [] = []
share_of p (n ∷ ns) (t ∷ ts) = (if nat_eq n p then t ∷ [] else []) ++ share_of p ns ts

-- the matrix of these entries
abbrev pub share_in : Map → List ℕ → ℕ → Map
share_in m ns p = record { rows = m.rows; cols = m.cols; entries = share_of p ns m.entries }
