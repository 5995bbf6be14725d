-- The table after the operands of an expression, and then the whole.
use Rattle.std.proofs.Common.{◌≡◌, ℕ, ◌<◌, List, [], ◌∷◌, ◌++◌, length, sym, ap, ap₂, ◌∙◌}
use Rattle.us_expr.specs.Tree.{Tree}
use Rattle.us_format.specs.Known.{sub_expressions, add_all}
use Rattle.us_known.specs.declared.table.Node.{Node}
use Rattle.us_known.specs.Table.{tree_at, trees, IsNumberOf}
use Rattle.us_known.proofs.NodeTrees.{number-stays, add_all-append}

-- after both operands: their numbers, and what the whole adds
pub record Two (ns after : List Node) (op : Tree → Tree → Tree) (x y : ℕ) (e : Tree) : Type 0 where
  pub below : (x < length after) × (y < length after)
  pub whole : op (tree_at (trees after) x) (tree_at (trees after) y) ≡ e
  pub added : add_all (trees after) (op (tree_at (trees after) x) (tree_at (trees after) y) ∷ []) ≡ add_all (trees ns) (sub_expressions e)

pub after-two : (ns first after : List Node) (op : Tree → Tree → Tree) (x y : ℕ) (a b e : Tree) → e ≡ op a b → sub_expressions (op a b) ≡ sub_expressions a ++ (sub_expressions b ++ op a b ∷ [])
    → trees first ≡ add_all (trees ns) (sub_expressions a) → IsNumberOf first x a → trees after ≡ add_all (trees first) (sub_expressions b) → IsNumberOf after y b → Two ns after op x y e
after-two ns first after op x y a b e is parts h1 k1 h2 k2 =
    let k : IsNumberOf after x a = number-stays first after x a (sub_expressions b) h2 k1 in
    let w : op (tree_at (trees after) x) (tree_at (trees after) y) ≡ op a b = ap₂ op k.is k2.is in
    record {
      below = (k.below, k2.below);
      whole = w ∙ sym is;
      added =
          ap₂ (λ (l : List Tree) (z : Tree). add_all l (z ∷ [])) (h2 ∙ ap (λ l. add_all l (sub_expressions b)) h1) w
          ∙ sym (add_all-append (add_all (trees ns) (sub_expressions a)) (sub_expressions b) (op a b ∷ []))
          ∙ sym (add_all-append (trees ns) (sub_expressions a) (sub_expressions b ++ op a b ∷ []))
          ∙ ap (add_all (trees ns)) (sym parts ∙ ap sub_expressions (sym is));
    }

pub record One (ns after : List Node) (op : Tree → Tree) (x : ℕ) (e : Tree) : Type 0 where
  pub below : x < length after
  pub whole : op (tree_at (trees after) x) ≡ e
  pub added : add_all (trees after) (op (tree_at (trees after) x) ∷ []) ≡ add_all (trees ns) (sub_expressions e)

pub after-one : (ns after : List Node) (op : Tree → Tree) (x : ℕ) (a e : Tree) → e ≡ op a → sub_expressions (op a) ≡ sub_expressions a ++ op a ∷ []
    → trees after ≡ add_all (trees ns) (sub_expressions a) → IsNumberOf after x a → One ns after op x e
after-one ns after op x a e is parts h k =
    let w : op (tree_at (trees after) x) ≡ op a = ap op k.is in
    record {
      below = k.below;
      whole = w ∙ sym is;
      added =
          ap₂ (λ (l : List Tree) (z : Tree). add_all l (z ∷ [])) h w
          ∙ sym (add_all-append (trees ns) (sub_expressions a) (op a ∷ []))
          ∙ ap (add_all (trees ns)) (sym parts ∙ ap sub_expressions (sym is));
    }
