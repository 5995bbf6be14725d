use Rattle.std.proofs.Common.{◌≡◌, ℕ, zero, suc, List, [], ◌∷◌, map, take, subst, refl, ap}
use Rattle.us_expr.specs.Tree.{Tree, tree}
use Rattle.us_known.specs.declared.table.Node.{Node}
use Rattle.us_known.specs.Table.{trees}
use Rattle.us_known.specs.Flags.{AreKnownFlags}
use Rattle.us_known.proofs.KnownEnd.{known-is}
use Rattle.us_known.proofs.known_set.known.Goals as goal

map-take : {A B : Type 0} (f : A → B) (k : ℕ) (xs : List A) → map f (take k xs) ≡ take k (map f xs)
map-take f zero xs = refl
map-take f (suc k) [] = refl
map-take f (suc k) (x ∷ xs) = ap (λ l. f x ∷ l) (map-take f k xs)

pub returns : goal.returns
returns c =
    known-is c.in_ok-nodes.nodes.items c.in_ok-nodes.ensures.table (map tree c.args.levels.now) c.args.queries.now c.args.count c.in_ok-nodes.ensures.trees c.in_ok-known.known.items
    (subst (λ (l : List Tree). AreKnownFlags c.in_ok-nodes.nodes.items (trees c.in_ok-nodes.nodes.items) l c.args.queries.now c.in_ok-known.known.items) (map-take tree c.args.count c.args.levels.now)
    (subst (λ (l : List Node). AreKnownFlags l (trees l) (map tree (take c.args.count c.args.levels.now)) c.args.queries.now c.in_ok-known.known.items) c.deref.ensures.value c.in_ok-known.ensures.flags))
