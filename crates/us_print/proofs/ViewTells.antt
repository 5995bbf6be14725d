-- Two values of the program that hold one declaration are one value.
use Rattle.std.proofs.Common.{◌≡◌, List, [], ◌∷◌, map, refl, ap, ◌∙◌}
use Rattle.us_expr.specs.Tree.{tree}
use Rattle.us_expr.proofs.Back.{tree_tells}
use Rattle.us_expr.specs.declared.queries.Query as asked
use Rattle.us_expr.specs.declared.queries.Query.TheVariants as query
use Rattle.us_decl.specs.declared.decl.Part.{Part}
use Rattle.us_decl.specs.declared.decl.Head.{Head}
use Rattle.us_decl.specs.declared.decl.Body.{Body}
use Rattle.us_decl.specs.declared.decl.Body.TheVariants as bodies
use Rattle.us_decl.specs.declared.decl.Decl.{Decl}
use Rattle.us_decl.specs.Declares.{DeclaredPart, DeclaredHead, Declared}
use Rattle.us_decl.specs.Views.{query_view, part_view, head_view, body_view, decl_view}

map_tells : {X Y : Type 0} (f : X → Y) → ((a b : X) → f a ≡ f b → a ≡ b) → (xs ys : List X) → map f xs ≡ map f ys → xs ≡ ys
map_tells f one [] [] e = refl
map_tells f one [] (y ∷ ys) e = absurd cc
map_tells f one (x ∷ xs) [] e = absurd cc
map_tells f one (x ∷ xs) (y ∷ ys) e =
    let h : f x ≡ f y = cc in
    let t : map f xs ≡ map f ys = cc in
    ap (λ z. z ∷ xs) (one x y h) ∙ ap (λ zs. y ∷ zs) (map_tells f one xs ys t)

query_tells : (a b : asked.Query) → query_view a ≡ query_view b → a ≡ b
query_tells (query.Sum v x) (query.Sum w y) e = let h : v ≡ w = cc in let t : tree x ≡ tree y = cc in ap (λ u. query.Sum u x) h ∙ ap (query.Sum w) (tree_tells x y t)
query_tells (query.Enumerate v x) (query.Enumerate w y) e = let h : v ≡ w = cc in let t : tree x ≡ tree y = cc in ap (λ u. query.Enumerate u x) h ∙ ap (query.Enumerate w) (tree_tells x y t)
query_tells (query.Reorder v x) (query.Reorder w y) e = let h : v ≡ w = cc in let t : tree x ≡ tree y = cc in ap (λ u. query.Reorder u x) h ∙ ap (query.Reorder w) (tree_tells x y t)
query_tells (query.Schedule v u x k) (query.Schedule w z y n) e =
    let h : v ≡ w = cc in
    let i : u ≡ z = cc in
    let t : tree x ≡ tree y = cc in
    let l : k ≡ n = cc in
    ap (λ a. query.Schedule a u x k) h ∙ ap (λ a. query.Schedule w a x k) i ∙ ap (λ a. query.Schedule w z a k) (tree_tells x y t) ∙ ap (query.Schedule w z y) l
query_tells (query.Sum v x) _ e = absurd cc
query_tells (query.Enumerate v x) _ e = absurd cc
query_tells (query.Reorder v x) _ e = absurd cc
query_tells (query.Schedule v u x k) _ e = absurd cc

part_is : (a b : Part) → a.names ≡ b.names → a.queries ≡ b.queries → a.levels ≡ b.levels → a.trim ≡ b.trim → a.merge ≡ b.merge → a.packs ≡ b.packs → a ≡ b
part_is a b names queries levels trim merge packs =
    ap (λ x. record { names = x; queries = a.queries; levels = a.levels; trim = a.trim; merge = a.merge; packs = a.packs }) names
    ∙ ap (λ x. record { names = b.names; queries = x; levels = a.levels; trim = a.trim; merge = a.merge; packs = a.packs }) queries
    ∙ ap (λ x. record { names = b.names; queries = b.queries; levels = x; trim = a.trim; merge = a.merge; packs = a.packs }) levels
    ∙ ap (λ x. record { names = b.names; queries = b.queries; levels = b.levels; trim = x; merge = a.merge; packs = a.packs }) trim
    ∙ ap (λ x. record { names = b.names; queries = b.queries; levels = b.levels; trim = b.trim; merge = x; packs = a.packs }) merge
    ∙ ap (λ x. record { names = b.names; queries = b.queries; levels = b.levels; trim = b.trim; merge = b.merge; packs = x }) packs

part_tells : (a b : Part) → part_view a ≡ part_view b → a ≡ b
part_tells a b e =
    part_is a b (ap (λ (p : DeclaredPart). p.names) e) (map_tells query_view query_tells a.queries b.queries (ap (λ (p : DeclaredPart). p.queries) e)) (map_tells tree tree_tells a.levels b.levels (ap (λ (p : DeclaredPart). p.levels) e))
    (ap (λ (p : DeclaredPart). p.trim) e) (ap (λ (p : DeclaredPart). p.merge) e) (ap (λ (p : DeclaredPart). p.packs) e)

head_is : (a b : Head) → a.names ≡ b.names → a.queries ≡ b.queries → a.conds ≡ b.conds → a ≡ b
head_is a b names queries conds =
    ap (λ x. record { names = x; queries = a.queries; conds = a.conds }) names ∙ ap (λ x. record { names = b.names; queries = x; conds = a.conds }) queries ∙ ap (λ x. record { names = b.names; queries = b.queries; conds = x }) conds

head_tells : (a b : Head) → head_view a ≡ head_view b → a ≡ b
head_tells a b e =
    head_is a b (ap (λ (h : DeclaredHead). h.names) e) (map_tells query_view query_tells a.queries b.queries (ap (λ (h : DeclaredHead). h.queries) e)) (ap (λ (h : DeclaredHead). h.conds) e)

body_tells : (a b : Body) → body_view a ≡ body_view b → a ≡ b
body_tells (bodies.One p) (bodies.One q) e = let h : part_view p ≡ part_view q = cc in ap bodies.One (part_tells p q h)
body_tells (bodies.Split h ps) (bodies.Split i qs) e =
    let x : head_view h ≡ head_view i = cc in
    let y : map part_view ps ≡ map part_view qs = cc in
    ap (λ a. bodies.Split a ps) (head_tells h i x) ∙ ap (bodies.Split i) (map_tells part_view part_tells ps qs y)
body_tells (bodies.One p) (bodies.Split i qs) e = absurd cc
body_tells (bodies.Split h ps) (bodies.One r) e = absurd cc

decl_is : (a b : Decl) → a.name ≡ b.name → a.body ≡ b.body → a ≡ b
decl_is a b name body = ap (λ x. record { name = x; body = a.body }) name ∙ ap (λ x. record { name = b.name; body = x }) body

pub view_tells : (a b : Decl) → decl_view a ≡ decl_view b → a ≡ b
view_tells a b e = decl_is a b (ap (λ (d : Declared). d.name) e) (body_tells a.body b.body (ap (λ (d : Declared). d.body) e))
