-- Formats that are alike have their entries in one order.
use Rattle.std.proofs.Common.{◌≡◌, ℕ, ◌<◌, Bool, true, false, refl, sym, ap, ap₂, ◌∙◌, subst, arith, List, [], ◌∷◌, map, length, get_or}
use Rattle.us_expr.specs.Tree.{Tree}
use Rattle.us_format.specs.Matrix.{Shape, Entry}
use Rattle.us_format.specs.Declaration.{Query, Part, Declaration}
use Rattle.us_format.specs.Coordinates.{coordinates}
use Rattle.us_format.specs.Positions.{Row, row_of}
use Rattle.us_build.specs.Items.{IsAscending}
use Rattle.us_judge.specs.Format.{part_at}
use Rattle.us_right.specs.Laws.{SameRows}
use Rattle.us_right.specs.Piece.{MayStand}

-- coordinates are a matter of names, queries and levels
module _ (m : List Entry) (s : Shape) (x : Entry) (p q : Part) where
  coordinates_same : p.names ≡ q.names → p.queries ≡ q.queries → p.levels ≡ q.levels → coordinates m s p x ≡ coordinates m s q x
  coordinates_same a b c =
      ap (λ (n : ℕ). coordinates m s (record { names = n; queries = p.queries; levels = p.levels; trim = p.trim; merge = p.merge; packs = p.packs }) x) a
      ∙ (ap (λ (qs : List Query). coordinates m s (record { names = q.names; queries = qs; levels = p.levels; trim = p.trim; merge = p.merge; packs = p.packs }) x) b
      ∙ ap (λ (es : List Tree). coordinates m s (record { names = q.names; queries = q.queries; levels = es; trim = p.trim; merge = p.merge; packs = p.packs }) x) c)

  pub rows-same : p.names ≡ q.names → p.queries ≡ q.queries → p.levels ≡ q.levels → row_of m s p x ≡ row_of m s q x
  rows-same a b c = ap (λ (cs : List ℕ). record { at = 0; rest = cs; value = x.v }) (coordinates_same a b c)

map_same : {A B : Type 0} (f g : A → B) (xs : List A) → ((x : A) → f x ≡ g x) → map f xs ≡ map g xs
map_same f g [] h = refl
map_same f g (x ∷ xs) h = ap₂ (λ (y : _) (ys : List _). y ∷ ys) (h x) (map_same f g xs h)

one_part : (ps : List Part) (d : Part) → length ps ≡ 1 → ps ≡ get_or ps 0 d ∷ []
one_part [] d h = absurd (omega (arith, h))
one_part (p ∷ []) d h = refl
one_part (p ∷ q ∷ ps) d h = absurd (omega (arith, h))

module _ (s : Shape) (f d : Declaration) (m es : List Entry) (same : SameRows f d) where
  first : (ascends : (p : Part) → f.parts ≡ p ∷ [] → IsAscending (map (row_of m s p) es)) → IsAscending (map (row_of m s (part_at d 0)) es)
  first ascends =
      subst (λ (rows : List Row). IsAscending rows)
      (map_same (row_of m s (part_at f 0)) (row_of m s (part_at d 0)) es
      (λ x. rows-same m s x (part_at f 0) (part_at d 0) same.names (same.alike.plain_from ∙ sym same.alike.plain_to) same.alike.levels))
      (ascends (part_at f 0) (one_part f.parts (record { names = 0; queries = []; levels = []; trim = []; merge = []; packs = [] }) same.alike.one_from))

pub may-stand : (sorts : Bool) (s : Shape) (f d : Declaration) (k : ℕ) (m es : List Entry) → (sorts ≡ false → SameRows f d) → k < length d.parts
    → ((p : Part) → f.parts ≡ p ∷ [] → IsAscending (map (row_of m s p) es)) → MayStand sorts s (part_at d k) m es
may-stand true s f d k m es same below ascends = tt
may-stand false s f d k m es same below ascends =
    let r : SameRows f d = same refl in
    let e : 0 ≡ k = omega (arith, below, r.alike.one_to) in
    subst (λ (j : ℕ). IsAscending (map (row_of m s (part_at d j)) es)) e (first s f d m es r ascends)
