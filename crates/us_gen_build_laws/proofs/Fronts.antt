-- Rows that are sorted by their first coordinates alone.
use Rattle.std.proofs.Common.{◌≡◌, ℕ, suc, ◌+◌, ◌*◌, ◌<◌, ◌⊎◌, List, [], ◌∷◌, length, Bool, true, false, sym, refl, ap, ap₂, ◌∙◌, subst, inl, inr, arith}
use Rattle.std.proofs.lemmas.Bool.{false≢true}
use Rattle.std.proofs.lemmas.List.{get_or-map, length-map}
use Rattle.us_format.specs.Lists.{head, tail, lower, rank}
use Rattle.us_format.specs.Positions.{Row, nodes, place, down, moved}
use Rattle.us_format.specs.declared.Kind.{Kind}
use Rattle.us_format.specs.declared.Kind.TheVariants.{Full, Compressed}
use Rattle.us_format.proofs.Order.{Mem, lower-cases}
use Rattle.us_format.proofs.Ascending.{lower-cons, lower-first, lower-next, full-lt}
use Rattle.us_format.proofs.Climb.{compressed-node, rank-lt}
use Rattle.us_build.proofs.Counts.{Mem-at}
use Rattle.us_gen_build_laws.specs.Rows.{no_row, row, node, NodesRise, firsts, FrontsRise}

not_both : (b : Bool) → b ≡ true → b ≡ false → ⊥
not_both b t f = false≢true (sym f ∙ t)

node_front : (m : ℕ) (r s : Row) → lower (node r) (node s) ≡ true → lower (r.at ∷ firsts (suc m) r.rest) (s.at ∷ firsts (suc m) s.rest) ≡ true
node_front m r s h = go (lower-cons r.at s.at (head r.rest ∷ []) (head s.rest ∷ []) h)
  where
    go : (r.at < s.at) ⊎ ((r.at ≡ s.at) × (lower (head r.rest ∷ []) (head s.rest ∷ []) ≡ true)) → lower (r.at ∷ firsts (suc m) r.rest) (s.at ∷ firsts (suc m) s.rest) ≡ true
    go (inl l) = lower-first r.at s.at (firsts (suc m) r.rest) (firsts (suc m) s.rest) l
    go (inr e) = two (lower-cons (head r.rest) (head s.rest) [] [] e.1)
      where
        two : (head r.rest < head s.rest) ⊎ ((head r.rest ≡ head s.rest) × (lower [] [] ≡ true)) → lower (r.at ∷ firsts (suc m) r.rest) (s.at ∷ firsts (suc m) s.rest) ≡ true
        two (inl l) = lower-next r.at s.at (firsts (suc m) r.rest) (firsts (suc m) s.rest) e.0 (lower-first (head r.rest) (head s.rest) (firsts m (tail r.rest)) (firsts m (tail s.rest)) l)
        two (inr f) = absurd (false≢true f.1)

pub fronts_rises : (m : ℕ) (rows : List Row) → FrontsRise (suc m) rows → NodesRise rows
fronts_rises m rows up i j le lt = case (lower (node (row rows i)) (node (row rows j))) refl
  where
    case : (b : Bool) → lower (node (row rows i)) (node (row rows j)) ≡ b → lower (node (row rows i)) (node (row rows j)) ≡ false
    case false e = e
    case true e = absurd (not_both _ (node_front m (row rows i) (row rows j) e) (up j i le lt))

-- the position one level down keeps the order of the nodes
abbrev pub Keeps : Kind → ℕ → List Row → Type 0
Keeps k size rows = ((r s : Row) → node r ≡ node s → place k size rows r ≡ place k size rows s) × ((r s : Row) → Mem r rows → Mem s rows → lower (node r) (node s) ≡ true → place k size rows r < place k size rows s)

pub full_keeps : (size : ℕ) (rows : List Row) → ((r : Row) → Mem r rows → head r.rest < size) → Keeps Full size rows
full_keeps size rows few = (λ r s e. ap₂ (λ (a c : ℕ). a * size + c) (ap head e) (ap (λ x. head (tail x)) e), λ r s mr ms h. full-lt size r.at s.at (head r.rest) (head s.rest) (few r mr) (few s ms) h)

pub compressed_keeps : (size : ℕ) (rows : List Row) → Keeps Compressed size rows
compressed_keeps size rows = (λ r s e. ap (rank (nodes Compressed rows)) e, λ r s mr ms h. rank-lt (nodes Compressed rows) (node r) (node s) (compressed-node rows r mr) h)

pub fronts_down : (m : ℕ) (k : Kind) (size : ℕ) (rows : List Row) → Keeps k size rows → FrontsRise (suc m) rows → FrontsRise m (down k size rows)
fronts_down m k size rows keeps up i j le lt =
    let lj : j < length rows = omega (arith, lt, length-map rows (moved k size rows)) in
    let ei : row (down k size rows) i ≡ moved k size rows (row rows i) = get_or-map (moved k size rows) rows i no_row no_row (omega (arith, lj, le)) in
    let ej : row (down k size rows) j ≡ moved k size rows (row rows j) = get_or-map (moved k size rows) rows j no_row no_row lj in
    subst (λ (x : Row). lower ((row (down k size rows) j).at ∷ firsts m (row (down k size rows) j).rest) (x.at ∷ firsts m x.rest) ≡ false) (sym ei)
    (subst (λ (y : Row). lower (y.at ∷ firsts m y.rest) (place k size rows (row rows i) ∷ firsts m (tail (row rows i).rest)) ≡ false) (sym ej)
    (case (lower (place k size rows (row rows j) ∷ firsts m (tail (row rows j).rest)) (place k size rows (row rows i) ∷ firsts m (tail (row rows i).rest))) refl (lower-cases (node (row rows i)) (node (row rows j)))
    (Mem-at rows i no_row (omega (arith, lj, le))) (Mem-at rows j no_row lj) lj))
  where
    r : Row
    r = row rows i

    s : Row
    s = row rows j

    case : (b : Bool) → lower (place k size rows s ∷ firsts m (tail s.rest)) (place k size rows r ∷ firsts m (tail r.rest)) ≡ b → (lower (node r) (node s) ≡ true) ⊎ ((node r ≡ node s) ⊎ (lower (node s) (node r) ≡ true)) → Mem r rows → Mem s rows → j < length rows → lower (place k size rows s ∷ firsts m (tail s.rest)) (place k size rows r ∷ firsts m (tail r.rest)) ≡ false
    case false e o mr ms lj = e
    case true e o mr ms lj = absurd (go o (lower-cons (place k size rows s) (place k size rows r) (firsts m (tail s.rest)) (firsts m (tail r.rest)) e))
      where
        go : (lower (node r) (node s) ≡ true) ⊎ ((node r ≡ node s) ⊎ (lower (node s) (node r) ≡ true)) → (place k size rows s < place k size rows r) ⊎ ((place k size rows s ≡ place k size rows r) × (lower (firsts m (tail s.rest)) (firsts m (tail r.rest)) ≡ true)) → ⊥
        go (inl l) (inl p) = let z = keeps.1 r s mr ms l in omega (arith, z, p)
        go (inl l) (inr p) = let z = keeps.1 r s mr ms l in omega (arith, z, p.0)
        go (inr (inr l)) p = not_both _ (node_front m s r l) (up i j le lj)
        go (inr (inl q)) (inr p) =
            let a : s.at ≡ r.at = ap head (sym q) in
            let b : head s.rest ≡ head r.rest = ap (λ x. head (tail x)) (sym q) in
            not_both _ (lower-next s.at r.at (firsts (suc m) s.rest) (firsts (suc m) r.rest) a (lower-next (head s.rest) (head r.rest) (firsts m (tail s.rest)) (firsts m (tail r.rest)) b p.1)) (up i j le lj)
        go (inr (inl q)) (inl p) = let z = keeps.0 r s q in omega (arith, z, p)
