-- The list of each piece.
use Rattle.std.proofs.Common.{◌≡◌, ℕ, suc, ◌+◌, List, [], ◌∷◌, ◌++◌, map, length, sym, refl, ap, ap₂, ◌∙◌, inl, inr, arith, ℤ}
use Rattle.std.proofs.lemmas.List.{map-append}
use Rattle.us_expr.specs.Tree.{Tree}
use Rattle.us_format.specs.declared.Kind.{Kind}
use Rattle.us_format.specs.declared.Kind.TheVariants.{Full, Compressed, Listed, Slot}
use Rattle.us_format.specs.Matrix.{Shape, Entry}
use Rattle.us_format.specs.Declaration.{LevelColumn, ValueColumn, Part}
use Rattle.us_format.specs.Queries.{extents_of}
use Rattle.us_format.specs.Kinds.{kind, levels_from}
use Rattle.us_format.specs.Positions.{rows_of}
use Rattle.us_format.specs.Packs.{Piece, PosOf, CellsOf, level_pieces, pieces_from, pieces, Buffer, buffer_of, written}
use Rattle.us_format.specs.Buffers.{piece_buffers}
use Rattle.us_format.proofs.Order.{Mem}
use Rattle.us_format.proofs.PartLaw.{map-map}
use Rattle.us_format.proofs.Pieces.{pieces-distinct, buffers-of-pieces, as-many-buffers, one-same, rest-same}
use Rattle.us_format_loops.specs.Laws.{levels_on}
use Rattle.us_gen_build_laws.specs.Built.{Lists, lists_of, all_lists}
use Rattle.us_pack_loops.proofs.Columns.{lists_at}

-- the list of a piece, from those of all levels and the values
abbrev pub piece_list : List Lists → List ℤ → Piece → List ℤ
piece_list cs values (PosOf k) = (lists_at cs k).starts
piece_list cs values (CellsOf (LevelColumn k)) = (lists_at cs k).coordinates
piece_list cs values (CellsOf ValueColumn) = values

level-lists : (all : List Lists) (values : List ℤ) (k : ℕ) (c : Lists) (z : Kind) → lists_at all k ≡ c → lists_of z c ≡ map (piece_list all values) (level_pieces k z)
level-lists all values k c Full e = refl
level-lists all values k c Compressed e = ap (λ (a : Lists). a.starts ∷ a.coordinates ∷ []) (sym e)
level-lists all values k c Listed e = ap (λ (a : Lists). a.starts ∷ a.coordinates ∷ []) (sym e)
level-lists all values k c Slot e = ap (λ (a : Lists). a.coordinates ∷ []) (sym e)

pub lists-are : (s : Shape) (extents : List ℕ) (p : Part) (k : ℕ) (es : List Tree) (all cs : List Lists) (values : List ℤ) → length cs ≡ length es → ((j : ℕ) → lists_at all (k + j) ≡ lists_at cs j)
    → all_lists (levels_from s extents p k es) cs values ≡ map (piece_list all values) (pieces_from p k es)
lists-are s extents p k [] all [] values e h = refl
lists-are s extents p k (t ∷ es) all (c ∷ cs) values e h =
    ap₂ (λ (xs ys : List (List ℤ)). xs ++ ys)
    (level-lists all values k c (kind p k) (ap (lists_at all) (sym plus_zero) ∙ h 0))
    (lists-are s extents p (suc k) es all cs values (omega (arith, e)) (λ j. ap (lists_at all) (plus_suc j) ∙ h (suc j)))
    ∙ sym (map-append (piece_list all values) (level_pieces k (kind p k)) (pieces_from p (suc k) es))
  where
    plus_zero : k + 0 ≡ k
    plus_zero = omega arith

    plus_suc : (j : ℕ) → suc k + j ≡ k + suc j
    plus_suc j = omega arith
lists-are s extents p k [] all (c ∷ cs) values e h = absurd (omega (arith, e))
lists-are s extents p k (t ∷ es) all [] values e h = absurd (omega (arith, e))

same-at : {A B : Type 0} (f g : A → B) (xs : List A) (x : A) → map f xs ≡ map g xs → Mem x xs → f x ≡ g x
same-at f g [] x e m = absurd m
same-at f g (y ∷ ys) x e (inl q) = ap f (sym q) ∙ (one-same (f y) (g y) (map f ys) (map g ys) e ∙ ap g q)
same-at f g (y ∷ ys) x e (inr m) = same-at f g ys x (rest-same (f y) (g y) (map f ys) (map g ys) e) m

module _ (s : Shape) (p : Part) (m : List Entry) where
  -- the buffer of a piece
  abbrev pub its : Piece → Buffer
  its x = buffer_of x (pieces p) (piece_buffers s p m)

  -- where the lists are those of the part's pieces, each one is its piece's buffer
  pub piece-is : (cs : List Lists) (values : List ℤ) → length cs ≡ length p.levels → all_lists (levels_on s p m) cs values ≡ map written (piece_buffers s p m) → (x : Piece) → Mem x (pieces p) → piece_list cs values x ≡ written (its x)
  piece-is cs values long built x mx =
      same-at (piece_list cs values) (λ y. written (its y)) (pieces p) x
      (sym (lists-are s (extents_of m s p) p 0 p.levels cs cs values long (λ j. ap (lists_at cs) (zero_plus j)))
      ∙ (built ∙ (sym (ap (map written) all) ∙ map-map written its (pieces p))))
      mx
    where
      zero_plus : (j : ℕ) → 0 + j ≡ j
      zero_plus j = omega arith

      all : map its (pieces p) ≡ piece_buffers s p m
      all = buffers-of-pieces (pieces p) (piece_buffers s p m) (pieces-distinct p 0 p.levels) (as-many-buffers s (extents_of m s p) p 0 p.levels 1 (rows_of m s p))
