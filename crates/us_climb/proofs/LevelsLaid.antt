-- The layout in the making: the first k levels of a part are laid.
use Rattle.std.proofs.Common.{◌≡◌, ℕ, suc, ◌+◌, ◌*◌, ◌<◌, ◌≤◌, ◌^◌, List, [], ◌∷◌, ◌++◌, length, drop, get_or, refl, sym, ap, subst, ◌∙◌, arith, filter, add-one, append_assoc, false}
use Rattle.std.proofs.Math.Seq.{drop-cons}
use Rattle.std.proofs.Math.ListN.{drop_of_length-le}
use Rattle.std.proofs.lemmas.List.{length-append, append-nil}
use Rattle.us_expr.specs.Tree.{Tree, RowIndex}
use Rattle.us_format.specs.declared.Kind.{Kind}
use Rattle.us_format.specs.Matrix.{Shape}
use Rattle.us_format.specs.Declaration.{Part, LevelColumn, ValueColumn}
use Rattle.us_format.specs.Coordinates.{level_range, span}
use Rattle.us_format.specs.Kinds.{kind}
use Rattle.us_format.specs.Packs.{CellsOf, level_pieces, pieces_from, is_packed, own_pieces}
use Rattle.us_format.specs.Reading.{own_place, extent_count, table_count}
use Rattle.us_judge.specs.Buffers.{is_own}
use Rattle.us_climb.specs.declared.layout.LevelLayout.{LevelLayout}
use Rattle.us_climb.specs.Layout.{level_layout, layout_from, IsInside, AreSound}
use Rattle.us_climb.specs.Own.{AreOwnFrom}
use Rattle.us_climb.proofs.Placing.{place-inside}
use Rattle.us_climb.proofs.OwnPlaces.{own_number, own-here, own-next}

-- the first k levels have these layouts, and the own pieces of the others begin with the buffer n
pub record IsLaid (base : ℕ) (s : Shape) (extents : List ℕ) (p : Part) (k : ℕ) (laid : List LevelLayout) (n : ℕ) : Type 0 where
  pub levels : laid ++ layout_from base s extents p k (drop k p.levels) ≡ layout_from base s extents p 0 p.levels
  pub number : length laid ≡ k
  pub sound : AreSound laid
  pub place : ℕ
  pub is : n ≡ own_number p place
  pub own : drop place (own_pieces p) ≡ filter (is_own p) (pieces_from p k (drop k p.levels))
  pub few : place ≤ 2 * k

pub laid-none : (base : ℕ) (s : Shape) (extents : List ℕ) (p : Part) (n : ℕ) → n ≡ extent_count p + table_count p → IsLaid base s extents p 0 [] n
laid-none base s extents p n is = record { levels = refl; number = refl; sound = tt; place = 0; is = omega (arith, is); own = refl; few = omega arith }

sound_more : (ls : List LevelLayout) (l : LevelLayout) → AreSound ls → l.size < 2 ^ 63 → IsInside l.cells → AreSound (ls ++ (l ∷ []))
sound_more [] l h b i = (b, i, tt)
sound_more (x ∷ xs) l h b i = (h.0, h.1, sound_more xs l h.2 b i)

-- the pieces of the level k and those behind it
pub own-level : (base : ℕ) (s : Shape) (extents : List ℕ) (p : Part) (k : ℕ) (laid : List LevelLayout) (n : ℕ) → IsLaid base s extents p k laid n → k < length p.levels → AreOwnFrom p n k (kind p k)
own-level base s extents p k laid n h l =
    record {
      number = h.place;
      is = h.is;
      more = pieces_from p (suc k) (drop (suc k) p.levels);
      rest = h.own ∙ ap (λ (es : List Tree). filter (is_own p) (pieces_from p k es)) (drop-cons p.levels k RowIndex l);
    }

size_there : (base : ℕ) (p : Part) (k size : ℕ) (kd : Kind) → (level_layout base p k size kd).size ≡ size
size_there base p k size Kind.Full = refl
size_there base p k size Kind.Compressed = refl
size_there base p k size Kind.Listed = refl
size_there base p k size Kind.Slot = refl

-- a column is one of those of its buffer
cells-inside : (base : ℕ) (p : Part) (k size : ℕ) (kd : Kind) → IsInside (level_layout base p k size kd).cells
cells-inside base p k size Kind.Full = omega arith
cells-inside base p k size Kind.Compressed = place-inside base p (LevelColumn k)
cells-inside base p k size Kind.Listed = place-inside base p (LevelColumn k)
cells-inside base p k size Kind.Slot = place-inside base p (LevelColumn k)

pub laid-more : (base : ℕ) (s : Shape) (extents : List ℕ) (p : Part) (k : ℕ) (laid : List LevelLayout) (n : ℕ) (level : LevelLayout) (size count : ℕ) → IsLaid base s extents p k laid n → k < length p.levels
    → level ≡ level_layout base p k size (kind p k) → size ≡ span (level_range s extents p (get_or p.levels k RowIndex)) → size < 2 ^ 63
    → count ≡ length (filter (is_own p) (level_pieces k (kind p k))) → count ≤ 2 → IsLaid base s extents p (k + 1) (laid ++ (level ∷ [])) (n + count)
laid-more base s extents p k laid n level size count h l is size_is small count_is few =
    let now : level ≡ level_layout base p k (span (level_range s extents p (get_or p.levels k RowIndex))) (kind p k) = is ∙ ap (λ z. level_layout base p k z (kind p k)) size_is in
    let rest : layout_from base s extents p k (drop k p.levels) ≡ level_layout base p k (span (level_range s extents p (get_or p.levels k RowIndex))) (kind p k) ∷ layout_from base s extents p (suc k) (drop (suc k) p.levels) =
    ap (layout_from base s extents p k) (drop-cons p.levels k RowIndex l) in
    record {
      levels =
          append_assoc laid (level ∷ []) (layout_from base s extents p (k + 1) (drop (k + 1) p.levels))
          ∙ ap (λ j. laid ++ (level ∷ layout_from base s extents p j (drop j p.levels))) (add-one k)
          ∙ ap (λ (z : LevelLayout). laid ++ (z ∷ layout_from base s extents p (suc k) (drop (suc k) p.levels))) now
          ∙ ap (λ (ls : List LevelLayout). laid ++ ls) (sym rest) ∙ h.levels;
      number = length-append laid (level ∷ []) ∙ omega (arith, h.number);
      sound =
          sound_more laid level h.sound (subst (λ (z : LevelLayout). z.size < 2 ^ 63) (sym is) (subst (λ j. j < 2 ^ 63) (sym (size_there base p k size (kind p k))) small))
          (subst (λ (z : LevelLayout). IsInside z.cells) (sym is) (cells-inside base p k size (kind p k)));
      place = h.place + count;
      is = omega (arith, h.is);
      own =
          ap (λ j. drop (h.place + j) (own_pieces p)) count_is
          ∙ own-next p h.place (level_pieces k (kind p k)) (pieces_from p (suc k) (drop (suc k) p.levels))
          (h.own ∙ ap (λ (es : List Tree). filter (is_own p) (pieces_from p k es)) (drop-cons p.levels k RowIndex l))
          ∙ ap (λ j. filter (is_own p) (pieces_from p j (drop j p.levels))) (sym (add-one k));
      few = omega (arith, h.few);
    }

-- behind the last level
pub own-values : (base : ℕ) (s : Shape) (extents : List ℕ) (p : Part) (k : ℕ) (laid : List LevelLayout) (n : ℕ) → IsLaid base s extents p k laid n → length p.levels ≤ k → is_packed p (CellsOf ValueColumn) ≡ false
    → n ≡ own_place p (CellsOf ValueColumn)
own-values base s extents p k laid n h past packed =
    own-here p n h.place (CellsOf ValueColumn) [] h.is (h.own ∙ ap (λ (es : List Tree). filter (is_own p) (pieces_from p k es)) (drop_of_length-le p.levels past)) packed

pub all-laid : (base : ℕ) (s : Shape) (extents : List ℕ) (p : Part) (k : ℕ) (laid : List LevelLayout) (n : ℕ) → IsLaid base s extents p k laid n → length p.levels ≤ k → laid ≡ layout_from base s extents p 0 p.levels
all-laid base s extents p k laid n h past =
    sym (append-nil laid) ∙ ap (λ (es : List Tree). laid ++ layout_from base s extents p k es) (sym (drop_of_length-le p.levels past)) ∙ h.levels

-- the same, where the part is q
pub laid-next : (base : ℕ) (s : Shape) (extents : List ℕ) (p q : Part) (k : ℕ) (laid : List LevelLayout) (n : ℕ) (level : LevelLayout) (size count : ℕ) (kd : Kind) → p ≡ q → IsLaid base s extents p k laid n → k < length p.levels
    → kd ≡ kind q k → level ≡ level_layout base p k size kd → size ≡ span (level_range s extents q (get_or q.levels k RowIndex)) → size < 2 ^ 63
    → count ≡ length (filter (is_own p) (level_pieces k kd)) → count ≤ 2 → IsLaid base s extents p (k + 1) (laid ++ (level ∷ [])) (n + count)
laid-next base s extents p q k laid n level size count kd same h l kd_is is size_is small count_is few =
    let kind_is : kd ≡ kind p k = kd_is ∙ ap (λ (z : Part). kind z k) (sym same) in
    laid-more base s extents p k laid n level size count h l (is ∙ ap (level_layout base p k size) kind_is)
    (size_is ∙ ap (λ (z : Part). span (level_range s extents z (get_or z.levels k RowIndex))) (sym same))
    small (count_is ∙ ap (λ (z : Kind). length (filter (is_own p) (level_pieces k z))) kind_is) few
