-- The place of a column, in a pack or in a source of its own.
use Rattle.std.proofs.Common.{◌≡◌, ℕ, ◌+◌, length, Bool, true, false, cond, refl, sym, ap, ◌∙◌, arith}
use Rattle.std.specs.Prelude.{Some, None}
use Rattle.std.specs.List.{position, position_or_len}
use Rattle.us_format.specs.Lists.{nth}
use Rattle.us_format.specs.Declaration.{Column, LevelColumn, Part, same_column}
use Rattle.us_format.specs.Packs.{CellsOf, is_packed, in_pack}
use Rattle.us_format.specs.Reading.{own_place, pack_place, pack_of}
use Rattle.us_code.specs.declared.program.Dim.TheVariants as dim
use Rattle.us_gen_parts.proofs.PackColumns.{position-some, position-any, position-none}
use Rattle.us_gen_walk.specs.declared.places.Column.{Column as Place}
use Rattle.us_gen_walk.specs.declared.places.Column.TheVariants as cells
use Rattle.us_gen_places.specs.declared.start.PartStart.{PartStart}
use Rattle.us_gen_places.specs.Places.{place_of, nodes_of, nodes_name}

three : {a b c d e f : ℕ} → a ≡ b → c ≡ d → e ≡ f → cells.Packed a c e ≡ cells.Packed b d f
three {a} {b} {c} {d} {e} {f} p q r = rw (p, q, r) refl

pub place-packed : (a : PartStart) (p : Part) (c : Column) (n first j w y : ℕ) → position (in_pack c) p.packs ≡ Some j → first ≡ pack_place p 0 → n ≡ a.source + (first + j)
    → y ≡ position_or_len (same_column c) (nth p.packs j) → w ≡ length (nth p.packs j) → cells.Packed n w y ≡ place_of a p c
place-packed a p c n first j w y at f en ey ew =
    let there : is_packed p (CellsOf c) ≡ true = position-any (in_pack c) p.packs j at in
    let is : pack_of p c ≡ j = (position-some (in_pack c) p.packs j at).0 in
    rw there (three (omega (arith, f, is, en)) (ew ∙ ap (λ k. length (nth p.packs k)) (sym is)) (ey ∙ ap (λ k. position_or_len (same_column c) (nth p.packs k)) (sym is)))

pub place-own : (a : PartStart) (p : Part) (c : Column) (n own : ℕ) → position (in_pack c) p.packs ≡ None → (is_packed p (CellsOf c) ≡ false → own ≡ own_place p (CellsOf c)) → n ≡ a.source + own
    → cells.Own n ≡ place_of a p c
place-own a p c n own at own_is en =
    let there : is_packed p (CellsOf c) ≡ false = position-none (in_pack c) p.packs at in
    rw there (ap cells.Own (en ∙ ap (λ k. a.source + k) (own_is there)))

-- ---- how many nodes

pub nodes-own : (a : PartStart) (p : Part) (k x : ℕ) (c : Place) → c ≡ cells.Own x → c ≡ place_of a p (LevelColumn k) → dim.Len x ≡ nodes_of a p k
nodes-own a p k x c e h = go (is_packed p (CellsOf (LevelColumn k))) (sym e ∙ h)
  where
    go : (b : Bool)
        → cells.Own x ≡ cond b (cells.Packed (a.source + pack_place p (pack_of p (LevelColumn k))) (length (nth p.packs (pack_of p (LevelColumn k)))) (position_or_len (same_column (LevelColumn k)) (nth p.packs (pack_of p (LevelColumn k))))) (cells.Own (a.source + own_place p (CellsOf (LevelColumn k))))
        → dim.Len x ≡ cond b (dim.Name (nodes_name a k)) (dim.Len (a.source + own_place p (CellsOf (LevelColumn k))))
    go true q = absurd cc
    go false q = ap dim.Len cc

pub nodes-packed : (a : PartStart) (p : Part) (k x w y n : ℕ) (c : Place) → c ≡ cells.Packed x w y → c ≡ place_of a p (LevelColumn k) → n ≡ nodes_name a k → dim.Name n ≡ nodes_of a p k
nodes-packed a p k x w y n c e h en = go (is_packed p (CellsOf (LevelColumn k))) (sym e ∙ h)
  where
    go : (b : Bool)
        → cells.Packed x w y ≡ cond b (cells.Packed (a.source + pack_place p (pack_of p (LevelColumn k))) (length (nth p.packs (pack_of p (LevelColumn k)))) (position_or_len (same_column (LevelColumn k)) (nth p.packs (pack_of p (LevelColumn k))))) (cells.Own (a.source + own_place p (CellsOf (LevelColumn k))))
        → dim.Name n ≡ cond b (dim.Name (nodes_name a k)) (dim.Len (a.source + own_place p (CellsOf (LevelColumn k))))
    go true q = ap dim.Name en
    go false q = absurd cc
