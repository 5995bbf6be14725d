-- No buffer of a declaration is longer than its size.
use Rattle.std.proofs.Common.{◌≡◌, ℕ, zero, suc, ◌+◌, ◌<◌, ◌≤◌, List, [], ◌∷◌, map, length, Bool, true, false, cond, not, refl, ap, inl, inr, arith}
use Rattle.std.specs.List.{position_or_len}
use Rattle.std.proofs.lemmas.List.Sums.{sum_by-cons, sum_by-append}
use Rattle.us_expr.specs.Tree.{Tree}
use Rattle.us_format.specs.Lists.{nth}
use Rattle.us_format.specs.Matrix.{Shape, Entry}
use Rattle.us_format.specs.Declaration.{ValueColumn, Part, Declaration, same_column}
use Rattle.us_format.specs.Kinds.{kind}
use Rattle.us_format.specs.Packs.{CellsOf, Buffer, written, pieces, pieces_from, level_pieces, own_pieces, is_packed, in_pack, same_piece}
use Rattle.us_format.specs.Buffers.{part_buffers, parts_of, all_buffers, size}
use Rattle.us_format.specs.Reading.{own_place, pack_place, pack_of, buffer_count}
use Rattle.us_format.specs.Rules.{ArePacksLawful}
use Rattle.us_format.specs.Laws.{cells_of}
use Rattle.us_format.proofs.Climb.{length-written}
use Rattle.us_format.proofs.Members.{Mem-right}
use Rattle.us_format.proofs.Order.{Mem, Mem-filter}
use Rattle.us_format.proofs.Pieces.{found-at, same_piece-true, same_piece-self}
use Rattle.us_format.proofs.Places.{buffers-number}
use Rattle.us_format.proofs.Queries.{found-first}
use Rattle.us_code.specs.Run.{Env}
use Rattle.us_gen_walk.specs.declared.places.Column.TheVariants as cells
use Rattle.us_gen_places.specs.declared.start.PartStart.{PartStart}
use Rattle.us_gen_places.specs.Places.{place_of}
use Rattle.us_gen_places.specs.Holds.{held_by}
use Rattle.us_gen_opening.specs.Opening.{source_of}

one_long : (bs : List Buffer) (j : ℕ) → length (nth (map written bs) j) ≤ cells_of bs
one_long [] zero = omega arith
one_long [] (suc j) = omega arith
one_long (b ∷ bs) zero = omega (arith, length-written b, sum_by-cons (λ (x : Buffer). x.len) b bs)
one_long (b ∷ bs) (suc j) = omega (arith, one_long bs j, sum_by-cons (λ (x : Buffer). x.len) b bs)

part_long : (s : Shape) (ys : List (Part × List Entry)) (y : Part × List Entry) → Mem y ys → cells_of (part_buffers s y.0 y.1) ≤ cells_of (all_buffers s ys)
part_long s [] y i = absurd i
part_long s (x ∷ ys) y (inl e) =
    omega (arith, sum_by-append (λ (b : Buffer). b.len) (part_buffers s x.0 x.1) (all_buffers s ys), ap (λ (z : Part × List Entry). cells_of (part_buffers s z.0 z.1)) e)
part_long s (x ∷ ys) y (inr i) =
    omega (arith, sum_by-append (λ (b : Buffer). b.len) (part_buffers s x.0 x.1) (all_buffers s ys), part_long s ys y i)

-- the buffers of a part are as long together as the size, at most
pub part-long : (s : Shape) (d : Declaration) (m : List Entry) (y : Part × List Entry) → Mem y (parts_of s d m) → cells_of (part_buffers s y.0 y.1) ≤ size s d m
part-long s d m y i = omega (arith, part_long s (parts_of s d m) y i)

value_there : (p : Part) (k : ℕ) (es : List Tree) → Mem (CellsOf ValueColumn) (pieces_from p k es)
value_there p k [] = inl refl
value_there p k (e ∷ es) = Mem-right (CellsOf ValueColumn) (level_pieces k (kind p k)) (pieces_from p (suc k) es) (value_there p (suc k) es)

-- the source of the values is one of the part's buffers
pub values-long : (env : Env) (a : PartStart) (s : Shape) (p : Part) (m : List Entry) (T : ℕ) → ArePacksLawful p → ((k : ℕ) → k < length (part_buffers s p m) → env.sources (a.source + k) ≡ nth (held_by s p m) k)
    → cells_of (part_buffers s p m) ≤ T → length (env.sources (source_of (place_of a p ValueColumn))) ≤ T
values-long env a s p m T lawful sources long = go (is_packed p (CellsOf ValueColumn)) refl
  where
    at : (k : ℕ) → k < buffer_count p → length (env.sources (a.source + k)) ≤ T
    at k l =
        let e : length (env.sources (a.source + k)) ≡ length (nth (held_by s p m) k) = ap (λ xs. length xs) (sources k (omega (arith, l, buffers-number s p m lawful []))) in
        omega (arith, e, one_long (part_buffers s p m) k, long)

    go : (b : Bool) → is_packed p (CellsOf ValueColumn) ≡ b
        → length (env.sources (source_of (cond b (cells.Packed (a.source + pack_place p (pack_of p ValueColumn)) (length (nth p.packs (pack_of p ValueColumn))) (position_or_len (same_column ValueColumn) (nth p.packs (pack_of p ValueColumn)))) (cells.Own (a.source + own_place p (CellsOf ValueColumn)))))) ≤ T
    go true h = let f = found-first (in_pack ValueColumn) p.packs [] h in at (pack_place p (pack_of p ValueColumn)) (omega (arith, f.0))
    go false h =
        let f = found-at same_piece same_piece-true same_piece-self (CellsOf ValueColumn) (own_pieces p) (CellsOf ValueColumn) (Mem-filter (λ y. not (is_packed p y)) (CellsOf ValueColumn) (pieces p) (value_there p 0 p.levels) (ap not h)) in
        at (own_place p (CellsOf ValueColumn)) (omega (arith, f.0))
