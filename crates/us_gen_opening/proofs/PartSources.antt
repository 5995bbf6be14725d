-- What the phase needs of parts, one behind the other, is visible, and stands in the sources.
use Rattle.std.proofs.Common.{◌≡◌, ℕ, suc, ◌+◌, ◌<◌, ◌≤◌, List, [], ◌∷◌, ◌++◌, length, Bool, true, false, cond, not, nat_lt, refl, sym, ap, ◌∙◌, subst, inl, inr, arith, filter, lt-ltb}
use Rattle.std.specs.Prelude.{All}
use Rattle.std.specs.List.{position_or_len, sum_by}
use Rattle.std.proofs.lemmas.List.Sums.{sum_by-cons, length-filter}
use Rattle.us_expr.specs.Tree.{Tree}
use Rattle.us_format.specs.declared.Kind.{Kind}
use Rattle.us_format.specs.declared.Kind.TheVariants as kinds
use Rattle.us_format.specs.Lists.{nth}
use Rattle.us_format.specs.Matrix.{Shape}
use Rattle.us_format.specs.Declaration.{Query, SumOf, Enumerate, Reorder, Schedule, Column, LevelColumn, ValueColumn, Part, same_column, has_extent}
use Rattle.us_format.specs.Kinds.{kind}
use Rattle.us_format.specs.Packs.{Piece, CellsOf, in_pack, pieces, pieces_from, level_pieces, own_pieces, is_packed, same_piece}
use Rattle.us_format.specs.Reading.{extent_count, own_place, pack_place, pack_of, buffer_count, limit}
use Rattle.us_format.specs.Rules.{ArePacksLawful}
use Rattle.us_format.specs.Queries.{extents_of}
use Rattle.us_format.proofs.Members.{Mem-right}
use Rattle.us_format.proofs.Order.{Mem, Mem-filter}
use Rattle.us_format.proofs.Pieces.{found-at, same_piece-true, same_piece-self}
use Rattle.us_format.proofs.Queries.{found-first}
use Rattle.us_code.specs.Run.{Env}
use Rattle.us_code.specs.Typing.{Context}
use Rattle.us_gen_walk.specs.declared.places.Column.TheVariants as cells
use Rattle.us_gen_walk.specs.Rooms.{SeesColumn}
use Rattle.us_gen_places.specs.declared.start.PartStart.{PartStart}
use Rattle.us_gen_places.specs.Places.{place_of, level_place, with_loop, loops_from, tables_from}
use Rattle.us_gen_places.specs.Holds.{HoldParts}
use Rattle.us_gen_places.specs.Dims.{next_start}
use Rattle.us_gen_unpack.specs.Runs.{Listed}
use Rattle.us_gen_opening.specs.declared.parts.Opening.{Opening}
use Rattle.us_gen_opening.specs.Opening.{extents_from}
use Rattle.us_gen_opening.specs.Rooms.{SeesExtents, SeesNodes, SeesOpening, SeesOpenings}
use Rattle.us_gen_opening.specs.Runs.{openings, listeds, AreOpenable}
use Rattle.us_gen_opening.specs.Tells.{IsOpeningOf, AreOpeningsOf}
use Rattle.us_gen_opening.specs.Sources.{paired, ArePlaced, parts, with_entries, OpeningsStand}
use Rattle.us_gen_opening.proofs.PartDims.{opening_tells}

module _ (g : Context) (a : PartStart) (s : Shape) (p : Part) (room : a.source + buffer_count p ≤ g.sources) where
  buffer_seen : (k : ℕ) → k < buffer_count p → nat_lt (a.source + k) g.sources ≡ true
  buffer_seen k l = lt-ltb (a.source + k) g.sources (omega (arith, room, l))

  column_seen : (c : Column) → Mem (CellsOf c) (pieces p) → SeesColumn g (place_of a p c)
  column_seen c mem = go (is_packed p (CellsOf c)) refl
    where
      go : (b : Bool) → is_packed p (CellsOf c) ≡ b
          → SeesColumn g (cond b (cells.Packed (a.source + pack_place p (pack_of p c)) (length (nth p.packs (pack_of p c))) (position_or_len (same_column c) (nth p.packs (pack_of p c)))) (cells.Own (a.source + own_place p (CellsOf c))))
      go true h = let f = found-first (in_pack c) p.packs [] h in buffer_seen (pack_place p (pack_of p c)) (omega (arith, f.0))
      go false h =
          let f = found-at same_piece same_piece-true same_piece-self (CellsOf c) (own_pieces p) (CellsOf c) (Mem-filter (λ y. not (is_packed p y)) (CellsOf c) (pieces p) mem (ap not h)) in
          buffer_seen (own_place p (CellsOf c)) (omega (arith, f.0))

  nodes_seen : (k : ℕ) (es : List Tree) → ((x : Piece) → Mem x (pieces_from p k es) → Mem x (pieces p)) → SeesNodes g (loops_from a s p k es)
  nodes_seen k [] mem = tt
  nodes_seen k (e ∷ es) mem = go (kind p k) mem (nodes_seen (suc k) es)
    where
      go : (kd : Kind) → ((x : Piece) → Mem x (level_pieces k kd ++ pieces_from p (suc k) es) → Mem x (pieces p))
          → (((x : Piece) → Mem x (pieces_from p (suc k) es) → Mem x (pieces p)) → SeesNodes g (loops_from a s p (suc k) es))
          → SeesNodes g (with_loop (level_place a s p k e kd) (loops_from a s p (suc k) es))
      go kinds.Full mem ih = ih mem
      go kinds.Compressed mem ih = (column_seen (LevelColumn k) (mem (CellsOf (LevelColumn k)) (inr (inl refl))), ih (λ x i. mem x (inr (inr i))))
      go kinds.Listed mem ih = (column_seen (LevelColumn k) (mem (CellsOf (LevelColumn k)) (inr (inl refl))), ih (λ x i. mem x (inr (inr i))))
      go kinds.Slot mem ih = ih (λ x i. mem x (inr i))

  values_there : (k : ℕ) (es : List Tree) → Mem (CellsOf ValueColumn) (pieces_from p k es)
  values_there k [] = inl refl
  values_there k (e ∷ es) = Mem-right (CellsOf ValueColumn) (level_pieces k (kind p k)) (pieces_from p (suc k) es) (values_there (suc k) es)

  extents_seen : (t q k : ℕ) (qs : List Query) → k + length (filter has_extent qs) ≤ g.sources → SeesExtents g (extents_from k (tables_from a t q qs))
  extents_seen t q k [] le = tt
  extents_seen t q k (SumOf v e ∷ qs) le = extents_seen t (suc q) k qs le
  extents_seen t q k (Enumerate v e ∷ qs) le = (lt-ltb k g.sources (omega (arith, le)), extents_seen t (suc q) (k + 1) qs (omega (arith, le)))
  extents_seen t q k (Reorder v e ∷ qs) le = extents_seen (suc t) (suc q) k qs le
  extents_seen t q k (Schedule u v e n ∷ qs) le = (lt-ltb k g.sources (omega (arith, le)), extents_seen (suc t) (suc q) (k + 1) qs (omega (arith, le)))

  opening_seen : (o : Opening) → IsOpeningOf a s p o → SeesOpening g o
  opening_seen o of =
      let few : length (filter has_extent p.queries) ≡ extent_count p = length-filter has_extent p.queries in
      record {
        extents = subst (SeesExtents g) (sym of.extents) (extents_seen (extent_count p) 0 a.source p.queries (omega (arith, room, few)));
        nodes = subst (SeesNodes g) (sym of.loops) (nodes_seen 0 p.levels (λ x i. i));
        values = subst (SeesColumn g) (sym of.values) (column_seen ValueColumn (values_there 0 p.levels));
        named = opening_tells.named a s p o of;
      }

all_seen : (g : Context) (a : PartStart) (s : Shape) (ps : List Part) (os : List Opening) → AreOpeningsOf a s ps os → a.source + sum_by buffer_count ps ≤ g.sources → SeesOpenings g os
all_seen g a s [] [] are room = tt
all_seen g a s [] (o ∷ os) are room = absurd are
all_seen g a s (p ∷ ps) [] are room = absurd are
all_seen g a s (p ∷ ps) (o ∷ os) are room =
    let sum : sum_by buffer_count (p ∷ ps) ≡ buffer_count p + sum_by buffer_count ps = sum_by-cons buffer_count p ps in
    (opening_seen g a s p (omega (arith, room, sum)) o are.0, all_seen g (next_start a p) s ps os are.1 (omega (arith, room, sum)))

all_openable : (env : Env) (a : PartStart) (s : Shape) (ls : List Listed) (os : List Opening) → AreOpeningsOf a s (parts ls) os → ArePlaced a s ls → All (λ x. ArePacksLawful x.part) ls
    → HoldParts env a.source s (with_entries ls) → All (λ x. All (λ n. n ≤ limit) (extents_of x.entries s x.part)) ls → AreOpenable env (paired os ls)
all_openable env a s [] [] are at lawful held small = tt
all_openable env a s [] (o ∷ os) are at lawful held small = absurd are
all_openable env a s (x ∷ ls) [] are at lawful held small = absurd are
all_openable env a s (x ∷ ls) (o ∷ os) are at lawful held small = (
  record {
    loops = are.0.loops ∙ sym at.0.loops;
    values = are.0.values ∙ sym at.0.values;
    named = opening_tells.named a s x.part o are.0;
    extents = opening_tells.extents env.sources a s x.part x.entries o are.0 (lawful 0 x (omega arith)) held.0 (small 0 x (omega arith));
  },
  all_openable env (next_start a x.part) s ls os are.1 at.1 (λ i d l. lawful (suc i) d (omega (arith, l))) held.1 (λ i d l. small (suc i) d (omega (arith, l))),
)

openings_same : (a : PartStart) (s : Shape) (ls : List Listed) (os : List Opening) → AreOpeningsOf a s (parts ls) os → openings (paired os ls) ≡ os
openings_same a s [] [] are = refl
openings_same a s [] (o ∷ os) are = absurd are
openings_same a s (x ∷ ls) [] are = absurd are
openings_same a s (x ∷ ls) (o ∷ os) are = ap (λ (ys : List Opening). o ∷ ys) (openings_same (next_start a x.part) s ls os are.1)

listeds_same : (a : PartStart) (s : Shape) (ls : List Listed) (os : List Opening) → AreOpeningsOf a s (parts ls) os → listeds (paired os ls) ≡ ls
listeds_same a s [] [] are = refl
listeds_same a s [] (o ∷ os) are = absurd are
listeds_same a s (x ∷ ls) [] are = absurd are
listeds_same a s (x ∷ ls) (o ∷ os) are = ap (λ (ys : List Listed). x ∷ ys) (listeds_same (next_start a x.part) s ls os are.1)

pub openings_stand : OpeningsStand
openings_stand = record { sees = all_seen; openable = all_openable; openings_are = openings_same; listeds_are = listeds_same }
