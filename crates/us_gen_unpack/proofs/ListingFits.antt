-- The phase is typed in every context with room.
use Rattle.std.proofs.Common.{◌≡◌, ℕ, ◌+◌, ◌<◌, ◌≤◌, true, false, nat_lt, nat_eq, ◌&&◌, refl, sym, ap, ◌∙◌, subst, arith, List, [], ◌∷◌, Option, Some}
use Rattle.us_code.specs.declared.program.Dim.{Dim}
use Rattle.us_code.specs.declared.program.Dim.TheVariants as dim
use Rattle.us_code.specs.declared.program.CellKind.TheVariants as kind
use Rattle.us_code.specs.declared.pieces.Columns.{Columns}
use Rattle.us_code.specs.Plain.{TermTree, Number, Reg, Code}
use Rattle.us_code.specs.Typing.{Context, BufKind, Form, is_some, with_reg, with_buf, sees_dim, spans, ends_form, fine, Typed, outer}
use Rattle.us_code_laws.proofs.Sequence.{put_same, put_other}
use Rattle.us_code_laws.proofs.Typings.{typed_append}
use Rattle.us_gen.specs.Levels.{level, nest}
use Rattle.us_gen.specs.Columns.{append}
use Rattle.us_gen.specs.Rooms.{FreshFrom}
use Rattle.us_gen.proofs.Appending.{appends_typed}
use Rattle.us_gen.proofs.NestsFit.{fine_more}
use Rattle.us_gen_recover.specs.Recovery.{table}
use Rattle.us_gen_walk.specs.declared.places.Column.{Column as Stored}
use Rattle.us_gen_walk.specs.declared.places.Column.TheVariants as column
use Rattle.us_gen_walk.specs.declared.places.Loop.{Loop}
use Rattle.us_gen_walk.specs.declared.places.Loop.TheVariants as over
use Rattle.us_gen_walk.specs.declared.places.Slot.{Slot}
use Rattle.us_gen_walk.specs.declared.places.Places.{Places}
use Rattle.us_gen_walk.specs.Walk.{tested, loop_levels, value_register, index_term, leaf_at, end}
use Rattle.us_gen_walk.specs.Rooms.{SeesColumn, SeesLoops, SeesSlots, SeesPlaces, in_walk, TypedWalk}
use Rattle.us_gen_walk.proofs.Around.{end_after}
use Rattle.us_gen_walk.proofs.WalkFits.{walk_is_typed}
use Rattle.us_gen_unpack.specs.declared.listing.PartWalk.{PartWalk}
use Rattle.us_gen_unpack.specs.Listing.{entry_of, list_part, end_of_part, list_parts, words}
use Rattle.us_gen_unpack.specs.Rooms.{SeesPart, SeesParts, ListingIsTyped}

-- ---- a context with the same dims and sources

module _ (g h : Context) (ds : h.dims ≡ g.dims) (ss : h.sources ≡ g.sources) where
  sees_as : (d : Dim) → sees_dim g d ≡ true → sees_dim h d ≡ true
  sees_as (dim.Number n) s = refl
  sees_as (dim.Name d) s = ap (λ (f : ℕ → Option Form). is_some (f d)) ds ∙ s
  sees_as (dim.Len k) s = ap (λ (x : ℕ). nat_lt k x) ss ∙ s

  below_as : (k : ℕ) → nat_lt k g.sources ≡ true → nat_lt k h.sources ≡ true
  below_as k s = ap (λ (x : ℕ). nat_lt k x) ss ∙ s

  spans_as : (d e : Dim) → spans g (kind.Below d) (kind.Below d) e ≡ true → spans h (kind.Below d) (kind.Below d) e ≡ true
  spans_as (dim.Number n) (dim.Number m) s = s
  spans_as (dim.Number n) (dim.Name m) s = s
  spans_as (dim.Number n) (dim.Len m) s = s
  spans_as (dim.Name d) e s = ap (λ (f : ℕ → Option Form). nat_eq d d && ends_form (f d) e) ds ∙ s
  spans_as (dim.Len x) e s = s

  column_as : (c : Stored) → SeesColumn g c → SeesColumn h c
  column_as (column.Own k) s = below_as k s
  column_as (column.Packed k w digit) s = below_as k s

  loops_as : (ls : List Loop) → SeesLoops g ls → SeesLoops h ls
  loops_as [] s = tt
  loops_as (over.Full size low ∷ ls) s = (sees_as size s.0, loops_as ls s.1)
  loops_as (over.Nodes k more nodes crd low ∷ ls) s = ((below_as k s.0.0, sees_as more s.0.1, sees_as nodes s.0.2, spans_as more nodes s.0.3, column_as crd s.0.4, s.0.5), loops_as ls s.1)

  slots_as : (xs : List Slot) → SeesSlots g xs → SeesSlots h xs
  slots_as [] s = tt
  slots_as (x ∷ xs) s = (column_as x.crd s.0, slots_as xs s.1)

  places_as : (w : Places) → SeesPlaces g w → SeesPlaces h w
  places_as w s = record {
    loops = loops_as w.loops.items s.loops;
    values = column_as w.values s.values;
    slots = slots_as w.slots.items s.slots;
    tables = λ q lt. below_as (table w.tables.items q).source (s.tables q lt);
    extents = λ q lt. sees_as (table w.tables.items q).extent (s.extents q lt);
  }

  parts_as : (xs : List PartWalk) → SeesParts g xs → SeesParts h xs
  parts_as [] s = tt
  parts_as (x ∷ xs) s = (record { places = places_as x.places s.0.places; names = s.0.names }, parts_as xs s.1)

-- ---- the loops leave no register visible

outer_nest : (g : Context) (ls : List Loop) (q : TermTree) (n : ℕ) (inner : Code) → outer g inner ≡ g → outer g (nest (loop_levels ls) q n inner) ≡ g
outer_nest g [] q n inner h = h
outer_nest g (over.Full size low ∷ ls) q n inner h = refl
outer_nest g (over.Nodes k more nodes crd low ∷ ls) q n inner h = refl

outer_leaf : (g : Context) (c : Stored) (q : TermTree) (n : ℕ) (inner : Code) → outer g (level (tested c) q n inner) ≡ g
outer_leaf g (column.Own k) q n inner = refl
outer_leaf g (column.Packed k w digit) q n inner = refl

outer_part : (g : Context) (c : Columns) (k : ℕ) (x : PartWalk) (n : ℕ) → outer g (list_part c k x n) ≡ g
outer_part g c k x n = outer_nest g x.places.loops.items (Number 0) n _ (outer_leaf g x.places.values _ (leaf_at x.places n) _)

fresh_later : (g : Context) (n m : ℕ) → n ≤ m → FreshFrom g n → FreshFrom g m
fresh_later g n m le f = record { none = λ x h. f.none x (omega (arith, le, h)) }

-- ---- parts

-- the columns, the counter, and fresh registers from n on
record Ready (g : Context) (c : Columns) (k n : ℕ) : Type 0 where
  fresh : FreshFrom g n
  later : k < n
  counter : g.regs k ≡ Some record { is_var = true; kind = kind.Word }
  long : sees_dim g (dim.Name c.count) ≡ true
  i : g.bufs c.i ≡ Some record { len = dim.Name c.count; cell = kind.Word }
  j : g.bufs c.j ≡ Some record { len = dim.Name c.count; cell = kind.Word }
  v : g.bufs c.v ≡ Some record { len = dim.Name c.count; cell = kind.Word }

part_typed : (g : Context) (c : Columns) (k : ℕ) (x : PartWalk) (n : ℕ) → Ready g c k n → SeesPart g x → Typed g (list_part c k x n)
part_typed g c k x n r s =
    let t : TypedWalk g x.places x.steps.items n = walk_is_typed g x.places x.steps.items n r.fresh s.places (s.names n) in
    let h = in_walk g x.places x.steps.items n in
    let e = end x.places x.steps.items n in
    let long = dim.Name c.count in
    let seen : sees_dim h long ≡ true = ap (λ (f : ℕ → Option Form). is_some (f c.count)) t.dims ∙ r.long in
    let fine_in : (y : TermTree) → fine h y ≡ true → fine (with_reg h e false (kind.Below long)) y ≡ true = λ y f. fine_more h e e false (kind.Below long) y t.fresh (omega arith) f in
    let buf_in : (b : ℕ) → g.bufs b ≡ Some record { len = long; cell = kind.Word } → h.bufs b ≡ Some record { len = long; cell = kind.Word } = λ b q. ap (λ (f : ℕ → Option BufKind). f b) t.bufs ∙ q in
    t.typed (append k long e (entry_of c x n))
    (appends_typed h k e long (entry_of c x n) t.fresh seen (t.regs k r.later ∙ r.counter) (
      buf_in c.i r.i,
      fine_in (index_term x.places x.steps.items n x.row) (t.index_fine x.row),
      (buf_in c.j r.j, fine_in (index_term x.places x.steps.items n x.col) (t.index_fine x.col), (buf_in c.v r.v, fine_in (Reg (value_register x.places n)) (ap is_some t.value_is), tt)),
    ))

end_later : (x : PartWalk) (n : ℕ) → n ≤ end_of_part x n
end_later x n = omega (arith, end_after (loop_levels x.places.loops.items) n)

parts_typed : (g : Context) (c : Columns) (k : ℕ) (xs : List PartWalk) (n : ℕ) → Ready g c k n → SeesParts g xs → Typed g (list_parts c k xs n)
parts_typed g c k [] n r s = tt
parts_typed g c k (x ∷ xs) n r s =
    typed_append g (list_part c k x n) (list_parts c k xs (end_of_part x n)) (part_typed g c k x n r s.0)
    (subst (λ (h : Context). Typed h (list_parts c k xs (end_of_part x n))) (sym (outer_part g c k x n))
    (parts_typed g c k xs (end_of_part x n)
    (record { fresh = fresh_later g n (end_of_part x n) (end_later x n) r.fresh; later = omega (arith, r.later, end_later x n); counter = r.counter; long = r.long; i = r.i; j = r.j; v = r.v })
    s.1))

pub listing_is_typed : ListingIsTyped
listing_is_typed g c k xs f long new s =
    let g1 = with_buf g (words c.i c.count) in
    let g2 = with_buf g1 (words c.j c.count) in
    let g3 = with_buf g2 (words c.v c.count) in
    let h = with_reg g3 k true kind.Word in
    let made : BufKind = record { len = dim.Name c.count; cell = kind.Word } in
    let ready : Ready h c k (k + 1) = record {
      fresh = record { none = λ x le. put_other g3.regs k _ x (omega (arith, le)) ∙ f.none x (omega arith) };
      later = omega arith;
      counter = put_same g3.regs k _;
      long = long;
      i = put_other g2.bufs c.v _ c.i (λ e. new.i_v (sym e)) ∙ (put_other g1.bufs c.j _ c.i (λ e. new.i_j (sym e)) ∙ put_same g.bufs c.i _);
      j = put_other g2.bufs c.v _ c.j (λ e. new.j_v (sym e)) ∙ put_same g1.bufs c.j _;
      v = put_same g2.bufs c.v _;
    } in (
      (
        new.i,
        long,
        refl,
        refl,
        (
          put_other g.bufs c.i _ c.j new.i_j ∙ new.j,
          long,
          refl,
          refl,
          (put_other g1.bufs c.j _ c.v new.j_v ∙ (put_other g.bufs c.i _ c.v new.i_v ∙ new.v), long, refl, refl, tt),
        ),
      ),
      (f.none k (omega arith), refl, parts_typed h c k xs (k + 1) ready (parts_as g h refl refl xs s)),
      tt,
      tt,
    )
