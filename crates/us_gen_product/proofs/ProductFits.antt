-- The phase is typed in every context with room.
use Rattle.std.proofs.Common.{◌≡◌, ℕ, ◌+◌, ◌<◌, ◌≤◌, Bool, true, false, cond, nat_lt, nat_eq, ◌&&◌, refl, sym, ap, ap₂, ◌∙◌, subst, arith, List, [], ◌∷◌, Option, Some, None}
use Rattle.std.proofs.lemmas.Bool.Decides.{nat_tests}
use Rattle.us_code.specs.declared.program.Buf.TheVariants as buf
use Rattle.us_code.specs.declared.program.Dim.{Dim}
use Rattle.us_code.specs.declared.program.Dim.TheVariants as dim
use Rattle.us_code.specs.declared.program.CellKind.TheVariants as kind
use Rattle.us_code.specs.Plain.{TermTree, Number, Code, End, For}
use Rattle.us_code.specs.Typing.{Context, RegKind, BufKind, Form, is_some, reg_kind, buf_len, buf_cell, cell_of, with_reg, with_buf, fits, fits_cell, sees_dim, spans, ends_form, fine, Typed, outer}
use Rattle.us_code_laws.proofs.Sequence.{put_same, put_other}
use Rattle.us_code_laws.proofs.Sound.{both_true}
use Rattle.us_code_laws.proofs.Typings.{typed_append}
use Rattle.us_gen.specs.Levels.{level, nest}
use Rattle.us_gen.specs.Rooms.{FreshFrom}
use Rattle.us_gen.proofs.NestsFit.{fresh_more, fine_more}
use Rattle.us_gen_recover.specs.Recovery.{table}
use Rattle.us_gen_walk.specs.declared.places.Column.{Column as Stored}
use Rattle.us_gen_walk.specs.declared.places.Column.TheVariants as column
use Rattle.us_gen_walk.specs.declared.places.Loop.{Loop}
use Rattle.us_gen_walk.specs.declared.places.Loop.TheVariants as over
use Rattle.us_gen_walk.specs.declared.places.Slot.{Slot}
use Rattle.us_gen_walk.specs.declared.places.Places.{Places}
use Rattle.us_gen_walk.specs.Walk.{tested, loop_levels, value_register, index_term, leaf_at, end}
use Rattle.us_gen_walk.specs.Rooms.{SeesColumn, SeesLoops, SeesSlots, SeesPlaces, in_walk, TypedWalk}
use Rattle.us_gen_walk.proofs.Around.{end_after}
use Rattle.us_gen_walk.proofs.WalkFits.{walk_is_typed}
use Rattle.us_gen_unpack.specs.declared.listing.PartWalk.{PartWalk}
use Rattle.us_gen_unpack.specs.Rooms.{SeesPart, SeesParts}
use Rattle.us_gen_product.specs.declared.product.Product.{Product}
use Rattle.us_gen_product.specs.Product.{is_vector, result_length, in_column, add_product, add_products, add_part, end_of_part, add_parts, made_result}
use Rattle.us_gen_product.specs.Rooms.{ProductIsTyped}

-- ---- a context with the same dims and sources

module _ (g h : Context) (ds : h.dims ≡ g.dims) (ss : h.sources ≡ g.sources) where
  sees_as : (d : Dim) → sees_dim g d ≡ true → sees_dim h d ≡ true
  sees_as (dim.Number n) s = refl
  sees_as (dim.Name d) s = ap (λ (f : ℕ → Option Form). is_some (f d)) ds ∙ s
  sees_as (dim.Len k) s = ap (λ (x : ℕ). nat_lt k x) ss ∙ s

  below_as : (k : ℕ) → nat_lt k g.sources ≡ true → nat_lt k h.sources ≡ true
  below_as k s = ap (λ (x : ℕ). nat_lt k x) ss ∙ s

  spans_as : (d e : Dim) → spans g (kind.Below d) (kind.Below d) e ≡ true → spans h (kind.Below d) (kind.Below d) e ≡ true
  spans_as (dim.Number n) (dim.Number m) s = s
  spans_as (dim.Number n) (dim.Name m) s = s
  spans_as (dim.Number n) (dim.Len m) s = s
  spans_as (dim.Name d) e s = ap (λ (f : ℕ → Option Form). nat_eq d d && ends_form (f d) e) ds ∙ s
  spans_as (dim.Len x) e s = s

  column_as : (c : Stored) → SeesColumn g c → SeesColumn h c
  column_as (column.Own k) s = below_as k s
  column_as (column.Packed k w digit) s = below_as k s

  loops_as : (ls : List Loop) → SeesLoops g ls → SeesLoops h ls
  loops_as [] s = tt
  loops_as (over.Full size low ∷ ls) s = (sees_as size s.0, loops_as ls s.1)
  loops_as (over.Nodes k more nodes crd low ∷ ls) s = ((below_as k s.0.0, sees_as more s.0.1, sees_as nodes s.0.2, spans_as more nodes s.0.3, column_as crd s.0.4, s.0.5), loops_as ls s.1)

  slots_as : (xs : List Slot) → SeesSlots g xs → SeesSlots h xs
  slots_as [] s = tt
  slots_as (x ∷ xs) s = (column_as x.crd s.0, slots_as xs s.1)

  places_as : (w : Places) → SeesPlaces g w → SeesPlaces h w
  places_as w s = record {
    loops = loops_as w.loops.items s.loops;
    values = column_as w.values s.values;
    slots = slots_as w.slots.items s.slots;
    tables = λ q lt. below_as (table w.tables.items q).source (s.tables q lt);
    extents = λ q lt. sees_as (table w.tables.items q).extent (s.extents q lt);
  }

  parts_as : (xs : List PartWalk) → SeesParts g xs → SeesParts h xs
  parts_as [] s = tt
  parts_as (x ∷ xs) s = (record { places = places_as x.places s.0.places; names = s.0.names }, parts_as xs s.1)

-- ---- the loops leave no register visible
outer_nest : (g : Context) (ls : List Loop) (q : TermTree) (n : ℕ) (inner : Code) → outer g inner ≡ g → outer g (nest (loop_levels ls) q n inner) ≡ g
outer_nest g [] q n inner h = h
outer_nest g (over.Full size low ∷ ls) q n inner h = refl
outer_nest g (over.Nodes k more nodes crd low ∷ ls) q n inner h = refl

outer_leaf : (g : Context) (c : Stored) (q : TermTree) (n : ℕ) (inner : Code) → outer g (level (tested c) q n inner) ≡ g
outer_leaf g (column.Own k) q n inner = refl
outer_leaf g (column.Packed k w digit) q n inner = refl

-- ---- the block

fits_same : (d : Dim) → fits (kind.Below d) d ≡ true
fits_same (dim.Number n) = grind (arith, nat_tests)
fits_same (dim.Name d) = grind (arith, nat_tests)
fits_same (dim.Len k) = grind (arith, nat_tests)

-- the operand and the result are visible, and registers from n on are fresh
record Sees (g : Context) (p : Product) (n : ℕ) : Type 0 where
  fresh : FreshFrom g n
  operand : nat_lt p.operand g.sources ≡ true
  result : g.bufs p.result ≡ Some record { len = result_length p; cell = kind.Word }

-- the number of the column is in a visible register
abbrev SeesNumber : Context → Option ℕ → Type 0
SeesNumber g None = Unit {0}
SeesNumber g (Some r) = is_some (g.regs r) ≡ true

column_fine : (g : Context) (k : Option ℕ) (size : ℕ) (e : TermTree) → SeesNumber g k → fine g e ≡ true → fine g (in_column k size e) ≡ true
column_fine g None size e s f = f
column_fine g (Some r) size e s f = both_true (is_some (g.regs r) && true) (fine g e) (both_true (is_some (g.regs r)) true s refl) f

product_typed : (g : Context) (p : Product) (k : Option ℕ) (row col : TermTree) (val n : ℕ) → Sees g p n → SeesNumber g k → fine g row ≡ true → fine g col ≡ true → is_some (g.regs val) ≡ true → val < n → Typed g (add_product p k row col val n)
product_typed g p k row col val n s number rows cols held lv =
    let below : RegKind = record { is_var = false; kind = kind.Below (dim.Len p.operand) } in
    let h1 = with_reg g n false (kind.Below (dim.Len p.operand)) in
    let h2 = with_reg h1 (n + 1) false kind.Word in
    let h3 = with_reg h2 (n + 2) false (kind.Below (result_length p)) in
    let h4 = with_reg h3 (n + 3) false (cell_of h3 (buf.New p.result)) in
    let f1 : FreshFrom h1 (n + 1) = fresh_more g n n false (kind.Below (dim.Len p.operand)) (n + 1) (omega arith) (omega arith) s.fresh in
    let f2 : FreshFrom h2 (n + 2) = fresh_more h1 (n + 1) (n + 1) false kind.Word (n + 2) (omega arith) (omega arith) f1 in
    let f3 : FreshFrom h3 (n + 3) = fresh_more h2 (n + 2) (n + 2) false (kind.Below (result_length p)) (n + 3) (omega arith) (omega arith) f2 in
    let place : fine h2 (in_column k p.rows row) ≡ true =
    fine_more h1 (n + 1) (n + 1) false kind.Word (in_column k p.rows row) f1 (omega arith) (fine_more g n n false (kind.Below (dim.Len p.operand)) (in_column k p.rows row) s.fresh (omega arith) (column_fine g k p.rows row number rows)) in
    let at1 : h1.regs n ≡ Some record { is_var = false; kind = kind.Below (dim.Len p.operand) } = put_same g.regs n _ in
    let at3 : h3.regs (n + 2) ≡ Some record { is_var = false; kind = kind.Below (result_length p) } = put_same h2.regs (n + 2) _ in
    let at4 : h4.regs (n + 2) ≡ Some record { is_var = false; kind = kind.Below (result_length p) } = put_other h3.regs (n + 3) _ (n + 2) (omega arith) ∙ at3 in
    let len : buf_len (g.bufs p.result) ≡ result_length p = ap buf_len s.result in
    let there : is_some (g.bufs p.result) ≡ true = ap is_some s.result in
    let factor : is_some (h4.regs (n + 1)) ≡ true = ap is_some (put_other h3.regs (n + 3) _ (n + 1) (omega arith) ∙ (put_other h2.regs (n + 2) _ (n + 1) (omega arith) ∙ put_same h1.regs (n + 1) _)) in
    let value : is_some (h4.regs val) ≡ true =
    ap is_some (put_other h3.regs (n + 3) _ val (omega (arith, lv)) ∙ (put_other h2.regs (n + 2) _ val (omega (arith, lv)) ∙ (put_other h1.regs (n + 1) _ val (omega (arith, lv)) ∙ put_other g.regs n _ val (omega (arith, lv))))) ∙ held in
    let old : is_some (h4.regs (n + 3)) ≡ true = ap is_some (put_same h3.regs (n + 3) _) in
    let sum : is_some (h4.regs (n + 3)) && (is_some (h4.regs val) && is_some (h4.regs (n + 1))) ≡ true =
    both_true (is_some (h4.regs (n + 3))) (is_some (h4.regs val) && is_some (h4.regs (n + 1))) old (both_true (is_some (h4.regs val)) (is_some (h4.regs (n + 1))) value factor) in
    let loads : fits (reg_kind (h3.regs (n + 2))) (buf_len (g.bufs p.result)) ≡ true = ap₂ (λ (o : Option RegKind) (d : Dim). fits (reg_kind o) d) at3 len ∙ fits_same (result_length p) in
    let stores : fits (reg_kind (h4.regs (n + 2))) (buf_len (g.bufs p.result)) ≡ true = ap₂ (λ (o : Option RegKind) (d : Dim). fits (reg_kind o) d) at4 len ∙ fits_same (result_length p) in (
      s.fresh.none n (omega arith),
      s.operand,
      column_fine g k p.inner col number cols,
      (
        f1.none (n + 1) (omega arith),
        s.operand,
        ap is_some at1,
        ap (λ (o : Option RegKind). fits (reg_kind o) (dim.Len p.operand)) at1 ∙ fits_same (dim.Len p.operand),
        (
          f2.none (n + 2) (omega arith),
          refl,
          place,
          (f3.none (n + 3) (omega arith), there, ap is_some at3, loads, (refl, there, ap is_some at4, sum, stores, ap (fits_cell kind.Word) (ap buf_cell s.result), tt)),
          tt,
          tt,
        ),
      ),
      tt,
      tt,
    )

products_typed : (g : Context) (p : Product) (row col : TermTree) (val n : ℕ) → Sees g p n → fine g row ≡ true → fine g col ≡ true → is_some (g.regs val) ≡ true → val < n → Typed g (add_products p row col val n)
products_typed g p row col val n s rows cols held lv = by (is_vector p)
  where
    h : Context
    h = with_reg g n false (kind.Below (dim.Number p.columns))

    later : Sees g p (n + 1)
    later = record { fresh = record { none = λ r le. s.fresh.none r (omega (arith, le)) }; operand = s.operand; result = s.result }

    inner : Sees h p (n + 1)
    inner = record { fresh = fresh_more g n n false (kind.Below (dim.Number p.columns)) (n + 1) (omega arith) (omega arith) s.fresh; operand = s.operand; result = s.result }

    fine_in : (e : TermTree) → fine g e ≡ true → fine h e ≡ true
    fine_in e f = fine_more g n n false (kind.Below (dim.Number p.columns)) e s.fresh (omega arith) f

    by : (b : Bool) → Typed g (cond b (add_product p None row col val (n + 1)) (For n (dim.Number p.columns) (add_product p (Some n) row col val (n + 1)) End))
    by true = product_typed g p None row col val (n + 1) later tt rows cols held (omega (arith, lv))
    by false = (
      s.fresh.none n (omega arith),
      refl,
      product_typed h p (Some n) row col val (n + 1) inner (ap is_some (put_same g.regs n _)) (fine_in row rows) (fine_in col cols) (ap is_some (put_other g.regs n _ val (omega (arith, lv))) ∙ held) (omega (arith, lv)),
      tt,
    )

-- ---- parts

outer_part : (g : Context) (p : Product) (x : PartWalk) (n : ℕ) → outer g (add_part p x n) ≡ g
outer_part g p x n = outer_nest g x.places.loops.items (Number 0) n _ (outer_leaf g x.places.values _ (leaf_at x.places n) _)

end_later : (x : PartWalk) (n : ℕ) → n ≤ end_of_part x n
end_later x n = omega (arith, end_after (loop_levels x.places.loops.items) n)

part_typed : (g : Context) (p : Product) (x : PartWalk) (n : ℕ) → Sees g p n → SeesPart g x → Typed g (add_part p x n)
part_typed g p x n r s =
    let t : TypedWalk g x.places x.steps.items n = walk_is_typed g x.places x.steps.items n r.fresh s.places (s.names n) in
    let h = in_walk g x.places x.steps.items n in
    let e = end x.places x.steps.items n in
    t.typed (add_products p (index_term x.places x.steps.items n x.row) (index_term x.places x.steps.items n x.col) (value_register x.places n) e)
    (products_typed h p (index_term x.places x.steps.items n x.row) (index_term x.places x.steps.items n x.col) (value_register x.places n) e
    (record { fresh = t.fresh; operand = ap (λ (k : ℕ). nat_lt p.operand k) t.sources ∙ r.operand; result = ap (λ (f : ℕ → Option BufKind). f p.result) t.bufs ∙ r.result })
    (t.index_fine x.row) (t.index_fine x.col) (ap is_some t.value_is) (omega arith))

parts_typed : (g : Context) (p : Product) (xs : List PartWalk) (n : ℕ) → Sees g p n → SeesParts g xs → Typed g (add_parts p xs n)
parts_typed g p [] n r s = tt
parts_typed g p (x ∷ xs) n r s =
    typed_append g (add_part p x n) (add_parts p xs (end_of_part x n)) (part_typed g p x n r s.0)
    (subst (λ (h : Context). Typed h (add_parts p xs (end_of_part x n))) (sym (outer_part g p x n))
    (parts_typed g p xs (end_of_part x n) record { fresh = record { none = λ r2 le. r.fresh.none r2 (omega (arith, le, end_later x n)) }; operand = r.operand; result = r.result } s.1))

pub product_is_typed : ProductIsTyped
product_is_typed g p xs n f operand new s =
    let h = with_buf g (made_result p) in (
      (new, refl, refl, refl, tt),
      parts_typed h p xs n record { fresh = record { none = λ r le. f.none r (omega arith) }; operand = operand; result = put_same g.bufs p.result _ } (parts_as g h refl refl xs s),
      tt,
      tt,
    )
