-- The loops that rank the rows or the columns are typed.
use Rattle.std.proofs.Common.{◌≡◌, ◌≢◌, ℕ, ◌+◌, ◌≤◌, Bool, true, false, not, ◌&&◌, nat_eq, refl, ap, ap₂, ◌∙◌, arith, [], ◌∷◌, Option, Some, None}
use Rattle.std.proofs.lemmas.Bool.Decides.{nat_tests}
use Rattle.us_code.specs.declared.program.Dim.{Dim}
use Rattle.us_code.specs.declared.program.Dim.TheVariants as dim
use Rattle.us_code.specs.declared.program.Buf.TheVariants as buf
use Rattle.us_code.specs.declared.program.CellKind.{CellKind}
use Rattle.us_code.specs.declared.program.CellKind.TheVariants as kind
use Rattle.us_code.specs.declared.pieces.Columns.{Columns}
use Rattle.us_code.specs.Plain.{Number, Reg, Sub, Code, End, Order, ◌+++◌}
use Rattle.us_code.specs.Typing.{Context, RegKind, BufKind, is_some, reg_kind, buf_len, buf_cell, with_reg, fits, fits_cell, fine, sees_dim, same_dim, is_below, Typed}
use Rattle.us_code_laws.proofs.Sequence.{put_same, put_other}
use Rattle.us_code_laws.proofs.Sound.{both_true}
use Rattle.us_code_laws.proofs.Typings.{typed_append}
use Rattle.us_gen.specs.Rooms.{FreshFrom}
use Rattle.us_gen_query.specs.Filling.{words}
use Rattle.us_gen_query.specs.Reordering.{at_index, one_less, looked_up, invert, counts, indices, ReorderTyped}
use Rattle.us_gen_query.proofs.FillsFit.{fits_same}

-- a register below a dim
abbrev pub below : Dim → RegKind
below d = record { is_var = false; kind = kind.Below d }

-- it is a place of a buffer of that length
pub fits_at : (o : Option RegKind) (b : Option BufKind) (d : Dim) (c : CellKind) → o ≡ Some (below d) → b ≡ Some record { len = d; cell = c } → fits (reg_kind o) (buf_len b) ≡ true
fits_at o b d c ho hb = ap₂ (λ (x : Option RegKind) (e : Dim). fits (reg_kind x) e) ho (ap buf_len hb) ∙ fits_same d

-- and a cell of one whose cells are below it
fits_in : (o : Option RegKind) (b : Option BufKind) (d : Dim) → o ≡ Some (below d) → b ≡ Some (indices d) → fits_cell (reg_kind o) (buf_cell b) ≡ true
fits_in o b d ho hb = ap₂ (λ (x : Option RegKind) (c : CellKind). fits_cell (reg_kind x) c) ho (ap buf_cell hb) ∙ fits_same d

same_size : (d : Dim) → same_dim d d ≡ true
same_size (dim.Number n) = grind (arith, nat_tests)
same_size (dim.Name d) = grind (arith, nat_tests)
same_size (dim.Len k) = grind (arith, nat_tests)

pub sees_more : (g : Context) (r : ℕ) (v : Bool) (k : CellKind) (d : Dim) → sees_dim g d ≡ true → sees_dim (with_reg g r v k) d ≡ true
sees_more g r v k (dim.Number n) h = refl
sees_more g r v k (dim.Name d) h = h
sees_more g r v k (dim.Len x) h = h

abbrev pub in_index : Context → Columns → ℕ → Dim → ℕ → Context
in_index g cs i size n = with_reg (with_reg (with_reg g n false (kind.Below (dim.Name cs.count))) (n + 1) false (buf_cell (g.bufs i))) (n + 2) false (kind.Below size)

pub record Indexed (h : Context) (cs : Columns) (size : Dim) (n : ℕ) : Type 0 where
  pub entry : h.regs n ≡ Some (below (dim.Name cs.count))
  pub index : h.regs (n + 2) ≡ Some (below size)
  pub free : h.regs (n + 3) ≡ None

pub indexed : (g : Context) (cs : Columns) (i : ℕ) (size : Dim) (n : ℕ) → FreshFrom g n → Indexed (in_index g cs i size n) cs size n
indexed g cs i size n f =
    let g1 = with_reg g n false (kind.Below (dim.Name cs.count)) in
    let g2 = with_reg g1 (n + 1) false (buf_cell (g.bufs i)) in
    record {
      entry = put_other g2.regs (n + 2) _ n (omega arith) ∙ (put_other g1.regs (n + 1) _ n (omega arith) ∙ put_same g.regs n _);
      index = put_same g2.regs (n + 2) _;
      free = put_other g2.regs (n + 2) _ (n + 3) (omega arith) ∙ (put_other g1.regs (n + 1) _ (n + 3) (omega arith) ∙ (put_other g.regs n _ (n + 3) (omega arith) ∙ f.none (n + 3) (omega arith)));
    }

pub at_index_typed : (g : Context) (cs : Columns) (i : ℕ) (size : Dim) (n : ℕ) (inner : Code) → FreshFrom g n → is_some (g.dims cs.count) ≡ true → sees_dim g size ≡ true → g.bufs i ≡ Some (words cs)
    → Typed (in_index g cs i size n) inner → Typed g (at_index cs i size n inner)
at_index_typed g cs i size n inner f d s hi t =
    let g1 = with_reg g n false (kind.Below (dim.Name cs.count)) in
    let g2 = with_reg g1 (n + 1) false (buf_cell (g.bufs i)) in
    let at : g1.regs n ≡ Some (below (dim.Name cs.count)) = put_same g.regs n _ in
    let free1 : g1.regs (n + 1) ≡ None = put_other g.regs n _ (n + 1) (omega arith) ∙ f.none (n + 1) (omega arith) in
    let free2 : g2.regs (n + 2) ≡ None = put_other g1.regs (n + 1) _ (n + 2) (omega arith) ∙ (put_other g.regs n _ (n + 2) (omega arith) ∙ f.none (n + 2) (omega arith)) in
    let sees : sees_dim g2 size ≡ true = sees_more g1 (n + 1) false (buf_cell (g.bufs i)) size (sees_more g n false (kind.Below (dim.Name cs.count)) size s) in
    let read : is_some (g2.regs (n + 1)) ≡ true = ap is_some (put_same g1.regs (n + 1) _) in
    (f.none n (omega arith), d, (free1, ap is_some hi, ap is_some at, fits_at (g1.regs n) (g.bufs i) (dim.Name cs.count) kind.Word at hi, (free2, sees, read, t, tt, tt)), tt)

one_less_typed : (h : Context) (cs : Columns) (size : Dim) (b n : ℕ) → Indexed h cs size n → h.bufs b ≡ Some (counts size) → Typed h (one_less b n)
one_less_typed h cs size b n x hb =
    let h1 = with_reg h (n + 3) false (buf_cell (h.bufs b)) in
    let at : h1.regs (n + 2) ≡ Some (below size) = put_other h.regs (n + 3) _ (n + 2) (omega arith) ∙ x.index in
    let less : fine h1 (Sub (Reg (n + 3)) (Number 1)) ≡ true = both_true (is_some (h1.regs (n + 3))) true (ap is_some (put_same h.regs (n + 3) _)) refl in (
      x.free,
      ap is_some hb,
      ap is_some x.index,
      fits_at (h.regs (n + 2)) (h.bufs b) size kind.Word x.index hb,
      (refl, ap is_some hb, ap is_some at, less, fits_at (h1.regs (n + 2)) (h.bufs b) size kind.Word at hb, ap (fits_cell kind.Word) (ap buf_cell hb), tt),
    )

looked_up_typed : (h : Context) (cs : Columns) (size : Dim) (q z n : ℕ) → Indexed h cs size n → h.bufs q ≡ Some (indices size) → h.bufs z ≡ Some (words cs) → Typed h (looked_up q z n)
looked_up_typed h cs size q z n x hq hz =
    let h1 = with_reg h (n + 3) false (buf_cell (h.bufs q)) in
    let at : h1.regs n ≡ Some (below (dim.Name cs.count)) = put_other h.regs (n + 3) _ n (omega arith) ∙ x.entry in (
      x.free,
      ap is_some hq,
      ap is_some x.index,
      fits_at (h.regs (n + 2)) (h.bufs q) size (kind.Below size) x.index hq,
      (
        refl,
        ap is_some hz,
        ap is_some at,
        ap is_some (put_same h.regs (n + 3) _),
        fits_at (h1.regs n) (h.bufs z) (dim.Name cs.count) kind.Word at hz,
        ap (fits_cell (reg_kind (h1.regs (n + 3)))) (ap buf_cell hz),
        tt,
      ),
    )

invert_typed : (g : Context) (size : Dim) (o q n : ℕ) → FreshFrom g n → sees_dim g size ≡ true → g.bufs o ≡ Some (indices size) → g.bufs q ≡ Some (indices size) → Typed g (invert size o q n)
invert_typed g size o q n f s ho hq =
    let g1 = with_reg g n false (kind.Below size) in
    let g2 = with_reg g1 (n + 1) false (buf_cell (g.bufs o)) in
    let at : g1.regs n ≡ Some (below size) = put_same g.regs n _ in
    let at2 : g2.regs n ≡ Some (below size) = put_other g1.regs (n + 1) _ n (omega arith) ∙ at in
    let read : g2.regs (n + 1) ≡ Some (below size) = put_same g1.regs (n + 1) _ ∙ ap (λ (c : CellKind). Some record { is_var = false; kind = c }) (ap buf_cell ho) in
    let free1 : g1.regs (n + 1) ≡ None = put_other g.regs n _ (n + 1) (omega arith) ∙ f.none (n + 1) (omega arith) in (
      f.none n (omega arith),
      s,
      (
        free1,
        ap is_some ho,
        ap is_some at,
        fits_at (g1.regs n) (g.bufs o) size (kind.Below size) at ho,
        (refl, ap is_some hq, ap is_some read, ap is_some at2, fits_at (g2.regs (n + 1)) (g.bufs q) size (kind.Below size) read hq, fits_in (g2.regs n) (g.bufs q) size at2 hq, tt),
      ),
      tt,
    )

order_typed : (g : Context) (size : Dim) (b o : ℕ) → g.bufs b ≡ Some (counts size) → g.bufs o ≡ Some (indices size) → b ≢ o → Typed g (Order (buf.New o) (buf.New b ∷ []) End)
order_typed g size b o hb ho bo =
    let long : same_dim (buf_len (g.bufs b)) (buf_len (g.bufs o)) ≡ true = ap₂ same_dim (ap buf_len hb) (ap buf_len ho) ∙ same_size size in
    let other : nat_eq b o ≡ false = grind (arith, nat_tests) in
    let key : same_dim (buf_len (g.bufs b)) (buf_len (g.bufs o)) && not (nat_eq b o) ≡ true = both_true (same_dim (buf_len (g.bufs b)) (buf_len (g.bufs o))) (not (nat_eq b o)) long (ap not other) in (
      refl,
      ap is_some ho,
      both_true (is_some (g.bufs b)) true (ap is_some hb) refl,
      ap₂ is_below (ap buf_cell ho) (ap buf_len ho) ∙ same_size size,
      both_true (same_dim (buf_len (g.bufs b)) (buf_len (g.bufs o)) && not (nat_eq b o)) true key refl,
      tt,
    )

pub later : (g : Context) (n m : ℕ) → n ≤ m → FreshFrom g n → FreshFrom g m
later g n m le f = record { none = λ x h. f.none x (omega (arith, le, h)) }

pub reorder_typed : ReorderTyped
reorder_typed g cs i size b o q z n f v s hi hb ho hq hz bo =
    let first = at_index_typed g cs i size n (one_less b n) f v.count s hi (one_less_typed (in_index g cs i size n) cs size b n (indexed g cs i size n f) hb) in
    let f4 = later g n (n + 4) (omega arith) f in
    let f6 = later g n (n + 6) (omega arith) f in
    let last = at_index_typed g cs i size (n + 6) (looked_up q z (n + 6)) f6 v.count s hi (looked_up_typed (in_index g cs i size (n + 6)) cs size q z (n + 6) (indexed g cs i size (n + 6) f6) hq hz) in
    let inverse = invert_typed g size o q (n + 4) f4 s ho hq in
    let back : Code = invert size o q (n + 4) +++ at_index cs i size (n + 6) (looked_up q z (n + 6)) in
    typed_append g (at_index cs i size n (one_less b n)) (Order (buf.New o) (buf.New b ∷ []) End +++ back) first
    (typed_append g (Order (buf.New o) (buf.New b ∷ []) End) back (order_typed g size b o hb ho bo) (typed_append g (invert size o q (n + 4)) (at_index cs i size (n + 6) (looked_up q z (n + 6))) inverse last))
