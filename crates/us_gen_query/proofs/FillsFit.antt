-- The loop that fills a column is typed.
use Rattle.std.proofs.Common.{◌≡◌, ◌≢◌, ℕ, zero, suc, ◌+◌, ◌<◌, Bool, true, false, cond, refl, sym, ap, ap₂, ◌∙◌, subst, arith, length, Option, Some, None, ◌⊎◌, inl, inr}
use Rattle.std.proofs.lemmas.Bool.{cases_eq, or_left, or_right}
use Rattle.std.proofs.lemmas.Bool.Decides.{nat_tests}
use Rattle.us_code.specs.declared.program.Dim.{Dim}
use Rattle.us_code.specs.declared.program.Dim.TheVariants as dim
use Rattle.us_code.specs.declared.program.Buf.TheVariants as buf
use Rattle.us_code.specs.declared.program.CellKind.TheVariants as kind
use Rattle.us_code.specs.declared.pieces.Columns.{Columns}
use Rattle.us_code.specs.Plain.{Reg, Code, End, Let, Load, Var, Put, Set, For, Span, If, When, Order, ◌+++◌}
use Rattle.us_code.specs.Typing.{Context, RegKind, BufKind, is_some, reg_kind, buf_len, buf_cell, with_reg, fits, fits_cell, kind_of, cell_of, fine, Typed, outer}
use Rattle.us_code_laws.proofs.Sequence.{put_same, put_other}
use Rattle.us_code_laws.proofs.Sound.{both_true}
use Rattle.us_code_laws.proofs.Typings.{typed_append}
use Rattle.us_gen.specs.Rooms.{FreshFrom}
use Rattle.us_gen.proofs.NestsFit.{fresh_more}
use Rattle.us_expr.specs.Tree.{Tree, RowIndex, ColIndex, Number, Variable, Sum, Difference, Quotient, Remainder}
use Rattle.us_gen_query.specs.Terms.{reads, term_of}
use Rattle.us_gen_query.specs.Filling.{column, width, loads, words, FillTyped}
use Rattle.us_gen_query.proofs.TermValues.{reads_within}

-- what is visible behind two blocks is what is visible behind the second
pub outer_append : (g : Context) (a b : Code) → outer g (a +++ b) ≡ outer (outer g a) b
outer_append g End b = refl
outer_append g (Let r e rest) b = outer_append (with_reg g r false (kind_of g e)) rest b
outer_append g (Load r x at rest) b = outer_append (with_reg g r false (cell_of g x)) rest b
outer_append g (Var r e rest) b = outer_append (with_reg g r true kind.Word) rest b
outer_append g (Put r e rest) b = outer_append g rest b
outer_append g (Set x at e rest) b = outer_append g rest b
outer_append g (For r d body rest) b = outer_append g rest b
outer_append g (Span r x y d body rest) b = outer_append g rest b
outer_append g (If l eq r body given other rest) b = outer_append g rest b
outer_append g (When e d r body given other rest) b = outer_append g rest b
outer_append g (Order x keys rest) b = outer_append g rest b

pub fits_same : (d : Dim) → fits (kind.Below d) d ≡ true
fits_same (dim.Number n) = grind (arith, nat_tests)
fits_same (dim.Name d) = grind (arith, nat_tests)
fits_same (dim.Len k) = grind (arith, nat_tests)

-- the registers that an expression reads are visible
pub term_fine : (g : Context) (e : Tree) (n : ℕ) → ((c : ℕ) → reads e c ≡ true → is_some (g.regs (n + c)) ≡ true) → fine g (term_of e n) ≡ true
term_fine g RowIndex n h = subst (λ (r : ℕ). is_some (g.regs r) ≡ true) (omega arith) (h 0 refl)
term_fine g ColIndex n h = h 1 refl
term_fine g (Number k) n h = refl
term_fine g (Variable v) n h = h (v + 2) (grind (arith, nat_tests))
term_fine g (Sum a b) n h =
    both_true (fine g (term_of a n)) (fine g (term_of b n)) (term_fine g a n (λ c r. h c (or_left (reads a c) (reads b c) r))) (term_fine g b n (λ c r. h c (or_right (reads a c) (reads b c) r)))
term_fine g (Difference a b) n h =
    both_true (fine g (term_of a n)) (fine g (term_of b n)) (term_fine g a n (λ c r. h c (or_left (reads a c) (reads b c) r))) (term_fine g b n (λ c r. h c (or_right (reads a c) (reads b c) r)))
term_fine g (Quotient a k) n h = term_fine g a n h
term_fine g (Remainder a k) n h = term_fine g a n h

-- what is visible behind the reads of the first c columns
record Loading (g h : Context) (cs : Columns) (e : Tree) (n c : ℕ) : Type 0 where
  pub bufs : h.bufs ≡ g.bufs
  pub fresh : FreshFrom h (n + 1 + c)
  pub place : h.regs n ≡ Some record { is_var = false; kind = kind.Below (dim.Name cs.count) }
  pub seen : (k : ℕ) → k < c → reads e k ≡ true → is_some (h.regs (n + 1 + k)) ≡ true

abbrev Loads : Context → Columns → Tree → ℕ → ℕ → Code → Type 0
Loads g cs e n c code = (Typed g code) × (Loading g (outer g code) cs e n c)

one_more : (g : Context) (cs : Columns) (e : Tree) (n c : ℕ) → g.bufs (column cs c) ≡ Some (words cs) → (b : Bool) → reads e c ≡ b → Loads g cs e n c (loads cs e n c) → Loads g cs e n (suc c) (cond b (loads cs e n c +++ Load (n + 1 + c) (buf.New (column cs c)) (Reg n) End) (loads cs e n c))
one_more g cs e n c col true is w =
    let a = loads cs e n c in
    let h = outer g a in
    let r = n + 1 + c in
    let b = column cs c in
    let l = Load r (buf.New b) (Reg n) End in
    let x : Loading g h cs e n c = w.1 in
    let here : h.bufs b ≡ Some (words cs) = ap (λ (f : ℕ → Option BufKind). f b) x.bufs ∙ col in
    let free : h.regs r ≡ None = x.fresh.none r (omega arith) in
    let len : buf_len (h.bufs b) ≡ dim.Name cs.count = ap buf_len here in
    let placed : fits (reg_kind (h.regs n)) (buf_len (h.bufs b)) ≡ true = ap₂ (λ (o : Option RegKind) (d : Dim). fits (reg_kind o) d) x.place len ∙ fits_same (dim.Name cs.count) in
    let k = buf_cell (h.bufs b) in
    let m = with_reg h r false k in
    let after : outer g (a +++ l) ≡ m = outer_append g a l in
    let loading : Loading g m cs e n (suc c) = record {
      bufs = x.bufs;
      fresh = subst (λ (y : ℕ). FreshFrom m y) (omega arith) (fresh_more h (n + 1 + c) r false k (r + 1) (omega arith) (omega arith) x.fresh);
      place = put_other h.regs r _ n (omega arith) ∙ x.place;
      seen = λ y lt t. later y lt t (cases_eq y c) x;
    } in
    (typed_append g a l w.0 (free, ap is_some here, ap is_some x.place, placed, tt), subst (λ (y : Context). Loading g y cs e n (suc c)) (sym after) loading)
  where
    later : (y : ℕ) → y < suc c → reads e y ≡ true → (y ≡ c) ⊎ (y ≢ c) → Loading g (outer g (loads cs e n c)) cs e n c → is_some ((with_reg (outer g (loads cs e n c)) (n + 1 + c) false (buf_cell ((outer g (loads cs e n c)).bufs (column cs c)))).regs (n + 1 + y)) ≡ true
    later y lt t (inl q) x = subst (λ (z : ℕ). is_some ((with_reg (outer g (loads cs e n c)) (n + 1 + c) false (buf_cell ((outer g (loads cs e n c)).bufs (column cs c)))).regs (n + 1 + z)) ≡ true) (sym q) (ap is_some (put_same (outer g (loads cs e n c)).regs (n + 1 + c) _))
    later y lt t (inr q) x = ap is_some (put_other (outer g (loads cs e n c)).regs (n + 1 + c) _ (n + 1 + y) (omega (arith, q))) ∙ x.seen y (omega (arith, lt, q)) t
one_more g cs e n c col false is w =
    let x : Loading g (outer g (loads cs e n c)) cs e n c = w.1 in (
      w.0,
      record {
        bufs = x.bufs;
        fresh = record { none = λ y le. x.fresh.none y (omega (arith, le)) };
        place = x.place;
        seen = λ y lt t. x.seen y (below y lt t (cases_eq y c)) t;
      },
    )
  where
    clash : {P : Type 0} (y : ℕ) → y ≡ c → reads e y ≡ true → P
    clash y q t = let z : ◌≡◌ {A = Bool} true false = sym t ∙ (ap (reads e) q ∙ is) in absurd cc

    below : (y : ℕ) → y < suc c → reads e y ≡ true → (y ≡ c) ⊎ (y ≢ c) → y < c
    below y lt t (inl q) = clash y q t
    below y lt t (inr q) = omega (arith, lt, q)

loads_typed : (g : Context) (cs : Columns) (e : Tree) (n c : ℕ) → FreshFrom g (n + 1) → g.regs n ≡ Some record { is_var = false; kind = kind.Below (dim.Name cs.count) } → ((k : ℕ) → k < c → g.bufs (column cs k) ≡ Some (words cs)) → Loads g cs e n c (loads cs e n c)
loads_typed g cs e n zero f at cols = (tt, record { bufs = refl; fresh = subst (λ (y : ℕ). FreshFrom g y) (omega arith) f; place = at; seen = λ k lt t. absurd (omega (arith, lt)) })
loads_typed g cs e n (suc c) f at cols = one_more g cs e n c (cols c (omega arith)) (reads e c) refl (loads_typed g cs e n c f at (λ k lt. cols k (omega (arith, lt))))

pub fill_typed : FillTyped
fill_typed g cs e b n f v into within =
    let g1 = with_reg g n false (kind.Below (dim.Name cs.count)) in
    let fresh : FreshFrom g1 (n + 1) = fresh_more g n n false (kind.Below (dim.Name cs.count)) (n + 1) (omega arith) (omega arith) f in
    let w = loads_typed g1 cs e n (width cs) fresh (put_same g.regs n _) v.columns in
    let h = outer g1 (loads cs e n (width cs)) in
    let x : Loading g1 h cs e n (width cs) = w.1 in
    let here : h.bufs b ≡ Some (words cs) = ap (λ (f : ℕ → Option BufKind). f b) x.bufs ∙ into in
    let placed : fits (reg_kind (h.regs n)) (buf_len (h.bufs b)) ≡ true = ap₂ (λ (o : Option RegKind) (d : Dim). fits (reg_kind o) d) x.place (ap buf_len here) ∙ fits_same (dim.Name cs.count) in
    let stored : fits_cell (kind_of h (term_of e (n + 1))) (buf_cell (h.bufs b)) ≡ true = ap (fits_cell (kind_of h (term_of e (n + 1)))) (ap buf_cell here) in
    let term : fine h (term_of e (n + 1)) ≡ true = term_fine h e (n + 1) (λ c t. x.seen c (reads_within (length cs.vars.items) e c within t) t) in
    (f.none n (omega arith), v.count, typed_append g1 (loads cs e n (width cs)) (Set (buf.New b) (Reg n) (term_of e (n + 1)) End) w.0 (refl, ap is_some here, ap is_some x.place, term, placed, stored, tt), tt)
