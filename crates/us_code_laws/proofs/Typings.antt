-- Typed code stays typed behind typed code, and where more is visible.
use Rattle.std.proofs.Common.{◌≡◌, ℕ, Bool, true, false, not, ◌&&◌, ◌||◌, eqb, nat_eq, refl, sym, ap, ap₂, ◌∙◌, subst, cond, arith, List, [], ◌∷◌, Option, Some, None}
use Rattle.std.proofs.lemmas.Bool.Decides.{nat_tests}
use Rattle.us_code.specs.declared.program.Dim.{Dim}
use Rattle.us_code.specs.declared.program.Dim.TheVariants as dim
use Rattle.us_code.specs.declared.program.Buf.{Buf}
use Rattle.us_code.specs.declared.program.Buf.TheVariants as buf
use Rattle.us_code.specs.declared.program.CellKind.{CellKind}
use Rattle.us_code.specs.declared.program.CellKind.TheVariants as kind
use Rattle.us_code.specs.Plain.{TermTree, Number, Reg, Size, Flat, Next, Up, Add, Sub, Mul, Div, Rem, Code, End, Let, Load, Var, Put, Set, For, Span, If, When, Order}
use Rattle.us_code.specs.Run.{put}
use Rattle.us_code.specs.Typing.{Form, RegKind, Context, is_some, with_reg, fits, fits_cell, reg_kind, is_put, kind_of, sees_dim, buf_len, buf_cell, sees_buf, sees_bufs, len_of, cell_of, is_flat, is_next, spans, ends_form, is_below, are_keys, same_dim, same_buf, fine, Typed}
use Rattle.us_code_laws.specs.Wider.{introduces, Wider, Spares}
use Rattle.us_code_laws.specs.Laws.{TypedInSequence, TypedWhereMoreIsVisible}
use Rattle.us_code_laws.proofs.Sound.{and_left, and_right, both_true}
use Rattle.us_code_laws.proofs.Unbounds.{flat_some, next_some}

pub typed_append : TypedInSequence
typed_append g End b h k = k
typed_append g (Let r e rest) b h k = (h.0, h.1, typed_append (with_reg g r false (kind_of g e)) rest b h.2 k)
typed_append g (Load r x at rest) b h k = (h.0, h.1, h.2, h.3, typed_append (with_reg g r false (cell_of g x)) rest b h.4 k)
typed_append g (Var r e rest) b h k = (h.0, h.1, typed_append (with_reg g r true kind.Word) rest b h.2 k)
typed_append g (Put r e rest) b h k = (h.0, h.1, typed_append g rest b h.2 k)
typed_append g (Set x at e rest) b h k = (h.0, h.1, h.2, h.3, h.4, h.5, typed_append g rest b h.6 k)
typed_append g (For r d body rest) b h k = (h.0, h.1, h.2, typed_append g rest b h.3 k)
typed_append g (Span r x y d body rest) b h k = (h.0, h.1, h.2, h.3, h.4, h.5, typed_append g rest b h.6 k)
typed_append g (If l eq r body given other rest) b h k = (h.0, h.1, h.2, h.3, typed_append g rest b h.4 k)
typed_append g (When e d r body given other rest) b h k = (h.0, h.1, h.2, h.3, h.4, typed_append g rest b h.5 k)
typed_append g (Order x keys rest) b h k = (h.0, h.1, h.2, h.3, h.4, typed_append g rest b h.5 k)

-- what is visible in the narrower context is the same in the wider one
same_at : {A : Type 0} (o p : Option A) → ((x : A) → o ≡ Some x → p ≡ Some x) → is_some o ≡ true → p ≡ o
same_at None p w h = absurd cc
same_at (Some x) p w h = w x refl

put_some : (o : Option RegKind) → is_put o ≡ true → is_some o ≡ true
put_some None h = absurd cc
put_some (Some x) h = refl

module _ (g h : Context) (w : Wider g h) where
  regs_at : (r : ℕ) → is_some (g.regs r) ≡ true → h.regs r ≡ g.regs r
  regs_at r s = same_at (g.regs r) (h.regs r) (w.regs r) s

  bufs_at : (b : ℕ) → is_some (g.bufs b) ≡ true → h.bufs b ≡ g.bufs b
  bufs_at b s = same_at (g.bufs b) (h.bufs b) (w.bufs b) s

  dims_at : (d : ℕ) → is_some (g.dims d) ≡ true → h.dims d ≡ g.dims d
  dims_at d s = same_at (g.dims d) (h.dims d) (w.dims d) s

  dim_seen : (d : Dim) → sees_dim g d ≡ true → sees_dim h d ≡ true
  dim_seen (dim.Number n) s = refl
  dim_seen (dim.Name d) s = ap is_some (dims_at d s) ∙ s
  dim_seen (dim.Len k) s = w.sources k s

  buf_seen : (b : Buf) → sees_buf g b ≡ true → sees_buf h b ≡ true
  buf_seen (buf.New b) s = ap is_some (bufs_at b s) ∙ s
  buf_seen (buf.Source k) s = w.sources k s

  bufs_seen : (bs : List Buf) → sees_bufs g bs ≡ true → sees_bufs h bs ≡ true
  bufs_seen [] s = refl
  bufs_seen (b ∷ bs) s = both_true (sees_buf h b) (sees_bufs h bs) (buf_seen b (and_left (sees_buf g b) (sees_bufs g bs) s)) (bufs_seen bs (and_right (sees_buf g b) (sees_bufs g bs) s))

  len_same : (b : Buf) → sees_buf g b ≡ true → len_of h b ≡ len_of g b
  len_same (buf.New b) s = ap buf_len (bufs_at b s)
  len_same (buf.Source k) s = refl

  cell_same : (b : Buf) → sees_buf g b ≡ true → cell_of h b ≡ cell_of g b
  cell_same (buf.New b) s = ap buf_cell (bufs_at b s)
  cell_same (buf.Source k) s = refl

  kind_same : (e : TermTree) → fine g e ≡ true → kind_of h e ≡ kind_of g e
  kind_same (Number n) s = refl
  kind_same (Reg r) s = ap reg_kind (regs_at r s)
  kind_same (Size d) s = refl
  kind_same (Flat d p c) s = refl
  kind_same (Next d x) s = refl
  kind_same (Up d x) s = refl
  kind_same (Add a b) s = refl
  kind_same (Sub a b) s = refl
  kind_same (Mul a b) s = refl
  kind_same (Div a k) s = refl
  kind_same (Rem a k) s = refl

  flat_same : (d : ℕ) (p c : TermTree) → fine g p ≡ true → fine g c ≡ true → is_flat (g.dims d) (kind_of g p) (kind_of g c) ≡ true → is_flat (h.dims d) (kind_of h p) (kind_of h c) ≡ true
  flat_same d p c sp sc s =
      ap (λ (o : Option Form). is_flat o (kind_of h p) (kind_of h c)) (dims_at d (flat_some (g.dims d) (kind_of g p) (kind_of g c) s))
      ∙ (ap₂ (λ (j k : CellKind). is_flat (g.dims d) j k) (kind_same p sp) (kind_same c sc) ∙ s)

  next_same : (d : ℕ) (x : TermTree) → fine g x ≡ true → is_next (g.dims d) (kind_of g x) ≡ true → is_next (h.dims d) (kind_of h x) ≡ true
  next_same d x sx s =
      ap (λ (o : Option Form). is_next o (kind_of h x)) (dims_at d (next_some (g.dims d) (kind_of g x) s))
      ∙ (ap (λ (k : CellKind). is_next (g.dims d) k) (kind_same x sx) ∙ s)

  fine_same : (e : TermTree) → fine g e ≡ true → fine h e ≡ true
  fine_same (Number n) s = refl
  fine_same (Reg r) s = ap is_some (regs_at r s) ∙ s
  fine_same (Size d) s = dim_seen d s
  fine_same (Flat d p c) s =
      let pc = and_left (fine g p && fine g c) (is_flat (g.dims d) (kind_of g p) (kind_of g c)) s in
      let sp = and_left (fine g p) (fine g c) pc in
      let sc = and_right (fine g p) (fine g c) pc in
      both_true (fine h p && fine h c) _ (both_true (fine h p) (fine h c) (fine_same p sp) (fine_same c sc)) (flat_same d p c sp sc (and_right (fine g p && fine g c) _ s))
  fine_same (Next d x) s = let sx = and_left (fine g x) _ s in both_true (fine h x) _ (fine_same x sx) (next_same d x sx (and_right (fine g x) _ s))
  fine_same (Up d x) s = let sx = and_left (fine g x) _ s in both_true (fine h x) _ (fine_same x sx) (next_same d x sx (and_right (fine g x) _ s))
  fine_same (Add a b) s = both_true (fine h a) (fine h b) (fine_same a (and_left (fine g a) (fine g b) s)) (fine_same b (and_right (fine g a) (fine g b) s))
  fine_same (Sub a b) s = both_true (fine h a) (fine h b) (fine_same a (and_left (fine g a) (fine g b) s)) (fine_same b (and_right (fine g a) (fine g b) s))
  fine_same (Mul a b) s = both_true (fine h a) (fine h b) (fine_same a (and_left (fine g a) (fine g b) s)) (fine_same b (and_right (fine g a) (fine g b) s))
  fine_same (Div a k) s = fine_same a s
  fine_same (Rem a k) s = fine_same a s

  fits_same : (e : TermTree) (b : Buf) → fine g e ≡ true → sees_buf g b ≡ true → fits (kind_of g e) (len_of g b) ≡ true → fits (kind_of h e) (len_of h b) ≡ true
  fits_same e b se sb s = ap₂ fits (kind_same e se) (len_same b sb) ∙ s

  fits_cell_same : (e : TermTree) (b : Buf) → fine g e ≡ true → sees_buf g b ≡ true → fits_cell (kind_of g e) (cell_of g b) ≡ true → fits_cell (kind_of h e) (cell_of h b) ≡ true
  fits_cell_same e b se sb s = ap₂ fits_cell (kind_same e se) (cell_same b sb) ∙ s

  form_some : (o : Option Form) (d : Dim) → ends_form o d ≡ true → is_some o ≡ true
  form_some None d s = absurd cc
  form_some (Some f) d s = refl

  -- the ends of a span keep their dim
  span_same : (j k : CellKind) (d : Dim) → spans g j k d ≡ true → spans h j k d ≡ true
  span_same kind.Word k d s = absurd cc
  span_same (kind.Below (dim.Number a)) kind.Word d s = absurd cc
  span_same (kind.Below (dim.Number a)) (kind.Below (dim.Number b)) (dim.Number n) s = s
  span_same (kind.Below (dim.Number a)) (kind.Below (dim.Number b)) (dim.Name n) s = absurd cc
  span_same (kind.Below (dim.Number a)) (kind.Below (dim.Number b)) (dim.Len n) s = absurd cc
  span_same (kind.Below (dim.Number a)) (kind.Below (dim.Name b)) d s = absurd cc
  span_same (kind.Below (dim.Number a)) (kind.Below (dim.Len b)) d s = absurd cc
  span_same (kind.Below (dim.Name a)) kind.Word d s = absurd cc
  span_same (kind.Below (dim.Name a)) (kind.Below (dim.Number b)) d s = absurd cc
  span_same (kind.Below (dim.Name a)) (kind.Below (dim.Name b)) d s =
      let form = and_right (nat_eq a b) (ends_form (g.dims a) d) s in
      both_true (nat_eq a b) _ (and_left (nat_eq a b) (ends_form (g.dims a) d) s) (ap (λ (o : Option Form). ends_form o d) (dims_at a (form_some (g.dims a) d form)) ∙ form)
  span_same (kind.Below (dim.Name a)) (kind.Below (dim.Len b)) d s = absurd cc
  span_same (kind.Below (dim.Len a)) k d s = absurd cc

  keys_same : (b : Buf) (ks : List Buf) → sees_buf g b ≡ true → sees_bufs g ks ≡ true → are_keys g b ks ≡ true → are_keys h b ks ≡ true
  keys_same b [] sb ss s = refl
  keys_same b (k ∷ ks) sb ss s =
      let first = and_left (same_dim (len_of g k) (len_of g b) && not (same_buf k b)) (are_keys g b ks) s in
      let seen = and_left (sees_buf g k) (sees_bufs g ks) ss in
      let lens = ap₂ same_dim (len_same k seen) (len_same b sb) ∙ and_left (same_dim (len_of g k) (len_of g b)) (not (same_buf k b)) first in
      both_true (same_dim (len_of h k) (len_of h b) && not (same_buf k b)) (are_keys h b ks) (both_true (same_dim (len_of h k) (len_of h b)) (not (same_buf k b)) lens (and_right (same_dim (len_of g k) (len_of g b)) (not (same_buf k b)) first)) (keys_same b ks sb (and_right (sees_buf g k) (sees_bufs g ks) ss) (and_right (same_dim (len_of g k) (len_of g b) && not (same_buf k b)) (are_keys g b ks) s))

-- one more register on both sides
at_both : (g h : Context) (r : ℕ) (k : RegKind) (x : ℕ) (y : RegKind) → (g.regs x ≡ Some y → h.regs x ≡ Some y) → (b : Bool) → cond b (Some k) (g.regs x) ≡ Some y → cond b (Some k) (h.regs x) ≡ Some y
at_both g h r k x y w true e = e
at_both g h r k x y w false e = w e

wider_reg : (g h : Context) (r : ℕ) (v : Bool) (k : CellKind) → Wider g h → Wider (with_reg g r v k) (with_reg h r v k)
unfolding put
wider_reg g h r v k w = record {
  sources = w.sources;
  regs = λ x y e. at_both g h r record { is_var = v; kind = k } x y (w.regs x y) (eqb r x) e;
  bufs = w.bufs;
  dims = w.dims;
}

or_first : (a b : Bool) → a || b ≡ false → a ≡ false
or_first true b e = absurd cc
or_first false b e = refl

or_second : (a b : Bool) → a || b ≡ false → b ≡ false
or_second true b e = absurd cc
or_second false b e = e

or_true : (a b : Bool) → b ≡ true → a || b ≡ true
or_true true b e = refl
or_true false b e = e

or_one : (a b : Bool) → a ≡ true → a || b ≡ true
or_one true b e = refl
or_one false b e = absurd cc

same_number : (r : ℕ) → nat_eq r r ≡ true
same_number r = grind (arith, nat_tests)

spare_at : (g h : Context) (r : ℕ) (k : RegKind) (x : ℕ) → (g.regs x ≡ None → h.regs x ≡ None) → (b : Bool) → cond b (Some k) (g.regs x) ≡ None → cond b (Some k) (h.regs x) ≡ None
spare_at g h r k x w true e = absurd cc
spare_at g h r k x w false e = w e

spares_reg : (g h : Context) (r : ℕ) (v : Bool) (k : CellKind) (c : Code) → Spares g h c → Spares (with_reg g r v k) (with_reg h r v k) c
unfolding put
spares_reg g h r v k c s x i e = spare_at g h r record { is_var = v; kind = k } x (s x i) (eqb r x) e

-- the rest behind a statement that introduces r, and behind one with a block
spares_rest : (g h : Context) (r : ℕ) (v : Bool) (k : CellKind) (rest : Code) → ((x : ℕ) → nat_eq r x || introduces x rest ≡ true → g.regs x ≡ None → h.regs x ≡ None) → Spares (with_reg g r v k) (with_reg h r v k) rest
spares_rest g h r v k rest s = spares_reg g h r v k rest (λ x i. s x (or_true (nat_eq r x) (introduces x rest) i))

typed_new : (g h : Context) (r : ℕ) (v : Bool) (j k : CellKind) (rest : Code) → j ≡ k → Typed (with_reg h r v k) rest → Typed (with_reg h r v j) rest
typed_new g h r v j k rest e t = subst (λ (c : CellKind). Typed (with_reg h r v c) rest) (sym e) t

pub typed_wider : TypedWhereMoreIsVisible
typed_wider g h End w s t = tt
typed_wider g h (Let r e rest) w s t =
    let k = kind_of g e in
    (s r (or_one (nat_eq r r) (introduces r rest) (same_number r)) t.0, fine_same g h w e t.1, typed_new g h r false (kind_of h e) k rest (kind_same g h w e t.1) (typed_wider (with_reg g r false k) (with_reg h r false k) rest (wider_reg g h r false k w) (spares_rest g h r false k rest s) t.2))
typed_wider g h (Load r b at rest) w s t =
    let k = cell_of g b in
    (s r (or_one (nat_eq r r) (introduces r rest) (same_number r)) t.0, buf_seen g h w b t.1, fine_same g h w at t.2, fits_same g h w at b t.2 t.1 t.3, typed_new g h r false (cell_of h b) k rest (cell_same g h w b t.1) (typed_wider (with_reg g r false k) (with_reg h r false k) rest (wider_reg g h r false k w) (spares_rest g h r false k rest s) t.4))
typed_wider g h (Var r e rest) w s t =
    (s r (or_one (nat_eq r r) (introduces r rest) (same_number r)) t.0, fine_same g h w e t.1, typed_wider (with_reg g r true kind.Word) (with_reg h r true kind.Word) rest (wider_reg g h r true kind.Word w) (spares_rest g h r true kind.Word rest s) t.2)
typed_wider g h (Put r e rest) w s t =
    (ap is_put (regs_at g h w r (put_some (g.regs r) t.0)) ∙ t.0, fine_same g h w e t.1, typed_wider g h rest w s t.2)
typed_wider g h (Set b at e rest) w s t =
    (t.0, buf_seen g h w b t.1, fine_same g h w at t.2, fine_same g h w e t.3, fits_same g h w at b t.2 t.1 t.4, fits_cell_same g h w e b t.3 t.1 t.5, typed_wider g h rest w s t.6)
typed_wider g h (For r d body rest) w s t =
    let more = λ (x : ℕ) (i : introduces x body || introduces x rest ≡ true). s x (or_true (nat_eq r x) (introduces x body || introduces x rest) i) in
    (s r (or_one (nat_eq r r) (introduces r body || introduces r rest) (same_number r)) t.0, dim_seen g h w d t.1, typed_wider (with_reg g r false (kind.Below d)) (with_reg h r false (kind.Below d)) body (wider_reg g h r false (kind.Below d) w) (spares_reg g h r false (kind.Below d) body (λ x i. more x (or_one (introduces x body) (introduces x rest) i))) t.2, typed_wider g h rest w (λ x i. more x (or_true (introduces x body) (introduces x rest) i)) t.3)
typed_wider g h (Span r a b d body rest) w s t =
    let more = λ (x : ℕ) (i : introduces x body || introduces x rest ≡ true). s x (or_true (nat_eq r x) (introduces x body || introduces x rest) i) in
    let ends = ap₂ (λ (j k : CellKind). spans h j k d) (kind_same g h w a t.2) (kind_same g h w b t.3) ∙ span_same g h w (kind_of g a) (kind_of g b) d t.4 in
    (s r (or_one (nat_eq r r) (introduces r body || introduces r rest) (same_number r)) t.0, dim_seen g h w d t.1, fine_same g h w a t.2, fine_same g h w b t.3, ends, typed_wider (with_reg g r false (kind.Below d)) (with_reg h r false (kind.Below d)) body (wider_reg g h r false (kind.Below d) w) (spares_reg g h r false (kind.Below d) body (λ x i. more x (or_one (introduces x body) (introduces x rest) i))) t.5, typed_wider g h rest w (λ x i. more x (or_true (introduces x body) (introduces x rest) i)) t.6)
typed_wider g h (If l eq r body given other rest) w s t =
    let later = λ (x : ℕ) (i : introduces x other || introduces x rest ≡ true). s x (or_true (introduces x body) (introduces x other || introduces x rest) i) in
    (fine_same g h w l t.0, fine_same g h w r t.1, typed_wider g h body w (λ x i. s x (or_one (introduces x body) (introduces x other || introduces x rest) i)) t.2, typed_wider g h other w (λ x i. later x (or_one (introduces x other) (introduces x rest) i)) t.3, typed_wider g h rest w (λ x i. later x (or_true (introduces x other) (introduces x rest) i)) t.4)
typed_wider g h (When e d r body given other rest) w s t =
    let more = λ (x : ℕ) (i : introduces x body || (introduces x other || introduces x rest) ≡ true). s x (or_true (nat_eq r x) (introduces x body || (introduces x other || introduces x rest)) i) in
    let later = λ (x : ℕ) (i : introduces x other || introduces x rest ≡ true). more x (or_true (introduces x body) (introduces x other || introduces x rest) i) in
    (s r (or_one (nat_eq r r) (introduces r body || (introduces r other || introduces r rest)) (same_number r)) t.0, dim_seen g h w d t.1, fine_same g h w e t.2, typed_wider (with_reg g r false (kind.Below d)) (with_reg h r false (kind.Below d)) body (wider_reg g h r false (kind.Below d) w) (spares_reg g h r false (kind.Below d) body (λ x i. more x (or_one (introduces x body) (introduces x other || introduces x rest) i))) t.3, typed_wider g h other w (λ x i. later x (or_one (introduces x other) (introduces x rest) i)) t.4, typed_wider g h rest w (λ x i. later x (or_true (introduces x other) (introduces x rest) i)) t.5)
typed_wider g h (Order b keys rest) w s t =
    (t.0, buf_seen g h w b t.1, bufs_seen g h w keys t.2, ap₂ is_below (cell_same g h w b t.1) (len_same g h w b t.1) ∙ t.3, keys_same g h w b keys t.1 t.2 t.4, typed_wider g h rest w s t.5)
