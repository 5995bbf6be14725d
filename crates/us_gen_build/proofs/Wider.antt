-- Terms where more is visible.
use Rattle.std.proofs.Common.{◌≡◌, ◌≢◌, ℕ, suc, ◌+◌, Bool, true, false, ◌&&◌, refl, sym, ap, ap₂, ◌∙◌, subst, arith, Option, Some, None}
use Rattle.us_code.specs.declared.program.Dim.{Dim}
use Rattle.us_code.specs.declared.program.Dim.TheVariants as dim
use Rattle.us_code.specs.declared.program.CellKind.{CellKind}
use Rattle.us_code.specs.Plain.{TermTree, Number, Reg, Size, Flat, Next, Up, Add, Sub, Mul, Div, Rem}
use Rattle.us_code.specs.Typing.{Context, Form, RegKind, with_reg, fine, kind_of, is_some, sees_dim, reg_kind, is_flat, is_next}
use Rattle.us_code_laws.specs.Wider.{Wider}
use Rattle.us_code_laws.proofs.Sequence.{put_other}
use Rattle.us_code_laws.proofs.Sound.{and_left, and_right, both_true}

-- what is there stays
there : {A : Type 0} (o p : Option A) → ((k : A) → o ≡ Some k → p ≡ Some k) → is_some o ≡ true → p ≡ o
there None p h s = absurd cc
there (Some k) p h s = h k refl

flat_there : (o : Option Form) (p c : CellKind) → is_flat o p c ≡ true → is_some o ≡ true
flat_there None p c h = absurd cc
flat_there (Some f) p c h = refl

next_there : (o : Option Form) (x : CellKind) → is_next o x ≡ true → is_some o ≡ true
next_there None x h = absurd cc
next_there (Some f) x h = refl

module _ (g h : Context) (w : Wider g h) where
  kind_wider : (e : TermTree) → fine g e ≡ true → kind_of h e ≡ kind_of g e
  kind_wider (Number n) t = refl
  kind_wider (Reg x) t = ap reg_kind (there (g.regs x) (h.regs x) (w.regs x) t)
  kind_wider (Size d) t = refl
  kind_wider (Flat d p c) t = refl
  kind_wider (Next d x) t = refl
  kind_wider (Up d x) t = refl
  kind_wider (Add a b) t = refl
  kind_wider (Sub a b) t = refl
  kind_wider (Mul a b) t = refl
  kind_wider (Div a n) t = refl
  kind_wider (Rem a n) t = refl

  pub dim_wider : (d : Dim) → sees_dim g d ≡ true → sees_dim h d ≡ true
  dim_wider (dim.Number n) t = refl
  dim_wider (dim.Name d) t = ap is_some (there (g.dims d) (h.dims d) (w.dims d) t) ∙ t
  dim_wider (dim.Len k) t = w.sources k t

  pub fine_wider : (e : TermTree) → fine g e ≡ true → fine h e ≡ true
  fine_wider (Number n) t = refl
  fine_wider (Reg x) t = ap is_some (there (g.regs x) (h.regs x) (w.regs x) t) ∙ t
  fine_wider (Size d) t = dim_wider d t
  fine_wider (Flat d p c) t =
      let both = and_left (fine g p && fine g c) _ t in
      let tp = and_left (fine g p) (fine g c) both in
      let tc = and_right (fine g p) (fine g c) both in
      let f = and_right (fine g p && fine g c) _ t in
      both_true _ _ (both_true _ _ (fine_wider p tp) (fine_wider c tc)) (ap (λ (o : Option Form). is_flat o (kind_of h p) (kind_of h c)) (there (g.dims d) (h.dims d) (w.dims d) (flat_there _ _ _ f)) ∙ (ap₂ (λ (x y : CellKind). is_flat (g.dims d) x y) (kind_wider p tp) (kind_wider c tc) ∙ f))
  fine_wider (Next d x) t =
      let f = and_right (fine g x) _ t in
      both_true _ _ (fine_wider x (and_left (fine g x) _ t)) (ap (λ (o : Option Form). is_next o (kind_of h x)) (there (g.dims d) (h.dims d) (w.dims d) (next_there _ _ f)) ∙ (ap (is_next (g.dims d)) (kind_wider x (and_left (fine g x) _ t)) ∙ f))
  fine_wider (Up d x) t =
      let f = and_right (fine g x) _ t in
      both_true _ _ (fine_wider x (and_left (fine g x) _ t)) (ap (λ (o : Option Form). is_next o (kind_of h x)) (there (g.dims d) (h.dims d) (w.dims d) (next_there _ _ f)) ∙ (ap (is_next (g.dims d)) (kind_wider x (and_left (fine g x) _ t)) ∙ f))
  fine_wider (Add a b) t = both_true _ _ (fine_wider a (and_left (fine g a) _ t)) (fine_wider b (and_right (fine g a) _ t))
  fine_wider (Sub a b) t = both_true _ _ (fine_wider a (and_left (fine g a) _ t)) (fine_wider b (and_right (fine g a) _ t))
  fine_wider (Mul a b) t = both_true _ _ (fine_wider a (and_left (fine g a) _ t)) (fine_wider b (and_right (fine g a) _ t))
  fine_wider (Div a n) t = fine_wider a t
  fine_wider (Rem a n) t = fine_wider a t

-- one more register that wasn't visible
pub reg_wider : (g : Context) (r : ℕ) (v : Bool) (k : CellKind) → g.regs r ≡ None → Wider g (with_reg g r v k)
reg_wider g r v k o = record { sources = λ x s. s; regs = λ x j s. put_other g.regs r _ x (apart x j s) ∙ s; bufs = λ x j s. s; dims = λ x j s. s }
  where
    apart : (x : ℕ) (j : RegKind) → g.regs x ≡ Some j → r ≢ x
    apart x j s e = let z : ◌≡◌ {A = Option RegKind} None (Some j) = sym o ∙ (ap g.regs e ∙ s) in absurd cc
