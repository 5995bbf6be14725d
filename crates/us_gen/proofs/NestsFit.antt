-- Nests are typed in every context with room.
use Rattle.std.proofs.Common.{◌≡◌, ◌≢◌, ℕ, ◌+◌, ◌<◌, ◌≤◌, Bool, true, false, cond, nat_lt, nat_eq, ◌&&◌, refl, sym, ap, ap₂, ◌∙◌, arith, [], ◌∷◌, Option, Some, None, ◌⊎◌, inl, inr}
use Rattle.std.proofs.lemmas.Bool.Decides.{nat_tests}
use Rattle.std.proofs.lemmas.Bool.{cases_eq}
use Rattle.us_code.specs.declared.program.Dim.{Dim}
use Rattle.us_code.specs.declared.program.Dim.TheVariants as dim
use Rattle.us_code.specs.declared.program.CellKind.{CellKind}
use Rattle.us_code.specs.declared.program.CellKind.TheVariants as kind
use Rattle.us_code.specs.Plain.{TermTree, Reg, Add, Mul, Code, End, Let, Span}
use Rattle.us_code.specs.Typing.{Context, RegKind, is_some, reg_kind, with_reg, fits, kind_of, sees_dim, spans, fine, Typed}
use Rattle.us_code_laws.specs.Wider.{Wider, Spares}
use Rattle.us_code_laws.proofs.Sequence.{put_same, put_other}
use Rattle.us_code_laws.proofs.Sound.{both_true}
use Rattle.us_code_laws.proofs.Typings.{typed_wider}
use Rattle.us_gen.specs.Nest.{is_origin, under}
use Rattle.us_gen.specs.declared.nests.Level.{Level}
use Rattle.us_gen.specs.declared.nests.Level.TheVariants.{Full, Nodes, Crd, Cell, Packed}
use Rattle.us_gen.specs.Levels.{size_term, in_pack, level, names, position, nest}
use Rattle.us_gen.specs.Rooms.{FreshFrom, in_level, LevelTyped, NestsTyped}

pub fresh_more : (g : Context) (n r : ℕ) (v : Bool) (k : CellKind) (m : ℕ) → r < m → n ≤ m → FreshFrom g n → FreshFrom (with_reg g r v k) m
fresh_more g n r v k m lt le f = record { none = λ x h. put_other g.regs r _ x (omega arith) ∙ f.none x (omega arith) }

-- a term stays fine where one more register is visible
pub fine_more : (g : Context) (n r : ℕ) (v : Bool) (k : CellKind) (e : TermTree) → FreshFrom g n → n ≤ r → fine g e ≡ true → fine (with_reg g r v k) e ≡ true
fine_more g n r v k e f le h = (typed_wider g (with_reg g r v k) (Let (r + 1) e End) wider spares (f.none (r + 1) (omega arith), h, tt)).1
  where
    here : (x : ℕ) (o : RegKind) → (r ≡ x) ⊎ (r ≢ x) → g.regs x ≡ Some o → (with_reg g r v k).regs x ≡ Some o
    here x o (inl e) s = let z : ◌≡◌ {A = Option RegKind} None (Some o) = sym (ap g.regs (sym e) ∙ f.none r le) ∙ s in absurd cc
    here x o (inr e) s = put_other g.regs r _ x e ∙ s

    wider : Wider g (with_reg g r v k)
    wider = record { sources = λ k s. s; regs = λ x o s. here x o (cases_eq r x) s; bufs = λ b o s. s; dims = λ d o s. s }

    spares : Spares g (with_reg g r v k) (Let (r + 1) e End)
    spares x t s = let y : r + 1 ≡ x = grind (arith, nat_tests) in put_other g.regs r _ x (omega (arith, y)) ∙ s

size_fine : (g : Context) (d : Dim) → sees_dim g d ≡ true → fine g (size_term d) ≡ true
size_fine g (dim.Number n) h = refl
size_fine g (dim.Name d) h = h
size_fine g (dim.Len k) h = h

sees_more : (g : Context) (r : ℕ) (v : Bool) (k : CellKind) (d : Dim) → sees_dim g d ≡ true → sees_dim (with_reg g r v k) d ≡ true
sees_more g r v k (dim.Number n) h = refl
sees_more g r v k (dim.Name d) h = h
sees_more g r v k (dim.Len x) h = h

same_nat : (k : ℕ) → nat_eq k k ≡ true
same_nat k = grind (arith, nat_tests)

-- a register that was just made
made_fine : (g : Context) (r : ℕ) (v : Bool) (k : CellKind) → fine (with_reg g r v k) (Reg r) ≡ true
made_fine g r v k = ap is_some (put_same g.regs r _)

made_fits : (g : Context) (r : ℕ) (v : Bool) (k : ℕ) → fits (kind_of (with_reg g r v (kind.Below (dim.Len k))) (Reg r)) (dim.Len k) ≡ true
made_fits g r v k = ap (λ (o : Option RegKind). fits (reg_kind o) (dim.Len k)) (put_same g.regs r _) ∙ same_nat k

cell_typed : (g : Context) (at : TermTree) (k n : ℕ) (inner : Code) → FreshFrom g n → fine g at ≡ true → nat_lt k g.sources ≡ true → Typed (in_level g (Cell k) n) inner → Typed g (level (Cell k) at n inner)
cell_typed g at k n inner f h hk t =
    let g0 = with_reg g n false (kind.Below (dim.Len k)) in
    (f.none n (omega arith), hk, h, (put_other g.regs n _ (n + 1) (omega arith) ∙ f.none (n + 1) (omega arith), hk, made_fine g n false _, made_fits g n false k, t), tt, tt)

nodes_typed : (g : Context) (q : TermTree) (k : ℕ) (more nodes : Dim) (n : ℕ) (inner : Code) → FreshFrom g n → fine g q ≡ true → LevelTyped g (Nodes k more nodes) q → Typed (in_level g (Nodes k more nodes) n) inner → Typed g (level (Nodes k more nodes) q n inner)
nodes_typed g q k more nodes n inner f h l t =
    let g0 = with_reg g n false (kind.Below (dim.Len k)) in
    let g1 = with_reg g0 (n + 1) false kind.Word in
    let g2 = with_reg g1 (n + 2) false (kind.Below (dim.Len k)) in
    let g3 = with_reg g2 (n + 3) false kind.Word in
    let g4 = with_reg g3 (n + 4) false (kind.Below more) in
    let g5 = with_reg g4 (n + 5) false (kind.Below more) in
    let f0 = fresh_more g n n false (kind.Below (dim.Len k)) (n + 1) (omega arith) (omega arith) f in
    let f1 = fresh_more g0 (n + 1) (n + 1) false kind.Word (n + 2) (omega arith) (omega arith) f0 in
    let f2 = fresh_more g1 (n + 2) (n + 2) false (kind.Below (dim.Len k)) (n + 3) (omega arith) (omega arith) f1 in
    let f3 = fresh_more g2 (n + 3) (n + 3) false kind.Word (n + 4) (omega arith) (omega arith) f2 in
    let f4 = fresh_more g3 (n + 4) (n + 4) false (kind.Below more) (n + 5) (omega arith) (omega arith) f3 in
    let f5 = fresh_more g4 (n + 5) (n + 5) false (kind.Below more) (n + 6) (omega arith) (omega arith) f4 in
    let h1 : fine g1 q ≡ true = fine_more g0 (n + 1) (n + 1) false kind.Word q f0 (omega arith) (fine_more g n n false (kind.Below (dim.Len k)) q f (omega arith) h) in
    let s3 = sees_more g2 (n + 3) false kind.Word more (sees_more g1 (n + 2) false (kind.Below (dim.Len k)) more (sees_more g0 (n + 1) false kind.Word more (sees_more g n false (kind.Below (dim.Len k)) more l.1))) in
    let r1 : g3.regs (n + 1) ≡ Some record { is_var = false; kind = kind.Word } = grind (arith, put_same, put_other) in
    let r3 : g4.regs (n + 3) ≡ Some record { is_var = false; kind = kind.Word } = grind (arith, put_same, put_other) in
    let r4 : g5.regs (n + 4) ≡ Some record { is_var = false; kind = kind.Below more } = grind (arith, put_same, put_other) in
    let r5 : g5.regs (n + 5) ≡ Some record { is_var = false; kind = kind.Below more } = put_same g4.regs (n + 5) _ in
    let spanned : spans g5 (reg_kind (g5.regs (n + 4))) (reg_kind (g5.regs (n + 5))) nodes ≡ true = ap₂ (λ (a b : Option RegKind). spans g5 (reg_kind a) (reg_kind b) nodes) r4 r5 ∙ spans_more l.3 in
    let loop : Typed g5 (Span (n + 6) (Reg (n + 4)) (Reg (n + 5)) nodes inner End) = (f5.none (n + 6) (omega arith), sees_nodes l.2, ap is_some r4, ap is_some r5, spanned, t, tt) in (
      f.none n (omega arith),
      l.0,
      h,
      (
        f0.none (n + 1) (omega arith),
        l.0,
        made_fine g n false _,
        made_fits g n false k,
        (
          f1.none (n + 2) (omega arith),
          l.0,
          both_true (fine g1 q) true h1 refl,
          (
            f2.none (n + 3) (omega arith),
            l.0,
            made_fine g1 (n + 2) false _,
            made_fits g1 (n + 2) false k,
            (f3.none (n + 4) (omega arith), s3, ap is_some r1, (f4.none (n + 5) (omega arith), sees_more g3 (n + 4) false (kind.Below more) more s3, ap is_some r3, loop, tt, tt), tt, tt),
          ),
          tt,
          tt,
        ),
      ),
      tt,
      tt,
    )
  where
    g5 : Context
    g5 = with_reg (with_reg (with_reg (with_reg (with_reg (with_reg g n false (kind.Below (dim.Len k))) (n + 1) false kind.Word) (n + 2) false (kind.Below (dim.Len k))) (n + 3) false kind.Word) (n + 4) false (kind.Below more)) (n + 5) false (kind.Below more)

    sees_nodes : sees_dim g nodes ≡ true → sees_dim g5 nodes ≡ true
    sees_nodes h = same nodes h
      where
        same : (d : Dim) → sees_dim g d ≡ true → sees_dim g5 d ≡ true
        same (dim.Number n) h = refl
        same (dim.Name d) h = h
        same (dim.Len x) h = h

    spans_more : spans g (kind.Below more) (kind.Below more) nodes ≡ true → spans g5 (kind.Below more) (kind.Below more) nodes ≡ true
    spans_more h = same more nodes h
      where
        same : (d e : Dim) → spans g (kind.Below d) (kind.Below d) e ≡ true → spans g5 (kind.Below d) (kind.Below d) e ≡ true
        same (dim.Number n) (dim.Number m) h = h
        same (dim.Number n) (dim.Name m) h = h
        same (dim.Number n) (dim.Len m) h = h
        same (dim.Name d) e h = h
        same (dim.Len x) e h = h

level_typed : (g : Context) (l : Level) (q : TermTree) (n : ℕ) (inner : Code) → FreshFrom g n → fine g q ≡ true → LevelTyped g l q → Typed (in_level g l n) inner → Typed g (level l q n inner)
level_typed g (Full size) q n inner f h l t = (f.none n (omega arith), l, t, tt)
level_typed g (Nodes k more nodes) q n inner f h l t = nodes_typed g q k more nodes n inner f h l t
level_typed g (Crd k) q n inner f h l t = (f.none n (omega arith), l.0, h, l.1, t)
level_typed g (Cell k) q n inner f h l t = cell_typed g q k n inner f h l t
level_typed g (Packed k w digit) q n inner f h l t = cell_typed g (in_pack q w digit) k n inner f (both_true (fine g q && true) true (both_true (fine g q) true h refl) refl) l t

level_fresh : (g : Context) (l : Level) (n : ℕ) → FreshFrom g n → FreshFrom (in_level g l n) (n + names l)
level_fresh g (Full size) n f = fresh_more g n n false (kind.Below size) (n + 1) (omega arith) (omega arith) f
level_fresh g (Nodes k more nodes) n f = record { none = λ x h. grind (arith, put_same, put_other, f.none x) }
level_fresh g (Crd k) n f = fresh_more g n n false kind.Word (n + 1) (omega arith) (omega arith) f
level_fresh g (Cell k) n f = record { none = λ x h. grind (arith, put_same, put_other, f.none x) }
level_fresh g (Packed k w digit) n f = record { none = λ x h. grind (arith, put_same, put_other, f.none x) }

under_fine : (g : Context) (q : TermTree) (size : Dim) (n : ℕ) → FreshFrom g n → fine g q ≡ true → sees_dim g size ≡ true → fine (in_level g (Full size) n) (under q (size_term size) n) ≡ true
under_fine g q size n f h s = case (is_origin q)
  where
    g1 : Context
    g1 = with_reg g n false (kind.Below size)

    case : (b : Bool) → fine g1 (cond b (Reg n) (Add (Mul q (size_term size)) (Reg n))) ≡ true
    case true = made_fine g n false (kind.Below size)
    case false = both_true (fine g1 q && fine g1 (size_term size)) (fine g1 (Reg n)) (both_true (fine g1 q) (fine g1 (size_term size)) (fine_more g n n false (kind.Below size) q f (omega arith) h) (size_fine g1 size (sees_more g n false (kind.Below size) size s))) (made_fine g n false (kind.Below size))

two_fine : (g : Context) (q : TermTree) (k n : ℕ) → FreshFrom g n → fine g q ≡ true → fine (in_level g (Cell k) n) q ≡ true
two_fine g q k n f h = fine_more (with_reg g n false (kind.Below (dim.Len k))) (n + 1) (n + 1) false kind.Word q (fresh_more g n n false (kind.Below (dim.Len k)) (n + 1) (omega arith) (omega arith) f) (omega arith) (fine_more g n n false (kind.Below (dim.Len k)) q f (omega arith) h)

level_fine : (g : Context) (l : Level) (q : TermTree) (n : ℕ) → FreshFrom g n → fine g q ≡ true → LevelTyped g l q → fine (in_level g l n) (position l q n) ≡ true
level_fine g (Full size) q n f h l = under_fine g q size n f h l
level_fine g (Nodes k more nodes) q n f h l = ap is_some (put_same _ (n + 6) _)
level_fine g (Crd k) q n f h l = fine_more g n n false kind.Word q f (omega arith) h
level_fine g (Cell k) q n f h l = two_fine g q k n f h
level_fine g (Packed k w digit) q n f h l = two_fine g q k n f h

pub nests_typed : NestsTyped
nests_typed g [] q n inner f h a t = t
nests_typed g (l ∷ ls) q n inner f h a t =
    level_typed g l q n (nest ls (position l q n) (n + names l) inner) f h a.0
    (nests_typed (in_level g l n) ls (position l q n) (n + names l) inner (level_fresh g l n f) (level_fine g l q n f h a.0) a.1 t)
