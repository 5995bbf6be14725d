-- The levels keep the rules where their names have these kinds.
use Rattle.std.proofs.Common.{◌≡◌, ◌≢◌, ℕ, suc, ◌+◌, ◌<◌, ◌≤◌, Bool, true, false, cond, refl, sym, ap, ap₂, ◌∙◌, subst, arith, nat_lt, nat_le, nat_eq, List, [], ◌∷◌, Option, Some, None}
use Rattle.std.proofs.lemmas.Bool.Decides.{nat_tests}
use Rattle.us_code.specs.declared.program.Dim.{Dim}
use Rattle.us_code.specs.declared.program.Dim.TheVariants as dim
use Rattle.us_code.specs.declared.program.CellKind.{CellKind}
use Rattle.us_code.specs.declared.program.CellKind.TheVariants as kind
use Rattle.us_code.specs.declared.program.Buf.TheVariants as buf
use Rattle.us_code.specs.Plain.{TermTree, Number, Reg, Add, Mul, Code, End, Set}
use Rattle.us_code.specs.Typing.{Context, RegKind, BufKind, Typed, with_reg, fits, fits_cell, fine, kind_of, is_some, is_put, sees_dim, reg_kind, buf_len, buf_cell}
use Rattle.us_code_laws.proofs.Sequence.{put_same, put_other}
use Rattle.us_code_laws.proofs.Sound.{both_true}
use Rattle.us_gen.specs.Nest.{is_origin}
use Rattle.us_gen_build.specs.declared.levels.Role.{Role}
use Rattle.us_gen_build.specs.declared.levels.Role.TheVariants.{Full, Shared, Single, AtPosition, AtRank, Counted, Marked, Kept}
use Rattle.us_gen_build.specs.Levels.{LevelTree, under, mark, cell_at, new_node, if_new, block_of, below_of, levels}
use Rattle.us_gen_build.specs.Kinds.{word, words_of}
use Rattle.us_gen_build.proofs.Wider.{fine_wider, reg_wider}

pub fits_itself : (d : Dim) → fits (kind.Below d) d ≡ true
fits_itself (dim.Number n) = grind (arith, nat_tests)
fits_itself (dim.Name d) = grind (arith, nat_tests)
fits_itself (dim.Len k) = grind (arith, nat_tests)

pub under_fine : (g : Context) (q size c : TermTree) → fine g q ≡ true → fine g size ≡ true → fine g c ≡ true → fine g (under q size c) ≡ true
under_fine g q size c hq hs hc = case (is_origin q)
  where
    case : (b : Bool) → fine g (cond b c (Add (Mul q size) c)) ≡ true
    case true = hc
    case false = both_true _ _ (both_true _ _ hq hs) hc

pub record MarkKinds (g : Context) (l : LevelTree) : Type 0 where
  pub index : g.regs (l.first + 2) ≡ None
  pub sees : sees_dim g l.pos_length ≡ true
  pub buffer : g.bufs l.first ≡ words_of l.pos_length

pub record CellKinds (g : Context) (l : LevelTree) : Type 0 where
  pub index : g.regs (l.first + 3) ≡ None
  pub sees : sees_dim g l.crd_length ≡ true
  pub buffer : g.bufs (l.first + 1) ≡ words_of l.crd_length

pub record CounterKinds (g : Context) (l : LevelTree) : Type 0 where
  pub last : g.regs l.first ≡ word
  pub node : g.regs (l.first + 1) ≡ word

pub record RankKinds (g : Context) (l : LevelTree) (x : ℕ) : Type 0 where
  pub within : fits (kind_of g (Reg x)) l.crd_length ≡ true
  pub buffer : g.bufs (l.first + 1) ≡ words_of l.crd_length

-- the kinds of a level's names
abbrev pub LevelKinds : Context → Role → LevelTree → ℕ → Type 0
LevelKinds g Full l x = Unit {0}
LevelKinds g Shared l x = CounterKinds g l × MarkKinds g l × CellKinds g l
LevelKinds g Single l x = MarkKinds g l × RankKinds g l x
LevelKinds g AtPosition l x = CellKinds g l
LevelKinds g AtRank l x = RankKinds g l x
LevelKinds g Counted l x = CounterKinds g l
LevelKinds g Marked l x = MarkKinds g l
LevelKinds g Kept l x = Unit {0}

-- a store of a word into a buffer of words, where the place fits
pub store_typed : (g : Context) (b : ℕ) (d : Dim) (at : TermTree) (e : TermTree) (rest : Code) → g.bufs b ≡ words_of d → fine g at ≡ true → fine g e ≡ true → fits (kind_of g at) d ≡ true → Typed g rest → Typed g (Set (buf.New b) at e rest)
store_typed g b d at e rest is ha he hf t =
    (refl, ap is_some is, ha, he, ap (λ (o : Option BufKind). fits (kind_of g at) (buf_len o)) is ∙ hf, ap (λ (o : Option BufKind). fits_cell (kind_of g e) (buf_cell o)) is, t)

pub made_fits : (g : Context) (r : ℕ) (d : Dim) → fits (kind_of (with_reg g r false (kind.Below d)) (Reg r)) d ≡ true
made_fits g r d = ap (λ (o : Option RegKind). fits (reg_kind o) d) (put_same g.regs r _) ∙ fits_itself d

pub made_fine : (g : Context) (r : ℕ) (d : Dim) → fine (with_reg g r false (kind.Below d)) (Reg r) ≡ true
made_fine g r d = ap is_some (put_same g.regs r _)

mark_typed : (g : Context) (top : Bool) (l : LevelTree) (q t : TermTree) (rest : Code) → MarkKinds g l → fine g q ≡ true → fine g t ≡ true → Typed g rest → Typed g (mark top l q t rest)
mark_typed g true l q t rest m hq ht r = r
mark_typed g false l q t rest m hq ht r =
    let g1 = with_reg g (l.first + 2) false (kind.Below l.pos_length) in
    let ft : fine g1 t ≡ true = fine_wider g g1 (reg_wider g (l.first + 2) false (kind.Below l.pos_length) m.index) t ht in
    (m.index, m.sees, both_true _ _ hq refl, store_typed g1 l.first l.pos_length (Reg (l.first + 2)) t End m.buffer (made_fine g (l.first + 2) l.pos_length) ft (made_fits g (l.first + 2) l.pos_length) tt, tt, r)

cell_typed : (g : Context) (l : LevelTree) (p : TermTree) (rest : Code) → CellKinds g l → fine g l.coord ≡ true → fine g p ≡ true → Typed g rest → Typed g (cell_at l p rest)
cell_typed g l p rest k hc hp r =
    let g1 = with_reg g (l.first + 3) false (kind.Below l.crd_length) in
    let fc : fine g1 l.coord ≡ true = fine_wider g g1 (reg_wider g (l.first + 3) false (kind.Below l.crd_length) k.index) l.coord hc in
    (k.index, k.sees, hp, store_typed g1 (l.first + 1) l.crd_length (Reg (l.first + 3)) l.coord End k.buffer (made_fine g (l.first + 3) l.crd_length) fc (made_fits g (l.first + 3) l.crd_length) tt, tt, r)

rank_typed : (g : Context) (l : LevelTree) (x : ℕ) (rest : Code) → RankKinds g l x → fine g (Reg x) ≡ true → fine g l.coord ≡ true → Typed g rest → Typed g (block_of AtRank l (Number 0) x rest)
rank_typed g l x rest k hx hc r = store_typed g (l.first + 1) l.crd_length (Reg x) l.coord rest k.buffer hx hc k.within r

nodes_typed : (g : Context) (l : LevelTree) (q : TermTree) (made rest : Code) → CounterKinds g l → fine g l.size ≡ true → fine g l.coord ≡ true → fine g q ≡ true → Typed g made → Typed g rest → Typed g (if_new l q (new_node l q made) rest)
nodes_typed g l q made rest k hs hc hq m r =
    let fk = under_fine g q l.size l.coord hq hs hc in
    let fn : fine g (Reg (l.first + 1)) ≡ true = ap is_some k.node in
    (fk, ap is_some k.last, tt, (ap is_put k.last, fk, (ap is_put k.node, both_true _ _ fn refl, m)), r)

block_typed : (r : Role) (g : Context) (l : LevelTree) (q : TermTree) (x : ℕ) (rest : Code) → LevelKinds g r l x → fine g (Reg x) ≡ true → fine g l.size ≡ true → fine g l.coord ≡ true → fine g q ≡ true → Typed g rest → Typed g (block_of r l q x rest)
block_typed Full g l q x rest k hx hs hc hq t = t
block_typed Shared g l q x rest k hx hs hc hq t =
    let fn : fine g (Reg (l.first + 1)) ≡ true = ap is_some k.0.node in
    nodes_typed g l q _ rest k.0 hs hc hq (mark_typed g l.is_top l q (Add (Reg (l.first + 1)) (Number 1)) _ k.1 hq (both_true _ _ fn refl) (cell_typed g l (Reg (l.first + 1)) End k.2 hc fn tt)) t
block_typed Single g l q x rest k hx hs hc hq t = mark_typed g l.is_top l q (Add (Reg x) (Number 1)) _ k.0 hq (both_true _ _ hx refl) (rank_typed g l x rest k.1 hx hc t)
block_typed AtPosition g l q x rest k hx hs hc hq t = cell_typed g l q rest k hc hq t
block_typed AtRank g l q x rest k hx hs hc hq t = rank_typed g l x rest k hx hc t
block_typed Counted g l q x rest k hx hs hc hq t = nodes_typed g l q End rest k hs hc hq tt t
block_typed Marked g l q x rest k hx hs hc hq t = mark_typed g l.is_top l q (Add (Reg x) (Number 1)) rest k hq (both_true _ _ hx refl) t
block_typed Kept g l q x rest k hx hs hc hq t = t

pub below_fine : (r : Role) (g : Context) (l : LevelTree) (q : TermTree) (x : ℕ) → LevelKinds g r l x → fine g (Reg x) ≡ true → fine g l.size ≡ true → fine g l.coord ≡ true → fine g q ≡ true → fine g (below_of r l q x) ≡ true
below_fine Full g l q x k hx hs hc hq = under_fine g q l.size l.coord hq hs hc
below_fine Shared g l q x k hx hs hc hq = ap is_some k.0.node
below_fine Single g l q x k hx hs hc hq = hx
below_fine AtPosition g l q x k hx hs hc hq = hq
below_fine AtRank g l q x k hx hs hc hq = hq
below_fine Counted g l q x k hx hs hc hq = ap is_some k.node
below_fine Marked g l q x k hx hs hc hq = hx
below_fine Kept g l q x k hx hs hc hq = hq

abbrev pub AllKinds : Context → List LevelTree → ℕ → Type 0
AllKinds g [] x = Unit {0}
AllKinds g (l ∷ ls) x = LevelKinds g l.role l x × (fine g l.size ≡ true) × (fine g l.coord ≡ true) × AllKinds g ls x

pub levels_typed : (g : Context) (ls : List LevelTree) (q : TermTree) (x : ℕ) → AllKinds g ls x → fine g (Reg x) ≡ true → fine g q ≡ true → Typed g (levels ls q x)
levels_typed g [] q x k hx hq = tt
levels_typed g (l ∷ ls) q x k hx hq = block_typed l.role g l q x _ k.0 hx k.1 k.2 hq (levels_typed g ls (below_of l.role l q x) x k.3 hx (below_fine l.role g l q x k.0 hx k.1 k.2 hq))
