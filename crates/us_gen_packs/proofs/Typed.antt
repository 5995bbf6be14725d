-- The block with packs keeps the rules.
use Rattle.std.proofs.Common.{◌≡◌, ℕ, ◌+◌, ◌^◌, ◌<◌, ◌≤◌, Bool, true, false, cond, nat_lt, nat_le, refl, sym, ap, ap₂, ◌∙◌, subst, arith, List, [], ◌∷◌, length, Option, Some, None}
use Rattle.std.proofs.lemmas.Bool.Decides.{nat_tests}
use Rattle.us_code.specs.declared.program.Dim.{Dim}
use Rattle.us_code.specs.declared.program.Dim.TheVariants as dim
use Rattle.us_code.specs.declared.program.CellKind.{CellKind}
use Rattle.us_code.specs.declared.program.CellKind.TheVariants as kind
use Rattle.us_code.specs.Plain.{TermTree, Number, Reg, Flat, Code, End, ◌+++◌}
use Rattle.us_code.specs.Typing.{Context, Form, RegKind, Product, Typed, with_reg, fits, fine, kind_of, is_flat, is_some, reg_kind, sees_dim, outer}
use Rattle.us_code_laws.specs.Wider.{Wider}
use Rattle.us_code_laws.proofs.Sound.{both_true}
use Rattle.us_code_laws.proofs.Typings.{typed_append}
use Rattle.us_gen_build.specs.declared.levels.Role.{Role}
use Rattle.us_gen_build.specs.declared.levels.Role.TheVariants.{Full, Shared, Single, AtPosition, AtRank, Counted, Marked, Kept}
use Rattle.us_gen_build.specs.Levels.{LevelTree, mark, one_more, block_of, below_of, levels}
use Rattle.us_gen_build.specs.Loops.{entry_of, levels_from}
use Rattle.us_gen_build.specs.Blocks.{closes}
use Rattle.us_gen_build.specs.Kinds.{below_dim, words_of, opened, open_kinds, turn_kinds, in_turn}
use Rattle.us_gen_build.proofs.LoopRun.{entry_low}
use Rattle.us_gen_build.proofs.Wider.{dim_wider, fine_wider, reg_wider}
use Rattle.us_gen_build.proofs.LevelsTyped.{fits_itself, store_typed, made_fits, made_fine, below_fine, AllKinds}
use Rattle.us_gen_build.proofs.BlockTyped.{fresh_up, rise_up, open_high, opens_typed, load_high, turn_other, turn_typed, closes_typed, low, opened_wider, opened_fresh, turn_wider, turns_wider, at_turn, inside_kinds, inside_typed}
use Rattle.us_gen_packs.specs.Packs.{PackTree, width, cells_from, write, packs, last_of, packed_loop}
use Rattle.us_gen_packs.specs.Kinds.{AllFine, PacksFit, PackNamesRise, PackedBlocksTyped}

-- ---- behind the levels

outer_mark : (g : Context) (top : Bool) (l : LevelTree) (q t : TermTree) (rest : Code) → outer g (mark top l q t rest) ≡ outer g rest
outer_mark g true l q t rest = refl
outer_mark g false l q t rest = refl

outer_block : (r : Role) (g : Context) (l : LevelTree) (q : TermTree) (x : ℕ) (rest : Code) → outer g (block_of r l q x rest) ≡ outer g rest
outer_block Full g l q x rest = refl
outer_block Shared g l q x rest = refl
outer_block Single g l q x rest = outer_mark g l.is_top l q (one_more x) _
outer_block AtPosition g l q x rest = refl
outer_block AtRank g l q x rest = refl
outer_block Counted g l q x rest = refl
outer_block Marked g l q x rest = outer_mark g l.is_top l q (one_more x) rest
outer_block Kept g l q x rest = refl

-- the levels make no register that is visible behind them
outer_levels : (g : Context) (ls : List LevelTree) (q : TermTree) (x : ℕ) → outer g (levels ls q x) ≡ g
outer_levels g [] q x = refl
outer_levels g (l ∷ ls) q x = outer_block l.role g l q x _ ∙ outer_levels g ls (below_of l.role l q x) x

last_fine : (g : Context) (ls : List LevelTree) (q : TermTree) (x : ℕ) → AllKinds g ls x → fine g (Reg x) ≡ true → fine g q ≡ true → fine g (last_of ls q x) ≡ true
last_fine g [] q x k hx hq = hq
last_fine g (l ∷ ls) q x k hx hq = last_fine g ls (below_of l.role l q x) x k.3 hx (below_fine l.role g l q x k.0 hx k.1 k.2 hq)

-- ---- cells

lt_true : (a b : ℕ) → a < b → nat_lt a b ≡ true
lt_true a b h = grind (arith, nat_tests)

le_true : (a b : ℕ) → a ≤ b → nat_le a b ≡ true
le_true a b h = grind (arith, nat_tests)

small_number : (g : Context) (y : ℕ) → y < 2 ^ 32 → kind_of g (Number y) ≡ kind.Below (dim.Number (y + 1))
small_number g y h = ap (λ (b : Bool). cond b (kind.Below (dim.Number (y + 1))) kind.Word) (lt_true (y + 1) (2 ^ 63) (omega (arith, h)))

in_width : (y w : ℕ) → y < w → fits (kind.Below (dim.Number (y + 1))) (dim.Number w) ≡ true
in_width y w h = le_true (y + 1) w (omega (arith, h))

flat_fine : (g : Context) (d : ℕ) (p : TermTree) (y w : ℕ) (len : Dim) → g.dims d ≡ Some (Product len (dim.Number w)) → fine g p ≡ true → fits (kind_of g p) len ≡ true → y < w → w < 2 ^ 32 → fine g (Flat d p (Number y)) ≡ true
flat_fine g d p y w len product hp hf lt few =
    both_true _ _ (both_true _ _ hp refl)
    (ap₂ (λ (o : Option Form) (k : CellKind). is_flat o (kind_of g p) k) product (small_number g y (omega (arith, lt, few))) ∙ both_true _ _ hf (in_width y w lt))

cells_typed : (g : Context) (b d : ℕ) (p : TermTree) (y : ℕ) (es : List TermTree) (rest : Code) (len : Dim) (w : ℕ) → g.bufs b ≡ words_of (dim.Name d) → g.dims d ≡ Some (Product len (dim.Number w)) → fine g p ≡ true → fits (kind_of g p) len ≡ true
    → y + length es ≡ w → w < 2 ^ 32 → AllFine g es → Typed g rest → Typed g (cells_from b d p y es rest)
cells_typed g b d p y [] rest len w buffer product hp hf all few es t = t
cells_typed g b d p y (e ∷ es) rest len w buffer product hp hf all few he t =
    store_typed g b (dim.Name d) (Flat d p (Number y)) e (cells_from b d p (y + 1) es rest) buffer (flat_fine g d p y w len product hp hf (omega (arith, all)) few) he.0 (fits_itself (dim.Name d))
    (cells_typed g b d p (y + 1) es rest len w buffer product hp hf (omega (arith, all)) few he.1 t)

-- ---- packs

record PackKinds (g : Context) (w : PackTree) (x : ℕ) : Type 0 where
  index : g.regs w.first ≡ None
  sees : sees_dim g w.length ≡ true
  buffer : g.bufs w.first ≡ words_of (dim.Name w.cells)
  product : g.dims w.cells ≡ Some (Product w.length (dim.Number (width w)))
  few : width w < 2 ^ 32
  turn : w.at_rank ≡ true → fits (kind_of g (Reg x)) w.length ≡ true
  columns : AllFine g w.columns

all_fine_wider : (g h : Context) → Wider g h → (es : List TermTree) → AllFine g es → AllFine h es
all_fine_wider g h v [] f = tt
all_fine_wider g h v (e ∷ es) f = (fine_wider g h v e f.0, all_fine_wider g h v es f.1)

write_typed : (r : Bool) (g : Context) (w : PackTree) (q : TermTree) (x : ℕ) (rest : Code) → w.at_rank ≡ r → PackKinds g w x → fine g (Reg x) ≡ true → fine g q ≡ true → Typed g rest → Typed g (write r w q x rest)
write_typed true g w q x rest e k hx hq t = cells_typed g w.first w.cells (Reg x) 0 w.columns rest w.length (width w) k.buffer k.product hx (k.turn e) (omega arith) k.few k.columns t
write_typed false g w q x rest e k hx hq t =
    let g1 = with_reg g w.first false (kind.Below w.length) in (
      k.index,
      k.sees,
      hq,
      cells_typed g1 w.first w.cells (Reg w.first) 0 w.columns End w.length (width w) k.buffer k.product (made_fine g w.first w.length) (made_fits g w.first w.length) (omega arith) k.few
          (all_fine_wider g g1 (reg_wider g w.first false (kind.Below w.length) k.index) w.columns k.columns) tt,
      tt,
      t,
    )

abbrev AllPackKinds : Context → List PackTree → ℕ → Type 0
AllPackKinds g [] x = Unit {0}
AllPackKinds g (w ∷ ws) x = PackKinds g w x × AllPackKinds g ws x

packs_typed : (g : Context) (ws : List PackTree) (q : TermTree) (x : ℕ) → AllPackKinds g ws x → fine g (Reg x) ≡ true → fine g q ≡ true → Typed g (packs ws q x)
packs_typed g [] q x k hx hq = tt
packs_typed g (w ∷ ws) q x k hx hq = write_typed w.at_rank g w q x (packs ws q x) refl k.0 hx hq (packs_typed g ws q x k.1 hx hq)

pack_rise_up : (ws : List PackTree) (lo n : ℕ) → PackNamesRise lo ws n → lo ≤ n
pack_rise_up [] lo n h = h
pack_rise_up (w ∷ ws) lo n h = omega (arith, h.0, pack_rise_up ws (w.first + 1) n h.1)

pack_kinds : (ws : List PackTree) (lo n : ℕ) (g g2 h : Context) (d : Dim) (a : ℕ) → ((x : ℕ) → lo ≤ x → h.regs x ≡ None) → PackNamesRise lo ws n → Wider g h → Wider g2 h → h.regs a ≡ below_dim d → PacksFit g g2 d ws → AllPackKinds h ws a
pack_kinds [] lo n g g2 h d a none rise w w2 at c = tt
pack_kinds (p ∷ ws) lo n g g2 h d a none rise w w2 at c = (
  record {
    index = none p.first rise.0;
    sees = dim_wider g h w p.length c.0.sees;
    buffer = w.bufs p.first _ c.0.buffer;
    product = w.dims p.cells _ c.0.product;
    few = c.0.few;
    turn = λ e. ap (λ (o : Option RegKind). fits (reg_kind o) p.length) at ∙ c.0.turn e;
    columns = all_fine_wider g2 h w2 p.columns c.0.columns;
  },
  pack_kinds ws (p.first + 1) n g g2 h d a (λ x le. none x (omega (arith, le, rise.0))) rise.1 w w2 at c.1,
)

-- ---- the whole block

pub packed_blocks_typed : PackedBlocksTyped
packed_blocks_typed g d order cols ls ws a m n f sees o c rise more fit packed =
    let lo = levels_from order cols a in
    let h = opened g ls in
    let inner = in_turn h d order cols a in
    let last = last_of ls (Number 0) a in
    let at = at_turn g d order cols ls a m f rise in
    let turn : fine inner (Reg a) ≡ true = ap is_some at in
    let body : Typed inner (levels ls (Number 0) a +++ packs ws last a) =
    typed_append inner (levels ls (Number 0) a) (packs ws last a) (inside_typed g d order cols ls a m f rise fit)
    (subst (λ (z : Context). Typed z (packs ws last a)) (sym (outer_levels inner ls (Number 0) a))
    (packs_typed inner ws last a
    (pack_kinds ws m n g (in_turn g d order cols a) inner d a free more (turn_wider g d order cols ls a m f rise) (turns_wider g d order cols ls a m f rise) at packed)
    turn
    (last_fine inner ls (Number 0) a (inside_kinds g d order cols ls a m f rise fit) turn refl))) in
    opens_typed ls lo m g (packed_loop d order cols ls ws a +++ closes ls n) (fresh_up g a lo (omega (arith, entry_low order a)) f) rise (
      low g d order cols ls a m f rise a (omega (arith, entry_low order a)) ∙ f.none a (omega arith),
      dim_wider g h (opened_wider g d order cols ls a m f rise) d sees,
      turn_typed order h d cols a (levels ls (Number 0) a +++ packs ws last a) (λ x p q. low g d order cols ls a m f rise x q ∙ f.none x p) o c body,
      closes_typed ls n g (in_turn g d order cols a) h d (opened_wider g d order cols ls a m f rise) (fresh_up h m n (pack_rise_up ws m n more) (opened_fresh g d order cols ls a m f rise)) fit,
    )
  where
    free : (x : ℕ) → m ≤ x → (in_turn (opened g ls) d order cols a).regs x ≡ None
    free x le =
        let up = rise_up ls (levels_from order cols a) m rise in
        load_high g.bufs cols (entry_of order a + 1) (turn_kinds order d a (open_kinds ls g.regs)) x (omega (arith, le, up))
        ∙ (turn_other order d a x (open_kinds ls g.regs) (λ h. omega (arith, le, up)) ∙ (open_high ls (levels_from order cols a) m x g.regs rise le ∙ f.none x (omega (arith, le, up, entry_low order a))))
