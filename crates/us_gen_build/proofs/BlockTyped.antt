-- The whole block keeps the rules.
use Rattle.std.proofs.Common.{◌≡◌, ◌≢◌, ℕ, suc, ◌+◌, ◌<◌, ◌≤◌, ◌⊎◌, inl, inr, Bool, true, false, refl, sym, ap, ap₂, ◌∙◌, subst, arith, List, [], ◌∷◌, length, Option, Some, None}
use Rattle.std.proofs.lemmas.Bool.{cases_lt}
use Rattle.us_code.specs.declared.program.Dim.{Dim}
use Rattle.us_code.specs.declared.program.Dim.TheVariants as dim
use Rattle.us_code.specs.declared.program.CellKind.{CellKind}
use Rattle.us_code.specs.declared.program.CellKind.TheVariants as kind
use Rattle.us_code.specs.Plain.{Number, Reg, Code, End, ◌+++◌}
use Rattle.us_code.specs.Run.{put}
use Rattle.us_code.specs.Typing.{Context, RegKind, BufKind, Typed, with_reg, fits, fine, is_some, is_put, reg_kind, buf_len, buf_cell, sees_dim}
use Rattle.us_code_laws.specs.Wider.{Wider}
use Rattle.us_code_laws.proofs.Sequence.{put_same, put_other}
use Rattle.us_gen.specs.Levels.{size_term}
use Rattle.us_gen.specs.Rooms.{FreshFrom}
use Rattle.us_gen.proofs.NestsFit.{fresh_more}
use Rattle.us_gen_build.specs.declared.levels.Role.{Role}
use Rattle.us_gen_build.specs.declared.levels.Role.TheVariants.{Full, Shared, Single, AtPosition, AtRank, Counted, Marked, Kept}
use Rattle.us_gen_build.specs.Levels.{LevelTree, levels, open_of, opens}
use Rattle.us_gen_build.specs.Loops.{loads, entry_of, picked, levels_from, entry_loop, fill_up}
use Rattle.us_gen_build.specs.Blocks.{close_pos, close_of, closes}
use Rattle.us_gen_build.specs.Kinds.{word, below_dim, words_of, with_regs, open_kind, open_kinds, opened, load_kinds, turn_kinds, in_turn, OrderFits, ColumnsFit, PosFits, LevelFits, AllFit, NamesRise, BlocksTyped}
use Rattle.us_gen_build.proofs.LoopRun.{entry_low, entry_high, put_alike}
use Rattle.us_gen_build.proofs.Wider.{dim_wider, fine_wider, reg_wider}
use Rattle.us_gen_build.proofs.LevelsTyped.{fits_itself, store_typed, LevelKinds, AllKinds, levels_typed}

pub fresh_up : (g : Context) (lo hi : ℕ) → lo ≤ hi → FreshFrom g lo → FreshFrom g hi
fresh_up g lo hi le f = record { none = λ x h. f.none x (omega (arith, h, le)) }

none_some : {A : Type 0} {B : Type 0} (o : Option A) (k : A) → o ≡ None → o ≡ Some k → B
none_some None k n s = absurd cc
none_some (Some x) k n s = absurd cc

-- ---- registers of the opening

open_other : (r : Role) (l : LevelTree) (f : ℕ → Option RegKind) (x : ℕ) → l.first ≢ x → l.first + 1 ≢ x → open_kind r l f x ≡ f x
open_other Full l f x a b = refl
open_other Shared l f x a b = put_other (put f l.first word) (l.first + 1) _ x b ∙ put_other f l.first _ x a
open_other Single l f x a b = refl
open_other AtPosition l f x a b = refl
open_other AtRank l f x a b = refl
open_other Counted l f x a b = put_other (put f l.first word) (l.first + 1) _ x b ∙ put_other f l.first _ x a
open_other Marked l f x a b = refl
open_other Kept l f x a b = refl

pub rise_up : (ls : List LevelTree) (lo n : ℕ) → NamesRise lo ls n → lo ≤ n
rise_up [] lo n h = h
rise_up (l ∷ ls) lo n h = omega (arith, h.0, rise_up ls (l.first + 4) n h.1)

pub open_low : (ls : List LevelTree) (lo n x : ℕ) (f : ℕ → Option RegKind) → NamesRise lo ls n → x < lo → open_kinds ls f x ≡ f x
open_low [] lo n x f h lt = refl
open_low (l ∷ ls) lo n x f h lt = open_low ls (l.first + 4) n x (open_kind l.role l f) h.1 (omega (arith, lt, h.0)) ∙ open_other l.role l f x (λ e. omega (arith, e, lt, h.0)) (λ e. omega (arith, e, lt, h.0))

pub open_high : (ls : List LevelTree) (lo n x : ℕ) (f : ℕ → Option RegKind) → NamesRise lo ls n → n ≤ x → open_kinds ls f x ≡ f x
open_high [] lo n x f h le = refl
open_high (l ∷ ls) lo n x f h le =
    let up = rise_up ls (l.first + 4) n h.1 in
    open_high ls (l.first + 4) n x (open_kind l.role l f) h.1 le ∙ open_other l.role l f x (λ e. omega (arith, e, le, up)) (λ e. omega (arith, e, le, up))

open_typed : (r : Role) (g : Context) (l : LevelTree) (rest : Code) → FreshFrom g l.first → Typed (with_regs g (open_kind r l g.regs)) rest → Typed g (open_of r l rest)
open_typed Full g l rest f t = t
open_typed Shared g l rest f t = (f.none l.first (omega arith), refl, (put_other g.regs l.first _ (l.first + 1) (omega arith) ∙ f.none (l.first + 1) (omega arith), refl, t))
open_typed Single g l rest f t = t
open_typed AtPosition g l rest f t = t
open_typed AtRank g l rest f t = t
open_typed Marked g l rest f t = t
open_typed Kept g l rest f t = t
open_typed Counted g l rest f t = (f.none l.first (omega arith), refl, (put_other g.regs l.first _ (l.first + 1) (omega arith) ∙ f.none (l.first + 1) (omega arith), refl, t))

open_fresh : (r : Role) (g : Context) (l : LevelTree) (lo : ℕ) → lo ≤ l.first → FreshFrom g lo → FreshFrom (with_regs g (open_kind r l g.regs)) (l.first + 4)
open_fresh r g l lo le f = record { none = λ x h. open_other r l g.regs x (λ e. omega (arith, e, h)) (λ e. omega (arith, e, h)) ∙ f.none x (omega (arith, h, le)) }

pub opens_typed : (ls : List LevelTree) (lo n : ℕ) (g : Context) (rest : Code) → FreshFrom g lo → NamesRise lo ls n → Typed (opened g ls) rest → Typed g (opens ls rest)
opens_typed [] lo n g rest f h t = t
opens_typed (l ∷ ls) lo n g rest f h t =
    open_typed l.role g l (opens ls rest) (fresh_up g lo l.first h.0 f) (opens_typed ls (l.first + 4) n (with_regs g (open_kind l.role l g.regs)) rest (open_fresh l.role g l lo h.0 f) h.1 t)

-- ---- registers of a turn

load_low : (bufs : ℕ → Option BufKind) (cols : List ℕ) (k : ℕ) (f : ℕ → Option RegKind) (x : ℕ) → x < k → load_kinds bufs cols k f x ≡ f x
load_low bufs [] k f x lt = refl
load_low bufs (b ∷ bs) k f x lt = load_low bufs bs (k + 1) (put f k _) x (omega (arith, lt)) ∙ put_other f k _ x (λ e. omega (arith, e, lt))

pub load_high : (bufs : ℕ → Option BufKind) (cols : List ℕ) (k : ℕ) (f : ℕ → Option RegKind) (x : ℕ) → k + length cols ≤ x → load_kinds bufs cols k f x ≡ f x
load_high bufs [] k f x le = refl
load_high bufs (b ∷ bs) k f x le = load_high bufs bs (k + 1) (put f k _) x (omega (arith, le)) ∙ put_other f k _ x (λ e. omega (arith, e, le))

load_alike : (bufs : ℕ → Option BufKind) (cols : List ℕ) (k : ℕ) (f h : ℕ → Option RegKind) → ((x : ℕ) → x < k → h x ≡ f x) → (x : ℕ) → x < k + length cols → load_kinds bufs cols k h x ≡ load_kinds bufs cols k f x
load_alike bufs [] k f h a x lt = a x (omega (arith, lt))
load_alike bufs (b ∷ bs) k f h a x lt = load_alike bufs bs (k + 1) (put f k _) (put h k _) (λ y g. put_alike h f k _ _ y refl (λ ne. a y (omega (arith, g, ne)))) x (omega (arith, lt))

turn_at : (order : Option ℕ) (d : Dim) (a : ℕ) (f : ℕ → Option RegKind) → turn_kinds order d a f a ≡ below_dim d
turn_at None d a f = put_same f a _
turn_at (Some p) d a f = put_other (put f a (below_dim d)) (a + 1) _ a (omega arith) ∙ put_same f a _

pub turn_other : (order : Option ℕ) (d : Dim) (a x : ℕ) (f : ℕ → Option RegKind) → (a ≤ x → entry_of order a < x) → turn_kinds order d a f x ≡ f x
turn_other None d a x f h = put_other f a _ x (λ e. let z = h (omega (arith, e)) in omega (arith, z, e))
turn_other (Some p) d a x f h = put_other (put f a (below_dim d)) (a + 1) _ x (λ e. let z = h (omega (arith, e)) in omega (arith, z, e)) ∙ put_other f a _ x (λ e. let z = h (omega (arith, e)) in omega (arith, z, e))

turn_alike : (order : Option ℕ) (d : Dim) (a : ℕ) (f h : ℕ → Option RegKind) → ((x : ℕ) → x < a → h x ≡ f x) → (x : ℕ) → x < entry_of order a + 1 → turn_kinds order d a h x ≡ turn_kinds order d a f x
turn_alike None d a f h s x lt = put_alike h f a _ _ x refl (λ ne. s x (omega (arith, lt, ne)))
turn_alike (Some p) d a f h s x lt = put_alike (put h a (below_dim d)) (put f a (below_dim d)) (a + 1) _ _ x refl (λ ne. put_alike h f a _ _ x refl (λ no. s x (omega (arith, lt, ne, no))))

loads_typed : (cols : List ℕ) (h : Context) (k e : ℕ) (d : Dim) (rest : Code) → h.regs e ≡ below_dim d → e < k → ((x : ℕ) → k ≤ x → x < k + length cols → h.regs x ≡ None) → ColumnsFit h.bufs d cols → Typed (with_regs h (load_kinds h.bufs cols k h.regs)) rest → Typed h (loads cols k e rest)
loads_typed [] h k e d rest he lt none c t = t
loads_typed (b ∷ bs) h k e d rest he lt none c t = (
  none k (omega arith) (omega arith),
  c.0,
  ap is_some he,
  ap₂ (λ (o : Option RegKind) (z : Dim). fits (reg_kind o) z) he c.1 ∙ fits_itself d,
  loads_typed bs (with_reg h k false (buf_cell (h.bufs b))) (k + 1) e d rest (put_other h.regs k _ e (λ q. omega (arith, q, lt)) ∙ he) (omega (arith, lt)) (λ x p q. put_other h.regs k _ x (λ z. omega (arith, z, p)) ∙ none x (omega (arith, p)) (omega (arith, q))) c.2 t,
)

pub turn_typed : (order : Option ℕ) (g : Context) (d : Dim) (cols : List ℕ) (a : ℕ) (rest : Code) → ((x : ℕ) → a ≤ x → x < levels_from order cols a → g.regs x ≡ None) → OrderFits g.bufs d order → ColumnsFit g.bufs d cols → Typed (in_turn g d order cols a) rest
    → Typed (with_reg g a false (kind.Below d)) (picked order a (loads cols (entry_of order a + 1) (entry_of order a) rest))
turn_typed None g d cols a rest none o c t =
    loads_typed cols (with_reg g a false (kind.Below d)) (a + 1) a d rest (put_same g.regs a _) (omega arith) (λ x p q. put_other g.regs a _ x (λ z. omega (arith, z, p)) ∙ none x (omega (arith, p)) (omega (arith, q))) c t
turn_typed (Some b) g d cols a rest none o c t =
    let g1 = with_reg g a false (kind.Below d) in
    let here : g1.regs a ≡ below_dim d = put_same g.regs a _ in
    let free : g1.regs (a + 1) ≡ None = put_other g.regs a _ (a + 1) (omega arith) ∙ none (a + 1) (omega arith) (omega arith) in
    let deep : Typed (with_reg g1 (a + 1) false (kind.Below d)) (loads cols (a + 1 + 1) (a + 1) rest) =
    loads_typed cols (with_reg g1 (a + 1) false (kind.Below d)) (a + 1 + 1) (a + 1) d rest (put_same g1.regs (a + 1) _) (omega arith) (λ x p q. put_other g1.regs (a + 1) _ x (λ z. omega (arith, z, p)) ∙ (put_other g.regs a _ x (λ z. omega (arith, z, p)) ∙ none x (omega (arith, p)) (omega (arith, q)))) c t in (
      free,
      ap is_some o,
      ap is_some here,
      ap₂ (λ (r : Option RegKind) (z : Option BufKind). fits (reg_kind r) (buf_len z)) here o ∙ fits_itself d,
      subst (λ (z : CellKind). Typed (with_reg g1 (a + 1) false z) (loads cols (a + 1 + 1) (a + 1) rest)) (sym (ap buf_cell o)) deep,
    )

-- ---- the kinds of the levels' names

level_kinds : (r : Role) (l : LevelTree) (f : ℕ → Option RegKind) (g h : Context) (d : Dim) (a : ℕ) → ((x : ℕ) → l.first ≤ x → x < l.first + 4 → h.regs x ≡ open_kind r l f x) → ((x : ℕ) → l.first ≤ x → f x ≡ None) → Wider g h → h.regs a ≡ below_dim d → LevelFits g d r l → LevelKinds h r l a
level_kinds Full l f g h d a here none w at c = tt
level_kinds Shared l f g h d a here none w at c = (
  record {
    last = here l.first (omega arith) (omega arith) ∙ (put_other (put f l.first word) (l.first + 1) _ l.first (omega arith) ∙ put_same f l.first _);
    node = here (l.first + 1) (omega arith) (omega arith) ∙ put_same (put f l.first word) (l.first + 1) _;
  },
  record {
    index = here (l.first + 2) (omega arith) (omega arith) ∙ (open_other Shared l f (l.first + 2) (omega arith) (omega arith) ∙ none (l.first + 2) (omega arith));
    sees = dim_wider g h w l.pos_length c.0.sees;
    buffer = w.bufs l.first _ c.0.buffer;
  },
  record {
    index = here (l.first + 3) (omega arith) (omega arith) ∙ (open_other Shared l f (l.first + 3) (omega arith) (omega arith) ∙ none (l.first + 3) (omega arith));
    sees = dim_wider g h w l.crd_length c.1.sees;
    buffer = w.bufs (l.first + 1) _ c.1.buffer;
  },
)
level_kinds Single l f g h d a here none w at c = (
  record {
    index = here (l.first + 2) (omega arith) (omega arith) ∙ none (l.first + 2) (omega arith);
    sees = dim_wider g h w l.pos_length c.0.sees;
    buffer = w.bufs l.first _ c.0.buffer;
  },
  record { within = ap (λ (o : Option RegKind). fits (reg_kind o) l.crd_length) at ∙ c.2; buffer = w.bufs (l.first + 1) _ c.1.buffer },
)
level_kinds AtPosition l f g h d a here none w at c = record {
  index = here (l.first + 3) (omega arith) (omega arith) ∙ none (l.first + 3) (omega arith);
  sees = dim_wider g h w l.crd_length c.sees;
  buffer = w.bufs (l.first + 1) _ c.buffer;
}
level_kinds AtRank l f g h d a here none w at c = record { within = ap (λ (o : Option RegKind). fits (reg_kind o) l.crd_length) at ∙ c.1; buffer = w.bufs (l.first + 1) _ c.0.buffer }
level_kinds Marked l f g h d a here none w at c = record {
  index = here (l.first + 2) (omega arith) (omega arith) ∙ none (l.first + 2) (omega arith);
  sees = dim_wider g h w l.pos_length c.0.sees;
  buffer = w.bufs l.first _ c.0.buffer;
}
level_kinds Kept l f g h d a here none w at c = tt
level_kinds Counted l f g h d a here none w at c = record {
  last = here l.first (omega arith) (omega arith) ∙ (put_other (put f l.first word) (l.first + 1) _ l.first (omega arith) ∙ put_same f l.first _);
  node = here (l.first + 1) (omega arith) (omega arith) ∙ put_same (put f l.first word) (l.first + 1) _;
}

all_kinds : (ls : List LevelTree) (lo n : ℕ) (f : ℕ → Option RegKind) (g g2 h : Context) (d : Dim) (a : ℕ) → ((x : ℕ) → lo ≤ x → h.regs x ≡ open_kinds ls f x) → ((x : ℕ) → lo ≤ x → f x ≡ None) → NamesRise lo ls n → Wider g h → Wider g2 h → h.regs a ≡ below_dim d → AllFit g g2 d ls → AllKinds h ls a
all_kinds [] lo n f g g2 h d a is none rise w w2 at c = tt
all_kinds (l ∷ ls) lo n f g g2 h d a is none rise w w2 at c = (
  level_kinds l.role l f g h d a (λ x p q. is x (omega (arith, p, rise.0)) ∙ open_low ls (l.first + 4) n x (open_kind l.role l f) rise.1 q) (λ x p. none x (omega (arith, p, rise.0))) w at c.0,
  fine_wider g2 h w2 l.size c.1,
  fine_wider g2 h w2 l.coord c.2,
  all_kinds ls (l.first + 4) n (open_kind l.role l f) g g2 h d a (λ x p. is x (omega (arith, p, rise.0))) (λ x p. open_other l.role l f x (λ e. omega (arith, e, p)) (λ e. omega (arith, e, p)) ∙ none x (omega (arith, p, rise.0))) rise.1 w w2 at c.3,
)

-- ---- the end of each `pos`

size_fine : (g : Context) (d : Dim) → sees_dim g d ≡ true → fine g (size_term d) ≡ true
size_fine g (dim.Number n) h = refl
size_fine g (dim.Name d) h = h
size_fine g (dim.Len k) h = h

fill_up_typed : (g : Context) (b : ℕ) (d : Dim) (n : ℕ) (rest : Code) → FreshFrom g n → sees_dim g d ≡ true → g.bufs b ≡ words_of d → Typed (with_reg g n true kind.Word) rest → Typed g (fill_up b d n +++ rest)
fill_up_typed g b d n rest f hd buf t =
    let g1 = with_reg g n true kind.Word in
    let g2 = with_reg g1 (n + 1) false (kind.Below d) in
    let g3 = with_reg g2 (n + 2) false (buf_cell (g.bufs b)) in
    let free = f.none n (omega arith) in
    let at2 : g2.regs (n + 1) ≡ below_dim d = put_same g1.regs (n + 1) _ in
    let run : g3.regs n ≡ word = put_other g2.regs (n + 2) _ n (omega arith) ∙ (put_other g1.regs (n + 1) _ n (omega arith) ∙ put_same g.regs n _) in
    let at3 : g3.regs (n + 1) ≡ below_dim d = put_other g2.regs (n + 2) _ (n + 1) (omega arith) ∙ at2 in
    let cell : fine g3 (Reg (n + 2)) ≡ true = ap is_some (put_same g2.regs (n + 2) _) in
    let within : fits (reg_kind (g3.regs (n + 1))) d ≡ true = ap (λ (o : Option RegKind). fits (reg_kind o) d) at3 ∙ fits_itself d in (
      free,
      refl,
      (
        put_other g.regs n _ (n + 1) (omega arith) ∙ f.none (n + 1) (omega arith),
        dim_wider g g1 (reg_wider g n true kind.Word free) d hd,
        (
          put_other g1.regs (n + 1) _ (n + 2) (omega arith) ∙ (put_other g.regs n _ (n + 2) (omega arith) ∙ f.none (n + 2) (omega arith)),
          ap is_some buf,
          ap is_some at2,
          ap₂ (λ (r : Option RegKind) (z : Option BufKind). fits (reg_kind r) (buf_len z)) at2 buf ∙ fits_itself d,
          (cell, ap is_some run, store_typed g3 b d (Reg (n + 1)) (Reg n) End buf (ap is_some at3) (ap is_some run) within tt, (ap is_put run, cell, tt), tt),
        ),
        t,
      ),
    )

wider_both : (g h k : Context) → Wider g h → Wider h k → Wider g k
wider_both g h k w v = record { sources = λ x s. v.sources x (w.sources x s); regs = λ x j s. v.regs x j (w.regs x j s); bufs = λ x j s. v.bufs x j (w.bufs x j s); dims = λ x j s. v.dims x j (w.dims x j s) }

pos_typed : (top : Bool) (g h : Context) (l : LevelTree) (n : ℕ) (rest : Code) → (top ≡ true → l.pos_length ≡ dim.Number 2) → Wider g h → FreshFrom h n → PosFits g l → sees_dim g l.crd_length ≡ true → ((k : Context) → Wider g k → FreshFrom k (n + 3) → Typed k rest) → Typed h (close_pos top l n rest)
pos_typed true g h l n rest two w f p crd end =
    store_typed h l.first (dim.Number 2) (Number 1) (size_term l.crd_length) rest (w.bufs l.first _ p.buffer ∙ ap words_of (two refl)) refl (size_fine h l.crd_length (dim_wider g h w l.crd_length crd)) refl (end h w (fresh_up h n (n + 3) (omega arith) f))
pos_typed false g h l n rest two w f p crd end =
    let k = with_reg h n true kind.Word in
    fill_up_typed h l.first l.pos_length n rest f (dim_wider g h w l.pos_length p.sees) (w.bufs l.first _ p.buffer) (end k (wider_both g h k w (reg_wider h n true kind.Word (f.none n (omega arith)))) (fresh_more h n n true kind.Word (n + 3) (omega arith) (omega arith) f))

close_typed : (r : Role) (g h : Context) (d : Dim) (l : LevelTree) (n : ℕ) (rest : Code) → Wider g h → FreshFrom h n → LevelFits g d r l → ((k : Context) → Wider g k → FreshFrom k (n + 3) → Typed k rest) → Typed h (close_of r l n rest)
close_typed Full g h d l n rest w f c end = end h w (fresh_up h n (n + 3) (omega arith) f)
close_typed Shared g h d l n rest w f c end = pos_typed l.is_top g h l n rest c.0.two w f c.0 c.1.sees end
close_typed Single g h d l n rest w f c end = pos_typed l.is_top g h l n rest c.0.two w f c.0 c.1.sees end
close_typed AtPosition g h d l n rest w f c end = end h w (fresh_up h n (n + 3) (omega arith) f)
close_typed AtRank g h d l n rest w f c end = end h w (fresh_up h n (n + 3) (omega arith) f)
close_typed Counted g h d l n rest w f c end = end h w (fresh_up h n (n + 3) (omega arith) f)
close_typed Marked g h d l n rest w f c end = pos_typed l.is_top g h l n rest c.0.two w f c.0 c.1 end
close_typed Kept g h d l n rest w f c end = end h w (fresh_up h n (n + 3) (omega arith) f)

pub closes_typed : (ls : List LevelTree) (n : ℕ) (g g2 h : Context) (d : Dim) → Wider g h → FreshFrom h n → AllFit g g2 d ls → Typed h (closes ls n)
closes_typed [] n g g2 h d w f c = tt
closes_typed (l ∷ ls) n g g2 h d w f c = close_typed l.role g h d l n (closes ls (n + 3)) w f c.0 (λ k v e. closes_typed ls (n + 3) g g2 k d v e c.3)

-- ---- the whole block

module _ (g : Context) (d : Dim) (order : Option ℕ) (cols : List ℕ) (ls : List LevelTree) (a n : ℕ) (f : FreshFrom g a) (rise : NamesRise (levels_from order cols a) ls n) where
  pub low : (x : ℕ) → x < levels_from order cols a → open_kinds ls g.regs x ≡ g.regs x
  low x lt = open_low ls (levels_from order cols a) n x g.regs rise lt

  below_a : (x : ℕ) (k : RegKind) → g.regs x ≡ Some k → x < a
  below_a x k s = case (cases_lt x a)
    where
      case : (x < a) ⊎ (a ≤ x) → x < a
      case (inl h) = h
      case (inr h) = none_some (g.regs x) k (f.none x h) s

  pub opened_wider : Wider g (opened g ls)
  opened_wider = record { sources = λ x s. s; regs = λ x k s. low x (omega (arith, below_a x k s, entry_low order a)) ∙ s; bufs = λ x k s. s; dims = λ x k s. s }

  pub opened_fresh : FreshFrom (opened g ls) n
  opened_fresh = record { none = λ x h. open_high ls (levels_from order cols a) n x g.regs rise h ∙ f.none x (omega (arith, h, rise_up ls (levels_from order cols a) n rise, entry_low order a)) }

  pub turn_wider : Wider g (in_turn (opened g ls) d order cols a)
  turn_wider = record {
    sources = λ x s. s;
    regs = λ x k s.
        let lt = below_a x k s in
        load_low g.bufs cols (entry_of order a + 1) (turn_kinds order d a (open_kinds ls g.regs)) x (omega (arith, lt, entry_low order a))
        ∙ (turn_other order d a x (open_kinds ls g.regs) (λ h. absurd (omega (arith, h, lt))) ∙ (low x (omega (arith, lt, entry_low order a)) ∙ s));
    bufs = λ x k s. s;
    dims = λ x k s. s;
  }

  pub turns_wider : Wider (in_turn g d order cols a) (in_turn (opened g ls) d order cols a)
  turns_wider = record { sources = λ x s. s; regs = λ x k s. case x k s (cases_lt x (levels_from order cols a)); bufs = λ x k s. s; dims = λ x k s. s }
    where
      case : (x : ℕ) (k : RegKind) → (in_turn g d order cols a).regs x ≡ Some k → (x < levels_from order cols a) ⊎ (levels_from order cols a ≤ x) → (in_turn (opened g ls) d order cols a).regs x ≡ Some k
      case x k s (inl lt) =
          load_alike g.bufs cols (entry_of order a + 1) (turn_kinds order d a g.regs) (turn_kinds order d a (open_kinds ls g.regs))
          (turn_alike order d a g.regs (open_kinds ls g.regs) (λ y h. low y (omega (arith, h, entry_low order a)))) x (omega (arith, lt))
          ∙ s
      case x k s (inr ge) =
          let high : (in_turn g d order cols a).regs x ≡ None =
          load_high g.bufs cols (entry_of order a + 1) (turn_kinds order d a g.regs) x (omega (arith, ge))
          ∙ (turn_other order d a x g.regs (λ h. omega (arith, ge)) ∙ f.none x (omega (arith, ge, entry_low order a))) in
          none_some ((in_turn g d order cols a).regs x) k high s

  pub at_turn : (in_turn (opened g ls) d order cols a).regs a ≡ below_dim d
  at_turn = load_low g.bufs cols (entry_of order a + 1) (turn_kinds order d a (open_kinds ls g.regs)) a (omega (arith, entry_low order a)) ∙ turn_at order d a (open_kinds ls g.regs)

  pub inside_kinds : AllFit g (in_turn g d order cols a) d ls → AllKinds (in_turn (opened g ls) d order cols a) ls a
  inside_kinds c =
      all_kinds ls (levels_from order cols a) n g.regs g (in_turn g d order cols a) (in_turn (opened g ls) d order cols a) d a
      (λ x h. load_high g.bufs cols (entry_of order a + 1) (turn_kinds order d a (open_kinds ls g.regs)) x (omega (arith, h)) ∙ turn_other order d a x (open_kinds ls g.regs) (λ z. omega (arith, h)))
      (λ x h. f.none x (omega (arith, h, entry_low order a))) rise turn_wider turns_wider at_turn c

  pub inside_typed : AllFit g (in_turn g d order cols a) d ls → Typed (in_turn (opened g ls) d order cols a) (levels ls (Number 0) a)
  inside_typed c = levels_typed (in_turn (opened g ls) d order cols a) ls (Number 0) a (inside_kinds c) (ap is_some at_turn) refl

pub blocks_typed : BlocksTyped
blocks_typed g d order cols ls a n f sees o c rise fit =
    let lo = levels_from order cols a in
    let h = opened g ls in
    opens_typed ls lo n g (entry_loop d order cols ls a +++ closes ls n) (fresh_up g a lo (omega (arith, entry_low order a)) f) rise (
      low g d order cols ls a n f rise a (omega (arith, entry_low order a)) ∙ f.none a (omega arith),
      dim_wider g h (opened_wider g d order cols ls a n f rise) d sees,
      turn_typed order h d cols a (levels ls (Number 0) a) (λ x p q. low g d order cols ls a n f rise x q ∙ f.none x p) o c (inside_typed g d order cols ls a n f rise fit),
      closes_typed ls n g (in_turn g d order cols a) h d (opened_wider g d order cols ls a n f rise) (opened_fresh g d order cols ls a n f rise) fit,
    )
