-- A dim more.
use Rattle.std.proofs.Common.{◌≡◌, ℕ, zero, suc, ◌+◌, ◌<◌, ◌≤◌, ◌^◌, Bool, true, false, cond, eqb, nat_lt, List, [], ◌∷◌, ◌++◌, map, take, drop, length, get_or, ℤ, refl, sym, ap, ap₂, ◌∙◌, subst, arith, Ok, Option, Some, None, take-append-drop, drop-cons, Vec, Global}
use Rattle.std.proofs.lemmas.Bool.Decides.{nat_tests}
use Rattle.std.proofs.lemmas.List.{take_more, length-map}
use Rattle.us_raw.specs.declared.region.Segment.{Segment}
use Rattle.us_raw.specs.declared.width.Width.TheVariants.{W8}
use Rattle.us_raw.specs.Plan.{widths_of}
use Rattle.us_raw.specs.Region.{Lists}
use Rattle.us_raw.specs.Widths.{Holds}
use Rattle.us_code.specs.declared.program.CellKind.{CellKind}
use Rattle.us_code.specs.declared.program.CellKind.TheVariants as kind
use Rattle.us_code.specs.declared.program.DimLine.{DimLine}
use Rattle.us_code.specs.Plain.{LineTree, Of, Product, Successor, line_tree}
use Rattle.us_code.specs.Limits.{FitsLines}
use Rattle.us_code.specs.Run.{Env, put, size_of}
use Rattle.us_code.specs.Runs.{World, Ran, Went, ◌>>=◌, at_source, within, with_dim, line, line_all}
use Rattle.us_code.specs.Runs as runs
use Rattle.us_code.specs.Typing.{Form, Context, BufKind, is_some, buf_cell, sees_cell, with_form, with_line, with_lines, TypedLine, TypedLines}
use Rattle.us_code.specs.Typing as typing
use Rattle.us_code_laws.specs.Fits.{InKind, Fits}
use Rattle.us_code_laws.specs.Programs.{BufCloses}
use Rattle.us_code_laws.proofs.Programs as laws
use Rattle.us_machine.specs.declared.names.Names.{Names}
use Rattle.us_machine.specs.declared.tables.Tables.{Tables}
use Rattle.us_machine.specs.declared.budget.Budget.{Budget}
use Rattle.us_machine.specs.Steps.{Shows}
use Rattle.us_machine.specs.Tables.{held, env_of}
use Rattle.us_machine.specs.Lines.{IsReadable, line_dim, line_value, line_factor}
use Rattle.us_machine.specs.Walks.{Stands, Sized, state_of, bufs_of}
use Rattle.us_machine.specs.Phases.{grown_in, world_of, Point, world_at, IsAt, Next, Ends}
use Rattle.us_machine.proofs.Readying.{fits_at, evaluable, dim_sized}

lt_false : (a b : ℕ) → b ≤ a → nat_lt a b ≡ false
lt_false a b h = grind (arith, nat_tests)

abbrev form_of : LineTree → Form
form_of (Of d e) = typing.Of
form_of (Product d l r) = typing.Product l r
form_of (Successor d e) = typing.Successor e

with_is : (g : Context) (l : LineTree) → with_line g l ≡ with_form g (line_dim l) (form_of l)
with_is g (Of d e) = refl
with_is g (Product d l r) = refl
with_is g (Successor d e) = refl

fresh : (g : Context) (l : LineTree) → TypedLine g l → g.dims (line_dim l) ≡ None
fresh g (Of d e) h = h.0
fresh g (Product d l r) h = h.0
fresh g (Successor d e) h = h.0

line_is : (regs : ℕ → ℤ) (l : LineTree) (w : World) → line regs l w ≡ within (line_value w.env regs l) w (with_dim (line_dim l) (line_value w.env regs l) (line_factor w.env l) w)
line_is regs (Of d e) w = refl
line_is regs (Product d l r) w = refl
line_is regs (Successor d e) w = refl

pub readable : (t : Tables) (sources : List (List ℤ)) (r : Lists) (regs : ℕ → ℤ) (g : Context) (l : LineTree) → Fits g (env_of t sources) (state_of t r regs 0) → Sized t sources g → FitsLines (l ∷ []) → TypedLine g l → IsReadable t sources regs l
readable t sources r regs g (Of d e) f z k h = evaluable t sources r regs g e f z k.0.0 h.1
readable t sources r regs g (Product d a b) f z k h = (dim_sized t sources g a z k.0.0 h.1, dim_sized t sources g b z k.0.1 h.2)
readable t sources r regs g (Successor d a) f z k h = dim_sized t sources g a z k.0 h.1

put_below : (f : ℕ → ℕ) (d v m : ℕ) → v ≤ m → ((x : ℕ) → f x ≤ m) → (x : ℕ) → put f d v x ≤ m
unfolding put
put_below f d v m le all x = case (eqb d x)
  where
    case : (b : Bool) → cond b v (f x) ≤ m
    case true = le
    case false = all x

put_under : (f : ℕ → ℕ) (d v m : ℕ) → v < m → ((x : ℕ) → f x < m) → (x : ℕ) → put f d v x < m
unfolding put
put_under f d v m le all x = case (eqb d x)
  where
    case : (b : Bool) → cond b v (f x) < m
    case true = le
    case false = all x

abbrev env_with : Env → ℕ → ℕ → ℕ → Env
env_with env d n f = record { dims = put env.dims d n; factors = put env.factors d f; sources = env.sources }

module _ (t u : Tables) (sources : List (List ℤ)) (steps steps' : ℕ) (regs : ℕ → ℤ) (l : LineTree) (p : Point) (at : IsAt t sources steps p) (keeps : p.regs ≡ regs)
    (plan : u.plan ≡ t.plan) (segs : u.segs ≡ t.segs) (budget : u.budget ≡ t.budget) (v f : ℕ)
    (dims : held u.dims ≡ put (held t.dims) (line_dim l) v) (factors : held u.factors ≡ put (held t.factors) (line_dim l) f)
    (value : v ≡ line_value (env_of t sources) regs l) (factor : f ≡ line_factor (env_of t sources) l) (small : v ≤ 67108865) (low : f < 2 ^ 63) where
  abbrev G : Lists
  G = grown_in t p.region

  abbrev H : Lists
  H = grown_in u p.region

  bufs_is : bufs_of t G ≡ bufs_of u H
  bufs_is = ap₂ (λ (pl : Vec Segment Global) (sg : Names). let x : Tables = record { dims = t.dims; factors = t.factors; segs = sg; plan = pl; budget = t.budget } in bufs_of x (grown_in x p.region)) (sym plan) (sym segs)

  env_is : env_with (env_of t sources) (line_dim l) v f ≡ env_of u sources
  env_is = ap₂ (λ (x y : ℕ → ℕ). let e : Env = record { dims = x; factors = y; sources = at_source sources } in e) (sym dims) (sym factors)

  world_is : (k : ℕ) → ◌≡◌ {A = World} record { env = env_with (env_of t sources) (line_dim l) v f; bufs = bufs_of t G; steps = k } (world_of u sources H k)
  world_is k = ap₂ (λ (e : Env) (b : ℕ → List ℤ). let w : World = record { env = e; bufs = b; steps = k } in w) env_is bufs_is

  stays : Stands u sources H
  stays =
      let a : Stands t sources G = at.stands in
      let P : Vec Segment Global → Names → Type 0 = λ pl sg. let x : Tables = record { dims = t.dims; factors = t.factors; segs = sg; plan = pl; budget = t.budget } in Stands x sources (grown_in x p.region) in
      let b : P u.plan t.segs = subst (λ (pl : Vec Segment Global). P pl t.segs) (sym plan) a in
      let c : P u.plan u.segs = subst (λ (sg : Names). P u.plan sg) (sym segs) b in
      record { none = c.none; given = c.given; apart = c.apart; behind = c.behind; planned = c.planned; widths = c.widths; few = c.few; long = c.long; after = c.after; listed = c.listed; fit = c.fit }

  module _ (typed : TypedLine p.context l) where
    size_same : (e : _) → typing.sees_dim p.context e ≡ true → size_of (env_of u sources) e ≡ size_of (env_of t sources) e
    size_same e see = ap (λ (x : Env). size_of x e) (sym env_is) ∙ laws.size_kept p.context (env_of t sources) (line_dim l) v f (fresh p.context l typed) e see

    kind_back : (k : CellKind) (z : ℤ) → sees_cell p.context k ≡ true → InKind (env_of u sources) k z → InKind (env_of t sources) k z
    kind_back kind.Word z see i = tt
    kind_back (kind.Below e) z see i = (i.0, i.1, omega (arith, i.2, size_same e see))

    buf_back : (o : Option BufKind) (z : ℤ) → BufCloses p.context o → is_some o ≡ true → InKind (env_of u sources) (buf_cell o) z → InKind (env_of t sources) (buf_cell o) z
    buf_back None z c h i = absurd (let e : false ≡ true = h in cc)
    buf_back (Some k) z c h i = kind_back k.cell z c.1 i

    sized_form : Sized u sources (with_form p.context (line_dim l) (form_of l))
    sized_form =
        let z = at.sized in
        record {
          count = z.count;
          dims = λ d. subst (λ (g : ℕ → ℕ). g d ≤ 67108865) (sym dims) (put_below (held t.dims) (line_dim l) v 67108865 small z.dims d);
          factors = λ d. subst (λ (g : ℕ → ℕ). g d < 2 ^ 63) (sym factors) (put_under (held t.factors) (line_dim l) f (2 ^ 63) low z.factors d);
          short = z.short;
          wide = λ b y h i.
              let w = z.wide b y h (buf_back (p.context.bufs b) y (at.closed.bufs b) h i) in
              subst (λ (pl : Vec Segment Global). Holds (get_or (widths_of pl.items) (held u.segs b) W8) y) (sym plan)
              (subst (λ (sg : Names). Holds (get_or (widths_of t.plan.items) (held sg b) W8) y) (sym segs) w);
        }

    pub named : Shows t.budget steps' (p.count + 1) → Ends t.budget (Ok tt) (line_all regs (l ∷ []) (world_at t sources p)) (λ w. Next u sources steps' p (with_lines p.context (l ∷ [])) w)
    named shows =
        let w0 = world_at t sources p in
        let g = with_line p.context l in
        let v0 = line_value (env_of t sources) regs l in
        let f0 = line_factor (env_of t sources) l in
        let old : laws.Ready p.context regs w0 = subst (λ (q : ℕ → ℤ). laws.Ready p.context q w0) keeps record { closed = at.closed; fits = fits_at t sources p.context G p.regs 0 p.count at.fits } in
        let x : World = record { env = env_with (env_of t sources) (line_dim l) v0 f0; bufs = bufs_of t G; steps = p.count + 1 } in
        let is : line regs l w0 ≡ Went x = line_is regs l w0 ∙ ap (λ (b : Bool). cond b (runs.TooLarge (p.count + 1)) (Went x)) (lt_false 67108865 v0 (omega (arith, small, value))) in
        let same : x ≡ world_of u sources H (p.count + 1) =
        ap₂ (λ (a b : ℕ). let y : World = record { env = env_with (env_of t sources) (line_dim l) a b; bufs = bufs_of t G; steps = p.count + 1 } in y) (sym value) (sym factor) ∙ world_is (p.count + 1) in
        let went : laws.Ready g regs x = subst (λ (r : Ran). laws.Goes (laws.Ready g regs) r) is (laws.line_goes p.context regs l w0 typed old) in
        let new : laws.Ready g regs (world_of u sources H (p.count + 1)) = subst (λ (y : World). laws.Ready g regs y) same went in
        let fit : Fits g (env_of u sources) (state_of u H regs (p.count + 1)) = new.fits in
        let next : Next u sources steps' p g x = record {
          point = record { region = p.region; context = g; regs = p.regs; count = p.count + 1 };
          region = refl;
          regs = refl;
          context = refl;
          world = same;
          at = record {
            closed = new.closed;
            fits = subst (λ (q : ℕ → ℤ). Fits g (env_of u sources) (state_of u H q 0)) (sym keeps) (fits_at u sources g H regs (p.count + 1) 0 fit);
            stands = stays;
            sized = subst (λ (h : Context). Sized u sources h) (sym (with_is p.context l)) sized_form;
            shows = subst (λ (b : Budget). Shows b steps' (p.count + 1)) (sym budget) shows;
            fewer = subst (λ (pl : Vec Segment Global). length p.region.lists ≤ length pl.items) (sym plan) at.fewer;
          };
        } in
        subst (λ (r : Ran). Ends t.budget (Ok tt) (r >>= line_all regs []) (λ w. Next u sources steps' p (with_lines p.context (l ∷ [])) w)) (sym is) next

pub typed_later : (g : Context) (xs ys : List LineTree) → TypedLines g (xs ++ ys) → TypedLines (with_lines g xs) ys
typed_later g [] ys h = h
typed_later g (x ∷ xs) ys h = typed_later (with_line g x) xs ys h.1

pub fits_later : (xs ys : List LineTree) → FitsLines (xs ++ ys) → FitsLines ys
fits_later [] ys h = h
fits_later (x ∷ xs) ys h = fits_later xs ys h.1

pub with_later : (g : Context) (xs ys : List LineTree) → with_lines g (xs ++ ys) ≡ with_lines (with_lines g xs) ys
with_later g [] ys = refl
with_later g (x ∷ xs) ys = with_later (with_line g x) xs ys

module _ (xs : List LineTree) (i : ℕ) (x : LineTree) (lt : i < length xs) (at : x ≡ get_or xs i x) where
  rest_is : xs ≡ take i xs ++ x ∷ drop (suc i) xs
  rest_is = sym (take-append-drop i xs) ∙ ap (λ (ys : List LineTree). take i xs ++ ys) (drop-cons xs i x lt ∙ ap (λ (y : LineTree). y ∷ drop (suc i) xs) (sym at))

  pub line_typed : (g : Context) → TypedLines g xs → TypedLines (with_lines g (take i xs)) (x ∷ [])
  line_typed g h =
      let k = typed_later g (take i xs) (x ∷ drop (suc i) xs) (subst (λ (ys : List LineTree). TypedLines g ys) rest_is h) in
      (k.0, tt)

  pub line_fits : FitsLines xs → FitsLines (x ∷ [])
  line_fits h =
      let k = fits_later (take i xs) (x ∷ drop (suc i) xs) (subst (λ (ys : List LineTree). FitsLines ys) rest_is h) in
      (k.0, tt)

  pub line_context : (g : Context) → with_lines g (take (i + 1) xs) ≡ with_lines (with_lines g (take i xs)) (x ∷ [])
  line_context g = ap (λ (ys : List LineTree). with_lines g ys) (take_more xs i x lt ∙ ap (λ (y : LineTree). take i xs ++ y ∷ []) (sym at)) ∙ with_later g (take i xs) (x ∷ [])

-- a line of the code among the plain ones
pub tree_at : (xs : List DimLine) (i : ℕ) (x : DimLine) → i < length xs → x ≡ get_or xs i x → line_tree x ≡ get_or (map line_tree xs) i (line_tree x)
tree_at [] i x lt e = absurd (omega (arith, lt))
tree_at (y ∷ xs) zero x lt e = ap line_tree e
tree_at (y ∷ xs) (suc i) x lt e = tree_at xs i x (omega (arith, lt)) e

pub tree_lt : (xs : List DimLine) (i : ℕ) → i < length xs → i < length (map line_tree xs)
tree_lt xs i lt = omega (arith, lt, length-map xs line_tree)
