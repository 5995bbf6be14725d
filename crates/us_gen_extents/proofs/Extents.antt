-- The dims are the extents, and the phase is typed.
use Rattle.std.proofs.Common.{◌≡◌, ℕ, zero, suc, ◌+◌, ◌*◌, ◌<◌, ◌≤◌, List, [], ◌∷◌, length, true, false, refl, sym, ap, ◌∙◌, subst, arith, ℤ, pos, Option, None}
use Rattle.std.specs.Prelude.{slice_index_or}
use Rattle.us_code.specs.declared.program.Dim.TheVariants as dim
use Rattle.us_code.specs.declared.program.Buf.TheVariants as buf
use Rattle.us_code.specs.declared.program.CellKind.TheVariants as kind
use Rattle.us_code.specs.Plain.{Number, Reg, LineTree}
use Rattle.us_code.specs.Run.{Env, State, set_reg, tick}
use Rattle.us_code.specs.Runs.{World, Ran, line_all, begin, phases}
use Rattle.us_code.specs.Typing.{Context, Form, RegKind, BufKind, is_some, fits, with_reg, with_form, with_lines, Typed, TypedLines, outer, buf_len, cell_of}
use Rattle.us_code.specs.Typing as form
use Rattle.us_code_laws.specs.Does.{Does}
use Rattle.us_code_laws.proofs.Does.{do_end, do_weaker, do_load}
use Rattle.us_code_laws.proofs.Sequence.{put_same, put_other}
use Rattle.us_format.specs.Reading.{limit}
use Rattle.us_gen.specs.Goes.{Leads, after, lined}
use Rattle.us_gen.proofs.Going.{keeps_all, keeps_both, leads_none, leads_weaker, line_leads, Body, phase_leads}
use Rattle.us_gen_counting.proofs.PhaseFits.{SameOutside, outer_same}
use Rattle.us_gen_extents.specs.Extents.{load_cells, cell_dims, extents_phase, HoldExtents, AreDims, ExtentsRead, SeesExtents, ExtentsTyped}

-- ---- loads

-- registers from r on hold these numbers
abbrev HoldNumbers : (ℕ → ℤ) → ℕ → List ℕ → Type 0
HoldNumbers regs r [] = Unit {0}
HoldNumbers regs r (x ∷ xs) = (regs r ≡ pos x) × (x ≤ limit) × HoldNumbers regs (r + 1) xs

record Loaded (r : ℕ) (xs : List ℕ) (n : ℕ) (s u : State) : Type 0 where
  regs : HoldNumbers u.regs r xs
  low : (i : ℕ) → i < r → u.regs i ≡ s.regs i
  bufs : u.bufs ≡ s.bufs
  steps : u.steps ≤ s.steps + n

loads_do : (env : Env) (bs xs : List ℕ) (r : ℕ) (s : State) → HoldExtents s.bufs bs xs → Does env (load_cells bs r) s (Loaded r xs (length bs) s)
loads_do env [] [] r s h = do_end env s (Loaded r [] 0 s) record { regs = tt; low = λ i lt. refl; bufs = refl; steps = omega arith }
loads_do env (b ∷ bs) (x ∷ xs) r s h =
    let v : ℤ = slice_index_or (s.bufs b) 0 (pos 0) in
    let is : v ≡ pos x = ap (λ (c : List ℤ). slice_index_or c 0 (pos 0)) h.0 in
    let long : length (s.bufs b) ≡ 1 = ap (λ (c : List ℤ). length c) h.0 in
    do_load env r (buf.New b) (Number 0) (load_cells bs (r + 1)) s (Loaded r (x ∷ xs) (length (b ∷ bs)) s) 0 refl (omega (arith, long))
    (do_weaker env (load_cells bs (r + 1)) (set_reg r v (tick 1 s)) (Loaded (r + 1) xs (length bs) (set_reg r v (tick 1 s))) (Loaded r (x ∷ xs) (length (b ∷ bs)) s)
    (λ u l. record {
      regs = (l.low r (omega arith) ∙ (put_same s.regs r v ∙ is), h.1, l.regs);
      low = λ i lt. l.low i (omega (arith, lt)) ∙ put_other s.regs r v i (λ e. omega (arith, e, lt));
      bufs = l.bufs;
      steps = omega (arith, l.steps);
    })
    (loads_do env bs xs (r + 1) (set_reg r v (tick 1 s)) h.2))
loads_do env [] (x ∷ xs) r s h = absurd h
loads_do env (b ∷ bs) [] r s h = absurd h

-- ---- lines

-- at a higher cost, and with fewer names that are kept
leads_looser : (low lower m n : ℕ) (w : World) (r : Ran) (Q : World → Type 0) → lower ≤ low → m ≤ n → Leads low m w r Q → Leads lower n w r Q
leads_looser low lower m n w r Q le few x = record {
  end = x.end;
  arrives = record { is = x.arrives.is; steps = omega (arith, x.arrives.steps, few); keeps = keeps_both lower low w w x.end le (keeps_all lower w) x.arrives.keeps };
  post = x.post;
}

dims_lead : (bs xs : List ℕ) (r : ℕ) (regs : ℕ → ℤ) (w : World) → length bs ≡ length xs → HoldNumbers regs r xs → Leads r (length bs) w (line_all regs (cell_dims bs r) w) (λ u. AreDims u.env r xs)
dims_lead [] [] r regs w e h = leads_none r w (λ u. AreDims u.env r []) tt
dims_lead (b ∷ bs) (x ∷ xs) r regs w e h =
    let v : World = lined r x 0 w in
    let more : List LineTree = cell_dims bs (r + 1) in
    leads_looser r r (length bs + 1) (length (b ∷ bs)) w (line_all regs (cell_dims (b ∷ bs) r) w) (λ u. AreDims u.env r (x ∷ xs)) (omega arith) (omega arith)
    (line_leads r (length bs) regs r x (Reg r) more w (λ u. AreDims u.env r (x ∷ xs)) (omega arith) h.0 (omega (arith, h.1))
    (leads_looser (r + 1) r (length bs) (length bs) v (line_all regs more v) (λ u. AreDims u.env r (x ∷ xs)) (omega arith) (omega arith)
    (leads_weaker (r + 1) (length bs) v (line_all regs more v) (λ u. AreDims u.env (r + 1) xs) (λ u. AreDims u.env r (x ∷ xs)) (λ u d k. (k.dims r (omega arith) ∙ put_same w.env.dims r x, d))
    (dims_lead bs xs (r + 1) regs v (omega (arith, e)) h.2))))
dims_lead [] (x ∷ xs) r regs w e h = absurd (omega (arith, e))
dims_lead (b ∷ bs) [] r regs w e h = absurd (omega (arith, e))

as_many : (bufs : ℕ → List ℤ) (bs xs : List ℕ) → HoldExtents bufs bs xs → length bs ≡ length xs
as_many bufs [] [] h = refl
as_many bufs (b ∷ bs) (x ∷ xs) h = ap suc (as_many bufs bs xs h.2)
as_many bufs [] (x ∷ xs) h = absurd h
as_many bufs (b ∷ bs) [] h = absurd h

pub extents_read : ExtentsRead
extents_read bs xs f w h =
    let n : ℕ = length bs in
    leads_looser f f (0 + n + n) (2 * n) w (phases (extents_phase bs f ∷ []) w) (λ u. AreDims u.env f xs) (omega arith) (omega arith)
    (phase_leads f 0 n n (extents_phase bs f) w (λ u. u ≡ w) (λ u. AreDims u.env f xs) (leads_none f w (λ u. u ≡ w) refl)
    (λ u e k. subst (λ (z : World). Does z.env (load_cells bs f) (begin z) (Body f n n (cell_dims bs f) (λ y. AreDims y.env f xs) z)) (sym e)
    (do_weaker w.env (load_cells bs f) (begin w) (Loaded f xs n (begin w)) (Body f n n (cell_dims bs f) (λ y. AreDims y.env f xs) w)
    (λ v l. record {
      steps = l.steps;
      bufs = λ b lt. ap (λ (c : ℕ → List ℤ). c b) l.bufs;
      then = dims_lead bs xs f v.regs (after w v) (as_many w.bufs bs xs h) l.regs;
    })
    (loads_do w.env bs xs f (begin w) h))))

-- ---- typing

loads_typed : (g : Context) (bs : List ℕ) (r : ℕ) → ((i : ℕ) → r ≤ i → g.regs i ≡ None) → SeesExtents g.bufs bs → Typed g (load_cells bs r)
loads_typed g [] r free s = tt
loads_typed g (b ∷ bs) r free s = (
  free r (omega arith),
  ap is_some s.0,
  refl,
  ap (λ (o : Option BufKind). fits (kind.Below (dim.Number 1)) (buf_len o)) s.0,
  loads_typed (with_reg g r false (cell_of g (buf.New b))) bs (r + 1) (λ i le. put_other g.regs r _ i (λ e. omega (arith, e, le)) ∙ free i (omega (arith, le))) s.1,
)

-- the registers of the loads are visible behind them
abbrev SeesNumbers : (ℕ → Option RegKind) → ℕ → List ℕ → Type 0
SeesNumbers f r [] = Unit {0}
SeesNumbers f r (b ∷ bs) = (is_some (f r) ≡ true) × SeesNumbers f (r + 1) bs

outer_low : (g : Context) (bs : List ℕ) (r i : ℕ) → i < r → (outer g (load_cells bs r)).regs i ≡ g.regs i
outer_low g [] r i lt = refl
outer_low g (b ∷ bs) r i lt = outer_low (with_reg g r false (cell_of g (buf.New b))) bs (r + 1) i (omega (arith, lt)) ∙ put_other g.regs r _ i (λ e. omega (arith, e, lt))

outer_seen : (g : Context) (bs : List ℕ) (r : ℕ) → SeesNumbers (outer g (load_cells bs r)).regs r bs
outer_seen g [] r = tt
outer_seen g (b ∷ bs) r =
    let h : Context = with_reg g r false (cell_of g (buf.New b)) in
    (ap is_some (outer_low h bs (r + 1) r (omega arith) ∙ put_same g.regs r _), outer_seen h bs (r + 1))

dims_typed : (g : Context) (bs : List ℕ) (r : ℕ) → ((d : ℕ) → r ≤ d → g.dims d ≡ None) → SeesNumbers g.regs r bs → TypedLines g (cell_dims bs r)
dims_typed g [] r free s = tt
dims_typed g (b ∷ bs) r free s = (
  (free r (omega arith), s.0),
  dims_typed (with_form g r form.Of) bs (r + 1) (λ d le. put_other g.dims r _ d (λ e. omega (arith, e, le)) ∙ free d (omega (arith, le))) s.1,
)

-- ---- behind the phase

dims_other : (bs : List ℕ) (r d : ℕ) (g : Context) → (r ≤ d → r + length bs ≤ d) → (with_lines g (cell_dims bs r)).dims d ≡ g.dims d
dims_other [] r d g o = refl
dims_other (b ∷ bs) r d g o =
    dims_other bs (r + 1) d (with_form g r form.Of) (λ le. let z = o (omega (arith, le)) in omega (arith, z)) ∙ put_other g.dims r _ d (λ e. let z = o (omega (arith, e)) in omega (arith, z, e))

dims_new : (bs : List ℕ) (r j : ℕ) (g : Context) → j < length bs → is_some ((with_lines g (cell_dims bs r)).dims (r + j)) ≡ true
dims_new [] r j g lt = absurd (omega (arith, lt))
dims_new (b ∷ bs) r zero g lt =
    let h : Context = with_form g r form.Of in
    let e : r + 0 ≡ r = omega arith in
    ap (λ (d : ℕ). is_some ((with_lines h (cell_dims bs (r + 1))).dims d)) e ∙ ap is_some (dims_other bs (r + 1) r h (λ le. absurd (omega (arith, le))) ∙ put_same g.dims r _)
dims_new (b ∷ bs) r (suc j) g lt =
    let h : Context = with_form g r form.Of in
    let e : r + suc j ≡ r + 1 + j = omega arith in
    ap (λ (d : ℕ). is_some ((with_lines h (cell_dims bs (r + 1))).dims d)) e ∙ dims_new bs (r + 1) j h (omega (arith, lt))

bufs_same : (bs : List ℕ) (r : ℕ) (g : Context) → (with_lines g (cell_dims bs r)).bufs ≡ g.bufs
bufs_same [] r g = refl
bufs_same (b ∷ bs) r g = bufs_same bs (r + 1) (with_form g r form.Of)

sources_same : (bs : List ℕ) (r : ℕ) (g : Context) → (with_lines g (cell_dims bs r)).sources ≡ g.sources
sources_same [] r g = refl
sources_same (b ∷ bs) r g = sources_same bs (r + 1) (with_form g r form.Of)

pub extents_typed : ExtentsTyped
extents_typed g bs f room s =
    let q : Context = outer g (load_cells bs f) in
    let rest : SameOutside g q = outer_same g (load_cells bs f) in
    let at : (d : ℕ) → q.dims d ≡ g.dims d = λ d. ap (λ (y : ℕ → Option Form). y d) rest.dims in
    let bufs : (with_lines q (cell_dims bs f)).bufs ≡ g.bufs = bufs_same bs f q ∙ rest.bufs in (
      record {
        typed = (
          tt,
          loads_typed g bs f (λ i le. room.regs i) s,
          dims_typed q bs f (λ d le. at d ∙ room.dims d le) (outer_seen g bs f),
          tt,
        );
        more = record {
          room = record {
            regs = λ y. refl;
            bufs = λ b le. ap (λ (y : ℕ → Option BufKind). y b) bufs ∙ room.bufs b (omega (arith, le));
            dims = λ d le. dims_other bs f d q (λ z. omega (arith, le)) ∙ (at d ∙ room.dims d (omega (arith, le)));
          };
          sources = sources_same bs f q ∙ rest.sources;
          bufs = λ b lt. ap (λ (y : ℕ → Option BufKind). y b) bufs;
          dims = λ d lt. dims_other bs f d q (λ z. absurd (omega (arith, z, lt))) ∙ at d;
        };
      },
      λ j lt. dims_new bs f j q lt,
    )
