-- The dim lines of the packs behind those of a phase.
use Rattle.std.proofs.Common.{◌≡◌, ℕ, zero, suc, ◌+◌, ◌-◌, ◌*◌, ◌≤◌, Bool, true, false, cond, List, [], ◌∷◌, ◌++◌, length, refl, sym, ap, ◌∙◌, arith, ℤ}
use Rattle.us_code.specs.declared.program.Dim.TheVariants as dim
use Rattle.us_code.specs.declared.program.Make.{Make}
use Rattle.us_code.specs.Plain.{Code, LineTree, PhaseTree}
use Rattle.us_code.specs.Run.{exec, size_of}
use Rattle.us_code.specs.Runs.{World, Ran, Went, TooLarge, Stuck, ◌>>=◌, make, make_all, line, line_all, after_body, begin, phases}
use Rattle.us_code_laws.proofs.Sequence.{put_same, put_other}
use Rattle.us_gen.specs.Goes.{Keeps, Leads, after, lined}
use Rattle.us_gen.proofs.Going.{leads_none, leads_weaker, product_leads}
use Rattle.us_gen_building.specs.declared.part.Descent.{Descent}
use Rattle.us_gen_building.specs.Runs.{IsBelow}
use Rattle.us_gen_building.proofs.Lines.{leads_looser, size_kept, below_up}
use Rattle.us_gen_pack_building.specs.declared.part.PackRun.{PackRun}
use Rattle.us_gen_pack_building.specs.Levels.{column_terms, writers, pack_lines}
use Rattle.us_gen_pack_building.specs.Phases.{with_lines}
use Rattle.us_gen_pack_building.specs.Runs.{AreCellsSmall, HaveCells}

-- ---- one list behind another

bind_same : (r : Ran) (f g : World → Ran) → ((w : World) → f w ≡ g w) → r >>= f ≡ r >>= g
bind_same (Went w) f g h = h w
bind_same (TooLarge n) f g h = refl
bind_same Stuck f g h = refl

bind_bind : (r : Ran) (f g : World → Ran) → (r >>= f) >>= g ≡ r >>= (λ w. f w >>= g)
bind_bind (Went w) f g = refl
bind_bind (TooLarge n) f g = refl
bind_bind Stuck f g = refl

bind_end : (r : Ran) → r >>= Went ≡ r
bind_end (Went w) = refl
bind_end (TooLarge n) = refl
bind_end Stuck = refl

pub makes_append : (a b : List Make) (w : World) → make_all (a ++ b) w ≡ make_all a w >>= make_all b
makes_append [] b w = refl
makes_append (m ∷ a) b w = bind_same (make m w) (make_all (a ++ b)) (λ u. make_all a u >>= make_all b) (makes_append a b) ∙ sym (bind_bind (make m w) (make_all a) (make_all b))

lines_append : (regs : ℕ → ℤ) (a b : List LineTree) (w : World) → line_all regs (a ++ b) w ≡ line_all regs a w >>= line_all regs b
lines_append regs [] b w = refl
lines_append regs (l ∷ a) b w = bind_same (line regs l w) (line_all regs (a ++ b)) (λ u. line_all regs a u >>= line_all regs b) (lines_append regs a b) ∙ sym (bind_bind (line regs l w) (line_all regs a) (line_all regs b))

-- ---- a phase with more lines

went_same : (z e : World) → Went z ≡ Went e → z ≡ e
went_same z e h = cc

ends_there : (r : Ran) (e : World) (f : World → Ran) → r >>= Went ≡ Went e → (r >>= f) >>= Went ≡ f e
ends_there (Went z) e f h = bind_end (f z) ∙ ap f (went_same z e h)
ends_there (TooLarge n) e f h = absurd cc
ends_there Stuck e f h = absurd cc

body_more : (b : Bool) (regs : ℕ → ℤ) (a more : List LineTree) (v e : World) → cond b Stuck (line_all regs a v) >>= Went ≡ Went e → cond b Stuck (line_all regs (a ++ more) v) >>= Went ≡ line_all regs more e
body_more true regs a more v e h = absurd cc
body_more false regs a more v e h = ap (λ (r : Ran). r >>= Went) (lines_append regs a more v) ∙ ends_there (line_all regs a v) e (line_all regs more) h

start_more : (r : Ran) (body : Code) (a more : List LineTree) (e : World) → (r >>= (λ u. after_body (exec u.env body (begin u)) a u)) >>= Went ≡ Went e
    → (regs : ℕ → ℤ) × ((r >>= (λ u. after_body (exec u.env body (begin u)) (a ++ more) u)) >>= Went ≡ line_all regs more e)
start_more (Went u) body a more e h = ((exec u.env body (begin u)).regs, body_more (exec u.env body (begin u)).stuck (exec u.env body (begin u)).regs a more (after u (exec u.env body (begin u))) e h)
start_more (TooLarge n) body a more e h = absurd cc
start_more Stuck body a more e h = absurd cc

-- from where the phase ends, its run with more lines goes on by these
pub phase_more : (p : PhaseTree) (more : List LineTree) (w e : World) → phases (p ∷ []) w ≡ Went e → (regs : ℕ → ℤ) × (phases (with_lines p more ∷ []) w ≡ line_all regs more e)
phase_more p more w e h = start_more (make_all p.makes w) p.body p.lines more e h

-- ---- the lines of the packs

pub terms_long : (r n : ℕ) → length (column_terms r n) ≡ n
terms_long r zero = refl
terms_long r (suc n) = ap suc (terms_long (r + 1) n)

lined_kept : (low d n f : ℕ) (w : World) → low ≤ d → Keeps low w (lined d n f w)
lined_kept low d n f w le = record {
  sources = refl;
  dims = λ x h. put_other w.env.dims d _ x (λ e. omega (arith, e, h, le));
  factors = λ x h. put_other w.env.factors d _ x (λ e. omega (arith, e, h, le));
  bufs = λ b h. refl;
}

pub packs_lead : (regs : ℕ → ℤ) (rs : List PackRun) (name register : ℕ) (x : Descent) (n : ℕ) (w : World) → size_of w.env x.above ≡ n → IsBelow name x.above → AreCellsSmall n rs
    → Leads name (length rs) w (line_all regs (pack_lines (writers rs name register x)) w) (λ u. HaveCells u.env (writers rs name register x))
packs_lead regs [] name register x n w e b s = leads_none name w (λ u. HaveCells u.env (writers [] name register x)) tt
packs_lead regs (r ∷ rs) name register x n w e b s =
    let m : ℕ = length (column_terms (register + r.first) (r.end - r.first)) in
    let long : m ≡ r.end - r.first = terms_long (register + r.first) (r.end - r.first) in
    let number : ℕ = size_of w.env x.above * m in
    let is : number ≡ n * (r.end - r.first) = ap (λ (y : ℕ). y * m) e ∙ ap (λ (y : ℕ). n * y) long in
    let v : World = lined name number m w in
    let k : Keeps name w v = lined_kept name name number m w (omega arith) in
    let up : IsBelow (name + 1) x.above = below_up name (name + 1) x.above (omega arith) b in
    let more : List LineTree = pack_lines (writers rs (name + 1) register x) in
    leads_looser name name (length rs + 1) (length (r ∷ rs)) w (line_all regs (pack_lines (writers (r ∷ rs) name register x)) w) (λ u. HaveCells u.env (writers (r ∷ rs) name register x)) (omega arith) (omega arith)
    (product_leads name (length rs) regs name x.above (dim.Number m) more w (λ u. HaveCells u.env (writers (r ∷ rs) name register x)) (omega arith) (omega (arith, is, s.0))
    (leads_looser (name + 1) name (length rs) (length rs) v (line_all regs more v) (λ u. HaveCells u.env (writers (r ∷ rs) name register x)) (omega arith) (omega arith)
    (leads_weaker (name + 1) (length rs) v (line_all regs more v) (λ u. HaveCells u.env (writers rs (name + 1) register x)) (λ u. HaveCells u.env (writers (r ∷ rs) name register x))
    (λ u h q. (
      q.dims name (omega arith) ∙ (put_same w.env.dims name _ ∙ ap (λ (y : ℕ). y * m) (sym (size_kept (name + 1) v u x.above q up ∙ size_kept name w v x.above k b))),
      q.factors name (omega arith) ∙ put_same w.env.factors name _,
      h,
    ))
    (packs_lead regs rs (name + 1) register x n v (size_kept name w v x.above k b ∙ e) up s.1))))
