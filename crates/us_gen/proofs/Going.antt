-- Phases, `new` lines and dim lines, one after the other.
use Rattle.std.proofs.Common.{◌≡◌, ◌≢◌, ℕ, ◌+◌, ◌*◌, ◌<◌, ◌≤◌, Bool, false, cond, nat_lt, refl, sym, ap, ◌∙◌, subst, arith, List, [], ◌∷◌, ◌++◌, pos, ℤ}
use Rattle.std.proofs.lemmas.Bool.Decides.{nat_tests}
use Rattle.us_code.specs.declared.program.Dim.{Dim}
use Rattle.us_code.specs.declared.program.Make.{Make}
use Rattle.us_code.specs.Plain.{LineTree, PhaseTree, TermTree}
use Rattle.us_code.specs.Plain as plain
use Rattle.us_code.specs.Run.{State, exec, size_of, value}
use Rattle.us_code.specs.Runs.{World, Ran, Went, TooLarge, Stuck, ◌>>=◌, with_dim, whole, within, make_all, line_all, after_body, begin, phase, phases}
use Rattle.us_code_laws.specs.Does.{Does}
use Rattle.us_code_laws.proofs.Sequence.{put_other, phases_append}
use Rattle.us_gen.specs.Goes.{Keeps, Arrives, Leads, Goes, Makes, Lines, after, Blocks, PhasesCompose, made, lined, NewLines, DimLines}

pub keeps_all : (low : ℕ) (w : World) → Keeps low w w
keeps_all low w = record { sources = refl; dims = λ d h. refl; factors = λ d h. refl; bufs = λ b h. refl }

pub keeps_both : (low high : ℕ) (w u v : World) → low ≤ high → Keeps low w u → Keeps high u v → Keeps low w v
keeps_both low high w u v le x y = record {
  sources = y.sources ∙ x.sources;
  dims = λ d h. y.dims d (omega arith) ∙ x.dims d h;
  factors = λ d h. y.factors d (omega arith) ∙ x.factors d h;
  bufs = λ b h. y.bufs b (omega arith) ∙ x.bufs b h;
}

pub arrived : (low : ℕ) (w : World) → Arrives low 0 w (Went w) w
arrived low w = record { is = refl; steps = omega arith; keeps = keeps_all low w }

-- a run, and one from where it arrives
pub arrives_both : (low high m n : ℕ) (w u v : World) (r : Ran) (f : World → Ran) → low ≤ high → Arrives low m w r u → Arrives high n u (f u) v → Arrives low (m + n) w (r >>= f) v
arrives_both low high m n w u v r f le x z = record {
  is = ap (λ (q : Ran). q >>= f) x.is ∙ z.is;
  steps = omega (arith, x.steps, z.steps);
  keeps = keeps_both low high w u v le x.keeps z.keeps;
}

-- one step that changes nothing below low, and what goes on from there
step_on : (low cost : ℕ) (w u v : World) (r : Ran) → u.steps ≡ w.steps + 1 → Keeps low w u → Arrives low cost u r v → Arrives low (cost + 1) w r v
step_on low cost w u v r st k x = record { is = x.is; steps = omega (arith, x.steps, st); keeps = keeps_both low low w u v (omega arith) k x.keeps }

within_goes : (n : ℕ) (old new : World) → n ≤ 67108865 → within n old new ≡ Went record { env = new.env; bufs = new.bufs; steps = old.steps + 1 }
within_goes n old new le = let f : nat_lt 67108865 n ≡ false = grind (arith, nat_tests) in ap (λ b. cond b (TooLarge (old.steps + 1)) (Went record { env = new.env; bufs = new.bufs; steps = old.steps + 1 })) f

pub looser : (low lower m n : ℕ) (ps : List PhaseTree) (w u : World) → lower ≤ low → m ≤ n → Goes low m ps w u → Goes lower n ps w u
looser low lower m n ps w u le lc x = record { is = x.is; steps = omega (arith, x.steps); keeps = keeps_both lower low w w u le (keeps_all lower w) x.keeps }

pub in_sequence : (low high m n : ℕ) (a b : List PhaseTree) (w u v : World) → low ≤ high → Goes low m a w u → Goes high n b u v → Goes low (m + n) (a ++ b) w v
in_sequence low high m n a b w u v le x y = subst (λ (r : Ran). Arrives low (m + n) w r v) (sym (phases_append a b w)) (arrives_both low high m n w u v (phases a w) (phases b) le x y)

bind_end : (r : Ran) → r >>= Went ≡ r
bind_end (Went w) = refl
bind_end (TooLarge n) = refl
bind_end Stuck = refl

-- from the world behind the `new` lines to the end of the phase
body_goes : (low n k : ℕ) (u v : World) (s : State) (ls : List LineTree) → Blocks low n u s → Lines low k s.regs ls (after u s) v → Arrives low (n + k) u (after_body s ls u) v
body_goes low n k u v s ls b x =
    let kept : Keeps low u (after u s) = record { sources = refl; dims = λ d h. refl; factors = λ d h. refl; bufs = b.bufs } in
    record {
      is = ap (λ (q : Bool). cond q Stuck (line_all s.regs ls (after u s))) b.stuck ∙ x.is;
      steps = omega (arith, x.steps, b.steps);
      keeps = keeps_both low low u (after u s) v (omega arith) kept x.keeps;
    }

pub one_phase : (low m n k : ℕ) (p : PhaseTree) (w u v : World) → Makes low m p.makes w u → Blocks low n u (exec u.env p.body (begin u)) → Lines low k (exec u.env p.body (begin u)).regs p.lines (after u (exec u.env p.body (begin u))) v → Goes low (m + n + k) (p ∷ []) w v
one_phase low m n k p w u v x b y =
    let c : m + (n + k) ≡ m + n + k = omega arith in
    let go : Arrives low (m + (n + k)) w (phase p w) v = arrives_both low low m (n + k) w u v (make_all p.makes w) (λ u. after_body (exec u.env p.body (begin u)) p.lines u) (omega arith) x (body_goes low n k u v (exec u.env p.body (begin u)) p.lines b y) in
    subst (λ (r : Ran). Arrives low (m + n + k) w r v) (sym (bind_end (phase p w))) (subst (λ (y : ℕ). Arrives low y w (phase p w) v) c go)

pub phases_compose : PhasesCompose
phases_compose = record { none = λ low w. arrived low w; looser = looser; in_sequence = in_sequence; one = one_phase }

-- numbers from low on are no numbers below it
apart : (low d x : ℕ) → low ≤ d → x < low → d ≢ x
apart low d x le lt = λ e. omega arith

made_keeps : (low : ℕ) (m : Make) (w : World) → low ≤ m.buf → Keeps low w (made m w)
made_keeps low m w le = record { sources = refl; dims = λ d h. refl; factors = λ d h. refl; bufs = λ b h. put_other w.bufs m.buf _ b (apart low m.buf b le h) }

pub new_more : (low cost : ℕ) (m : Make) (ms : List Make) (w u : World) → low ≤ m.buf → size_of w.env m.len ≤ 67108865 → Makes low cost ms (made m w) u → Makes low (cost + 1) (m ∷ ms) w u
new_more low cost m ms w u le size x =
    let e = ap (λ (r : Ran). r >>= make_all ms) (within_goes (size_of w.env m.len) w (made m w) size) in
    subst (λ (r : Ran). Arrives low (cost + 1) w r u) (sym e) (step_on low cost w (made m w) u (make_all ms (made m w)) refl (made_keeps low m w le) x)

pub new_lines : NewLines
new_lines = record { none = λ low w. arrived low w; more = new_more }

lined_keeps : (low d n f : ℕ) (w : World) → low ≤ d → Keeps low w (lined d n f w)
lined_keeps low d n f w le = record { sources = refl; dims = λ x h. put_other w.env.dims d _ x (apart low d x le h); factors = λ x h. put_other w.env.factors d _ x (apart low d x le h); bufs = λ b h. refl }

line_more : (low cost : ℕ) (regs : ℕ → ℤ) (d n f : ℕ) (ls : List LineTree) (w u : World) → low ≤ d → n ≤ 67108865 → Lines low cost regs ls (lined d n f w) u → Arrives low (cost + 1) w (within n w (with_dim d n f w) >>= line_all regs ls) u
line_more low cost regs d n f ls w u le size x =
    let e = ap (λ (r : Ran). r >>= line_all regs ls) (within_goes n w (with_dim d n f w) size) in
    subst (λ (r : Ran). Arrives low (cost + 1) w r u) (sym e) (step_on low cost w (lined d n f w) u (line_all regs ls (lined d n f w)) refl (lined_keeps low d n f w le) x)

pub line_of : (low cost : ℕ) (regs : ℕ → ℤ) (d n : ℕ) (e : TermTree) (ls : List LineTree) (w u : World) → low ≤ d → value w.env regs e ≡ pos n → n ≤ 67108865 → Lines low cost regs ls (lined d n 0 w) u → Lines low (cost + 1) regs (plain.Of d e ∷ ls) w u
line_of low cost regs d n e ls w u le is size x = subst (λ (z : ℤ). Arrives low (cost + 1) w (within (whole z) w (with_dim d (whole z) 0 w) >>= line_all regs ls) u) (sym is) (line_more low cost regs d n 0 ls w u le size x)

pub dim_lines : DimLines
dim_lines = record {
  none = λ low regs w. arrived low w;
  of = line_of;
  product = λ low cost regs d l r ls w u le size x. line_more low cost regs d (size_of w.env l * size_of w.env r) (size_of w.env r) ls w u le size x;
  successor = λ low cost regs d b ls w u le size x. line_more low cost regs d (size_of w.env b + 1) 0 ls w u le size x;
}

-- the same, for any end with Q
pub leads_none : (low : ℕ) (w : World) (Q : World → Type 0) → Q w → Leads low 0 w (Went w) Q
leads_none low w Q q = record { end = w; arrives = arrived low w; post = q }

pub leads_weaker : (low cost : ℕ) (w : World) (r : Ran) (P Q : World → Type 0) → ((u : World) → P u → Keeps low w u → Q u) → Leads low cost w r P → Leads low cost w r Q
leads_weaker low cost w r P Q f x = record { end = x.end; arrives = x.arrives; post = f x.end x.post x.arrives.keeps }

pub leads_both : (low high m n : ℕ) (a b : List PhaseTree) (w : World) (P Q : World → Type 0) → low ≤ high → Leads low m w (phases a w) P → ((u : World) → P u → Keeps low w u → Leads high n u (phases b u) Q) → Leads low (m + n) w (phases (a ++ b) w) Q
leads_both low high m n a b w P Q le x y =
    let z = y x.end x.post x.arrives.keeps in
    record { end = z.end; arrives = in_sequence low high m n a b w x.end z.end le x.arrives z.arrives; post = z.post }

-- what a phase's block does: its cost, the buffers that it keeps, and where its dim lines lead from there
pub record Body (low cost lines : ℕ) (ls : List LineTree) (Q : World → Type 0) (u : World) (s : State) : Type 0 where
  pub steps : s.steps ≤ u.steps + cost
  pub bufs : (b : ℕ) → b < low → s.bufs b ≡ u.bufs b
  pub then : Leads low lines (after u s) (line_all s.regs ls (after u s)) Q

pub phase_leads : (low m n k : ℕ) (p : PhaseTree) (w : World) (P Q : World → Type 0) → Leads low m w (make_all p.makes w) P → ((u : World) → P u → Keeps low w u → Does u.env p.body (begin u) (Body low n k p.lines Q u)) → Leads low (m + n + k) w (phases (p ∷ []) w) Q
phase_leads low m n k p w P Q x y =
    let d = y x.end x.post x.arrives.keeps in
    record {
      end = d.post.then.end;
      arrives = one_phase low m n k p w x.end d.post.then.end x.arrives record { stuck = d.calm; steps = d.post.steps; bufs = d.post.bufs } d.post.then.arrives;
      post = d.post.then.post;
    }

pub new_leads : (low cost : ℕ) (m : Make) (ms : List Make) (w : World) (Q : World → Type 0) → low ≤ m.buf → size_of w.env m.len ≤ 67108865 → Leads low cost (made m w) (make_all ms (made m w)) Q → Leads low (cost + 1) w (make_all (m ∷ ms) w) Q
new_leads low cost m ms w Q le size x = record { end = x.end; arrives = new_more low cost m ms w x.end le size x.arrives; post = x.post }

pub line_leads : (low cost : ℕ) (regs : ℕ → ℤ) (d n : ℕ) (e : TermTree) (ls : List LineTree) (w : World) (Q : World → Type 0) → low ≤ d → value w.env regs e ≡ pos n → n ≤ 67108865 → Leads low cost (lined d n 0 w) (line_all regs ls (lined d n 0 w)) Q → Leads low (cost + 1) w (line_all regs (plain.Of d e ∷ ls) w) Q
line_leads low cost regs d n e ls w Q le is size x = record { end = x.end; arrives = line_of low cost regs d n e ls w x.end le is size x.arrives; post = x.post }

pub product_leads : (low cost : ℕ) (regs : ℕ → ℤ) (d : ℕ) (left right : Dim) (ls : List LineTree) (w : World) (Q : World → Type 0) → low ≤ d → size_of w.env left * size_of w.env right ≤ 67108865 → Leads low cost (lined d (size_of w.env left * size_of w.env right) (size_of w.env right) w) (line_all regs ls (lined d (size_of w.env left * size_of w.env right) (size_of w.env right) w)) Q → Leads low (cost + 1) w (line_all regs (plain.Product d left right ∷ ls) w) Q
product_leads low cost regs d l r ls w Q le size x = record { end = x.end; arrives = dim_lines.product low cost regs d l r ls w x.end le size x.arrives; post = x.post }

pub successor_leads : (low cost : ℕ) (regs : ℕ → ℤ) (d : ℕ) (before : Dim) (ls : List LineTree) (w : World) (Q : World → Type 0) → low ≤ d → size_of w.env before + 1 ≤ 67108865 → Leads low cost (lined d (size_of w.env before + 1) 0 w) (line_all regs ls (lined d (size_of w.env before + 1) 0 w)) Q → Leads low (cost + 1) w (line_all regs (plain.Successor d before ∷ ls) w) Q
successor_leads low cost regs d b ls w Q le size x = record { end = x.end; arrives = dim_lines.successor low cost regs d b ls w x.end le size x.arrives; post = x.post }
