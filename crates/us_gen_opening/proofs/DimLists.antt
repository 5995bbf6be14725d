-- Lists of dim lines: what the dims are behind them, and where they lead.
use Rattle.std.proofs.Common.{◌≡◌, ℕ, ◌+◌, ◌*◌, ◌/◌, ◌≤◌, refl, sym, ap, ◌∙◌, subst, arith, List, [], ◌∷◌, ◌++◌, length, pos, ℤ}
use Rattle.us_code.specs.declared.program.Dim.TheVariants as dim
use Rattle.us_code.specs.Plain.{TermTree, Reg, Size, Div, LineTree}
use Rattle.us_code.specs.Plain as plain
use Rattle.us_code.specs.Run.{Env, put, size_of, value}
use Rattle.us_code.specs.Runs.{World, Ran, whole, line_all}
use Rattle.us_code_laws.proofs.Sequence.{put_same, put_other}
use Rattle.us_format.specs.Reading.{limit}
use Rattle.us_gen.specs.Goes.{Leads, lined}
use Rattle.us_gen.proofs.Going.{leads_none, line_leads, product_leads, successor_leads}
use Rattle.us_gen_walk.specs.declared.places.Column.TheVariants as column
use Rattle.us_gen_walk.specs.declared.places.Loop.{Loop}
use Rattle.us_gen_walk.specs.declared.places.Loop.TheVariants as over
use Rattle.us_gen_opening.specs.declared.parts.Extent.{Extent}
use Rattle.us_gen_opening.specs.declared.parts.Opening.{Opening}
use Rattle.us_gen_opening.specs.Opening.{extent_lines, loop_lines, counter, opening_lines}
use Rattle.us_gen_opening.specs.Dims.{IsOther, AreNew, AreNamed, cell_count, ExtentsAre, NodesAre, DimsAre}

-- ---- any lines

-- with one more dim
abbrev pub set_dim : ℕ → ℕ → ℕ → Env → Env
set_dim d n f env = record { dims = put env.dims d n; factors = put env.factors d f; sources = env.sources }

abbrev pub after_lines : (ℕ → ℤ) → List LineTree → Env → Env
after_lines regs [] env = env
after_lines regs (plain.Of d e ∷ ls) env = after_lines regs ls (set_dim d (whole (value env regs e)) 0 env)
after_lines regs (plain.Product d l r ∷ ls) env = after_lines regs ls (set_dim d (size_of env l * size_of env r) (size_of env r) env)
after_lines regs (plain.Successor d of ∷ ls) env = after_lines regs ls (set_dim d (size_of env of + 1) 0 env)

-- each line makes a number that a dim can be
abbrev pub AreSmall : (ℕ → ℤ) → List LineTree → Env → Type 0
AreSmall regs [] env = Unit {0}
AreSmall regs (plain.Of d e ∷ ls) env = (value env regs e ≡ pos (whole (value env regs e))) × (whole (value env regs e) ≤ 67108865) × AreSmall regs ls (set_dim d (whole (value env regs e)) 0 env)
AreSmall regs (plain.Product d l r ∷ ls) env = (size_of env l * size_of env r ≤ 67108865) × AreSmall regs ls (set_dim d (size_of env l * size_of env r) (size_of env r) env)
AreSmall regs (plain.Successor d of ∷ ls) env = (size_of env of + 1 ≤ 67108865) × AreSmall regs ls (set_dim d (size_of env of + 1) 0 env)

-- where lines lead
abbrev pub Behind : (ℕ → ℤ) → List LineTree → World → World → Type 0
Behind regs ls w u = (u.env ≡ after_lines regs ls w.env) × (u.bufs ≡ w.bufs)

one_longer : (low : ℕ) (l : LineTree) (ls : List LineTree) (w : World) (r : Ran) (Q : World → Type 0) → Leads low (length ls + 1) w r Q → Leads low (length (l ∷ ls)) w r Q
one_longer low l ls w r Q x = let e : length ls + 1 ≡ length (l ∷ ls) = omega arith in subst (λ (n : ℕ). Leads low n w r Q) e x

pub lines_lead : (low : ℕ) (regs : ℕ → ℤ) (ls : List LineTree) (w : World) → AreNew low ls → AreSmall regs ls w.env → Leads low (length ls) w (line_all regs ls w) (Behind regs ls w)
lines_lead low regs [] w new small = leads_none low w (Behind regs [] w) (refl, refl)
lines_lead low regs (plain.Of d e ∷ ls) w new small =
    let n = whole (value w.env regs e) in
    one_longer low (plain.Of d e) ls w (line_all regs (plain.Of d e ∷ ls) w) (Behind regs (plain.Of d e ∷ ls) w)
    (line_leads low (length ls) regs d n e ls w (Behind regs (plain.Of d e ∷ ls) w) new.0 small.0 small.1 (lines_lead low regs ls (lined d n 0 w) new.2 small.2))
lines_lead low regs (plain.Product d l r ∷ ls) w new small =
    one_longer low (plain.Product d l r) ls w (line_all regs (plain.Product d l r ∷ ls) w) (Behind regs (plain.Product d l r ∷ ls) w)
    (product_leads low (length ls) regs d l r ls w (Behind regs (plain.Product d l r ∷ ls) w) new.0 small.0
    (lines_lead low regs ls (lined d (size_of w.env l * size_of w.env r) (size_of w.env r) w) new.2 small.1))
lines_lead low regs (plain.Successor d of ∷ ls) w new small =
    one_longer low (plain.Successor d of) ls w (line_all regs (plain.Successor d of ∷ ls) w) (Behind regs (plain.Successor d of ∷ ls) w)
    (successor_leads low (length ls) regs d of ls w (Behind regs (plain.Successor d of ∷ ls) w) new.0 small.0 (lines_lead low regs ls (lined d (size_of w.env of + 1) 0 w) new.2 small.1))

pub sources_kept : (regs : ℕ → ℤ) (ls : List LineTree) (env : Env) → (after_lines regs ls env).sources ≡ env.sources
sources_kept regs [] env = refl
sources_kept regs (plain.Of d e ∷ ls) env = sources_kept regs ls _
sources_kept regs (plain.Product d l r ∷ ls) env = sources_kept regs ls _
sources_kept regs (plain.Successor d of ∷ ls) env = sources_kept regs ls _

-- a dim that no line makes
pub dim_kept : (regs : ℕ → ℤ) (ls : List LineTree) (env : Env) (d : ℕ) → IsOther d ls → (after_lines regs ls env).dims d ≡ env.dims d
dim_kept regs [] env d o = refl
dim_kept regs (plain.Of x e ∷ ls) env d o = dim_kept regs ls _ d o.1 ∙ put_other env.dims x _ d (λ q. o.0 (sym q))
dim_kept regs (plain.Product x l r ∷ ls) env d o = dim_kept regs ls _ d o.1 ∙ put_other env.dims x _ d (λ q. o.0 (sym q))
dim_kept regs (plain.Successor x of ∷ ls) env d o = dim_kept regs ls _ d o.1 ∙ put_other env.dims x _ d (λ q. o.0 (sym q))

pub after_both : (regs : ℕ → ℤ) (a b : List LineTree) (env : Env) → after_lines regs (a ++ b) env ≡ after_lines regs b (after_lines regs a env)
after_both regs [] b env = refl
after_both regs (plain.Of d e ∷ a) b env = after_both regs a b _
after_both regs (plain.Product d l r ∷ a) b env = after_both regs a b _
after_both regs (plain.Successor d of ∷ a) b env = after_both regs a b _

pub small_both : (regs : ℕ → ℤ) (a b : List LineTree) (env : Env) → AreSmall regs a env → AreSmall regs b (after_lines regs a env) → AreSmall regs (a ++ b) env
small_both regs [] b env x y = y
small_both regs (plain.Of d e ∷ a) b env x y = (x.0, x.1, small_both regs a b _ x.2 y)
small_both regs (plain.Product d l r ∷ a) b env x y = (x.0, small_both regs a b _ x.1 y)
small_both regs (plain.Successor d of ∷ a) b env x y = (x.0, small_both regs a b _ x.1 y)

pub new_behind : (low : ℕ) (a b : List LineTree) → AreNew low (a ++ b) → AreNew low b
new_behind low [] b n = n
new_behind low (l ∷ a) b n = new_behind low a b n.2

-- ---- extents

-- registers that hold the extents of sources
abbrev pub HoldExtents : (ℕ → List ℤ) → List Extent → ℕ → (ℕ → ℤ) → Type 0
HoldExtents sources [] n regs = Unit {0}
HoldExtents sources (e ∷ es) n regs = (v : ℕ) × (sources e.source ≡ pos v ∷ []) × (v ≤ limit) × (regs n ≡ pos v) × HoldExtents sources es (n + 3) regs

abbrev one_cell : ℕ → List ℤ
one_cell x = pos x ∷ []

pub extents_are : (regs : ℕ → ℤ) (low : ℕ) (es : List Extent) (n : ℕ) (rest : List LineTree) (env : Env) → AreNew low (extent_lines es n ++ rest) → HoldExtents env.sources es n regs
    → ExtentsAre (after_lines regs (extent_lines es n ++ rest) env) es
extents_are regs low [] n rest env new h = tt
extents_are regs low (e ∷ es) n rest env new h =
    let env1 = set_dim e.dim (whole (regs n)) 0 env in
    let more = extent_lines es (n + 3) ++ rest in
    let E = after_lines regs more env1 in
    let same : E.sources ≡ env.sources = sources_kept regs more env1 in
    let is : E.dims e.dim ≡ h.0 = dim_kept regs more env1 e.dim new.1 ∙ (put_same env.dims e.dim _ ∙ ap whole h.3) in
    (ap (λ (f : ℕ → List ℤ). f e.source) same ∙ (h.1 ∙ ap one_cell (sym is)), extents_are regs low es (n + 3) rest env1 new.2 h.4)

pub extents_small : (regs : ℕ → ℤ) (es : List Extent) (n : ℕ) (env : Env) → HoldExtents env.sources es n regs → AreSmall regs (extent_lines es n) env
extents_small regs [] n env h = tt
extents_small regs (e ∷ es) n env h =
    let is : whole (regs n) ≡ h.0 = ap whole h.3 in
    (h.3 ∙ ap pos (sym is), omega (arith, is, h.2), extents_small regs es (n + 3) (set_dim e.dim (whole (regs n)) 0 env) h.4)

-- ---- nodes

-- as many cells as a dim can be
abbrev pub AreShort : (ℕ → List ℤ) → List Loop → Type 0
AreShort sources [] = Unit {0}
AreShort sources (over.Full size low ∷ ls) = AreShort sources ls
AreShort sources (over.Nodes k more nodes crd low ∷ ls) = (cell_count sources crd ≤ limit) × AreShort sources ls

pub nodes_are : (regs : ℕ → ℤ) (low : ℕ) (ls : List Loop) (rest : List LineTree) (env : Env) → AreNew low (loop_lines ls ++ rest) → AreNamed ls → NodesAre (after_lines regs (loop_lines ls ++ rest) env) ls
nodes_are regs low [] rest env new named = tt
nodes_are regs low (over.Full size lo ∷ ls) rest env new named = nodes_are regs low ls rest env new named
nodes_are regs low (over.Nodes k (dim.Number x) nodes crd lo ∷ ls) rest env new named = absurd named.0
nodes_are regs low (over.Nodes k (dim.Len x) nodes crd lo ∷ ls) rest env new named = absurd named.0
nodes_are regs low (over.Nodes k (dim.Name m) nodes (column.Own j) lo ∷ ls) rest env new named =
    let env1 = set_dim m (size_of env nodes + 1) 0 env in
    let more = loop_lines ls ++ rest in
    let E = after_lines regs more env1 in
    let same : length (E.sources j) ≡ length (env.sources j) = ap (λ (f : ℕ → List ℤ). length (f j)) (sources_kept regs more env1) in
    let there : size_of E nodes ≡ length (E.sources j) = ap (size_of E) named.1 in
    let here : size_of env nodes ≡ length (env.sources j) = ap (size_of env) named.1 in
    let is : E.dims m ≡ size_of env nodes + 1 = dim_kept regs more env1 m new.1 ∙ put_same env.dims m _ in
    (there, omega (arith, is, here, there, same), nodes_are regs low ls rest env1 new.2 named.2)
nodes_are regs low (over.Nodes k (dim.Name m) (dim.Number x) (column.Packed i w digit) lo ∷ ls) rest env new named = absurd named.1
nodes_are regs low (over.Nodes k (dim.Name m) (dim.Len x) (column.Packed i w digit) lo ∷ ls) rest env new named = absurd named.1
nodes_are regs low (over.Nodes k (dim.Name m) (dim.Name d) (column.Packed i w digit) lo ∷ ls) rest env new named =
    let n = length (env.sources i) / w in
    let env1 = set_dim d n 0 env in
    let env2 = set_dim m (env1.dims d + 1) 0 env1 in
    let more = loop_lines ls ++ rest in
    let E = after_lines regs more env2 in
    let same : length (E.sources i) / w ≡ n = ap (λ (f : ℕ → List ℤ). length (f i) / w) (sources_kept regs more env2) in
    let first : env1.dims d ≡ n = put_same env.dims d n in
    let nodes_is : E.dims d ≡ n = dim_kept regs more env2 d new.1.1 ∙ (put_other env1.dims m _ d (λ q. new.1.0 (sym q)) ∙ first) in
    let more_is : E.dims m ≡ env1.dims d + 1 = dim_kept regs more env2 m new.2.1 ∙ put_same env1.dims m _ in
    (nodes_is ∙ sym same, omega (arith, more_is, first, nodes_is), nodes_are regs low ls rest env2 new.2.2 named.2)

pub nodes_small : (regs : ℕ → ℤ) (ls : List Loop) (env : Env) → AreNamed ls → AreShort env.sources ls → AreSmall regs (loop_lines ls) env
nodes_small regs [] env named short = tt
nodes_small regs (over.Full size lo ∷ ls) env named short = nodes_small regs ls env named short
nodes_small regs (over.Nodes k (dim.Number x) nodes crd lo ∷ ls) env named short = absurd named.0
nodes_small regs (over.Nodes k (dim.Len x) nodes crd lo ∷ ls) env named short = absurd named.0
nodes_small regs (over.Nodes k (dim.Name m) nodes (column.Own j) lo ∷ ls) env named short =
    let here : size_of env nodes ≡ length (env.sources j) = ap (size_of env) named.1 in
    (omega (arith, here, short.0), nodes_small regs ls (set_dim m (size_of env nodes + 1) 0 env) named.2 short.1)
nodes_small regs (over.Nodes k (dim.Name m) (dim.Number x) (column.Packed i w digit) lo ∷ ls) env named short = absurd named.1
nodes_small regs (over.Nodes k (dim.Name m) (dim.Len x) (column.Packed i w digit) lo ∷ ls) env named short = absurd named.1
nodes_small regs (over.Nodes k (dim.Name m) (dim.Name d) (column.Packed i w digit) lo ∷ ls) env named short =
    let n = length (env.sources i) / w in
    let env1 = set_dim d n 0 env in
    let first : env1.dims d ≡ n = put_same env.dims d n in
    (refl, omega (arith, short.0), (omega (arith, first, short.0), nodes_small regs ls (set_dim m (env1.dims d + 1) 0 env1) named.2 short.1))

-- ---- all parts

abbrev pub AllNamed : List Opening → Type 0
AllNamed [] = Unit {0}
AllNamed (o ∷ os) = AreNamed o.loops.items × AllNamed os

abbrev pub AllExtents : (ℕ → List ℤ) → List Opening → ℕ → (ℕ → ℤ) → Type 0
AllExtents sources [] n regs = Unit {0}
AllExtents sources (o ∷ os) n regs = HoldExtents sources o.extents.items n regs × AllExtents sources os (counter o n + 3) regs

abbrev pub AllShort : (ℕ → List ℤ) → List Opening → Type 0
AllShort sources [] = Unit {0}
AllShort sources (o ∷ os) = AreShort sources o.loops.items × AllShort sources os

pub dims_are : (regs : ℕ → ℤ) (low : ℕ) (os : List Opening) (n : ℕ) (last : LineTree) (env : Env) → AreNew low (opening_lines os n last) → AllNamed os → AllExtents env.sources os n regs
    → DimsAre (after_lines regs (opening_lines os n last) env) os
dims_are regs low [] n last env new named h = tt
dims_are regs low (o ∷ os) n last env new named h =
    let X = extent_lines o.extents.items n in
    let L = loop_lines o.loops.items in
    let M = opening_lines os (counter o n + 3) last in
    let env1 = after_lines regs X env in
    let env2 = after_lines regs L env1 in
    let one : after_lines regs (X ++ (L ++ M)) env ≡ after_lines regs (L ++ M) env1 = after_both regs X (L ++ M) env in
    let two : after_lines regs (L ++ M) env1 ≡ after_lines regs M env2 = after_both regs L M env1 in
    let new1 = new_behind low X (L ++ M) new in
    let new2 = new_behind low L M new1 in
    let same : env2.sources ≡ env.sources = sources_kept regs L env1 ∙ sources_kept regs X env in (
      extents_are regs low o.extents.items n (L ++ M) env new h.0,
      subst (λ (e : Env). NodesAre e o.loops.items) (sym one) (nodes_are regs low o.loops.items M env1 new1 named.0),
      subst (λ (e : Env). DimsAre e os) (sym (one ∙ two))
          (dims_are regs low os (counter o n + 3) last env2 new2 named.1 (subst (λ (f : ℕ → List ℤ). AllExtents f os (counter o n + 3) regs) (sym same) h.1)),
    )

pub dims_small : (regs : ℕ → ℤ) (os : List Opening) (n : ℕ) (last : LineTree) (env : Env) → AllNamed os → AllExtents env.sources os n regs → AllShort env.sources os
    → ((e : Env) → e.sources ≡ env.sources → AreSmall regs (last ∷ []) e) → AreSmall regs (opening_lines os n last) env
dims_small regs [] n last env named h short end = end env refl
dims_small regs (o ∷ os) n last env named h short end =
    let X = extent_lines o.extents.items n in
    let L = loop_lines o.loops.items in
    let M = opening_lines os (counter o n + 3) last in
    let env1 = after_lines regs X env in
    let env2 = after_lines regs L env1 in
    let same1 : env1.sources ≡ env.sources = sources_kept regs X env in
    let same : env2.sources ≡ env.sources = sources_kept regs L env1 ∙ same1 in
    small_both regs X (L ++ M) env (extents_small regs o.extents.items n env h.0)
    (small_both regs L M env1 (nodes_small regs o.loops.items env1 named.0 (subst (λ (f : ℕ → List ℤ). AreShort f o.loops.items) (sym same1) short.0))
    (dims_small regs os (counter o n + 3) last env2 named.1 (subst (λ (f : ℕ → List ℤ). AllExtents f os (counter o n + 3) regs) (sym same) h.1) (subst (λ (f : ℕ → List ℤ). AllShort f os) (sym same) short.1)
    (λ e q. end e (q ∙ same))))

-- the value of the last dim
pub last_is : (regs : ℕ → ℤ) (os : List Opening) (n d : ℕ) (t : TermTree) (v : ℕ) (env : Env) → ((e : Env) → e.sources ≡ env.sources → value e regs t ≡ pos v)
    → (after_lines regs (opening_lines os n (plain.Of d t)) env).dims d ≡ v
last_is regs [] n d t v env h = put_same env.dims d _ ∙ ap whole (h env refl)
last_is regs (o ∷ os) n d t v env h =
    let X = extent_lines o.extents.items n in
    let L = loop_lines o.loops.items in
    let M = opening_lines os (counter o n + 3) (plain.Of d t) in
    let env1 = after_lines regs X env in
    let env2 = after_lines regs L env1 in
    let there : after_lines regs (X ++ (L ++ M)) env ≡ after_lines regs M env2 = after_both regs X (L ++ M) env ∙ after_both regs L M env1 in
    let same : env2.sources ≡ env.sources = sources_kept regs L env1 ∙ sources_kept regs X env in
    ap (λ (e : Env). e.dims d) there ∙ last_is regs os (counter o n + 3) d t v env2 (λ e q. h e (q ∙ same))
