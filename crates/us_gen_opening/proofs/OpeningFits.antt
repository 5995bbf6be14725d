-- The phase is typed in every context with room, and its dims are visible behind it.
use Rattle.std.proofs.Common.{◌≡◌, ◌≢◌, ℕ, ◌+◌, ◌*◌, ◌<◌, ◌≤◌, Bool, true, false, cond, nat_lt, nat_eq, refl, sym, ap, ◌∙◌, arith, List, [], ◌∷◌, ◌++◌, length, Option, Some, None, ◌⊎◌, inl, inr}
use Rattle.std.proofs.lemmas.Bool.{cases_eq}
use Rattle.std.proofs.lemmas.Bool.Decides.{nat_tests}
use Rattle.us_code.specs.declared.program.Dim.{Dim}
use Rattle.us_code.specs.declared.program.Dim.TheVariants as dim
use Rattle.us_code.specs.declared.program.CellKind.TheVariants as kind
use Rattle.us_code.specs.Plain.{TermTree, Number, Reg, Add, Code, End, ◌+++◌, LineTree}
use Rattle.us_code.specs.Plain as plain
use Rattle.us_code.specs.Typing.{Form, Of, Successor, RegKind, Context, is_some, is_put, reg_kind, with_reg, with_form, with_lines, without_regs, fits, sees_dim, fine, Typed, TypedLines, outer}
use Rattle.us_code_laws.proofs.Sequence.{put_same, put_other}
use Rattle.us_code_laws.proofs.Sound.{both_true}
use Rattle.us_gen.specs.Rooms.{FreshFrom}
use Rattle.us_gen_walk.specs.declared.places.Column.{Column}
use Rattle.us_gen_walk.specs.declared.places.Column.TheVariants as column
use Rattle.us_gen_walk.specs.declared.places.Loop.{Loop}
use Rattle.us_gen_walk.specs.declared.places.Loop.TheVariants as over
use Rattle.us_gen_walk.specs.Rooms.{SeesColumn}
use Rattle.us_gen_opening.specs.declared.parts.Extent.{Extent}
use Rattle.us_gen_opening.specs.declared.parts.Opening.{Opening}
use Rattle.us_gen_opening.specs.Opening.{read_extents, extent_lines, cells_term, loop_lines, count_cell, count_turn, source_of, count_cells, is_tight, count_part, part_term, counter, opening_code, add_terms, total_term, opening_lines, all_lines}
use Rattle.us_gen_opening.specs.Dims.{name_of, IsOther, AreNew, AreNamed, ExtentsSeen, NodesSeen, DimsSeen, form_of, CountSeen}
use Rattle.us_gen_opening.proofs.DimLists.{new_behind}
use Rattle.us_gen_opening.specs.Rooms.{SeesExtents, SeesNodes, SeesOpening, SeesOpenings, OpeningIsTyped}

same_nat : (k : ℕ) → nat_eq k k ≡ true
same_nat k = grind (arith, nat_tests)

-- ---- the block

-- a typed block behind which P holds
abbrev Goes : Context → Code → (Context → Type 0) → Type 0
Goes g c P = Typed g c × P (outer g c)

-- with more registers visible
record Same (g h : Context) : Type 0 where
  sources : h.sources ≡ g.sources
  bufs : h.bufs ≡ g.bufs
  dims : h.dims ≡ g.dims

same_both : (g h k : Context) → Same g h → Same h k → Same g k
same_both g h k a b = record { sources = b.sources ∙ a.sources; bufs = b.bufs ∙ a.bufs; dims = b.dims ∙ a.dims }

-- the first of three registers for each extent
abbrev SeesVars : Context → List Extent → ℕ → Type 0
SeesVars g [] n = Unit {0}
SeesVars g (e ∷ es) n = (is_some (g.regs n) ≡ true) × SeesVars g es (n + 3)

vars_same : (g h : Context) (es : List Extent) (n : ℕ) → ((r : ℕ) → r < n + 3 * length es → h.regs r ≡ g.regs r) → SeesVars g es n → SeesVars h es n
vars_same g h [] n same v = tt
vars_same g h (e ∷ es) n same v = (ap is_some (same n (omega arith)) ∙ v.0, vars_same g h es (n + 3) (λ r l. same r (omega (arith, l))) v.1)

abbrev a_var : RegKind
a_var = record { is_var = true; kind = kind.Word }

seen_as : (g h : Context) (k : ℕ) → h.sources ≡ g.sources → nat_lt k g.sources ≡ true → nat_lt k h.sources ≡ true
seen_as g h k e s = ap (λ (x : ℕ). nat_lt k x) e ∙ s

extents_go : (g : Context) (es : List Extent) (n : ℕ) (rest : Code) (P : Context → Type 0) → FreshFrom g n → SeesExtents g es
    → ((h : Context) → Same g h → FreshFrom h (n + 3 * length es) → SeesVars h es n → ((r : ℕ) → r < n → h.regs r ≡ g.regs r) → Goes h rest P) → Goes g (read_extents es n +++ rest) P
extents_go g [] n rest P f s then = then g record { sources = refl; bufs = refl; dims = refl } record { none = λ x le. f.none x (omega (arith, le)) } tt (λ r l. refl)
extents_go g (e ∷ es) n rest P f s then =
    let g1 = with_reg g n true kind.Word in
    let g2 = with_reg g1 (n + 1) false (kind.Below (dim.Len e.source)) in
    let g3 = with_reg g2 (n + 2) false kind.Word in
    let f1 : FreshFrom g1 (n + 3) = record { none = λ x le. put_other g.regs n _ x (omega (arith, le)) ∙ f.none x (omega (arith, le)) } in
    let at2 : g2.regs (n + 1) ≡ Some record { is_var = false; kind = kind.Below (dim.Len e.source) } = put_same g1.regs (n + 1) _ in
    let at3 : g3.regs (n + 2) ≡ Some record { is_var = false; kind = kind.Word } = put_same g2.regs (n + 2) _ in
    let var3 : g3.regs n ≡ Some a_var = put_other g2.regs (n + 2) _ n (omega arith) ∙ (put_other g1.regs (n + 1) _ n (omega arith) ∙ put_same g.regs n _) in
    let free1 : g1.regs (n + 1) ≡ None = put_other g.regs n _ (n + 1) (omega arith) ∙ f.none (n + 1) (omega arith) in
    let free2 : g2.regs (n + 2) ≡ None = put_other g1.regs (n + 1) _ (n + 2) (omega arith) ∙ (put_other g.regs n _ (n + 2) (omega arith) ∙ f.none (n + 2) (omega arith)) in
    let placed : fits (reg_kind (g2.regs (n + 1))) (dim.Len e.source) ≡ true = ap (λ (o : Option RegKind). fits (reg_kind o) (dim.Len e.source)) at2 ∙ same_nat e.source in
    let more : Goes g1 (read_extents es (n + 3) +++ rest) P =
    extents_go g1 es (n + 3) rest P f1 s.1
    (λ h same fh vars regs.
    then h record { sources = same.sources; bufs = same.bufs; dims = same.dims } record { none = λ x le. fh.none x (omega (arith, le)) }
    (ap is_some (regs n (omega arith)) ∙ ap is_some (put_same g.regs n _), vars)
    (λ r l. regs r (omega (arith, l)) ∙ put_other g.regs n _ r (λ q. omega (arith, q, l)))) in (
      (
        f.none n (omega arith),
        refl,
        (free1, s.0, refl, (free2, s.0, ap is_some at2, placed, (ap is_put var3, ap is_some at3, tt)), tt, more.0),
      ),
      more.1,
    )

cell_typed : (g : Context) (k n : ℕ) → nat_lt k g.sources ≡ true → g.regs n ≡ Some a_var → g.regs (n + 1) ≡ Some record { is_var = false; kind = kind.Below (dim.Len k) } → g.regs (n + 2) ≡ None → Typed g (count_cell k n)
cell_typed g k n s var at free =
    let h = with_reg g (n + 2) false kind.Word in
    let placed : fits (reg_kind (g.regs (n + 1))) (dim.Len k) ≡ true = ap (λ (o : Option RegKind). fits (reg_kind o) (dim.Len k)) at ∙ same_nat k in
    let var2 : h.regs n ≡ Some a_var = put_other g.regs (n + 2) _ n (omega arith) ∙ var in
    (free, s, ap is_some at, placed, (ap is_some (put_same g.regs (n + 2) _), refl, tt, (ap is_put var2, both_true (is_some (h.regs n)) true (ap is_some var2) refl, tt), tt))

turn_typed : (g : Context) (c : Column) (n : ℕ) → SeesColumn g c → g.regs n ≡ Some a_var → g.regs (n + 1) ≡ Some record { is_var = false; kind = kind.Below (dim.Len (source_of c)) } → g.regs (n + 2) ≡ None → Typed g (count_turn c n)
turn_typed g (column.Own k) n s var at free = cell_typed g k n s var at free
turn_typed g (column.Packed k w digit) n s var at free = (ap is_some at, refl, cell_typed g k n s var at free, tt, tt)

column_seen : (g : Context) (c : Column) → SeesColumn g c → nat_lt (source_of c) g.sources ≡ true
column_seen g (column.Own k) s = s
column_seen g (column.Packed k w digit) s = s

cells_fine : (g : Context) (c : Column) → SeesColumn g c → fine g (cells_term c) ≡ true
cells_fine g (column.Own k) s = s
cells_fine g (column.Packed k w digit) s = s

column_as : (g h : Context) (c : Column) → h.sources ≡ g.sources → SeesColumn g c → SeesColumn h c
column_as g h (column.Own k) e s = seen_as g h k e s
column_as g h (column.Packed k w digit) e s = seen_as g h k e s

cells_go : (g : Context) (c : Column) (n : ℕ) (rest : Code) (P : Context → Type 0) → FreshFrom g n → SeesColumn g c → Goes (with_reg g n true kind.Word) rest P → Goes g (count_cells c n +++ rest) P
cells_go g c n rest P f s then =
    let g1 = with_reg g n true kind.Word in
    let g2 = with_reg g1 (n + 1) false (kind.Below (dim.Len (source_of c))) in
    let free1 : g1.regs (n + 1) ≡ None = put_other g.regs n _ (n + 1) (omega arith) ∙ f.none (n + 1) (omega arith) in
    let free2 : g2.regs (n + 2) ≡ None = put_other g1.regs (n + 1) _ (n + 2) (omega arith) ∙ (put_other g.regs n _ (n + 2) (omega arith) ∙ f.none (n + 2) (omega arith)) in
    let var2 : g2.regs n ≡ Some a_var = put_other g1.regs (n + 1) _ n (omega arith) ∙ put_same g.regs n _ in
    let turn : Typed g2 (count_turn c n) = turn_typed g2 c n (column_as g g2 c refl s) var2 (put_same g1.regs (n + 1) _) free2 in
    ((f.none n (omega arith), refl, (free1, column_seen g c s, turn, then.0)), then.1)

-- what a term needs: the column, or its register
abbrev SeesTerm : Context → Opening → ℕ → Type 0
SeesTerm g o n = fine g (part_term o n) ≡ true

count_go : (g : Context) (o : Opening) (n : ℕ) (rest : Code) (P : Context → Type 0) → FreshFrom g n → SeesColumn g o.values
    → ((h : Context) → Same g h → FreshFrom h (n + 3) → SeesTerm h o n → ((r : ℕ) → r < n → h.regs r ≡ g.regs r) → Goes h rest P) → Goes g (count_part o n +++ rest) P
count_go g o n rest P f s then = by (is_tight o) refl then
  where
    by : (t : Bool) → is_tight o ≡ t
        → ((h : Context) → Same g h → FreshFrom h (n + 3) → fine h (cond t (cells_term o.values) (Reg n)) ≡ true → ((r : ℕ) → r < n → h.regs r ≡ g.regs r) → Goes h rest P)
        → Goes g (cond t End (count_cells o.values n) +++ rest) P
    by true e go = go g record { sources = refl; bufs = refl; dims = refl } record { none = λ x le. f.none x (omega (arith, le)) } (cells_fine g o.values s) (λ r l. refl)
    by false e go =
        cells_go g o.values n rest P f s
        (go (with_reg g n true kind.Word) record { sources = refl; bufs = refl; dims = refl } record { none = λ x le. put_other g.regs n _ x (omega (arith, le)) ∙ f.none x (omega (arith, le)) }
        (ap is_some (put_same g.regs n _)) (λ r l. put_other g.regs n _ r (λ q. omega (arith, q, l))))

nodes_as : (g h : Context) (ls : List Loop) → h.sources ≡ g.sources → SeesNodes g ls → SeesNodes h ls
nodes_as g h [] e x = tt
nodes_as g h (over.Full size lo ∷ ls) e x = nodes_as g h ls e x
nodes_as g h (over.Nodes k more nodes crd lo ∷ ls) e x = (column_as g h crd e x.0, nodes_as g h ls e x.1)

opening_as : (g h : Context) (o : Opening) → h.sources ≡ g.sources → SeesOpening g o → SeesOpening h o
opening_as g h o e s = record { extents = go o.extents.items s.extents; nodes = nodes_as g h o.loops.items e s.nodes; values = column_as g h o.values e s.values; named = s.named }
  where
    go : (es : List Extent) → SeesExtents g es → SeesExtents h es
    go [] x = tt
    go (y ∷ es) x = (seen_as g h y.source e x.0, go es x.1)

openings_as : (g h : Context) (os : List Opening) → h.sources ≡ g.sources → SeesOpenings g os → SeesOpenings h os
openings_as g h [] e s = tt
openings_as g h (o ∷ os) e s = (opening_as g h o e s.0, openings_as g h os e s.1)

-- all registers that the lines read
abbrev AllVars : Context → List Opening → ℕ → Type 0
AllVars g [] n = Unit {0}
AllVars g (o ∷ os) n = SeesVars g o.extents.items n × SeesTerm g o (counter o n) × AllVars g os (counter o n + 3)

-- a term of a part stays fine
term_as : (g h : Context) (o : Opening) (n : ℕ) → h.sources ≡ g.sources → h.regs n ≡ g.regs n → SeesTerm g o n → SeesTerm h o n
term_as g h o n e r s = by (is_tight o) o.values s
  where
    by : (t : Bool) (c : Column) → fine g (cond t (cells_term c) (Reg n)) ≡ true → fine h (cond t (cells_term c) (Reg n)) ≡ true
    by true (column.Own k) s = seen_as g h k e s
    by true (column.Packed k w digit) s = seen_as g h k e s
    by false c s = ap is_some r ∙ s

code_goes : (g : Context) (os : List Opening) (n : ℕ) (P : Context → Type 0) → FreshFrom g n → SeesOpenings g os
    → ((h : Context) → Same g h → AllVars h os n → ((r : ℕ) → r < n → h.regs r ≡ g.regs r) → P h) → Goes g (opening_code os n) P
code_goes g [] n P f s then = (tt, then g record { sources = refl; bufs = refl; dims = refl } tt (λ r l. refl))
code_goes g (o ∷ os) n P f s then =
    let k = counter o n in
    extents_go g o.extents.items n (count_part o k +++ opening_code os (k + 3)) P f s.0.extents
    (λ h1 same1 f1 vars1 regs1.
    count_go h1 o k (opening_code os (k + 3)) P f1 (column_as g h1 o.values same1.sources s.0.values)
    (λ h2 same2 f2 term2 regs2.
    code_goes h2 os (k + 3) P f2 (openings_as g h2 os (same2.sources ∙ same1.sources) s.1)
    (λ h3 same3 vars3 regs3.
    then h3 (same_both g h1 h3 same1 (same_both h1 h2 h3 same2 same3)) (
      vars_same h1 h3 o.extents.items n (λ r l. regs3 r (omega (arith, l)) ∙ regs2 r l) vars1,
      term_as h2 h3 o k same3.sources (regs3 k (omega arith)) term2,
      vars3,
    )
    (λ r l. regs3 r (omega (arith, l)) ∙ (regs2 r (omega (arith, l)) ∙ regs1 r l)))))

-- ---- the lines

-- typed lines behind which P holds
abbrev Ends : Context → List LineTree → (Context → Type 0) → Type 0
Ends g ls P = TypedLines g ls × P (with_lines g ls)

-- with more dims visible
record More (g h : Context) : Type 0 where
  sources : h.sources ≡ g.sources
  bufs : h.bufs ≡ g.bufs
  regs : h.regs ≡ g.regs
  dims : (d : ℕ) (f : Form) → g.dims d ≡ Some f → h.dims d ≡ Some f

more_none : (g : Context) → More g g
more_none g = record { sources = refl; bufs = refl; regs = refl; dims = λ d f e. e }

more_both : (g h k : Context) → More g h → More h k → More g k
more_both g h k a b = record { sources = b.sources ∙ a.sources; bufs = b.bufs ∙ a.bufs; regs = b.regs ∙ a.regs; dims = λ d f e. b.dims d f (a.dims d f e) }

-- no line makes a dim that is visible
abbrev AreFree : Context → List LineTree → Type 0
AreFree g [] = Unit {0}
AreFree g (l ∷ ls) = (g.dims (name_of l) ≡ None) × AreFree g ls

free_more : (g : Context) (d : ℕ) (f : Form) (ls : List LineTree) → IsOther d ls → AreFree g ls → AreFree (with_form g d f) ls
free_more g d f [] o a = tt
free_more g d f (l ∷ ls) o a = (put_other g.dims d _ (name_of l) o.0 ∙ a.0, free_more g d f ls o.1 a.1)

free_from : (g : Context) (low : ℕ) (ls : List LineTree) → ((d : ℕ) → low ≤ d → g.dims d ≡ None) → AreNew low ls → AreFree g ls
free_from g low [] none new = tt
free_from g low (l ∷ ls) none new = (none (name_of l) new.0, free_from g low ls none new.2)

-- a dim that was visible
more_form : (g : Context) (d : ℕ) (f : Form) → g.dims d ≡ None → More g (with_form g d f)
more_form g d f free = record { sources = refl; bufs = refl; regs = refl; dims = λ x y e. by x y e (cases_eq d x) }
  where
    by : (x : ℕ) (y : Form) → g.dims x ≡ Some y → (d ≡ x) ⊎ (d ≢ x) → (with_form g d f).dims x ≡ Some y
    by x y e (inl q) = let z : ◌≡◌ {A = Option Form} None (Some y) = sym (ap g.dims (sym q) ∙ free) ∙ e in absurd cc
    by x y e (inr q) = put_other g.dims d _ x q ∙ e

-- the dims that were visible are
abbrev KeepsDims : Context → Context → Type 0
KeepsDims g h = (d : ℕ) (f : Form) → g.dims d ≡ Some f → h.dims d ≡ Some f

extents_seen_more : (g h : Context) (es : List Extent) → KeepsDims g h → ExtentsSeen g es → ExtentsSeen h es
extents_seen_more g h [] m s = tt
extents_seen_more g h (e ∷ es) m s = (m e.dim Of s.0, extents_seen_more g h es m s.1)

form_more : (g h : Context) (d : Dim) (f : Form) → KeepsDims g h → form_of g d ≡ Some f → form_of h d ≡ Some f
form_more g h (dim.Name d) f m s = m d f s
form_more g h (dim.Number n) f m s = s
form_more g h (dim.Len k) f m s = s

count_more : (g h : Context) (c : Column) (nodes : Dim) → KeepsDims g h → CountSeen g c nodes → CountSeen h c nodes
count_more g h (column.Own k) nodes m s = s
count_more g h (column.Packed k w digit) nodes m s = form_more g h nodes Of m s

nodes_seen_more : (g h : Context) (ls : List Loop) → KeepsDims g h → NodesSeen g ls → NodesSeen h ls
nodes_seen_more g h [] m s = tt
nodes_seen_more g h (over.Full size lo ∷ ls) m s = nodes_seen_more g h ls m s
nodes_seen_more g h (over.Nodes k more nodes crd lo ∷ ls) m s = (count_more g h crd nodes m s.0, form_more g h more (Successor nodes) m s.1, nodes_seen_more g h ls m s.2)

vars_as : (g h : Context) (es : List Extent) (n : ℕ) → h.regs ≡ g.regs → SeesVars g es n → SeesVars h es n
vars_as g h es n e v = vars_same g h es n (λ r l. ap (λ (f : ℕ → Option RegKind). f r) e) v

all_vars_as : (g h : Context) (os : List Opening) (n : ℕ) → h.sources ≡ g.sources → h.regs ≡ g.regs → AllVars g os n → AllVars h os n
all_vars_as g h [] n s e v = tt
all_vars_as g h (o ∷ os) n s e v =
    (vars_as g h o.extents.items n e v.0, term_as g h o (counter o n) s (ap (λ (f : ℕ → Option RegKind). f (counter o n)) e) v.1, all_vars_as g h os (counter o n + 3) s e v.2)

extent_lines_end : (low : ℕ) (g : Context) (es : List Extent) (n : ℕ) (rest : List LineTree) (P : Context → Type 0) → AreNew low (extent_lines es n ++ rest) → AreFree g (extent_lines es n ++ rest) → SeesVars g es n
    → ((h : Context) → More g h → ExtentsSeen h es → AreFree h rest → Ends h rest P) → Ends g (extent_lines es n ++ rest) P
extent_lines_end low g [] n rest P new free vars then = then g (more_none g) tt free
extent_lines_end low g (e ∷ es) n rest P new free vars then =
    let g1 = with_form g e.dim Of in
    let m1 : More g g1 = more_form g e.dim Of free.0 in
    let go : Ends g1 (extent_lines es (n + 3) ++ rest) P =
    extent_lines_end low g1 es (n + 3) rest P new.2 (free_more g e.dim Of (extent_lines es (n + 3) ++ rest) new.1 free.1) (vars_as g g1 es (n + 3) refl vars.1)
    (λ h m seen f. then h (more_both g g1 h m1 m) (m.dims e.dim Of (put_same g.dims e.dim _), seen) f) in
    (((free.0, vars.0), go.0), go.1)

loop_lines_end : (low : ℕ) (g : Context) (ls : List Loop) (rest : List LineTree) (P : Context → Type 0) → AreNew low (loop_lines ls ++ rest) → AreFree g (loop_lines ls ++ rest) → SeesNodes g ls → AreNamed ls
    → ((h : Context) → More g h → NodesSeen h ls → AreFree h rest → Ends h rest P) → Ends g (loop_lines ls ++ rest) P
loop_lines_end low g [] rest P new free sees named then = then g (more_none g) tt free
loop_lines_end low g (over.Full size lo ∷ ls) rest P new free sees named then = loop_lines_end low g ls rest P new free sees named then
loop_lines_end low g (over.Nodes k (dim.Number x) nodes crd lo ∷ ls) rest P new free sees named then = absurd named.0
loop_lines_end low g (over.Nodes k (dim.Len x) nodes crd lo ∷ ls) rest P new free sees named then = absurd named.0
loop_lines_end low g (over.Nodes k (dim.Name m) nodes (column.Own j) lo ∷ ls) rest P new free sees named then =
    let f = Successor nodes in
    let g1 = with_form g m f in
    let m1 : More g g1 = more_form g m f free.0 in
    let there : sees_dim g nodes ≡ true = ap (sees_dim g) named.1 ∙ sees.0 in
    let go : Ends g1 (loop_lines ls ++ rest) P =
    loop_lines_end low g1 ls rest P new.2 (free_more g m f (loop_lines ls ++ rest) new.1 free.1) (nodes_as g g1 ls refl sees.1) named.2
    (λ h mo seen fr. then h (more_both g g1 h m1 mo) (named.1, mo.dims m f (put_same g.dims m _), seen) fr) in
    (((free.0, there), go.0), go.1)
loop_lines_end low g (over.Nodes k (dim.Name m) (dim.Number x) (column.Packed i w digit) lo ∷ ls) rest P new free sees named then = absurd named.1
loop_lines_end low g (over.Nodes k (dim.Name m) (dim.Len x) (column.Packed i w digit) lo ∷ ls) rest P new free sees named then = absurd named.1
loop_lines_end low g (over.Nodes k (dim.Name m) (dim.Name d) (column.Packed i w digit) lo ∷ ls) rest P new free sees named then =
    let f = Successor (dim.Name d) in
    let g1 = with_form g d Of in
    let g2 = with_form g1 m f in
    let m1 : More g g1 = more_form g d Of free.0 in
    let free1 = free_more g d Of (plain.Successor m (dim.Name d) ∷ (loop_lines ls ++ rest)) new.1 free.1 in
    let m2 : More g1 g2 = more_form g1 m f free1.0 in
    let here : g1.dims d ≡ Some Of = put_same g.dims d _ in
    let go : Ends g2 (loop_lines ls ++ rest) P =
    loop_lines_end low g2 ls rest P new.2.2 (free_more g1 m f (loop_lines ls ++ rest) new.2.1 free1.1) (nodes_as g g2 ls refl sees.1) named.2
    (λ h mo seen fr. then h (more_both g g1 h m1 (more_both g1 g2 h m2 mo)) (mo.dims d Of (m2.dims d Of here), mo.dims m f (put_same g1.dims m _), seen) fr) in
    (((free.0, sees.0), ((free1.0, ap is_some here), go.0)), go.1)

lines_end : (low : ℕ) (g : Context) (os : List Opening) (n : ℕ) (last : LineTree) (P : Context → Type 0) → AreNew low (opening_lines os n last) → AreFree g (opening_lines os n last) → SeesOpenings g os → AllVars g os n
    → ((h : Context) → More g h → DimsSeen h os → AreFree h (last ∷ []) → Ends h (last ∷ []) P) → Ends g (opening_lines os n last) P
lines_end low g [] n last P new free sees vars then = then g (more_none g) tt free
lines_end low g (o ∷ os) n last P new free sees vars then =
    let X = extent_lines o.extents.items n in
    let L = loop_lines o.loops.items in
    let M = opening_lines os (counter o n + 3) last in
    let new1 = new_behind low X (L ++ M) new in
    let new2 = new_behind low L M new1 in
    extent_lines_end low g o.extents.items n (L ++ M) P new free vars.0
    (λ h1 m1 seen1 free1.
    loop_lines_end low h1 o.loops.items M P new1 free1 (opening_as g h1 o m1.sources sees.0).nodes sees.0.named
    (λ h2 m2 seen2 free2.
    lines_end low h2 os (counter o n + 3) last P new2 free2 (openings_as g h2 os (m2.sources ∙ m1.sources) sees.1)
    (all_vars_as g h2 os (counter o n + 3) (m2.sources ∙ m1.sources) (m2.regs ∙ m1.regs) vars.2)
    (λ h3 m3 seen3 free3.
    then h3 (more_both g h1 h3 m1 (more_both h1 h2 h3 m2 m3))
    (extents_seen_more h1 h3 o.extents.items (more_both h1 h2 h3 m2 m3).dims seen1, nodes_seen_more h2 h3 o.loops.items m3.dims seen2, seen3) free3)))

add_fine : (g : Context) (t : TermTree) (os : List Opening) (n : ℕ) → fine g t ≡ true → AllVars g os n → fine g (add_terms t os n) ≡ true
add_fine g t [] n f v = f
add_fine g t (o ∷ os) n f v = add_fine g (Add t (part_term o (counter o n))) os (counter o n + 3) (both_true (fine g t) (fine g (part_term o (counter o n))) f v.1) v.2

total_fine : (g : Context) (os : List Opening) (n : ℕ) → AllVars g os n → fine g (total_term os n) ≡ true
total_fine g [] n v = refl
total_fine g (o ∷ os) n v = add_fine g (part_term o (counter o n)) os (counter o n + 3) v.1 v.2

-- ---- the phase

dims_seen_more : (g h : Context) (os : List Opening) → KeepsDims g h → DimsSeen g os → DimsSeen h os
dims_seen_more g h [] m s = tt
dims_seen_more g h (o ∷ os) m s = (extents_seen_more g h o.extents.items m s.0, nodes_seen_more g h o.loops.items m s.1, dims_seen_more g h os m s.2)

-- behind the lines
record Behind (g : Context) (count : ℕ) (os : List Opening) (h : Context) : Type 0 where
  dims : DimsSeen h os
  counted : h.dims count ≡ Some Of
  kept : (d : ℕ) (f : Form) → g.dims d ≡ Some f → h.dims d ≡ Some f
  sources : h.sources ≡ g.sources
  bufs : h.bufs ≡ g.bufs

pub opening_is_typed : OpeningIsTyped
opening_is_typed g count n low os f none sees new =
    let last = plain.Of count (total_term os n) in
    let P : Context → Type 0 = λ h. TypedLines h (all_lines count n os) × Behind g count os (with_lines h (all_lines count n os)) in
    let go : Goes g (opening_code os n) P =
    code_goes g os n P f sees
    (λ h same vars regs.
    let no : (d : ℕ) → low ≤ d → h.dims d ≡ None = λ d le. ap (λ (x : ℕ → Option Form). x d) same.dims ∙ none d le in
    let ends : Ends h (all_lines count n os) (Behind g count os) =
    lines_end low h os n last (Behind g count os) new (free_from h low (all_lines count n os) no new) (openings_as g h os same.sources sees) vars
    (λ k m seen free.
    let k1 = with_form k count Of in
    let m1 : More k k1 = more_form k count Of free.0 in
    let all = more_both h k k1 m m1 in (
      ((free.0, total_fine k os n (all_vars_as h k os n m.sources m.regs vars)), tt),
      record {
        dims = dims_seen_more k k1 os m1.dims seen;
        counted = put_same k.dims count _;
        kept = λ d y e. all.dims d y (ap (λ (x : ℕ → Option Form). x d) same.dims ∙ e);
        sources = all.sources ∙ same.sources;
        bufs = all.bufs ∙ same.bufs;
      },
    )) in
    ends) in
    let H = with_lines (outer g (opening_code os n)) (all_lines count n os) in
    record {
      typed = (tt, go.0, go.1.0, tt);
      opened = record {
        dims = dims_seen_more H (without_regs H) os (λ d f e. e) go.1.1.dims;
        counted = go.1.1.counted;
        kept = go.1.1.kept;
        sources = go.1.1.sources;
        bufs = go.1.1.bufs;
        fresh = record { none = λ x le. refl };
      };
    }
