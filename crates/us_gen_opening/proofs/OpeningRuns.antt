-- The dims are the extents, the numbers of nodes, and the number of entries of all parts.
use Rattle.std.specs.Int.{int_wrap, int_div_euclid}
use Rattle.std.proofs.Common.{◌≡◌, ℕ, suc, ◌+◌, ◌*◌, ◌<◌, ◌≤◌, Bool, true, false, cond, refl, sym, ap, ap₂, ◌∙◌, subst, arith, List, [], ◌∷◌, ◌++◌, length, length-append, take, drop, pos, ℤ, ◌+ℤ◌}
use Rattle.std.specs.Prelude.{slice_index_or}
use mir.Syntax.{w64}
use Rattle.us_code.specs.declared.program.Dim.TheVariants as dim
use Rattle.us_code.specs.declared.program.Buf.TheVariants as buf
use Rattle.us_code.specs.Plain.{TermTree, Number, Reg, Add, Code, End, Put, ◌+++◌, LineTree}
use Rattle.us_code.specs.Plain as plain
use Rattle.us_code.specs.Run.{Env, State, put, value, tick, set_reg}
use Rattle.us_code.specs.Runs.{World, Ran, whole, begin, phases, line_all}
use Rattle.us_code_laws.specs.Does.{Does}
use Rattle.us_code_laws.proofs.Sequence.{put_same, put_other}
use Rattle.us_code_laws.proofs.Does.{do_end, do_load, do_put, do_var, do_when}
use Rattle.us_format.specs.declared.Kind.{Kind}
use Rattle.us_format.specs.declared.Kind.TheVariants as kind
use Rattle.us_format.specs.Kinds.{Level}
use Rattle.us_format.specs.Matrix.{Shape, IsMatrixOf}
use Rattle.us_format.specs.Positions.{Row, count_below, down, rows_of}
use Rattle.us_format.specs.Climb.{width}
use Rattle.us_format.specs.Reading.{limit}
use Rattle.us_format.specs.Rules.{IsLawful}
use Rattle.us_format.specs.Laws.{contents_of}
use Rattle.us_format_loops.specs.Laws.{levels_on, values_on}
use Rattle.us_format_loops.specs.Nodes.{count_after}
use Rattle.us_format_loops.specs.Ways.{HoldsLevel, HoldsLevels}
use Rattle.us_format_loops.proofs.Lawful.{starts-count-nodes}
use Rattle.us_format_loops.proofs.Filled.{tight-parts-are-filled}
use Rattle.us_gen.specs.Goes.{Leads, after}
use Rattle.us_gen.proofs.Going.{leads_none, leads_weaker, Body, phase_leads}
use Rattle.us_gen.proofs.LevelRuns.{wrap_small}
use Rattle.us_gen_walk.specs.declared.places.Column.{Column}
use Rattle.us_gen_walk.specs.declared.places.Column.TheVariants as column
use Rattle.us_gen_walk.specs.declared.places.Loop.{Loop}
use Rattle.us_gen_walk.specs.declared.places.Loop.TheVariants as over
use Rattle.us_gen_walk.specs.declared.places.Slot.{Slot}
use Rattle.us_gen_walk.specs.Runs.{IsInPack, HasColumn, HasLoop, HasLevels}
use Rattle.us_gen_walk.proofs.WaysDown.{tight_as}
use Rattle.us_gen_unpack.specs.Runs.{IsListable, AreListable, total}
use Rattle.us_gen_opening.specs.declared.parts.Extent.{Extent}
use Rattle.us_gen_opening.specs.declared.parts.Opening.{Opening}
use Rattle.us_gen_opening.specs.Opening.{read_extents, extent_lines, cells_term, loop_lines, count_cells, is_tight, count_part, part_term, counter, opening_code, add_terms, total_term, opening_lines, all_lines, opening_phase}
use Rattle.us_gen_opening.specs.Dims.{AreNamed, ExtentsStand, NodesAre, DimsAre}
use Rattle.us_gen_opening.specs.Runs.{Opened, openings, listeds, IsOpenable, AreOpenable, count_cost, nodes_cost, open_cost, Opens, OpeningOpens}
use Rattle.us_gen_opening.proofs.Counted.{cells_value, cells_do}
use Rattle.us_gen_opening.proofs.DimLists.{after_lines, Behind, lines_lead, sources_kept, HoldExtents, AreShort, AllNamed, AllExtents, AllShort, dims_are, dims_small, last_is}

-- ---- what the sources hold of a part

record Facts (env : Env) (s : Shape) (x : Opened) : Type 0 where
  lawful : IsLawful x.listed.part
  matrix : IsMatrixOf s x.listed.entries
  values : HasColumn env x.opening.values (values_on s x.listed.part x.listed.entries)
  tight : is_tight x.opening ≡ true → length (values_on s x.listed.part x.listed.entries) ≡ length x.listed.entries
  short : AreShort env.sources x.opening.loops.items
  extents : ExtentsStand env.sources x.opening.extents.items
  named : AreNamed x.opening.loops.items

abbrev AllFacts : Env → Shape → List Opened → Type 0
AllFacts env s [] = Unit {0}
AllFacts env s (x ∷ xs) = Facts env s x × AllFacts env s xs

column_same : (e env : Env) (c : Column) (cells : List ℤ) → e.sources ≡ env.sources → HasColumn e c cells → HasColumn env c cells
column_same e env (column.Own k) cells same h = ap (λ (f : ℕ → List ℤ). f k) (sym same) ∙ h
column_same e env (column.Packed k w digit) cells same h = subst (λ (f : ℕ → List ℤ). IsInPack (f k) w digit cells) same h

-- the nodes of a level are as many as its positions
short_step : (e : Env) (l : Loop) (k : Kind) (size : ℕ) (bufs : List (List ℤ)) (N : ℕ) (rows : List Row) (ls : List Loop) → HasLoop e l k size bufs → HoldsLevel k size bufs N rows → count_below k size N rows ≤ limit
    → NodesAre e (l ∷ ls) → (NodesAre e ls → AreShort e.sources ls) → AreShort e.sources (l ∷ ls)
short_step e (over.Full d lo) k size bufs N rows ls h holds le are then = then are
short_step e (over.Nodes a more d crd lo) kind.Full size bufs N rows ls h holds le are then = absurd h
short_step e (over.Nodes a more d crd lo) kind.Compressed size bufs N rows ls h holds le are then = (omega (arith, are.0, h.number, holds.1.long, le), then are.2)
short_step e (over.Nodes a more d crd lo) kind.Listed size bufs N rows ls h holds le are then = (omega (arith, are.0, h.number, holds.1.long, le), then are.2)
short_step e (over.Nodes a more d crd lo) kind.Slot size bufs N rows ls h holds le are then = absurd h

are_short : (e : Env) (slots : List Slot) (ls : List Loop) (levels : List Level) (bufs : List (List ℤ)) (N : ℕ) (rows : List Row) → HasLevels e ls slots levels bufs → HoldsLevels levels bufs N rows
    → ((k : ℕ) → count_after (take k levels) N rows ≤ limit) → NodesAre e ls → AreShort e.sources ls
are_short e slots [] levels bufs N rows h holds small are = tt
are_short e slots (l ∷ ls) [] bufs N rows h holds small are = absurd h
are_short e slots (l ∷ ls) (x ∷ levels) bufs N rows h holds small are =
    short_step e l x.kind x.size bufs N rows ls h.0 holds.0 (small 1) are
    (λ more. are_short e slots ls levels (drop (width x.kind) bufs) (count_below x.kind x.size N rows) (down x.kind x.size rows) h.1 holds.1 (λ k. small (suc k)) more)

facts_of : (e env : Env) (s : Shape) (x : Opened) → e.sources ≡ env.sources → IsOpenable env x → NodesAre e x.opening.loops.items → IsListable e s x.listed → Facts env s x
facts_of e env s x same o are l =
    let p = x.listed.part in
    let m = x.listed.entries in
    let w = x.listed.loops.places in
    let levels : HasLevels e x.opening.loops.items w.slots.items (levels_on s p m) (contents_of s p m).cells =
    subst (λ (ls : List Loop). HasLevels e ls w.slots.items (levels_on s p m) (contents_of s p m).cells) (sym o.loops) l.places.levels in
    record {
      lawful = l.lawful;
      matrix = l.matrix;
      values = column_same e env x.opening.values (values_on s p m) same (subst (λ (c : Column). HasColumn e c (values_on s p m)) (sym o.values) l.places.values);
      tight = λ t. (tight-parts-are-filled s p m l.lawful l.matrix (tight_as e w.slots.items x.opening.loops.items (levels_on s p m) (contents_of s p m).cells levels t)).number;
      short = subst (λ (f : ℕ → List ℤ). AreShort f x.opening.loops.items) same
          (are_short e w.slots.items x.opening.loops.items (levels_on s p m) (contents_of s p m).cells 1 (rows_of m s p) levels (starts-count-nodes s p m l.lawful l.matrix) l.places.numbers are);
      extents = o.extents;
      named = o.named;
    }

all_facts : (e env : Env) (s : Shape) (xs : List Opened) → e.sources ≡ env.sources → AreOpenable env xs → DimsAre e (openings xs) → AreListable e s (listeds xs) → AllFacts env s xs
all_facts e env s [] same o are l = tt
all_facts e env s (x ∷ xs) same o are l = (facts_of e env s x same o.0 are.1 l.0, all_facts e env s xs same o.1 are.2 l.1)

-- ---- registers that hold the extents, before there are any

module _ (sources : ℕ → List ℤ) where
  extents_same : (es : List Extent) (n : ℕ) (f g : ℕ → ℤ) → ((r : ℕ) → n ≤ r → r < n + 3 * length es → g r ≡ f r) → HoldExtents sources es n f → HoldExtents sources es n g
  extents_same [] n f g same h = tt
  extents_same (e ∷ es) n f g same h =
      (h.0, h.1, h.2, same n (omega arith) (omega arith) ∙ h.3, extents_same es (n + 3) f g (λ r a b. same r (omega (arith, a)) (omega (arith, b))) h.4)

  extents_made : (es : List Extent) (n : ℕ) (f : ℕ → ℤ) → ExtentsStand sources es → (g : ℕ → ℤ) × HoldExtents sources es n g × ((r : ℕ) → n + 3 * length es ≤ r → g r ≡ f r)
  extents_made [] n f h = (f, tt, λ r le. refl)
  extents_made (e ∷ es) n f h =
      let more = extents_made es (n + 3) f h.3 in
      let g = put more.0 n (pos h.0) in (
        g,
        (h.0, h.1, h.2, put_same more.0 n (pos h.0), extents_same es (n + 3) more.0 g (λ r a b. put_other more.0 n _ r (λ q. omega (arith, q, a))) more.1),
        λ r le. put_other more.0 n _ r (λ q. omega (arith, q, le)) ∙ more.2 r (omega (arith, le)),
      )

  all_same : (os : List Opening) (n : ℕ) (f g : ℕ → ℤ) → ((r : ℕ) → n ≤ r → g r ≡ f r) → AllExtents sources os n f → AllExtents sources os n g
  all_same [] n f g same h = tt
  all_same (o ∷ os) n f g same h =
      (extents_same o.extents.items n f g (λ r a b. same r a) h.0, all_same os (counter o n + 3) f g (λ r a. same r (omega (arith, a))) h.1)

all_made : (env : Env) (xs : List Opened) (n : ℕ) → AreOpenable env xs → (f : ℕ → ℤ) × AllExtents env.sources (openings xs) n f
all_made env [] n h = (λ _. pos 0, tt)
all_made env (x ∷ xs) n h =
    let more = all_made env xs (counter x.opening n + 3) h.1 in
    let es = x.opening.extents.items in
    let made = extents_made env.sources es n more.0 h.0.extents in
    (made.0, (made.1, all_same env.sources (openings xs) (counter x.opening n + 3) more.0 made.0 (λ r le. made.2 r (omega (arith, le))) more.1))

all_named : (env : Env) (xs : List Opened) → AreOpenable env xs → AllNamed (openings xs)
all_named env [] h = tt
all_named env (x ∷ xs) h = (h.0.named, all_named env xs h.1)

all_short : (env : Env) (s : Shape) (xs : List Opened) → AllFacts env s xs → AllShort env.sources (openings xs)
all_short env s [] h = tt
all_short env s (x ∷ xs) h = (h.0.short, all_short env s xs h.1)

-- ---- the block

module _ (env : Env) where
  extents_do : (es : List Extent) (n : ℕ) (rest : Code) (u : State) (Q : State → Type 0) → ExtentsStand env.sources es
      → ((v : State) → HoldExtents env.sources es n v.regs → ((r : ℕ) → r < n → v.regs r ≡ u.regs r) → v.bufs ≡ u.bufs → v.steps ≡ u.steps + 4 * length es → Does env rest v Q)
      → Does env (read_extents es n +++ rest) u Q
  extents_do [] n rest u Q h then = then u tt (λ r l. refl) refl (omega arith)
  extents_do (e ∷ es) n rest u Q h then =
      let cells = env.sources e.source in
      let u1 = set_reg n (pos 0) (tick 1 u) in
      let u2 = set_reg (n + 1) (pos 0) (tick 1 u1) in
      let u3 = set_reg (n + 2) (slice_index_or cells 0 (pos 0)) (tick 1 u2) in
      let u4 = set_reg n (u3.regs (n + 2)) (tick 1 u3) in
      let long : 0 < length cells = omega (arith, ap (λ (ys : List ℤ). length ys) h.1) in
      let is : u4.regs n ≡ pos h.0 = put_same u3.regs n _ ∙ (put_same u2.regs (n + 2) _ ∙ ap (λ (ys : List ℤ). slice_index_or ys 0 (pos 0)) h.1) in
      let same : (r : ℕ) → r < n → u4.regs r ≡ u.regs r = λ r l.
      put_other u3.regs n _ r (λ q. omega (arith, q, l)) ∙ (put_other u2.regs (n + 2) _ r (λ q. omega (arith, q, l)) ∙ (put_other u1.regs (n + 1) _ r (λ q. omega (arith, q, l)) ∙ put_other u.regs n _ r (λ q. omega (arith, q, l)))) in
      do_var env n (Number 0) _ u Q
      (do_when env (Number 0) (dim.Len e.source) (n + 1) _ false End _ u1 Q 0 refl long
      (do_load env (n + 2) (buf.Source e.source) (Reg (n + 1)) _ u2 _ 0 (put_same u1.regs (n + 1) _) long
      (do_put env n (Reg (n + 2)) End u3 _
      (do_end env u4 _
      (extents_do es (n + 3) rest u4 Q h.3
      (λ v held sm bs st. then v (h.0, h.1, h.2, sm n (omega arith) ∙ is, held) (λ r l. sm r (omega (arith, l)) ∙ same r l) bs (omega (arith, st))))))))

  module _ (s : Shape) where
    -- the cost of the block alone
    abbrev block_cost : List Opened → ℕ
    block_cost [] = 0
    block_cost (x ∷ xs) =
        4 * length x.opening.extents.items
        + cond (is_tight x.opening) 0 (count_cost env x.opening.values (length (values_on s x.listed.part x.listed.entries)) (length x.listed.entries))
        + block_cost xs

    -- the registers hold the extents, and the terms are the numbers of entries
    abbrev Held : List Opened → ℕ → (ℕ → ℤ) → Type 0
    Held [] n f = Unit {0}
    Held (x ∷ xs) n f =
        HoldExtents env.sources x.opening.extents.items n f
        × (value env f (part_term x.opening (counter x.opening n)) ≡ pos (length x.listed.entries))
        × Held xs (counter x.opening n + 3) f

    term_same : (t : Bool) (c : Column) (n : ℕ) (f g : ℕ → ℤ) → g n ≡ f n → value env g (cond t (cells_term c) (Reg n)) ≡ value env f (cond t (cells_term c) (Reg n))
    term_same true (column.Own k) n f g e = refl
    term_same true (column.Packed k w digit) n f g e = refl
    term_same false c n f g e = e

    count_does : (x : Opened) (n : ℕ) (rest : Code) (u : State) (Q : State → Type 0) → Facts env s x → length x.listed.entries ≤ limit
        → ((v : State) → value env v.regs (part_term x.opening n) ≡ pos (length x.listed.entries) → ((r : ℕ) → r < n → v.regs r ≡ u.regs r) → v.bufs ≡ u.bufs
        → v.steps ≤ u.steps + cond (is_tight x.opening) 0 (count_cost env x.opening.values (length (values_on s x.listed.part x.listed.entries)) (length x.listed.entries)) → Does env rest v Q)
        → Does env (count_part x.opening n +++ rest) u Q
    count_does x n rest u Q f few then = by (is_tight x.opening) refl then
      where
        by : (t : Bool) → is_tight x.opening ≡ t
            → ((v : State) → value env v.regs (cond t (cells_term x.opening.values) (Reg n)) ≡ pos (length x.listed.entries) → ((r : ℕ) → r < n → v.regs r ≡ u.regs r) → v.bufs ≡ u.bufs
            → v.steps ≤ u.steps + cond t 0 (count_cost env x.opening.values (length (values_on s x.listed.part x.listed.entries)) (length x.listed.entries)) → Does env rest v Q)
            → Does env (cond t End (count_cells x.opening.values n) +++ rest) u Q
        by true e go = go u (cells_value env u.regs x.opening.values (values_on s x.listed.part x.listed.entries) f.values ∙ ap pos (f.tight e)) (λ r l. refl) refl (omega arith)
        by false e go = cells_do env s x.listed.part x.listed.entries f.lawful f.matrix few n u x.opening.values rest Q f.values go

    parts_do : (xs : List Opened) (n : ℕ) (u : State) (Q : State → Type 0) → AllFacts env s xs → total (listeds xs) ≤ limit
        → ((v : State) → Held xs n v.regs → ((r : ℕ) → r < n → v.regs r ≡ u.regs r) → v.bufs ≡ u.bufs → v.steps ≤ u.steps + block_cost xs → Q v)
        → Does env (opening_code (openings xs) n) u Q
    parts_do [] n u Q f few then = do_end env u Q (then u tt (λ r l. refl) refl (omega arith))
    parts_do (x ∷ xs) n u Q f few then =
        let k = counter x.opening n in
        let es = x.opening.extents.items in
        extents_do es n (count_part x.opening k +++ opening_code (openings xs) (k + 3)) u Q f.0.extents
        (λ v1 held1 same1 b1 st1.
        count_does x k (opening_code (openings xs) (k + 3)) v1 Q f.0 (omega (arith, few))
        (λ v2 term2 same2 b2 st2.
        parts_do xs (k + 3) v2 Q f.1 (omega (arith, few))
        (λ v3 held3 same3 b3 st3.
        then v3 (
          extents_same env.sources es n v1.regs v3.regs (λ r a b. same3 r (omega (arith, b)) ∙ same2 r b) held1,
          term_same (is_tight x.opening) x.opening.values k v2.regs v3.regs (same3 k (omega arith)) ∙ term2,
          held3,
        )
        (λ r l. same3 r (omega (arith, l)) ∙ (same2 r (omega (arith, l)) ∙ same1 r l)) (b3 ∙ (b2 ∙ b1)) (omega (arith, st1, st2, st3)))))

    -- the number of all entries
    term_of : (t : Bool) (c : Column) (n : ℕ) (e : Env) (f : ℕ → ℤ) → e.sources ≡ env.sources → value e f (cond t (cells_term c) (Reg n)) ≡ value env f (cond t (cells_term c) (Reg n))
    term_of true (column.Own j) n e f same = ap (λ (g : ℕ → List ℤ). pos (length (g j))) same
    term_of true (column.Packed j w digit) n e f same = ap (λ (g : ℕ → List ℤ). int_div_euclid (pos (length (g j))) (pos w)) same
    term_of false c n e f same = refl

    add_value : (xs : List Opened) (t : TermTree) (v n : ℕ) (e : Env) (f : ℕ → ℤ) → e.sources ≡ env.sources → value e f t ≡ pos v → v + total (listeds xs) ≤ limit → Held xs n f
        → value e f (add_terms t (openings xs) n) ≡ pos (v + total (listeds xs))
    add_value [] t v n e f same is small h = is ∙ ap pos (omega arith)
    add_value (x ∷ xs) t v n e f same is small h =
        let k = counter x.opening n in
        let m = length x.listed.entries in
        let one : value e f (part_term x.opening k) ≡ pos m = term_of (is_tight x.opening) x.opening.values k e f same ∙ h.1 in
        let sum : value e f (Add t (part_term x.opening k)) ≡ pos (v + m) =
        ap₂ (λ (a b : ℤ). int_wrap w64 (a +ℤ b)) is one ∙ wrap_small (v + m) (omega (arith, small)) in
        add_value xs (Add t (part_term x.opening k)) (v + m) (k + 3) e f same sum (omega (arith, small)) h.2 ∙ ap pos (omega arith)

    total_value : (xs : List Opened) (n : ℕ) (e : Env) (f : ℕ → ℤ) → e.sources ≡ env.sources → total (listeds xs) ≤ limit → Held xs n f → value e f (total_term (openings xs) n) ≡ pos (total (listeds xs))
    total_value [] n e f same small h = refl
    total_value (x ∷ xs) n e f same small h =
        let k = counter x.opening n in
        let m = length x.listed.entries in
        let one : value e f (part_term x.opening k) ≡ pos m = term_of (is_tight x.opening) x.opening.values k e f same ∙ h.1 in
        add_value xs (part_term x.opening k) m (k + 3) e f same one small h.2

    held_extents : (xs : List Opened) (n : ℕ) (f : ℕ → ℤ) → Held xs n f → AllExtents env.sources (openings xs) n f
    held_extents [] n f h = tt
    held_extents (x ∷ xs) n f h = (h.0, held_extents xs (counter x.opening n + 3) f h.2)

-- ---- how many lines

extent_count : (es : List Extent) (n : ℕ) → length (extent_lines es n) ≡ length es
extent_count [] n = refl
extent_count (e ∷ es) n = omega (arith, extent_count es (n + 3))

node_count : (ls : List Loop) → AreNamed ls → length (loop_lines ls) ≡ nodes_cost ls
node_count [] h = refl
node_count (over.Full size lo ∷ ls) h = node_count ls h
node_count (over.Nodes k (dim.Number x) nodes crd lo ∷ ls) h = absurd h.0
node_count (over.Nodes k (dim.Len x) nodes crd lo ∷ ls) h = absurd h.0
node_count (over.Nodes k (dim.Name m) nodes (column.Own j) lo ∷ ls) h = omega (arith, node_count ls h.2)
node_count (over.Nodes k (dim.Name m) (dim.Number x) (column.Packed i w digit) lo ∷ ls) h = absurd h.1
node_count (over.Nodes k (dim.Name m) (dim.Len x) (column.Packed i w digit) lo ∷ ls) h = absurd h.1
node_count (over.Nodes k (dim.Name m) (dim.Name d) (column.Packed i w digit) lo ∷ ls) h = omega (arith, node_count ls h.2)

line_count : (env : Env) (s : Shape) (xs : List Opened) (n : ℕ) (last : LineTree) → AllNamed (openings xs) → block_cost env s xs + length (opening_lines (openings xs) n last) ≡ open_cost env s xs
line_count env s [] n last h = omega arith
line_count env s (x ∷ xs) n last h =
    let X = extent_lines x.opening.extents.items n in
    let L = loop_lines x.opening.loops.items in
    let M = opening_lines (openings xs) (counter x.opening n + 3) last in
    omega (
      arith,
      length-append X (L ++ M),
      length-append L M,
      extent_count x.opening.extents.items n,
      node_count x.opening.loops.items h.0,
      line_count env s xs (counter x.opening n + 3) last h.1,
    )

-- ---- the phase

cost_as : (low m n : ℕ) (w : World) (r : Ran) (Q : World → Type 0) → m ≡ n → Leads low m w r Q → Leads low n w r Q
cost_as low m n w r Q e x = subst (λ (k : ℕ). Leads low k w r Q) e x

pub opening_opens : OpeningOpens
opening_opens w s xs count n low ok listable new few =
    let os = openings xs in
    let env = w.env in
    let t = total_term os n in
    let last = plain.Of count t in
    let named = all_named env xs ok in
    let made = all_made env xs n ok in
    let E0 = after_lines made.0 (all_lines count n os) env in
    let are0 : DimsAre E0 os = dims_are made.0 low os n last env new named made.1 in
    let same0 : E0.sources ≡ env.sources = sources_kept made.0 (all_lines count n os) env in
    let facts : AllFacts env s xs = all_facts E0 env s xs same0 ok are0 (listable E0 same0 are0) in
    let p = opening_phase count n os in
    let Q = Opens w s xs count in
    let B = block_cost env s xs in
    let lines = length (all_lines count n os) in
    let costs : 0 + B + lines ≡ open_cost env s xs = omega (arith, line_count env s xs n last named) in
    cost_as low (0 + B + lines) (open_cost env s xs) w (phases (p ∷ []) w) Q costs
    (phase_leads low 0 B lines p w (λ u. w ≡ u) Q (leads_none low w (λ u. w ≡ u) refl)
    (λ u same keeps.
    subst (λ (z : World). Does z.env p.body (begin z) (Body low B lines p.lines Q z)) same
    (parts_do env s xs n (begin w) (Body low B lines p.lines Q w) facts few
    (λ v held regs bs st.
    record {
      steps = st;
      bufs = λ b lt. ap (λ (f : ℕ → List ℤ). f b) bs;
      then = leads_weaker low lines (after w v) (line_all v.regs (all_lines count n os) (after w v)) (Behind v.regs (all_lines count n os) (after w v)) Q
          (λ z behind kept.
          let f = v.regs in
          let E = after_lines f (all_lines count n os) env in
          let is : z.env ≡ E = behind.0 in
          let sources : E.sources ≡ env.sources = sources_kept f (all_lines count n os) env in
          let are : DimsAre E os = dims_are f low os n last env new named (held_extents env s xs n f held) in
          let value_is : (e : Env) → e.sources ≡ env.sources → value e f t ≡ pos (total (listeds xs)) = λ e q. total_value env s xs n e f q few held in
          record {
            dims = subst (λ (e : Env). DimsAre e os) (sym is) are;
            counted = ap (λ (e : Env). e.dims count) is ∙ last_is f os n count t (total (listeds xs)) env value_is;
            listable = subst (λ (e : Env). AreListable e s (listeds xs)) (sym is) (listable E sources are);
            bufs = behind.1 ∙ bs;
          })
          (lines_lead low v.regs (all_lines count n os) (after w v) new
          (dims_small v.regs os n last env named (held_extents env s xs n v.regs held) (all_short env s xs facts)
          (λ e q.
          let is : value e v.regs t ≡ pos (total (listeds xs)) = total_value env s xs n e v.regs q few held in
          let whole_is : whole (value e v.regs t) ≡ total (listeds xs) = ap whole is in
          (is ∙ ap pos (sym whole_is), omega (arith, whole_is, few), tt))));
    }))))
