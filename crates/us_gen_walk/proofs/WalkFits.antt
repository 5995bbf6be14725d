-- The loops are typed in every context with room.
use Rattle.std.proofs.Common.{◌≡◌, ℕ, zero, suc, ◌+◌, ◌<◌, ◌≤◌, Bool, true, false, cond, nat_lt, nat_eq, ◌&&◌, refl, ap, ◌∙◌, subst, arith, List, [], ◌∷◌, ◌++◌, length, Option, Some, All}
use Rattle.std.proofs.lemmas.Bool.Decides.{nat_tests}
use Rattle.us_code.specs.declared.program.Dim.{Dim}
use Rattle.us_code.specs.declared.program.Dim.TheVariants as dim
use Rattle.us_code.specs.declared.program.CellKind.{CellKind}
use Rattle.us_code.specs.declared.program.CellKind.TheVariants as kind
use Rattle.us_code.specs.Plain.{TermTree, Number, Reg, Add, Mul, Code}
use Rattle.us_code.specs.Typing.{Context, RegKind, Form, is_some, reg_kind, with_reg, fits, kind_of, sees_dim, spans, ends_form, fine, Typed}
use Rattle.us_code_laws.proofs.Sequence.{put_same, put_other}
use Rattle.us_code_laws.proofs.Sound.{both_true}
use Rattle.us_gen.specs.Nest.{is_origin, under}
use Rattle.us_gen.specs.declared.nests.Level.{Level}
use Rattle.us_gen.specs.declared.nests.Level.TheVariants.{Full, Nodes, Crd, Cell, Packed}
use Rattle.us_gen.specs.Levels.{size_term, names, position, nest, end_of, position_in}
use Rattle.us_gen.specs.Rooms.{FreshFrom, in_level, LevelTyped, in_nest, AllTyped}
use Rattle.us_gen.proofs.NestsFit.{fresh_more, fine_more, nests_typed}
use Rattle.us_invert.specs.declared.steps.PlanStep.{PlanStep}
use Rattle.us_invert.specs.declared.steps.PlanStep.TheVariants as plan
use Rattle.us_gen_recover.specs.declared.places.Coordinate.{Coordinate}
use Rattle.us_gen_recover.specs.declared.places.Table.{Table}
use Rattle.us_gen_recover.specs.Recovery.{coordinate, table, names as step_names, recovery}
use Rattle.us_gen_recover.specs.Rooms.{NamesWithin, Room, in_step, in_recovery}
use Rattle.us_gen_recover.proofs.StepsFit.{recovery_fits}
use Rattle.us_gen_walk.specs.declared.places.Column.{Column}
use Rattle.us_gen_walk.specs.declared.places.Column.TheVariants as column
use Rattle.us_gen_walk.specs.declared.places.Loop.{Loop}
use Rattle.us_gen_walk.specs.declared.places.Loop.TheVariants as over
use Rattle.us_gen_walk.specs.declared.places.Slot.{Slot}
use Rattle.us_gen_walk.specs.declared.places.Places.{Places}
use Rattle.us_gen_walk.specs.Walk.{tested, loop_levels, loop_coordinates, slot_levels, slot_coordinates, coordinates, leaf_at, steps_at, position as place_in, is_tight, unless_zero, value_register}
use Rattle.us_gen_walk.specs.Rooms.{SeesColumn, SeesLoops, SeesSlots, SeesPlaces, in_leaf, in_walk, TypedWalk, WalkIsTyped}
use Rattle.us_gen_walk.proofs.Around.{names_tested, end_after, end_of_slots}

-- ---- what stays visible

-- all but registers from n on
record Kept (n : ℕ) (g h : Context) : Type 0 where
  regs : (r : ℕ) → r < n → h.regs r ≡ g.regs r
  bufs : h.bufs ≡ g.bufs
  dims : h.dims ≡ g.dims
  sources : h.sources ≡ g.sources

kept_all : (n : ℕ) (g : Context) → Kept n g g
kept_all n g = record { regs = λ r l. refl; bufs = refl; dims = refl; sources = refl }

kept_both : (n m : ℕ) (g h k : Context) → n ≤ m → Kept n g h → Kept m h k → Kept n g k
kept_both n m g h k le a b = record { regs = λ r l. b.regs r (omega (arith, l, le)) ∙ a.regs r l; bufs = b.bufs ∙ a.bufs; dims = b.dims ∙ a.dims; sources = b.sources ∙ a.sources }

kept_more : (n r : ℕ) (g h : Context) (v : Bool) (k : CellKind) → n ≤ r → Kept n g h → Kept n g (with_reg h r v k)
kept_more n r g h v k le a = record { regs = λ x l. put_other h.regs r _ x (omega (arith, l, le)) ∙ a.regs x l; bufs = a.bufs; dims = a.dims; sources = a.sources }

level_keeps : (g : Context) (l : Level) (n : ℕ) → Kept n g (in_level g l n)
level_keeps g (Full size) n = kept_more n n g g false (kind.Below size) (omega arith) (kept_all n g)
level_keeps g (Nodes k more nodes) n =
    kept_more n (n + 6) g _ false (kind.Below nodes) (omega arith)
    (kept_more n (n + 5) g _ false (kind.Below more) (omega arith)
    (kept_more n (n + 4) g _ false (kind.Below more) (omega arith)
    (kept_more n (n + 3) g _ false kind.Word (omega arith)
    (kept_more n (n + 2) g _ false (kind.Below (dim.Len k)) (omega arith)
    (kept_more n (n + 1) g _ false kind.Word (omega arith) (kept_more n n g g false (kind.Below (dim.Len k)) (omega arith) (kept_all n g)))))))
level_keeps g (Crd k) n = kept_more n n g g false kind.Word (omega arith) (kept_all n g)
level_keeps g (Cell k) n = kept_more n (n + 1) g _ false kind.Word (omega arith) (kept_more n n g g false (kind.Below (dim.Len k)) (omega arith) (kept_all n g))
level_keeps g (Packed k w digit) n = kept_more n (n + 1) g _ false kind.Word (omega arith) (kept_more n n g g false (kind.Below (dim.Len k)) (omega arith) (kept_all n g))

nest_keeps : (g : Context) (ls : List Level) (n : ℕ) → Kept n g (in_nest g ls n)
nest_keeps g [] n = kept_all n g
nest_keeps g (l ∷ ls) n = kept_both n (n + names l) g (in_level g l n) (in_nest (in_level g l n) ls (n + names l)) (omega arith) (level_keeps g l n) (nest_keeps (in_level g l n) ls (n + names l))

step_keeps : (g : Context) (tables : List Table) (x : PlanStep) (n : ℕ) → Kept n g (in_step g tables x n)
step_keeps g tables (plan.Const c) n = kept_all n g
step_keeps g tables (plan.Level k) n = kept_all n g
step_keeps g tables (plan.Add a b) n = kept_more n n g g false kind.Word (omega arith) (kept_all n g)
step_keeps g tables (plan.Sub a b) n = kept_more n n g g false kind.Word (omega arith) (kept_all n g)
step_keeps g tables (plan.Join q r k) n = kept_more n n g g false kind.Word (omega arith) (kept_all n g)
step_keeps g tables (plan.Div a k) n = kept_more n n g g false kind.Word (omega arith) (kept_all n g)
step_keeps g tables (plan.Rem a k) n = kept_more n n g g false kind.Word (omega arith) (kept_all n g)
step_keeps g tables (plan.Order q v) n = level_keeps g (Cell (table tables q).source) n
step_keeps g tables (plan.Rows q l t) n = level_keeps g (Cell (table tables q).source) n

recovery_keeps : (g : Context) (tables : List Table) (steps : List PlanStep) (n : ℕ) → Kept n g (in_recovery g tables steps n)
recovery_keeps g tables [] n = kept_all n g
recovery_keeps g tables (x ∷ steps) n =
    kept_both n (n + step_names x) g (in_step g tables x n) (in_recovery (in_step g tables x n) tables steps (n + step_names x)) (omega arith) (step_keeps g tables x n)
    (recovery_keeps (in_step g tables x n) tables steps (n + step_names x))

-- ---- fresh registers and fine positions

level_fresh : (g : Context) (l : Level) (n : ℕ) → FreshFrom g n → FreshFrom (in_level g l n) (n + names l)
level_fresh g (Full size) n f = fresh_more g n n false (kind.Below size) (n + 1) (omega arith) (omega arith) f
level_fresh g (Nodes k more nodes) n f = record { none = λ x h. grind (arith, put_same, put_other, f.none x) }
level_fresh g (Crd k) n f = fresh_more g n n false kind.Word (n + 1) (omega arith) (omega arith) f
level_fresh g (Cell k) n f = record { none = λ x h. grind (arith, put_same, put_other, f.none x) }
level_fresh g (Packed k w digit) n f = record { none = λ x h. grind (arith, put_same, put_other, f.none x) }

nest_fresh : (g : Context) (ls : List Level) (n : ℕ) → FreshFrom g n → FreshFrom (in_nest g ls n) (end_of ls n)
nest_fresh g [] n f = f
nest_fresh g (l ∷ ls) n f = nest_fresh (in_level g l n) ls (n + names l) (level_fresh g l n f)

made_fine : (g : Context) (r : ℕ) (v : Bool) (k : CellKind) → fine (with_reg g r v k) (Reg r) ≡ true
made_fine g r v k = ap is_some (put_same g.regs r _)

-- a dim that is seen in a context with the same dims and sources
sees_as : (g h : Context) (d : Dim) → h.dims ≡ g.dims → h.sources ≡ g.sources → sees_dim g d ≡ true → sees_dim h d ≡ true
sees_as g h (dim.Number n) ds ss s = refl
sees_as g h (dim.Name d) ds ss s = ap (λ (f : ℕ → Option Form). is_some (f d)) ds ∙ s
sees_as g h (dim.Len k) ds ss s = ap (λ (x : ℕ). nat_lt k x) ss ∙ s

below_as : (g h : Context) (k : ℕ) → h.sources ≡ g.sources → nat_lt k g.sources ≡ true → nat_lt k h.sources ≡ true
below_as g h k ss s = ap (λ (x : ℕ). nat_lt k x) ss ∙ s

spans_as : (g h : Context) (d e : Dim) → h.dims ≡ g.dims → spans g (kind.Below d) (kind.Below d) e ≡ true → spans h (kind.Below d) (kind.Below d) e ≡ true
spans_as g h (dim.Number n) (dim.Number m) ds s = s
spans_as g h (dim.Number n) (dim.Name m) ds s = s
spans_as g h (dim.Number n) (dim.Len m) ds s = s
spans_as g h (dim.Name d) e ds s = ap (λ (f : ℕ → Option Form). nat_eq d d && ends_form (f d) e) ds ∙ s
spans_as g h (dim.Len x) e ds s = s

size_fine : (g : Context) (d : Dim) → sees_dim g d ≡ true → fine g (size_term d) ≡ true
size_fine g (dim.Number n) h = refl
size_fine g (dim.Name d) h = h
size_fine g (dim.Len k) h = h

under_fine : (g : Context) (q : TermTree) (size : Dim) (n : ℕ) → FreshFrom g n → fine g q ≡ true → sees_dim g size ≡ true → fine (in_level g (Full size) n) (under q (size_term size) n) ≡ true
under_fine g q size n f h s = case (is_origin q)
  where
    g1 : Context
    g1 = with_reg g n false (kind.Below size)

    case : (b : Bool) → fine g1 (cond b (Reg n) (Add (Mul q (size_term size)) (Reg n))) ≡ true
    case true = made_fine g n false (kind.Below size)
    case false =
        both_true (fine g1 q && fine g1 (size_term size)) (fine g1 (Reg n))
        (both_true (fine g1 q) (fine g1 (size_term size)) (fine_more g n n false (kind.Below size) q f (omega arith) h) (size_fine g1 size (sees_as g g1 size refl refl s)))
        (made_fine g n false (kind.Below size))

two_fine : (g : Context) (q : TermTree) (k n : ℕ) → FreshFrom g n → fine g q ≡ true → fine (in_level g (Cell k) n) q ≡ true
two_fine g q k n f h =
    let g1 = with_reg g n false (kind.Below (dim.Len k)) in
    fine_more g1 (n + 1) (n + 1) false kind.Word q (fresh_more g n n false (kind.Below (dim.Len k)) (n + 1) (omega arith) (omega arith) f) (omega arith) (fine_more g n n false (kind.Below (dim.Len k)) q f (omega arith) h)

level_fine : (g : Context) (l : Level) (q : TermTree) (n : ℕ) → FreshFrom g n → fine g q ≡ true → LevelTyped g l q → fine (in_level g l n) (position l q n) ≡ true
level_fine g (Full size) q n f h l = under_fine g q size n f h l
level_fine g (Nodes k more nodes) q n f h l = ap is_some (put_same _ (n + 6) _)
level_fine g (Crd k) q n f h l = fine_more g n n false kind.Word q f (omega arith) h
level_fine g (Cell k) q n f h l = two_fine g q k n f h
level_fine g (Packed k w digit) q n f h l = two_fine g q k n f h

nest_fine : (g : Context) (ls : List Level) (q : TermTree) (n : ℕ) → FreshFrom g n → fine g q ≡ true → AllTyped g ls q n → fine (in_nest g ls n) (position_in ls q n) ≡ true
nest_fine g [] q n f h a = h
nest_fine g (l ∷ ls) q n f h a = nest_fine (in_level g l n) ls (position l q n) (n + names l) (level_fresh g l n f) (level_fine g l q n f h a.0) a.1

-- ---- levels

same_nat : (k : ℕ) → nat_eq k k ≡ true
same_nat k = grind (arith, nat_tests)

-- a node is in range of a source that is as long as there are nodes
node_fits : (h : Context) (k : ℕ) (more nodes : Dim) (c n : ℕ) → nodes ≡ dim.Len c → fits (kind_of (in_level h (Nodes k more nodes) n) (Reg (n + 6))) (dim.Len c) ≡ true
node_fits h k more nodes c n e = ap (λ (o : Option RegKind). fits (reg_kind o) (dim.Len c)) (put_same _ (n + 6) _) ∙ (ap (λ (d : Dim). fits (kind.Below d) (dim.Len c)) e ∙ same_nat c)

loops_typed : (g h : Context) (ls : List Loop) (q : TermTree) (n : ℕ) → SeesLoops g ls → h.dims ≡ g.dims → h.sources ≡ g.sources → AllTyped h (loop_levels ls) q n
loops_typed g h [] q n s ds ss = tt
loops_typed g h (over.Full size low ∷ ls) q n s ds ss = (sees_as g h size ds ss s.0, loops_typed g (in_level h (Full size) n) ls (under q (size_term size) n) (n + 1) s.1 ds ss)
loops_typed g h (over.Nodes k more nodes (column.Own c) low ∷ ls) q n s ds ss = (
  (below_as g h k ss s.0.0, sees_as g h more ds ss s.0.1, sees_as g h nodes ds ss s.0.2, spans_as g h more nodes ds s.0.3),
  ((below_as g h c ss s.0.4, node_fits h k more nodes c n s.0.5), loops_typed g (in_level (in_level h (Nodes k more nodes) n) (Crd c) (n + 7)) ls (Reg (n + 6)) (n + 7 + 1) s.1 ds ss),
)
loops_typed g h (over.Nodes k more nodes (column.Packed c w digit) low ∷ ls) q n s ds ss = (
  (below_as g h k ss s.0.0, sees_as g h more ds ss s.0.1, sees_as g h nodes ds ss s.0.2, spans_as g h more nodes ds s.0.3),
  (below_as g h c ss s.0.4, loops_typed g (in_level (in_level h (Nodes k more nodes) n) (Packed c w digit) (n + 7)) ls (Reg (n + 6)) (n + 7 + 2) s.1 ds ss),
)

column_typed : (g h : Context) (c : Column) (q : TermTree) → SeesColumn g c → h.sources ≡ g.sources → LevelTyped h (tested c) q
column_typed g h (column.Own k) q s ss = below_as g h k ss s
column_typed g h (column.Packed k w digit) q s ss = below_as g h k ss s

slots_typed : (g h : Context) (xs : List Slot) (q : TermTree) (n : ℕ) → SeesSlots g xs → h.sources ≡ g.sources → AllTyped h (slot_levels xs) q n
slots_typed g h [] q n s ss = tt
slots_typed g h (x ∷ xs) q n s ss = (
  column_typed g h x.crd q s.0 ss,
  slots_typed g (in_level h (tested x.crd) n) xs (position (tested x.crd) q n) (n + names (tested x.crd)) s.1 ((level_keeps h (tested x.crd) n).sources ∙ ss),
)

-- ---- coordinates

-- the registers of coordinates are visible, and below n
abbrev SeesAll : Context → ℕ → List Coordinate → Type 0
SeesAll g n [] = Unit {0}
SeesAll g n (c ∷ cs) = (c.reg < n) × (is_some (g.regs c.reg) ≡ true) × SeesAll g n cs

sees_more : (g h : Context) (n m : ℕ) (cs : List Coordinate) → n ≤ m → Kept n g h → SeesAll g n cs → SeesAll h m cs
sees_more g h n m [] le k s = tt
sees_more g h n m (c ∷ cs) le k s = (omega (arith, le, s.0), ap is_some (k.regs c.reg s.0) ∙ s.1, sees_more g h n m cs le k s.2)

sees_both : (g : Context) (n : ℕ) (a b : List Coordinate) → SeesAll g n a → SeesAll g n b → SeesAll g n (a ++ b)
sees_both g n [] b s t = t
sees_both g n (c ∷ cs) b s t = (s.0, s.1, sees_both g n cs b s.2 t)

sees_at : (g : Context) (n : ℕ) (cs : List Coordinate) (k : ℕ) → SeesAll g n cs → k < length cs → is_some (g.regs (coordinate cs k).reg) ≡ true
sees_at g n [] k s lt = absurd (omega (arith, lt))
sees_at g n (c ∷ cs) zero s lt = s.1
sees_at g n (c ∷ cs) (suc k) s lt = sees_at g n cs k s.2 (omega (arith, lt))

-- a register that a level just made
made_in : (g : Context) (ls : List Level) (r m : ℕ) (v : Bool) (k : CellKind) → r < m → is_some ((in_nest (with_reg g r v k) ls m).regs r) ≡ true
made_in g ls r m v k lt = ap is_some ((nest_keeps (with_reg g r v k) ls m).regs r lt ∙ put_same g.regs r _)

loops_seen : (g : Context) (ls : List Loop) (n : ℕ) → SeesAll (in_nest g (loop_levels ls) n) (end_of (loop_levels ls) n) (loop_coordinates ls n)
loops_seen g [] n = tt
loops_seen g (over.Full size low ∷ ls) n = (omega (arith, end_after (loop_levels ls) (n + 1)), made_in g (loop_levels ls) n (n + 1) false (kind.Below size) (omega arith), loops_seen (in_level g (Full size) n) ls (n + 1))
loops_seen g (over.Nodes k more nodes (column.Own c) low ∷ ls) n =
    let h = in_level g (Nodes k more nodes) n in
    (omega (arith, end_after (loop_levels ls) (n + 7 + 1)), made_in h (loop_levels ls) (n + 7) (n + 7 + 1) false kind.Word (omega arith), loops_seen (in_level h (Crd c) (n + 7)) ls (n + 7 + 1))
loops_seen g (over.Nodes k more nodes (column.Packed c w digit) low ∷ ls) n =
    let h = in_level g (Nodes k more nodes) n in
    let h1 = with_reg h (n + 7) false (kind.Below (dim.Len c)) in (
      omega (arith, end_after (loop_levels ls) (n + 7 + 2)),
      made_in h1 (loop_levels ls) (n + 7 + 1) (n + 7 + 2) false kind.Word (omega arith),
      loops_seen (in_level h (Packed c w digit) (n + 7)) ls (n + 7 + 2),
    )

value_made : (g : Context) (c : Column) (n : ℕ) → (in_level g (tested c) n).regs (n + 1) ≡ Some record { is_var = false; kind = kind.Word }
value_made g (column.Own k) n = put_same _ (n + 1) _
value_made g (column.Packed k w digit) n = put_same _ (n + 1) _

slots_seen : (g : Context) (xs : List Slot) (n m : ℕ) → n ≡ m → SeesAll (in_nest g (slot_levels xs) n) (end_of (slot_levels xs) n) (slot_coordinates xs m)
slots_seen g [] n m e = tt
slots_seen g (x ∷ xs) n m e =
    let l = tested x.crd in
    let h = in_level g l n in
    let at : m + 1 ≡ n + 1 = omega (arith, e) in (
      omega (arith, e, names_tested x.crd, end_after (slot_levels xs) (n + names l)),
      ap (λ (r : ℕ). is_some ((in_nest h (slot_levels xs) (n + names l)).regs r)) at ∙ ap is_some ((nest_keeps h (slot_levels xs) (n + names l)).regs (n + 1) (omega (arith, names_tested x.crd)) ∙ value_made g x.crd n),
      slots_seen h xs (n + names l) (m + 2) (omega (arith, e, names_tested x.crd)),
    )

-- ---- all

module _ (g : Context) (w : Places) (steps : List PlanStep) (n : ℕ) (f : FreshFrom g n) (s : SeesPlaces g w) (within : All (NamesWithin (length (coordinates w n)) (length w.tables.items)) steps) where
  abbrev g1 : Context
  g1 = in_nest g (loop_levels w.loops.items) n

  abbrev g2 : Context
  g2 = in_leaf g w n

  abbrev g3 : Context
  g3 = in_nest g2 (slot_levels w.slots.items) (leaf_at w n + 2)

  k1 : Kept n g g1
  k1 = nest_keeps g (loop_levels w.loops.items) n

  k2 : Kept (leaf_at w n) g1 g2
  k2 = level_keeps g1 (tested w.values) (leaf_at w n)

  k3 : Kept (leaf_at w n + 2) g2 g3
  k3 = nest_keeps g2 (slot_levels w.slots.items) (leaf_at w n + 2)

  k4 : Kept (steps_at w n) g3 (in_walk g w steps n)
  k4 = recovery_keeps g3 w.tables.items steps (steps_at w n)

  low : n ≤ leaf_at w n
  low = end_after (loop_levels w.loops.items) n

  k12 : Kept n g g2
  k12 = kept_both n (leaf_at w n) g g1 g2 low k1 k2

  k13 : Kept n g g3
  k13 = kept_both n (leaf_at w n + 2) g g2 g3 (omega (arith, low)) k12 k3

  f1 : FreshFrom g1 (leaf_at w n)
  f1 = nest_fresh g (loop_levels w.loops.items) n f

  f2 : FreshFrom g2 (leaf_at w n + 2)
  f2 = subst (λ (x : ℕ). FreshFrom g2 (leaf_at w n + x)) (names_tested w.values) (level_fresh g1 (tested w.values) (leaf_at w n) f1)

  f3 : FreshFrom g3 (steps_at w n)
  f3 = subst (FreshFrom g3) (end_of_slots w.slots.items (leaf_at w n + 2)) (nest_fresh g2 (slot_levels w.slots.items) (leaf_at w n + 2) f2)

  a1 : AllTyped g (loop_levels w.loops.items) (Number 0) n
  a1 = loops_typed g g w.loops.items (Number 0) n s.loops refl refl

  q1 : fine g1 (place_in w n) ≡ true
  q1 = nest_fine g (loop_levels w.loops.items) (Number 0) n f refl a1

  l2 : LevelTyped g1 (tested w.values) (place_in w n)
  l2 = column_typed g g1 w.values (place_in w n) s.values k1.sources

  q2 : fine g2 (place_in w n) ≡ true
  q2 = tested_fine w.values
    where
      tested_fine : (c : Column) → fine (in_level g1 (tested c) (leaf_at w n)) (place_in w n) ≡ true
      tested_fine (column.Own k) = two_fine g1 (place_in w n) k (leaf_at w n) f1 q1
      tested_fine (column.Packed k v digit) = two_fine g1 (place_in w n) k (leaf_at w n) f1 q1

  a2 : AllTyped g2 (slot_levels w.slots.items) (place_in w n) (leaf_at w n + 2)
  a2 = slots_typed g g2 w.slots.items (place_in w n) (leaf_at w n + 2) s.slots k12.sources

  room : Room g3 (coordinates w n) w.tables.items (steps_at w n)
  room =
      let outer = sees_more g1 g2 (leaf_at w n) (leaf_at w n + 2) (loop_coordinates w.loops.items n) (omega arith) k2 (loops_seen g w.loops.items n) in
      let far = sees_more g2 g3 (leaf_at w n + 2) (end_of (slot_levels w.slots.items) (leaf_at w n + 2)) (loop_coordinates w.loops.items n) (end_after (slot_levels w.slots.items) (leaf_at w n + 2)) k3 outer in
      let all = sees_both g3 (end_of (slot_levels w.slots.items) (leaf_at w n + 2)) (loop_coordinates w.loops.items n) (slot_coordinates w.slots.items (leaf_at w n + 2)) far (slots_seen g2 w.slots.items (leaf_at w n + 2) (leaf_at w n + 2) refl) in
      record {
        fresh = f3;
        coordinates = λ k lt. sees_at g3 (end_of (slot_levels w.slots.items) (leaf_at w n + 2)) (coordinates w n) k all lt;
        sources = λ q lt. below_as g g3 (table w.tables.items q).source k13.sources (s.tables q lt);
        extents = λ q lt. sees_as g g3 (table w.tables.items q).extent k13.dims k13.sources (s.extents q lt);
      }

  value2 : g2.regs (value_register w n) ≡ Some record { is_var = false; kind = kind.Word }
  value2 = value_made g1 w.values (leaf_at w n)

  unless_typed : (b : Bool) (inner : Code) → Typed g2 inner → Typed g2 (unless_zero b (value_register w n) inner)
  unless_typed true inner t = t
  unless_typed false inner t = (ap is_some value2, refl, tt, t, tt)

  pub typed_walk : TypedWalk g w steps n
  typed_walk = record {
    typed = λ inner t.
        let code = recovery (coordinates w n) w.tables.items steps [] (steps_at w n) inner in
        let recovered = recovery_fits.typed g3 (coordinates w n) w.tables.items steps (steps_at w n) inner room within t in
        let slots = nests_typed g2 (slot_levels w.slots.items) (place_in w n) (leaf_at w n + 2) code f2 q2 a2 recovered in
        let entry = unless_typed (is_tight w) (nest (slot_levels w.slots.items) (place_in w n) (leaf_at w n + 2) code) slots in
        let leaf = nests_typed g1 (tested w.values ∷ []) (place_in w n) (leaf_at w n) (unless_zero (is_tight w) (value_register w n) (nest (slot_levels w.slots.items) (place_in w n) (leaf_at w n + 2) code)) f1 q1 (l2, tt) entry in
        nests_typed g (loop_levels w.loops.items) (Number 0) n _ f refl a1 leaf;
    index_fine = λ k. recovery_fits.terms_fine g3 (coordinates w n) w.tables.items steps (steps_at w n) room within k;
    value_is = k4.regs (value_register w n) (omega arith) ∙ (k3.regs (value_register w n) (omega arith) ∙ value2);
    regs = λ r lt. k4.regs r (omega (arith, lt, low)) ∙ k13.regs r lt;
    bufs = k4.bufs ∙ k13.bufs;
    dims = k4.dims ∙ k13.dims;
    sources = k4.sources ∙ k13.sources;
    fresh = (recovery_fits.fresh g3 (coordinates w n) w.tables.items steps (steps_at w n) room).fresh;
  }

pub walk_is_typed : WalkIsTyped
walk_is_typed g w steps n f s within = typed_walk g w steps n f s within
