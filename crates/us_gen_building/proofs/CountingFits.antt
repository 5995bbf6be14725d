-- The first phase is typed, and its dims are visible after it.
use Rattle.std.proofs.Common.{◌≡◌, ◌≢◌, ℕ, zero, suc, ◌+◌, ◌*◌, ◌<◌, ◌≤◌, ◌⊎◌, inl, inr, List, [], ◌∷◌, ◌++◌, take, length, Bool, true, false, not, ◌||◌, nat_lt, nat_eq, refl, sym, ap, ap₂, ◌∙◌, subst, arith, Option, Some, None}
use Rattle.std.proofs.lemmas.Bool.{cases_eq}
use Rattle.std.proofs.lemmas.Bool.Decides.{nat_tests}
use Rattle.std.proofs.lemmas.List.{length-map}
use Rattle.us_code.specs.declared.program.Dim.{Dim}
use Rattle.us_code.specs.declared.program.Dim.TheVariants as dim
use Rattle.us_code.specs.declared.program.Buf.TheVariants as buf
use Rattle.us_code.specs.declared.program.CellKind.TheVariants as kind
use Rattle.us_code.specs.Plain.{Code, End, Number, Reg, Add, LineTree, Of, Product, Successor, ◌+++◌}
use Rattle.us_code.specs.Run.{put}
use Rattle.us_code.specs.Typing.{Context, Form, RegKind, BufKind, is_some, fine, sees_dim, sees_bufs, are_keys, same_dim, is_successor, Typed, TypedLine, TypedLines, TypedMakes, with_form, with_line, with_lines, with_bufs, outer}
use Rattle.us_code.specs.Typing as form
use Rattle.us_code_laws.proofs.Sequence.{put_same, put_other}
use Rattle.us_code_laws.proofs.Sound.{both_true, and_left, and_right}
use Rattle.us_format.specs.declared.Kind.{Kind}
use Rattle.us_format.specs.declared.Kind.TheVariants.{Full, Compressed, Listed, Slot}
use Rattle.us_format_loops.specs.Nodes.{is_slot, has_nodes}
use Rattle.us_gen.specs.Levels.{size_term}
use Rattle.us_gen.specs.Rooms.{FreshFrom}
use Rattle.us_gen_build.specs.Levels.{opens, open_of}
use Rattle.us_gen_build.specs.Loops.{levels_from, entry_loop}
use Rattle.us_gen_build.specs.Blocks.{closes, close_of}
use Rattle.us_gen_build.specs.Kinds.{word, words_of, with_regs, open_kind, open_kinds, opened, load_kinds, turn_kinds, in_turn, OrderFits, ColumnsFit, LevelFits, AllFit, NamesRise}
use Rattle.us_gen_build.specs.Orders.{key_bufs}
use Rattle.us_gen_build.proofs.LoopRun.{entry_high}
use Rattle.us_gen_build.proofs.BlockTyped.{blocks_typed}
use Rattle.us_gen_building.specs.declared.part.PartLevel.{PartLevel}
use Rattle.us_gen_building.specs.declared.part.PartLoops.{PartLoops}
use Rattle.us_gen_building.specs.declared.part.Descent.{Descent}
use Rattle.us_gen_building.specs.Levels.{are_last, columns, positions, starts, deeper, raised, group_at, group_count, counting_role, counted_level, counted_levels, start_line, level_lines, dim_lines}
use Rattle.us_gen_building.specs.Phases.{order_of, first_column, counted_from, dims_from, order_makes, order_code, count_code, groups, counting_top, counting_phase, all_columns}
use Rattle.us_gen_building.specs.Runs.{FollowsWell, AreOrderly}
use Rattle.us_gen_building.specs.Kinds.{SizesSeen, AreColumns, RoomFrom, SeesPart}

-- ---- what is visible

pub sees_same : (g h : Context) (d : Dim) → h.dims ≡ g.dims → h.sources ≡ g.sources → sees_dim g d ≡ true → sees_dim h d ≡ true
sees_same g h (dim.Number n) e q s = refl
sees_same g h (dim.Name d) e q s = ap (λ (f : ℕ → Option Form). is_some (f d)) e ∙ s
sees_same g h (dim.Len k) e q s = ap (λ (n : ℕ). nat_lt k n) q ∙ s

pub sizes_same : (g h : Context) (ls : List PartLevel) → h.dims ≡ g.dims → h.sources ≡ g.sources → SizesSeen g ls → SizesSeen h ls
sizes_same g h [] e q s = tt
sizes_same g h (l ∷ ls) e q s = (sees_same g h l.size e q s.0, sizes_same g h ls e q s.1)

sizes_take : (g : Context) (ls : List PartLevel) (k : ℕ) → SizesSeen g ls → SizesSeen g (take k ls)
sizes_take g [] zero s = tt
sizes_take g [] (suc k) s = tt
sizes_take g (l ∷ ls) zero s = tt
sizes_take g (l ∷ ls) (suc k) s = (s.0, sizes_take g ls k s.1)

pub size_fine : (g : Context) (d : Dim) → sees_dim g d ≡ true → fine g (size_term d) ≡ true
size_fine g (dim.Number n) h = refl
size_fine g (dim.Name d) h = h
size_fine g (dim.Len k) h = h

pub none_some : {A : Type 0} {B : Type 0} (o : Option A) (k : A) → o ≡ None → o ≡ Some k → B
none_some None k n s = absurd cc
none_some (Some x) k n s = absurd cc

-- columns that are no buffer of an order
abbrev pub OwnColumns : (ℕ → Option BufKind) → Dim → ℕ → List ℕ → Type 0
OwnColumns bufs d f [] = Unit {0}
OwnColumns bufs d f (b ∷ bs) = (bufs b ≡ words_of d) × (b ≢ f) × OwnColumns bufs d f bs

pub own_columns : (g : Context) (d : Dim) (f : ℕ) (cs : List ℕ) (other : ℕ → Option BufKind) → g.bufs f ≡ None → ((b : ℕ) → f ≢ b → other b ≡ g.bufs b) → AreColumns g d cs → OwnColumns other d f cs
own_columns g d f [] other n same c = tt
own_columns g d f (b ∷ bs) other n same c =
    let apart : b ≢ f = λ e. none_some (g.bufs f) (record { len = d; cell = kind.Word }) n (sym (ap g.bufs e) ∙ c.0) in
    (same b (λ e. apart (sym e)) ∙ c.0, apart, own_columns g d f bs other n same c.1)

own_take : (bufs : ℕ → Option BufKind) (d : Dim) (f : ℕ) (ls : List PartLevel) (k : ℕ) → OwnColumns bufs d f (columns ls) → OwnColumns bufs d f (columns (take k ls))
own_take bufs d f [] zero c = tt
own_take bufs d f [] (suc k) c = tt
own_take bufs d f (l ∷ ls) zero c = tt
own_take bufs d f (l ∷ ls) (suc k) c = (c.0, c.1, own_take bufs d f ls k c.2)

own_front : (bufs : ℕ → Option BufKind) (d : Dim) (f : ℕ) (xs ys : List ℕ) → OwnColumns bufs d f (xs ++ ys) → OwnColumns bufs d f xs
own_front bufs d f [] bs c = tt
own_front bufs d f (a ∷ xs) bs c = (c.0, c.1, own_front bufs d f xs bs c.2)

pub own_fit : (bufs : ℕ → Option BufKind) (d : Dim) (f : ℕ) (cs : List ℕ) → OwnColumns bufs d f cs → ColumnsFit bufs d cs
own_fit bufs d f [] c = tt
own_fit bufs d f (b ∷ bs) c = (ap is_some c.0, ap form.buf_len c.0, own_fit bufs d f bs c.2)

same_self : (d : Dim) → same_dim d d ≡ true
same_self (dim.Number n) = grind (arith, nat_tests)
same_self (dim.Name d) = grind (arith, nat_tests)
same_self (dim.Len k) = grind (arith, nat_tests)

or_right : (a b : Bool) → b ≡ true → a || b ≡ true
or_right true b e = refl
or_right false b e = e

other_nat : (a b : ℕ) → a ≢ b → nat_eq a b ≡ false
other_nat a b n = grind (arith, nat_tests)

keys_seen : (g : Context) (d : Dim) (f : ℕ) (cs : List ℕ) → OwnColumns g.bufs d f cs → sees_bufs g (key_bufs cs) ≡ true
keys_seen g d f [] c = refl
keys_seen g d f (b ∷ bs) c = both_true _ _ (ap is_some c.0) (keys_seen g d f bs c.2)

keys_fit : (g : Context) (d : Dim) (f : ℕ) (cs : List ℕ) → form.buf_len (g.bufs f) ≡ d → OwnColumns g.bufs d f cs → are_keys g (buf.New f) (key_bufs cs) ≡ true
keys_fit g d f [] e c = refl
keys_fit g d f (b ∷ bs) e c =
    both_true _ _ (both_true _ _ (ap₂ same_dim (ap form.buf_len c.0) e ∙ same_self d) (ap not (other_nat b f c.1))) (keys_fit g d f bs e c.2)

-- ---- the new buffer of an order

record Ordering (g h : Context) (keys : Option ℕ) (f count : ℕ) : Type 0 where
  pub bufs : (b : ℕ) → f ≢ b → h.bufs b ≡ g.bufs b
  pub order : OrderFits h.bufs (dim.Name count) (order_of keys f)
  pub dims : h.dims ≡ g.dims
  pub sources : h.sources ≡ g.sources
  pub regs : h.regs ≡ g.regs

ordering : (g : Context) (keys : Option ℕ) (f count : ℕ) → Ordering g (with_bufs g (order_makes keys f count)) keys f count
ordering g None f count = record { bufs = λ b n. refl; order = tt; dims = refl; sources = refl; regs = refl }
ordering g (Some k) f count = record { bufs = λ b n. put_other g.bufs f _ b n; order = put_same g.bufs f _; dims = refl; sources = refl; regs = refl }

order_made : (g : Context) (keys : Option ℕ) (f count : ℕ) → g.bufs f ≡ None → sees_dim g (dim.Name count) ≡ true → TypedMakes g (order_makes keys f count)
order_made g None f count n s = tt
order_made g (Some k) f count n s = (n, s, s, or_right (is_successor (g.dims count)) (same_dim (dim.Name count) (dim.Name count)) (same_self (dim.Name count)), tt)

order_typed : (h : Context) (keys : Option ℕ) (ls : List PartLevel) (f count : ℕ) (rest : Code) → OrderFits h.bufs (dim.Name count) (order_of keys f) → OwnColumns h.bufs (dim.Name count) f (columns ls) → Typed h rest → Typed h (order_code keys ls f +++ rest)
order_typed h None ls f count rest o c t = t
order_typed h (Some k) ls f count rest o c t =
    let cs : List ℕ = columns (take k ls) in
    let own : OwnColumns h.bufs (dim.Name count) f cs = own_take h.bufs (dim.Name count) f ls k c in (
      refl,
      ap is_some o,
      keys_seen h (dim.Name count) f cs own,
      ap (λ (b : Option BufKind). form.is_below (form.buf_cell b) (form.buf_len b)) o ∙ same_self (dim.Name count),
      keys_fit h (dim.Name count) f cs (ap form.buf_len o) own,
      t,
    )

outer_order : (h : Context) (keys : Option ℕ) (ls : List PartLevel) (f : ℕ) (rest : Code) → outer h (order_code keys ls f +++ rest) ≡ outer h rest
outer_order h None ls f rest = refl
outer_order h (Some k) ls f rest = refl

-- ---- registers of a turn

load_below : (bufs : ℕ → Option BufKind) (cols : List ℕ) (k : ℕ) (f : ℕ → Option RegKind) (x : ℕ) → x < k → load_kinds bufs cols k f x ≡ f x
load_below bufs [] k f x lt = refl
load_below bufs (b ∷ bs) k f x lt = load_below bufs bs (k + 1) (put f k _) x (omega (arith, lt)) ∙ put_other f k _ x (λ e. omega (arith, e, lt))

abbrev pub SeenRegs : (ℕ → Option RegKind) → ℕ → List ℕ → Type 0
SeenRegs f k [] = Unit {0}
SeenRegs f k (b ∷ bs) = (is_some (f k) ≡ true) × SeenRegs f (k + 1) bs

pub loads_seen : (bufs : ℕ → Option BufKind) (cols : List ℕ) (k : ℕ) (f : ℕ → Option RegKind) → SeenRegs (load_kinds bufs cols k f) k cols
loads_seen bufs [] k f = tt
loads_seen bufs (b ∷ bs) k f = (
  ap is_some (load_below bufs bs (k + 1) (put f k (Some record { is_var = false; kind = form.buf_cell (bufs b) })) k (omega arith) ∙ put_same f k _),
  loads_seen bufs bs (k + 1) (put f k (Some record { is_var = false; kind = form.buf_cell (bufs b) })),
)

-- ---- the levels of the loop that counts

counted_fit : (g h : Context) (d : Dim) (ls : List PartLevel) (first r : ℕ) → SizesSeen h ls → SeenRegs h.regs r (columns ls) → AllFit g h d (counted_levels ls first r)
counted_fit g h d [] first r s c = tt
counted_fit g h d (l ∷ ls) first r s c = (role_fits l.kind, size_fine h l.size s.0, c.0, counted_fit g h d ls (first + 4) (r + 1) s.1 c.1)
  where
    role_fits : (k : Kind) → LevelFits g d (counting_role k) (counted_level l first r)
    role_fits Full = tt
    role_fits Compressed = tt
    role_fits Listed = tt
    role_fits Slot = tt

counted_rise : (ls : List PartLevel) (lo first r e : ℕ) → lo ≤ first → lo ≤ e → first + 4 * length ls ≤ e → NamesRise lo (counted_levels ls first r) e
counted_rise [] lo first r e h g i = g
counted_rise (l ∷ ls) lo first r e h g i = (h, counted_rise ls (first + 4) (first + 4) (r + 1) e (omega arith) (omega (arith, i)) (omega (arith, i)))

counted_ends : (ls : List PartLevel) (first r n : ℕ) → closes (counted_levels ls first r) n ≡ End
counted_ends [] first r n = refl
counted_ends (l ∷ ls) first r n = free l.kind (closes (counted_levels ls (first + 4) (r + 1)) (n + 3)) ∙ counted_ends ls (first + 4) (r + 1) (n + 3)
  where
    free : (k : Kind) (rest : Code) → close_of (counting_role k) (counted_level l first r) n rest ≡ rest
    free Full rest = refl
    free Compressed rest = refl
    free Listed rest = refl
    free Slot rest = refl

outer_opens : (ls : List PartLevel) (first r : ℕ) (g : Context) (rest : Code) → outer g (opens (counted_levels ls first r) rest) ≡ outer (opened g (counted_levels ls first r)) rest
outer_opens [] first r g rest = refl
outer_opens (l ∷ ls) first r g rest = one l.kind (opens (counted_levels ls (first + 4) (r + 1)) rest) ∙ outer_opens ls (first + 4) (r + 1) (with_regs g (open_kind (counting_role l.kind) (counted_level l first r) g.regs)) rest
  where
    one : (k : Kind) (rest : Code) → outer g (open_of (counting_role k) (counted_level l first r) rest) ≡ outer (with_regs g (open_kind (counting_role k) (counted_level l first r) g.regs)) rest
    one Full rest = refl
    one Compressed rest = refl
    one Listed rest = refl
    one Slot rest = refl

outer_count : (g : Context) (count : ℕ) (order : Option ℕ) (ls : List PartLevel) (a first n : ℕ) → outer g (count_code count order ls a first n) ≡ opened g (counted_levels ls first (first_column order a))
outer_count g count order [] a first n = refl
outer_count g count order (l ∷ ls) a first n =
    outer_opens (l ∷ ls) first (first_column order a) g (entry_loop (dim.Name count) order (columns (l ∷ ls)) (counted_levels (l ∷ ls) first (first_column order a)) a +++ closes (counted_levels (l ∷ ls) first (first_column order a)) n)
    ∙ ap (λ (c : Code). outer (opened g (counted_levels (l ∷ ls) first (first_column order a))) c) (counted_ends (l ∷ ls) first (first_column order a) n)

count_typed : (g : Context) (count : ℕ) (order : Option ℕ) (ls : List PartLevel) (f a first n : ℕ) → FreshFrom g a → sees_dim g (dim.Name count) ≡ true → OrderFits g.bufs (dim.Name count) order → OwnColumns g.bufs (dim.Name count) f (columns ls) → SizesSeen g ls
    → a + 2 + length ls ≤ first → first + 4 * length ls ≤ n → Typed g (count_code count order ls a first n)
count_typed g count order [] f a first n fresh s o c z low high = tt
count_typed g count order (l ∷ ls) f a first n fresh s o c z low high =
    let cols : List ℕ = columns (l ∷ ls) in
    let h : Context = in_turn g (dim.Name count) order cols a in
    let number : length cols ≡ length (l ∷ ls) = length-map (l ∷ ls) (λ y. y.column) in
    let up : levels_from order cols a ≤ first = omega (arith, entry_high order a, number, low) in
    blocks_typed g (dim.Name count) order cols (counted_levels (l ∷ ls) first (first_column order a)) a n fresh s o (own_fit g.bufs (dim.Name count) f cols c)
    (counted_rise (l ∷ ls) (levels_from order cols a) first (first_column order a) n up (omega (arith, up, high)) high)
    (counted_fit g h (dim.Name count) (l ∷ ls) first (first_column order a) (sizes_same g h (l ∷ ls) refl refl z) (loads_seen g.bufs cols (first_column order a) (turn_kinds order (dim.Name count) a g.regs)))

-- ---- registers behind the loop

abbrev NodeSeen : Kind → Bool → (ℕ → Option RegKind) → ℕ → Type 0
NodeSeen Full last f r = Unit {0}
NodeSeen Compressed true f r = Unit {0}
NodeSeen Compressed false f r = is_some (f r) ≡ true
NodeSeen Listed last f r = Unit {0}
NodeSeen Slot last f r = Unit {0}

abbrev NodesSeen : (ℕ → Option RegKind) → List PartLevel → ℕ → Type 0
NodesSeen f [] first = Unit {0}
NodesSeen f (l ∷ ls) first = NodeSeen l.kind (are_last ls) f (first + 1) × NodesSeen f ls (first + 4)

slot_seen : (k : Kind) (last : Bool) (f : ℕ → Option RegKind) (r : ℕ) → is_slot k ≡ true → NodeSeen k last f r
slot_seen Full last f r e = tt
slot_seen Compressed last f r e = absurd cc
slot_seen Listed last f r e = tt
slot_seen Slot last f r e = tt

slots_seen : (f : ℕ → Option RegKind) (ls : List PartLevel) (first : ℕ) → are_last ls ≡ true → NodesSeen f ls first
slots_seen f [] first e = tt
slots_seen f (l ∷ ls) first e = (slot_seen l.kind (are_last ls) f (first + 1) (and_left (is_slot l.kind) (are_last ls) e), slots_seen f ls (first + 4) (and_right (is_slot l.kind) (are_last ls) e))

counted_below : (ls : List PartLevel) (first r : ℕ) (f : ℕ → Option RegKind) (x : ℕ) → x < first → open_kinds (counted_levels ls first r) f x ≡ f x
counted_below [] first r f x lt = refl
counted_below (l ∷ ls) first r f x lt = counted_below ls (first + 4) (r + 1) (open_kind (counting_role l.kind) (counted_level l first r) f) x (omega (arith, lt)) ∙ one l.kind
  where
    one : (k : Kind) → open_kind (counting_role k) (counted_level l first r) f x ≡ f x
    one Full = refl
    one Compressed = put_other (put f first word) (first + 1) _ x (λ e. omega (arith, e, lt)) ∙ put_other f first _ x (λ e. omega (arith, e, lt))
    one Listed = put_other (put f first word) (first + 1) _ x (λ e. omega (arith, e, lt)) ∙ put_other f first _ x (λ e. omega (arith, e, lt))
    one Slot = put_other (put f first word) (first + 1) _ x (λ e. omega (arith, e, lt)) ∙ put_other f first _ x (λ e. omega (arith, e, lt))

abbrev SeenBehind : ℕ → List PartLevel → ℕ → ℕ → Type 0
SeenBehind g ls first r = (f : ℕ → Option RegKind) → NodesSeen (open_kinds (counted_levels (take g ls) (first + 4) (r + 1)) f) ls (first + 4)

full_seen : (size : Dim) (col : ℕ) (ls : List PartLevel) (g first r : ℕ) (f : ℕ → Option RegKind) → SeenBehind g ls first r → NodesSeen (open_kinds (counted_levels (take (raised g) (record { kind = Full; size = size; column = col } ∷ ls)) first r) f) ls (first + 4)
full_seen size col ls zero first r f behind = behind f
full_seen size col ls (suc g) first r f behind = behind f

level_seen : (k : Kind) (last : Bool) (size : Dim) (col : ℕ) (ls : List PartLevel) (g first r : ℕ) (f : ℕ → Option RegKind) → are_last ls ≡ last → FollowsWell k last → SeenBehind g ls first r
    → NodeSeen k last (open_kinds (counted_levels (take (group_at k last g) (record { kind = k; size = size; column = col } ∷ ls)) first r) f) (first + 1)
    × NodesSeen (open_kinds (counted_levels (take (group_at k last g) (record { kind = k; size = size; column = col } ∷ ls)) first r) f) ls (first + 4)
level_seen Full last size col ls g first r f e o behind = (tt, full_seen size col ls g first r f behind)
level_seen Compressed true size col ls g first r f e o behind = (tt, slots_seen f ls (first + 4) e)
level_seen Compressed false size col ls g first r f e o behind = (
  ap is_some (counted_below (take g ls) (first + 4) (r + 1) (put (put f first word) (first + 1) word) (first + 1) (omega arith) ∙ put_same (put f first word) (first + 1) word),
  behind (put (put f first word) (first + 1) word),
)
level_seen Listed last size col ls g first r f e o behind = (tt, slots_seen f ls (first + 4) (e ∙ o))
level_seen Slot last size col ls g first r f e o behind = (tt, slots_seen f ls (first + 4) (e ∙ o))

nodes_seen : (ls : List PartLevel) (first r : ℕ) (f : ℕ → Option RegKind) → AreOrderly ls → NodesSeen (open_kinds (counted_levels (take (group_count ls) ls) first r) f) ls first
nodes_seen [] first r f o = tt
nodes_seen (l ∷ ls) first r f o = level_seen l.kind (are_last ls) l.size l.column ls (group_count ls) first r f refl o.0 (λ h. nodes_seen ls (first + 4) (r + 1) h o.1)

-- ---- dims

pub form_sees : (g : Context) (n : ℕ) (o : Form) (d : Dim) → sees_dim g d ≡ true → sees_dim (with_form g n o) d ≡ true
form_sees g n o (dim.Number k) s = refl
form_sees g n o (dim.Len k) s = s
form_sees g n o (dim.Name d) s = case (cases_eq n d)
  where
    case : (n ≡ d) ⊎ (n ≢ d) → is_some (put g.dims n (Some o) d) ≡ true
    case (inl e) = ap is_some (subst (λ (q : ℕ). put g.dims n (Some o) q ≡ Some o) e (put_same g.dims n (Some o)))
    case (inr e) = ap is_some (put_other g.dims n (Some o) d e) ∙ s

pub form_new : (g : Context) (n : ℕ) (o : Form) → sees_dim (with_form g n o) (dim.Name n) ≡ true
form_new g n o = ap is_some (put_same g.dims n (Some o))

pub sizes_more : (g h : Context) (ls : List PartLevel) → ((d : Dim) → sees_dim g d ≡ true → sees_dim h d ≡ true) → SizesSeen g ls → SizesSeen h ls
sizes_more g h [] m s = tt
sizes_more g h (l ∷ ls) m s = (m l.size s.0, sizes_more g h ls m s.1)

-- the dims of the levels are visible
abbrev pub SeesDims : Context → ℕ → List PartLevel → Bool → Dim → ℕ → Type 0
SeesDims h count [] top above name = sees_dim h above ≡ true
SeesDims h count (l ∷ ls) top above name =
    (sees_dim h above ≡ true) × (has_nodes l.kind ≡ true → sees_dim h (starts top name) ≡ true) × SeesDims h count ls false (positions l.kind (are_last ls) count above (name + 1)) (name + 2)

-- what is visible after dim lines
record Wide (g h : Context) : Type 0 where
  pub sees : (d : Dim) → sees_dim g d ≡ true → sees_dim h d ≡ true
  pub bufs : h.bufs ≡ g.bufs

wide_more : (g h k : Context) → Wide g h → Wide h k → Wide g k
wide_more g h k a b = record { sees = λ d s. b.sees d (a.sees d s); bufs = b.bufs ∙ a.bufs }

module _ (count : ℕ) where
  record LinesAt (ls : List PartLevel) (x : Descent) (g : Context) : Type 0 where
    above : sees_dim g x.above ≡ true
    entries : sees_dim g (dim.Name count) ≡ true
    free : (d : ℕ) → x.dims ≤ d → g.dims d ≡ None
    sizes : SizesSeen g ls
    nodes : NodesSeen g.regs ls x.first

  record LinesFit (ls : List PartLevel) (x : Descent) (g : Context) (lines : List LineTree) : Type 0 where
    pub typed : TypedLines g lines
    pub wide : Wide g (with_lines g lines)
    pub dims : SeesDims (with_lines g lines) count ls x.is_top x.above x.dims

  module _ (k : Kind) (last : Bool) (size : Dim) (ls : List PartLevel) (x : Descent) where
    abbrev next : Descent
    next = deeper count record { kind = k; size = size; column = 0 } last x

    abbrev behind : List LineTree
    behind = dim_lines count ls next

    -- the lines of the level and behind it
    record LevelFit (g : Context) (lines : List LineTree) : Type 0 where
      typed : TypedLines g lines
      wide : Wide g (with_lines g lines)
      starts_seen : has_nodes k ≡ true → sees_dim (with_lines g lines) (starts x.is_top x.dims) ≡ true
      dims : SeesDims (with_lines g lines) count ls false (positions k last count x.above (x.dims + 1)) (x.dims + 2)

    record HereAt (g : Context) : Type 0 where
      above : sees_dim g x.above ≡ true
      entries : sees_dim g (dim.Name count) ≡ true
      free : (d : ℕ) → x.dims ≤ d → g.dims d ≡ None
      size_seen : sees_dim g size ≡ true
      sizes : SizesSeen g ls
      node : NodeSeen k last g.regs (x.first + 1)
      nodes : NodesSeen g.regs ls (x.first + 4)

    abbrev Behind : Type 0
    Behind = (h : Context) → LinesAt ls next h → LinesFit ls next h behind

    -- from a context in which the level's own dims are visible
    go_on : (g h : Context) → HereAt g → Behind → Wide g h → h.regs ≡ g.regs → ((d : ℕ) → x.dims + 2 ≤ d → h.dims d ≡ None) → sees_dim h (positions k last count x.above (x.dims + 1)) ≡ true
        → (has_nodes k ≡ true → sees_dim h (starts x.is_top x.dims) ≡ true) → LevelFit h behind
    go_on g h s rest w e free seen st =
        let r : LinesFit ls next h behind = rest h record {
          above = seen;
          entries = w.sees (dim.Name count) s.entries;
          free = free;
          sizes = sizes_more g h ls w.sees s.sizes;
          nodes = subst (λ (f : ℕ → Option RegKind). NodesSeen f ls (x.first + 4)) (sym e) s.nodes;
        } in
        record { typed = r.typed; wide = r.wide; starts_seen = λ q. r.wide.sees (starts x.is_top x.dims) (st q); dims = r.dims }

    -- with a line in front
    in_front : (g : Context) (l : LineTree) (lines : List LineTree) → TypedLine g l → Wide g (with_line g l) → LevelFit (with_line g l) lines → LevelFit g (l ∷ lines)
    in_front g l lines t w f = record { typed = (t, f.typed); wide = wide_more g (with_line g l) (with_lines (with_line g l) lines) w f.wide; starts_seen = f.starts_seen; dims = f.dims }

    form_wide : (g : Context) (n : ℕ) (o : Form) → Wide g (with_form g n o)
    form_wide g n o = record { sees = form_sees g n o; bufs = refl }

    self_wide : (g : Context) → Wide g g
    self_wide g = record { sees = λ d s. s; bufs = refl }

    start_fit : (top : Bool) (g : Context) (lines : List LineTree) → x.is_top ≡ top → HereAt g
        → ((h : Context) → Wide g h → h.regs ≡ g.regs → ((d : ℕ) → x.dims + 1 ≤ d → h.dims d ≡ None) → sees_dim h (starts x.is_top x.dims) ≡ true → LevelFit h lines) → LevelFit g (start_line top x lines)
    start_fit true g lines e s go = go g (self_wide g) refl (λ d h. s.free d (omega (arith, h))) (ap (λ (b : Bool). sees_dim g (starts b x.dims)) e)
    start_fit false g lines e s go =
        in_front g (Successor x.dims x.above) lines (s.free x.dims (omega arith), s.above) (form_wide g x.dims (form.Successor x.above))
        (go (with_form g x.dims (form.Successor x.above)) (form_wide g x.dims (form.Successor x.above)) refl (λ d h. put_other g.dims x.dims _ d (λ q. omega (arith, q, h)) ∙ s.free d (omega (arith, h)))
        (ap (λ (b : Bool). sees_dim (with_form g x.dims (form.Successor x.above)) (starts b x.dims)) e ∙ form_new g x.dims (form.Successor x.above)))

  level_fit : (k : Kind) (last : Bool) (size : Dim) (ls : List PartLevel) (x : Descent) (g : Context) → HereAt k last size ls x g → Behind k last size ls x → LevelFit k last size ls x g (level_lines k last size x (behind k last size ls x))
  level_fit Full last size ls x g s rest =
      let h : Context = with_form g (x.dims + 1) (form.Product x.above size) in
      in_front Full last size ls x g (Product (x.dims + 1) x.above size) (behind Full last size ls x) (s.free (x.dims + 1) (omega arith), s.above, s.size_seen) (form_wide Full last size ls x g (x.dims + 1) (form.Product x.above size))
      (go_on Full last size ls x g h s rest (form_wide Full last size ls x g (x.dims + 1) (form.Product x.above size)) refl (λ d le. put_other g.dims (x.dims + 1) _ d (λ q. omega (arith, q, le)) ∙ s.free d (omega (arith, le)))
      (form_new g (x.dims + 1) (form.Product x.above size)) (λ q. absurd cc))
  level_fit Compressed true size ls x g s rest =
      start_fit Compressed true size ls x x.is_top g (behind Compressed true size ls x) refl s
      (λ h w e free st. go_on Compressed true size ls x g h s rest w e (λ d le. free d (omega (arith, le))) (w.sees (dim.Name count) s.entries) (λ q. st))
  level_fit Compressed false size ls x g s rest =
      start_fit Compressed false size ls x x.is_top g (Of (x.dims + 1) (Add (Reg (x.first + 1)) (Number 1)) ∷ behind Compressed false size ls x) refl s
      (λ h w e free st.
      let v : Context = with_form h (x.dims + 1) form.Of in
      in_front Compressed false size ls x h (Of (x.dims + 1) (Add (Reg (x.first + 1)) (Number 1))) (behind Compressed false size ls x)
      (free (x.dims + 1) (omega arith), both_true _ _ (ap (λ (f : ℕ → Option RegKind). is_some (f (x.first + 1))) e ∙ s.node) refl) (form_wide Compressed false size ls x h (x.dims + 1) form.Of)
      (go_on Compressed false size ls x g v s rest (wide_more g h v w (form_wide Compressed false size ls x h (x.dims + 1) form.Of)) e (λ d le. put_other h.dims (x.dims + 1) _ d (λ q. omega (arith, q, le)) ∙ free d (omega (arith, le)))
      (form_new h (x.dims + 1) form.Of) (λ q. form_sees h (x.dims + 1) form.Of (starts x.is_top x.dims) st)))
  level_fit Listed last size ls x g s rest =
      start_fit Listed last size ls x x.is_top g (behind Listed last size ls x) refl s
      (λ h w e free st. go_on Listed last size ls x g h s rest w e (λ d le. free d (omega (arith, le))) (w.sees (dim.Name count) s.entries) (λ q. st))
  level_fit Slot last size ls x g s rest = go_on Slot last size ls x g g s rest (self_wide Slot last size ls x g) refl (λ d le. s.free d (omega (arith, le))) s.above (λ q. absurd cc)

  lines_fit : (ls : List PartLevel) (x : Descent) (g : Context) → LinesAt ls x g → LinesFit ls x g (dim_lines count ls x)
  lines_fit [] x g s = record { typed = tt; wide = record { sees = λ d q. q; bufs = refl }; dims = s.above }
  lines_fit (l ∷ ls) x g s =
      let f = level_fit l.kind (are_last ls) l.size ls x g record { above = s.above; entries = s.entries; free = s.free; size_seen = s.sizes.0; sizes = s.sizes.1; node = s.nodes.0; nodes = s.nodes.1 } (λ h t. lines_fit ls (deeper count l (are_last ls) x) h t) in
      record { typed = f.typed; wide = f.wide; dims = (f.wide.sees x.above s.above, f.starts_seen, f.dims) }

-- ---- the phase

-- the context in front of the dim lines
abbrev pub counted_context : Context → PartLoops → ℕ → Context
counted_context g x f =
    opened (with_bufs g (order_makes x.keys f x.count)) (counted_levels (groups x.levels.items) (counted_from f (length x.levels.items)) (first_column (order_of x.keys f) (f + 1)))

-- the first phase in a context, and what is visible behind its lines
pub record CountingFits (g : Context) (x : PartLoops) (f : ℕ) : Type 0 where
  pub made : TypedMakes g (counting_phase x f).makes
  pub body : Typed (with_bufs g (counting_phase x f).makes) (counting_phase x f).body
  pub context : outer (with_bufs g (counting_phase x f).makes) (counting_phase x f).body ≡ counted_context g x f
  pub lines : TypedLines (counted_context g x f) (counting_phase x f).lines
  pub sees : (d : Dim) → sees_dim g d ≡ true → sees_dim (with_lines (counted_context g x f) (counting_phase x f).lines) d ≡ true
  pub bufs : (with_lines (counted_context g x f) (counting_phase x f).lines).bufs ≡ (with_bufs g (order_makes x.keys f x.count)).bufs
  pub others : (b : ℕ) → f ≢ b → (with_bufs g (order_makes x.keys f x.count)).bufs b ≡ g.bufs b
  pub order : OrderFits (with_bufs g (order_makes x.keys f x.count)).bufs (dim.Name x.count) (order_of x.keys f)
  pub own : OwnColumns (with_bufs g (order_makes x.keys f x.count)).bufs (dim.Name x.count) f (all_columns x)
  pub dims : SeesDims (with_lines (counted_context g x f) (counting_phase x f).lines) x.count x.levels.items true (dim.Number 1) (dims_from f (length x.levels.items))

take_few : {A : Type 0} (k : ℕ) (xs : List A) → length (take k xs) ≤ length xs
take_few zero xs = omega arith
take_few (suc k) [] = omega arith
take_few (suc k) (x ∷ xs) = omega (arith, take_few k xs)

pub counting_fits : (g : Context) (x : PartLoops) (f : ℕ) → RoomFrom g f → SeesPart g x → AreOrderly x.levels.items → CountingFits g x f
counting_fits g x f room sees orderly =
    let ls : List PartLevel = x.levels.items in
    let n : ℕ = length ls in
    let order : Option ℕ = order_of x.keys f in
    let gs : List PartLevel = groups ls in
    let h : Context = with_bufs g (order_makes x.keys f x.count) in
    let o : Ordering g h x.keys f x.count = ordering g x.keys f x.count in
    let q : Context = counted_context g x f in
    let own : OwnColumns h.bufs (dim.Name x.count) f (all_columns x) = own_columns g (dim.Name x.count) f (all_columns x) h.bufs (room.bufs f (omega arith)) o.bufs sees.columns in
    let front : OwnColumns h.bufs (dim.Name x.count) f (columns ls) = own_front h.bufs (dim.Name x.count) f (columns ls) (x.values ∷ []) own in
    let fresh : FreshFrom h (f + 1) = record { none = λ r le. ap (λ (y : ℕ → Option RegKind). y r) o.regs ∙ room.regs.none r (omega arith) } in
    let count_seen : sees_dim h (dim.Name x.count) ≡ true = sees_same g h (dim.Name x.count) o.dims o.sources sees.count in
    let few : length gs ≤ n = take_few (group_count ls) ls in
    let l : LinesFit x.count ls (counting_top x f) q (dim_lines x.count ls (counting_top x f)) = lines_fit x.count ls (counting_top x f) q record {
      above = refl;
      entries = count_seen;
      free = λ d le. ap (λ (y : ℕ → Option Form). y d) o.dims ∙ room.dims d (omega (arith, le));
      sizes = sizes_same g q ls o.dims o.sources sees.sizes;
      nodes = nodes_seen ls (counted_from f n) (first_column order (f + 1)) h.regs orderly;
    } in
    record {
      made = order_made g x.keys f x.count (room.bufs f (omega arith)) sees.count;
      body =
          order_typed h x.keys ls f x.count (count_code x.count order gs (f + 1) (counted_from f n) (dims_from f n)) o.order front
          (count_typed h x.count order gs f (f + 1) (counted_from f n) (dims_from f n) fresh count_seen o.order (own_take h.bufs (dim.Name x.count) f ls (group_count ls) front) (sizes_take h ls (group_count ls) (sizes_same g h ls o.dims o.sources sees.sizes))
          (omega (arith, few)) (omega (arith, few)));
      context = outer_order h x.keys ls f (count_code x.count order gs (f + 1) (counted_from f n) (dims_from f n)) ∙ outer_count h x.count order gs (f + 1) (counted_from f n) (dims_from f n);
      lines = l.typed;
      sees = λ d s. l.wide.sees d (sees_same g q d o.dims o.sources s);
      bufs = l.wide.bufs;
      others = o.bufs;
      order = o.order;
      own = own;
      dims = l.dims;
    }
