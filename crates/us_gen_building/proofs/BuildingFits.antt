-- The second phase is typed, and so are both.
use Rattle.std.proofs.Common.{◌≡◌, ℕ, ◌+◌, ◌<◌, ◌≤◌, List, [], ◌∷◌, ◌++◌, length, ◌⊎◌, inl, inr, Bool, true, false, refl, sym, ap, ◌∙◌, subst, arith, Option, Some, None}
use Rattle.std.proofs.lemmas.Bool.{cases_lt}
use Rattle.std.proofs.lemmas.List.{length-map, length-append}
use Rattle.us_code.specs.declared.program.Dim.{Dim}
use Rattle.us_code.specs.declared.program.Dim.TheVariants as dim
use Rattle.us_code.specs.declared.program.CellKind.TheVariants as kind
use Rattle.us_code.specs.declared.program.Make.{Make}
use Rattle.us_code.specs.Typing.{Context, RegKind, BufKind, fits, sees_dim, TypedLines, TypedPhases, with_buf, with_bufs, with_lines, without_regs, outer}
use Rattle.us_code_laws.proofs.Sequence.{put_same, put_other}
use Rattle.us_format.specs.declared.Kind.{Kind}
use Rattle.us_format.specs.declared.Kind.TheVariants.{Full, Compressed, Listed, Slot}
use Rattle.us_format_loops.specs.Nodes.{has_nodes}
use Rattle.us_gen.specs.Rooms.{FreshFrom}
use Rattle.us_gen_build.specs.declared.levels.Role.{Role}
use Rattle.us_gen_build.specs.declared.levels.Role.TheVariants as role
use Rattle.us_gen_build.specs.Levels.{LevelTree}
use Rattle.us_gen_build.specs.Loops.{levels_from}
use Rattle.us_gen_build.specs.Kinds.{words_of, turn_kinds, in_turn, OrderFits, LevelFits, AllFit, NamesRise}
use Rattle.us_gen_build.specs.Making.{words, makes_of, makes, SeesOf, AllSeen}
use Rattle.us_gen_build.proofs.LoopRun.{entry_high}
use Rattle.us_gen_build.proofs.LevelsTyped.{fits_itself}
use Rattle.us_gen_build.proofs.BlockTyped.{blocks_typed}
use Rattle.us_gen_build.proofs.Making.{makes_typed}
use Rattle.us_gen_building.specs.declared.part.PartLevel.{PartLevel}
use Rattle.us_gen_building.specs.declared.part.PartLoops.{PartLoops}
use Rattle.us_gen_building.specs.declared.part.Descent.{Descent}
use Rattle.us_gen_building.specs.Levels.{are_last, columns, ranks_below, positions, starts, deeper, slot_role, role_of, built_level, built_values, built_levels}
use Rattle.us_gen_building.specs.Phases.{order_of, first_column, dims_from, turn_from, built_from, ends_from, building_top, all_built, all_columns, counting_phase, building_phase}
use Rattle.us_gen_building.specs.Kinds.{SizesSeen, BuildingsTyped}
use Rattle.us_gen_building.proofs.CountingFits.{sees_same, sizes_same, sizes_more, size_fine, none_some, OwnColumns, own_fit, SeenRegs, loads_seen, SeesDims, counted_context, CountingFits, counting_fits}
use Rattle.us_gen_building.proofs.Building.{built_rise}

-- ---- new buffers

pub keeps_dims : (ms : List Make) (g : Context) → (with_bufs g ms).dims ≡ g.dims
keeps_dims [] g = refl
keeps_dims (m ∷ ms) g = keeps_dims ms (with_buf g m)

pub keeps_sources : (ms : List Make) (g : Context) → (with_bufs g ms).sources ≡ g.sources
keeps_sources [] g = refl
keeps_sources (m ∷ ms) g = keeps_sources ms (with_buf g m)

pub keeps_regs : (ms : List Make) (g : Context) → (with_bufs g ms).regs ≡ g.regs
keeps_regs [] g = refl
keeps_regs (m ∷ ms) g = keeps_regs ms (with_buf g m)

abbrev pub own : Role → LevelTree → Context → Context
own role.Full l g = g
own role.Shared l g = with_buf (with_buf g (words l.first l.pos_length)) (words (l.first + 1) l.crd_length)
own role.Single l g = with_buf (with_buf g (words l.first l.pos_length)) (words (l.first + 1) l.crd_length)
own role.AtPosition l g = with_buf g (words (l.first + 1) l.crd_length)
own role.AtRank l g = with_buf g (words (l.first + 1) l.crd_length)
own role.Counted l g = g
own role.Marked l g = with_buf g (words l.first l.pos_length)
own role.Kept l g = g

pub own_is : (r : Role) (l : LevelTree) (g : Context) (rest : List Make) → with_bufs g (makes_of r l rest) ≡ with_bufs (own r l g) rest
own_is role.Full l g rest = refl
own_is role.Shared l g rest = refl
own_is role.Single l g rest = refl
own_is role.AtPosition l g rest = refl
own_is role.AtRank l g rest = refl
own_is role.Counted l g rest = refl
own_is role.Marked l g rest = refl
own_is role.Kept l g rest = refl

two_below : (l : LevelTree) (g : Context) (b : ℕ) → b < l.first → (own role.Shared l g).bufs b ≡ g.bufs b
two_below l g b lt = put_other (with_buf g (words l.first l.pos_length)).bufs (l.first + 1) _ b (λ e. omega (arith, e, lt)) ∙ put_other g.bufs l.first _ b (λ e. omega (arith, e, lt))

own_below : (r : Role) (l : LevelTree) (g : Context) (b : ℕ) → b < l.first → (own r l g).bufs b ≡ g.bufs b
own_below role.Full l g b lt = refl
own_below role.Shared l g b lt = two_below l g b lt
own_below role.Single l g b lt = two_below l g b lt
own_below role.AtPosition l g b lt = put_other g.bufs (l.first + 1) _ b (λ e. omega (arith, e, lt))
own_below role.AtRank l g b lt = put_other g.bufs (l.first + 1) _ b (λ e. omega (arith, e, lt))
own_below role.Counted l g b lt = refl
own_below role.Marked l g b lt = put_other g.bufs l.first _ b (λ e. omega (arith, e, lt))
own_below role.Kept l g b lt = refl

pub made_below : (ls : List LevelTree) (lo n : ℕ) (g : Context) (b : ℕ) → NamesRise lo ls n → b < lo → (with_bufs g (makes ls)).bufs b ≡ g.bufs b
made_below [] lo n g b h lt = refl
made_below (l ∷ ls) lo n g b h lt =
    ap (λ (k : Context). k.bufs b) (own_is l.role l g (makes ls)) ∙ (made_below ls (l.first + 4) n (own l.role l g) b h.1 (omega (arith, lt, h.0)) ∙ own_below l.role l g b (omega (arith, lt, h.0)))

-- the buffers of a level are words of their lengths
abbrev pub MadeOf : Role → LevelTree → (ℕ → Option BufKind) → Type 0
MadeOf role.Full l f = Unit {0}
MadeOf role.Shared l f = (f l.first ≡ words_of l.pos_length) × (f (l.first + 1) ≡ words_of l.crd_length)
MadeOf role.Single l f = (f l.first ≡ words_of l.pos_length) × (f (l.first + 1) ≡ words_of l.crd_length)
MadeOf role.AtPosition l f = f (l.first + 1) ≡ words_of l.crd_length
MadeOf role.AtRank l f = f (l.first + 1) ≡ words_of l.crd_length
MadeOf role.Counted l f = Unit {0}
MadeOf role.Marked l f = f l.first ≡ words_of l.pos_length
MadeOf role.Kept l f = Unit {0}

abbrev pub AllMade : List LevelTree → (ℕ → Option BufKind) → Type 0
AllMade [] f = Unit {0}
AllMade (l ∷ ls) f = MadeOf l.role l f × AllMade ls f

two_made : (l : LevelTree) (g : Context) (f : ℕ → Option BufKind) → ((b : ℕ) → b < l.first + 4 → f b ≡ (own role.Shared l g).bufs b) → (f l.first ≡ words_of l.pos_length) × (f (l.first + 1) ≡ words_of l.crd_length)
two_made l g f e = (
  e l.first (omega arith) ∙ (put_other (with_buf g (words l.first l.pos_length)).bufs (l.first + 1) _ l.first (omega arith) ∙ put_same g.bufs l.first _),
  e (l.first + 1) (omega arith) ∙ put_same (with_buf g (words l.first l.pos_length)).bufs (l.first + 1) _,
)

own_made : (r : Role) (l : LevelTree) (g : Context) (f : ℕ → Option BufKind) → ((b : ℕ) → b < l.first + 4 → f b ≡ (own r l g).bufs b) → MadeOf r l f
own_made role.Full l g f e = tt
own_made role.Shared l g f e = two_made l g f e
own_made role.Single l g f e = two_made l g f e
own_made role.AtPosition l g f e = e (l.first + 1) (omega arith) ∙ put_same g.bufs (l.first + 1) _
own_made role.AtRank l g f e = e (l.first + 1) (omega arith) ∙ put_same g.bufs (l.first + 1) _
own_made role.Counted l g f e = tt
own_made role.Marked l g f e = e l.first (omega arith) ∙ put_same g.bufs l.first _
own_made role.Kept l g f e = tt

pub all_made : (ls : List LevelTree) (lo n : ℕ) (g : Context) → NamesRise lo ls n → AllMade ls (with_bufs g (makes ls)).bufs
all_made [] lo n g h = tt
all_made (l ∷ ls) lo n g h =
    subst (λ (k : Context). AllMade (l ∷ ls) k.bufs) (sym (own_is l.role l g (makes ls)))
    (own_made l.role l g (with_bufs (own l.role l g) (makes ls)).bufs (λ b lt. made_below ls (l.first + 4) n (own l.role l g) b h.1 lt), all_made ls (l.first + 4) n (own l.role l g) h.1)

-- ---- levels

role_sees : (k : Kind) (last ranked : Bool) (t : LevelTree) (g : Context) → (has_nodes k ≡ true → sees_dim g t.pos_length ≡ true) → sees_dim g t.crd_length ≡ true → SeesOf g (role_of k last ranked) t
role_sees Full last ranked t g p c = tt
role_sees Compressed true ranked t g p c = (p refl, c)
role_sees Compressed false ranked t g p c = (p refl, c)
role_sees Listed last ranked t g p c = (p refl, c)
role_sees Slot last true t g p c = c
role_sees Slot last false t g p c = c

pub values_see : (ranked : Bool) (t : LevelTree) (g : Context) → sees_dim g t.crd_length ≡ true → SeesOf g (slot_role ranked) t
values_see true t g c = c
values_see false t g c = c

pub above_seen : (g : Context) (count : ℕ) (ls : List PartLevel) (top : Bool) (above : Dim) (name : ℕ) → SeesDims g count ls top above name → sees_dim g above ≡ true
above_seen g count [] top above name s = s
above_seen g count (l ∷ ls) top above name s = s.0

built_seen : (g : Context) (count : ℕ) (ls : List PartLevel) (x : Descent) → SeesDims g count ls x.is_top x.above x.dims → AllSeen g (built_levels count ls x)
built_seen g count [] x s = (values_see x.is_rank (built_values x) g s, tt)
built_seen g count (l ∷ ls) x s = (
  role_sees l.kind (are_last ls) x.is_rank (built_level count l (are_last ls) x) g s.1 (above_seen g count ls false (positions l.kind (are_last ls) count x.above (x.dims + 1)) (x.dims + 2) s.2),
  built_seen g count ls (deeper count l (are_last ls) x) s.2,
)

record LevelGiven (g : Context) (d : Dim) (k : Kind) (ranks : Bool) (t : LevelTree) : Type 0 where
  pos : has_nodes k ≡ true → sees_dim g t.pos_length ≡ true
  crd : sees_dim g t.crd_length ≡ true
  two : t.is_top ≡ true → t.pos_length ≡ dim.Number 2
  within : ranks ≡ true → fits (kind.Below d) t.crd_length ≡ true

role_fit : (k : Kind) (last ranked : Bool) (t : LevelTree) (g : Context) (d : Dim) → LevelGiven g d k (ranks_below k last ranked) t → MadeOf (role_of k last ranked) t g.bufs → LevelFits g d (role_of k last ranked) t
role_fit Full last ranked t g d h m = tt
role_fit Compressed true ranked t g d h m = (record { sees = h.pos refl; buffer = m.0; two = h.two }, record { sees = h.crd; buffer = m.1 }, h.within refl)
role_fit Compressed false ranked t g d h m = (record { sees = h.pos refl; buffer = m.0; two = h.two }, record { sees = h.crd; buffer = m.1 })
role_fit Listed last ranked t g d h m = (record { sees = h.pos refl; buffer = m.0; two = h.two }, record { sees = h.crd; buffer = m.1 }, h.within refl)
role_fit Slot last true t g d h m = (record { sees = h.crd; buffer = m }, h.within refl)
role_fit Slot last false t g d h m = record { sees = h.crd; buffer = m }

pub values_fit : (ranked : Bool) (t : LevelTree) (g : Context) (d : Dim) → sees_dim g t.crd_length ≡ true → (ranked ≡ true → fits (kind.Below d) t.crd_length ≡ true) → MadeOf (slot_role ranked) t g.bufs → LevelFits g d (slot_role ranked) t
values_fit true t g d c w m = (record { sees = c; buffer = m }, w refl)
values_fit false t g d c w m = record { sees = c; buffer = m }

-- where positions are ranks, there are as many as entries
pub ranks_are : (k : Kind) (last ranked : Bool) (count name : ℕ) (above : Dim) → (ranked ≡ true → above ≡ dim.Name count) → ranks_below k last ranked ≡ true → positions k last count above name ≡ dim.Name count
ranks_are Full last ranked count name above h e = absurd cc
ranks_are Compressed true ranked count name above h e = refl
ranks_are Compressed false ranked count name above h e = absurd cc
ranks_are Listed last ranked count name above h e = refl
ranks_are Slot last ranked count name above h e = h e

pub starts_two : (top : Bool) (name : ℕ) → top ≡ true → starts top name ≡ dim.Number 2
starts_two true name e = refl
starts_two false name e = absurd cc

pub rank_fits : (count : ℕ) (d : Dim) → d ≡ dim.Name count → fits (kind.Below (dim.Name count)) d ≡ true
rank_fits count d e = ap (fits (kind.Below (dim.Name count))) e ∙ fits_itself (dim.Name count)

built_fit : (g h : Context) (count : ℕ) (ls : List PartLevel) (x : Descent) (more : ℕ) → h.dims ≡ g.dims → h.sources ≡ g.sources → SizesSeen g ls → SeesDims g count ls x.is_top x.above x.dims → (x.is_rank ≡ true → x.above ≡ dim.Name count)
    → SeenRegs h.regs x.register (columns ls ++ more ∷ []) → AllMade (built_levels count ls x) g.bufs → AllFit g h (dim.Name count) (built_levels count ls x)
built_fit g h count [] x more e q z s r c m = (values_fit x.is_rank (built_values x) g (dim.Name count) s (λ t. rank_fits count x.above (r t)) m.0, refl, c.0, tt)
built_fit g h count (l ∷ ls) x more e q z s r c m =
    let last : Bool = are_last ls in
    let name : Dim = positions l.kind last count x.above (x.dims + 1) in (
      role_fit l.kind last x.is_rank (built_level count l last x) g (dim.Name count) record {
        pos = s.1;
        crd = above_seen g count ls false name (x.dims + 2) s.2;
        two = starts_two x.is_top x.dims;
        within = λ t. rank_fits count name (ranks_are l.kind last x.is_rank count (x.dims + 1) x.above r t);
      } m.0,
      size_fine h l.size (sees_same g h l.size e q z.0),
      c.0,
      built_fit g h count ls (deeper count l last x) more e q z.1 s.2 (λ t. ranks_are l.kind last x.is_rank count (x.dims + 1) x.above r t) c.1 m.1,
    )

-- ---- the phase

-- in front of the second phase
record BuildingRoom (g : Context) (x : PartLoops) (f : ℕ) : Type 0 where
  regs : FreshFrom g 0
  bufs : (b : ℕ) → f < b → g.bufs b ≡ None
  count : sees_dim g (dim.Name x.count) ≡ true
  sizes : SizesSeen g x.levels.items
  order : OrderFits g.bufs (dim.Name x.count) (order_of x.keys f)
  own : OwnColumns g.bufs (dim.Name x.count) f (all_columns x)
  dims : SeesDims g x.count x.levels.items true (dim.Number 1) (dims_from f (length x.levels.items))

pub order_kept : (keys : Option ℕ) (f : ℕ) (d : Dim) (bufs other : ℕ → Option BufKind) → other f ≡ bufs f → OrderFits bufs d (order_of keys f) → OrderFits other d (order_of keys f)
order_kept None f d bufs other e o = tt
order_kept (Some k) f d bufs other e o = e ∙ o

pub own_kept : (bufs other : ℕ → Option BufKind) (d : Dim) (f lo : ℕ) (cs : List ℕ) → ((b : ℕ) → b < lo → other b ≡ bufs b) → ((b : ℕ) → lo ≤ b → bufs b ≡ None) → OwnColumns bufs d f cs → OwnColumns other d f cs
own_kept bufs other d f lo [] same none c = tt
own_kept bufs other d f lo (b ∷ bs) same none c = (case (cases_lt b lo), c.1, own_kept bufs other d f lo bs same none c.2)
  where
    case : (b < lo) ⊎ (lo ≤ b) → other b ≡ words_of d
    case (inl h) = same b h ∙ c.0
    case (inr h) = none_some (bufs b) (record { len = d; cell = kind.Word }) (none b h) c.0

pub rise_lower : (ls : List LevelTree) (lo lower n : ℕ) → lower ≤ lo → NamesRise lo ls n → NamesRise lower ls n
rise_lower [] lo lower n le h = omega (arith, le, h)
rise_lower (l ∷ ls) lo lower n le h = (omega (arith, le, h.0), h.1)

pub dims_same : (g h : Context) (count : ℕ) (ls : List PartLevel) (top : Bool) (above : Dim) (name : ℕ) → h.dims ≡ g.dims → h.sources ≡ g.sources → SeesDims g count ls top above name → SeesDims h count ls top above name
dims_same g h count [] top above name e q s = sees_same g h above e q s
dims_same g h count (l ∷ ls) top above name e q s = (
  sees_same g h above e q s.0,
  (λ t. sees_same g h (starts top name) e q (s.1 t)),
  dims_same g h count ls false (positions l.kind (are_last ls) count above (name + 1)) (name + 2) e q s.2,
)

abbrev Second : PartLoops → ℕ → Context → Type 0
Second x f g = TypedPhases g (building_phase x f ∷ [])

building_fits : (g : Context) (x : PartLoops) (f : ℕ) → BuildingRoom g x f → Second x f g
building_fits g x f r =
    let n : ℕ = length x.levels.items in
    let lo : ℕ = built_from f n in
    let e : ℕ = ends_from f n in
    let order : Option ℕ = order_of x.keys f in
    let d : Dim = dim.Name x.count in
    let trees : List LevelTree = all_built x f in
    let a : ℕ = turn_from f n in
    let h : Context = with_bufs g (makes trees) in
    let t : Context = in_turn h d order (all_columns x) a in
    let ds = keeps_dims (makes trees) g in
    let ss = keeps_sources (makes trees) g in
    let rise : NamesRise lo trees e = built_rise x.count x.levels.items (building_top x f) e (omega arith) in
    let number : length (all_columns x) ≡ n + 1 = length-append (columns x.levels.items) (x.values ∷ []) ∙ ap (λ (y : ℕ). y + 1) (length-map x.levels.items (λ l. l.column)) in
    let up : levels_from order (all_columns x) a ≤ lo = omega (arith, entry_high order a, number) in
    let free : (b : ℕ) → lo ≤ b → g.bufs b ≡ None = λ b le. r.bufs b (omega (arith, le)) in
    let own_there : OwnColumns h.bufs d f (all_columns x) = own_kept g.bufs h.bufs d f lo (all_columns x) (λ b lt. made_below trees lo e g b rise lt) free r.own in (
      makes_typed g lo e trees rise free (built_seen g x.count x.levels.items (building_top x f) r.dims),
      blocks_typed h d order (all_columns x) trees a e record { none = λ y le. ap (λ (k : ℕ → Option RegKind). k y) (keeps_regs (makes trees) g) ∙ r.regs.none y (omega arith) }
          (sees_same g h d ds ss r.count) (order_kept x.keys f d g.bufs h.bufs (made_below trees lo e g f rise (omega arith)) r.order) (own_fit h.bufs d f (all_columns x) own_there) (rise_lower trees lo (levels_from order (all_columns x) a) e up rise)
          (built_fit h t x.count x.levels.items (building_top x f) x.values refl refl (sizes_same g h x.levels.items ds ss r.sizes) (dims_same g h x.count x.levels.items true (dim.Number 1) (dims_from f n) ds ss r.dims) (λ q. absurd cc)
          (loads_seen h.bufs (all_columns x) (first_column order a) (turn_kinds order d a h.regs)) (all_made trees lo e g rise)),
      tt,
      tt,
    )

pub buildings_typed : BuildingsTyped
buildings_typed g x f room sees orderly =
    let c : CountingFits g x f = counting_fits g x f room sees orderly in
    let q : Context = counted_context g x f in
    let ls = (counting_phase x f).lines in
    let k : Context = without_regs (with_lines q ls) in
    let seen : (d : Dim) → sees_dim g d ≡ true → sees_dim k d ≡ true = λ d s. sees_same (with_lines q ls) k d refl refl (c.sees d s) in
    let second : Second x f k = building_fits k x f record {
      regs = record { none = λ y le. refl };
      bufs = λ b lt. ap (λ (h : ℕ → Option BufKind). h b) c.bufs ∙ (c.others b (λ e. omega (arith, e, lt)) ∙ room.bufs b (omega (arith, lt)));
      count = seen (dim.Name x.count) sees.count;
      sizes = sizes_more g k x.levels.items seen sees.sizes;
      order = subst (λ (h : ℕ → Option BufKind). OrderFits h (dim.Name x.count) (order_of x.keys f)) (sym c.bufs) c.order;
      own = subst (λ (h : ℕ → Option BufKind). OwnColumns h (dim.Name x.count) f (all_columns x)) (sym c.bufs) c.own;
      dims = dims_same (with_lines q ls) k x.count x.levels.items true (dim.Number 1) (dims_from f (length x.levels.items)) refl refl c.dims;
    } in
    let rest : TypedLines (outer (with_bufs g (counting_phase x f).makes) (counting_phase x f).body) ls × Second x f (without_regs (with_lines (outer (with_bufs g (counting_phase x f).makes) (counting_phase x f).body) ls))
    = subst (λ (h : Context). TypedLines h ls × Second x f (without_regs (with_lines h ls))) (sym c.context) (c.lines, second) in
    (c.made, c.body, rest.0, rest.1)
