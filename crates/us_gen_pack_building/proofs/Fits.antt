-- The phases are typed.
use Rattle.std.proofs.Common.{◌≡◌, ℕ, zero, suc, ◌+◌, ◌-◌, ◌^◌, ◌<◌, ◌≤◌, List, [], ◌∷◌, ◌++◌, length, Bool, true, false, refl, sym, ap, ◌∙◌, subst, arith, Option, Some, None}
use Rattle.std.proofs.lemmas.List.{length-map, length-append}
use Rattle.us_code.specs.declared.program.Dim.{Dim}
use Rattle.us_code.specs.declared.program.Dim.TheVariants as dim
use Rattle.us_code.specs.declared.program.CellKind.TheVariants as kind
use Rattle.us_code.specs.declared.program.Make.{Make}
use Rattle.us_code.specs.Plain.{LineTree}
use Rattle.us_code.specs.Typing.{Context, Form, RegKind, BufKind, is_some, fits, fine, sees_dim, Typed, TypedLine, TypedLines, TypedMakes, TypedPhases, with_form, with_buf, with_bufs, with_line, with_lines, without_regs, outer}
use Rattle.us_code.specs.Typing as form
use Rattle.us_code_laws.proofs.Sequence.{put_same, put_other}
use Rattle.us_format.specs.declared.Kind.{Kind}
use Rattle.us_format.specs.declared.Kind.TheVariants.{Full, Compressed, Listed, Slot}
use Rattle.us_format_loops.specs.Nodes.{has_nodes}
use Rattle.us_gen.specs.Rooms.{FreshFrom}
use Rattle.us_gen_build.specs.declared.levels.Role.{Role}
use Rattle.us_gen_build.specs.declared.levels.Role.TheVariants as role
use Rattle.us_gen_build.specs.Levels.{LevelTree}
use Rattle.us_gen_build.specs.Loops.{levels_from}
use Rattle.us_gen_build.specs.Kinds.{words_of, turn_kinds, in_turn, OrderFits, LevelFits, AllFit, NamesRise}
use Rattle.us_gen_build.specs.Making.{words, makes, AllSeen}
use Rattle.us_gen_build.proofs.LoopRun.{entry_high}
use Rattle.us_gen_build.proofs.Making.{makes_typed}
use Rattle.us_gen_packs.specs.Packs.{PackTree, width}
use Rattle.us_gen_packs.specs.Kinds.{AllFine, PacksFit, PackNamesRise}
use Rattle.us_gen_packs.specs.Making.{pack_makes, PacksSeen}
use Rattle.us_gen_packs.proofs.Typed.{packed_blocks_typed}
use Rattle.us_gen_packs.proofs.Making.{pack_makes_typed}
use Rattle.us_gen_building.specs.declared.part.PartLevel.{PartLevel}
use Rattle.us_gen_building.specs.declared.part.Descent.{Descent}
use Rattle.us_gen_building.specs.Levels.{are_last, columns, ranks_below, positions, starts, deeper, built_values}
use Rattle.us_gen_building.specs.Phases as plain
use Rattle.us_gen_building.specs.Phases.{order_of, first_column, dims_from, turn_from, built_from, ends_from, order_makes, counting_top, all_columns}
use Rattle.us_gen_building.specs.Kinds.{SizesSeen}
use Rattle.us_gen_building.proofs.CountingFits.{sees_same, sizes_same, sizes_more, size_fine, form_sees, OwnColumns, own_fit, SeenRegs, loads_seen, SeesDims, counted_context, CountingFits, counting_fits}
use Rattle.us_gen_building.proofs.BuildingFits.{keeps_dims, keeps_sources, keeps_regs, made_below, MadeOf, AllMade, all_made, values_see, above_seen, ranks_are, starts_two, rank_fits, values_fit, order_kept, own_kept, rise_lower, dims_same}
use Rattle.us_gen_building.proofs.Leaving.{lines_other, made_above}
use Rattle.us_gen_pack_building.specs.declared.part.PackRun.{PackRun}
use Rattle.us_gen_pack_building.specs.declared.part.PackedLoops.{PackedLoops}
use Rattle.us_gen_pack_building.specs.Levels.{is_packed, FitRuns, value_levels, packed_level, packed_levels, bottom, column_terms, writer, writers, pack_lines}
use Rattle.us_gen_pack_building.specs.Phases.{level_count, pack_count, packing_top, all_levels, all_packs, cell_counting_phase, packing_phase}
use Rattle.us_gen_pack_building.specs.Kinds.{PackingsTyped}
use Rattle.us_gen_pack_building.proofs.Roles.{role_here, here_sees}
use Rattle.us_gen_pack_building.proofs.Lines.{terms_long}
use Rattle.us_gen_pack_building.proofs.Making.{packed_rise, writers_rise}

-- ---- one list behind another

pub lines_behind : (a b : List LineTree) (g : Context) → with_lines g (a ++ b) ≡ with_lines (with_lines g a) b
lines_behind [] b g = refl
lines_behind (l ∷ a) b g = lines_behind a b (with_line g l)

typed_lines : (a b : List LineTree) (g : Context) → TypedLines g a → TypedLines (with_lines g a) b → TypedLines g (a ++ b)
typed_lines [] b g t u = u
typed_lines (l ∷ a) b g t u = (t.0, typed_lines a b (with_line g l) t.1 u)

pub bufs_behind : (a b : List Make) (g : Context) → with_bufs g (a ++ b) ≡ with_bufs (with_bufs g a) b
bufs_behind [] b g = refl
bufs_behind (m ∷ a) b g = bufs_behind a b (with_buf g m)

typed_makes : (a b : List Make) (g : Context) → TypedMakes g a → TypedMakes (with_bufs g a) b → TypedMakes g (a ++ b)
typed_makes [] b g t u = u
typed_makes (m ∷ a) b g t u = (t.0, t.1, t.2, t.3, typed_makes a b (with_buf g m) t.4 u)

-- ---- the dims of the packs

abbrev AreProducts : (ℕ → Option Form) → List PackTree → Type 0
AreProducts dims [] = Unit {0}
AreProducts dims (w ∷ ws) = (dims w.cells ≡ Some (form.Product w.length (dim.Number (width w)))) × AreProducts dims ws

pub record CellLines (g k : Context) (name : ℕ) (ws : List PackTree) (lines : List LineTree) : Type 0 where
  pub typed : TypedLines g lines
  pub sees : (d : Dim) → sees_dim g d ≡ true → sees_dim k d ≡ true
  pub products : AreProducts k.dims ws
  pub others : (d : ℕ) → d < name → k.dims d ≡ g.dims d
  pub bufs : k.bufs ≡ g.bufs
  pub sources : k.sources ≡ g.sources

pub cell_lines : (rs : List PackRun) (name register : ℕ) (x : Descent) (g : Context) → ((d : ℕ) → name ≤ d → g.dims d ≡ None) → sees_dim g x.above ≡ true
    → CellLines g (with_lines g (pack_lines (writers rs name register x))) name (writers rs name register x) (pack_lines (writers rs name register x))
cell_lines [] name register x g free s = record { typed = tt; sees = λ d q. q; products = tt; others = λ d lt. refl; bufs = refl; sources = refl }
cell_lines (r ∷ rs) name register x g free s =
    let o : Form = form.Product x.above (dim.Number (width (writer r name register x))) in
    let h : Context = with_form g name o in
    let rest = cell_lines rs (name + 1) register x h (λ d le. put_other g.dims name _ d (λ e. omega (arith, e, le)) ∙ free d (omega (arith, le))) (form_sees g name o x.above s) in
    record {
      typed = ((free name (omega arith), s, refl), rest.typed);
      sees = λ d q. rest.sees d (form_sees g name o d q);
      products = (rest.others name (omega arith) ∙ put_same g.dims name _, rest.products);
      others = λ d lt. rest.others d (omega (arith, lt)) ∙ put_other g.dims name _ d (λ e. omega (arith, e, lt));
      bufs = rest.bufs;
      sources = rest.sources;
    }

-- ---- the new buffers of the packs

abbrev pub ArePackBuffers : (ℕ → Option BufKind) → List PackTree → Type 0
ArePackBuffers bufs [] = Unit {0}
ArePackBuffers bufs (w ∷ ws) = (bufs w.first ≡ words_of (dim.Name w.cells)) × ArePackBuffers bufs ws

pub packs_below : (rs : List PackRun) (name register : ℕ) (x : Descent) (g : Context) (b : ℕ) → b < name → (with_bufs g (pack_makes (writers rs name register x))).bufs b ≡ g.bufs b
packs_below [] name register x g b lt = refl
packs_below (r ∷ rs) name register x g b lt =
    packs_below rs (name + 1) register x (with_buf g (words name (dim.Name name))) b (omega (arith, lt)) ∙ put_other g.bufs name _ b (λ e. omega (arith, e, lt))

pub packs_above : (rs : List PackRun) (name register : ℕ) (x : Descent) (g : Context) (b : ℕ) → name + length rs ≤ b → (with_bufs g (pack_makes (writers rs name register x))).bufs b ≡ g.bufs b
packs_above [] name register x g b le = refl
packs_above (r ∷ rs) name register x g b le =
    packs_above rs (name + 1) register x (with_buf g (words name (dim.Name name))) b (omega (arith, le)) ∙ put_other g.bufs name _ b (λ e. omega (arith, e, le))

pub packs_made : (rs : List PackRun) (name register : ℕ) (x : Descent) (g : Context) → ArePackBuffers (with_bufs g (pack_makes (writers rs name register x))).bufs (writers rs name register x)
packs_made [] name register x g = tt
packs_made (r ∷ rs) name register x g =
    let h : Context = with_buf g (words name (dim.Name name)) in
    (packs_below rs (name + 1) register x h name (omega arith) ∙ put_same g.bufs name _, packs_made rs (name + 1) register x h)

products_seen : (g : Context) (ws : List PackTree) → AreProducts g.dims ws → PacksSeen g ws
products_seen g [] p = tt
products_seen g (w ∷ ws) p = (ap is_some p.0, products_seen g ws p.1)

-- ---- levels

values_seen : (g : Context) (b : Bool) (x : Descent) → sees_dim g x.above ≡ true → AllSeen g (value_levels b x)
values_seen g true x s = tt
values_seen g false x s = (values_see x.is_rank (built_values x) g s, tt)

packed_seen : (g : Context) (count : ℕ) (rs : List PackRun) (k : ℕ) (ls : List PartLevel) (x : Descent) → SeesDims g count ls x.is_top x.above x.dims → AllSeen g (packed_levels count rs k ls x)
packed_seen g count rs k [] x s = values_seen g (is_packed rs k) x s
packed_seen g count rs k (l ∷ ls) x s = (
  here_sees (is_packed rs k) l.kind (are_last ls) x.is_rank (packed_level count (is_packed rs k) l (are_last ls) x) g s.1 (above_seen g count ls false (positions l.kind (are_last ls) count x.above (x.dims + 1)) (x.dims + 2) s.2),
  packed_seen g count rs (k + 1) ls (deeper count l (are_last ls) x) s.2,
)

record LevelGiven (g : Context) (d : Dim) (k : Kind) (ranks : Bool) (t : LevelTree) : Type 0 where
  pos : has_nodes k ≡ true → sees_dim g t.pos_length ≡ true
  crd : sees_dim g t.crd_length ≡ true
  two : t.is_top ≡ true → t.pos_length ≡ dim.Number 2
  within : ranks ≡ true → fits (kind.Below d) t.crd_length ≡ true

here_fit : (b : Bool) (k : Kind) (last ranked : Bool) (t : LevelTree) (g : Context) (d : Dim) → LevelGiven g d k (ranks_below k last ranked) t → MadeOf (role_here b k last ranked) t g.bufs → LevelFits g d (role_here b k last ranked) t
here_fit false Full last ranked t g d h m = tt
here_fit false Compressed true ranked t g d h m = (record { sees = h.pos refl; buffer = m.0; two = h.two }, record { sees = h.crd; buffer = m.1 }, h.within refl)
here_fit false Compressed false ranked t g d h m = (record { sees = h.pos refl; buffer = m.0; two = h.two }, record { sees = h.crd; buffer = m.1 })
here_fit false Listed last ranked t g d h m = (record { sees = h.pos refl; buffer = m.0; two = h.two }, record { sees = h.crd; buffer = m.1 }, h.within refl)
here_fit false Slot last true t g d h m = (record { sees = h.crd; buffer = m }, h.within refl)
here_fit false Slot last false t g d h m = record { sees = h.crd; buffer = m }
here_fit true Full last ranked t g d h m = tt
here_fit true Compressed true ranked t g d h m = (record { sees = h.pos refl; buffer = m; two = h.two }, h.crd)
here_fit true Compressed false ranked t g d h m = (record { sees = h.pos refl; buffer = m.0; two = h.two }, record { sees = h.crd; buffer = m.1 })
here_fit true Listed last ranked t g d h m = (record { sees = h.pos refl; buffer = m; two = h.two }, h.crd)
here_fit true Slot last ranked t g d h m = tt

value_fit : (g h : Context) (count : ℕ) (b : Bool) (x : Descent) (more : ℕ) → sees_dim g x.above ≡ true → (x.is_rank ≡ true → x.above ≡ dim.Name count) → is_some (h.regs x.register) ≡ true → AllMade (value_levels b x) g.bufs → AllFit g h (dim.Name count) (value_levels b x)
value_fit g h count true x more s r c m = tt
value_fit g h count false x more s r c m = (values_fit x.is_rank (built_values x) g (dim.Name count) s (λ t. rank_fits count x.above (r t)) m.0, refl, c, tt)

packed_fit : (g h : Context) (count : ℕ) (rs : List PackRun) (k : ℕ) (ls : List PartLevel) (x : Descent) (more : ℕ) → h.dims ≡ g.dims → h.sources ≡ g.sources → SizesSeen g ls → SeesDims g count ls x.is_top x.above x.dims → (x.is_rank ≡ true → x.above ≡ dim.Name count)
    → SeenRegs h.regs x.register (columns ls ++ more ∷ []) → AllMade (packed_levels count rs k ls x) g.bufs → AllFit g h (dim.Name count) (packed_levels count rs k ls x)
packed_fit g h count rs k [] x more e q z s r c m = value_fit g h count (is_packed rs k) x more s r c.0 m
packed_fit g h count rs k (l ∷ ls) x more e q z s r c m =
    let b : Bool = is_packed rs k in
    let last : Bool = are_last ls in
    let name : Dim = positions l.kind last count x.above (x.dims + 1) in (
      here_fit b l.kind last x.is_rank (packed_level count b l last x) g (dim.Name count) record {
        pos = s.1;
        crd = above_seen g count ls false name (x.dims + 2) s.2;
        two = starts_two x.is_top x.dims;
        within = λ t. rank_fits count name (ranks_are l.kind last x.is_rank count (x.dims + 1) x.above r t);
      } m.0,
      size_fine h l.size (sees_same g h l.size e q z.0),
      c.0,
      packed_fit g h count rs (k + 1) ls (deeper count l last x) more e q z.1 s.2 (λ t. ranks_are l.kind last x.is_rank count (x.dims + 1) x.above r t) c.1 m.1,
    )

-- ---- packs

bottom_seen : (g : Context) (count : ℕ) (ls : List PartLevel) (x : Descent) → SeesDims g count ls x.is_top x.above x.dims → sees_dim g (bottom count ls x).above ≡ true
bottom_seen g count [] x s = s
bottom_seen g count (l ∷ ls) x s = bottom_seen g count ls (deeper count l (are_last ls) x) s.2

bottom_ranks : (count : ℕ) (ls : List PartLevel) (x : Descent) → (x.is_rank ≡ true → x.above ≡ dim.Name count) → (bottom count ls x).is_rank ≡ true → (bottom count ls x).above ≡ dim.Name count
bottom_ranks count [] x h e = h e
bottom_ranks count (l ∷ ls) x h e = bottom_ranks count ls (deeper count l (are_last ls) x) (λ t. ranks_are l.kind (are_last ls) x.is_rank count (x.dims + 1) x.above h t) e

-- the registers of columns are visible, whichever of them a pack has
seen_at : (f : ℕ → Option RegKind) (r : ℕ) (cs : List ℕ) (j : ℕ) → SeenRegs f r cs → j < length cs → is_some (f (r + j)) ≡ true
seen_at f r [] j s lt = absurd (omega (arith, lt))
seen_at f r (c ∷ cs) zero s lt = ap (λ (i : ℕ). is_some (f i)) (omega arith) ∙ s.0
seen_at f r (c ∷ cs) (suc j) s lt = ap (λ (i : ℕ). is_some (f i)) (omega arith) ∙ seen_at f (r + 1) cs j s.1 (omega (arith, lt))

terms_fine : (h : Context) (a r n : ℕ) (cs : List ℕ) → SeenRegs h.regs a cs → a ≤ r → r + n ≤ a + length cs → AllFine h (column_terms r n)
terms_fine h a r zero cs s le up = tt
terms_fine h a r (suc n) cs s le up =
    let e : r ≡ a + (r - a) = omega (arith, le) in (
      ap (λ (i : ℕ). is_some (h.regs i)) e ∙ seen_at h.regs a cs (r - a) s (omega (arith, le, up)),
      terms_fine h a (r + 1) n cs s (omega (arith, le)) (omega (arith, up)),
    )

packs_fit : (g h : Context) (count : ℕ) (rs : List PackRun) (name register n : ℕ) (x : Descent) (cs : List ℕ) → sees_dim g x.above ≡ true → (x.is_rank ≡ true → x.above ≡ dim.Name count) → SeenRegs h.regs register cs → length cs ≡ n → n < 2 ^ 32
    → FitRuns n rs → ArePackBuffers g.bufs (writers rs name register x) → AreProducts g.dims (writers rs name register x) → PacksFit g h (dim.Name count) (writers rs name register x)
packs_fit g h count [] name register n x cs s r c long few f b p = tt
packs_fit g h count (run ∷ rs) name register n x cs s r c long few f b p = (
  record {
    sees = s;
    buffer = b.0;
    product = p.0;
    few = omega (arith, terms_long (register + run.first) (run.end - run.first), few, f.1);
    turn = λ e. rank_fits count x.above (r e);
    columns = terms_fine h register (register + run.first) (run.end - run.first) cs c (omega arith) (omega (arith, f.0, f.1, long));
  },
  packs_fit g h count rs (name + 1) register n x cs s r c long few f.2 b.1 p.1,
)

-- ---- the second phase

-- in front of it
record PackingRoom (g : Context) (x : PackedLoops) (f : ℕ) : Type 0 where
  regs : FreshFrom g 0
  bufs : (b : ℕ) → f < b → g.bufs b ≡ None
  count : sees_dim g (dim.Name x.part.count) ≡ true
  sizes : SizesSeen g x.part.levels.items
  order : OrderFits g.bufs (dim.Name x.part.count) (order_of x.part.keys f)
  own : OwnColumns g.bufs (dim.Name x.part.count) f (all_columns x.part)
  dims : SeesDims g x.part.count x.part.levels.items true (dim.Number 1) (dims_from f (level_count x))
  products : AreProducts g.dims (all_packs x f)

abbrev Second : PackedLoops → ℕ → Context → Type 0
Second x f g = TypedPhases g (packing_phase x f ∷ [])

pub all_made_kept : (ls : List LevelTree) (bufs other : ℕ → Option BufKind) (lo e : ℕ) → NamesRise lo ls e → ((b : ℕ) → b < e → other b ≡ bufs b) → AllMade ls bufs → AllMade ls other
all_made_kept [] bufs other lo e h same m = tt
all_made_kept (l ∷ ls) bufs other lo e h same m = (one l.role m.0, all_made_kept ls bufs other (l.first + 4) e h.1 same m.1)
  where
    rises : (ts : List LevelTree) (a b : ℕ) → NamesRise a ts b → a ≤ b
    rises [] a b k = k
    rises (t ∷ ts) a b k = omega (arith, k.0, rises ts (t.first + 4) b k.1)

    up : l.first + 4 ≤ e
    up = rises ls (l.first + 4) e h.1

    at : other l.first ≡ bufs l.first
    at = same l.first (omega (arith, up))

    behind : other (l.first + 1) ≡ bufs (l.first + 1)
    behind = same (l.first + 1) (omega (arith, up))

    one : (r : Role) → MadeOf r l bufs → MadeOf r l other
    one role.Full m = tt
    one role.Shared m = (at ∙ m.0, behind ∙ m.1)
    one role.Single m = (at ∙ m.0, behind ∙ m.1)
    one role.AtPosition m = behind ∙ m
    one role.AtRank m = behind ∙ m
    one role.Counted m = tt
    one role.Marked m = at ∙ m
    one role.Kept m = tt

packing_fits : (g : Context) (x : PackedLoops) (f : ℕ) → FitRuns (level_count x + 1) x.packs.items → level_count x + 1 < 2 ^ 32 → PackingRoom g x f → Second x f g
packing_fits g x f runs few r =
    let n : ℕ = level_count x in
    let P : ℕ = pack_count x in
    let lo : ℕ = built_from f n in
    let mid : ℕ = ends_from f n in
    let order : Option ℕ = order_of x.part.keys f in
    let d : Dim = dim.Name x.part.count in
    let ls : List PartLevel = x.part.levels.items in
    let rs : List PackRun = x.packs.items in
    let top : Descent = packing_top x f in
    let below : Descent = bottom x.part.count ls top in
    let trees : List LevelTree = all_levels x f in
    let ws : List PackTree = all_packs x f in
    let a : ℕ = turn_from f n in
    let cols : List ℕ = all_columns x.part in
    let u : Context = with_bufs g (makes trees) in
    let h : Context = with_bufs u (pack_makes ws) in
    let t : Context = in_turn h d order cols a in
    let ds = keeps_dims (pack_makes ws) u ∙ keeps_dims (makes trees) g in
    let ss = keeps_sources (pack_makes ws) u ∙ keeps_sources (makes trees) g in
    let rise : NamesRise lo trees mid = packed_rise x.part.count rs 0 ls top mid (omega arith) in
    let more : PackNamesRise mid ws (mid + P) = writers_rise rs mid top.register below (mid + P) (omega arith) in
    let number : length cols ≡ n + 1 = length-append (columns ls) (x.part.values ∷ []) ∙ ap (λ (y : ℕ). y + 1) (length-map ls (λ l. l.column)) in
    let up : levels_from order cols a ≤ lo = omega (arith, entry_high order a, number) in
    let free : (b : ℕ) → lo ≤ b → g.bufs b ≡ None = λ b le. r.bufs b (omega (arith, le)) in
    let same_low : (b : ℕ) → b < lo → h.bufs b ≡ g.bufs b = λ b lt. packs_below rs mid top.register below u b (omega (arith, lt)) ∙ made_below trees lo mid g b rise lt in
    let own_there : OwnColumns h.bufs d f cols = own_kept g.bufs h.bufs d f lo cols same_low free r.own in
    let seen : SeesDims h x.part.count ls true (dim.Number 1) (dims_from f n) = dims_same g h x.part.count ls true (dim.Number 1) (dims_from f n) ds ss r.dims in
    let products : AreProducts h.dims ws = subst (λ (y : ℕ → Option Form). AreProducts y ws) (sym ds) r.products in
    let made : AllMade trees h.bufs = all_made_kept trees u.bufs h.bufs lo mid rise (λ b lt. packs_below rs mid top.register below u b lt) (all_made trees lo mid g rise) in
    let regs : SeenRegs t.regs (first_column order a) cols = loads_seen h.bufs cols (first_column order a) (turn_kinds order d a h.regs) in
    let body : Typed h (packing_phase x f).body =
    packed_blocks_typed h d order cols trees ws a mid (mid + P)
    record { none = λ y le. ap (λ (k : ℕ → Option RegKind). k y) (keeps_regs (pack_makes ws) u ∙ keeps_regs (makes trees) g) ∙ r.regs.none y (omega arith) }
    (sees_same g h d ds ss r.count) (order_kept x.part.keys f d g.bufs h.bufs (same_low f (omega arith)) r.order) (own_fit h.bufs d f cols own_there)
    (rise_lower trees lo (levels_from order cols a) mid up rise) more
    (packed_fit h t x.part.count rs 0 ls top x.part.values refl refl (sizes_same g h ls ds ss r.sizes) seen (λ q. absurd cc) regs made)
    (packs_fit h t x.part.count rs mid top.register (n + 1) below cols (bottom_seen h x.part.count ls top seen) (bottom_ranks x.part.count ls top (λ q. absurd cc)) regs number few runs (packs_made rs mid top.register below u) products) in (
      typed_makes (makes trees) (pack_makes ws) g (makes_typed g lo mid trees rise free (packed_seen g x.part.count rs 0 ls top r.dims))
          (pack_makes_typed u mid (mid + P) ws more (λ b le. made_above trees lo mid g b rise le ∙ free b (omega (arith, le)))
          (products_seen u ws (subst (λ (y : ℕ → Option Form). AreProducts y ws) (sym (keeps_dims (makes trees) g)) r.products))),
      subst (λ (k : Context). Typed k (packing_phase x f).body) (sym (bufs_behind (makes trees) (pack_makes ws) g)) body,
      tt,
      tt,
    )

-- ---- both phases

pub packings_typed : PackingsTyped
packings_typed g x f room sees orderly runs few =
    let n : ℕ = level_count x in
    let ls : List PartLevel = x.part.levels.items in
    let top : Descent = packing_top x f in
    let name : ℕ = ends_from f n in
    let below : Descent = bottom x.part.count ls top in
    let c : CountingFits g x.part f = counting_fits g x.part f room sees orderly in
    let q : Context = counted_context g x.part f in
    let front = (plain.counting_phase x.part f).lines in
    let back = pack_lines (all_packs x f) in
    let q1 : Context = with_lines q front in
    let cells = cell_lines x.packs.items name top.register below q1
    (λ d le. lines_other x.part.count ls (counting_top x.part f) d q (λ e. omega (arith, le)) ∙ (ap (λ (y : ℕ → Option Form). y d) (keeps_dims (order_makes x.part.keys f x.part.count) g) ∙ room.dims d (omega (arith, le))))
    (bottom_seen q1 x.part.count ls top c.dims) in
    let q2 : Context = with_lines q1 back in
    let k : Context = without_regs q2 in
    let seen : (d : Dim) → sees_dim g d ≡ true → sees_dim k d ≡ true = λ d s. sees_same q2 k d refl refl (cells.sees d (c.sees d s)) in
    let bufs : k.bufs ≡ (with_bufs g (order_makes x.part.keys f x.part.count)).bufs = cells.bufs ∙ c.bufs in
    let second : Second x f k = packing_fits k x f runs few record {
      regs = record { none = λ y le. refl };
      bufs = λ b lt. ap (λ (h : ℕ → Option BufKind). h b) bufs ∙ (c.others b (λ e. omega (arith, e, lt)) ∙ room.bufs b (omega (arith, lt)));
      count = seen (dim.Name x.part.count) sees.count;
      sizes = sizes_more g k ls seen sees.sizes;
      order = subst (λ (h : ℕ → Option BufKind). OrderFits h (dim.Name x.part.count) (order_of x.part.keys f)) (sym bufs) c.order;
      own = subst (λ (h : ℕ → Option BufKind). OwnColumns h (dim.Name x.part.count) f (all_columns x.part)) (sym bufs) c.own;
      dims = dims_more q1 k x.part.count ls true (dim.Number 1) (dims_from f n) (λ d s. sees_same q2 k d refl refl (cells.sees d s)) c.dims;
      products = cells.products;
    } in
    let in_place : Context = outer (with_bufs g (cell_counting_phase x f).makes) (cell_counting_phase x f).body in
    let rest : TypedLines q (front ++ back) × Second x f (without_regs (with_lines q (front ++ back)))
    = (typed_lines front back q c.lines cells.typed, subst (λ (y : Context). Second x f (without_regs y)) (sym (lines_behind front back q)) second) in
    let moved : TypedLines in_place (front ++ back) × Second x f (without_regs (with_lines in_place (front ++ back)))
    = subst (λ (y : Context). TypedLines y (front ++ back) × Second x f (without_regs (with_lines y (front ++ back)))) (sym c.context) rest in
    (c.made, c.body, moved.0, moved.1)
  where
    dims_more : (a b : Context) (count : ℕ) (ls : List PartLevel) (top : Bool) (above : Dim) (name : ℕ) → ((d : Dim) → sees_dim a d ≡ true → sees_dim b d ≡ true) → SeesDims a count ls top above name → SeesDims b count ls top above name
    dims_more a b count [] top above name m s = m above s
    dims_more a b count (l ∷ ls) top above name m s = (
      m above s.0,
      (λ t. m (starts top name) (s.1 t)),
      dims_more a b count ls false (positions l.kind (are_last ls) count above (name + 1)) (name + 2) m s.2,
    )
