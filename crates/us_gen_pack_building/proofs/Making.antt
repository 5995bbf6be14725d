-- The new buffers of the levels and of the packs.
use Rattle.std.proofs.Common.{◌≡◌, ℕ, ◌+◌, ◌-◌, ◌*◌, ◌<◌, ◌≤◌, List, [], ◌∷◌, ◌++◌, length, Bool, true, false, sym, ap, ◌∙◌, subst, arith, ℤ, pos}
use Rattle.us_code.specs.Run.{Env, State, size_of}
use Rattle.us_code.specs.Runs.{World, Ran, make_all, begin}
use Rattle.us_format.specs.Kinds.{Level}
use Rattle.us_format.specs.Declaration.{Column}
use Rattle.us_format.specs.Positions.{Row, count_below, down}
use Rattle.us_format.specs.Reading.{limit}
use Rattle.us_running.specs.Running.{Table}
use Rattle.us_gen.specs.Goes.{Arrives, Leads}
use Rattle.us_gen.proofs.Going.{arrives_both}
use Rattle.us_gen_build.specs.declared.levels.Role.{Role}
use Rattle.us_gen_build.specs.declared.levels.Role.TheVariants as role
use Rattle.us_gen_build.specs.Levels.{LevelTree}
use Rattle.us_gen_build.specs.Turns.{Turns, names_end}
use Rattle.us_gen_build.specs.Loops.{Zero, AllZero}
use Rattle.us_gen_build.specs.Kinds.{NamesRise}
use Rattle.us_gen_build.specs.Making.{makes, SmallOf, AllSmall}
use Rattle.us_gen_build.proofs.Making.{buffers_are_zero}
use Rattle.us_gen_packs.specs.Packs.{PackTree, width}
use Rattle.us_gen_packs.specs.Turns.{packs_end}
use Rattle.us_gen_packs.specs.Blocks.{PacksZero}
use Rattle.us_gen_packs.specs.Kinds.{PackNamesRise}
use Rattle.us_gen_packs.specs.Making.{pack_makes, PacksSmall}
use Rattle.us_gen_packs.proofs.Making.{packs_are_zero}
use Rattle.us_pack_loops.specs.Standing.{AllPacksStand}
use Rattle.us_gen_building.specs.declared.part.PartLevel.{PartLevel}
use Rattle.us_gen_building.specs.declared.part.Descent.{Descent}
use Rattle.us_gen_building.specs.Levels.{are_last, positions, deeper, slot_role, built_values}
use Rattle.us_gen_building.specs.Runs.{levels_of, AreSmall, HaveDims}
use Rattle.us_gen_building.proofs.Standing.{above_is, small_here}
use Rattle.us_gen_building.proofs.Lines.{leads_looser}
use Rattle.us_gen_pack_building.specs.declared.part.PackRun.{PackRun}
use Rattle.us_gen_pack_building.specs.Levels.{is_packed, value_levels, packed_level, packed_levels, writer, writers}
use Rattle.us_gen_pack_building.specs.Runs.{AreCellsSmall, HaveCells}
use Rattle.us_gen_pack_building.proofs.Roles.{here_small}
use Rattle.us_gen_pack_building.proofs.Lines.{makes_append, terms_long}

-- ---- names

values_rise : (b : Bool) (x : Descent) (e : ℕ) → x.first + 4 ≤ e → NamesRise x.first (value_levels b x) e
values_rise true x e h = omega (arith, h)
values_rise false x e h = (omega arith, omega (arith, h))

pub packed_rise : (count : ℕ) (rs : List PackRun) (k : ℕ) (ls : List PartLevel) (x : Descent) (e : ℕ) → x.first + 4 * length ls + 4 ≤ e → NamesRise x.first (packed_levels count rs k ls x) e
packed_rise count rs k [] x e h = values_rise (is_packed rs k) x e (omega (arith, h))
packed_rise count rs k (l ∷ ls) x e h = (omega arith, packed_rise count rs (k + 1) ls (deeper count l (are_last ls) x) e (omega (arith, h)))

values_end : (b : Bool) (x : Descent) (lo e : ℕ) → lo ≤ e → x.first + 4 ≤ e → names_end lo (value_levels b x) ≤ e
values_end true x lo e h g = h
values_end false x lo e h g = g

pub packed_end : (count : ℕ) (rs : List PackRun) (k : ℕ) (ls : List PartLevel) (x : Descent) (lo e : ℕ) → lo ≤ e → x.first + 4 * length ls + 4 ≤ e → names_end lo (packed_levels count rs k ls x) ≤ e
packed_end count rs k [] x lo e h g = values_end (is_packed rs k) x lo e h (omega (arith, g))
packed_end count rs k (l ∷ ls) x lo e h g = packed_end count rs (k + 1) ls (deeper count l (are_last ls) x) (x.first + 4) e (omega (arith, g)) (omega (arith, g))

pub writers_rise : (rs : List PackRun) (name register : ℕ) (x : Descent) (e : ℕ) → name + length rs ≤ e → PackNamesRise name (writers rs name register x) e
writers_rise [] name register x e h = omega (arith, h)
writers_rise (r ∷ rs) name register x e h = (omega arith, writers_rise rs (name + 1) register x e (omega (arith, h)))

pub writers_end : (rs : List PackRun) (name register : ℕ) (x : Descent) (lo : ℕ) → lo ≤ name → packs_end lo (writers rs name register x) ≤ name + length rs
writers_end [] name register x lo h = omega (arith, h)
writers_end (r ∷ rs) name register x lo h =
    let e : name + 1 + length rs ≡ name + length (r ∷ rs) = omega arith in
    omega (arith, writers_end rs (name + 1) register x (name + 1) (omega arith), e)

-- ---- lengths

values_small : (env : Env) (b : Bool) (x : Descent) → size_of env x.above ≤ 67108865 → AllSmall env (value_levels b x)
values_small env true x h = tt
values_small env false x h = (slot_small x.is_rank, tt)
  where
    slot_small : (ranked : Bool) → SmallOf env (slot_role ranked) (built_values x)
    slot_small true = h
    slot_small false = h

pub packed_small : (env : Env) (count : ℕ) (rs : List PackRun) (k : ℕ) (ls : List PartLevel) (x : Descent) (n : ℕ) (rows : List Row) → HaveDims env count ls (levels_of env ls) x.is_top x.above x.dims n rows → AreSmall (levels_of env ls) n rows
    → AllSmall env (packed_levels count rs k ls x)
packed_small env count rs k [] x n rows d s = values_small env (is_packed rs k) x (omega (arith, d, s))
packed_small env count rs k (l ∷ ls) x n rows d s =
    let m : ℕ = count_below l.kind (size_of env l.size) n rows in
    let under : List Row = down l.kind (size_of env l.size) rows in
    let e : size_of env (positions l.kind (are_last ls) count x.above (x.dims + 1)) ≡ m = above_is env count ls (levels_of env ls) false (positions l.kind (are_last ls) count x.above (x.dims + 1)) (x.dims + 2) m under d.2 in
    let le : m ≤ limit = small_here (levels_of env ls) m under s.1 in (
      here_small env (is_packed rs k) l.kind (are_last ls) x.is_rank (packed_level count (is_packed rs k) l (are_last ls) x) (λ h. omega (arith, d.1 h, s.0.starts h)) (omega (arith, e, le)),
      packed_small env count rs (k + 1) ls (deeper count l (are_last ls) x) m under d.2 s.1,
    )

pub writers_small : (env : Env) (rs : List PackRun) (name register : ℕ) (x : Descent) (n : ℕ) → size_of env x.above ≡ n → AreCellsSmall n rs → HaveCells env (writers rs name register x) → PacksSmall env (writers rs name register x)
writers_small env [] name register x n e s h = tt
writers_small env (r ∷ rs) name register x n e s h =
    let m : ℕ = width (writer r name register x) in
    let is : size_of env x.above * m ≡ n * (r.end - r.first) = ap (λ (y : ℕ). y * m) e ∙ ap (λ (y : ℕ). n * y) (terms_long (register + r.first) (r.end - r.first)) in (
      h.0,
      omega (arith, h.0, is, s.0),
      writers_small env rs (name + 1) register x n e s.1 h.2,
    )

-- ---- zeros stay where other buffers are made

cells_stay : (s u : State) (b n : ℕ) → u.bufs b ≡ s.bufs b → Table (s.bufs b) n (λ y. pos 0) → Table (u.bufs b) n (λ y. pos 0)
cells_stay s u b n e t = subst (λ (xs : List ℤ). Table xs n (λ y. pos 0)) (sym e) t

zero_kept : (env : Env) (r : Role) (l : LevelTree) (s u : State) → u.bufs l.first ≡ s.bufs l.first → u.bufs (l.first + 1) ≡ s.bufs (l.first + 1) → Zero env r l s → Zero env r l u
zero_kept env role.Full l s u a b z = tt
zero_kept env role.Shared l s u a b z = (cells_stay s u l.first _ a z.0, cells_stay s u (l.first + 1) _ b z.1)
zero_kept env role.Single l s u a b z = (cells_stay s u l.first _ a z.0, cells_stay s u (l.first + 1) _ b z.1)
zero_kept env role.AtPosition l s u a b z = cells_stay s u (l.first + 1) _ b z
zero_kept env role.AtRank l s u a b z = cells_stay s u (l.first + 1) _ b z
zero_kept env role.Counted l s u a b z = tt
zero_kept env role.Marked l s u a b z = cells_stay s u l.first _ a z
zero_kept env role.Kept l s u a b z = tt

rise_over : (ls : List LevelTree) (lo e : ℕ) → NamesRise lo ls e → lo ≤ e
rise_over [] lo e h = h
rise_over (l ∷ ls) lo e h = omega (arith, h.0, rise_over ls (l.first + 4) e h.1)

zeros_kept : (env : Env) (ls : List LevelTree) (lo e : ℕ) (s u : State) → NamesRise lo ls e → ((b : ℕ) → b < e → u.bufs b ≡ s.bufs b) → AllZero env ls s → AllZero env ls u
zeros_kept env [] lo e s u h same z = tt
zeros_kept env (l ∷ ls) lo e s u h same z =
    let up : l.first + 4 ≤ e = rise_over ls (l.first + 4) e h.1 in (
      zero_kept env l.role l s u (same l.first (omega (arith, up))) (same (l.first + 1) (omega (arith, up))) z.0,
      zeros_kept env ls (l.first + 4) e s u h.1 same z.1,
    )

-- ---- all new buffers

pub record AllMade (lo : ℕ) (ls : List LevelTree) (ws : List PackTree) (w u : World) : Type 0 where
  pub env : u.env ≡ w.env
  pub bufs : (b : ℕ) → b < lo → u.bufs b ≡ w.bufs b
  pub zero : AllZero w.env ls (begin u)
  pub packs : PacksZero w.env ws (begin u)

pub all_lead : (ls : List LevelTree) (ws : List PackTree) (low lo mid n : ℕ) (w : World) → low ≤ lo → NamesRise lo ls mid → PackNamesRise mid ws n → lo ≤ mid → AllSmall w.env ls → PacksSmall w.env ws
    → Leads low (2 * length ls + length ws) w (make_all (makes ls ++ pack_makes ws) w) (AllMade lo ls ws w)
all_lead ls ws low lo mid n w le rise more up small cells =
    let a = buffers_are_zero lo mid ls w rise small in
    let u : World = a.0 in
    let b = packs_are_zero mid n ws u more (subst (λ (env : Env). PacksSmall env ws) (sym a.2.env) cells) in
    let v : World = b.0 in
    let both = arrives_both lo mid (2 * length ls) (length ws) w u v (make_all (makes ls) w) (make_all (pack_makes ws)) up a.1 b.1 in
    leads_looser lo low (2 * length ls + length ws) (2 * length ls + length ws) w (make_all (makes ls ++ pack_makes ws) w) (AllMade lo ls ws w) le (omega arith) record {
      end = v;
      arrives = subst (λ (r : Ran). Arrives lo (2 * length ls + length ws) w r v) (sym (makes_append (makes ls) (pack_makes ws) w)) both;
      post = record {
        env = b.2.env ∙ a.2.env;
        bufs = λ i lt. b.2.bufs i (λ q. absurd (omega (arith, q, lt, up))) ∙ a.2.bufs i (λ q. absurd (omega (arith, q, lt)));
        zero = zeros_kept w.env ls lo mid (begin u) (begin v) rise (λ i lt. b.2.bufs i (λ q. absurd (omega (arith, q, lt)))) a.2.zero;
        packs = subst (λ (env : Env). PacksZero env ws (begin v)) a.2.env b.2.zero;
      };
    }

-- ---- packs that stand from lower on

pub packs_lower : (T : Turns) (rs : List PackRun) (name register : ℕ) (x : Descent) (cs : List (List Column)) (ks : List Level) (n : ℕ) (rows : List Row) (at : ℕ → ℕ) (lower : ℕ) → lower ≤ name
    → AllPacksStand T name (writers rs name register x) cs ks n rows at → AllPacksStand T lower (writers rs name register x) cs ks n rows at
packs_lower T [] name register x [] ks n rows at lower le h = tt
packs_lower T (r ∷ rs) name register x (c ∷ cs) ks n rows at lower le h = (omega (arith, le), h.1, h.2)
packs_lower T [] name register x (c ∷ cs) ks n rows at lower le h = absurd h
packs_lower T (r ∷ rs) name register x [] ks n rows at lower le h = absurd h
