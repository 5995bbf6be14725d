-- Roles of levels whose coordinates may be in a pack.
use Rattle.std.proofs.Common.{◌≡◌, ℕ, ◌+◌, ◌*◌, ◌^◌, ◌<◌, ◌≤◌, Bool, true, false, not, refl, arith, List}
use Rattle.std.proofs.lemmas.Nat.{mul-add-lt}
use Rattle.us_code.specs.Run.{Env, size_of}
use Rattle.us_code.specs.Typing.{Context, sees_dim}
use Rattle.us_format.specs.declared.Kind.{Kind}
use Rattle.us_format.specs.declared.Kind.TheVariants.{Full, Compressed, Listed, Slot}
use Rattle.us_format.specs.Positions.{Row, count_below}
use Rattle.us_format.specs.Reading.{limit}
use Rattle.us_format_loops.specs.Nodes.{has_nodes}
use Rattle.us_gen_build.specs.declared.levels.Role.{Role}
use Rattle.us_gen_build.specs.declared.levels.Role.TheVariants as role
use Rattle.us_gen_build.specs.Levels.{LevelTree}
use Rattle.us_gen_build.specs.Turns.{has_key, is_at_rank, writes_crd, position_of}
use Rattle.us_gen_build.specs.Making.{SmallOf, SeesOf}
use Rattle.us_gen_build_laws.specs.Numbering.{Ranked, Suits}
use Rattle.us_build_loops.specs.Standing.{numbering_of, has_starts}
use Rattle.us_gen_building.specs.Levels.{ranks_below, role_of}
use Rattle.us_gen_building.specs.Runs.{IsSmall}
use Rattle.us_gen_pack_building.specs.Levels.{packed_role}

-- the role of a level, by whether its coordinates are in a pack
abbrev pub role_here : Bool → Kind → Bool → Bool → Role
role_here b k last ranked = packed_role b k last (role_of k last ranked)

pub here_suits : (b : Bool) (k : Kind) (last ranked : Bool) → Suits (numbering_of (role_here b k last ranked)) k
here_suits false Full last ranked = tt
here_suits false Compressed true ranked = tt
here_suits false Compressed false ranked = tt
here_suits false Listed last ranked = tt
here_suits false Slot last true = tt
here_suits false Slot last false = tt
here_suits true Full last ranked = tt
here_suits true Compressed true ranked = tt
here_suits true Compressed false ranked = tt
here_suits true Listed last ranked = tt
here_suits true Slot last true = tt
here_suits true Slot last false = tt

pub here_last : (b : Bool) (k : Kind) (last ranked : Bool) → numbering_of (role_here b k last ranked) ≡ Ranked → k ≡ Compressed → last ≡ true
here_last false Full last ranked e q = absurd cc
here_last false Compressed true ranked e q = refl
here_last false Compressed false ranked e q = absurd cc
here_last false Listed last ranked e q = absurd cc
here_last false Slot last true e q = absurd cc
here_last false Slot last false e q = absurd cc
here_last true Full last ranked e q = absurd cc
here_last true Compressed true ranked e q = refl
here_last true Compressed false ranked e q = absurd cc
here_last true Listed last ranked e q = absurd cc
here_last true Slot last true e q = absurd cc
here_last true Slot last false e q = absurd cc

pub here_rank : (b : Bool) (k : Kind) (last ranked : Bool) → is_at_rank (role_here b k last ranked) ≡ true → ranked ≡ true
here_rank false Full last ranked e = absurd cc
here_rank false Compressed true ranked e = absurd cc
here_rank false Compressed false ranked e = absurd cc
here_rank false Listed last ranked e = absurd cc
here_rank false Slot last true e = refl
here_rank false Slot last false e = absurd cc
here_rank true Full last ranked e = absurd cc
here_rank true Compressed true ranked e = absurd cc
here_rank true Compressed false ranked e = absurd cc
here_rank true Listed last ranked e = absurd cc
here_rank true Slot last true e = absurd cc
here_rank true Slot last false e = absurd cc

pub here_starts : (b : Bool) (k : Kind) (last ranked : Bool) → has_starts (role_here b k last ranked) ≡ true → has_nodes k ≡ true
here_starts false Full last ranked e = absurd cc
here_starts false Compressed true ranked e = refl
here_starts false Compressed false ranked e = refl
here_starts false Listed last ranked e = refl
here_starts false Slot last true e = absurd cc
here_starts false Slot last false e = absurd cc
here_starts true Full last ranked e = absurd cc
here_starts true Compressed true ranked e = refl
here_starts true Compressed false ranked e = refl
here_starts true Listed last ranked e = refl
here_starts true Slot last true e = absurd cc
here_starts true Slot last false e = absurd cc

-- where the position of each entry above is its rank, or the level makes it so
pub here_inside : (b : Bool) (k : Kind) (last ranked : Bool) (w : ℕ) (at c : ℕ → ℕ) (y : ℕ) → (ranked ≡ true → at y ≡ y) → ranks_below k last ranked ≡ true → position_of (role_here b k last ranked) w at c y ≡ y
here_inside false Full last ranked w at c y h e = absurd cc
here_inside false Compressed true ranked w at c y h e = refl
here_inside false Compressed false ranked w at c y h e = absurd cc
here_inside false Listed last ranked w at c y h e = refl
here_inside false Slot last true w at c y h e = h refl
here_inside false Slot last false w at c y h e = absurd cc
here_inside true Full last ranked w at c y h e = absurd cc
here_inside true Compressed true ranked w at c y h e = refl
here_inside true Compressed false ranked w at c y h e = absurd cc
here_inside true Listed last ranked w at c y h e = refl
here_inside true Slot last true w at c y h e = h refl
here_inside true Slot last false w at c y h e = absurd cc

pub here_counts : (b : Bool) (k : Kind) (last ranked : Bool) → (role_here b k last ranked) ≡ role.Counted → ⊥
here_counts false Full last ranked e = cc
here_counts false Compressed true ranked e = cc
here_counts false Compressed false ranked e = cc
here_counts false Listed last ranked e = cc
here_counts false Slot last true e = cc
here_counts false Slot last false e = cc
here_counts true Full last ranked e = cc
here_counts true Compressed true ranked e = cc
here_counts true Compressed false ranked e = cc
here_counts true Listed last ranked e = cc
here_counts true Slot last true e = cc
here_counts true Slot last false e = cc

apart : false ≡ true → ⊥
apart e = cc

-- a level writes its coordinates where they are in no pack
pub here_writes : (b : Bool) (k : Kind) (last ranked : Bool) → (k ≡ Full → ⊥) → (b ≡ true → last ≡ true) → writes_crd (role_here b k last ranked) ≡ not b
here_writes false Full last ranked n h = absurd (n refl)
here_writes false Compressed true ranked n h = refl
here_writes false Compressed false ranked n h = refl
here_writes false Listed last ranked n h = refl
here_writes false Slot last true n h = refl
here_writes false Slot last false n h = refl
here_writes true Full last ranked n h = absurd (n refl)
here_writes true Compressed true ranked n h = refl
here_writes true Compressed false ranked n h = absurd (apart (h refl))
here_writes true Listed last ranked n h = refl
here_writes true Slot last true n h = refl
here_writes true Slot last false n h = refl

pub here_small : (env : Env) (b : Bool) (k : Kind) (last ranked : Bool) (t : LevelTree) → (has_nodes k ≡ true → size_of env t.pos_length ≤ 67108865) → size_of env t.crd_length ≤ 67108865 → SmallOf env (role_here b k last ranked) t
here_small env false Full last ranked t p c = tt
here_small env false Compressed true ranked t p c = (p refl, c)
here_small env false Compressed false ranked t p c = (p refl, c)
here_small env false Listed last ranked t p c = (p refl, c)
here_small env false Slot last true t p c = c
here_small env false Slot last false t p c = c
here_small env true Full last ranked t p c = tt
here_small env true Compressed true ranked t p c = p refl
here_small env true Compressed false ranked t p c = (p refl, c)
here_small env true Listed last ranked t p c = p refl
here_small env true Slot last true t p c = tt
here_small env true Slot last false t p c = tt

pub here_sees : (b : Bool) (k : Kind) (last ranked : Bool) (t : LevelTree) (g : Context) → (has_nodes k ≡ true → sees_dim g t.pos_length ≡ true) → sees_dim g t.crd_length ≡ true → SeesOf g (role_here b k last ranked) t
here_sees false Full last ranked t g p c = tt
here_sees false Compressed true ranked t g p c = (p refl, c)
here_sees false Compressed false ranked t g p c = (p refl, c)
here_sees false Listed last ranked t g p c = (p refl, c)
here_sees false Slot last true t g p c = c
here_sees false Slot last false t g p c = c
here_sees true Full last ranked t g p c = tt
here_sees true Compressed true ranked t g p c = p refl
here_sees true Compressed false ranked t g p c = (p refl, c)
here_sees true Listed last ranked t g p c = p refl
here_sees true Slot last true t g p c = tt
here_sees true Slot last false t g p c = tt

full_pair : (n w q c : ℕ) → n * w ≤ limit → q < n → c < w → q * w + c < 2 ^ 63
full_pair n w q c le hq hc = omega (arith, mul-add-lt q w c n hq hc, le)

-- a position and a coordinate are one number that doesn't wrap, where the level has need of it
pub here_pair : (b : Bool) (k : Kind) (last ranked : Bool) (w n : ℕ) (rows : List Row) → IsSmall record { kind = k; size = w } n → count_below k w n rows ≤ limit → has_key (role_here b k last ranked) ≡ true → (q c : ℕ) → q < n → c < w → q * w + c < 2 ^ 63
here_pair false Full last ranked w n rows s le e q c hq hc = full_pair n w q c le hq hc
here_pair false Compressed true ranked w n rows s le e q c hq hc = s.pairs refl q c hq hc
here_pair false Compressed false ranked w n rows s le e q c hq hc = s.pairs refl q c hq hc
here_pair false Listed last ranked w n rows s le e q c hq hc = absurd cc
here_pair false Slot last true w n rows s le e q c hq hc = absurd cc
here_pair false Slot last false w n rows s le e q c hq hc = absurd cc
here_pair true Full last ranked w n rows s le e q c hq hc = full_pair n w q c le hq hc
here_pair true Compressed true ranked w n rows s le e q c hq hc = s.pairs refl q c hq hc
here_pair true Compressed false ranked w n rows s le e q c hq hc = s.pairs refl q c hq hc
here_pair true Listed last ranked w n rows s le e q c hq hc = absurd cc
here_pair true Slot last true w n rows s le e q c hq hc = absurd cc
here_pair true Slot last false w n rows s le e q c hq hc = absurd cc
