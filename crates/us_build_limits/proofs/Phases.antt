-- The phases that build buffers and packs keep the limits.
use Rattle.std.proofs.Common.{ℕ, zero, suc, ◌+◌, ◌^◌, ◌<◌, ◌≤◌, Bool, true, false, cond, [], ◌∷◌, length, Option, Some, None, lit<, lit≤, arith, length-append}
use Rattle.us_code.specs.declared.program.Dim.TheVariants as dim
use Rattle.us_code.specs.Limits.{FitsDim, FitsMakes, FitsLines}
use Rattle.us_gen_build.specs.Making.{makes}
use Rattle.us_gen_packs.specs.Making.{pack_makes}
use Rattle.us_gen_building.specs.Keys.{has_listed, node_count, some_keys}
use Rattle.us_gen_building.specs.Levels.{columns, group_count}
use Rattle.us_gen_building.specs.declared.part.PartLoops.{PartLoops}
use Rattle.us_gen_building.specs.Phases.{top_of, counting_phase, building_top, building_phase, all_built, order_of, counted_from, dims_from, turn_from, ends_from, order_makes, groups, counting_top, all_columns}
use Rattle.us_gen_pack_building.specs.declared.part.PackedLoops.{PackedLoops}
use Rattle.us_gen_pack_building.specs.Levels.{bottom, pack_lines}
use Rattle.us_gen_pack_building.specs.Phases.{level_count, pack_count, packing_top, all_levels, all_packs, cell_counting_phase, packing_phase}
use Rattle.us_limits.specs.Small.{Small}
use Rattle.us_limits.proofs.Blocks.{block-looser, append-small}
use Rattle.us_limits.proofs.Phases.{text-looser, phase-keep, more-keep}
use Rattle.us_build_limits.specs.Texts.{KeysFit, KeysFitLevels, HasShortNames, HasShortLevels, BuildingsKeepLimits, PackingsKeepLimits}
use Rattle.us_build_limits.proofs.Blocks.{AreFit, build-keeps}
use Rattle.us_build_limits.proofs.Packs.{packed-keeps, pack-makes-fit, pack-makes-long, pack-lines-fit, pack-lines-long}
use Rattle.us_build_limits.proofs.Descents.{HasRoom, packed-fit, packed-few, built-fit, built-long, bottom-fits, makes-fit, makes-few, makes-append, lines-fit, lines-few, lines-append, sizes-take, take-few, columns-long, order-keeps, counts-keep}

pub keys-fit-levels : KeysFitLevels
keys-fit-levels [] = tt
keys-fit-levels (l ∷ ls) = either (has_listed (l ∷ ls)) (node_count (l ∷ ls))
  where
    either : (listed : Bool) (n : ℕ) → KeysFit (cond listed (Some (suc (length ls))) (some_keys n)) (l ∷ ls)
    either true n = (omega arith, omega arith)
    either false zero = tt
    either false (suc n) = (omega arith, omega arith)

places-fit : (keys : Option ℕ) (f count : ℕ) → count < 2 ^ 32 → FitsMakes (order_makes keys f count)
places-fit None f count h = tt
places-fit (Some k) f count h = (h, h, tt)

places-few : (keys : Option ℕ) (f count : ℕ) → length (order_makes keys f count) ≤ 1
places-few None f count = lit≤ tt
places-few (Some k) f count = lit≤ tt

-- ---- the first phase

-- both loops have room
top-room : (x : PartLoops) (f first register : ℕ) → HasShortLevels x f → HasRoom (top_of (dims_from f (length x.levels.items)) first register) (length x.levels.items)
top-room x f first register h = record { above = lit< tt; dims = omega (arith, h.numbers) }

counting-keeps : (x : PartLoops) (f : ℕ) → HasShortLevels x f → Small 260 64 (counting_phase x f).body
counting-keeps x f h =
    let ls = x.levels.items in
    let few : length (groups ls) ≤ 16 = omega (arith, take-few (group_count ls) ls, h.levels) in
    block-looser (omega (arith, few)) (lit≤ tt)
    (append-small (order-keeps x.keys ls f h.keys (omega (arith, h.levels)))
    (counts-keep x.count (order_of x.keys f) (groups ls) (f + 1) (counted_from f (length ls)) (dims_from f (length ls)) h.count (sizes-take (group_count ls) ls h.sizes) (omega (arith, few))))

counting-fits : (x : PartLoops) (f : ℕ) → HasShortLevels x f → FitsLines (counting_phase x f).lines
counting-fits x f h = lines-fit x.count x.levels.items (counting_top x f) h.count h.sizes (top-room x f _ _ h)

counting-few : (x : PartLoops) (f : ℕ) → HasShortLevels x f → length (counting_phase x f).lines ≤ 32
counting-few x f h = omega (arith, lines-few x.count x.levels.items (counting_top x f), h.levels)

-- ---- without packs

all-fit : (x : PartLoops) (f : ℕ) → HasShortLevels x f → AreFit (all_built x f)
all-fit x f h = built-fit x.count x.levels.items (building_top x f) h.count h.sizes (top-room x f _ _ h)

columns-few : (x : PartLoops) → length x.levels.items ≤ 16 → length (all_columns x) ≤ 17
columns-few x few = omega (arith, length-append (columns x.levels.items) (x.values ∷ []), columns-long x.levels.items, few)

pub buildings-keep-limits : BuildingsKeepLimits
buildings-keep-limits x f h =
    let n = length x.levels.items in
    let few : length (all_built x f) ≤ 17 = omega (arith, built-long x.count x.levels.items (building_top x f), h.levels) in
    let built : Small 275 64 (building_phase x f).body =
    block-looser (omega (arith, few, columns-few x h.levels)) (lit≤ tt)
    (build-keeps (dim.Name x.count) (order_of x.keys f) (all_columns x) (all_built x f) (turn_from f n) (ends_from f n) h.count (all-fit x f h) (omega (arith, few))) in
    text-looser (omega (arith, places-few x.keys f x.count, counting-few x f h, makes-few (all_built x f), few))
    (more-keep {m = 260} {p = counting_phase x f} (places-fit x.keys f x.count h.count) (counting-keeps x f h) (counting-fits x f h)
    (phase-keep {n = 275} {p = building_phase x f} (makes-fit (all_built x f) (all-fit x f h)) built tt))

-- ---- with packs

short-part : (x : PackedLoops) (f : ℕ) → HasShortNames x f → HasShortLevels x.part f
short-part x f h = record { levels = h.levels; count = h.count; sizes = h.sizes; keys = h.keys; numbers = omega (arith, h.numbers) }

packing-room : (x : PackedLoops) (f : ℕ) → HasShortNames x f → HasRoom (packing_top x f) (level_count x)
packing-room x f h = top-room x.part f _ _ (short-part x f h)

above-fits : (x : PackedLoops) (f : ℕ) → HasShortNames x f → FitsDim (bottom x.part.count x.part.levels.items (packing_top x f)).above
above-fits x f h = bottom-fits x.part.count x.part.levels.items (packing_top x f) h.count (packing-room x f h)

counting-lines-fit : (x : PackedLoops) (f : ℕ) → HasShortNames x f → FitsLines (cell_counting_phase x f).lines
counting-lines-fit x f h =
    lines-append (counting_phase x.part f).lines (pack_lines (all_packs x f)) (counting-fits x.part f (short-part x f h))
    (pack-lines-fit x.packs.items (level_count x + 1) (ends_from f (level_count x)) (packing_top x f).register (bottom x.part.count x.part.levels.items (packing_top x f)) h.runs (omega (arith, h.levels)) (above-fits x f h))

counting-lines-few : (x : PackedLoops) (f : ℕ) → HasShortNames x f → length (cell_counting_phase x f).lines ≤ 49
counting-lines-few x f h =
    let packed = pack-lines-long x.packs.items (ends_from f (level_count x)) (packing_top x f).register (bottom x.part.count x.part.levels.items (packing_top x f)) in
    omega (arith, length-append (counting_phase x.part f).lines (pack_lines (all_packs x f)), counting-few x.part f (short-part x f h), packed, h.packs)

levels-fit : (x : PackedLoops) (f : ℕ) → HasShortNames x f → AreFit (all_levels x f)
levels-fit x f h = packed-fit x.part.count x.packs.items 0 x.part.levels.items (packing_top x f) h.count h.sizes (packing-room x f h)

levels-few : (x : PackedLoops) (f : ℕ) → HasShortNames x f → length (all_levels x f) ≤ 17
levels-few x f h = omega (arith, packed-few x.part.count x.packs.items 0 x.part.levels.items (packing_top x f), h.levels)

packing-keeps : (x : PackedLoops) (f : ℕ) → HasShortNames x f → Small 580 64 (packing_phase x f).body
packing-keeps x f h =
    let ls = x.part.levels.items in
    let n = level_count x in
    let few = levels-few x f h in
    let long = columns-few x.part h.levels in
    block-looser (omega (arith, few, long, h.packs)) (lit≤ tt)
    (packed-keeps (dim.Name x.part.count) (order_of x.part.keys f) (all_columns x.part) (all_levels x f) x.packs.items (n + 1) (ends_from f n) (packing_top x f).register (bottom x.part.count ls (packing_top x f)) (turn_from f n) (ends_from f n + pack_count x)
    h.count (levels-fit x f h) (omega (arith, few)) h.runs (omega (arith, h.levels)) (above-fits x f h))

packing-makes-fit : (x : PackedLoops) (f : ℕ) → HasShortNames x f → FitsMakes (packing_phase x f).makes
packing-makes-fit x f h =
    let ls = x.part.levels.items in
    makes-append (makes (all_levels x f)) (pack_makes (all_packs x f)) (makes-fit (all_levels x f) (levels-fit x f h))
    (pack-makes-fit x.packs.items (ends_from f (level_count x)) (packing_top x f).register (bottom x.part.count ls (packing_top x f)) (omega (arith, h.numbers)))

packing-makes-few : (x : PackedLoops) (f : ℕ) → HasShortNames x f → length (packing_phase x f).makes ≤ 51
packing-makes-few x f h =
    let ls = x.part.levels.items in
    let packed = pack-makes-long x.packs.items (ends_from f (level_count x)) (packing_top x f).register (bottom x.part.count ls (packing_top x f)) in
    omega (arith, length-append (makes (all_levels x f)) (pack_makes (all_packs x f)), makes-few (all_levels x f), levels-few x f h, packed, h.packs)

pub packings-keep-limits : PackingsKeepLimits
packings-keep-limits x f h =
    text-looser (omega (arith, places-few x.part.keys f x.part.count, counting-lines-few x f h, packing-makes-few x f h))
    (more-keep {m = 260} {p = cell_counting_phase x f} (places-fit x.part.keys f x.part.count h.count) (counting-keeps x.part f (short-part x f h)) (counting-lines-fit x f h)
    (phase-keep {n = 580} {p = packing_phase x f} (packing-makes-fit x f h) (packing-keeps x f h) tt))
