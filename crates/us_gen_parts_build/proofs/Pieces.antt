-- The piece of a part builds it.
use Rattle.std.proofs.Common.{◌≡◌, ℕ, ◌+◌, ◌<◌, Bool, List, [], ◌∷◌, map, take, sym, subst, arith, All, filter, ◌^◌, ◌≤◌, length, ◌*◌, suc, refl, ap, true, false}
use Rattle.std.proofs.lemmas.List.Elements.{All-nil, All-cons}
use Rattle.std.proofs.lemmas.List.{length-append, length-map, length-take-le}
use Rattle.std.proofs.lemmas.List.Sums.{count_by-le-length, length-filter}
use Rattle.us_format.specs.Matrix.{Shape}
use Rattle.us_format.specs.Declaration.{Column, Part, has_extent, has_table}
use Rattle.us_format.specs.Reading.{extent_count}
use Rattle.us_code.specs.declared.pieces.Columns.{Columns}
use Rattle.us_code.specs.Plain.{PhaseTree}
use Rattle.us_gen_places.specs.Holds.{IsOrderly}
use Rattle.us_gen_build.specs.declared.levels.Role.{Role}
use Rattle.us_gen_build.specs.declared.levels.Role.TheVariants as role
use Rattle.us_gen_build.specs.Levels.{LevelTree}
use Rattle.us_gen_packs.specs.Packs.{PackTree}
use Rattle.us_gen_building.specs.declared.part.PartLevel.{PartLevel}
use Rattle.us_gen_building.specs.declared.part.Descent.{Descent}
use Rattle.us_gen_building.specs.Levels.{are_last, deeper}
use Rattle.us_gen_building.specs.Phases.{level_buffers, all_buffers, ends_from}
use Rattle.us_gen_building.specs.Runs.{AllBelow}
use Rattle.us_gen_pack_building.specs.declared.part.PackRun.{PackRun}
use Rattle.us_gen_pack_building.specs.declared.part.PackedLoops.{PackedLoops}
use Rattle.us_gen_pack_building.specs.Levels.{is_packed, FitRuns, value_levels, packed_levels, bottom, writers, pack_buffers}
use Rattle.us_gen_pack_building.specs.Phases.{level_count, packing_top, all_levels, all_packs, packed_buffers}
use Rattle.us_gen_parts_build.specs.Parts.{lows_of, level_columns, AreLoops}
use Rattle.us_gen_parts_build.specs.Phases.{part_phases, part_names}
use Rattle.us_gen_parts_build.specs.Meaning.{NamesQueries, BuildsPart}
use Rattle.us_gen_parts_build.proofs.Fitting.{new-behind, part-fit, part-levels-fit}
use Rattle.us_gen_parts_build.proofs.Leading.{IsUsablePart, part-leads}
use Rattle.us_gen_parts_build.proofs.Limits.{HaveShortRanges, part-keeps, part-unsorted}
use Rattle.us_gen_parts_build.proofs.Orderly.{levels-below}
use Rattle.us_gen_parts_build.proofs.Ready.{ArePacked, level-number, pack-number, runs-fit}

-- runs that fit end below a number
pub runs-end : (n k : ℕ) (f : List Column → PackRun) (packs : List (List Column)) → n < k → FitRuns n (map f packs) → All (λ pack. (f pack).end < k) packs
runs-end n k f [] le h = All-nil (λ (pack : List Column). (f pack).end < k)
runs-end n k f (pack ∷ packs) le h =
    All-cons (λ (x : List Column). (f x).end < k) pack packs (omega (arith, h.1, le)) (runs-end n k f packs le h.2)

-- ---- how many buffers there are

role-few : (r : Role) (b : ℕ) → length (level_buffers r b) ≤ 2
role-few role.Full b = omega arith
role-few role.Shared b = omega arith
role-few role.Single b = omega arith
role-few role.AtPosition b = omega arith
role-few role.AtRank b = omega arith
role-few role.Counted b = omega arith
role-few role.Marked b = omega arith
role-few role.Kept b = omega arith

buffers-few : (ls : List LevelTree) → length (all_buffers ls) ≤ 2 * length ls
buffers-few [] = omega arith
buffers-few (l ∷ ls) = omega (arith, length-append (level_buffers l.role l.first) (all_buffers ls), role-few l.role l.first, buffers-few ls)

packed-few : (count : ℕ) (rs : List PackRun) (k : ℕ) (ls : List PartLevel) (x : Descent) → length (packed_levels count rs k ls x) ≤ length ls + 1
packed-few count rs k [] x = one (is_packed rs k)
  where
    one : (b : Bool) → length (value_levels b x) ≤ 1
    one true = omega arith
    one false = omega arith
packed-few count rs k (l ∷ ls) x = omega (arith, packed-few count rs (k + 1) ls (deeper count l (are_last ls) x))

writers-many : (rs : List PackRun) (name register : ℕ) (x : Descent) → length (writers rs name register x) ≡ length rs
writers-many [] name register x = refl
writers-many (r ∷ rs) name register x = ap suc (writers-many rs (name + 1) register x)

names-few : (p : Part) (cs : Columns) (bs : List ℕ) (n : ℕ) (x : PackedLoops) → NamesQueries p cs bs n → length x.part.levels.items ≡ length p.levels → length x.packs.items ≡ length p.packs
    → length p.levels ≤ 16 → length p.packs ≤ 16 → length p.queries ≤ 16 → length (part_names bs n x) ≤ 1000
names-few p cs bs n x names levels packs few_levels few_packs few_queries =
    omega (
      arith,
      length-append bs (packed_buffers x (n + 656)),
      length-append (all_buffers (all_levels x (n + 656))) (pack_buffers (all_packs x (n + 656))),
      buffers-few (all_levels x (n + 656)),
      packed-few x.part.count x.packs.items 0 x.part.levels.items (packing_top x (n + 656)),
      length-map (all_packs x (n + 656)) (λ (w : PackTree). w.first),
      packs-many,
      names.buffers,
      count_by-le-length has_extent p.queries,
      count_by-le-length has_table p.queries,
      levels,
      packs,
      few_levels,
      few_packs,
      few_queries,
    )
  where
    packs-many : length (all_packs x (n + 656)) ≡ length x.packs.items
    packs-many = writers-many x.packs.items (ends_from (n + 656) (level_count x)) (packing_top x (n + 656)).register (bottom x.part.count x.part.levels.items (packing_top x (n + 656)))

-- the levels name dims of extents alone
low-levels : (sorts : Bool) (s : Shape) (p : Part) (cs : Columns) (bs : List ℕ) (n : ℕ) (x : PackedLoops) → IsOrderly p → AreLoops sorts s p cs n (n + 16) x → AllBelow (n + 16) x.part.levels.items
low-levels sorts s p cs bs n x orderly loops =
    let few : length (filter has_extent p.queries) ≤ 16 = omega (arith, length-filter has_extent p.queries, count_by-le-length has_extent p.queries, orderly.few) in
    subst (AllBelow (n + 16)) (sym loops.levels) (levels-below s p n (n + 16) 0 p.levels (level_columns s p cs (n + 16)) (λ j lt. omega (arith, lt, few)))

pub builds : (sorts : Bool) (s : Shape) (p : Part) (cs : Columns) (bs : List ℕ) (n : ℕ) (x : PackedLoops) → IsOrderly p → IsUsablePart p → ArePacked p → NamesQueries p cs bs n
    → AreLoops sorts s p cs n (n + 16) x → HaveShortRanges s p p.levels → p.names ≤ 32 → length p.packs ≤ 16 → n < 2 ^ 31 → (ps : List PhaseTree) (out : List ℕ)
    → ps ≡ part_phases cs p.levels (lows_of s p) (take (extent_count p) bs) n x → out ≡ part_names bs n x → BuildsPart sorts s p cs bs n ps out
builds sorts s p cs bs n x orderly usable are names loops short few_names few_packs room ps out ps_is out_is =
    subst (λ (qs : List PhaseTree). BuildsPart sorts s p cs bs n qs out) (sym ps_is)
    (subst (λ (ys : List ℕ). BuildsPart sorts s p cs bs n (part_phases cs p.levels (lows_of s p) (take (extent_count p) bs) n x) ys) (sym out_is) record {
      leads = λ w m es given stand. part-leads sorts s p cs bs n x orderly usable are names loops w m es given stand;
      typed = λ g free sees. part-fit sorts s p cs bs n x orderly usable are names loops g free sees;
      new = new-behind sorts s p cs bs n x orderly usable are names loops;
      few =
          names-few p cs bs n x names (level-number sorts s p cs bs n (n + 16) (n + 656) x orderly are names loops (omega arith))
          (pack-number sorts s p cs bs n (n + 16) (n + 656) x orderly are names loops (omega arith)) usable.few few_packs orderly.few;
      text =
          part-keeps sorts s p cs (take (extent_count p) bs) n x loops short (part-levels-fit cs p orderly usable names.variables s) usable.few
          (level-number sorts s p cs bs n (n + 16) (n + 656) x orderly are names loops (omega arith))
          (omega (arith, pack-number sorts s p cs bs n (n + 16) (n + 656) x orderly are names loops (omega arith), few_packs))
          (runs-fit sorts s p cs bs n (n + 16) (n + 656) x orderly are names loops (omega arith)) (low-levels sorts s p cs bs n x orderly loops) names.count
          (omega (arith, names.variables, few_names))
          (omega (arith, length-take-le (extent_count p) bs (omega (arith, names.buffers)), count_by-le-length has_extent p.queries, orderly.few)) room;
      unsorted = λ e. part-unsorted sorts s p cs (take (extent_count p) bs) n x loops e;
    })
