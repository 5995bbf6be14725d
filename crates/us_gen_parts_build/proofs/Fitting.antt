-- The phases of a part are typed in every context with room, and their buffers are visible behind them, none twice.
use Rattle.std.proofs.Common.{◌≡◌, ℕ, ◌+◌, ◌*◌, ◌<◌, ◌≤◌, List, [], ◌∷◌, ◌++◌, map, length, take, drop, true, false, Bool, not, ◌||◌, nat_eq, eq-eqb, ℤ, Option, Some, sym, refl, ap, ap₂, ◌∙◌, subst, arith, inl, inr, filter}
use Rattle.std.specs.List.{All}
use Rattle.std.proofs.lemmas.Bool.{or_left, or_right, and_parts, and_from}
use Rattle.std.proofs.lemmas.List.{length-take-le, take-append-drop}
use Rattle.std.proofs.lemmas.List.Elements.{All-head, All-tail}
use Rattle.std.proofs.lemmas.List.Sums.{count_by-le-length, length-filter}
use Rattle.us_expr.specs.Tree.{Tree, node_count}
use Rattle.us_expr.specs.Value.{IsWithin}
use Rattle.us_format.specs.Matrix.{Shape}
use Rattle.us_format.specs.Declaration.{Part, has_extent}
use Rattle.us_format.specs.Reading.{extent_count}
use Rattle.us_format.proofs.Order.{Mem}
use Rattle.us_format.proofs.Members.{all-Mem}
use Rattle.us_code.specs.declared.program.Dim.TheVariants as dim
use Rattle.us_code.specs.declared.pieces.Columns.{Columns}
use Rattle.us_code.specs.Plain.{PhaseTree}
use Rattle.us_code.specs.Typing.{Context, BufKind, is_some, sees_dim, sees_all, are_distinct, is_listed, after_phases, before}
use Rattle.us_gen_places.specs.Holds.{IsOrderly}
use Rattle.us_gen_places.specs.Places.{range_without}
use Rattle.us_gen_query.specs.Counting.{one_word}
use Rattle.us_gen_query.specs.Filling.{column, words, Visible}
use Rattle.us_gen_counting.specs.Rooms.{RoomFrom, Fit}
use Rattle.us_gen_counting.proofs.PhaseFits.{fit_both}
use Rattle.us_gen_coordinates.specs.Phase.{coordinates_phase}
use Rattle.us_gen_coordinates.specs.Laws.{AreLevels, SeesWords}
use Rattle.us_gen_coordinates.proofs.Typed.{coordinates_typed}
use Rattle.us_gen_extents.specs.Extents.{extents_phase, SeesExtents}
use Rattle.us_gen_extents.proofs.Extents.{extents_typed}
use Rattle.us_gen_building.specs.declared.part.PartLevel.{PartLevel}
use Rattle.us_gen_building.specs.Kinds as building
use Rattle.us_gen_building.specs.Kinds.{SizesSeen, AreColumns, SeesPart}
use Rattle.us_gen_building.specs.Levels.{columns}
use Rattle.us_gen_building.specs.Phases.{all_columns}
use Rattle.us_gen_pack_building.specs.declared.part.PackedLoops.{PackedLoops}
use Rattle.us_gen_pack_building.specs.Kinds as packing
use Rattle.us_gen_pack_building.specs.Phases.{room, packing_phases, packed_buffers}
use Rattle.us_gen_pack_building.proofs.Fits.{packings_typed}
use Rattle.us_gen_pack_building.proofs.Leaving.{packings_leave}
use Rattle.us_gen_parts_build.specs.Parts.{lows_of, level_columns, AreLoops}
use Rattle.us_gen_parts_build.specs.Phases.{part_phases, part_names}
use Rattle.us_gen_parts_build.specs.Meaning.{NamesQueries, SeesQueries, AreNewBehind}
use Rattle.us_gen_parts_build.proofs.Leading.{IsUsablePart}
use Rattle.us_gen_parts_build.proofs.Orderly.{level-columns, sizes-seen}
use Rattle.us_gen_parts_build.proofs.Ready.{ArePacked, columns-number, is-orderly, runs-fit, level-number, pack-number}

-- ---- lists of buffers

sees-append : (g : Context) (xs ys : List ℕ) → sees_all g xs ≡ true → sees_all g ys ≡ true → sees_all g (xs ++ ys) ≡ true
sees-append g [] ys a b = b
sees-append g (x ∷ xs) ys a b =
    let h = and_parts (is_some (g.bufs x)) (sees_all g xs) a in
    and_from (is_some (g.bufs x)) (sees_all g (xs ++ ys)) h.0 (sees-append g xs ys h.1 b)

-- those that are the same in another context
sees-same : (g h : Context) (n : ℕ) (xs : List ℕ) → ((b : ℕ) → b < n → h.bufs b ≡ g.bufs b) → ((b : ℕ) → is_listed b xs ≡ true → b < n) → sees_all g xs ≡ true → sees_all h xs ≡ true
sees-same g h n [] same low a = refl
sees-same g h n (x ∷ xs) same low a =
    let k = and_parts (is_some (g.bufs x)) (sees_all g xs) a in
    and_from (is_some (h.bufs x)) (sees_all h xs)
    (ap (λ (o : Option BufKind). is_some o) (same x (low x (or_left (nat_eq x x) (is_listed x xs) (eq-eqb x x refl)))) ∙ k.0)
    (sees-same g h n xs same (λ b i. low b (or_right (nat_eq b x) (is_listed b xs) i)) k.1)

each-seen : (g : Context) (xs : List ℕ) → All (λ b. is_some (g.bufs b) ≡ true) xs → sees_all g xs ≡ true
each-seen g [] h = refl
each-seen g (x ∷ xs) h =
    and_from (is_some (g.bufs x)) (sees_all g xs) (All-head (λ (b : ℕ). is_some (g.bufs b) ≡ true) x xs h) (each-seen g xs (All-tail (λ (b : ℕ). is_some (g.bufs b) ≡ true) x xs h))

words-seen : (g : Context) (k : BufKind) (xs : List ℕ) → All (λ b. g.bufs b ≡ Some k) xs → sees_all g xs ≡ true
words-seen g k [] h = refl
words-seen g k (x ∷ xs) h =
    and_from (is_some (g.bufs x)) (sees_all g xs) (ap (λ (o : Option BufKind). is_some o) (All-head (λ (b : ℕ). g.bufs b ≡ Some k) x xs h))
    (words-seen g k xs (All-tail (λ (b : ℕ). g.bufs b ≡ Some k) x xs h))

listed-append : (b : ℕ) (xs ys : List ℕ) → is_listed b (xs ++ ys) ≡ (is_listed b xs || is_listed b ys)
listed-append b [] ys = refl
listed-append b (x ∷ xs) ys = ap (λ (c : Bool). nat_eq b x || c) (listed-append b xs ys) ∙ regroup (nat_eq b x) (is_listed b xs) (is_listed b ys)
  where
    regroup : (p q r : Bool) → (p || (q || r)) ≡ ((p || q) || r)
    regroup true q r = refl
    regroup false q r = refl

-- lists whose numbers are on two sides of n
distinct-append : (n : ℕ) (xs ys : List ℕ) → are_distinct xs ≡ true → are_distinct ys ≡ true → ((b : ℕ) → is_listed b xs ≡ true → b < n) → ((b : ℕ) → is_listed b ys ≡ true → n ≤ b)
    → are_distinct (xs ++ ys) ≡ true
distinct-append n [] ys a b low high = b
distinct-append n (x ∷ xs) ys a b low high =
    let h = and_parts (not (is_listed x xs)) (are_distinct xs) a in
    and_from (not (is_listed x (xs ++ ys))) (are_distinct (xs ++ ys))
    (ap not (listed-append x xs ys) ∙ neither (is_listed x xs) (is_listed x ys) refl h.0 (λ i. omega (arith, high x i, low x (or_left (nat_eq x x) (is_listed x xs) (eq-eqb x x refl)))))
    (distinct-append n xs ys h.1 b (λ c i. low c (or_right (nat_eq c x) (is_listed c xs) i)) high)
  where
    neither : (p q : Bool) → is_listed x ys ≡ q → not p ≡ true → (is_listed x ys ≡ true → ⊥) → not (p || q) ≡ true
    neither true q e h f = absurd cc
    neither false true e h f = absurd (f e)
    neither false false e h f = refl

-- ---- kinds

extents-from : (bufs : ℕ → Option BufKind) (xs : List ℕ) → All (λ b. bufs b ≡ Some one_word) xs → SeesExtents bufs xs
extents-from bufs [] h = tt
extents-from bufs (x ∷ xs) h = (All-head (λ (b : ℕ). bufs b ≡ Some one_word) x xs h, extents-from bufs xs (All-tail (λ (b : ℕ). bufs b ≡ Some one_word) x xs h))

words-columns : (g : Context) (cs : Columns) (xs : List ℕ) (v : ℕ) → SeesWords g.bufs cs xs → g.bufs v ≡ Some (words cs) → AreColumns g (dim.Name cs.count) (xs ++ v ∷ [])
words-columns g cs [] v h e = (e, tt)
words-columns g cs (x ∷ xs) v h e = (h.0, words-columns g cs xs v h.1 e)

-- a phase that takes fewer numbers
fit-wider : (g : Context) (ps : List PhaseTree) (low mid high : ℕ) → mid ≤ high → Fit g ps low mid → Fit g ps low high
fit-wider g ps low mid high le f = record {
  typed = f.typed;
  more = record {
    room = record { regs = f.more.room.regs; bufs = λ b lb. f.more.room.bufs b (omega (arith, lb, le)); dims = λ d ld. f.more.room.dims d (omega (arith, ld, le)) };
    sources = f.more.sources;
    bufs = f.more.bufs;
    dims = f.more.dims;
  };
}

as-building : (g : Context) (f : ℕ) → RoomFrom g f → building.RoomFrom g f
as-building g f r = record { regs = record { none = λ x le. r.regs x }; bufs = r.bufs; dims = r.dims }

-- the levels' expressions
levels-fit : (cs : Columns) (es : List Tree) (low : Tree → ℤ) → ((e : Tree) → Mem e es → IsWithin (length cs.vars.items) e × (node_count e ≤ 32)) → AreLevels cs es (map low es)
levels-fit cs [] low h = tt
levels-fit cs (e ∷ es) low h = let a = h e (inl refl) in (a.0, a.1, levels-fit cs es low (λ x i. h x (inr i)))

pub part-levels-fit : (cs : Columns) (p : Part) → IsOrderly p → IsUsablePart p → length cs.vars.items ≡ p.names → (s : Shape) → AreLevels cs p.levels (lows_of s p)
part-levels-fit cs p orderly usable names s =
    levels-fit cs p.levels (λ e. (range_without s p e).lo)
    (λ e i. (subst (λ (k : ℕ). IsWithin k e) (sym names) (all-Mem (IsWithin p.names) p.levels e orderly.lawful.levels_valid i), all-Mem (λ (d : Tree). node_count d ≤ 32) p.levels e usable.short i))

-- ---- all phases

module _ (sorts : Bool) (s : Shape) (p : Part) (cs : Columns) (bs : List ℕ) (n : ℕ) (x : PackedLoops) (orderly : IsOrderly p) (usable : IsUsablePart p) (are : ArePacked p)
    (names : NamesQueries p cs bs n) (loops : AreLoops sorts s p cs n (n + 16) x) where
  abbrev bounds : List ℕ
  bounds = take (extent_count p) bs

  few-extents : extent_count p ≤ 16
  few-extents = omega (arith, count_by-le-length has_extent p.queries, orderly.few)

  bounds-number : length (take (extent_count p) bs) ≡ extent_count p
  bounds-number = length-take-le (extent_count p) bs (omega (arith, names.buffers))

  levels-many : length x.part.levels.items ≡ length p.levels
  levels-many = level-number sorts s p cs bs n (n + 16) (n + 656) x orderly are names loops (omega arith)

  room-few : n + 656 + room x ≤ n + 1024
  room-few =
      omega (arith, levels-many, usable.few, pack-number sorts s p cs bs n (n + 16) (n + 656) x orderly are names loops (omega arith), are.few)

  pub new-behind : AreNewBehind bs (part_names bs n x) n
  new-behind =
      let empty : building.RoomFrom (before 0) (n + 656) = record { regs = record { none = λ r le. refl }; bufs = λ b le. refl; dims = λ d le. refl } in
      let l = packings_leave (before 0) x (n + 656) empty in
      record {
        made = packed_buffers x (n + 656);
        is = refl;
        once = distinct-append n bs (packed_buffers x (n + 656)) names.once l.once names.low (λ b i. omega (arith, (l.own b i).0));
        own = λ b i. let h = l.own b i in (omega (arith, h.0), omega (arith, h.1, room-few));
      }

  module _ (g : Context) (free : RoomFrom g n) (sees : SeesQueries g p cs bs) where
    abbrev first : List PhaseTree
    first = extents_phase bounds n ∷ []

    abbrev second : List PhaseTree
    second = coordinates_phase cs p.levels (lows_of s p) (n + 16) ∷ []

    abbrev g1 : Context
    g1 = after_phases g first

    abbrev g2 : Context
    g2 = after_phases g1 second

    extents-fit : Fit g first n (n + length bounds) × ((j : ℕ) → j < length bounds → is_some (g1.dims (n + j)) ≡ true)
    extents-fit = extents_typed g bounds n free (extents-from g.bufs bounds sees.extents)

    first-fit : Fit g first n (n + 16)
    first-fit = fit-wider g first n (n + length bounds) (n + 16) (omega (arith, bounds-number, few-extents)) extents-fit.0

    visible : Visible g1 cs
    visible = record {
      count = ap (λ o. is_some o) (first-fit.more.dims cs.count names.count) ∙ sees.columns.count;
      columns = λ c lt. first-fit.more.bufs (column cs c) (names.columns c lt) ∙ sees.columns.columns c lt;
    }

    coordinates-fit : Fit g1 second (n + 16) (n + 16 + 40 * length p.levels) × SeesWords g2.bufs cs (level_columns s p cs (n + 16))
    coordinates-fit = coordinates_typed g1 cs p.levels (lows_of s p) (n + 16) first-fit.more.room visible (part-levels-fit cs p orderly usable names.variables s)

    second-fit : Fit g1 second (n + 16) (n + 656)
    second-fit = fit-wider g1 second (n + 16) (n + 16 + 40 * length p.levels) (n + 656) (omega (arith, usable.few)) coordinates-fit.0

    free2 : building.RoomFrom g2 (n + 656)
    free2 = as-building g2 (n + 656) second-fit.more.room

    -- a dim that was visible in front of both phases is
    dim-stays : (d : ℕ) → d < n → is_some (g.dims d) ≡ true → is_some (g2.dims d) ≡ true
    dim-stays d lt h = ap (λ o. is_some o) (second-fit.more.dims d (omega (arith, lt)) ∙ first-fit.more.dims d lt) ∙ h

    extent-seen : (j : ℕ) → j < length (filter has_extent p.queries) → sees_dim g2 (dim.Name (n + j)) ≡ true
    extent-seen j lt =
        let l : j < extent_count p = omega (arith, lt, length-filter has_extent p.queries) in
        ap (λ o. is_some o) (second-fit.more.dims (n + j) (omega (arith, l, few-extents))) ∙ extents-fit.1 j (omega (arith, l, bounds-number))

    values-seen : g2.bufs cs.v ≡ Some (words cs)
    values-seen = second-fit.more.bufs cs.v (omega (arith, names.values)) ∙ first-fit.more.bufs cs.v names.values ∙ sees.values

    sees-part : SeesPart g2 x.part
    sees-part = record {
      count = ap (λ (d : ℕ). sees_dim g2 (dim.Name d)) loops.count ∙ dim-stays cs.count names.count sees.columns.count;
      sizes = subst (SizesSeen g2) (sym loops.levels) (sizes-seen s p n g2 0 p.levels (level_columns s p cs (n + 16)) extent-seen);
      columns =
          subst (λ (d : ℕ). AreColumns g2 (dim.Name d) (all_columns x.part)) (sym loops.count)
          (subst (λ (ys : List ℕ). AreColumns g2 (dim.Name cs.count) ys)
          (sym (ap₂ (λ (ys : List PartLevel) (v : ℕ). columns ys ++ v ∷ []) loops.levels loops.values
          ∙ ap (λ (ys : List ℕ). ys ++ cs.v ∷ []) (level-columns s p n (level_columns s p cs (n + 16)) (columns-number s p cs (n + 16)))))
          (words-columns g2 cs (level_columns s p cs (n + 16)) cs.v coordinates-fit.1 values-seen));
    }

    leaves : packing.Leaves g2 (after_phases g2 (packing_phases x (n + 656))) x (n + 656)
    leaves = packings_leave g2 x (n + 656) free2

    third-fit : Fit g2 (packing_phases x (n + 656)) (n + 656) (n + 1024)
    third-fit = record {
      typed =
          packings_typed g2 x (n + 656) free2 sees-part (is-orderly sorts s p cs bs n (n + 16) (n + 656) x orderly are names loops (omega arith))
          (runs-fit sorts s p cs bs n (n + 16) (n + 656) x orderly are names loops (omega arith)) (omega (arith, levels-many, usable.few));
      more = record {
        room = record {
          regs = λ r. leaves.free.regs.none r (omega arith);
          bufs = λ b le. leaves.free.bufs b (omega (arith, le, room-few));
          dims = λ d le. leaves.free.dims d (omega (arith, le, room-few));
        };
        sources = leaves.sources;
        bufs = leaves.bufs;
        dims = leaves.dims;
      };
    }

    all-fit : Fit g (part_phases cs p.levels (lows_of s p) bounds n x) n (n + 1024)
    all-fit =
        fit_both g (extents_phase bounds n ∷ coordinates_phase cs p.levels (lows_of s p) (n + 16) ∷ []) (packing_phases x (n + 656)) n (n + 656) (n + 1024) (omega arith)
        (fit_both g first second n (n + 16) (n + 656) (omega arith) first-fit second-fit) third-fit

    given-seen : sees_all g bs ≡ true
    given-seen =
        ap (sees_all g) (sym (take-append-drop (extent_count p) bs))
        ∙ sees-append g (take (extent_count p) bs) (drop (extent_count p) bs) (words-seen g one_word (take (extent_count p) bs) sees.extents) (each-seen g (drop (extent_count p) bs) sees.tables)

    pub part-fit : Fit g (part_phases cs p.levels (lows_of s p) bounds n x) n (n + 1024)
        × (sees_all (after_phases g (part_phases cs p.levels (lows_of s p) bounds n x)) (part_names bs n x) ≡ true)
    part-fit = (
      all-fit,
      sees-append (after_phases g (part_phases cs p.levels (lows_of s p) bounds n x)) bs (packed_buffers x (n + 656))
          (sees-same g (after_phases g (part_phases cs p.levels (lows_of s p) bounds n x)) n bs all-fit.more.bufs names.low given-seen) leaves.buffers,
    )
