-- The columns of packs, and the positions behind all levels.
use Rattle.std.proofs.Common.{◌≡◌, ℕ, zero, suc, ◌+◌, ◌<◌, List, [], ◌∷◌, length, drop, Bool, true, false, cond, sym, refl, ap, ◌∙◌, subst, arith, pos}
use Rattle.std.specs.Prelude.{slice_index_or}
use Rattle.std.proofs.lemmas.List.{get_or-map}
use Rattle.us_code.specs.Run.{State}
use Rattle.us_code_laws.proofs.Sound.{and_left, and_right}
use Rattle.us_format.specs.declared.Kind.{Kind}
use Rattle.us_format.specs.declared.Kind.TheVariants.{Full, Compressed, Listed, Slot}
use Rattle.us_format.specs.Kinds.{Level}
use Rattle.us_format.specs.Positions.{Row, count_below, down, moved}
use Rattle.us_format.proofs.Members.{Mem-contains}
use Rattle.us_format_loops.specs.Nodes.{is_slot, are_slots}
use Rattle.us_build.proofs.Counts.{Mem-at}
use Rattle.us_gen_build.specs.declared.levels.Role.{Role}
use Rattle.us_gen_build.specs.declared.levels.Role.TheVariants as role
use Rattle.us_gen_build.specs.Levels.{LevelTree}
use Rattle.us_gen_build.specs.Turns.{Turns, position_of, inside, writes_crd}
use Rattle.us_gen_build_laws.specs.Rows.{no_row, row}
use Rattle.us_gen_build_laws.specs.Numbering.{Suits}
use Rattle.us_gen_build_laws.specs.Built.{Lists}
use Rattle.us_build_loops.specs.Standing.{numbering_of, Spreads}
use Rattle.us_build_loops.specs.Laws.{TakeRows}
use Rattle.us_build_loops.proofs.AllLevels.{take-down}
use Rattle.us_gen_packs.specs.Turns.{last_at}
use Rattle.us_pack_loops.specs.Names.{level_at, CoverLevels}
use Rattle.us_pack_loops.specs.Standing.{count_behind}
use Rattle.us_pack_loops.proofs.Entries.{entries_in, entries-same, head-at, tail-at}
use Rattle.us_pack_loops.proofs.Mixed.{all_lists_of, values_of}

-- ---- slot levels keep positions

slot-keeps : (r : Role) (z : Kind) → Suits (numbering_of r) z → is_slot z ≡ true → (w : ℕ) (at c : ℕ → ℕ) (x : ℕ) → position_of r w at c x ≡ at x
slot-keeps role.AtPosition Slot s e w at c x = refl
slot-keeps role.AtRank Slot s e w at c x = refl
slot-keeps role.Kept Slot s e w at c x = refl
slot-keeps _ Full s e w at c x = absurd cc
slot-keeps _ Compressed s e w at c x = absurd cc
slot-keeps _ Listed s e w at c x = absurd cc
slot-keeps _ Slot s e w at c x = absurd s

spread-keeps : (r : Role) → Spreads r → (w : ℕ) (at c : ℕ → ℕ) (x : ℕ) → position_of r w at c x ≡ at x
spread-keeps role.AtPosition p w at c x = refl
spread-keeps role.AtRank p w at c x = refl
spread-keeps _ p w at c x = absurd p

slot-count : (z : Kind) (size n : ℕ) (rows : List Row) → is_slot z ≡ true → count_below z size n rows ≡ n
slot-count Full size n rows e = absurd cc
slot-count Compressed size n rows e = absurd cc
slot-count Listed size n rows e = absurd cc
slot-count Slot size n rows e = refl

pub slots-count : (ks : List Level) (n : ℕ) (rows : List Row) → are_slots ks ≡ true → count_behind ks n rows ≡ n
slots-count [] n rows e = refl
slots-count (k ∷ ks) n rows e =
    slots-count ks (count_below k.kind k.size n rows) (down k.kind k.size rows) (and_right (is_slot k.kind) (are_slots ks) e) ∙ slot-count k.kind k.size n rows (and_left (is_slot k.kind) (are_slots ks) e)

pub slots-last : (T : Turns) (lo : ℕ) (ls : List LevelTree) (ks : List Level) (n : ℕ) (rows : List Row) (at : ℕ → ℕ) → TakeRows T lo ls ks n rows at → CoverLevels ls ks → are_slots ks ≡ true → (x : ℕ) → last_at T ls at x ≡ at x
slots-last T lo (l ∷ ls) (k ∷ ks) n rows at h f e x =
    slots-last T (l.first + 4) ls ks (count_below k.kind k.size n rows) (down k.kind k.size rows) (inside T l at) (take-down T lo l ls k ks n rows at h) f.1 (and_right (is_slot k.kind) (are_slots ks) e) x
    ∙ slot-keeps l.role k.kind h.stand.1.suits (and_left (is_slot k.kind) (are_slots ks) e) (T.wide l) at (T.coord l) x
slots-last T lo (l ∷ []) [] n rows at h f e x = spread-keeps l.role h.stand.1.spreads (T.wide l) at (T.coord l) x
slots-last T lo (l ∷ j ∷ ls) [] n rows at h f e x = absurd f
slots-last T lo [] (k ∷ ks) n rows at h f e x = absurd f
slots-last T lo [] [] n rows at h f e x = refl

-- the last positions are below their number
pub last-below : (T : Turns) (lo : ℕ) (ls : List LevelTree) (ks : List Level) (n : ℕ) (rows : List Row) (at : ℕ → ℕ) → TakeRows T lo ls ks n rows at → CoverLevels ls ks → (x : ℕ) → x < T.count → last_at T ls at x < count_behind ks n rows
last-below T lo (l ∷ ls) (k ∷ ks) n rows at h f x lt =
    last-below T (l.first + 4) ls ks (count_below k.kind k.size n rows) (down k.kind k.size rows) (inside T l at) (take-down T lo l ls k ks n rows at h) f.1 x lt
last-below T lo [] (k ∷ ks) n rows at h f x lt = absurd f
last-below T lo (l ∷ j ∷ ls) [] n rows at h f x lt = absurd f
last-below T lo (l ∷ []) [] n rows at h f x lt = subst (λ (v : ℕ). v < n) (sym (spread-keeps l.role h.stand.1.spreads (T.wide l) at (T.coord l) x)) (at-end T lo (l ∷ []) n rows at h x lt)
  where
    at-end : (T : Turns) (lo : ℕ) (ls : List LevelTree) (n : ℕ) (rows : List Row) (at : ℕ → ℕ) → TakeRows T lo ls [] n rows at → (x : ℕ) → x < T.count → at x < n
    at-end T lo ls n rows at h x lt =
        let g : x < length rows = omega (arith, lt, h.entries) in
        subst (λ (v : ℕ). v < n) (sym (h.positions x g)) (h.ready.below (row rows x) (Mem-contains rows (row rows x) (Mem-at rows x no_row g)))
last-below T lo [] [] n rows at h f x lt =
    let g : x < length rows = omega (arith, lt, h.entries) in
    subst (λ (v : ℕ). v < n) (sym (h.positions x g)) (h.ready.below (row rows x) (Mem-contains rows (row rows x) (Mem-at rows x no_row g)))

-- ---- what packs have

abbrev pub no_lists : Lists
no_lists = record { starts = []; coordinates = [] }

abbrev pub lists_at : List Lists → ℕ → Lists
lists_at cs k = slice_index_or cs k no_lists

row-down : (z : Kind) (size : ℕ) (rows : List Row) (x : ℕ) → x < length rows → row (down z size rows) x ≡ moved z size rows (row rows x)
row-down z size rows x h = get_or-map (moved z size rows) rows x no_row no_row h

-- the coordinates of a level that writes none are what the entries write at the last positions, where only slot levels follow
pub packed-coordinates : (T : Turns) (u : State) (lo : ℕ) (ls : List LevelTree) (ks : List Level) (n : ℕ) (rows : List Row) (at : ℕ → ℕ) (j : ℕ) → TakeRows T lo ls ks n rows at → CoverLevels ls ks → j < length ks
    → writes_crd (level_at ls j).role ≡ false → are_slots (drop (suc j) ks) ≡ true
    → (lists_at (all_lists_of T u ls ks n rows at) j).coordinates ≡ entries_in T.count (last_at T ls at) (λ x. pos (slice_index_or (row rows x).rest j 0)) (count_behind ks n rows)
packed-coordinates T u lo (l ∷ ls) (k ∷ ks) n rows at zero h f lt none slots =
    let m = count_below k.kind k.size n rows in
    let below = down k.kind k.size rows in
    let cells = entries_in T.count (inside T l at) (λ x. pos (T.coord l x)) m in
    ap (λ (b : Bool). cond b (u.bufs (l.first + 1)) cells) none
    ∙ entries-same T.count (inside T l at) (last_at T (l ∷ ls) at) (λ x. pos (T.coord l x)) (λ x. pos (slice_index_or (row rows x).rest 0 0)) m (count_behind ks m below)
    (λ x g. sym (slots-last T (l.first + 4) ls ks m below (inside T l at) (take-down T lo l ls k ks n rows at h) f.1 slots x))
    (λ x g. ap pos (h.stand.1.coordinates x g ∙ head-at (row rows x).rest))
    (sym (slots-count ks m below slots))
packed-coordinates T u lo (l ∷ ls) (k ∷ ks) n rows at (suc j) h f lt none slots =
    let m = count_below k.kind k.size n rows in
    let below = down k.kind k.size rows in
    packed-coordinates T u (l.first + 4) ls ks m below (inside T l at) j (take-down T lo l ls k ks n rows at h) f.1 (omega (arith, lt)) none slots
    ∙ entries-same T.count (last_at T ls (inside T l at)) (last_at T ls (inside T l at)) (λ x. pos (slice_index_or (row below x).rest j 0)) (λ x. pos (slice_index_or (row rows x).rest (suc j) 0)) (count_behind ks m below) (count_behind ks m below)
    (λ x g. refl)
    (λ x g. ap pos (ap (λ (r : Row). slice_index_or r.rest j 0) (row-down k.kind k.size rows x (omega (arith, g, h.entries))) ∙ tail-at (row rows x).rest j))
    refl
packed-coordinates T u lo ls [] n rows at j h f lt none slots = absurd (omega (arith, lt))
packed-coordinates T u lo [] (k ∷ ks) n rows at j h f lt none slots = absurd f

-- so are the values, where no level writes them
pub packed-values : (T : Turns) (u : State) (lo : ℕ) (ls : List LevelTree) (ks : List Level) (n : ℕ) (rows : List Row) (at : ℕ → ℕ) → TakeRows T lo ls ks n rows at → CoverLevels ls ks → length ls ≡ length ks
    → values_of T u ls ks n rows at ≡ entries_in T.count (last_at T ls at) (λ x. (row rows x).value) (count_behind ks n rows)
packed-values T u lo (l ∷ ls) (k ∷ ks) n rows at h f e =
    let m = count_below k.kind k.size n rows in
    let below = down k.kind k.size rows in
    packed-values T u (l.first + 4) ls ks m below (inside T l at) (take-down T lo l ls k ks n rows at h) f.1 (omega (arith, e))
    ∙ entries-same T.count (last_at T ls (inside T l at)) (last_at T ls (inside T l at)) (λ x. (row below x).value) (λ x. (row rows x).value) (count_behind ks m below) (count_behind ks m below)
    (λ x g. refl)
    (λ x g. ap (λ (r : Row). r.value) (row-down k.kind k.size rows x (omega (arith, g, h.entries))))
    refl
packed-values T u lo [] [] n rows at h f e = refl
packed-values T u lo [] (k ∷ ks) n rows at h f e = absurd f
packed-values T u lo (l ∷ ls) [] n rows at h f e = absurd (omega (arith, e))

-- ---- what stands in buffers of its own

pub own-starts : (T : Turns) (u : State) (ls : List LevelTree) (ks : List Level) (n : ℕ) (rows : List Row) (at : ℕ → ℕ) (j : ℕ) → CoverLevels ls ks → j < length ks → (lists_at (all_lists_of T u ls ks n rows at) j).starts ≡ u.bufs (level_at ls j).first
own-starts T u (l ∷ ls) (k ∷ ks) n rows at zero f lt = refl
own-starts T u (l ∷ ls) (k ∷ ks) n rows at (suc j) f lt = own-starts T u ls ks (count_below k.kind k.size n rows) (down k.kind k.size rows) (inside T l at) j f.1 (omega (arith, lt))
own-starts T u ls [] n rows at j f lt = absurd (omega (arith, lt))
own-starts T u [] (k ∷ ks) n rows at j f lt = absurd f

pub own-coordinates : (T : Turns) (u : State) (ls : List LevelTree) (ks : List Level) (n : ℕ) (rows : List Row) (at : ℕ → ℕ) (j : ℕ) → CoverLevels ls ks → j < length ks → writes_crd (level_at ls j).role ≡ true
    → (lists_at (all_lists_of T u ls ks n rows at) j).coordinates ≡ u.bufs ((level_at ls j).first + 1)
own-coordinates T u (l ∷ ls) (k ∷ ks) n rows at zero f lt e = ap (λ (b : Bool). cond b (u.bufs (l.first + 1)) (entries_in T.count (inside T l at) (λ x. pos (T.coord l x)) (count_below k.kind k.size n rows))) e
own-coordinates T u (l ∷ ls) (k ∷ ks) n rows at (suc j) f lt e = own-coordinates T u ls ks (count_below k.kind k.size n rows) (down k.kind k.size rows) (inside T l at) j f.1 (omega (arith, lt)) e
own-coordinates T u ls [] n rows at j f lt e = absurd (omega (arith, lt))
own-coordinates T u [] (k ∷ ks) n rows at j f lt e = absurd f

pub own-values : (T : Turns) (u : State) (ls : List LevelTree) (ks : List Level) (n : ℕ) (rows : List Row) (at : ℕ → ℕ) → CoverLevels ls ks → length ls ≡ length ks + 1 → values_of T u ls ks n rows at ≡ u.bufs ((level_at ls (length ks)).first + 1)
own-values T u (l ∷ ls) (k ∷ ks) n rows at f e = own-values T u ls ks (count_below k.kind k.size n rows) (down k.kind k.size rows) (inside T l at) f.1 (omega (arith, e))
own-values T u (l ∷ ls) [] n rows at f e = refl
own-values T u [] (k ∷ ks) n rows at f e = absurd f
own-values T u [] [] n rows at f e = absurd (omega (arith, e))
