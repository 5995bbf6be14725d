-- What is visible behind the phases.
use Rattle.std.proofs.Common.{◌≡◌, ◌≢◌, ℕ, ◌+◌, ◌*◌, ◌<◌, ◌≤◌, ◌⊎◌, inl, inr, List, [], ◌∷◌, ◌++◌, length, Bool, true, false, not, ◌||◌, nat_eq, refl, sym, ap, ◌∙◌, subst, arith, Option}
use Rattle.us_code.specs.Plain.{LineTree}
use Rattle.us_code.specs.Typing.{Context, BufKind, Form, is_some, with_bufs, with_lines, outer, after_phase, is_listed, are_distinct, sees_all}
use Rattle.us_code.specs.Typing as form
use Rattle.us_code_laws.proofs.Sequence.{put_other}
use Rattle.us_code_laws.proofs.Sound.{both_true, and_left, and_right}
use Rattle.std.proofs.lemmas.Bool.{or_right, or_cases}
use Rattle.std.proofs.lemmas.Bool.Decides.{nat_tests}
use Rattle.us_gen_build.specs.Levels.{LevelTree}
use Rattle.us_gen_build.specs.Kinds.{NamesRise}
use Rattle.us_gen_build.specs.Making.{makes}
use Rattle.us_gen_packs.specs.Packs.{PackTree}
use Rattle.us_gen_packs.specs.Making.{pack_makes}
use Rattle.us_gen_building.specs.declared.part.PartLevel.{PartLevel}
use Rattle.us_gen_building.specs.declared.part.Descent.{Descent}
use Rattle.us_gen_building.specs.Phases as plain
use Rattle.us_gen_building.specs.Phases.{dims_from, built_from, ends_from, order_makes, counting_top, all_buffers}
use Rattle.us_gen_building.proofs.BuildingFits.{AllMade, keeps_dims, keeps_sources, made_below, all_made}
use Rattle.us_gen_building.proofs.Leaving.{SameRest, outer_rest, lines_bufs, lines_sources, lines_other, order_bufs, made_above, all_seen, Within, one_within, within_more, all_listed, not_listed, one_new, all_new}
use Rattle.us_gen_pack_building.specs.declared.part.PackRun.{PackRun}
use Rattle.us_gen_pack_building.specs.Levels.{bottom, writers, pack_lines, pack_buffers}
use Rattle.us_gen_pack_building.specs.Phases.{level_count, pack_count, packing_top, all_levels, all_packs, cell_counting_phase, packing_phase, packed_buffers}
use Rattle.us_gen_pack_building.specs.Kinds.{PackingsLeave}
use Rattle.us_gen_pack_building.proofs.Making.{packed_rise}
use Rattle.us_gen_pack_building.proofs.Fits.{bufs_behind, ArePackBuffers, packs_below, packs_above, packs_made, all_made_kept, lines_behind}

-- ---- the dims of the packs

cells_other : (rs : List PackRun) (name register : ℕ) (x : Descent) (g : Context) (d : ℕ) → (name ≤ d → name + length rs ≤ d) → (with_lines g (pack_lines (writers rs name register x))).dims d ≡ g.dims d
cells_other [] name register x g d o = refl
cells_other (r ∷ rs) name register x g d o =
    cells_other rs (name + 1) register x (form.with_form g name _) d (λ le. let z = o (omega (arith, le)) in omega (arith, z)) ∙ put_other g.dims name _ d (λ e. let z = o (omega (arith, e)) in omega (arith, z, e))

-- ---- the buffers of the packs

packs_seen : (k : Context) (ws : List PackTree) → ArePackBuffers k.bufs ws → sees_all k (pack_buffers ws) ≡ true
packs_seen k [] m = refl
packs_seen k (w ∷ ws) m = both_true _ _ (ap is_some m.0) (packs_seen k ws m.1)

packs_listed : (rs : List PackRun) (name register n : ℕ) (x : Descent) → name + length rs ≤ n → Within name n (pack_buffers (writers rs name register x))
packs_listed [] name register n x le = λ b e. absurd cc
packs_listed (r ∷ rs) name register n x le =
    one_within name n name (pack_buffers (writers rs (name + 1) register x)) (omega arith) (omega (arith, le))
    (within_more (name + 1) name n (pack_buffers (writers rs (name + 1) register x)) (omega arith) (packs_listed rs (name + 1) register n x (omega (arith, le))))

packs_new : (rs : List PackRun) (name register : ℕ) (x : Descent) → are_distinct (pack_buffers (writers rs name register x)) ≡ true
packs_new [] name register x = refl
packs_new (r ∷ rs) name register x =
    one_new (name + 1) (name + 1 + length rs) name (pack_buffers (writers rs (name + 1) register x)) (packs_listed rs (name + 1) register (name + 1 + length rs) x (omega arith)) (omega arith) (packs_new rs (name + 1) register x)

-- ---- two lists of buffers

seen_both : (k : Context) (xs ys : List ℕ) → sees_all k xs ≡ true → sees_all k ys ≡ true → sees_all k (xs ++ ys) ≡ true
seen_both k [] ys s t = t
seen_both k (a ∷ xs) ys s t = both_true _ _ (and_left (is_some (k.bufs a)) (sees_all k xs) s) (seen_both k xs ys (and_right (is_some (k.bufs a)) (sees_all k xs) s) t)

listed_both : (b : ℕ) (xs ys : List ℕ) → is_listed b (xs ++ ys) ≡ (is_listed b xs || is_listed b ys)
listed_both b [] ys = refl
listed_both b (a ∷ xs) ys = ap (λ (t : Bool). nat_eq b a || t) (listed_both b xs ys) ∙ regroup (nat_eq b a) (is_listed b xs) (is_listed b ys)
  where
    regroup : (p q r : Bool) → (p || (q || r)) ≡ ((p || q) || r)
    regroup true q r = refl
    regroup false q r = refl

both_within : (lo n : ℕ) (xs ys : List ℕ) → Within lo n xs → Within lo n ys → Within lo n (xs ++ ys)
both_within lo n xs ys v w b e = go (or_cases (is_listed b xs) (is_listed b ys) (sym (listed_both b xs ys) ∙ e))
  where
    go : (is_listed b xs ≡ true) ⊎ (is_listed b ys ≡ true) → (lo ≤ b) × (b < n)
    go (inl h) = v b h
    go (inr h) = w b h

-- lists without a common number, the first below mid and the second from there on
new_both : (lo mid n : ℕ) (xs ys : List ℕ) → Within lo mid xs → Within mid n ys → are_distinct xs ≡ true → are_distinct ys ≡ true → are_distinct (xs ++ ys) ≡ true
new_both lo mid n [] ys v w d e = e
new_both lo mid n (a ∷ xs) ys v w d e =
    let here : a < mid = (v a (self a xs)).1 in
    let off : is_listed a ys ≡ false = not_listed mid n a ys w here in
    both_true _ _ (ap not (listed_both a xs ys) ∙ (ap (λ (t : Bool). not (is_listed a xs || t)) off ∙ (plain_or (is_listed a xs) ∙ and_left (not (is_listed a xs)) (are_distinct xs) d)))
    (new_both lo mid n xs ys (λ b h. v b (later b a xs h)) w (and_right (not (is_listed a xs)) (are_distinct xs) d) e)
  where
    same_self : (b : ℕ) → nat_eq b b ≡ true
    same_self b = grind (arith, nat_tests)

    self : (b : ℕ) (zs : List ℕ) → is_listed b (b ∷ zs) ≡ true
    self b zs = ap (λ (t : Bool). t || is_listed b zs) (same_self b)

    later : (b c : ℕ) (zs : List ℕ) → is_listed b zs ≡ true → is_listed b (c ∷ zs) ≡ true
    later b c zs h = or_right (nat_eq b c) (is_listed b zs) h

    plain_or : (t : Bool) → not (t || false) ≡ not t
    plain_or true = refl
    plain_or false = refl

-- ---- the phases

pub packings_leave : PackingsLeave
packings_leave g x f r =
    let n : ℕ = level_count x in
    let P : ℕ = pack_count x in
    let lo : ℕ = built_from f n in
    let mid : ℕ = ends_from f n in
    let ls : List PartLevel = x.part.levels.items in
    let rs : List PackRun = x.packs.items in
    let top : Descent = packing_top x f in
    let below : Descent = bottom x.part.count ls top in
    let trees : List LevelTree = all_levels x f in
    let ws : List PackTree = all_packs x f in
    let front : List LineTree = (plain.counting_phase x.part f).lines in
    let p : Context = with_bufs g (order_makes x.part.keys f x.part.count) in
    let q : Context = outer p (cell_counting_phase x f).body in
    let h : Context = after_phase g (cell_counting_phase x f) in
    let lines : with_lines q (cell_counting_phase x f).lines ≡ with_lines (with_lines q front) (pack_lines ws) = lines_behind front (pack_lines ws) q in
    let u : Context = with_bufs h (makes trees) in
    let v : Context = with_bufs u (pack_makes ws) in
    let k : Context = after_phase h (packing_phase x f) in
    let rise : NamesRise lo trees mid = packed_rise x.part.count rs 0 ls top mid (omega arith) in
    let sp : SameRest p q = outer_rest p (cell_counting_phase x f).body in
    let made : with_bufs h (packing_phase x f).makes ≡ v = bufs_behind (makes trees) (pack_makes ws) h in
    let sk = outer_rest (with_bufs h (packing_phase x f).makes) (packing_phase x f).body in
    let bufs_h : (b : ℕ) → f ≢ b → h.bufs b ≡ g.bufs b = λ b ne. ap (λ (y : ℕ → Option BufKind). y b) (lines_bufs (cell_counting_phase x f).lines q ∙ sp.bufs) ∙ order_bufs g x.part.keys f x.part.count b ne in
    let dims_h : (d : ℕ) → (dims_from f n ≤ d → dims_from f n + 2 * n ≤ d) → (mid ≤ d → mid + P ≤ d) → h.dims d ≡ g.dims d =
    λ d o e. ap (λ (y : Context). y.dims d) lines
    ∙ (cells_other rs mid top.register below (with_lines q front) d e
    ∙ (lines_other x.part.count ls (counting_top x.part f) d q o ∙ ap (λ (y : ℕ → Option Form). y d) (sp.dims ∙ keeps_dims (order_makes x.part.keys f x.part.count) g))) in
    let dims_k : (d : ℕ) → k.dims d ≡ h.dims d = λ d. ap (λ (y : ℕ → Option Form). y d) (sk.dims ∙ keeps_dims (packing_phase x f).makes h) in
    let bufs_k : k.bufs ≡ v.bufs = sk.bufs ∙ ap (λ (y : Context). y.bufs) made in
    let at_k : (b : ℕ) → k.bufs b ≡ v.bufs b = λ b. ap (λ (y : ℕ → Option BufKind). y b) bufs_k in
    let own : AllMade trees v.bufs = all_made_kept trees u.bufs v.bufs lo mid rise (λ b lt. packs_below rs mid top.register below u b lt) (all_made trees lo mid h rise) in
    let levels_in : Within lo mid (all_buffers trees) = all_listed trees lo mid rise in
    let packs_in : Within mid (mid + P) (pack_buffers ws) = packs_listed rs mid top.register (mid + P) below (omega arith) in
    let all_in : Within lo (mid + P) (packed_buffers x f) =
    both_within lo (mid + P) (all_buffers trees) (pack_buffers ws) (λ b e. let z = levels_in b e in (z.0, omega (arith, z.1))) (within_more mid lo (mid + P) (pack_buffers ws) (omega arith) packs_in) in
    record {
      free = record {
        regs = record { none = λ y le. refl };
        bufs = λ b le. at_k b ∙ (packs_above rs mid top.register below u b (omega (arith, le)) ∙ (made_above trees lo mid h b rise (omega (arith, le)) ∙ (bufs_h b (λ s. omega (arith, s, le)) ∙ r.bufs b (omega (arith, le)))));
        dims = λ d le. dims_k d ∙ (dims_h d (λ s. omega (arith, le)) (λ s. omega (arith, le)) ∙ r.dims d (omega (arith, le)));
      };
      sources = sk.sources ∙ (keeps_sources (packing_phase x f).makes h ∙ (lines_sources (cell_counting_phase x f).lines q ∙ (sp.sources ∙ keeps_sources (order_makes x.part.keys f x.part.count) g)));
      bufs = λ b lt. at_k b ∙ (packs_below rs mid top.register below u b (omega (arith, lt)) ∙ (made_below trees lo mid h b rise (omega (arith, lt)) ∙ bufs_h b (λ s. omega (arith, s, lt))));
      dims = λ d lt. dims_k d ∙ dims_h d (λ s. absurd (omega (arith, s, lt))) (λ s. absurd (omega (arith, s, lt)));
      buffers = seen_both k (all_buffers trees) (pack_buffers ws) (all_seen k trees (subst (λ (y : ℕ → Option BufKind). AllMade trees y) (sym bufs_k) own)) (packs_seen k ws (subst (λ (y : ℕ → Option BufKind). ArePackBuffers y ws) (sym bufs_k) (packs_made rs mid top.register below u)));
      once = new_both lo mid (mid + P) (all_buffers trees) (pack_buffers ws) levels_in packs_in (all_new trees lo mid rise) (packs_new rs mid top.register below);
      own = λ b s. let z = all_in b s in (omega (arith, z.0), omega (arith, z.1));
    }
