-- All levels: the positions, and the buffers.
use Rattle.std.proofs.Common.{◌≡◌, ℕ, suc, ◌+◌, ◌*◌, ◌<◌, List, [], ◌∷◌, ◌++◌, map, length, nat_lt, sym, refl, ap, ap₂, ◌∙◌, subst, arith, ℤ, count_by}
use Rattle.std.proofs.lemmas.List.{get_or-map, length-map}
use Rattle.us_format.specs.declared.Kind.{Kind}
use Rattle.us_format.specs.declared.Kind.TheVariants.{Full, Compressed, Listed, Slot}
use Rattle.us_format.specs.Kinds.{Level}
use Rattle.us_format.specs.Lists.{head}
use Rattle.us_format.specs.Positions.{Row, nodes, place, count_below, down, moved}
use Rattle.us_format.specs.Packs as packs
use Rattle.us_format.specs.Packs.{Buffer}
use Rattle.us_format.specs.Buffers.{buffers_at, crd_buffer, level_buffers, pos_buffer}
use Rattle.us_format.proofs.Order.{Mem}
use Rattle.us_format.proofs.Members.{Mem-contains}
use Rattle.us_format.proofs.Climb.{Tells, place-bound}
use Rattle.us_build.proofs.Counts.{Mem-at}
use Rattle.us_running.specs.Running.{is_new, below}
use Rattle.us_running.proofs.Running.{below_cong}
use Rattle.us_running.proofs.Marks.{top_is}
use Rattle.us_gen_build_laws.specs.Rows.{no_row, row, NodesDiffer}
use Rattle.us_gen_build_laws.specs.Ready.{IsReady}
use Rattle.us_gen_build_laws.specs.Numbering.{Ranked, Suits, Taken, IsTaken, ArePositions, AreAt, under}
use Rattle.us_gen_build_laws.specs.Built.{Lists, lists_of, IsBuilt, all_lists}
use Rattle.us_gen_build_laws.specs.Laws.{RunningNumbersAreRanks, PositionsAreNumbered, BuffersAreBuilt}
use Rattle.us_gen_build_laws.proofs.Numbers.{number_is, nodes_are, below_is}
use Rattle.us_gen_build_laws.proofs.OneLevel.{L, seen_keys, new_keys, falls, position, counted_is, ranked_is, coordinates-are, compressed-starts, listed-starts, values-are}

-- ---- one compressed level

pub running-ranks : RunningNumbersAreRanks
running-ranks rows size at c rises ats cs less = record {
  number = λ x h. seen_keys rows size at c small ats cs (suc x) (omega (arith, h)) ∙ number_is rows rises size small x h;
  all = seen_keys rows size at c small ats cs (length rows) (omega arith) ∙ nodes_are rows rises size small;
  lower = lower_is;
  filled = λ p. top_is (is_new K) at (length rows) (falls rows size at c small ats cs rises) p ∙ lower_is p;
}
  where
    small : (x : ℕ) → x < length rows → head (row rows x).rest < size
    small x h = subst (λ (v : ℕ). v < size) (cs x h) (less x h)

    K : ℕ → ℕ
    K x = at x * size + c x

    lower_is : (p : ℕ) → below (is_new K) at (length rows) p ≡ count_by (λ m. nat_lt (head m) p) (nodes Compressed rows)
    lower_is p =
        below_cong (is_new K) (is_new (L rows size at c small ats cs)) at (λ x. (row rows x).at) (length rows) p (new_keys rows size at c small ats cs) ats
        ∙ below_is rows rises size small p

-- ---- one level as it is taken

module _ (t : Taken) (l : Level) (behind : List Level) (n : ℕ) (rows : List Row) (at : ℕ → ℕ) (ready : IsReady l behind n rows) (taken : IsTaken t l behind rows) (ats : AreAt rows at) where
  abbrev pub below-of : (r : Row) → Mem r rows → r.at < n
  below-of r m = ready.below r (Mem-contains rows r m)

  abbrev pub small-of : (r : Row) → Mem r rows → head r.rest < l.size
  small-of r m = ready.small r (Mem-contains rows r m)

  abbrev pub small-at : (x : ℕ) → x < length rows → head (row rows x).rest < l.size
  small-at x h = small-of (row rows x) (Mem-at rows x no_row h)

  abbrev pub tells : l.kind ≡ Slot → Tells rows
  tells e r s mr ms q = ready.tells e r s (Mem-contains rows r mr) (Mem-contains rows s ms) q

  pub differ : t.numbering ≡ Ranked → l.kind ≡ Compressed → NodesDiffer rows
  differ a b = ready.apart b (taken.last a b)

  pub place-is : (x : ℕ) → x < length rows → under t l.size at x ≡ place l.kind l.size rows (row rows x)
  place-is x h = position rows l.size at t.coordinate small-at ats taken.coordinates t.numbering l.kind taken.suits ready.rises ready.ascends differ x h

  pub positions-here : ArePositions t l n rows at
  positions-here = record {
    above = λ x h. subst (λ (v : ℕ). v < n) (sym (ats x h)) (below-of (row rows x) (Mem-at rows x no_row h));
    small = λ x h. subst (λ (v : ℕ). v < l.size) (sym (taken.coordinates x h)) (small-at x h);
    place = place-is;
    within = λ x h.
        subst (λ (v : ℕ). v < count_below l.kind l.size n rows) (sym (place-is x h))
        (place-bound l.kind l.size n rows (row rows x) (Mem-at rows x no_row h) (small-at x h) (below-of (row rows x) (Mem-at rows x no_row h)));
    counted = λ e. counted_is rows l.size at t.coordinate small-at ats taken.coordinates t.numbering l.kind n taken.suits ready.rises e;
    ranked = λ e. ranked_is rows l.size at t.coordinate small-at ats taken.coordinates t.numbering l.kind n taken.suits ready.rises differ e;
  }

  pub at-down : AreAt (down l.kind l.size rows) (under t l.size at)
  at-down x h =
      let g : x < length rows = omega (arith, h, length-map rows (moved l.kind l.size rows)) in
      place-is x g ∙ sym (ap (λ (r : Row). r.at) (get_or-map (moved l.kind l.size rows) rows x no_row no_row g))

  pub places : (k : Kind) → l.kind ≡ k → (x : ℕ) → x < length rows → under t l.size at x ≡ place k l.size rows (row rows x)
  places k e x h = place-is x h ∙ ap (λ (z : Kind). place z l.size rows (row rows x)) e

  -- its lists are its buffers
  pub lists-are : (k : Kind) → l.kind ≡ k → (c : Lists) (more : List (List ℤ)) (bs : List Buffer) → IsBuilt k t l.size n rows at c → more ≡ map packs.written bs
      → lists_of k c ++ more ≡ map packs.written (buffers_at k l.size n rows ++ bs)
  lists-are Full e c more bs b q = q
  lists-are Compressed e c more bs b q =
      let suits : Suits t.numbering Compressed = subst (Suits t.numbering) e taken.suits in
      let s : c.starts ≡ packs.written (pos_buffer (nodes Compressed rows) n) =
      compressed-starts rows l.size at t.coordinate small-at ats taken.coordinates t.numbering n c.starts suits (ready.rises e) (λ r. differ r e) b.0 in
      let d : c.coordinates ≡ packs.written (crd_buffer Compressed l.size n rows) =
      coordinates-are rows l.size at t.coordinate small-at ats taken.coordinates Compressed n (under t l.size at) c.coordinates (λ h. absurd cc) small-of (places Compressed e) b.1 in
      ap₂ (λ (x y : List ℤ). x ∷ y ∷ more) s d ∙ ap (λ (zs : List (List ℤ)). packs.written (pos_buffer (nodes Compressed rows) n) ∷ packs.written (crd_buffer Compressed l.size n rows) ∷ zs) q
  lists-are Listed e c more bs b q =
      let suits : Suits t.numbering Listed = subst (Suits t.numbering) e taken.suits in
      let s : c.starts ≡ packs.written (pos_buffer (nodes Listed rows) n) =
      listed-starts rows l.size at t.coordinate small-at ats taken.coordinates t.numbering n c.starts suits b.0 in
      let d : c.coordinates ≡ packs.written (crd_buffer Listed l.size n rows) =
      coordinates-are rows l.size at t.coordinate small-at ats taken.coordinates Listed n (under t l.size at) c.coordinates (λ h. absurd cc) small-of (places Listed e) b.1 in
      ap₂ (λ (x y : List ℤ). x ∷ y ∷ more) s d ∙ ap (λ (zs : List (List ℤ)). packs.written (pos_buffer (nodes Listed rows) n) ∷ packs.written (crd_buffer Listed l.size n rows) ∷ zs) q
  lists-are Slot e c more bs b q =
      let d : c.coordinates ≡ packs.written (crd_buffer Slot l.size n rows) =
      coordinates-are rows l.size at t.coordinate small-at ats taken.coordinates Slot n (under t l.size at) c.coordinates (λ h. tells e) small-of (places Slot e) b in
      ap₂ (λ (x : List ℤ) (zs : List (List ℤ)). x ∷ zs) d q

-- ---- all levels

pub positions-numbered : PositionsAreNumbered
positions-numbered [] [] n rows at ready taken ats = λ x h. (ats x h, subst (λ (v : ℕ). v < n) (sym (ats x h)) (ready.below (row rows x) (Mem-contains rows (row rows x) (Mem-at rows x no_row h))))
positions-numbered (t ∷ ts) (l ∷ ls) n rows at ready taken ats = (
  positions-here t l ls n rows at ready.0 taken.0 ats,
  positions-numbered ts ls (count_below l.kind l.size n rows) (down l.kind l.size rows) (under t l.size at) ready.1 taken.1 (at-down t l ls n rows at ready.0 taken.0 ats),
)
positions-numbered [] (l ∷ ls) n rows at ready taken ats = absurd taken
positions-numbered (t ∷ ts) [] n rows at ready taken ats = absurd taken

pub buffers-built : BuffersAreBuilt
buffers-built [] [] [] values n rows at ready taken ats b = ap (λ (v : List ℤ). v ∷ []) (values-are n rows at values ready ats b)
buffers-built (t ∷ ts) (l ∷ ls) (c ∷ cs) values n rows at ready taken ats b =
    lists-are t l ls n rows at ready.0 taken.0 ats l.kind refl c (all_lists ls cs values) (level_buffers ls (count_below l.kind l.size n rows) (down l.kind l.size rows)) b.0
    (buffers-built ts ls cs values (count_below l.kind l.size n rows) (down l.kind l.size rows) (under t l.size at) ready.1 taken.1 (at-down t l ls n rows at ready.0 taken.0 ats) b.1)
buffers-built [] [] (c ∷ cs) values n rows at ready taken ats b = absurd b
buffers-built (t ∷ ts) (l ∷ ls) [] values n rows at ready taken ats b = absurd b
buffers-built [] (l ∷ ls) cs values n rows at ready taken ats b = absurd taken
buffers-built (t ∷ ts) [] cs values n rows at ready taken ats b = absurd taken
