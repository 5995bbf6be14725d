-- One level: positions, coordinates and starts are those of the definition.
use Rattle.std.proofs.Common.{◌≡◌, ℕ, zero, suc, ◌+◌, ◌-◌, ◌*◌, ◌<◌, ◌≤◌, List, length, Bool, true, false, not, nat_eq, nat_lt, sym, refl, ap, ap₂, ◌∙◌, arith, ℤ, pos, count_by}
use Rattle.std.proofs.lemmas.Bool.Decides.{nat_tests}
use Rattle.std.proofs.lemmas.List.{length-map}
use Rattle.std.proofs.lemmas.List.FromFn.{fill_by_all}
use Rattle.us_format.specs.declared.Kind.{Kind}
use Rattle.us_format.specs.declared.Kind.TheVariants.{Full, Compressed, Listed, Slot}
use Rattle.us_format.specs.Lists.{head}
use Rattle.us_format.specs.Positions.{Row, node_of, nodes, place, count_below}
use Rattle.us_format.specs.Buffers.{cell_of, pos_buffer, crd_buffer, val_buffer}
use Rattle.us_format.specs.Packs as packs
use Rattle.us_format.proofs.Order.{Mem}
use Rattle.us_format.proofs.Members.{Mem-contains}
use Rattle.us_format.proofs.Climb.{Tells, same_place}
use Rattle.us_build.specs.Items.{IsAscending}
use Rattle.us_build.proofs.Ranks.{listed-place}
use Rattle.us_running.specs.Running.{is_new, seen, below}
use Rattle.us_running.specs.Laws.{DoNotFall}
use Rattle.us_running.proofs.Running.{new_cong, seen_cong, below_cong, all-numbered}
use Rattle.us_gen_build_laws.specs.Rows.{no_row, row, NodesRise, NodesDiffer}
use Rattle.us_gen_build_laws.specs.Ready.{IsAtEnd}
use Rattle.us_gen_build_laws.specs.Numbering.{Numbering, Computed, Counted, Ranked, Kept, Suits, numbered, opens, AreAt}
use Rattle.us_gen_build_laws.specs.Built.{AreWritten, AreStarts}
use Rattle.us_gen_build_laws.proofs.Rising.{at_rises}
use Rattle.us_gen_build_laws.proofs.Numbers.{keys, one_node, place_is, nodes_are, below_is, listed_below}
use Rattle.us_gen_build_laws.proofs.Cells.{written_is}

-- ---- cells

-- cells that the entries write are those of the definition
pub cells-are : (rows : List Row) (at : Row → ℕ) (f : Row → ℤ) (place : ℕ → ℕ) (value : ℕ → ℤ) (m : ℕ) (cells : List ℤ) → ((x : ℕ) → x < length rows → place x ≡ at (row rows x)) → ((x : ℕ) → x < length rows → value x ≡ f (row rows x))
    → ((r s : Row) → Mem r rows → Mem s rows → at r ≡ at s → f r ≡ f s) → AreWritten (length rows) place value m cells → cells ≡ packs.written (record { len = m; cell = λ y. cell_of at f rows y })
cells-are rows at f place value m cells places values alike w =
    fill_by_all (cell_of at f rows) cells m (pos 0) w.table.long
    (λ y h. w.table.each y h
    ∙ written_is rows at f w.writes w.to w.what (λ x g. w.places x g ∙ places x g) (λ x g. w.values x g ∙ values x g) alike w.first
    (λ x g z. w.places x (omega arith) ∙ (w.skips x g z ∙ sym (w.places (suc x) g))) y)

pub values-are : (n : ℕ) (rows : List Row) (at : ℕ → ℕ) (values : List ℤ) → IsAtEnd n rows → AreAt rows at → AreWritten (length rows) at (λ x. (row rows x).value) n values → values ≡ packs.written (val_buffer n rows)
values-are n rows at values end ats w =
    cells-are rows (λ r. r.at) (λ r. r.value) at (λ x. (row rows x).value) n values ats (λ x g. refl) (λ r s mr ms e. end.alike r s (Mem-contains rows r mr) (Mem-contains rows s ms) e) w

-- ---- starts

pub starts-from : (ns : List (List ℕ)) (n count : ℕ) (new : ℕ → Bool) (at : ℕ → ℕ) (cells : List ℤ) → ((p : ℕ) → below new at count p ≡ count_by (λ m. nat_lt (head m) p) ns)
    → AreStarts count new at n cells → cells ≡ packs.written (pos_buffer ns n)
starts-from ns n count new at cells lower t =
    fill_by_all (λ x. pos (count_by (λ m. nat_lt (head m) x) ns)) cells (n + 1) (pos 0) t.long (λ y h. t.each y h ∙ ap pos (lower y))

-- ---- rows in order, as the loop sees them

module _ (rows : List Row) (size : ℕ) (at c : ℕ → ℕ) (small : (x : ℕ) → x < length rows → head (row rows x).rest < size) (ats : AreAt rows at) (cs : (x : ℕ) → x < length rows → c x ≡ head (row rows x).rest) where
  abbrev pub K : ℕ → ℕ
  K x = at x * size + c x

  abbrev pub L : ℕ → ℕ
  L = keys rows size

  abbrev A : ℕ → ℕ
  A x = (row rows x).at

  pub same_keys : (x : ℕ) → x < length rows → K x ≡ L x
  same_keys x h = ap₂ (λ (a b : ℕ). a * size + b) (ats x h) (cs x h)

  pub new_keys : (x : ℕ) → x < length rows → is_new K x ≡ is_new L x
  new_keys x h = new_cong K L x (length rows) same_keys h

  pub seen_keys : (x : ℕ) → x ≤ length rows → seen K x ≡ seen L x
  seen_keys x h = seen_cong K L x (λ y g. same_keys y (omega (arith, g, h)))

  pub falls : NodesRise rows → DoNotFall at (length rows)
  falls rises i j le h = omega (arith, ats i (omega (arith, le, h)), ats j h, at_rises rows rises i j le h)

  -- ---- each row a node of its own

  new_at : NodesRise rows → NodesDiffer rows → (x : ℕ) → suc x ≤ length rows → is_new L x ≡ true
  new_at rises differ zero h = refl
  new_at rises differ (suc x) h = case (nat_eq (L (suc x)) (L x)) refl
    where
      case : (b : Bool) → nat_eq (L (suc x)) (L x) ≡ b → not (nat_eq (L (suc x)) (L x)) ≡ true
      case false e = ap not e
      case true e =
          let k : L x ≡ L (suc x) = grind (arith, nat_tests) in
          absurd (differ x (omega (arith, h)) (one_node rows rises size small x (suc x) (omega (arith, h)) (omega (arith, h)) k))

  pub new_here : NodesRise rows → NodesDiffer rows → (x : ℕ) → x < length rows → is_new K x ≡ true
  new_here rises differ x h = new_keys x h ∙ new_at rises differ x (omega (arith, h))

  all_new : NodesRise rows → NodesDiffer rows → (x : ℕ) → x ≤ length rows → seen L x ≡ x
  all_new rises differ x h = all-numbered (is_new L) (length rows) (λ y g. new_at rises differ y (omega (arith, g))) x h

  -- ---- positions

  pub position : (r : Numbering) (k : Kind) → Suits r k → (k ≡ Compressed → NodesRise rows) → (k ≡ Listed → IsAscending rows) → (r ≡ Ranked → k ≡ Compressed → NodesDiffer rows)
      → (x : ℕ) → x < length rows → numbered r size at c x ≡ place k size rows (row rows x)
  position Computed Full p rises up differ x h = same_keys x h
  position Counted Compressed p rises up differ x h = ap (λ (v : ℕ). v - 1) (seen_keys (suc x) (omega (arith, h))) ∙ place_is rows (rises refl) size small x h
  position Ranked Compressed p rises up differ x h = omega (arith, all_new (rises refl) (differ refl refl) (suc x) (omega (arith, h)), place_is rows (rises refl) size small x h)
  position Ranked Listed p rises up differ x h = sym (listed-place rows x no_row (up refl) h)
  position Kept Slot p rises up differ x h = ats x h
  position _ _ p rises up differ x h = absurd p

  pub counted_is : (r : Numbering) (k : Kind) (n : ℕ) → Suits r k → (k ≡ Compressed → NodesRise rows) → r ≡ Counted → seen K (length rows) ≡ count_below k size n rows
  counted_is Counted Compressed n p rises e = seen_keys (length rows) (omega arith) ∙ nodes_are rows (rises refl) size small
  counted_is Computed Full n p rises e = absurd cc
  counted_is Ranked Compressed n p rises e = absurd cc
  counted_is Ranked Listed n p rises e = absurd cc
  counted_is Kept Slot n p rises e = absurd cc
  counted_is _ _ n p rises e = absurd p

  pub ranked_is : (r : Numbering) (k : Kind) (n : ℕ) → Suits r k → (k ≡ Compressed → NodesRise rows) → (r ≡ Ranked → k ≡ Compressed → NodesDiffer rows) → r ≡ Ranked → length rows ≡ count_below k size n rows
  ranked_is Ranked Compressed n p rises differ e = sym (all_new (rises refl) (differ refl refl) (length rows) (omega arith)) ∙ nodes_are rows (rises refl) size small
  ranked_is Ranked Listed n p rises differ e = sym (length-map rows (node_of Listed))
  ranked_is Computed Full n p rises differ e = absurd cc
  ranked_is Counted Compressed n p rises differ e = absurd cc
  ranked_is Kept Slot n p rises differ e = absurd cc
  ranked_is _ _ n p rises differ e = absurd p

  -- ---- coordinates

  pub coordinates-are : (k : Kind) (n : ℕ) (under : ℕ → ℕ) (cells : List ℤ) → (k ≡ Slot → Tells rows) → ((r : Row) → Mem r rows → head r.rest < size) → ((x : ℕ) → x < length rows → under x ≡ place k size rows (row rows x))
      → AreWritten (length rows) under (λ x. pos (c x)) (count_below k size n rows) cells → cells ≡ packs.written (crd_buffer k size n rows)
  coordinates-are k n under cells tells few places w =
      cells-are rows (place k size rows) (λ r. pos (head r.rest)) under (λ x. pos (c x)) (count_below k size n rows) cells places (λ x g. ap pos (cs x g))
      (λ r s mr ms q. ap pos (same_place k size rows r s tells mr ms (few r mr) (few s ms) q).1) w

  -- ---- starts of a level with nodes

  pub compressed-starts : (r : Numbering) (n : ℕ) (cells : List ℤ) → Suits r Compressed → NodesRise rows → (r ≡ Ranked → NodesDiffer rows)
      → AreStarts (length rows) (opens r K) at n cells → cells ≡ packs.written (pos_buffer (nodes Compressed rows) n)
  compressed-starts Counted n cells p rises differ w =
      starts-from (nodes Compressed rows) n (length rows) (is_new K) at cells
      (λ q. below_cong (is_new K) (is_new L) at A (length rows) q new_keys ats ∙ below_is rows rises size small q) w
  compressed-starts Ranked n cells p rises differ w =
      starts-from (nodes Compressed rows) n (length rows) (λ x. true) at cells
      (λ q. below_cong (λ x. true) (is_new L) at A (length rows) q (λ x h. sym (new_at rises (differ refl) x (omega (arith, h)))) ats ∙ below_is rows rises size small q) w
  compressed-starts _ n cells p rises differ w = absurd p

  pub listed-starts : (r : Numbering) (n : ℕ) (cells : List ℤ) → Suits r Listed → AreStarts (length rows) (opens r K) at n cells → cells ≡ packs.written (pos_buffer (nodes Listed rows) n)
  listed-starts Ranked n cells p w =
      starts-from (nodes Listed rows) n (length rows) (λ x. true) at cells (λ q. below_cong (λ x. true) (λ x. true) at A (length rows) q (λ x h. refl) ats ∙ listed_below rows q) w
  listed-starts _ n cells p w = absurd p
