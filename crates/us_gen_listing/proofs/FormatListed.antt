-- Both phases list the entries of a matrix.
use Rattle.std.proofs.Common.{◌≡◌, ℕ, ◌+◌, ◌*◌, ◌^◌, ◌<◌, ◌≤◌, List, [], ◌∷◌, map, length, refl, sym, ap, subst, ◌∙◌, inr, arith, zero-add, All, mul-le-mul_right, ℤ, sum_by}
use Rattle.std.specs.Prelude.{None}
use Rattle.std.proofs.lemmas.List.Sums.{sum_by-cons}
use Rattle.us_format.specs.Lists.{nth}
use Rattle.us_format.specs.Matrix.{Shape, Entry, IsMatrixOf}
use Rattle.us_format.specs.Declaration.{Part}
use Rattle.us_format.specs.Queries.{extents_of}
use Rattle.us_format.specs.Buffers.{holds, parts_of, buffers, size}
use Rattle.us_format.specs.Reading.{limit}
use Rattle.us_format.specs.Rules.{ArePacksLawful, IsLawfulDeclaration}
use Rattle.us_format.proofs.Members.{Mem-all}
use Rattle.us_format.proofs.Order.{Mem, Mem-map}
use Rattle.us_format.proofs.Shares.{shares-parts}
use Rattle.us_format_loops.proofs.Parts.{parts-share-entries}
use Rattle.us_decl.specs.Declares.{Declared, IsValid}
use Rattle.us_judge.specs.Acceptance.{first_refusal}
use Rattle.us_judge.specs.Views.{declaration_of}
use Rattle.us_judge.proofs.LawfulDeclarations.{accepted-declaration}
use Rattle.us_judge.proofs.Valid.{queries-valid}
use Rattle.us_code.specs.declared.pieces.Columns.{Columns}
use Rattle.us_code.specs.Run.{Env}
use Rattle.us_code.specs.Runs.{World, Ran, phases}
use Rattle.us_gen.specs.Goes.{Keeps, Leads}
use Rattle.us_gen.proofs.Going.{leads_both, leads_weaker}
use Rattle.us_gen_places.specs.declared.start.PartStart.{PartStart}
use Rattle.us_gen_places.specs.Holds.{HoldParts}
use Rattle.us_gen_places.specs.Dims.{next_start}
use Rattle.us_gen_places.proofs.Sharing.{buffers-are-of-parts}
use Rattle.us_gen_unpack.specs.declared.listing.PartWalk.{PartWalk}
use Rattle.us_gen_unpack.specs.Listing.{listing_phase}
use Rattle.us_gen_unpack.specs.Runs.{Listed, AreListable, AreApart, AllStand, HoldParts as HoldListed, list_cost, total}
use Rattle.us_gen_unpack.proofs.ListingRuns.{listing_lists}
use Rattle.us_gen_opening.specs.declared.parts.Opening.{Opening}
use Rattle.us_gen_opening.specs.Dims.{AreNew, DimsAre}
use Rattle.us_gen_opening.specs.Opening.{opening_phase, all_lines}
use Rattle.us_gen_opening.specs.Runs.{Opened, openings, listeds, AreOpenable, open_cost, Opens}
use Rattle.us_gen_opening.specs.Sources.{paired, ArePlaced, parts, with_entries}
use Rattle.us_gen_opening.specs.Tells.{AreOpeningsOf}
use Rattle.us_gen_opening.specs.Unpacking.{unpacking}
use Rattle.us_gen_opening.proofs.OpeningRuns.{opening_opens}
use Rattle.us_gen_opening.proofs.PartDims.{openings_tell}
use Rattle.us_gen_opening.proofs.PartSources.{openings_stand}
use Rattle.us_gen_parts.specs.Walks.{AreWalksOf, AreListed, listed}
use Rattle.us_gen_parts.proofs.EntriesFew.{all-few, part-few}
use Rattle.us_gen_parts.proofs.Listable.{walks-list}
use Rattle.us_gen_listing.specs.Unpack.{start_at, PartsStand, HoldsEntries, level_count, query_count, FormatIsListed}
use Rattle.us_gen_listing.proofs.AllCosts.{weight, IsGood, parts-good, lists-few, dims-all, weight-is}
use Rattle.us_gen_listing.proofs.Extents.{extents-few}

-- ---- lists of parts

abbrev of_parts : List (Part × List Entry) → List Part
of_parts ys = map (λ (y : Part × List Entry). y.0) ys

parts_listed : (a : PartStart) (s : Shape) (xs : List PartWalk) (ys : List (Part × List Entry)) → AreWalksOf a s (of_parts ys) xs → parts (listed xs ys) ≡ of_parts ys
parts_listed a s [] [] w = refl
parts_listed a s (x ∷ xs) [] w = absurd w
parts_listed a s [] (y ∷ ys) w = absurd w
parts_listed a s (x ∷ xs) (y ∷ ys) w = ap (λ (ps : List Part). y.0 ∷ ps) (parts_listed (next_start a y.0) s xs ys w.1)

entries_listed : (a : PartStart) (s : Shape) (xs : List PartWalk) (ys : List (Part × List Entry)) → AreWalksOf a s (of_parts ys) xs → with_entries (listed xs ys) ≡ ys
entries_listed a s [] [] w = refl
entries_listed a s (x ∷ xs) [] w = absurd w
entries_listed a s [] (y ∷ ys) w = absurd w
entries_listed a s (x ∷ xs) (y ∷ ys) w = ap (λ (zs : List (Part × List Entry)). y ∷ zs) (entries_listed (next_start a y.0) s xs ys w.1)

placed : (a : PartStart) (s : Shape) (xs : List PartWalk) (ys : List (Part × List Entry)) → AreWalksOf a s (of_parts ys) xs → ArePlaced a s (listed xs ys)
placed a s [] [] w = tt
placed a s (x ∷ xs) [] w = absurd w
placed a s [] (y ∷ ys) w = absurd w
placed a s (x ∷ xs) (y ∷ ys) w = (w.0.places, placed (next_start a y.0) s xs ys w.1)

stands : (a : PartStart) (s : Shape) (xs : List PartWalk) (ys : List (Part × List Entry)) (at : ℕ) (is js vs : List ℤ) → AreWalksOf a s (of_parts ys) xs → AllStand s (listed xs ys) at is js vs → PartsStand s ys at is js vs
stands a s [] [] at is js vs w h = tt
stands a s (x ∷ xs) [] at is js vs w h = absurd w
stands a s [] (y ∷ ys) at is js vs w h = absurd w
stands a s (x ∷ xs) (y ∷ ys) at is js vs w h = (
  record { row = h.0.row; col = h.0.col; value = h.0.value },
  stands (next_start a y.0) s xs ys (at + length y.1) is js vs w.1 h.1,
)

cheaper : (low m n : ℕ) (w : World) (r : Ran) (Q : World → Type 0) → m ≤ n → Leads low m w r Q → Leads low n w r Q
cheaper low m n w r Q le x = record { end = x.end; arrives = record { is = x.arrives.is; steps = omega (arith, x.arrives.steps, le); keeps = x.arrives.keeps }; post = x.post }

bound : (dims steps weight more T : ℕ) → dims ≤ 1 + 9 * (weight * T) → steps ≤ 51 * (weight * T) → weight ≤ more → 1 ≤ T → dims + (4 + steps) ≤ 64 * ((1 + more) * T)
bound dims steps weight more T a b c t =
    let most : weight * T ≤ more * T = mul-le-mul_right T c in
    omega (arith, a, b, most, t)

module _ (w : World) (s : Shape) (d : Declared) (m : List Entry) (c : Columns) (first n k low : ℕ) (os : List Opening) (xs : List PartWalk) (valid : IsValid d) (kept : first_refusal (declaration_of d) ≡ None) (im : IsMatrixOf s m)
    (rows : s.rows < 2 ^ 31) (cols : s.cols < 2 ^ 31) (within : size s (declaration_of d) m ≤ limit) (walks : AreWalksOf (start_at first) s (declaration_of d).parts xs) (opens : AreOpeningsOf (start_at first) s (declaration_of d).parts os)
    (sources : (j : ℕ) → j < length (buffers s (declaration_of d) m) → w.env.sources j ≡ nth (buffers s (declaration_of d) m) j) (short : (j : ℕ) → length (w.env.sources j) < 2 ^ 63) where
  abbrev ys : List (Part × List Entry)
  ys = parts_of s (declaration_of d) m

  abbrev ls : List Listed
  ls = listed xs (parts_of s (declaration_of d) m)

  abbrev both : List Opened
  both = paired os (listed xs (parts_of s (declaration_of d) m))

  law : IsLawfulDeclaration (declaration_of d)
  law = accepted-declaration d valid kept

  parts_are : of_parts (parts_of s (declaration_of d) m) ≡ (declaration_of d).parts
  parts_are = shares-parts (holds m s (declaration_of d)) (declaration_of d).conds (declaration_of d).parts m law.one_more

  walks_of : AreWalksOf (start_at first) s (of_parts (parts_of s (declaration_of d) m)) xs
  walks_of = subst (λ (ps : List Part). AreWalksOf (start_at first) s ps xs) (sym parts_are) walks

  opens_of : AreOpeningsOf (start_at first) s (of_parts (parts_of s (declaration_of d) m)) os
  opens_of = subst (λ (ps : List Part). AreOpeningsOf (start_at first) s ps os) (sym parts_are) opens

  opens_listed : AreOpeningsOf (start_at first) s (parts (listed xs (parts_of s (declaration_of d) m))) os
  opens_listed = subst (λ (ps : List Part). AreOpeningsOf (start_at first) s ps os) (sym (parts_listed (start_at first) s xs (parts_of s (declaration_of d) m) walks_of)) opens_of

  there : (env : Env) → env.sources ≡ w.env.sources → (j : ℕ) → j < length (buffers s (declaration_of d) m) → env.sources (0 + j) ≡ nth (buffers s (declaration_of d) m) j
  there env e j l = ap (λ (f : ℕ → List ℤ). f (0 + j)) e ∙ ap w.env.sources (zero-add j) ∙ sources j l

  held : (env : Env) → env.sources ≡ w.env.sources → HoldParts env 0 s (parts_of s (declaration_of d) m)
  held env e = buffers-are-of-parts env 0 s (declaration_of d) m law im (there env e)

  good : (y : Part × List Entry) → Mem y (parts_of s (declaration_of d) m) → IsGood s y (size s (declaration_of d) m)
  good = parts-good s d m valid kept im

  listed_from : (z : Listed) → Mem z (listed xs (parts_of s (declaration_of d) m)) → Mem {A = Part × List Entry} (z.part, z.entries) (parts_of s (declaration_of d) m)
  listed_from z i =
      subst (λ (zs : List (Part × List Entry)). Mem {A = Part × List Entry} (z.part, z.entries) zs) (entries_listed (start_at first) s xs (parts_of s (declaration_of d) m) walks_of)
      (Mem-map {B = Part × List Entry} (λ (x : Listed). (x.part, x.entries)) z (listed xs (parts_of s (declaration_of d) m)) i)

  ready : (env : Env) → env.sources ≡ w.env.sources → DimsAre env os → AreListed env s xs (parts_of s (declaration_of d) m) (length m)
  ready env e dims =
      walks-list env (start_at first) s d m xs valid kept im rows cols within walks (there env e) (λ j. subst (λ (f : ℕ → List ℤ). length (f j) < 2 ^ 63) (sym e) (short j))
      (openings_tell.dims env (start_at first) s (parts_of s (declaration_of d) m) os opens_of (Mem-all (λ (y : Part × List Entry). ArePacksLawful y.0) (parts_of s (declaration_of d) m) (λ y i. (good y i).packs)) (held env e) dims)

  openable : AreOpenable w.env both
  openable =
      openings_stand.openable w.env (start_at first) s ls os opens_listed (placed (start_at first) s xs (parts_of s (declaration_of d) m) walks_of)
      (Mem-all (λ (x : Listed). ArePacksLawful x.part) (listed xs (parts_of s (declaration_of d) m)) (λ z i. (good (z.part, z.entries) (listed_from z i)).packs))
      (subst (λ (zs : List (Part × List Entry)). HoldParts w.env 0 s zs) (sym (entries_listed (start_at first) s xs (parts_of s (declaration_of d) m) walks_of)) (held w.env refl))
      (Mem-all (λ (x : Listed). All (λ n. n ≤ limit) (extents_of x.entries s x.part)) (listed xs (parts_of s (declaration_of d) m))
      (λ z i.
      let g = good (z.part, z.entries) (listed_from z i) in
      extents-few s z.part z.entries g.lawful (part-few s (declaration_of d) m law im within (z.part, z.entries) (listed_from z i)) (omega (arith, g.within, within))))

  openings_are : openings both ≡ os
  openings_are = openings_stand.openings_are (start_at first) s ls os opens_listed

  listeds_are : listeds both ≡ ls
  listeds_are = openings_stand.listeds_are (start_at first) s ls os opens_listed

  listable : (env : Env) → env.sources ≡ w.env.sources → DimsAre env (openings both) → AreListable env s (listeds both)
  listable env e dims = subst (λ (zs : List Listed). AreListable env s zs) (sym listeds_are) (ready env e (subst (λ (zs : List Opening). DimsAre env zs) openings_are dims)).listable

  total_is : total (listeds both) ≡ length m
  total_is = ap total listeds_are ∙ total_listed
    where
      sums : (a : PartStart) (us : List PartWalk) (zs : List (Part × List Entry)) → AreWalksOf a s (of_parts zs) us → total (listed us zs) ≡ sum_by (λ (y : Part × List Entry). length y.1) zs
      sums a [] [] v = refl
      sums a (u ∷ us) [] v = absurd v
      sums a [] (z ∷ zs) v = absurd v
      sums a (u ∷ us) (z ∷ zs) v = ap (λ n. length z.1 + n) (sums (next_start a z.0) us zs v.1) ∙ sym (sum_by-cons (λ (y : Part × List Entry). length y.1) z zs)

      total_listed : total (listed xs (parts_of s (declaration_of d) m)) ≡ length m
      total_listed = sums (start_at first) xs (parts_of s (declaration_of d) m) walks_of ∙ (parts-share-entries s (declaration_of d) m law im).number

  abbrev steps : ℕ
  steps = 51 * (weight (of_parts (parts_of s (declaration_of d) m)) * (size s (declaration_of d) m + 1))

  listing_few : (env : Env) → AreListable env s (listeds both) → list_cost env s (listeds both) ≤ steps
  listing_few env h =
      subst (λ (zs : List Listed). list_cost env s zs ≤ 51 * (weight (of_parts (parts_of s (declaration_of d) m)) * (size s (declaration_of d) m + 1))) (sym listeds_are)
      (lists-few s d m valid kept im env (start_at first) xs (parts_of s (declaration_of d) m) (λ y i. i) walks_of (subst (λ (zs : List Listed). AreListable env s zs) listeds_are h))

  opening_few : open_cost w.env s both ≤ 1 + 9 * (weight (of_parts (parts_of s (declaration_of d) m)) * (size s (declaration_of d) m + 1))
  opening_few = dims-all s d m valid kept im w.env (start_at first) os xs (parts_of s (declaration_of d) m) (λ y i. i) walks_of opens_of (held w.env refl)

  module _ (apart : AreApart c) (new : AreNew low (all_lines c.count n os)) (lower : low ≤ c.count + 1) (ci : c.count < c.i) (cj : c.count < c.j) (cv : c.count < c.v) where
    holds_entries : (u v : World) → u.env.dims c.count ≡ total (listeds both) → HoldListed s (listeds both) (v.bufs c.i) (v.bufs c.j) (v.bufs c.v) → Keeps (c.count + 1) u v → HoldsEntries s (declaration_of d) m c v
    holds_entries u v counted h keeps = record {
      count = keeps.dims c.count (omega arith) ∙ counted ∙ total_is;
      rows = h.rows ∙ total_is;
      cols = h.cols ∙ total_is;
      values = h.values ∙ total_is;
      stand =
          stands (start_at first) s xs (parts_of s (declaration_of d) m) 0 (v.bufs c.i) (v.bufs c.j) (v.bufs c.v) walks_of
          (subst (λ (zs : List Listed). AllStand s zs 0 (v.bufs c.i) (v.bufs c.j) (v.bufs c.v)) listeds_are h.stand);
    }

    phases_lead : Leads low (open_cost w.env s both + (4 + steps)) w
        (phases (opening_phase c.count n (openings both) ∷ (listing_phase c k (map (λ (x : Listed). x.loops) (listeds both)) ∷ [])) w) (HoldsEntries s (declaration_of d) m c)
    phases_lead =
        leads_both low (c.count + 1) (open_cost w.env s both) (4 + steps) (opening_phase c.count n (openings both) ∷ []) (listing_phase c k (map (λ (x : Listed). x.loops) (listeds both)) ∷ []) w
        (Opens w s both c.count) (HoldsEntries s (declaration_of d) m c) lower
        (opening_opens w s both c.count n low openable listable (subst (λ (zs : List Opening). AreNew low (all_lines c.count n zs)) (sym openings_are) new) few)
        (λ u o keeps.
        cheaper (c.count + 1) (4 + list_cost u.env s (listeds both)) (4 + steps) u (phases (listing_phase c k (map (λ (x : Listed). x.loops) (listeds both)) ∷ []) u) (HoldsEntries s (declaration_of d) m c)
        (omega (arith, listing_few u.env o.listable))
        (leads_weaker (c.count + 1) (4 + list_cost u.env s (listeds both)) u (phases (listing_phase c k (map (λ (x : Listed). x.loops) (listeds both)) ∷ []) u)
        (λ v. HoldListed s (listeds both) (v.bufs c.i) (v.bufs c.j) (v.bufs c.v)) (HoldsEntries s (declaration_of d) m c) (λ v h kept_too. holds_entries u v o.counted h kept_too)
        (listing_lists u s (listeds both) c k (c.count + 1) o.listable apart (omega (arith, ci)) (omega (arith, cj)) (omega (arith, cv)) o.counted few)))
      where
        few : total (listeds both) ≤ limit
        few = omega (arith, total_is, all-few s (declaration_of d) m law im within)

    loops_are : map (λ (x : Listed). x.loops) (listeds both) ≡ xs
    loops_are = ap (λ (zs : List Listed). map (λ (x : Listed). x.loops) zs) listeds_are ∙ same (start_at first) xs (parts_of s (declaration_of d) m) walks_of
      where
        same : (a : PartStart) (us : List PartWalk) (zs : List (Part × List Entry)) → AreWalksOf a s (of_parts zs) us → map (λ (x : Listed). x.loops) (listed us zs) ≡ us
        same a [] [] v = refl
        same a (u ∷ us) [] v = absurd v
        same a [] (z ∷ zs) v = absurd v
        same a (u ∷ us) (z ∷ zs) v = ap (λ (ts : List PartWalk). u ∷ ts) (same (next_start a z.0) us zs v.1)

    pub all-lead : Leads low (64 * ((1 + level_count (declaration_of d) + query_count (declaration_of d)) * (size s (declaration_of d) m + 1))) w (phases (unpacking c n k os xs) w) (HoldsEntries s (declaration_of d) m c)
    all-lead =
        let grouped : 1 + (level_count (declaration_of d) + query_count (declaration_of d)) ≡ 1 + level_count (declaration_of d) + query_count (declaration_of d) = omega arith in
        cheaper low (open_cost w.env s both + (4 + steps)) (64 * ((1 + level_count (declaration_of d) + query_count (declaration_of d)) * (size s (declaration_of d) m + 1))) w (phases (unpacking c n k os xs) w)
        (HoldsEntries s (declaration_of d) m c)
        (subst (λ (x : ℕ). open_cost w.env s both + (4 + steps) ≤ 64 * (x * (size s (declaration_of d) m + 1))) grouped
        (bound (open_cost w.env s both) steps (weight (of_parts (parts_of s (declaration_of d) m))) (level_count (declaration_of d) + query_count (declaration_of d)) (size s (declaration_of d) m + 1) opening_few (omega arith) (weight-is s d m valid kept im) (omega arith)))
        (subst (λ (zs : List Opening). Leads low (open_cost w.env s both + (4 + steps)) w (phases (opening_phase c.count n zs ∷ (listing_phase c k xs ∷ [])) w) (HoldsEntries s (declaration_of d) m c)) openings_are
        (subst (λ (ts : List PartWalk). Leads low (open_cost w.env s both + (4 + steps)) w (phases (opening_phase c.count n (openings both) ∷ (listing_phase c k ts ∷ [])) w) (HoldsEntries s (declaration_of d) m c)) loops_are phases_lead))

pub format-listed : FormatIsListed
format-listed w s d m c first n k low os xs valid kept im rows cols within unpackers sources short low_first behind ci cj cv apart =
    all-lead w s d m c first n k low os xs valid kept im rows cols within unpackers.walks unpackers.openings sources short apart
    (openings_tell.new (start_at first) s (declaration_of d).parts os c.count n low unpackers.openings (queries-valid d valid) low_first (omega (arith, low_first, behind)) (inr behind)) (omega (arith, low_first, behind)) ci cj cv
