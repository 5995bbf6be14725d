-- The parts of a format whose buffers stand in the sources.
use Rattle.std.proofs.Common.{◌≡◌, ℕ, ◌+◌, ◌*◌, ◌^◌, ◌<◌, ◌≤◌, List, [], ◌∷◌, map, length, refl, sym, ap, subst, ◌∙◌, arith, zero-add, All, ℤ, sum_by}
use Rattle.std.specs.Prelude.{None}
use Rattle.std.proofs.lemmas.List.Sums.{sum_by-cons}
use Rattle.us_format.specs.Lists.{nth}
use Rattle.us_format.specs.Matrix.{Shape, Entry, IsMatrixOf}
use Rattle.us_format.specs.Declaration.{Part}
use Rattle.us_format.specs.Queries.{extents_of}
use Rattle.us_format.specs.Buffers.{holds, parts_of, buffers, size}
use Rattle.us_format.specs.Reading.{limit}
use Rattle.us_format.specs.Rules.{ArePacksLawful, IsLawfulDeclaration}
use Rattle.us_format.proofs.Members.{Mem-all}
use Rattle.us_format.proofs.Order.{Mem, Mem-map}
use Rattle.us_format.proofs.Shares.{shares-parts}
use Rattle.us_format_loops.proofs.Parts.{parts-share-entries}
use Rattle.us_decl.specs.Declares.{Declared, IsValid}
use Rattle.us_judge.specs.Acceptance.{first_refusal}
use Rattle.us_judge.specs.Views.{declaration_of}
use Rattle.us_judge.proofs.LawfulDeclarations.{accepted-declaration}
use Rattle.us_code.specs.Run.{Env}
use Rattle.us_code.specs.Runs.{World}
use Rattle.us_gen_places.specs.declared.start.PartStart.{PartStart}
use Rattle.us_gen_places.specs.Holds.{HoldParts}
use Rattle.us_gen_places.specs.Dims.{next_start}
use Rattle.us_gen_places.proofs.Sharing.{buffers-are-of-parts}
use Rattle.us_gen_unpack.specs.declared.listing.PartWalk.{PartWalk}
use Rattle.us_gen_unpack.specs.Runs.{Listed, AreListable, list_cost, total}
use Rattle.us_gen_opening.specs.declared.parts.Opening.{Opening}
use Rattle.us_gen_opening.specs.Dims.{DimsAre}
use Rattle.us_gen_opening.specs.Runs.{Opened, openings, listeds, AreOpenable, open_cost}
use Rattle.us_gen_opening.specs.Sources.{paired, ArePlaced, parts, with_entries}
use Rattle.us_gen_opening.specs.Tells.{AreOpeningsOf}
use Rattle.us_gen_opening.proofs.PartDims.{openings_tell}
use Rattle.us_gen_opening.proofs.PartSources.{openings_stand}
use Rattle.us_gen_parts.specs.Walks.{AreWalksOf, AreListed, listed}
use Rattle.us_gen_parts.proofs.EntriesFew.{part-few}
use Rattle.us_gen_parts.proofs.Listable.{walks-list}
use Rattle.us_gen_listing.specs.Unpack.{start_at}
use Rattle.us_gen_listing.proofs.AllCosts.{weight, IsGood, parts-good, lists-few, dims-all}
use Rattle.us_gen_listing.proofs.Extents.{extents-few}

-- ---- lists of parts

abbrev pub of_parts : List (Part × List Entry) → List Part
of_parts ys = map (λ (y : Part × List Entry). y.0) ys

parts_listed : (a : PartStart) (s : Shape) (xs : List PartWalk) (ys : List (Part × List Entry)) → AreWalksOf a s (of_parts ys) xs → parts (listed xs ys) ≡ of_parts ys
parts_listed a s [] [] w = refl
parts_listed a s (x ∷ xs) [] w = absurd w
parts_listed a s [] (y ∷ ys) w = absurd w
parts_listed a s (x ∷ xs) (y ∷ ys) w = ap (λ (ps : List Part). y.0 ∷ ps) (parts_listed (next_start a y.0) s xs ys w.1)

entries_listed : (a : PartStart) (s : Shape) (xs : List PartWalk) (ys : List (Part × List Entry)) → AreWalksOf a s (of_parts ys) xs → with_entries (listed xs ys) ≡ ys
entries_listed a s [] [] w = refl
entries_listed a s (x ∷ xs) [] w = absurd w
entries_listed a s [] (y ∷ ys) w = absurd w
entries_listed a s (x ∷ xs) (y ∷ ys) w = ap (λ (zs : List (Part × List Entry)). y ∷ zs) (entries_listed (next_start a y.0) s xs ys w.1)

placed : (a : PartStart) (s : Shape) (xs : List PartWalk) (ys : List (Part × List Entry)) → AreWalksOf a s (of_parts ys) xs → ArePlaced a s (listed xs ys)
placed a s [] [] w = tt
placed a s (x ∷ xs) [] w = absurd w
placed a s [] (y ∷ ys) w = absurd w
placed a s (x ∷ xs) (y ∷ ys) w = (w.0.places, placed (next_start a y.0) s xs ys w.1)

module _ (w : World) (s : Shape) (d : Declared) (m : List Entry) (first : ℕ) (os : List Opening) (xs : List PartWalk) (valid : IsValid d) (kept : first_refusal (declaration_of d) ≡ None) (im : IsMatrixOf s m)
    (rows : s.rows < 2 ^ 31) (cols : s.cols < 2 ^ 31) (within : size s (declaration_of d) m ≤ limit) (walks : AreWalksOf (start_at first) s (declaration_of d).parts xs) (opens : AreOpeningsOf (start_at first) s (declaration_of d).parts os)
    (sources : (j : ℕ) → j < length (buffers s (declaration_of d) m) → w.env.sources j ≡ nth (buffers s (declaration_of d) m) j) (short : (j : ℕ) → length (w.env.sources j) < 2 ^ 63) where
  abbrev pub ys : List (Part × List Entry)
  ys = parts_of s (declaration_of d) m

  abbrev pub ls : List Listed
  ls = listed xs (parts_of s (declaration_of d) m)

  abbrev pub both : List Opened
  both = paired os (listed xs (parts_of s (declaration_of d) m))

  pub law : IsLawfulDeclaration (declaration_of d)
  law = accepted-declaration d valid kept

  parts_are : of_parts (parts_of s (declaration_of d) m) ≡ (declaration_of d).parts
  parts_are = shares-parts (holds m s (declaration_of d)) (declaration_of d).conds (declaration_of d).parts m law.one_more

  pub walks_of : AreWalksOf (start_at first) s (of_parts (parts_of s (declaration_of d) m)) xs
  walks_of = subst (λ (ps : List Part). AreWalksOf (start_at first) s ps xs) (sym parts_are) walks

  opens_of : AreOpeningsOf (start_at first) s (of_parts (parts_of s (declaration_of d) m)) os
  opens_of = subst (λ (ps : List Part). AreOpeningsOf (start_at first) s ps os) (sym parts_are) opens

  opens_listed : AreOpeningsOf (start_at first) s (parts (listed xs (parts_of s (declaration_of d) m))) os
  opens_listed = subst (λ (ps : List Part). AreOpeningsOf (start_at first) s ps os) (sym (parts_listed (start_at first) s xs (parts_of s (declaration_of d) m) walks_of)) opens_of

  there : (env : Env) → env.sources ≡ w.env.sources → (j : ℕ) → j < length (buffers s (declaration_of d) m) → env.sources (0 + j) ≡ nth (buffers s (declaration_of d) m) j
  there env e j l = ap (λ (f : ℕ → List ℤ). f (0 + j)) e ∙ ap w.env.sources (zero-add j) ∙ sources j l

  held : (env : Env) → env.sources ≡ w.env.sources → HoldParts env 0 s (parts_of s (declaration_of d) m)
  held env e = buffers-are-of-parts env 0 s (declaration_of d) m law im (there env e)

  good : (y : Part × List Entry) → Mem y (parts_of s (declaration_of d) m) → IsGood s y (size s (declaration_of d) m)
  good = parts-good s d m valid kept im

  listed_from : (z : Listed) → Mem z (listed xs (parts_of s (declaration_of d) m)) → Mem {A = Part × List Entry} (z.part, z.entries) (parts_of s (declaration_of d) m)
  listed_from z i =
      subst (λ (zs : List (Part × List Entry)). Mem {A = Part × List Entry} (z.part, z.entries) zs) (entries_listed (start_at first) s xs (parts_of s (declaration_of d) m) walks_of)
      (Mem-map {B = Part × List Entry} (λ (x : Listed). (x.part, x.entries)) z (listed xs (parts_of s (declaration_of d) m)) i)

  ready : (env : Env) → env.sources ≡ w.env.sources → DimsAre env os → AreListed env s xs (parts_of s (declaration_of d) m) (length m)
  ready env e dims =
      walks-list env (start_at first) s d m xs valid kept im rows cols within walks (there env e) (λ j. subst (λ (f : ℕ → List ℤ). length (f j) < 2 ^ 63) (sym e) (short j))
      (openings_tell.dims env (start_at first) s (parts_of s (declaration_of d) m) os opens_of (Mem-all (λ (y : Part × List Entry). ArePacksLawful y.0) (parts_of s (declaration_of d) m) (λ y i. (good y i).packs)) (held env e) dims)

  pub openable : AreOpenable w.env both
  openable =
      openings_stand.openable w.env (start_at first) s ls os opens_listed (placed (start_at first) s xs (parts_of s (declaration_of d) m) walks_of)
      (Mem-all (λ (x : Listed). ArePacksLawful x.part) (listed xs (parts_of s (declaration_of d) m)) (λ z i. (good (z.part, z.entries) (listed_from z i)).packs))
      (subst (λ (zs : List (Part × List Entry)). HoldParts w.env 0 s zs) (sym (entries_listed (start_at first) s xs (parts_of s (declaration_of d) m) walks_of)) (held w.env refl))
      (Mem-all (λ (x : Listed). All (λ n. n ≤ limit) (extents_of x.entries s x.part)) (listed xs (parts_of s (declaration_of d) m))
      (λ z i.
      let g = good (z.part, z.entries) (listed_from z i) in
      extents-few s z.part z.entries g.lawful (part-few s (declaration_of d) m law im within (z.part, z.entries) (listed_from z i)) (omega (arith, g.within, within))))

  pub openings_are : openings both ≡ os
  openings_are = openings_stand.openings_are (start_at first) s ls os opens_listed

  pub listeds_are : listeds both ≡ ls
  listeds_are = openings_stand.listeds_are (start_at first) s ls os opens_listed

  pub listable : (env : Env) → env.sources ≡ w.env.sources → DimsAre env (openings both) → AreListable env s (listeds both)
  listable env e dims = subst (λ (zs : List Listed). AreListable env s zs) (sym listeds_are) (ready env e (subst (λ (zs : List Opening). DimsAre env zs) openings_are dims)).listable

  pub total_is : total (listeds both) ≡ length m
  total_is = ap total listeds_are ∙ total_listed
    where
      sums : (a : PartStart) (us : List PartWalk) (zs : List (Part × List Entry)) → AreWalksOf a s (of_parts zs) us → total (listed us zs) ≡ sum_by (λ (y : Part × List Entry). length y.1) zs
      sums a [] [] v = refl
      sums a (u ∷ us) [] v = absurd v
      sums a [] (z ∷ zs) v = absurd v
      sums a (u ∷ us) (z ∷ zs) v = ap (λ n. length z.1 + n) (sums (next_start a z.0) us zs v.1) ∙ sym (sum_by-cons (λ (y : Part × List Entry). length y.1) z zs)

      total_listed : total (listed xs (parts_of s (declaration_of d) m)) ≡ length m
      total_listed = sums (start_at first) xs (parts_of s (declaration_of d) m) walks_of ∙ (parts-share-entries s (declaration_of d) m law im).number

  abbrev pub steps : ℕ
  steps = 51 * (weight (of_parts (parts_of s (declaration_of d) m)) * (size s (declaration_of d) m + 1))

  pub listing_few : (env : Env) → AreListable env s (listeds both) → list_cost env s (listeds both) ≤ steps
  listing_few env h =
      subst (λ (zs : List Listed). list_cost env s zs ≤ 51 * (weight (of_parts (parts_of s (declaration_of d) m)) * (size s (declaration_of d) m + 1))) (sym listeds_are)
      (lists-few s d m valid kept im env (start_at first) xs (parts_of s (declaration_of d) m) (λ y i. i) walks_of (subst (λ (zs : List Listed). AreListable env s zs) listeds_are h))

  pub opening_few : open_cost w.env s both ≤ 1 + 9 * (weight (of_parts (parts_of s (declaration_of d) m)) * (size s (declaration_of d) m + 1))
  opening_few = dims-all s d m valid kept im w.env (start_at first) os xs (parts_of s (declaration_of d) m) (λ y i. i) walks_of opens_of (held w.env refl)

  pub loops_are : map (λ (x : Listed). x.loops) (listeds both) ≡ xs
  loops_are = ap (λ (zs : List Listed). map (λ (x : Listed). x.loops) zs) listeds_are ∙ same (start_at first) xs (parts_of s (declaration_of d) m) walks_of
    where
      same : (a : PartStart) (us : List PartWalk) (zs : List (Part × List Entry)) → AreWalksOf a s (of_parts zs) us → map (λ (x : Listed). x.loops) (listed us zs) ≡ us
      same a [] [] v = refl
      same a (u ∷ us) [] v = absurd v
      same a [] (z ∷ zs) v = absurd v
      same a (u ∷ us) (z ∷ zs) v = ap (λ (ts : List PartWalk). u ∷ ts) (same (next_start a z.0) us zs v.1)
