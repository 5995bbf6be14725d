-- The loops over the parts of a format, and what the phase of dims needs of them, fit a text.
use Rattle.std.specs.Prelude.{None}
use Rattle.std.proofs.Common.{◌≡◌, ℕ, ◌+◌, ◌*◌, ◌^◌, ◌<◌, ◌≤◌, List, [], ◌∷◌, ◌++◌, length, map, true, refl, sym, ap, subst, ◌∙◌, inl, inr, arith, All}
use Rattle.std.proofs.lemmas.Bool.{and_parts}
use Rattle.std.proofs.lemmas.Bool.Decides.{nat_tests}
use Rattle.std.proofs.lemmas.List.{length-map, length-append, map-append}
use Rattle.std.proofs.lemmas.List.Elements.{All-nil, All-cons, All-append}
use Rattle.us_decl.specs.declared.column.Column.{Column as Written}
use Rattle.us_decl.specs.Grammar.{Comma, Only, And, Run, Empty, Then}
use Rattle.us_decl.specs.Grammar as grammar
use Rattle.us_decl.specs.Limits.{count, all, all_run, fits_list, fits_numbers, fits_queries, fits_levels, fits_column, fits_pack, fits_part}
use Rattle.us_decl.specs.Declares.{comma_items, run_items, IsValid, Declared}
use Rattle.us_format.specs.Matrix.{Shape}
use Rattle.us_format.specs.Declaration.{Column, Part}
use Rattle.us_format.proofs.Members.{all-Mem}
use Rattle.us_format.proofs.Order.{Mem}
use Rattle.us_judge.specs.Acceptance.{bad_count, has_lawful_lanes, first_refusal}
use Rattle.us_judge.specs.Plans.{IsPlannable}
use Rattle.us_judge.specs.Short.{IsShort, AreShort}
use Rattle.us_judge.specs.Views.{column_of, declaration_of}
use Rattle.us_judge.proofs.Accepted.{KeepsRules, accepted-keeps, all-pass}
use Rattle.us_judge.proofs.PartPlans.{accepted-plannable}
use Rattle.us_judge.proofs.Valid.{each-part, short-valid}
use Rattle.us_gen_walk.specs.declared.places.Loop.{Loop}
use Rattle.us_gen_walk.specs.declared.places.Slot.{Slot}
use Rattle.us_gen_places.specs.declared.start.PartStart.{PartStart}
use Rattle.us_gen_places.specs.Holds.{IsOrderly}
use Rattle.us_gen_places.specs.Dims.{next_start}
use Rattle.us_gen_unpack.specs.declared.listing.PartWalk.{PartWalk}
use Rattle.us_gen_opening.specs.declared.parts.Extent.{Extent}
use Rattle.us_gen_opening.specs.declared.parts.Opening.{Opening}
use Rattle.us_gen_opening.specs.Tells.{IsOpeningOf, AreOpeningsOf}
use Rattle.us_gen_parts.specs.Walks.{IsWalkOf, AreWalksOf}
use Rattle.us_gen_parts.proofs.Orderly.{all-orderly}
use Rattle.us_listing_limits.specs.Fitting.{FitsColumn, FitLoops, FitSlots, FitTables, FitsWalk, FitWalks, FitExtents, FitsOpening, FitOpenings}
use Rattle.us_listing_limits.proofs.PlanNumbers.{plans-fit}
use Rattle.us_listing_limits.proofs.PlanReads.{plans-read}
use Rattle.us_gen_listing.proofs.NumbersFit.{IsTame, HasRoom, buffers_few, all_levels, values_fit, tables_fit, all_extents}

-- ---- the parts of an accepted declaration

length_comma : {A : Type 0} (xs : Comma A) → length (comma_items xs) ≡ count xs
length_comma (Only x) = refl
length_comma (And xs x) = length-append (comma_items xs) (x ∷ []) ∙ ap (λ n. n + 1) (length_comma xs)

at_most : (n : ℕ) → fits_list n ≡ true → n ≤ 16
at_most n e = grind (arith, nat_tests)

pack_narrow : (cs : Comma Written) → fits_pack cs ≡ true → length (map column_of (comma_items cs)) ≤ 16
pack_narrow cs e =
    omega (arith, length-map (comma_items cs) column_of, length_comma cs, at_most (count cs) (and_parts (all fits_column cs) (fits_list (count cs)) e).1)

packs_narrow : (ps : Run (Comma Written)) → all_run fits_pack ps ≡ true → All (λ (cs : List Column). length cs ≤ 16) (map (map column_of) (map comma_items (run_items ps)))
packs_narrow Empty e = All-nil (λ (cs : List Column). length cs ≤ 16)
packs_narrow (Then ps p) e =
    let both = and_parts (all_run fits_pack ps) (fits_pack p) e in
    let joined : map (map column_of) (map comma_items (run_items ps ++ (p ∷ []))) ≡ map (map column_of) (map comma_items (run_items ps)) ++ (map column_of (comma_items p) ∷ []) =
    ap (map (map column_of)) (map-append comma_items (run_items ps) (p ∷ [])) ∙ map-append (map column_of) (map comma_items (run_items ps)) (comma_items p ∷ []) in
    subst (λ (xs : List (List Column)). All (λ (cs : List Column). length cs ≤ 16) xs) (sym joined)
    (All-append (λ (cs : List Column). length cs ≤ 16) (map (map column_of) (map comma_items (run_items ps))) (map column_of (comma_items p) ∷ []) (packs_narrow ps both.0)
    (All-cons (λ (cs : List Column). length cs ≤ 16) (map column_of (comma_items p)) [] (pack_narrow p both.1) (All-nil (λ (cs : List Column). length cs ≤ 16))))

fitting_packs : (p : grammar.Part) → fits_part p ≡ true → all_run fits_pack p.packs ≡ true
fitting_packs p e =
    let e1 = (and_parts (fits_queries p.queries) _ e).1 in
    let e2 = (and_parts (fits_levels p.queries p.levels) _ e1).1 in
    let e3 = (and_parts (fits_numbers p.trim) _ e2).1 in
    (and_parts (all_run fits_pack p.packs) _ (and_parts (fits_numbers p.merge) _ e3).1).0

narrow_packs : (d : Declared) → IsValid d → All (λ p. All (λ (cs : List Column). length cs ≤ 16) p.packs) (declaration_of d).parts
narrow_packs d valid = each-part (λ p. All (λ (cs : List Column). length cs ≤ 16) p.packs) (λ p e. packs_narrow p.packs (fitting_packs p e)) d valid

short_one : (ps : List Part) (p : Part) → AreShort ps → Mem p ps → IsShort p
short_one [] p h m = absurd m
short_one (q ∷ ps) p h (inl e) = subst IsShort e h.0
short_one (q ∷ ps) p h (inr m) = short_one ps p h.1 m

pub parts-tame : (d : Declared) → IsValid d → first_refusal (declaration_of d) ≡ None → (p : Part) → Mem p (declaration_of d).parts → IsTame p
parts-tame d valid kept p m =
    let keeps : KeepsRules p = all-Mem KeepsRules (declaration_of d).parts p (accepted-keeps (declaration_of d) kept) m in
    record {
      orderly = all-Mem IsOrderly (declaration_of d).parts p (all-orderly d valid kept) m;
      plannable = all-Mem IsPlannable (declaration_of d).parts p (accepted-plannable d valid kept) m;
      short = short_one (declaration_of d).parts p (short-valid d valid).parts m;
      lanes = all-pass (λ q. has_lawful_lanes q) [] 0 p.queries (keeps 3 (1, bad_count) (omega arith));
      narrow = all-Mem (λ (q : Part). All (λ (cs : List Column). length cs ≤ 16) q.packs) (declaration_of d).parts p (narrow_packs d valid) m;
    }

-- ---- one part

walk_fits : (a : PartStart) (s : Shape) (p : Part) (x : PartWalk) → IsTame p → HasRoom a → s.rows < 2 ^ 31 → s.cols < 2 ^ 31 → IsWalkOf a s p x → FitsWalk x
walk_fits a s p x tame room rows cols w =
    let levels = all_levels a p tame room s rows cols in
    record {
      loops_fit = subst FitLoops (sym w.places.loops) levels.loops;
      values_fit = subst FitsColumn (sym w.places.values) (values_fit a p tame room);
      slots_fit = subst FitSlots (sym w.places.slots) levels.slots;
      tables_fit = subst FitTables (sym w.places.tables) (tables_fit a p tame room);
      steps_fit = plans-fit p.names p.levels p.queries x.steps.items tame.orderly.lawful.levels_valid tame.orderly.lawful.arguments_valid w.steps;
      few = omega (arith, levels.few, ap (λ (ls : List Loop). length ls) w.places.loops, ap (λ (xs : List Slot). length xs) w.places.slots);
      twice = plans-read p.levels p.queries x.steps.items w.steps;
    }

opening_fits : (a : PartStart) (s : Shape) (p : Part) (o : Opening) → IsTame p → HasRoom a → s.rows < 2 ^ 31 → s.cols < 2 ^ 31 → IsOpeningOf a s p o → FitsOpening o
opening_fits a s p o tame room rows cols w =
    let levels = all_levels a p tame room s rows cols in
    let extents = all_extents a p tame room in
    record {
      extents_fit = subst FitExtents (sym w.extents) extents.fit;
      loops_fit = subst FitLoops (sym w.loops) levels.loops;
      values_fit = subst FitsColumn (sym w.values) (values_fit a p tame room);
      few = omega (arith, levels.few, ap (λ (ls : List Loop). length ls) w.loops);
      asked = omega (arith, extents.few, ap (λ (es : List Extent). length es) w.extents);
    }

-- ---- all parts, one behind the other

-- so many parts have room from a start on
pub record HaveRoom (a : PartStart) (n : ℕ) : Type 0 where
  pub source : a.source + 81 * n ≤ 2 ^ 31
  pub dim : a.dim + 28 * n ≤ 2 ^ 31

pub first-room : (a : PartStart) (n : ℕ) → HaveRoom a (1 + n) → HasRoom a
first-room a n h = record { source = omega (arith, h.source); dim = omega (arith, h.dim) }

pub next-room : (a : PartStart) (p : Part) (n : ℕ) → IsTame p → HaveRoom a (1 + n) → HaveRoom (next_start a p) n
next-room a p n tame h = record {
  source = omega (arith, h.source, buffers_few a p tame (first-room a n h));
  dim = omega (arith, h.dim, tame.plannable.few);
}

pub walks-fit : (a : PartStart) (s : Shape) (ps : List Part) (xs : List PartWalk) → ((p : Part) → Mem p ps → IsTame p) → HaveRoom a (length ps) → s.rows < 2 ^ 31 → s.cols < 2 ^ 31 → AreWalksOf a s ps xs → FitWalks xs
walks-fit a s [] [] tame room rows cols w = tt
walks-fit a s [] (x ∷ xs) tame room rows cols w = absurd w
walks-fit a s (p ∷ ps) [] tame room rows cols w = absurd w
walks-fit a s (p ∷ ps) (x ∷ xs) tame room rows cols w =
    let more : HaveRoom a (1 + length ps) = record { source = omega (arith, room.source); dim = omega (arith, room.dim) } in (
      walk_fits a s p x (tame p (inl refl)) (first-room a (length ps) more) rows cols w.0,
      walks-fit (next_start a p) s ps xs (λ q i. tame q (inr i)) (next-room a p (length ps) (tame p (inl refl)) more) rows cols w.1,
    )

pub openings-fit : (a : PartStart) (s : Shape) (ps : List Part) (os : List Opening) → ((p : Part) → Mem p ps → IsTame p) → HaveRoom a (length ps) → s.rows < 2 ^ 31 → s.cols < 2 ^ 31 → AreOpeningsOf a s ps os → FitOpenings os
openings-fit a s [] [] tame room rows cols w = tt
openings-fit a s [] (o ∷ os) tame room rows cols w = absurd w
openings-fit a s (p ∷ ps) [] tame room rows cols w = absurd w
openings-fit a s (p ∷ ps) (o ∷ os) tame room rows cols w =
    let more : HaveRoom a (1 + length ps) = record { source = omega (arith, room.source); dim = omega (arith, room.dim) } in (
      opening_fits a s p o (tame p (inl refl)) (first-room a (length ps) more) rows cols w.0,
      openings-fit (next_start a p) s ps os (λ q i. tame q (inr i)) (next-room a p (length ps) (tame p (inl refl)) more) rows cols w.1,
    )

pub openings-number : (a : PartStart) (s : Shape) (ps : List Part) (os : List Opening) → AreOpeningsOf a s ps os → length os ≡ length ps
openings-number a s [] [] w = refl
openings-number a s [] (o ∷ os) w = absurd w
openings-number a s (p ∷ ps) [] w = absurd w
openings-number a s (p ∷ ps) (o ∷ os) w = omega (arith, openings-number (next_start a p) s ps os w.1)
