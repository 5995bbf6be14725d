-- The steps for all parts.
use Rattle.std.proofs.Common.{◌≡◌, ℕ, ◌+◌, ◌*◌, ◌≤◌, List, [], ◌∷◌, map, length, Bool, true, false, not, leb, ◌&&◌, refl, ap, subst, inl, inr, arith, sum_by}
use Rattle.std.specs.Prelude.{None}
use Rattle.std.proofs.lemmas.Bool.Decides.{nat_tests}
use Rattle.std.proofs.lemmas.List.Sums.{sum_by-cons}
use Rattle.us_format.specs.Lists.{when}
use Rattle.us_format.specs.Matrix.{Shape, Entry, IsMatrixOf}
use Rattle.us_format.specs.Declaration.{Part}
use Rattle.us_format.specs.Known.{known_of}
use Rattle.us_format.specs.Buffers.{holds, parts_of, size}
use Rattle.us_format.specs.Rules.{IsLawful, ArePacksLawful, IsLawfulDeclaration}
use Rattle.us_format.specs.Laws.{unpacked_size}
use Rattle.us_format.proofs.Members.{all-Mem, Mem-contains}
use Rattle.us_format.proofs.Order.{Mem, Mem-map}
use Rattle.us_format.proofs.PackSizes.{packing-keeps-size}
use Rattle.us_format.proofs.Shares.{shares-parts}
use Rattle.us_format_loops.proofs.Parts.{parts-share-entries}
use Rattle.us_format_loops.proofs.Small.{part-of-sum}
use Rattle.us_decl.specs.Declares.{Declared, IsValid}
use Rattle.us_judge.specs.Acceptance.{bad_count, first_refusal}
use Rattle.us_judge.specs.Plans.{IsPlannable, plan_for}
use Rattle.us_judge.specs.Views.{declaration_of}
use Rattle.us_judge.proofs.Accepted.{KeepsRules, accepted-keeps}
use Rattle.us_judge.proofs.LawfulDeclarations.{accepted-declaration}
use Rattle.us_judge.proofs.PartPlans.{accepted-plannable}
use Rattle.us_code.specs.Run.{Env}
use Rattle.us_gen_places.specs.declared.start.PartStart.{PartStart}
use Rattle.us_gen_places.specs.Holds.{IsOrderly, HoldParts}
use Rattle.us_gen_places.specs.Dims.{next_start}
use Rattle.us_gen_unpack.specs.declared.listing.PartWalk.{PartWalk}
use Rattle.us_gen_unpack.specs.Runs.{AreListable, list_cost}
use Rattle.us_gen_opening.specs.declared.parts.Opening.{Opening}
use Rattle.us_gen_opening.specs.Runs.{open_cost}
use Rattle.us_gen_opening.specs.Sources.{paired}
use Rattle.us_gen_opening.specs.Tells.{AreOpeningsOf}
use Rattle.us_gen_parts.specs.Walks.{AreWalksOf, listed}
use Rattle.us_gen_parts.proofs.Orderly.{all-orderly}
use Rattle.us_gen_listing.specs.Unpack.{level_count, query_count}
use Rattle.us_gen_listing.proofs.Lengths.{part-long}
use Rattle.us_gen_listing.proofs.PartCosts.{list-few, dims-few}

-- how many levels and queries parts have
abbrev pub weight : List Part → ℕ
weight [] = 0
weight (p ∷ ps) = length p.levels + length p.queries + weight ps

pub weights-are : (ps : List Part) → weight ps ≡ sum_by (λ (p : Part). length p.levels) ps + sum_by (λ (p : Part). length p.queries) ps
weights-are [] = refl
weights-are (p ∷ ps) = omega (arith, weights-are ps, sum_by-cons (λ (q : Part). length q.levels) p ps, sum_by-cons (λ (q : Part). length q.queries) p ps)

some_of : (n : ℕ) (a b : Bool) → leb 1 n ≡ a → when {A = ℕ} (not (a && b)) 0 ≡ None → 1 ≤ n
some_of n true b e h = grind (arith, nat_tests)
some_of n false b e h = absurd cc

-- what holds of each part
pub record IsGood (s : Shape) (y : Part × List Entry) (S : ℕ) : Type 0 where
  pub lawful : IsLawful y.0
  pub packs : ArePacksLawful y.0
  pub matrix : IsMatrixOf s y.1
  pub orderly : IsOrderly y.0
  pub plannable : IsPlannable y.0
  pub some : 1 ≤ length y.0.levels
  pub within : unpacked_size s y.0 y.1 ≤ S

module _ (s : Shape) (d : Declared) (m : List Entry) (valid : IsValid d) (kept : first_refusal (declaration_of d) ≡ None) (im : IsMatrixOf s m) where
  law : IsLawfulDeclaration (declaration_of d)
  law = accepted-declaration d valid kept

  part_there : (y : Part × List Entry) → Mem y (parts_of s (declaration_of d) m) → Mem y.0 (declaration_of d).parts
  part_there y i =
      subst (λ (ps : List Part). Mem y.0 ps) (shares-parts (holds m s (declaration_of d)) (declaration_of d).conds (declaration_of d).parts m law.one_more)
      (Mem-map (λ (z : Part × List Entry). z.0) y (parts_of s (declaration_of d) m) i)

  pub parts-good : (y : Part × List Entry) → Mem y (parts_of s (declaration_of d) m) → IsGood s y (size s (declaration_of d) m)
  parts-good y i =
      let l = (parts-share-entries s (declaration_of d) m law im).lawful y (Mem-contains (parts_of s (declaration_of d) m) y i) in
      let keeps : KeepsRules y.0 = all-Mem KeepsRules (declaration_of d).parts y.0 (accepted-keeps (declaration_of d) kept) (part_there y i) in
      record {
        lawful = l.0;
        packs = l.1;
        matrix = l.2;
        orderly = all-Mem IsOrderly (declaration_of d).parts y.0 (all-orderly d valid kept) (part_there y i);
        plannable = all-Mem IsPlannable (declaration_of d).parts y.0 (accepted-plannable d valid kept) (part_there y i);
        some = some_of (length y.0.levels) (leb 1 (length y.0.levels)) (leb (length y.0.levels) 6) refl (keeps 0 (1, bad_count) (omega arith));
        within = omega (arith, packing-keeps-size.of_parts s (declaration_of d) m law, part-of-sum (λ (x : Part × List Entry). unpacked_size s x.0 x.1) y (parts_of s (declaration_of d) m) i);
      }

  abbrev T : ℕ
  T = size s (declaration_of d) m + 1

  pub lists-few : (env : Env) (a : PartStart) (xs : List PartWalk) (ys : List (Part × List Entry)) → ((y : Part × List Entry) → Mem y ys → Mem y (parts_of s (declaration_of d) m))
      → AreWalksOf a s (map (λ (y : Part × List Entry). y.0) ys) xs → AreListable env s (listed xs ys)
      → list_cost env s (listed xs ys) ≤ 51 * (weight (map (λ (y : Part × List Entry). y.0) ys) * (size s (declaration_of d) m + 1))
  lists-few env a [] [] mem w h = omega arith
  lists-few env a (x ∷ xs) [] mem w h = absurd w
  lists-few env a [] (y ∷ ys) mem w h = absurd w
  lists-few env a (x ∷ xs) (y ∷ ys) mem w h =
      let g : IsGood s y (size s (declaration_of d) m) = parts-good y (mem y (inl refl)) in
      omega (
        arith,
        list-few s y.0 y.1 (size s (declaration_of d) m + 1) g.lawful g.matrix g.some (omega (arith, g.within)) env a x h.0.places w.0 g.orderly g.plannable.small,
        lists-few env (next_start a y.0) xs ys (λ z i. mem z (inr i)) w.1 h.1,
      )

  pub dims-all : (env : Env) (a : PartStart) (os : List Opening) (xs : List PartWalk) (ys : List (Part × List Entry)) → ((y : Part × List Entry) → Mem y ys → Mem y (parts_of s (declaration_of d) m))
      → AreWalksOf a s (map (λ (y : Part × List Entry). y.0) ys) xs → AreOpeningsOf a s (map (λ (y : Part × List Entry). y.0) ys) os → HoldParts env a.source s ys
      → open_cost env s (paired os (listed xs ys)) ≤ 1 + 9 * (weight (map (λ (y : Part × List Entry). y.0) ys) * (size s (declaration_of d) m + 1))
  dims-all env a [] [] [] mem w v h = omega arith
  dims-all env a (o ∷ os) xs [] mem w v h = absurd v
  dims-all env a [] xs (y ∷ ys) mem w v h = absurd v
  dims-all env a [] (x ∷ xs) [] mem w v h = absurd w
  dims-all env a (o ∷ os) [] (y ∷ ys) mem w v h = absurd w
  dims-all env a (o ∷ os) (x ∷ xs) (y ∷ ys) mem w v h =
      let g : IsGood s y (size s (declaration_of d) m) = parts-good y (mem y (inl refl)) in
      omega (
        arith,
        dims-few s y.0 y.1 (size s (declaration_of d) m + 1) g.lawful g.matrix g.some (omega (arith, g.within)) env a o (record { loops = x; part = y.0; entries = y.1; exprs = known_of (plan_for y.0) }) refl refl v.0 g.packs h.0
            (omega (arith, part-long s (declaration_of d) m y (mem y (inl refl)))),
        dims-all env (next_start a y.0) os xs ys (λ z i. mem z (inr i)) w.1 v.1 h.1,
      )

  -- the weights of the parts
  pub weight-is : weight (map (λ (y : Part × List Entry). y.0) (parts_of s (declaration_of d) m)) ≤ level_count (declaration_of d) + query_count (declaration_of d)
  weight-is =
      omega (
        arith,
        ap weight (shares-parts (holds m s (declaration_of d)) (declaration_of d).conds (declaration_of d).parts m law.one_more),
        weights-are (declaration_of d).parts,
      )
