-- On the buffers of a matrix the loops over all parts can list the entries.
use Rattle.std.proofs.Common.{◌≡◌, ℕ, ◌+◌, ◌^◌, ◌<◌, ◌≤◌, List, [], ◌∷◌, map, length, refl, sym, ap, subst, ◌∙◌, inl, inr, arith, sum_by, All, true}
use Rattle.std.specs.Prelude.{None}
use Rattle.std.proofs.lemmas.List.Sums.{sum_by-cons}
use Rattle.us_format.specs.Lists.{nth}
use Rattle.us_format.specs.Matrix.{Shape, Entry, IsMatrixOf}
use Rattle.us_format.specs.Declaration.{Part, Declaration}
use Rattle.us_format.specs.Known.{known_of}
use Rattle.us_format.specs.Buffers.{holds, part_buffers, parts_of, size}
use Rattle.us_format.specs.Reading.{limit}
use Rattle.us_format.specs.Rules.{IsLawfulDeclaration}
use Rattle.us_format.proofs.Members.{all-Mem, Mem-contains}
use Rattle.us_format.proofs.Order.{Mem, Mem-map}
use Rattle.us_format.proofs.Shares.{shares-parts}
use Rattle.us_format_loops.proofs.Parts.{parts-share-entries}
use Rattle.us_format_loops.proofs.Small.{numbers-stay-small}
use Rattle.us_decl.specs.Declares.{Declared, IsValid}
use Rattle.us_judge.specs.Acceptance.{bad_count, has_lawful_lanes, first_refusal}
use Rattle.us_judge.specs.Plans.{IsPlannable, plan_for}
use Rattle.us_judge.specs.Views.{declaration_of}
use Rattle.us_judge.proofs.Accepted.{KeepsRules, accepted-keeps, all-pass}
use Rattle.us_judge.proofs.LawfulDeclarations.{accepted-declaration}
use Rattle.us_judge.proofs.PartPlans.{accepted-plannable}
use Rattle.us_code.specs.Run.{Env}
use Rattle.us_gen_walk.proofs.PlanRecovery.{plans_recover}
use Rattle.us_gen_places.specs.declared.start.PartStart.{PartStart}
use Rattle.us_gen_places.specs.Holds.{IsOrderly, held_by, HoldParts}
use Rattle.us_gen_places.specs.Dims.{HasDims, HaveDims, next_start}
use Rattle.us_gen_places.proofs.Covering.{places-cover}
use Rattle.us_gen_places.proofs.Holding.{places-hold}
use Rattle.us_gen_places.proofs.Sharing.{buffers-are-of-parts}
use Rattle.us_gen_unpack.specs.declared.listing.PartWalk.{PartWalk}
use Rattle.us_gen_unpack.specs.Runs.{Listed, IsListable, AreListable, total}
use Rattle.us_gen_parts.specs.Walks.{IsWalkOf, AreWalksOf, listed, WalksList}
use Rattle.us_gen_parts.proofs.EntriesFew.{all-few, part-few}
use Rattle.us_gen_parts.proofs.Orderly.{all-orderly}
use Rattle.us_gen_parts.proofs.SmallParts.{small-parts}

module _ (env : Env) (s : Shape) (d : Declared) (m : List Entry) (valid : IsValid d) (kept : first_refusal (declaration_of d) ≡ None) (im : IsMatrixOf s m)
    (rows : s.rows < 2 ^ 31) (cols : s.cols < 2 ^ 31) (within : size s (declaration_of d) m ≤ limit) (short : (k : ℕ) → length (env.sources k) < 2 ^ 63) where
  abbrev D : Declaration
  D = declaration_of d

  abbrev shared : List (Part × List Entry)
  shared = parts_of s (declaration_of d) m

  law : IsLawfulDeclaration (declaration_of d)
  law = accepted-declaration d valid kept

  parts_are : map (λ (y : Part × List Entry). y.0) (parts_of s (declaration_of d) m) ≡ (declaration_of d).parts
  parts_are = shares-parts (holds m s (declaration_of d)) (declaration_of d).conds (declaration_of d).parts m law.one_more

  part_there : (y : Part × List Entry) → Mem y (parts_of s (declaration_of d) m) → Mem y.0 (declaration_of d).parts
  part_there y i = subst (λ (ps : List Part). Mem y.0 ps) parts_are (Mem-map (λ (z : Part × List Entry). z.0) y (parts_of s (declaration_of d) m) i)

  lanes : (p : Part) → KeepsRules p → All (λ q. has_lawful_lanes q ≡ true) p.queries
  lanes p keeps = all-pass (λ q. has_lawful_lanes q) [] 0 p.queries (keeps 3 (1, bad_count) (omega arith))

  one : (a : PartStart) (x : PartWalk) (y : Part × List Entry) → Mem y (parts_of s (declaration_of d) m) → IsWalkOf a s y.0 x
      → ((k : ℕ) → k < length (part_buffers s y.0 y.1) → env.sources (a.source + k) ≡ nth (held_by s y.0 y.1) k) → HasDims env a s y.0 y.1
      → IsListable env s (record { loops = x; part = y.0; entries = y.1; exprs = known_of (plan_for y.0) })
  one a x y i walk sources dims =
      let lawful = (parts-share-entries s (declaration_of d) m law im).lawful y (Mem-contains (parts_of s (declaration_of d) m) y i) in
      let orderly : IsOrderly y.0 = all-Mem IsOrderly (declaration_of d).parts y.0 (all-orderly d valid kept) (part_there y i) in
      let keeps : KeepsRules y.0 = all-Mem KeepsRules (declaration_of d).parts y.0 (accepted-keeps (declaration_of d) kept) (part_there y i) in
      let plannable : IsPlannable y.0 = all-Mem IsPlannable (declaration_of d).parts y.0 (accepted-plannable d valid kept) (part_there y i) in
      record {
        lawful = lawful.0;
        matrix = lawful.2;
        places =
            places-hold env a s y.0 y.1 x.places orderly lawful.2
            (record { sources = sources; short = short; extents = dims.extents; nodes = dims.nodes; more = dims.more })
            (numbers-stay-small s (declaration_of d) m law within y.0 y.1 (Mem-contains (parts_of s (declaration_of d) m) y i)).numbers walk.places;
        recovers = λ n.
            plans_recover x.places s y.0 y.1 (plan_for y.0) x.steps.items x.row x.col n lawful.0 lawful.2
            (small-parts s y.0 y.1 rows cols (part-few s (declaration_of d) m law im within y i) (lanes y.0 keeps) plannable.small)
            (places-cover a s y.0 y.1 x.places n orderly walk.places) refl walk.steps walk.recover walk.row walk.col;
      }

  all : (a : PartStart) (xs : List PartWalk) (ys : List (Part × List Entry)) → ((y : Part × List Entry) → Mem y ys → Mem y (parts_of s (declaration_of d) m))
      → AreWalksOf a s (map (λ (y : Part × List Entry). y.0) ys) xs → HoldParts env a.source s ys → HaveDims env a s ys → AreListable env s (listed xs ys)
  all a [] [] mem w h dims = tt
  all a (x ∷ xs) [] mem w h dims = absurd w
  all a [] (y ∷ ys) mem w h dims = absurd w
  all a (x ∷ xs) (y ∷ ys) mem w h dims = (one a x y (mem y (inl refl)) w.0 h.0 dims.0, all (next_start a y.0) xs ys (λ z i. mem z (inr i)) w.1 h.1 dims.1)

loops_are : (a : PartStart) (s : Shape) (xs : List PartWalk) (ys : List (Part × List Entry)) → AreWalksOf a s (map (λ (y : Part × List Entry). y.0) ys) xs → map (λ (z : Listed). z.loops) (listed xs ys) ≡ xs
loops_are a s [] [] w = refl
loops_are a s (x ∷ xs) [] w = absurd w
loops_are a s [] (y ∷ ys) w = absurd w
loops_are a s (x ∷ xs) (y ∷ ys) w = ap (λ (zs : List PartWalk). x ∷ zs) (loops_are (next_start a y.0) s xs ys w.1)

total_is : (a : PartStart) (s : Shape) (xs : List PartWalk) (ys : List (Part × List Entry)) → AreWalksOf a s (map (λ (y : Part × List Entry). y.0) ys) xs
    → total (listed xs ys) ≡ sum_by (λ (y : Part × List Entry). length y.1) ys
total_is a s [] [] w = refl
total_is a s (x ∷ xs) [] w = absurd w
total_is a s [] (y ∷ ys) w = absurd w
total_is a s (x ∷ xs) (y ∷ ys) w = ap (λ n. length y.1 + n) (total_is (next_start a y.0) s xs ys w.1) ∙ sym (sum_by-cons (λ (z : Part × List Entry). length z.1) y ys)

pub walks-list : WalksList
walks-list env a s d m xs valid kept im rows cols within walks sources short dims =
    let law : IsLawfulDeclaration (declaration_of d) = accepted-declaration d valid kept in
    let as_shared : AreWalksOf a s (map (λ (y : Part × List Entry). y.0) (parts_of s (declaration_of d) m)) xs =
    subst (λ (ps : List Part). AreWalksOf a s ps xs) (sym (shares-parts (holds m s (declaration_of d)) (declaration_of d).conds (declaration_of d).parts m law.one_more)) walks in
    record {
      listable =
          all env s d m valid kept im rows cols within short a xs (parts_of s (declaration_of d) m) (λ y i. i) as_shared
          (buffers-are-of-parts env a.source s (declaration_of d) m law im sources) dims;
      loops = loops_are a s xs (parts_of s (declaration_of d) m) as_shared;
      number = total_is a s xs (parts_of s (declaration_of d) m) as_shared ∙ (parts-share-entries s (declaration_of d) m law im).number;
      few = all-few s (declaration_of d) m law im within;
    }
