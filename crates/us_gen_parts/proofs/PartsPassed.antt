-- Parts that have their loops, and where the next one begins.
use Rattle.std.proofs.Common.{◌≡◌, ℕ, suc, ◌+◌, ◌*◌, ◌<◌, ◌≤◌, List, [], ◌∷◌, ◌++◌, length, drop, sym, ap, subst, ◌∙◌, arith, append_assoc}
use Rattle.std.proofs.Math.Seq.{drop-cons}
use Rattle.std.proofs.Math.ListN.{drop_of_length-le}
use Rattle.std.proofs.lemmas.List.{append-nil}
use Rattle.us_expr.specs.Tree.{RowIndex, ColIndex}
use Rattle.us_format.specs.Matrix.{Shape}
use Rattle.us_format.specs.Declaration.{Part, Declaration}
use Rattle.us_format.specs.Known.{Steps}
use Rattle.us_invert.specs.declared.steps.PlanStep.{PlanStep}
use Rattle.us_invert.specs.Plan.{HasSteps, IsStepOf}
use Rattle.us_invert.specs.Recovery.{StepsRecover}
use Rattle.us_judge.specs.Format.{part_at}
use Rattle.us_judge.specs.Plans.{plan_for}
use Rattle.us_gen_places.specs.declared.start.PartStart.{PartStart}
use Rattle.us_gen_places.specs.Places.{ArePlacesOf}
use Rattle.us_gen_places.specs.Dims.{next_start, dim_count}
use Rattle.us_gen_unpack.specs.declared.listing.PartWalk.{PartWalk}
use Rattle.us_gen_parts.specs.Walks.{IsWalkOf, AreWalksOf, IsPushed}

abbrev no_part : Part
no_part = record { names = 0; queries = []; levels = []; trim = []; merge = []; packs = [] }

-- the first n parts have their loops; the next part begins there
pub record ArePassed (a : PartStart) (s : Shape) (d : Declaration) (n : ℕ) (at : PartStart) (xs : List PartWalk) : Type 0 where
  pub rest : (ys : List PartWalk) → AreWalksOf at s (drop n d.parts) ys → AreWalksOf a s d.parts (xs ++ ys)
  pub source : at.source ≤ a.source + 81 * n
  pub dim : at.dim ≤ a.dim + 48 * n

pub passed-none : (a : PartStart) (s : Shape) (d : Declaration) (xs : List PartWalk) → xs ≡ [] → ArePassed a s d 0 a xs
passed-none a s d xs e =
    record { rest = λ ys w. subst (λ (zs : List PartWalk). AreWalksOf a s d.parts (zs ++ ys)) (sym e) w; source = omega arith; dim = omega arith }

pub passed-more : (a : PartStart) (s : Shape) (d : Declaration) (n : ℕ) (at next : PartStart) (xs zs : List PartWalk) → ArePassed a s d n at xs → n < length d.parts → IsPushed at s (part_at d n) xs zs
    → next ≡ next_start at (part_at d n) → next.source ≤ at.source + 81 → next.dim ≤ at.dim + 48 → ArePassed a s d (suc n) next zs
passed-more a s d n at next xs zs h l pushed is source dim =
    record {
      rest = λ ys w.
          let there : AreWalksOf (next_start at (part_at d n)) s (drop (suc n) d.parts) ys = subst (λ (b : PartStart). AreWalksOf b s (drop (suc n) d.parts) ys) is w in
          let both : AreWalksOf at s (part_at d n ∷ drop (suc n) d.parts) (pushed.walk ∷ ys) = (pushed.is, there) in
          subst (λ (ws : List PartWalk). AreWalksOf a s d.parts ws) (sym (append_assoc xs (pushed.walk ∷ []) ys) ∙ ap (λ (ws : List PartWalk). ws ++ ys) (sym pushed.behind))
          (h.rest (pushed.walk ∷ ys) (subst (λ (ps : List Part). AreWalksOf at s ps (pushed.walk ∷ ys)) (sym (drop-cons d.parts n no_part l)) both));
      source = omega (arith, h.source, source);
      dim = omega (arith, h.dim, dim);
    }

pub passed-all : (a : PartStart) (s : Shape) (d : Declaration) (n : ℕ) (at : PartStart) (xs : List PartWalk) → ArePassed a s d n at xs → length d.parts ≤ n → AreWalksOf a s d.parts xs
passed-all a s d n at xs h past =
    subst (λ (ws : List PartWalk). AreWalksOf a s d.parts ws) (append-nil xs) (h.rest [] (subst (λ (ps : List Part). AreWalksOf at s ps []) (sym (drop_of_length-le d.parts past)) tt))

-- the dims of the first n parts
pub record AreCounted (d : Declaration) (n count : ℕ) : Type 0 where
  pub is : count + dim_count (drop n d.parts) ≡ dim_count d.parts
  pub few : count ≤ 48 * n

pub counted-none : (d : Declaration) → AreCounted d 0 0
counted-none d = record { is = omega arith; few = omega arith }

pub counted-more : (d : Declaration) (n count levels : ℕ) → AreCounted d n count → n < length d.parts → levels ≡ length (part_at d n).levels → levels ≤ 16 → AreCounted d (suc n) (count + (16 + 2 * levels))
counted-more d n count levels h l is few =
    record { is = omega (arith, h.is, is, ap dim_count (drop-cons d.parts n no_part l)); few = omega (arith, h.few, few) }

pub counted-all : (d : Declaration) (n count : ℕ) → AreCounted d n count → length d.parts ≤ n → count ≡ dim_count d.parts
counted-all d n count h past = omega (arith, h.is, ap dim_count (drop_of_length-le d.parts past))

-- the places and the steps of a part's plan
pub walk-is : (a : PartStart) (s : Shape) (p : Part) (x : PartWalk) (plan : Steps) (steps : List PlanStep) → ArePlacesOf a s p x.places → plan ≡ plan_for p → x.steps.items ≡ steps → HasSteps plan steps → StepsRecover plan steps
    → IsStepOf plan RowIndex x.row → IsStepOf plan ColIndex x.col → IsWalkOf a s p x
walk-is a s p x plan steps places is copied numbered recovers row col =
    record {
      places = places;
      steps = subst (λ (t : Steps). HasSteps t x.steps.items) is (subst (λ (ts : List PlanStep). HasSteps plan ts) (sym copied) numbered);
      recover = subst (λ (t : Steps). StepsRecover t x.steps.items) is (subst (λ (ts : List PlanStep). StepsRecover plan ts) (sym copied) recovers);
      row = subst (λ (t : Steps). IsStepOf t RowIndex x.row) is row;
      col = subst (λ (t : Steps). IsStepOf t ColIndex x.col) is col;
    }
