-- The value of a variable is given by the first query that defines it.
use Rattle.std.proofs.Common.{◌≡◌, ℕ, List, [], ◌∷◌, ◌++◌, Bool, true, false, cond, eqb, pos, sym, refl, ap, ap₂, ◌∙◌, eq-eqb}
use Rattle.std.proofs.lemmas.Bool.{false≢true, ne_eqb, or_parts}
use Rattle.us_format.specs.Declaration.{Enumerate, Query, Reorder, Schedule, SumOf, axis_of, defined}
use Rattle.us_format.specs.Lists.{among}
use Rattle.us_format.specs.Matrix.{Entry, Shape, index_at}
use Rattle.us_format.specs.Queries.{enumerate_at, lane_at, rank_of, slot_at, sum_at, variable_at}
use Rattle.us_query_loops.specs.Laws.{QueriesDefine, QueriesDefineVariables}

other-way : (v w : ℕ) → eqb v w ≡ false → eqb w v ≡ false
other-way v w h = ne_eqb w v (λ e. false≢true (sym h ∙ eq-eqb v w (sym e)))

itself : (v : ℕ) → eqb v v ≡ true
itself v = eq-eqb v v refl

module _ (m : List Entry) (s : Shape) (x : Entry) where
  skipped : (before after : List Query) (v : ℕ) → among v (defined before) ≡ false → variable_at m s (before ++ after) v x ≡ variable_at m s after v x
  skipped [] after v h = refl
  skipped (SumOf w e ∷ qs) after v h =
      let p = or_parts (eqb v w) (among v (defined qs)) h in
      ap (λ (b : Bool). cond b (pos (sum_at m e x)) (variable_at m s (qs ++ after) v x)) (other-way v w p.0) ∙ skipped qs after v p.1
  skipped (Enumerate w e ∷ qs) after v h =
      let p = or_parts (eqb v w) (among v (defined qs)) h in
      ap (λ (b : Bool). cond b (pos (enumerate_at m e x)) (variable_at m s (qs ++ after) v x)) (other-way v w p.0) ∙ skipped qs after v p.1
  skipped (Reorder w t ∷ qs) after v h =
      let p = or_parts (eqb v w) (among v (defined qs)) h in
      ap (λ (b : Bool). cond b (pos (rank_of m s (axis_of t) (index_at (axis_of t) x))) (variable_at m s (qs ++ after) v x)) (other-way v w p.0) ∙ skipped qs after v p.1
  skipped (Schedule l u t n ∷ qs) after v h =
      let p = or_parts (eqb v l) _ h in
      let q = or_parts (eqb v u) (among v (defined qs)) p.1 in
      ap₂
      (λ (b c : Bool). cond b (pos (lane_at m s (axis_of t) n (index_at (axis_of t) x))) (cond c (pos (slot_at m s (axis_of t) n (index_at (axis_of t) x))) (variable_at m s (qs ++ after) v x)))
      (other-way v l p.0) (other-way v u q.0)
      ∙ skipped qs after v q.1

  pub queries-define : QueriesDefine m s x
  queries-define = record {
    later = skipped;
    sum = λ v e qs. ap (λ (b : Bool). cond b (pos (sum_at m e x)) (variable_at m s qs v x)) (itself v);
    enumerate = λ v e qs. ap (λ (b : Bool). cond b (pos (enumerate_at m e x)) (variable_at m s qs v x)) (itself v);
    reorder = λ v t qs. ap (λ (b : Bool). cond b (pos (rank_of m s (axis_of t) (index_at (axis_of t) x))) (variable_at m s qs v x)) (itself v);
    lane = λ l u t n qs.
        ap
        (λ (b : Bool). cond b (pos (lane_at m s (axis_of t) n (index_at (axis_of t) x))) (cond (eqb u l) (pos (slot_at m s (axis_of t) n (index_at (axis_of t) x))) (variable_at m s qs l x)))
        (itself l);
    slot = λ l u t n qs apart.
        ap₂
        (λ (b c : Bool). cond b (pos (lane_at m s (axis_of t) n (index_at (axis_of t) x))) (cond c (pos (slot_at m s (axis_of t) n (index_at (axis_of t) x))) (variable_at m s qs u x)))
        (ne_eqb l u apart) (itself u);
  }

pub queries-define-variables : QueriesDefineVariables
queries-define-variables = λ m s x. queries-define m s x
