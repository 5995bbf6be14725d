-- The range of a variable, query by query.
use Rattle.std.proofs.Common.{◌≡◌, ℕ, ◌+◌, ◌<◌, ◌≤◌, List, ◌∷◌, map, length, get_or, drop, Bool, true, false, cond, Option, Some, None, sym, refl, ap, ap₂, ◌∙◌, arith, eqb}
use Rattle.std.proofs.lemmas.List.{drop_all, drop_more}
use Rattle.us_expr.specs.Range.{index_range}
use Rattle.us_expr.specs.declared.queries.Query.{Query as QueryCode}
use Rattle.us_expr.specs.declared.ranges.Range.{Range}
use Rattle.us_format.specs.Coordinates.{variable_range}
use Rattle.us_format.specs.Declaration.{Enumerate, Query, Reorder, Schedule, SumOf, query_of}
use Rattle.us_format.specs.Matrix.{Shape}
use Rattle.us_build.specs.Ranges.{range_by}

-- the range, or the rest
abbrev pub or_rest : Option Range → Range → Range
or_rest None rest = rest
or_rest (Some r) rest = r

or-cond : (b : Bool) (r rest : Range) → cond b r rest ≡ or_rest (cond b (Some r) None) rest
or-cond true r rest = refl
or-cond false r rest = refl

pub first-decides : (s : Shape) (n : ℕ) (ns : List ℕ) (q : Query) (qs : List Query) (v : ℕ) → variable_range s (n ∷ ns) (q ∷ qs) v ≡ or_rest (range_by s n q v) (variable_range s ns qs v)
first-decides s n ns (SumOf w e) qs v = refl
first-decides s n ns (Enumerate w e) qs v = or-cond (eqb w v) _ _
first-decides s n ns (Reorder w t) qs v = or-cond (eqb w v) _ _
first-decides s n ns (Schedule l u t k) qs v = go (eqb l v) (eqb u v)
  where
    go : (b c : Bool) → cond b (index_range k) (cond c (index_range n) (variable_range s ns qs v)) ≡ or_rest (cond b (Some (index_range k)) (cond c (Some (index_range n)) None)) (variable_range s ns qs v)
    go true c = refl
    go false true = refl
    go false false = refl

-- the first k queries do not name the variable
abbrev pub IsLeft : Shape → List ℕ → List QueryCode → ℕ → ℕ → Type 0
IsLeft s ns qs v k = variable_range s ns (map query_of qs) v ≡ variable_range s (drop k ns) (map query_of (drop k qs)) v

module _ (s : Shape) (ns : List ℕ) (qs : List QueryCode) (v k d : ℕ) (q : QueryCode) (h : k < length qs) (long : length ns ≡ length qs) (left : IsLeft s ns qs v k) where
  split : variable_range s ns (map query_of qs) v ≡ or_rest (range_by s (get_or ns k d) (query_of (get_or qs k q)) v) (variable_range s (drop (k + 1) ns) (map query_of (drop (k + 1) qs)) v)
  split =
      left
      ∙ ap₂ (λ (x : List ℕ) (y : List QueryCode). variable_range s x (map query_of y) v) (drop_more ns k d (omega (arith, h, long))) (drop_more qs k q h)
      ∙ first-decides s (get_or ns k d) (drop (k + 1) ns) (query_of (get_or qs k q)) (map query_of (drop (k + 1) qs)) v

  pub named-here : (r : Range) → range_by s (get_or ns k d) (query_of (get_or qs k q)) v ≡ Some r → r ≡ variable_range s ns (map query_of qs) v
  named-here r e = sym (split ∙ ap (λ (o : Option Range). or_rest o (variable_range s (drop (k + 1) ns) (map query_of (drop (k + 1) qs)) v)) e)

  pub named-later : range_by s (get_or ns k d) (query_of (get_or qs k q)) v ≡ None → IsLeft s ns qs v (k + 1)
  named-later e = split ∙ ap (λ (o : Option Range). or_rest o (variable_range s (drop (k + 1) ns) (map query_of (drop (k + 1) qs)) v)) e

pub named-nowhere : (s : Shape) (ns : List ℕ) (qs : List QueryCode) (v k : ℕ) → length qs ≤ k → IsLeft s ns qs v k → index_range 1 ≡ variable_range s ns (map query_of qs) v
named-nowhere s ns qs v k h left = sym (left ∙ ap (λ (y : List QueryCode). variable_range s (drop k ns) (map query_of y) v) (drop_all k qs h))
