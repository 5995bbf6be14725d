-- The entries for which no earlier condition holds are those of a part.
use Rattle.std.specs.Prelude.{slice_get}
use Rattle.std.proofs.Common.{◌≡◌, ℕ, zero, suc, List, [], ◌∷◌, length, take, Bool, true, false, cond, not, ◌&&◌, sym, refl, ap, ap₂, ◌∙◌, arith, filter, Some, add-one, pos}
use Rattle.std.proofs.lemmas.List.Elements.{filter_more}
use Rattle.std.proofs.lemmas.List.Sums.{length-filter}
use Rattle.us_expr.specs.declared.queries.Cond.{Cond}
use Rattle.us_format.proofs.Collect.{filter-all}
use Rattle.us_format.specs.Buffers.{holds, shares}
use Rattle.us_format.specs.Declaration.{Part}
use Rattle.us_format.specs.Matrix.{Entry}
use Rattle.us_query_loops.proofs.Shuffling.{shuffled-filter}
use Rattle.us_query_loops.specs.Chosen.{goes_to, is_first}
use Rattle.us_query_loops.specs.Laws.{EntriesAreChosen}

twice : (p q : Entry → Bool) (xs : List Entry) → filter p (filter q xs) ≡ filter (λ y. q y && p y) xs
twice p q [] = refl
twice p q (x ∷ xs) = go (q x) (twice p q xs)
  where
    go : (t : Bool) → filter p (filter q xs) ≡ filter (λ y. q y && p y) xs
        → filter p (cond t (x ∷ filter q xs) (filter q xs)) ≡ cond (t && p x) (x ∷ filter (λ y. q y && p y) xs) (filter (λ y. q y && p y) xs)
    go true ih = ap (λ (l : List Entry). cond (p x) (x ∷ l) l) ih
    go false ih = ih

module _ (test : Cond → Entry → Bool) where
  share-is : (cs : List Cond) (ps : List Part) (m : List Entry) (k : ℕ) (p : Part) → length ps ≡ suc (length cs) → slice_get ps k ≡ Some p
      → slice_get (shares test cs ps m) k ≡ Some (p, filter (is_first test cs k) m)
  share-is [] [] m k p l h = absurd (omega (arith, l))
  share-is [] (q ∷ r ∷ ps) m k p l h = absurd (omega (arith, l))
  share-is [] (q ∷ []) m zero p l h =
      let e : q ≡ p = cc in
      ap₂ (λ (a : Part) (b : List Entry). Some (a, b)) e (sym (filter-all (is_first test [] zero) m (λ y _. refl)))
  share-is [] (q ∷ []) m (suc k) p l h = absurd (cc)
  share-is (c ∷ cs) [] m k p l h = absurd (omega (arith, l))
  share-is (c ∷ cs) (q ∷ ps) m zero p l h = let e : q ≡ p = cc in ap (λ (a : Part). Some (a, filter (test c) m)) e
  share-is (c ∷ cs) (q ∷ ps) m (suc k) p l h =
      share-is cs ps (filter (λ x. not (test c x)) m) k p (omega (arith, l)) h
      ∙ ap (λ (b : List Entry). Some (p, b)) (twice (is_first test cs k) (λ x. not (test c x)) m)

pub entries-are-chosen : EntriesAreChosen
entries-are-chosen = λ s d m es moved long k. record {
  part = λ p h. share-is (holds m s d) d.conds d.parts m k p long h;
  shuffled = shuffled-filter (goes_to m s d k) m es moved;
  more = λ x l.
      ap (λ (j : ℕ). filter (goes_to m s d k) (take j es)) (sym (add-one x)) ∙ filter_more (goes_to m s d k) es x (record { i = 0; j = 0; v = pos 0 }) l;
  number = λ x. length-filter (goes_to m s d k) (take x es);
}
