-- The entries of the parts of a declaration are those of the matrix.
use Rattle.std.proofs.Common.{◌≡◌, suc, ◌+◌, List, [], ◌∷◌, length, Bool, true, false, cond, not, sym, refl, ◌∙◌, subst, inl, inr, arith, sum_by, filter}
use Rattle.std.proofs.lemmas.List.Sums.{sum_by-cons}
use Rattle.us_expr.specs.declared.queries.Cond.{Cond}
use Rattle.us_format.proofs.Order.{Mem}
use Rattle.us_format.proofs.Members.{contains-Mem, Mem-contains, item-Mem}
use Rattle.us_format.proofs.Shares.{share_of, shares-there}
use Rattle.us_format.proofs.Whole.{part-lawful, packs-lawful, part-matrix, contents-held}
use Rattle.us_format.specs.Buffers.{holds, parts_of, shares}
use Rattle.us_format.specs.Declaration.{Part}
use Rattle.us_format.specs.Matrix.{Entry}
use Rattle.us_format_loops.proofs.Counts.{Mem-of_filter}
use Rattle.us_format_loops.specs.Laws.{PartsShareEntries}

pub length-both : (f : Entry → Bool) (m : List Entry) → length (filter f m) + length (filter (λ x. not (f x)) m) ≡ length m
length-both f [] = refl
length-both f (x ∷ xs) = go (f x) (length-both f xs)
  where
    go : (b : Bool) → length (filter f xs) + length (filter (λ y. not (f y)) xs) ≡ length xs
        → length (cond b (x ∷ filter f xs) (filter f xs)) + length (cond (not b) (x ∷ filter (λ y. not (f y)) xs) (filter (λ y. not (f y)) xs)) ≡ suc (length xs)
    go true h = omega (arith, h)
    go false h = omega (arith, h)

module _ (test : Cond → Entry → Bool) where
  pub shares-length : (cs : List Cond) (ps : List Part) (m : List Entry) → length ps ≡ length cs + 1 → sum_by (λ (y : Part × List Entry). length y.1) (shares test cs ps m) ≡ length m
  shares-length [] [] m h = absurd (omega (arith, h))
  shares-length (c ∷ cs) [] m h = absurd (omega (arith, h))
  shares-length [] (p ∷ ps) m h = sum_by-cons (λ (y : Part × List Entry). length y.1) (p, m) [] ∙ omega arith
  shares-length (c ∷ cs) (p ∷ ps) m h =
      sum_by-cons (λ (y : Part × List Entry). length y.1) (p, filter (test c) m) (shares test cs ps (filter (λ x. not (test c x)) m))
      ∙ omega (arith, shares-length cs ps (filter (λ x. not (test c x)) m) (omega (arith, h)), length-both (test c) m)

  pub shares-member : (cs : List Cond) (ps : List Part) (m : List Entry) (y : Part × List Entry) (x : Entry) → Mem y (shares test cs ps m) → Mem x y.1 → Mem x m
  shares-member [] [] m y x h k = absurd h
  shares-member (c ∷ cs) [] m y x h k = absurd h
  shares-member [] (p ∷ ps) m y x (inl e) k = subst (λ (z : Part × List Entry). Mem x z.1) (sym e) k
  shares-member [] (p ∷ ps) m y x (inr h) k = absurd h
  shares-member (c ∷ cs) (p ∷ ps) m y x (inl e) k = (Mem-of_filter (test c) x m (subst (λ (z : Part × List Entry). Mem x z.1) (sym e) k)).0
  shares-member (c ∷ cs) (p ∷ ps) m y x (inr h) k = (Mem-of_filter (λ x. not (test c x)) x m (shares-member cs ps (filter (λ x. not (test c x)) m) y x h k)).0

pub parts-share-entries : PartsShareEntries
parts-share-entries s d m la im = record {
  lawful = λ x cx. let mx = contains-Mem (parts_of s d m) x cx in (part-lawful s d m la x mx, packs-lawful s d m la x mx, part-matrix s d m la im x mx);
  held = contents-held s d m la;
  number = shares-length (holds m s d) d.conds d.parts m la.one_more;
  from = λ x cx e ce. Mem-contains m e (shares-member (holds m s d) d.conds d.parts m x e (contains-Mem (parts_of s d m) x cx) (contains-Mem x.1 e ce));
  there = λ e ce.
      let r = shares-there (holds m s d) d.conds d.parts m e la.one_more (contains-Mem m e ce) in
      (r.0, Mem-contains (parts_of s d m) r.0 (item-Mem (parts_of s d m) (share_of (holds m s d) d.conds e) r.0 r.1), Mem-contains r.0.1 e r.2);
}
