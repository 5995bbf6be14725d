-- The expressions whose numbers are flagged.
use Rattle.std.proofs.Common.{◌≡◌, ℕ, zero, suc, ◌<◌, List, [], ◌∷◌, length, Bool, true, false, sym, refl, ◌∙◌, subst, inl, inr, arith}
use Rattle.std.proofs.lemmas.Bool.{false≢true}
use Rattle.us_expr.specs.Tree.{Tree}
use Rattle.us_format.specs.Known.{has}
use Rattle.us_format.proofs.Order.{Mem}
use Rattle.us_format.proofs.Trees.{Mem-has, has-Mem}
use Rattle.us_known.specs.declared.table.Node.{Node}
use Rattle.us_known.specs.Table.{tree_at, trees, IsTable, IsNumberOf}
use Rattle.us_known.specs.Rules.{flag}
use Rattle.us_known.specs.Flags.{flagged}
use Rattle.us_known.proofs.NodeTrees.{length-trees, at-has}

pub same-bool : (a b : Bool) → (a ≡ true → b ≡ true) → (b ≡ true → a ≡ true) → a ≡ b
same-bool true b f g = sym (f refl)
same-bool false true f g = g refl
same-bool false false f g = refl

pub flagged-Mem : (ts : List Tree) (bs : List Bool) (t : Tree) → Mem t (flagged ts bs) → (k : ℕ) × (k < length ts) × (tree_at ts k ≡ t) × (flag bs k ≡ true)
flagged-Mem [] bs t m = absurd m
flagged-Mem (u ∷ ts) [] t m = absurd m
flagged-Mem (u ∷ ts) (true ∷ bs) t (inl e) = (zero, omega arith, e, refl)
flagged-Mem (u ∷ ts) (true ∷ bs) t (inr m) = let r = flagged-Mem ts bs t m in (suc r.0, omega (arith, r.1), r.2, r.3)
flagged-Mem (u ∷ ts) (false ∷ bs) t m = let r = flagged-Mem ts bs t m in (suc r.0, omega (arith, r.1), r.2, r.3)

pub Mem-flagged : (ts : List Tree) (bs : List Bool) (k : ℕ) → k < length ts → flag bs k ≡ true → Mem (tree_at ts k) (flagged ts bs)
Mem-flagged [] bs k l h = absurd (omega (arith, l))
Mem-flagged (u ∷ ts) [] k l h = absurd (false≢true h)
Mem-flagged (u ∷ ts) (true ∷ bs) zero l h = inl refl
Mem-flagged (u ∷ ts) (false ∷ bs) zero l h = absurd (false≢true h)
Mem-flagged (u ∷ ts) (true ∷ bs) (suc k) l h = inr (Mem-flagged ts bs k (omega (arith, l)) h)
Mem-flagged (u ∷ ts) (false ∷ bs) (suc k) l h = Mem-flagged ts bs k (omega (arith, l)) h

module _ (ns : List Node) (table : IsTable ns) (bs : List Bool) where
  pub flagged-at : (k : ℕ) → k < length ns → has (flagged (trees ns) bs) (tree_at (trees ns) k) ≡ flag bs k
  flagged-at k l = same-bool (has (flagged (trees ns) bs) (tree_at (trees ns) k)) (flag bs k) there back
    where
      there : has (flagged (trees ns) bs) (tree_at (trees ns) k) ≡ true → flag bs k ≡ true
      there h =
          let r = flagged-Mem (trees ns) bs (tree_at (trees ns) k) (Mem-has (flagged (trees ns) bs) (tree_at (trees ns) k) h) in
          subst (λ (j : ℕ). flag bs j ≡ true) (table.apart r.0 k (omega (arith, r.1, length-trees ns)) l r.2) r.3

      back : flag bs k ≡ true → has (flagged (trees ns) bs) (tree_at (trees ns) k) ≡ true
      back h = has-Mem (flagged (trees ns) bs) (tree_at (trees ns) k) (Mem-flagged (trees ns) bs k (omega (arith, l, length-trees ns)) h)

  pub flagged-number : (n : ℕ) (e : Tree) → IsNumberOf ns n e → has (flagged (trees ns) bs) e ≡ flag bs n
  flagged-number n e h = subst (λ (t : Tree). has (flagged (trees ns) bs) t ≡ flag bs n) h.is (flagged-at n h.below)

  -- the number of a flagged expression
  pub flagged-has : (e : Tree) → has (flagged (trees ns) bs) e ≡ true → (k : ℕ) × (k < length ns) × (tree_at (trees ns) k ≡ e) × (flag bs k ≡ true)
  flagged-has e h = let r = flagged-Mem (trees ns) bs e (Mem-has (flagged (trees ns) bs) e h) in (r.0, subst (λ (n : ℕ). r.0 < n) (length-trees ns) r.1, r.2, r.3)

  pub flagged-absent : (e : Tree) → has (trees ns) e ≡ false → has (flagged (trees ns) bs) e ≡ false
  flagged-absent e n = same-bool (has (flagged (trees ns) bs) e) false
      (λ h. let r = flagged-has e h in absurd (false≢true (sym n ∙ subst (λ (z : Tree). has (trees ns) z ≡ true) r.2 (at-has ns table r.0 r.1)))) (λ h. absurd (false≢true h))
