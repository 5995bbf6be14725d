-- Passes over the nodes, and the start.
use Rattle.std.proofs.Common.{◌≡◌, ℕ, zero, suc, ◌+◌, ◌-◌, ◌<◌, ◌≤◌, List, drop, drop-cons, add-one, length, Bool, true, false, sym, refl, ap, ap₂, ◌∙◌, subst, arith}
use Rattle.std.proofs.lemmas.Bool.{false≢true}
use Rattle.std.proofs.lemmas.List.{drop_all}
use Rattle.us_expr.specs.Tree.{Tree, RowIndex}
use Rattle.us_format.specs.Declaration.{Query}
use Rattle.us_format.specs.Known.{Steps, step_for, one_pass, passes}
use Rattle.us_known.specs.declared.table.Node.{Node}
use Rattle.us_invert.specs.declared.making.Making.{Making}
use Rattle.us_known.specs.Table.{tree_at, trees}
use Rattle.us_invert.specs.Made.{made_steps, IsMaking}
use Rattle.us_known.proofs.NodeTrees.{length-trees}

-- in a pass, before the node e: what is left of it gives the whole
pub record IsOnPass (ns : List Node) (qs : List Query) (initial now : Making) (e : ℕ) (changed : Bool) : Type 0 where
  pub making : IsMaking ns now
  pub steps : one_pass (trees ns) qs (drop e (trees ns)) (made_steps ns now) ≡ one_pass (trees ns) qs (trees ns) (made_steps ns initial)
  pub idle : changed ≡ false → made_steps ns now ≡ made_steps ns initial

-- after n passes: those that are left give all
pub record IsAfter (ns : List Node) (qs : List Query) (initial now : Making) (n : ℕ) : Type 0 where
  pub making : IsMaking ns now
  pub steps : passes (length ns - n) (trees ns) qs (made_steps ns now) ≡ passes (length ns) (trees ns) qs (made_steps ns initial)

module _ (ns : List Node) (qs : List Query) (initial : Making) where
  pub on-start : IsMaking ns initial → IsOnPass ns qs initial initial 0 false
  on-start h = record { making = h; steps = refl; idle = λ _. refl }

  one-more : (now after : Making) (e : ℕ) (b c : Bool) → IsOnPass ns qs initial now e b → e < length ns → IsMaking ns after → made_steps ns after ≡ step_for (trees ns) qs (made_steps ns now) (tree_at (trees ns) e)
      → (c ≡ false → made_steps ns after ≡ made_steps ns initial) → IsOnPass ns qs initial after (e + 1) c
  one-more now after e b c h l m s i = record {
    making = m;
    steps =
        ap₂ (λ (k : ℕ) (z : Steps). one_pass (trees ns) qs (drop k (trees ns)) z) (add-one e) s
        ∙ sym (ap (λ (us : List Tree). one_pass (trees ns) qs us (made_steps ns now)) (drop-cons (trees ns) e RowIndex (subst (λ (k : ℕ). e < k) (sym (length-trees ns)) l)))
        ∙ h.steps;
    idle = i;
  }

  -- a new step
  pub on-more : (now after : Making) (e : ℕ) (b : Bool) → IsOnPass ns qs initial now e b → e < length ns → IsMaking ns after → made_steps ns after ≡ step_for (trees ns) qs (made_steps ns now) (tree_at (trees ns) e)
      → IsOnPass ns qs initial after (e + 1) true
  on-more now after e b h l m s = one-more now after e b true h l m s (λ f. absurd (false≢true (sym f)))

  -- no new step
  pub on-same : (now after : Making) (e : ℕ) (b : Bool) → IsOnPass ns qs initial now e b → e < length ns → IsMaking ns after → made_steps ns after ≡ step_for (trees ns) qs (made_steps ns now) (tree_at (trees ns) e)
      → made_steps ns after ≡ made_steps ns now → IsOnPass ns qs initial after (e + 1) b
  on-same now after e b h l m s i = one-more now after e b b h l m s (λ f. i ∙ h.idle f)

  pub on-end : (now : Making) (e : ℕ) (b : Bool) → length ns ≤ e → IsOnPass ns qs initial now e b → made_steps ns now ≡ one_pass (trees ns) qs (trees ns) (made_steps ns initial)
  on-end now e b l h =
      sym (ap (λ (us : List Tree). one_pass (trees ns) qs us (made_steps ns now)) (drop_all e (trees ns) (subst (λ (k : ℕ). k ≤ e) (sym (length-trees ns)) l))) ∙ h.steps

  pub after-start : IsMaking ns initial → IsAfter ns qs initial initial 0
  after-start h = record { making = h; steps = ap (λ (k : ℕ). passes k (trees ns) qs (made_steps ns initial)) (less_zero (length ns)) }
    where
      less_zero : (a : ℕ) → a - 0 ≡ a
      less_zero a = omega arith

  left : (n : ℕ) → n < length ns → length ns - n ≡ suc (length ns - (n + 1))
  left n l = omega (arith, l)

  pub after-more : (now new : Making) (n : ℕ) → IsAfter ns qs initial now n → n < length ns → IsMaking ns new → made_steps ns new ≡ one_pass (trees ns) qs (trees ns) (made_steps ns now) → IsAfter ns qs initial new (n + 1)
  after-more now new n h l m s = record {
    making = m;
    steps =
        ap (passes (length ns - (n + 1)) (trees ns) qs) s
        ∙ sym (ap (λ (k : ℕ). passes k (trees ns) qs (made_steps ns now)) (left n l)) ∙ h.steps;
  }

  -- a pass that gives nothing: so do all later ones
  stays : (k : ℕ) (steps : Steps) → one_pass (trees ns) qs (trees ns) steps ≡ steps → passes k (trees ns) qs steps ≡ steps
  stays zero steps h = refl
  stays (suc k) steps h = ap (passes k (trees ns) qs) h ∙ stays k steps h

  pub after-idle : (now new : Making) (n : ℕ) → IsAfter ns qs initial now n → made_steps ns new ≡ one_pass (trees ns) qs (trees ns) (made_steps ns now) → made_steps ns new ≡ made_steps ns now
      → made_steps ns new ≡ passes (length ns) (trees ns) qs (made_steps ns initial)
  after-idle now new n h s i = i ∙ sym (stays (length ns - n) (made_steps ns now) (sym s ∙ i)) ∙ h.steps

  pub after-end : (now : Making) (n : ℕ) → length ns ≤ n → IsAfter ns qs initial now n → made_steps ns now ≡ passes (length ns) (trees ns) qs (made_steps ns initial)
  after-end now n l h = sym (ap (λ (k : ℕ). passes k (trees ns) qs (made_steps ns now)) (none (length ns) n l)) ∙ h.steps
    where
      none : (a b : ℕ) → a ≤ b → a - b ≡ 0
      none a b l = omega (arith, l)
