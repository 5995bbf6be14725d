-- Each step of a recovery gives the value of its expression at the entry.
use Rattle.std.proofs.Common.{◌≡◌, ◌⊎◌, List, [], ◌∷◌, ◌++◌, length, Bool, true, false, cond, ◌&&◌, subst, inl, inr, arith}
use Rattle.std.proofs.lemmas.Bool.{or_right}
use Rattle.std.proofs.lemmas.List.{take_all}
use Rattle.us_expr.specs.Tree.{Tree, RowIndex, ColIndex}
use Rattle.us_format.proofs.Order.{Mem}
use Rattle.us_format.proofs.Trees.{has-Mem}
use Rattle.us_format.proofs.Chain.{Chain, chain-given}
use Rattle.us_format.proofs.Agree.{Sound, lies}
use Rattle.us_format.proofs.RecoverLaw.{IsFound, Member, has-snoc, step-value}
use Rattle.us_format.specs.Declaration.{Part}
use Rattle.us_format.specs.Known.{Steps, given_steps, has}
use Rattle.us_format.specs.Matrix.{Entry, Shape}
use Rattle.us_format.specs.Recover.{until_both}
use Rattle.us_format_loops.specs.Laws.{found_of, GiveValues}

module _ (s : Shape) (p : Part) (m : List Entry) (so : Sound m s p) (x : Entry) (mx : Mem x m) (fo : IsFound m s p so x mx (found_of s p m x)) where
  abbrev pub IsIn : Tree → Type 0
  IsIn = Member m s p so x mx (found_of s p m x)

  pub gives : (steps : Steps) (known es : List Tree) → Chain IsIn p.queries p.levels known steps → ((t : Tree) → has known t ≡ true → has es t ≡ true) → ((t : Tree) → Mem t es → IsIn t) → GiveValues s p m x es steps
  gives [] known es c sub v = tt
  gives (a ∷ steps) known es c sub v =
      (step-value m s p so x mx (found_of s p m x) fo es known a.0 a.1 sub v c.1, lies m s p so x mx a.0 c.0, gives steps (known ++ a.0 ∷ []) (a.0 ∷ es) c.2 more within)
    where
      more : (t : Tree) → has (known ++ a.0 ∷ []) t ≡ true → has (a.0 ∷ es) t ≡ true
      more t h = pick (has-snoc m s p so x mx (found_of s p m x) known a.0 t h)
        where
          pick : ((has known t ≡ true) ⊎ (a.0 ≡ t)) → has (a.0 ∷ es) t ≡ true
          pick (inl k) = or_right _ _ (sub t k)
          pick (inr q) = has-Mem (a.0 ∷ es) t (inl q)

      within : (t : Tree) → Mem t (a.0 ∷ es) → IsIn t
      within t (inl q) = subst (λ (z : Tree). IsIn z) q c.0
      within t (inr h) = v t h

  pub all-give : GiveValues s p m x [] (given_steps p.levels p.queries (length p.levels))
  all-give =
      gives (given_steps p.levels p.queries (length p.levels)) [] []
      (subst (λ (l : List Tree). Chain IsIn p.queries l [] (given_steps p.levels p.queries (length p.levels))) (take_all (length p.levels) p.levels (omega arith))
      (chain-given IsIn p.levels p.queries (length p.levels) (λ e k. k)))
      (λ t h. h) (λ t h. absurd h)

-- the steps up to one of them
pub plan-gives : (s : Shape) (p : Part) (m : List Entry) (x : Entry) (steps : Steps) (known es : List Tree) → GiveValues s p m x es steps → GiveValues s p m x es (until_both known steps)
plan-gives s p m x [] known es g = tt
plan-gives s p m x (a ∷ steps) known es g = go (has known RowIndex && has known ColIndex) (plan-gives s p m x steps (a.0 ∷ known) (a.0 ∷ es) g.2)
  where
    go : (b : Bool) → GiveValues s p m x (a.0 ∷ es) (until_both (a.0 ∷ known) steps) → GiveValues s p m x es (cond b [] (a ∷ until_both (a.0 ∷ known) steps))
    go true ih = tt
    go false ih = (g.0, g.1, ih)
