-- The laws of the limits, for every term, block and list of phases.
use Rattle.std.specs.Prelude.{◌≡◌, ℕ, ◌+◌, ◌≤◌, false, List, [], ◌∷◌, ◌++◌, length}
use Rattle.us_code.specs.Plain.{TermTree, Code, ◌+++◌, PhaseTree}
use Rattle.us_code.specs.Limits.{nodes, parens, FitsTerm, FitsMakes, FitsLines}
use Rattle.us_limits.specs.Small.{SmallTerm, Small, KeepText}
use Rattle.us_limits.specs.Orders.{has_order, HaveNoOrder}

-- no more parentheses are open at once than a term has nodes, so a term of at most 64 nodes fits
pub record TermsKeepLimits : Type 0 where
  pub parens_are : (place : ℕ) (e : TermTree) → parens place e ≤ nodes e
  pub few : (n : ℕ) (e : TermTree) → n ≤ 64 → SmallTerm n e → FitsTerm e

pub record BlocksKeepLimits : Type 0 where
  pub looser : (m n d e : ℕ) (c : Code) → m ≤ n → d ≤ e → Small m d c → Small n e c
  pub in_sequence : (m n d : ℕ) (a b : Code) → Small m d a → Small n d b → Small (m + n) d (a +++ b)

pub record PhasesKeepLimits : Type 0 where
  pub none : KeepText 0 []
  pub looser : (m n : ℕ) (ps : List PhaseTree) → m ≤ n → KeepText m ps → KeepText n ps
  pub in_sequence : (m n : ℕ) (a b : List PhaseTree) → KeepText m a → KeepText n b → KeepText (m + n) (a ++ b)
  pub one :
      (n : ℕ) (p : PhaseTree) → FitsMakes p.makes → Small n 64 p.body → FitsLines p.lines → KeepText (length p.makes + n + length p.lines) (p ∷ [])

pub record WithoutOrder : Type 0 where
  pub blocks : (a b : Code) → has_order a ≡ false → has_order b ≡ false → has_order (a +++ b) ≡ false
  pub phases : (a b : List PhaseTree) → HaveNoOrder a → HaveNoOrder b → HaveNoOrder (a ++ b)
