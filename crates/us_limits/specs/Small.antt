-- Terms, blocks and phases whose text keeps the limits, by how large they are.
use Rattle.std.specs.Prelude.{ℕ, ◌≤◌, List}
use Rattle.us_code.specs.Plain.{TermTree, Code, PhaseTree}
use Rattle.us_code.specs.Names.{count}
use Rattle.us_code.specs.Limits.{nodes, FitsNumbers, FitsTerms, depth, FitsPhases, items}

-- a term of at most n nodes, whose numbers fit
pub record SmallTerm (n : ℕ) (e : TermTree) : Type 0 where
  pub numbers : FitsNumbers e
  pub long : nodes e ≤ n

-- a block of at most n statements and d blocks in each other, whose terms fit
pub record Small (n d : ℕ) (c : Code) : Type 0 where
  pub terms : FitsTerms c
  pub deep : depth c ≤ d
  pub long : count c ≤ n

-- phases of at most n items, all of which fit
pub record KeepText (n : ℕ) (ps : List PhaseTree) : Type 0 where
  pub each : FitsPhases ps
  pub long : items ps ≤ n
