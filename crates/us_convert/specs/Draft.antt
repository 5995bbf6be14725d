-- A program in the making.
use Rattle.std.specs.Prelude.{Bool, true, false, ◌≡◌, ℕ, ◌+◌, ◌≤◌, List, ◌++◌, map}
use Rattle.us_format.specs.Matrix.{Shape}
use Rattle.us_format.specs.Declaration.{Declaration}
use Rattle.us_code.specs.Plain.{PhaseTree, phase_tree}
use Rattle.us_right.specs.Piece.{MakesPart}
use Rattle.us_right.specs.Laws.{SameRows}
use Rattle.us_right.specs.Draft.{IsMadeTo}
use Rattle.us_convert.specs.declared.draft.Draft.{Draft}

-- it lists the entries of f, and builds the first k parts of d
pub record IsDraft (sorts : Bool) (s : Shape) (f d : Declaration) (k : ℕ) (x : Draft) : Type 0 where
  pub made : IsMadeTo sorts s f d x.columns k x.fresh (map phase_tree x.phases) x.give

-- the part k is built behind what was there
pub record AddsPart (sorts : Bool) (s : Shape) (d : Declaration) (k : ℕ) (old new : Draft) : Type 0 where
  pub made : List PhaseTree
  pub built : List ℕ
  pub piece : MakesPart sorts s d k old.columns old.fresh new.fresh made built
  pub columns : new.columns ≡ old.columns
  pub phases : map phase_tree new.phases ≡ map phase_tree old.phases ++ made
  pub give : new.give ≡ old.give ++ built
  pub higher : old.fresh ≤ new.fresh
  pub near : new.fresh ≤ old.fresh + 4096

-- what was a draft of no part is one of the first k parts
abbrev pub AddsParts : Shape → Declaration → ℕ → Draft → Draft → Type 0
AddsParts s d k old new = (f : Declaration) → IsDraft true s f d 0 old → IsDraft true s f d k new

-- so by phases that don't put entries in order
abbrev pub AddsSorted : Shape → Declaration → Draft → Draft → Type 0
AddsSorted s d old new = (f : Declaration) → SameRows f d → IsDraft false s f d 0 old → IsDraft false s f d 1 new
