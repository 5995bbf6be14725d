-- The tokens of a declaration's text.
use Rattle.std.specs.Prelude.{ℕ, List, Bool}
use Rattle.us_decl.specs.declared.mark.Mark.{Mark}
use Rattle.us_decl.specs.contracts.mark.Mark.{the_type}
use denote.Enum.Bare.{sameb}

-- a word or symbol that stands for itself, a name by its bytes, or a number by its value
pub data Token : Type 0 where
  Fixed : Mark → Token
  Name : List ℕ → Token
  Number : ℕ → Token

-- the test whether two marks are one
abbrev pub same : Mark → Mark → Bool
same = sameb the_type
