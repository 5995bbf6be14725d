-- Where the pieces with buffers of their own stand.
use Rattle.std.specs.Prelude.{◌≡◌, ℕ, zero, suc, ◌+◌, ◌≤◌, ◌<◌, List, [], ◌∷◌, ◌++◌, None, length, drop, filter}
use Rattle.us_format.specs.declared.Kind.{Kind}
use Rattle.us_format.specs.Declaration.{Part}
use Rattle.us_format.specs.Packs.{Piece, level_pieces, own_pieces}
use Rattle.us_format.specs.Reading.{buffer_count, extent_count, table_count}
use Rattle.us_judge.specs.Buffers.{is_own}
use Rattle.us_decl.specs.Declares.{Declared, IsValid}
use Rattle.us_judge.specs.Acceptance.{first_refusal}
use Rattle.us_judge.specs.Format.{part_at}
use Rattle.us_judge.specs.Short.{IsShort}
use Rattle.us_judge.specs.Views.{declaration_of}

-- the own piece whose buffer has the number n, and those behind it, are those of the level k, of this kind, and of what follows
pub record AreOwnFrom (p : Part) (n k : ℕ) (kind : Kind) : Type 0 where
  pub number : ℕ
  pub more : List Piece
  pub is : n ≡ extent_count p + table_count p + number
  pub rest : drop number (own_pieces p) ≡ filter (is_own p) (level_pieces k kind ++ more)

-- a valid declaration that breaks no rule
pub record IsAccepted (d : Declared) : Type 0 where
  pub valid : IsValid d
  pub kept : first_refusal (declaration_of d) ≡ None

-- the part with the number k, counted from 0, of an accepted declaration
pub record IsPartOf (d : Declared) (k : ℕ) (p : Part) : Type 0 where
  pub accepted : IsAccepted d
  pub there : k < length (declaration_of d).parts
  pub short : IsShort p
  pub few : length p.levels ≤ 6
  pub is : p ≡ part_at (declaration_of d) k

-- how many buffers stand before the part k
abbrev pub buffers_before : List Part → ℕ → ℕ
buffers_before ps zero = 0
buffers_before [] (suc k) = 0
buffers_before (p ∷ ps) (suc k) = buffer_count p + buffers_before ps k
