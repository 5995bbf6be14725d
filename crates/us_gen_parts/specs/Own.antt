-- A part of a format, and where the pieces that no pack has stand among its buffers.
use Rattle.std.specs.Prelude.{◌≡◌, ℕ, zero, suc, ◌+◌, ◌-◌, ◌≤◌, None, length, filter}
use Rattle.us_format.specs.Declaration.{Part}
use Rattle.us_format.specs.Kinds.{kind}
use Rattle.us_format.specs.Packs.{level_pieces}
use Rattle.us_format.specs.Reading.{extent_count, table_count}
use Rattle.us_decl.specs.Declares.{Declared, IsValid}
use Rattle.us_judge.specs.Acceptance.{first_refusal}
use Rattle.us_judge.specs.Buffers.{is_own}
use Rattle.us_judge.specs.Format.{part_at}
use Rattle.us_judge.specs.Short.{IsShort}
use Rattle.us_judge.specs.Views.{declaration_of}

-- the part with this number, counted from 1, of a valid declaration that breaks no rule
pub record IsPartOf (d : Declared) (number : ℕ) (p : Part) : Type 0 where
  pub valid : IsValid d
  pub accepted : first_refusal (declaration_of d) ≡ None
  pub from_one : 1 ≤ number
  pub there : number ≤ length (declaration_of d).parts
  pub short : IsShort p
  pub is : p ≡ part_at (declaration_of d) (number - 1)

-- how many pieces of the first k levels no pack has
abbrev pub own_below : Part → ℕ → ℕ
own_below p zero = 0
own_below p (suc k) = own_below p k + length (filter (is_own p) (level_pieces k (kind p k)))

-- the number in a part of the first buffer behind those of the first k levels
abbrev pub own_from : Part → ℕ → ℕ
own_from p k = extent_count p + table_count p + own_below p k
