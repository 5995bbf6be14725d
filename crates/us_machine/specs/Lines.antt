-- What a dim line says.
use Rattle.std.specs.Prelude.{ℕ, ◌+◌, ◌*◌, ℤ, List}
use Rattle.us_code.specs.Plain.{LineTree, Of, Product, Successor}
use Rattle.us_code.specs.Run.{Env, size_of, value}
use Rattle.us_code.specs.Runs.{whole}
use Rattle.us_machine.specs.declared.tables.Tables.{Tables}
use Rattle.us_machine.specs.Tables.{IsSized, IsEvaluable}

abbrev pub line_dim : LineTree → ℕ
line_dim (Of d e) = d
line_dim (Product d l r) = d
line_dim (Successor d of) = d

abbrev pub line_value : Env → (ℕ → ℤ) → LineTree → ℕ
line_value env regs (Of d e) = whole (value env regs e)
line_value env regs (Product d l r) = size_of env l * size_of env r
line_value env regs (Successor d of) = size_of env of + 1

abbrev pub line_factor : Env → LineTree → ℕ
line_factor env (Of d e) = 0
line_factor env (Product d l r) = size_of env r
line_factor env (Successor d of) = 0

abbrev pub IsReadable : Tables → List (List ℤ) → (ℕ → ℤ) → LineTree → Type 0
IsReadable t sources regs (Of d e) = IsEvaluable t sources regs e
IsReadable t sources regs (Product d l r) = IsSized t sources l × IsSized t sources r
IsReadable t sources regs (Successor d of) = IsSized t sources of
