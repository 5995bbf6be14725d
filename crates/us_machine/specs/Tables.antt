-- What the machine's tables stand for.
use Rattle.std.specs.Prelude.{ℕ, ◌+◌, ◌<◌, ◌^◌, cond, nat_lt, List, length, slice_index_or, ℤ, pos, ◌+ℤ◌, ◌*ℤ◌}
use Rattle.std.specs.Option.{unwrap_or}
use Rattle.std.specs.Int.{w64, cast_signed}
use Rattle.std.specs.Int.RustNames.{FitsSigned}
use Rattle.std.specs.BTreeMap.{get}
use Rattle.std.specs.Ordering.{nat_cmp}
use Rattle.us_code.specs.declared.program.Dim.{Dim}
use Rattle.us_code.specs.declared.program.Dim.TheVariants as dim
use Rattle.us_code.specs.declared.program.Buf.{Buf}
use Rattle.us_code.specs.declared.program.Buf.TheVariants as buf
use Rattle.us_code.specs.declared.program.CellKind.{CellKind}
use Rattle.us_code.specs.declared.program.CellKind.TheVariants as kind
use Rattle.us_code.specs.Plain.{TermTree, Number, Reg, Size, Flat, Next, Up, Add, Sub, Mul, Div, Rem}
use Rattle.us_code.specs.Run.{Env, value}
use Rattle.us_code.specs.Runs.{at_source}
use Rattle.us_machine.specs.declared.names.Names.{Names}
use Rattle.us_machine.specs.declared.names.Registers.{Registers}
use Rattle.us_machine.specs.declared.tables.Tables.{Tables}

-- the number of a name
unfoldable pub held : Names → ℕ → ℕ
held t x = cond (nat_lt x (length t.low.items)) (slice_index_or t.low.items x 0) (unwrap_or (get nat_cmp t.high x) 0)

-- what a register holds
unfoldable pub regs_of : Registers → ℕ → ℤ
regs_of r x = cast_signed w64 (held r.names x)

-- the dims, and the sources
abbrev pub env_of : Tables → List (List ℤ) → Env
env_of t sources = record { dims = held t.dims; factors = held t.factors; sources = at_source sources }

-- which list of the region a buffer is
abbrev pub seg_of : Tables → Buf → ℕ
seg_of t (buf.New b) = held t.segs b
seg_of t (buf.Source k) = k + 1

-- a dim whose value is below 2 ^ 63
abbrev pub IsSized : Tables → List (List ℤ) → Dim → Type 0
IsSized t sources (dim.Number n) = n < 2 ^ 63
IsSized t sources (dim.Name d) = held t.dims d < 2 ^ 63
IsSized t sources (dim.Len k) = (k < length sources) × (length (at_source sources k) < 2 ^ 63)

abbrev pub IsSizedCell : Tables → List (List ℤ) → CellKind → Type 0
IsSizedCell t sources kind.Word = Unit {0}
IsSizedCell t sources (kind.Below d) = IsSized t sources d

-- a term whose numbers fit in a word, also where the definition doesn't wrap them
abbrev pub IsEvaluable : Tables → List (List ℤ) → (ℕ → ℤ) → TermTree → Type 0
IsEvaluable t sources regs (Number n) = n < 2 ^ 63
IsEvaluable t sources regs (Reg r) = Unit {0}
IsEvaluable t sources regs (Size d) = IsSized t sources d
IsEvaluable t sources regs (Flat d p c) =
    IsEvaluable t sources regs p × IsEvaluable t sources regs c × (held t.factors d < 2 ^ 63)
    × FitsSigned w64 (value (env_of t sources) regs p *ℤ pos (held t.factors d) +ℤ value (env_of t sources) regs c)
IsEvaluable t sources regs (Next d x) = IsEvaluable t sources regs x × FitsSigned w64 (value (env_of t sources) regs x +ℤ pos 1)
IsEvaluable t sources regs (Up d x) = IsEvaluable t sources regs x
IsEvaluable t sources regs (Add a b) = IsEvaluable t sources regs a × IsEvaluable t sources regs b
IsEvaluable t sources regs (Sub a b) = IsEvaluable t sources regs a × IsEvaluable t sources regs b
IsEvaluable t sources regs (Mul a b) = IsEvaluable t sources regs a × IsEvaluable t sources regs b
IsEvaluable t sources regs (Div a k) = IsEvaluable t sources regs a × (0 < k) × (k < 2 ^ 63)
IsEvaluable t sources regs (Rem a k) = IsEvaluable t sources regs a × (0 < k) × (k < 2 ^ 63)
