-- Values of the program as what they stand for.
use Rattle.std.specs.Prelude.{◌≡◌, true, ◌<◌, ◌≤◌, ◌^◌, Option, Some, None, Result, Ok, Err}
use Rattle.std.specs.Option.{option_map}
use Rattle.us_status.specs.declared.status.Status.{Status}
use Rattle.us_format.specs.Matrix.{Shape}
use Rattle.us_matrix.specs.declared.shape.Shape as code
use Rattle.us_matrix.specs.Map.{IsSide}
use Rattle.us_top.specs.Commands as commands
use Rattle.us_inputs.specs.Chains.{is_chain}
use Rattle.us_top.specs.Running.{Made, Gives}
use Rattle.us_code.specs.Plain.{program_tree}
use Rattle.us_machine.specs.declared.running.Ran.{Ran}
use Rattle.us_unit.specs.Units.{PlainUnit}
use Rattle.us_top.specs.declared.target.Target.{Target}
use Rattle.us_top.specs.declared.result.Made as making
use Rattle.us_top.specs.declared.command.Command.{Command}
use Rattle.us_top.specs.declared.command.Command.TheVariants.{Advise, Blocks, Canon, Check, Convert, Run, Info, Compile, Generate, Product}

abbrev pub shape_view : code.Shape → Shape
shape_view s = record { rows = s.rows; cols = s.cols }

abbrev pub command_view : Command → commands.Command
command_view (Canon input output) = commands.Canon input.now output.now
command_view (Check formats shape) = commands.Check formats.now (shape_view shape)
command_view (Convert formats input chain output listing) = commands.Convert formats.now input.now chain.now output.now (option_map (λ l. l.now) listing)
command_view (Run code input output budget) = commands.Run code.now input.now output.now budget
command_view (Info input) = commands.Info input.now
command_view (Compile formats shape source target output) = commands.Compile formats.now (shape_view shape) source.now target.now output.now
command_view (Advise formats input chain) = commands.Advise formats.now input.now chain.now
command_view (Blocks input output) = commands.Blocks input.now output.now
command_view (Generate seed count shape chain formats) = commands.Generate seed count (shape_view shape) chain.now formats.now
command_view (Product vector formats input chain operand output listing) =
    commands.Product vector formats.now input.now chain.now operand.now output.now (option_map (λ l. l.now) listing)

-- rows and columns of a command are below 2^31, from 1 on where a program is made for them, and a chain is one
abbrev pub IsProper : Command → Type 0
IsProper (Canon input output) = Unit {0}
IsProper (Check formats shape) = (shape.rows < 2 ^ 31) × (shape.cols < 2 ^ 31)
IsProper (Convert formats input chain output listing) = is_chain chain.now ≡ true
IsProper (Run code input output budget) = Unit {0}
IsProper (Info input) = Unit {0}
IsProper (Compile formats shape source target output) = IsSide shape.rows × IsSide shape.cols
IsProper (Advise formats input chain) = is_chain chain.now ≡ true
IsProper (Blocks input output) = Unit {0}
IsProper (Generate seed count shape chain formats) = (count ≤ 8388608) × (IsSide shape.rows × IsSide shape.cols) × (is_chain chain.now ≡ true)
IsProper (Product vector formats input chain operand output listing) = is_chain chain.now ≡ true

-- words were read as the command that they say
abbrev pub Says : Option Command → Option commands.Command → Type 0
Says None plain = plain ≡ None
Says (Some command) plain = (plain ≡ Some (command_view command)) × IsProper command

-- what a run made
abbrev pub made_view : making.Made → Made
made_view m = record { bytes = m.bytes.items; lines = m.lines.items }

abbrev pub made_of : Result making.Made Status → Result Made Status
made_of (Ok made) = Ok (made_view made)
made_of (Err status) = Err status

-- a target and its program
abbrev pub target_view : Target → PlainUnit
target_view t = record { target = t.format; program = program_tree t.code }

abbrev pub target_of : Result Target Status → Result PlainUnit Status
target_of (Ok t) = Ok (target_view t)
target_of (Err status) = Err status

-- what a run gave
abbrev pub ran_view : Ran → Gives
ran_view r = record { lists = r.buffers; steps = r.steps }

abbrev pub ran_of : Result Ran Status → Result Gives Status
ran_of (Ok r) = Ok (ran_view r)
ran_of (Err status) = Err status
