use Rattle.std.proofs.Common.{ℕ, map, subst, sym}
use Rattle.us_code.specs.Plain.{phase_tree}
use Rattle.us_format.specs.Program.{plain_shape}
use Rattle.us_judge.specs.Views.{declaration_of}
use Rattle.us_gen_kernel.specs.Kernel.{Multiplies}
use Rattle.us_kernel.specs.Right.{IsRightKernel}
use Rattle.us_kernel.proofs.KernelRight.{pieces-right}
use Rattle.us_kernel.proofs.compiling.program_of.Goals as goal

pub returns : goal.returns
returns c =
    subst (λ (n : ℕ). IsRightKernel (record { sources = n; phases = map phase_tree c.in_ok-piece.piece.phases; give = c.in_ok-piece.piece.buffers }) (declaration_of c.args.from.now) (plain_shape c.args.shape) c.args.columns) (sym c.source_count.ensures)
    (pieces-right (plain_shape c.args.shape) c.args.from.now c.args.columns c.in_ok-piece.piece c.first_part.ensures.valid c.first_part.ensures.accepted
    (subst (λ (low : ℕ). Multiplies (plain_shape c.args.shape) c.args.from.now c.args.columns low c.in_ok-piece.piece) c.new-fresh.ensures c.in_ok-piece.ensures.piece))
