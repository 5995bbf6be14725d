use Rattle.std.proofs.Common.{◌-◌, true, ℕ, map, subst}
use Rattle.us_code.specs.Plain.{phase_tree}
use Rattle.us_format.specs.Program.{plain_shape}
use Rattle.us_judge.specs.Format.{part_at}
use Rattle.us_judge.specs.Views.{declaration_of}
use Rattle.us_gen_parts_build.specs.Meaning.{BuildsPart}
use Rattle.us_gen_parts_build.proofs.building.build.Goals as goal

pub returns-clause-piece : goal.returns-clause-piece
returns-clause-piece c =
    subst
    (λ (n : ℕ). BuildsPart true (plain_shape c.args.shape) (part_at (declaration_of c.args.format.now) (c.args.part - 1)) c.args.query.now.columns c.args.query.now.buffers n
    (map phase_tree c.in_ok-piece.piece.phases) c.in_ok-piece.piece.buffers)
    c.next-first.ensures c.in_ok-piece.ensures
