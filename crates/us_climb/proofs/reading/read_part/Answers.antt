use Rattle.std.proofs.Common.{◌≡◌, ℕ, ◌<◌, ◌-◌, length, map, subst, ap, ◌∙◌, arith}
use Rattle.std.specs.Prelude.{IfOk}
use Rattle.us_format.specs.Program.{plain_shape}
use Rattle.us_format.specs.Reading.{extent_tests}
use Rattle.us_judge.specs.Format.{part_at}
use Rattle.us_judge.specs.Views.{declaration_of}
use Rattle.us_climb.specs.Layout.{first_failing}
use Rattle.us_climb.specs.Entries.{Read, found_to, plain_found, prepend}
use Rattle.us_format.specs.Meaning.{Position}
use Rattle.us_climb.proofs.BuffersFit.{extents-fit}
use Rattle.us_climb.proofs.ReadSteps.{read-alike}
use Rattle.us_climb.proofs.reading.read_part.Goals as goal

pub read-layout-requires-clause-extents : goal.read-layout-requires-clause-extents
read-layout-requires-clause-extents c =
    let below : c.args.number - 1 < length (declaration_of c.args.format.now).parts = omega (arith, c.requires.from_one, c.requires.part) in
    ap (λ (f : ℕ). first_failing (extent_tests f c.args.buffers.now (part_at (declaration_of c.args.format.now) (c.args.number - 1)).queries)) c.first_buffer-first.ensures.is
    ∙ extents-fit (plain_shape c.args.shape) (declaration_of c.args.format.now) c.args.buffers.now (c.args.number - 1) c.requires.fitting below

pub returns-clause-read : goal.returns-clause-read
returns-clause-read c =
    subst (λ (r : Read Position). IfOk c.read_positions.result (λ failed. found_to c.read_positions.new.found.items failed ≡ prepend (map plain_found c.args.found.now.items) r))
    (read-alike c.of-reader.result.shape c.args.shape c.of-reader.result.format.now c.args.format.now c.of-reader.result.tables.buffers.now c.args.buffers.now c.of-reader.result.number c.args.number
    c.of-reader.ensures.shape c.of-reader.ensures.format c.of-reader.ensures.buffers c.of-reader.ensures.number)
    c.read_positions.ensures.read
