use Rattle.std.proofs.Common.{◌-◌, ◌<◌, length, refl, ap, arith, ◌∙◌}
use Rattle.std.specs.Prelude.{Option}
use Rattle.us_format.specs.Lists.{then_do, cell}
use Rattle.us_format.specs.Matrix.{in_shape}
use Rattle.us_format.specs.Program.{plain_shape}
use Rattle.us_invert.specs.declared.recovering.Cell.{Cell}
use Rattle.us_invert.specs.Recovery.{cell_of}
use Rattle.us_judge.specs.Views.{declaration_of}
use Rattle.us_climb.specs.Layout.{cells_at}
use Rattle.us_climb.specs.Readers.{first_of}
use Rattle.us_climb.proofs.OneEntry.{entry-recovered}
use Rattle.us_climb.proofs.coordinates.cell_at.Goals as goal

pub returns-in-Some : goal.returns-in-Some
returns-in-Some c =
    let r = c.args.reader.now in
    let below : c.args.reader.now.number - 1 < length (declaration_of c.args.reader.now.format.now).parts = omega (arith, c.requires.from_one, c.requires.there) in
    entry-recovered (plain_shape r.shape) (declaration_of r.format.now) r.tables.buffers.now (r.number - 1) (first_of r) below refl r.layout c.requires.laid c.args.x c.recovered_at.result c.recovered_at.ensures
    ∙ ap (λ (o : Option Cell). then_do (cell_of o) (λ ij. in_shape (plain_shape c.args.reader.now.shape) ij (cell (cells_at c.args.reader.now.layout.values c.args.reader.now.tables.buffers.now) c.args.x))) c.in-Some.is
    ∙ c.inside.ensures (cell (cells_at c.args.reader.now.layout.values c.args.reader.now.tables.buffers.now) c.args.x)

pub returns-in-None : goal.returns-in-None
returns-in-None c =
    let r = c.args.reader.now in
    let below : c.args.reader.now.number - 1 < length (declaration_of c.args.reader.now.format.now).parts = omega (arith, c.requires.from_one, c.requires.there) in
    entry-recovered (plain_shape r.shape) (declaration_of r.format.now) r.tables.buffers.now (r.number - 1) (first_of r) below refl r.layout c.requires.laid c.args.x c.recovered_at.result c.recovered_at.ensures
    ∙ ap (λ (o : Option Cell). then_do (cell_of o) (λ ij. in_shape (plain_shape c.args.reader.now.shape) ij (cell (cells_at c.args.reader.now.layout.values c.args.reader.now.tables.buffers.now) c.args.x))) c.in-None.is
