use Rattle.std.specs.Prelude.{Err}
use Rattle.std.proofs.Common.{Some, None, ap, sym, ◌∙◌}
use Rattle.us_format.specs.Program.{plain_shape, shape_in, entries_in}
use Rattle.us_judge.specs.Views.{declaration_of}
use Rattle.us_check.specs.Checks.{checked}
use Rattle.us_check.proofs.Told.{fault-told}
use Rattle.us_check.proofs.WellFormed.{checked-compared, fits-means}
use Rattle.us_check.proofs.checking.matrix_of_buffers.Goals as goal

pub differs-requires : goal.differs-requires
differs-requires c =
    rw c.in_ok-matrix.ensures.shape
    (record {
      fitting = c.in_ok-test_lengths.ensures.fitting;
      within = c.in_ok-test_lengths.ensures.within;
      means = fits-means (plain_shape c.args.shape) (declaration_of c.args.format.now) c.args.buffers.now (entries_in c.in_ok-matrix.matrix) c.in_ok-test_lengths.ensures.fitting c.in_ok-matrix.ensures.read;
    })

pub returns-in-Some : goal.returns-in-Some
returns-in-Some c = record {
  shape = tt;
  is = tt;
  fault = fault-told (checked (plain_shape c.args.shape) (declaration_of c.args.format.now) c.args.buffers.now) c.from.result
      (checked-compared (plain_shape c.args.shape) (shape_in c.in_ok-matrix.matrix) (declaration_of c.args.format.now) c.args.buffers.now (entries_in c.in_ok-matrix.matrix) (Some c.in-Some.difference)
      c.in_ok-matrix.ensures.shape c.in_ok-test_lengths.ensures.fitting c.in_ok-test_lengths.ensures.within c.in_ok-matrix.ensures.read (sym c.in_ok-difference.ensures ∙ c.in-Some.is)
      ∙ ap Err (sym c.from.ensures));
}

pub returns-in-None : goal.returns-in-None
returns-in-None c = record {
  shape = c.in_ok-matrix.ensures.shape;
  is =
      checked-compared (plain_shape c.args.shape) (shape_in c.in_ok-matrix.matrix) (declaration_of c.args.format.now) c.args.buffers.now (entries_in c.in_ok-matrix.matrix) None
      c.in_ok-matrix.ensures.shape c.in_ok-test_lengths.ensures.fitting c.in_ok-test_lengths.ensures.within c.in_ok-matrix.ensures.read (sym c.in_ok-difference.ensures ∙ c.in-None.is);
  fault = tt;
}
