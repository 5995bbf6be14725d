use Rattle.std.proofs.Common.{sym, ◌∙◌}
use Rattle.us_format.specs.Program.{plain_shape}
use Rattle.us_judge.specs.Views.{declaration_of}
use Rattle.us_check.proofs.WellFormed.{checked-misfit, fits-from, within-from}
use Rattle.us_check.proofs.checking.test_lengths.Goals as goal

pub returns : goal.returns
returns c = record {
  fitting = fits-from (plain_shape c.args.shape) (declaration_of c.args.format.now) c.args.buffers.now (sym c.misfit.ensures ∙ c.in_default.is);
  within = within-from (plain_shape c.args.shape) (declaration_of c.args.format.now) c.args.buffers.now c.is_within_limit.result c.is_within_limit.ensures c.if-not-is_within_limit.false;
  fault = tt;
}

pub returns-in-Some : goal.returns-in-Some
returns-in-Some c = record {
  fitting = tt;
  within = tt;
  fault = checked-misfit (plain_shape c.args.shape) (declaration_of c.args.format.now) c.args.buffers.now c.in-Some.buffer (sym c.misfit.ensures ∙ c.in-Some.is);
}

pub is_within_limit-requires-clause-fitting : goal.is_within_limit-requires-clause-fitting
is_within_limit-requires-clause-fitting c = fits-from (plain_shape c.args.shape) (declaration_of c.args.format.now) c.args.buffers.now (sym c.misfit.ensures ∙ c.in_default.is)
