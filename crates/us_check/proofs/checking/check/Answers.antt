use Rattle.std.specs.Prelude.{Ok, Err}
use Rattle.us_format.specs.Program.{plain_shape, shape_in, entries_in}
use Rattle.us_judge.specs.Views.{declaration_of}
use Rattle.us_check.specs.Checks.{TellsChecked}
use Rattle.us_check.proofs.WellFormed.{checked-built, checked-small, told-held, told-well-formed, told-refused}
use Rattle.us_check.proofs.checking.check.Goals as goal

pub from_parts-requires-clause-built : goal.from_parts-requires-clause-built
from_parts-requires-clause-built c =
    checked-built (plain_shape c.args.shape) (shape_in c.in-Ok.matrix) (declaration_of c.args.format) c.args.buffers (entries_in c.in-Ok.matrix) c.is_lawful.ensures c.in-Ok.ensures.shape c.in-Ok.ensures.is

pub from_parts-requires-clause-small : goal.from_parts-requires-clause-small
from_parts-requires-clause-small c =
    checked-small (plain_shape c.args.shape) (shape_in c.in-Ok.matrix) (declaration_of c.args.format) c.args.buffers (entries_in c.in-Ok.matrix) c.is_lawful.ensures c.in-Ok.ensures.shape c.in-Ok.ensures.is

pub returns-in-Ok : goal.returns-in-Ok
returns-in-Ok c =
    let told : TellsChecked (plain_shape c.args.shape) c.args.format c.args.buffers (Ok c.from_parts.result) =
    told-held (plain_shape c.args.shape) c.args.format c.args.buffers c.in-Ok.matrix c.from_parts.result c.from_parts.ensures c.in-Ok.ensures.shape c.in-Ok.ensures.is in
    record {
      well_formed = told-well-formed (plain_shape c.args.shape) c.args.format c.args.buffers c.is_lawful.ensures (Ok c.from_parts.result) told;
      refused = tt;
      reason = told;
    }

pub returns-in-Err : goal.returns-in-Err
returns-in-Err c = record {
  well_formed = tt;
  refused = told-refused (plain_shape c.args.shape) c.args.format c.args.buffers c.is_lawful.ensures (Err c.in-Err.fault) c.in-Err.ensures.fault;
  reason = c.in-Err.ensures.fault;
}
