use Rattle.std.proofs.Common.{arith}
use Rattle.us_format.specs.Program.{plain_shape}
use Rattle.us_convert.proofs.Drafts.{sorted-more}
use Rattle.us_convert.proofs.sorted.push_sorted.Goals as goal

pub returns : goal.returns
returns c = sorted-more (plain_shape c.args.shape) c.args.to.now _ _ c.requires.valid c.requires.accepted (omega (arith, c.requires.one)) c.in_ok-push_piece.ensures
