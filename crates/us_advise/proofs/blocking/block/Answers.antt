use Rattle.std.proofs.Common.{sym, subst}
use Rattle.us_decl.specs.Declares.{IsValid}
use Rattle.us_advise.proofs.LawfulBlocks.{block-accepted, block-valid}
use Rattle.us_advise.proofs.blocking.block.Goals as goal

pub judge-requires : goal.judge-requires
judge-requires c = subst IsValid (sym c.in_ok-declaration.ensures) (block-valid c.args.rows c.args.cols c.requires.rows c.requires.cols)

pub returns-clause-accepted : goal.returns-clause-accepted
returns-clause-accepted c = block-accepted c.args.rows c.args.cols c.requires.rows c.requires.cols
