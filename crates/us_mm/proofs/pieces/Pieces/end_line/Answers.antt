use Rattle.std.proofs.Common.{refl, subst, ◌∙◌}
use Rattle.us_mm.proofs.PiecesLemmas.{IsStep, goes_line, goes_fault}
use Rattle.us_mm.proofs.pieces.Pieces.end_line.Goals as goal

pub returns-in_default : goal.returns-in_default
returns-in_default c =
    goes_line c.args.self.now c.take.new.self _ c.saturating_add-number.result c.args.bytes.now c.requires.unfaulted (c.take.ensures.fault ∙ c.requires.unfaulted) c.requires.feeds c.saturating_add-number.ensures refl refl c.new-self.ensures
    (subst (IsStep c.args.self.now c.take.new.self c.saturating_add-number.result c.args.bytes.now) c.in_default.is c.take.ensures.took)

pub returns : goal.returns
returns c =
    goes_fault c.args.self.now c.take.new.self _ c.saturating_add-number.result c.args.bytes.now c.in-Err.fault c.requires.unfaulted refl c.requires.feeds c.saturating_add-number.ensures
    (subst (IsStep c.args.self.now c.take.new.self c.saturating_add-number.result c.args.bytes.now) c.in-Err.is c.take.ensures.took)
