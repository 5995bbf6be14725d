use Rattle.us_format.specs.Program.{plain_shape}
use Rattle.us_judge.specs.Views.{declaration_of}
use Rattle.us_convert.proofs.Drafts.{ArePassed}
use Rattle.us_convert.proofs.parts.push_parts.Given as goal

abbrev pub invariant-loop-part : goal.invariant-loop-part
invariant-loop-part l = ArePassed (plain_shape l.shape) (declaration_of l.to) l.part l.initial.draft l.draft
