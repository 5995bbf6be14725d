use Rattle.std.proofs.Common.{refl, arith}
use Rattle.us_judge.specs.Views.{declaration_of}
use Rattle.us_judge.proofs.LawfulDeclarations.{accepted-declaration}
use Rattle.us_judge.proofs.Valid.{short-valid}
use Rattle.us_right.proofs.Accepted.{parts-some, buffers-few}
use Rattle.us_right.proofs.Finished.{right}
use Rattle.us_right.proofs.laws.all_parts_are_right.Goals as goal

pub returns : goal.returns
returns c = λ sorts s f d cs n ps give source valid kept made. (
  right sorts s (declaration_of f) (declaration_of d) cs _ n ps give (accepted-declaration d valid kept) (short-valid d valid).few (parts-some d kept) refl made (omega (arith, buffers-few f source)),
  made.unsorted,
)
