use Rattle.us_judge.specs.Views.{declaration_of}
use Rattle.us_judge.proofs.LawfulDeclarations.{accepted-declaration}
use Rattle.us_right.proofs.Growing.{grows}
use Rattle.us_right.proofs.laws.parts_add.Goals as goal

pub returns : goal.returns
returns c = λ sorts s f d cs k n high ps qs give out valid kept same below le old piece.
    grows sorts s (declaration_of f) (declaration_of d) cs k n high ps qs give out (accepted-declaration d valid kept) below old piece le same
