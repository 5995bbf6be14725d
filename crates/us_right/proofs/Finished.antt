-- A program whose parts are all built is right.
use Rattle.std.proofs.Common.{◌≡◌, Bool, ℕ, ◌≤◌, refl, ap, ◌∙◌, arith, List, map, length, sum_by, ℤ}
use Rattle.us_format.specs.Matrix.{Shape}
use Rattle.us_format.specs.Declaration.{Part, Declaration}
use Rattle.us_format.specs.Packs.{written}
use Rattle.us_format.specs.Buffers.{all_buffers}
use Rattle.us_format.specs.Reading.{total_count}
use Rattle.us_format.specs.Rules.{IsLawfulDeclaration}
use Rattle.us_code.specs.declared.pieces.Columns.{Columns}
use Rattle.us_code.specs.Plain.{PhaseTree, ProgramTree}
use Rattle.us_code.specs.Limits.{KeepsLimits}
use Rattle.us_code.specs.Runs.{Gave, outcome}
use Rattle.us_code.specs.Typing.{TypedProgram}
use Rattle.us_right.specs.Right.{IsRight}
use Rattle.us_right.specs.Draft.{IsMadeTo}
use Rattle.us_right.proofs.Shares.{all-few, shares-all}

module _ (sorts : Bool) (s : Shape) (f d : Declaration) (cs : Columns) (k n : ℕ) (ps : List PhaseTree) (give : List ℕ) (law : IsLawfulDeclaration d) (few : length d.parts ≤ 4) (some : length d.parts ≤ sum_by (λ (p : Part). length p.levels) d.parts)
    (all : k ≡ length d.parts) (made : IsMadeTo sorts s f d cs k n ps give) (sources : total_count f ≤ 4096) where
  abbrev program : ProgramTree
  program = record { sources = total_count f; phases = ps; give = give }

  pub typed : TypedProgram program
  typed = (made.fit.typed, made.seen, made.new.once)

  pub limits : KeepsLimits program
  limits = record {
    sources = sources;
    phases = made.text.each;
    items = omega (arith, made.text.long, all, few);
    give = omega (arith, made.few, all, few);
  }

  pub right : IsRight program f d s
  right = record {
    typed = typed;
    limits = limits;
    sources = refl;
    converts = λ m im source target.
        let x = made.leads m im source target in
        record {
          steps = x.end.steps;
          gives =
              ap (outcome give) x.arrives.is
              ∙ ap (λ (bs : List (List ℤ)). Gave bs x.end.steps) (x.post.built ∙ ap (λ ys. map written (all_buffers s ys)) (shares-all s d m law k (omega (arith, all))));
          few = omega (arith, x.arrives.steps, all-few s d m law f few some k (omega (arith, all)));
        };
  }
