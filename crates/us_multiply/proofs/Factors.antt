-- The buffers of a held matrix and an operand are sources of a kernel, which comes to its end on them.
use Rattle.std.proofs.Common.{◌≡◌, ℕ, ◌*◌, ◌≤◌, List, [], ◌∷◌, ◌++◌, length, length-append, ℤ, ap, sym, subst, ◌∙◌, arith, All, sum_by}
use Rattle.std.specs.Prelude.{None}
use Rattle.std.proofs.lemmas.List.{length-map}
use Rattle.std.proofs.lemmas.List.Elements.{All-nil, All-cons, All-append}
use Rattle.std.proofs.lemmas.List.Sums.{sum_by-cons}
use Rattle.us_matrix.specs.Map.{IsMatrix}
use Rattle.us_matrix.specs.Grid.{Grid}
use Rattle.us_format.specs.Matrix.{Shape}
use Rattle.us_format.specs.Program.{shape_in, entries_in}
use Rattle.us_format.specs.Buffers.{all_buffers, buffers, parts_of}
use Rattle.us_format.specs.Packs.{written}
use Rattle.us_format.specs.Reading.{limit, total_count}
use Rattle.us_format.specs.Rules.{IsLawfulDeclaration}
use Rattle.us_format.proofs.FromProgram.{program-matrix}
use Rattle.us_format.proofs.Sizes.{size-adds-lengths}
use Rattle.us_format.proofs.Whole.{buffers-are-counted}
use Rattle.us_decl.specs.Declares.{IsValid}
use Rattle.us_judge.specs.Acceptance.{first_refusal}
use Rattle.us_judge.specs.Views.{declaration_of}
use Rattle.us_judge.proofs.LawfulDeclarations.{accepted-declaration}
use Rattle.us_check.specs.Kept.{Kept}
use Rattle.us_check.specs.Held.{IsHeld}
use Rattle.us_code.specs.Plain.{ProgramTree}
use Rattle.us_code.specs.Runs.{run}
use Rattle.us_kernel.specs.Right.{GivesProduct, IsRightKernel}
use Rattle.us_steps.proofs.StepBounds.{few_kernel_steps}
use Rattle.us_multiply.specs.Running.{AreFactors, Ends}

-- no list is longer than all of them together
all_short : (n : ℕ) (xs : List (List ℤ)) → sum_by (λ (ys : List ℤ). length ys) xs ≤ n → All (λ (cells : List ℤ). length cells ≤ n) xs
all_short n [] h = All-nil (λ (cells : List ℤ). length cells ≤ n)
all_short n (x ∷ xs) h =
    let e = sum_by-cons (λ (ys : List ℤ). length ys) x xs in
    All-cons (λ (cells : List ℤ). length cells ≤ n) x xs (omega (arith, e, h)) (all_short n xs (omega (arith, e, h)))

pub are-factors : (k : Kept) (x : Grid) → IsHeld k → IsMatrix k.matrix → IsValid k.declared → first_refusal (declaration_of k.declared) ≡ None
    → length x.cells ≡ x.rows * x.cols → x.rows ≡ k.matrix.cols → length x.cells ≤ 33554432 → AreFactors k x
are-factors k x held im valid accepted long rows few =
    let s : Shape = shape_in k.matrix in
    let law : IsLawfulDeclaration (declaration_of k.declared) = accepted-declaration k.declared valid accepted in
    let bs : List (List ℤ) = buffers (shape_in k.matrix) (declaration_of k.declared) (entries_in k.matrix) in
    let number : length (buffers (shape_in k.matrix) (declaration_of k.declared) (entries_in k.matrix)) ≡ total_count (declaration_of k.declared) =
    length-map (all_buffers (shape_in k.matrix) (parts_of (shape_in k.matrix) (declaration_of k.declared) (entries_in k.matrix))) written ∙ buffers-are-counted (shape_in k.matrix) (declaration_of k.declared) (entries_in k.matrix) law in
    record {
      valid = valid;
      accepted = accepted;
      matrix = program-matrix k.matrix im;
      built = held.built;
      small = held.small;
      count = length-append k.buffers (x.cells ∷ []) ∙ omega (arith, ap (λ (xs : List (List ℤ)). length xs) held.built, number);
      short =
          All-append (λ (cells : List ℤ). length cells ≤ limit) k.buffers (x.cells ∷ [])
          (subst (λ (xs : List (List ℤ)). All (λ (cells : List ℤ). length cells ≤ limit) xs) (sym held.built)
          (all_short limit (buffers (shape_in k.matrix) (declaration_of k.declared) (entries_in k.matrix)) (omega (arith, held.small, size-adds-lengths (shape_in k.matrix) (declaration_of k.declared) (entries_in k.matrix)))))
          (All-cons (λ (cells : List ℤ). length cells ≤ limit) x.cells [] (omega (arith, few)) (All-nil (λ (cells : List ℤ). length cells ≤ limit)));
      operand = long ∙ ap (λ (n : ℕ). n * x.cols) rows;
    }

-- what a right kernel gives on them
pub gives : (p : ProgramTree) (k : Kept) (x : Grid) → IsRightKernel p (declaration_of k.declared) (shape_in k.matrix) x.cols → AreFactors k x → length x.cells ≤ 33554432 → k.matrix.rows * x.cols ≤ 33554432
    → GivesProduct p (declaration_of k.declared) (shape_in k.matrix) x.cols (entries_in k.matrix) x.cells
gives p k x right f few_factors few = right.multiplies (entries_in k.matrix) x.cells f.matrix f.small f.operand (omega (arith, f.operand, few_factors)) few

pub right-ends : (p : ProgramTree) (k : Kept) (x : Grid) → IsRightKernel p (declaration_of k.declared) (shape_in k.matrix) x.cols → AreFactors k x → length x.cells ≤ 33554432 → k.matrix.rows * x.cols ≤ 33554432
    → Ends p (k.buffers ++ x.cells ∷ [])
right-ends p k x right f few_factors few =
    let g = gives p k x right f few_factors few in
    record {
      lists = g.cells ∷ [];
      steps = g.steps;
      gives = ap (λ (bs : List (List ℤ)). run p (bs ++ x.cells ∷ [])) f.built ∙ g.gives;
      few =
          omega (
            arith,
            g.few,
            few_kernel_steps k.declared (shape_in k.matrix) x.cols (entries_in k.matrix) f.valid f.accepted f.matrix f.small (omega (arith, f.operand, few_factors)) few,
          );
    }
