-- The buffers of a held matrix are sources of a program.
use Rattle.std.proofs.Common.{◌≡◌, ℕ, ◌≤◌, List, [], ◌∷◌, length, ℤ, ap, sym, subst, ◌∙◌, arith, All, sum_by}
use Rattle.std.specs.Prelude.{None}
use Rattle.std.proofs.lemmas.List.{length-map}
use Rattle.std.proofs.lemmas.List.Elements.{All-nil, All-cons}
use Rattle.std.proofs.lemmas.List.Sums.{sum_by-cons}
use Rattle.us_matrix.specs.Map.{IsMatrix}
use Rattle.us_format.specs.Matrix.{Shape, Entry}
use Rattle.us_format.specs.Declaration.{Declaration}
use Rattle.us_format.specs.Program.{shape_in, entries_in}
use Rattle.us_format.specs.Buffers.{all_buffers, buffers, parts_of, size}
use Rattle.us_format.specs.Packs.{written}
use Rattle.us_format.specs.Reading.{limit, total_count}
use Rattle.us_format.specs.Rules.{IsLawfulDeclaration}
use Rattle.us_format.proofs.FromProgram.{program-matrix}
use Rattle.us_format.proofs.Sizes.{size-adds-lengths}
use Rattle.us_format.proofs.Whole.{buffers-are-counted}
use Rattle.us_decl.specs.Declares.{IsValid}
use Rattle.us_judge.specs.Acceptance.{first_refusal}
use Rattle.us_judge.specs.Views.{declaration_of}
use Rattle.us_judge.proofs.LawfulDeclarations.{accepted-declaration}
use Rattle.us_check.specs.Kept.{Kept}
use Rattle.us_check.specs.Held.{IsHeld}
use Rattle.us_hop.specs.Hops.{AreSources}

-- no list is longer than all of them together
all_short : (n : ℕ) (xs : List (List ℤ)) → sum_by (λ (ys : List ℤ). length ys) xs ≤ n → All (λ (cells : List ℤ). length cells ≤ n) xs
all_short n [] h = All-nil (λ (cells : List ℤ). length cells ≤ n)
all_short n (x ∷ xs) h =
    let e = sum_by-cons (λ (ys : List ℤ). length ys) x xs in
    All-cons (λ (cells : List ℤ). length cells ≤ n) x xs (omega (arith, e, h)) (all_short n xs (omega (arith, e, h)))

buffers_short : (s : Shape) (d : Declaration) (m : List Entry) → size s d m ≤ limit → All (λ (cells : List ℤ). length cells ≤ limit) (buffers s d m)
buffers_short s d m h = all_short limit (buffers s d m) (omega (arith, h, size-adds-lengths s d m))

buffers_counted : (s : Shape) (d : Declaration) (m : List Entry) → IsLawfulDeclaration d → length (buffers s d m) ≡ total_count d
buffers_counted s d m law = length-map (all_buffers s (parts_of s d m)) written ∙ buffers-are-counted s d m law

pub are-sources : (k : Kept) → IsHeld k → IsMatrix k.matrix → IsValid k.declared → first_refusal (declaration_of k.declared) ≡ None → AreSources k
are-sources k held im valid accepted = record {
  valid = valid;
  accepted = accepted;
  rows = im.rows.high;
  cols = im.cols.high;
  matrix = program-matrix k.matrix im;
  built = held.built;
  small = held.small;
  count = ap length held.built ∙ buffers_counted (shape_in k.matrix) (declaration_of k.declared) (entries_in k.matrix) (accepted-declaration k.declared valid accepted);
  short =
      subst (λ (xs : List (List ℤ)). All (λ (cells : List ℤ). length cells ≤ limit) xs) (sym held.built)
      (buffers_short (shape_in k.matrix) (declaration_of k.declared) (entries_in k.matrix) held.small);
}
