-- The phases of a piece are a right kernel.
use Rattle.std.proofs.Common.{◌≡◌, ℕ, zero, suc, ◌+◌, ◌*◌, ◌^◌, ◌<◌, ◌≤◌, true, List, [], ◌∷◌, ◌++◌, map, length, refl, sym, ap, subst, ◌∙◌, arith, sum_by, ℤ, None}
use Rattle.std.proofs.lemmas.List.{length-map}
use Rattle.std.proofs.lemmas.List.Sums.{sum_by-cons}
use Rattle.us_format.specs.Lists.{nth}
use Rattle.us_format.specs.Matrix.{Shape, Entry, IsMatrixOf}
use Rattle.us_format.specs.Declaration.{Part, Declaration}
use Rattle.us_format.specs.Packs.{written}
use Rattle.us_format.specs.Buffers.{holds, parts_of, all_buffers, buffers, size}
use Rattle.us_format.specs.Reading.{buffer_count, total_count}
use Rattle.us_format.specs.Rules.{IsLawfulDeclaration}
use Rattle.us_format.proofs.Sizes.{size-adds-lengths}
use Rattle.us_format.proofs.Members.{Mem-contains}
use Rattle.us_format.proofs.Shares.{shares-parts}
use Rattle.us_format.proofs.Whole.{buffers-counted}
use Rattle.us_format_loops.proofs.Parts.{parts-share-entries}
use Rattle.us_decl.specs.Declares.{Declared, IsValid}
use Rattle.us_judge.specs.Acceptance.{first_refusal}
use Rattle.us_judge.specs.Views.{declaration_of}
use Rattle.us_code.specs.declared.pieces.BuildPiece.{BuildPiece}
use Rattle.us_judge.proofs.LawfulDeclarations.{accepted-declaration}
use Rattle.us_code.specs.Plain.{phase_tree}
use Rattle.us_code.specs.Runs.{World, Gave, at_source, start, outcome}
use Rattle.us_code.specs.Typing.{is_some, before, after_phases, sees_all, are_distinct}
use Rattle.us_code_laws.proofs.Sound.{both_true}
use Rattle.us_gen_product.specs.Dense.{IsDense}
use Rattle.us_gen_listing.specs.Unpack.{IsFreeFrom, level_count, query_count}
use Rattle.us_kernel.specs.Right.{IsRightKernel}
use Rattle.us_gen_kernel.specs.Kernel.{Multiplies}
use Rattle.us_gen_kernel.proofs.PieceMade.{buffers-few}

-- ---- the sources

source_in : (bs : List (List ℤ)) (xs : List ℤ) (k : ℕ) → k < length bs → at_source (bs ++ xs ∷ []) k ≡ nth bs k
source_in [] xs k l = absurd (omega (arith, l))
source_in (b ∷ bs) xs zero l = refl
source_in (b ∷ bs) xs (suc k) l = source_in bs xs k (omega (arith, l))

source_last : (bs : List (List ℤ)) (xs : List ℤ) (k : ℕ) → k ≡ length bs → at_source (bs ++ xs ∷ []) k ≡ xs
source_last [] xs zero e = refl
source_last [] xs (suc k) e = absurd (omega (arith, e))
source_last (b ∷ bs) xs zero e = absurd (omega (arith, e))
source_last (b ∷ bs) xs (suc k) e = source_last bs xs k (omega (arith, e))

sources_few : (bs : List (List ℤ)) (xs : List ℤ) (k : ℕ) → length (at_source (bs ++ xs ∷ []) k) ≤ sum_by (λ (ys : List ℤ). length ys) bs + length xs
sources_few [] xs zero = omega arith
sources_few [] xs (suc k) = omega arith
sources_few (b ∷ bs) xs zero = omega (arith, sum_by-cons (λ (ys : List ℤ). length ys) b bs)
sources_few (b ∷ bs) xs (suc k) = omega (arith, sum_by-cons (λ (ys : List ℤ). length ys) b bs, sources_few bs xs k)

number : (s : Shape) (f : Declaration) (m : List Entry) → IsLawfulDeclaration f → IsMatrixOf s m → length (buffers s f m) ≡ total_count f
number s f m law im =
    length-map (all_buffers s (parts_of s f m)) written
    ∙ (buffers-counted s (parts_of s f m) (λ y i. ((parts-share-entries s f m law im).lawful y (Mem-contains (parts_of s f m) y i)).1)
    ∙ ap (λ (ps : List Part). sum_by buffer_count ps) (shares-parts (holds m s f) f.conds f.parts m law.one_more))

-- ---- the program

cheaper : (l q T : ℕ) → 64 * ((1 + l + q) * T) ≤ 256 * ((2 + l + q) * T)
cheaper l q T = omega arith

pub pieces-right : (s : Shape) (d : Declared) (columns : ℕ) (piece : BuildPiece) → IsValid d → first_refusal (declaration_of d) ≡ None → Multiplies s d columns 0 piece
    → IsRightKernel (record { sources = total_count (declaration_of d) + 1; phases = map phase_tree piece.phases; give = piece.buffers }) (declaration_of d) s columns
pieces-right s d columns piece valid kept made =
    let law : IsLawfulDeclaration (declaration_of d) = accepted-declaration d valid kept in
    let g = before (total_count (declaration_of d) + 1) in
    let free : IsFreeFrom g 0 = record { regs = record { none = λ r l. refl }; bufs = λ b l. refl; dims = λ x l. refl } in
    let t = made.typed g (omega arith) free in
    let sees : is_some ((after_phases g (map phase_tree piece.phases)).bufs made.result) ≡ true = ap is_some t.1 in
    record {
      typed = (
        t.0,
        subst (λ (bs : List ℕ). sees_all (after_phases (before (total_count (declaration_of d) + 1)) (map phase_tree piece.phases)) bs ≡ true) (sym made.named) (both_true (is_some ((after_phases g (map phase_tree piece.phases)).bufs made.result)) true sees refl),
        subst (λ (bs : List ℕ). are_distinct bs ≡ true) (sym made.named) refl,
      );
      limits = record {
        sources = omega (arith, buffers-few d valid kept);
        phases = made.text.each;
        items = omega (arith, made.text.long);
        give = omega (arith, ap (λ (bs : List ℕ). length bs) made.named);
      };
      sources = refl;
      multiplies = λ m xs im within long few_operand few.
          let bs : List (List ℤ) = buffers s (declaration_of d) m in
          let w : World = start (buffers s (declaration_of d) m ++ xs ∷ []) in
          let last : w.env.sources (total_count (declaration_of d)) ≡ xs = source_last (buffers s (declaration_of d) m) xs (total_count (declaration_of d)) (sym (number s (declaration_of d) m law im)) in
          let short : (j : ℕ) → length (w.env.sources j) < 2 ^ 63 =
          λ j. omega (arith, sources_few (buffers s (declaration_of d) m) xs j, within, size-adds-lengths s (declaration_of d) m, long, few_operand) in
          let x = made.multiplies w m im within (λ j l. source_in (buffers s (declaration_of d) m) xs j l) short (ap (λ (ys : List ℤ). length ys) last ∙ long) few_operand few in
          record {
            cells = x.end.bufs made.result;
            steps = x.end.steps;
            dense = subst (λ (ys : List ℤ). IsDense s m columns ys (x.end.bufs made.result)) last x.post;
            gives =
                ap (outcome piece.buffers) x.arrives.is
                ∙ ap (λ (zs : List ℕ). Gave (map x.end.bufs zs) x.end.steps) made.named;
            few = omega (arith, x.arrives.steps, cheaper (level_count (declaration_of d)) (query_count (declaration_of d)) (size s (declaration_of d) m + length m * columns + 1));
          };
    }
