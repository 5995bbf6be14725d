-- The buffers of the parts are those of the declaration, and their meaning is the matrix.
use Rattle.std.specs.Prelude.{Err, Ok, Result, Some, ℤ}
use Rattle.std.specs.Result.{IfOk, OnOk}
use Rattle.std.proofs.Common.{◌≡◌, ℕ, ◌+◌, ◌<◌, ◌≤◌, List, [], ◌∷◌, ◌++◌, map, length, get_or, drop, None, All, append_assoc, refl, sym, ap, ap₂, subst, ◌∙◌, arith}
use Rattle.std.proofs.lemmas.List.{append-nil, drop_all, drop_more, map-append}
use Rattle.std.proofs.lemmas.List.Elements.{All-head, All-tail}
use Rattle.us_expr.specs.declared.queries.Cond.{Cond}
use Rattle.us_matrix.specs.Map.{Map}
use Rattle.us_format.specs.Buffers.{all_buffers, buffers, holds, part_buffers, parts_of, shares, size}
use Rattle.us_format.specs.Declaration.{Declaration, Part}
use Rattle.us_format.specs.Laws.{unpacked_size}
use Rattle.us_format.specs.Matrix.{Entry, IsMatrixOf, Shape}
use Rattle.us_format.specs.Meaning.{meaning}
use Rattle.us_format.specs.Packs.{written}
use Rattle.us_format.specs.Program.{entries_in, shape_in}
use Rattle.us_format.specs.Reading.{limit}
use Rattle.us_format.specs.Rules.{IsLawfulDeclaration}
use Rattle.us_format.proofs.Whole.{buffers-mean-matrix}
use Rattle.us_decl.specs.Declares.{Declared, IsValid}
use Rattle.us_judge.specs.Acceptance.{first_refusal}
use Rattle.us_judge.specs.Format.{part_at}
use Rattle.us_judge.specs.Views.{declaration_of}
use Rattle.us_judge.proofs.LawfulDeclarations.{accepted-declaration}
use Rattle.us_build.specs.declared.fault.BuildFault.{BuildFault}
use Rattle.us_layout.specs.Splitting.{AreShares}
use Rattle.us_levels.specs.Shared.{lists_of, sizes_of}
use Rattle.us_levels.proofs.Sizes.{entries-are, parts-are, sizes-next}
use Rattle.us_levels.proofs.SmallExtents.{small-within}

joined : (s : Shape) (ys : List (Part × List Entry)) (ms : List Map) → map (λ y. y.1) ys ≡ map entries_in ms → All (λ m. shape_in m ≡ s) ms → map written (all_buffers s ys) ≡ lists_of (map (λ y. y.0) ys) ms
joined s [] ms e h = refl
joined s (y ∷ ys) [] e h = absurd (omega (arith, ap length e))
joined s (y ∷ ys) (m ∷ ms) e h =
    let a : y.1 ≡ entries_in m = cc in
    let b : map (λ y. y.1) ys ≡ map entries_in ms = cc in
    let i : shape_in m ≡ s = All-head (λ (m : Map). shape_in m ≡ s) m ms h in
    map-append written (part_buffers s y.0 y.1) (all_buffers s ys)
    ∙ ap₂ (λ (k n : List (List ℤ)). k ++ n) (ap₂ (λ (z : Shape) (es : List Entry). map written (part_buffers z y.0 es)) (sym i) a) (joined s ys ms b (All-tail (λ (m : Map). shape_in m ≡ s) m ms h))

pub lists-are : (d : Declaration) (mx : Map) (ms : List Map) → IsLawfulDeclaration d → AreShares mx d.head d.conds ms → lists_of d.parts ms ≡ buffers (shape_in mx) d (entries_in mx)
lists-are d mx ms law s =
    ap (λ (ps : List Part). lists_of ps ms) (sym (parts-are d mx ms law s)) ∙ sym (joined (shape_in mx) (parts_of (shape_in mx) d (entries_in mx)) ms (entries-are d mx ms law s) s.shapes)

-- ---- a declaration of one part

pub one-lists : (s : Shape) (d : Declaration) (m : List Entry) (p : Part) → d.parts ≡ p ∷ [] → d.conds ≡ [] → map written (part_buffers s (part_at d 0) m) ≡ buffers s d m
one-lists s d m p ps cs =
    let one : parts_of s d m ≡ (p, m) ∷ [] = ap₂ (λ (cs : List Cond) (ps : List Part). shares (holds m s d) cs ps m) cs ps in
    let at : part_at d 0 ≡ p = ap (λ (ps : List Part). get_or ps 0 (record { names = 0; queries = []; levels = []; trim = []; merge = []; packs = [] })) ps in
    ap (λ (z : Part). map written (part_buffers s z m)) at ∙ ap (map written) (sym (append-nil (part_buffers s p m))) ∙ ap (λ (ys : List (Part × List Entry)). map written (all_buffers s ys)) (sym one)

-- ---- one part after the other

module _ (ps : List Part) (ms : List Map) where
  lists-next : (k : ℕ) (p : Part) (m x : Map) (old made now all : List (List ℤ)) → k < length ps → length ms ≡ length ps → x ≡ get_or ms k m
      → made ≡ map written (part_buffers (shape_in x) (get_or ps k p) (entries_in x)) → now ≡ old ++ made → old ++ lists_of (drop k ps) (drop k ms) ≡ all → now ++ lists_of (drop (k + 1) ps) (drop (k + 1) ms) ≡ all
  lists-next k p m x old made now all h long e q r all_is =
      let rest : List (List ℤ) = lists_of (drop (k + 1) ps) (drop (k + 1) ms) in
      let made_is : made ≡ map written (part_buffers (shape_in (get_or ms k m)) (get_or ps k p) (entries_in (get_or ms k m))) = q ∙ ap (λ (z : Map). map written (part_buffers (shape_in z) (get_or ps k p) (entries_in z))) e in
      let front : made ++ rest ≡ lists_of (drop k ps) (drop k ms) =
      ap (λ (l : List (List ℤ)). l ++ rest) made_is ∙ sym (ap₂ (λ (y : List Part) (z : List Map). lists_of y z) (drop_more ps k p h) (drop_more ms k m (omega (arith, h, long)))) in
      ap (λ (l : List (List ℤ)). l ++ rest) r ∙ append_assoc old made rest ∙ ap (λ (l : List (List ℤ)). old ++ l) front ∙ all_is

  lists-end : (k : ℕ) (now all : List (List ℤ)) → length ps ≤ k → now ++ lists_of (drop k ps) (drop k ms) ≡ all → now ≡ all
  lists-end k now all h e = sym (append-nil now) ∙ ap (λ (y : List Part). now ++ lists_of y (drop k ms)) (sym (drop_all k ps h)) ∙ e

-- the buffers of the first k parts, and their sizes added up
pub record IsBuiltTo (ps : List Part) (ms : List Map) (k : ℕ) (lists : List (List ℤ)) (used : ℕ) : Type 0 where
  pub built : lists ++ lists_of (drop k ps) (drop k ms) ≡ lists_of ps ms
  pub measured : used + sizes_of (drop k ps) (drop k ms) ≡ sizes_of ps ms
  pub small : used ≤ limit

pub built-none : (ps : List Part) (ms : List Map) → IsBuiltTo ps ms 0 [] 0
built-none ps ms = record { built = refl; measured = omega arith; small = omega arith }

module _ (ps : List Part) (ms : List Map) (k : ℕ) (p : Part) (m x : Map) (lists : List (List ℤ)) (used : ℕ) (h : k < length ps) (long : length ms ≡ length ps) (is : x ≡ get_or ms k m) (f : IsBuiltTo ps ms k lists used) where
  the-size : unpacked_size (shape_in x) (get_or ps k p) (entries_in x) ≡ unpacked_size (shape_in (get_or ms k m)) (get_or ps k p) (entries_in (get_or ms k m))
  the-size = ap (λ (z : Map). unpacked_size (shape_in z) (get_or ps k p) (entries_in z)) is

  pub built-next : (now : List (List ℤ)) (n : ℕ) → now ≡ lists ++ map written (part_buffers (shape_in x) (get_or ps k p) (entries_in x)) → n ≡ used + unpacked_size (shape_in x) (get_or ps k p) (entries_in x) → n ≤ limit
      → IsBuiltTo ps ms (k + 1) now n
  built-next now n e q small = record {
    built = lists-next ps ms k p m x lists (map written (part_buffers (shape_in x) (get_or ps k p) (entries_in x))) now (lists_of ps ms) h long is refl e f.built;
    measured = omega (arith, q, the-size, sizes-next ps ms k p m h long, f.measured);
    small = small;
  }

  pub built-large : limit < used + unpacked_size (shape_in x) (get_or ps k p) (entries_in x) → limit < sizes_of ps ms
  built-large l = omega (arith, l, the-size, sizes-next ps ms k p m h long, f.measured)

module _ (ps : List Part) (ms : List Map) (k : ℕ) (lists : List (List ℤ)) (used : ℕ) (h : length ps ≤ k) (f : IsBuiltTo ps ms k lists used) where
  pub built-all : lists ≡ lists_of ps ms
  built-all = lists-end ps ms k lists (lists_of ps ms) h f.built

  pub built-small : sizes_of ps ms ≤ limit
  built-small = omega (arith, f.measured, f.small, ap (λ (l : List Part). sizes_of l (drop k ms)) (drop_all k ps h))

-- ---- a part that is too large

abbrev pub failed_size : BuildFault → Result ℕ BuildFault
failed_size f = Err f

abbrev pub failed : BuildFault → Result (List (List ℤ)) BuildFault
failed f = Err f

pub same_fault : (a b : BuildFault) → failed a ≡ failed b → a ≡ b
same_fault a b e = cc

-- ---- meaning

module _ (s : Shape) (x : Declared) (m : List Entry) (valid : IsValid x) (accepted : first_refusal (declaration_of x) ≡ None) (im : IsMatrixOf s m) where
  pub all-mean : (r : Result (List (List ℤ)) BuildFault) (lists : List (List ℤ)) (n : ℕ) → lists ≡ buffers s (declaration_of x) m → n ≡ size s (declaration_of x) m → IfOk r (λ b. b ≡ lists) → OnOk r (n ≤ limit)
      → IfOk r (λ b. meaning s (declaration_of x) b ≡ Some m)
  all-mean (Ok b) lists n e f is within =
      let law : IsLawfulDeclaration (declaration_of x) = accepted-declaration x valid accepted in
      ap (meaning s (declaration_of x)) (is ∙ e) ∙ (buffers-mean-matrix s (declaration_of x) m law im).meant (small-within s (declaration_of x) m law im (subst (λ (k : ℕ). k ≤ limit) f within))
  all-mean (Err y) lists n e f is within = tt
