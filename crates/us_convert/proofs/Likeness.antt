-- What the test whether formats are alike says.
use Rattle.std.proofs.Common.{◌≡◌, ◌<◌, ◌≤◌, rules, Bool, true, false, nat_eq, ◌&&◌, refl, sym, ◌∙◌, subst, ap, ap₂, arith, List, [], ◌∷◌, length, Result, Ok, Err, ◌⊎◌, inl, inr}
use Rattle.std.specs.Prelude.{None, IfOk}
use Rattle.std.proofs.lemmas.Bool.{and_parts, and_from, eqb-true, eq-eqb, cases_lt}
use Rattle.std.proofs.lemmas.List.Elements.{All-nil}
use Rattle.us_expr.specs.Tree.{Tree}
use Rattle.us_format.specs.Known.{same_tree}
use Rattle.us_format.specs.Lists.{among}
use Rattle.us_format.specs.Declaration.{Query, Declaration, defined}
use Rattle.us_format.specs.Matrix.{IsMatrixOf, is_zero}
use Rattle.us_format.proofs.Trees.{same_tree-true, same_tree-refl}
use Rattle.us_decl.specs.Declares.{Declared, IsValid}
use Rattle.us_judge.specs.Acceptance.{first_refusal}
use Rattle.us_judge.specs.Format.{part_at}
use Rattle.us_judge.specs.Views.{declaration_of}
use Rattle.us_gen_parts_build.proofs.Readable.{readable-part}
use Rattle.us_right.specs.Right.{AreAlike}
use Rattle.us_convert.specs.Alike.{same_trees, is_plain, alike_parts, alike}

trees_true : (xs ys : List Tree) → same_trees xs ys ≡ true → xs ≡ ys
trees_true [] [] h = refl
trees_true [] (y ∷ ys) h = absurd cc
trees_true (x ∷ xs) [] h = absurd cc
trees_true (x ∷ xs) (y ∷ ys) h =
    let p = and_parts (same_tree x y) (same_trees xs ys) h in
    ap₂ (λ (a : Tree) (b : List Tree). a ∷ b) (same_tree-true x y p.0) (trees_true xs ys p.1)

trees_refl : (xs : List Tree) → same_trees xs xs ≡ true
trees_refl [] = refl
trees_refl (x ∷ xs) = and_from (same_tree x x) (same_trees xs xs) (same_tree-refl x) (trees_refl xs)

plain_true : (qs : List Query) → is_plain qs ≡ true → qs ≡ []
plain_true [] h = refl
plain_true (q ∷ qs) h = absurd cc

plain_from : (qs : List Query) → qs ≡ [] → is_plain qs ≡ true
plain_from qs e = ap is_plain e

pub alike-true : (f g : Declaration) → alike f g ≡ true → AreAlike f g
alike-true f g h =
    let a = and_parts (nat_eq (length f.parts) 1) (nat_eq (length g.parts) 1 && alike_parts (part_at f 0) (part_at g 0)) h in
    let b = and_parts (nat_eq (length g.parts) 1) (alike_parts (part_at f 0) (part_at g 0)) a.1 in
    let p = and_parts (is_plain (part_at f 0).queries) (is_plain (part_at g 0).queries && same_trees (part_at f 0).levels (part_at g 0).levels) b.1 in
    let q = and_parts (is_plain (part_at g 0).queries) (same_trees (part_at f 0).levels (part_at g 0).levels) p.1 in
    record {
      one_from = eqb-true (length f.parts) 1 a.0;
      one_to = eqb-true (length g.parts) 1 b.0;
      plain_from = plain_true (part_at f 0).queries p.0;
      plain_to = plain_true (part_at g 0).queries q.0;
      levels = trees_true (part_at f 0).levels (part_at g 0).levels q.1;
    }

pub alike-from : (f g : Declaration) → AreAlike f g → alike f g ≡ true
alike-from f g a =
    and_from (nat_eq (length f.parts) 1) (nat_eq (length g.parts) 1 && alike_parts (part_at f 0) (part_at g 0)) (eq-eqb (length f.parts) 1 a.one_from)
    (and_from (nat_eq (length g.parts) 1) (alike_parts (part_at f 0) (part_at g 0)) (eq-eqb (length g.parts) 1 a.one_to)
    (and_from (is_plain (part_at f 0).queries) (is_plain (part_at g 0).queries && same_trees (part_at f 0).levels (part_at g 0).levels) (plain_from (part_at f 0).queries a.plain_from)
    (and_from (is_plain (part_at g 0).queries) (same_trees (part_at f 0).levels (part_at g 0).levels) (plain_from (part_at g 0).queries a.plain_to)
    (subst (λ (es : List Tree). same_trees (part_at f 0).levels es ≡ true) a.levels (trees_refl (part_at f 0).levels)))))

-- ---- names

none_matrix : IsMatrixOf (record { rows = 0; cols = 0 }) []
none_matrix = record { sorted = search rules; rows = All-nil (λ x. x.i < 0); cols = All-nil (λ x. x.j < 0); nonzero = All-nil (λ x. is_zero x.v ≡ false) }

-- a part without queries has no names
pub names-none : (d : Declared) → IsValid d → first_refusal (declaration_of d) ≡ None → 0 < length (declaration_of d).parts → (part_at (declaration_of d) 0).queries ≡ [] → (part_at (declaration_of d) 0).names ≡ 0
names-none d valid kept below plain = go (cases_lt 0 (part_at (declaration_of d) 0).names)
  where
    go : (0 < (part_at (declaration_of d) 0).names) ⊎ ((part_at (declaration_of d) 0).names ≤ 0) → (part_at (declaration_of d) 0).names ≡ 0
    go (inl lt) =
        let named : among 0 (defined (part_at (declaration_of d) 0).queries) ≡ true = (readable-part d valid kept 0 below (record { rows = 0; cols = 0 }) [] none_matrix (omega arith) (omega arith) (omega arith)).named 0 lt in
        let none : ◌≡◌ {A = Bool} false true = subst (λ (qs : List Query). among 0 (defined qs) ≡ true) plain named in
        absurd cc
    go (inr le) = omega (arith, le)

-- what is said of formats that are alike says nothing of others
pub not-alike : {A E : Type 0} (f g : Declaration) → alike f g ≡ false → (P : A → Type 0) (r : Result A E) → IfOk r (λ v. AreAlike f g → P v)
not-alike f g e P (Ok v) = λ a. let z : ◌≡◌ {A = Bool} true false = sym (alike-from f g a) ∙ e in absurd cc
not-alike f g e P (Err x) = tt
