-- A part of an accepted declaration, and where its packs begin.
use Rattle.std.proofs.Common.{◌≡◌, ℕ, ◌+◌, ◌<◌, ◌≤◌, length, Bool, true, false, not, leb, ◌&&◌, refl, sym, ap, subst, ◌∙◌, arith}
use Rattle.std.specs.Prelude.{None}
use Rattle.std.proofs.lemmas.Bool.Decides.{nat_tests}
use Rattle.us_format.specs.Lists.{when}
use Rattle.us_format.specs.Declaration.{Part}
use Rattle.us_format.specs.Reading.{buffer_count, pack_place}
use Rattle.us_decl.specs.Declares.{Declared, IsValid}
use Rattle.us_judge.specs.Acceptance.{bad_count, first_refusal}
use Rattle.us_judge.specs.Format.{part_at}
use Rattle.us_judge.specs.Short.{IsShort}
use Rattle.us_judge.specs.Views.{declaration_of}
use Rattle.us_judge.proofs.Accepted.{KeepsRules, accepted-keeps}
use Rattle.us_judge.proofs.SomePart.{short-part}
use Rattle.us_climb.specs.Own.{IsPartOf}

few_of : (n : ℕ) (a b : Bool) → leb n 6 ≡ b → when {A = ℕ} (not (a && b)) 0 ≡ None → n ≤ 6
few_of n true true e h = grind (arith, nat_tests)
few_of n true false e h = absurd cc
few_of n false b e h = absurd cc

-- a part that keeps its rules has at most six levels
pub kept-few : (p : Part) → KeepsRules p → length p.levels ≤ 6
kept-few p kept = few_of (length p.levels) (leb 1 (length p.levels)) (leb (length p.levels) 6) refl (kept 0 (1, bad_count) (omega arith))

pub is-part : (declared : Declared) (k : ℕ) (p : Part) → IsValid declared → first_refusal (declaration_of declared) ≡ None → k < length (declaration_of declared).parts → p ≡ part_at (declaration_of declared) k
    → IsPartOf declared k p
is-part declared k p valid kept there is =
    let at : Part = part_at (declaration_of declared) k in
    record {
      accepted = record { valid = valid; kept = kept };
      there = there;
      short = subst IsShort (sym is) (short-part declared k valid there);
      few = subst (λ (q : Part). length q.levels ≤ 6) (sym is) (kept-few (part_at (declaration_of declared) k) (accepted-keeps (declaration_of declared) kept k _ there));
      is = is;
    }

-- as many buffers as stand before the packs, and the packs
pub packs-behind : (p q : Part) (n : ℕ) → n ≡ buffer_count q → p ≡ q → n ≡ pack_place p 0 + length p.packs
packs-behind p q n is same = is ∙ ap (λ (x : Part). buffer_count x) (sym same) ∙ omega arith
