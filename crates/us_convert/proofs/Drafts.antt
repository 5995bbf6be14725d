-- Drafts, part by part.
use Rattle.std.proofs.Common.{◌≡◌, ℕ, ◌+◌, ◌*◌, ◌<◌, ◌≤◌, ◌++◌, true, false, sym, subst, arith, List, length, map}
use Rattle.std.specs.Prelude.{None}
use Rattle.us_format.specs.Matrix.{Shape}
use Rattle.us_format.specs.Declaration.{Declaration}
use Rattle.us_decl.specs.Declares.{Declared, IsValid}
use Rattle.us_judge.specs.Acceptance.{first_refusal}
use Rattle.us_judge.specs.Views.{declaration_of}
use Rattle.us_judge.proofs.LawfulDeclarations.{accepted-declaration}
use Rattle.us_code.specs.declared.pieces.Columns.{Columns}
use Rattle.us_code.specs.Plain.{PhaseTree, phase_tree}
use Rattle.us_right.specs.Draft.{IsMadeTo}
use Rattle.us_right.proofs.Growing.{grows}
use Rattle.us_convert.specs.declared.draft.Draft.{Draft}
use Rattle.us_convert.specs.Draft.{AddsPart, AddsParts, AddsSorted}
use Rattle.us_convert.specs.Own.{AreBelow}
use Rattle.us_convert.proofs.Numbers.{below-later}

-- behind the first k parts
pub record ArePassed (s : Shape) (d : Declaration) (k : ℕ) (old new : Draft) : Type 0 where
  pub adds : AddsParts s d k old new
  pub low : AreBelow new.columns new.fresh
  pub room : new.fresh ≤ 65536 + 4096 * k

pub passed-more : (s : Shape) (d : Declared) (k j : ℕ) (old now new : Draft) → IsValid d → first_refusal (declaration_of d) ≡ None → k < length (declaration_of d).parts → j ≡ k
    → ArePassed s (declaration_of d) k old now → AddsPart true s (declaration_of d) j now new → ArePassed s (declaration_of d) (k + 1) old new
passed-more s d k j old now new valid kept below same p more =
    let a : AddsPart true s (declaration_of d) k now new = subst (λ (i : ℕ). AddsPart true s (declaration_of d) i now new) same more in
    record {
      adds = λ f x.
          let grown : IsMadeTo true s f (declaration_of d) now.columns (k + 1) new.fresh (map phase_tree now.phases ++ a.made) (now.give ++ a.built) =
          grows true s f (declaration_of d) now.columns k now.fresh new.fresh (map phase_tree now.phases) a.made now.give a.built (accepted-declaration d valid kept) below (p.adds f x).made a.piece a.higher (λ e. absurd cc) in
          record {
            made =
                subst (λ (cs : Columns). IsMadeTo true s f (declaration_of d) cs (k + 1) new.fresh (map phase_tree new.phases) new.give) (sym a.columns)
                (subst (λ (ps : List PhaseTree). IsMadeTo true s f (declaration_of d) now.columns (k + 1) new.fresh ps new.give) (sym a.phases)
                (subst (λ (bs : List ℕ). IsMadeTo true s f (declaration_of d) now.columns (k + 1) new.fresh (map phase_tree now.phases ++ a.made) bs) (sym a.give) grown));
          };
      low = subst (λ (cs : Columns). AreBelow cs new.fresh) (sym a.columns) (below-later now.columns now.fresh new.fresh a.higher p.low);
      room = omega (arith, p.room, a.near);
    }

-- one part, without an order
pub sorted-more : (s : Shape) (d : Declared) (old new : Draft) → IsValid d → first_refusal (declaration_of d) ≡ None → 0 < length (declaration_of d).parts → AddsPart false s (declaration_of d) 0 old new → AddsSorted s (declaration_of d) old new
sorted-more s d old new valid kept below a f same x =
    let grown : IsMadeTo false s f (declaration_of d) old.columns 1 new.fresh (map phase_tree old.phases ++ a.made) (old.give ++ a.built) =
    grows false s f (declaration_of d) old.columns 0 old.fresh new.fresh (map phase_tree old.phases) a.made old.give a.built (accepted-declaration d valid kept) below x.made a.piece a.higher (λ e. same) in
    record {
      made =
          subst (λ (cs : Columns). IsMadeTo false s f (declaration_of d) cs 1 new.fresh (map phase_tree new.phases) new.give) (sym a.columns)
          (subst (λ (ps : List PhaseTree). IsMadeTo false s f (declaration_of d) old.columns 1 new.fresh ps new.give) (sym a.phases)
          (subst (λ (bs : List ℕ). IsMadeTo false s f (declaration_of d) old.columns 1 new.fresh (map phase_tree old.phases ++ a.made) bs) (sym a.give) grown));
    }
