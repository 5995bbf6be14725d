-- Answers of calls.
use Rattle.std.proofs.Common.{◌≡◌, ℕ, sym, ap, ◌∙◌, subst, List, ◌++◌, map, Result, Ok, Err}
use Rattle.std.specs.Prelude.{IfOk, OnOk}
use Rattle.std.proofs.lemmas.List.{map-append}
use Rattle.std.specs.declared.alloc.AllocError.{AllocError}
use Rattle.us_code.specs.declared.pieces.BuildPiece.{BuildPiece}
use Rattle.us_code.specs.declared.program.Phase.{Phase}
use Rattle.us_code.specs.declared.program.Program.{Program}
use Rattle.us_code.specs.Plain.{PhaseTree, ProgramTree, phase_tree, program_tree}

pub behind-is : (P : List PhaseTree → List ℕ → Type 0) (r : Result BuildPiece AllocError) (ps qs : List Phase) (out : List ℕ) → IfOk r (λ p. p.phases ≡ ps ++ qs) → IfOk r (λ p. p.buffers ≡ out)
    → P (map phase_tree ps ++ map phase_tree qs) out → IfOk r (λ p. P (map phase_tree p.phases) p.buffers)
behind-is P (Ok p) ps qs out a b x =
    subst (λ (bs : List ℕ). P (map phase_tree p.phases) bs) (sym b)
    (subst (λ (zs : List PhaseTree). P zs out) (sym (ap (λ (xs : List Phase). map phase_tree xs) a ∙ map-append phase_tree ps qs)) x)
behind-is P (Err e) ps qs out a b x = tt

pub on-ok : {A E : Type 0} (r : Result A E) (P : Type 0) → P → OnOk r P
on-ok (Ok x) P p = p
on-ok (Err e) P p = tt

-- the tree of a program, by its parts
abbrev pub tree_of : ℕ → List Phase → List ℕ → ProgramTree
tree_of n ps give = record { sources = n; phases = map phase_tree ps; give = give }

pub tree-is : (p : Program) (n : ℕ) (ps : List Phase) (give : List ℕ) → p.sources ≡ n → p.phases ≡ ps → p.give ≡ give → program_tree p ≡ tree_of n ps give
tree-is p n ps give a b e = ap (λ (k : ℕ). tree_of k p.phases p.give) a ∙ (ap (λ (xs : List Phase). tree_of n xs p.give) b ∙ ap (λ (bs : List ℕ). tree_of n ps bs) e)
