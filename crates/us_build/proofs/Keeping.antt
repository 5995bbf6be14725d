-- Lists that stand while others are added.
use Rattle.std.proofs.Common.{◌≡◌, ℤ, List, [], ◌∷◌, ◌++◌, length, take, Result, Ok, Err, OnOk, OnErr, refl, sym, subst, ◌∙◌, append-nil, append_assoc}
use Rattle.std.proofs.lemmas.List.{take_at}
use Rattle.us_build.specs.Cells.{BeginsWith}

pub begins-more : (old more now : List (List ℤ)) → now ≡ old ++ more → BeginsWith now old
begins-more old more now e = subst (λ (z : List (List ℤ)). take (length old) z ≡ old) (sym e) (take_at old more (length old) refl)

pub begins-same : (lists : List (List ℤ)) → BeginsWith lists lists
begins-same lists = begins-more lists [] lists (sym (append-nil lists))

-- after more lists, one further list is pushed or not
pub begins-pushed : {T E : Type 0} (r : Result T E) (old more between now : List (List ℤ)) (x : List ℤ) → between ≡ old ++ more → OnOk r (now ≡ between ++ x ∷ []) → OnErr r (now ≡ between) → BeginsWith now old
begins-pushed (Ok t) old more between now x b y n =
    begins-more old (more ++ x ∷ []) now (y ∙ subst (λ (z : List (List ℤ)). z ++ x ∷ [] ≡ old ++ (more ++ x ∷ [])) (sym b) (append_assoc old more (x ∷ [])))
begins-pushed (Err e) old more between now x b y n = begins-more old more now (n ∙ b)
