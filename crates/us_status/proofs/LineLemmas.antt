-- Texts with numbers, one after the other.
use Rattle.std.proofs.Common.{◌≡◌, ℕ, List, ◌++◌, sym, ap, ap₂, ◌∙◌, append_assoc}
use Rattle.std.specs.Fmt.{decimal}

joined : (old x t d : List ℕ) → (old ++ x) ++ (t ++ d) ≡ old ++ ((x ++ t) ++ d)
joined old x t d = append_assoc old x (t ++ d) ∙ ap (λ l. old ++ l) (sym (append_assoc x t d))

pub three_numbered : (old first second third a b c : List ℕ) (n m k m' k' : ℕ) → m ≡ m' → k ≡ k' → first ≡ old ++ (a ++ decimal n) → second ≡ first ++ (b ++ decimal m)
    → third ≡ second ++ (c ++ decimal k) → third ≡ old ++ (((((a ++ decimal n) ++ b) ++ decimal m') ++ c) ++ decimal k')
three_numbered old first second third a b c n m k m' k' em ek e f g =
    g ∙ ap (λ l. l ++ (c ++ decimal k)) (f ∙ ap (λ l. l ++ (b ++ decimal m)) e ∙ joined old (a ++ decimal n) b (decimal m))
    ∙ joined old (((a ++ decimal n) ++ b) ++ decimal m) c (decimal k)
    ∙ ap₂ (λ m k. old ++ (((((a ++ decimal n) ++ b) ++ decimal m) ++ c) ++ decimal k)) em ek

pub two_numbered : (old first second a b : List ℕ) (n m : ℕ) → first ≡ old ++ (a ++ decimal n) → second ≡ first ++ (b ++ decimal m)
    → second ≡ old ++ (((a ++ decimal n) ++ b) ++ decimal m)
two_numbered old first second a b n m e f = f ∙ ap (λ l. l ++ (b ++ decimal m)) e ∙ joined old (a ++ decimal n) b (decimal m)
