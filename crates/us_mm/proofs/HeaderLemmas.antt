-- The header by its words.
use Rattle.std.proofs.Common.{◌≡◌, ◌≢◌, ℕ, List, [], ◌∷◌, length, Err, refl, ap}
use Rattle.us_mm.specs.declared.fault.MmFault.TheVariants.{Header}
use Rattle.us_mm_lines.specs.Words.{words}
use Rattle.us_mm.specs.Reads.{header_of, header_words}

header_words-not_five : (ws : List (List ℕ)) → length ws ≢ 5 → header_words ws ≡ Err Header
header_words-not_five [] h = refl
header_words-not_five (a ∷ []) h = refl
header_words-not_five (a ∷ b ∷ []) h = refl
header_words-not_five (a ∷ b ∷ c ∷ []) h = refl
header_words-not_five (a ∷ b ∷ c ∷ d ∷ []) h = refl
header_words-not_five (a ∷ b ∷ c ∷ d ∷ e ∷ []) h = absurd (h refl)
header_words-not_five (a ∷ b ∷ c ∷ d ∷ e ∷ f ∷ ws) h = refl

pub header_not_five : (line : List ℕ) → length (words line) ≢ 5 → header_of line ≡ Err Header
unfolding header_of
header_not_five line h = header_words-not_five (words line) h

pub header_five : (line a b c d e : List ℕ) → words line ≡ a ∷ b ∷ c ∷ d ∷ e ∷ [] → header_of line ≡ header_words (a ∷ b ∷ c ∷ d ∷ e ∷ [])
unfolding header_of
header_five line a b c d e h = ap header_words h
