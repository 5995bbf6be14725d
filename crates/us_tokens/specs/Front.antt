-- What is known of a text at its first token.
use Rattle.std.specs.Prelude.{◌≡◌, ℕ, List, [], ◌∷◌, length, take, drop, Option, Some, None}
use Rattle.us_tokens.specs.declared.next.Next.{Next}
use Rattle.us_tokens.specs.declared.next.Next.TheVariants as next
use Rattle.us_tokens.specs.Text.{Text, End, Bad, Then, left_of, bytes_of, behind_of, after}
use Rattle.us_tokens.specs.Lex.{Language, lexed, Between}

-- no token here: the end, or a byte that begins none
abbrev pub stopped : {K : Type 0} → List ℕ → Text K
stopped [] = End
stopped (b ∷ bs) = Bad (length (b ∷ bs))

-- a token of so many bytes here, if there is one, and what the bytes behind it make
abbrev pub standing : {K : Type 0} → Language K → Option K → List ℕ → ℕ → Text K
standing L None at len = stopped at
standing L (Some k) at len = Then k (take len at) (length (drop len at)) (lexed L (drop len at) Between)

-- the symbol of two bytes that begins with a byte in front of others
abbrev pub pair_at : {K : Type 0} → Language K → ℕ → List ℕ → Option K
pair_at L a [] = None
pair_at L a (b ∷ bs) = L.pair a b

-- what a look at the first token of a text tells
abbrev pub Tells : {K : Type 0} → Text K → Next K → Type 0
Tells text next.End = text ≡ End
Tells text next.Bad = text ≡ Bad (left_of text)
Tells text (next.Token k) = text ≡ Then k (bytes_of text) (behind_of text) (after text)
