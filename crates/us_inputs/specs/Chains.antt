-- Chains of formats: names between commas.
use Rattle.std.specs.Prelude.{ℕ, List, [], ◌∷◌, length, nat_le, not, ◌==◌, ◌&&◌, codes, Bool}
use Rattle.std.specs.List.{slice_split, filter, list_all, list_any}
use Rattle.std.specs.Str.{bytes_eq}

-- the names between the commas
abbrev pub names_of : List ℕ → List (List ℕ)
names_of chain = slice_split (λ b. b == 44) chain

-- the word that stands for the canonical text of a matrix
abbrev pub is_text : List ℕ → Bool
is_text name = bytes_eq name (codes "mtx")

-- all but the last
abbrev pub front : List (List ℕ) → List (List ℕ)
front [] = []
front (x ∷ []) = []
front (x ∷ y ∷ xs) = x ∷ front (y ∷ xs)

-- 1 to 64 names, none empty, and `mtx` only as the last
unfoldable pub is_chain : List ℕ → Bool
is_chain chain =
    nat_le (length (names_of chain)) 64
    && (list_all (λ w. not (length w == 0)) (names_of chain) && not (list_any is_text (front (names_of chain))))

-- the formats of a chain: its names but for `mtx`
abbrev pub hops_of : List ℕ → List (List ℕ)
hops_of chain = filter (λ w. not (is_text w)) (names_of chain)

-- whether a chain ends in the canonical text
abbrev pub ends_in_text : List ℕ → Bool
ends_in_text chain = list_any is_text (names_of chain)

-- one name of a format: not empty, without a comma, and not `mtx`
abbrev pub is_name : List ℕ → Bool
is_name word = not (length word == 0) && (not (list_any (λ b. b == 44) word) && not (is_text word))
