-- The numbers of a seed and its triples, one after the other.
use Rattle.std.proofs.Common.{◌≡◌, ℕ, ◌+◌, ◌*◌, ◌<◌, List, [], ◌∷◌, ◌++◌, All, refl, sym, ap, ◌∙◌, add-one, mod-lt, arith}
use Rattle.std.specs.List.{range_with_len}
use Rattle.std.proofs.lemmas.List.Elements.{All-map}
use Rattle.std.proofs.lemmas.List.FromFn.{map-range_with_len_more}
use Rattle.us_matrix.specs.declared.matrix.Triple.{Triple}
use Rattle.us_matrix.specs.Map.{IsInShape}
use Rattle.us_sample.specs.Numbers.{after, number_at, triple_from, triple_at, triples_of}

pub number_at-zero : (seed : ℕ) → number_at seed 0 ≡ seed
unfolding number_at
number_at-zero seed = refl

-- a number is the one behind the number before it
pub number_at-more : (seed n k : ℕ) → n + 1 ≡ k → number_at seed k ≡ after (number_at seed n)
unfolding number_at
number_at-more seed n k e = ap (number_at seed) (sym e ∙ add-one n)

pub triples_of-none : (seed rows cols : ℕ) → triples_of seed rows cols 0 ≡ []
unfolding triples_of
triples_of-none seed rows cols = refl

-- one triple more
pub triples_of-more : (seed rows cols t : ℕ) → triples_of seed rows cols (t + 1) ≡ triples_of seed rows cols t ++ triple_at seed rows cols t ∷ []
unfolding triples_of
triples_of-more seed rows cols t = map-range_with_len_more (triple_at seed rows cols) 0 t t (omega arith)

-- all triples lie in the shape
pub triples_of-inside : (seed rows cols count : ℕ) → 0 < rows → 0 < cols → All (IsInShape rows cols) (triples_of seed rows cols count)
unfolding triples_of
triples_of-inside seed rows cols count r c =
    All-map (IsInShape rows cols) (triple_at seed rows cols) (range_with_len 0 count) (λ k d h. record { row = mod-lt _ r; col = mod-lt _ c })

-- the triple of the next three numbers, behind the triples in front of it
pub drawn_more : (seed rows cols t a b c : ℕ) (before now : List Triple) (drawn : Triple) → a ≡ number_at seed (3 * t + 1) → b ≡ number_at seed (3 * t + 2)
    → c ≡ number_at seed (3 * t + 3) → drawn ≡ triple_from rows cols a b c → before ≡ triples_of seed rows cols t → now ≡ before ++ drawn ∷ []
    → now ≡ triples_of seed rows cols (t + 1)
drawn_more seed rows cols t a b c before now drawn ea eb ec ed e n =
    let same : drawn ≡ triple_at seed rows cols t =
    ed ∙ ap (λ x. triple_from rows cols x b c) ea ∙ ap (λ x. triple_from rows cols (number_at seed (3 * t + 1)) x c) eb
    ∙ ap (triple_from rows cols (number_at seed (3 * t + 1)) (number_at seed (3 * t + 2))) ec in
    n ∙ ap (λ xs. xs ++ drawn ∷ []) e ∙ ap (λ x. triples_of seed rows cols t ++ x ∷ []) same ∙ sym (triples_of-more seed rows cols t)
