-- Lists that are made item by item.
use Rattle.std.proofs.Common.{◌≡◌, ℕ, ◌+◌, ◌-◌, ◌<◌, ◌≤◌, List, [], ◌∷◌, ◌++◌, map, length, take, get_or, sym, ap, ◌∙◌, add-one, arith}
use Rattle.std.specs.List.{range_with_len}
use Rattle.std.proofs.Math.Seq.{take-suc}
use Rattle.std.proofs.lemmas.List.{map-append, append_assoc, append-nil, take_all}
use Rattle.std.proofs.lemmas.List.FromFn.{map-range_with_len_more}
use Rattle.us_format.specs.Lists.{join}
use Rattle.us_known.proofs.Loops.{join-append}

-- ---- one for each item

pub mapped-next : {A B : Type 0} (f : A → B) (xs : List A) (k : ℕ) (x : A) (ys zs : List B) (y : B) → k < length xs → x ≡ get_or xs k x → ys ≡ map f (take k xs) → y ≡ f x → zs ≡ ys ++ (y ∷ []) → zs ≡ map f (take (k + 1) xs)
mapped-next f xs k x ys zs y below is before here pushed =
    let longer : take (k + 1) xs ≡ take k xs ++ (x ∷ []) = rw (add-one) (take-suc xs k x below ∙ ap (λ (z : _). take k xs ++ (z ∷ [])) (sym is)) in
    pushed ∙ ap (λ (l : List _). l ++ (y ∷ [])) before ∙ ap (λ (z : _). map f (take k xs) ++ (z ∷ [])) here ∙ sym (ap (map f) longer ∙ map-append f (take k xs) (x ∷ []))

pub mapped-all : {A B : Type 0} (f : A → B) (xs : List A) (k : ℕ) → length xs ≤ k → map f (take k xs) ≡ map f xs
mapped-all f xs k past = ap (map f) (take_all k xs past)

-- ---- one for each of the numbers from 1 to k - 1

abbrev pub made_to : {A : Type 0} → (ℕ → A) → ℕ → List A
made_to f k = map f (range_with_len 1 (k - 1))

made-more : {A : Type 0} (f : ℕ → A) (k : ℕ) → 1 ≤ k → made_to f (k + 1) ≡ made_to f k ++ (f k ∷ [])
made-more f k low =
    let back : k + 1 - 1 ≡ k - 1 + 1 = omega (arith, low) in
    ap (λ (n : ℕ). map f (range_with_len 1 n)) back ∙ map-range_with_len_more f 1 (k - 1) k (omega (arith, low))

pub pushed-more : {A : Type 0} (f : ℕ → A) (k : ℕ) (old now new : List A) (x : A) → 1 ≤ k → now ≡ old ++ made_to f k → x ≡ f k → new ≡ now ++ (x ∷ []) → new ≡ old ++ made_to f (k + 1)
pushed-more f k old now new x low before here pushed =
    pushed ∙ ap (λ (l : List _). l ++ (x ∷ [])) before ∙ ap (λ (z : _). old ++ made_to f k ++ (z ∷ [])) here ∙ sym (ap (λ (l : List _). old ++ l) (made-more f k low) ∙ sym (append_assoc old (made_to f k) (f k ∷ [])))

pub joined-more : {A : Type 0} (f : ℕ → List A) (k : ℕ) (now new : List A) → 1 ≤ k → now ≡ join (made_to f k) → new ≡ now ++ f k → new ≡ join (made_to f (k + 1))
joined-more f k now new low before pushed =
    pushed ∙ ap (λ (l : List _). l ++ f k) before
    ∙ sym (ap (λ (l : List (List _)). join l) (made-more f k low) ∙ join-append (made_to f k) (f k ∷ []) ∙ ap (λ (l : List _). join (made_to f k) ++ l) (append-nil (f k)))
