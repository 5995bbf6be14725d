-- Words and numbers are read to their end.
use Rattle.std.proofs.Common.{◌≡◌, ℕ, suc, ◌+◌, List, [], ◌∷◌, ◌++◌, Bool, true, false, cond, take, drop, length, refl, sym, ap, ◌∙◌, append_assoc, eqb, ◌||◌, arith}
use Rattle.std.specs.List.{prefix_len}
use Rattle.us_tokens.specs.Text.{Text, End, Then}
use Rattle.us_tokens.specs.Lex.{Language, Mode, Between, Comment, Word, Digits, Sign, lexed, begins, told, is_blank, is_letter, is_digit, is_word, is_gap, capped_value}

add_nil : {A : Type 0} (xs : List A) → xs ++ [] ≡ xs
add_nil [] = refl
add_nil (x ∷ xs) = ap (λ ys. x ∷ ys) (add_nil xs)

one_add : (n : ℕ) → 1 + n ≡ suc n
one_add n = omega arith

pub gap_parts : (x y : Bool) → (x || y) ≡ false → (x ≡ false) × (y ≡ false)
gap_parts true y e = absurd cc
gap_parts false y e = (refl, e)

letter_word : (x y : Bool) → x ≡ true → (x || y) ≡ true
letter_word true y e = refl
letter_word false y e = absurd cc

-- what the tests of a byte between tokens choose
abbrev chosen : {K : Type 0} → Bool → Bool → Bool → Bool → ℕ → (Mode → Text K) → Text K
chosen blank hash letter digit b go = cond blank (go Between) (cond hash (go Comment) (cond letter (go (Word (b ∷ []))) (cond digit (go (Digits (b ∷ []))) (go (Sign b)))))

module _ {K : Type 0} (L : Language K) where
  -- a word, or digits, that ends after n more of these bytes
  abbrev pub ends_word : List ℕ → List ℕ → ℕ → Text K
  ends_word acc bs n = told (L.word (acc ++ take n bs)) (acc ++ take n bs) (length (drop n bs)) (lexed L (drop n bs) Between)

  abbrev pub ends_number : List ℕ → List ℕ → ℕ → Text K
  ends_number acc bs n = Then (L.number (capped_value L.limit (acc ++ take n bs))) (acc ++ take n bs) (length (drop n bs)) (lexed L (drop n bs) Between)

  regrouped : (f : List ℕ → Text K) (acc : List ℕ) (b : ℕ) (w : List ℕ) → f ((acc ++ (b ∷ [])) ++ w) ≡ f (acc ++ (b ∷ w))
  regrouped f acc b w = ap f (append_assoc acc (b ∷ []) w)

  word_step : (t : Bool) (b : ℕ) (bs acc : List ℕ) → lexed L bs (Word (acc ++ (b ∷ []))) ≡ ends_word (acc ++ (b ∷ [])) bs (prefix_len is_word bs)
      → cond t (lexed L bs (Word (acc ++ (b ∷ [])))) (told (L.word acc) acc (length (b ∷ bs)) (begins b (lexed L bs))) ≡ ends_word acc (b ∷ bs) (cond t (1 + prefix_len is_word bs) 0)
  unfolding lexed
  word_step true b bs acc h =
      let n = prefix_len is_word bs in
      h ∙ regrouped (λ (w : List ℕ). told (L.word w) w (length (drop n bs)) (lexed L (drop n bs) Between)) acc b (take n bs) ∙ ap (ends_word acc (b ∷ bs)) (sym (one_add n))
  word_step false b bs acc h = ap (λ (w : List ℕ). told (L.word w) w (length (b ∷ bs)) (lexed L (b ∷ bs) Between)) (sym (add_nil acc))

  pub word_run : (bs acc : List ℕ) → lexed L bs (Word acc) ≡ ends_word acc bs (prefix_len is_word bs)
  unfolding lexed
  word_run [] acc = ap (λ (w : List ℕ). told (L.word w) w 0 End) (sym (add_nil acc))
  word_run (b ∷ bs) acc = word_step (is_word b) b bs acc (word_run bs (acc ++ (b ∷ [])))

  number_step : (t : Bool) (b : ℕ) (bs acc : List ℕ) → lexed L bs (Digits (acc ++ (b ∷ []))) ≡ ends_number (acc ++ (b ∷ [])) bs (prefix_len is_digit bs)
      → cond t (lexed L bs (Digits (acc ++ (b ∷ [])))) (Then (L.number (capped_value L.limit acc)) acc (length (b ∷ bs)) (begins b (lexed L bs))) ≡ ends_number acc (b ∷ bs) (cond t (1 + prefix_len is_digit bs) 0)
  unfolding lexed
  number_step true b bs acc h =
      let n = prefix_len is_digit bs in
      h ∙ regrouped (λ (w : List ℕ). Then (L.number (capped_value L.limit w)) w (length (drop n bs)) (lexed L (drop n bs) Between)) acc b (take n bs) ∙ ap (ends_number acc (b ∷ bs)) (sym (one_add n))
  number_step false b bs acc h = ap (λ (w : List ℕ). Then (L.number (capped_value L.limit w)) w (length (b ∷ bs)) (lexed L (b ∷ bs) Between)) (sym (add_nil acc))

  pub number_run : (bs acc : List ℕ) → lexed L bs (Digits acc) ≡ ends_number acc bs (prefix_len is_digit bs)
  unfolding lexed
  number_run [] acc = ap (λ (w : List ℕ). Then (L.number (capped_value L.limit w)) w 0 End) (sym (add_nil acc))
  number_run (b ∷ bs) acc = number_step (is_digit b) b bs acc (number_run bs (acc ++ (b ∷ [])))

  -- past the tests of a byte that is no gap
  no_gap : (b : ℕ) (go : Mode → Text K) → is_gap b ≡ false → begins b go ≡ chosen false false (is_letter b) (is_digit b) b go
  no_gap b go gap =
      let g = gap_parts (is_blank b) (eqb b 35) gap in
      ap (λ (t : Bool). chosen t (eqb b 35) (is_letter b) (is_digit b) b go) g.0 ∙ ap (λ (t : Bool). chosen false t (is_letter b) (is_digit b) b go) g.1

  -- a word at the front
  pub word_first : (b : ℕ) (bs : List ℕ) → is_gap b ≡ false → is_letter b ≡ true → lexed L (b ∷ bs) Between ≡ ends_word [] (b ∷ bs) (prefix_len is_word (b ∷ bs))
  unfolding lexed
  word_first b bs gap letter =
      let e : prefix_len is_word (b ∷ bs) ≡ suc (prefix_len is_word bs) = ap (λ (t : Bool). cond t (1 + prefix_len is_word bs) 0) (letter_word (is_letter b) (is_digit b) letter) ∙ one_add (prefix_len is_word bs) in
      no_gap b (lexed L bs) gap ∙ ap (λ (t : Bool). chosen false false t (is_digit b) b (lexed L bs)) letter ∙ word_run bs (b ∷ []) ∙ ap (ends_word [] (b ∷ bs)) (sym e)

  -- a number at the front
  pub number_first : (b : ℕ) (bs : List ℕ) → is_gap b ≡ false → is_letter b ≡ false → is_digit b ≡ true → lexed L (b ∷ bs) Between ≡ ends_number [] (b ∷ bs) (prefix_len is_digit (b ∷ bs))
  unfolding lexed
  number_first b bs gap letter digit =
      let e : prefix_len is_digit (b ∷ bs) ≡ suc (prefix_len is_digit bs) = ap (λ (t : Bool). cond t (1 + prefix_len is_digit bs) 0) digit ∙ one_add (prefix_len is_digit bs) in
      no_gap b (lexed L bs) gap ∙ ap (λ (t : Bool). chosen false false t (is_digit b) b (lexed L bs)) letter ∙ ap (λ (t : Bool). chosen false false false t b (lexed L bs)) digit ∙ number_run bs (b ∷ []) ∙ ap (ends_number [] (b ∷ bs)) (sym e)

  -- another byte
  pub sign_first : (b : ℕ) (bs : List ℕ) → is_gap b ≡ false → is_letter b ≡ false → is_digit b ≡ false → lexed L (b ∷ bs) Between ≡ lexed L bs (Sign b)
  unfolding lexed
  sign_first b bs gap letter digit =
      no_gap b (lexed L bs) gap ∙ ap (λ (t : Bool). chosen false false t (is_digit b) b (lexed L bs)) letter ∙ ap (λ (t : Bool). chosen false false false t b (lexed L bs)) digit
