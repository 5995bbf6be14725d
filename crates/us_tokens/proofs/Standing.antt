-- What the code finds at the front of a text is its first token.
use Rattle.std.proofs.Common.{◌≡◌, ◌≤◌, ◌-◌, ℕ, ◌+◌, List, [], ◌∷◌, true, false, take, drop, length, Option, Some, None, refl, sym, ap, ◌∙◌, arith, length-take, length-drop, ◌==◌}
use Rattle.std.specs.List.{prefix_len}
use Rattle.std.proofs.lemmas.Bool.Decides.{nat_tests}
use Rattle.std.specs.Option.{is_some}
use Rattle.us_tokens.specs.Text.{End, Bad, Then, left_of, bytes_of, behind_of, after}
use Rattle.us_tokens.specs.Lex.{Language, Between, lexed, told, paired, first_is, is_gap, is_letter, is_digit, is_word, capped_value}
use Rattle.us_tokens.specs.Front.{standing, stopped, pair_at}
use Rattle.us_tokens.proofs.Runs.{ends_word, ends_number, word_first, number_first, sign_first}

module _ {K : Type 0} (L : Language K) where
  parts : (n : ℕ) (xs : List ℕ) → length (take n xs) + length (drop n xs) ≡ length xs
  parts n xs = omega (arith, length-take n xs, length-drop n xs)

  told_stands : (o : Option K) (b : ℕ) (bs : List ℕ) (n : ℕ) → told o (take n (b ∷ bs)) (length (drop n (b ∷ bs))) (lexed L (drop n (b ∷ bs)) Between) ≡ standing L o (b ∷ bs) n
  told_stands None b bs n = ap Bad (parts n (b ∷ bs))
  told_stands (Some k) b bs n = refl

  pub word_stands : (bytes : List ℕ) (n : ℕ) (o : Option K) → first_is is_gap bytes ≡ false → first_is is_letter bytes ≡ true → n ≡ prefix_len is_word bytes → o ≡ L.word (take n bytes) → standing L o bytes n ≡ lexed L bytes Between
  word_stands [] n o gap letter is token = absurd cc
  word_stands (b ∷ bs) n o gap letter is token =
      ap (λ (p : Option K). standing L p (b ∷ bs) n) token ∙ sym (told_stands (L.word (take n (b ∷ bs))) b bs n) ∙ ap (ends_word L [] (b ∷ bs)) is ∙ sym (word_first L b bs gap letter)

  pub number_stands : (bytes : List ℕ) (n : ℕ) (k : K) → first_is is_gap bytes ≡ false → first_is is_letter bytes ≡ false → first_is is_digit bytes ≡ true → n ≡ prefix_len is_digit bytes → k ≡ L.number (capped_value L.limit (take n bytes)) → standing L (Some k) bytes n ≡ lexed L bytes Between
  number_stands [] n k gap letter digit is token = absurd cc
  number_stands (b ∷ bs) n k gap letter digit is token =
      ap (λ (x : K). standing L (Some x) (b ∷ bs) n) token ∙ ap (ends_number L [] (b ∷ bs)) is ∙ sym (number_first L b bs gap letter digit)

  -- a symbol of two bytes
  pub pair_stands : (a : ℕ) (behind : List ℕ) (k : K) → is_gap a ≡ false → is_letter a ≡ false → is_digit a ≡ false → pair_at L a behind ≡ Some k → (standing L (Some k) (a ∷ behind) 2 ≡ lexed L (a ∷ behind) Between) × (2 ≤ length (a ∷ behind))
  unfolding lexed
  pair_stands a [] k gap letter digit token = absurd cc
  pair_stands a (b ∷ rest) k gap letter digit token =
      (sym (ap (λ (o : Option K). paired L o a b rest (lexed L rest)) token) ∙ sym (sign_first L a (b ∷ rest) gap letter digit), omega arith)

  single : (o : Option K) (a : ℕ) (behind : List ℕ) → told o (a ∷ []) (length behind) (lexed L behind Between) ≡ standing L o (a ∷ behind) 1
  single o a behind = told_stands o a behind 1

  -- a symbol of one byte, where no other goes on with it
  pub symbol_stands : (a : ℕ) (behind : List ℕ) (o : Option K) → is_gap a ≡ false → is_letter a ≡ false → is_digit a ≡ false → pair_at L a behind ≡ None → o ≡ L.symbol a → standing L o (a ∷ behind) 1 ≡ lexed L (a ∷ behind) Between
  unfolding lexed
  symbol_stands a [] o gap letter digit none token =
      ap (λ (p : Option K). standing L p (a ∷ []) 1) token ∙ sym (single (L.symbol a) a []) ∙ sym (sign_first L a [] gap letter digit)
  symbol_stands a (b ∷ rest) o gap letter digit none token =
      ap (λ (p : Option K). standing L p (a ∷ b ∷ rest) 1) token ∙ sym (single (L.symbol a) a (b ∷ rest)) ∙ sym (ap (λ (p : Option K). paired L p a b rest (lexed L rest)) none) ∙ sym (sign_first L a (b ∷ rest) gap letter digit)

  pub end_stands : (bytes : List ℕ) (n : ℕ) → bytes ≡ [] → standing L None bytes n ≡ lexed L bytes Between
  unfolding lexed
  end_stands bytes n is = ap (λ (x : List ℕ). standing L None x n) is ∙ sym (ap (λ (x : List ℕ). lexed L x Between) is)

  -- what a cursor tells of it
  pub left_stands : (o : Option K) (at : List ℕ) (len : ℕ) → length at ≡ left_of (standing L o at len)
  left_stands None [] len = refl
  left_stands None (b ∷ bs) len = refl
  left_stands (Some k) at len = sym (parts len at)

  pub behind_stands : (o : Option K) (at : List ℕ) (len : ℕ) → is_some o ≡ true → length at - len ≡ behind_of (standing L o at len)
  behind_stands None at len is = absurd cc
  behind_stands (Some k) at len is = sym (length-drop len at)

  pub stopped_left : (o : Option K) (at : List ℕ) (len : ℕ) → is_some o ≡ false → length at ≡ behind_of (standing L o at len)
  stopped_left None [] len is = refl
  stopped_left None (b ∷ bs) len is = refl
  stopped_left (Some k) at len is = absurd cc

  pub bytes_stand : (o : Option K) (at : List ℕ) (len : ℕ) → is_some o ≡ true → take len at ≡ bytes_of (standing L o at len)
  bytes_stand None at len is = absurd cc
  bytes_stand (Some k) at len is = refl

  pub no_bytes : (o : Option K) (at : List ℕ) (len : ℕ) → is_some o ≡ false → [] ≡ bytes_of (standing L o at len)
  no_bytes None [] len is = refl
  no_bytes None (b ∷ bs) len is = refl
  no_bytes (Some k) at len is = absurd cc

  pub token_stands : (o : Option K) (at : List ℕ) (len : ℕ) (k : K) → o ≡ Some k → standing L o at len ≡ Then k (bytes_of (standing L o at len)) (behind_of (standing L o at len)) (after (standing L o at len))
  token_stands None at len k is = absurd cc
  token_stands (Some l) at len k is = ap (λ (x : K). Then x (take len at) (length (drop len at)) (lexed L (drop len at) Between)) (let e : l ≡ k = cc in e)

  stopped_end : (at : List ℕ) → (length at == 0) ≡ true → stopped {K = K} at ≡ End
  stopped_end [] is = refl
  stopped_end (b ∷ bs) is = absurd (grind (arith, nat_tests))

  stopped_bad : (at : List ℕ) → (length at == 0) ≡ false → stopped {K = K} at ≡ Bad (left_of (stopped {K = K} at))
  stopped_bad [] is = absurd cc
  stopped_bad (b ∷ bs) is = refl

  pub ends : (o : Option K) (at : List ℕ) (len : ℕ) → o ≡ None → (length at == 0) ≡ true → standing L o at len ≡ End
  ends None at len none is = stopped_end at is
  ends (Some k) at len none is = absurd cc

  pub breaks : (o : Option K) (at : List ℕ) (len : ℕ) → o ≡ None → (length at == 0) ≡ false → standing L o at len ≡ Bad (left_of (standing L o at len))
  breaks None at len none is = stopped_bad at is
  breaks (Some k) at len none is = absurd cc

  pub stays : (o : Option K) (at : List ℕ) (len : ℕ) → is_some o ≡ false → standing L o at len ≡ after (standing L o at len)
  stays None [] len is = refl
  stays None (b ∷ bs) len is = refl
  stays (Some k) at len is = absurd cc

  pub goes_on : (o : Option K) (at rest : List ℕ) (len : ℕ) → is_some o ≡ true → rest ≡ drop len at → lexed L rest Between ≡ after (standing L o at len)
  goes_on None at rest len is cut = absurd cc
  goes_on (Some l) at rest len is cut = ap (λ (x : List ℕ). lexed L x Between) cut
