-- Bytes that spell tokens are read as these, whatever follows that doesn't go on the last of them.
use Rattle.std.proofs.Common.{◌≡◌, ◌<◌, ◌≤◌, ℕ, suc, ◌+◌, ◌^◌, List, [], ◌∷◌, ◌++◌, Bool, true, false, cond, leb, ◌&&◌, min, drop, length, Option, Some, None, refl, sym, ap, ◌∙◌, append_assoc, arith}
use Rattle.std.proofs.Math.Seq.{take-append_seam, drop-append_seam}
use Rattle.std.proofs.lemmas.Bool.Decides.{nat_tests}
use Rattle.std.proofs.lemmas.Fmt.{decimal_nonempty, digits_decimal, digits_value-decimal}
use Rattle.std.proofs.lemmas.Str.Parse.{IsDigitsTest, FoldsDigits, IsNumeralModel, numerals_by_fold}
use Rattle.std.specs.Fmt.{decimal}
use Rattle.std.specs.List.{prefix_len, list_all}
use Rattle.us_tokens.specs.Text.{End, Then}
use Rattle.us_tokens.specs.Lex.{Language, Between, lexed, told, paired, is_letter, is_digit, is_word, is_gap, first_is, decimal_value, capped_value}
use Rattle.us_tokens.specs.Front.{pair_at}
use Rattle.us_tokens.specs.Reading.{Machine, Lexeme, put, tokens_of}
use Rattle.us_tokens.proofs.Runs.{ends_word, ends_number, word_first, number_first, sign_first}
use Rattle.us_tokens.proofs.Reading.{put-append, tokens_of-append}

and_parts : (x y : Bool) → (x && y) ≡ true → (x ≡ true) × (y ≡ true)
and_parts true y e = (refl, e)
and_parts false y e = absurd cc

pub prefix_len-all : (p : ℕ → Bool) (w rest : List ℕ) → list_all p w ≡ true → first_is p rest ≡ false → prefix_len p (w ++ rest) ≡ length w
prefix_len-all p [] [] all stop = refl
prefix_len-all p [] (b ∷ bs) all stop = ap (λ (t : Bool). cond t (1 + prefix_len p bs) 0) stop
prefix_len-all p (b ∷ w) rest all stop =
    let a = and_parts (p b) (list_all p w) all in
    let one : 1 + prefix_len p (w ++ rest) ≡ suc (length w) = omega (arith, prefix_len-all p w rest a.1 stop) in
    ap (λ (t : Bool). cond t (1 + prefix_len p (w ++ rest)) 0) a.0 ∙ one

-- decimal numbers
in_digits : (c : ℕ) → 48 ≤ c → c ≤ 57 → is_digit c ≡ true
in_digits c low high = grind (arith, nat_tests)

digit_bounds : (c : ℕ) → is_digit c ≡ true → (48 ≤ c) × (c ≤ 57)
digit_bounds c e =
    let m = and_parts (leb 48 c) (leb c 57) e in
    (grind (arith, nat_tests), grind (arith, nat_tests))

digits_test : IsDigitsTest (λ ds. list_all is_digit ds ≡ true)
digits_test = record {
  empty = refl;
  parts = λ c cs e. let k = and_parts (is_digit c) (list_all is_digit cs) e in (digit_bounds c k.0, k.1);
  more = λ c cs k e. ap (λ (t : Bool). t && list_all is_digit cs) (in_digits c k.0 k.1) ∙ e;
}

folds : FoldsDigits (λ n ds. decimal_value ds n)
folds = record { empty = λ n. refl; more = λ n c cs k. refl }

numerals : IsNumeralModel (λ ds. list_all is_digit ds ≡ true) (λ ds. decimal_value ds 0)
numerals = numerals_by_fold _ digits_test (λ n ds. decimal_value ds n) folds

decimal_digits : (n : ℕ) → n < 2 ^ 64 → list_all is_digit (decimal n) ≡ true
decimal_digits n h = digits_decimal numerals n h

under : (n m limit : ℕ) → m ≡ n → n ≤ limit → min m (limit + 1) ≡ n
under n m limit e h = omega arith

decimal_capped : (limit n : ℕ) → n < 2 ^ 64 → n ≤ limit → capped_value limit (decimal n) ≡ n
decimal_capped limit n small h = under n (decimal_value (decimal n) 0) limit (digits_value-decimal numerals n small) h

letter_no_gap : (c : ℕ) → is_letter c ≡ true → is_gap c ≡ false
letter_no_gap c h = grind (arith, nat_tests)

digit_no_gap : (c : ℕ) → is_digit c ≡ true → is_gap c ≡ false
digit_no_gap c h = grind (arith, nat_tests)

digit_no_letter : (c : ℕ) → is_digit c ≡ true → is_letter c ≡ false
digit_no_letter c h = grind (arith, nat_tests)

-- a word: a letter or _, then letters, digits and _
pub record IsWord (w : List ℕ) : Type 0 where
  pub first : first_is is_letter w ≡ true
  pub all : list_all is_word w ≡ true

module _ {K : Type 0} (L : Language K) where
  seam_word : (k : K) (w rest : List ℕ) → L.word w ≡ Some k → ends_word L [] (w ++ rest) (length w) ≡ Then k w (length rest) (lexed L rest Between)
  seam_word k w rest is =
      ap (λ (x : List ℕ). told (L.word x) x (length (drop (length w) (w ++ rest))) (lexed L (drop (length w) (w ++ rest)) Between)) (take-append_seam w rest)
      ∙ ap (λ (x : List ℕ). told (L.word w) w (length x) (lexed L x Between)) (drop-append_seam w rest)
      ∙ ap (λ (o : Option K). told o w (length rest) (lexed L rest Between)) is

  pub lexed-word : (w : List ℕ) (k : K) (rest : List ℕ) → IsWord w → L.word w ≡ Some k → first_is is_word rest ≡ false → lexed L (w ++ rest) Between ≡ Then k w (length rest) (lexed L rest Between)
  lexed-word [] k rest word is stop = absurd (let e : false ≡ true = word.first in cc)
  lexed-word (c ∷ cs) k rest word is stop =
      word_first L c (cs ++ rest) (letter_no_gap c word.first) word.first ∙ ap (ends_word L [] (c ∷ (cs ++ rest))) (prefix_len-all is_word (c ∷ cs) rest word.all stop) ∙ seam_word k (c ∷ cs) rest is

  seam_number : (n : ℕ) (w rest : List ℕ) → capped_value L.limit w ≡ n → ends_number L [] (w ++ rest) (length w) ≡ Then (L.number n) w (length rest) (lexed L rest Between)
  seam_number n w rest is =
      ap (λ (x : List ℕ). Then (L.number (capped_value L.limit x)) x (length (drop (length w) (w ++ rest))) (lexed L (drop (length w) (w ++ rest)) Between)) (take-append_seam w rest)
      ∙ ap (λ (x : List ℕ). Then (L.number (capped_value L.limit w)) w (length x) (lexed L x Between)) (drop-append_seam w rest)
      ∙ ap (λ (m : ℕ). Then (L.number m) w (length rest) (lexed L rest Between)) is

  lexed-digits : (n : ℕ) (w rest : List ℕ) → 0 < length w → list_all is_digit w ≡ true → capped_value L.limit w ≡ n → first_is is_digit rest ≡ false → lexed L (w ++ rest) Between ≡ Then (L.number n) w (length rest) (lexed L rest Between)
  lexed-digits n [] rest some all is stop = absurd (omega arith)
  lexed-digits n (c ∷ cs) rest some all is stop =
      let digit = (and_parts (is_digit c) (list_all is_digit cs) all).0 in
      number_first L c (cs ++ rest) (digit_no_gap c digit) (digit_no_letter c digit) digit ∙ ap (ends_number L [] (c ∷ (cs ++ rest))) (prefix_len-all is_digit (c ∷ cs) rest all stop) ∙ seam_number n (c ∷ cs) rest is

  pub lexed-decimal : (n : ℕ) (rest : List ℕ) → n < 2 ^ 64 → n ≤ L.limit → first_is is_digit rest ≡ false → lexed L (decimal n ++ rest) Between ≡ Then (L.number n) (decimal n) (length rest) (lexed L rest Between)
  lexed-decimal n rest small h stop = lexed-digits n (decimal n) rest (decimal_nonempty n small) (decimal_digits n small) (decimal_capped L.limit n small h) stop

module _ {K T S D F : Type 0} (L : Language K) (M : Machine K T S D F) where
  -- in front of rest, the bytes are read as the tokens
  pub record Spells (bytes : List ℕ) (ts : List T) (rest : List ℕ) : Type 0 where
    pub front : List (Lexeme K)
    pub is : lexed L (bytes ++ rest) Between ≡ put front (lexed L rest Between)
    pub spelled : tokens_of M front ≡ ts

  pub spells-append : (a b : List ℕ) (ts us : List T) (rest : List ℕ) → Spells a ts (b ++ rest) → Spells b us rest → Spells (a ++ b) (ts ++ us) rest
  spells-append a b ts us rest p q = record {
    front = p.front ++ q.front;
    is = ap (λ (x : List ℕ). lexed L x Between) (append_assoc a b rest) ∙ p.is ∙ ap (put p.front) q.is ∙ sym (put-append p.front q.front (lexed L rest Between));
    spelled = tokens_of-append M p.front q.front ∙ ap (λ (x : List T). x ++ tokens_of M q.front) p.spelled ∙ ap (λ (x : List T). ts ++ x) q.spelled;
  }

  pub spells_nothing : (rest : List ℕ) → Spells [] [] rest
  spells_nothing rest = record { front = []; is = refl; spelled = refl }

  -- a blank goes before
  pub spells_space : (bytes : List ℕ) (ts : List T) (rest : List ℕ) → Spells bytes ts rest → Spells (32 ∷ bytes) ts rest
  unfolding lexed
  spells_space bytes ts rest p = record { front = p.front; is = p.is; spelled = p.spelled }

  pub spells_line : (bytes : List ℕ) (ts : List T) (rest : List ℕ) → Spells bytes ts rest → Spells (10 ∷ bytes) ts rest
  unfolding lexed
  spells_line bytes ts rest p = record { front = p.front; is = p.is; spelled = p.spelled }

  -- one token
  abbrev one : K → List ℕ → List ℕ → List (Lexeme K)
  one k w rest = record { kind = k; bytes = w; behind = length rest } ∷ []

  single : (k : K) (w rest : List ℕ) → lexed L (w ++ rest) Between ≡ Then k w (length rest) (lexed L rest Between) → Spells w (M.token k w ∷ []) rest
  single k w rest is = record { front = one k w rest; is = is; spelled = refl }

  pub word_spells : (w : List ℕ) (k : K) (rest : List ℕ) → IsWord w → L.word w ≡ Some k → first_is is_word rest ≡ false → Spells w (M.token k w ∷ []) rest
  word_spells w k rest word is stop = single k w rest (lexed-word L w k rest word is stop)

  pub number_spells : (n : ℕ) (rest : List ℕ) → n < 2 ^ 64 → n ≤ L.limit → first_is is_digit rest ≡ false → Spells (decimal n) (M.token (L.number n) (decimal n) ∷ []) rest
  number_spells n rest small h stop = single (L.number n) (decimal n) rest (lexed-decimal L n rest small h stop)

  pub symbol_spells : (a : ℕ) (k : K) (rest : List ℕ) → is_gap a ≡ false → is_letter a ≡ false → is_digit a ≡ false → L.symbol a ≡ Some k → pair_at L a rest ≡ None → Spells (a ∷ []) (M.token k (a ∷ []) ∷ []) rest
  unfolding lexed
  symbol_spells a k [] gap letter digit is none = single k (a ∷ []) [] (sign_first L a [] gap letter digit ∙ ap (λ (o : Option K). told o (a ∷ []) 0 End) is)
  symbol_spells a k (b ∷ bs) gap letter digit is none = single k (a ∷ []) (b ∷ bs)
      (sign_first L a (b ∷ bs) gap letter digit ∙ ap (λ (o : Option K). paired L o a b bs (lexed L bs)) none ∙ ap (λ (o : Option K). told o (a ∷ []) (length (b ∷ bs)) (lexed L (b ∷ bs) Between)) is)

  pub pair_spells : (a b : ℕ) (k : K) (rest : List ℕ) → is_gap a ≡ false → is_letter a ≡ false → is_digit a ≡ false → L.pair a b ≡ Some k → Spells (a ∷ b ∷ []) (M.token k (a ∷ b ∷ []) ∷ []) rest
  unfolding lexed
  pair_spells a b k rest gap letter digit is = single k (a ∷ b ∷ []) rest
      (sign_first L a (b ∷ rest) gap letter digit ∙ ap (λ (o : Option K). paired L o a b rest (lexed L rest)) is)
