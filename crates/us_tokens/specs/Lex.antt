-- The tokens of a text, byte by byte.
use Rattle.std.specs.Prelude.{ℕ, ◌+◌, ◌*◌, ◌-◌, List, [], ◌∷◌, ◌++◌, Bool, false, cond, eqb, leb, ◌&&◌, ◌||◌, length, min, Option, Some, None}
use Rattle.us_tokens.specs.Text.{Text, End, Bad, Then}

-- What a language's tokens are. None says that such a word or symbol is no token.
pub record Language (K : Type 0) : Type 0 where
  pub word : List ℕ → Option K
  pub number : ℕ → K
  pub limit : ℕ
  pub symbol : ℕ → Option K
  pub pair : ℕ → ℕ → Option K

-- between tokens, in a comment, or in a word, a number or a symbol of which these bytes were read
pub data Mode : Type 0 where
  Between : Mode
  Comment : Mode
  Word : List ℕ → Mode
  Digits : List ℕ → Mode
  Sign : ℕ → Mode

-- space, tab, LF or CR
abbrev pub is_blank : ℕ → Bool
is_blank b = eqb b 32 || eqb b 9 || eqb b 10 || eqb b 13

abbrev pub is_digit : ℕ → Bool
is_digit b = leb 48 b && leb b 57

-- a letter or _
abbrev pub is_letter : ℕ → Bool
is_letter b = (leb 65 b && leb b 90) || (leb 97 b && leb b 122) || eqb b 95

abbrev pub is_word : ℕ → Bool
is_word b = is_letter b || is_digit b

-- a blank, or the # of a comment
abbrev pub is_gap : ℕ → Bool
is_gap b = is_blank b || eqb b 35

abbrev pub first_is : (ℕ → Bool) → List ℕ → Bool
first_is p [] = false
first_is p (b ∷ bs) = p b

-- the value of decimal digits that follow a number n
abbrev pub decimal_value : List ℕ → ℕ → ℕ
decimal_value [] n = n
decimal_value (b ∷ bs) n = decimal_value bs (n * 10 + (b - 48))

-- a number above the limit is one more than the limit, however many digits it has
abbrev pub capped_value : ℕ → List ℕ → ℕ
capped_value limit digits = min (decimal_value digits 0) (limit + 1)

-- these bytes as a token, if they are one, and the text behind them, where so many bytes are left
abbrev pub told : {K : Type 0} → Option K → List ℕ → ℕ → Text K → Text K
told None w behind more = Bad (length w + behind)
told (Some k) w behind more = Then k w behind more

-- a byte between tokens, and what the bytes behind it make in each mode
abbrev pub begins : {K : Type 0} → ℕ → (Mode → Text K) → Text K
begins b go =
    cond (is_blank b) (go Between) (
    cond (eqb b 35) (go Comment) (
    cond (is_letter b) (go (Word (b ∷ []))) (
    cond (is_digit b) (go (Digits (b ∷ [])))
    (go (Sign b)))))

-- the bytes a and b as one symbol, else a alone
abbrev pub paired : {K : Type 0} → Language K → Option K → ℕ → ℕ → List ℕ → (Mode → Text K) → Text K
paired L None a b bs go = told (L.symbol a) (a ∷ []) (length (b ∷ bs)) (begins b go)
paired L (Some k) a b bs go = Then k (a ∷ b ∷ []) (length bs) (go Between)

abbrev pub lexed_end : {K : Type 0} → Language K → Mode → Text K
lexed_end L Between = End
lexed_end L Comment = End
lexed_end L (Word w) = told (L.word w) w 0 End
lexed_end L (Digits w) = Then (L.number (capped_value L.limit w)) w 0 End
lexed_end L (Sign a) = told (L.symbol a) (a ∷ []) 0 End

abbrev pub lexed_more : {K : Type 0} → Language K → ℕ → List ℕ → (Mode → Text K) → Mode → Text K
lexed_more L b bs go Between = begins b go
lexed_more L b bs go Comment = cond (eqb b 10) (go Between) (go Comment)
lexed_more L b bs go (Word w) = cond (is_word b) (go (Word (w ++ (b ∷ [])))) (told (L.word w) w (length (b ∷ bs)) (begins b go))
lexed_more L b bs go (Digits w) = cond (is_digit b) (go (Digits (w ++ (b ∷ [])))) (Then (L.number (capped_value L.limit w)) w (length (b ∷ bs)) (begins b go))
lexed_more L b bs go (Sign a) = paired L (L.pair a b) a b bs go

-- the text that these bytes make in a mode
unfoldable pub lexed : {K : Type 0} → Language K → List ℕ → Mode → Text K
lexed L [] m = lexed_end L m
lexed L (b ∷ bs) m = lexed_more L b bs (lexed L bs) m
