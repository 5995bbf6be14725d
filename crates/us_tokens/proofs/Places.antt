-- Each token of a text stands at its place.
use Rattle.std.proofs.Common.{◌<◌, ℕ, List, [], ◌∷◌, ◌++◌, Bool, true, false, cond, eqb, length, Option, Some, None, refl, ap, append_assoc, length-append, arith, subst}
use Rattle.us_tokens.specs.Text.{Text, End, Bad, Then}
use Rattle.us_tokens.specs.Lex.{Language, Mode, Between, Comment, Word, Digits, Sign, lexed, lexed_more, told, paired, begins, is_blank, is_letter, is_digit, is_word, capped_value}
use Rattle.us_tokens.specs.Places.{IsPlaced}

module _ {K : Type 0} (L : Language K) where
  -- the bytes of a mode, in front of those that are still to be read
  abbrev held : Mode → List ℕ → List ℕ
  held Between bs = bs
  held Comment bs = bs
  held (Word w) bs = w ++ bs
  held (Digits w) bs = w ++ bs
  held (Sign a) bs = a ∷ bs

  -- a mode has read a byte of its token
  abbrev Begun : Mode → Type 0
  Begun Between = Unit {0}
  Begun Comment = Unit {0}
  Begun (Word w) = 0 < length w
  Begun (Digits w) = 0 < length w
  Begun (Sign a) = Unit {0}

  behind_byte : (b : ℕ) (bs : List ℕ) (t : Text K) → IsPlaced bs t → IsPlaced (b ∷ bs) t
  behind_byte b bs End p = tt
  behind_byte b bs (Bad left) (before, rest, is, long, some) = (b ∷ before, rest, ap (λ (x : List ℕ). b ∷ x) is, long, some)
  behind_byte b bs (Then k w behind more) (before, rest, is, long, some, next) = (b ∷ before, rest, ap (λ (x : List ℕ). b ∷ x) is, long, some, next)

  told_placed : (o : Option K) (w rest : List ℕ) (more : Text K) → 0 < length w → IsPlaced rest more → IsPlaced (w ++ rest) (told o w (length rest) more)
  told_placed None w rest more some p = ([], w ++ rest, refl, length-append w rest, omega arith)
  told_placed (Some k) w rest more some p = ([], rest, refl, refl, some, p)

  chosen : (P : Text K → Type 0) (t : Bool) (x y : Text K) → P x → P y → P (cond t x y)
  chosen P true x y p q = p
  chosen P false x y p q = q

  abbrev Goes : List ℕ → (Mode → Text K) → Type 0
  Goes bs go = (m : Mode) → Begun m → IsPlaced (held m bs) (go m)

  begins_placed : (b : ℕ) (bs : List ℕ) (go : Mode → Text K) → Goes bs go → IsPlaced (b ∷ bs) (begins b go)
  begins_placed b bs go h =
      let P : Text K → Type 0 = IsPlaced (b ∷ bs) in
      chosen P (is_blank b) (go Between) _ (behind_byte b bs (go Between) (h Between tt)) (
      chosen P (eqb b 35) (go Comment) _ (behind_byte b bs (go Comment) (h Comment tt)) (
      chosen P (is_letter b) (go (Word (b ∷ []))) _ (h (Word (b ∷ [])) (omega arith)) (
      chosen P (is_digit b) (go (Digits (b ∷ []))) _ (h (Digits (b ∷ [])) (omega arith)) (
      h (Sign b) tt))))

  pair_placed : (o : Option K) (a b : ℕ) (bs : List ℕ) (go : Mode → Text K) → Goes bs go → IsPlaced (a ∷ b ∷ bs) (paired L o a b bs go)
  pair_placed None a b bs go h = told_placed (L.symbol a) (a ∷ []) (b ∷ bs) (begins b go) (omega arith) (begins_placed b bs go h)
  pair_placed (Some k) a b bs go h = ([], bs, refl, refl, omega arith, h Between tt)

  long_enough : (w : List ℕ) (b : ℕ) → 0 < length (w ++ (b ∷ []))
  long_enough w b = omega (arith, length-append w (b ∷ []))

  grown : (w : List ℕ) (b : ℕ) (bs : List ℕ) (t : Text K) → IsPlaced ((w ++ (b ∷ [])) ++ bs) t → IsPlaced (w ++ (b ∷ bs)) t
  grown w b bs t p = let P : List ℕ → Type 0 = λ x. IsPlaced x t in subst P (append_assoc w (b ∷ []) bs) p

  more_placed : (m : Mode) (b : ℕ) (bs : List ℕ) (go : Mode → Text K) → Begun m → Goes bs go → IsPlaced (held m (b ∷ bs)) (lexed_more L b bs go m)
  more_placed Between b bs go some h = begins_placed b bs go h
  more_placed Comment b bs go some h =
      let P : Text K → Type 0 = IsPlaced (b ∷ bs) in
      chosen P (eqb b 10) (go Between) (go Comment) (behind_byte b bs (go Between) (h Between tt)) (behind_byte b bs (go Comment) (h Comment tt))
  more_placed (Word w) b bs go some h =
      let P : Text K → Type 0 = IsPlaced (w ++ (b ∷ bs)) in
      chosen P (is_word b) (go (Word (w ++ (b ∷ [])))) _ (grown w b bs (go (Word (w ++ (b ∷ [])))) (h (Word (w ++ (b ∷ []))) (long_enough w b)))
      (told_placed (L.word w) w (b ∷ bs) (begins b go) some (begins_placed b bs go h))
  more_placed (Digits w) b bs go some h =
      let P : Text K → Type 0 = IsPlaced (w ++ (b ∷ bs)) in
      chosen P (is_digit b) (go (Digits (w ++ (b ∷ [])))) _ (grown w b bs (go (Digits (w ++ (b ∷ [])))) (h (Digits (w ++ (b ∷ []))) (long_enough w b)))
      (told_placed (Some (L.number (capped_value L.limit w))) w (b ∷ bs) (begins b go) some (begins_placed b bs go h))
  more_placed (Sign a) b bs go some h = pair_placed (L.pair a b) a b bs go h

  placed : (bs : List ℕ) → Goes bs (lexed L bs)
  unfolding lexed
  placed [] Between some = tt
  placed [] Comment some = tt
  placed [] (Word w) some = told_placed (L.word w) w [] End some tt
  placed [] (Digits w) some = told_placed (Some (L.number (capped_value L.limit w))) w [] End some tt
  placed [] (Sign a) some = told_placed (L.symbol a) (a ∷ []) [] End (omega arith) tt
  placed (b ∷ bs) m some = more_placed m b bs (lexed L bs) some (placed bs)

  pub lexed_placed : (bytes : List ℕ) → IsPlaced bytes (lexed L bytes Between)
  lexed_placed bytes = placed bytes Between tt
