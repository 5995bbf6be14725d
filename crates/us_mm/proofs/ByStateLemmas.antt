-- Lines judged by what is known of their words.
use Rattle.std.proofs.Common.{◌≡◌, ◌≢◌, ℕ, ◌<◌, ◌≤◌, ◌^◌, ◌&&◌, not, Bool, false, cond, List, [], ◌∷◌, length, take, get_or, Option, Ok, Err, Result, refl, sym, ap, ◌∙◌, inl, inr, arith}
use Rattle.std.specs.Prelude.{codes}
use Rattle.std.specs.Str.{str_eq_ignore_ascii_case, str_to_ascii_lowercase, bytes_eq}
use Rattle.std.specs.Cmp.Lexicographic.{bytes_decides}
use Rattle.std.proofs.lemmas.Bool.{cases_lt, false_from_ne_true}
use Rattle.std.proofs.lemmas.List.{take_all, length-take, length-map}
use Rattle.us_mm.specs.declared.fault.MmFault.{MmFault}
use Rattle.us_mm.specs.declared.fault.MmFault.TheVariants.{Header, Unsupported}
use Rattle.us_mm_lines.specs.declared.word_state.WordState.{WordState}
use Rattle.us_mm_lines.specs.Words.{words}
use Rattle.us_mm_lines.specs.States.{IsWordState, AreStatesOf, IsSizeOf, IsValueOf}
use Rattle.us_mm.specs.declared.form.Field.TheVariants.{Integer, Pattern}
use Rattle.us_mm.specs.declared.form.Symmetry.{Symmetry}
use Rattle.us_mm.specs.declared.form.Symmetry.TheVariants.{General, Symmetric, SkewSymmetric}
use Rattle.us_mm.specs.declared.form.Form.{Form}
use Rattle.us_mm.specs.Reads.{◌>>=◌, has_signs, header_of, header_words, sizes_of, size_words, integer_words, pattern_words}
use Rattle.us_mm.specs.Arrays.{array_header_of, array_words, sides_of, side_words, value_in}
use Rattle.us_mm.specs.Options.{size_options, integer_options, pattern_options, side_options, value_option}
use Rattle.us_mm.proofs.OptionLemmas.{size_by_options, integer_by_options, pattern_by_options, sides_by_options, value_by_option}

-- ---- numbers

size_words-by : (form : Form) (n : ℕ) (ws : List (List ℕ)) (s t u : WordState) (x y z : Option ℕ) → AreStatesOf (s ∷ t ∷ u ∷ []) ws
    → ((w : List ℕ) → IsWordState s w → IsSizeOf w x) → ((w : List ℕ) → IsWordState t w → IsSizeOf w y) → ((w : List ℕ) → IsWordState u w → IsSizeOf w z)
    → size_words form n ws ≡ size_options form n x y z
size_words-by form n [] s t u x y z h p q r = absurd h
size_words-by form n (a ∷ []) s t u x y z h p q r = absurd h.1
size_words-by form n (a ∷ b ∷ []) s t u x y z h p q r = absurd h.1.1
size_words-by form n (a ∷ b ∷ c ∷ []) s t u x y z h p q r = size_by_options form n a b c x y z (p a h.0) (q b h.1.0) (r c h.1.1.0)
size_words-by form n (a ∷ b ∷ c ∷ d ∷ ws) s t u x y z h p q r = absurd h.1.1.1

pub sizes_by_states : (form : Form) (n : ℕ) (line : List ℕ) (s t u : WordState) (x y z : Option ℕ) → AreStatesOf (s ∷ t ∷ u ∷ []) (words line)
    → ((w : List ℕ) → IsWordState s w → IsSizeOf w x) → ((w : List ℕ) → IsWordState t w → IsSizeOf w y) → ((w : List ℕ) → IsWordState u w → IsSizeOf w z)
    → sizes_of form (n, line) ≡ size_options form n x y z
unfolding sizes_of
sizes_by_states form n line s t u x y z h p q r = size_words-by form n (words line) s t u x y z h p q r

pub integer_by_states : (k : Symmetry) (n rows cols : ℕ) (ws : List (List ℕ)) (s t u : WordState) (x y : Option ℕ) (z : Option (Bool × ℕ)) → rows < 2 ^ 31 → cols < 2 ^ 31 → AreStatesOf (s ∷ t ∷ u ∷ []) ws
    → ((w : List ℕ) → IsWordState s w → IsSizeOf w x) → ((w : List ℕ) → IsWordState t w → IsSizeOf w y) → ((w : List ℕ) → IsWordState u w → IsValueOf w z)
    → integer_words k n rows cols ws ≡ integer_options k n rows cols x y z
integer_by_states k n rows cols [] s t u x y z row col h p q r = absurd h
integer_by_states k n rows cols (a ∷ []) s t u x y z row col h p q r = absurd h.1
integer_by_states k n rows cols (a ∷ b ∷ []) s t u x y z row col h p q r = absurd h.1.1
integer_by_states k n rows cols (a ∷ b ∷ c ∷ []) s t u x y z row col h p q r = integer_by_options k n rows cols a b c x y z row col (p a h.0) (q b h.1.0) (r c h.1.1.0)
integer_by_states k n rows cols (a ∷ b ∷ c ∷ d ∷ ws) s t u x y z row col h p q r = absurd h.1.1.1

pub pattern_by_states : (k : Symmetry) (n rows cols : ℕ) (ws : List (List ℕ)) (s t : WordState) (x y : Option ℕ) → rows < 2 ^ 31 → cols < 2 ^ 31 → AreStatesOf (s ∷ t ∷ []) ws
    → ((w : List ℕ) → IsWordState s w → IsSizeOf w x) → ((w : List ℕ) → IsWordState t w → IsSizeOf w y) → pattern_words k n rows cols ws ≡ pattern_options k n rows cols x y
pattern_by_states k n rows cols [] s t x y row col h p q = absurd h
pattern_by_states k n rows cols (a ∷ []) s t x y row col h p q = absurd h.1
pattern_by_states k n rows cols (a ∷ b ∷ []) s t x y row col h p q = pattern_by_options k n rows cols a b x y row col (p a h.0) (q b h.1.0)
pattern_by_states k n rows cols (a ∷ b ∷ c ∷ ws) s t x y row col h p q = absurd h.1.1

side_words-by : (n : ℕ) (ws : List (List ℕ)) (s t : WordState) (x y : Option ℕ) → AreStatesOf (s ∷ t ∷ []) ws
    → ((w : List ℕ) → IsWordState s w → IsSizeOf w x) → ((w : List ℕ) → IsWordState t w → IsSizeOf w y) → side_words n ws ≡ side_options n x y
side_words-by n [] s t x y h p q = absurd h
side_words-by n (a ∷ []) s t x y h p q = absurd h.1
side_words-by n (a ∷ b ∷ []) s t x y h p q = sides_by_options n a b x y (p a h.0) (q b h.1.0)
side_words-by n (a ∷ b ∷ c ∷ ws) s t x y h p q = absurd h.1.1

pub sides_by_states : (n : ℕ) (line : List ℕ) (s t : WordState) (x y : Option ℕ) → AreStatesOf (s ∷ t ∷ []) (words line)
    → ((w : List ℕ) → IsWordState s w → IsSizeOf w x) → ((w : List ℕ) → IsWordState t w → IsSizeOf w y) → sides_of (n, line) ≡ side_options n x y
unfolding sides_of
sides_by_states n line s t x y h p q = side_words-by n (words line) s t x y h p q

one_word : (ws : List (List ℕ)) (s : WordState) → AreStatesOf (s ∷ []) ws → (w : List ℕ) × ((ws ≡ w ∷ []) × IsWordState s w)
one_word [] s h = absurd h
one_word (a ∷ []) s h = (a, (refl, h.0))
one_word (a ∷ b ∷ ws) s h = absurd h.1

pub value_by_state : (n : ℕ) (line : List ℕ) (s : WordState) (x : Option (Bool × ℕ)) → AreStatesOf (s ∷ []) (words line)
    → ((w : List ℕ) → IsWordState s w → IsValueOf w x) → value_in (n, line) ≡ value_option n x
value_by_state n line s x h p =
    let one = one_word (words line) s h in
    value_by_option n line one.0 x one.1.0 (p one.0 one.1.1)

-- ---- headers

bytes_differ : (a b : List ℕ) → length a ≢ length b → bytes_eq a b ≡ false
bytes_differ a b h = false_from_ne_true (bytes_eq a b) (λ e. h (ap length ((bytes_decides a b).0 e)))

length-lower : (a : List ℕ) → length (str_to_ascii_lowercase a) ≡ length a
length-lower a = simp length-map

-- a word of fourteen letters or fewer is told by the first fifteen bytes
front_tells : (w v : List ℕ) → length v ≤ 14 → str_eq_ignore_ascii_case (take 15 w) v ≡ str_eq_ignore_ascii_case w v
front_tells w v short =
    elim (cases_lt (length w) 16) [
      | inl lt ↦ ap (λ l. str_eq_ignore_ascii_case l v) (take_all 15 w (omega arith))
      | inr long ↦
          bytes_differ (str_to_ascii_lowercase (take 15 w)) (str_to_ascii_lowercase v) (λ e. absurd (omega (arith, length-lower (take 15 w), length-lower v, length-take 15 w, e)))
          ∙ sym (bytes_differ (str_to_ascii_lowercase w) (str_to_ascii_lowercase v) (λ e. absurd (omega (arith, length-lower w, length-lower v, e))))
    ]

-- the header by the tests of its words
abbrev by_tests : Bool → Bool → Bool → Bool → Bool → Bool → Bool → Bool → Result Form MmFault
by_tests banner object format integer pattern general symmetric skew =
    cond (not banner) (Err Header)
    (cond (not object) (Err (Unsupported 2))
    (cond (not format) (Err (Unsupported 3))
    (cond integer (Ok Integer) (cond pattern (Ok Pattern) (Err (Unsupported 4))) >>= λ f.
    cond general (Ok General) (cond symmetric (Ok Symmetric) (cond (skew && has_signs f) (Ok SkewSymmetric) (Err (Unsupported 5)))) >>= λ s. Ok (record { field = f; symmetry = s }))))

same_tests : (a b c d e f g h p q r s t u v w : Bool) → a ≡ p → b ≡ q → c ≡ r → d ≡ s → e ≡ t → f ≡ u → g ≡ v → h ≡ w → by_tests a b c d e f g h ≡ by_tests p q r s t u v w
same_tests a b c d e f g h p q r s t u v w i1 i2 i3 i4 i5 i6 i7 i8 = rw (i1, i2, i3, i4, i5, i6, i7, i8) refl

header_fronts : (a b c d e : List ℕ) → header_words (take 15 a ∷ take 15 b ∷ take 15 c ∷ take 15 d ∷ take 15 e ∷ []) ≡ header_words (a ∷ b ∷ c ∷ d ∷ e ∷ [])
header_fronts a b c d e =
    same_tests _ _ _ _ _ _ _ _ _ _ _ _ _ _ _ _ (front_tells a (codes "%%MatrixMarket") (omega arith)) (front_tells b (codes "matrix") (omega arith)) (front_tells c (codes "coordinate") (omega arith))
    (front_tells d (codes "integer") (omega arith)) (front_tells d (codes "pattern") (omega arith))
    (front_tells e (codes "general") (omega arith)) (front_tells e (codes "symmetric") (omega arith)) (front_tells e (codes "skew-symmetric") (omega arith))

abbrev by_array_tests : Bool → Bool → Bool → Bool → Bool → Result (Unit {0}) MmFault
by_array_tests banner object format field symmetry =
    cond (not banner) (Err Header) (cond (not object) (Err (Unsupported 2)) (cond (not format) (Err (Unsupported 3)) (cond (not field) (Err (Unsupported 4)) (cond (not symmetry) (Err (Unsupported 5)) (Ok tt)))))

same_array_tests : (a b c d e p q r s t : Bool) → a ≡ p → b ≡ q → c ≡ r → d ≡ s → e ≡ t → by_array_tests a b c d e ≡ by_array_tests p q r s t
same_array_tests a b c d e p q r s t i1 i2 i3 i4 i5 = rw (i1, i2, i3, i4, i5) refl

array_fronts : (a b c d e : List ℕ) → array_words (take 15 a ∷ take 15 b ∷ take 15 c ∷ take 15 d ∷ take 15 e ∷ []) ≡ array_words (a ∷ b ∷ c ∷ d ∷ e ∷ [])
array_fronts a b c d e =
    same_array_tests _ _ _ _ _ _ _ _ _ _ (front_tells a (codes "%%MatrixMarket") (omega arith)) (front_tells b (codes "matrix") (omega arith)) (front_tells c (codes "array") (omega arith))
    (front_tells d (codes "integer") (omega arith)) (front_tells e (codes "general") (omega arith))

-- the fronts of five words that are known
pub record AreFronts (states : List WordState) (d : WordState) (f g h i j : List ℕ) : Type 0 where
  pub first : (w : List ℕ) → IsWordState (get_or states 0 d) w → f ≡ take 15 w
  pub second : (w : List ℕ) → IsWordState (get_or states 1 d) w → g ≡ take 15 w
  pub third : (w : List ℕ) → IsWordState (get_or states 2 d) w → h ≡ take 15 w
  pub fourth : (w : List ℕ) → IsWordState (get_or states 3 d) w → i ≡ take 15 w
  pub fifth : (w : List ℕ) → IsWordState (get_or states 4 d) w → j ≡ take 15 w

-- five words that are known
five : (states : List WordState) (d : WordState) (ws : List (List ℕ)) (f g h i j : List ℕ) → length states ≡ 5 → AreStatesOf states ws → AreFronts states d f g h i j
    → (a : List ℕ) × ((b : List ℕ) × ((c : List ℕ) × ((x : List ℕ) × ((y : List ℕ) × ((ws ≡ a ∷ b ∷ c ∷ x ∷ y ∷ []) × (f ∷ g ∷ h ∷ i ∷ j ∷ [] ≡ take 15 a ∷ take 15 b ∷ take 15 c ∷ take 15 x ∷ take 15 y ∷ []))))))
five (s ∷ t ∷ u ∷ v ∷ w ∷ []) d (a ∷ b ∷ c ∷ x ∷ y ∷ []) f g h i j len are fronts =
    (a, (b, (c, (x, (y, (refl, rw (fronts.first a are.0, fronts.second b are.1.0, fronts.third c are.1.1.0, fronts.fourth x are.1.1.1.0, fronts.fifth y are.1.1.1.1.0) refl))))))
five (s ∷ t ∷ u ∷ v ∷ w ∷ []) d [] f g h i j len are fronts = absurd are
five (s ∷ t ∷ u ∷ v ∷ w ∷ []) d (a ∷ []) f g h i j len are fronts = absurd are.1
five (s ∷ t ∷ u ∷ v ∷ w ∷ []) d (a ∷ b ∷ []) f g h i j len are fronts = absurd are.1.1
five (s ∷ t ∷ u ∷ v ∷ w ∷ []) d (a ∷ b ∷ c ∷ []) f g h i j len are fronts = absurd are.1.1.1
five (s ∷ t ∷ u ∷ v ∷ w ∷ []) d (a ∷ b ∷ c ∷ x ∷ []) f g h i j len are fronts = absurd are.1.1.1.1
five (s ∷ t ∷ u ∷ v ∷ w ∷ []) d (a ∷ b ∷ c ∷ x ∷ y ∷ z ∷ ws) f g h i j len are fronts = absurd are.1.1.1.1.1
five [] d ws f g h i j len are fronts = absurd (omega arith)
five (s ∷ []) d ws f g h i j len are fronts = absurd (omega arith)
five (s ∷ t ∷ []) d ws f g h i j len are fronts = absurd (omega arith)
five (s ∷ t ∷ u ∷ []) d ws f g h i j len are fronts = absurd (omega arith)
five (s ∷ t ∷ u ∷ v ∷ []) d ws f g h i j len are fronts = absurd (omega arith)
five (s ∷ t ∷ u ∷ v ∷ w ∷ z ∷ more) d ws f g h i j len are fronts = absurd (omega arith)

pub header_by_states : (line : List ℕ) (states : List WordState) (d : WordState) (f g h i j : List ℕ) → length states ≡ 5 → AreStatesOf states (words line) → AreFronts states d f g h i j
    → header_words (f ∷ g ∷ h ∷ i ∷ j ∷ []) ≡ header_of line
unfolding header_of
header_by_states line states d f g h i j len are fronts =
    let r = five states d (words line) f g h i j len are fronts in
    ap header_words r.1.1.1.1.1.1 ∙ header_fronts r.0 r.1.0 r.1.1.0 r.1.1.1.0 r.1.1.1.1.0 ∙ sym (ap header_words r.1.1.1.1.1.0)

pub array_by_states : (line : List ℕ) (states : List WordState) (d : WordState) (f g h i j : List ℕ) → length states ≡ 5 → AreStatesOf states (words line) → AreFronts states d f g h i j
    → array_words (f ∷ g ∷ h ∷ i ∷ j ∷ []) ≡ array_header_of line
unfolding array_header_of
array_by_states line states d f g h i j len are fronts =
    let r = five states d (words line) f g h i j len are fronts in
    ap array_words r.1.1.1.1.1.1 ∙ array_fronts r.0 r.1.0 r.1.1.0 r.1.1.1.0 r.1.1.1.1.0 ∙ sym (ap array_words r.1.1.1.1.1.0)
