-- The size line and an entry line by their words, and by their numbers where these stop at the largest u64.
use Rattle.std.proofs.Common.{◌≡◌, ◌≢◌, ℕ, ◌-◌, ◌<◌, ◌^◌, ◌&&◌, min, Bool, true, false, cond, List, [], ◌∷◌, length, Err, zero, suc, nat_lt, ℤ, pos, negsuc, refl, sym, ap, ◌∙◌, inl, inr, arith}
use Rattle.std.proofs.lemmas.Bool.{cases_Bool}
use Rattle.std.proofs.lemmas.Bool.Decides.{nat_tests}
use Rattle.std.specs.Str.Parse.{digits_value, starts_with_minus, without_leading_sign}
use Rattle.us_mm.specs.declared.fault.MmFault.TheVariants.{SizeLine, EntryLine}
use Rattle.us_mm_lines.specs.Usual.{IsEntryLine}
use Rattle.us_mm_lines.specs.Words.{words, is_size_word, size_of, is_value_word, value_of, signed_value, is_value}
use Rattle.us_mm.specs.declared.form.Field.{Field}
use Rattle.us_mm.specs.declared.form.Field.TheVariants.{Integer, Pattern}
use Rattle.us_mm.specs.declared.form.Symmetry.{Symmetry}
use Rattle.us_mm.specs.declared.form.Symmetry.TheVariants.{General, Symmetric, SkewSymmetric}
use Rattle.us_mm.specs.declared.form.Form.{Form}
use Rattle.us_mm.specs.Reads.{Sizes, sizes_of, size_words, size_numbers, entry_of, integer_words, pattern_words, entry_words, entry_numbers}

all_three : (a b c : Bool) → a ≡ true → b ≡ true → c ≡ true → ((a && b) && c) ≡ true
all_three a b c p q r = rw (p, q, r) refl

size_words-not_three : (form : Form) (n : ℕ) (ws : List (List ℕ)) → length ws ≢ 3 → size_words form n ws ≡ Err (SizeLine n)
size_words-not_three form n [] h = refl
size_words-not_three form n (a ∷ []) h = refl
size_words-not_three form n (a ∷ b ∷ []) h = refl
size_words-not_three form n (a ∷ b ∷ c ∷ []) h = absurd (h refl)
size_words-not_three form n (a ∷ b ∷ c ∷ d ∷ ws) h = refl

pub integer_not_three : (s : Symmetry) (n rows cols : ℕ) (ws : List (List ℕ)) → length ws ≢ 3 → integer_words s n rows cols ws ≡ Err (EntryLine n)
integer_not_three s n rows cols [] h = refl
integer_not_three s n rows cols (a ∷ []) h = refl
integer_not_three s n rows cols (a ∷ b ∷ []) h = refl
integer_not_three s n rows cols (a ∷ b ∷ c ∷ []) h = absurd (h refl)
integer_not_three s n rows cols (a ∷ b ∷ c ∷ d ∷ ws) h = refl

pub pattern_not_two : (s : Symmetry) (n rows cols : ℕ) (ws : List (List ℕ)) → length ws ≢ 2 → pattern_words s n rows cols ws ≡ Err (EntryLine n)
pattern_not_two s n rows cols [] h = refl
pattern_not_two s n rows cols (a ∷ []) h = refl
pattern_not_two s n rows cols (a ∷ b ∷ []) h = absurd (h refl)
pattern_not_two s n rows cols (a ∷ b ∷ c ∷ ws) h = refl

pub sizes_not_three : (form : Form) (n : ℕ) (line : List ℕ) → length (words line) ≢ 3 → sizes_of form (n, line) ≡ Err (SizeLine n)
unfolding sizes_of
sizes_not_three form n line h = size_words-not_three form n (words line) h

pub sizes_three : (form : Form) (n : ℕ) (line a b c : List ℕ) → words line ≡ a ∷ b ∷ c ∷ [] → sizes_of form (n, line) ≡ size_words form n (a ∷ b ∷ c ∷ [])
unfolding sizes_of
sizes_three form n line a b c h = ap (size_words form n) h

field_words : (f g : Field) (s : Symmetry) (n rows cols : ℕ) (ws : List (List ℕ)) → f ≡ g → entry_words f s n rows cols ws ≡ entry_words g s n rows cols ws
field_words f g s n rows cols ws h = ap (λ x. entry_words x s n rows cols ws) h

pub entry_integer : (s : Sizes) (n : ℕ) (line : List ℕ) → s.form.field ≡ Integer → entry_of s (n, line) ≡ integer_words s.form.symmetry n s.rows s.cols (words line)
unfolding entry_of
entry_integer s n line h = field_words s.form.field Integer s.form.symmetry n s.rows s.cols (words line) h

pub entry_pattern : (s : Sizes) (n : ℕ) (line : List ℕ) → s.form.field ≡ Pattern → entry_of s (n, line) ≡ pattern_words s.form.symmetry n s.rows s.cols (words line)
unfolding entry_of
entry_pattern s n line h = field_words s.form.field Pattern s.form.symmetry n s.rows s.cols (words line) h

-- numbers that stop at the largest u64 tell the same
saturated_sizes : (f : Field) (s : Symmetry) (n a b c x y z : ℕ) → x ≡ min a (2 ^ 64 - 1) → y ≡ min b (2 ^ 64 - 1) → z ≡ min c (2 ^ 64 - 1)
    → size_numbers (record { field = f; symmetry = s }) n a b c ≡ size_numbers (record { field = f; symmetry = s }) n x y z
saturated_sizes f General n a b c x y z e g h = grind (arith, nat_tests)
saturated_sizes f Symmetric n a b c x y z e g h = grind (arith, nat_tests)
saturated_sizes f SkewSymmetric n a b c x y z e g h = grind (arith, nat_tests)

same_test : (d x : ℕ) → suc x ≡ min (suc d) (2 ^ 64 - 1) → nat_lt d (2 ^ 63) ≡ nat_lt x (2 ^ 63)
same_test d x e = grind (arith, nat_tests)

same_number : (d x : ℕ) → suc x ≡ min (suc d) (2 ^ 64 - 1) → nat_lt x (2 ^ 63) ≡ true → d ≡ x
same_number d x e h = grind (arith, nat_tests)

same_test_plain : (d x : ℕ) → x ≡ min d (2 ^ 64 - 1) → nat_lt d (2 ^ 63) ≡ nat_lt x (2 ^ 63)
same_test_plain d x e = grind (arith, nat_tests)

same_number_plain : (d x : ℕ) → x ≡ min d (2 ^ 64 - 1) → nat_lt x (2 ^ 63) ≡ true → d ≡ x
same_number_plain d x e h = grind (arith, nat_tests)

pub saturated_value : (minus : Bool) (d x : ℕ) → x ≡ min d (2 ^ 64 - 1) → (is_value (signed_value minus d) ≡ is_value (signed_value minus x)) × (is_value (signed_value minus x) ≡ true → signed_value minus d ≡ signed_value minus x)
saturated_value false d x e = (same_test_plain d x e, λ h. ap pos (same_number_plain d x e h))
saturated_value true zero zero e = (refl, λ h. refl)
saturated_value true zero (suc x) e = absurd (omega arith)
saturated_value true (suc d) zero e = absurd (omega arith)
saturated_value true (suc d) (suc x) e = (same_test d x e, λ h. ap negsuc (same_number d x e h))

same_entry : (s : Symmetry) (n rows cols r c : ℕ) (v : ℤ) (x y : ℕ) → rows < 2 ^ 31 → cols < 2 ^ 31 → x ≡ min r (2 ^ 64 - 1) → y ≡ min c (2 ^ 64 - 1)
    → entry_numbers s n rows cols r c v ≡ entry_numbers s n rows cols x y v
same_entry General n rows cols r c v x y row col e f = grind (arith, nat_tests)
same_entry Symmetric n rows cols r c v x y row col e f = grind (arith, nat_tests)
same_entry SkewSymmetric n rows cols r c v x y row col e f = grind (arith, nat_tests)

outside : (s : Symmetry) (n rows cols x y : ℕ) (v w : ℤ) → is_value v ≡ false → is_value w ≡ false → entry_numbers s n rows cols x y v ≡ entry_numbers s n rows cols x y w
outside s n rows cols x y v w a b = rw (a, b) refl

saturated_entry : (s : Symmetry) (n rows cols r c : ℕ) (v : ℤ) (x y : ℕ) (w : ℤ) → rows < 2 ^ 31 → cols < 2 ^ 31 → x ≡ min r (2 ^ 64 - 1) → y ≡ min c (2 ^ 64 - 1)
    → (is_value v ≡ is_value w) × (is_value w ≡ true → v ≡ w) → entry_numbers s n rows cols r c v ≡ entry_numbers s n rows cols x y w
saturated_entry s n rows cols r c v x y w row col e f h =
    same_entry s n rows cols r c v x y row col e f ∙ elim (cases_Bool (is_value w)) [
      | inl fits ↦ ap (entry_numbers s n rows cols x y) (h.1 fits)
      | inr too_large ↦ outside s n rows cols x y v w (h.0 ∙ too_large) too_large
    ]

-- three size words
pub sizes_known : (form : Form) (n : ℕ) (a b c : List ℕ) (x y z : ℕ) → is_size_word a ≡ true → is_size_word b ≡ true → is_size_word c ≡ true
    → x ≡ min (size_of a) (2 ^ 64 - 1) → y ≡ min (size_of b) (2 ^ 64 - 1) → z ≡ min (size_of c) (2 ^ 64 - 1) → size_words form n (a ∷ b ∷ c ∷ []) ≡ size_numbers form n x y z
sizes_known form n a b c x y z p q r e f g =
    ap (λ t. cond t (size_numbers form n (size_of a) (size_of b) (size_of c)) (Err (SizeLine n))) (all_three _ _ _ p q r) ∙ saturated_sizes form.field form.symmetry n _ _ _ x y z e f g

pub sizes_unknown : (form : Form) (n : ℕ) (a b c : List ℕ) → ((is_size_word a && is_size_word b) && is_size_word c) ≡ false → size_words form n (a ∷ b ∷ c ∷ []) ≡ Err (SizeLine n)
sizes_unknown form n a b c h = rw h refl

pub integer_known : (k : Symmetry) (n rows cols : ℕ) (a b c : List ℕ) (x y : ℕ) (minus : Bool) (z : ℕ) → rows < 2 ^ 31 → cols < 2 ^ 31 → is_size_word a ≡ true → is_size_word b ≡ true → is_value_word c ≡ true
    → x ≡ min (size_of a) (2 ^ 64 - 1) → y ≡ min (size_of b) (2 ^ 64 - 1) → minus ≡ starts_with_minus c → z ≡ min (digits_value 10 (without_leading_sign c)) (2 ^ 64 - 1)
    → integer_words k n rows cols (a ∷ b ∷ c ∷ []) ≡ entry_numbers k n rows cols x y (signed_value minus z)
unfolding value_of
integer_known k n rows cols a b c x y minus z row col p q r e f s g =
    ap (λ t. cond t (entry_numbers k n rows cols (size_of a) (size_of b) (value_of c)) (Err (EntryLine n))) (all_three _ _ _ p q r)
    ∙ ap (λ t. entry_numbers k n rows cols (size_of a) (size_of b) (signed_value t (digits_value 10 (without_leading_sign c)))) (sym s)
    ∙ saturated_entry k n rows cols _ _ _ x y _ row col e f (saturated_value minus _ z g)

-- the three words of an entry line that was read in one pass
pub integer_usual : (k : Symmetry) (n rows cols : ℕ) (line : List ℕ) (row col : ℕ) (minus : Bool) (size : ℕ) → rows < 2 ^ 31 → cols < 2 ^ 31 → IsEntryLine line row col minus size
    → integer_words k n rows cols (words line) ≡ entry_numbers k n rows cols row col (signed_value minus size)
integer_usual k n rows cols line row col minus size r c h =
    ap (integer_words k n rows cols) h.three
    ∙ integer_known k n rows cols h.first h.second h.third row col minus size r c h.row_word h.col_word h.value_word h.row_is h.col_is h.minus_is h.size_is

both : (a b : Bool) → a ≡ true → b ≡ true → (a && b) ≡ true
both a b p q = rw (p, q) refl

pub pattern_known : (k : Symmetry) (n rows cols : ℕ) (a b : List ℕ) (x y : ℕ) → rows < 2 ^ 31 → cols < 2 ^ 31 → is_size_word a ≡ true → is_size_word b ≡ true
    → x ≡ min (size_of a) (2 ^ 64 - 1) → y ≡ min (size_of b) (2 ^ 64 - 1) → pattern_words k n rows cols (a ∷ b ∷ []) ≡ entry_numbers k n rows cols x y (pos 1)
pattern_known k n rows cols a b x y row col p q e f =
    ap (λ t. cond t (entry_numbers k n rows cols (size_of a) (size_of b) (pos 1)) (Err (EntryLine n))) (both _ _ p q) ∙ same_entry k n rows cols _ _ (pos 1) x y row col e f
