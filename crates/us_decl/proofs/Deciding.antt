-- Tests of several conditions.
use Rattle.std.proofs.Common.{◌≡◌, ℕ, ◌<◌, ◌≤◌, List, length, Bool, true, false, ltb, ◌&&◌, refl, ap, ◌∙◌, arith}
use Rattle.std.proofs.lemmas.Bool.Decides.{nat_tests}
use Rattle.std.proofs.lemmas.Str.{IsUtf8-from_ascii}
use Rattle.std.specs.Prelude.{IsUtf8, get_or, eqb}
use Rattle.std.specs.List.{prefix_len}
use Rattle.std.proofs.lemmas.List.Sums.{prefix_len_passes}
use Rattle.std.proofs.lemmas.List.{get_or_past}
use Rattle.us_tokens.specs.Lex.{first_is, is_letter, is_word}
use Rattle.us_decl.specs.Words.{is_name, every, is_free, keyword}

pub both : (a b : Bool) → a ≡ true → b ≡ true → (a && b) ≡ true
both a b p q = ap (λ (x : Bool). x && b) p ∙ q

pub left_of : (a b : Bool) → (a && b) ≡ true → a ≡ true
left_of true b e = refl
left_of false b e = absurd cc

pub right_of : (a b : Bool) → (a && b) ≡ true → b ≡ true
right_of true b e = e
right_of false b e = absurd cc

pub not_right : (a b : Bool) → b ≡ false → (a && b) ≡ false
not_right true b e = e
not_right false b e = refl

pub below : (n k : ℕ) → n < k → ltb n k ≡ true
below n k h = grind (arith, nat_tests)

pub is_below : (n k : ℕ) → ltb n k ≡ true → n < k
is_below n k h = grind (arith, nat_tests)

pub above : (n k : ℕ) → k ≤ n → ltb n k ≡ false
above n k h = grind (arith, nat_tests)

-- a longer text is no name
pub long_is_no_name : (w : List ℕ) → 32 < length w → is_name w ≡ false
long_is_no_name w h =
    not_right (first_is is_letter w) (every is_word w && (is_free (keyword w) && ltb (length w) 33))
    (not_right (every is_word w) (is_free (keyword w) && ltb (length w) 33) (not_right (is_free (keyword w)) (ltb (length w) 33) (above (length w) 33 (omega arith))))

not_under : (n k : ℕ) → ltb n k ≡ false → k ≤ n
not_under n k h = grind (arith, nat_tests)

word_is_ascii : (b : ℕ) → is_word b ≡ true → b < 128
word_is_ascii b h = grind (arith, nat_tests)

at_most : (w : List ℕ) (i : ℕ) → every is_word w ≡ true → get_or w i 0 < 128
at_most w i e = tested (ltb i (length w)) refl
  where
    eqb_is : (m n : ℕ) → eqb m n ≡ true → m ≡ n
    eqb_is m n h = grind (arith, nat_tests)

    same_length : prefix_len is_word w ≡ length w
    same_length = eqb_is (prefix_len is_word w) (length w) e

    tested : (b : Bool) → ltb i (length w) ≡ b → get_or w i 0 < 128
    tested true h = word_is_ascii (get_or w i 0) (prefix_len_passes is_word w i 0 (let k : i < length w = is_below i (length w) h in omega (arith, same_length)))
    tested false h = let k : get_or w i 0 ≡ 0 = get_or_past w i 0 (not_under i (length w) h) in omega arith

pub name_is_text : (w : List ℕ) → is_name w ≡ true → IsUtf8 w
name_is_text w e = IsUtf8-from_ascii w (λ i. at_most w i (left_of (every is_word w) (is_free (keyword w) && ltb (length w) 33) (right_of (first_is is_letter w) (every is_word w && (is_free (keyword w) && ltb (length w) 33)) e)))

pub no_text_no_name : (w : List ℕ) → (IsUtf8 w → ⊥) → is_name w ≡ false
no_text_no_name w other = tested (is_name w) refl
  where
    tested : (b : Bool) → is_name w ≡ b → b ≡ false
    tested true e = absurd (other (name_is_text w e))
    tested false e = refl
