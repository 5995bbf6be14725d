-- Lines judged by words are judged by the numbers of these.
use Rattle.std.proofs.Common.{◌≡◌, ℕ, ◌<◌, ◌^◌, ◌&&◌, Bool, true, false, cond, List, [], ◌∷◌, Option, Some, None, Err, refl, ap}
use Rattle.us_mm.specs.declared.fault.MmFault.TheVariants.{EntryLine}
use Rattle.us_mm_lines.specs.Words.{words, is_size_word, size_of, is_value_word, value_of}
use Rattle.us_mm_lines.specs.States.{IsSizeOf, IsValueOf}
use Rattle.us_mm.specs.declared.form.Symmetry.{Symmetry}
use Rattle.us_mm.specs.declared.form.Form.{Form}
use Rattle.us_mm.specs.Reads.{size_words, integer_words, pattern_words, entry_numbers}
use Rattle.us_mm.specs.Arrays.{side_words, value_in}
use Rattle.us_mm.specs.Options.{size_options, integer_options, pattern_options, side_options, value_option}
use Rattle.us_mm.proofs.EntryLemmas.{sizes_known, sizes_unknown, integer_known, pattern_known}
use Rattle.us_mm.proofs.ArrayLemmas.{sides_known, sides_unknown, value_known, value_unknown}

first_fails : (a b : Bool) → a ≡ false → (a && b) ≡ false
first_fails a b h = ap (λ v. v && b) h

second_fails : (a b : Bool) → b ≡ false → (a && b) ≡ false
second_fails true b h = h
second_fails false b h = refl

pub size_by_options : (form : Form) (n : ℕ) (a b c : List ℕ) (x y z : Option ℕ) → IsSizeOf a x → IsSizeOf b y → IsSizeOf c z → size_words form n (a ∷ b ∷ c ∷ []) ≡ size_options form n x y z
size_by_options form n a b c (Some x) (Some y) (Some z) p q r = sizes_known form n a b c x y z p.0 q.0 r.0 p.1 q.1 r.1
size_by_options form n a b c (Some x) (Some y) None p q r = sizes_unknown form n a b c (second_fails _ (is_size_word c) r)
size_by_options form n a b c (Some x) None z p q r = sizes_unknown form n a b c (first_fails _ (is_size_word c) (second_fails (is_size_word a) _ q))
size_by_options form n a b c None y z p q r = sizes_unknown form n a b c (first_fails _ (is_size_word c) (first_fails _ (is_size_word b) p))

integer_unknown : (k : Symmetry) (n rows cols : ℕ) (a b c : List ℕ) → ((is_size_word a && is_size_word b) && is_value_word c) ≡ false → integer_words k n rows cols (a ∷ b ∷ c ∷ []) ≡ Err (EntryLine n)
integer_unknown k n rows cols a b c h = ap (λ t. cond t (entry_numbers k n rows cols (size_of a) (size_of b) (value_of c)) (Err (EntryLine n))) h

pub integer_by_options : (k : Symmetry) (n rows cols : ℕ) (a b c : List ℕ) (x y : Option ℕ) (z : Option (Bool × ℕ)) → rows < 2 ^ 31 → cols < 2 ^ 31 → IsSizeOf a x → IsSizeOf b y → IsValueOf c z
    → integer_words k n rows cols (a ∷ b ∷ c ∷ []) ≡ integer_options k n rows cols x y z
integer_by_options k n rows cols a b c (Some x) (Some y) (Some z) row col p q r = integer_known k n rows cols a b c x y z.0 z.1 row col p.0 q.0 r.0 p.1 q.1 r.1 r.2
integer_by_options k n rows cols a b c (Some x) (Some y) None row col p q r = integer_unknown k n rows cols a b c (second_fails _ (is_value_word c) r)
integer_by_options k n rows cols a b c (Some x) None z row col p q r = integer_unknown k n rows cols a b c (first_fails _ (is_value_word c) (second_fails (is_size_word a) _ q))
integer_by_options k n rows cols a b c None y z row col p q r = integer_unknown k n rows cols a b c (first_fails _ (is_value_word c) (first_fails _ (is_size_word b) p))

pattern_unknown : (k : Symmetry) (n rows cols : ℕ) (a b : List ℕ) → (is_size_word a && is_size_word b) ≡ false → pattern_words k n rows cols (a ∷ b ∷ []) ≡ Err (EntryLine n)
pattern_unknown k n rows cols a b h = rw h refl

pub pattern_by_options : (k : Symmetry) (n rows cols : ℕ) (a b : List ℕ) (x y : Option ℕ) → rows < 2 ^ 31 → cols < 2 ^ 31 → IsSizeOf a x → IsSizeOf b y
    → pattern_words k n rows cols (a ∷ b ∷ []) ≡ pattern_options k n rows cols x y
pattern_by_options k n rows cols a b (Some x) (Some y) row col p q = pattern_known k n rows cols a b x y row col p.0 q.0 p.1 q.1
pattern_by_options k n rows cols a b (Some x) None row col p q = pattern_unknown k n rows cols a b (second_fails (is_size_word a) _ q)
pattern_by_options k n rows cols a b None y row col p q = pattern_unknown k n rows cols a b (first_fails _ (is_size_word b) p)

pub sides_by_options : (n : ℕ) (a b : List ℕ) (x y : Option ℕ) → IsSizeOf a x → IsSizeOf b y → side_words n (a ∷ b ∷ []) ≡ side_options n x y
sides_by_options n a b (Some x) (Some y) p q = sides_known n a b x y p.0 q.0 p.1 q.1
sides_by_options n a b (Some x) None p q = sides_unknown n a b (second_fails (is_size_word a) _ q)
sides_by_options n a b None y p q = sides_unknown n a b (first_fails _ (is_size_word b) p)

pub value_by_option : (n : ℕ) (line w : List ℕ) (x : Option (Bool × ℕ)) → words line ≡ w ∷ [] → IsValueOf w x → value_in (n, line) ≡ value_option n x
value_by_option n line w (Some v) h p = value_known n line w v.0 v.1 h p.0 p.1 p.2
value_by_option n line w None h p = value_unknown n line w h p
