-- A line by its words, and by its numbers where these stop at the largest u64.
use Rattle.std.proofs.Common.{◌≡◌, ◌≢◌, ℕ, ◌-◌, ◌<◌, ◌^◌, ◌&&◌, min, Bool, true, false, cond, List, [], ◌∷◌, length, Result, Ok, Err, zero, suc, nat_lt, ℤ, pos, negsuc, Option, Some, refl, sym, ap, subst, ◌∙◌, inl, inr, arith}
use Rattle.std.specs.Prelude.{codes}
use Rattle.std.specs.Str.{bytes_eq}
use Rattle.std.specs.Str.Parse.{digits_value, starts_with_minus, without_leading_sign}
use Rattle.std.proofs.lemmas.Bool.{cases_Bool}
use Rattle.std.proofs.lemmas.Bool.Decides.{nat_tests}
use Rattle.us_mm_lines.specs.Words.{words, is_size_word, size_of, is_value_word, value_of, signed_value, is_value}
use Rattle.us_mm_lines.specs.States.{IsSizeOf, IsValueOf}
use Rattle.us_script.specs.declared.step.Step.{Step}
use Rattle.us_script.specs.declared.step.Step.TheVariants.{Undo, Size}
use Rattle.us_script.specs.declared.fault.ScriptFault.{ScriptFault}
use Rattle.us_script.specs.declared.fault.ScriptFault.TheVariants.{Line}
use Rattle.us_script.specs.Reads.{step_of, step_words, set_words, set_numbers, alone}

-- ---- the words of a set

pub set_not_three : (n rows cols : ℕ) (ws : List (List ℕ)) → length ws ≢ 3 → set_words n rows cols ws ≡ Err (Line n)
set_not_three n rows cols [] h = refl
set_not_three n rows cols (a ∷ []) h = refl
set_not_three n rows cols (a ∷ b ∷ []) h = refl
set_not_three n rows cols (a ∷ b ∷ c ∷ []) h = absurd (h refl)
set_not_three n rows cols (a ∷ b ∷ c ∷ d ∷ ws) h = refl

pub set_three : (n rows cols : ℕ) (ws : List (List ℕ)) (a b c : List ℕ) → ws ≡ a ∷ b ∷ c ∷ [] → set_words n rows cols ws ≡ set_words n rows cols (a ∷ b ∷ c ∷ [])
set_three n rows cols ws a b c h = ap (set_words n rows cols) h

pub set_unknown : (n rows cols : ℕ) (a b c : List ℕ) → ((is_size_word a && is_size_word b) && is_value_word c) ≡ false → set_words n rows cols (a ∷ b ∷ c ∷ []) ≡ Err (Line n)
set_unknown n rows cols a b c h = ap (λ t. cond t (set_numbers n rows cols (size_of a) (size_of b) (value_of c)) (Err (Line n))) h

-- ---- numbers that stop at the largest u64 tell the same

same_test : (d x : ℕ) → suc x ≡ min (suc d) (2 ^ 64 - 1) → nat_lt d (2 ^ 63) ≡ nat_lt x (2 ^ 63)
same_test d x e = grind (arith, nat_tests)

same_number : (d x : ℕ) → suc x ≡ min (suc d) (2 ^ 64 - 1) → nat_lt x (2 ^ 63) ≡ true → d ≡ x
same_number d x e h = grind (arith, nat_tests)

same_test_plain : (d x : ℕ) → x ≡ min d (2 ^ 64 - 1) → nat_lt d (2 ^ 63) ≡ nat_lt x (2 ^ 63)
same_test_plain d x e = grind (arith, nat_tests)

same_number_plain : (d x : ℕ) → x ≡ min d (2 ^ 64 - 1) → nat_lt x (2 ^ 63) ≡ true → d ≡ x
same_number_plain d x e h = grind (arith, nat_tests)

stopped_value : (minus : Bool) (d x : ℕ) → x ≡ min d (2 ^ 64 - 1) → (is_value (signed_value minus d) ≡ is_value (signed_value minus x)) × (is_value (signed_value minus x) ≡ true → signed_value minus d ≡ signed_value minus x)
stopped_value false d x e = (same_test_plain d x e, λ h. ap pos (same_number_plain d x e h))
stopped_value true zero zero e = (refl, λ h. refl)
stopped_value true zero (suc x) e = absurd (omega arith)
stopped_value true (suc d) zero e = absurd (omega arith)
stopped_value true (suc d) (suc x) e = (same_test d x e, λ h. ap negsuc (same_number d x e h))

stopped_index : (n rows cols i j x y : ℕ) (v : ℤ) → rows < 2 ^ 32 → cols < 2 ^ 32 → x ≡ min i (2 ^ 64 - 1) → y ≡ min j (2 ^ 64 - 1) → set_numbers n rows cols i j v ≡ set_numbers n rows cols x y v
stopped_index n rows cols i j x y v row col e f = grind (arith, nat_tests)

outside : (n rows cols x y : ℕ) (v w : ℤ) → is_value v ≡ false → is_value w ≡ false → set_numbers n rows cols x y v ≡ set_numbers n rows cols x y w
outside n rows cols x y v w a b = rw (a, b) refl

stopped_set : (n rows cols i j x y : ℕ) (v w : ℤ) → rows < 2 ^ 32 → cols < 2 ^ 32 → x ≡ min i (2 ^ 64 - 1) → y ≡ min j (2 ^ 64 - 1)
    → (is_value v ≡ is_value w) × (is_value w ≡ true → v ≡ w) → set_numbers n rows cols i j v ≡ set_numbers n rows cols x y w
stopped_set n rows cols i j x y v w row col e f h =
    stopped_index n rows cols i j x y v row col e f ∙ elim (cases_Bool (is_value w)) [
      | inl fits ↦ ap (set_numbers n rows cols x y) (h.1 fits)
      | inr too_large ↦ outside n rows cols x y v w (h.0 ∙ too_large) too_large
    ]

all_three : (a b c : Bool) → a ≡ true → b ≡ true → c ≡ true → ((a && b) && c) ≡ true
all_three a b c p q r = rw (p, q, r) refl

pub set_known : (n rows cols : ℕ) (a b c : List ℕ) (x y : ℕ) (minus : Bool) (z : ℕ) → rows < 2 ^ 32 → cols < 2 ^ 32 → is_size_word a ≡ true → is_size_word b ≡ true → is_value_word c ≡ true
    → x ≡ min (size_of a) (2 ^ 64 - 1) → y ≡ min (size_of b) (2 ^ 64 - 1) → minus ≡ starts_with_minus c → z ≡ min (digits_value 10 (without_leading_sign c)) (2 ^ 64 - 1)
    → set_words n rows cols (a ∷ b ∷ c ∷ []) ≡ set_numbers n rows cols x y (signed_value minus z)
unfolding value_of
set_known n rows cols a b c x y minus z row col p q r e f s g =
    ap (λ t. cond t (set_numbers n rows cols (size_of a) (size_of b) (value_of c)) (Err (Line n))) (all_three _ _ _ p q r)
    ∙ ap (λ t. set_numbers n rows cols (size_of a) (size_of b) (signed_value t (digits_value 10 (without_leading_sign c)))) (sym s)
    ∙ stopped_set n rows cols _ _ x y _ _ row col e f (stopped_value minus _ z g)

pub set_by_options : (n rows cols : ℕ) (a b c : List ℕ) (row col : Option ℕ) (value : Option (Bool × ℕ)) (x y : ℕ) (minus : Bool) (z : ℕ) → rows < 2 ^ 32 → cols < 2 ^ 32
    → IsSizeOf a row → IsSizeOf b col → IsValueOf c value → row ≡ Some x → col ≡ Some y → value ≡ Some (minus, z)
    → set_words n rows cols (a ∷ b ∷ c ∷ []) ≡ set_numbers n rows cols x y (signed_value minus z)
set_by_options n rows cols a b c row col value x y minus z rs cs p q r e f g =
    let first = subst (IsSizeOf a) e p in
    let second = subst (IsSizeOf b) f q in
    let third = subst (IsValueOf c) g r in
    set_known n rows cols a b c x y minus z rs cs first.0 second.0 third.0 first.1 second.1 third.1 third.2

-- ---- the words of a line

pub no_name : (n rows cols : ℕ) (line : List ℕ) → words line ≡ [] → step_of rows cols (n, line) ≡ Err (Line n)
unfolding step_of
no_name n rows cols line h = ap (step_words n rows cols) h

named : (n rows cols : ℕ) (line name : List ℕ) (more : List (List ℕ)) → words line ≡ name ∷ more → step_of rows cols (n, line) ≡ step_words n rows cols (name ∷ more)
unfolding step_of
named n rows cols line name more h = ap (step_words n rows cols) h

-- what stands behind the name, by the three tests of the name
abbrev behind : ℕ → ℕ → ℕ → List (List ℕ) → Bool → Bool → Bool → Result Step ScriptFault
behind n rows cols more a b c = cond a (set_words n rows cols more) (cond b (alone n more Undo) (cond c (alone n more (Size n)) (Err (Line n))))

pub named_set : (n rows cols : ℕ) (line name : List ℕ) (more : List (List ℕ)) → words line ≡ name ∷ more → bytes_eq name (codes "set") ≡ true → step_of rows cols (n, line) ≡ set_words n rows cols more
named_set n rows cols line name more h is = named n rows cols line name more h ∙ ap (λ a. behind n rows cols more a (bytes_eq name (codes "undo")) (bytes_eq name (codes "size"))) is

pub named_undo : (n rows cols : ℕ) (line name : List ℕ) (more : List (List ℕ)) → words line ≡ name ∷ more → bytes_eq name (codes "set") ≡ false → bytes_eq name (codes "undo") ≡ true
    → step_of rows cols (n, line) ≡ alone n more Undo
named_undo n rows cols line name more h not_set is =
    named n rows cols line name more h ∙ ap (λ a. behind n rows cols more a (bytes_eq name (codes "undo")) (bytes_eq name (codes "size"))) not_set
    ∙ ap (λ b. behind n rows cols more false b (bytes_eq name (codes "size"))) is

pub named_size : (n rows cols : ℕ) (line name : List ℕ) (more : List (List ℕ)) → words line ≡ name ∷ more → bytes_eq name (codes "set") ≡ false → bytes_eq name (codes "undo") ≡ false
    → bytes_eq name (codes "size") ≡ true → step_of rows cols (n, line) ≡ alone n more (Size n)
named_size n rows cols line name more h not_set not_undo is =
    named n rows cols line name more h ∙ ap (λ a. behind n rows cols more a (bytes_eq name (codes "undo")) (bytes_eq name (codes "size"))) not_set
    ∙ ap (λ b. behind n rows cols more false b (bytes_eq name (codes "size"))) not_undo ∙ ap (behind n rows cols more false false) is

pub named_other : (n rows cols : ℕ) (line name : List ℕ) (more : List (List ℕ)) → words line ≡ name ∷ more → bytes_eq name (codes "set") ≡ false → bytes_eq name (codes "undo") ≡ false
    → bytes_eq name (codes "size") ≡ false → step_of rows cols (n, line) ≡ Err (Line n)
named_other n rows cols line name more h not_set not_undo not_size =
    named n rows cols line name more h ∙ ap (λ a. behind n rows cols more a (bytes_eq name (codes "undo")) (bytes_eq name (codes "size"))) not_set
    ∙ ap (λ b. behind n rows cols more false b (bytes_eq name (codes "size"))) not_undo ∙ ap (behind n rows cols more false false) not_size

pub alone_none : (n : ℕ) (ws : List (List ℕ)) (step : Step) → ws ≡ [] → alone n ws step ≡ Ok step
alone_none n ws step h = ap (λ l. alone n l step) h

pub alone_more : (n : ℕ) (ws : List (List ℕ)) (step : Step) (w : List ℕ) (more : List (List ℕ)) → ws ≡ w ∷ more → alone n ws step ≡ Err (Line n)
alone_more n ws step w more h = ap (λ l. alone n l step) h
