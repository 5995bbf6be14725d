-- The sizes of the hops, one after the other, and what a conversion writes.
use Rattle.std.proofs.Common.{◌≡◌, ℕ, suc, ◌+◌, ◌<◌, ◌≤◌, nat_le, cond, Bool, true, false, List, [], ◌∷◌, length, drop, get_or, Ok, Err, refl, sym, ap, ◌∙◌, subst, add-one, arith}
use Rattle.std.proofs.lemmas.Bool.Decides.{nat_tests}
use Rattle.std.proofs.lemmas.List.{at_drop_more, at_drop_all}
use Rattle.us_matrix.specs.Map.{Map}
use Rattle.us_mm.specs.Text.{text}
use Rattle.us_check.specs.declared.held.Held.{Held}
use Rattle.us_container.specs.Bytes.{container_bytes}
use Rattle.us_container.specs.Contained.{Contained}
use Rattle.us_format.specs.Reading.{limit}
use Rattle.us_decl.specs.Declares.{Declared}
use Rattle.us_status.specs.declared.status.Status.TheVariants.{TooLarge}
use Rattle.us_inputs.specs.Chains.{ends_in_text}
use Rattle.us_inputs.specs.Steps.{size_on, within_limit}
use Rattle.us_journeys.specs.Converting.{last_container, written}
use Rattle.us_journeys.specs.Meanings.{IsMeant, LastIsMeant}
use Rattle.us_journeys.specs.Journeys.{IsInLast}

pub at_hop : (m : Map) (ds : List Declared) (i : ℕ) (d : Declared) (b : Bool) → i < length ds → d ≡ get_or ds i d → nat_le (size_on m d) limit ≡ b
    → within_limit m (i + 1) (drop i ds) ≡ cond b (within_limit m (i + 1 + 1) (drop (i + 1) ds)) (Err (TooLarge (i + 1)))
at_hop m ds i d b lt at is =
    at_drop_more (within_limit m (i + 1)) ds i d lt
    ∙ ap (λ x. cond (nat_le (size_on m x) limit) (within_limit m (suc (i + 1)) (drop (i + 1) ds)) (Err (TooLarge (i + 1)))) (sym at)
    ∙ ap (λ b. cond b (within_limit m (suc (i + 1)) (drop (i + 1) ds)) (Err (TooLarge (i + 1)))) is
    ∙ ap (λ k. cond b (within_limit m k (drop (i + 1) ds)) (Err (TooLarge (i + 1)))) (sym (add-one (i + 1)))

pub fits : (s : ℕ) → s ≤ 67108864 → nat_le s 67108864 ≡ true
fits s h = grind (arith, nat_tests)

pub is_above : (s : ℕ) → 67108864 < s → nat_le s 67108864 ≡ false
is_above s h = grind (arith, nat_tests)

pub all_within : (m : Map) (ds : List Declared) (i : ℕ) → length ds ≤ i → within_limit m 1 ds ≡ within_limit m (i + 1) (drop i ds) → within_limit m 1 ds ≡ Ok tt
all_within m ds i le h = h ∙ at_drop_all (within_limit m (i + 1)) ds i le

abbrev bytes_of : Contained → List ℕ
bytes_of c = container_bytes c.declared c.shape.rows c.shape.cols c.buffers

last_is : (m : Map) (d : Declared) (ds : List Declared) (now : Held) → IsInLast m (d ∷ ds) now
    → container_bytes now.declared now.matrix.rows now.matrix.cols now.buffers ≡ last_container m (d ∷ ds)
last_is m d [] now h = ap bytes_of h.1
last_is m d (e ∷ ds) now h = last_is m e ds now h

last_meant : (m : Map) (d : Declared) (ds : List Declared) (now : Held) (bytes : List ℕ) → IsInLast m (d ∷ ds) now → IsMeant now.matrix now.declared bytes → LastIsMeant false m (d ∷ ds) bytes
last_meant m d [] now bytes h k = subst (λ m. IsMeant m d bytes) h.0 (subst (λ d. IsMeant now.matrix d bytes) (ap (λ (c : Contained). c.declared) h.1) k)
last_meant m d (e ∷ ds) now bytes h k = last_meant m e ds now bytes h k

-- in the last format, of which there is one
pub written_last : (chain : List ℕ) (ds : List Declared) (now : Held) (bytes : List ℕ) → false ≡ ends_in_text chain → 0 < length ds → IsInLast now.matrix ds now
    → bytes ≡ container_bytes now.declared now.matrix.rows now.matrix.cols now.buffers → bytes ≡ written chain ds now.matrix
written_last chain [] now bytes t some h e = absurd (omega arith)
written_last chain (d ∷ ds) now bytes t some h e =
    e ∙ last_is now.matrix d ds now h ∙ ap (λ b. cond b (text now.matrix) (last_container now.matrix (d ∷ ds))) t

pub meant_last : (chain : List ℕ) (ds : List Declared) (now : Held) (bytes : List ℕ) → false ≡ ends_in_text chain → 0 < length ds → IsInLast now.matrix ds now → IsMeant now.matrix now.declared bytes
    → LastIsMeant (ends_in_text chain) now.matrix ds bytes
meant_last chain [] now bytes t some h k = absurd (omega arith)
meant_last chain (d ∷ ds) now bytes t some h k = subst (λ b. LastIsMeant b now.matrix (d ∷ ds) bytes) t (last_meant now.matrix d ds now bytes h k)

-- no container is written
text_written : (b : Bool) (m : Map) → text m ≡ cond b (text m) (text m)
text_written true m = refl
text_written false m = refl

none_meant : (b : Bool) (m : Map) (bytes : List ℕ) → LastIsMeant b m [] bytes
none_meant true m bytes = tt
none_meant false m bytes = tt

pub text_is : (chain : List ℕ) (ds : List Declared) (m : Map) (bytes : List ℕ) → true ≡ ends_in_text chain → bytes ≡ text m → bytes ≡ written chain ds m
text_is chain ds m bytes t e = e ∙ ap (λ b. cond b (text m) (last_container m ds)) t

pub text_meant : (chain : List ℕ) (ds : List Declared) (m : Map) (bytes : List ℕ) → true ≡ ends_in_text chain → LastIsMeant (ends_in_text chain) m ds bytes
text_meant chain ds m bytes t = subst (λ b. LastIsMeant b m ds bytes) t tt

pub no_format_is : (chain : List ℕ) (ds : List Declared) (m : Map) (bytes : List ℕ) → length ds ≡ 0 → bytes ≡ text m → bytes ≡ written chain ds m
no_format_is chain [] m bytes none e = e ∙ text_written (ends_in_text chain) m
no_format_is chain (d ∷ ds) m bytes none e = absurd (omega (arith, none))

pub no_format_meant : (chain : List ℕ) (ds : List Declared) (m : Map) (bytes : List ℕ) → length ds ≡ 0 → LastIsMeant (ends_in_text chain) m ds bytes
no_format_meant chain [] m bytes none = none_meant (ends_in_text chain) m bytes
no_format_meant chain (d ∷ ds) m bytes none = absurd (omega (arith, none))
