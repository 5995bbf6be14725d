-- What loading a file piece by piece keeps.
use Rattle.std.proofs.Common.{◌≡◌, ℕ, ◌+◌, ◌<◌, ◌≤◌, List, [], ◌++◌, length, take, drop, min, inl, inr, Option, Some, None, IfSome, refl, sym, ap, ◌∙◌, arith}
use Rattle.std.proofs.lemmas.List.{take_all, length-take, length-drop, length-append}
use Rattle.std.proofs.lemmas.Bool.{cases_lt}
use Rattle.std.proofs.Math.Seq.{take-add}
use Rattle.us_outside.specs.Files.{IsFetch}

-- the first bytes of a file
pub record IsFront (bytes content : List ℕ) : Type 0 where
  pub front : take (length bytes) content ≡ bytes
  pub within : length bytes ≤ length content

pub front_none : (content : List ℕ) → IsFront [] content
front_none content = record { front = refl; within = omega arith }

pub front_more : (bytes content room : List ℕ) (n : ℕ) → IsFront bytes content → IsFetch content (length bytes) n room → IsFront (bytes ++ take n room) content
front_more bytes content room n f h =
    let one : length (take n room) ≡ n = ap length h.front ∙ length-take n (drop (length bytes) content) ∙ fits in
    let len : length (bytes ++ take n room) ≡ length bytes + n = length-append bytes (take n room) ∙ ap (λ x. length bytes + x) one in
    record {
      front = ap (λ k. take k content) len ∙ take-add (length bytes) n content ∙ ap (λ l. l ++ take n (drop (length bytes) content)) f.front ∙ ap (λ l. bytes ++ l) (sym h.front);
      within = omega (arith, len, f.within, h.within);
    }
  where
    fits : min n (length (drop (length bytes) content)) ≡ n
    fits = omega (arith, length-drop (length bytes) content, h.within)

pub front_all : (bytes content room : List ℕ) → 0 < length room → IsFront bytes content → IsFetch content (length bytes) 0 room → bytes ≡ content
front_all bytes content room some f h =
    elim (cases_lt (length bytes) (length content)) [
      | inl less ↦ absurd (omega (arith, h.some some less))
      | inr end ↦ sym f.front ∙ take_all (length bytes) content end
    ]

-- two facts of what an option holds give a third
pub both_some : {A : Type 0} (o : Option A) (P Q R : A → Type 0) → ((x : A) → P x → Q x → R x) → IfSome o P → IfSome o Q → IfSome o R
both_some None P Q R f p q = tt
both_some (Some x) P Q R f p q = f x p q
