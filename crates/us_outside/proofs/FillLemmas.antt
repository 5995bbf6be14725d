-- What filling a room piece by piece keeps.
use Rattle.std.proofs.Common.{◌≡◌, ℕ, ◌+◌, ◌-◌, ◌≤◌, List, ◌++◌, length, take, drop, sym, ap, ◌∙◌, arith}
use Rattle.std.proofs.lemmas.List.{drop-drop}
use Rattle.std.proofs.Math.Seq.{take-add}
use Rattle.us_outside.specs.Files.{IsFetch}

-- the first n bytes of a room are those of the file from a place on
pub record IsPart (bytes : List ℕ) (from n : ℕ) (room : List ℕ) : Type 0 where
  pub within : n ≤ length bytes - from
  pub front : take n room ≡ take n (drop from bytes)

pub part_more : (bytes old room : List ℕ) (from n k : ℕ) → IsPart bytes from n old → take n room ≡ take n old → IsFetch bytes (from + n) k (drop n room) → IsPart bytes from (n + k) room
part_more bytes old room from n k p same f =
    record {
      within = omega (arith, p.within, f.within);
      front =
          take-add n k room ∙ ap (λ l. l ++ take k (drop n room)) (same ∙ p.front)
          ∙ ap (λ l. take n (drop from bytes) ++ l) (f.front ∙ ap (take k) (sym (drop-drop n from bytes)))
          ∙ sym (take-add n k (drop from bytes));
    }
