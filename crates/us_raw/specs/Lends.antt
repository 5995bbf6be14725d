-- What the bytes end as, once a `&mut` to some of them has ended.
use Rattle.std.specs.Prelude.{ℕ, ◌+◌, List, ◌++◌, take, drop}
use Rattle.std.specs.Borrow.{Fml, MutBor, Array, Lends, u8}
use Rattle.std.specs.List.{refill}
use Rattle.us_raw.specs.declared.raw.Bytes.{Bytes}
use Rattle.us_raw.specs.contracts.raw.Bytes.{the_row}

-- xs, with ws in the place of the n from the index from on
abbrev pub overwritten : {X : Type 0} → List X → ℕ → ℕ → List X → List X
overwritten xs from n ws = take from xs ++ (refill n (take n (drop from xs)) ws ++ drop (from + n) xs)

abbrev pub with_written : Bytes → List ℕ → Bytes
with_written b xs = record { mark = b.mark; at = b.at; written = xs; room = b.room }

abbrev pub lends_run : MutBor Bytes → ℕ → ℕ → MutBor (List ℕ) → Fml
lends_run b from n r = Lends the_row (Array u8 0) b r (λ ws. with_written b.now (overwritten b.now.written from n ws))
