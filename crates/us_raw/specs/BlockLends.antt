-- What a block ends as, once a `&mut` to some of its bytes has ended.
use Rattle.std.specs.Prelude.{ℕ, List}
use Rattle.std.specs.Borrow.{Fml, MutBor, Array, Lends, u8}
use Rattle.us_raw.specs.Lends.{overwritten}
use Rattle.us_raw.specs.contracts.block.Block.{the_row}

abbrev pub lends_middle : MutBor (List ℕ) → ℕ → ℕ → MutBor (List ℕ) → Fml
lends_middle b from n r = Lends the_row (Array u8 0) b r (λ ws. overwritten b.now from n ws)
