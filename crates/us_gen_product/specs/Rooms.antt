-- The phase is typed in every context with room.
use Rattle.std.specs.Prelude.{◌≡◌, ℕ, true, nat_lt, List, [], ◌∷◌, None}
use Rattle.us_code.specs.Typing.{Context, TypedPhases}
use Rattle.us_gen.specs.Rooms.{FreshFrom}
use Rattle.us_gen_unpack.specs.declared.listing.PartWalk.{PartWalk}
use Rattle.us_gen_unpack.specs.Rooms.{SeesParts}
use Rattle.us_gen_product.specs.declared.product.Product.{Product}
use Rattle.us_gen_product.specs.Product.{product_phase}

-- where no register is visible, as in front of a phase, the result is a new buffer and the operand a source
abbrev pub ProductIsTyped : Type 0
ProductIsTyped =
    (g : Context) (p : Product) (xs : List PartWalk) (n : ℕ) → FreshFrom g 0
    → nat_lt p.operand g.sources ≡ true → g.bufs p.result ≡ None → SeesParts g xs
    → TypedPhases g (product_phase p xs n ∷ [])
