-- The least width of some numbers.
use Rattle.std.proofs.Common.{◌≤◌, ℤ, pos, List, arith}
use Rattle.us_raw.specs.declared.width.Width.{Width}
use Rattle.us_raw.specs.declared.width.Width.TheVariants.{W1, W2, W4, W8}
use Rattle.us_raw.specs.Widths.{size_of, HoldsAll, AreBelow}

pub only_widest : (vs : List ℤ) → (AreBelow (pos 256) vs → ⊥) → (AreBelow (pos 65536) vs → ⊥) → (AreBelow (pos 4294967296) vs → ⊥) → (other : Width) → HoldsAll other vs → 8 ≤ size_of other
only_widest vs a b c W1 h = absurd (a h)
only_widest vs a b c W2 h = absurd (b h)
only_widest vs a b c W4 h = absurd (c h)
only_widest vs a b c W8 h = omega arith
