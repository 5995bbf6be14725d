use Rattle.std.proofs.Common.{◌+◌, ◌-◌, ℕ, take, drop, w64, ap, ◌∙◌, arith}
use Rattle.std.specs.Int.{from_le_bytes}
use Rattle.us_raw.specs.Layout.{word}
use Rattle.us_raw.proofs.cells.load.Goals as goal

pub returns : goal.returns
unfolding word
returns c =
    c.from_le_bytes.ensures
    ∙ ap (λ (k : ℕ). from_le_bytes w64 (take k (drop c.args.at c.args.bytes.now))) {x = c.args.at + 8 - c.args.at} {y = 8} (omega arith)
