use Rattle.std.proofs.Common.{rules, ◌*◌, ◌-◌, ◌^◌, ◌≤◌, ℕ, length, sym, ap, ◌∙◌, arith, w64}
use Rattle.std.proofs.lemmas.Int.{to_z-of_z}
use Rattle.us_raw.specs.Layout.{cell}
use Rattle.us_raw.specs.Widths.{size_of}
use Rattle.us_raw.proofs.Written.{cell_fits, cell_is}
use Rattle.us_raw.proofs.window.Window.get.Goals as goal

pub overflow_mul-x : goal.overflow_mul-x
overflow_mul-x c =
    let bytes = c.args.self.now.bytes.now in let small : length bytes ≤ 2 ^ 64 - 1 = search rules in
    let at = ap (λ (k : ℕ). c.args.x * k) c.bytes.ensures in
    record { fits = omega (arith, at, small, cell_fits bytes c.args.self.now.width c.args.x c.requires) }

pub read-requires : goal.read-requires
read-requires c =
    let at = ap (λ (k : ℕ). c.args.x * k) c.bytes.ensures in omega (arith, at, cell_fits c.args.self.now.bytes.now c.args.self.now.width c.args.x c.requires)

pub returns : goal.returns
returns c =
    let bytes = c.args.self.now.bytes.now in let w = c.args.self.now.width in
    to_z-of_z w64 c.read.result (record { sfits = c.read.type_inv }) ∙ c.read.ensures ∙ ap (λ (k : ℕ). cell (size_of w) bytes (c.args.x * k)) c.bytes.ensures ∙ sym (cell_is bytes w c.args.x c.requires)
