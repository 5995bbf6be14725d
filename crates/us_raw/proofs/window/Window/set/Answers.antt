use Rattle.std.proofs.Common.{rules, ◌≡◌, ◌+◌, ◌*◌, ◌-◌, ◌^◌, ◌≤◌, ℕ, ℤ, length, ap, ◌∙◌, arith, w64}
use Rattle.std.proofs.lemmas.Int.{to_z-of_z}
use Rattle.us_raw.specs.Layout.{cell_bytes}
use Rattle.us_raw.specs.Widths.{size_of}
use Rattle.us_raw.proofs.Written.{cell_fits, cells_set}
use Rattle.us_raw.proofs.window.Window.set.Goals as goal

pub overflow_mul-at : goal.overflow_mul-at
overflow_mul-at c =
    let bytes = c.args.self.now.bytes.now in let small : length bytes ≤ 2 ^ 64 - 1 = search rules in
    let at = ap (λ (k : ℕ). c.args.x * k) c.bytes-size.ensures in
    record { fits = omega (arith, at, small, cell_fits bytes c.args.self.now.width c.args.x c.requires.0) }

pub overflow_add-at : goal.overflow_add-at
overflow_add-at c =
    let bytes = c.args.self.now.bytes.now in let small : length bytes ≤ 2 ^ 64 - 1 = search rules in
    let at = ap (λ (k : ℕ). c.args.x * k + k) c.bytes-size.ensures in
    record { fits = omega (arith, at, small, cell_fits bytes c.args.self.now.width c.args.x c.requires.0) }

pub slice_bounds-write-end : goal.slice_bounds-write-end
slice_bounds-write-end c =
    let bytes = c.args.self.now.bytes.now in let at = ap (λ (k : ℕ). c.args.x * k + k) c.bytes-size.ensures in
    let ends : c.args.x * c.bytes-size.result + c.bytes-size.result ≤ length bytes = omega (arith, at, cell_fits bytes c.args.self.now.width c.args.x c.requires.0) in ends

pub returns-clause-cells : goal.returns-clause-cells
returns-clause-cells c =
    let w = c.args.self.now.width in let at = c.args.x * c.bytes-size.result in
    let size : at + c.bytes-size.result - at ≡ size_of w = omega (arith, c.bytes-size.ensures) in
    let put = c.write.ensures ∙ ap (λ (z : ℤ). cell_bytes (size_of w) z) (to_z-of_z w64 c.args.v c.ranges.v) in
    cells_set c.args.self.now.bytes.now w c.args.x c.requires.0 c.args.v c.ranges.v c.requires.1 c.write.new.bytes put at (at + c.bytes-size.result - at)
    (ap (λ (k : ℕ). c.args.x * k) c.bytes-size.ensures) size
