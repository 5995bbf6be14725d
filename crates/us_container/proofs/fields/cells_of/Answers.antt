use Rattle.std.proofs.Common.{◌≡◌, ◌<◌, ◌∙◌, arith, ap, sym, length, slice_index}
use Rattle.std.specs.Prelude.{pos}
use Rattle.std.proofs.lemmas.List.{take_at, length-replicate}
use Rattle.us_container.proofs.CellsRead.{read_cells}
use Rattle.us_container.proofs.fields.cells_of.Goals as goal

pub returns : goal.returns
returns c =
    let long : length c.in_ok-cells.cells.items ≡ c.args.n = ap length c.in_ok-cells.ensures ∙ length-replicate c.args.n (pos 0) in
    let full : length c.read_i64_into.new.dst ≡ length c.in_ok-cells.cells.items = c.read_i64_into.auto.dst ∙ ap length c.deref_mut.ensures.value in
    take_at c.read_i64_into.new.dst _ c.in_ok-cells.cells.len (full ∙ sym c.in_ok-cells.cells.ok.0)
    ∙ read_cells c.args.n c.args.bytes.now c.read_i64_into.new.dst (full ∙ long) (λ i. let byte : slice_index c.args.bytes.now i < 256 = omega (arith, c.type_inv.bytes i) in byte) c.read_i64_into.ensures
