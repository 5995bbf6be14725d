use Rattle.std.proofs.Common.{◌≡◌, ◌+◌, ◌*◌, ◌≤◌, ℕ, ℤ, List, length, take, drop, sym, ap, ◌∙◌, subst, arith, w64}
use Rattle.std.proofs.lemmas.Int.{to_z-of_z}
use lib.ListN.{length-take, length-drop}
use Rattle.us_raw.specs.Layout.{cell_bytes}
use Rattle.us_raw.specs.Region.{start_at, width_at, size_at}
use Rattle.us_raw.specs.Widths.{size_of}
use Rattle.us_raw.proofs.Laid.{place, entry_fits, cell_fits, in_table, in_row}
use Rattle.us_raw.proofs.Stored.{laid_stored, widths_stored, lists_stored}
use Rattle.us_raw.proofs.region.Region.set.Goals as goal

pub of-entry-requires : goal.of-entry-requires
of-entry-requires c =
    let bs = c.self.inside.block in let n = c.self.inside.count in let seg = c.args.seg in let x = c.args.x in
    let there = in_table bs n c.self.invariant seg x c.args.self.now (sym c.self.view_is) c.requires.0 c.requires.1 in
    subst (λ (l : List ℕ). seg * 24 + 24 ≤ length l) (sym c.bytes.ensures.0) (entry_fits bs n c.self.invariant seg x there)

pub place-requires : goal.place-requires
place-requires c =
    let bs = c.self.inside.block in let n = c.self.inside.count in let seg = c.args.seg in let x = c.args.x in
    let start = c.of-entry.ensures.0 ∙ ap (λ (l : List ℕ). start_at l seg) c.bytes.ensures.0 in
    let size = ap size_of (c.of-entry.ensures.2 ∙ ap (λ (l : List ℕ). width_at l seg) c.bytes.ensures.0) in
    let there = in_table bs n c.self.invariant seg x c.args.self.now (sym c.self.view_is) c.requires.0 c.requires.1 in
    let within = in_row bs n c.self.invariant seg x c.args.self.now (sym c.self.view_is) c.requires.0 c.requires.1 in
    let same : c.of-entry.result.start + x * size_of c.of-entry.result.width ≡ place bs n c.self.invariant seg x = λ i. start i + x * size i in
    omega (arith, same, cell_fits bs n c.self.invariant seg x there within, c.bytes.ensures.1)

pub cut-cell-requires : goal.cut-cell-requires
cut-cell-requires c =
    let bs = c.self.inside.block in let n = c.self.inside.count in let seg = c.args.seg in let x = c.args.x in
    let start = c.of-entry.ensures.0 ∙ ap (λ (l : List ℕ). start_at l seg) c.bytes.ensures.0 in
    let size = ap size_of (c.of-entry.ensures.2 ∙ ap (λ (l : List ℕ). width_at l seg) c.bytes.ensures.0) in
    let there = in_table bs n c.self.invariant seg x c.args.self.now (sym c.self.view_is) c.requires.0 c.requires.1 in
    let within = in_row bs n c.self.invariant seg x c.args.self.now (sym c.self.view_is) c.requires.0 c.requires.1 in
    let same : c.place.result + c.bytes-2.result ≡ place bs n c.self.invariant seg x + size_at bs seg =
    (λ i. c.place.ensures i + c.bytes-2.ensures i) ∙ (λ i. start i + x * size i + size i) in
    omega (arith, same, cell_fits bs n c.self.invariant seg x there within)

pub write-requires : goal.write-requires
write-requires c =
    let bs = c.self.inside.block in let n = c.self.inside.count in let seg = c.args.seg in let x = c.args.x in
    let start = c.of-entry.ensures.0 ∙ ap (λ (l : List ℕ). start_at l seg) c.bytes.ensures.0 in
    let size = ap size_of (c.of-entry.ensures.2 ∙ ap (λ (l : List ℕ). width_at l seg) c.bytes.ensures.0) in
    let there = in_table bs n c.self.invariant seg x c.args.self.now (sym c.self.view_is) c.requires.0 c.requires.1 in
    let within = in_row bs n c.self.invariant seg x c.args.self.now (sym c.self.view_is) c.requires.0 c.requires.1 in
    let same : c.place.result + c.bytes-2.result ≡ place bs n c.self.invariant seg x + size_at bs seg =
    (λ i. c.place.ensures i + c.bytes-2.ensures i) ∙ (λ i. start i + x * size i + size i) in
    let full : length (take c.bytes-2.result (drop c.place.result bs)) ≡ c.bytes-2.result =
    omega (arith, length-take c.bytes-2.result (drop c.place.result bs), length-drop c.place.result bs, same, cell_fits bs n c.self.invariant seg x there within) in
    ap (λ (l : List ℕ). length l) c.cut-cell.ensures.parts.1 ∙ full ∙ c.bytes-2.ensures

pub invariant_of-self : goal.invariant_of-self
invariant_of-self c =
    let bs = c.self.inside.block in let n = c.self.inside.count in let seg = c.args.seg in let x = c.args.x in
    let start = c.of-entry.ensures.0 ∙ ap (λ (l : List ℕ). start_at l seg) c.bytes.ensures.0 in
    let size = ap size_of (c.of-entry.ensures.2 ∙ ap (λ (l : List ℕ). width_at l seg) c.bytes.ensures.0) in
    let at = c.place.ensures ∙ (λ i. start i + x * size i) in let many = c.bytes-2.ensures ∙ size in
    let put = c.write.ensures ∙ ap (λ (z : ℤ). cell_bytes (size_of c.of-entry.result.width) z) (to_z-of_z w64 c.args.v c.ranges.v)
    ∙ ap (λ (k : ℕ). cell_bytes k c.args.v) size in
    laid_stored bs n c.self.invariant seg x c.args.self.now (sym c.self.view_is) c.requires.0 c.requires.1 c.args.v c.place.result c.bytes-2.result c.write.new.bytes at many put

pub returns-clause-lists : goal.returns-clause-lists
returns-clause-lists c =
    let bs = c.self.inside.block in let n = c.self.inside.count in let seg = c.args.seg in let x = c.args.x in
    let start = c.of-entry.ensures.0 ∙ ap (λ (l : List ℕ). start_at l seg) c.bytes.ensures.0 in
    let size = ap size_of (c.of-entry.ensures.2 ∙ ap (λ (l : List ℕ). width_at l seg) c.bytes.ensures.0) in
    let at = c.place.ensures ∙ (λ i. start i + x * size i) in let many = c.bytes-2.ensures ∙ size in
    let put = c.write.ensures ∙ ap (λ (z : ℤ). cell_bytes (size_of c.of-entry.result.width) z) (to_z-of_z w64 c.args.v c.ranges.v)
    ∙ ap (λ (k : ℕ). cell_bytes k c.args.v) size in
    lists_stored bs n c.self.invariant seg x c.args.self.now (sym c.self.view_is) c.requires.0 c.requires.1 c.args.v c.place.result c.bytes-2.result c.write.new.bytes at many put c.ranges.v c.requires.2

pub returns-clause-widths : goal.returns-clause-widths
returns-clause-widths c =
    let bs = c.self.inside.block in let n = c.self.inside.count in let seg = c.args.seg in let x = c.args.x in
    let start = c.of-entry.ensures.0 ∙ ap (λ (l : List ℕ). start_at l seg) c.bytes.ensures.0 in
    let size = ap size_of (c.of-entry.ensures.2 ∙ ap (λ (l : List ℕ). width_at l seg) c.bytes.ensures.0) in
    let at = c.place.ensures ∙ (λ i. start i + x * size i) in let many = c.bytes-2.ensures ∙ size in
    let put = c.write.ensures ∙ ap (λ (z : ℤ). cell_bytes (size_of c.of-entry.result.width) z) (to_z-of_z w64 c.args.v c.ranges.v)
    ∙ ap (λ (k : ℕ). cell_bytes k c.args.v) size in
    widths_stored bs n c.self.invariant seg x c.args.self.now (sym c.self.view_is) c.requires.0 c.requires.1 c.args.v c.place.result c.bytes-2.result c.write.new.bytes at many put
