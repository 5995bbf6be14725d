use Rattle.std.proofs.Common.{◌≡◌, ◌+◌, ◌*◌, ◌≤◌, ℕ, List, length, sym, ap, ◌∙◌, subst, arith, w64}
use Rattle.std.proofs.lemmas.Int.{to_z-of_z}
use Rattle.us_raw.specs.Layout.{cell}
use Rattle.us_raw.specs.Region.{start_at, width_at, size_at}
use Rattle.us_raw.specs.Widths.{size_of}
use Rattle.us_raw.proofs.Laid.{place, entry_fits, cell_fits, in_table, in_row, listed_cell}
use Rattle.us_raw.proofs.region.Region.get.Goals as goal

pub of-entry-requires : goal.of-entry-requires
of-entry-requires c =
    let bs = c.self.inside.block in let n = c.self.inside.count in let seg = c.args.seg in let x = c.args.x in
    let there = in_table bs n c.self.invariant seg x c.args.self.now (sym c.self.view_is) c.requires.0 c.requires.1 in
    subst (λ (l : List ℕ). seg * 24 + 24 ≤ length l) (sym c.bytes-bytes.ensures.0) (entry_fits bs n c.self.invariant seg x there)

pub place-requires : goal.place-requires
place-requires c =
    let bs = c.self.inside.block in let n = c.self.inside.count in let seg = c.args.seg in let x = c.args.x in
    let there = in_table bs n c.self.invariant seg x c.args.self.now (sym c.self.view_is) c.requires.0 c.requires.1 in
    let within = in_row bs n c.self.invariant seg x c.args.self.now (sym c.self.view_is) c.requires.0 c.requires.1 in
    let start = c.of-entry.ensures.0 ∙ ap (λ (l : List ℕ). start_at l seg) c.bytes-bytes.ensures.0 in
    let size = ap size_of (c.of-entry.ensures.2 ∙ ap (λ (l : List ℕ). width_at l seg) c.bytes-bytes.ensures.0) in
    let same : c.of-entry.result.start + x * size_of c.of-entry.result.width ≡ place bs n c.self.invariant seg x = λ i. start i + x * size i in
    omega (arith, same, cell_fits bs n c.self.invariant seg x there within, c.bytes-bytes.ensures.1)

pub read-requires : goal.read-requires
read-requires c =
    let bs = c.self.inside.block in let n = c.self.inside.count in let seg = c.args.seg in let x = c.args.x in
    let there = in_table bs n c.self.invariant seg x c.args.self.now (sym c.self.view_is) c.requires.0 c.requires.1 in
    let within = in_row bs n c.self.invariant seg x c.args.self.now (sym c.self.view_is) c.requires.0 c.requires.1 in
    let start = c.of-entry.ensures.0 ∙ ap (λ (l : List ℕ). start_at l seg) c.bytes-bytes.ensures.0 in
    let size = ap size_of (c.of-entry.ensures.2 ∙ ap (λ (l : List ℕ). width_at l seg) c.bytes-bytes.ensures.0) in
    let same : c.place.result + size_of c.of-entry.result.width ≡ place bs n c.self.invariant seg x + size_at bs seg =
    (λ i. c.place.ensures i + size_of c.of-entry.result.width) ∙ (λ i. start i + x * size i + size i) in
    omega (arith, same, cell_fits bs n c.self.invariant seg x there within, ap (λ (l : List ℕ). length l) c.bytes-bytes.ensures.0)

pub returns : goal.returns
returns c =
    let bs = c.self.inside.block in let n = c.self.inside.count in let seg = c.args.seg in let x = c.args.x in
    let start = c.of-entry.ensures.0 ∙ ap (λ (l : List ℕ). start_at l seg) c.bytes-bytes.ensures.0 in
    let size = ap size_of (c.of-entry.ensures.2 ∙ ap (λ (l : List ℕ). width_at l seg) c.bytes-bytes.ensures.0) in
    let at = c.place.ensures ∙ (λ i. start i + x * size i) in
    to_z-of_z w64 c.read.result (record { sfits = c.read.type_inv }) ∙ c.read.ensures
    ∙ (λ i. cell (size i) (c.bytes-bytes.ensures.0 i) (at i))
    ∙ sym (listed_cell bs n c.self.invariant seg x c.args.self.now (sym c.self.view_is) c.requires.0 c.requires.1)
