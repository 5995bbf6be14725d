use Rattle.std.proofs.Common.{◌≡◌, ◌+◌, ◌*◌, ◌≤◌, ℕ, List, length, take, drop, refl, sym, ap, ◌∙◌, subst, arith}
use Rattle.us_raw.specs.Region.{start_at, length_at, width_at, size_at}
use Rattle.us_raw.specs.Widths.{size_of}
use Rattle.us_raw.specs.Window.{cells_of}
use Rattle.us_raw.proofs.Laid.{entry_fits}
use Rattle.us_raw.proofs.Lent.{there, listed, width_listed, inside, lent, lent_cells, laid_ended, region_ended, is_around, others_are}
use Rattle.us_raw.proofs.region.Region.window.Goals as goal

pub of-entry-requires : goal.of-entry-requires
of-entry-requires c =
    let bs = c.self.inside.block in let n = c.self.inside.count in let seg = c.args.seg in
    subst (λ (l : List ℕ). seg * 24 + 24 ≤ length l) (sym c.bytes.ensures.0) (entry_fits bs n c.self.invariant seg 0 (there bs n c.self.invariant seg c.args.self.now (sym c.self.view_is) c.requires))

pub size-size-requires : goal.size-size-requires
size-size-requires c =
    let bs = c.self.inside.block in let n = c.self.inside.count in let seg = c.args.seg in
    let long = c.of-entry.ensures.1 ∙ ap (λ (l : List ℕ). length_at l seg) c.bytes.ensures.0 in
    let wide = ap size_of (c.of-entry.ensures.2 ∙ ap (λ (l : List ℕ). width_at l seg) c.bytes.ensures.0) in
    let many : c.of-entry.result.len * size_of c.of-entry.result.width ≡ length_at bs seg * size_at bs seg = (λ i. long i * wide i) in
    omega (arith, many, inside bs n c.self.invariant seg c.args.self.now (sym c.self.view_is) c.requires, c.bytes.ensures.1)

pub cut-bytes-requires : goal.cut-bytes-requires
cut-bytes-requires c =
    let bs = c.self.inside.block in let n = c.self.inside.count in let seg = c.args.seg in
    let start = c.of-entry.ensures.0 ∙ ap (λ (l : List ℕ). start_at l seg) c.bytes.ensures.0 in
    let long = c.of-entry.ensures.1 ∙ ap (λ (l : List ℕ). length_at l seg) c.bytes.ensures.0 in
    let wide = ap size_of (c.of-entry.ensures.2 ∙ ap (λ (l : List ℕ). width_at l seg) c.bytes.ensures.0) in
    let many : c.size-size.result ≡ length_at bs seg * size_at bs seg = c.size-size.ensures ∙ (λ i. long i * wide i) in
    omega (arith, start, many, inside bs n c.self.invariant seg c.args.self.now (sym c.self.view_is) c.requires)

pub invariant_of-result : goal.invariant_of-result
invariant_of-result c =
    let bs = c.self.inside.block in let n = c.self.inside.count in let seg = c.args.seg in
    let start = c.of-entry.ensures.0 ∙ ap (λ (l : List ℕ). start_at l seg) c.bytes.ensures.0 in
    let long = c.of-entry.ensures.1 ∙ ap (λ (l : List ℕ). length_at l seg) c.bytes.ensures.0 in
    let wide = ap size_of (c.of-entry.ensures.2 ∙ ap (λ (l : List ℕ). width_at l seg) c.bytes.ensures.0) in
    let many : c.size-size.result ≡ length_at bs seg * size_at bs seg = c.size-size.ensures ∙ (λ i. long i * wide i) in
    is_around bs n c.self.invariant seg c.args.self.now (sym c.self.view_is) c.requires c.of-entry.result.start c.size-size.result start many
    c.cut-bytes.result.0.now c.cut-bytes.result.2.now c.cut-bytes.ensures.parts.0 c.cut-bytes.ensures.parts.2 c.bytes.ensures.1

pub invariant_of-self-lent : goal.invariant_of-self-lent
invariant_of-self-lent c ws =
    let bs = c.self.inside.block in let n = c.self.inside.count in let seg = c.args.seg in
    let start = c.of-entry.ensures.0 ∙ ap (λ (l : List ℕ). start_at l seg) c.bytes.ensures.0 in
    let long = c.of-entry.ensures.1 ∙ ap (λ (l : List ℕ). length_at l seg) c.bytes.ensures.0 in
    let wide = ap size_of (c.of-entry.ensures.2 ∙ ap (λ (l : List ℕ). width_at l seg) c.bytes.ensures.0) in
    let many : c.size-size.result ≡ length_at bs seg * size_at bs seg = c.size-size.ensures ∙ (λ i. long i * wide i) in
    laid_ended bs n c.self.invariant seg c.args.self.now (sym c.self.view_is) c.requires c.of-entry.result.start c.size-size.result start many ws

pub returns : goal.returns
returns c =
    let bs = c.self.inside.block in let n = c.self.inside.count in let seg = c.args.seg in let now = c.args.self.now in let view = sym c.self.view_is in
    let start = c.of-entry.ensures.0 ∙ ap (λ (l : List ℕ). start_at l seg) c.bytes.ensures.0 in
    let long = c.of-entry.ensures.1 ∙ ap (λ (l : List ℕ). length_at l seg) c.bytes.ensures.0 in
    let width = c.of-entry.ensures.2 ∙ ap (λ (l : List ℕ). width_at l seg) c.bytes.ensures.0 in
    let wide = ap size_of width in
    let many : c.size-size.result ≡ length_at bs seg * size_at bs seg = c.size-size.ensures ∙ (λ i. long i * wide i) in
    let at = c.of-entry.result.start in let count = c.size-size.result in let parts = c.cut-bytes.ensures.parts in
    let bytes : c.cut-bytes.result.1.now ≡ lent bs n c.self.invariant seg now view c.requires = parts.1 ∙ (λ i. take (many i) (drop (start i) bs)) in (
      (refl, λ ws. region_ended bs n c.self.invariant seg now view c.requires at count start many ws c.cut-bytes.result.1.now parts.1),
      record {
        writes_back = tt;
        cells = (λ i. cells_of (bytes i) (width i)) ∙ lent_cells bs n c.self.invariant seg now view c.requires ∙ sym (listed bs n c.self.invariant seg now view c.requires);
        width = width ∙ sym (width_listed bs n c.self.invariant seg now view c.requires);
        others = others_are bs n c.self.invariant seg now view c.requires at count start many c.cut-bytes.result.0.now c.cut-bytes.result.2.now parts.0 parts.2;
      },
    )
