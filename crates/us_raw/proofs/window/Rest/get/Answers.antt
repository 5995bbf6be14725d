use Rattle.std.proofs.Common.{◌≡◌, ◌+◌, ◌*◌, ◌-◌, ◌<◌, ◌≤◌, ℕ, length, sym, ap, ◌∙◌, subst, arith, w64}
use Rattle.std.proofs.lemmas.Int.{to_z-of_z}
use Rattle.us_raw.specs.Layout.{cell}
use Rattle.us_raw.specs.Widths.{size_of}
use Rattle.us_raw.proofs.Around.{entry_before, starts, widths, place, place_small, in_front, behind, fits_after, front_cell, back_cell}
use Rattle.us_raw.proofs.window.Rest.get.Goals as goal

pub of-entry-requires : goal.of-entry-requires
of-entry-requires c =
    let r = c.self.inside in
    entry_before r.before.now r.skipped r.after.now r.count r.lent c.self.invariant c.args.seg c.args.x c.args.self.now (sym c.self.view_is) c.requires.0 c.requires.1

pub place-place-requires : goal.place-place-requires
place-place-requires c =
    let r = c.self.inside in
    let at = place r.before.now r.skipped r.after.now r.count r.lent c.self.invariant c.args.seg c.args.x c.args.self.now (sym c.self.view_is) c.requires.0 c.requires.1 in
    let start = c.of-entry.ensures.0 ∙ starts r.before.now r.skipped r.after.now r.count r.lent c.self.invariant c.args.seg c.args.x c.args.self.now (sym c.self.view_is) c.requires.0 c.requires.1 in
    let wide = ap size_of (c.of-entry.ensures.2 ∙ widths r.before.now r.skipped r.after.now r.count r.lent c.self.invariant c.args.seg c.args.x c.args.self.now (sym c.self.view_is) c.requires.0 c.requires.1) in
    let same : c.of-entry.result.start + c.args.x * size_of c.of-entry.result.width ≡ at = λ i. start i + c.args.x * wide i in
    omega (arith, same, place_small r.before.now r.skipped r.after.now r.count r.lent c.self.invariant c.args.seg c.args.x c.args.self.now (sym c.self.view_is) c.requires.0 c.requires.1)

pub read-requires : goal.read-requires
read-requires c =
    let r = c.self.inside in
    let at = place r.before.now r.skipped r.after.now r.count r.lent c.self.invariant c.args.seg c.args.x c.args.self.now (sym c.self.view_is) c.requires.0 c.requires.1 in
    let start = c.of-entry.ensures.0 ∙ starts r.before.now r.skipped r.after.now r.count r.lent c.self.invariant c.args.seg c.args.x c.args.self.now (sym c.self.view_is) c.requires.0 c.requires.1 in
    let wide = ap size_of (c.of-entry.ensures.2 ∙ widths r.before.now r.skipped r.after.now r.count r.lent c.self.invariant c.args.seg c.args.x c.args.self.now (sym c.self.view_is) c.requires.0 c.requires.1) in
    let is_at : c.place-place.result ≡ at = c.place-place.ensures ∙ (λ i. start i + c.args.x * wide i) in
    let low : at < length r.before.now = omega (arith, is_at, c.if-place-self.true) in
    omega (arith, is_at, wide, in_front r.before.now r.skipped r.after.now r.count r.lent c.self.invariant c.args.seg c.args.x c.args.self.now (sym c.self.view_is) c.requires.0 c.requires.1 low)

pub overflow_sub-place-else-place-self : goal.overflow_sub-place-else-place-self
overflow_sub-place-else-place-self c =
    let r = c.self.inside in
    let at = place r.before.now r.skipped r.after.now r.count r.lent c.self.invariant c.args.seg c.args.x c.args.self.now (sym c.self.view_is) c.requires.0 c.requires.1 in
    let start = c.of-entry.ensures.0 ∙ starts r.before.now r.skipped r.after.now r.count r.lent c.self.invariant c.args.seg c.args.x c.args.self.now (sym c.self.view_is) c.requires.0 c.requires.1 in
    let wide = ap size_of (c.of-entry.ensures.2 ∙ widths r.before.now r.skipped r.after.now r.count r.lent c.self.invariant c.args.seg c.args.x c.args.self.now (sym c.self.view_is) c.requires.0 c.requires.1) in
    let is_at : c.place-place.result ≡ at = c.place-place.ensures ∙ (λ i. start i + c.args.x * wide i) in
    let far : length r.before.now ≤ at = omega (arith, is_at, c.if-place-self.false) in
    omega (arith, is_at, behind r.before.now r.skipped r.after.now r.count r.lent c.self.invariant c.args.seg c.args.x c.args.self.now (sym c.self.view_is) c.requires.0 c.requires.1 far)

pub read-requires-else-place-self : goal.read-requires-else-place-self
read-requires-else-place-self c =
    let r = c.self.inside in
    let at = place r.before.now r.skipped r.after.now r.count r.lent c.self.invariant c.args.seg c.args.x c.args.self.now (sym c.self.view_is) c.requires.0 c.requires.1 in
    let start = c.of-entry.ensures.0 ∙ starts r.before.now r.skipped r.after.now r.count r.lent c.self.invariant c.args.seg c.args.x c.args.self.now (sym c.self.view_is) c.requires.0 c.requires.1 in
    let wide = ap size_of (c.of-entry.ensures.2 ∙ widths r.before.now r.skipped r.after.now r.count r.lent c.self.invariant c.args.seg c.args.x c.args.self.now (sym c.self.view_is) c.requires.0 c.requires.1) in
    let is_at : c.place-place.result ≡ at = c.place-place.ensures ∙ (λ i. start i + c.args.x * wide i) in
    let far : length r.before.now ≤ at = omega (arith, is_at, c.if-place-self.false) in
    subst (λ (k : ℕ). k ≤ length r.after.now) (λ i. sym is_at i - length r.before.now - r.skipped + sym wide i) (fits_after r.before.now r.skipped r.after.now r.count r.lent c.self.invariant c.args.seg c.args.x c.args.self.now (sym c.self.view_is) c.requires.0 c.requires.1 far)

pub returns-then-place-self : goal.returns-then-place-self
returns-then-place-self c =
    let r = c.self.inside in
    let at = place r.before.now r.skipped r.after.now r.count r.lent c.self.invariant c.args.seg c.args.x c.args.self.now (sym c.self.view_is) c.requires.0 c.requires.1 in
    let start = c.of-entry.ensures.0 ∙ starts r.before.now r.skipped r.after.now r.count r.lent c.self.invariant c.args.seg c.args.x c.args.self.now (sym c.self.view_is) c.requires.0 c.requires.1 in
    let wide = ap size_of (c.of-entry.ensures.2 ∙ widths r.before.now r.skipped r.after.now r.count r.lent c.self.invariant c.args.seg c.args.x c.args.self.now (sym c.self.view_is) c.requires.0 c.requires.1) in
    let is_at : c.place-place.result ≡ at = c.place-place.ensures ∙ (λ i. start i + c.args.x * wide i) in
    let low : at < length r.before.now = omega (arith, is_at, c.if-place-self.true) in
    to_z-of_z w64 c.read.result (record { sfits = c.read.type_inv }) ∙ c.read.ensures
    ∙ (λ i. cell (wide i) r.before.now (is_at i)) ∙ front_cell r.before.now r.skipped r.after.now r.count r.lent c.self.invariant c.args.seg c.args.x c.args.self.now (sym c.self.view_is) c.requires.0 c.requires.1 low

pub returns-else-place-self : goal.returns-else-place-self
returns-else-place-self c =
    let r = c.self.inside in
    let at = place r.before.now r.skipped r.after.now r.count r.lent c.self.invariant c.args.seg c.args.x c.args.self.now (sym c.self.view_is) c.requires.0 c.requires.1 in
    let start = c.of-entry.ensures.0 ∙ starts r.before.now r.skipped r.after.now r.count r.lent c.self.invariant c.args.seg c.args.x c.args.self.now (sym c.self.view_is) c.requires.0 c.requires.1 in
    let wide = ap size_of (c.of-entry.ensures.2 ∙ widths r.before.now r.skipped r.after.now r.count r.lent c.self.invariant c.args.seg c.args.x c.args.self.now (sym c.self.view_is) c.requires.0 c.requires.1) in
    let is_at : c.place-place.result ≡ at = c.place-place.ensures ∙ (λ i. start i + c.args.x * wide i) in
    let far : length r.before.now ≤ at = omega (arith, is_at, c.if-place-self.false) in
    to_z-of_z w64 c.read-else-place-self.result (record { sfits = c.read-else-place-self.type_inv }) ∙ c.read-else-place-self.ensures
    ∙ (λ i. cell (wide i) r.after.now (is_at i - length r.before.now - r.skipped)) ∙ back_cell r.before.now r.skipped r.after.now r.count r.lent c.self.invariant c.args.seg c.args.x c.args.self.now (sym c.self.view_is) c.requires.0 c.requires.1 far
