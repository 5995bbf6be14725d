use Rattle.std.proofs.Common.{◌≡◌, ℕ, suc, ◌+◌, ◌-◌, ◌<◌, drop, length, sym, ap, ap₂, ◌∙◌, arith}
use Rattle.std.specs.Prelude.{nat_le}
use Rattle.std.specs.List.{sum}
use Rattle.us_format.specs.Program.{plain_shape}
use Rattle.us_format.specs.Reading.{all_counts_in, all_tests, buffer_count, part_counts_in}
use Rattle.us_judge.specs.Format.{part_at}
use Rattle.us_judge.specs.Views.{declaration_of}
use Rattle.us_climb.specs.Layout.{first_failing}
use Rattle.us_climb.proofs.PartTests.{fitting-next}
use Rattle.us_climb.proofs.PartCounts.{counts-next, left-over, too-many}
use Rattle.us_climb.proofs.lengths.+parts_within.Goals as goal

pub part_left-requires-clause-extents : goal.part_left-requires-clause-extents
part_left-requires-clause-extents t c =
    let s = plain_shape c.args.shape in
    let d = declaration_of c.args.format.now in
    let k = c.args.number - 1 in
    let below : c.args.number - 1 < length (declaration_of c.args.format.now).parts = omega (arith, c.requires.from_one, c.if-number-parts.false, c.parts.ensures) in
    (fitting-next s d k c.args.first c.args.buffers.now below c.requires.fitting).0

pub parts_within-requires : goal.parts_within-requires
parts_within-requires t c =
    let s = plain_shape c.args.shape in
    let d = declaration_of c.args.format.now in
    let k = c.args.number - 1 in
    let below : c.args.number - 1 < length (declaration_of c.args.format.now).parts = omega (arith, c.requires.from_one, c.if-number-parts.false, c.parts.ensures) in
    let number : c.args.number + 1 - 1 ≡ suc (c.args.number - 1) = omega (arith, c.requires.from_one) in
    let fitting =
    ap₂ (λ (i j : ℕ). first_failing (all_tests s j (drop i d.parts) (drop j c.args.buffers.now))) number (ap (λ (j : ℕ). c.args.first + j) c.part_buffers.ensures.count)
    ∙ (fitting-next s d k c.args.first c.args.buffers.now below c.requires.fitting).1 in
    (omega (arith, below), (omega arith, (c.requires.few, (omega (arith, below), (omega (arith, c.requires.base, c.part_buffers.ensures.few), (c.requires.rows, (c.requires.cols, fitting)))))))

pub returns : goal.returns
returns t c =
    let s = plain_shape c.args.shape in
    let d = declaration_of c.args.format.now in
    let k = c.args.number - 1 in
    let below : c.args.number - 1 < length (declaration_of c.args.format.now).parts = omega (arith, c.requires.from_one, c.if-number-parts.false, c.parts.ensures) in
    let number : c.args.number + 1 - 1 ≡ suc (c.args.number - 1) = omega (arith, c.requires.from_one) in
    let n = c.args.first + buffer_count (part_at d k) in
    c.parts_within.ensures
    ∙ ap₂ (λ (i j : ℕ). nat_le (all_counts_in s (drop i d.parts) (drop j c.args.buffers.now)) c.in-Some.rest) number (ap (λ (j : ℕ). c.args.first + j) c.part_buffers.ensures.count)
    ∙ left-over (sum (part_counts_in s (part_at d k) (drop c.args.first c.args.buffers.now))) (all_counts_in s (drop (suc k) d.parts) (drop n c.args.buffers.now)) c.in-Some.rest c.args.left c.in-Some.ensures
    ∙ ap (λ (i : ℕ). nat_le i c.args.left) (sym (counts-next s d k c.args.first c.args.buffers.now below))

pub returns-in_default : goal.returns-in_default
returns-in_default t c =
    let s = plain_shape c.args.shape in
    let d = declaration_of c.args.format.now in
    let k = c.args.number - 1 in
    let below : c.args.number - 1 < length (declaration_of c.args.format.now).parts = omega (arith, c.requires.from_one, c.if-number-parts.false, c.parts.ensures) in
    let n = c.args.first + buffer_count (part_at d k) in
    too-many (sum (part_counts_in s (part_at d k) (drop c.args.first c.args.buffers.now))) (all_counts_in s (drop (suc k) d.parts) (drop n c.args.buffers.now)) c.args.left c.in_default.ensures
    ∙ ap (λ (i : ℕ). nat_le i c.args.left) (sym (counts-next s d k c.args.first c.args.buffers.now below))
