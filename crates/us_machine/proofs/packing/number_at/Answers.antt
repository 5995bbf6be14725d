use Rattle.std.proofs.Common.{◌+◌, ◌*◌, ◌<◌, ◌≤◌, ◌∙◌, ℕ, pos, List, length, drop, get_or, ap, sym, subst, arith}
use Rattle.std.proofs.lemmas.List.{at_drop_more}
use Rattle.us_machine.specs.declared.packing.Digit.{Digit}
use Rattle.us_machine.specs.Packing.{count_from, number_from}
use Rattle.us_machine.proofs.Digits.{turn_narrow}
use Rattle.us_machine.proofs.packing.number_at.Goals as goal

abbrev none : Digit
none = record { seg = 0; low = pos 0; radix = 0 }

pub overflow_mul-number : goal.overflow_mul-number
overflow_mul-number c =
    let i = c.loop-digit.digit-index in
    let ds = c.args.digits.now in
    let lt : i < length ds = c.loop-digit-test.true in
    let t = turn_narrow c.args.region.now.lists c.args.len c.args.base c.requires.places ds i c.loop-digit.number c.args.x (count_from c.args.base ds) none c.requires.digits c.requires.below lt c.loop-digit.invariant.narrow in
    omega (arith, t.0, c.requires.narrow)

pub overflow_add-number : goal.overflow_add-number
overflow_add-number c =
    let i = c.loop-digit.digit-index in
    let ds = c.args.digits.now in
    let lt : i < length ds = c.loop-digit-test.true in
    let t = turn_narrow c.args.region.now.lists c.args.len c.args.base c.requires.places ds i c.loop-digit.number c.args.x (count_from c.args.base ds) none c.requires.digits c.requires.below lt c.loop-digit.invariant.narrow in
    omega (arith, t.0, c.at.ensures, c.requires.narrow)

pub loop-digit-preserved : goal.loop-digit-preserved
loop-digit-preserved c =
    let i = c.loop-digit.digit-index in
    let ds = c.args.digits.now in
    let n = c.loop-digit.number in
    let base = c.args.base in
    let lists = c.args.region.now.lists in
    let lt : i < length ds = c.loop-digit-test.true in
    let t = turn_narrow lists c.args.len base c.requires.places ds i n c.args.x (count_from base ds) none c.requires.digits c.requires.below lt c.loop-digit.invariant.narrow in
    let r = (get_or ds i none).radix in
    record {
      rest = ap (λ (v : ℕ). number_from lists base (n * r + v) (drop (i + 1) ds) c.args.x) c.at.ensures
          ∙ (sym (at_drop_more (λ (xs : List Digit). number_from lists base n xs c.args.x) ds i none lt) ∙ c.loop-digit.invariant.rest);
      narrow = subst (λ (v : ℕ). count_from ((n * r + v + 1) * base) (drop (i + 1) ds) ≤ count_from base ds) (sym c.at.ensures) t.1;
    }
