use Rattle.std.proofs.Common.{◌+◌, ◌*◌, ap, ◌∙◌, arith, rules, FitsSigned}
use Rattle.std.specs.Int.{w64}
use Rattle.std.proofs.lemmas.Int.{to_z-of_z}
use Rattle.std.proofs.lemmas.List.{take_rest}
use Rattle.us_matrix.specs.Map.{value_at}
use Rattle.us_matrix.proofs.Search.{behind_rising, skipped}
use Rattle.us_matrix.proofs.matrix.value_in.Goals as goal

pub value_from-requires : goal.value_from-requires
value_from-requires c =
    rw (take_rest c.args.entries.now c.first_from.result) (behind_rising 0 (2147483648 * c.args.i + c.args.j) c.first_from.result c.args.entries.now c.requires.rising (λ n d le lt. omega (arith, c.first_from.ensures.behind n d le lt)))

pub returns : goal.returns
returns c =
    let fits : FitsSigned w64 c.value_from.result = search rules in
    to_z-of_z w64 c.value_from.result fits ∙ c.value_from.ensures ∙ ap (λ l. value_at l c.args.i c.args.j) (take_rest c.args.entries.now c.first_from.result)
    ∙ skipped c.args.i c.args.j c.first_from.result c.args.entries.now (λ n d lt. omega (arith, c.first_from.ensures.before n d lt))
