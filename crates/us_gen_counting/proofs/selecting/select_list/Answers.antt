use Rattle.std.proofs.Common.{◌≡◌, ◌≤◌, ◌++◌, List, map, length, ap, ◌∙◌, arith}
use Rattle.us_format.specs.Declaration.{query_of}
use Rattle.us_gen_query.specs.declared.selecting.Test.{Test}
use Rattle.us_gen_counting.specs.Phases.{column_of}
use Rattle.us_gen_counting.specs.Selected.{tests}
use Rattle.us_gen_counting.proofs.SelectRuns.{tests_few}
use Rattle.us_gen_counting.proofs.selecting.select_list.Goals as goal

pub push_both-requires : goal.push_both-requires
push_both-requires c =
    let ts : List Test = tests c.args.columns.now (map query_of c.args.head.now) c.args.conds.now c.args.part c.args.next in
    let few : length ts ≤ length c.args.conds.now = tests_few (λ v. column_of (map query_of c.args.head.now) v c.args.next c.args.columns.now.i) c.args.conds.now c.args.part in
    let is : length c.deref.result.now ≡ length ts = ap (λ (xs : List Test). length xs) (c.deref.ensures.value ∙ (c.in_ok-push_tests.ensures ∙ ap (λ (xs : List Test). xs ++ ts) c.new-tests.ensures.items)) in
    omega (arith, is, few, c.requires.room)
