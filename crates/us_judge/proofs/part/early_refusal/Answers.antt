use Rattle.std.proofs.Common.{[], ◌∷◌, map, ap, ◌∙◌}
use Rattle.std.specs.Prelude.{None}
use Rattle.us_format.specs.Declaration.{query_of}
use Rattle.us_judge.specs.Acceptance.{bad_count, bad_name, bad_argument, bad_lanes, bad_sum, bad_whole, bad_number, bad_merge, bad_order}
use Rattle.us_judge.specs.Views.{plain_part}
use Rattle.us_judge.proofs.Verdicts.{run-is, next}
use Rattle.us_judge.proofs.part.early_refusal.Goals as goal

pub returns : goal.returns
returns c =
    let p = plain_part c.args.part.now in
    let e1 = next _ _ _ 1 _ _ c.on.ensures c.bad_count.ensures c.rule.ensures in
    let e2 = next _ _ _ 2 _ _ e1 c.bad_name.ensures c.rule-2.ensures in
    let e3 = next _ _ _ 3 _ _ e2 (c.bad_argument.ensures ∙ ap (λ qs. bad_argument (map query_of qs)) c.as_slice-queries.ensures) c.rule-3.ensures in
    let e4 = next _ _ _ 4 _ _ e3 (c.bad_lanes.ensures ∙ ap (λ qs. bad_lanes (map query_of qs)) c.as_slice-queries.ensures) c.rule-4.ensures in
    let e5 = next _ _ _ 5 _ _ e4 c.bad_sum.ensures c.rule-5.ensures in
    let e6 = next _ _ _ 6 _ _ e5 c.bad_whole.ensures c.rule-6.ensures in
    let e7 = next _ _ _ 7 _ _ e6 c.bad_number.ensures c.rule-7.ensures in
    let e8 = next _ _ _ 8 _ _ e7 c.bad_merge.ensures c.rule-8.ensures in
    let e9 = next _ _ _ 9 _ _ e8 c.bad_order.ensures c.rule-verdict.ensures in
    ap (λ v. v.refusal) e9
    ∙ run-is (record { part = c.args.number; refusal = None })
    ((1, bad_count p) ∷ (2, bad_name p) ∷ (3, bad_argument p.queries) ∷ (4, bad_lanes p.queries) ∷ (5, bad_sum p) ∷ (6, bad_whole p) ∷ (7, bad_number p) ∷ (8, bad_merge p) ∷ (9, bad_order p) ∷ [])
