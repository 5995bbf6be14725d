use Rattle.std.proofs.Common.{◌≡◌, ℕ, arith, ◌∙◌, sym, ap, length, get_or, List, ℤ, [], ◌∷◌, ◌+◌, add-one}
use Rattle.std.specs.Prelude.{slice_set}
use Rattle.us_raw.specs.Plan.{zero_lists}
use Rattle.us_machine.proofs.PlanOfSources.{is_plan, zeros_long}
use Rattle.us_machine.proofs.Splices.{splice_set, splice_rest, zeros_of}
use Rattle.us_machine.proofs.starting.source_region.Goals as goal

pub new-requires : goal.new-requires
new-requires c = is_plan c.args.source.now c.args.plan.now c.requires.sources c.requires.plan

pub write_list-requires-clause-long : goal.write_list-requires-clause-long
write_list-requires-clause-long c =
    let k = c.loop-k.k in
    let z = zeros_long c.args.plan.now in
    ap (λ (xs : List (List ℤ)). length (get_or xs (k + 1) [])) c.loop-k.invariant.lists
    ∙ (ap (λ (xs : List ℤ). length xs) (splice_rest (k + 1) ([] ∷ c.args.source.now) (zero_lists c.args.plan.now) [] (omega (arith, c.count-k-end.ensures)) (omega (arith, z, c.requires.plan.long, c.count-k-end.ensures)))
    ∙ (zeros_of c.args.plan.now (k + 1)
    ∙ (c.requires.plan.lens k (omega (arith, c.count-k-end.ensures)) ∙ sym (ap (λ (xs : List ℤ). length xs) c.list.ensures))))

pub loop-k-preserved : goal.loop-k-preserved
loop-k-preserved c =
    let k = c.loop-k.k in
    let z = zeros_long c.args.plan.now in
    let v : c.list.result.now ≡ get_or ([] ∷ c.args.source.now) (k + 1) [] = c.list.ensures ∙ sym (ap (λ (j : ℕ). get_or ([] ∷ c.args.source.now) j []) (add-one k)) in
    record {
      lists = c.write_list.ensures.lists ∙ (ap (λ (xs : List (List ℤ)). slice_set xs (k + 1) c.list.result.now) c.loop-k.invariant.lists
          ∙ splice_set ([] ∷ c.args.source.now) (zero_lists c.args.plan.now) (k + 1) c.list.result.now [] (omega (arith, c.count-k-end.ensures)) (omega (arith, z, c.requires.plan.long, c.count-k-end.ensures)) v);
      widths = c.write_list.ensures.widths ∙ c.loop-k.invariant.widths;
    }
