use Rattle.std.proofs.Common.{◌≡◌, rules, ◌+◌, ◌-◌, [], ◌∷◌, ◌++◌, map, length, take, drop, length-drop, arith}
use Rattle.std.specs.Prelude.{IfOk}
use Rattle.std.proofs.lemmas.List.{length-take, map-append}
use Rattle.us_code.specs.Plain.{End, Let, term_tree, tree_of, ◌+++◌}
use Rattle.us_invert.specs.declared.steps.PlanStep.{PlanStep}
use Rattle.us_invert.specs.Plan.{step_at}
use Rattle.us_gen_recover.specs.Recovery.{Value, names, step_term, work_tree, work, recovery}
use Rattle.us_gen_recover.proofs.Building.{value_done, value_first, first_rest}
use Rattle.us_gen_recover.proofs.straight.+behind.Goals as goal

pub behind-requires : goal.behind-requires
behind-requires t c =
    let some = c.in-len1-up.len_at_least in
    let bound = c.requires in
    let measure = c.decreases in
    let few = c.names.ensures.few in
    (omega (arith, length-take {A = PlanStep}, length-drop {A = PlanStep}), omega (arith, length-take {A = PlanStep}, length-drop {A = PlanStep}))

pub behind-requires-in-Value : goal.behind-requires-in-Value
behind-requires-in-Value t c =
    let some = c.in-len1-up.len_at_least in
    let bound = c.requires in
    let measure = c.decreases in
    let few = c.names.ensures.few in
    (omega (arith, length-take {A = PlanStep}, length-drop {A = PlanStep}), omega (arith, length-take {A = PlanStep}, length-drop {A = PlanStep}))

pub behind-requires-in-Cell : goal.behind-requires-in-Cell
behind-requires-in-Cell t c =
    let some = c.in-len1-up.len_at_least in
    let bound = c.requires in
    let measure = c.decreases in
    let few = c.names.ensures.few in
    (omega (arith, length-take {A = PlanStep}, length-drop {A = PlanStep}), omega (arith, length-take {A = PlanStep}, length-drop {A = PlanStep}))

pub returns-in_ok-push-in-Value : goal.returns-in_ok-push-in-Value
returns-in_ok-push-in-Value t c =
    let steps = c.args.steps.now in
    let rest = take (length steps - 1) (drop 1 steps) in
    let known = map term_tree c.args.known.now.items in
    let more = map term_tree c.push.new.self.items in
    let value = term_tree c.in-Value.value in
    let others = recovery c.args.levels.now c.args.tables.now rest more (c.args.next + c.names.result) (tree_of c.args.inner) in
    let some = c.in-len1-up.len_at_least in
    let pushed : tree_of c.push-in-Value.new.self ≡ tree_of c.args.before +++ Let c.args.next value End = search rules in
    let made : work_tree c.in_ok-work-in-len1-up.work ≡ work c.args.tables.now (step_at steps 0) known = search rules in
    let is : work_tree c.in_ok-work-in-len1-up.work ≡ Value value = search rules in
    let cons : steps ≡ step_at steps 0 ∷ rest = first_rest steps (omega (arith, some)) in
    let one : more ≡ known ++ step_term c.args.levels.now (step_at steps 0) c.args.next ∷ [] = search (rules, map-append) in
    let next : c.args.next + c.names.result ≡ c.args.next + names (step_at steps 0) = search rules in
    let done : IfOk c.behind-in-Value.result (λ b. tree_of b ≡ tree_of c.args.before +++ Let c.args.next value others) =
    value_done c.behind-in-Value.result (tree_of c.args.before) (tree_of c.push-in-Value.new.self) others c.args.next value c.behind-in-Value.ensures pushed in
    value_first c.behind-in-Value.result c.args.levels.now c.args.tables.now steps rest (step_at steps 0) c.in_ok-work-in-len1-up.work value known more c.args.next (c.args.next + c.names.result) (tree_of c.args.before) (tree_of c.args.inner) made done is cons one next
