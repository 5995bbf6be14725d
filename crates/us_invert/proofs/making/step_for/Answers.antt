use Rattle.std.proofs.Common.{◌≡◌, ℕ, List, true, false, map, sym, ◌∙◌, subst, Option, Some, None}
use Rattle.us_format.specs.Declaration.{query_of}
use Rattle.us_format.specs.Known.{rule}
use Rattle.us_known.specs.Table.{tree_at, trees}
use Rattle.us_invert.specs.Sources.{has_step, IsGiven}
use Rattle.us_invert.proofs.Adding.{step-old, step-none, step-making, step-steps}
use Rattle.us_invert.proofs.making.step_for.Goals as goal

pub returns-then-has_step-clause-steps : goal.returns-then-has_step-clause-steps
returns-then-has_step-clause-steps c =
    step-old c.args.nodes.now c.requires.table c.args.making.now c.requires.making (map query_of c.args.queries.now) c.args.e c.requires.node
    (subst (λ (l : List (Option ℕ)). has_step l c.args.e ≡ true) c.deref.ensures.value (sym c.has_step.ensures ∙ c.if-has_step.true))

pub returns-in_ok-add_step-in-Some-clause-making : goal.returns-in_ok-add_step-in-Some-clause-making
returns-in_ok-add_step-in-Some-clause-making c =
    step-making c.args.nodes.now c.requires.table c.args.making.now c.requires.making (map query_of c.args.queries.now) c.args.e c.requires.node c.add_step.new.making c.in-Some.source
    (subst (λ (l : List (Option ℕ)). has_step l c.args.e ≡ false) c.deref.ensures.value (sym c.has_step.ensures ∙ c.if-has_step.false))
    (subst (λ (l : List (Option ℕ)). IsGiven c.args.nodes.now l (λ k. rule (trees c.args.nodes.now) (map query_of c.args.queries.now) k (tree_at (trees c.args.nodes.now) c.args.e)) (Some c.in-Some.source)) c.deref-2.ensures.value c.in-Some.ensures)
    c.in_ok-add_step-in-Some.ensures

pub returns-in_ok-add_step-in-Some-clause-steps : goal.returns-in_ok-add_step-in-Some-clause-steps
returns-in_ok-add_step-in-Some-clause-steps c =
    step-steps c.args.nodes.now c.requires.table c.args.making.now c.requires.making (map query_of c.args.queries.now) c.args.e c.requires.node c.add_step.new.making c.in-Some.source
    (subst (λ (l : List (Option ℕ)). has_step l c.args.e ≡ false) c.deref.ensures.value (sym c.has_step.ensures ∙ c.if-has_step.false))
    (subst (λ (l : List (Option ℕ)). IsGiven c.args.nodes.now l (λ k. rule (trees c.args.nodes.now) (map query_of c.args.queries.now) k (tree_at (trees c.args.nodes.now) c.args.e)) (Some c.in-Some.source)) c.deref-2.ensures.value c.in-Some.ensures)
    c.in_ok-add_step-in-Some.ensures

pub returns-in-None-clause-steps : goal.returns-in-None-clause-steps
returns-in-None-clause-steps c =
    step-none c.args.nodes.now c.requires.table c.args.making.now c.requires.making (map query_of c.args.queries.now) c.args.e c.requires.node
    (subst (λ (l : List (Option ℕ)). has_step l c.args.e ≡ false) c.deref.ensures.value (sym c.has_step.ensures ∙ c.if-has_step.false))
    (subst (λ (l : List (Option ℕ)). IsGiven c.args.nodes.now l (λ k. rule (trees c.args.nodes.now) (map query_of c.args.queries.now) k (tree_at (trees c.args.nodes.now) c.args.e)) None) c.deref-2.ensures.value c.in-None.ensures)
