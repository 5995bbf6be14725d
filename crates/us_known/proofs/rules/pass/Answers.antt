use Rattle.std.proofs.Common.{◌≡◌, Bool, ℕ, ◌+◌, length, get_or, sym, subst}
use Rattle.std.proofs.lemmas.List.{get_or_default}
use Rattle.us_known.specs.declared.rules.Rule.{Rule}
use Rattle.us_known.specs.Rules.{IsRuleBelow}
use Rattle.us_known.proofs.Passing.{IsPassed, pass-applied, pass-idle}
use Rattle.us_known.proofs.rules.pass.Goals as goal
use Rattle.us_known.proofs.rules.pass.Goals.{then-apply, else-apply}

pub loop-rule-preserved : goal.loop-rule-preserved
loop-rule-preserved c =
    let d : Rule = record { first = 0; second = 0; gives = 0 } in
    let r : Rule = get_or c.args.rules.now c.loop-rule.rule-index d in
    let at : r ≡ get_or c.args.rules.now c.loop-rule.rule-index r = get_or_default c.args.rules.now c.loop-rule.rule-index d r c.loop-rule-test.true in
    let below : IsRuleBelow (length c.loop-rule.known) r =
    subst (λ (n : ℕ). IsRuleBelow n r) (sym c.loop-rule.auto.known) (c.requires c.loop-rule.rule-index d c.loop-rule-test.true) in
    elim c.if-apply.branch [
      | then-apply w ↦
          subst (λ (b : Bool). IsPassed c.args.rules.now (c.loop-rule.rule-index + 1) c.args.known.now c.apply.new.known b) (sym w.changed-is)
          (pass-applied c.args.rules.now c.loop-rule.rule-index c.args.known.now c.loop-rule.known c.apply.new.known c.loop-rule.changed r c.loop-rule.invariant c.loop-rule-test.true at below (c.apply.ensures.applied w.if-apply.true))
      | else-apply w ↦
          subst (λ (b : Bool). IsPassed c.args.rules.now (c.loop-rule.rule-index + 1) c.args.known.now c.apply.new.known b) (sym w.changed-is)
          (pass-idle c.args.rules.now c.loop-rule.rule-index c.args.known.now c.loop-rule.known c.apply.new.known c.loop-rule.changed r c.loop-rule.invariant c.loop-rule-test.true at (c.apply.ensures.idle w.if-apply.false))
    ]
