use Rattle.std.proofs.Common.{◌≡◌, ℕ, List, length, subst, sym, ap, arith, All}
use Rattle.std.proofs.lemmas.List.{length-map}
use Rattle.us_known.specs.declared.rules.Rule.{Rule}
use Rattle.us_known.specs.Rules.{IsRuleBelow}
use Rattle.us_known.specs.Flags.{is_number}
use Rattle.us_known.proofs.KnownFlags.{rules-below}
use Rattle.us_known.proofs.known_set.known_flags.Goals as goal

pub saturate-requires : goal.saturate-requires
saturate-requires c =
    let same : length c.args.nodes.now ≡ length c.deref_mut-2.result.now =
    omega (arith, c.deref_mut-2.ensures.len, c.in_ok-flags.flags.ok.0, ap length c.in_ok-flags.ensures, length-map c.args.nodes.now is_number) in
    subst (λ (l : List Rule). All (IsRuleBelow (length c.deref_mut-2.result.now)) l) (sym c.deref.ensures.value)
    (subst (λ (n : ℕ). All (IsRuleBelow n) c.in_ok-rules.rules.items) same (rules-below c.args.nodes.now c.requires c.args.queries.now c.in_ok-rules.rules.items c.in_ok-rules.ensures))
