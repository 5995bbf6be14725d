use Rattle.std.proofs.Common.{length, map, ap, subst, ◌∙◌, arith, IfSome}
use Rattle.std.proofs.lemmas.List.{length-map}
use Rattle.std.proofs.lemmas.Result.{IfOk-weaker}
use Rattle.us_outside.specs.Files.{content_of}
use Rattle.us_status.specs.Answers.{IsStep}
use Rattle.us_inputs.specs.Steps.{named_in}
use Rattle.us_inputs.specs.Views.{formats_of}
use Rattle.us_inputs.proofs.FindingLemmas.{few_hops}
use Rattle.us_inputs.proofs.finding.read_chain.Goals as goal

pub read_formats-requires : goal.read_formats-requires
read_formats-requires g c =
    omega (arith, few_hops c.args.chain.now c.requires, ap length c.in_ok-names.ensures, ap length c.deref.ensures.value, length-map c.in_ok-names.names.items (λ n. n.now))

pub returns-clause-plain : goal.returns-clause-plain
returns-clause-plain g c =
    let names = ap (map (λ n. n.now)) c.deref.ensures.value ∙ c.in_ok-names.ensures in
    subst (λ ns. IfSome (g.O.Outside.files c.args.outside.now) (λ fs. IsStep (named_in (content_of fs c.args.name.now) ns) (formats_of c.read_formats.result))) names c.read_formats.ensures.plain

pub returns-clause-few : goal.returns-clause-few
returns-clause-few g c =
    IfOk-weaker c.read_formats.result _ _
    (λ v e. omega (arith, e, few_hops c.args.chain.now c.requires, ap length c.in_ok-names.ensures, ap length c.deref.ensures.value, length-map c.in_ok-names.names.items (λ n. n.now)))
    c.read_formats.ensures.count
