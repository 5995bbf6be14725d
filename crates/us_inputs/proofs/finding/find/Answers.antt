use Rattle.std.proofs.Common.{◌<◌, List, length, get_or, Some, sym, ap, subst, ◌∙◌, arith}
use Rattle.std.proofs.lemmas.Option.{get_or_from_slice_get}
use Rattle.us_decl.specs.declared.decl.Decl.{Decl}
use Rattle.us_decl.specs.Declares.{IsValid}
use Rattle.us_decl.specs.Views.{decl_view, decl_names}
use Rattle.us_decl.specs.Names.{number_of}
use Rattle.us_inputs.proofs.FindingLemmas.{none_found, some_found}
use Rattle.us_inputs.proofs.finding.find.Goals as goal

pub returns-in-Some-clause-found : goal.returns-in-Some-clause-found
returns-in-Some-clause-found c =
    let ds : List Decl = c.args.library.now in
    let below : number_of c.args.name.now (decl_names ds) < length ds = omega (arith, c.in-Some.ensures.0, c.in-Some.ensures.1) in
    some_found c.args.name.now ds c.at.result.now below
    ∙ ap (λ k. Some (decl_view (get_or ds k c.at.result.now))) (sym c.in-Some.ensures.0)
    ∙ ap (λ d. Some (decl_view d)) (get_or_from_slice_get ds c.in-Some.place c.at.result.now c.at.result.now c.at.ensures)

pub returns-in-Some-clause-valid : goal.returns-in-Some-clause-valid
returns-in-Some-clause-valid c =
    let ds : List Decl = c.args.library.now in
    subst (λ (d : Decl). IsValid (decl_view d)) (get_or_from_slice_get ds c.in-Some.place c.at.result.now c.at.result.now c.at.ensures) (c.requires c.in-Some.place c.at.result.now c.in-Some.ensures.1)

pub returns-in-None-clause-found : goal.returns-in-None-clause-found
returns-in-None-clause-found c = none_found c.args.name.now c.args.library.now c.in-None.ensures
