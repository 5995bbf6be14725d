use Rattle.std.proofs.Common.{◌≡◌, ◌+◌, ◌++◌, [], ◌∷◌, List, get_or, pos, All, FitsSigned, map, take, ap, sym, ◌∙◌, subst}
use Rattle.std.specs.Int.{w64}
use Rattle.std.proofs.lemmas.List.{take_more, map-append}
use Rattle.std.proofs.lemmas.List.Elements.{All-nil, All-push}
use Rattle.us_matrix.specs.declared.matrix.Triple.{Triple}
use Rattle.us_climb.specs.declared.found.Found.{Found}
use Rattle.us_check.proofs.collecting.triples_of.Goals as goal

pub loop-f-init : goal.loop-f-init
loop-f-init c = (c.new-triples.ensures.items, subst (λ (l : List Triple). All (λ (t : Triple). FitsSigned w64 t.v) l) (sym c.new-triples.ensures.items) (All-nil (λ (t : Triple). FitsSigned w64 t.v)))

pub loop-f-preserved : goal.loop-f-preserved
loop-f-preserved c =
    let found : List Found = c.args.found.now in
    let none : Found = record { position = record { part = 0; x = 0 }; triple = record { i = 0; j = 0; v = pos 0 } } in
    let f : Found = get_or found c.loop-f.f-index none in
    let pushed : c.push.new.self.items ≡ c.loop-f.triples.items ++ c.triple_of.result ∷ [] = c.in_ok-push.ensures.items in
    let is : map (λ (f : Found). f.triple) (take (c.loop-f.f-index + 1) found) ≡ map (λ (f : Found). f.triple) (take c.loop-f.f-index found) ++ f.triple ∷ [] =
    ap (map (λ (f : Found). f.triple)) (take_more found c.loop-f.f-index none c.loop-f-test.true) ∙ map-append (λ (f : Found). f.triple) (take c.loop-f.f-index found) (f ∷ []) in (
      pushed
          ∙ ap (λ (t : Triple). c.loop-f.triples.items ++ t ∷ []) c.triple_of.ensures.is
          ∙ ap (λ (l : List Triple). l ++ f.triple ∷ []) c.loop-f.invariant.0
          ∙ sym is,
      subst (λ (l : List Triple). All (λ (t : Triple). FitsSigned w64 t.v) l) (sym pushed)
          (All-push (λ (t : Triple). FitsSigned w64 t.v) c.loop-f.triples.items c.triple_of.result c.loop-f.invariant.1 c.triple_of.ensures.fits),
    )
