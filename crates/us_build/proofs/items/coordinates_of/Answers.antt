use Rattle.std.proofs.Common.{◌≡◌, ℤ, ◌<◌, ◌-ℤ◌, [], ◌∷◌, rules, FitsSigned, w64, get_or, pos, sym, ap, ap₂, subst, refl, ◌∙◌, arith}
use Rattle.std.proofs.lemmas.Int.{ints}
use Rattle.std.proofs.lemmas.List.{get_or-replicate}
use Rattle.us_expr.specs.Tree.{tree}
use Rattle.us_expr.specs.Value.{IsValid, value}
use Rattle.us_expr.specs.declared.expression.Expr.{Expr}
use Rattle.us_format.specs.declared.Kind.TheVariants.{Full}
use Rattle.us_format.specs.Lists.{nat_of}
use Rattle.us_build.specs.declared.levels.Level.{Level}
use Rattle.us_build.specs.Levels.{LiesInLevel}
use Rattle.us_build.proofs.Casts.{to_z-kept}
use Rattle.us_build.proofs.Offsets.{lies-at, offsets-end, offsets-next, offsets-none}
use Rattle.us_build.proofs.items.coordinates_of.Goals as goal

pub loop-k-init : goal.loop-k-init
loop-k-init c =
    offsets-none c.args.point.now.i c.args.point.now.j c.args.point.now.vars.items c.args.exprs.now c.args.levels.now c.requires.count c.requires.levels (0 ∷ 0 ∷ 0 ∷ 0 ∷ 0 ∷ 0 ∷ []) refl
    (λ x h. get_or-replicate 6 x 0 0 h)

pub eval-requires : goal.eval-requires
eval-requires c =
    let e : c.index-exprs-k.result ≡ get_or c.args.exprs.now c.loop-k.k c.index-exprs-k.result = c.index-exprs-k.is in
    record {
      valid = subst (λ (x : Expr). IsValid c.args.point.now.vars.items (tree x)) (sym e) (c.requires.valid c.loop-k.k c.index-exprs-k.result c.loop-k-test.true);
      point = c.requires.point;
    }

pub distance-requires-clause-order : goal.distance-requires-clause-order
distance-requires-clause-order c =
    let d : Level = record { kind = Full; low = pos 0; size = 0 } in
    let l : Level = get_or c.args.levels.now c.loop-k.k d in
    let h : FitsSigned w64 l.low = search rules in
    let g : FitsSigned w64 c.eval.result = search rules in
    let v : c.eval.result ≡ value c.args.point.now.i c.args.point.now.j c.args.point.now.vars.items (tree (get_or c.args.exprs.now c.loop-k.k c.index-exprs-k.result)) =
    c.eval.ensures ∙ ap (λ (x : Expr). value c.args.point.now.i c.args.point.now.j c.args.point.now.vars.items (tree x)) c.index-exprs-k.is in
    let lies : LiesInLevel (value c.args.point.now.i c.args.point.now.j c.args.point.now.vars.items (tree (get_or c.args.exprs.now c.loop-k.k c.index-exprs-k.result))) l =
    lies-at c.args.point.now.i c.args.point.now.j c.args.point.now.vars.items c.args.exprs.now c.args.levels.now c.loop-k.k c.index-exprs-k.result d c.loop-k-test.true c.requires.levels c.requires.lies in
    rw (to_z-kept l.low h, to_z-kept c.eval.result g, v) lies.low

pub distance-requires-clause-near : goal.distance-requires-clause-near
distance-requires-clause-near c =
    let d : Level = record { kind = Full; low = pos 0; size = 0 } in
    let l : Level = get_or c.args.levels.now c.loop-k.k d in
    let h : FitsSigned w64 l.low = search rules in
    let g : FitsSigned w64 c.eval.result = search rules in
    let v : c.eval.result ≡ value c.args.point.now.i c.args.point.now.j c.args.point.now.vars.items (tree (get_or c.args.exprs.now c.loop-k.k c.index-exprs-k.result)) =
    c.eval.ensures ∙ ap (λ (x : Expr). value c.args.point.now.i c.args.point.now.j c.args.point.now.vars.items (tree x)) c.index-exprs-k.is in
    let lies : LiesInLevel (value c.args.point.now.i c.args.point.now.j c.args.point.now.vars.items (tree (get_or c.args.exprs.now c.loop-k.k c.index-exprs-k.result))) l =
    lies-at c.args.point.now.i c.args.point.now.j c.args.point.now.vars.items c.args.exprs.now c.args.levels.now c.loop-k.k c.index-exprs-k.result d c.loop-k-test.true c.requires.levels c.requires.lies in
    let size : l.size < 274877906944 = c.requires.sizes c.loop-k.k d (omega (arith, c.requires.levels, c.loop-k-test.true)) in
    rw (to_z-kept l.low h, to_z-kept c.eval.result g, v) (omega (arith, ints, lies.high, size))

pub loop-k-preserved : goal.loop-k-preserved
loop-k-preserved c =
    let d : Level = record { kind = Full; low = pos 0; size = 0 } in
    let l : Level = get_or c.args.levels.now c.loop-k.k d in
    let h : FitsSigned w64 l.low = search rules in
    let g : FitsSigned w64 c.eval.result = search rules in
    let v : c.eval.result ≡ value c.args.point.now.i c.args.point.now.j c.args.point.now.vars.items (tree (get_or c.args.exprs.now c.loop-k.k c.index-exprs-k.result)) =
    c.eval.ensures ∙ ap (λ (x : Expr). value c.args.point.now.i c.args.point.now.j c.args.point.now.vars.items (tree x)) c.index-exprs-k.is in
    offsets-next c.args.point.now.i c.args.point.now.j c.args.point.now.vars.items c.args.exprs.now c.args.levels.now c.requires.count c.requires.levels c.loop-k.k c.loop-k.coordinates c.index-exprs-k.result d c.distance.result
    c.loop-k-test.true c.loop-k.invariant
    (c.distance.ensures ∙ ap₂ (λ (a b : ℤ). nat_of (a -ℤ b)) (to_z-kept c.eval.result g ∙ v) (to_z-kept l.low h))

pub returns : goal.returns
returns c = offsets-end c.args.point.now.i c.args.point.now.j c.args.point.now.vars.items c.args.exprs.now c.args.levels.now c.requires.count c.requires.levels c.loop-k.k c.loop-k.coordinates (omega arith) c.loop-k.invariant
