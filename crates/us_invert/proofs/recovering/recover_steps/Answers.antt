use Rattle.std.proofs.Common.{Some, pos, ap₂, w64, SFits, rules, ◌≡◌, ◌<◌, ◌+◌, ℕ, ℤ, List, ◌++◌, ◌∷◌, [], map, length, get_or, ap, refl, sym, subst, ◌∙◌, arith}
use Rattle.std.proofs.lemmas.Int.{to_z-of_z}
use Rattle.std.proofs.lemmas.List.{length-map, get_or-map}
use Rattle.us_expr.specs.declared.expression.Expr.{Expr}
use Rattle.us_expr.specs.Tree.{Tree, tree, RowIndex}
use Rattle.us_expr.specs.Range.{range, IsRangeable}
use Rattle.us_known.specs.Table.{tree_at}
use Rattle.us_invert.specs.Plan.{step_at, IsEarlier, IsSuited}
use Rattle.us_invert.specs.Recovery.{found_of, IsLevelStep}
use Rattle.us_invert.proofs.Walking.{IsOnWay, way-start, way-none, way-next, way-end, rangeable-at, level-at}
use Rattle.us_invert.proofs.recovering.recover_steps.Goals as goal

-- the expression of a step, as a tree
expr-at : (exprs : List Expr) (n : ℕ) (e : Expr) → n < length exprs → e ≡ get_or exprs n e → tree e ≡ tree_at (map tree exprs) n
expr-at exprs n e l at = ap tree at ∙ sym (get_or-map tree exprs n e RowIndex l)

pub loop-n-init : goal.loop-n-init
loop-n-init c = way-start (map tree c.args.exprs.now) c.args.steps.now c.args.rows_at c.args.cols_at c.args.ranges.now.shape_rows c.args.ranges.now.shape_cols c.args.ranges.now.vars.items
    (found_of c.args.values.now c.args.tables.now.buffers.now c.args.tables.now.at.items c.args.tables.now.extents.items) c.requires.plan c.clear.new.self.items c.clear.ensures

pub loop-n-preserved : goal.loop-n-preserved
loop-n-preserved c =
    let below : c.loop-n.n < length (map tree c.args.exprs.now) = omega (arith, c.requires.plan.steps_are.same_length, c.loop-n-test.true) in
    let expr : tree c.index-exprs-n.result ≡ tree_at (map tree c.args.exprs.now) c.loop-n.n = expr-at c.args.exprs.now c.loop-n.n c.index-exprs-n.result (omega (arith, below, length-map c.args.exprs.now tree)) c.index-exprs-n.is in
    let fits : SFits w64 c.in-Some.value = search rules in
    subst (λ (zs : List ℤ). IsOnWay (map tree c.args.exprs.now) c.args.steps.now c.args.ranges.now.shape_rows c.args.ranges.now.shape_cols c.args.ranges.now.vars.items (found_of c.args.values.now c.args.tables.now.buffers.now c.args.tables.now.at.items c.args.tables.now.extents.items) (c.loop-n.n + 1) zs)
    (sym (c.push.ensures.items ∙ ap (λ (z : ℤ). c.loop-n.kept.items ++ z ∷ []) (to_z-of_z w64 c.in-Some.value fits)))
    (way-next (map tree c.args.exprs.now) c.args.steps.now c.args.rows_at c.args.cols_at c.args.ranges.now.shape_rows c.args.ranges.now.shape_cols c.args.ranges.now.vars.items
    (found_of c.args.values.now c.args.tables.now.buffers.now c.args.tables.now.at.items c.args.tables.now.extents.items) c.requires.plan
    c.loop-n.n c.loop-n.kept.items c.as_slice.result.now (tree c.index-exprs-n.result) c.next-value.result c.loop-n.invariant below expr c.as_slice.ensures.value c.next-value.ensures c.args.values.now c.in-Some.value c.in-Some.is refl c.requires.rows c.requires.cols
    (level-at (map tree c.args.exprs.now) c.args.steps.now c.args.rows_at c.args.cols_at c.args.ranges.now.shape_rows c.args.ranges.now.shape_cols c.args.ranges.now.vars.items
    (found_of c.args.values.now c.args.tables.now.buffers.now c.args.tables.now.at.items c.args.tables.now.extents.items) c.requires.plan c.args.values.now c.loop-n.n below c.requires.coordinates))

pub next-value-requires-clause-rangeable : goal.next-value-requires-clause-rangeable
next-value-requires-clause-rangeable c =
    let below : c.loop-n.n < length (map tree c.args.exprs.now) = omega (arith, c.requires.plan.steps_are.same_length, c.loop-n-test.true) in
    let expr : tree c.index-exprs-n.result ≡ tree_at (map tree c.args.exprs.now) c.loop-n.n = expr-at c.args.exprs.now c.loop-n.n c.index-exprs-n.result (omega (arith, below, length-map c.args.exprs.now tree)) c.index-exprs-n.is in
    subst (λ (t : Tree). IsRangeable c.args.ranges.now.vars.items t) (sym expr) (rangeable-at (map tree c.args.exprs.now) c.args.steps.now c.args.rows_at c.args.cols_at c.args.ranges.now.shape_rows c.args.ranges.now.shape_cols c.args.ranges.now.vars.items
    (found_of c.args.values.now c.args.tables.now.buffers.now c.args.tables.now.at.items c.args.tables.now.extents.items) c.requires.plan c.loop-n.n below c.requires.rangeable)

pub next-value-requires-clause-level : goal.next-value-requires-clause-level
next-value-requires-clause-level c =
    let below : c.loop-n.n < length (map tree c.args.exprs.now) = omega (arith, c.requires.plan.steps_are.same_length, c.loop-n-test.true) in
    let expr : tree c.index-exprs-n.result ≡ tree_at (map tree c.args.exprs.now) c.loop-n.n = expr-at c.args.exprs.now c.loop-n.n c.index-exprs-n.result (omega (arith, below, length-map c.args.exprs.now tree)) c.index-exprs-n.is in
    subst (λ (t : Tree). IsLevelStep c.args.values.now (range c.args.ranges.now.shape_rows c.args.ranges.now.shape_cols c.args.ranges.now.vars.items t) (step_at c.args.steps.now c.loop-n.n)) (sym expr)
    (level-at (map tree c.args.exprs.now) c.args.steps.now c.args.rows_at c.args.cols_at c.args.ranges.now.shape_rows c.args.ranges.now.shape_cols c.args.ranges.now.vars.items
    (found_of c.args.values.now c.args.tables.now.buffers.now c.args.tables.now.at.items c.args.tables.now.extents.items) c.requires.plan c.args.values.now c.loop-n.n below c.requires.coordinates)

pub next-value-requires-clause-earlier : goal.next-value-requires-clause-earlier
next-value-requires-clause-earlier c =
    let below : c.loop-n.n < length (map tree c.args.exprs.now) = omega (arith, c.requires.plan.steps_are.same_length, c.loop-n-test.true) in
    subst (λ (k : ℕ). IsEarlier k (step_at c.args.steps.now c.loop-n.n)) (sym (ap (λ (xs : List ℤ). length xs) c.as_slice.ensures.value ∙ c.loop-n.invariant.count)) (c.requires.plan.steps_are.earlier c.loop-n.n below)

pub next-value-requires-clause-suited : goal.next-value-requires-clause-suited
next-value-requires-clause-suited c =
    let below : c.loop-n.n < length (map tree c.args.exprs.now) = omega (arith, c.requires.plan.steps_are.same_length, c.loop-n-test.true) in
    let expr : tree c.index-exprs-n.result ≡ tree_at (map tree c.args.exprs.now) c.loop-n.n = expr-at c.args.exprs.now c.loop-n.n c.index-exprs-n.result (omega (arith, below, length-map c.args.exprs.now tree)) c.index-exprs-n.is in
    subst (λ (t : Tree). IsSuited t (step_at c.args.steps.now c.loop-n.n)) (sym expr) (c.requires.plan.steps_are.suited c.loop-n.n below)

pub push-requires : goal.push-requires
push-requires c =
    let below : c.loop-n.n < length (map tree c.args.exprs.now) = omega (arith, c.requires.plan.steps_are.same_length, c.loop-n-test.true) in
    (omega arith, omega (arith, below, c.loop-n.invariant.count, c.requires.plan.few))

pub returns-in_default : goal.returns-in_default
returns-in_default c =
    let below : c.loop-n.n < length (map tree c.args.exprs.now) = omega (arith, c.requires.plan.steps_are.same_length, c.loop-n-test.true) in
    let expr : tree c.index-exprs-n.result ≡ tree_at (map tree c.args.exprs.now) c.loop-n.n = expr-at c.args.exprs.now c.loop-n.n c.index-exprs-n.result (omega (arith, below, length-map c.args.exprs.now tree)) c.index-exprs-n.is in
    way-none (map tree c.args.exprs.now) c.args.steps.now c.args.rows_at c.args.cols_at c.args.ranges.now.shape_rows c.args.ranges.now.shape_cols c.args.ranges.now.vars.items
    (found_of c.args.values.now c.args.tables.now.buffers.now c.args.tables.now.at.items c.args.tables.now.extents.items) c.requires.plan
    c.loop-n.n c.loop-n.kept.items c.as_slice.result.now (tree c.index-exprs-n.result) c.next-value.result c.loop-n.invariant below expr c.as_slice.ensures.value c.next-value.ensures c.in_default.not-Some

pub returns : goal.returns
returns c s p h =
    let end : c.loop-n.n ≡ length (map tree c.args.exprs.now) = omega (arith, c.requires.plan.steps_are.same_length, c.loop-n-test.false, c.loop-n.auto.n-end) in
    let row-fits : SFits w64 (get_or c.as_slice-kept.result.now c.args.rows_at (pos 0)) = search rules in
    let col-fits : SFits w64 (get_or c.as_slice-kept.result.now c.args.cols_at (pos 0)) = search rules in
    ap₂ (λ (a b : ℤ). Some (a, b)) (c.index.ensures ∙ to_z-of_z w64 _ row-fits ∙ ap (λ (zs : List ℤ). get_or zs c.args.rows_at (pos 0)) c.as_slice-kept.ensures.value)
    (c.index-2.ensures ∙ to_z-of_z w64 _ col-fits ∙ ap (λ (zs : List ℤ). get_or zs c.args.cols_at (pos 0)) c.as_slice-kept.ensures.value)
    ∙ way-end (map tree c.args.exprs.now) c.args.steps.now c.args.rows_at c.args.cols_at c.args.ranges.now.shape_rows c.args.ranges.now.shape_cols c.args.ranges.now.vars.items
    (found_of c.args.values.now c.args.tables.now.buffers.now c.args.tables.now.at.items c.args.tables.now.extents.items) c.requires.plan c.loop-n.n c.loop-n.kept.items c.loop-n.invariant end s p h
