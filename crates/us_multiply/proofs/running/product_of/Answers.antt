use Rattle.std.proofs.Common.{◌≡◌, ℕ, List, [], ◌∷◌, ◌++◌, length, ℤ, ap, ap₂, ◌*◌, sym, subst, ◌∙◌, arith}
use Rattle.us_matrix.specs.Grid.{Grid}
use Rattle.us_format.specs.Lists.{nth}
use Rattle.us_format.specs.Program.{shape_in, entries_in}
use Rattle.us_code.specs.Plain.{program_tree}
use Rattle.us_gen_product.specs.Dense.{IsDense}
use Rattle.us_multiply.specs.Running.{Ends, IsRunOf}
use Rattle.us_multiply.proofs.Factors.{right-ends}
use Rattle.us_multiply.proofs.Results.{IsProduct, is-product}
use Rattle.us_multiply.proofs.running.product_of.Goals as goal

pub run_to_end-requires-clause-ends : goal.run_to_end-requires-clause-ends
run_to_end-requires-clause-ends c =
    subst (λ (xs : List (List ℤ)). Ends (program_tree c.args.code.now) xs) (sym c.in_ok-sources.ensures.are)
    (right-ends (program_tree c.args.code.now) c.args.held.now c.args.x.now c.requires.right c.in_ok-sources.ensures.factors c.requires.few_factors c.requires.few)

pub list-requires : goal.list-requires
list-requires c =
    let made : IsProduct c.args.held.now c.args.x.now c.in_ok-buffers.field-0.buffers =
    is-product (program_tree c.args.code.now) c.args.held.now c.args.x.now c.in_ok-buffers.field-0.buffers c.in_ok-buffers.field-0.steps c.requires.right c.in_ok-sources.ensures.factors c.requires.few_factors c.requires.few
    (subst (λ (xs : List (List ℤ)). IsRunOf (program_tree c.args.code.now) xs c.in_ok-buffers.field-0.buffers c.in_ok-buffers.field-0.steps) c.in_ok-sources.ensures.are c.in_ok-buffers.ensures) in
    omega (arith, ap (λ (xs : List (List ℤ)). length xs) made.one)

pub new-requires : goal.new-requires
new-requires c =
    let made : IsProduct c.args.held.now c.args.x.now c.in_ok-buffers.field-0.buffers =
    is-product (program_tree c.args.code.now) c.args.held.now c.args.x.now c.in_ok-buffers.field-0.buffers c.in_ok-buffers.field-0.steps c.requires.right c.in_ok-sources.ensures.factors c.requires.few_factors c.requires.few
    (subst (λ (xs : List (List ℤ)). IsRunOf (program_tree c.args.code.now) xs c.in_ok-buffers.field-0.buffers c.in_ok-buffers.field-0.steps) c.in_ok-sources.ensures.are c.in_ok-buffers.ensures) in
    let same : c.in_ok-cells.cells.items ≡ nth c.in_ok-buffers.field-0.buffers 0 = c.in_ok-cells.ensures.items_if_clones_equal (λ x y h. h) ∙ c.list.ensures in
    ap (λ (xs : List ℤ). length xs) same ∙ (made.dense.long ∙ sym (ap₂ (λ (a b : ℕ). a * b) c.shape-rows.ensures.0 c.cols.ensures))

pub returns-clause-run : goal.returns-clause-run
returns-clause-run c =
    let run : IsRunOf (program_tree c.args.code.now) (c.args.held.now.buffers ++ c.args.x.now.cells ∷ []) c.in_ok-buffers.field-0.buffers c.in_ok-buffers.field-0.steps =
    subst (λ (xs : List (List ℤ)). IsRunOf (program_tree c.args.code.now) xs c.in_ok-buffers.field-0.buffers c.in_ok-buffers.field-0.steps) c.in_ok-sources.ensures.are c.in_ok-buffers.ensures in
    let made : IsProduct c.args.held.now c.args.x.now c.in_ok-buffers.field-0.buffers =
    is-product (program_tree c.args.code.now) c.args.held.now c.args.x.now c.in_ok-buffers.field-0.buffers c.in_ok-buffers.field-0.steps c.requires.right c.in_ok-sources.ensures.factors c.requires.few_factors c.requires.few run in
    let same : c.in_ok-cells.cells.items ≡ nth c.in_ok-buffers.field-0.buffers 0 = c.in_ok-cells.ensures.items_if_clones_equal (λ x y h. h) ∙ c.list.ensures in
    let cells : c.new.result.cells ≡ nth c.in_ok-buffers.field-0.buffers 0 = ap (λ (g : Grid). g.cells) c.new.ensures ∙ same in
    subst (λ (ls : List (List ℤ)). IsRunOf (program_tree c.args.code.now) (c.args.held.now.buffers ++ c.args.x.now.cells ∷ []) ls c.in_ok-buffers.field-0.steps) (made.one ∙ ap (λ (xs : List ℤ). xs ∷ []) (sym cells)) run

pub returns-clause-dense : goal.returns-clause-dense
returns-clause-dense c =
    let made : IsProduct c.args.held.now c.args.x.now c.in_ok-buffers.field-0.buffers =
    is-product (program_tree c.args.code.now) c.args.held.now c.args.x.now c.in_ok-buffers.field-0.buffers c.in_ok-buffers.field-0.steps c.requires.right c.in_ok-sources.ensures.factors c.requires.few_factors c.requires.few
    (subst (λ (xs : List (List ℤ)). IsRunOf (program_tree c.args.code.now) xs c.in_ok-buffers.field-0.buffers c.in_ok-buffers.field-0.steps) c.in_ok-sources.ensures.are c.in_ok-buffers.ensures) in
    let same : c.in_ok-cells.cells.items ≡ nth c.in_ok-buffers.field-0.buffers 0 = c.in_ok-cells.ensures.items_if_clones_equal (λ x y h. h) ∙ c.list.ensures in
    let cells : c.new.result.cells ≡ nth c.in_ok-buffers.field-0.buffers 0 = ap (λ (g : Grid). g.cells) c.new.ensures ∙ same in
    subst (λ (ys : List ℤ). IsDense (shape_in c.args.held.now.matrix) (entries_in c.args.held.now.matrix) c.args.x.now.cols c.args.x.now.cells ys) (sym cells) made.dense
