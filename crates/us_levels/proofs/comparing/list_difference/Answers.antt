use Rattle.std.proofs.Common.{◌≡◌, sym, ◌∙◌, arith, to_z, of_z, w64}
use Rattle.std.proofs.lemmas.Int.{to_z-of_z}
use Rattle.us_levels.proofs.Unlike.{ends-same, ends-unlike, same-common, same-more, unlike-here}
use Rattle.us_levels.proofs.comparing.list_difference.Goals as goal

pub loop-x-init : goal.loop-x-init
loop-x-init c = λ k l. absurd (omega (arith, l))

pub returns-then-not-is_equal : goal.returns-then-not-is_equal
returns-then-not-is_equal c =
    let a : to_z w64 (of_z w64 c.cell_at-old.result) ≡ c.cell_at-old.result = to_z-of_z w64 c.cell_at-old.result (record { sfits = c.cell_at-old.type_inv }) in
    let b : to_z w64 (of_z w64 c.cell_at-new.result) ≡ c.cell_at-new.result = to_z-of_z w64 c.cell_at-new.result (record { sfits = c.cell_at-new.type_inv }) in
    unlike-here c.args.buffer c.loop-x.x c.args.want.now c.args.have.now (to_z w64 (of_z w64 c.cell_at-old.result)) (to_z w64 (of_z w64 c.cell_at-new.result)) c.loop-x.invariant (omega arith) (omega arith)
    (a ∙ c.cell_at-old.ensures) (b ∙ c.cell_at-new.ensures) (sym c.is_equal.ensures ∙ c.if-not-is_equal.true)

pub loop-x-preserved : goal.loop-x-preserved
loop-x-preserved c =
    let a : to_z w64 (of_z w64 c.cell_at-old.result) ≡ c.cell_at-old.result = to_z-of_z w64 c.cell_at-old.result (record { sfits = c.cell_at-old.type_inv }) in
    let b : to_z w64 (of_z w64 c.cell_at-new.result) ≡ c.cell_at-new.result = to_z-of_z w64 c.cell_at-new.result (record { sfits = c.cell_at-new.type_inv }) in
    same-more c.args.have.now c.args.want.now c.loop-x.x (to_z w64 (of_z w64 c.cell_at-old.result)) (to_z w64 (of_z w64 c.cell_at-new.result)) c.loop-x.invariant
    (a ∙ c.cell_at-old.ensures) (b ∙ c.cell_at-new.ensures) (sym c.is_equal.ensures ∙ c.if-not-is_equal.false)

pub returns-then-have-want : goal.returns-then-have-want
returns-then-have-want c =
    ends-unlike c.args.buffer _ _ c.if-have-want.true (omega arith) ∙ sym (same-common c.args.buffer c.loop-x.x c.args.want.now c.args.have.now c.loop-x.invariant (omega arith))

pub returns : goal.returns
returns c =
    ends-same c.args.buffer _ _ c.if-have-want.false ∙ sym (same-common c.args.buffer c.loop-x.x c.args.want.now c.args.have.now c.loop-x.invariant (omega arith))
