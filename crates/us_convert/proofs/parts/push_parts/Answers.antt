use Rattle.std.proofs.Common.{◌≡◌, ◌+◌, ◌-◌, ℕ, length, subst, arith}
use Rattle.us_format.specs.Program.{plain_shape}
use Rattle.us_judge.specs.Views.{declaration_of}
use Rattle.us_judge.proofs.Valid.{short-valid}
use Rattle.us_convert.specs.Draft.{AddsParts}
use Rattle.us_convert.proofs.Drafts.{passed-more}
use Rattle.us_convert.proofs.parts.push_parts.Goals as goal

pub loop-part-init : goal.loop-part-init
loop-part-init c = record { adds = λ f x. x; low = c.requires.low; room = omega (arith, c.requires.room) }

pub push_part-requires-clause-low : goal.push_part-requires-clause-low
push_part-requires-clause-low c = c.loop-part.invariant.low

pub push_part-requires-clause-room : goal.push_part-requires-clause-room
push_part-requires-clause-room c = omega (arith, c.loop-part.invariant.room, (short-valid c.args.to.now c.requires.valid).few, c.loop-part-test.true, c.parts-count.ensures)

pub loop-part-preserved : goal.loop-part-preserved
loop-part-preserved c =
    passed-more (plain_shape c.args.shape) c.args.to.now c.loop-part.part (c.loop-part.part + 1 - 1) _ _ _ c.requires.valid c.requires.accepted (omega (arith, c.loop-part-test.true, c.parts-count.ensures)) (omega arith)
    c.loop-part.invariant c.in_ok-push_part.ensures

pub returns : goal.returns
returns c =
    let end : c.loop-part.part ≡ length (declaration_of c.args.to.now).parts = omega (arith, c.loop-part-test.false, c.parts-count.ensures) in
    subst (λ (k : ℕ). AddsParts (plain_shape c.args.shape) (declaration_of c.args.to.now) k c.args.draft.now c.loop-part.draft) end c.loop-part.invariant.adds
