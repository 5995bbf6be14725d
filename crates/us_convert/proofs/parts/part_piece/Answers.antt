use Rattle.std.proofs.Common.{◌+◌, ◌-◌, ◌≤◌, ℕ, map, sym, subst, arith, true}
use Rattle.us_format.specs.Program.{plain_shape}
use Rattle.us_judge.specs.Views.{declaration_of}
use Rattle.us_judge.proofs.Valid.{short-valid}
use Rattle.us_code.specs.Plain.{phase_tree}
use Rattle.us_right.specs.Piece.{MakesPart}
use Rattle.us_convert.specs.Own.{AreBelow}
use Rattle.us_convert.proofs.Numbers.{selected-below}
use Rattle.us_convert.proofs.Selected.{part}
use Rattle.us_convert.proofs.Results.{behind-is, on-ok}
use Rattle.us_convert.proofs.parts.part_piece.Goals as goal

pub own_piece-requires-clause-room : goal.own_piece-requires-clause-room
own_piece-requires-clause-room c = omega (arith, (short-valid c.args.to.now c.requires.valid).head, c.in_ok-selected.ensures.fresh, c.requires.room)

pub own_piece-requires-clause-low : goal.own_piece-requires-clause-low
own_piece-requires-clause-low c =
    subst (λ (n : ℕ). AreBelow c.in_ok-selected.selected.columns n) (sym c.in_ok-selected.ensures.fresh)
    (selected-below c.args.columns.now c.in_ok-selected.selected.columns c.args.fresh.now _ (omega arith) c.requires.low c.in_ok-selected.ensures.selects.columns)

pub returns-clause-piece : goal.returns-clause-piece
returns-clause-piece c =
    behind-is (λ ps out. MakesPart true (plain_shape c.args.shape) (declaration_of c.args.to.now) (c.args.part - 1) c.args.columns.now c.args.fresh.now c.own_piece.new.fresh ps out)
    c.behind.result c.in_ok-selected.selected.phases c.in_ok-built.built.phases c.in_ok-built.built.buffers c.behind.ensures.phases c.behind.ensures.buffers
    (part (plain_shape c.args.shape) c.args.to.now (c.args.part - 1) c.args.columns.now c.in_ok-selected.selected.columns c.args.fresh.now c.select.new.fresh c.own_piece.new.fresh
    (map phase_tree c.in_ok-selected.selected.phases) (map phase_tree c.in_ok-built.built.phases) c.in_ok-built.built.buffers c.requires.valid c.requires.accepted (omega (arith, c.requires.from_one, c.requires.part))
    c.in_ok-selected.ensures.selects c.in_ok-built.ensures.piece c.in_ok-selected.ensures.fresh c.in_ok-built.ensures.higher)

pub returns-clause-near : goal.returns-clause-near
returns-clause-near c =
    on-ok c.behind.result (c.own_piece.new.fresh ≤ c.args.fresh.now + 4096) (omega (arith, (short-valid c.args.to.now c.requires.valid).head, c.in_ok-selected.ensures.fresh, c.in_ok-built.ensures.near))
