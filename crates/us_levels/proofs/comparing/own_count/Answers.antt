use Rattle.std.proofs.Common.{◌≡◌, ◌<◌, List, get_or, length, map, ap, ◌∙◌, arith}
use Rattle.std.specs.List.{filter}
use Rattle.std.proofs.lemmas.List.{length-map, take_all}
use Rattle.us_format.specs.Declaration.{Part}
use Rattle.us_format.specs.Packs.{Piece, PosOf, is_packed}
use Rattle.us_judge.specs.Views.{plain_part}
use Rattle.us_layout.specs.Arranging.{plain_piece}
use Rattle.us_levels.proofs.Owning.{count-below, count-more, count-same, is_own, packed-at}
use Rattle.us_levels.proofs.comparing.own_count.Goals.{then-not-is_packed, else-not-is_packed}
use Rattle.us_levels.proofs.comparing.own_count.Goals as goal

pub overflow_add-count : goal.overflow_add-count
overflow_add-count c = record {
  fits = omega (arith, count-below (plain_part c.args.part.now) (map plain_piece c.args.names.now) c.loop-name.name-index c.loop-name.count (omega (arith, length-map c.args.names.now plain_piece)) c.loop-name.invariant);
}

pub loop-name-preserved : goal.loop-name-preserved
loop-name-preserved c =
    let p : Part = plain_part c.args.part.now in
    let xs : List Piece = map plain_piece c.args.names.now in
    let l : c.loop-name.name-index < length xs = omega (arith, length-map c.args.names.now plain_piece) in
    let at : is_packed p (get_or xs c.loop-name.name-index (PosOf 0)) ≡ c.is_packed.result = packed-at p c.args.names.now c.loop-name.name-index _ (PosOf 0) c.is_packed.result (omega arith) c.is_packed.ensures in
    elim c.if-not-is_packed.branch [
      | then-not-is_packed w ↦
          w.count-is ∙ count-more p xs c.loop-name.name-index c.loop-name.count (PosOf 0) l c.loop-name.invariant (at ∙ w.if-not-is_packed.true)
      | else-not-is_packed w ↦
          w.count-is ∙ count-same p xs c.loop-name.name-index c.loop-name.count (PosOf 0) l c.loop-name.invariant (at ∙ w.if-not-is_packed.false)
    ]

pub returns : goal.returns
returns c =
    c.loop-name.invariant ∙ ap (λ ys. length (filter (is_own (plain_part c.args.part.now)) ys)) (take_all c.loop-name.name-index (map plain_piece c.args.names.now) (omega (arith, length-map c.args.names.now plain_piece)))
