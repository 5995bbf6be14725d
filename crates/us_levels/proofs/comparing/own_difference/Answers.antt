use Rattle.std.proofs.Common.{◌≡◌, ◌+◌, ◌<◌, ℕ, List, get_or, take, length, map, sym, ap, ◌∙◌, arith}
use Rattle.std.specs.List.{filter}
use Rattle.std.proofs.lemmas.List.{length-map, length-take-le, take-map}
use Rattle.us_format.specs.Declaration.{Part}
use Rattle.us_format.specs.Packs.{Piece, PosOf, is_packed}
use Rattle.us_judge.specs.Views.{plain_part}
use Rattle.us_layout.specs.Arranging.{plain_piece}
use Rattle.us_levels.proofs.Owning.{count-least, is_own, own-end, own-equal, own-found, own-passed, own-start, packed-at, place-below}
use Rattle.us_levels.proofs.Unlike.{difference-of}
use Rattle.us_levels.proofs.comparing.own_difference.Goals as goal

pub overflow_add-place : goal.overflow_add-place
overflow_add-place c = record {
  fits = omega (
    arith,
    c.requires.room,
    c.requires.names,
    c.own_count-before.ensures,
    count-least (plain_part c.args.part.now) (map plain_piece (take c.args.first c.args.names.now)),
    length-map (take c.args.first c.args.names.now) plain_piece,
    length-take-le c.args.first c.args.names.now (omega (arith, c.requires.first, c.requires.few)),
  );
}

pub loop-k-init : goal.loop-k-init
loop-k-init c =
    own-start (plain_part c.args.part.now) c.args.base (map plain_piece c.args.names.now) c.args.lists.now c.args.buffers.now c.args.first (c.args.base + c.own_count-before.result) c.requires.first
    (omega (arith, c.requires.first, c.requires.few, length-map c.args.names.now plain_piece))
    (ap (λ (n : ℕ). c.args.base + n) (c.own_count-before.ensures ∙ ap (λ (xs : List Piece). length (filter (is_own (plain_part c.args.part.now)) xs)) (sym (take-map plain_piece c.args.first c.args.names.now))))

pub loop-k-preserved-then-is_packed : goal.loop-k-preserved-then-is_packed
loop-k-preserved-then-is_packed c =
    let p : Part = plain_part c.args.part.now in
    let xs : List Piece = map plain_piece c.args.names.now in
    let h : c.loop-k.k < length c.args.lists.now = omega arith in
    let l : c.loop-k.k < length xs = omega (arith, length-map c.args.names.now plain_piece, c.requires.few) in
    let at : is_packed p (get_or xs c.loop-k.k (PosOf 0)) ≡ c.is_packed.result = packed-at p c.args.names.now c.loop-k.k _ (PosOf 0) c.is_packed.result (omega (arith, c.requires.few)) c.is_packed.ensures in
    own-passed p c.args.base xs c.args.lists.now c.args.buffers.now c.args.first c.loop-k.k c.loop-k.place (PosOf 0) h l c.loop-k.invariant (at ∙ c.if-is_packed.true)

pub returns-then-is_some : goal.returns-then-is_some
returns-then-is_some c =
    let p : Part = plain_part c.args.part.now in
    let xs : List Piece = map plain_piece c.args.names.now in
    let h : c.loop-k.k < length c.args.lists.now = omega arith in
    let l : c.loop-k.k < length xs = omega (arith, length-map c.args.names.now plain_piece, c.requires.few) in
    let at : is_packed p (get_or xs c.loop-k.k (PosOf 0)) ≡ c.is_packed.result = packed-at p c.args.names.now c.loop-k.k _ (PosOf 0) c.is_packed.result (omega (arith, c.requires.few)) c.is_packed.ensures in
    own-found p c.args.base xs c.args.lists.now c.args.buffers.now c.args.first c.loop-k.k c.loop-k.place (PosOf 0) h l c.loop-k.invariant (at ∙ c.if-is_packed.false) c.buffer_difference-found.result (difference-of c.args.lists.now c.loop-k.k c.loop-k.place c.list.result.now c.args.buffers.now c.buffer_difference-found.result c.list.ensures c.buffer_difference-found.ensures) (sym c.is_some.ensures ∙ c.if-is_some.true)

pub overflow_add-place-in-loop-k : goal.overflow_add-place-in-loop-k
overflow_add-place-in-loop-k c = record {
  fits = omega (
    arith,
    c.requires.room,
    c.requires.names,
    c.requires.few,
    place-below (plain_part c.args.part.now) c.args.base (map plain_piece c.args.names.now) c.args.lists.now c.args.buffers.now c.args.first c.loop-k.k c.loop-k.place (omega arith)
        (omega (arith, length-map c.args.names.now plain_piece, c.requires.few)) c.loop-k.invariant,
  );
}

pub loop-k-preserved : goal.loop-k-preserved
loop-k-preserved c =
    let p : Part = plain_part c.args.part.now in
    let xs : List Piece = map plain_piece c.args.names.now in
    let h : c.loop-k.k < length c.args.lists.now = omega arith in
    let l : c.loop-k.k < length xs = omega (arith, length-map c.args.names.now plain_piece, c.requires.few) in
    let at : is_packed p (get_or xs c.loop-k.k (PosOf 0)) ≡ c.is_packed.result = packed-at p c.args.names.now c.loop-k.k _ (PosOf 0) c.is_packed.result (omega (arith, c.requires.few)) c.is_packed.ensures in
    own-equal p c.args.base xs c.args.lists.now c.args.buffers.now c.args.first c.loop-k.k c.loop-k.place (PosOf 0) h l c.loop-k.invariant (at ∙ c.if-is_packed.false) c.buffer_difference-found.result (difference-of c.args.lists.now c.loop-k.k c.loop-k.place c.list.result.now c.args.buffers.now c.buffer_difference-found.result c.list.ensures c.buffer_difference-found.ensures) (sym c.is_some.ensures ∙ c.if-is_some.false)

pub returns : goal.returns
returns c =
    own-end (plain_part c.args.part.now) c.args.base (map plain_piece c.args.names.now) c.args.lists.now c.args.buffers.now c.args.first c.loop-k.k c.loop-k.place (omega arith) c.loop-k.invariant
