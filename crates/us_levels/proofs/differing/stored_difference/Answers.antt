use Rattle.std.proofs.Common.{◌≡◌, ◌+◌, ◌<◌, ◌++◌, ◌∷◌, ℕ, ℤ, List, [], length, map, Option, None, ap₂, sym, refl, ap, subst, ◌∙◌, arith}
use Rattle.std.specs.List.{filter}
use Rattle.std.proofs.lemmas.Bool.{false≢true}
use Rattle.std.proofs.lemmas.List.{append-nil, length-map}
use Rattle.std.proofs.lemmas.Result.{IfOk-weaker}
use Rattle.us_format.specs.Buffers.{level_buffers, piece_buffers}
use Rattle.us_format.specs.Declaration.{Part}
use Rattle.us_format.specs.Matrix.{Entry, Shape}
use Rattle.us_format.specs.Packs.{Piece, pieces, written}
use Rattle.us_format.specs.Program.{entries_in, plain_entry, shape_in}
use Rattle.us_judge.specs.Views.{plain_part}
use Rattle.us_build.specs.Ways.{Way, first_buffers, way_below}
use Rattle.us_layout.specs.Arranging.{PacksHaveOneLength, plain_piece}
use Rattle.us_layout.proofs.Arranged.{packs-fit}
use Rattle.us_levels.specs.declared.differing.Difference.{Difference}
use Rattle.us_levels.specs.Lists.{lists_difference, own_lists}
use Rattle.us_levels.proofs.Owning.{is_own}
use Rattle.us_levels.proofs.Starting.{started}
use Rattle.us_levels.proofs.Walked.{IsCompared, compared-end, compared-front, compared-next, compared-same, compared-short, few-names, found-early, found-late, one-length, none-found, own-of, pack_cells-are, pack_cells_of, pack_lists_of, same-names, whole_difference}
use Rattle.us_levels.proofs.differing.stored_difference.Goals as goal

pub walk_of-requires-clause-storable : goal.walk_of-requires-clause-storable
walk_of-requires-clause-storable c = c.requires.stored.storable

pub walk_of-requires-clause-few : goal.walk_of-requires-clause-few
walk_of-requires-clause-few c = omega (arith, c.requires.stored.few, length-map c.args.matrix.now.entries plain_entry)

pub loop-walk-init : goal.loop-walk-init
loop-walk-init c =
    started c.args.base (shape_in c.args.matrix.now) (plain_part c.args.part.now) (entries_in c.args.matrix.now) c.args.buffers.now c.requires.stored c.in_ok-walk.walk c.new-lists.result c.new-lists.ensures c.in_ok-walk.ensures

pub returns-then-is_too_long : goal.returns-then-is_too_long
returns-then-is_too_long c =
    let s : Shape = shape_in c.args.matrix.now in
    let p : Part = plain_part c.args.part.now in
    let m : List Entry = entries_in c.args.matrix.now in
    let bufs : List (List ℤ) = c.args.buffers.now in
    let h : 0 < length c.loop-walk.walk.levels = c.is_done.ensures.left c.loop-walk-test.true in
    absurd (false≢true (sym (compared-short s p m bufs c.args.base c.loop-walk.walk c.loop-walk.lists h c.loop-walk.invariant) ∙ sym c.is_too_long.ensures ∙ c.if-is_too_long.true))

pub own_difference-found-requires-clause-few : goal.own_difference-found-requires-clause-few
own_difference-found-requires-clause-few c =
    let s : Shape = shape_in c.args.matrix.now in
    let p : Part = plain_part c.args.part.now in
    let m : List Entry = entries_in c.args.matrix.now in
    let bufs : List (List ℤ) = c.args.buffers.now in
    let h : 0 < length c.loop-walk.walk.levels = c.is_done.ensures.left c.loop-walk-test.true in
    let e : c.step.new.lists ≡ c.loop-walk.lists ++ map written (first_buffers c.loop-walk.walk.levels c.loop-walk.walk.positions c.loop-walk.walk.rows) = c.in_ok-step.ensures.lists in
    let front = compared-front s p m bufs c.args.base c.loop-walk.walk c.loop-walk.lists h c.loop-walk.invariant in
    let whole : c.step.new.lists ++ front.0 ≡ map written (piece_buffers s p m) = ap (λ (ls : List (List ℤ)). ls ++ front.0) e ∙ front.1 in
    let xs : map plain_piece c.deref.result.now ≡ pieces p = same-names p c.deref.result.now c.in_ok-names.names.items c.args.kinds.now c.deref.ensures.value c.in_ok-names.ensures c.requires.kinds in
    omega (arith, few-names s p m c.requires.stored.storable.packs c.step.new.lists front.0 (map plain_piece c.deref.result.now) whole xs, length-map c.deref.result.now plain_piece)

pub returns-then-is_some : goal.returns-then-is_some
returns-then-is_some c =
    let s : Shape = shape_in c.args.matrix.now in
    let p : Part = plain_part c.args.part.now in
    let m : List Entry = entries_in c.args.matrix.now in
    let bufs : List (List ℤ) = c.args.buffers.now in
    let h : 0 < length c.loop-walk.walk.levels = c.is_done.ensures.left c.loop-walk-test.true in
    let e : c.step.new.lists ≡ c.loop-walk.lists ++ map written (first_buffers c.loop-walk.walk.levels c.loop-walk.walk.positions c.loop-walk.walk.rows) = c.in_ok-step.ensures.lists in
    let front = compared-front s p m bufs c.args.base c.loop-walk.walk c.loop-walk.lists h c.loop-walk.invariant in
    let whole : c.step.new.lists ++ front.0 ≡ map written (piece_buffers s p m) = ap (λ (ls : List (List ℤ)). ls ++ front.0) e ∙ front.1 in
    let xs : map plain_piece c.deref.result.now ≡ pieces p = same-names p c.deref.result.now c.in_ok-names.names.items c.args.kinds.now c.deref.ensures.value c.in_ok-names.ensures c.requires.kinds in
    let own : c.own_difference-found.result ≡ lists_difference c.args.base (own_lists p (pieces p) c.step.new.lists) bufs =
    own-of p c.args.base bufs c.loop-walk.lists (map written (first_buffers c.loop-walk.walk.levels c.loop-walk.walk.positions c.loop-walk.walk.rows)) c.step.new.lists (map plain_piece c.deref.result.now) c.count-first.result c.own_difference-found.result
    (compared-same s p m bufs c.args.base c.loop-walk.walk c.loop-walk.lists c.loop-walk.invariant) e xs c.count-first.ensures c.own_difference-found.ensures in
    found-early s p m bufs c.args.base c.requires.stored.storable.packs c.step.new.lists front.0 c.own_difference-found.result whole own (sym c.is_some.ensures ∙ c.if-is_some.true)

pub loop-walk-preserved : goal.loop-walk-preserved
loop-walk-preserved c =
    let s : Shape = shape_in c.args.matrix.now in
    let p : Part = plain_part c.args.part.now in
    let m : List Entry = entries_in c.args.matrix.now in
    let bufs : List (List ℤ) = c.args.buffers.now in
    let h : 0 < length c.loop-walk.walk.levels = c.is_done.ensures.left c.loop-walk-test.true in
    let e : c.step.new.lists ≡ c.loop-walk.lists ++ map written (first_buffers c.loop-walk.walk.levels c.loop-walk.walk.positions c.loop-walk.walk.rows) = c.in_ok-step.ensures.lists in
    let front = compared-front s p m bufs c.args.base c.loop-walk.walk c.loop-walk.lists h c.loop-walk.invariant in
    let whole : c.step.new.lists ++ front.0 ≡ map written (piece_buffers s p m) = ap (λ (ls : List (List ℤ)). ls ++ front.0) e ∙ front.1 in
    let xs : map plain_piece c.deref.result.now ≡ pieces p = same-names p c.deref.result.now c.in_ok-names.names.items c.args.kinds.now c.deref.ensures.value c.in_ok-names.ensures c.requires.kinds in
    let own : c.own_difference-found.result ≡ lists_difference c.args.base (own_lists p (pieces p) c.step.new.lists) bufs =
    own-of p c.args.base bufs c.loop-walk.lists (map written (first_buffers c.loop-walk.walk.levels c.loop-walk.walk.positions c.loop-walk.walk.rows)) c.step.new.lists (map plain_piece c.deref.result.now) c.count-first.result c.own_difference-found.result
    (compared-same s p m bufs c.args.base c.loop-walk.walk c.loop-walk.lists c.loop-walk.invariant) e xs c.count-first.ensures c.own_difference-found.ensures in
    let none : lists_difference c.args.base (own_lists p (pieces p) c.step.new.lists) bufs ≡ None = none-found c.own_difference-found.result _ own (sym c.is_some.ensures ∙ c.if-is_some.false) in
    subst (λ (w : Way). IsCompared s p m bufs c.args.base w c.step.new.lists) (sym c.in_ok-step.ensures.below)
    (subst (λ (ls : List (List ℤ)). IsCompared s p m bufs c.args.base (way_below c.loop-walk.walk.levels c.loop-walk.walk.positions c.loop-walk.walk.rows) ls) (sym e)
    (compared-next s p m bufs c.args.base c.loop-walk.walk c.loop-walk.lists h c.loop-walk.invariant c.requires.stored.kept
    (ap (λ (ls : List (List ℤ)). lists_difference c.args.base (own_lists p (pieces p) ls) bufs) (sym e) ∙ none)))

pub own_difference-found-requires-2-clause-few : goal.own_difference-found-requires-2-clause-few
own_difference-found-requires-2-clause-few c =
    let s : Shape = shape_in c.args.matrix.now in
    let p : Part = plain_part c.args.part.now in
    let m : List Entry = entries_in c.args.matrix.now in
    let bufs : List (List ℤ) = c.args.buffers.now in
    let none : c.loop-walk.walk.levels ≡ [] = c.is_done.ensures.done c.loop-walk-test.false in
    let e : c.push.new.self ≡ c.loop-walk.lists ++ map written (level_buffers [] c.loop-walk.walk.positions c.loop-walk.walk.rows) =
    c.in_ok-push.ensures.ok ∙ ap (λ (l : List ℤ). c.loop-walk.lists ++ l ∷ []) c.in_ok-values.ensures in
    let whole : c.push.new.self ≡ map written (piece_buffers s p m) = e ∙ compared-end s p m bufs c.args.base c.loop-walk.walk c.loop-walk.lists none c.loop-walk.invariant in
    let xs : map plain_piece c.deref-2.result.now ≡ pieces p = same-names p c.deref-2.result.now c.in_ok-names.names.items c.args.kinds.now c.deref-2.ensures.value c.in_ok-names.ensures c.requires.kinds in
    omega (arith, few-names s p m c.requires.stored.storable.packs c.push.new.self [] (map plain_piece c.deref-2.result.now) (append-nil c.push.new.self ∙ whole) xs, length-map c.deref-2.result.now plain_piece)

pub returns-then-is_some-2 : goal.returns-then-is_some-2
returns-then-is_some-2 c =
    let s : Shape = shape_in c.args.matrix.now in
    let p : Part = plain_part c.args.part.now in
    let m : List Entry = entries_in c.args.matrix.now in
    let bufs : List (List ℤ) = c.args.buffers.now in
    let none : c.loop-walk.walk.levels ≡ [] = c.is_done.ensures.done c.loop-walk-test.false in
    let e : c.push.new.self ≡ c.loop-walk.lists ++ map written (level_buffers [] c.loop-walk.walk.positions c.loop-walk.walk.rows) =
    c.in_ok-push.ensures.ok ∙ ap (λ (l : List ℤ). c.loop-walk.lists ++ l ∷ []) c.in_ok-values.ensures in
    let whole : c.push.new.self ≡ map written (piece_buffers s p m) = e ∙ compared-end s p m bufs c.args.base c.loop-walk.walk c.loop-walk.lists none c.loop-walk.invariant in
    let xs : map plain_piece c.deref-2.result.now ≡ pieces p = same-names p c.deref-2.result.now c.in_ok-names.names.items c.args.kinds.now c.deref-2.ensures.value c.in_ok-names.ensures c.requires.kinds in
    let own : c.own_difference-found-2.result ≡ lists_difference c.args.base (own_lists p (pieces p) c.push.new.self) bufs =
    own-of p c.args.base bufs c.loop-walk.lists (map written (level_buffers [] c.loop-walk.walk.positions c.loop-walk.walk.rows)) c.push.new.self (map plain_piece c.deref-2.result.now) c.count-first-2.result c.own_difference-found-2.result
    (compared-same s p m bufs c.args.base c.loop-walk.walk c.loop-walk.lists c.loop-walk.invariant) e xs c.count-first-2.ensures c.own_difference-found-2.ensures in
    found-early s p m bufs c.args.base c.requires.stored.storable.packs c.push.new.self [] c.own_difference-found-2.result (append-nil c.push.new.self ∙ whole) own (sym c.is_some-2.ensures ∙ c.if-is_some-2.true)

pub pack_difference-requires-clause-packs : goal.pack_difference-requires-clause-packs
pack_difference-requires-clause-packs c =
    let s : Shape = shape_in c.args.matrix.now in
    let p : Part = plain_part c.args.part.now in
    let m : List Entry = entries_in c.args.matrix.now in
    let bufs : List (List ℤ) = c.args.buffers.now in
    let none : c.loop-walk.walk.levels ≡ [] = c.is_done.ensures.done c.loop-walk-test.false in
    let e : c.push.new.self ≡ c.loop-walk.lists ++ map written (level_buffers [] c.loop-walk.walk.positions c.loop-walk.walk.rows) =
    c.in_ok-push.ensures.ok ∙ ap (λ (l : List ℤ). c.loop-walk.lists ++ l ∷ []) c.in_ok-values.ensures in
    let whole : c.push.new.self ≡ map written (piece_buffers s p m) = e ∙ compared-end s p m bufs c.args.base c.loop-walk.walk c.loop-walk.lists none c.loop-walk.invariant in
    let xs : map plain_piece c.deref-3.result.now ≡ pieces p = same-names p c.deref-3.result.now c.in_ok-names.names.items c.args.kinds.now c.deref-3.ensures.value c.in_ok-names.ensures c.requires.kinds in
    packs-fit c.args.part.now c.args.part.now.packs (map plain_piece c.deref-3.result.now) c.push.new.self refl xs
    (subst (λ (ls : List (List ℤ)). PacksHaveOneLength p ls) (sym whole) (one-length s p m bufs c.args.base c.requires.stored.storable.packs))

pub returns : goal.returns
returns c =
    let s : Shape = shape_in c.args.matrix.now in
    let p : Part = plain_part c.args.part.now in
    let m : List Entry = entries_in c.args.matrix.now in
    let bufs : List (List ℤ) = c.args.buffers.now in
    let none : c.loop-walk.walk.levels ≡ [] = c.is_done.ensures.done c.loop-walk-test.false in
    let e : c.push.new.self ≡ c.loop-walk.lists ++ map written (level_buffers [] c.loop-walk.walk.positions c.loop-walk.walk.rows) =
    c.in_ok-push.ensures.ok ∙ ap (λ (l : List ℤ). c.loop-walk.lists ++ l ∷ []) c.in_ok-values.ensures in
    let whole : c.push.new.self ≡ map written (piece_buffers s p m) = e ∙ compared-end s p m bufs c.args.base c.loop-walk.walk c.loop-walk.lists none c.loop-walk.invariant in
    let xs : map plain_piece c.deref-2.result.now ≡ pieces p = same-names p c.deref-2.result.now c.in_ok-names.names.items c.args.kinds.now c.deref-2.ensures.value c.in_ok-names.ensures c.requires.kinds in
    let own : c.own_difference-found-2.result ≡ lists_difference c.args.base (own_lists p (pieces p) c.push.new.self) bufs =
    own-of p c.args.base bufs c.loop-walk.lists (map written (level_buffers [] c.loop-walk.walk.positions c.loop-walk.walk.rows)) c.push.new.self (map plain_piece c.deref-2.result.now) c.count-first-2.result c.own_difference-found-2.result
    (compared-same s p m bufs c.args.base c.loop-walk.walk c.loop-walk.lists c.loop-walk.invariant) e xs c.count-first-2.ensures c.own_difference-found-2.ensures in
    let ys : map plain_piece c.deref-3.result.now ≡ pieces p = same-names p c.deref-3.result.now c.in_ok-names.names.items c.args.kinds.now c.deref-3.ensures.value c.in_ok-names.ensures c.requires.kinds in
    IfOk-weaker c.pack_difference.result
    (λ (d : Option Difference). d ≡ lists_difference (c.args.base + length (filter (is_own p) (map plain_piece c.deref-3.result.now))) (pack_lists_of c.args.part.now c.push.new.self (map plain_piece c.deref-3.result.now)) bufs)
    (λ (d : Option Difference). d ≡ whole_difference s p m bufs c.args.base c.requires.stored.storable.packs)
    (λ d q. found-late s p m bufs c.args.base c.requires.stored.storable.packs c.own_difference-found-2.result d (own ∙ ap (λ (ls : List (List ℤ)). lists_difference c.args.base (own_lists p (pieces p) ls) bufs) whole) (sym c.is_some-2.ensures ∙ c.if-is_some-2.false)
    (q ∙ ap₂ (λ (n : ℕ) (ls : List (List ℤ)). lists_difference n ls bufs) (ap (λ (zs : List Piece). c.args.base + length (filter (is_own p) zs)) ys)
    (pack_cells-are c.args.part.now c.push.new.self (map plain_piece c.deref-3.result.now) ys ∙ ap (pack_cells_of p) whole)))
    c.pack_difference.ensures
