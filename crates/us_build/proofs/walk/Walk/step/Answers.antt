use Rattle.std.proofs.Common.{◌≡◌, ◌+◌, ◌-◌, ◌<◌, ◌++◌, ℤ, List, map, length, take, drop, ap, sym, subst, ◌∙◌, arith}
use Rattle.std.specs.Result.{OnOk}
use Rattle.us_format.specs.Buffers.{buffers_at}
use Rattle.us_format.specs.Packs.{written}
use Rattle.us_build.specs.declared.items.Item.{Item}
use Rattle.us_build.specs.Cells.{IsBelow}
use Rattle.us_build.specs.Items.{rows_above}
use Rattle.us_format.specs.Positions.{count_below}
use Rattle.us_build.specs.Ways.{Way, IsOnWay, first_buffers, way_below, way_of}
use Rattle.us_build.proofs.Walking.{below-length, lent, step-below, step-count, step-lists, step-long, step-on, step-way}
use Rattle.us_build.proofs.walk.Walk.step.Goals as goal

pub push_level-requires-clause-below : goal.push_level-requires-clause-below
push_level-requires-clause-below c =
    let o : IsOnWay c.self.inside.levels.items c.self.inside.done c.self.inside.positions c.deref_mut.result.now =
    subst (λ (xs : List Item). IsOnWay c.self.inside.levels.items c.self.inside.done c.self.inside.positions xs) (sym c.deref_mut.ensures.value) c.self.invariant in
    let left : length (way_of c.self.inside.levels.items c.self.inside.done c.self.inside.positions c.self.inside.items.items).levels ≡ length c.args.self.now.levels = ap (λ (w : Way). length w.levels) c.self.view_is in
    let h : c.self.inside.done < length c.self.inside.levels.items = below-length c.self.inside.levels.items c.self.inside.done (omega (arith, left, c.requires.left)) in
    let iq : 6 - c.len.result + c.self.inside.done ≡ (6 - length c.self.inside.levels.items) + c.self.inside.done = omega (arith, c.len.ensures, c.self.inside.levels.ok) in
    let full : length c.go_down-below.new.items ≡ c.self.inside.items.len = step-long c.self.inside.levels.items c.self.inside.done c.self.inside.positions (6 - c.len.result + c.self.inside.done) c.go_down-below.result c.index.result.now c.deref_mut.result.now c.go_down-below.new.items h o iq c.index.ensures c.go_down-below.ensures.items c.go_down-below.ensures.count ∙ c.deref_mut.ensures.len in
    let whole : take c.self.inside.items.len (c.go_down-below.new.items ++ drop (length c.go_down-below.new.items) c.self.inside.items.items) ≡ c.go_down-below.new.items = lent c.go_down-below.new.items c.self.inside.items.items c.self.inside.items.len full in
    subst (λ (ys : List Item). IsBelow c.index.result.now.kind c.index.result.now.size c.self.inside.positions (6 - c.len.result + c.self.inside.done) ys) (sym (c.deref.ensures.value ∙ whole))
    (step-below c.self.inside.levels.items c.self.inside.done c.self.inside.positions (6 - c.len.result + c.self.inside.done) c.go_down-below.result c.index.result.now c.deref_mut.result.now c.go_down-below.new.items h o iq c.index.ensures c.go_down-below.ensures.items c.go_down-below.ensures.count)

pub push_level-requires-clause-count : goal.push_level-requires-clause-count
push_level-requires-clause-count c =
    let o : IsOnWay c.self.inside.levels.items c.self.inside.done c.self.inside.positions c.deref_mut.result.now =
    subst (λ (xs : List Item). IsOnWay c.self.inside.levels.items c.self.inside.done c.self.inside.positions xs) (sym c.deref_mut.ensures.value) c.self.invariant in
    let left : length (way_of c.self.inside.levels.items c.self.inside.done c.self.inside.positions c.self.inside.items.items).levels ≡ length c.args.self.now.levels = ap (λ (w : Way). length w.levels) c.self.view_is in
    let h : c.self.inside.done < length c.self.inside.levels.items = below-length c.self.inside.levels.items c.self.inside.done (omega (arith, left, c.requires.left)) in
    let iq : 6 - c.len.result + c.self.inside.done ≡ (6 - length c.self.inside.levels.items) + c.self.inside.done = omega (arith, c.len.ensures, c.self.inside.levels.ok) in
    let full : length c.go_down-below.new.items ≡ c.self.inside.items.len = step-long c.self.inside.levels.items c.self.inside.done c.self.inside.positions (6 - c.len.result + c.self.inside.done) c.go_down-below.result c.index.result.now c.deref_mut.result.now c.go_down-below.new.items h o iq c.index.ensures c.go_down-below.ensures.items c.go_down-below.ensures.count ∙ c.deref_mut.ensures.len in
    let whole : take c.self.inside.items.len (c.go_down-below.new.items ++ drop (length c.go_down-below.new.items) c.self.inside.items.items) ≡ c.go_down-below.new.items = lent c.go_down-below.new.items c.self.inside.items.items c.self.inside.items.len full in
    subst (λ (ys : List Item). c.go_down-below.result ≡ count_below c.index.result.now.kind c.index.result.now.size c.self.inside.positions (rows_above (6 - c.len.result + c.self.inside.done) ys))
    (sym (c.deref.ensures.value ∙ whole)) (step-count c.self.inside.levels.items c.self.inside.done c.self.inside.positions (6 - c.len.result + c.self.inside.done) c.go_down-below.result c.index.result.now c.deref_mut.result.now c.go_down-below.new.items h o iq c.index.ensures c.go_down-below.ensures.items c.go_down-below.ensures.count)

pub invariant_of-self : goal.invariant_of-self
invariant_of-self c =
    let o : IsOnWay c.self.inside.levels.items c.self.inside.done c.self.inside.positions c.deref_mut.result.now =
    subst (λ (xs : List Item). IsOnWay c.self.inside.levels.items c.self.inside.done c.self.inside.positions xs) (sym c.deref_mut.ensures.value) c.self.invariant in
    let left : length (way_of c.self.inside.levels.items c.self.inside.done c.self.inside.positions c.self.inside.items.items).levels ≡ length c.args.self.now.levels = ap (λ (w : Way). length w.levels) c.self.view_is in
    let h : c.self.inside.done < length c.self.inside.levels.items = below-length c.self.inside.levels.items c.self.inside.done (omega (arith, left, c.requires.left)) in
    let iq : 6 - c.len.result + c.self.inside.done ≡ (6 - length c.self.inside.levels.items) + c.self.inside.done = omega (arith, c.len.ensures, c.self.inside.levels.ok) in
    let full : length c.go_down-below.new.items ≡ c.self.inside.items.len = step-long c.self.inside.levels.items c.self.inside.done c.self.inside.positions (6 - c.len.result + c.self.inside.done) c.go_down-below.result c.index.result.now c.deref_mut.result.now c.go_down-below.new.items h o iq c.index.ensures c.go_down-below.ensures.items c.go_down-below.ensures.count ∙ c.deref_mut.ensures.len in
    let whole : take c.self.inside.items.len (c.go_down-below.new.items ++ drop (length c.go_down-below.new.items) c.self.inside.items.items) ≡ c.go_down-below.new.items = lent c.go_down-below.new.items c.self.inside.items.items c.self.inside.items.len full in
    subst (λ (ys : List Item). IsOnWay c.self.inside.levels.items (c.self.inside.done + 1) c.go_down-below.result ys) (sym whole)
    (step-on c.self.inside.levels.items c.self.inside.done c.self.inside.positions (6 - c.len.result + c.self.inside.done) c.go_down-below.result c.index.result.now c.deref_mut.result.now c.go_down-below.new.items h o iq c.index.ensures c.go_down-below.ensures.items c.go_down-below.ensures.count c.go_down-below.ensures.few)

pub returns-clause-lists : goal.returns-clause-lists
returns-clause-lists c =
    let o : IsOnWay c.self.inside.levels.items c.self.inside.done c.self.inside.positions c.deref_mut.result.now =
    subst (λ (xs : List Item). IsOnWay c.self.inside.levels.items c.self.inside.done c.self.inside.positions xs) (sym c.deref_mut.ensures.value) c.self.invariant in
    let left : length (way_of c.self.inside.levels.items c.self.inside.done c.self.inside.positions c.self.inside.items.items).levels ≡ length c.args.self.now.levels = ap (λ (w : Way). length w.levels) c.self.view_is in
    let h : c.self.inside.done < length c.self.inside.levels.items = below-length c.self.inside.levels.items c.self.inside.done (omega (arith, left, c.requires.left)) in
    let iq : 6 - c.len.result + c.self.inside.done ≡ (6 - length c.self.inside.levels.items) + c.self.inside.done = omega (arith, c.len.ensures, c.self.inside.levels.ok) in
    let full : length c.go_down-below.new.items ≡ c.self.inside.items.len = step-long c.self.inside.levels.items c.self.inside.done c.self.inside.positions (6 - c.len.result + c.self.inside.done) c.go_down-below.result c.index.result.now c.deref_mut.result.now c.go_down-below.new.items h o iq c.index.ensures c.go_down-below.ensures.items c.go_down-below.ensures.count ∙ c.deref_mut.ensures.len in
    let whole : take c.self.inside.items.len (c.go_down-below.new.items ++ drop (length c.go_down-below.new.items) c.self.inside.items.items) ≡ c.go_down-below.new.items = lent c.go_down-below.new.items c.self.inside.items.items c.self.inside.items.len full in
    let now : way_of c.self.inside.levels.items c.self.inside.done c.self.inside.positions c.deref_mut.result.now ≡ c.args.self.now =
    ap (way_of c.self.inside.levels.items c.self.inside.done c.self.inside.positions) c.deref_mut.ensures.value ∙ c.self.view_is in
    let lists : map written (buffers_at c.index.result.now.kind c.index.result.now.size c.self.inside.positions (rows_above (6 - c.len.result + c.self.inside.done) c.deref.result.now))
    ≡ map written (first_buffers c.args.self.now.levels c.args.self.now.positions c.args.self.now.rows) =
    ap (λ (ys : List Item). map written (buffers_at c.index.result.now.kind c.index.result.now.size c.self.inside.positions (rows_above (6 - c.len.result + c.self.inside.done) ys))) (c.deref.ensures.value ∙ whole)
    ∙ step-lists c.self.inside.levels.items c.self.inside.done c.self.inside.positions (6 - c.len.result + c.self.inside.done) c.go_down-below.result c.index.result.now c.deref_mut.result.now c.go_down-below.new.items h o iq c.index.ensures c.go_down-below.ensures.items c.go_down-below.ensures.count
    ∙ ap (λ (w : Way). map written (first_buffers w.levels w.positions w.rows)) now in
    subst (λ (l : List (List ℤ)). OnOk c.push_level.result (c.push_level.new.buffers ≡ c.args.lists.now ++ l)) lists c.push_level.ensures.lists

pub returns-clause-below : goal.returns-clause-below
returns-clause-below c =
    let o : IsOnWay c.self.inside.levels.items c.self.inside.done c.self.inside.positions c.deref_mut.result.now =
    subst (λ (xs : List Item). IsOnWay c.self.inside.levels.items c.self.inside.done c.self.inside.positions xs) (sym c.deref_mut.ensures.value) c.self.invariant in
    let left : length (way_of c.self.inside.levels.items c.self.inside.done c.self.inside.positions c.self.inside.items.items).levels ≡ length c.args.self.now.levels = ap (λ (w : Way). length w.levels) c.self.view_is in
    let h : c.self.inside.done < length c.self.inside.levels.items = below-length c.self.inside.levels.items c.self.inside.done (omega (arith, left, c.requires.left)) in
    let iq : 6 - c.len.result + c.self.inside.done ≡ (6 - length c.self.inside.levels.items) + c.self.inside.done = omega (arith, c.len.ensures, c.self.inside.levels.ok) in
    let full : length c.go_down-below.new.items ≡ c.self.inside.items.len = step-long c.self.inside.levels.items c.self.inside.done c.self.inside.positions (6 - c.len.result + c.self.inside.done) c.go_down-below.result c.index.result.now c.deref_mut.result.now c.go_down-below.new.items h o iq c.index.ensures c.go_down-below.ensures.items c.go_down-below.ensures.count ∙ c.deref_mut.ensures.len in
    let whole : take c.self.inside.items.len (c.go_down-below.new.items ++ drop (length c.go_down-below.new.items) c.self.inside.items.items) ≡ c.go_down-below.new.items = lent c.go_down-below.new.items c.self.inside.items.items c.self.inside.items.len full in
    let now : way_of c.self.inside.levels.items c.self.inside.done c.self.inside.positions c.deref_mut.result.now ≡ c.args.self.now =
    ap (way_of c.self.inside.levels.items c.self.inside.done c.self.inside.positions) c.deref_mut.ensures.value ∙ c.self.view_is in
    ap (way_of c.self.inside.levels.items (c.self.inside.done + 1) c.go_down-below.result) whole
    ∙ step-way c.self.inside.levels.items c.self.inside.done c.self.inside.positions (6 - c.len.result + c.self.inside.done) c.go_down-below.result c.index.result.now c.deref_mut.result.now c.go_down-below.new.items h o iq c.index.ensures c.go_down-below.ensures.items c.go_down-below.ensures.count
    ∙ ap (λ (w : Way). way_below w.levels w.positions w.rows) now
