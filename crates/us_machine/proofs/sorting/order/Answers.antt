use Rattle.std.proofs.Common.{◌≡◌, ◌+◌, ◌*◌, ℕ, pos, List, [], map, length, get_or, sym, ap, subst, ◌∙◌}
use Rattle.std.specs.Prelude.{slice_set}
use Rattle.us_raw.specs.declared.width.Width.TheVariants.{W8}
use Rattle.us_raw.specs.Widths.{HoldsAll}
use Rattle.us_code.specs.Sort.{ordered}
use Rattle.us_machine.specs.Sorting.{lists_of, AreLong}
use Rattle.us_machine.specs.Tables.{seg_of}
use Rattle.us_machine.specs.Walks.{state_of}
use Rattle.us_machine.proofs.Ordering.{any_long, any_holds, any_ordered, len_is, ordered_long, steps_same}
use Rattle.us_machine.proofs.sorting.order.Goals as goal

pub ordered-requires-clause-long : goal.ordered-requires-clause-long
ordered-requires-clause-long c =
    let y = c.requires in
    let t = c.args.tables.now in
    let r = c.args.region.now in
    let e = len_is t y.sources r y.regs y.context c.args.buf c.args.keys.now y.ready c.segment-seg.result c.index.result.now c.segment-seg.ensures c.index.ensures in
    subst (λ (n : ℕ). AreLong t r.lists n c.args.keys.now) (sym e) (any_long t y.sources r y.regs y.context c.args.buf c.args.keys.now y.ready)

pub write_places-requires-clause-long : goal.write_places-requires-clause-long
write_places-requires-clause-long c =
    let y = c.requires in
    let t = c.args.tables.now in
    let r = c.args.region.now in
    let e = len_is t y.sources r y.regs y.context c.args.buf c.args.keys.now y.ready c.segment-seg.result c.index.result.now c.segment-seg.ensures c.index.ensures in
    ap (λ (k : ℕ). length (get_or r.lists k [])) c.segment-seg.ensures
    ∙ (sym e ∙ (sym (ordered_long (lists_of t r.lists c.args.keys.now) c.index.result.now.len) ∙ ap (λ (xs : List ℕ). length xs) (sym c.in_ok-places.ensures ∙ sym c.as_slice.ensures.value)))

pub write_places-requires-clause-fit : goal.write_places-requires-clause-fit
write_places-requires-clause-fit c =
    let y = c.requires in
    let t = c.args.tables.now in
    let r = c.args.region.now in
    let e = len_is t y.sources r y.regs y.context c.args.buf c.args.keys.now y.ready c.segment-seg.result c.index.result.now c.segment-seg.ensures c.index.ensures in
    let h = any_holds t y.sources r y.regs y.context c.args.buf c.args.keys.now y.ready in
    let same : c.as_slice.result.now ≡ ordered (lists_of t r.lists c.args.keys.now) (length (get_or r.lists (seg_of t c.args.buf) [])) = c.as_slice.ensures.value ∙ (c.in_ok-places.ensures ∙ ap (ordered (lists_of t r.lists c.args.keys.now)) e) in
    subst (λ (xs : List ℕ). HoldsAll (get_or r.widths c.segment-seg.result W8) (map pos xs)) (sym same)
    (subst (λ (k : ℕ). HoldsAll (get_or r.widths k W8) (map pos (ordered (lists_of t r.lists c.args.keys.now) (length (get_or r.lists (seg_of t c.args.buf) []))))) (sym c.segment-seg.ensures) h)

pub returns : goal.returns
returns c = λ sources regs g n y sh.
    let t = c.args.tables.now in
    let r = c.args.region.now in
    let s = c.write_places.new.region in
    let e = len_is t sources r regs g c.args.buf c.args.keys.now y c.segment-seg.result c.index.result.now c.segment-seg.ensures c.index.ensures in
    let same : c.as_slice.result.now ≡ ordered (lists_of t r.lists c.args.keys.now) (length (get_or r.lists (seg_of t c.args.buf) [])) = c.as_slice.ensures.value ∙ (c.in_ok-places.ensures ∙ ap (ordered (lists_of t r.lists c.args.keys.now)) e) in
    let lists : s.lists ≡ slice_set r.lists (seg_of t c.args.buf) (map pos (ordered (lists_of t r.lists c.args.keys.now) (length (get_or r.lists (seg_of t c.args.buf) [])))) =
    c.write_places.ensures.lists ∙ (ap (λ (k : ℕ). slice_set r.lists k (map pos c.as_slice.result.now)) c.segment-seg.ensures ∙ ap (λ (xs : List ℕ). slice_set r.lists (seg_of t c.args.buf) (map pos xs)) same) in
    let d = any_ordered t sources r regs g c.args.buf c.args.keys.now y s lists c.write_places.ensures.widths in
    record {
      count = n + 1 + c.index.result.now.len * length c.args.keys.now;
      is = d.0 n ∙ ap (λ (k : ℕ). state_of t s regs k) (steps_same n c.index.result.now.len (length (get_or r.lists (seg_of t c.args.buf) [])) (length c.args.keys.now) e);
      shows = c.in_ok-charge.ensures.ok (n + 1) sh;
      stands = d.1;
    }
