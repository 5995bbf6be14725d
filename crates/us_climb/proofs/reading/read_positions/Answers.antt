use Rattle.std.proofs.Common.{◌≡◌, ◌<◌, ◌≤◌, ◌+◌, ◌-◌, List, Vec, Global, length, map, false, true, sym, subst, ap, ◌∙◌, w64}
use Rattle.std.specs.Prelude.{FitsSigned}
use Rattle.std.proofs.lemmas.Int.{to_z-of_z}
use Rattle.us_format.specs.Matrix.{is_zero}
use Rattle.us_format.specs.Program.{plain_shape}
use Rattle.us_judge.specs.Views.{declaration_of}
use Rattle.us_climb.specs.declared.found.Found.{Found}
use Rattle.us_climb.specs.Layout.{cells_at}
use Rattle.us_climb.specs.Entries.{is_empty, plain_found, prepend}
use Rattle.us_climb.proofs.ReadSteps.{IsReadTo, read-none, read-skip, read-more, read-failed, read-end}
use Rattle.us_climb.proofs.ReaderSteps.{reader-empty, reader-laid}
use Rattle.us_climb.proofs.reading.read_positions.Goals as goal
use Rattle.us_climb.proofs.reading.read_positions.Goals.{then-not-is_zero+in-Some+in_ok-push-in-Some, else-not-is_zero}

pub loop-x-init : goal.loop-x-init
loop-x-init c =
    let r = c.args.reader.now in
    read-none (plain_shape r.shape) (declaration_of r.format.now) r.tables.buffers.now (r.number - 1) (length (cells_at r.layout.values r.tables.buffers.now)) c.args.found.now.items c.requires.fits

pub returns-in-None-clause-read : goal.returns-in-None-clause-read
returns-in-None-clause-read c =
    let r = c.args.reader.now in
    let there : c.loop-x.x < length (cells_at c.args.reader.now.layout.values c.args.reader.now.tables.buffers.now) = subst (λ n. c.loop-x.x < n) c.column_len-x-end.ensures c.loop-x-test.true in
    let full : is_empty (plain_shape c.args.reader.now.shape) (declaration_of c.args.reader.now.format.now) c.args.reader.now.tables.buffers.now (c.args.reader.now.number - 1, c.loop-x.x) ≡ false =
    reader-empty r c.requires.ready c.loop-x.x c.column_cell-v.result false c.column_cell-v.ensures
    (ap is_zero (sym (to_z-of_z w64 c.column_cell-v.result (record { sfits = c.column_cell-v.type_inv }))) ∙ sym c.is_zero.ensures ∙ c.if-not-is_zero.true) in
    read-failed (plain_shape r.shape) (declaration_of r.format.now) r.tables.buffers.now (r.number - 1) (length (cells_at r.layout.values r.tables.buffers.now)) c.args.found.now.items c.loop-x.x c.loop-x.found.items there full c.in-None.ensures.entry c.loop-x.invariant
    ∙ ap (prepend (map plain_found c.args.found.now.items)) (sym (reader-laid r c.requires.ready))

pub returns-in-None-clause-fits : goal.returns-in-None-clause-fits
returns-in-None-clause-fits c = c.loop-x.invariant.fits

pub loop-x-preserved : goal.loop-x-preserved
loop-x-preserved c =
    let r = c.args.reader.now in
    let s = plain_shape r.shape in
    let d = declaration_of r.format.now in
    let bufs = r.tables.buffers.now in
    let k = r.number - 1 in
    let n = length (cells_at r.layout.values r.tables.buffers.now) in
    let there : c.loop-x.x < length (cells_at c.args.reader.now.layout.values c.args.reader.now.tables.buffers.now) = subst (λ n. c.loop-x.x < n) c.column_len-x-end.ensures c.loop-x-test.true in
    elim c.if-not-is_zero.branch [
      | then-not-is_zero+in-Some+in_ok-push-in-Some w ↦
          let full : is_empty (plain_shape c.args.reader.now.shape) (declaration_of c.args.reader.now.format.now) c.args.reader.now.tables.buffers.now (c.args.reader.now.number - 1, c.loop-x.x) ≡ false =
          reader-empty r c.requires.ready c.loop-x.x c.column_cell-v.result false c.column_cell-v.ensures
          (ap is_zero (sym (to_z-of_z w64 c.column_cell-v.result (record { sfits = c.column_cell-v.type_inv }))) ∙ sym c.is_zero.ensures ∙ w.if-not-is_zero.true) in
          let fits : FitsSigned w64 w.in-Some.one.triple.v = subst (λ v. FitsSigned w64 v) (sym (w.in-Some.ensures.value ∙ to_z-of_z w64 c.column_cell-v.result (record { sfits = c.column_cell-v.type_inv }))) (let small : FitsSigned w64 c.column_cell-v.result = record { sfits = c.column_cell-v.type_inv } in small) in
          subst (λ (found : List Found). IsReadTo (plain_shape c.args.reader.now.shape) (declaration_of c.args.reader.now.format.now) c.args.reader.now.tables.buffers.now (c.args.reader.now.number - 1) (length (cells_at c.args.reader.now.layout.values c.args.reader.now.tables.buffers.now)) c.args.found.now.items (c.loop-x.x + 1) found) (sym w.in_ok-push-in-Some.ensures.items ∙ ap (λ (v : Vec Found Global). v.items) (sym w.found-is))
          (read-more s d bufs k n c.args.found.now.items c.loop-x.x c.loop-x.found.items w.in-Some.one there full w.in-Some.ensures.entry w.in-Some.ensures.position fits c.loop-x.invariant)
      | else-not-is_zero w ↦
          let empty : is_empty (plain_shape c.args.reader.now.shape) (declaration_of c.args.reader.now.format.now) c.args.reader.now.tables.buffers.now (c.args.reader.now.number - 1, c.loop-x.x) ≡ true =
          reader-empty r c.requires.ready c.loop-x.x c.column_cell-v.result true c.column_cell-v.ensures
          (ap is_zero (sym (to_z-of_z w64 c.column_cell-v.result (record { sfits = c.column_cell-v.type_inv }))) ∙ sym c.is_zero.ensures ∙ w.if-not-is_zero.false) in
          subst (λ (found : List Found). IsReadTo (plain_shape c.args.reader.now.shape) (declaration_of c.args.reader.now.format.now) c.args.reader.now.tables.buffers.now (c.args.reader.now.number - 1) (length (cells_at c.args.reader.now.layout.values c.args.reader.now.tables.buffers.now)) c.args.found.now.items (c.loop-x.x + 1) found) (ap (λ (v : Vec Found Global). v.items) (sym w.found-is))
          (read-skip s d bufs k n c.args.found.now.items c.loop-x.x c.loop-x.found.items there empty c.loop-x.invariant)
    ]

pub returns-clause-read : goal.returns-clause-read
returns-clause-read c =
    let r = c.args.reader.now in
    let past : length (cells_at c.args.reader.now.layout.values c.args.reader.now.tables.buffers.now) ≤ c.loop-x.x = subst (λ n. n ≤ c.loop-x.x) c.column_len-x-end.ensures c.loop-x-test.false in
    read-end (plain_shape r.shape) (declaration_of r.format.now) r.tables.buffers.now (r.number - 1) (length (cells_at r.layout.values r.tables.buffers.now)) c.args.found.now.items c.loop-x.x c.loop-x.found.items past c.loop-x.invariant
    ∙ ap (prepend (map plain_found c.args.found.now.items)) (sym (reader-laid r c.requires.ready))

pub returns-clause-fits : goal.returns-clause-fits
returns-clause-fits c = c.loop-x.invariant.fits
