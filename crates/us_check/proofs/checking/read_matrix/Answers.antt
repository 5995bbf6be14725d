use Rattle.std.proofs.Common.{◌<◌, List, All, Some, None, length, arith, sym, subst}
use Rattle.us_climb.specs.declared.found.Found.{Found}
use Rattle.us_format.specs.Program.{plain_shape, entries_in}
use Rattle.us_judge.specs.Views.{declaration_of}
use Rattle.us_check.specs.Repeats.{IsFirstRepeat, IsInOrder, found_entries}
use Rattle.us_check.proofs.Made.{FoundInside, found-below}
use Rattle.us_check.proofs.ReadBack.{all-inside, collects, failed-there, first-is, repeat-below, repeat-told, unread-told}
use Rattle.us_check.proofs.WellFormed.{fitting-told}
use Rattle.us_check.proofs.checking.read_matrix.Goals as goal

pub first_repeated-requires : goal.first_repeated-requires
first_repeated-requires c =
    subst (λ (l : List Found). All (λ (f : Found). f.triple.j < 2147483648) l) (sym c.deref.ensures.value)
    (found-below (plain_shape c.args.shape) c.in_ok-read.read.found.items c.requires.cols (all-inside (plain_shape c.args.shape) (declaration_of c.args.format.now) c.args.buffers.now c.in_ok-read.read c.in_ok-read.ensures.read))

pub climb_fault-requires : goal.climb_fault-requires
climb_fault-requires c =
    let first : IsFirstRepeat (found_entries c.in_ok-read.read.found.items) (Some c.in-Some.index) =
    first-is (plain_shape c.args.shape) (declaration_of c.args.format.now) c.args.buffers.now c.in_ok-read.read c.in_ok-read.ensures.read c.deref.result.now c.in_ok-index.field-0 (Some c.in-Some.index) c.deref.ensures.value c.in_ok-index.ensures c.in-Some.is in
    let below : c.index.result.now.position.part < length (declaration_of c.args.format.now).parts =
    repeat-below (plain_shape c.args.shape) (declaration_of c.args.format.now) c.args.buffers.now c.in_ok-read.read c.in_ok-read.ensures.read c.in-Some.index c.index.result.now first c.index.ensures in
    omega (arith, c.parts.ensures, c.parts.type_inv)

pub returns-in-Some-clause-fault : goal.returns-in-Some-clause-fault
returns-in-Some-clause-fault c =
    fitting-told (plain_shape c.args.shape) (declaration_of c.args.format.now) c.args.buffers.now c.climb_fault.result c.requires.fitting c.requires.within
    (repeat-told (plain_shape c.args.shape) (declaration_of c.args.format.now) c.args.buffers.now c.in_ok-read.read c.in_ok-read.ensures.read c.in-Some.index c.index.result.now c.climb_fault.result
    (first-is (plain_shape c.args.shape) (declaration_of c.args.format.now) c.args.buffers.now c.in_ok-read.read c.in_ok-read.ensures.read c.deref.result.now c.in_ok-index.field-0 (Some c.in-Some.index) c.deref.ensures.value c.in_ok-index.ensures c.in-Some.is)
    c.index.ensures c.climb_fault.ensures)

pub climb_fault-requires-in-Some-failed : goal.climb_fault-requires-in-Some-failed
climb_fault-requires-in-Some-failed c =
    let below : c.in-Some-failed.position.part < length (declaration_of c.args.format.now).parts =
    failed-there (plain_shape c.args.shape) (declaration_of c.args.format.now) c.args.buffers.now c.in_ok-read.read c.in_ok-read.ensures.read c.in-Some-failed.position c.in-Some-failed.is in
    omega (arith, c.parts.ensures, c.parts.type_inv)

pub returns-in-Some-failed-clause-fault : goal.returns-in-Some-failed-clause-fault
returns-in-Some-failed-clause-fault c =
    fitting-told (plain_shape c.args.shape) (declaration_of c.args.format.now) c.args.buffers.now c.climb_fault-in-Some-failed.result c.requires.fitting c.requires.within
    (unread-told (plain_shape c.args.shape) (declaration_of c.args.format.now) c.args.buffers.now c.in_ok-read.read c.in_ok-read.ensures.read c.in-Some-failed.position c.climb_fault-in-Some-failed.result c.in-Some-failed.is
    (first-is (plain_shape c.args.shape) (declaration_of c.args.format.now) c.args.buffers.now c.in_ok-read.read c.in_ok-read.ensures.read c.deref.result.now c.in_ok-index.field-0 None c.deref.ensures.value c.in_ok-index.ensures c.in_default.is)
    c.climb_fault-in-Some-failed.ensures)

pub matrix_of-requires-clause-inside : goal.matrix_of-requires-clause-inside
matrix_of-requires-clause-inside c =
    subst (λ (l : List Found). FoundInside (plain_shape c.args.shape) l) (sym c.deref-2.ensures.value)
    (all-inside (plain_shape c.args.shape) (declaration_of c.args.format.now) c.args.buffers.now c.in_ok-read.read c.in_ok-read.ensures.read)

pub matrix_of-requires-clause-apart : goal.matrix_of-requires-clause-apart
matrix_of-requires-clause-apart c =
    subst (λ (l : List Found). IsFirstRepeat (found_entries l) None) (sym c.deref-2.ensures.value)
    (first-is (plain_shape c.args.shape) (declaration_of c.args.format.now) c.args.buffers.now c.in_ok-read.read c.in_ok-read.ensures.read c.deref.result.now c.in_ok-index.field-0 None c.deref.ensures.value c.in_ok-index.ensures c.in_default.is)

pub returns-clause-read : goal.returns-clause-read
returns-clause-read c =
    collects (plain_shape c.args.shape) (declaration_of c.args.format.now) c.args.buffers.now c.in_ok-read.read c.in_ok-read.ensures.read (entries_in c.in_ok-matrix.matrix) c.in_default-failed.is
    (first-is (plain_shape c.args.shape) (declaration_of c.args.format.now) c.args.buffers.now c.in_ok-read.read c.in_ok-read.ensures.read c.deref.result.now c.in_ok-index.field-0 None c.deref.ensures.value c.in_ok-index.ensures c.in_default.is)
    (subst (λ (l : List Found). IsInOrder (found_entries l) (entries_in c.in_ok-matrix.matrix)) c.deref-2.ensures.value c.in_ok-matrix.ensures.entries)
