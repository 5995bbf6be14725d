-- What the reader's values stand for.
use Rattle.std.specs.Prelude.{◌≡◌, Result, Ok, Err}
use Rattle.us_mm.specs.declared.fault.MmFault.{MmFault}
use Rattle.us_mm.specs.declared.fault.MmFault.TheVariants.{Memory}
use Rattle.std.specs.declared.vec.Vec.{Vec}
use Rattle.std.specs.declared.alloc.Global.{Global}
use Rattle.us_matrix.specs.declared.matrix.Triple.{Triple}
use Rattle.us_matrix.specs.declared.shape.Shape.{Shape}
use Rattle.us_mm.specs.declared.entries.Size.{Size}
use Rattle.us_mm.specs.Reads.{Sizes, Reading}

abbrev pub sizes : Size → Sizes
sizes s = record { form = s.form; rows = s.shape.rows; cols = s.shape.cols; count = s.count }

abbrev pub gives_sizes : Result Size MmFault → Result Sizes MmFault → Type 0
gives_sizes (Ok s) read = read ≡ Ok (sizes s)
gives_sizes (Err e) read = read ≡ Err e

-- An error other than want of memory is the fault of reading.
abbrev pub IsFaultOf : {A : Type 0} → MmFault → Result A MmFault → Type 0
IsFaultOf Memory read = Unit {0}
IsFaultOf fault read = read ≡ Err fault

-- What was read is what reading gives, or memory ran out.
abbrev pub Gives : {A : Type 0} → Result A MmFault → Result A MmFault → Type 0
Gives (Ok x) read = read ≡ Ok x
Gives (Err fault) read = IsFaultOf fault read

-- The same of a shape with its triples.
abbrev pub GivesReading : Result (Shape × Vec Triple Global) MmFault → Result Reading MmFault → Type 0
GivesReading (Ok r) read = read ≡ Ok (record { rows = r.0.rows; cols = r.0.cols; triples = r.1.items })
GivesReading (Err fault) read = IsFaultOf fault read
