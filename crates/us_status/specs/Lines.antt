-- The number and the line of each answer.
use Rattle.std.specs.Prelude.{ℕ, List, ◌++◌, codes, Bool, true, false}
use Rattle.std.specs.Fmt.{decimal, signed_decimal}
use Rattle.us_mm.specs.declared.fault.MmFault.{MmFault}
use Rattle.us_mm.specs.declared.fault.MmFault.TheVariants as mm
use Rattle.us_parse.specs.declared.parsed.DeclFault.{DeclFault}
use Rattle.us_parse.specs.declared.parsed.DeclFault.TheVariants as decl
use Rattle.us_judge.specs.declared.refusal.Refusal.{Refusal}
use Rattle.us_container.specs.declared.fault.ContainerFault.{ContainerFault}
use Rattle.us_container.specs.declared.fault.ContainerFault.TheVariants as container
use Rattle.us_container.specs.Contained.{fault_of}
use Rattle.us_check.specs.declared.broken.Broken.{Broken}
use Rattle.us_code_reader.specs.declared.parsed.CodeFault.{CodeFault}
use Rattle.us_code_reader.specs.declared.parsed.CodeFault.TheVariants as code
use Rattle.us_bounds.specs.declared.fault.Unbound.{Unbound}
use Rattle.us_status.specs.declared.status.Status.TheVariants as status
use Rattle.us_status.specs.declared.status.Slot.{Slot}
use Rattle.us_status.specs.declared.status.Slot.TheVariants.{Formats, Input, Operand, Code, Output, Listing, Print}
use Rattle.us_status.specs.declared.status.Status.{Status}
use Rattle.us_status.specs.declared.status.Status.TheVariants.{Done, Words, Matrix, TooLong, ReadFault, WriteFault, Memory}

-- the word of a slot
abbrev pub slot_word : Slot → List ℕ
slot_word Formats = codes "FORMATS"
slot_word Input = codes "IN"
slot_word Operand = codes "X"
slot_word Code = codes "CODE"
slot_word Output = codes "OUT"
slot_word Listing = codes "LISTING"
slot_word Print = codes "PRINT"

-- what is said of a fault of a matrix file
abbrev pub fault_text : MmFault → List ℕ
fault_text mm.Header = codes "header"
fault_text (mm.Unsupported word) = codes "unsupported word " ++ decimal word
fault_text (mm.SizeLine line) = codes "size line " ++ decimal line
fault_text (mm.Shape line) = codes "shape line " ++ decimal line
fault_text (mm.TooManyEntries count) = codes "too many entries " ++ decimal count
fault_text (mm.EntryLine line) = codes "entry line " ++ decimal line
fault_text (mm.OutOfShape line) = codes "out of shape line " ++ decimal line
fault_text (mm.ValueRange line) = codes "value range line " ++ decimal line
fault_text (mm.Triangle line) = codes "triangle line " ++ decimal line
fault_text (mm.Missing found wanted) = codes "missing " ++ decimal found ++ codes " of " ++ decimal wanted
fault_text (mm.Extra line) = codes "extra line " ++ decimal line
fault_text mm.Memory = codes "memory"

-- what is said of a fault of a library
abbrev pub formats_text : DeclFault → List ℕ
formats_text (decl.Token place) = codes "token " ++ decimal place
formats_text (decl.Form place) = codes "form " ++ decimal place
formats_text (decl.TooBig place) = codes "too big " ++ decimal place
formats_text (decl.Repeated place) = codes "repeated " ++ decimal place
formats_text decl.Memory = codes "memory"

-- the rule, the part and the item
abbrev pub refusal_text : Refusal → List ℕ
refusal_text r = codes "J" ++ decimal r.rule ++ codes " part " ++ decimal r.part ++ codes " place " ++ decimal r.place

-- what is said of a fault of a container
abbrev pub container_text : ContainerFault → List ℕ
container_text container.Magic = codes "magic"
container_text (container.Version n) = codes "version " ++ decimal n
container_text (container.Truncated at) = codes "truncated " ++ decimal at
container_text (container.DeclText at) = codes "text " ++ decimal at
container_text (container.Refused r) = codes "refused " ++ refusal_text r
container_text container.Shape = codes "shape"
container_text (container.Lengths b) = codes "lengths " ++ decimal b
container_text (container.Trailing at) = codes "trailing " ++ decimal at
container_text container.TooLarge = codes "too large"
container_text (container.Climb p x) = codes "climb " ++ decimal p ++ codes " " ++ decimal x
container_text (container.Cell b x have want) =
    codes "cell " ++ decimal b ++ codes " " ++ decimal x ++ codes " " ++ signed_decimal have ++ codes " " ++ signed_decimal want
container_text (container.Long b have want) = codes "long " ++ decimal b ++ codes " " ++ decimal have ++ codes " " ++ decimal want
container_text container.Memory = codes "memory"

-- what is said of a fault of a unit
abbrev pub code_text : CodeFault → List ℕ
code_text (code.Token place) = codes "token " ++ decimal place
code_text (code.Form place) = codes "form " ++ decimal place
code_text (code.TooBig place) = codes "too big " ++ decimal place
code_text code.Memory = codes "memory"

-- the item that breaks a rule, and the rule
abbrev pub unbound_text : Unbound → List ℕ
unbound_text u = codes "unbound phase " ++ decimal u.phase ++ codes " stmt " ++ decimal u.stmt ++ codes " V" ++ decimal u.rule

-- what is said of buffers that are not well-formed: the same as of a container with these buffers
abbrev pub broken_text : Broken → List ℕ
broken_text why = container_text (fault_of why)

-- what is said of an operand with the wrong number of rows or columns
abbrev pub operand_text : Bool → ℕ → ℕ → List ℕ
operand_text true have want = codes "operand columns " ++ decimal have ++ codes " " ++ decimal want
operand_text false have want = codes "operand rows " ++ decimal have ++ codes " " ++ decimal want

-- the line that tells an answer, without its line feed
abbrev pub status_line : Status → List ℕ
status_line Done = codes "ok"
status_line Words = codes "words"
status_line (Matrix slot fault) = codes "matrix " ++ slot_word slot ++ codes " " ++ fault_text fault
status_line (status.Formats fault) = codes "formats " ++ formats_text fault
status_line (status.UnknownName k) = codes "unknown name " ++ decimal k
status_line (status.Refused k r) = codes "refused name " ++ decimal k ++ codes " " ++ refusal_text r
status_line (status.Container fault) = codes "container " ++ container_text fault
status_line (status.TooLarge hop) = codes "too large " ++ decimal hop
status_line (status.Operand columns have want) = operand_text columns have want
status_line (status.Code fault) = codes "code " ++ code_text fault
status_line (status.Unbound u) = unbound_text u
status_line (status.Sources want have) = codes "sources " ++ decimal want ++ codes " " ++ decimal have
status_line (status.NotWellFormed why) = codes "not well formed " ++ broken_text why
status_line (status.OutOfSteps budget) = codes "out of steps " ++ decimal budget
status_line (ReadFault slot) = codes "read fault " ++ slot_word slot
status_line (WriteFault slot) = codes "write fault " ++ slot_word slot
status_line (TooLong slot) = codes "too long " ++ slot_word slot
status_line Memory = codes "memory"

-- the number with which the program ends
abbrev pub code_of : Status → ℕ
code_of Done = 0
code_of Words = 1
code_of (Matrix slot fault) = 2
code_of (status.Formats fault) = 3
code_of (status.UnknownName k) = 4
code_of (status.Refused k r) = 5
code_of (status.Container fault) = 6
code_of (status.TooLarge hop) = 7
code_of (status.Operand columns have want) = 8
code_of (status.Code fault) = 9
code_of (status.Unbound u) = 9
code_of (status.Sources want have) = 9
code_of (status.NotWellFormed why) = 10
code_of (status.OutOfSteps budget) = 11
code_of (ReadFault slot) = 12
code_of (WriteFault slot) = 13
code_of (TooLong slot) = 14
code_of Memory = 15
