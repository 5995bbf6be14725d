-- How the steps of reading answer: as their definitions say, or that memory ran out.
use Rattle.std.specs.Prelude.{◌≡◌, ◌≤◌, ℕ, Result, Ok, Err}
use Rattle.us_decl.specs.Declares.{Declared}
use Rattle.us_decl.specs.declared.decl.Decl.{Decl}
use Rattle.us_parse.specs.declared.parsed.DeclFault.{DeclFault}
use Rattle.us_parse.specs.declared.parsed.DeclFault.TheVariants as parsing
use Rattle.us_decl.specs.Views.{decl_view}
use Rattle.us_container.specs.declared.fault.ContainerFault.{ContainerFault}
use Rattle.us_container.specs.declared.fault.ContainerFault.TheVariants.{Memory}
use Rattle.us_container.specs.declared.text.TextFault.{TextFault}
use Rattle.us_container.specs.declared.text.TextFault.TheVariants as text

-- the fault is that of the definition; of want of memory nothing is said
abbrev pub Fails : {A : Type 0} → Result A ContainerFault → ContainerFault → Type 0
Fails plain Memory = Unit {0}
Fails plain f = plain ≡ Err f

-- the answer is that of the definition, seen by `view`
abbrev pub Answers : {A B : Type 0} → (B → A) → Result A ContainerFault → Result B ContainerFault → Type 0
Answers view plain (Ok x) = plain ≡ Ok (view x)
Answers view plain (Err f) = Fails plain f

-- the same of a text of so many bytes, whose fault is a place
abbrev pub TellsText : ℕ → Result Declared ℕ → Result Decl TextFault → Type 0
TellsText len plain (Ok d) = plain ≡ Ok (decl_view d)
TellsText len plain (Err (text.Place at)) = (plain ≡ Err at) × (at ≤ len)
TellsText len plain (Err text.Memory) = Unit {0}

-- the same of a test of a declaration that is at hand
abbrev pub TellsOf : {A : Type 0} → ℕ → Declared → Result Declared ℕ → Result A TextFault → Type 0
TellsOf len d plain (Ok done) = plain ≡ Ok d
TellsOf len d plain (Err (text.Place at)) = (plain ≡ Err at) × (at ≤ len)
TellsOf len d plain (Err text.Memory) = Unit {0}

-- a fault of reading a declaration, as one of a text
abbrev pub text_fault : DeclFault → TextFault
text_fault (parsing.Token place) = text.Place place
text_fault (parsing.Form place) = text.Place place
text_fault (parsing.TooBig place) = text.Place place
text_fault (parsing.Repeated place) = text.Place place
text_fault parsing.Memory = text.Memory
