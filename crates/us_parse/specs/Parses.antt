-- What parsing answers.
use Rattle.std.specs.Prelude.{◌≡◌, ◌+◌, ◌-◌, ◌≤◌, ℕ, List, [], map, drop, length, Option, Some, None, Result, Ok, Err, Bool, true, false, not, ◌&&◌}
use Rattle.us_tokens.specs.Text as text
use Rattle.us_tokens.specs.Text.{Text}
use Rattle.us_tokens.specs.Lex.{lexed, Between}
use Rattle.us_tokens.specs.Reading.{Answer, Read, Whole, NoToken, Form, Broken, scan, Means}
use Rattle.us_decl.specs.declared.lexeme.Lexeme.{Lexeme}
use Rattle.us_parse.specs.declared.stop.Stop.{Stop}
use Rattle.us_parse.specs.declared.stop.Stop.TheVariants as stop
use Rattle.us_parse.specs.declared.parsed.OneDecl.{OneDecl}
use Rattle.us_parse.specs.declared.parsed.DeclFault.{DeclFault}
use Rattle.us_parse.specs.declared.parsed.DeclFault.TheVariants as fault
use Rattle.us_decl.specs.declared.library.Library.{Library}
use Rattle.us_decl.specs.declared.decl.Decl as decls
use Rattle.us_decl.specs.Words.{language}
use Rattle.us_decl.specs.Grammar.{Run, Empty, Then, Decl}
use Rattle.us_parse.specs.Piece.{AtFormat}
use Rattle.us_decl.specs.Limits.{all_run, fits_decl}
use Rattle.us_parse.specs.Within.{Break, TooBig, Repeated}
use Rattle.us_decl.specs.Names.{is_among}
use Rattle.us_decl.specs.Declares.{declared, run_items, IsValid}
use Rattle.us_parse.specs.Machine.{reader, library_reader, Closed, names_of}
use Rattle.us_decl.specs.Views.{decl_view, decl_names}
use Rattle.us_parse.specs.Reads.{answer_of}
use Rattle.us_parse.specs.ReadsDecls.{IsAnswer}

-- the tokens of these bytes
abbrev pub tokens_of : List ℕ → Text Lexeme
tokens_of bytes = lexed language bytes Between

-- the answer of a reading is a fault, at this place of a text of so many bytes; of want of memory nothing is said
abbrev pub TellsFault : {D : Type 0} → ℕ → DeclFault → Answer Lexeme D Break → Type 0
TellsFault len (fault.Token place) a = (left : ℕ) × (a ≡ NoToken left) × (place + left ≡ len)
TellsFault len (fault.Form place) a = (left : ℕ) × (a ≡ Form left) × (place + left ≡ len)
TellsFault len (fault.TooBig place) a = (left : ℕ) × (a ≡ Broken TooBig left) × (place + left ≡ len)
TellsFault len (fault.Repeated place) a = (left : ℕ) × (a ≡ Broken Repeated left) × (place + left ≡ len)
TellsFault len fault.Memory a = Unit {0}

-- a declaration that was read, and the place behind its brace
pub record TellsOne (len : ℕ) (one : OneDecl) (a : Answer Lexeme Decl Break) : Type 0 where
  pub text : Decl
  pub behind : ℕ
  pub more : Text Lexeme
  pub is : a ≡ Read text behind more
  pub view : decl_view one.decl ≡ declared text
  pub valid : IsValid (decl_view one.decl)
  pub end_is : one.end + behind ≡ len

abbrev pub TellsOneResult : ℕ → Result OneDecl DeclFault → Answer Lexeme Decl Break → Type 0
TellsOneResult len (Ok one) a = TellsOne len one a
TellsOneResult len (Err f) a = TellsFault len f a

-- the answer of reading one declaration from a place, what it means, and that the result tells it
pub record ParsesOne (bytes : List ℕ) (from : ℕ) (result : Result OneDecl DeclFault) : Type 0 where
  pub answer : Answer Lexeme Decl Break
  pub reads : scan (reader []) (tokens_of (drop from bytes)) AtFormat ≡ answer
  pub means : Means (reader []) (tokens_of (drop from bytes)) answer
  pub tells : TellsOneResult (length bytes) result answer

-- no two declarations have one name
abbrev pub are_distinct : Run Decl → Bool
are_distinct Empty = true
are_distinct (Then ds d) = are_distinct ds && not (is_among d.name (names_of ds))

-- a library that was read: each declaration keeps the limits, and no two have one name
pub record TellsLibrary (library : Library) (a : Answer Lexeme (Run Decl) Break) : Type 0 where
  pub text : Run Decl
  pub is : a ≡ Whole text
  pub view : map decl_view library ≡ map declared (run_items text)
  pub fits : all_run fits_decl text ≡ true
  pub distinct : are_distinct text ≡ true

abbrev pub TellsLibraryResult : ℕ → Result Library DeclFault → Answer Lexeme (Run Decl) Break → Type 0
TellsLibraryResult len (Ok library) a = TellsLibrary library a
TellsLibraryResult len (Err f) a = TellsFault len f a

-- the answer of reading a library, what it means, and that the result tells it
pub record ParsesLibrary (bytes : List ℕ) (result : Result Library DeclFault) : Type 0 where
  pub answer : Answer Lexeme (Run Decl) Break
  pub reads : scan library_reader (tokens_of bytes) (Closed Empty) ≡ answer
  pub means : Means library_reader (tokens_of bytes) answer
  pub tells : TellsLibraryResult (length bytes) result answer

-- how many bytes are left at a fault
abbrev pub left_at : Stop → ℕ
left_at (stop.Token n) = n
left_at (stop.Form n) = n
left_at (stop.TooBig n) = n
left_at (stop.Repeated n) = n
left_at stop.Memory = 0

abbrev pub fault_of : ℕ → Stop → DeclFault
fault_of len (stop.Token n) = fault.Token (len - n)
fault_of len (stop.Form n) = fault.Form (len - n)
fault_of len (stop.TooBig n) = fault.TooBig (len - n)
fault_of len (stop.Repeated n) = fault.Repeated (len - n)
fault_of len stop.Memory = fault.Memory

abbrev pub is_end : Text Lexeme → Bool
is_end text.End = true
is_end (text.Bad left) = false
is_end (text.Then k w behind more) = false

-- one declaration from the front, with how many bytes are left behind it
pub record GoesOne (bytes : List ℕ) (decl : decls.Decl) (behind : ℕ) : Type 0 where
  pub text : Decl
  pub more : Text Lexeme
  pub is : scan (reader []) (tokens_of bytes) AtFormat ≡ Read text behind more
  pub view : decl_view decl ≡ declared text
  pub within : behind ≤ length bytes

abbrev pub ReadsOne : List ℕ → Result (decls.Decl × ℕ) Stop → Type 0
ReadsOne bytes (Ok x) = GoesOne bytes x.0 x.1
ReadsOne bytes (Err r) = IsAnswer [] (tokens_of bytes) (answer_of r) × (left_at r ≤ length bytes)

-- a fault of a library's reading
abbrev pub library_answer : Stop → Option (Answer Lexeme (Run Decl) Break)
library_answer (stop.Token n) = Some (NoToken n)
library_answer (stop.Form n) = Some (Form n)
library_answer (stop.TooBig n) = Some (Broken TooBig n)
library_answer (stop.Repeated n) = Some (Broken Repeated n)
library_answer stop.Memory = None

abbrev pub IsLibraryAnswer : Text Lexeme → Option (Answer Lexeme (Run Decl) Break) → Type 0
IsLibraryAnswer old None = Unit {0}
IsLibraryAnswer old (Some x) = scan library_reader old (Closed Empty) ≡ x

-- declarations so far, one after the other
pub record GoesLibrary (old new : Text Lexeme) (decls : List decls.Decl) : Type 0 where
  pub text : Run Decl
  pub names : names_of text ≡ decl_names decls
  pub view : map decl_view decls ≡ map declared (run_items text)
  pub goes : scan library_reader old (Closed Empty) ≡ scan library_reader new (Closed text)

abbrev pub ReadsLibrary : List ℕ → Result Library Stop → Type 0
ReadsLibrary bytes (Ok library) = (new : Text Lexeme) × GoesLibrary (tokens_of bytes) new library × (is_end new ≡ true)
ReadsLibrary bytes (Err r) = IsLibraryAnswer (tokens_of bytes) (library_answer r) × (left_at r ≤ length bytes)
