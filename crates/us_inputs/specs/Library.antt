-- The declarations of a library of formats.
use Rattle.std.specs.Prelude.{ℕ, ◌-◌, List, map, length, Result, Ok, Err}
use Rattle.us_tokens.specs.Reading.{Answer, Read, Whole, NoToken, Form, Broken, scan}
use Rattle.us_decl.specs.declared.lexeme.Lexeme.{Lexeme}
use Rattle.us_parse.specs.declared.parsed.DeclFault.{DeclFault}
use Rattle.us_parse.specs.declared.parsed.DeclFault.TheVariants as fault
use Rattle.us_decl.specs.Grammar.{Run, Empty, Decl}
use Rattle.us_parse.specs.Within.{Break, TooBig, Repeated}
use Rattle.us_decl.specs.Declares.{Declared, declared, run_items}
use Rattle.us_parse.specs.Machine.{library_reader, Closed}
use Rattle.us_parse.specs.Parses.{tokens_of}

-- the fault of a broken limit
abbrev pub broken : Break → ℕ → DeclFault
broken TooBig place = fault.TooBig place
broken Repeated place = fault.Repeated place

-- what the answer of a reading says of a text of so many bytes; a library is read to its end
abbrev pub told : ℕ → Answer Lexeme (Run Decl) Break → Result (List Declared) DeclFault
told len (Whole ds) = Ok (map declared (run_items ds))
told len (Read ds behind more) = Ok (map declared (run_items ds))
told len (NoToken left) = Err (fault.Token (len - left))
told len (Form left) = Err (fault.Form (len - left))
told len (Broken limit left) = Err (broken limit (len - left))

-- the reading of the bytes of a library
abbrev pub reading_of : List ℕ → Answer Lexeme (Run Decl) Break
reading_of bytes = scan library_reader (tokens_of bytes) (Closed Empty)

-- the declarations that the bytes of a library hold, in order, or the first fault of its text
abbrev pub library_in : List ℕ → Result (List Declared) DeclFault
library_in bytes = told (length bytes) (reading_of bytes)
