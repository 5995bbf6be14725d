-- Reading a declaration from the front: the piece read so far, one token more at a time.
use Rattle.std.specs.Prelude.{ℕ, List, [], Option, Some, None, ◌∷◌, ◌++◌, true, false}
use Rattle.us_tokens.specs.Reading.{Machine}
use Rattle.us_decl.specs.Token.{Token}
use Rattle.us_decl.specs.declared.lexeme.Lexeme.{Lexeme}
use Rattle.std.specs.Option.{option_map}
use Rattle.us_decl.specs.Grammar.{Run, Empty, Then, Decl, decl_tokens, run_tokens}
use Rattle.us_decl.specs.Words.{token}
use Rattle.us_parse.specs.Piece.{Piece, AtFormat, Done, step}
use Rattle.us_parse.specs.Within.{Break, check}

abbrev pub done : Piece → Option Decl
done (Done d) = Some d
done _ = None

-- where the earlier declarations have these names
abbrev pub reader : List (List ℕ) → Machine Lexeme Token Piece Decl Break
reader earlier = record {
  tokens = decl_tokens;
  token = token;
  start = AtFormat;
  step = step;
  done = done;
  check = check earlier;
  stops = true;
}

-- the declarations of a library
abbrev pub library_tokens : Run Decl → List Token
library_tokens ds = run_tokens decl_tokens ds

abbrev pub names_of : Run Decl → List (List ℕ)
names_of Empty = []
names_of (Then ds d) = names_of ds ++ (d.name ∷ [])

-- Reading a library: whole declarations, or whole declarations and a piece of one more.
pub data Shelf : Type 0 where
  Closed : Run Decl → Shelf
  Opened : Run Decl → Piece → Shelf

abbrev pub shelved : Run Decl → Piece → Shelf
shelved ds (Done d) = Closed (Then ds d)
shelved ds s = Opened ds s

abbrev pub shelf_step : Shelf → Token → Option Shelf
shelf_step (Closed ds) t = option_map (shelved ds) (step AtFormat t)
shelf_step (Opened ds s) t = option_map (shelved ds) (step s t)

abbrev pub shelf_done : Shelf → Option (Run Decl)
shelf_done (Closed ds) = Some ds
shelf_done (Opened ds s) = option_map (Then ds) (done s)

abbrev pub shelf_check : Shelf → Option Break
shelf_check (Closed Empty) = None
shelf_check (Closed (Then ds d)) = check (names_of ds) (Done d)
shelf_check (Opened ds s) = check (names_of ds) s

abbrev pub library_reader : Machine Lexeme Token Shelf (Run Decl) Break
library_reader = record {
  tokens = library_tokens;
  token = token;
  start = Closed Empty;
  step = shelf_step;
  done = shelf_done;
  check = shelf_check;
  stops = false;
}
