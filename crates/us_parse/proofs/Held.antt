-- The reader of a declaration is held to the grammar.
use Rattle.std.proofs.Common.{◌≡◌, ℕ, List, [], ◌∷◌, ◌++◌, Option, Some, None, refl, ap, subst}
use Rattle.us_tokens.specs.Reading.{IsHeld}
use Rattle.us_parse.proofs.Adds as adding
use Rattle.us_parse.proofs.Finishes as finishing
use Rattle.us_parse.proofs.Complete.{reads_decl}
use Rattle.us_parse.specs.Machine.{reader, done}
use Rattle.us_decl.specs.Token.{Token}
use Rattle.us_decl.specs.Grammar.{Decl, decl_tokens}
use Rattle.us_parse.specs.Piece.{Piece, Done, spelled, step}

pub adds : (s : Piece) (t : Token) (u : Piece) → step s t ≡ Some u → spelled u ≡ spelled s ++ (t ∷ [])
adds s t u e = subst (λ (o : Option Piece). adding.Adds s t o) e (adding.adds s t)

pub ends : (s : Piece) (d : Decl) → done s ≡ Some d → spelled s ≡ decl_tokens d
ends (Done x) d e = let is : x ≡ d = cc in ap decl_tokens is
ends _ d e = absurd cc

pub last : (s : Piece) (t : Token) (d : Decl) → done s ≡ Some d → step s t ≡ None
last (Done x) t d e = refl
last _ t d e = absurd cc

abbrev pub held : (earlier : List (List ℕ)) → IsHeld (reader earlier)
held earlier = record {
  spelled = spelled;
  begins = refl;
  adds = adds;
  ends = ends;
  finishes = λ s. let f = finishing.finishes s in record { more = f.tokens; last = Done f.decl; text = f.decl; leads = f.leads; whole = refl };
  reads = λ d. record { last = Done d; leads = reads_decl d; whole = refl };
  last = λ e. last;
  fits = refl;
}
