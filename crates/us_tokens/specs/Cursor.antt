-- The text from the token at which a cursor stands.
use Rattle.us_tokens.specs.declared.cursor.Cursor.{Cursor}
use Rattle.us_tokens.specs.Text.{Text}
use Rattle.us_tokens.specs.Lex.{Language}
use Rattle.us_tokens.specs.Front.{standing}

unfoldable pub ahead : {K : Type 0} → Language K → Cursor K → Text K
ahead L c = standing L c.kind c.at.now c.len
