-- All texts are read as the grammars say.
use Rattle.std.proofs.Common.{ℕ, List, []}
use Rattle.us_tokens.specs.Lex.{lexed, Between}
use Rattle.us_tokens.specs.Text.{Text}
use Rattle.us_grammar.specs.Reading.{Means, answer}
use Rattle.us_parse.specs.Laws.{LibraryLaw, ReadingLaw}
use Rattle.us_parse.specs.Parses.{tokens_of}
use Rattle.us_code_table.specs.Limits.{limits}
use Rattle.us_code_table.specs.Table.{Whole, grammar}
use Rattle.us_code_table.specs.Words.{language}
use Rattle.us_code_table.specs.declared.lexeme.Lexeme.{Lexeme}
use Rattle.us_top.specs.Headline.{AllAreReadByGrammar}

pub all_are_read : LibraryLaw → ReadingLaw → ((all : Text Lexeme) → Means grammar limits Whole all (answer grammar limits Whole all)) → AllAreReadByGrammar
all_are_read library declaration program bytes = record {
  library = library (tokens_of bytes);
  declaration = declaration [] (tokens_of bytes);
  program = program (lexed language bytes Between);
}
