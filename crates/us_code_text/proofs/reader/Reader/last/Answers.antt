use Rattle.std.proofs.Common.{◌≡◌, true, None, ap, sym, ◌∙◌, rules}
use Rattle.us_tokens.specs.Text.{after}
use Rattle.us_code_table.specs.Limits.{check, measure}
use Rattle.us_code_table.specs.Words.{token}
use Rattle.us_code_table.specs.declared.lexeme.Lexeme.TheVariants as lexeme
use Rattle.us_code_text.specs.Reads.{text_of, count_of}
use Rattle.us_code_text.proofs.Chains.{last_read}
use Rattle.us_code_text.proofs.reader.Reader.last.Goals as goal

pub returns-in-Some : goal.returns-in-Some
returns-in-Some c =
    let yes : c.stands.result ≡ true = search rules in
    let fits : check (measure (count_of c.args.self.now) None (token (lexeme.Fixed c.args.mark))) (token (lexeme.Fixed c.args.mark)) ≡ None = ap (λ x. check x (token (lexeme.Fixed c.args.mark))) (sym c.in-Some.ensures.counts.0) ∙ c.in-Some.ensures.counts.1 in
    rw c.behind-in-Some.ensures (after (text_of c.args.self.now), λ k. last_read c.args.mark (text_of c.args.self.now) (count_of c.args.self.now) (c.stands.ensures.yes yes) k fits)
