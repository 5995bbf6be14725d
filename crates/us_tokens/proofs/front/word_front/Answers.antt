use Rattle.us_tokens.proofs.Standing.{word_stands}
use Rattle.us_tokens.proofs.front.word_front.Goals as goal

pub returns-clause-token : goal.returns-clause-token
returns-clause-token g c = word_stands g.K.Kind.language c.args.bytes.now c.word_len-len.result c.word.result c.requires.gap c.requires.word c.word_len-len.ensures c.word.ensures
