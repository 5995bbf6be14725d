use Rattle.us_grammar.proofs.Reading.{answer_means}
use Rattle.us_grammar.proofs.Law.{one_value}
use Rattle.us_grammar.proofs.laws.reading_law.Goals as goal

pub returns-clause-means : goal.returns-clause-means
returns-clause-means g c = λ ok limits n all. answer_means g.G.Table.grammar limits n ok all

pub returns-clause-one : goal.returns-clause-one
returns-clause-one g c = λ ok n ts v w h k. one_value g.G.Table.grammar ok n ts v w h k
