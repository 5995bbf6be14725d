use Rattle.std.proofs.Common.{lit<, rules, tests, not, length, ◌==◌}
use Rattle.std.proofs.lemmas.Iterator.Search.{all_from_yields_List}
use Rattle.std.proofs.lemmas.Iterator.Splits.{YieldsList-from_str_split}
use Rattle.us_inputs.proofs.chain.has_names.Goals as goal

pub returns : goal.returns
returns c = all_from_yields_List (λ w. not (length w == 0)) _ _ _ c.all.ensures.ran (YieldsList-from_str_split 44 c.args.chain.now (lit< tt) c.split.ensures.text c.split.ensures.has_more c.split.ensures.pattern) (λ x b q k. search (rules, tests))
