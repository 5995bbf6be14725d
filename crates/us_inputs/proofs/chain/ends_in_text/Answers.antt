use Rattle.std.proofs.Common.{lit<, rules, tests}
use Rattle.std.proofs.lemmas.Iterator.Search.{any_from_yields_List}
use Rattle.std.proofs.lemmas.Iterator.Splits.{YieldsList-from_str_split}
use Rattle.us_inputs.specs.Chains.{is_text}
use Rattle.us_inputs.proofs.chain.ends_in_text.Goals as goal

pub returns : goal.returns
returns c = any_from_yields_List is_text _ _ _ c.any.ensures.ran (YieldsList-from_str_split 44 c.args.chain.now (lit< tt) c.split.ensures.text c.split.ensures.has_more c.split.ensures.pattern) (λ x b q k. search (rules, tests))
