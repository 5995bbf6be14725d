use Rattle.std.proofs.Common.{ap, ◌∙◌}
use Rattle.us_decl.specs.declared.lexeme.Lexeme.TheVariants as lexeme
use Rattle.us_parse.proofs.Leaves.{goes_row, goes_col, goes_number, goes_variable, tree_row, tree_col, tree_number, tree_variable}
use Rattle.us_parse.proofs.reading.Reader.operand.Goals as goal

pub returns-in-Token-Fixed-I-clause-ok : goal.returns-in-Token-Fixed-I-clause-ok
returns-in-Token-Fixed-I-clause-ok c = goes_row _ _ _ _ _ c.in-Token-Fixed-I.ensures (c.in-Token-Fixed-I.field-0-is ∙ ap lexeme.Fixed c.in-Token-Fixed-I.field-0-0-is) c.advance.ensures c.requires.names tree_row

pub returns-in-Token-Fixed-J-clause-ok : goal.returns-in-Token-Fixed-J-clause-ok
returns-in-Token-Fixed-J-clause-ok c = goes_col _ _ _ _ _ c.in-Token-Fixed-J.ensures (c.in-Token-Fixed-J.field-0-is ∙ ap lexeme.Fixed c.in-Token-Fixed-J.field-0-0-is) c.advance-in-Token-Fixed-J.ensures c.requires.names tree_col

pub returns-in_ok-number-in-Token-Name-clause-ok : goal.returns-in_ok-number-in-Token-Name-clause-ok
returns-in_ok-number-in-Token-Name-clause-ok c = goes_variable _ _ _ _ _ c.in_ok-number-in-Token-Name.ensures.ok _ (tree_variable _)

pub returns-in_ok-number-in-Token-Number-clause-ok : goal.returns-in_ok-number-in-Token-Number-clause-ok
returns-in_ok-number-in-Token-Number-clause-ok c = goes_number _ _ _ _ c.in_ok-number-in-Token-Number.ensures.ok _ c.requires.names (tree_number _)
