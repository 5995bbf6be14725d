use Rattle.std.proofs.Common.{sym, ◌∙◌}
use Rattle.std.proofs.lemmas.Bool.{false≢true}
use Rattle.us_inputs.proofs.ChainLemmas.{is_above, many, unnamed, named_all}
use Rattle.us_inputs.proofs.chain.is_chain.Goals.{then-count-le-MOST_NAMES, else-count-le-MOST_NAMES}
use Rattle.us_inputs.proofs.chain.is_chain.Goals as goal

pub returns-then-has_names : goal.returns-then-has_names
returns-then-has_names c =
    elim c.if-count-le-MOST_NAMES.branch [
      | then-count-le-MOST_NAMES w ↦
          sym
          (named_all c.args.chain.now _ _ _ _ c.count_names-count.ensures w.if-count-le-MOST_NAMES.true w.has_names.ensures (sym w.value-is ∙ c.if-has_names.true) c.saturating_sub.ensures
          c.has_text_before.ensures)
      | else-count-le-MOST_NAMES w ↦ absurd (false≢true (sym (w.value-is ∙ is_above _ w.if-count-le-MOST_NAMES.false) ∙ c.if-has_names.true))
    ]

pub returns-else-has_names : goal.returns-else-has_names
returns-else-has_names c =
    elim c.if-count-le-MOST_NAMES.branch [
      | then-count-le-MOST_NAMES w ↦ c.if-has_names.false ∙ sym (unnamed c.args.chain.now _ _ c.count_names-count.ensures w.if-count-le-MOST_NAMES.true w.has_names.ensures (sym w.value-is ∙ c.if-has_names.false))
      | else-count-le-MOST_NAMES w ↦ w.value-is ∙ is_above _ w.if-count-le-MOST_NAMES.false ∙ sym (many c.args.chain.now _ c.count_names-count.ensures w.if-count-le-MOST_NAMES.false)
    ]
