use Rattle.std.proofs.Common.{sym, subst}
use Rattle.us_mm.specs.Known.{HasEntries}
use Rattle.us_mm.proofs.KnowsLemmas.{entries_missing, entries_end}
use Rattle.us_mm.proofs.listing.Entries.finish.Goals as goal

pub returns-then-self-clause-value : goal.returns-then-self-clause-value
returns-then-self-clause-value c = λ ls h. entries_missing _ ls (subst (λ e. HasEntries e ls) (sym c.self.view_is) h) c.if-self.true

pub returns-clause-value : goal.returns-clause-value
returns-clause-value c = λ ls h. entries_end _ ls (subst (λ e. HasEntries e ls) (sym c.self.view_is) h) c.if-self.false
