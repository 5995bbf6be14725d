use Rattle.std.proofs.Common.{sym, subst, false, ◌∙◌, ◌++◌, ◌∷◌, []}
use Rattle.std.specs.Str.Lines.{strip_carriage_return}
use Rattle.std.proofs.lemmas.Result.{err_from_is_err_and}
use Rattle.us_mm.specs.Known.{HasEntries}
use Rattle.us_mm.proofs.KnowsLemmas.{took_fault, entries_skip, entries_more, entries_fail, entries_extra}
use Rattle.us_mm.proofs.listing.Entries.take_state.Goals as goal

pub returns-then-is_skipped : goal.returns-then-is_skipped
returns-then-is_skipped c = λ rest ls s h is. entries_skip c.args.self.now ls (strip_carriage_return rest) h (sym (c.is_skipped.ensures rest s) ∙ c.if-is_skipped.true)

pub returns-then-self : goal.returns-then-self
returns-then-self c = λ rest ls s h is. entries_extra _ ls (strip_carriage_return rest) c.args.number (subst (λ e. HasEntries e ls) (sym c.self.view_is) h) (sym (c.is_skipped.ensures rest s) ∙ c.if-is_skipped.false) is c.if-self.true

pub returns-in_err-triple : goal.returns-in_err-triple
returns-in_err-triple c = λ rest ls s h is.
    let p = err_from_is_err_and c.from_residual.result c.from_residual.ensures.1 in
    rw (p.1, p.2) (took_fault {A = Unit {0}} (λ _. HasEntries c.args.self.now (ls ++ strip_carriage_return rest ∷ [])) false _ (ls ++ strip_carriage_return rest ∷ []) (entries_fail _ ls (strip_carriage_return rest) c.args.number _ (subst (λ e. HasEntries e ls) (sym c.self.view_is) h) (sym (c.is_skipped.ensures rest s) ∙ c.if-is_skipped.false) is c.if-self.false (sym (c.in_err-triple.ensures.value rest s))))

pub returns : goal.returns
returns c = λ rest ls s h is.
    entries_more _ ls (strip_carriage_return rest) c.args.number _ c.push_entry.new.triples.items (subst (λ e. HasEntries e ls) (sym c.self.view_is) h) (sym (c.is_skipped.ensures rest s) ∙ c.if-is_skipped.false) is c.if-self.false (sym (c.in_ok-triple.ensures.value rest s)) c.in_ok-push_entry.ensures.value
