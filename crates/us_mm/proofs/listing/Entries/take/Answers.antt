use Rattle.std.proofs.Common.{sym, subst, false, ◌++◌, ◌∷◌, []}
use Rattle.std.proofs.lemmas.Result.{err_from_is_err_and}
use Rattle.us_mm.specs.Known.{HasEntries}
use Rattle.us_mm.proofs.KnowsLemmas.{took_fault, entries_skip, entries_more, entries_fail, entries_extra}
use Rattle.us_mm.proofs.listing.Entries.take.Goals as goal

pub returns-then-is_skipped : goal.returns-then-is_skipped
returns-then-is_skipped c = λ ls h is. entries_skip c.args.self.now ls c.args.line.now h (sym c.if-is_skipped.ensures)

pub returns-then-self : goal.returns-then-self
returns-then-self c = λ ls h is. entries_extra _ ls c.args.line.now c.args.number (subst (λ e. HasEntries e ls) (sym c.self.view_is) h) (sym c.if-is_skipped.ensures) is c.if-self.true

pub returns-in_err-triple : goal.returns-in_err-triple
returns-in_err-triple c = λ ls h is.
    let p = err_from_is_err_and c.from_residual.result c.from_residual.ensures.1 in
    rw (p.1, p.2) (took_fault {A = Unit {0}} (λ _. HasEntries c.args.self.now (ls ++ c.args.line.now ∷ [])) false _ (ls ++ c.args.line.now ∷ []) (entries_fail _ ls c.args.line.now c.args.number _ (subst (λ e. HasEntries e ls) (sym c.self.view_is) h) (sym c.if-is_skipped.ensures) is c.if-self.false (sym c.in_err-triple.ensures.value)))

pub returns : goal.returns
returns c = λ ls h is.
    entries_more _ ls c.args.line.now c.args.number _ c.push_entry.new.triples.items (subst (λ e. HasEntries e ls) (sym c.self.view_is) h) (sym c.if-is_skipped.ensures) is c.if-self.false (sym c.in_ok-triple.ensures.value) c.in_ok-push_entry.ensures.value
