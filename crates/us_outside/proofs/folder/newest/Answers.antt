use Rattle.std.proofs.Common.{Some, map, ap, sym, ◌∙◌}
use Rattle.std.specs.Ordering.{nat_cmp}
use Rattle.std.proofs.lemmas.Cmp.{nat_list_cmp_total}
use Rattle.std.specs.Cmp.Lexicographic.{slice_cmp}
use Rattle.std.specs.FinMap.{find, get-from_entries}
use Rattle.std.specs.Str.{bytes_eq}
use Rattle.us_outside.proofs.FolderLemmas.{find_here, find_there}
use Rattle.us_outside.specs.Folder.{entry_of}
use Rattle.us_outside.proofs.folder.newest.Goals as goal

pub loop-file-init : goal.loop-file-init
loop-file-init c =
    get-from_entries nat_list_cmp_total _ _ ∙ ap (λ l. find (slice_cmp nat_cmp) c.args.name.now (map entry_of l)) (sym c.into_iter-file-iterator.ensures.into_iter_gives.0)

pub returns-then-eq : goal.returns-then-eq
returns-then-eq c =
    let same = ap (λ k. bytes_eq k c.args.name.now) (sym c.as_str.ensures.value) ∙ sym c.if-eq.ensures in
    c.loop-file.invariant ∙ ap (λ l. find (slice_cmp nat_cmp) c.args.name.now (map entry_of l)) c.in-Some.ensures.steps
    ∙ find_here c.args.name.now _ _ _ same ∙ ap Some (sym c.deref.ensures.value)

pub loop-file-preserved : goal.loop-file-preserved
loop-file-preserved c =
    let other = ap (λ k. bytes_eq k c.args.name.now) (sym c.as_str.ensures.value) ∙ sym c.if-eq.ensures in
    c.loop-file.invariant ∙ ap (λ l. find (slice_cmp nat_cmp) c.args.name.now (map entry_of l)) c.in-Some.ensures.steps
    ∙ find_there c.args.name.now _ _ _ other
