use Rattle.std.proofs.Common.{◌≡◌, ◌∙◌, ℕ, List, ℤ, [], length, get_or, ap, sym, subst, IfOk}
use Rattle.std.proofs.lemmas.List.Elements.{All-map}
use Rattle.us_code.specs.Sort.{ordered}
use Rattle.us_machine.specs.Sorting.{lists_at, lists_of, AreLists}
use Rattle.us_machine.specs.Tables.{seg_of}
use Rattle.us_machine.proofs.Sortings.{same_lists}
use Rattle.us_machine.proofs.sorting.ordered.Goals as goal

pub sorted-requires-clause-lists : goal.sorted-requires-clause-lists
sorted-requires-clause-lists c =
    let t = c.args.tables.now in
    let lists = c.args.region.now.lists in
    subst (λ (segs : List ℕ). AreLists lists c.args.len segs) (sym (c.as_slice.ensures.value ∙ c.in_ok-segs.ensures))
    (All-map (λ s. length (get_or lists s []) ≡ c.args.len) (seg_of t) c.args.keys.now c.requires.long)

pub returns : goal.returns
returns c =
    let t = c.args.tables.now in
    let lists = c.args.region.now.lists in
    let e : lists_at lists c.as_slice.result.now ≡ lists_of t lists c.args.keys.now =
    ap (lists_at lists) (c.as_slice.ensures.value ∙ c.in_ok-segs.ensures) ∙ same_lists t lists c.args.keys.now in
    subst (λ (keys : List (List ℤ)). IfOk c.sorted.result (λ v. v.items ≡ ordered keys c.args.len)) e c.sorted.ensures
