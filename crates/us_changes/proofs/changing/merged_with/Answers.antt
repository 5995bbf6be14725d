use Rattle.std.proofs.Common.{◌≡◌, ◌≤◌, length}
use Rattle.std.specs.List.{All}
use Rattle.us_changes.specs.declared.merging.Merged.{Merged}
use Rattle.us_changes.specs.Edits.{edited, old_values}
use Rattle.us_changes.specs.Keeping.{IsPut, IsEditedTo, put_all}
use Rattle.us_changes.proofs.EditLemmas.{on_ok, AreSorted, merged_edit, merged_back, merged_inside, merged_few}
use Rattle.us_changes.proofs.changing.merged_with.Goals as goal

pub returns-clause-matrix : goal.returns-clause-matrix
returns-clause-matrix c =
    let m = c.args.matrix.now in
    let steps = c.args.steps.now in
    let shape = c.shape-shape.result in
    let es = c.entries-entries.result.now in
    let sets = c.in_ok-sets.sets.items in
    let sorted = c.sort_sets.new.sets.items in
    let given = c.deref.result.now in
    let h : AreSorted m steps shape.rows shape.cols sets sorted given es = record {
      is = c.shape-shape.ensures.matrix;
      rows_are = c.shape-shape.ensures.value.0;
      cols_are = c.shape-shape.ensures.value.1;
      state = c.in_ok-sets.ensures.state;
      inside = c.in_ok-sets.ensures.inside;
      few = c.in_ok-sets.ensures.few;
      order = c.in_ok-sort_sets.ensures;
      given_are = c.deref.ensures.value;
      entries_are = c.entries-entries.ensures.value;
    } in
    on_ok (λ (r : Merged). r.entries.items ≡ put_all given es) (λ (r : Merged). IsEditedTo m steps r.entries.items) c.merge.result
    (λ r e. merged_edit m steps shape.rows shape.cols sets sorted given es r.entries.items h e) c.merge.ensures.entries

pub returns-clause-back : goal.returns-clause-back
returns-clause-back c =
    let m = c.args.matrix.now in
    let steps = c.args.steps.now in
    let shape = c.shape-shape.result in
    let es = c.entries-entries.result.now in
    let sets = c.in_ok-sets.sets.items in
    let sorted = c.sort_sets.new.sets.items in
    let given = c.deref.result.now in
    let h : AreSorted m steps shape.rows shape.cols sets sorted given es = record {
      is = c.shape-shape.ensures.matrix;
      rows_are = c.shape-shape.ensures.value.0;
      cols_are = c.shape-shape.ensures.value.1;
      state = c.in_ok-sets.ensures.state;
      inside = c.in_ok-sets.ensures.inside;
      few = c.in_ok-sets.ensures.few;
      order = c.in_ok-sort_sets.ensures;
      given_are = c.deref.ensures.value;
      entries_are = c.entries-entries.ensures.value;
    } in
    on_ok (λ (r : Merged). r.back.items ≡ old_values es (put_all given es)) (λ (r : Merged). r.back.items ≡ old_values m.entries (edited m steps).entries) c.merge.result
    (λ r e. merged_back m steps shape.rows shape.cols sets sorted given es r.back.items h e) c.merge.ensures.back

pub returns-clause-inside : goal.returns-clause-inside
returns-clause-inside c =
    let m = c.args.matrix.now in
    let steps = c.args.steps.now in
    let shape = c.shape-shape.result in
    let es = c.entries-entries.result.now in
    let sets = c.in_ok-sets.sets.items in
    let sorted = c.sort_sets.new.sets.items in
    let given = c.deref.result.now in
    let h : AreSorted m steps shape.rows shape.cols sets sorted given es = record {
      is = c.shape-shape.ensures.matrix;
      rows_are = c.shape-shape.ensures.value.0;
      cols_are = c.shape-shape.ensures.value.1;
      state = c.in_ok-sets.ensures.state;
      inside = c.in_ok-sets.ensures.inside;
      few = c.in_ok-sets.ensures.few;
      order = c.in_ok-sort_sets.ensures;
      given_are = c.deref.ensures.value;
      entries_are = c.entries-entries.ensures.value;
    } in
    on_ok (λ (r : Merged). r.back.items ≡ old_values es (put_all given es)) (λ (r : Merged). All (IsPut m.rows m.cols) r.back.items) c.merge.result
    (λ r e. merged_inside m steps shape.rows shape.cols sets sorted given es r.back.items h e) c.merge.ensures.back

pub returns-clause-few : goal.returns-clause-few
returns-clause-few c =
    let m = c.args.matrix.now in
    let steps = c.args.steps.now in
    let shape = c.shape-shape.result in
    let es = c.entries-entries.result.now in
    let sets = c.in_ok-sets.sets.items in
    let sorted = c.sort_sets.new.sets.items in
    let given = c.deref.result.now in
    let h : AreSorted m steps shape.rows shape.cols sets sorted given es = record {
      is = c.shape-shape.ensures.matrix;
      rows_are = c.shape-shape.ensures.value.0;
      cols_are = c.shape-shape.ensures.value.1;
      state = c.in_ok-sets.ensures.state;
      inside = c.in_ok-sets.ensures.inside;
      few = c.in_ok-sets.ensures.few;
      order = c.in_ok-sort_sets.ensures;
      given_are = c.deref.ensures.value;
      entries_are = c.entries-entries.ensures.value;
    } in
    on_ok (λ (r : Merged). length r.back.items ≤ length given) (λ (r : Merged). length r.back.items ≤ length steps) c.merge.result
    (λ r le. merged_few m steps shape.rows shape.cols sets sorted given es r.back.items h le) c.merge.ensures.few
