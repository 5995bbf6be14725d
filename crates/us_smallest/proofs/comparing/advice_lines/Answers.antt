use Rattle.std.proofs.Common.{◌<◌, List, ℕ, refl, length, map, ap, sym, ◌∙◌, arith}
use Rattle.std.proofs.lemmas.List.{length-map}
use Rattle.std.proofs.lemmas.Option.{MatchOption-at_some}
use Rattle.us_decl.specs.Declares.{Declared}
use Rattle.us_advise.specs.Least.{AreAbove, IsLeastAt, size_in}
use Rattle.us_smallest.specs.Comparing.{advice_text}
use Rattle.us_smallest.specs.Tables.{line}
use Rattle.us_smallest.proofs.TableLemmas.{lines_done, next_told, table_none, table_some}
use Rattle.us_smallest.proofs.comparing.advice_lines.Goals.{in-Some+in_ok-push_format-in-Some, in-None+in_ok-extend_from_slice-in-None}
use Rattle.us_smallest.proofs.comparing.advice_lines.Goals as goal

pub loop-k-preserved : goal.loop-k-preserved
loop-k-preserved c =
    next_told (λ (d : Declared). d.name) (size_in c.args.matrix.now) c.args.formats.now c.as_slice-sizes.result.now c.loop-k.k _ c.index-formats-k.result c.loop-k.out.items c.push_format.new.out.items _
    (c.as_slice-sizes.ensures ∙ c.in_ok-advice.ensures.sizes) c.loop-k-test.true refl c.index-formats-k.is c.in_ok-push_format.ensures c.loop-k.invariant

pub returns : goal.returns
unfolding advice_text
returns c =
    let name : Declared → List ℕ = λ d. d.name in
    let size = size_in c.args.matrix.now in
    let told_sizes = c.as_slice-sizes.ensures ∙ c.in_ok-advice.ensures.sizes in
    let lines = lines_done (line name size) c.args.formats.now c.loop-k.k c.loop-k.out.items _ (omega (arith, c.loop-k-test.false)) c.loop-k.invariant in
    elim c.match-advice.branch [
      | in-Some+in_ok-push_format-in-Some w ↦
          let least : IsLeastAt (map size c.args.formats.now) w.in-Some.k =
          MatchOption-at_some (AreAbove (map size c.args.formats.now)) (IsLeastAt (map size c.args.formats.now)) w.in-Some.k w.in-Some.is c.in_ok-advice.ensures.smallest in
          let below : w.in-Some.k < length c.args.formats.now = omega (arith, least.place, length-map c.args.formats.now size) in
          ap (λ v. v.items) w.out-is
          ∙ table_some name size c.args.formats.now c.as_slice-sizes.result.now c.loop-k.out.items c.extend_from_slice.new.self.items lines c.in_ok-extend_from_slice.ensures.items w.in-Some.k _ w.index-formats-k-in-Some.result _
          told_sizes below refl w.index-formats-k-in-Some.is w.in_ok-push_format-in-Some.ensures (sym c.in_ok-advice.ensures.best ∙ w.in-Some.is)
      | in-None+in_ok-extend_from_slice-in-None w ↦
          ap (λ v. v.items) w.out-is
          ∙ table_none name size c.args.formats.now c.as_slice-sizes.result.now c.loop-k.out.items c.extend_from_slice.new.self.items lines c.in_ok-extend_from_slice.ensures.items _
          w.in_ok-extend_from_slice-in-None.ensures.items (sym c.in_ok-advice.ensures.best ∙ w.in-None.is)
    ]
