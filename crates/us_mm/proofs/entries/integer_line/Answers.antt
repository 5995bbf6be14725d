use Rattle.std.proofs.Common.{sym, ◌∙◌}
use Rattle.us_mm.proofs.EntryLemmas.{integer_usual}
use Rattle.us_mm.proofs.entries.integer_line.Goals as goal

pub returns-in-Some : goal.returns-in-Some
returns-in-Some c =
    let e = c.in-Some.entry in
    let s = c.args.shape in record {
      value = c.entry_numbers.ensures.value
          ∙ sym (integer_usual c.args.symmetry c.args.number s.rows s.cols c.args.line.now e.row e.col e.minus e.size c.requires.rows c.requires.cols (c.in-Some.ensures));
      inside = c.entry_numbers.ensures.inside;
    }
