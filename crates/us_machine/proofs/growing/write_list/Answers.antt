use Rattle.std.proofs.Common.{rules, arith, ◌∙◌, w64, get_or, pos, FitsSigned}
use Rattle.std.proofs.lemmas.Int.{to_z-of_z}
use Rattle.us_machine.proofs.Splices.{written}
use Rattle.us_machine.proofs.growing.write_list.Goals as goal

pub loop-x-preserved : goal.loop-x-preserved
loop-x-preserved c =
    let f : FitsSigned w64 (get_or c.args.cells.now c.loop-x.x (pos 0)) = search rules in
    record {
      lists = written c.args.region.now.lists c.loop-x.region.lists c.set.new.self.lists c.args.seg c.loop-x.x c.args.cells.now _ c.requires.there (omega arith) c.requires.long (to_z-of_z w64 (get_or c.args.cells.now c.loop-x.x (pos 0)) f) c.loop-x.invariant.lists c.set.ensures.lists;
      widths = c.set.ensures.widths ∙ c.loop-x.invariant.widths;
    }
