use Rattle.std.proofs.Common.{rules, arith, [], ◌∙◌, sym, w64, get_or, FitsSigned}
use Rattle.std.proofs.lemmas.Int.{to_z-of_z}
use Rattle.us_machine.proofs.Splices.{written}
use Rattle.us_machine.proofs.growing.copy_list.Goals as goal

pub loop-x-preserved : goal.loop-x-preserved
loop-x-preserved c =
    let f : FitsSigned w64 c.get-cell.result = search rules in
    record {
      lists = written c.args.region.now.lists c.loop-x.region.lists c.set.new.self.lists c.args.seg c.loop-x.x (get_or c.args.old.now.lists c.args.seg []) _ c.requires.there.0 (omega (arith, c.requires.long.1)) (c.requires.long.0 ∙ sym c.requires.long.1) (to_z-of_z w64 c.get-cell.result f ∙ c.get-cell.ensures) c.loop-x.invariant.lists c.set.ensures.lists;
      widths = c.set.ensures.widths ∙ c.loop-x.invariant.widths;
    }
