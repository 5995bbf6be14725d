use Rattle.std.proofs.Common.{◌*◌, ◌≤◌, ap₂, subst, sym}
use Rattle.us_matrix.specs.Map.{IsMatrix, IsSide, Map}
use Rattle.us_products.proofs.MultiplyLemmas.{finished_is}
use Rattle.us_products.proofs.multiplying.finished.Goals as goal

pub tell-requires : goal.tell-requires
tell-requires c = c.requires.run.right.limits

pub written-requires-clause-rows : goal.written-requires-clause-rows
written-requires-clause-rows c = subst IsSide (sym c.requires.run.rows) (subst (λ (m : Map). IsMatrix m) c.matrix.ensures c.shape.ensures.matrix).rows

pub written-requires-clause-cols : goal.written-requires-clause-cols
written-requires-clause-cols c = subst IsSide (sym c.requires.run.cols) c.requires.cols

pub written-requires-clause-few : goal.written-requires-clause-few
written-requires-clause-few c = subst (λ n. n ≤ 33554432) (sym (ap₂ (λ a b. a * b) c.requires.run.rows c.requires.run.cols)) c.requires.run.few

pub returns-in-Ok-clause-made : goal.returns-in-Ok-clause-made
returns-in-Ok-clause-made c =
    finished_is c.args.vector c.args.listed c.args.journey.held c.args.x.now c.args.run c.args.journey.lines.items c.args.journey.listing.items c.tell.new.journey.lines.items
    c.tell.new.journey.listing.items c.written.result (subst (λ (m : Map). IsMatrix m) c.matrix.ensures c.shape.ensures.matrix) c.requires.run c.in-Ok.ensures.lines c.in-Ok.ensures.lists c.written.ensures.bytes c.written.ensures.grid c.written.ensures.lines
    c.written.ensures.listing
