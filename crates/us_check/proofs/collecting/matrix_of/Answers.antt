use Rattle.std.proofs.Common.{List, All, ap, sym, subst}
use Rattle.us_matrix.specs.declared.matrix.Triple.{Triple}
use Rattle.us_matrix.specs.Map.{Map, IsInShape}
use Rattle.us_format.specs.Program.{shape_in, entries_in}
use Rattle.us_check.specs.Repeats.{IsInOrder, found_entries}
use Rattle.us_check.proofs.Made.{found-in_shape, found-in-order}
use Rattle.us_check.proofs.collecting.matrix_of.Goals as goal

pub from_triples-requires-clause-inside : goal.from_triples-requires-clause-inside
from_triples-requires-clause-inside c =
    subst (λ (l : List Triple). All (IsInShape c.args.shape.rows c.args.shape.cols) l) (sym c.in_ok-triples.ensures.is) (found-in_shape c.args.shape.rows c.args.shape.cols c.args.found.now c.requires.inside)

pub returns-clause-shape : goal.returns-clause-shape
returns-clause-shape c = ap shape_in c.from_triples.ensures.matrix

pub returns-clause-entries : goal.returns-clause-entries
returns-clause-entries c =
    subst (λ (m : Map). IsInOrder (found_entries c.args.found.now) (entries_in m)) (sym c.from_triples.ensures.matrix)
    (found-in-order c.args.shape.rows c.args.shape.cols c.args.found.now c.in_ok-triples.triples.items c.requires.rows c.requires.cols c.in_ok-triples.ensures.is c.requires.inside c.in_ok-triples.ensures.fits c.requires.apart)
