use Rattle.std.proofs.Common.{◌≡◌, ◌*◌}
use Rattle.us_sample.specs.Numbers.{number_at, triples_of}
use Rattle.us_sample.proofs.drawing.triples_after.Given as goal

abbrev pub invariant-loop-t : goal.invariant-loop-t
invariant-loop-t l = record { last : l.last ≡ number_at l.fn.seed (3 * l.t); drawn : l.triples.items ≡ triples_of l.fn.seed l.fn.shape.rows l.fn.shape.cols l.t }
