use Rattle.std.proofs.Common.{◌≡◌, ◌+◌, ◌*◌, All, refl, sym, ap, ◌∙◌, arith}
use Rattle.us_matrix.specs.Map.{IsInShape}
use Rattle.us_sample.specs.Numbers.{after, number_at, triples_of}
use Rattle.us_sample.proofs.NumberLemmas.{number_at-zero, number_at-more, triples_of-none, triples_of-inside, drawn_more}
use Rattle.us_sample.proofs.drawing.triples_after.Goals as goal

pub loop-t-init : goal.loop-t-init
loop-t-init c =
    record {
      last = sym (number_at-zero c.args.seed);
      drawn = c.in_ok-triples.ensures.items ∙ sym (triples_of-none c.args.seed c.args.shape.rows c.args.shape.cols);
    }

pub loop-t-preserved : goal.loop-t-preserved
loop-t-preserved c =
    let seed = c.args.seed in
    let t = c.loop-t.t in
    let row : c.next_number-row.result ≡ number_at seed (3 * t + 1) =
    c.next_number-row.ensures ∙ ap after c.loop-t.invariant.last ∙ sym (number_at-more seed (3 * t) (3 * t + 1) refl) in
    let col : c.next_number-col.result ≡ number_at seed (3 * t + 2) =
    c.next_number-col.ensures ∙ ap after row ∙ sym (number_at-more seed (3 * t + 1) (3 * t + 2) (omega arith)) in
    let value : c.next_number-value.result ≡ number_at seed (3 * t + 3) =
    c.next_number-value.ensures ∙ ap after col ∙ sym (number_at-more seed (3 * t + 2) (3 * t + 3) (omega arith)) in
    record {
      last = value ∙ ap (number_at seed) (omega arith);
      drawn = drawn_more seed c.args.shape.rows c.args.shape.cols t _ _ _ _ _ _ row col value c.triple_in.ensures c.loop-t.invariant.drawn c.in_ok-push.ensures.items;
    }

pub returns-clause-triples : goal.returns-clause-triples
returns-clause-triples c = c.loop-t.invariant.drawn ∙ ap (triples_of c.args.seed c.args.shape.rows c.args.shape.cols) (omega arith)

pub returns-clause-inside : goal.returns-clause-inside
returns-clause-inside c =
    let rows = c.args.shape.rows in
    let cols = c.args.shape.cols in
    let inside : All (IsInShape rows cols) (triples_of c.args.seed rows cols c.loop-t.t) = triples_of-inside c.args.seed rows cols c.loop-t.t (omega (arith, c.requires.0.low)) (omega (arith, c.requires.1.low)) in
    rw c.loop-t.invariant.drawn inside
