use Rattle.std.proofs.Common.{◌+◌, ◌-◌, ◌*◌, ◌≤◌, ℕ, List, length, map, sym, subst, arith, true}
use Rattle.us_format.specs.Program.{plain_shape}
use Rattle.us_judge.specs.Format.{part_at}
use Rattle.us_judge.specs.Views.{declaration_of}
use Rattle.us_judge.proofs.SomePart.{short-part}
use Rattle.us_code.specs.Plain.{phase_tree}
use Rattle.us_gen_queries.specs.Plain.{bare}
use Rattle.us_gen_parts_build.specs.Meaning.{NamesQueries, BuildsPart}
use Rattle.us_gen_parts_build.proofs.Counted.{counted-is-given}
use Rattle.us_convert.specs.Own.{BuildsOwn}
use Rattle.us_convert.proofs.Counted.{own}
use Rattle.us_convert.proofs.Results.{behind-is, on-ok}
use Rattle.us_convert.proofs.parts.own_piece.Goals as goal

pub build-requires-clause-room : goal.build-requires-clause-room
build-requires-clause-room c =
    let short = short-part c.args.to.now (c.args.part - 1) c.requires.valid (omega (arith, c.requires.from_one, c.requires.part)) in
    omega (arith, short.queries, c.in_ok-query.ensures.fresh, c.requires.room)

pub build-requires-clause-query : goal.build-requires-clause-query
build-requires-clause-query c =
    let p = part_at (declaration_of c.args.to.now) (c.args.part - 1) in
    let low = c.requires.low in
    subst (λ (bs : List ℕ). NamesQueries (part_at (declaration_of c.args.to.now) (c.args.part - 1)) c.in_ok-query.query.columns bs c.count_queries.new.fresh) (sym c.in_ok-query.ensures.counts.are)
    (counted-is-given.named (part_at (declaration_of c.args.to.now) (c.args.part - 1)) (bare c.args.columns.now) c.in_ok-query.query.columns c.args.fresh.now c.count_queries.new.fresh c.in_ok-query.ensures.columns low.count low.i low.j low.v
    (omega (arith, c.in_ok-query.ensures.fresh)))

pub returns-clause-piece : goal.returns-clause-piece
returns-clause-piece c =
    let s = plain_shape c.args.shape in
    let p = part_at (declaration_of c.args.to.now) (c.args.part - 1) in
    let n = c.args.fresh.now in
    let cols = c.in_ok-query.query.columns in
    let bs = c.in_ok-query.query.buffers in
    let qs = map phase_tree c.in_ok-built.built.phases in
    let builds : BuildsPart true (plain_shape c.args.shape) (part_at (declaration_of c.args.to.now) (c.args.part - 1)) c.in_ok-query.query.columns c.in_ok-query.query.buffers
    (c.args.fresh.now + 64 * length (part_at (declaration_of c.args.to.now) (c.args.part - 1)).queries) (map phase_tree c.in_ok-built.built.phases) c.in_ok-built.built.buffers =
    subst (λ (m : ℕ). BuildsPart true (plain_shape c.args.shape) (part_at (declaration_of c.args.to.now) (c.args.part - 1)) c.in_ok-query.query.columns c.in_ok-query.query.buffers m (map phase_tree c.in_ok-built.built.phases) c.in_ok-built.built.buffers)
    c.in_ok-query.ensures.fresh c.in_ok-built.ensures.piece in
    behind-is (λ ps out. BuildsOwn (plain_shape c.args.shape) (part_at (declaration_of c.args.to.now) (c.args.part - 1)) c.args.columns.now c.args.fresh.now c.build.new.fresh ps out)
    c.behind.result c.in_ok-query.query.phases c.in_ok-built.built.phases c.in_ok-built.built.buffers c.behind.ensures.phases c.behind.ensures.buffers
    (own (plain_shape c.args.shape) (part_at (declaration_of c.args.to.now) (c.args.part - 1)) c.args.columns.now c.in_ok-query.query.columns c.in_ok-query.query.buffers c.in_ok-built.built.buffers c.args.fresh.now c.build.new.fresh
    (map phase_tree c.in_ok-query.query.phases) (map phase_tree c.in_ok-built.built.phases) c.in_ok-query.ensures.counts builds (omega (arith, c.in_ok-query.ensures.fresh, c.in_ok-built.ensures.taken)))

pub returns-clause-near : goal.returns-clause-near
returns-clause-near c =
    let short = short-part c.args.to.now (c.args.part - 1) c.requires.valid (omega (arith, c.requires.from_one, c.requires.part)) in
    on-ok c.behind.result (c.build.new.fresh ≤ c.args.fresh.now + 2048) (omega (arith, short.queries, c.in_ok-query.ensures.fresh, c.in_ok-built.ensures.taken))
