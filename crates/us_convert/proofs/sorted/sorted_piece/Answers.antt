use Rattle.std.proofs.Common.{ℕ, List, [], map, sym, subst, arith, false}
use Rattle.us_format.specs.Program.{plain_shape}
use Rattle.us_judge.specs.Format.{part_at}
use Rattle.us_judge.specs.Views.{declaration_of}
use Rattle.us_code.specs.declared.pieces.Columns.{Columns}
use Rattle.us_code.specs.Plain.{phase_tree}
use Rattle.us_gen_queries.specs.Plain.{bare}
use Rattle.us_gen_parts_build.specs.Meaning.{NamesQueries, BuildsPart}
use Rattle.us_right.specs.Piece.{MakesPart}
use Rattle.us_convert.proofs.Likeness.{names-none}
use Rattle.us_convert.proofs.Straight.{straight, plain-names}
use Rattle.us_convert.proofs.sorted.sorted_piece.Goals as goal

pub build_sorted-requires-clause-query : goal.build_sorted-requires-clause-query
build_sorted-requires-clause-query c =
    let p = part_at (declaration_of c.args.to.now) 0 in
    subst (λ (cs : Columns). NamesQueries (part_at (declaration_of c.args.to.now) 0) cs c.plain_query-query.result.buffers c.args.fresh.now) (sym c.plain_query-query.ensures.columns)
    (subst (λ (bs : List ℕ). NamesQueries (part_at (declaration_of c.args.to.now) 0) (bare c.args.columns.now) bs c.args.fresh.now) (sym c.plain_query-query.ensures.buffers)
    (plain-names (part_at (declaration_of c.args.to.now) 0) c.args.columns.now c.args.fresh.now c.requires.plain
    (names-none c.args.to.now c.requires.valid c.requires.accepted (omega (arith, c.requires.one)) c.requires.plain) c.requires.low))

pub returns-clause-piece : goal.returns-clause-piece
returns-clause-piece c =
    let p = part_at (declaration_of c.args.to.now) 0 in
    let qs = map phase_tree c.in_ok-built.built.phases in
    let builds : BuildsPart false (plain_shape c.args.shape) (part_at (declaration_of c.args.to.now) 0) (bare c.args.columns.now) [] c.args.fresh.now (map phase_tree c.in_ok-built.built.phases) c.in_ok-built.built.buffers =
    subst (λ (bs : List ℕ). BuildsPart false (plain_shape c.args.shape) (part_at (declaration_of c.args.to.now) 0) (bare c.args.columns.now) bs c.args.fresh.now (map phase_tree c.in_ok-built.built.phases) c.in_ok-built.built.buffers)
    c.plain_query-query.ensures.buffers
    (subst (λ (cs : Columns). BuildsPart false (plain_shape c.args.shape) (part_at (declaration_of c.args.to.now) 0) cs c.plain_query-query.result.buffers c.args.fresh.now (map phase_tree c.in_ok-built.built.phases) c.in_ok-built.built.buffers)
    c.plain_query-query.ensures.columns c.in_ok-built.ensures.piece) in
    subst (λ (n : ℕ). MakesPart false (plain_shape c.args.shape) (declaration_of c.args.to.now) 0 c.args.columns.now c.args.fresh.now n (map phase_tree c.in_ok-built.built.phases) c.in_ok-built.built.buffers) (sym c.in_ok-built.ensures.taken)
    (straight (plain_shape c.args.shape) c.args.to.now c.args.columns.now c.args.fresh.now (map phase_tree c.in_ok-built.built.phases) c.in_ok-built.built.buffers c.requires.valid c.requires.accepted c.requires.one c.requires.plain builds)
