use Rattle.std.specs.Prelude.{All}
use Rattle.std.proofs.Common.{◌≡◌, ◌-◌, ◌<◌, ◌≤◌, List, length, map, sym, ap, subst, ◌∙◌, arith, rules}
use Rattle.us_expr.specs.declared.queries.Query.{Query as QueryCode}
use Rattle.us_format.specs.Declaration.{Query, Part, query_of}
use Rattle.us_format.specs.Program.{plain_shape}
use Rattle.us_code.specs.Plain.{phase_tree}
use Rattle.us_judge.specs.Format.{part_at}
use Rattle.us_judge.specs.Views.{declaration_of}
use Rattle.us_gen_counting.specs.Rooms.{IsCountable}
use Rattle.us_gen_queries.proofs.Meanings.{codes_few, codes_within, counts_part, part_countable, part_names, part_queries}
use Rattle.us_gen_queries.proofs.generators.count_queries.Goals as goal

pub count_list-requires-clause-within : goal.count_list-requires-clause-within
count_list-requires-clause-within c =
    let x = c.args.format.now in
    let below : c.args.part - 1 < length (declaration_of x).parts = omega (arith, c.requires.from_one, c.requires.part) in
    let qs : map query_of c.as_slice-queries.result.now ≡ (part_at (declaration_of x) (c.args.part - 1)).queries = ap (λ (q : List QueryCode). map query_of q) c.as_slice-queries.ensures ∙ ap (λ (p : Part). p.queries) c.part-part.ensures.is in
    codes_within c.as_slice-queries.result.now (subst (λ (q : List Query). All IsCountable q) (sym qs) (part_countable x c.part-part.ensures.valid c.part-part.ensures.accepted (c.args.part - 1) below))

pub count_list-requires-clause-names : goal.count_list-requires-clause-names
count_list-requires-clause-names c =
    let x = c.args.format.now in
    let below : c.args.part - 1 < length (declaration_of x).parts = omega (arith, c.requires.from_one, c.requires.part) in
    omega (arith, c.len.ensures, ap (λ (p : Part). p.names) c.part-part.ensures.is, part_names x c.part-part.ensures.valid c.part-part.ensures.accepted (c.args.part - 1) below)

pub count_list-requires-clause-room : goal.count_list-requires-clause-room
count_list-requires-clause-room c =
    let x = c.args.format.now in
    let below : c.args.part - 1 < length (declaration_of x).parts = omega (arith, c.requires.from_one, c.requires.part) in
    let qs : map query_of c.as_slice-queries.result.now ≡ (part_at (declaration_of x) (c.args.part - 1)).queries = ap (λ (q : List QueryCode). map query_of q) c.as_slice-queries.ensures ∙ ap (λ (p : Part). p.queries) c.part-part.ensures.is in
    let few : length c.as_slice-queries.result.now ≤ 16 = codes_few c.as_slice-queries.result.now _ 16 qs (part_queries x c.part-part.ensures.valid c.part-part.ensures.accepted (c.args.part - 1) below) in
    omega (arith, few, c.next-next.ensures, c.requires.room)

pub overflow_cast-queries : goal.overflow_cast-queries
overflow_cast-queries c =
    let x = c.args.format.now in
    let below : c.args.part - 1 < length (declaration_of x).parts = omega (arith, c.requires.from_one, c.requires.part) in
    let qs : map query_of c.as_slice-queries.result.now ≡ (part_at (declaration_of x) (c.args.part - 1)).queries = ap (λ (q : List QueryCode). map query_of q) c.as_slice-queries.ensures ∙ ap (λ (p : Part). p.queries) c.part-part.ensures.is in
    let few : length c.as_slice-queries.result.now ≤ 16 = codes_few c.as_slice-queries.result.now _ 16 qs (part_queries x c.part-part.ensures.valid c.part-part.ensures.accepted (c.args.part - 1) below) in
    record { fits = omega (arith, few) }

pub overflow_mul-queries : goal.overflow_mul-queries
overflow_mul-queries c =
    let x = c.args.format.now in
    let below : c.args.part - 1 < length (declaration_of x).parts = omega (arith, c.requires.from_one, c.requires.part) in
    let qs : map query_of c.as_slice-queries.result.now ≡ (part_at (declaration_of x) (c.args.part - 1)).queries = ap (λ (q : List QueryCode). map query_of q) c.as_slice-queries.ensures ∙ ap (λ (p : Part). p.queries) c.part-part.ensures.is in
    let few : length c.as_slice-queries.result.now ≤ 16 = codes_few c.as_slice-queries.result.now _ 16 qs (part_queries x c.part-part.ensures.valid c.part-part.ensures.accepted (c.args.part - 1) below) in
    record { fits = omega (arith, few) }

pub take-requires : goal.take-requires
take-requires c =
    let x = c.args.format.now in
    let below : c.args.part - 1 < length (declaration_of x).parts = omega (arith, c.requires.from_one, c.requires.part) in
    let qs : map query_of c.as_slice-queries.result.now ≡ (part_at (declaration_of x) (c.args.part - 1)).queries = ap (λ (q : List QueryCode). map query_of q) c.as_slice-queries.ensures ∙ ap (λ (p : Part). p.queries) c.part-part.ensures.is in
    let few : length c.as_slice-queries.result.now ≤ 16 = codes_few c.as_slice-queries.result.now _ 16 qs (part_queries x c.part-part.ensures.valid c.part-part.ensures.accepted (c.args.part - 1) below) in
    omega (arith, few, c.requires.room)

pub returns-clause-counts : goal.returns-clause-counts
returns-clause-counts c =
    let x = c.args.format.now in
    let below : c.args.part - 1 < length (declaration_of x).parts = omega (arith, c.requires.from_one, c.requires.part) in
    let qs : map query_of c.as_slice-queries.result.now ≡ (part_at (declaration_of x) (c.args.part - 1)).queries = ap (λ (q : List QueryCode). map query_of q) c.as_slice-queries.ensures ∙ ap (λ (p : Part). p.queries) c.part-part.ensures.is in
    counts_part (plain_shape c.args.shape) (map query_of c.as_slice-queries.result.now) (part_at (declaration_of x) (c.args.part - 1)).queries c.args.entries.now c.bare-plain.result c.len.result c.args.fresh.now c.next-next.result
    (map phase_tree c.in_ok-piece.piece.phases) c.in_ok-piece.piece.columns c.in_ok-piece.piece.buffers qs c.bare-plain.ensures c.next-next.ensures
    (part_countable x c.part-part.ensures.valid c.part-part.ensures.accepted (c.args.part - 1) below) c.in_ok-piece.ensures.phases c.in_ok-piece.ensures.columns c.in_ok-piece.ensures.buffers
    (record { rows = search rules; cols = search rules; count = search rules; variables = omega arith }) (part_queries x c.part-part.ensures.valid c.part-part.ensures.accepted (c.args.part - 1) below) c.requires.room
