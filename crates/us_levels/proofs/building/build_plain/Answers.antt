use Rattle.std.specs.Prelude.{ℤ}
use Rattle.std.specs.Result.{IfOk, OnOk}
use Rattle.std.proofs.Common.{◌≡◌, ◌<◌, ◌≤◌, ℕ, List, length, map, sym, ap, subst, ◌∙◌, arith}
use Rattle.std.proofs.lemmas.List.{length-map}
use Rattle.us_format.specs.Buffers.{part_buffers}
use Rattle.us_format.specs.Declaration.{Declaration}
use Rattle.us_format.specs.Laws.{unpacked_size}
use Rattle.us_format.specs.Packs.{written}
use Rattle.us_format.specs.Program.{entries_in, plain_entry, shape_in}
use Rattle.us_format.specs.Reading.{limit}
use Rattle.us_format.proofs.FromProgram.{program-matrix}
use Rattle.us_decl.specs.declared.decl.Body.TheVariants as body
use Rattle.us_judge.specs.Format.{part_at}
use Rattle.us_judge.specs.Views.{declaration_of, plain_body, plain_part}
use Rattle.us_judge.proofs.LawfulDeclarations.{accepted-declaration}
use Rattle.us_judge.proofs.Valid.{plain-is}
use Rattle.us_levels.specs.Shared.{lists_of, sizes_of}
use Rattle.us_levels.proofs.Joined.{all-mean, one-lists}
use Rattle.us_levels.proofs.Sizes.{all-within, one-size}
use Rattle.us_levels.proofs.building.build_plain.Goals as goal

pub returns-then-entries-gt-LIMIT-clause-large : goal.returns-then-entries-gt-LIMIT-clause-large
returns-then-entries-gt-LIMIT-clause-large c = λ _.
    omega (
      arith,
      c.if-entries-gt-LIMIT.true,
      ap length c.entries.ensures.value,
      length-map c.args.matrix.now.entries plain_entry,
      all-within (shape_in c.args.matrix.now) (declaration_of c.args.format.now) (entries_in c.args.matrix.now) (accepted-declaration c.args.format.now c.decl-decl.ensures.valid c.decl-decl.ensures.accepted) (program-matrix c.args.matrix.now c.entries.ensures.matrix),
    )

pub returns-in-One-clause-built : goal.returns-in-One-clause-built
returns-in-One-clause-built c =
    let is : declaration_of c.args.format.now ≡ plain_body (body.One c.in-One.field-0) = ap declaration_of (sym c.decl-decl.ensures.is) ∙ plain-is c.decl-decl.result.now ∙ ap plain_body c.in-One.is in
    subst (λ (lists : List (List ℤ)). IfOk c.part_buffers.result (λ b. b ≡ lists))
    (one-lists (shape_in c.args.matrix.now) (declaration_of c.args.format.now) (entries_in c.args.matrix.now) (plain_part c.in-One.field-0) (ap (λ (d : Declaration). d.parts) is) (ap (λ (d : Declaration). d.conds) is))
    c.part_buffers.ensures.built

pub returns-in-One-clause-means : goal.returns-in-One-clause-means
returns-in-One-clause-means c =
    let is : declaration_of c.args.format.now ≡ plain_body (body.One c.in-One.field-0) = ap declaration_of (sym c.decl-decl.ensures.is) ∙ plain-is c.decl-decl.result.now ∙ ap plain_body c.in-One.is in
    all-mean (shape_in c.args.matrix.now) c.args.format.now (entries_in c.args.matrix.now) c.decl-decl.ensures.valid c.decl-decl.ensures.accepted (program-matrix c.args.matrix.now c.entries.ensures.matrix) c.part_buffers.result
    (map written (part_buffers (shape_in c.args.matrix.now) (part_at (declaration_of c.args.format.now) 0) (entries_in c.args.matrix.now)))
    (unpacked_size (shape_in c.args.matrix.now) (part_at (declaration_of c.args.format.now) 0) (entries_in c.args.matrix.now))
    (one-lists (shape_in c.args.matrix.now) (declaration_of c.args.format.now) (entries_in c.args.matrix.now) (plain_part c.in-One.field-0) (ap (λ (d : Declaration). d.parts) is) (ap (λ (d : Declaration). d.conds) is))
    (sym (one-size (shape_in c.args.matrix.now) (declaration_of c.args.format.now) (entries_in c.args.matrix.now) (plain_part c.in-One.field-0) (accepted-declaration c.args.format.now c.decl-decl.ensures.valid c.decl-decl.ensures.accepted) (ap (λ (d : Declaration). d.parts) is) (ap (λ (d : Declaration). d.conds) is)))
    c.part_buffers.ensures.built c.part_buffers.ensures.small

pub returns-in-One-clause-small : goal.returns-in-One-clause-small
returns-in-One-clause-small c =
    let is : declaration_of c.args.format.now ≡ plain_body (body.One c.in-One.field-0) = ap declaration_of (sym c.decl-decl.ensures.is) ∙ plain-is c.decl-decl.result.now ∙ ap plain_body c.in-One.is in
    subst (λ (n : ℕ). OnOk c.part_buffers.result (n ≤ limit))
    (sym (one-size (shape_in c.args.matrix.now) (declaration_of c.args.format.now) (entries_in c.args.matrix.now) (plain_part c.in-One.field-0) (accepted-declaration c.args.format.now c.decl-decl.ensures.valid c.decl-decl.ensures.accepted) (ap (λ (d : Declaration). d.parts) is) (ap (λ (d : Declaration). d.conds) is)))
    c.part_buffers.ensures.small

pub returns-in-One-clause-large : goal.returns-in-One-clause-large
returns-in-One-clause-large c =
    let is : declaration_of c.args.format.now ≡ plain_body (body.One c.in-One.field-0) = ap declaration_of (sym c.decl-decl.ensures.is) ∙ plain-is c.decl-decl.result.now ∙ ap plain_body c.in-One.is in
    λ h. subst (λ (n : ℕ). limit < n)
    (sym (one-size (shape_in c.args.matrix.now) (declaration_of c.args.format.now) (entries_in c.args.matrix.now) (plain_part c.in-One.field-0) (accepted-declaration c.args.format.now c.decl-decl.ensures.valid c.decl-decl.ensures.accepted) (ap (λ (d : Declaration). d.parts) is) (ap (λ (d : Declaration). d.conds) is)))
    (c.part_buffers.ensures.large h)

pub shares_of-requires-clause-queries : goal.shares_of-requires-clause-queries
shares_of-requires-clause-queries c =
    let is : declaration_of c.args.format.now ≡ plain_body (body.Split c.in-Split.head c.in-Split.parts) = ap declaration_of (sym c.decl-decl.ensures.is) ∙ plain-is c.decl-decl.result.now ∙ ap plain_body c.in-Split.is in
    ap (λ (d : Declaration). d.head) is

pub shares_of-requires-clause-conds : goal.shares_of-requires-clause-conds
shares_of-requires-clause-conds c =
    let is : declaration_of c.args.format.now ≡ plain_body (body.Split c.in-Split.head c.in-Split.parts) = ap declaration_of (sym c.decl-decl.ensures.is) ∙ plain-is c.decl-decl.result.now ∙ ap plain_body c.in-Split.is in
    ap (λ (d : Declaration). d.conds) is

pub returns-in_ok-shares-in-Split-clause-built : goal.returns-in_ok-shares-in-Split-clause-built
returns-in_ok-shares-in-Split-clause-built c =
    subst (λ (lists : List (List ℤ)). IfOk c.build_parts.result (λ b. b ≡ lists)) c.in_ok-shares-in-Split.ensures.lists c.build_parts.ensures.built

pub returns-in_ok-shares-in-Split-clause-means : goal.returns-in_ok-shares-in-Split-clause-means
returns-in_ok-shares-in-Split-clause-means c =
    all-mean (shape_in c.args.matrix.now) c.args.format.now (entries_in c.args.matrix.now) c.decl-decl.ensures.valid c.decl-decl.ensures.accepted (program-matrix c.args.matrix.now c.entries.ensures.matrix) c.build_parts.result
    (lists_of (declaration_of c.args.format.now).parts c.in_ok-shares-in-Split.shares) (sizes_of (declaration_of c.args.format.now).parts c.in_ok-shares-in-Split.shares) c.in_ok-shares-in-Split.ensures.lists
    c.in_ok-shares-in-Split.ensures.sizes c.build_parts.ensures.built c.build_parts.ensures.small

pub returns-in_ok-shares-in-Split-clause-small : goal.returns-in_ok-shares-in-Split-clause-small
returns-in_ok-shares-in-Split-clause-small c = subst (λ (n : ℕ). OnOk c.build_parts.result (n ≤ limit)) c.in_ok-shares-in-Split.ensures.sizes c.build_parts.ensures.small

pub returns-in_ok-shares-in-Split-clause-large : goal.returns-in_ok-shares-in-Split-clause-large
returns-in_ok-shares-in-Split-clause-large c = λ h. subst (λ (n : ℕ). limit < n) c.in_ok-shares-in-Split.ensures.sizes (c.build_parts.ensures.large h)
