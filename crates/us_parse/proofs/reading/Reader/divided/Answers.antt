use Rattle.std.proofs.Common.{[], ◌∙◌, refl}
use Rattle.std.proofs.lemmas.Result.{err_from_is_err_and}
use Rattle.us_decl.specs.declared.decl.Head as heads
use Rattle.us_parse.specs.Reads.{text_of}
use Rattle.us_parse.proofs.Bodies.{blocks_lost, blocks_read, divided_no_rest, divided_goes}
use Rattle.us_parse.proofs.reading.Reader.divided.Goals as goal

pub blocks-requires : goal.blocks-requires
blocks-requires c = let same = c.replace-names.ensures.value in record { known = rw same c.requires.names; none = c.new-conds.ensures; own = c.replace-names.ensures.after ∙ c.new.ensures }

pub returns-in_err-parts : goal.returns-in_err-parts
returns-in_err-parts c =
    let p = err_from_is_err_and c.from_residual.result c.from_residual.ensures.1 in
    rw (p.1, p.2) (blocks_lost _ (text_of c.blocks-2.new.self.cursor) _ _ c.blocks-2.new.names [] c.blocks-2.new.conds c.in_err-parts.field-0.0 c.replace-names.ensures.value c.in_err-parts.ensures)

pub returns-in_err-rest : goal.returns-in_err-rest
returns-in_err-rest c =
    let p = err_from_is_err_and c.from_residual-in_err-rest.result c.from_residual-in_err-rest.ensures.1 in
    let g = blocks_read _ _ _ _ c.blocks-2.new.names c.blocks-2.new.self.names c.blocks-2.new.conds c.in_ok-parts.parts c.replace-names.ensures.value c.in_ok-parts.ensures in
    rw (p.1, p.2) (divided_no_rest _ _ _ _ c.args.queries _ c.in_ok-parts.parts c.requires.part g.0 g.1 c.in_err-rest.field-0.0 c.in_err-rest.ensures)

pub returns : goal.returns
returns c =
    let g = blocks_read _ _ _ _ c.blocks-2.new.names c.blocks-2.new.self.names c.blocks-2.new.conds c.in_ok-parts.parts c.replace-names.ensures.value c.in_ok-parts.ensures in
    let head : heads.Head = record { names = c.blocks-2.new.names; queries = c.args.queries; conds = c.blocks-2.new.conds } in
    divided_goes _ _ _ _ c.args.queries _ c.in_ok-parts.parts c.requires.part g.0 g.1 _ c.in_ok-rest.rest c.in_ok-rest.ensures c.push.new.self head c.in_ok-push.ensures.ok refl refl refl
