use Rattle.std.proofs.Common.{◌∙◌}
use Rattle.std.proofs.lemmas.Result.{on_ok_weaker}
use Rattle.us_code.specs.Plain.{program_tree}
use Rattle.us_decl.specs.Views.{decl_view}
use Rattle.us_unit.proofs.Listings.{added, one_unit_more}
use Rattle.us_unit.proofs.listing.push_unit.Goals as goal

pub returns : goal.returns
returns c =
    on_ok_weaker c.extend_from_slice.result
    (λ is us h.
    one_unit_more us (record { target = decl_view c.args.target.now; program = program_tree c.args.program.now }) c.args.listing.now.items c.extend_from_slice.new.self.items c.deref.result.now
    (c.deref.ensures.value ∙ c.in_ok-unit.ensures.text) is (record { valid = c.requires.valid; limits = c.requires.limits; named = c.program_is_named.ensures }) h)
    (added c.extend_from_slice.result c.args.listing.now.items c.extend_from_slice.new.self.items c.deref.result.now c.extend_from_slice.ensures.items)
