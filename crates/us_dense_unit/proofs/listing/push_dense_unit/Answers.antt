use Rattle.std.proofs.Common.{◌∙◌, rules}
use Rattle.std.proofs.lemmas.Result.{on_ok_weaker}
use Rattle.us_code.specs.Plain.{program_tree}
use Rattle.us_unit.proofs.Listings.{added}
use Rattle.us_dense_unit.proofs.Listings.{dense_behind}
use Rattle.us_dense_unit.proofs.listing.push_dense_unit.Goals as goal

pub returns : goal.returns
returns c =
    on_ok_weaker c.extend_from_slice.result
    (λ is us h.
    dense_behind us (record { rows = c.args.rows; cols = c.args.cols; program = program_tree c.args.program.now }) c.args.listing.now.items c.extend_from_slice.new.self.items c.deref.result.now
    (c.deref.ensures.value ∙ c.in_ok-unit.ensures.text) is
    (record { rows = search rules; cols = search rules; limits = c.requires.limits; named = c.program_is_named.ensures }) h)
    (added c.extend_from_slice.result c.args.listing.now.items c.extend_from_slice.new.self.items c.deref.result.now c.extend_from_slice.ensures.items)
