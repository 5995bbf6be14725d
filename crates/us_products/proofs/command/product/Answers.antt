use Rattle.std.proofs.Common.{◌∷◌, [], ◌∙◌, None, Some, is_some, ◌++◌, refl, ap, sym}
use Rattle.std.specs.Option.{option_map}
use Rattle.std.proofs.lemmas.Bool.{false≢true}
use Rattle.us_status.specs.declared.status.Slot.TheVariants.{Formats, Input, Operand, Output}
use Rattle.us_status.specs.Uses.{listing_uses, print_use, reads, stores}
use Rattle.us_status.specs.Runs.{told}
use Rattle.us_status.proofs.RunLemmas.{done_run, refused_run}
use Rattle.us_products.specs.Tasks.{product_task}
use Rattle.us_products.proofs.ProductLemmas.{made_steps, product_means, product_uses, stored_alone, stored_listed}
use Rattle.us_products.proofs.command.product.Goals as goal

pub returns-in-None : goal.returns-in-None
returns-in-None g c =
    let k = c.in-Ok.ensures.made in
    let before = told (g.O.Outside.files c.args.outside.now) (g.O.Outside.printed c.args.outside.now) (g.O.Outside.faults c.args.outside.now) in
    let middle = told (g.O.Outside.files c.prepare.new.outside) (g.O.Outside.printed c.prepare.new.outside) (g.O.Outside.faults c.prepare.new.outside) in
    let now = told (g.O.Outside.files c.finish.new.outside) (g.O.Outside.printed c.finish.new.outside) (g.O.Outside.faults c.finish.new.outside) in
    let made = stored_alone c.args.vector c.args.output.now c.is_some-listed.result k.0 c.in-Ok.made _ _ _ k.1 c.output.ensures c.deref.ensures.value c.deref-in-None.ensures.value in
    rw c.in-None.is
    (done_run (product_task c.args.vector c.args.formats.now c.args.input.now c.args.chain.now c.args.operand.now c.args.output.now None) k.0 _ (reads Formats c.args.formats.now ∷ reads Input c.args.input.now ∷ reads Operand c.args.operand.now ∷ []) before middle now c.finish.result
    (made_steps c.args.vector c.args.formats.now c.args.input.now c.args.chain.now c.args.operand.now (g.O.Outside.files c.args.outside.now) k.0 k.2)
    made
    (product_means c.array_text_reads.ensures c.args.vector c.args.formats.now c.args.input.now c.args.chain.now c.args.operand.now c.args.output.now None (g.O.Outside.files c.args.outside.now) k.0 _ made k.2)
    (product_uses c.args.vector c.args.formats.now c.args.input.now c.args.chain.now c.args.operand.now c.args.output.now None k.0 _ made)
    (λ e. absurd (false≢true (sym e)))
    c.in-Ok.ensures.later
    c.in-Ok.ensures.files
    c.in-Ok.ensures.printed
    (record { answer = c.finish.ensures.answer; cause = c.finish.ensures.cause; stands = c.finish.ensures.stands; printed = c.finish.ensures.printed }))

pub returns-in-Ok : goal.returns-in-Ok
returns-in-Ok g c =
    let k = c.in-Ok.ensures.made in
    let before = told (g.O.Outside.files c.args.outside.now) (g.O.Outside.printed c.args.outside.now) (g.O.Outside.faults c.args.outside.now) in
    let middle = told (g.O.Outside.files c.prepare.new.outside) (g.O.Outside.printed c.prepare.new.outside) (g.O.Outside.faults c.prepare.new.outside) in
    let now = told (g.O.Outside.files c.finish-in-Some.new.outside) (g.O.Outside.printed c.finish-in-Some.new.outside) (g.O.Outside.faults c.finish-in-Some.new.outside) in
    let made = stored_listed c.args.vector c.args.output.now c.in-Some.name.now c.is_some-listed.result k.0 c.in-Ok.made _ _ _ _ _ c.dense_listings_read_back.ensures.back k.1 (c.is_some-listed.ensures ∙ ap is_some c.in-Some.is)
    c.output-in-Some.ensures c.deref-in-Some.ensures.value c.listing.ensures c.deref-in-Some-2.ensures.value c.deref-in-Some-3.ensures.value in
    rw c.in-Some.is
    (done_run (product_task c.args.vector c.args.formats.now c.args.input.now c.args.chain.now c.args.operand.now c.args.output.now (Some c.in-Some.name.now)) k.0 _ (reads Formats c.args.formats.now ∷ reads Input c.args.input.now ∷ reads Operand c.args.operand.now ∷ []) before middle now c.finish-in-Some.result
    (made_steps c.args.vector c.args.formats.now c.args.input.now c.args.chain.now c.args.operand.now (g.O.Outside.files c.args.outside.now) k.0 k.2)
    made
    (product_means c.array_text_reads.ensures c.args.vector c.args.formats.now c.args.input.now c.args.chain.now c.args.operand.now c.args.output.now (Some c.in-Some.name.now) (g.O.Outside.files c.args.outside.now) k.0 _ made k.2)
    (product_uses c.args.vector c.args.formats.now c.args.input.now c.args.chain.now c.args.operand.now c.args.output.now (Some c.in-Some.name.now) k.0 _ made)
    (λ e. absurd (false≢true (sym e)))
    c.in-Ok.ensures.later
    c.in-Ok.ensures.files
    c.in-Ok.ensures.printed
    (record { answer = c.finish-in-Some.ensures.answer; cause = c.finish-in-Some.ensures.cause; stands = c.finish-in-Some.ensures.stands; printed = c.finish-in-Some.ensures.printed }))

pub returns : goal.returns
returns g c =
    refused_run (product_task c.args.vector c.args.formats.now c.args.input.now c.args.chain.now c.args.operand.now c.args.output.now (option_map (λ l. l.now) c.args.listing))
    (told (g.O.Outside.files c.args.outside.now) (g.O.Outside.printed c.args.outside.now) (g.O.Outside.faults c.args.outside.now))
    (told (g.O.Outside.files c.prepare.new.outside) (g.O.Outside.printed c.prepare.new.outside) (g.O.Outside.faults c.prepare.new.outside))
    (reads Formats c.args.formats.now ∷ reads Input c.args.input.now ∷ reads Operand c.args.operand.now ∷ [])
    (stores Output c.args.output.now ∷ (listing_uses (option_map (λ l. l.now) c.args.listing) ++ (print_use ∷ [])))
    c.in-Err.status
    refl
    c.in-Err.ensures.answer
    c.in-Err.ensures.refusal
    c.in-Err.ensures.files
    c.in-Err.ensures.printed
