use Rattle.std.proofs.Common.{arith, ◌+◌, drop, ◌∙◌}
use Rattle.us_outside.specs.Files.{content_of, IsFetch}
use Rattle.us_outside.proofs.LoadLemmas.{both_some}
use Rattle.us_outside.proofs.FillLemmas.{IsPart, part_more}
use Rattle.us_outside.proofs.filling.fill.Goals as goal

pub loop-filled-preserved : goal.loop-filled-preserved
loop-filled-preserved g c =
    let fetched = rw c.loop-filled.invariant.1 at c.in-Ok.ensures.bytes in
    let n = c.loop-filled.filled in
    let room = c.fetch_behind.new.room in (
      c.in-Ok.ensures.bound,
      c.in-Ok.ensures.files ∙ c.loop-filled.invariant.1,
      c.in-Ok.ensures.printed ∙ c.loop-filled.invariant.2,
      λ call name. omega (arith, c.in-Ok.ensures.cause.later call name, c.loop-filled.invariant.3 call name),
      both_some (g.O.Outside.files c.args.outside.now) (λ fs. IsPart (content_of fs c.args.name.now) c.args.from n c.loop-filled.room)
          (λ fs. IsFetch (content_of fs c.args.name.now) (c.args.from + n) c.in-Ok.count (drop n room)) (λ fs. IsPart (content_of fs c.args.name.now) c.args.from (n + c.in-Ok.count) room)
          (λ fs p q. part_more (content_of fs c.args.name.now) c.loop-filled.room room c.args.from n c.in-Ok.count p c.in-Ok.ensures.front q) c.loop-filled.invariant.4 fetched,
    )
