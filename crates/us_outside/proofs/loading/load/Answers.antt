use Rattle.std.proofs.Common.{arith, ◌≡◌, length, drop, ◌∙◌}
use Rattle.std.proofs.lemmas.List.{take_at}
use Rattle.us_outside.specs.Files.{content_of, IsFetch}
use Rattle.us_outside.proofs.LoadLemmas.{IsFront, front_more, both_some}
use Rattle.us_outside.proofs.loading.load.Goals as goal

pub loop-bytes-preserved : goal.loop-bytes-preserved
loop-bytes-preserved g c = (
  c.loop-bytes.invariant.0,
  c.in-Ok.ensures.files ∙ c.loop-bytes.invariant.1,
  c.in-Ok.ensures.printed ∙ c.loop-bytes.invariant.2,
  λ call name. omega (arith, c.in-Ok.ensures.cause.later call name, c.loop-bytes.invariant.3 call name),
  (let fetched = rw c.loop-bytes.invariant.1 at c.in-Ok.ensures.bytes in both_some (g.O.Outside.files c.args.outside.now) (λ fs. IsFront c.loop-bytes.bytes.items (content_of fs c.args.name.now)) (λ fs. IsFetch (content_of fs c.args.name.now) c.len-from.result c.in-Ok.count c.fetch.new.room) (λ fs. IsFront c.extend_from_slice.new.self.items (content_of fs c.args.name.now)) (λ fs p q. let full : length c.fetch.new.room ≡ c.loop-bytes.room.len = omega (arith, c.fetch.auto.room, c.as_mut_slice.ensures.len) in rw (c.in_ok-extend_from_slice.ensures.items, c.deref.ensures.value, take_at c.fetch.new.room (drop (length c.fetch.new.room) c.loop-bytes.room.items) c.loop-bytes.room.len full) (front_more c.loop-bytes.bytes.items (content_of fs c.args.name.now) c.fetch.new.room c.in-Ok.count p (let e : length c.loop-bytes.bytes.items ≡ c.len-from.result = omega (arith, c.len-from.ensures, c.loop-bytes.bytes.ok.0) in rw e q))) c.loop-bytes.invariant.4 fetched),
)
