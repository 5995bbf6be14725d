use Rattle.std.proofs.lemmas.Result.{IfOk-weaker}
use Rattle.us_journeys.proofs.ReadBackLemmas.{container_means}
use Rattle.us_journeys.proofs.conversion.container.Goals as goal

pub returns-clause-means : goal.returns-clause-means
returns-clause-means c = IfOk-weaker c.write_container.result _ _ (λ v e. container_means c.args.held.now v.items c.buffers.ensures.held e c.reads_back.ensures) c.write_container.ensures
