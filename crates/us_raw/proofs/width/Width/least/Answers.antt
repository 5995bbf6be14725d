use Rattle.us_raw.proofs.Least.{only_widest}
use Rattle.us_raw.proofs.width.Width.least.Goals as goal

pub returns-else-all_below-3 : goal.returns-else-all_below-3
returns-else-all_below-3 c =
    (λ i lt. tt, only_widest c.args.cells.now (λ h. c.if-all_below.ensures h) (λ h. c.if-all_below-2.ensures h) (λ h. c.if-all_below-3.ensures h))
