use Rattle.std.proofs.Common.{arith, ◌∙◌, ap, subst, ℕ, ℤ}
use Rattle.us_code.specs.Plain.{line_tree}
use Rattle.us_code.specs.Run.{put}
use Rattle.us_code_laws.specs.Fits.{Fits}
use Rattle.us_machine.specs.Tables.{env_of, regs_of, held}
use Rattle.us_machine.specs.Walks.{state_of}
use Rattle.us_machine.specs.Phases.{grown_in}
use Rattle.us_machine.proofs.Naming.{readable, named}
use Rattle.us_machine.proofs.lines.run_line.Goals as goal

pub read_line-dim-requires : goal.read_line-dim-requires
read_line-dim-requires c =
    let y = c.requires in
    let t = c.args.tables.now in
    let g = grown_in t y.point.region in
    readable t c.args.source.now g (regs_of c.args.regs.now) y.point.context (line_tree c.args.line.now)
    (subst (λ (q : ℕ → ℤ). Fits y.point.context (env_of t c.args.source.now) (state_of t g q 0)) y.keeps y.at.fits) y.at.sized y.fits y.typed.0

pub returns-clause-names : goal.returns-clause-names
returns-clause-names c = λ p at keeps typed.
    let t = c.args.tables.now in
    let n = c.read_line-dim in
    let e = c.in_ok-name_dim.ensures.dims in
    named t c.name_dim.new.self c.args.source.now c.args.steps.now c.charge.new.steps (regs_of c.args.regs.now) (line_tree c.args.line.now) p at keeps
    c.name_dim.ensures.plan.0 c.name_dim.ensures.plan.1 c.name_dim.ensures.plan.2 n.result.value n.result.factor
    (e.0 ∙ ap (λ (d : ℕ). put (held t.dims) d n.result.value) n.ensures.dim) (e.1 ∙ ap (λ (d : ℕ). put (held t.factors) d n.result.factor) n.ensures.dim)
    n.ensures.value n.ensures.factor (omega (arith, c.from.ensures)) n.ensures.small typed.0 (c.in_ok-charge.ensures.ok p.count at.shows)
