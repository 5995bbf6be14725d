use Rattle.std.proofs.Common.{◌≡◌, List, false, subst, sym, ap, ◌∙◌}
use Rattle.std.proofs.lemmas.List.{get_or_default}
use Rattle.us_expr.specs.Tree.{Tree, tree}
use Rattle.us_format.specs.Known.{has}
use Rattle.us_known.specs.declared.table.Node.{Node}
use Rattle.us_known.specs.Table.{trees, IsNumberOf}
use Rattle.us_known.proofs.Flagged.{flagged-number, flagged-absent}
use Rattle.us_known.proofs.known_set.KnownSet.has.Goals as goal

pub returns-in-Some : goal.returns-in-Some
returns-in-Some c =
    let h : IsNumberOf c.self.inside.nodes.items c.in-Some.n (tree c.args.e.now) =
    subst (λ (l : List Node). IsNumberOf l c.in-Some.n (tree c.args.e.now)) c.deref.ensures.value c.in-Some.ensures.found in
    c.index.ensures
    ∙ get_or_default c.self.inside.known.items c.in-Some.n c.index.result.now false (rw c.self.invariant.1 h.below)
    ∙ sym (flagged-number c.self.inside.nodes.items c.self.invariant.0 c.self.inside.known.items c.in-Some.n (tree c.args.e.now) h)
    ∙ ap (λ (l : List Tree). has l (tree c.args.e.now)) c.self.view_is

pub returns-in-None : goal.returns-in-None
returns-in-None c =
    sym (flagged-absent c.self.inside.nodes.items c.self.invariant.0 c.self.inside.known.items (tree c.args.e.now)
    (subst (λ (l : List Node). has (trees l) (tree c.args.e.now) ≡ false) c.deref.ensures.value c.in-None.ensures.absent))
    ∙ ap (λ (l : List Tree). has l (tree c.args.e.now)) c.self.view_is
