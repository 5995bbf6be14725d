-- An accepted part is one whose buffers can be built.
use Rattle.std.proofs.Common.{ℕ, ◌-◌, ◌<◌, ◌≤◌, length, sym, subst, arith}
use Rattle.std.specs.List.{All}
use Rattle.us_expr.specs.Tree.{node_count}
use Rattle.us_format.specs.Declaration.{Part}
use Rattle.us_decl.specs.Declares.{Declared}
use Rattle.us_judge.specs.Format.{part_at}
use Rattle.us_judge.specs.Views.{declaration_of}
use Rattle.us_judge.proofs.NamesBelow.{names-valid}
use Rattle.us_judge.proofs.ValidExpressions.{small-valid}
use Rattle.us_gen_places.specs.Holds.{IsOrderly}
use Rattle.us_gen_parts.specs.Own.{IsPartOf}
use Rattle.us_gen_parts.proofs.Orderly.{accepted-orderly}
use Rattle.us_gen_parts_build.proofs.Readable.{IsReadablePart, readable-part}
use Rattle.us_gen_parts_build.proofs.Leading.{IsUsablePart}

module _ (d : Declared) (number : ℕ) (p : Part) (at : IsPartOf d number p) where
  below : number - 1 < length (declaration_of d).parts
  below = omega (arith, at.from_one, at.there)

  pub part-orderly : IsOrderly p
  part-orderly = subst IsOrderly (sym at.is) (accepted-orderly d at.valid at.accepted (number - 1) below)

  nodes : All (λ e. node_count e ≤ 32) (part_at (declaration_of d) (number - 1)).levels
  nodes k e lt = (small-valid d at.valid (number - 1) _ below k e lt).nodes

  pub part-usable : IsUsablePart p
  part-usable = record {
    few = at.short.levels;
    short = subst (λ (q : Part). All (λ e. node_count e ≤ 32) q.levels) (sym at.is) nodes;
    reads = λ s m matrix rows cols few.
        subst (λ (q : Part). IsReadablePart s q m) (sym at.is) (readable-part d at.valid at.accepted (number - 1) below s m matrix rows cols few);
  }

  -- few names
  pub names-few : p.names ≤ 32
  names-few = subst (λ (q : Part). q.names ≤ 32) (sym at.is) (names-valid d at.valid (number - 1) _ below).few
