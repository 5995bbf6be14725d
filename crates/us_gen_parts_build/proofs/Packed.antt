-- The packs of an accepted part are runs of columns.
use Rattle.std.proofs.Common.{◌≡◌, ℕ, ◌-◌, ◌<◌, length, None, sym, subst, arith}
use Rattle.us_format.specs.Declaration.{Part}
use Rattle.us_decl.specs.Declares.{Declared}
use Rattle.us_judge.specs.Acceptance.{bad_count, bad_pack, first_pack}
use Rattle.us_judge.specs.Views.{declaration_of}
use Rattle.us_judge.proofs.Accepted.{KeepsRules, accepted-keeps}
use Rattle.us_gen_places.specs.Holds.{IsOrderly}
use Rattle.us_gen_parts.specs.Own.{IsPartOf}
use Rattle.us_gen_parts_build.proofs.Accepted.{part-orderly}
use Rattle.us_gen_parts_build.proofs.PackRuns.{are-packed}
use Rattle.us_gen_parts_build.proofs.Ready.{ArePacked}

pub part-packed : (d : Declared) (number : ℕ) (p : Part) → IsPartOf d number p → ArePacked p
part-packed d number p at =
    let below : number - 1 < length (declaration_of d).parts = omega (arith, at.from_one, at.there) in
    let kept : KeepsRules p = subst KeepsRules (sym at.is) (accepted-keeps (declaration_of d) at.accepted (number - 1) _ below) in
    let packs : bad_pack p ≡ None = kept 11 (1, bad_count) (omega arith) in
    let orderly : IsOrderly p = part-orderly d number p at in
    are-packed p (first_pack p) packs orderly.packs orderly.loose
