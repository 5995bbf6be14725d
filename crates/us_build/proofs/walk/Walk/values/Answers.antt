use Rattle.std.proofs.Common.{◌≡◌, ℕ, List, ap, sym, subst, ◌∙◌}
use Rattle.std.specs.Result.{IfOk}
use Rattle.us_format.specs.Buffers.{val_buffer}
use Rattle.us_format.specs.Packs.{written}
use Rattle.us_format.specs.Positions.{Row}
use Rattle.us_build.specs.declared.items.Item.{Item}
use Rattle.us_build.specs.Items.{rows_at}
use Rattle.us_build.specs.Ways.{Way, IsOnWay, way_of}
use Rattle.us_build.proofs.Walking.{end-alike, end-rows, end-within}
use Rattle.us_build.proofs.walk.Walk.values.Goals as goal

pub values-requires-clause-within : goal.values-requires-clause-within
values-requires-clause-within c =
    end-within c.self.inside.levels.items c.self.inside.done c.self.inside.positions c.deref.result.now
    (subst (λ (xs : List Item). IsOnWay c.self.inside.levels.items c.self.inside.done c.self.inside.positions xs) (sym c.deref.ensures.value) c.self.invariant)
    (ap (λ (w : Way). w.levels) c.self.view_is ∙ c.requires)

pub values-requires-clause-alike : goal.values-requires-clause-alike
values-requires-clause-alike c =
    end-alike c.self.inside.levels.items c.self.inside.done c.self.inside.positions c.deref.result.now
    (subst (λ (xs : List Item). IsOnWay c.self.inside.levels.items c.self.inside.done c.self.inside.positions xs) (sym c.deref.ensures.value) c.self.invariant)
    (ap (λ (w : Way). w.levels) c.self.view_is ∙ c.requires)

pub returns : goal.returns
returns c =
    let rows : rows_at 6 c.deref.result.now ≡ c.args.self.now.rows =
    end-rows c.self.inside.levels.items c.self.inside.done c.self.inside.positions c.deref.result.now
    (subst (λ (xs : List Item). IsOnWay c.self.inside.levels.items c.self.inside.done c.self.inside.positions xs) (sym c.deref.ensures.value) c.self.invariant)
    (ap (λ (w : Way). w.levels) c.self.view_is ∙ c.requires)
    ∙ ap (λ (xs : List Item). (way_of c.self.inside.levels.items c.self.inside.done c.self.inside.positions xs).rows) c.deref.ensures.value ∙ ap (λ (w : Way). w.rows) c.self.view_is in
    let positions : c.self.inside.positions ≡ c.args.self.now.positions = ap (λ (w : Way). w.positions) c.self.view_is in
    subst (λ (rs : List Row). IfOk c.values.result (λ v. v.items ≡ written (val_buffer c.args.self.now.positions rs))) rows
    (subst (λ (n : ℕ). IfOk c.values.result (λ v. v.items ≡ written (val_buffer n (rows_at 6 c.deref.result.now)))) positions c.values.ensures)
