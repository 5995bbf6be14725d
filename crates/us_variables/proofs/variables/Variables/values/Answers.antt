use Rattle.std.proofs.Common.{◌≡◌, ◌++◌, [], ◌∷◌, ℤ, List, pos, w64, to_z, of_z, ap, ap₂, sym, ◌∙◌, arith}
use Rattle.std.proofs.lemmas.List.FromFn.{map-range_with_len_more}
use Rattle.std.proofs.lemmas.Int.{to_z-of_z}
use Rattle.us_variables.specs.declared.columns.Column.{Column}
use Rattle.us_variables.specs.Columns.{value_or}
use Rattle.us_variables.specs.Counted.{value_in}
use Rattle.us_variables.proofs.variables.Variables.values.Goals as goal

pub loop-var-preserved : goal.loop-var-preserved
loop-var-preserved c =
    let v = c.loop-var.var in
    let here : to_z w64 (of_z w64 c.value_in.result) ≡ value_in c.args.self.now v c.args.entry =
    to_z-of_z w64 c.value_in.result c.value_in.ensures.fits ∙ c.value_in.ensures.value ∙ ap (λ (cs : List Column). value_or cs v c.args.entry (pos 0)) c.deref.ensures.value in (
      c.push.ensures.items ∙ ap₂ (λ (xs : List ℤ) (x : ℤ). xs ++ x ∷ []) c.loop-var.invariant.0 here
          ∙ sym (map-range_with_len_more (λ w. value_in c.args.self.now w c.args.entry) 0 v v (omega arith)),
      omega (arith, c.push.ensures.len, c.loop-var.invariant.1),
    )
