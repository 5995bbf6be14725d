use Rattle.std.proofs.Common.{◌≡◌, ◌∷◌, ◌+◌, ◌*◌, ◌-◌, ℕ, List, ap, sym, ◌∙◌, arith, min, drop, get_or, drop-cons, add-one}
use Rattle.us_tokens.specs.Lex.{decimal_value}
use Rattle.us_tokens.proofs.Values.{capped_step}
use Rattle.us_code_table.proofs.lexeme.value_of.Goals as goal

pub loop-digit-preserved : goal.loop-digit-preserved
loop-digit-preserved c =
    let i = c.loop-digit.digit-index in
    let ds = c.args.digits.now in
    let b = get_or ds i 0 in
    let cut : drop i ds ≡ b ∷ drop (i + 1) ds = rw (add-one) (drop-cons ds i 0 (omega arith)) in
    record {
      same = capped_step (drop (i + 1) ds) (c.loop-digit.value * 10 + (b - 48)) c.min-value.result 4294967296 _ (sym (ap (λ (x : List ℕ). min (decimal_value x c.loop-digit.value) 4294967296) cut) ∙ c.loop-digit.invariant.same) (omega arith);
      small = omega arith;
    }
