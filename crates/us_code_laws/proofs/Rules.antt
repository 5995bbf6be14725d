-- How a block goes on after its first statement.
use Rattle.std.proofs.Common.{ℕ, ◌+◌, ◌*◌, Bool, cond, refl, ap, ◌∙◌, map, length, pos, ℤ, ◌+ℤ◌, Option}
use Rattle.us_code.specs.declared.program.Buf.TheVariants as buf
use Rattle.us_code.specs.Run.{exec, turns, size_of, cells, value, place, gap, tick, set_reg, loaded, stored, entered, sorted_if}
use Rattle.us_code.specs.Sort.{ordered}
use Rattle.us_code_laws.specs.Rules.{StatementRules}
use Rattle.us_code_laws.proofs.Sound.{place_ok}
use Rattle.us_code_laws.proofs.Does.{no_place}

pub statement_rules : StatementRules
statement_rules = record {
  after_let = λ env r e rest s. refl;
  after_var = λ env r e rest s. refl;
  after_put = λ env r e rest s. refl;
  after_load = λ env r b at rest s k e lt. ap (λ (o : Option ℕ). exec env rest (loaded r (cells env s b) o (tick 1 s))) (place_ok _ _ k e lt);
  after_set = λ env b at e rest s k p lt. ap (λ (o : Option ℕ). exec env rest (stored (buf.New b) (s.bufs b) o (value env s.regs e) (tick 1 s))) (place_ok _ _ k p lt);
  after_span = λ env r a b d body rest s x y ea eb.
      ap (λ (z : ℤ). exec env rest (turns (gap z (value env s.regs b)) (λ t u. exec env body (set_reg r (z +ℤ pos t) (tick 1 u))) (tick 1 s))) ea
      ∙ ap (λ (z : ℤ). exec env rest (turns (gap (pos x) z) (λ t u. exec env body (set_reg r (pos (x + t)) (tick 1 u))) (tick 1 s))) eb;
  after_if = λ env l eq r body given other rest s p. ap (λ (q : Bool). exec env rest (cond q (exec env body (tick 1 s)) (exec env other (tick 1 s)))) p;
  after_else = λ env l eq r body given other rest s p. ap (λ (q : Bool). exec env rest (cond q (exec env body (tick 1 s)) (exec env other (tick 1 s)))) p;
  after_when = λ env e d r body given other rest s k p lt. ap (λ (o : Option ℕ). exec env rest (entered o (λ k. exec env body (set_reg r (pos k) (tick 1 s))) (exec env other (tick 1 s)))) (place_ok _ _ k p lt);
  after_large = λ env e d r body given other rest s k p le. ap (λ (o : Option ℕ). exec env rest (entered o (λ k. exec env body (set_reg r (pos k) (tick 1 s))) (exec env other (tick 1 s)))) (no_place _ _ k p le);
  after_negative = λ env e d r body given other rest s k p. ap (λ (z : ℤ). exec env rest (entered (place z (size_of env d)) (λ k. exec env body (set_reg r (pos k) (tick 1 s))) (exec env other (tick 1 s)))) p;
  after_order = λ env b keys rest s long. ap (λ (q : Bool). exec env rest (sorted_if q b (map pos (ordered (map (cells env s) keys) (length (s.bufs b)))) (tick (length (s.bufs b) * length keys + 1) s))) long;
}
