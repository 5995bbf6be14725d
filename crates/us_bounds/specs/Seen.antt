-- The context that a table stands for, and contexts without registers.
use Rattle.std.specs.Prelude.{ℕ, Option, Some, None}
use Rattle.std.specs.BTreeMap.{get}
use Rattle.std.specs.Ordering.{nat_cmp}
use Rattle.us_code.specs.Plain.{Code, End, Let, Load, Var, Put, Set, For, Span, If, When, Order}
use Rattle.us_code.specs.Run.{put}
use Rattle.us_code.specs.Typing.{Form, Of, Product, Successor, RegKind, BufKind, Context}
use Rattle.us_bounds.specs.declared.table.Register.{Register}
use Rattle.us_bounds.specs.declared.table.Buffer.{Buffer}
use Rattle.us_bounds.specs.declared.table.DimForm.{DimForm}
use Rattle.us_bounds.specs.declared.table.DimForm.TheVariants as form
use Rattle.us_bounds.specs.declared.table.Table.{Table}

-- how a dim was defined
abbrev pub plain_form : DimForm → Form
plain_form form.Of = Of
plain_form (form.Product left right) = Product left right
plain_form (form.Successor of) = Successor of

abbrev pub seen_form : Option DimForm → Option Form
seen_form None = None
seen_form (Some f) = Some (plain_form f)

abbrev pub seen_reg : Option Register → Option RegKind
seen_reg None = None
seen_reg (Some r) = Some record { is_var = r.is_var; kind = r.kind }

abbrev pub seen_buf : Option Buffer → Option BufKind
seen_buf None = None
seen_buf (Some b) = Some record { len = b.len; cell = b.cell }

-- what is visible: what stands in the table under its name
unfoldable pub context_of : Table → Context
context_of t = record {
  sources = t.sources;
  regs = λ r. seen_reg (get nat_cmp t.regs r);
  bufs = λ b. seen_buf (get nat_cmp t.bufs b);
  dims = λ d. seen_form (get nat_cmp t.dims d);
}

-- without one register
abbrev pub without_reg : Context → ℕ → Context
without_reg g r = record { sources = g.sources; regs = put g.regs r None; bufs = g.bufs; dims = g.dims }

-- without the registers that a block itself introduces
abbrev pub behind : Code → Context → Context
behind End g = g
behind (Let r e rest) g = behind rest (without_reg g r)
behind (Load r b at rest) g = behind rest (without_reg g r)
behind (Var r e rest) g = behind rest (without_reg g r)
behind (Put r e rest) g = behind rest g
behind (Set b at e rest) g = behind rest g
behind (For r d body rest) g = behind rest g
behind (Span r a b d body rest) g = behind rest g
behind (If l eq r body given other rest) g = behind rest g
behind (When e d r body given other rest) g = behind rest g
behind (Order b keys rest) g = behind rest g
