-- The parts of a block that keeps the rules, and what it leaves visible.
use Rattle.std.proofs.Common.{◌≡◌, true, false, refl}
use Rattle.us_code.specs.declared.program.CellKind.TheVariants as kind
use Rattle.us_code.specs.Plain.{Code, End, Let, Load, Var, Put, Set, For, Span, If, When, Order, ◌+++◌}
use Rattle.us_code.specs.Limits.{FitsTerms}
use Rattle.us_code.specs.Typing.{Context, with_reg, kind_of, cell_of, Typed, outer}

pub typed_parts : (g : Context) (a b : Code) → Typed g (a +++ b) → Typed g a × Typed (outer g a) b
typed_parts g End b h = (tt, h)
typed_parts g (Let r e rest) b h = let i = typed_parts (with_reg g r false (kind_of g e)) rest b h.2 in ((h.0, h.1, i.0), i.1)
typed_parts g (Load r x at rest) b h = let i = typed_parts (with_reg g r false (cell_of g x)) rest b h.4 in ((h.0, h.1, h.2, h.3, i.0), i.1)
typed_parts g (Var r e rest) b h = let i = typed_parts (with_reg g r true kind.Word) rest b h.2 in ((h.0, h.1, i.0), i.1)
typed_parts g (Put r e rest) b h = let i = typed_parts g rest b h.2 in ((h.0, h.1, i.0), i.1)
typed_parts g (Set x at e rest) b h = let i = typed_parts g rest b h.6 in ((h.0, h.1, h.2, h.3, h.4, h.5, i.0), i.1)
typed_parts g (For r d body rest) b h = let i = typed_parts g rest b h.3 in ((h.0, h.1, h.2, i.0), i.1)
typed_parts g (Span r x y d body rest) b h = let i = typed_parts g rest b h.6 in ((h.0, h.1, h.2, h.3, h.4, h.5, i.0), i.1)
typed_parts g (If l eq r body given other rest) b h = let i = typed_parts g rest b h.4 in ((h.0, h.1, h.2, h.3, i.0), i.1)
typed_parts g (When e d r body given other rest) b h = let i = typed_parts g rest b h.5 in ((h.0, h.1, h.2, h.3, h.4, i.0), i.1)
typed_parts g (Order x keys rest) b h = let i = typed_parts g rest b h.5 in ((h.0, h.1, h.2, h.3, h.4, i.0), i.1)

pub terms_parts : (a b : Code) → FitsTerms (a +++ b) → FitsTerms a × FitsTerms b
terms_parts End b h = (tt, h)
terms_parts (Let r e rest) b h = let i = terms_parts rest b h.1 in ((h.0, i.0), i.1)
terms_parts (Load r x at rest) b h = let i = terms_parts rest b h.1 in ((h.0, i.0), i.1)
terms_parts (Var r e rest) b h = let i = terms_parts rest b h.1 in ((h.0, i.0), i.1)
terms_parts (Put r e rest) b h = let i = terms_parts rest b h.1 in ((h.0, i.0), i.1)
terms_parts (Set x at e rest) b h = let i = terms_parts rest b h.2 in ((h.0, h.1, i.0), i.1)
terms_parts (For r d body rest) b h = let i = terms_parts rest b h.2 in ((h.0, h.1, i.0), i.1)
terms_parts (Span r x y d body rest) b h = let i = terms_parts rest b h.4 in ((h.0, h.1, h.2, h.3, i.0), i.1)
terms_parts (If l eq r body given other rest) b h = let i = terms_parts rest b h.4 in ((h.0, h.1, h.2, h.3, i.0), i.1)
terms_parts (When e d r body given other rest) b h = let i = terms_parts rest b h.4 in ((h.0, h.1, h.2, h.3, i.0), i.1)
terms_parts (Order x keys rest) b h = let i = terms_parts rest b h.2 in ((h.0, h.1, i.0), i.1)

pub outer_sources : (g : Context) (c : Code) → (outer g c).sources ≡ g.sources
outer_sources g End = refl
outer_sources g (Let r e rest) = outer_sources (with_reg g r false (kind_of g e)) rest
outer_sources g (Load r x at rest) = outer_sources (with_reg g r false (cell_of g x)) rest
outer_sources g (Var r e rest) = outer_sources (with_reg g r true kind.Word) rest
outer_sources g (Put r e rest) = outer_sources g rest
outer_sources g (Set x at e rest) = outer_sources g rest
outer_sources g (For r d body rest) = outer_sources g rest
outer_sources g (Span r x y d body rest) = outer_sources g rest
outer_sources g (If l eq r body given other rest) = outer_sources g rest
outer_sources g (When e d r body given other rest) = outer_sources g rest
outer_sources g (Order x keys rest) = outer_sources g rest

pub outer_bufs : (g : Context) (c : Code) → (outer g c).bufs ≡ g.bufs
outer_bufs g End = refl
outer_bufs g (Let r e rest) = outer_bufs (with_reg g r false (kind_of g e)) rest
outer_bufs g (Load r x at rest) = outer_bufs (with_reg g r false (cell_of g x)) rest
outer_bufs g (Var r e rest) = outer_bufs (with_reg g r true kind.Word) rest
outer_bufs g (Put r e rest) = outer_bufs g rest
outer_bufs g (Set x at e rest) = outer_bufs g rest
outer_bufs g (For r d body rest) = outer_bufs g rest
outer_bufs g (Span r x y d body rest) = outer_bufs g rest
outer_bufs g (If l eq r body given other rest) = outer_bufs g rest
outer_bufs g (When e d r body given other rest) = outer_bufs g rest
outer_bufs g (Order x keys rest) = outer_bufs g rest
