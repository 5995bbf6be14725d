use Rattle.std.proofs.Common.{◌∙◌}
use Rattle.us_decl.proofs.Places.{named_then, view_then}
use Rattle.us_decl.proofs.library.Library.push.Goals as goal

pub invariant_of-self-2 : goal.invariant_of-self-2
invariant_of-self-2 c = named_then c.self.inside.decls c.insert.new.self c.in_ok-name.name c.args.decl c.args.self.now c.self.view_is c.self.invariant c.requires (c.in_ok-name.ensures.ok ∙ c.as_str.ensures) c.in_ok-insert.ensures.entries

pub returns : goal.returns
returns c = view_then c.self.inside.decls c.insert.new.self c.in_ok-name.name c.args.decl c.args.self.now c.self.view_is c.self.invariant c.requires (c.in_ok-name.ensures.ok ∙ c.as_str.ensures) c.in_ok-insert.ensures.entries
