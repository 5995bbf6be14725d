use Rattle.std.proofs.Common.{◌≡◌, length, map, ap, ◌∙◌, sym}
use Rattle.std.specs.Prelude.{string_bytes}
use Rattle.indexmap.specs.IndexMap.{keys}
use Rattle.us_decl.specs.Views.{decl_names}
use Rattle.us_decl.proofs.Places.{found, length_names}
use Rattle.us_decl.proofs.library.Library.find.Goals as goal

pub returns : goal.returns
returns c =
    let same : map string_bytes (keys c.self.inside.decls) ≡ decl_names c.args.self.now = c.self.invariant ∙ ap decl_names c.self.view_is in
    found c.args.name.now (keys c.self.inside.decls) (decl_names c.args.self.now) (length c.args.self.now) c.get_index_of.result same (sym (length_names c.args.self.now)) c.get_index_of.ensures.index
