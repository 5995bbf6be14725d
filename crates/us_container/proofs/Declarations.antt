-- The declaration of a text that was parsed.
use Rattle.std.proofs.Common.{◌≡◌, ℕ, ◌-◌, List, length, drop, sym, ap, ap₂, subst, ◌∙◌, arith}
use Rattle.std.specs.Prelude.{Result, Ok}
use Rattle.us_decl.specs.declared.decl.Decl.{Decl}
use Rattle.us_parse.specs.declared.parsed.OneDecl.{OneDecl}
use Rattle.us_decl.specs.Declares.{Declared}
use Rattle.us_decl.specs.Views.{decl_view}
use Rattle.us_parse.specs.Parses.{tokens_of, ParsesOne, TellsOne}
use Rattle.us_container.specs.declared.text.TextFault.{TextFault}
use Rattle.us_container.specs.Text.{declaration_in, by_answer, if_alone}
use Rattle.us_container.specs.Answers.{TellsText}

-- what stands behind a declaration decides
parsed : (text : List ℕ) (one : OneDecl) → ParsesOne text 0 (Ok one) → declaration_in text ≡ if_alone text (decl_view one.decl) (tokens_of (drop one.end text))
parsed text one p =
    let t : TellsOne (length text) one p.answer = p.tells in
    let end : length text - t.behind ≡ one.end = omega (arith, t.end_is) in
    ap (by_answer text) (p.reads ∙ t.is) ∙ ap₂ (λ (d : Declared) (n : ℕ). if_alone text d (tokens_of (drop n text))) (sym t.view) end

pub tells_parsed : (text : List ℕ) (one : OneDecl) (result : Result Decl TextFault) → ParsesOne text 0 (Ok one)
    → TellsText (length text) (if_alone text (decl_view one.decl) (tokens_of (drop one.end text))) result → TellsText (length text) (declaration_in text) result
tells_parsed text one result p h = subst (λ plain. TellsText (length text) plain result) (sym (parsed text one p)) h
