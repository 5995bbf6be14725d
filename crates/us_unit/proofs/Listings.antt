-- A listing is read as its units.
use Rattle.std.proofs.Common.{◌≡◌, ℕ, List, [], ◌∷◌, ◌++◌, Option, Some, None, Result, Ok, Err, OnOk, refl, sym, ap, ap₂, ◌∙◌, subst, append_assoc}
use Rattle.std.specs.Prelude.{if◌then◌else◌}
use Rattle.std.specs.Result.{is_ok}
use Rattle.std.proofs.lemmas.List.{flat_map_more}
use Rattle.us_tokens.specs.Lex.{Language, lexed, Between}
use Rattle.us_tokens.specs.Text.{End}
use Rattle.us_tokens.specs.Reading.{scan}
use Rattle.us_grammar.specs.Reading.{answer}
use Rattle.us_code.specs.Plain.{ProgramTree}
use Rattle.us_code_table.specs.Table.{Whole, grammar}
use Rattle.us_code_table.specs.Words.{language}
use Rattle.us_code_table.specs.Limits.{limits}
use Rattle.us_code_print.specs.Canon.{code_text}
use Rattle.us_code_print.specs.Canon as code
use Rattle.us_code_print.specs.ReadBack.{IsNamed}
use Rattle.us_code_print.proofs.ReadProgram.{read_back}
use Rattle.us_code.specs.Limits.{KeepsLimits}
use Rattle.us_code_reader.specs.Parses.{answer_on}
use Rattle.us_decl.specs.Declares.{Declared, declared}
use Rattle.us_parse.specs.Piece.{AtFormat}
use Rattle.us_parse.specs.Machine.{reader}
use Rattle.us_parse.specs.Parses.{tokens_of}
use Rattle.us_print.specs.Canon.{decl_text}
use Rattle.us_print.specs.Canon as decl
use Rattle.us_print.proofs.RoundTrip as declaration
use Rattle.us_unit.specs.Units.{PlainUnit, unit_text}
use Rattle.us_unit.specs.Listing.{AllUnits, IsListing, IsUnit, ListingsReadBack, ReadAs, ReadOnce, first_unit, listing_text, read_behind, read_front}
use Rattle.us_unit.proofs.Back.{behind_is, decl_line}

-- the end of a line is a blank, in every language
blank_first : {K : Type 0} (L : Language K) (bs : List ℕ) → lexed L (10 ∷ bs) Between ≡ lexed L bs Between
unfolding lexed
blank_first L bs = refl

nothing_read : tokens_of [] ≡ End
unfolding lexed
nothing_read = refl

-- bytes before which no token is
abbrev IsGap : List ℕ → Type 0
IsGap front = (bs : List ℕ) → tokens_of (front ++ bs) ≡ tokens_of bs

no_gap : IsGap []
no_gap bs = refl

line_gap : IsGap (10 ∷ [])
unfolding lexed
line_gap bs = refl

-- ---- the first unit

code_line : (p : ProgramTree) (more : List ℕ) → code_text p ++ more ≡ (code.open_text p ++ (125 ∷ [])) ++ (10 ∷ more)
code_line p more = append_assoc (code.open_text p) (125 ∷ 10 ∷ []) more ∙ sym (append_assoc (code.open_text p) (125 ∷ []) (10 ∷ more))

program_first : (d : Declared) (p : ProgramTree) (more : List ℕ) → KeepsLimits p → IsNamed p
    → read_behind (10 ∷ (code_text p ++ more)) d (answer_on (10 ∷ (code_text p ++ more))) ≡ Some (record { target = d; program = p }, 10 ∷ more)
program_first d p more keeps named =
    let all = 10 ∷ (code_text p ++ more) in
    ap (λ t. read_behind all d (answer grammar limits Whole t)) (blank_first language (code_text p ++ more))
    ∙ ap (read_behind all d) (read_back p keeps named more)
    ∙ ap (λ rest. Some (record { target = d; program = p }, rest)) (behind_is all (10 ∷ (code.open_text p ++ (125 ∷ []))) (10 ∷ more) (ap (λ w. 10 ∷ w) (code_line p more)))

unit_first : (front : List ℕ) (u : PlainUnit) (more : List ℕ) → IsGap front → IsUnit u → first_unit (front ++ (unit_text u.target u.program ++ more)) ≡ Some (u, 10 ∷ more)
unit_first front u more gap h =
    let d = u.target in
    let p = u.program in
    let all = front ++ (unit_text d p ++ more) in
    let rest = code_text p ++ more in
    let q = declaration.read_back d h.valid rest in
    let same : all ≡ front ++ (decl_text d ++ rest) = ap (λ w. front ++ w) (append_assoc (decl_text d) (code_text p) more) in
    let parts : all ≡ (front ++ (decl.open_text d ++ (125 ∷ []))) ++ (10 ∷ rest) =
    same ∙ ap (λ w. front ++ w) (decl_line d rest) ∙ sym (append_assoc front (decl.open_text d ++ (125 ∷ [])) (10 ∷ rest)) in
    ap (λ t. read_front all (scan (reader []) t AtFormat)) (gap (unit_text d p ++ more) ∙ ap tokens_of (append_assoc (decl_text d) (code_text p) more))
    ∙ ap (read_front all) q.read
    ∙ ap (λ w. read_behind w (declared q.text) (answer_on w)) (behind_is all (front ++ (decl.open_text d ++ (125 ∷ []))) (10 ∷ rest) parts)
    ∙ ap (λ x. read_behind (10 ∷ rest) x (answer_on (10 ∷ rest))) q.is
    ∙ program_first d p more h.limits h.named

-- ---- all units

units_read : (front : List ℕ) (us : List PlainUnit) → IsGap front → AllUnits us → ReadAs us (front ++ listing_text us)
units_read front [] gap h = gap [] ∙ nothing_read
units_read front (u ∷ us) gap h = (10 ∷ listing_text us, unit_first front u (listing_text us) gap h.0, units_read (10 ∷ []) us line_gap h.1)

pub listings_read : ListingsReadBack
listings_read us bytes h = subst (ReadAs us) (sym h.text) (units_read [] us no_gap h.units)

unit_or : PlainUnit → Option (PlainUnit × List ℕ) → PlainUnit
unit_or u None = u
unit_or u (Some x) = x.0

rest_or : List ℕ → Option (PlainUnit × List ℕ) → List ℕ
rest_or bytes None = bytes
rest_or bytes (Some x) = x.1

none_first : (bytes : List ℕ) → tokens_of bytes ≡ End → first_unit bytes ≡ None
none_first bytes e = ap (λ t. read_front bytes (scan (reader []) t AtFormat)) e

not_both : (bytes : List ℕ) (u : PlainUnit) (rest : List ℕ) → tokens_of bytes ≡ End → first_unit bytes ≡ Some (u, rest) → ⊥
not_both bytes u rest e f =
    let none = none_first bytes e in
    cc

pub read_once : ReadOnce
unfolding rest_or unit_or
read_once [] [] bytes h k = refl
read_once [] (v ∷ vs) bytes h k = absurd (not_both bytes v k.0 h k.1)
read_once (u ∷ us) [] bytes h k = absurd (not_both bytes u h.0 k h.1)
read_once (u ∷ us) (v ∷ vs) bytes h k =
    let same : Some (u, h.0) ≡ Some (v, k.0) = sym h.1 ∙ k.1 in
    let rest : h.0 ≡ k.0 = ap (rest_or bytes) same in
    ap₂ (λ (x : PlainUnit) (xs : List PlainUnit). x ∷ xs) (ap (unit_or u) same) (read_once us vs k.0 (subst (ReadAs us) rest h.2) k.2)

-- ---- one more unit

all_more : (us : List PlainUnit) (u : PlainUnit) → AllUnits us → IsUnit u → AllUnits (us ++ (u ∷ []))
all_more [] u h k = (k, tt)
all_more (x ∷ us) u h k = (h.0, all_more us u h.1 k)

pub one_unit_more : (us : List PlainUnit) (u : PlainUnit) (old new v : List ℕ) → v ≡ unit_text u.target u.program → new ≡ old ++ v → IsUnit u → IsListing us old → IsListing (us ++ (u ∷ [])) new
one_unit_more us u old new v is added unit h = record {
  text = added ∙ ap₂ (λ (a b : List ℕ). a ++ b) h.text is ∙ flat_map_more (λ u. unit_text u.target u.program) [] us u;
  units = all_more us u h.units unit;
}

-- bytes that were added behind others
pub added : {T E : Type 0} (r : Result T E) (old new v : List ℕ) → new ≡ (if is_ok r then old ++ v else old) → OnOk r (new ≡ old ++ v)
added (Ok x) old new v h = h
added (Err e) old new v h = tt
