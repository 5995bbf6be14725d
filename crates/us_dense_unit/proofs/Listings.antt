-- A listing is read as its units, and last as its dense unit.
use Rattle.std.proofs.Common.{◌≡◌, ℕ, List, [], ◌∷◌, ◌++◌, Bool, true, false, cond, eqb, Option, Some, None, refl, sym, ap, ap₂, ◌∙◌, subst, append_assoc}
use Rattle.std.specs.Prelude.{if◌then◌else◌, length, codes}
use Rattle.us_tokens.specs.Lex.{Language, Mode, Between, Comment, Word, Digits, Sign, begins, is_blank, is_digit, is_letter, lexed}
use Rattle.us_tokens.specs.Text.{Text, Then}
use Rattle.us_tokens.specs.Reading.{scan}
use Rattle.us_grammar.specs.Reading.{answer}
use Rattle.us_code.specs.Limits.{KeepsLimits}
use Rattle.us_code.specs.Plain.{ProgramTree}
use Rattle.us_code_table.specs.Table.{Whole, grammar}
use Rattle.us_code_table.specs.Words as code_words
use Rattle.us_code_table.specs.Limits.{limits}
use Rattle.us_code_print.specs.Canon.{code_text}
use Rattle.us_code_print.specs.Canon as code
use Rattle.us_code_print.specs.ReadBack.{IsNamed}
use Rattle.us_code_print.proofs.ReadProgram.{read_back}
use Rattle.us_code_reader.specs.Parses.{answer_on}
use Rattle.us_decl.specs.Words.{language}
use Rattle.us_decl.specs.declared.lexeme.Lexeme.TheVariants as lexeme
use Rattle.us_decl.specs.Declares.{Declared, declared}
use Rattle.us_parse.specs.Piece.{AtFormat}
use Rattle.us_parse.specs.Machine.{reader}
use Rattle.us_parse.specs.Parses.{tokens_of}
use Rattle.us_print.specs.Canon.{decl_text}
use Rattle.us_print.specs.Canon as decl
use Rattle.us_print.proofs.RoundTrip as declaration
use Rattle.us_unit.specs.Units.{PlainUnit, unit_text}
use Rattle.us_unit.specs.Listing.{AllUnits, IsListing, IsUnit, first_unit, listing_text, read_behind, read_front}
use Rattle.us_unit.proofs.Back.{behind_is, decl_line}
use Rattle.us_dense_unit.specs.Dense.{DenseUnit, IsDense, IsDenseUnit, dense_line, dense_text}
use Rattle.us_dense_unit.specs.Listing.{DenseListingsReadBack, DenseReadOnce, IsDenseListing, UnitsThenDense, behind_blanks}
use Rattle.us_dense_unit.proofs.Back.{dense_back}
use Rattle.us_dense_unit.proofs.Once.{unit_once}

-- ---- the first unit, whatever follows it

-- the end of a line is a blank, in every language
blank_first : {K : Type 0} (L : Language K) (bs : List ℕ) → lexed L (10 ∷ bs) Between ≡ lexed L bs Between
unfolding lexed
blank_first L bs = refl

code_line : (p : ProgramTree) (more : List ℕ) → code_text p ++ more ≡ (code.open_text p ++ (125 ∷ [])) ++ (10 ∷ more)
code_line p more = append_assoc (code.open_text p) (125 ∷ 10 ∷ []) more ∙ sym (append_assoc (code.open_text p) (125 ∷ []) (10 ∷ more))

program_first : (d : Declared) (p : ProgramTree) (more : List ℕ) → KeepsLimits p → IsNamed p
    → read_behind (10 ∷ (code_text p ++ more)) d (answer_on (10 ∷ (code_text p ++ more))) ≡ Some (record { target = d; program = p }, 10 ∷ more)
program_first d p more keeps named =
    let all = 10 ∷ (code_text p ++ more) in
    ap (λ t. read_behind all d (answer grammar limits Whole t)) (blank_first code_words.language (code_text p ++ more))
    ∙ ap (read_behind all d) (read_back p keeps named more)
    ∙ ap (λ rest. Some (record { target = d; program = p }, rest)) (behind_is all (10 ∷ (code.open_text p ++ (125 ∷ []))) (10 ∷ more) (ap (λ w. 10 ∷ w) (code_line p more)))

-- bytes of blanks: no token is before what stands behind them
record IsGap (gap : List ℕ) : Type 0 where
  tokens : (bs : List ℕ) → tokens_of (gap ++ bs) ≡ tokens_of bs
  blanks : (u : DenseUnit) → behind_blanks (gap ++ dense_text u) ≡ dense_text u

no_gap : IsGap []
no_gap = record { tokens = λ bs. refl; blanks = λ u. refl }

line_gap : IsGap (10 ∷ [])
line_gap = record { tokens = λ bs. blank_first language bs; blanks = λ u. refl }

unit_first : (gap : List ℕ) (u : PlainUnit) (more : List ℕ) → IsGap gap → IsUnit u → first_unit (gap ++ (unit_text u.target u.program ++ more)) ≡ Some (u, 10 ∷ more)
unit_first gap u more is h =
    let d = u.target in
    let p = u.program in
    let all = gap ++ (unit_text d p ++ more) in
    let rest = code_text p ++ more in
    let q = declaration.read_back d h.valid rest in
    let same : all ≡ gap ++ (decl_text d ++ rest) = ap (λ w. gap ++ w) (append_assoc (decl_text d) (code_text p) more) in
    let parts : all ≡ (gap ++ (decl.open_text d ++ (125 ∷ []))) ++ (10 ∷ rest) =
    same ∙ ap (λ w. gap ++ w) (decl_line d rest) ∙ sym (append_assoc gap (decl.open_text d ++ (125 ∷ [])) (10 ∷ rest)) in
    ap (λ t. read_front all (scan (reader []) t AtFormat)) (is.tokens (unit_text d p ++ more) ∙ ap tokens_of (append_assoc (decl_text d) (code_text p) more))
    ∙ ap (read_front all) q.read
    ∙ ap (λ w. read_behind w (declared q.text) (answer_on w)) (behind_is all (gap ++ (decl.open_text d ++ (125 ∷ []))) (10 ∷ rest) parts)
    ∙ ap (λ x. read_behind (10 ∷ rest) x (answer_on (10 ∷ rest))) q.is
    ∙ program_first d p more h.limits h.named

-- ---- all units

units_read : (gap : List ℕ) (us : List PlainUnit) (last : DenseUnit) → IsGap gap → AllUnits us → IsDense last
    → UnitsThenDense us last (gap ++ (listing_text us ++ dense_text last))
units_read gap [] last is h k = subst (IsDenseUnit last) (sym (is.blanks last)) (dense_back last k)
units_read gap (u ∷ us) last is h k =
    let more = listing_text us ++ dense_text last in (
      10 ∷ more,
      ap (λ w. first_unit (gap ++ w)) (append_assoc (unit_text u.target u.program) (listing_text us) (dense_text last)) ∙ unit_first gap u more is h.0,
      units_read (10 ∷ []) us last line_gap h.1 k,
    )

pub listings_read : DenseListingsReadBack
listings_read us last bytes h = subst (UnitsThenDense us last) (sym h.text) (units_read [] us last no_gap h.units h.dense)

-- ---- no other reading

-- a byte between tokens
between : {K : Type 0} (L : Language K) (b : ℕ) (bs : List ℕ) → lexed L (b ∷ bs) Between ≡ begins b (lexed L bs)
unfolding lexed
between L b bs = refl

past_blank : {K : Type 0} (b : ℕ) (go : Mode → Text K) → is_blank b ≡ true → begins b go ≡ go Between
past_blank b go e =
    ap (λ (t : Bool). cond t (go Between) (cond (eqb b 35) (go Comment) (cond (is_letter b) (go (Word (b ∷ []))) (cond (is_digit b) (go (Digits (b ∷ []))) (go (Sign b)))))) e

tokens_first : (b : ℕ) (bs : List ℕ) (blank : Bool) → is_blank b ≡ blank → tokens_of bs ≡ tokens_of (behind_blanks bs)
    → tokens_of (b ∷ bs) ≡ tokens_of (if blank then behind_blanks bs else b ∷ bs)
tokens_first b bs true e more = between language b bs ∙ past_blank b (lexed language bs) e ∙ more
tokens_first b bs false e more = refl

-- blanks before the tokens say nothing
tokens_behind : (bytes : List ℕ) → tokens_of bytes ≡ tokens_of (behind_blanks bytes)
tokens_behind [] = refl
tokens_behind (b ∷ bs) = tokens_first b bs (is_blank b) refl (tokens_behind bs)

-- the word of a dense unit's line begins no declaration
dense_word : (bs : List ℕ) → tokens_of (codes "dense " ++ bs) ≡ Then lexeme.Name (codes "dense") (length (32 ∷ bs)) (tokens_of bs)
unfolding lexed
dense_word bs = refl

no_unit_first : (bytes bs : List ℕ) → behind_blanks bytes ≡ codes "dense " ++ bs → first_unit bytes ≡ None
no_unit_first bytes bs e = ap (λ t. read_front bytes (scan (reader []) t AtFormat)) (tokens_behind bytes ∙ ap tokens_of e ∙ dense_word bs)

not_both : (bytes : List ℕ) (last : DenseUnit) (u : PlainUnit) (rest : List ℕ) → IsDenseUnit last (behind_blanks bytes) → first_unit bytes ≡ Some (u, rest) → ⊥
not_both bytes last u rest h f =
    let none = no_unit_first bytes _ h.line in
    cc

unit_or : PlainUnit → Option (PlainUnit × List ℕ) → PlainUnit
unit_or u None = u
unit_or u (Some x) = x.0

rest_or : List ℕ → Option (PlainUnit × List ℕ) → List ℕ
rest_or bytes None = bytes
rest_or bytes (Some x) = x.1

pub read_once : DenseReadOnce
unfolding rest_or unit_or
read_once [] [] u v bytes h k = (refl, unit_once u v (behind_blanks bytes) h k)
read_once [] (y ∷ ys) u v bytes h k = absurd (not_both bytes u y k.0 h k.1)
read_once (x ∷ xs) [] u v bytes h k = absurd (not_both bytes v x h.0 k h.1)
read_once (x ∷ xs) (y ∷ ys) u v bytes h k =
    let same : Some (x, h.0) ≡ Some (y, k.0) = sym h.1 ∙ k.1 in
    let rest : h.0 ≡ k.0 = ap (rest_or bytes) same in
    let more = read_once xs ys u v k.0 (subst (UnitsThenDense xs u) rest h.2) k.2 in
    (ap₂ (λ (z : PlainUnit) (zs : List PlainUnit). z ∷ zs) (ap (unit_or x) same) more.0, more.1)

-- ---- a dense unit behind a listing

pub dense_behind : (us : List PlainUnit) (last : DenseUnit) (old new v : List ℕ) → v ≡ dense_text last → new ≡ old ++ v → IsDense last → IsListing us old → IsDenseListing us last new
dense_behind us last old new v is added dense h = record {
  text = added ∙ ap₂ (λ (a b : List ℕ). a ++ b) h.text is;
  units = h.units;
  dense = dense;
}
