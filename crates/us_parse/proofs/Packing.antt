-- Packs, wherever they stand.
use Rattle.std.proofs.Common.{◌≡◌, ℕ, ◌+◌, ◌<◌, ◌≤◌, List, Option, Some, None, true, false, ltb, ◌&&◌, refl, sym, ap, ◌∙◌, arith, subst}
use Rattle.us_tokens.specs.Text as text
use Rattle.us_tokens.specs.Text.{Text, left_of, after}
use Rattle.us_decl.specs.declared.lexeme.Lexeme.{Lexeme}
use Rattle.us_decl.specs.declared.lexeme.Lexeme.TheVariants as lexeme
use Rattle.us_parse.specs.declared.stop.Stop.{Stop}
use Rattle.us_parse.specs.declared.stop.Stop.TheVariants as stop
use Rattle.us_decl.specs.Limits.{count, all, fits_number, fits_column, fits_pack, fits_packs, fits_numbers, fits_levels, fits_part, fits_queries, all_run, count_run}
use Rattle.us_parse.specs.Within.{fits_before, fits_packing}
use Rattle.us_parse.specs.Reads.{size, Took, lead, is_fixed, refused_at, Leads, Fails}
use Rattle.us_parse.specs.ReadsParts.{Series, GoesSeries, column_token, has_column, column_fault, GoesPack}
use Rattle.us_decl.proofs.Deciding.{both, left_of as left_true, right_of, not_right, below, is_below, above}
use Rattle.us_parse.proofs.Exprs.{not_left}
use Rattle.us_parse.proofs.Steps.{goes, exceeds, refuses, leads_then, fails_via, goes_expect, shorter_took}
use Rattle.us_decl.specs.Token.{Token, Fixed, Number}
use Rattle.us_decl.specs.declared.mark.Mark.TheVariants as mark
use Rattle.us_decl.specs.declared.column.Column.{Column}
use Rattle.us_decl.specs.declared.column.Column.TheVariants.{Level, Val}
use Rattle.us_decl.specs.Grammar.{Comma, And, Part}
use Rattle.us_parse.specs.Piece.{Before, Piece, Tail, AtPack, AtColumn, AfterColumn, one_more, packed, step}

packing_part : (b : Before) (p : Part) → fits_packing b p ≡ true → fits_part p ≡ true
packing_part b p e = left_true (fits_part p) (ltb (count_run p.packs) 16) (right_of (fits_before b) (fits_part p && ltb (count_run p.packs) 16) e)

packing_before : (b : Before) (p : Part) → fits_packing b p ≡ true → fits_before b ≡ true
packing_before b p e = left_true (fits_before b) (fits_part p && ltb (count_run p.packs) 16) e

packing_room : (b : Before) (p : Part) → fits_packing b p ≡ true → count_run p.packs < 16
packing_room b p e = is_below (count_run p.packs) 16 (right_of (fits_part p) (ltb (count_run p.packs) 16) (right_of (fits_before b) (fits_part p && ltb (count_run p.packs) 16) e))

small_pack : (cs : Comma Column) → all fits_column cs ≡ true → count cs ≤ 16 → fits_pack cs ≡ true
small_pack cs a c = both _ _ a (below (count cs) 17 (omega arith))

column_step : (b : Before) (p : Part) (cs : Option (Comma Column)) (k : Column) → step (AtColumn b p cs) (column_token k) ≡ Some (AfterColumn b p (one_more cs k))
column_step b p cs (Level k) = refl
column_step b p cs Val = refl

count_more : {A : Type 0} (ks : Comma A) (k : A) → count (one_more (Some ks) k) ≡ count ks + 1
count_more ks k = refl

-- the columns of a pack
pub column_series : (b : Before) (p : Part) → fits_packing b p ≡ true → Series Column column_token fits_column has_column column_fault (AtColumn b p) (AfterColumn b p)
column_series b p e = record {
  takes = λ there next ks k t a c. goes there next (column_token k) (AtColumn b p ks) (AfterColumn b p (one_more ks k)) t (column_step b p ks k) ((λ x. refl), refl) (both _ _ e (small_pack (one_more ks k) a c));
  goes_on = λ there next ks t a c. goes there next (Fixed mark.Comma) (AfterColumn b p ks) (AtColumn b p (Some ks)) t refl ((λ x. refl), refl) (both _ _ e (small_pack ks a c));
  lost = lost;
  full = full;
}
  where
    too_large : (there more : Text Lexeme) (w : List ℕ) (c k : ℕ) (ks : Option (Comma Column)) → there ≡ text.Then (lexeme.Number k) w c more → fits_pack (one_more ks (Level k)) ≡ false → Fails there (AtColumn b p ks) (stop.TooBig (left_of there))
    too_large there more w c k ks is f = exceeds there more (Number k) (AtColumn b p ks) (AfterColumn b p (one_more ks (Level k))) (record { kind = lexeme.Number k; bytes = w; behind = c; parts = is; is = refl }) refl ((λ x. refl), refl) (not_right (fits_packing b p) _ f)

    unfit : (ks : Option (Comma Column)) (k : ℕ) → fits_number k ≡ false → fits_pack (one_more ks (Level k)) ≡ false
    unfit None k f = not_left _ _ f
    unfit (Some ks) k f = not_left _ _ (not_right (all fits_column ks) _ f)

    lost : (there : Text Lexeme) (ks : Option (Comma Column)) → has_column there ≡ false → Fails there (AtColumn b p ks) (column_fault there)
    lost text.End ks f = λ x. refl
    lost (text.Bad l) ks f = λ x. refl
    lost (text.Then lexeme.Name w c more) ks f = λ x. refl
    lost (text.Then (lexeme.Number k) w c more) ks f = too_large (text.Then (lexeme.Number k) w c more) more w c k ks refl (unfit ks k f)
    lost (text.Then (lexeme.Fixed mark.Val) w c more) ks f = absurd cc
    lost (text.Then (lexeme.Fixed m) w c more) ks f = λ x. refl

    crowded : (ks : Comma Column) (k : Column) → 16 ≤ count ks → fits_pack (And ks k) ≡ false
    crowded ks k f = not_right (all fits_column (And ks k)) _ (above (count ks + 1) 17 (omega arith))

    full : (there : Text Lexeme) (ks : Comma Column) → 16 ≤ count ks → Fails there (AtColumn b p (Some ks)) (column_fault there)
    full text.End ks f = λ x. refl
    full (text.Bad l) ks f = λ x. refl
    full (text.Then lexeme.Name w c more) ks f = λ x. refl
    full (text.Then (lexeme.Number k) w c more) ks f = too_large (text.Then (lexeme.Number k) w c more) more w c k (Some ks) refl (crowded ks (Level k) f)
    full (text.Then (lexeme.Fixed mark.Val) w c more) ks f = exceeds (text.Then (lexeme.Fixed mark.Val) w c more) more (Fixed mark.Val) (AtColumn b p (Some ks)) (AfterColumn b p (And ks Val)) (record { kind = lexeme.Fixed mark.Val; bytes = w; behind = c; parts = refl; is = refl }) refl ((λ x. refl), refl) (not_right (fits_packing b p) _ (crowded ks Val f))
    full (text.Then (lexeme.Fixed m) w c more) ks f = λ x. refl

-- a pack, behind its word

to_columns : (old mid : Text Lexeme) (b : Before) (p : Part) → Took old mid (Fixed mark.Open) → fits_packing b p ≡ true → Leads old (AtPack b p) mid (AtColumn b p None)
to_columns old mid b p t e = goes_expect mark.Open old mid (AtPack b p) (AtColumn b p None) t refl ((λ x. refl), refl) (both _ _ e refl)

pub pack_lost : (old mid : Text Lexeme) (r : Stop) → Took old mid (Fixed mark.Open) → ((at : Option (Comma Column) → Piece) (tail : Comma Column → Piece) → Series Column column_token fits_column has_column column_fault at tail → Fails mid (at None) r) → (b : Before) (p : Part) → fits_packing b p ≡ true → Fails old (AtPack b p) r
pack_lost old mid r t f b p e = fails_via r old mid (AtPack b p) (AtColumn b p None) (to_columns old mid b p t e) (f (AtColumn b p) (AfterColumn b p) (column_series b p e))

to_pack_end : (old mid left : Text Lexeme) (items : List Column) → Took old mid (Fixed mark.Open) → (g : GoesSeries Column column_token fits_column has_column column_fault mid left items) → (b : Before) (p : Part) → fits_packing b p ≡ true → Leads old (AtPack b p) left (AfterColumn b p g.text)
to_pack_end old mid left items t g b p e = leads_then old mid left (AtPack b p) (AtColumn b p None) (AfterColumn b p g.text) (to_columns old mid b p t e) (g.goes (AtColumn b p) (AfterColumn b p) (column_series b p e))

no_column_end : (b : Before) (p : Part) (cs : Comma Column) (k : Token) → is_fixed mark.Close (Some k) ≡ false → is_fixed mark.Comma (Some k) ≡ false → step (AfterColumn b p cs) k ≡ None
no_column_end b p cs (Fixed mark.Close) x y = absurd cc
no_column_end b p cs (Fixed mark.Comma) x y = absurd cc
no_column_end b p cs _ x y = refl

pub pack_unclosed : (old mid left : Text Lexeme) (items : List Column) (r : Stop) → Took old mid (Fixed mark.Open) → GoesSeries Column column_token fits_column has_column column_fault mid left items × (is_fixed mark.Comma (lead left) ≡ false) × (size left ≤ size mid) → (r ≡ refused_at left) × (is_fixed mark.Close (lead left) ≡ false) → (b : Before) (p : Part) → fits_packing b p ≡ true → Fails old (AtPack b p) r
pack_unclosed old mid left items r t g f b p e = fails_via r old left (AtPack b p) (AfterColumn b p (g.0).text) (to_pack_end old mid left items t g.0 b p e)
    (subst (λ (x : Stop). Fails left (AfterColumn b p (g.0).text) x) (sym f.0) (refuses left (AfterColumn b p (g.0).text) refl (λ k q. no_column_end b p (g.0).text k (ap (is_fixed mark.Close) (sym q) ∙ f.1) (ap (is_fixed mark.Comma) (sym q) ∙ g.1))))

pub packed_fits : (p : Part) (cs : Comma Column) → fits_part p ≡ true → fits_pack cs ≡ true → count_run p.packs < 16 → fits_part (packed p cs) ≡ true
packed_fits p cs e f c =
    let rest : (fits_levels p.queries p.levels && (fits_numbers p.trim && (fits_numbers p.merge && fits_packs p.packs))) ≡ true = right_of (fits_queries p.queries) _ e in
    let rest2 : (fits_numbers p.trim && (fits_numbers p.merge && fits_packs p.packs)) ≡ true = right_of (fits_levels p.queries p.levels) _ rest in
    let rest3 : (fits_numbers p.merge && fits_packs p.packs) ≡ true = right_of (fits_numbers p.trim) _ rest2 in
    let rest4 : fits_packs p.packs ≡ true = right_of (fits_numbers p.merge) _ rest3 in
    both (fits_queries p.queries) _ (left_true (fits_queries p.queries) _ e) (both (fits_levels p.queries p.levels) _ (left_true (fits_levels p.queries p.levels) _ rest)
    (both (fits_numbers p.trim) _ (left_true (fits_numbers p.trim) _ rest2) (both (fits_numbers p.merge) _ (left_true (fits_numbers p.merge) _ rest3)
    (both _ _ (both _ _ (left_true (all_run fits_pack p.packs) _ rest4) f) (below (count_run p.packs + 1) 17 (omega arith))))))

pub pack_goes : (old mid left new : Text Lexeme) (items : List Column) → Took old mid (Fixed mark.Open) → GoesSeries Column column_token fits_column has_column column_fault mid left items × (is_fixed mark.Comma (lead left) ≡ false) × (size left ≤ size mid) → Took left new (Fixed mark.Close) → GoesPack old new items
pack_goes old mid left new items t g c =
    let x : GoesSeries Column column_token fits_column has_column column_fault mid left items = g.0 in record {
      text = x.text;
      is = x.is;
      fits = small_pack x.text x.all (omega (arith, x.count, x.few));
      shorter = let p : size mid < size old = shorter_took old mid (Fixed mark.Open) t in let q : size new < size left = shorter_took left new (Fixed mark.Close) c in omega (arith, g.2);
      goes = λ b p e. leads_then old left new (AtPack b p) (AfterColumn b p x.text) (Tail b (packed p x.text)) (to_pack_end old mid left items t x b p e)
          (goes left new (Fixed mark.Close) (AfterColumn b p x.text) (Tail b (packed p x.text)) c refl ((λ y. refl), refl)
          (both _ _ (packing_before b p e) (packed_fits p x.text (packing_part b p e) (small_pack x.text x.all (omega (arith, x.count, x.few))) (packing_room b p e))));
    }
