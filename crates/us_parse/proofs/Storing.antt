-- Parts, wherever they stand.
use Rattle.std.proofs.Common.{◌≡◌, ℕ, ◌+◌, ◌<◌, ◌≤◌, List, [], ◌∷◌, ◌++◌, length, map, Option, Some, None, Bool, true, false, ◌&&◌, refl, sym, ap, ap₂, ◌∙◌, arith, subst, Result, Ok, Err, ◌⊎◌, inl, inr, length-append}
use Rattle.std.proofs.lemmas.List.{map-append}
use Rattle.us_tokens.specs.Text as text
use Rattle.us_tokens.specs.Text.{Text, left_of, after}
use Rattle.us_expr.specs.Tree.{Tree, tree}
use Rattle.us_expr.specs.declared.expression.Expr as code
use Rattle.us_decl.specs.declared.lexeme.Lexeme.{Lexeme}
use Rattle.us_decl.specs.declared.lexeme.Lexeme.TheVariants as lexeme
use Rattle.us_parse.specs.declared.stop.Stop.{Stop}
use Rattle.us_parse.specs.declared.stop.Stop.TheVariants as stop
use Rattle.us_decl.specs.Names.{names_expr, names_queries, names_levels, names_comma}
use Rattle.us_decl.specs.Limits.{count, all, fits_number, fits_packs, fits_numbers, fits_levels, fits_part, fits_queries, count_run}
use Rattle.us_parse.specs.Within.{fits, fits_before, fits_front, fits_packing}
use Rattle.us_decl.specs.Declares.{tree_expr, comma_items, maybe_items, run_items}
use Rattle.us_parse.specs.Machine.{done, reader}
use Rattle.us_tokens.specs.Reading as reading
use Rattle.us_parse.specs.Reads.{size, Took, lead, is_fixed, refused_at, Leads, Fails, number_fault, has_number}
use Rattle.us_parse.specs.ReadsParts.{AtFront, ReadsMap, Series, GoesSeries, GoesPack}
use Rattle.us_decl.proofs.Deciding.{both, left_of as left_true, right_of, not_right, below, above}
use Rattle.us_parse.proofs.Exprs.{not_left}
use Rattle.us_parse.proofs.Cycle.{fixed_lead}
use Rattle.us_decl.proofs.Numbering.{GoesOn, goes_on_self, goes_on_trans, expr_goes_on}
use Rattle.std.proofs.lemmas.List.{append-nil}
use Rattle.us_decl.specs.Declares as declares
use Rattle.us_decl.specs.Declares.{query_of}
use Rattle.us_decl.specs.Names.{names_part}
use Rattle.us_expr.specs.declared.queries.Query as asked
use Rattle.us_parse.specs.declared.storage.Storage.{Storage}
use Rattle.us_decl.specs.declared.decl.Part as parts
use Rattle.us_decl.specs.Views.{query_view, part_view}
use Rattle.us_parse.specs.ReadsQueries.{GoesQueries}
use Rattle.us_parse.specs.ReadsBodies.{with_packs, GoesPacks, ReadsPacks, ReadsOptional, stored, GoesStorage, ReadsStorage, divides, AtMapping, GoesMapping, ReadsMapping, GoesPart, ReadsPart, ReadsWhole}
use Rattle.us_parse.proofs.Steps.{Plain, goes, exceeds, refuses, took_of, leads_then, fails_via, goes_expect, fails_expect, shorter_took}
use Rattle.us_decl.specs.Token.{Token, Fixed, Name, Number, same}
use Rattle.us_decl.specs.declared.mark.Mark.TheVariants as mark
use Rattle.us_decl.specs.declared.column.Column.{Column}
use Rattle.us_decl.specs.Grammar.{Comma, Only, And, Run, Empty, Then, Expr, Query, Part}
use Rattle.us_parse.specs.Piece.{Before, BehindName, BehindHead, BehindBlocks, Piece, Between, AtMap, AtLevels, Tail, AtTrim, AtMerge, AtPack, a_number, one_more, part_of, more_numbers, a_trim, a_merge, trimmed, merged, step}

-- packs, one after the other

pub start_packs : (old : Text Lexeme) (packs : List (List Column)) → packs ≡ [] → GoesPacks old old packs
start_packs old packs none = record {
  text = Empty;
  is = sym none;
  all = refl;
  count = sym (ap length none);
  few = omega (arith, ap length none);
  same = λ e. refl;
  goes = λ b p f g e earlier. ap (λ (x : Run (Comma Column)). reading.scan (reader earlier) old (Tail b (with_packs p x))) e;
}

module _ (old left mid : Text Lexeme) (packs : List (List Column)) (g : GoesPacks old left packs) (is : is_fixed mark.Pack (lead left) ≡ true) (eq : mid ≡ after left) where
  with_fits : (p : Part) → fits_part p ≡ true → fits_part (with_packs p g.text) ≡ true
  with_fits p e =
      let rest : (fits_levels p.queries p.levels && (fits_numbers p.trim && (fits_numbers p.merge && fits_packs p.packs))) ≡ true = right_of (fits_queries p.queries) _ e in
      let rest2 : (fits_numbers p.trim && (fits_numbers p.merge && fits_packs p.packs)) ≡ true = right_of (fits_levels p.queries p.levels) _ rest in
      let rest3 : (fits_numbers p.merge && fits_packs p.packs) ≡ true = right_of (fits_numbers p.trim) _ rest2 in
      both (fits_queries p.queries) _ (left_true (fits_queries p.queries) _ e) (both (fits_levels p.queries p.levels) _ (left_true (fits_levels p.queries p.levels) _ rest)
      (both (fits_numbers p.trim) _ (left_true (fits_numbers p.trim) _ rest2) (both (fits_numbers p.merge) _ (left_true (fits_numbers p.merge) _ rest3)
      (both _ _ g.all (below (count_run g.text) 17 (omega (arith, g.count, g.few)))))))

  packs_end : Took left (after left) (Fixed mark.Pack)
  packs_end = took_of left (Fixed mark.Pack) (fixed_lead mark.Pack (lead left) is)

  pub full_packs : (r : Stop) → r ≡ stop.TooBig (left_of left) → 16 ≤ length packs → (b : Before) (p : Part) → fits_before b ≡ true → fits_part p ≡ true → p.packs ≡ Empty → Fails old (Tail b p) r
  full_packs r e full b p f h n = fails_via r old left (Tail b p) (Tail b (with_packs p g.text)) (g.goes b p f h n)
      (subst (λ (x : Stop). Fails left (Tail b (with_packs p g.text)) x) (sym e)
      (exceeds left (after left) (Fixed mark.Pack) (Tail b (with_packs p g.text)) (AtPack b (with_packs p g.text)) packs_end refl ((λ x. refl), refl)
      (not_right (fits_before b) _ (not_right (fits_part (with_packs p g.text)) _ (above (count_run g.text) 16 (omega (arith, g.count)))))))

  packing_there : length packs < 16 → (b : Before) (p : Part) → fits_before b ≡ true → fits_part p ≡ true → fits_packing b (with_packs p g.text) ≡ true
  packing_there room b p f h = both _ _ f (both _ _ (with_fits p h) (below (count_run g.text) 16 (omega (arith, g.count))))

  to_pack : length packs < 16 → (b : Before) (p : Part) → fits_before b ≡ true → fits_part p ≡ true → p.packs ≡ Empty → Leads old (Tail b p) (after left) (AtPack b (with_packs p g.text))
  to_pack room b p f h n = leads_then old left (after left) (Tail b p) (Tail b (with_packs p g.text)) (AtPack b (with_packs p g.text)) (g.goes b p f h n)
      (goes left (after left) (Fixed mark.Pack) (Tail b (with_packs p g.text)) (AtPack b (with_packs p g.text)) packs_end refl ((λ x. refl), refl) (packing_there room b p f h))

  pub lost_pack : (r : Stop) → length packs < 16 → ((b : Before) (p : Part) → fits_packing b p ≡ true → Fails mid (AtPack b p) r) → (b : Before) (p : Part) → fits_before b ≡ true → fits_part p ≡ true → p.packs ≡ Empty → Fails old (Tail b p) r
  lost_pack r room h b p f q n = fails_via r old (after left) (Tail b p) (AtPack b (with_packs p g.text)) (to_pack room b p f q n) (subst (λ (x : Text Lexeme). Fails x (AtPack b (with_packs p g.text)) r) eq (h b (with_packs p g.text) (packing_there room b p f q)))

  pub more_packs : (new : Text Lexeme) (pack : List Column) (pushed : List (List Column)) → length packs < 16 → GoesPack mid new pack → pushed ≡ packs ++ (pack ∷ []) → GoesPacks old new pushed
  more_packs new pack pushed room h is2 = record {
    text = Then g.text h.text;
    is = map-append comma_items (run_items g.text) (h.text ∷ []) ∙ ap₂ (λ (x : List (List Column)) (y : List Column). x ++ (y ∷ [])) g.is h.is ∙ sym is2;
    all = both _ _ g.all h.fits;
    count = omega (arith, g.count, ap length is2, length-append packs (pack ∷ []));
    few = omega (arith, ap length is2, length-append packs (pack ∷ []));
    same = λ e. absurd cc;
    goes = λ b p f q n. leads_then old (after left) new (Tail b p) (AtPack b (with_packs p g.text)) (Tail b (with_packs p (Then g.text h.text))) (to_pack room b p f q n)
        (subst (λ (x : Text Lexeme). Leads x (AtPack b (with_packs p g.text)) new (Tail b (with_packs p (Then g.text h.text)))) eq (h.goes b (with_packs p g.text) (packing_there room b p f q)));
  }

  pub packs_smaller : (new : Text Lexeme) (pack : List Column) → GoesPack mid new pack → size new < size left
  packs_smaller new pack h = let a : size (after left) < size left = shorter_took left (after left) (Fixed mark.Pack) packs_end in let b : size new < size mid = h.shorter in let c : size mid ≡ size (after left) = ap size eq in omega arith

-- numbers behind trim, and behind merge

numbers_fit : (ks : Comma ℕ) → all fits_number ks ≡ true → count ks ≤ 16 → fits_numbers (Some ks) ≡ true
numbers_fit ks a c = both _ _ a (below (count ks) 17 (omega arith))

numbers_unfit : (ks : Option (Comma ℕ)) (k : ℕ) → fits_number k ≡ false → fits_numbers (Some (one_more ks k)) ≡ false
numbers_unfit None k f = not_left _ _ f
numbers_unfit (Some ks) k f = not_left _ _ (not_right (all fits_number ks) _ f)

numbers_crowded : (ks : Comma ℕ) (k : ℕ) → 16 ≤ count ks → fits_numbers (Some (And ks k)) ≡ false
numbers_crowded ks k f = not_right (all fits_number (And ks k)) _ (above (count ks + 1) 17 (omega arith))

abbrev tail_before : Before → Run Query → Option (Comma Expr) → Option (Comma ℕ) → Type 0
tail_before b qs ls cut = fits (Tail b (stored qs ls cut None Empty)) ≡ true

front_of_tail : (b : Before) (qs : Run Query) (ls : Option (Comma Expr)) (cut : Option (Comma ℕ)) → tail_before b qs ls cut → fits_front b qs ≡ true
front_of_tail b qs ls cut e = both _ _ (left_true (fits_before b) _ e) (left_true (fits_queries qs) _ (right_of (fits_before b) _ e))

levels_of_tail : (b : Before) (qs : Run Query) (ls : Option (Comma Expr)) (cut : Option (Comma ℕ)) → tail_before b qs ls cut → fits_levels qs ls ≡ true
levels_of_tail b qs ls cut e = left_true (fits_levels qs ls) _ (right_of (fits_queries qs) _ (right_of (fits_before b) _ e))

cut_of_tail : (b : Before) (qs : Run Query) (ls : Option (Comma Expr)) (cut : Option (Comma ℕ)) → tail_before b qs ls cut → fits_numbers cut ≡ true
cut_of_tail b qs ls cut e = left_true (fits_numbers cut) _ (right_of (fits_levels qs ls) _ (right_of (fits_queries qs) _ (right_of (fits_before b) _ e)))

stored_fits : (b : Before) (qs : Run Query) (ls : Option (Comma Expr)) (cut me : Option (Comma ℕ)) → fits_front b qs ≡ true → fits_levels qs ls ≡ true → fits_numbers cut ≡ true → fits_numbers me ≡ true → fits (Tail b (stored qs ls cut me Empty)) ≡ true
stored_fits b qs ls cut me f l c m = both (fits_before b) _ (left_true (fits_before b) _ f) (both (fits_queries qs) _ (right_of (fits_before b) (fits_queries qs) f) (both (fits_levels qs ls) _ l (both (fits_numbers cut) _ c (both (fits_numbers me) _ m refl))))

unfit_trim : (b : Before) (qs : Run Query) (ls : Option (Comma Expr)) (ks : Comma ℕ) → fits_numbers (Some ks) ≡ false → fits (Tail b (trimmed qs ls ks)) ≡ false
unfit_trim b qs ls ks e = not_right (fits_before b) _ (not_right (fits_queries qs) _ (not_right (fits_levels qs ls) _ (not_left _ _ e)))

unfit_merge : (b : Before) (qs : Run Query) (ls : Option (Comma Expr)) (cut : Option (Comma ℕ)) (ks : Comma ℕ) → fits_numbers (Some ks) ≡ false → fits (Tail b (merged qs ls cut ks)) ≡ false
unfit_merge b qs ls cut ks e = not_right (fits_before b) _ (not_right (fits_queries qs) _ (not_right (fits_levels qs ls) _ (not_right (fits_numbers cut) _ (not_left _ _ e))))

module _ (at : Option (Comma ℕ) → Piece) (tail' : Comma ℕ → Piece) (steps : (ks : Option (Comma ℕ)) (t : Token) → step (at ks) t ≡ a_number (λ k. tail' (one_more ks k)) t)
    (open_ : (ks : Option (Comma ℕ)) → done (at ks) ≡ None) (plain_tail : (ks : Comma ℕ) → Plain (tail' ks)) (unfit : (ks : Comma ℕ) → fits_numbers (Some ks) ≡ false → fits (tail' ks) ≡ false) where
  number_large : (there more : Text Lexeme) (w : List ℕ) (c k : ℕ) (ks : Option (Comma ℕ)) → there ≡ text.Then (lexeme.Number k) w c more → fits_numbers (Some (one_more ks k)) ≡ false → Fails there (at ks) (stop.TooBig (left_of there))
  number_large there more w c k ks is f = exceeds there more (Number k) (at ks) (tail' (one_more ks k)) (record { kind = lexeme.Number k; bytes = w; behind = c; parts = is; is = refl }) (steps ks (Number k)) (plain_tail (one_more ks k)) (unfit (one_more ks k) f)

  no_number : (there : Text Lexeme) (ks : Option (Comma ℕ)) → ((t : Token) → lead there ≡ Some t → a_number (λ k. tail' (one_more ks k)) t ≡ None) → Fails there (at ks) (refused_at there)
  no_number there ks f = refuses there (at ks) (open_ ks) (λ t e. steps ks t ∙ f t e)

  none_of : (o : Token) (t : Token) (ks : Option (Comma ℕ)) → Some o ≡ Some t → a_number (λ k. tail' (one_more ks k)) o ≡ None → a_number (λ k. tail' (one_more ks k)) t ≡ None
  none_of o t ks e f = let is : o ≡ t = cc in subst (λ (x : Token). a_number (λ k. tail' (one_more ks k)) x ≡ None) is f

  number_lost : (there : Text Lexeme) (ks : Option (Comma ℕ)) → has_number there ≡ false → Fails there (at ks) (number_fault there)
  number_lost text.End ks f = no_number text.End ks (λ t e. absurd cc)
  number_lost (text.Bad l) ks f = no_number (text.Bad l) ks (λ t e. absurd cc)
  number_lost (text.Then (lexeme.Fixed m) w c more) ks f = no_number (text.Then (lexeme.Fixed m) w c more) ks (λ t e. none_of (Fixed m) t ks e refl)
  number_lost (text.Then lexeme.Name w c more) ks f = no_number (text.Then lexeme.Name w c more) ks (λ t e. none_of (Name w) t ks e refl)
  number_lost (text.Then (lexeme.Number k) w c more) ks f = number_large (text.Then (lexeme.Number k) w c more) more w c k ks refl (numbers_unfit ks k f)

  number_full : (there : Text Lexeme) (ks : Comma ℕ) → 16 ≤ count ks → Fails there (at (Some ks)) (number_fault there)
  number_full text.End ks f = no_number text.End (Some ks) (λ t e. absurd cc)
  number_full (text.Bad l) ks f = no_number (text.Bad l) (Some ks) (λ t e. absurd cc)
  number_full (text.Then (lexeme.Fixed m) w c more) ks f = no_number (text.Then (lexeme.Fixed m) w c more) (Some ks) (λ t e. none_of (Fixed m) t (Some ks) e refl)
  number_full (text.Then lexeme.Name w c more) ks f = no_number (text.Then lexeme.Name w c more) (Some ks) (λ t e. none_of (Name w) t (Some ks) e refl)
  number_full (text.Then (lexeme.Number k) w c more) ks f = number_large (text.Then (lexeme.Number k) w c more) more w c k (Some ks) refl (numbers_crowded ks k f)

pub trim_series : (b : Before) (qs : Run Query) (ls : Option (Comma Expr)) → tail_before b qs ls None → Series ℕ Number fits_number has_number number_fault (AtTrim b qs ls) (λ ks. Tail b (trimmed qs ls ks))
trim_series b qs ls e = record {
  takes = λ there next ks k t a c. goes there next (Number k) (AtTrim b qs ls ks) (Tail b (trimmed qs ls (one_more ks k))) t refl ((λ x. refl), refl) (stored_fits b qs ls (Some (one_more ks k)) None (front_of_tail b qs ls None e) (levels_of_tail b qs ls None e) (numbers_fit (one_more ks k) a c) refl);
  goes_on = λ there next ks t a c. goes there next (Fixed mark.Comma) (Tail b (trimmed qs ls ks)) (AtTrim b qs ls (Some ks)) t refl ((λ x. refl), refl) (both _ _ (front_of_tail b qs ls None e) (both _ _ (levels_of_tail b qs ls None e) (numbers_fit ks a c)));
  lost = number_lost (AtTrim b qs ls) (λ ks. Tail b (trimmed qs ls ks)) (λ ks t. refl) (λ ks. refl) (λ ks. ((λ x. refl), refl)) (unfit_trim b qs ls);
  full = number_full (AtTrim b qs ls) (λ ks. Tail b (trimmed qs ls ks)) (λ ks t. refl) (λ ks. refl) (λ ks. ((λ x. refl), refl)) (unfit_trim b qs ls);
}

pub merge_series : (b : Before) (qs : Run Query) (ls : Option (Comma Expr)) (cut : Option (Comma ℕ)) → tail_before b qs ls cut → Series ℕ Number fits_number has_number number_fault (AtMerge b qs ls cut) (λ ks. Tail b (merged qs ls cut ks))
merge_series b qs ls cut e = record {
  takes = λ there next ks k t a c. goes there next (Number k) (AtMerge b qs ls cut ks) (Tail b (merged qs ls cut (one_more ks k))) t refl ((λ x. refl), refl) (stored_fits b qs ls cut (Some (one_more ks k)) (front_of_tail b qs ls cut e) (levels_of_tail b qs ls cut e) (cut_of_tail b qs ls cut e) (numbers_fit (one_more ks k) a c));
  goes_on = λ there next ks t a c. goes there next (Fixed mark.Comma) (Tail b (merged qs ls cut ks)) (AtMerge b qs ls cut (Some ks)) t refl ((λ x. refl), refl) (both _ _ (front_of_tail b qs ls cut e) (both _ _ (levels_of_tail b qs ls cut e) (both _ _ (cut_of_tail b qs ls cut e) (numbers_fit ks a c))));
  lost = number_lost (AtMerge b qs ls cut) (λ ks. Tail b (merged qs ls cut ks)) (λ ks t. refl) (λ ks. refl) (λ ks. ((λ x. refl), refl)) (unfit_merge b qs ls cut);
  full = number_full (AtMerge b qs ls cut) (λ ks. Tail b (merged qs ls cut ks)) (λ ks t. refl) (λ ks. refl) (λ ks. ((λ x. refl), refl)) (unfit_merge b qs ls cut);
}

-- behind the map, step by step

abbrev MapEnd : Before → Run Query → Option (Comma Expr) → Piece
MapEnd b qs ls = Tail b (part_of qs ls)

abbrev CutEnd : Before → Run Query → Option (Comma Expr) → Option (Comma ℕ) → Option (Comma ℕ) → Piece
CutEnd b qs ls cut me = Tail b (stored qs ls cut me Empty)

record AfterTrim (old new : Text Lexeme) (items : List ℕ) : Type 0 where
  pub cut : Option (Comma ℕ)
  pub is : maybe_items cut ≡ items
  pub whole : (b : Before) (qs : Run Query) (ls : Option (Comma Expr)) → fits (MapEnd b qs ls) ≡ true → fits (CutEnd b qs ls cut None) ≡ true
  pub leads : (b : Before) (qs : Run Query) (ls : Option (Comma Expr)) → fits (MapEnd b qs ls) ≡ true → Leads old (MapEnd b qs ls) new (CutEnd b qs ls cut None)
  pub comma : (cut ≡ None) ⊎ (is_fixed mark.Comma (lead new) ≡ false)
  pub trim : cut ≡ None → is_fixed mark.Trim (lead new) ≡ false

to_trim : (old mid : Text Lexeme) (b : Before) (qs : Run Query) (ls : Option (Comma Expr)) → Took old mid (Fixed mark.Trim) → fits (MapEnd b qs ls) ≡ true → Leads old (MapEnd b qs ls) mid (AtTrim b qs ls None)
to_trim old mid b qs ls t e = goes old mid (Fixed mark.Trim) (MapEnd b qs ls) (AtTrim b qs ls None) t refl ((λ x. refl), refl) (both _ _ (front_of_tail b qs ls None e) (both _ _ (levels_of_tail b qs ls None e) refl))

after_trim : (old new : Text Lexeme) (items : List ℕ) → ReadsOptional mark.Trim old new (Ok items) → AfterTrim old new items
after_trim old new items (inl t) = record {
  cut = None;
  is = sym t.0;
  whole = λ b qs ls e. e;
  leads = λ b qs ls e earlier. ap (λ (x : Text Lexeme). reading.scan (reader earlier) x (MapEnd b qs ls)) (sym t.1);
  comma = inl refl;
  trim = λ e. ap (λ (x : Text Lexeme). is_fixed mark.Trim (lead x)) t.1 ∙ t.2;
}
after_trim old new items (inr (mid, took, series)) =
    let g : GoesSeries ℕ Number fits_number has_number number_fault mid new items = series.0 in record {
      cut = Some g.text;
      is = g.is;
      whole = λ b qs ls e. stored_fits b qs ls (Some g.text) None (front_of_tail b qs ls None e) (levels_of_tail b qs ls None e) (numbers_fit g.text g.all (omega (arith, g.count, g.few))) refl;
      leads = λ b qs ls e. leads_then old mid new (MapEnd b qs ls) (AtTrim b qs ls None) (CutEnd b qs ls (Some g.text) None) (to_trim old mid b qs ls took e) (g.goes (AtTrim b qs ls) (λ ks. Tail b (trimmed qs ls ks)) (trim_series b qs ls e));
      comma = inr series.1;
      trim = λ e. absurd cc;
    }

to_merge : (old mid : Text Lexeme) (b : Before) (qs : Run Query) (ls : Option (Comma Expr)) (cut : Option (Comma ℕ)) → Took old mid (Fixed mark.Merge) → fits (CutEnd b qs ls cut None) ≡ true → Leads old (CutEnd b qs ls cut None) mid (AtMerge b qs ls cut None)
to_merge old mid b qs ls cut t e = goes old mid (Fixed mark.Merge) (CutEnd b qs ls cut None) (AtMerge b qs ls cut None) t refl ((λ x. refl), refl) (both _ _ (front_of_tail b qs ls cut e) (both _ _ (levels_of_tail b qs ls cut e) (both _ _ (cut_of_tail b qs ls cut e) refl)))

record AfterMerge (old new : Text Lexeme) (trim merge : List ℕ) : Type 0 where
  pub cut : Option (Comma ℕ)
  pub join : Option (Comma ℕ)
  pub trim_is : maybe_items cut ≡ trim
  pub merge_is : maybe_items join ≡ merge
  pub whole : (b : Before) (qs : Run Query) (ls : Option (Comma Expr)) → fits (MapEnd b qs ls) ≡ true → fits (CutEnd b qs ls cut join) ≡ true
  pub leads : (b : Before) (qs : Run Query) (ls : Option (Comma Expr)) → fits (MapEnd b qs ls) ≡ true → Leads old (MapEnd b qs ls) new (CutEnd b qs ls cut join)
  pub comma : (b : Before) (qs : Run Query) (ls : Option (Comma Expr)) → is_fixed mark.Comma (lead new) ≡ true → more_numbers b qs ls cut join Empty ≡ None
  pub trim_none : (b : Before) (qs : Run Query) (ls : Option (Comma Expr)) → is_fixed mark.Trim (lead new) ≡ true → a_trim b qs ls cut join Empty ≡ None
  pub merge_none : (b : Before) (qs : Run Query) (ls : Option (Comma Expr)) → is_fixed mark.Merge (lead new) ≡ true → a_merge b qs ls cut join Empty ≡ None

pub contrary : {A : Type 0} (b : Bool) → b ≡ true → b ≡ false → A
contrary b x y = absurd (let k : true ≡ false = sym x ∙ y in cc)

no_comma : (b : Before) (qs : Run Query) (ls : Option (Comma Expr)) (cut : Option (Comma ℕ)) (there : Text Lexeme) → (cut ≡ None) ⊎ (is_fixed mark.Comma (lead there) ≡ false) → is_fixed mark.Comma (lead there) ≡ true → more_numbers b qs ls cut None Empty ≡ None
no_comma b qs ls cut there (inl e) k = ap (λ (x : Option (Comma ℕ)). more_numbers b qs ls x None Empty) e
no_comma b qs ls cut there (inr e) k = contrary (is_fixed mark.Comma (lead there)) k e

no_trim : (b : Before) (qs : Run Query) (ls : Option (Comma Expr)) (cut : Option (Comma ℕ)) (there : Text Lexeme) → (cut ≡ None → is_fixed mark.Trim (lead there) ≡ false) → is_fixed mark.Trim (lead there) ≡ true → a_trim b qs ls cut None Empty ≡ None
no_trim b qs ls None there e k = contrary (is_fixed mark.Trim (lead there)) k (e refl)
no_trim b qs ls (Some ks) there e k = refl

trim_merged : (b : Before) (qs : Run Query) (ls : Option (Comma Expr)) (cut : Option (Comma ℕ)) (ks : Comma ℕ) → a_trim b qs ls cut (Some ks) Empty ≡ None
trim_merged b qs ls None ks = refl
trim_merged b qs ls (Some js) ks = refl

merge_merged : (b : Before) (qs : Run Query) (ls : Option (Comma Expr)) (cut : Option (Comma ℕ)) (ks : Comma ℕ) → a_merge b qs ls cut (Some ks) Empty ≡ None
merge_merged b qs ls None ks = refl
merge_merged b qs ls (Some js) ks = refl

after_merge : (old mid new : Text Lexeme) (trim merge : List ℕ) → AfterTrim old mid trim → ReadsOptional mark.Merge mid new (Ok merge) → AfterMerge old new trim merge
after_merge old mid new trim merge g (inl t) = record {
  cut = g.cut;
  join = None;
  trim_is = g.is;
  merge_is = sym t.0;
  whole = g.whole;
  leads = λ b qs ls e earlier. g.leads b qs ls e earlier ∙ ap (λ (x : Text Lexeme). reading.scan (reader earlier) x (CutEnd b qs ls g.cut None)) (sym t.1);
  comma = λ b qs ls k. no_comma b qs ls g.cut mid g.comma (ap (λ (x : Text Lexeme). is_fixed mark.Comma (lead x)) (sym t.1) ∙ k);
  trim_none = λ b qs ls k. no_trim b qs ls g.cut mid g.trim (ap (λ (x : Text Lexeme). is_fixed mark.Trim (lead x)) (sym t.1) ∙ k);
  merge_none = λ b qs ls k. contrary (is_fixed mark.Merge (lead mid)) (ap (λ (x : Text Lexeme). is_fixed mark.Merge (lead x)) (sym t.1) ∙ k) t.2;
}
after_merge old mid new trim merge g (inr (there, took, series)) =
    let h : GoesSeries ℕ Number fits_number has_number number_fault there new merge = series.0 in record {
      cut = g.cut;
      join = Some h.text;
      trim_is = g.is;
      merge_is = h.is;
      whole = λ b qs ls e. let f = g.whole b qs ls e in stored_fits b qs ls g.cut (Some h.text) (front_of_tail b qs ls g.cut f) (levels_of_tail b qs ls g.cut f) (cut_of_tail b qs ls g.cut f) (numbers_fit h.text h.all (omega (arith, h.count, h.few)));
      leads = λ b qs ls e. let f = g.whole b qs ls e in
          leads_then old there new (MapEnd b qs ls) (AtMerge b qs ls g.cut None) (CutEnd b qs ls g.cut (Some h.text))
          (leads_then old mid there (MapEnd b qs ls) (CutEnd b qs ls g.cut None) (AtMerge b qs ls g.cut None) (g.leads b qs ls e) (to_merge mid there b qs ls g.cut took f))
          (h.goes (AtMerge b qs ls g.cut) (λ ks. Tail b (merged qs ls g.cut ks)) (merge_series b qs ls g.cut f));
      comma = λ b qs ls k. contrary (is_fixed mark.Comma (lead new)) k series.1;
      trim_none = λ b qs ls k. trim_merged b qs ls g.cut h.text;
      merge_none = λ b qs ls k. merge_merged b qs ls g.cut h.text;
    }

pub storage_no_trim : (old : Text Lexeme) (r : Stop) → ReadsOptional mark.Trim old old (Err r) → (b : Before) (qs : Run Query) (ls : Option (Comma Expr)) → fits (MapEnd b qs ls) ≡ true → Fails old (MapEnd b qs ls) r
storage_no_trim old r (mid, took, f) b qs ls e = fails_via r old mid (MapEnd b qs ls) (AtTrim b qs ls None) (to_trim old mid b qs ls took e) (f (AtTrim b qs ls) (λ ks. Tail b (trimmed qs ls ks)) (trim_series b qs ls e))

pub storage_no_merge : (old mid : Text Lexeme) (trim : List ℕ) (r : Stop) → ReadsOptional mark.Trim old mid (Ok trim) → ReadsOptional mark.Merge mid mid (Err r) → (b : Before) (qs : Run Query) (ls : Option (Comma Expr)) → fits (MapEnd b qs ls) ≡ true → Fails old (MapEnd b qs ls) r
storage_no_merge old mid trim r t (there, took, f) b qs ls e =
    let g = after_trim old mid trim t in
    let w = g.whole b qs ls e in
    fails_via r old there (MapEnd b qs ls) (AtMerge b qs ls g.cut None)
    (leads_then old mid there (MapEnd b qs ls) (CutEnd b qs ls g.cut None) (AtMerge b qs ls g.cut None) (g.leads b qs ls e) (to_merge mid there b qs ls g.cut took w))
    (f (AtMerge b qs ls g.cut) (λ ks. Tail b (merged qs ls g.cut ks)) (merge_series b qs ls g.cut w))

part_fits : (b : Before) (p : Part) → fits (Tail b p) ≡ true → fits_part p ≡ true
part_fits b p e = right_of (fits_before b) (fits_part p) e

pub storage_no_packs : (old mid left : Text Lexeme) (trim merge : List ℕ) (r : Stop) → ReadsOptional mark.Trim old mid (Ok trim) → ReadsOptional mark.Merge mid left (Ok merge) → ReadsPacks left left (Err r) → (b : Before) (qs : Run Query) (ls : Option (Comma Expr)) → fits (MapEnd b qs ls) ≡ true → Fails old (MapEnd b qs ls) r
storage_no_packs old mid left trim merge r t m f b qs ls e =
    let g = after_merge old mid left trim merge (after_trim old mid trim t) m in
    let w = g.whole b qs ls e in
    fails_via r old left (MapEnd b qs ls) (CutEnd b qs ls g.cut g.join) (g.leads b qs ls e) (f b (stored qs ls g.cut g.join Empty) (left_true (fits_before b) _ w) (part_fits b (stored qs ls g.cut g.join Empty) w) refl)

-- at the end of a part no token but the brace goes on
no_tail : (b : Before) (qs : Run Query) (ls : Option (Comma Expr)) (cut me : Option (Comma ℕ)) (ps : Run (Comma Column)) (k : Token) → (is_fixed mark.Comma (Some k) ≡ true → more_numbers b qs ls cut me ps ≡ None) → (is_fixed mark.Trim (Some k) ≡ true → a_trim b qs ls cut me ps ≡ None) → (is_fixed mark.Merge (Some k) ≡ true → a_merge b qs ls cut me ps ≡ None) → is_fixed mark.Pack (Some k) ≡ false → is_fixed mark.BraceClose (Some k) ≡ false → step (Tail b (stored qs ls cut me ps)) k ≡ None
no_tail b qs ls cut me ps (Fixed mark.Comma) x y z p q = x refl
no_tail b qs ls cut me ps (Fixed mark.Trim) x y z p q = y refl
no_tail b qs ls cut me ps (Fixed mark.Merge) x y z p q = z refl
no_tail b qs ls cut me ps (Fixed mark.Pack) x y z p q = absurd cc
no_tail b qs ls cut me ps (Fixed mark.BraceClose) x y z p q = absurd cc
no_tail b qs ls cut me ps _ x y z p q = refl

comma_packed : (b : Before) (qs : Run Query) (ls : Option (Comma Expr)) (cut me : Option (Comma ℕ)) (ps : Run (Comma Column)) (p : Comma Column) → more_numbers b qs ls cut me (Then ps p) ≡ None
comma_packed b qs ls None None ps p = refl
comma_packed b qs ls (Some x) None ps p = refl
comma_packed b qs ls None (Some y) ps p = refl
comma_packed b qs ls (Some x) (Some y) ps p = refl

trim_packed : (b : Before) (qs : Run Query) (ls : Option (Comma Expr)) (cut me : Option (Comma ℕ)) (ps : Run (Comma Column)) (p : Comma Column) → a_trim b qs ls cut me (Then ps p) ≡ None
trim_packed b qs ls None None ps p = refl
trim_packed b qs ls (Some x) None ps p = refl
trim_packed b qs ls None (Some y) ps p = refl
trim_packed b qs ls (Some x) (Some y) ps p = refl

merge_packed : (b : Before) (qs : Run Query) (ls : Option (Comma Expr)) (cut me : Option (Comma ℕ)) (ps : Run (Comma Column)) (p : Comma Column) → a_merge b qs ls cut me (Then ps p) ≡ None
merge_packed b qs ls None None ps p = refl
merge_packed b qs ls (Some x) None ps p = refl
merge_packed b qs ls None (Some y) ps p = refl
merge_packed b qs ls (Some x) (Some y) ps p = refl

module _ (old mid left new : Text Lexeme) (trim merge : List ℕ) (packs : List (List Column)) (t : ReadsOptional mark.Trim old mid (Ok trim)) (m : ReadsOptional mark.Merge mid left (Ok merge)) (p : ReadsPacks left new (Ok packs)) where
  abbrev stage : AfterMerge old left trim merge
  stage = after_merge old mid left trim merge (after_trim old mid trim t) m

  blocked : (b : Before) (qs : Run Query) (ls : Option (Comma Expr)) (ps : Run (Comma Column)) → (ps ≡ Empty → new ≡ left) → (k : Token) → lead new ≡ Some k → is_fixed mark.BraceClose (Some k) ≡ false → step (Tail b (stored qs ls stage.cut stage.join ps)) k ≡ None
  blocked b qs ls Empty same k is e =
      let there : lead left ≡ Some k = ap lead (sym (same refl)) ∙ is in
      no_tail b qs ls stage.cut stage.join Empty k (λ x. stage.comma b qs ls (ap (is_fixed mark.Comma) there ∙ x)) (λ x. stage.trim_none b qs ls (ap (is_fixed mark.Trim) there ∙ x)) (λ x. stage.merge_none b qs ls (ap (is_fixed mark.Merge) there ∙ x)) (ap (is_fixed mark.Pack) (sym is) ∙ p.1) e
  blocked b qs ls (Then ps c) same k is e = no_tail b qs ls stage.cut stage.join (Then ps c) k (λ x. comma_packed b qs ls stage.cut stage.join ps c) (λ x. trim_packed b qs ls stage.cut stage.join ps c) (λ x. merge_packed b qs ls stage.cut stage.join ps c) (ap (is_fixed mark.Pack) (sym is) ∙ p.1) e

  to_stored : (b : Before) (qs : Run Query) (ls : Option (Comma Expr)) → fits (MapEnd b qs ls) ≡ true → Leads old (MapEnd b qs ls) new (Tail b (stored qs ls stage.cut stage.join (p.0).text))
  to_stored b qs ls e =
      let w = stage.whole b qs ls e in
      leads_then old left new (MapEnd b qs ls) (CutEnd b qs ls stage.cut stage.join) (Tail b (stored qs ls stage.cut stage.join (p.0).text)) (stage.leads b qs ls e)
      ((p.0).goes b (stored qs ls stage.cut stage.join Empty) (left_true (fits_before b) _ w) (part_fits b (stored qs ls stage.cut stage.join Empty) w) refl)

  pub storage_unclosed : (r : Stop) → r ≡ refused_at new → is_fixed mark.BraceClose (lead new) ≡ false → (b : Before) (qs : Run Query) (ls : Option (Comma Expr)) → fits (MapEnd b qs ls) ≡ true → Fails old (MapEnd b qs ls) r
  storage_unclosed r is e b qs ls f = fails_via r old new (MapEnd b qs ls) (Tail b (stored qs ls stage.cut stage.join (p.0).text)) (to_stored b qs ls f)
      (subst (λ (x : Stop). Fails new (Tail b (stored qs ls stage.cut stage.join (p.0).text)) x) (sym is)
      (refuses new (Tail b (stored qs ls stage.cut stage.join (p.0).text)) refl (λ k q. blocked b qs ls (p.0).text (p.0).same k q (ap (is_fixed mark.BraceClose) (sym q) ∙ e))))

  stored_whole : (b : Before) (qs : Run Query) (ls : Option (Comma Expr)) → fits (MapEnd b qs ls) ≡ true → fits (Tail b (stored qs ls stage.cut stage.join (p.0).text)) ≡ true
  stored_whole b qs ls e =
      let w = stage.whole b qs ls e in
      let q : fits_part (stored qs ls stage.cut stage.join Empty) ≡ true = part_fits b (stored qs ls stage.cut stage.join Empty) w in
      let rest : (fits_levels qs ls && (fits_numbers stage.cut && (fits_numbers stage.join && fits_packs Empty))) ≡ true = right_of (fits_queries qs) _ q in
      let rest2 : (fits_numbers stage.cut && (fits_numbers stage.join && fits_packs Empty)) ≡ true = right_of (fits_levels qs ls) _ rest in
      let rest3 : (fits_numbers stage.join && fits_packs Empty) ≡ true = right_of (fits_numbers stage.cut) _ rest2 in
      both (fits_before b) _ (left_true (fits_before b) _ w) (both (fits_queries qs) _ (left_true (fits_queries qs) _ q) (both (fits_levels qs ls) _ (left_true (fits_levels qs ls) _ rest)
      (both (fits_numbers stage.cut) _ (left_true (fits_numbers stage.cut) _ rest2) (both (fits_numbers stage.join) _ (left_true (fits_numbers stage.join) _ rest3)
      (both _ _ (p.0).all (below (count_run (p.0).text) 17 (omega (arith, (p.0).count, (p.0).few))))))))

  pub storage_goes : (s : Storage) → s.trim ≡ trim → s.merge ≡ merge → s.packs ≡ packs → is_fixed mark.BraceClose (lead new) ≡ true → GoesStorage old new s
  storage_goes s a b c e = record {
    cut = stage.cut;
    join = stage.join;
    packs = (p.0).text;
    trim_is = stage.trim_is ∙ sym a;
    merge_is = stage.merge_is ∙ sym b;
    packs_is = (p.0).is ∙ sym c;
    ends = e;
    whole = stored_whole;
    goes = to_stored;
  }

-- the map of a part

module _ (old mid left : Text Lexeme) (ns : List (List ℕ)) (known : length ns ≤ 32) (t : Took old mid (Fixed mark.Map)) (u : Took mid left (Fixed mark.Open)) where
  to_map : AtFront ns (λ b qs. Leads old (Between b qs) mid (AtMap b qs))
  to_map b qs f n = goes old mid (Fixed mark.Map) (Between b qs) (AtMap b qs) t refl ((λ x. refl), refl) f

  to_levels : AtFront ns (λ b qs. Leads old (Between b qs) left (AtLevels b qs))
  to_levels b qs f n = leads_then old mid left (Between b qs) (AtMap b qs) (AtLevels b qs) (to_map b qs f n) (goes_expect mark.Open mid left (AtMap b qs) (AtLevels b qs) u refl ((λ x. refl), refl) f)

  pub mapping_reads : (new : Text Lexeme) (ms : List (List ℕ)) (r : Result (List code.Expr) Stop) → ReadsMap left new AtLevels ns ms r → ReadsMapping old new ns ms r
  mapping_reads new ms (Ok levels) g = record {
    text = g.text;
    is = g.is;
    names = g.names;
    known = g.known;
    fits = g.fits;
    goes = λ b qs f n e. leads_then old left new (Between b qs) (AtLevels b qs) (Tail b (part_of qs g.text)) (to_levels b qs f n) (g.goes b qs f n);
  }
  mapping_reads new ms (Err r) g = λ b qs f n e. fails_via r old left (Between b qs) (AtLevels b qs) (to_levels b qs f n) (g b qs f n)

pub mapping_no_open : (old mid : Text Lexeme) (ns : List (List ℕ)) (r : Stop) → Took old mid (Fixed mark.Map) → (r ≡ refused_at mid) × (is_fixed mark.Open (lead mid) ≡ false) → AtMapping old ns (λ b qs. Fails old (Between b qs) r)
mapping_no_open old mid ns r t f b qs a n e = fails_via r old mid (Between b qs) (AtMap b qs) (goes old mid (Fixed mark.Map) (Between b qs) (AtMap b qs) t refl ((λ x. refl), refl) a)
    (subst (λ (x : Stop). Fails mid (AtMap b qs) x) (sym f.0) (fails_expect mark.Open mid (AtMap b qs) (AtLevels b qs) refl (λ y. refl) f.1))

no_between : (b : Before) (qs : Run Query) (k : Token) → is_fixed mark.Map (Some k) ≡ false → is_fixed mark.Let (Some k) ≡ false → (divides b && is_fixed mark.Part (Some k)) ≡ false → step (Between b qs) k ≡ None
no_between b qs (Fixed mark.Map) x y z = absurd cc
no_between b qs (Fixed mark.Let) x y z = absurd cc
no_between (BehindName n) qs (Fixed mark.Part) x y z = absurd cc
no_between (BehindHead n h) qs (Fixed mark.Part) x y z = refl
no_between (BehindBlocks n h p) qs (Fixed mark.Part) x y z = refl
no_between b qs _ x y z = refl

pub mapping_no_map : (old : Text Lexeme) (ns : List (List ℕ)) (r : Stop) → is_fixed mark.Let (lead old) ≡ false → (r ≡ refused_at old) × (is_fixed mark.Map (lead old) ≡ false) → AtMapping old ns (λ b qs. Fails old (Between b qs) r)
mapping_no_map old ns r l f b qs a n e = subst (λ (x : Stop). Fails old (Between b qs) x) (sym f.0)
    (refuses old (Between b qs) refl (λ k q. no_between b qs k (ap (is_fixed mark.Map) (sym q) ∙ f.1) (ap (is_fixed mark.Let) (sym q) ∙ l) (ap (λ (x : Option Token). divides b && is_fixed mark.Part x) (sym q) ∙ e)))

-- a part, behind its queries

same_part : (n : List (List ℕ)) (q q' : List declares.Query) (l l' : List Tree) (t t' m m' : List ℕ) (p p' : List (List Column)) → q ≡ q' → l ≡ l' → t ≡ t' → m ≡ m' → p ≡ p'
    → ◌≡◌ {A = declares.DeclaredPart} (record { names = n; queries = q; levels = l; trim = t; merge = m; packs = p }) (record { names = n; queries = q'; levels = l'; trim = t'; merge = m'; packs = p' })
same_part n q q' l l' t t' m m' p p' a b c d e =
    ap (λ (x : List declares.Query). let r : declares.DeclaredPart = record { names = n; queries = x; levels = l; trim = t; merge = m; packs = p } in r) a
    ∙ ap (λ (x : List Tree). let r : declares.DeclaredPart = record { names = n; queries = q'; levels = x; trim = t; merge = m; packs = p } in r) b
    ∙ ap (λ (x : List ℕ). let r : declares.DeclaredPart = record { names = n; queries = q'; levels = l'; trim = x; merge = m; packs = p } in r) c
    ∙ ap (λ (x : List ℕ). let r : declares.DeclaredPart = record { names = n; queries = q'; levels = l'; trim = t'; merge = x; packs = p } in r) d
    ∙ ap (λ (x : List (List Column)). let r : declares.DeclaredPart = record { names = n; queries = q'; levels = l'; trim = t'; merge = m'; packs = x } in r) e

comma_goes_on : (es : Comma Expr) (ns : List (List ℕ)) → GoesOn ns (names_comma es ns)
comma_goes_on (Only e) ns = expr_goes_on e ns
comma_goes_on (And es e) ns = goes_on_trans ns (names_comma es ns) (names_expr e (names_comma es ns)) (comma_goes_on es ns) (expr_goes_on e (names_comma es ns))

levels_goes_on : (ls : Option (Comma Expr)) (ns : List (List ℕ)) → GoesOn ns (names_levels ls ns)
levels_goes_on None ns = goes_on_self ns
levels_goes_on (Some es) ns = comma_goes_on es ns

pub part_goes : (old mid new : Text Lexeme) (ns ms : List (List ℕ)) (levels : List code.Expr) (s : Storage) (queries : List asked.Query) (part : parts.Part) → GoesMapping old mid ns ms levels → GoesStorage mid new s → part.names ≡ ms → part.queries ≡ queries → part.levels ≡ levels → part.trim ≡ s.trim → part.merge ≡ s.merge → part.packs ≡ s.packs → GoesPart old new ns queries part
part_goes old mid new ns ms levels s queries part g h n q l t m p = record {
  text = λ qs. stored qs g.text h.cut h.join h.packs;
  queries_stay = λ qs. refl;
  view = λ qs e.
      let here : part.names ≡ ms ++ [] = n ∙ sym (append-nil ms) in
      same_part part.names (map query_view part.queries) (map (query_of part.names) (run_items qs)) (map tree part.levels) (map (declares.tree_expr part.names) (maybe_items g.text)) part.trim (maybe_items h.cut) part.merge (maybe_items h.join) part.packs (map comma_items (run_items h.packs))
      (ap (map query_view) q ∙ e) (ap (map tree) l ∙ g.is [] ∙ ap (λ (x : List (List ℕ)). map (declares.tree_expr x) (maybe_items g.text)) (sym here)) (t ∙ sym h.trim_is) (m ∙ sym h.merge_is) (p ∙ sym h.packs_is);
  names = λ qs e. ap (names_levels g.text) e ∙ g.names ∙ sym n;
  more = (levels_goes_on g.text ns).more;
  goes_on = n ∙ sym g.names ∙ (levels_goes_on g.text ns).is;
  ends = h.ends;
  fits = λ b qs f e. h.whole b qs g.text (g.fits b qs f e);
  goes = λ b qs f e d. leads_then old mid new (Between b qs) (MapEnd b qs g.text) (Tail b (stored qs g.text h.cut h.join h.packs)) (g.goes b qs f e d) (h.goes b qs g.text (g.fits b qs f e));
}

pub part_lost : (old mid : Text Lexeme) (ns ms : List (List ℕ)) (levels : List code.Expr) (r : Stop) → GoesMapping old mid ns ms levels → ReadsStorage mid mid (Err r) → AtMapping old ns (λ b qs. Fails old (Between b qs) r)
part_lost old mid ns ms levels r g f b qs a e d = fails_via r old mid (Between b qs) (MapEnd b qs g.text) (g.goes b qs a e d) (f b qs g.text (g.fits b qs a e))

-- a part with its queries

pub queries_front : (old left : Text Lexeme) (ms : List (List ℕ)) (queries : List asked.Query) → (g : GoesQueries old left ms queries) → (b : Before) → fits_before b ≡ true → fits_front b g.text ≡ true
queries_front old left ms queries g b f = both _ _ f (both _ _ g.all (both _ _ (below (count_run g.text) 17 (omega (arith, g.count, g.few))) (below (length (names_queries g.text)) 33 (omega (arith, ap length g.names, g.known)))))

undivided : (b : Before) (x : Bool) → divides b ≡ false → (divides b && x) ≡ false
undivided b x e = ap (λ (y : Bool). y && x) e

pub whole_part : (old left new : Text Lexeme) (ms : List (List ℕ)) (queries : List asked.Query) (names : List (List ℕ)) (r : Result parts.Part Stop) → GoesQueries old left ms queries → ReadsPart left new ms names queries r → ReadsWhole old new names r
whole_part old left new ms queries names' (Ok part) g pair =
    let h : GoesPart left new ms queries part = pair.0 in
    let text = h.text g.text in
    let names : names_part text ≡ part.names = h.names g.text g.names in
    let view : part_view part ≡ declares.part_of part.names text = h.view g.text (g.is h.more ∙ ap (λ (x : List (List ℕ)). map (query_of x) (run_items g.text)) (sym h.goes_on)) in (
      record {
        text = text;
        view = view ∙ ap (λ (x : List (List ℕ)). declares.part_of x text) (sym names);
        ends = h.ends;
        fits = λ b f. h.fits b g.text (queries_front old left ms queries g b f) g.names;
        goes = λ b d f. leads_then old left new (Between b Empty) (Between b g.text) (Tail b text) (g.goes b f) (h.goes b g.text (queries_front old left ms queries g b f) g.names (undivided b (is_fixed mark.Part (lead left)) d));
      },
      pair.1,
    )
whole_part old left new ms queries names' (Err r) g h = λ b d f. fails_via r old left (Between b Empty) (Between b g.text) (g.goes b f) (h b g.text (queries_front old left ms queries g b f) g.names (undivided b (is_fixed mark.Part (lead left)) d))
