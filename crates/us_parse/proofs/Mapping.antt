-- Levels and lists of numbers and columns, wherever they stand.
use Rattle.std.proofs.Common.{◌≡◌, ℕ, ◌+◌, ◌<◌, ◌≤◌, List, [], ◌∷◌, ◌++◌, length, map, Option, Some, None, Bool, true, false, refl, sym, ap, ap₂, ◌∙◌, arith, subst, append_assoc, inl, inr, length-append}
use Rattle.std.proofs.lemmas.List.{map-append}
use Rattle.us_tokens.specs.Text as text
use Rattle.us_tokens.specs.Text.{Text, left_of, after}
use Rattle.us_expr.specs.Tree.{Tree, tree}
use Rattle.us_expr.specs.declared.expression.Expr as code
use Rattle.us_decl.specs.declared.lexeme.Lexeme.{Lexeme}
use Rattle.us_decl.specs.declared.lexeme.Lexeme.TheVariants as lexeme
use Rattle.us_parse.specs.declared.stop.Stop.{Stop}
use Rattle.us_decl.specs.Names.{names_expr, names_queries, names_levels, names_comma}
use Rattle.us_decl.specs.Limits.{count, all, all_levels, count_levels, nodes, fits_whole, fits_queries}
use Rattle.us_parse.specs.Within.{fits, fits_use, fits_before, fits_front}
use Rattle.us_decl.specs.Declares.{tree_expr, comma_items}
use Rattle.us_parse.specs.Reads.{size, Took, lead, is_fixed, refused_at, Leads, Fails, GoesExpr, is_sum, is_product}
use Rattle.us_parse.specs.ReadsParts.{operand_excess, GoesLevel, FailsLevel, AtFront, GoesLevels, GoesMap, Series, GoesSeries}
use Rattle.us_decl.proofs.Deciding.{both, left_of as left_true, right_of, not_right, below, above}
use Rattle.us_parse.proofs.Exprs.{not_left}
use Rattle.us_decl.proofs.Numbering.{expr_goes_on}
use Rattle.us_parse.proofs.Steps.{goes, exceeds, refuses, leads_then, fails_via, shorter_took}
use Rattle.us_decl.specs.Token.{Token, Fixed, Name, Number}
use Rattle.us_decl.specs.declared.mark.Mark.TheVariants as mark
use Rattle.us_decl.specs.Grammar.{Comma, Only, And, Run, Expr, Just, Row, Col, Named, Num, Query}
use Rattle.us_parse.specs.Piece.{Before, Mapped, Begin, Piece, Operand, After, AtLevels, Tail, one_more, part_of, filled, tail, step}

-- lists with commas, of any items

module _ {A : Type 0} (item : A → Token) (fitting : A → Bool) (has : Text Lexeme → Bool) (fault : Text Lexeme → Stop) where
  pub series_first : (old new : Text Lexeme) (k : A) (start items : List A) → Took old new (item k) × (fitting k ≡ true) → start ≡ [] → items ≡ start ++ (k ∷ []) → GoesSeries A item fitting has fault old new items × (size new ≤ size old)
  series_first old new k start items t none pushed =
      let is : items ≡ k ∷ [] = pushed ∙ ap (λ (x : List A). x ++ (k ∷ [])) none in
      (first is, let q : size new < size old = shorter_took old new (item k) t.0 in omega arith)
    where
      first : items ≡ k ∷ [] → GoesSeries A item fitting has fault old new items
      first is = record {
        text = Only k;
        is = sym is;
        all = t.1;
        count = sym (ap length is);
        few = omega (arith, ap length is);
        goes = λ at tail s. s.takes old new None k t.0 t.1 (omega arith);
      }

  pub series_lost : (old : Text Lexeme) (r : Stop) → (r ≡ fault old) × (has old ≡ false) → (at : Option (Comma A) → Piece) (tail : Comma A → Piece) → Series A item fitting has fault at tail → Fails old (at None) r
  series_lost old r f at tail s = subst (λ (x : Stop). Fails old (at None) x) (sym f.0) (s.lost old None f.1)

  module _ (old left mid : Text Lexeme) (items : List A) (g : GoesSeries A item fitting has fault old left items) (t : Took left mid (Fixed mark.Comma)) where
    to_item : (at : Option (Comma A) → Piece) (tail : Comma A → Piece) → Series A item fitting has fault at tail → Leads old (at None) mid (at (Some g.text))
    to_item at tail s = leads_then old left mid (at None) (tail g.text) (at (Some g.text)) (g.goes at tail s) (s.goes_on left mid g.text t g.all (omega (arith, g.count, g.few)))

    pub series_full : (r : Stop) → r ≡ fault mid → 16 ≤ length items → (at : Option (Comma A) → Piece) (tail : Comma A → Piece) → Series A item fitting has fault at tail → Fails old (at None) r
    series_full r e full at tail s = fails_via r old mid (at None) (at (Some g.text)) (to_item at tail s) (subst (λ (x : Stop). Fails mid (at (Some g.text)) x) (sym e) (s.full mid g.text (omega (arith, g.count))))

    pub series_missed : (r : Stop) → (r ≡ fault mid) × (has mid ≡ false) → (at : Option (Comma A) → Piece) (tail : Comma A → Piece) → Series A item fitting has fault at tail → Fails old (at None) r
    series_missed r f at tail s = fails_via r old mid (at None) (at (Some g.text)) (to_item at tail s) (subst (λ (x : Stop). Fails mid (at (Some g.text)) x) (sym f.0) (s.lost mid (Some g.text) f.1))

    pub series_more : (new : Text Lexeme) (k : A) (pushed : List A) → length items < 16 → Took mid new (item k) × (fitting k ≡ true) → pushed ≡ items ++ (k ∷ []) → GoesSeries A item fitting has fault old new pushed
    series_more new k pushed room u is = record {
      text = And g.text k;
      is = ap (λ (x : List A). x ++ (k ∷ [])) g.is ∙ sym is;
      all = both _ _ g.all u.1;
      count = omega (arith, g.count, ap length is, length-append items (k ∷ []));
      few = omega (arith, ap length is, length-append items (k ∷ []));
      goes = λ at tail s. leads_then old mid new (at None) (at (Some g.text)) (tail (And g.text k)) (to_item at tail s) (s.takes mid new (Some g.text) k u.0 (both _ _ g.all u.1) (omega (arith, g.count)));
    }

pub comma_smaller : (left mid new : Text Lexeme) (t : Token) → Took left mid (Fixed mark.Comma) → Took mid new t → size new < size left
comma_smaller left mid new t a b = let p : size mid < size left = shorter_took left mid (Fixed mark.Comma) a in let q : size new < size mid = shorter_took mid new t b in omega arith

-- levels

level_room : (b : Before) (qs : Run Query) (ls : Option (Comma Expr)) → fits_front b qs ≡ true → all_levels ls ≡ true → count_levels ls < 16 → fits_use 1 (Mapped b qs ls) ≡ true
level_room b qs ls f a c = both _ _ f (both _ _ a (below (count_levels ls + 1) 17 (omega arith)))

-- behind the parenthesis of a map, unless it closes at once
as_operand : (old : Text Lexeme) (b : Before) (qs : Run Query) → is_fixed mark.Close (lead old) ≡ false → Leads old (AtLevels b qs) old (Operand (Mapped b qs None) Begin [])
as_operand text.End b qs e = λ x. refl
as_operand (text.Bad l) b qs e = λ x. refl
as_operand (text.Then (lexeme.Fixed mark.Close) w c more) b qs e = absurd cc
as_operand (text.Then k w c more) b qs e = λ x. refl

pub empty_map : (old new : Text Lexeme) (ns : List (List ℕ)) (levels : List code.Expr) → length ns ≤ 32 → Took old new (Fixed mark.Close) → levels ≡ [] → GoesMap old new AtLevels ns ns levels
empty_map old new ns levels known t is = record {
  text = None;
  is = λ more. ap (map tree) is;
  names = refl;
  known = known;
  fits = λ b qs f n. whole b qs f n;
  goes = λ b qs f n. goes old new (Fixed mark.Close) (AtLevels b qs) (Tail b (part_of qs None)) t refl ((λ x. refl), refl) (whole b qs f n);
}
  where
    whole : (b : Before) (qs : Run Query) → fits_front b qs ≡ true → names_queries qs ≡ ns → fits (Tail b (part_of qs None)) ≡ true
    whole b qs f n = both _ _ (left_true (fits_before b) _ f) (both _ _ (right_of (fits_before b) (fits_queries qs) f) (both _ _ (both _ _ refl (both _ _ (below 0 17 (omega arith)) (below (length (names_queries qs)) 33 (omega (arith, ap length n, known))))) refl))

level_whole : (m : ℕ) (old new : Text Lexeme) (ns ms : List (List ℕ)) (e : code.Expr) → (g : GoesExpr old new 0 0 m ns ms e) → fits_whole (filled g.before g.text) ≡ true
level_whole m old new ns ms e g = both _ _ g.fits (below (nodes (filled g.before g.text)) 33 (omega (arith, g.count, g.few)))

pub first_level : (old new : Text Lexeme) (ns ms : List (List ℕ)) (levels pushed : List code.Expr) → is_fixed mark.Close (lead old) ≡ false → levels ≡ [] → GoesLevel old new ns ms levels pushed → GoesLevels old new ns ms pushed
first_level old new ns ms levels pushed e none g = record {
  before = None;
  hole = (g.goes).before;
  term = (g.goes).text;
  is = λ more. ap (map tree) here ∙ ap (λ (x : Tree). x ∷ []) (sym ((g.goes).is more));
  names = (g.goes).names;
  known = (g.goes).known;
  all = level_whole g.nodes old new ns ms g.level g.goes;
  count = sym (ap length here);
  few = omega (arith, ap length here);
  product = g.product;
  sum = g.sum;
  goes = λ b qs f n. leads_then old old new (AtLevels b qs) (Operand (Mapped b qs None) Begin []) (After (Mapped b qs None) (g.goes).before (g.goes).text []) (as_operand old b qs e)
      ((g.goes).goes (Mapped b qs None) Begin [] (level_room b qs None f refl (omega arith)) refl refl refl n refl);
}
  where
    here : pushed ≡ g.level ∷ []
    here = g.grown ∙ ap (λ (x : List code.Expr). x ++ (g.level ∷ [])) none

pub first_level_fails : (old : Text Lexeme) (ns : List (List ℕ)) (levels : List code.Expr) (r : Stop) → is_fixed mark.Close (lead old) ≡ false → levels ≡ [] → FailsLevel old ns levels r → AtFront ns (λ b qs. Fails old (AtLevels b qs) r)
first_level_fails old ns levels r e none (inl f) b qs a n = fails_via r old old (AtLevels b qs) (Operand (Mapped b qs None) Begin []) (as_operand old b qs e) (f.1 (Mapped b qs None) Begin [] (level_room b qs None a refl (omega arith)) refl refl refl n refl)
first_level_fails old ns levels r e none (inr f) b qs a n = absurd (let k : length levels ≡ 0 = ap length none in omega (arith, f.0))

module _ (old left mid : Text Lexeme) (ns ms : List (List ℕ)) (levels : List code.Expr) (g : GoesLevels old left ns ms levels) where
  abbrev so_far_levels : Comma Expr
  so_far_levels = one_more g.before (filled g.hole g.term)

  names_so_far : (before : Option (Comma Expr)) (e : Expr) (xs : List (List ℕ)) → names_comma (one_more before e) xs ≡ names_expr e (names_levels before xs)
  names_so_far None e xs = refl
  names_so_far (Some es) e xs = refl

  names_next : (qs : Run Query) → names_queries qs ≡ ns → names_comma so_far_levels (names_queries qs) ≡ ms
  names_next qs n = names_so_far g.before (filled g.hole g.term) (names_queries qs) ∙ ap (λ (x : List (List ℕ)). names_expr (filled g.hole g.term) (names_levels g.before x)) n ∙ g.names

  between_levels : (b : Before) (qs : Run Query) → fits_front b qs ≡ true → names_queries qs ≡ ns → fits (Operand (Mapped b qs (Some so_far_levels)) Begin []) ≡ true
  between_levels b qs f n = both _ _ (both _ _ f (both _ _ g.all (below (count so_far_levels + 0) 17 (omega (arith, g.count, g.few)))))
      (both _ _ refl (both _ _ (below 0 33 (omega arith)) (below (length (names_comma so_far_levels (names_queries qs))) 33 (let k = names_next qs n in omega (arith, ap length k, g.known)))))

  to_level : Took left mid (Fixed mark.Comma) → AtFront ns (λ b qs. Leads old (AtLevels b qs) mid (Operand (Mapped b qs (Some so_far_levels)) Begin []))
  to_level t b qs f n = leads_then old left mid (AtLevels b qs) (After (Mapped b qs g.before) g.hole g.term []) (Operand (Mapped b qs (Some so_far_levels)) Begin []) (g.goes b qs f n)
      (goes left mid (Fixed mark.Comma) (After (Mapped b qs g.before) g.hole g.term []) (Operand (Mapped b qs (Some so_far_levels)) Begin []) t refl ((λ x. refl), refl) (between_levels b qs f n))

  surplus : (there : Text Lexeme) (b : Before) (qs : Run Query) → 16 ≤ count so_far_levels → Fails there (Operand (Mapped b qs (Some so_far_levels)) Begin []) (operand_excess there)
  surplus text.End b qs full = λ x. refl
  surplus (text.Bad l) b qs full = λ x. refl
  surplus (text.Then (lexeme.Fixed mark.I) w c more) b qs full = exceeds (text.Then (lexeme.Fixed mark.I) w c more) more (Fixed mark.I) (Operand (Mapped b qs (Some so_far_levels)) Begin []) (After (Mapped b qs (Some so_far_levels)) Begin (Just Row) []) (record { kind = lexeme.Fixed mark.I; bytes = w; behind = c; parts = refl; is = refl }) refl ((λ x. refl), refl) (not_left _ _ (not_left _ _ (not_right (fits_front b qs) _ (not_right (all fits_whole so_far_levels) _ (above (count so_far_levels + 1) 17 (omega arith))))))
  surplus (text.Then (lexeme.Fixed mark.J) w c more) b qs full = exceeds (text.Then (lexeme.Fixed mark.J) w c more) more (Fixed mark.J) (Operand (Mapped b qs (Some so_far_levels)) Begin []) (After (Mapped b qs (Some so_far_levels)) Begin (Just Col) []) (record { kind = lexeme.Fixed mark.J; bytes = w; behind = c; parts = refl; is = refl }) refl ((λ x. refl), refl) (not_left _ _ (not_left _ _ (not_right (fits_front b qs) _ (not_right (all fits_whole so_far_levels) _ (above (count so_far_levels + 1) 17 (omega arith))))))
  surplus (text.Then (lexeme.Fixed mark.Open) w c more) b qs full = exceeds (text.Then (lexeme.Fixed mark.Open) w c more) more (Fixed mark.Open) (Operand (Mapped b qs (Some so_far_levels)) Begin []) (Operand (Mapped b qs (Some so_far_levels)) Begin (Begin ∷ [])) (record { kind = lexeme.Fixed mark.Open; bytes = w; behind = c; parts = refl; is = refl }) refl ((λ x. refl), refl) (not_left _ _ (not_right (fits_front b qs) _ (not_right (all fits_whole so_far_levels) _ (above (count so_far_levels + 1) 17 (omega arith)))))
  surplus (text.Then lexeme.Name w c more) b qs full = exceeds (text.Then lexeme.Name w c more) more (Name w) (Operand (Mapped b qs (Some so_far_levels)) Begin []) (After (Mapped b qs (Some so_far_levels)) Begin (Just (Named w)) []) (record { kind = lexeme.Name; bytes = w; behind = c; parts = refl; is = refl }) refl ((λ x. refl), refl) (not_left _ _ (not_left _ _ (not_right (fits_front b qs) _ (not_right (all fits_whole so_far_levels) _ (above (count so_far_levels + 1) 17 (omega arith))))))
  surplus (text.Then (lexeme.Number k) w c more) b qs full = exceeds (text.Then (lexeme.Number k) w c more) more (Number k) (Operand (Mapped b qs (Some so_far_levels)) Begin []) (After (Mapped b qs (Some so_far_levels)) Begin (Just (Num k)) []) (record { kind = lexeme.Number k; bytes = w; behind = c; parts = refl; is = refl }) refl ((λ x. refl), refl) (not_left _ _ (not_left _ _ (not_right (fits_front b qs) _ (not_right (all fits_whole so_far_levels) _ (above (count so_far_levels + 1) 17 (omega arith))))))
  surplus (text.Then k w c more) b qs full = λ x. refl

  pub next_level_fails : (r : Stop) → Took left mid (Fixed mark.Comma) → FailsLevel mid ms levels r → AtFront ns (λ b qs. Fails old (AtLevels b qs) r)
  next_level_fails r t (inl f) b qs a n = fails_via r old mid (AtLevels b qs) (Operand (Mapped b qs (Some so_far_levels)) Begin []) (to_level t b qs a n)
      (f.1 (Mapped b qs (Some so_far_levels)) Begin [] (level_room b qs (Some so_far_levels) a g.all (omega (arith, g.count, f.0))) refl refl refl (names_next qs n) refl)
  next_level_fails r t (inr f) b qs a n = fails_via r old mid (AtLevels b qs) (Operand (Mapped b qs (Some so_far_levels)) Begin []) (to_level t b qs a n)
      (subst (λ (x : Stop). Fails mid (Operand (Mapped b qs (Some so_far_levels)) Begin []) x) (sym f.1) (surplus mid b qs (omega (arith, g.count, f.0))))

  pub next_level : (new : Text Lexeme) (ls : List (List ℕ)) (pushed : List code.Expr) → Took left mid (Fixed mark.Comma) → GoesLevel mid new ms ls levels pushed → GoesLevels old new ns ls pushed
  next_level new ls pushed t h =
      let x : GoesExpr mid new 0 0 h.nodes ms ls h.level = h.goes in record {
        before = Some so_far_levels;
        hole = x.before;
        term = x.text;
        is = λ more.
            let on = expr_goes_on (filled x.before x.text) ms in
            let ls_is : ls ≡ ms ++ on.more = sym x.names ∙ on.is in
            let here : ls ++ more ≡ ms ++ (on.more ++ more) = ap (λ (y : List (List ℕ)). y ++ more) ls_is ∙ append_assoc ms on.more more in
            let first : map tree levels ≡ map (tree_expr (ls ++ more)) (comma_items so_far_levels) = g.is (on.more ++ more) ∙ ap (λ (y : List (List ℕ)). map (tree_expr y) (comma_items so_far_levels)) (sym here) in
            ap (map tree) h.grown ∙ map-append tree levels (h.level ∷ []) ∙ ap₂ (λ (y z : List Tree). y ++ z) first (ap (λ (y : Tree). y ∷ []) (sym (x.is more))) ∙ sym (map-append (tree_expr (ls ++ more)) (comma_items so_far_levels) (filled x.before x.text ∷ []));
        names = ap (names_expr (filled x.before x.text)) (names_so_far g.before (filled g.hole g.term) ns ∙ g.names) ∙ x.names;
        known = x.known;
        all = both _ _ g.all (level_whole h.nodes mid new ms ls h.level x);
        count = omega (arith, g.count, ap length h.grown, length-append levels (h.level ∷ []));
        few = omega (arith, h.room, ap length h.grown, length-append levels (h.level ∷ []));
        product = h.product;
        sum = h.sum;
        goes = λ b qs f n. leads_then old mid new (AtLevels b qs) (Operand (Mapped b qs (Some so_far_levels)) Begin []) (After (Mapped b qs (Some so_far_levels)) x.before x.text []) (to_level t b qs f n)
            (x.goes (Mapped b qs (Some so_far_levels)) Begin [] (level_room b qs (Some so_far_levels) f g.all (omega (arith, g.count, h.room))) refl refl refl (names_next qs n) refl);
      }

  no_more_token : (b : Before) (qs : Run Query) (k : Token) → is_fixed mark.Close (Some k) ≡ false → is_fixed mark.Comma (Some k) ≡ false → is_product (Some k) ≡ false → is_sum (Some k) ≡ false → step (After (Mapped b qs g.before) g.hole g.term []) k ≡ None
  no_more_token b qs (Fixed mark.Plus) x y z w = absurd cc
  no_more_token b qs (Fixed mark.Minus) x y z w = absurd cc
  no_more_token b qs (Fixed mark.Slash) x y z w = absurd cc
  no_more_token b qs (Fixed mark.Percent) x y z w = absurd cc
  no_more_token b qs (Fixed mark.Close) x y z w = absurd cc
  no_more_token b qs (Fixed mark.Comma) x y z w = absurd cc
  no_more_token b qs _ x y z w = refl

  pub map_unclosed : (r : Stop) → is_fixed mark.Comma (lead left) ≡ false → (r ≡ refused_at left) × (is_fixed mark.Close (lead left) ≡ false) → AtFront ns (λ b qs. Fails old (AtLevels b qs) r)
  map_unclosed r e f b qs a n = fails_via r old left (AtLevels b qs) (After (Mapped b qs g.before) g.hole g.term []) (g.goes b qs a n)
      (subst (λ (x : Stop). Fails left (After (Mapped b qs g.before) g.hole g.term []) x) (sym f.0)
      (refuses left (After (Mapped b qs g.before) g.hole g.term []) refl (λ k p. no_more_token b qs k (ap (is_fixed mark.Close) (sym p) ∙ f.1) (ap (is_fixed mark.Comma) (sym p) ∙ e) (ap is_product (sym p) ∙ g.product) (ap is_sum (sym p) ∙ g.sum))))

  map_fits : (b : Before) (qs : Run Query) → fits_front b qs ≡ true → names_queries qs ≡ ns → fits (Tail b (part_of qs (Some so_far_levels))) ≡ true
  map_fits b qs f n = both _ _ (left_true (fits_before b) _ f) (both _ _ (right_of (fits_before b) (fits_queries qs) f)
      (both _ _ (both _ _ g.all (both _ _ (below (count so_far_levels) 17 (omega (arith, g.count, g.few))) (below (length (names_comma so_far_levels (names_queries qs))) 33 (let k = names_next qs n in omega (arith, ap length k, g.known))))) refl))

  pub map_goes : Took left mid (Fixed mark.Close) → GoesMap old mid AtLevels ns ms levels
  map_goes t = record {
    text = Some so_far_levels;
    is = g.is;
    names = names_so_far g.before (filled g.hole g.term) ns ∙ g.names;
    known = g.known;
    fits = map_fits;
    goes = λ b qs f n. leads_then old left mid (AtLevels b qs) (After (Mapped b qs g.before) g.hole g.term []) (Tail b (part_of qs (Some so_far_levels))) (g.goes b qs f n)
        (goes left mid (Fixed mark.Close) (After (Mapped b qs g.before) g.hole g.term []) (Tail b (part_of qs (Some so_far_levels))) t refl ((λ x. refl), refl) (map_fits b qs f n));
  }

pub level_smaller : (left mid new : Text Lexeme) (ns ms : List (List ℕ)) (levels pushed : List code.Expr) → Took left mid (Fixed mark.Comma) → GoesLevel mid new ns ms levels pushed → size new < size left
level_smaller left mid new ns ms levels pushed t g = let p : size mid < size left = shorter_took left mid (Fixed mark.Comma) t in let q : size new < size mid = (g.goes).shorter in omega arith

pub series_size : (old left mid new : Text Lexeme) (t : Token) → size left ≤ size old → Took left mid (Fixed mark.Comma) → Took mid new t → size new ≤ size old
series_size old left mid new t e a b = let k : size new < size left = comma_smaller left mid new t a b in omega arith

pub series_end : {A : Type 0} (item : A → Token) (fitting : A → Bool) (has : Text Lexeme → Bool) (fault : Text Lexeme → Stop) (old left here : Text Lexeme) (items : List A) → GoesSeries A item fitting has fault old left items × (size left ≤ size old) → here ≡ left → is_fixed mark.Comma (lead left) ≡ false → GoesSeries A item fitting has fault old here items × (is_fixed mark.Comma (lead here) ≡ false) × (size here ≤ size old)
series_end {A} item fitting has fault old left here items g e c = subst (λ (x : Text Lexeme). GoesSeries A item fitting has fault old x items × (is_fixed mark.Comma (lead x) ≡ false) × (size x ≤ size old)) (sym e) (g.0, c, g.1)

pub first_level_at : (old here new : Text Lexeme) (ns ms : List (List ℕ)) (levels pushed : List code.Expr) → here ≡ old → is_fixed mark.Close (lead old) ≡ false → levels ≡ [] → GoesLevel here new ns ms levels pushed → GoesLevels old new ns ms pushed
first_level_at old here new ns ms levels pushed q e none g = first_level old new ns ms levels pushed e none (subst (λ (x : Text Lexeme). GoesLevel x new ns ms levels pushed) q g)

pub first_level_lost : (old here : Text Lexeme) (ns : List (List ℕ)) (levels : List code.Expr) (r : Stop) → here ≡ old → is_fixed mark.Close (lead old) ≡ false → levels ≡ [] → FailsLevel here ns levels r → AtFront ns (λ b qs. Fails old (AtLevels b qs) r)
first_level_lost old here ns levels r q e none f = first_level_fails old ns levels r e none (subst (λ (x : Text Lexeme). FailsLevel x ns levels r) q f)

pub map_open_end : (old left here : Text Lexeme) (ns ms : List (List ℕ)) (levels : List code.Expr) (r : Stop) → GoesLevels old left ns ms levels → here ≡ left → is_fixed mark.Comma (lead left) ≡ false → (r ≡ refused_at here) × (is_fixed mark.Close (lead here) ≡ false) → AtFront ns (λ b qs. Fails old (AtLevels b qs) r)
map_open_end old left here ns ms levels r g q e f = map_unclosed old left left ns ms levels g r e (subst (λ (x : Text Lexeme). (r ≡ refused_at x) × (is_fixed mark.Close (lead x) ≡ false)) q f)

pub map_whole : (old left here new : Text Lexeme) (ns ms : List (List ℕ)) (levels : List code.Expr) → GoesLevels old left ns ms levels → here ≡ left → Took here new (Fixed mark.Close) → GoesMap old new AtLevels ns ms levels
map_whole old left here new ns ms levels g q t = map_goes old left new ns ms levels g (subst (λ (x : Text Lexeme). Took x new (Fixed mark.Close)) q t)
