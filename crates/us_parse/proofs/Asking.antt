-- Queries, wherever they stand.
use Rattle.std.proofs.Common.{◌≡◌, ℕ, ◌+◌, ◌<◌, ◌≤◌, List, [], ◌∷◌, ◌++◌, length, map, Some, None, true, false, ltb, ◌&&◌, refl, sym, ap, ap₂, ◌∙◌, arith, subst, append_assoc, Result, Ok, Err}
use Rattle.us_tokens.specs.Text as text
use Rattle.us_tokens.specs.Text.{Text, left_of, after}
use Rattle.us_expr.specs.Tree.{Tree, tree}
use Rattle.us_expr.specs.declared.expression.Expr as code
use Rattle.us_expr.specs.declared.queries.Query as asked
use Rattle.us_decl.specs.declared.lexeme.Lexeme.{Lexeme}
use Rattle.us_decl.specs.declared.lexeme.Lexeme.TheVariants as lexeme
use Rattle.us_parse.specs.declared.stop.Stop.{Stop}
use Rattle.us_parse.specs.declared.stop.Stop.TheVariants as stop
use Rattle.us_decl.specs.Words.{is_name}
use Rattle.us_decl.specs.Names.{with_name, number_of, names_expr, names_query, names_queries}
use Rattle.us_decl.specs.Limits.{nodes, fits_whole, fits_names, fits_name, fits_number, fits_query, fits_queries, all_run, count_run}
use Rattle.us_parse.specs.Within.{fits, fits_before, fits_front, fits_begun, fits_one, fits_two, fits_asked, names_asked}
use Rattle.us_decl.specs.Declares.{tree_expr, query_of, run_items, ScheduleOf}
use Rattle.us_decl.specs.Declares as declares
use Rattle.us_decl.specs.Views.{query_view}
use Rattle.std.proofs.Common.{length-append}
use Rattle.std.proofs.lemmas.List.{map-append}
use Rattle.us_parse.specs.Reads.{size, Took, lead, is_fixed, refused_at, Leads, Fails, Missed, GoesExpr, Everywhere, is_sum, is_product, Knows, name_fault, has_variable, number_fault, has_number}
use Rattle.us_parse.specs.ReadsQueries.{AtAsked, AtBegun, AtOne, GoesArgument, GoesSingle, GoesLanes, GoesQuery, GoesQueries, ReadsSingle, ReadsLanes, ReadsQuery, one_view, has_word, word_token_of}
use Rattle.us_decl.proofs.Deciding.{both, left_of as left_true, right_of, not_right, below, is_below, above}
use Rattle.us_parse.proofs.Exprs.{not_left}
use Rattle.us_parse.proofs.Cycle.{fixed_lead}
use Rattle.us_decl.proofs.Numbering.{GoesOn, goes_on_trans, expr_goes_on, with_goes_on}
use Rattle.us_parse.proofs.Leaves.{number_stays}
use Rattle.us_parse.proofs.Steps.{Plain, goes, exceeds, refuses, took_of, leads_then, fails_via, missed, goes_expect, fails_expect, shorter_took}
use Rattle.us_decl.specs.Token.{Token, Fixed, Name, Number}
use Rattle.us_decl.specs.declared.mark.Mark.TheVariants as mark
use Rattle.us_decl.specs.Grammar.{Run, Empty, Then, Expr, Term, Word, Sum, Enumerate, Reorder, Query, Single, Lanes}
use Rattle.us_parse.specs.Piece.{Before, Asked, OneVariable, TwoVariables, Argument, Hole, Begin, Between, AtVariable, AfterVariable, AtWord, AtSlot, AtEqual, AtSchedule, AtArgument, Operand, After, AtInto, AtLanes, filled, ended, step}

-- the limits, part by part
begun_before : (b : Before) (qs : Run Query) → fits_begun b qs ≡ true → fits_before b ≡ true
begun_before b qs e = left_true (fits_before b) (fits_queries qs) (left_true (fits_front b qs) (ltb (count_run qs) 16) e)

begun_queries : (b : Before) (qs : Run Query) → fits_begun b qs ≡ true → fits_queries qs ≡ true
begun_queries b qs e = right_of (fits_before b) (fits_queries qs) (left_true (fits_front b qs) (ltb (count_run qs) 16) e)

begun_room : (b : Before) (qs : Run Query) → fits_begun b qs ≡ true → count_run qs < 16
begun_room b qs e = is_below (count_run qs) 16 (right_of (fits_front b qs) (ltb (count_run qs) 16) e)

one_begun : (b : Before) (qs : Run Query) (v : List ℕ) → fits_one b qs v ≡ true → fits_begun b qs ≡ true
one_begun b qs v e = left_true (fits_begun b qs) _ e

one_name : (b : Before) (qs : Run Query) (v : List ℕ) → fits_one b qs v ≡ true → fits_name v ≡ true
one_name b qs v e = left_true (fits_name v) _ (right_of (fits_begun b qs) (fits_name v && fits_names (with_name v (names_queries qs))) e)

two_one : (b : Before) (qs : Run Query) (v w : List ℕ) → fits_two b qs v w ≡ true → fits_one b qs v ≡ true
two_one b qs v w e = left_true (fits_one b qs v) _ e

two_name : (b : Before) (qs : Run Query) (v w : List ℕ) → fits_two b qs v w ≡ true → fits_name w ≡ true
two_name b qs v w e = left_true (fits_name w) _ (right_of (fits_one b qs v) (fits_name w && fits_names (with_name w (with_name v (names_queries qs)))) e)

-- one more query
pub fits_then : (b : Before) (qs : Run Query) (q : Query) (ms : List (List ℕ)) → fits_begun b qs ≡ true → fits_query q ≡ true → names_query q (names_queries qs) ≡ ms → length ms ≤ 32 → fits_front b (Then qs q) ≡ true
fits_then b qs q ms e f n known = both _ _ (begun_before b qs e)
    (both _ _ (both _ _ (left_true (all_run fits_query qs) _ (begun_queries b qs e)) f)
    (both _ _ (below (count_run qs + 1) 17 (let k : count_run qs < 16 = begun_room b qs e in omega arith)) (below (length (names_query q (names_queries qs))) 33 (omega (arith, ap length n, known)))))

fits_ended : (b : Before) (qs : Run Query) (q : Asked) (e : Expr) (ns ms : List (List ℕ)) → fits_asked b qs q ≡ true → names_asked q (names_queries qs) ≡ ns → fits_whole e ≡ true → names_expr e ns ≡ ms → length ms ≤ 32 → fits (ended (Argument b qs q) e) ≡ true
fits_ended b qs (OneVariable q v) e ns ms a n w m known = fits_then b qs (Single q v e) ms (one_begun b qs v a) (both _ _ (one_name b qs v a) w) (ap (names_expr e) n ∙ m) known
fits_ended b qs (TwoVariables v w) e ns ms a n x m known = both _ _ a (both _ _ x (below (length (names_expr e (with_name w (with_name v (names_queries qs))))) 33 (let k : names_expr e (with_name w (with_name v (names_queries qs))) ≡ ms = ap (names_expr e) n ∙ m in omega (arith, ap length k, known))))

plain_ended : (b : Before) (qs : Run Query) (q : Asked) (e : Expr) → Plain (ended (Argument b qs q) e)
plain_ended b qs (OneVariable q v) e = ((λ x. refl), refl)
plain_ended b qs (TwoVariables v w) e = ((λ x. refl), refl)

asked_room : (b : Before) (qs : Run Query) (q : Asked) (ns : List (List ℕ)) → fits_asked b qs q ≡ true → names_asked q (names_queries qs) ≡ ns → length ns ≤ 32 → fits (Operand (Argument b qs q) Begin []) ≡ true
asked_room b qs q ns a n known = both _ _ a (both _ _ refl (both _ _ (below 0 33 (omega arith)) (below (length (names_asked q (names_queries qs))) 33 (omega (arith, ap length n, known)))))

-- to the argument
opens : (old mid : Text Lexeme) (ns : List (List ℕ)) → length ns ≤ 32 → Took old mid (Fixed mark.Open) → AtAsked ns (λ b qs q. Leads old (AtArgument b qs q) mid (Operand (Argument b qs q) Begin []))
opens old mid ns known t b qs q a n = goes_expect mark.Open old mid (AtArgument b qs q) (Operand (Argument b qs q) Begin []) t refl ((λ x. refl), refl) (asked_room b qs q ns a n known)

pub argument_fails : (old mid : Text Lexeme) (ns : List (List ℕ)) (r : Stop) → length ns ≤ 32 → Took old mid (Fixed mark.Open) → Everywhere 0 0 ns (λ u h os. h ≡ Begin → Fails mid (Operand u Begin os) r) → AtAsked ns (λ b qs q. Fails old (AtArgument b qs q) r)
argument_fails old mid ns r known t f b qs q a n = fails_via r old mid (AtArgument b qs q) (Operand (Argument b qs q) Begin []) (opens old mid ns known t b qs q a n) (f (Argument b qs q) Begin [] a refl refl refl n refl)

to_end : (old mid left : Text Lexeme) (m : ℕ) (ns ms : List (List ℕ)) (e : code.Expr) → length ns ≤ 32 → Took old mid (Fixed mark.Open) → (g : GoesExpr mid left 0 0 m ns ms e) → AtAsked ns (λ b qs q. Leads old (AtArgument b qs q) left (After (Argument b qs q) g.before g.text []))
to_end old mid left m ns ms e known t g b qs q a n = leads_then old mid left (AtArgument b qs q) (Operand (Argument b qs q) Begin []) (After (Argument b qs q) g.before g.text []) (opens old mid ns known t b qs q a n) (g.goes (Argument b qs q) Begin [] a refl refl refl n refl)

no_end_token : (b : Before) (qs : Run Query) (q : Asked) (h : Hole) (t : Term) (k : Token) → is_fixed mark.Close (Some k) ≡ false → is_product (Some k) ≡ false → is_sum (Some k) ≡ false → step (After (Argument b qs q) h t []) k ≡ None
no_end_token b qs q h t (Fixed mark.Plus) x y z = absurd cc
no_end_token b qs q h t (Fixed mark.Minus) x y z = absurd cc
no_end_token b qs q h t (Fixed mark.Slash) x y z = absurd cc
no_end_token b qs q h t (Fixed mark.Percent) x y z = absurd cc
no_end_token b qs q h t (Fixed mark.Close) x y z = absurd cc
no_end_token b qs q h t _ x y z = refl

pub argument_unclosed : (old mid left : Text Lexeme) (m : ℕ) (ns ms : List (List ℕ)) (e : code.Expr) (r : Stop) → length ns ≤ 32 → Took old mid (Fixed mark.Open) → GoesExpr mid left 0 0 m ns ms e × (is_product (lead left) ≡ false) × (is_sum (lead left) ≡ false) → (r ≡ refused_at left) × (is_fixed mark.Close (lead left) ≡ false) → AtAsked ns (λ b qs q. Fails old (AtArgument b qs q) r)
argument_unclosed old mid left m ns ms e r known t g f b qs q a n =
    fails_via r old left (AtArgument b qs q) (After (Argument b qs q) (g.0).before (g.0).text []) (to_end old mid left m ns ms e known t g.0 b qs q a n)
    (subst (λ (x : Stop). Fails left (After (Argument b qs q) (g.0).before (g.0).text []) x) (sym f.0)
    (refuses left (After (Argument b qs q) (g.0).before (g.0).text []) refl (λ k p. no_end_token b qs q (g.0).before (g.0).text k (ap (is_fixed mark.Close) (sym p) ∙ f.1) (ap is_product (sym p) ∙ g.1) (ap is_sum (sym p) ∙ g.2))))

whole_expr : (m : ℕ) (old new : Text Lexeme) (ns ms : List (List ℕ)) (e : code.Expr) → (g : GoesExpr old new 0 0 m ns ms e) → fits_whole (filled g.before g.text) ≡ true
whole_expr m old new ns ms e g = both _ _ g.fits (below (nodes (filled g.before g.text)) 33 (omega (arith, g.count, g.few)))

pub argument_goes : (old mid left new : Text Lexeme) (m : ℕ) (ns ms : List (List ℕ)) (e : code.Expr) → length ns ≤ 32 → Took old mid (Fixed mark.Open) → GoesExpr mid left 0 0 m ns ms e × (is_product (lead left) ≡ false) × (is_sum (lead left) ≡ false) → Took left new (Fixed mark.Close) → GoesArgument old new ns ms e
argument_goes old mid left new m ns ms e known t g c =
    let x : GoesExpr mid left 0 0 m ns ms e = g.0 in record {
      text = filled x.before x.text;
      is = x.is;
      names = x.names;
      shorter =
          let p : size mid < size old = shorter_took old mid (Fixed mark.Open) t in
          let q : size new < size left = shorter_took left new (Fixed mark.Close) c in
          let r : size left < size mid = x.shorter in omega arith;
      known = x.known;
      fits = whole_expr m mid left ns ms e x;
      goes = λ b qs q a n. leads_then old left new (AtArgument b qs q) (After (Argument b qs q) x.before x.text []) (ended (Argument b qs q) (filled x.before x.text)) (to_end old mid left m ns ms e known t x b qs q a n)
          (goes left new (Fixed mark.Close) (After (Argument b qs q) x.before x.text []) (ended (Argument b qs q) (filled x.before x.text)) c refl (plain_ended b qs q (filled x.before x.text))
          (fits_ended b qs q (filled x.before x.text) ns ms a n (whole_expr m mid left ns ms e x) x.names x.known));
    }

-- a query of one variable

to_word : (old mid : Text Lexeme) (ns : List (List ℕ)) → Took old mid (Fixed mark.Equal) → AtOne ns (λ b qs v. Leads old (AfterVariable b qs v) mid (AtWord b qs v))
to_word old mid ns t b qs v a n = goes old mid (Fixed mark.Equal) (AfterVariable b qs v) (AtWord b qs v) t refl ((λ x. refl), refl) a

word_step : (q : Word) (b : Before) (qs : Run Query) (v : List ℕ) → step (AtWord b qs v) (word_token_of q) ≡ Some (AtArgument b qs (OneVariable q v))
word_step Sum b qs v = refl
word_step Enumerate b qs v = refl
word_step Reorder b qs v = refl

to_argument : (old mid left : Text Lexeme) (q : Word) (ns : List (List ℕ)) → Took old mid (Fixed mark.Equal) → Took mid left (word_token_of q) → AtOne ns (λ b qs v. Leads old (AfterVariable b qs v) left (AtArgument b qs (OneVariable q v)))
to_argument old mid left q ns t u b qs v a n = leads_then old mid left (AfterVariable b qs v) (AtWord b qs v) (AtArgument b qs (OneVariable q v)) (to_word old mid ns t b qs v a n)
    (goes mid left (word_token_of q) (AtWord b qs v) (AtArgument b qs (OneVariable q v)) u (word_step q b qs v) ((λ x. refl), refl) a)

no_word : (b : Before) (qs : Run Query) (v : List ℕ) (k : Token) → has_word (Some k) ≡ false → step (AtWord b qs v) k ≡ None
no_word b qs v (Fixed mark.Sum) e = absurd cc
no_word b qs v (Fixed mark.Enumerate) e = absurd cc
no_word b qs v (Fixed mark.Reorder) e = absurd cc
no_word b qs v _ e = refl

pub single_no_word : (old mid : Text Lexeme) (ns : List (List ℕ)) (r : Stop) → Took old mid (Fixed mark.Equal) → (r ≡ refused_at mid) × (has_word (lead mid) ≡ false) → AtOne ns (λ b qs v. Fails old (AfterVariable b qs v) r)
single_no_word old mid ns r t f b qs v a n = fails_via r old mid (AfterVariable b qs v) (AtWord b qs v) (to_word old mid ns t b qs v a n)
    (subst (λ (x : Stop). Fails mid (AtWord b qs v) x) (sym f.0) (refuses mid (AtWord b qs v) refl (λ k p. no_word b qs v k (ap has_word (sym p) ∙ f.1))))

pub single_fails : (old mid left : Text Lexeme) (q : Word) (ns : List (List ℕ)) (r : Stop) → Took old mid (Fixed mark.Equal) → Took mid left (word_token_of q) → AtAsked ns (λ b qs x. Fails left (AtArgument b qs x) r) → AtOne ns (λ b qs v. Fails old (AfterVariable b qs v) r)
single_fails old mid left q ns r t u f b qs v a n = fails_via r old left (AfterVariable b qs v) (AtArgument b qs (OneVariable q v)) (to_argument old mid left q ns t u b qs v a n) (f b qs (OneVariable q v) a n)

pub single_goes : (old mid left new : Text Lexeme) (w : Word) (var : ℕ) (ns ms : List (List ℕ)) (e : code.Expr) (q : asked.Query) → Took old mid (Fixed mark.Equal) → Took mid left (word_token_of w) → GoesArgument left new ns ms e → query_view q ≡ one_view w var (tree e) → GoesSingle old new var ns ms q
single_goes old mid left new w var ns ms e q t u g is = record {
  word = w;
  text = g.text;
  is = λ more. is ∙ ap (one_view w var) (sym (g.is more));
  names = g.names;
  shorter =
      let p : size mid < size old = shorter_took old mid (Fixed mark.Equal) t in
      let r : size left < size mid = shorter_took mid left (word_token_of w) u in
      let s : size new < size left = g.shorter in omega arith;
  known = g.known;
  fits = g.fits;
  goes = λ b qs v a n. leads_then old left new (AfterVariable b qs v) (AtArgument b qs (OneVariable w v)) (Between b (Then qs (Single w v g.text))) (to_argument old mid left w ns t u b qs v a n) (g.goes b qs (OneVariable w v) a n);
}

-- a schedule

module _ (old mid : Text Lexeme) (ns ms : List (List ℕ)) (slot : ℕ) (k : Knows old mid ns ms slot) where
  fits_slot : (b : Before) (qs : Run Query) (v : List ℕ) → fits_one b qs v ≡ true → with_name v (names_queries qs) ≡ ns → fits_two b qs v k.name ≡ true
  fits_slot b qs v a n = both _ _ a (both _ _ k.fits (below (length (with_name k.name (with_name v (names_queries qs)))) 33 (let x : with_name k.name (with_name v (names_queries qs)) ≡ ms = ap (with_name k.name) n ∙ k.names in omega (arith, ap length x, k.known))))

  to_equal : AtOne ns (λ b qs v. Leads old (AtSlot b qs v) mid (AtEqual b qs v k.name))
  to_equal b qs v a n = goes old mid (Name k.name) (AtSlot b qs v) (AtEqual b qs v k.name) k.took refl ((λ x. refl), refl) (fits_slot b qs v a n)

  pub lanes_unequal : (r : Stop) → (r ≡ refused_at mid) × (is_fixed mark.Equal (lead mid) ≡ false) → AtOne ns (λ b qs v. Fails old (AtSlot b qs v) r)
  lanes_unequal r f b qs v a n = fails_via r old mid (AtSlot b qs v) (AtEqual b qs v k.name) (to_equal b qs v a n)
      (subst (λ (x : Stop). Fails mid (AtEqual b qs v k.name) x) (sym f.0) (fails_expect mark.Equal mid (AtEqual b qs v k.name) (AtSchedule b qs v k.name) refl (λ t. refl) f.1))

  module _ (next : Text Lexeme) (t : Took mid next (Fixed mark.Equal)) where
    to_schedule : AtOne ns (λ b qs v. Leads old (AtSlot b qs v) next (AtSchedule b qs v k.name))
    to_schedule b qs v a n = leads_then old mid next (AtSlot b qs v) (AtEqual b qs v k.name) (AtSchedule b qs v k.name) (to_equal b qs v a n)
        (goes_expect mark.Equal mid next (AtEqual b qs v k.name) (AtSchedule b qs v k.name) t refl ((λ x. refl), refl) (fits_slot b qs v a n))

    pub lanes_no_schedule : (r : Stop) → (r ≡ refused_at next) × (is_fixed mark.Schedule (lead next) ≡ false) → AtOne ns (λ b qs v. Fails old (AtSlot b qs v) r)
    lanes_no_schedule r f b qs v a n = fails_via r old next (AtSlot b qs v) (AtSchedule b qs v k.name) (to_schedule b qs v a n)
        (subst (λ (x : Stop). Fails next (AtSchedule b qs v k.name) x) (sym f.0) (fails_expect mark.Schedule next (AtSchedule b qs v k.name) (AtArgument b qs (TwoVariables v k.name)) refl (λ y. refl) f.1))

    module _ (left : Text Lexeme) (u : Took next left (Fixed mark.Schedule)) where
      to_axis : AtOne ns (λ b qs v. Leads old (AtSlot b qs v) left (AtArgument b qs (TwoVariables v k.name)))
      to_axis b qs v a n = leads_then old next left (AtSlot b qs v) (AtSchedule b qs v k.name) (AtArgument b qs (TwoVariables v k.name)) (to_schedule b qs v a n)
          (goes_expect mark.Schedule next left (AtSchedule b qs v k.name) (AtArgument b qs (TwoVariables v k.name)) u refl ((λ x. refl), refl) (fits_slot b qs v a n))

      names_slot : (qs : Run Query) (v : List ℕ) → with_name v (names_queries qs) ≡ ns → with_name k.name (with_name v (names_queries qs)) ≡ ms
      names_slot qs v n = ap (with_name k.name) n ∙ k.names

      pub lanes_no_argument : (r : Stop) → AtAsked ms (λ b qs x. Fails left (AtArgument b qs x) r) → AtOne ns (λ b qs v. Fails old (AtSlot b qs v) r)
      lanes_no_argument r f b qs v a n = fails_via r old left (AtSlot b qs v) (AtArgument b qs (TwoVariables v k.name)) (to_axis b qs v a n) (f b qs (TwoVariables v k.name) (fits_slot b qs v a n) (names_slot qs v n))

      module _ (behind : Text Lexeme) (ls : List (List ℕ)) (e : code.Expr) (g : GoesArgument left behind ms ls e) where
        to_into : AtOne ns (λ b qs v. Leads old (AtSlot b qs v) behind (AtInto b qs v k.name g.text))
        to_into b qs v a n = leads_then old left behind (AtSlot b qs v) (AtArgument b qs (TwoVariables v k.name)) (AtInto b qs v k.name g.text) (to_axis b qs v a n) (g.goes b qs (TwoVariables v k.name) (fits_slot b qs v a n) (names_slot qs v n))

        pub lanes_no_into : (r : Stop) → (r ≡ refused_at behind) × (is_fixed mark.Into (lead behind) ≡ false) → AtOne ns (λ b qs v. Fails old (AtSlot b qs v) r)
        lanes_no_into r f b qs v a n = fails_via r old behind (AtSlot b qs v) (AtInto b qs v k.name g.text) (to_into b qs v a n)
            (subst (λ (x : Stop). Fails behind (AtInto b qs v k.name g.text) x) (sym f.0) (fails_expect mark.Into behind (AtInto b qs v k.name g.text) (AtLanes b qs v k.name g.text) refl (λ y. refl) f.1))

        module _ (last : Text Lexeme) (i : Took behind last (Fixed mark.Into)) where
          to_lanes : AtOne ns (λ b qs v. Leads old (AtSlot b qs v) last (AtLanes b qs v k.name g.text))
          to_lanes b qs v a n = leads_then old behind last (AtSlot b qs v) (AtInto b qs v k.name g.text) (AtLanes b qs v k.name g.text) (to_into b qs v a n)
              (goes_expect mark.Into behind last (AtInto b qs v k.name g.text) (AtLanes b qs v k.name g.text) i refl ((λ x. refl), refl)
              (fits_ended b qs (TwoVariables v k.name) g.text ms ls (fits_slot b qs v a n) (names_slot qs v n) g.fits g.names g.known))

          lanes_query : (v : List ℕ) (c : ℕ) → fits_name v ≡ true → fits_number c ≡ true → fits_query (Lanes v k.name g.text c) ≡ true
          lanes_query v c x y = both _ _ x (both _ _ k.fits (both _ _ g.fits y))

          number_fails : (b : Before) (qs : Run Query) (v : List ℕ) (there : Text Lexeme) → has_number there ≡ false → Fails there (AtLanes b qs v k.name g.text) (number_fault there)
          number_fails b qs v text.End e = λ x. refl
          number_fails b qs v (text.Bad n) e = λ x. refl
          number_fails b qs v (text.Then (lexeme.Fixed m) w c more) e = λ x. refl
          number_fails b qs v (text.Then lexeme.Name w c more) e = λ x. refl
          number_fails b qs v (text.Then (lexeme.Number n) w c more) e =
              exceeds (text.Then (lexeme.Number n) w c more) more (Number n) (AtLanes b qs v k.name g.text) (Between b (Then qs (Lanes v k.name g.text n))) (record { kind = lexeme.Number n; bytes = w; behind = c; parts = refl; is = refl }) refl ((λ x. refl), refl)
              (not_right (fits_before b) _ (not_left _ _ (not_right (all_run fits_query qs) _ (not_right (fits_name v) _ (not_right (fits_name k.name) _ (not_right (fits_whole g.text) _ e))))))

          pub lanes_no_number : (r : Stop) → (r ≡ number_fault last) × (has_number last ≡ false) → AtOne ns (λ b qs v. Fails old (AtSlot b qs v) r)
          lanes_no_number r f b qs v a n = fails_via r old last (AtSlot b qs v) (AtLanes b qs v k.name g.text) (to_lanes b qs v a n) (subst (λ (x : Stop). Fails last (AtLanes b qs v k.name g.text) x) (sym f.0) (number_fails b qs v last f.1))

          pub lanes_goes : (new : Text Lexeme) (c : ℕ) (var : ℕ) (q : asked.Query) → Took last new (Number c) × (fits_number c ≡ true) → query_view q ≡ ScheduleOf var slot (tree e) c → GoesLanes old new var ns ls q
          lanes_goes new c var q t3 is = record {
            slot = k.name;
            text = g.text;
            lanes = c;
            is = λ more.
                let on = expr_goes_on g.text ms in
                let ls_is : ls ≡ ms ++ on.more = sym g.names ∙ on.is in
                let here : ls ++ more ≡ ms ++ (on.more ++ more) = ap (λ (x : List (List ℕ)). x ++ more) ls_is ∙ append_assoc ms on.more more in
                let number : number_of k.name (ls ++ more) ≡ slot = ap (number_of k.name) here ∙ number_stays old mid ns ms slot (on.more ++ more) k in
                is ∙ ap₂ (λ (x : ℕ) (y : Tree). ScheduleOf var x y c) (sym number) (sym (g.is more));
            names = ap (names_expr g.text) k.names ∙ g.names;
            shorter =
                let p1 : size mid < size old = shorter_took old mid (Name k.name) k.took in
                let p2 : size next < size mid = shorter_took mid next (Fixed mark.Equal) t in
                let p3 : size left < size next = shorter_took next left (Fixed mark.Schedule) u in
                let p4 : size behind < size left = g.shorter in
                let p5 : size last < size behind = shorter_took behind last (Fixed mark.Into) i in
                let p6 : size new < size last = shorter_took last new (Number c) t3.0 in omega arith;
            known = g.known;
            fits = λ v x. lanes_query v c (left_true (fits_name v) _ x) t3.1;
            whole = g.fits;
            goes = λ b qs v a n. leads_then old last new (AtSlot b qs v) (AtLanes b qs v k.name g.text) (Between b (Then qs (Lanes v k.name g.text c))) (to_lanes b qs v a n)
                (goes last new (Number c) (AtLanes b qs v k.name g.text) (Between b (Then qs (Lanes v k.name g.text c))) t3.0 refl ((λ x. refl), refl)
                (fits_then b qs (Lanes v k.name g.text c) ls (one_begun b qs v a) (lanes_query v c (one_name b qs v a) t3.1) (ap (names_expr g.text) (names_slot qs v n) ∙ g.names) g.known));
          }

-- where the slot is no variable
pub lanes_no_slot : (old : Text Lexeme) (ns : List (List ℕ)) (r : Stop) → Missed (name_fault old) (has_variable ns old) r → AtOne ns (λ b qs v. Fails old (AtSlot b qs v) r)
lanes_no_slot old ns r m b qs v a n = missed r (name_fault old) (has_variable ns old) old (AtSlot b qs v) m (slot_fails old)
  where
    slot_fails : (there : Text Lexeme) → has_variable ns there ≡ false → Fails there (AtSlot b qs v) (name_fault there)
    slot_fails text.End e = λ x. refl
    slot_fails (text.Bad l) e = λ x. refl
    slot_fails (text.Then (lexeme.Fixed k) w c more) e = λ x. refl
    slot_fails (text.Then (lexeme.Number k) w c more) e = λ x. refl
    slot_fails (text.Then lexeme.Name w c more) e =
        exceeds (text.Then lexeme.Name w c more) more (Name w) (AtSlot b qs v) (AtEqual b qs v w) (record { kind = lexeme.Name; bytes = w; behind = c; parts = refl; is = refl }) refl ((λ x. refl), refl)
        (not_right (fits_one b qs v) _ (subst (λ (x : List (List ℕ)). (is_name w && fits_names (with_name w x)) ≡ false) (sym n) e))

-- a query, behind its first word

one_is : (w : Word) (v : List ℕ) (e : Expr) (ns : List (List ℕ)) (var : ℕ) → number_of v ns ≡ var → one_view w var (tree_expr ns e) ≡ query_of ns (Single w v e)
one_is Sum v e ns var n = ap (λ (x : ℕ). one_view Sum x (tree_expr ns e)) (sym n)
one_is Enumerate v e ns var n = ap (λ (x : ℕ). one_view Enumerate x (tree_expr ns e)) (sym n)
one_is Reorder v e ns var n = ap (λ (x : ℕ). one_view Reorder x (tree_expr ns e)) (sym n)

module _ (old mid : Text Lexeme) (ns ms : List (List ℕ)) (var : ℕ) (k : Knows old mid ns ms var) where
  fits_var : (b : Before) (qs : Run Query) → fits_begun b qs ≡ true → names_queries qs ≡ ns → fits_one b qs k.name ≡ true
  fits_var b qs a n = both _ _ a (both _ _ k.fits (below (length (with_name k.name (names_queries qs))) 33 (let x : with_name k.name (names_queries qs) ≡ ms = ap (with_name k.name) n ∙ k.names in omega (arith, ap length x, k.known))))

  to_variable : AtBegun ns (λ b qs. Leads old (AtVariable b qs) mid (AfterVariable b qs k.name))
  to_variable b qs a n = goes old mid (Name k.name) (AtVariable b qs) (AfterVariable b qs k.name) k.took refl ((λ x. refl), refl) (fits_var b qs a n)

  names_var : (qs : Run Query) → names_queries qs ≡ ns → with_name k.name (names_queries qs) ≡ ms
  names_var qs n = ap (with_name k.name) n ∙ k.names

  var_there : (ls more : List (List ℕ)) (e : Expr) → names_expr e ms ≡ ls → number_of k.name (ls ++ more) ≡ var
  var_there ls more e n =
      let on = expr_goes_on e ms in
      let ls_is : ls ≡ ms ++ on.more = sym n ∙ on.is in
      ap (number_of k.name) (ap (λ (x : List (List ℕ)). x ++ more) ls_is ∙ append_assoc ms on.more more) ∙ number_stays old mid ns ms var (on.more ++ more) k

  pub query_single : (new : Text Lexeme) (ls : List (List ℕ)) (r : Result asked.Query Stop) → ReadsSingle mid new var ms ls r → ReadsQuery old new ns ls r
  query_single new ls (Ok q) g = record {
    text = Single g.word k.name g.text;
    is = λ more. g.is more ∙ one_is g.word k.name g.text (ls ++ more) var (var_there ls more g.text g.names);
    names = ap (names_expr g.text) k.names ∙ g.names;
    shorter = let p : size mid < size old = shorter_took old mid (Name k.name) k.took in let q2 : size new < size mid = g.shorter in omega arith;
    known = g.known;
    fits = both _ _ k.fits g.fits;
    goes = λ b qs a n. leads_then old mid new (AtVariable b qs) (AfterVariable b qs k.name) (Between b (Then qs (Single g.word k.name g.text))) (to_variable b qs a n) (g.goes b qs k.name (fits_var b qs a n) (names_var qs n));
  }
  query_single new ls (Err e) g = λ b qs a n. fails_via e old mid (AtVariable b qs) (AfterVariable b qs k.name) (to_variable b qs a n) (g b qs k.name (fits_var b qs a n) (names_var qs n))

  to_slot : (next : Text Lexeme) → Took mid next (Fixed mark.Comma) → AtBegun ns (λ b qs. Leads old (AtVariable b qs) next (AtSlot b qs k.name))
  to_slot next t b qs a n = leads_then old mid next (AtVariable b qs) (AfterVariable b qs k.name) (AtSlot b qs k.name) (to_variable b qs a n)
      (goes mid next (Fixed mark.Comma) (AfterVariable b qs k.name) (AtSlot b qs k.name) t refl ((λ x. refl), refl) (fits_var b qs a n))

  var_lanes : (ls more : List (List ℕ)) (e : Expr) (slot : List ℕ) → names_expr e (with_name slot ms) ≡ ls → number_of k.name (ls ++ more) ≡ var
  var_lanes ls more e slot n =
      let w = with_goes_on slot ms in
      let on = expr_goes_on e (with_name slot ms) in
      let ls_is : ls ≡ ms ++ (w.more ++ on.more) = sym n ∙ on.is ∙ ap (λ (x : List (List ℕ)). x ++ on.more) w.is ∙ append_assoc ms w.more on.more in
      ap (number_of k.name) (ap (λ (x : List (List ℕ)). x ++ more) ls_is ∙ append_assoc ms (w.more ++ on.more) more) ∙ number_stays old mid ns ms var ((w.more ++ on.more) ++ more) k

  pub query_lanes : (next new : Text Lexeme) (ls : List (List ℕ)) (r : Result asked.Query Stop) → Took mid next (Fixed mark.Comma) → ReadsLanes next new var ms ls r → ReadsQuery old new ns ls r
  query_lanes next new ls (Ok q) t g = record {
    text = Lanes k.name g.slot g.text g.lanes;
    is = λ more. g.is more ∙ ap (λ (x : ℕ). ScheduleOf x (number_of g.slot (ls ++ more)) (tree_expr (ls ++ more) g.text) g.lanes) (sym (var_lanes ls more g.text g.slot g.names));
    names = ap (λ (x : List (List ℕ)). names_expr g.text (with_name g.slot x)) k.names ∙ g.names;
    shorter = let p : size mid < size old = shorter_took old mid (Name k.name) k.took in let p2 : size next < size mid = shorter_took mid next (Fixed mark.Comma) t in let q2 : size new < size next = g.shorter in omega arith;
    known = g.known;
    fits = g.fits k.name (both _ _ k.fits g.whole);
    goes = λ b qs a n. leads_then old next new (AtVariable b qs) (AtSlot b qs k.name) (Between b (Then qs (Lanes k.name g.slot g.text g.lanes))) (to_slot next t b qs a n) (g.goes b qs k.name (fits_var b qs a n) (names_var qs n));
  }
  query_lanes next new ls (Err e) t g = λ b qs a n. fails_via e old next (AtVariable b qs) (AtSlot b qs k.name) (to_slot next t b qs a n) (g b qs k.name (fits_var b qs a n) (names_var qs n))

pub query_else : (old mid here : Text Lexeme) (ns ms : List (List ℕ)) (var : ℕ) (new : Text Lexeme) (ls : List (List ℕ)) (r : Result asked.Query Stop) → Knows old mid ns ms var → here ≡ mid → ReadsSingle here new var ms ls r → ReadsQuery old new ns ls r
query_else old mid here ns ms var new ls r k e g = query_single old mid ns ms var k new ls r (subst (λ (x : Text Lexeme). ReadsSingle x new var ms ls r) e g)

-- one query after the other

query_goes_on : (q : Query) (ns : List (List ℕ)) → GoesOn ns (names_query q ns)
query_goes_on (Single w v e) ns = goes_on_trans ns (with_name v ns) (names_expr e (with_name v ns)) (with_goes_on v ns) (expr_goes_on e (with_name v ns))
query_goes_on (Lanes v w e k) ns = goes_on_trans ns (with_name v ns) (names_expr e (with_name w (with_name v ns))) (with_goes_on v ns) (goes_on_trans (with_name v ns) (with_name w (with_name v ns)) (names_expr e (with_name w (with_name v ns))) (with_goes_on w (with_name v ns)) (expr_goes_on e (with_name w (with_name v ns))))

pub no_queries : (old : Text Lexeme) → GoesQueries old old [] []
no_queries old = record { text = Empty; is = λ more. refl; names = refl; known = omega arith; all = refl; count = refl; few = omega arith; goes = λ b f earlier. refl }

module _ (old left : Text Lexeme) (ms : List (List ℕ)) (queries : List asked.Query) (g : GoesQueries old left ms queries) (is : lead left ≡ Some (Fixed mark.Let)) where
  front_there : (b : Before) → fits_before b ≡ true → fits_front b g.text ≡ true
  front_there b f = both _ _ f (both _ _ g.all (both _ _ (below (count_run g.text) 17 (omega (arith, g.count, g.few))) (below (length (names_queries g.text)) 33 (omega (arith, ap length g.names, g.known)))))

  begun_there : length queries < 16 → (b : Before) → fits_before b ≡ true → fits_begun b g.text ≡ true
  begun_there room b f = both _ _ (front_there b f) (below (count_run g.text) 16 (omega (arith, g.count)))

  to_query : length queries < 16 → (b : Before) → fits_before b ≡ true → Leads old (Between b Empty) (after left) (AtVariable b g.text)
  to_query room b f = leads_then old left (after left) (Between b Empty) (Between b g.text) (AtVariable b g.text) (g.goes b f)
      (goes left (after left) (Fixed mark.Let) (Between b g.text) (AtVariable b g.text) (took_of left (Fixed mark.Let) is) refl ((λ x. refl), refl) (begun_there room b f))

  pub full_queries : (r : Stop) → r ≡ stop.TooBig (left_of left) → 16 ≤ length queries → (b : Before) → fits_before b ≡ true → Fails old (Between b Empty) r
  full_queries r e full b f = fails_via r old left (Between b Empty) (Between b g.text) (g.goes b f)
      (subst (λ (x : Stop). Fails left (Between b g.text) x) (sym e)
      (exceeds left (after left) (Fixed mark.Let) (Between b g.text) (AtVariable b g.text) (took_of left (Fixed mark.Let) is) refl ((λ x. refl), refl) (not_right (fits_front b g.text) _ (above (count_run g.text) 16 (omega (arith, g.count))))))

  pub lost_query : (mid : Text Lexeme) (r : Stop) → mid ≡ after left → length queries < 16 → AtBegun ms (λ b qs. Fails mid (AtVariable b qs) r) → (b : Before) → fits_before b ≡ true → Fails old (Between b Empty) r
  lost_query mid r e room h b f = fails_via r old (after left) (Between b Empty) (AtVariable b g.text) (to_query room b f) (subst (λ (x : Text Lexeme). Fails x (AtVariable b g.text) r) e (h b g.text (begun_there room b f) g.names))

  pub more_queries : (mid new : Text Lexeme) (ls : List (List ℕ)) (q : asked.Query) → mid ≡ after left → length queries < 16 → GoesQuery mid new ms ls q → GoesQueries old new ls (queries ++ (q ∷ []))
  more_queries mid new ls q e room h = record {
    text = Then g.text h.text;
    is = λ more.
        let on = query_goes_on h.text ms in
        let ls_is : ls ≡ ms ++ on.more = sym h.names ∙ on.is in
        let here : ls ++ more ≡ ms ++ (on.more ++ more) = ap (λ (x : List (List ℕ)). x ++ more) ls_is ∙ append_assoc ms on.more more in
        let first : map query_view queries ≡ map (query_of (ls ++ more)) (run_items g.text) = g.is (on.more ++ more) ∙ ap (λ (x : List (List ℕ)). map (query_of x) (run_items g.text)) (sym here) in
        map-append query_view queries (q ∷ []) ∙ ap₂ (λ (x y : List declares.Query). x ++ y) first (ap (λ (x : declares.Query). x ∷ []) (h.is more)) ∙ sym (map-append (query_of (ls ++ more)) (run_items g.text) (h.text ∷ []));
    names = ap (names_query h.text) g.names ∙ h.names;
    known = h.known;
    all = both _ _ g.all h.fits;
    count = ap (λ (x : ℕ). x + 1) g.count ∙ sym (length-append queries (q ∷ []));
    few = omega (arith, length-append queries (q ∷ []));
    goes = λ b f. leads_then old (after left) new (Between b Empty) (AtVariable b g.text) (Between b (Then g.text h.text)) (to_query room b f) (subst (λ (x : Text Lexeme). Leads x (AtVariable b g.text) new (Between b (Then g.text h.text))) e (h.goes b g.text (begun_there room b f) g.names));
  }

pub start_queries : (old : Text Lexeme) (ms : List (List ℕ)) (queries : List asked.Query) → ms ≡ [] → queries ≡ [] → GoesQueries old old ms queries
start_queries old ms queries a b = subst (λ (x : List (List ℕ)). GoesQueries old old x queries) (sym a) (subst (λ (x : List asked.Query). GoesQueries old old [] x) (sym b) (no_queries old))

pub pushed_query : (old left mid new : Text Lexeme) (ms ls : List (List ℕ)) (queries pushed : List asked.Query) (q : asked.Query) → GoesQueries old left ms queries → is_fixed mark.Let (lead left) ≡ true → mid ≡ after left → length queries < 16 → GoesQuery mid new ms ls q → pushed ≡ queries ++ (q ∷ []) → GoesQueries old new ls pushed
pushed_query old left mid new ms ls queries pushed q g is e room h p = subst (λ (x : List asked.Query). GoesQueries old new ls x) (sym p) (more_queries old left ms queries g (fixed_lead mark.Let (lead left) is) mid new ls q e room h)

pub query_smaller : (left mid new : Text Lexeme) (ms ls : List (List ℕ)) (q : asked.Query) → is_fixed mark.Let (lead left) ≡ true → mid ≡ after left → GoesQuery mid new ms ls q → size new < size left
query_smaller left mid new ms ls q is e h =
    let a : size (after left) < size left = shorter_took left (after left) (Fixed mark.Let) (took_of left (Fixed mark.Let) (fixed_lead mark.Let (lead left) is)) in
    let b : size new < size mid = h.shorter in
    let c : size mid ≡ size (after left) = ap size e in omega arith

pub query_beyond : (old left : Text Lexeme) (ms : List (List ℕ)) (queries : List asked.Query) (r : Stop) → GoesQueries old left ms queries → is_fixed mark.Let (lead left) ≡ true → r ≡ stop.TooBig (left_of left) → 16 ≤ length queries → (b : Before) → fits_before b ≡ true → Fails old (Between b Empty) r
query_beyond old left ms queries r g is e full = full_queries old left ms queries g (fixed_lead mark.Let (lead left) is) r e full

pub query_lost : (old left mid : Text Lexeme) (ms : List (List ℕ)) (queries : List asked.Query) (r : Stop) → GoesQueries old left ms queries → is_fixed mark.Let (lead left) ≡ true → mid ≡ after left → length queries < 16 → AtBegun ms (λ b qs. Fails mid (AtVariable b qs) r) → (b : Before) → fits_before b ≡ true → Fails old (Between b Empty) r
query_lost old left mid ms queries r g is e room h = lost_query old left ms queries g (fixed_lead mark.Let (lead left) is) mid r e room h
