-- Heads and bodies.
use Rattle.std.proofs.Common.{◌≡◌, ◌+◌, ◌<◌, ◌≤◌, ℕ, List, [], ◌∷◌, ◌++◌, length, map, Some, None, Bool, true, false, ltb, ◌&&◌, refl, sym, ap, ap₂, ◌∙◌, arith, subst, append_assoc, length-append, Result, Ok, Err}
use Rattle.std.proofs.lemmas.List.{append-nil, map-append}
use Rattle.us_tokens.specs.Text as text
use Rattle.us_tokens.specs.Text.{Text, left_of, after}
use Rattle.us_decl.specs.declared.lexeme.Lexeme.{Lexeme}
use Rattle.us_decl.specs.declared.lexeme.Lexeme.TheVariants as lexeme
use Rattle.us_parse.specs.declared.stop.Stop.{Stop}
use Rattle.us_parse.specs.declared.stop.Stop.TheVariants as stop
use Rattle.us_decl.specs.Words.{is_name}
use Rattle.us_decl.specs.Names.{with_name, names_queries, names_blocks}
use Rattle.us_decl.specs.Limits.{all_run, count_run, fits_list, fits_query, fits_names, fits_name, fits_number, fits_part, fits_queries, fits_block, fits_blocks}
use Rattle.us_parse.specs.Within.{fits, fits_before}
use Rattle.us_decl.specs.Declares.{run_items, whole_part, cond_of}
use Rattle.us_parse.specs.Machine.{done}
use Rattle.us_parse.specs.Reads.{Took, lead, is_fixed, refused_at, Leads, Fails, number_fault, has_number}
use Rattle.us_decl.proofs.Deciding.{both, left_of as left_true, right_of, not_right, below, above}
use Rattle.us_parse.proofs.Cycle.{fixed_lead}
use Rattle.us_parse.proofs.Exprs.{not_left}
use Rattle.us_decl.specs.Declares as declares
use Rattle.us_decl.specs.Declares.{query_of}
use Rattle.us_decl.specs.Names.{names_part, names_head}
use Rattle.us_expr.specs.declared.queries.Query as asked
use Rattle.us_expr.specs.declared.queries.Cond.{Cond}
use Rattle.us_decl.specs.declared.decl.Part as parts
use Rattle.us_decl.specs.declared.decl.Head as heads
use Rattle.us_decl.specs.declared.decl.Body as bodies
use Rattle.us_decl.specs.declared.decl.Body.TheVariants as kinds
use Rattle.us_decl.specs.Views.{query_view, part_view, head_view}
use Rattle.us_decl.specs.Limits.{fits_head}
use Rattle.us_parse.specs.ReadsQueries.{GoesQueries}
use Rattle.us_parse.specs.ReadsBodies.{divides, GoesPart, ReadsPart, GoesWhole, ReadsWhole}
use Rattle.us_parse.specs.ReadsDecls.{has_sign, AtHead, at_block, AtBlock, GoesCondition, GoesBraced, GoesBlocks, ReadsBlocks, AtRests, GoesRest, before_end, GoesBody, ReadsBody, GoesDivided, ReadsDivided}
use Rattle.us_parse.specs.Reads.{Missed, Knows, name_fault, has_variable}
use Rattle.us_decl.proofs.Numbering.{GoesOn, goes_on_self, goes_on_trans, with_goes_on}
use Rattle.us_parse.proofs.Leaves.{number_stays}
use Rattle.us_parse.proofs.Storing.{queries_front}
use Rattle.us_parse.proofs.Steps.{missed, Plain, goes, exceeds, refuses, took_of, leads_then, fails_via, goes_expect, fails_expect}
use Rattle.us_decl.specs.Token.{Token, Fixed, Name, Number}
use Rattle.us_decl.specs.declared.mark.Mark.TheVariants as mark
use Rattle.us_decl.specs.Grammar.{Run, Empty, Then, Query, Part, Block, Head, Whole, Split, block_of, blocks_of, sign_token}
use Rattle.us_parse.specs.Piece.{Before, BehindName, BehindHead, BehindBlocks, Piece, Between, Tail, AtWhen, AtCondition, AtSign, AtBound, AtPart, AtRest, AtLast, AtEnd, Done, expect, finished, head_of, step}

-- a condition

block_step : (n : List ℕ) (qs : Run Query) (bs : Run Block) → step (at_block n qs bs) (Fixed mark.Part) ≡ Some (AtWhen n qs bs)
block_step n qs Empty = refl
block_step n qs (Then bs b) = refl

-- what fits up to a block, from what fits behind it
pub block_fits : (n : List ℕ) (qs : Run Query) (bs : Run Block) → fits (at_block n qs bs) ≡ true → ltb (count_run bs) 3 ≡ true → fits (AtWhen n qs bs) ≡ true
block_fits n qs Empty f e =
    let q : fits_queries qs ≡ true = right_of (fits_name n) (fits_queries qs) f in
    both (fits_name n) _ (left_true (fits_name n) _ f) (both (fits_queries qs) _ q (right_of (fits_list (count_run qs)) _ (right_of (all_run fits_query qs) _ q)))
block_fits n qs (Then bs b) f e =
    let ns : List (List ℕ) = names_blocks bs (names_queries qs) in
    let tail : Bool = fits_name b.name && (fits_names (with_name b.name ns) && fits_number b.bound) in
    let x : (fits_head (head_of qs bs b.name b.less b.bound) && fits_part b.part) ≡ true = right_of (fits_name n) _ f in
    let h : (fits_queries qs && (fits_blocks qs bs && tail)) ≡ true = left_true (fits_head (head_of qs bs b.name b.less b.bound)) (fits_part b.part) x in
    let y : (fits_blocks qs bs && tail) ≡ true = right_of (fits_queries qs) _ h in
    let z : tail ≡ true = right_of (fits_blocks qs bs) tail y in
    let w : (fits_names (with_name b.name ns) && fits_number b.bound) ≡ true = right_of (fits_name b.name) _ z in
    let old : all_run fits_block bs ≡ true = left_true (all_run fits_block bs) _ (left_true (fits_blocks qs bs) tail y) in
    let new_ : fits_block b ≡ true = both (fits_name b.name) _ (left_true (fits_name b.name) _ z) (both (fits_number b.bound) _ (right_of (fits_names (with_name b.name ns)) _ w) (right_of (fits_head (head_of qs bs b.name b.less b.bound)) (fits_part b.part) x)) in
    both (fits_name n) _ (left_true (fits_name n) _ f) (both (fits_queries qs) _ (left_true (fits_queries qs) _ h)
    (both (all_run fits_block bs && fits_block b) _ (both (all_run fits_block bs) _ old new_) (both (ltb (count_run bs + 1) 3) _ e (left_true (fits_names (with_name b.name ns)) _ w))))

sign_step : (less : Bool) (n : List ℕ) (qs : Run Query) (bs : Run Block) (v : List ℕ) → step (AtSign n qs bs v) (sign_token less) ≡ Some (AtBound n qs bs v less)
sign_step true n qs bs v = refl
sign_step false n qs bs v = refl

no_sign : (n : List ℕ) (qs : Run Query) (bs : Run Block) (v : List ℕ) (k : Token) → has_sign (Some k) ≡ false → step (AtSign n qs bs v) k ≡ None
no_sign n qs bs v (Fixed mark.Less) e = absurd cc
no_sign n qs bs v (Fixed mark.AtLeast) e = absurd cc
no_sign n qs bs v _ e = refl

module _ (old t1 : Text Lexeme) (ns : List (List ℕ)) (is : is_fixed mark.Part (lead old) ≡ true) (eq : t1 ≡ after old) where
  to_when : AtBlock ns (λ n qs bs. Leads old (at_block n qs bs) t1 (AtWhen n qs bs))
  to_when n qs bs f k e = subst (λ (x : Text Lexeme). Leads old (at_block n qs bs) x (AtWhen n qs bs)) (sym eq)
      (goes old (after old) (Fixed mark.Part) (at_block n qs bs) (AtWhen n qs bs) (took_of old (Fixed mark.Part) (fixed_lead mark.Part (lead old) is)) (block_step n qs bs) ((λ x. refl), refl) (block_fits n qs bs f k))

  pub condition_no_when : (r : Stop) → (r ≡ refused_at t1) × (is_fixed mark.When (lead t1) ≡ false) → AtBlock ns (λ n qs bs. Fails old (at_block n qs bs) r)
  condition_no_when r f n qs bs a k e = fails_via r old t1 (at_block n qs bs) (AtWhen n qs bs) (to_when n qs bs a k e)
      (subst (λ (x : Stop). Fails t1 (AtWhen n qs bs) x) (sym f.0) (fails_expect mark.When t1 (AtWhen n qs bs) (AtCondition n qs bs) refl (λ y. refl) f.1))

  module _ (t2 : Text Lexeme) (w : Took t1 t2 (Fixed mark.When)) where
    to_condition : AtBlock ns (λ n qs bs. Leads old (at_block n qs bs) t2 (AtCondition n qs bs))
    to_condition n qs bs f k e = leads_then old t1 t2 (at_block n qs bs) (AtWhen n qs bs) (AtCondition n qs bs) (to_when n qs bs f k e)
        (goes_expect mark.When t1 t2 (AtWhen n qs bs) (AtCondition n qs bs) w refl ((λ x. refl), refl) (block_fits n qs bs f k))

    condition_fails : (there : Text Lexeme) (n : List ℕ) (qs : Run Query) (bs : Run Block) → names_blocks bs (names_queries qs) ≡ ns → has_variable ns there ≡ false → Fails there (AtCondition n qs bs) (name_fault there)
    condition_fails text.End n qs bs e f = λ x. refl
    condition_fails (text.Bad l) n qs bs e f = λ x. refl
    condition_fails (text.Then (lexeme.Fixed k) x c more) n qs bs e f = λ y. refl
    condition_fails (text.Then (lexeme.Number k) x c more) n qs bs e f = λ y. refl
    condition_fails (text.Then lexeme.Name x c more) n qs bs e f =
        exceeds (text.Then lexeme.Name x c more) more (Name x) (AtCondition n qs bs) (AtSign n qs bs x) (record { kind = lexeme.Name; bytes = x; behind = c; parts = refl; is = refl }) refl ((λ y. refl), refl)
        (not_right (fits_name n) _ (not_right (fits_queries qs) _ (not_right (fits_blocks qs bs) _ (subst (λ (y : List (List ℕ)). (is_name x && fits_names (with_name x y)) ≡ false) (sym e) f))))

    pub condition_no_name : (r : Stop) → Missed (name_fault t2) (has_variable ns t2) r → AtBlock ns (λ n qs bs. Fails old (at_block n qs bs) r)
    condition_no_name r m n qs bs a k e = fails_via r old t2 (at_block n qs bs) (AtCondition n qs bs) (to_condition n qs bs a k e) (missed r (name_fault t2) (has_variable ns t2) t2 (AtCondition n qs bs) m (condition_fails t2 n qs bs e))

    module _ (t3 : Text Lexeme) (ms : List (List ℕ)) (var : ℕ) (k : Knows t2 t3 ns ms var) where
      condition_fits : AtBlock ns (λ n qs bs. fits (AtSign n qs bs k.name) ≡ true)
      condition_fits n qs bs f l e =
          let here : List (List ℕ) = names_blocks bs (names_queries qs) in
          let a : (fits_name n && (fits_queries qs && fits_blocks qs bs)) ≡ true = block_fits n qs bs f l in
          let b : (fits_queries qs && fits_blocks qs bs) ≡ true = right_of (fits_name n) _ a in
          let x : with_name k.name here ≡ ms = ap (with_name k.name) e ∙ k.names in
          both (fits_name n) _ (left_true (fits_name n) _ a) (both (fits_queries qs) _ (left_true (fits_queries qs) _ b) (both (fits_blocks qs bs) _ (right_of (fits_queries qs) _ b)
          (both (fits_name k.name) _ k.fits (below (length (with_name k.name here)) 33 (omega (arith, ap length x, k.known))))))

      to_sign : AtBlock ns (λ n qs bs. Leads old (at_block n qs bs) t3 (AtSign n qs bs k.name))
      to_sign n qs bs f l e = leads_then old t2 t3 (at_block n qs bs) (AtCondition n qs bs) (AtSign n qs bs k.name) (to_condition n qs bs f l e)
          (goes t2 t3 (Name k.name) (AtCondition n qs bs) (AtSign n qs bs k.name) k.took refl ((λ x. refl), refl) (condition_fits n qs bs f l e))

      pub condition_no_sign : (r : Stop) → (r ≡ refused_at t3) × (has_sign (lead t3) ≡ false) → AtBlock ns (λ n qs bs. Fails old (at_block n qs bs) r)
      condition_no_sign r f n qs bs a l e = fails_via r old t3 (at_block n qs bs) (AtSign n qs bs k.name) (to_sign n qs bs a l e)
          (subst (λ (x : Stop). Fails t3 (AtSign n qs bs k.name) x) (sym f.0) (refuses t3 (AtSign n qs bs k.name) refl (λ t q. no_sign n qs bs k.name t (ap has_sign (sym q) ∙ f.1))))

      module _ (t4 : Text Lexeme) (less : Bool) (s : Took t3 t4 (sign_token less)) where
        to_bound : AtBlock ns (λ n qs bs. Leads old (at_block n qs bs) t4 (AtBound n qs bs k.name less))
        to_bound n qs bs f l e = leads_then old t3 t4 (at_block n qs bs) (AtSign n qs bs k.name) (AtBound n qs bs k.name less) (to_sign n qs bs f l e)
            (goes t3 t4 (sign_token less) (AtSign n qs bs k.name) (AtBound n qs bs k.name less) s (sign_step less n qs bs k.name) ((λ x. refl), refl) (condition_fits n qs bs f l e))

        bound_fails : (there : Text Lexeme) (n : List ℕ) (qs : Run Query) (bs : Run Block) → has_number there ≡ false → Fails there (AtBound n qs bs k.name less) (number_fault there)
        bound_fails text.End n qs bs f = λ x. refl
        bound_fails (text.Bad l) n qs bs f = λ x. refl
        bound_fails (text.Then (lexeme.Fixed m) x c more) n qs bs f = λ y. refl
        bound_fails (text.Then lexeme.Name x c more) n qs bs f = λ y. refl
        bound_fails (text.Then (lexeme.Number m) x c more) n qs bs f =
            exceeds (text.Then (lexeme.Number m) x c more) more (Number m) (AtBound n qs bs k.name less) (AtPart n (head_of qs bs k.name less m)) (record { kind = lexeme.Number m; bytes = x; behind = c; parts = refl; is = refl }) refl ((λ y. refl), refl)
            (not_right (fits_name n) _ (not_right (fits_queries qs) _ (not_right (fits_blocks qs bs) _ (not_right (fits_name k.name) _ (not_right (fits_names (with_name k.name (names_blocks bs (names_queries qs)))) _ f)))))

        pub condition_no_bound : (r : Stop) → (r ≡ number_fault t4) × (has_number t4 ≡ false) → AtBlock ns (λ n qs bs. Fails old (at_block n qs bs) r)
        condition_no_bound r f n qs bs a l e = fails_via r old t4 (at_block n qs bs) (AtBound n qs bs k.name less) (to_bound n qs bs a l e) (subst (λ (x : Stop). Fails t4 (AtBound n qs bs k.name less) x) (sym f.0) (bound_fails t4 n qs bs f.1))

        head_whole : (m : ℕ) → fits_number m ≡ true → AtBlock ns (λ n qs bs. fits (AtPart n (head_of qs bs k.name less m)) ≡ true)
        head_whole m x n qs bs f l e =
            let here : List (List ℕ) = names_blocks bs (names_queries qs) in
            let a : (fits_queries qs && (fits_blocks qs bs && (fits_name k.name && fits_names (with_name k.name here)))) ≡ true = right_of (fits_name n) _ (condition_fits n qs bs f l e) in
            let b : (fits_blocks qs bs && (fits_name k.name && fits_names (with_name k.name here))) ≡ true = right_of (fits_queries qs) _ a in
            let c : (fits_name k.name && fits_names (with_name k.name here)) ≡ true = right_of (fits_blocks qs bs) _ b in
            both (fits_name n) _ (left_true (fits_name n) _ (condition_fits n qs bs f l e)) (both (fits_queries qs) _ (left_true (fits_queries qs) _ a) (both (fits_blocks qs bs) _ (left_true (fits_blocks qs bs) _ b)
            (both (fits_name k.name) _ k.fits (both (fits_names (with_name k.name here)) _ (right_of (fits_name k.name) _ c) x))))

        pub condition_goes : (new : Text Lexeme) (m : ℕ) → Took t4 new (Number m) × (fits_number m ≡ true) → GoesCondition old new ns ms (record { var = var; less = less; bound = m })
        condition_goes new m t5 = record {
          name = k.name;
          is = λ more. number_stays t2 t3 ns ms var more k;
          names = k.names;
          known = k.known;
          fits = head_whole m t5.1;
          goes = λ n qs bs f l e. leads_then old t4 new (at_block n qs bs) (AtBound n qs bs k.name less) (AtPart n (head_of qs bs k.name less m)) (to_bound n qs bs f l e)
              (goes t4 new (Number m) (AtBound n qs bs k.name less) (AtPart n (head_of qs bs k.name less m)) t5.0 refl ((λ x. refl), refl) (head_whole m t5.1 n qs bs f l e));
        }

-- a part in its braces

finished_plain : (b : Before) (p : Part) → divides b ≡ false → Plain (finished b p)
finished_plain (BehindName n) p e = absurd cc
finished_plain (BehindHead n h) p e = ((λ x. refl), refl)
finished_plain (BehindBlocks n h q) p e = ((λ x. refl), refl)

finished_fits : (b : Before) (p : Part) → divides b ≡ false → fits (Tail b p) ≡ true → fits (finished b p) ≡ true
finished_fits (BehindName n) p e f = absurd cc
finished_fits (BehindHead n h) p e f = both (fits_name n) _ (left_true (fits_name n) _ (left_true (fits_name n && fits_head h) _ f)) (both (fits_head h) _ (right_of (fits_name n) (fits_head h) (left_true (fits_name n && fits_head h) _ f)) (right_of (fits_name n && fits_head h) _ f))
finished_fits (BehindBlocks n h q) p e f =
    let x : (fits_name n && (fits_head h && fits_part q)) ≡ true = left_true (fits_name n && (fits_head h && fits_part q)) _ f in
    let y : (fits_head h && fits_part q) ≡ true = right_of (fits_name n) _ x in
    both (fits_name n) _ (left_true (fits_name n) _ x) (both (fits_head h) _ (left_true (fits_head h) _ y) (both (fits_part q) _ (right_of (fits_head h) (fits_part q) y) (right_of (fits_name n && (fits_head h && fits_part q)) _ f)))

between_fits : (b : Before) → fits_before b ≡ true → fits (Between b Empty) ≡ true
between_fits b f = both (fits_before b) _ f refl

to_braced : (old mid : Text Lexeme) (s : Piece) (b : Before) → Took old mid (Fixed mark.BraceOpen) → ((t : Token) → step s t ≡ expect mark.BraceOpen (Between b Empty) t) → fits_before b ≡ true → Leads old s mid (Between b Empty)
to_braced old mid s b k e f = goes_expect mark.BraceOpen old mid s (Between b Empty) k (e (Fixed mark.BraceOpen)) ((λ x. refl), refl) (between_fits b f)

pub braced_no_open : (old : Text Lexeme) (r : Stop) → (r ≡ refused_at old) × (is_fixed mark.BraceOpen (lead old) ≡ false) → (s : Piece) (b : Before) → done s ≡ None → ((t : Token) → step s t ≡ expect mark.BraceOpen (Between b Empty) t) → divides b ≡ false → fits_before b ≡ true → Fails old s r
braced_no_open old r f s b d e x y = subst (λ (x : Stop). Fails old s x) (sym f.0) (fails_expect mark.BraceOpen old s (Between b Empty) d e f.1)

pub braced_lost : (old mid : Text Lexeme) (names : List (List ℕ)) (r : Stop) → Took old mid (Fixed mark.BraceOpen) → ReadsWhole mid mid names (Err r) → (s : Piece) (b : Before) → done s ≡ None → ((t : Token) → step s t ≡ expect mark.BraceOpen (Between b Empty) t) → divides b ≡ false → fits_before b ≡ true → Fails old s r
braced_lost old mid names r k f s b o e d x = fails_via r old mid s (Between b Empty) (to_braced old mid s b k e x) (f b d x)

pub braced_goes : (old mid left new : Text Lexeme) (part : parts.Part) → Took old mid (Fixed mark.BraceOpen) → GoesWhole mid left part → new ≡ after left → GoesBraced old new part
braced_goes old mid left new part k g eq = record {
  text = g.text;
  view = g.view;
  fits = g.fits;
  goes = λ s b e d f. leads_then old left new s (Tail b g.text) (finished b g.text)
      (leads_then old mid left s (Between b Empty) (Tail b g.text) (to_braced old mid s b k e f) (g.goes b d f))
      (subst (λ (x : Text Lexeme). Leads left (Tail b g.text) x (finished b g.text)) (sym eq)
      (goes left (after left) (Fixed mark.BraceClose) (Tail b g.text) (finished b g.text) (took_of left (Fixed mark.BraceClose) (fixed_lead mark.BraceClose (lead left) g.ends)) refl (finished_plain b g.text d) (finished_fits b g.text d (g.fits b f))));
}

-- conditions with their parts

pub start_blocks : (old : Text Lexeme) (ns : List (List ℕ)) (conds : List Cond) (ps : List parts.Part) → length ns ≤ 32 → conds ≡ [] → ps ≡ [] → GoesBlocks old old ns ns conds ps
start_blocks old ns conds ps known none empty = record {
  text = Empty;
  is = λ more. none;
  views = ap (map part_view) empty;
  names = refl;
  known = known;
  count = sym (ap length empty);
  few = omega (arith, ap length empty);
  same = λ e. refl;
  fits = λ n qs f e. f;
  goes = λ n qs f e earlier. refl;
}

module _ (old left : Text Lexeme) (ns ms : List (List ℕ)) (conds : List Cond) (ps : List parts.Part) (g : GoesBlocks old left ns ms conds ps) (is : is_fixed mark.Part (lead left) ≡ true) where
  pub full_blocks : (r : Stop) → r ≡ stop.TooBig (left_of left) → 3 ≤ length ps → AtHead ns (λ n qs. Fails old (Between (BehindName n) qs) r)
  full_blocks r e full n qs f q = fails_via r old left (Between (BehindName n) qs) (at_block n qs g.text) (g.goes n qs f q)
      (subst (λ (x : Stop). Fails left (at_block n qs g.text) x) (sym e)
      (exceeds left (after left) (Fixed mark.Part) (at_block n qs g.text) (AtWhen n qs g.text) (took_of left (Fixed mark.Part) (fixed_lead mark.Part (lead left) is)) (block_step n qs g.text) ((λ x. refl), refl)
      (not_right (fits_name n) _ (not_right (fits_queries qs) _ (not_right (all_run fits_block g.text) _ (not_left _ _ (above (count_run g.text) 3 (omega (arith, g.count)))))))))

  module _ (room : length ps < 3) where
    there : ltb (count_run g.text) 3 ≡ true
    there = below (count_run g.text) 3 (omega (arith, g.count))

    here : (qs : Run Query) → names_queries qs ≡ ns → names_blocks g.text (names_queries qs) ≡ ms
    here qs e = ap (names_blocks g.text) e ∙ g.names

    pub lost_condition : (r : Stop) → AtBlock ms (λ n qs bs. Fails left (at_block n qs bs) r) → AtHead ns (λ n qs. Fails old (Between (BehindName n) qs) r)
    lost_condition r h n qs f e = fails_via r old left (Between (BehindName n) qs) (at_block n qs g.text) (g.goes n qs f e) (h n qs g.text (g.fits n qs f e) there (here qs e))

    module _ (mid : Text Lexeme) (ls : List (List ℕ)) (c : Cond) (h : GoesCondition left mid ms ls c) where
      abbrev head_at : Run Query → Head
      head_at qs = head_of qs g.text h.name c.less c.bound

      to_part : AtHead ns (λ n qs. Leads old (Between (BehindName n) qs) mid (AtPart n (head_at qs)))
      to_part n qs f e = leads_then old left mid (Between (BehindName n) qs) (at_block n qs g.text) (AtPart n (head_at qs)) (g.goes n qs f e) (h.goes n qs g.text (g.fits n qs f e) there (here qs e))

      head_fits : AtHead ns (λ n qs. fits_before (BehindHead n (head_at qs)) ≡ true)
      head_fits n qs f e = h.fits n qs g.text (g.fits n qs f e) there (here qs e)

      pub lost_block : (r : Stop) → ((s : Piece) (b : Before) → done s ≡ None → ((t : Token) → step s t ≡ expect mark.BraceOpen (Between b Empty) t) → divides b ≡ false → fits_before b ≡ true → Fails mid s r) → AtHead ns (λ n qs. Fails old (Between (BehindName n) qs) r)
      lost_block r k n qs f e = fails_via r old mid (Between (BehindName n) qs) (AtPart n (head_at qs)) (to_part n qs f e) (k (AtPart n (head_at qs)) (BehindHead n (head_at qs)) refl (λ t. refl) refl (head_fits n qs f e))

      module _ (new : Text Lexeme) (part : parts.Part) (p : GoesBraced mid new part) where
        abbrev next : Block
        next = block_of h.name c.less c.bound p.text

        -- the names of all conditions so far are those before and perhaps one more
        conds_are : (all : List Cond) → all ≡ conds ++ (c ∷ []) → (more : List (List ℕ)) → all ≡ map (cond_of (ls ++ more)) (run_items (Then g.text next))
        conds_are all is more =
            let w = with_goes_on h.name ms in
            let names : ls ++ more ≡ ms ++ (w.more ++ more) = ap (λ (x : List (List ℕ)). x ++ more) (sym h.names ∙ w.is) ∙ append_assoc ms w.more more in
            let before : conds ≡ map (cond_of (ls ++ more)) (run_items g.text) = g.is (w.more ++ more) ∙ ap (λ (x : List (List ℕ)). map (cond_of x) (run_items g.text)) (sym names) in
            let last : c ≡ cond_of (ls ++ more) next = ap (λ (v : ℕ). let x : Cond = record { var = v; less = c.less; bound = c.bound } in x) (sym (h.is more)) in
            is ∙ ap₂ (λ (x : List Cond) (y : Cond). x ++ (y ∷ [])) before last ∙ sym (map-append (cond_of (ls ++ more)) (run_items g.text) (next ∷ []))

        views_are : (all : List parts.Part) → all ≡ ps ++ (part ∷ []) → map part_view all ≡ map (λ b. whole_part b.part) (run_items (Then g.text next))
        views_are all is =
            ap (map part_view) is ∙ map-append part_view ps (part ∷ [])
            ∙ ap₂ (λ (x : List declares.DeclaredPart) (y : declares.DeclaredPart). x ++ (y ∷ [])) g.views p.view ∙ sym (map-append (λ (b : Block). whole_part b.part) (run_items g.text) (next ∷ []))

        pub more_blocks : (all : List Cond) (every : List parts.Part) → all ≡ conds ++ (c ∷ []) → every ≡ ps ++ (part ∷ []) → GoesBlocks old new ns ls all every
        more_blocks all every is2 is3 = record {
          text = Then g.text next;
          is = conds_are all is2;
          views = views_are every is3;
          names = ap (with_name h.name) g.names ∙ h.names;
          known = h.known;
          count = omega (arith, g.count, ap length is3, length-append ps (part ∷ []));
          few = omega (arith, ap length is3, length-append ps (part ∷ []));
          same = λ e. absurd cc;
          fits = λ n qs f e. finished_fits (BehindHead n (head_at qs)) p.text refl (p.fits (BehindHead n (head_at qs)) (head_fits n qs f e));
          goes = λ n qs f e. leads_then old mid new (Between (BehindName n) qs) (AtPart n (head_at qs)) (AtRest n (head_at qs) p.text) (to_part n qs f e)
              (p.goes (AtPart n (head_at qs)) (BehindHead n (head_at qs)) (λ t. refl) refl (head_fits n qs f e));
        }

-- where the names before the blocks are these
pub blocks_lost : (old new : Text Lexeme) (ns before ms left : List (List ℕ)) (conds : List Cond) (r : Stop) → before ≡ ns → ReadsBlocks old new before ms left conds (Err r) → AtHead ns (λ n qs. Fails old (Between (BehindName n) qs) r)
blocks_lost old new ns before ms left conds r e h = subst (λ (x : List (List ℕ)). AtHead x (λ n qs. Fails old (Between (BehindName n) qs) r)) e h

pub blocks_read : (old new : Text Lexeme) (ns before ms left : List (List ℕ)) (conds : List Cond) (ps : List parts.Part) → before ≡ ns → ReadsBlocks old new before ms left conds (Ok ps) → ReadsBlocks old new ns ms left conds (Ok ps)
blocks_read old new ns before ms left conds ps e h = subst (λ (x : List (List ℕ)). ReadsBlocks old new x ms left conds (Ok ps)) e h

-- the part of the rest

no_rest : (n : List ℕ) (h : Head) (p : Part) (k : Token) → is_fixed mark.Rest (Some k) ≡ false → is_fixed mark.Part (Some k) ≡ false → step (AtRest n h p) k ≡ None
no_rest n h p (Fixed mark.Rest) x y = absurd cc
no_rest n h p (Fixed mark.Part) x y = absurd cc
no_rest n h p _ x y = refl

pub rest_no_word : (old : Text Lexeme) (r : Stop) → is_fixed mark.Part (lead old) ≡ false → (r ≡ refused_at old) × (is_fixed mark.Rest (lead old) ≡ false) → AtRests (λ n h p. Fails old (AtRest n h p) r)
rest_no_word old r l f n h p e = subst (λ (x : Stop). Fails old (AtRest n h p) x) (sym f.0)
    (refuses old (AtRest n h p) refl (λ k q. no_rest n h p k (ap (is_fixed mark.Rest) (sym q) ∙ f.1) (ap (is_fixed mark.Part) (sym q) ∙ l)))

module _ (old mid : Text Lexeme) (k : Took old mid (Fixed mark.Rest)) where
  to_last : AtRests (λ n h p. Leads old (AtRest n h p) mid (AtLast n h p))
  to_last n h p f = goes old mid (Fixed mark.Rest) (AtRest n h p) (AtLast n h p) k refl ((λ x. refl), refl) f

  pub rest_lost : (r : Stop) → ((s : Piece) (b : Before) → done s ≡ None → ((t : Token) → step s t ≡ expect mark.BraceOpen (Between b Empty) t) → divides b ≡ false → fits_before b ≡ true → Fails mid s r) → AtRests (λ n h p. Fails old (AtRest n h p) r)
  rest_lost r f n h p e = fails_via r old mid (AtRest n h p) (AtLast n h p) (to_last n h p e) (f (AtLast n h p) (BehindBlocks n h p) refl (λ t. refl) refl e)

  module _ (new : Text Lexeme) (part : parts.Part) (q : GoesBraced mid new part) where
    to_end : AtRests (λ n h p. Leads old (AtRest n h p) new (AtEnd n h p q.text))
    to_end n h p e = leads_then old mid new (AtRest n h p) (AtLast n h p) (AtEnd n h p q.text) (to_last n h p e) (q.goes (AtLast n h p) (BehindBlocks n h p) (λ t. refl) refl e)

    pub rest_unclosed : (r : Stop) → r ≡ refused_at new → is_fixed mark.BraceClose (lead new) ≡ false → AtRests (λ n h p. Fails old (AtRest n h p) r)
    rest_unclosed r is x n h p e = fails_via r old new (AtRest n h p) (AtEnd n h p q.text) (to_end n h p e)
        (subst (λ (y : Stop). Fails new (AtEnd n h p q.text) y) (sym is) (fails_expect mark.BraceClose new (AtEnd n h p q.text) (Done (record { name = n; body = Split h p q.text })) refl (λ y. refl) x))

    pub rest_goes : is_fixed mark.BraceClose (lead new) ≡ true → GoesRest old new part
    rest_goes x = record {
      text = q.text;
      view = q.view;
      ends = x;
      fits = λ n h p e. finished_fits (BehindBlocks n h p) q.text refl (q.fits (BehindBlocks n h p) e);
      goes = to_end;
    }

-- a divided body, behind the queries of its head

-- the last of some blocks
record HasLast (bs : Run Block) : Type 0 where
  before : Run Block
  last : Block
  are : bs ≡ Then before last

has_last : (bs : Run Block) → (bs ≡ Empty → ⊥) → HasLast bs
has_last Empty some = absurd (some refl)
has_last (Then bs b) some = record { before = bs; last = b; are = refl }

not_both : (b : Bool) → b ≡ true → b ≡ false → ⊥
not_both true e f = cc
not_both false e f = cc

module _ (old t1 : Text Lexeme) (ns ms : List (List ℕ)) (queries : List asked.Query) (conds : List Cond) (ps : List parts.Part) (is : is_fixed mark.Part (lead old) ≡ true) (g : GoesBlocks old t1 ns ms conds ps) (ended_ : is_fixed mark.Part (lead t1) ≡ false) where
  blocks_there : HasLast g.text
  blocks_there = has_last g.text (λ e. not_both (is_fixed mark.Part (lead old)) is (ap (λ (x : Text Lexeme). is_fixed mark.Part (lead x)) (sym (g.same e)) ∙ ended_))

  abbrev here_head : Run Query → Head
  here_head qs = head_of qs blocks_there.before blocks_there.last.name blocks_there.last.less blocks_there.last.bound

  to_rest : AtHead ns (λ n qs. Leads old (Between (BehindName n) qs) t1 (AtRest n (here_head qs) blocks_there.last.part))
  to_rest n qs f e = subst (λ (x : Run Block). Leads old (Between (BehindName n) qs) t1 (at_block n qs x)) blocks_there.are (g.goes n qs f e)

  rest_fits : AtHead ns (λ n qs. fits (AtRest n (here_head qs) blocks_there.last.part) ≡ true)
  rest_fits n qs f e = subst (λ (x : Run Block). fits (at_block n qs x) ≡ true) blocks_there.are (g.fits n qs f e)

  pub divided_no_rest : (r : Stop) → AtRests (λ n h p. Fails t1 (AtRest n h p) r) → AtHead ns (λ n qs. Fails old (Between (BehindName n) qs) r)
  divided_no_rest r h n qs f e = fails_via r old t1 (Between (BehindName n) qs) (AtRest n (here_head qs) blocks_there.last.part) (to_rest n qs f e) (h n (here_head qs) blocks_there.last.part (rest_fits n qs f e))

  module _ (new : Text Lexeme) (rest : parts.Part) (q : GoesRest t1 new rest) where
    head_is : (qs : Run Query) → names_queries qs ≡ ns → map query_view queries ≡ map (query_of ms) (run_items qs)
        → (let r : declares.DeclaredHead = record { names = ms; queries = map query_view queries; conds = conds } in r) ≡ declares.head_of (names_head (here_head qs)) qs (blocks_of (here_head qs) blocks_there.last.part)
    head_is qs n e =
        let all : List (List ℕ) = names_head (here_head qs) in
        let names : all ≡ ms = ap (λ (x : Run Block). names_blocks x (names_queries qs)) (sym blocks_there.are) ∙ ap (names_blocks g.text) n ∙ g.names in
        let cs : conds ≡ map (cond_of ms) (run_items (blocks_of (here_head qs) blocks_there.last.part)) =
        g.is [] ∙ ap (λ (x : List (List ℕ)). map (cond_of x) (run_items g.text)) (append-nil ms) ∙ ap (λ (x : Run Block). map (cond_of ms) (run_items x)) blocks_there.are in
        ap₂ (λ (x : List declares.Query) (y : List Cond). let r : declares.DeclaredHead = record { names = ms; queries = x; conds = y } in r) e cs
        ∙ ap (λ (x : List (List ℕ)). declares.head_of x qs (blocks_of (here_head qs) blocks_there.last.part)) (sym names)

    parts_are : (every : List parts.Part) (qs : Run Query) → every ≡ ps ++ (rest ∷ []) → map part_view every ≡ declares.parts_of (blocks_of (here_head qs) blocks_there.last.part) q.text
    parts_are every qs e =
        ap (map part_view) e ∙ map-append part_view ps (rest ∷ [])
        ∙ ap₂ (λ (x : List declares.DeclaredPart) (y : declares.DeclaredPart). x ++ (y ∷ [])) (g.views ∙ ap (λ (x : Run Block). map (λ b. whole_part b.part) (run_items x)) blocks_there.are) q.view

    pub divided_goes : (every : List parts.Part) (head : heads.Head) → every ≡ ps ++ (rest ∷ []) → head.names ≡ ms → head.queries ≡ queries → head.conds ≡ conds → GoesDivided old new ns queries (kinds.Split head every)
    divided_goes every head e1 e2 e3 e4 = record {
      text = λ qs. Split (here_head qs) blocks_there.last.part q.text;
      more = more_names.0;
      view = λ qs n e.
          let v : map query_view queries ≡ map (query_of ms) (run_items qs) = e ∙ ap (λ (x : List (List ℕ)). map (query_of x) (run_items qs)) (sym more_names.1) in
          let h : head_view head ≡ (let r : declares.DeclaredHead = record { names = ms; queries = map query_view queries; conds = conds } in r) = same_head head e2 e3 e4 in
          ap₂ declares.Divided (h ∙ head_is qs n v) (parts_are every qs e1);
      ends = q.ends;
      fits = λ n qs f e. q.fits n (here_head qs) blocks_there.last.part (rest_fits n qs f e);
      goes = λ n qs f e. leads_then old t1 new (Between (BehindName n) qs) (AtRest n (here_head qs) blocks_there.last.part) (AtEnd n (here_head qs) blocks_there.last.part q.text) (to_rest n qs f e)
          (q.goes n (here_head qs) blocks_there.last.part (rest_fits n qs f e));
    }
      where
        same_head : (head : heads.Head) → head.names ≡ ms → head.queries ≡ queries → head.conds ≡ conds → head_view head ≡ (let r : declares.DeclaredHead = record { names = ms; queries = map query_view queries; conds = conds } in r)
        same_head head a b c =
            ap (λ (y : List (List ℕ)). let r : declares.DeclaredHead = record { names = y; queries = map query_view head.queries; conds = head.conds } in r) a
            ∙ ap (λ (y : List asked.Query). let r : declares.DeclaredHead = record { names = ms; queries = map query_view y; conds = head.conds } in r) b
            ∙ ap (λ (y : List Cond). let r : declares.DeclaredHead = record { names = ms; queries = map query_view queries; conds = y } in r) c

        blocks_more : (bs : Run Block) → GoesOn ns (names_blocks bs ns)
        blocks_more Empty = goes_on_self ns
        blocks_more (Then bs b) = goes_on_trans ns (names_blocks bs ns) (with_name b.name (names_blocks bs ns)) (blocks_more bs) (with_goes_on b.name (names_blocks bs ns))

        more_names : (more : List (List ℕ)) × (ms ≡ ns ++ more)
        more_names = let w = blocks_more g.text in (w.more, sym g.names ∙ w.is)

-- a body

pub body_divided : (old left new : Text Lexeme) (ms : List (List ℕ)) (queries : List asked.Query) (r : Result bodies.Body Stop) → GoesQueries old left ms queries → ReadsDivided left new ms queries r → ReadsBody old new r
body_divided old left new ms queries (Ok body) g h = record {
  text = h.text g.text;
  view = h.view g.text g.names (g.is h.more);
  ends = h.ends;
  fits = λ n f. h.fits n g.text (queries_front old left ms queries g (BehindName n) f) g.names;
  goes = λ n f. leads_then old left new (Between (BehindName n) Empty) (Between (BehindName n) g.text) (before_end n (h.text g.text)) (g.goes (BehindName n) f) (h.goes n g.text (queries_front old left ms queries g (BehindName n) f) g.names);
}
body_divided old left new ms queries (Err r) g h = λ n f. fails_via r old left (Between (BehindName n) Empty) (Between (BehindName n) g.text) (g.goes (BehindName n) f) (h n g.text (queries_front old left ms queries g (BehindName n) f) g.names)

pub body_whole : (old left new : Text Lexeme) (ms : List (List ℕ)) (queries : List asked.Query) (part : parts.Part) → GoesQueries old left ms queries → is_fixed mark.Part (lead left) ≡ false → GoesPart left new ms queries part → GoesBody old new (kinds.One part)
body_whole old left new ms queries part g e h =
    let names : names_part (h.text g.text) ≡ part.names = h.names g.text g.names in
    let view : part_view part ≡ declares.part_of part.names (h.text g.text) = h.view g.text (g.is h.more ∙ ap (λ (x : List (List ℕ)). map (query_of x) (run_items g.text)) (sym h.goes_on)) in record {
      text = Whole (h.text g.text);
      view = ap declares.Undivided (view ∙ ap (λ (x : List (List ℕ)). declares.part_of x (h.text g.text)) (sym names));
      ends = h.ends;
      fits = λ n f. h.fits (BehindName n) g.text (queries_front old left ms queries g (BehindName n) f) g.names;
      goes = λ n f. leads_then old left new (Between (BehindName n) Empty) (Between (BehindName n) g.text) (Tail (BehindName n) (h.text g.text)) (g.goes (BehindName n) f) (h.goes (BehindName n) g.text (queries_front old left ms queries g (BehindName n) f) g.names e);
    }

pub body_lost : (old left : Text Lexeme) (ms names : List (List ℕ)) (queries : List asked.Query) (r : Stop) → GoesQueries old left ms queries → is_fixed mark.Part (lead left) ≡ false → ReadsPart left left ms names queries (Err r) → ReadsBody old old (Err r)
body_lost old left ms names queries r g e h = λ n f. fails_via r old left (Between (BehindName n) Empty) (Between (BehindName n) g.text) (g.goes (BehindName n) f) (h (BehindName n) g.text (queries_front old left ms queries g (BehindName n) f) g.names e)
