-- One more token makes of a piece one that spells this token more.
use Rattle.std.proofs.Common.{◌≡◌, ℕ, zero, suc, List, [], ◌∷◌, ◌++◌, Option, Some, None, Bool, true, false, cond, refl, sym, ap, ◌∙◌, append_assoc}
use Rattle.std.proofs.lemmas.List.{append-nil}
use Rattle.std.specs.Prelude.{IfSome}
use denote.Enum.Bare.{same_true}
use Rattle.us_decl.specs.contracts.mark.Mark.{the_type}
use Rattle.us_decl.specs.Token.{Token, Fixed, Name, Number, same}
use Rattle.us_decl.specs.declared.mark.Mark.{Mark}
use Rattle.us_decl.specs.declared.mark.Mark.TheVariants as mark
use Rattle.us_decl.specs.declared.column.Column.{Column}
use Rattle.us_decl.specs.Grammar.{Comma, Run, Empty, Then, Expr, Term, Query, Lanes, Part, Block, Head, Split, alone, expr_tokens, term_tokens, comma_tokens, queries_tokens, map_tokens, number_tokens, numbers_tokens, braced, condition_tokens, blocks_tokens}
use Rattle.us_parse.specs.Piece.{Before, BehindName, BehindHead, BehindBlocks, OneVariable, TwoVariables, Use, Argument, Mapped, Hole, Begin, AfterPlus, AfterMinus, Piece, AtFormat, AtName, AtBrace, Between, AtVariable, AfterVariable, AtWord, AtSlot, AtEqual, AtSchedule, AtArgument, Operand, Divisor, After, AtInto, AtLanes, AtMap, AtLevels, Tail, AtTrim, AtMerge, AtPack, AtColumn, AfterColumn, AtWhen, AtCondition, AtSign, AtBound, AtPart, AtRest, AtLast, AtEnd, Done, hole_tokens, so_far, before_tokens, named, front, spelled, expect, a_name, a_number, one_more, between, after_variable, a_word, filled, operand, divisor, closed, parted, after, at_levels, finished, more_numbers, a_trim, a_merge, tail, trimmed, merged, a_column, after_column, a_sign, head_of, at_rest, step}

-- the next piece spells one token more
abbrev pub Adds : Piece → Token → Option Piece → Type 0
Adds s t o = IfSome o (λ u. spelled u ≡ spelled s ++ alone t)

pub same_is : (m k : Mark) → same m k ≡ true → m ≡ k
same_is m k e = same_true the_type tt m k e

expected : (m k : Mark) (s u : Piece) (b : Bool) → same k m ≡ b → spelled u ≡ spelled s ++ alone (Fixed m) → Adds s (Fixed k) (cond b (Some u) None)
expected m k s u true e is = is ∙ ap (λ (x : Mark). spelled s ++ alone (Fixed x)) (sym (same_is k m e))
expected m k s u false e is = tt

adds_expect : (m : Mark) (s u : Piece) (t : Token) → spelled u ≡ spelled s ++ alone (Fixed m) → Adds s t (expect m u t)
adds_expect m s u (Fixed k) is = expected m k s u (same k m) refl is
adds_expect m s u (Name w) is = tt
adds_expect m s u (Number n) is = tt

adds_name : (f : List ℕ → Piece) (s : Piece) (t : Token) → ((w : List ℕ) → spelled (f w) ≡ spelled s ++ alone (Name w)) → Adds s t (a_name f t)
adds_name f s (Name w) is = is w
adds_name f s (Fixed k) is = tt
adds_name f s (Number n) is = tt

adds_number : (f : ℕ → Piece) (s : Piece) (t : Token) → ((k : ℕ) → spelled (f k) ≡ spelled s ++ alone (Number k)) → Adds s t (a_number f t)
adds_number f s (Number k) is = is k
adds_number f s (Fixed k) is = tt
adds_number f s (Name w) is = tt

filled_is : (h : Hole) (t : Term) → expr_tokens (filled h t) ≡ hole_tokens h ++ term_tokens t
filled_is Begin t = refl
filled_is (AfterPlus e) t = simp append_assoc
filled_is (AfterMinus e) t = simp append_assoc

more_is : {A : Type 0} (f : A → List Token) (xs : Option (Comma A)) (x : A) → comma_tokens f (one_more xs x) ≡ so_far f xs ++ f x
more_is f None x = refl
more_is f (Some xs) x = simp append_assoc

adds_between : (b : Before) (qs : Run Query) (t : Token) → Adds (Between b qs) t (between b qs t)
adds_between b qs (Fixed mark.Let) = refl
adds_between b qs (Fixed mark.Map) = refl
adds_between (BehindName n) qs (Fixed mark.Part) = simp append_assoc
adds_between (BehindHead n h) qs (Fixed mark.Part) = tt
adds_between (BehindBlocks n h p) qs (Fixed mark.Part) = tt
adds_between b qs _ = tt

adds_after_variable : (b : Before) (qs : Run Query) (v : List ℕ) (t : Token) → Adds (AfterVariable b qs v) t (after_variable b qs v t)
adds_after_variable b qs v (Fixed mark.Equal) = simp append_assoc
adds_after_variable b qs v (Fixed mark.Comma) = simp append_assoc
adds_after_variable b qs v _ = tt

adds_word : (b : Before) (qs : Run Query) (v : List ℕ) (t : Token) → Adds (AtWord b qs v) t (a_word b qs v t)
adds_word b qs v (Fixed mark.Sum) = simp append_assoc
adds_word b qs v (Fixed mark.Enumerate) = simp append_assoc
adds_word b qs v (Fixed mark.Reorder) = simp append_assoc
adds_word b qs v _ = tt

adds_operand : (u : Use) (h : Hole) (os : List Hole) (t : Token) → Adds (Operand u h os) t (operand u h os t)
adds_operand u h os (Fixed mark.I) = refl
adds_operand u h os (Fixed mark.J) = refl
adds_operand u h os (Fixed mark.Open) = simp append_assoc
adds_operand u h os (Name w) = refl
adds_operand u h os (Number n) = refl
adds_operand u h os _ = tt

adds_divisor : (over : Bool) (u : Use) (h : Hole) (r : Term) (os : List Hole) (t : Token) → Adds (Divisor over u h r os) t (divisor over u h r os t)
adds_divisor true u h r os (Number zero) = tt
adds_divisor true u h r os (Number (suc k)) = simp append_assoc
adds_divisor true u h r os (Fixed m) = tt
adds_divisor true u h r os (Name w) = tt
adds_divisor false u h r os (Number zero) = tt
adds_divisor false u h r os (Number (suc k)) = simp append_assoc
adds_divisor false u h r os (Fixed m) = tt
adds_divisor false u h r os (Name w) = tt

-- how the lists of tokens regroup
levels_close : (b q s h r c : List Token) (m o : Token) → b ++ (q ++ (m ∷ o ∷ (((s ++ (h ++ r)) ++ c) ++ []))) ≡ ((((b ++ q) ++ (m ∷ o ∷ s)) ++ h) ++ r) ++ c
levels_close b q s h r c m o = simp (append_assoc, append-nil)

levels_comma : (b q s h r c : List Token) (m o : Token) → ((b ++ q) ++ (m ∷ o ∷ ((s ++ (h ++ r)) ++ c))) ++ [] ≡ ((((b ++ q) ++ (m ∷ o ∷ s)) ++ h) ++ r) ++ c
levels_comma b q s h r c m o = simp (append_assoc, append-nil)

numbers_comma : (b q m k c : List Token) (t : Token) → (b ++ q) ++ (m ++ (t ∷ (k ++ c))) ≡ (b ++ (q ++ (m ++ ((t ∷ k) ++ [])))) ++ c
numbers_comma b q m k c t = simp (append_assoc, append-nil)

trim_number : (b q m s n : List Token) (t : Token) → b ++ (q ++ (m ++ ((t ∷ (s ++ n)) ++ []))) ≡ ((b ++ q) ++ (m ++ (t ∷ s))) ++ n
trim_number b q m s n t = simp (append_assoc, append-nil)

merge_number : (b q m k s n : List Token) (t : Token) → b ++ (q ++ (m ++ (k ++ ((t ∷ (s ++ n)) ++ [])))) ≡ ((b ++ q) ++ (m ++ (k ++ (t ∷ s)))) ++ n
merge_number b q m k s n t = simp (append_assoc, append-nil)

adds_close : (u : Use) (h : Hole) (r : Term) (os : List Hole) → spelled (closed u (filled h r) os) ≡ spelled (After u h r os) ++ alone (Fixed mark.Close)
adds_close (Argument b qs (OneVariable q v)) h r [] = simp (filled_is, append_assoc)
adds_close (Argument b qs (TwoVariables v w)) h r [] = simp (filled_is, append_assoc)
adds_close (Mapped b qs ls) h r [] =
    ap (λ (x : List Token). before_tokens b ++ (queries_tokens qs ++ (Fixed mark.Map ∷ Fixed mark.Open ∷ ((x ++ alone (Fixed mark.Close)) ++ [])))) (more_is expr_tokens ls (filled h r) ∙ ap (λ (x : List Token). so_far expr_tokens ls ++ x) (filled_is h r))
    ∙ levels_close (before_tokens b) (queries_tokens qs) (so_far expr_tokens ls) (hole_tokens h) (term_tokens r) (alone (Fixed mark.Close)) (Fixed mark.Map) (Fixed mark.Open)
adds_close u h r (g ∷ os) = simp (filled_is, append_assoc)

adds_comma : (u : Use) (h : Hole) (r : Term) (os : List Hole) → Adds (After u h r os) (Fixed mark.Comma) (parted u (filled h r) os)
adds_comma (Mapped b qs ls) h r [] =
    ap (λ (x : List Token). (front b qs ++ (Fixed mark.Map ∷ Fixed mark.Open ∷ (x ++ alone (Fixed mark.Comma)))) ++ []) (more_is expr_tokens ls (filled h r) ∙ ap (λ (x : List Token). so_far expr_tokens ls ++ x) (filled_is h r))
    ∙ levels_comma (before_tokens b) (queries_tokens qs) (so_far expr_tokens ls) (hole_tokens h) (term_tokens r) (alone (Fixed mark.Comma)) (Fixed mark.Map) (Fixed mark.Open)
adds_comma (Mapped b qs ls) h r (g ∷ os) = tt
adds_comma (Argument b qs q) h r os = tt

adds_after : (u : Use) (h : Hole) (r : Term) (os : List Hole) (t : Token) → Adds (After u h r os) t (after u h r os t)
adds_after u h r os (Fixed mark.Plus) = simp (filled_is, append_assoc)
adds_after u h r os (Fixed mark.Minus) = simp (filled_is, append_assoc)
adds_after u h r os (Fixed mark.Slash) = simp append_assoc
adds_after u h r os (Fixed mark.Percent) = simp append_assoc
adds_after u h r os (Fixed mark.Close) = adds_close u h r os
adds_after u h r os (Fixed mark.Comma) = adds_comma u h r os
adds_after u h r os _ = tt

adds_levels : (b : Before) (qs : Run Query) (t : Token) → Adds (AtLevels b qs) t (at_levels b qs t)
adds_levels b qs (Fixed mark.Close) = simp (append_assoc, append-nil)
adds_levels b qs (Fixed mark.I) = simp (append_assoc, append-nil)
adds_levels b qs (Fixed mark.J) = simp (append_assoc, append-nil)
adds_levels b qs (Fixed mark.Open) = simp (append_assoc, append-nil)
adds_levels b qs (Name w) = simp (append_assoc, append-nil)
adds_levels b qs (Number n) = simp (append_assoc, append-nil)
adds_levels b qs _ = tt

adds_numbers : (b : Before) (qs : Run Query) (ls : Option (Comma Expr)) (cut me : Option (Comma ℕ)) (ps : Run (Comma Column)) → Adds (Tail b (record { queries = qs; levels = ls; trim = cut; merge = me; packs = ps })) (Fixed mark.Comma) (more_numbers b qs ls cut me ps)
adds_numbers b qs ls cut (Some ks) Empty = simp (append_assoc, append-nil)
adds_numbers b qs ls (Some ks) None Empty = numbers_comma (before_tokens b) (queries_tokens qs) (map_tokens ls) (comma_tokens number_tokens ks) (alone (Fixed mark.Comma)) (Fixed mark.Trim)
adds_numbers b qs ls None None Empty = tt
adds_numbers b qs ls None None (Then ps p) = tt
adds_numbers b qs ls None (Some ks) (Then ps p) = tt
adds_numbers b qs ls (Some js) None (Then ps p) = tt
adds_numbers b qs ls (Some js) (Some ks) (Then ps p) = tt

adds_trim : (b : Before) (qs : Run Query) (ls : Option (Comma Expr)) (cut me : Option (Comma ℕ)) (ps : Run (Comma Column)) → Adds (Tail b (record { queries = qs; levels = ls; trim = cut; merge = me; packs = ps })) (Fixed mark.Trim) (a_trim b qs ls cut me ps)
adds_trim b qs ls None None Empty = simp (append_assoc, append-nil)
adds_trim b qs ls (Some ks) me ps = tt
adds_trim b qs ls None (Some ks) ps = tt
adds_trim b qs ls None None (Then ps p) = tt

adds_merge : (b : Before) (qs : Run Query) (ls : Option (Comma Expr)) (cut me : Option (Comma ℕ)) (ps : Run (Comma Column)) → Adds (Tail b (record { queries = qs; levels = ls; trim = cut; merge = me; packs = ps })) (Fixed mark.Merge) (a_merge b qs ls cut me ps)
adds_merge b qs ls cut None Empty = simp (append_assoc, append-nil)
adds_merge b qs ls cut (Some ks) ps = tt
adds_merge b qs ls cut None (Then ps p) = tt

adds_brace : (b : Before) (p : Part) → spelled (finished b p) ≡ spelled (Tail b p) ++ alone (Fixed mark.BraceClose)
adds_brace (BehindName n) p = simp append_assoc
adds_brace (BehindHead n h) p = simp append_assoc
adds_brace (BehindBlocks n h q) p = simp append_assoc

adds_tail : (b : Before) (p : Part) (t : Token) → Adds (Tail b p) t (tail b p t)
adds_tail b p (Fixed mark.Comma) = adds_numbers b p.queries p.levels p.trim p.merge p.packs
adds_tail b p (Fixed mark.Trim) = adds_trim b p.queries p.levels p.trim p.merge p.packs
adds_tail b p (Fixed mark.Merge) = adds_merge b p.queries p.levels p.trim p.merge p.packs
adds_tail b p (Fixed mark.Pack) = simp append_assoc
adds_tail b p (Fixed mark.BraceClose) = adds_brace b p
adds_tail b p _ = tt

adds_column : (b : Before) (p : Part) (cs : Option (Comma Column)) (t : Token) → Adds (AtColumn b p cs) t (a_column b p cs t)
adds_column b p cs (Fixed mark.Val) = simp (more_is, append_assoc)
adds_column b p cs (Number k) = simp (more_is, append_assoc)
adds_column b p cs _ = tt

adds_after_column : (b : Before) (p : Part) (cs : Comma Column) (t : Token) → Adds (AfterColumn b p cs) t (after_column b p cs t)
adds_after_column b p cs (Fixed mark.Comma) = simp append_assoc
adds_after_column b p cs (Fixed mark.Close) = simp append_assoc
adds_after_column b p cs _ = tt

adds_sign : (n : List ℕ) (qs : Run Query) (bs : Run Block) (v : List ℕ) (t : Token) → Adds (AtSign n qs bs v) t (a_sign n qs bs v t)
adds_sign n qs bs v (Fixed mark.Less) = simp append_assoc
adds_sign n qs bs v (Fixed mark.AtLeast) = simp append_assoc
adds_sign n qs bs v _ = tt

next_block : (n q b c r t : List Token) → n ++ (q ++ ((b ++ (c ++ r)) ++ t)) ≡ (n ++ ((q ++ (b ++ c)) ++ r)) ++ t
next_block n q b c r t = simp append_assoc

adds_rest : (n : List ℕ) (h : Head) (p : Part) (t : Token) → Adds (AtRest n h p) t (at_rest n h p t)
adds_rest n h p (Fixed mark.Rest) = simp append_assoc
adds_rest n h p (Fixed mark.Part) = next_block (named n) (queries_tokens h.queries) (blocks_tokens h.blocks) (condition_tokens h.name h.less h.bound) (braced p) (alone (Fixed mark.Part))
adds_rest n h p _ = tt

pub adds : (s : Piece) (t : Token) → Adds s t (step s t)
adds AtFormat t = adds_expect mark.Format AtFormat AtName t refl
adds AtName t = adds_name AtBrace AtName t (λ w. refl)
adds (AtBrace n) t = adds_expect mark.BraceOpen (AtBrace n) (Between (BehindName n) Empty) t refl
adds (Between b qs) t = adds_between b qs t
adds (AtVariable b qs) t = adds_name (AfterVariable b qs) (AtVariable b qs) t (λ w. simp append_assoc)
adds (AfterVariable b qs v) t = adds_after_variable b qs v t
adds (AtWord b qs v) t = adds_word b qs v t
adds (AtSlot b qs v) t = adds_name (AtEqual b qs v) (AtSlot b qs v) t (λ w. simp append_assoc)
adds (AtEqual b qs v w) t = adds_expect mark.Equal (AtEqual b qs v w) (AtSchedule b qs v w) t (simp append_assoc)
adds (AtSchedule b qs v w) t = adds_expect mark.Schedule (AtSchedule b qs v w) (AtArgument b qs (TwoVariables v w)) t (simp append_assoc)
adds (AtArgument b qs q) t = adds_expect mark.Open (AtArgument b qs q) (Operand (Argument b qs q) Begin []) t (simp (append_assoc, append-nil))
adds (Operand u h os) t = adds_operand u h os t
adds (Divisor over u h r os) t = adds_divisor over u h r os t
adds (After u h r os) t = adds_after u h r os t
adds (AtInto b qs v w e) t = adds_expect mark.Into (AtInto b qs v w e) (AtLanes b qs v w e) t (simp append_assoc)
adds (AtLanes b qs v w e) t = adds_number (λ k. Between b (Then qs (Lanes v w e k))) (AtLanes b qs v w e) t (λ k. simp append_assoc)
adds (AtMap b qs) t = adds_expect mark.Open (AtMap b qs) (AtLevels b qs) t (simp append_assoc)
adds (AtLevels b qs) t = adds_levels b qs t
adds (Tail b p) t = adds_tail b p t
adds (AtTrim b qs ls ks) t = adds_number (λ k. Tail b (trimmed qs ls (one_more ks k))) (AtTrim b qs ls ks) t (λ k. ap (λ (x : List Token). before_tokens b ++ (queries_tokens qs ++ (map_tokens ls ++ ((Fixed mark.Trim ∷ x) ++ [])))) (more_is number_tokens ks k) ∙ trim_number (before_tokens b) (queries_tokens qs) (map_tokens ls) (so_far number_tokens ks) (alone (Number k)) (Fixed mark.Trim))
adds (AtMerge b qs ls cut ks) t = adds_number (λ k. Tail b (merged qs ls cut (one_more ks k))) (AtMerge b qs ls cut ks) t (λ k. ap (λ (x : List Token). before_tokens b ++ (queries_tokens qs ++ (map_tokens ls ++ (numbers_tokens (Fixed mark.Trim) cut ++ ((Fixed mark.Merge ∷ x) ++ []))))) (more_is number_tokens ks k) ∙ merge_number (before_tokens b) (queries_tokens qs) (map_tokens ls) (numbers_tokens (Fixed mark.Trim) cut) (so_far number_tokens ks) (alone (Number k)) (Fixed mark.Merge))
adds (AtPack b p) t = adds_expect mark.Open (AtPack b p) (AtColumn b p None) t (simp append_assoc)
adds (AtColumn b p cs) t = adds_column b p cs t
adds (AfterColumn b p cs) t = adds_after_column b p cs t
adds (AtWhen n qs bs) t = adds_expect mark.When (AtWhen n qs bs) (AtCondition n qs bs) t (simp append_assoc)
adds (AtCondition n qs bs) t = adds_name (AtSign n qs bs) (AtCondition n qs bs) t (λ w. simp append_assoc)
adds (AtSign n qs bs v) t = adds_sign n qs bs v t
adds (AtBound n qs bs v less) t = adds_number (λ k. AtPart n (head_of qs bs v less k)) (AtBound n qs bs v less) t (λ k. simp append_assoc)
adds (AtPart n h) t = adds_expect mark.BraceOpen (AtPart n h) (Between (BehindHead n h) Empty) t (simp (append_assoc, append-nil))
adds (AtRest n h p) t = adds_rest n h p t
adds (AtLast n h p) t = adds_expect mark.BraceOpen (AtLast n h p) (Between (BehindBlocks n h p) Empty) t (simp (append_assoc, append-nil))
adds (AtEnd n h p q) t = adds_expect mark.BraceClose (AtEnd n h p q) (Done (record { name = n; body = Split h p q })) t (simp append_assoc)
adds (Done d) t = tt
