-- Each piece can be finished: some tokens lead from it to a whole declaration.
use Rattle.std.proofs.Common.{◌≡◌, ℕ, List, [], ◌∷◌, Option, Some, None, Bool, true, refl, ap, ◌∙◌}
use Rattle.us_decl.specs.Token.{Token, Fixed, Name, Number}
use Rattle.us_decl.specs.declared.mark.Mark.TheVariants as mark
use Rattle.us_decl.specs.declared.column.Column.{Column}
use Rattle.us_decl.specs.Grammar.{Comma, Run, Empty, Expr, Term, Just, Row, Group, Query, Part, Block, Head, Decl}
use Rattle.us_parse.specs.Piece.{Before, BehindName, BehindHead, BehindBlocks, Asked, OneVariable, TwoVariables, Use, Argument, Mapped, Hole, Begin, Piece, AtFormat, AtName, AtBrace, Between, AtVariable, AfterVariable, AtWord, AtSlot, AtEqual, AtSchedule, AtArgument, Operand, Divisor, After, AtInto, AtLanes, AtMap, AtLevels, Tail, AtTrim, AtMerge, AtPack, AtColumn, AfterColumn, AtWhen, AtCondition, AtSign, AtBound, AtPart, AtRest, AtLast, AtEnd, Done, part_of, filled, divided, ended, step}
use Rattle.us_parse.proofs.Run.{go_on, run}

pub record Finishes (s : Piece) : Type 0 where
  pub tokens : List Token
  pub decl : Decl
  pub leads : run tokens s ≡ Some (Done decl)

then_token : (s u : Piece) (t : Token) → step s t ≡ Some u → Finishes u → Finishes s
then_token s u t e f = record { tokens = t ∷ f.tokens; decl = f.decl; leads = ap (go_on (run f.tokens)) e ∙ f.leads }

done : (d : Decl) → Finishes (Done d)
done d = record { tokens = []; decl = d; leads = refl }

f_end : (n : List ℕ) (h : Head) (p q : Part) → Finishes (AtEnd n h p q)
f_end n h p q = then_token _ _ (Fixed mark.BraceClose) refl (done _)

f_last_tail : (n : List ℕ) (h : Head) (p q : Part) → Finishes (Tail (BehindBlocks n h p) q)
f_last_tail n h p q = then_token _ _ (Fixed mark.BraceClose) refl (f_end n h p q)

f_last : (n : List ℕ) (h : Head) (p : Part) → Finishes (AtLast n h p)
f_last n h p = then_token _ (Between (BehindBlocks n h p) Empty) (Fixed mark.BraceOpen) refl (then_token _ (AtMap (BehindBlocks n h p) Empty) (Fixed mark.Map) refl (then_token _ (AtLevels (BehindBlocks n h p) Empty) (Fixed mark.Open) refl (then_token _ (Tail (BehindBlocks n h p) (part_of Empty None)) (Fixed mark.Close) refl (f_last_tail n h p _))))

f_rest : (n : List ℕ) (h : Head) (p : Part) → Finishes (AtRest n h p)
f_rest n h p = then_token _ _ (Fixed mark.Rest) refl (f_last n h p)

f_tail : (b : Before) (p : Part) → Finishes (Tail b p)
f_tail (BehindName n) p = then_token _ _ (Fixed mark.BraceClose) refl (done _)
f_tail (BehindHead n h) p = then_token _ _ (Fixed mark.BraceClose) refl (f_rest n h p)
f_tail (BehindBlocks n h p) q = f_last_tail n h p q

f_levels : (b : Before) (qs : Run Query) → Finishes (AtLevels b qs)
f_levels b qs = then_token _ _ (Fixed mark.Close) refl (f_tail b _)

f_map : (b : Before) (qs : Run Query) → Finishes (AtMap b qs)
f_map b qs = then_token _ _ (Fixed mark.Open) refl (f_levels b qs)

f_between : (b : Before) (qs : Run Query) → Finishes (Between b qs)
f_between b qs = then_token _ _ (Fixed mark.Map) refl (f_map b qs)

f_lanes : (b : Before) (qs : Run Query) (v w : List ℕ) (e : Expr) → Finishes (AtLanes b qs v w e)
f_lanes b qs v w e = then_token _ _ (Number 1) refl (f_between b _)

f_into : (b : Before) (qs : Run Query) (v w : List ℕ) (e : Expr) → Finishes (AtInto b qs v w e)
f_into b qs v w e = then_token _ _ (Fixed mark.Into) refl (f_lanes b qs v w e)

f_ended : (u : Use) (e : Expr) → Finishes (ended u e)
f_ended (Argument b qs (OneVariable q v)) e = f_between b _
f_ended (Argument b qs (TwoVariables v w)) e = f_into b qs v w e
f_ended (Mapped b qs ls) e = f_tail b _

f_after : (os : List Hole) (u : Use) (h : Hole) (r : Term) → Finishes (After u h r os)
f_after [] u h r = then_token _ _ (Fixed mark.Close) refl (f_ended u (filled h r))
f_after (g ∷ os) u h r = then_token _ _ (Fixed mark.Close) refl (f_after os u g (Just (Group (filled h r))))

f_operand : (u : Use) (h : Hole) (os : List Hole) → Finishes (Operand u h os)
f_operand u h os = then_token _ _ (Fixed mark.I) refl (f_after os u h (Just Row))

f_argument : (b : Before) (qs : Run Query) (q : Asked) → Finishes (AtArgument b qs q)
f_argument b qs q = then_token _ _ (Fixed mark.Open) refl (f_operand (Argument b qs q) Begin [])

f_word : (b : Before) (qs : Run Query) (v : List ℕ) → Finishes (AtWord b qs v)
f_word b qs v = then_token _ _ (Fixed mark.Sum) refl (f_argument b qs _)

f_schedule : (b : Before) (qs : Run Query) (v w : List ℕ) → Finishes (AtSchedule b qs v w)
f_schedule b qs v w = then_token _ _ (Fixed mark.Schedule) refl (f_argument b qs _)

f_equal : (b : Before) (qs : Run Query) (v w : List ℕ) → Finishes (AtEqual b qs v w)
f_equal b qs v w = then_token _ _ (Fixed mark.Equal) refl (f_schedule b qs v w)

f_variable : (b : Before) (qs : Run Query) (v : List ℕ) → Finishes (AfterVariable b qs v)
f_variable b qs v = then_token _ _ (Fixed mark.Equal) refl (f_word b qs v)

f_after_column : (b : Before) (p : Part) (cs : Comma Column) → Finishes (AfterColumn b p cs)
f_after_column b p cs = then_token _ _ (Fixed mark.Close) refl (f_tail b _)

f_column : (b : Before) (p : Part) (cs : Option (Comma Column)) → Finishes (AtColumn b p cs)
f_column b p cs = then_token _ _ (Fixed mark.Val) refl (f_after_column b p _)

f_part : (n : List ℕ) (h : Head) → Finishes (AtPart n h)
f_part n h = then_token _ _ (Fixed mark.BraceOpen) refl (f_between (BehindHead n h) Empty)

f_bound : (n : List ℕ) (qs : Run Query) (bs : Run Block) (v : List ℕ) (less : Bool) → Finishes (AtBound n qs bs v less)
f_bound n qs bs v less = then_token _ _ (Number 0) refl (f_part n _)

f_sign : (n : List ℕ) (qs : Run Query) (bs : Run Block) (v : List ℕ) → Finishes (AtSign n qs bs v)
f_sign n qs bs v = then_token _ _ (Fixed mark.Less) refl (f_bound n qs bs v true)

f_condition : (n : List ℕ) (qs : Run Query) (bs : Run Block) → Finishes (AtCondition n qs bs)
f_condition n qs bs = then_token _ _ (Name []) refl (f_sign n qs bs _)

f_brace : (n : List ℕ) → Finishes (AtBrace n)
f_brace n = then_token _ _ (Fixed mark.BraceOpen) refl (f_between (BehindName n) Empty)

f_name : Finishes AtName
f_name = then_token _ _ (Name []) refl (f_brace _)

pub finishes : (s : Piece) → Finishes s
finishes AtFormat = then_token _ _ (Fixed mark.Format) refl f_name
finishes AtName = f_name
finishes (AtBrace n) = f_brace n
finishes (Between b qs) = f_between b qs
finishes (AtVariable b qs) = then_token _ _ (Name []) refl (f_variable b qs _)
finishes (AfterVariable b qs v) = f_variable b qs v
finishes (AtWord b qs v) = f_word b qs v
finishes (AtSlot b qs v) = then_token _ _ (Name []) refl (f_equal b qs v _)
finishes (AtEqual b qs v w) = f_equal b qs v w
finishes (AtSchedule b qs v w) = f_schedule b qs v w
finishes (AtArgument b qs q) = f_argument b qs q
finishes (Operand u h os) = f_operand u h os
finishes (Divisor over u h r os) = then_token _ _ (Number 1) refl (f_after os u h (divided over r 0))
finishes (After u h r os) = f_after os u h r
finishes (AtInto b qs v w e) = f_into b qs v w e
finishes (AtLanes b qs v w e) = f_lanes b qs v w e
finishes (AtMap b qs) = f_map b qs
finishes (AtLevels b qs) = f_levels b qs
finishes (Tail b p) = f_tail b p
finishes (AtTrim b qs ls ks) = then_token _ _ (Number 0) refl (f_tail b _)
finishes (AtMerge b qs ls cut ks) = then_token _ _ (Number 0) refl (f_tail b _)
finishes (AtPack b p) = then_token _ _ (Fixed mark.Open) refl (f_column b p None)
finishes (AtColumn b p cs) = f_column b p cs
finishes (AfterColumn b p cs) = f_after_column b p cs
finishes (AtWhen n qs bs) = then_token _ _ (Fixed mark.When) refl (f_condition n qs bs)
finishes (AtCondition n qs bs) = f_condition n qs bs
finishes (AtSign n qs bs v) = f_sign n qs bs v
finishes (AtBound n qs bs v less) = f_bound n qs bs v less
finishes (AtPart n h) = f_part n h
finishes (AtRest n h p) = f_rest n h p
finishes (AtLast n h p) = f_last n h p
finishes (AtEnd n h p q) = f_end n h p q
finishes (Done d) = done d
