-- The table of loop code passes its tests.
use Rattle.std.proofs.Common.{◌≡◌, true, refl, rules, ap}
use denote.Enum.Bare.{sameb, same_true, true_same}
use Rattle.us_grammar.specs.Grammar.{is_sound, IsTable}
use Rattle.us_code_table.specs.declared.mark.Mark.{Mark}
use Rattle.us_code_table.specs.contracts.mark.Mark.{the_type}
use Rattle.us_code_table.specs.Table.{Nonterminal, Whole, grammar, same, Class, Word, ARegister, ABuffer, ASource, ADimName, ALength, AZero, AOne, AMany}

sound : (n : Nonterminal) → is_sound grammar n ≡ true
sound Whole = refl
sound _ = refl

same_is : (c d : Class) → same c d ≡ true → c ≡ d
same_is (Word a) (Word b) e = ap Word (same_true the_type (search rules) _ _ e)
same_is ARegister ARegister e = refl
same_is ABuffer ABuffer e = refl
same_is ASource ASource e = refl
same_is ADimName ADimName e = refl
same_is ALength ALength e = refl
same_is AZero AZero e = refl
same_is AOne AOne e = refl
same_is AMany AMany e = refl
same_is _ _ e = absurd cc

same_self : (c : Class) → same c c ≡ true
same_self (Word a) = true_same the_type a a refl
same_self ARegister = refl
same_self _ = refl

pub table : IsTable grammar
table = record { same_is = same_is; same_self = same_self; sampled = λ c. refl; sound = sound }
