-- The built-in format is valid and breaks no rule.
use Rattle.std.specs.Prelude.{refl, Some, None}
use Rattle.us_decl.specs.Grammar.{Only, And, Empty, One, Just, Row, Col, Whole}
use Rattle.us_decl.specs.Declares.{IsValid}
use Rattle.us_judge.specs.Entry.{entry_format}

pub entry_valid : IsValid entry_format
entry_valid = record {
  text = record {
    name = entry_format.name;
    body = Whole (record { queries = Empty; levels = Some (And (Only (One (Just Row))) (One (Just Col))); trim = Some (And (Only 0) 1); merge = None; packs = Empty });
  };
  is = refl;
  within = refl;
}
