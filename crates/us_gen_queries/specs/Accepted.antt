-- What the generators ask of queries, a format keeps.
use Rattle.std.specs.Prelude.{◌≡◌, ◌≤◌, length, All, None, IsTrue}
use Rattle.us_decl.specs.Declares.{Declared, IsValid}
use Rattle.us_format.specs.Lists.{among}
use Rattle.us_format.specs.Declaration.{defined}
use Rattle.us_judge.specs.Acceptance.{first_refusal}
use Rattle.us_judge.specs.Views.{declaration_of}
use Rattle.us_gen_counting.specs.Rooms.{IsCountable}
use Rattle.us_gen_counting.specs.Selects.{IsCount}

abbrev pub PartsCount : Type 0
PartsCount = (x : Declared) → IsValid x → first_refusal (declaration_of x) ≡ None → All (λ p. All IsCountable p.queries) (declaration_of x).parts

-- the head of a declaration, which has no query where there is no condition
pub record HeadSelects (x : Declared) : Type 0 where
  pub countable : All IsCountable (declaration_of x).head
  pub counts : All IsCount (declaration_of x).head
  pub named : All (λ c. IsTrue (among c.var (defined (declaration_of x).head))) (declaration_of x).conds
  pub few : length (declaration_of x).conds ≤ 3

abbrev pub HeadsSelect : Type 0
HeadsSelect = (x : Declared) → IsValid x → first_refusal (declaration_of x) ≡ None → HeadSelects x
