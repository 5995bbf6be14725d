-- What is to be stored and printed, as what it stands for.
use Rattle.std.specs.Prelude.{ℕ, List, map, Option}
use Rattle.std.specs.Option.{option_map}
use denote.Ref.{Bor}
use Rattle.us_status.specs.Stands.{Store, Outcome}
use Rattle.us_status.specs.declared.ending.Store as ending

-- a file that is to be stored, and all that is stored and printed
abbrev pub store_view : ending.Store → Store
store_view s = record { slot = s.slot; name = s.name.now; bytes = s.bytes.now }

abbrev pub outcome_view : List ending.Store → Option (Bor (List ℕ)) → Outcome
outcome_view stores lines = record { stores = map store_view stores; prints = option_map (λ l. l.now) lines }
