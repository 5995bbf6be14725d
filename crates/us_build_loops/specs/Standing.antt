-- Levels of a building loop that stand for levels of a format.
use Rattle.std.specs.Prelude.{◌≡◌, ℕ, ◌+◌, ◌*◌, ◌^◌, ◌<◌, ◌≤◌, Bool, true, false, ◌||◌, List, [], ◌∷◌, IsTrue, pos}
use Rattle.us_code.specs.Run.{size_of, value}
use Rattle.us_format.specs.declared.Kind.TheVariants.{Compressed}
use Rattle.us_format.specs.Kinds.{Level}
use Rattle.us_format.specs.Lists.{head}
use Rattle.us_format.specs.Positions.{Row, count_below, down}
use Rattle.us_format_loops.specs.Nodes.{are_slots}
use Rattle.us_gen_build.specs.declared.levels.Role.{Role}
use Rattle.us_gen_build.specs.declared.levels.Role.TheVariants as role
use Rattle.us_gen_build.specs.Levels.{LevelTree}
use Rattle.us_gen_build.specs.Turns.{Turns, Reads, has_key, is_at_rank, marks_pos, writes_crd, inside}
use Rattle.us_gen_build_laws.specs.Rows.{row}
use Rattle.us_gen_build_laws.specs.Numbering.{Numbering, Computed, Counted, Ranked, Kept, Suits, Taken}

-- how the level of a role numbers its positions
abbrev pub numbering_of : Role → Numbering
numbering_of role.Full = Computed
numbering_of role.Shared = Counted
numbering_of role.Single = Ranked
numbering_of role.AtPosition = Kept
numbering_of role.AtRank = Kept
numbering_of role.Counted = Counted
numbering_of role.Marked = Ranked
numbering_of role.Kept = Kept

abbrev pub taken_of : Turns → LevelTree → Taken
taken_of T l = record { numbering = numbering_of l.role; coordinate = T.coord l }

-- whether a level has a list of where the positions under each one start
abbrev pub has_starts : Role → Bool
has_starts r = marks_pos r false

-- whether a level uses the number of its positions
abbrev pub has_number : Role → Bool
has_number r = writes_crd r || has_starts r

-- whether a level only stores a number for each entry
abbrev pub Spreads : Role → Type 0
Spreads role.AtPosition = Unit {0}
Spreads role.AtRank = Unit {0}
Spreads _ = ⊥

module _ (T : Turns) where
  -- a level of the loop stands for a level of the format, with these behind it, where there are n positions above and the entries stand at these
  pub record StandsFor (l : LevelTree) (k : Level) (behind : List Level) (n : ℕ) (rows : List Row) (at : ℕ → ℕ) : Type 0 where
    pub suits : Suits (numbering_of l.role) k.kind
    -- where the rank of the entry is its position, only slot levels follow
    pub last : numbering_of l.role ≡ Ranked → k.kind ≡ Compressed → IsTrue (are_slots behind)
    pub rank : (x : ℕ) → x < T.count → is_at_rank l.role ≡ true → at x ≡ x
    -- names
    pub room : T.base ≤ l.first
    pub reads_coord : Reads T.base l.coord
    pub reads_size : Reads T.base l.size
    -- coordinates and size
    pub coordinates : (x : ℕ) → x < T.count → T.coord l x ≡ head (row rows x).rest
    pub is_coord : (x : ℕ) → x < T.count → value T.env (T.held x) l.coord ≡ pos (T.coord l x)
    pub width : T.wide l ≡ k.size
    pub is_size : (x : ℕ) → x < T.count → has_key l.role ≡ true → value T.env (T.held x) l.size ≡ pos (T.wide l)
    -- lengths, and numbers that don't wrap
    pub pos_length : has_starts l.role ≡ true → size_of T.env l.pos_length ≡ n + 1
    pub top : l.is_top ≡ true → n ≡ 1
    pub crd_length : has_number l.role ≡ true → size_of T.env l.crd_length ≡ count_below k.kind k.size n rows
    pub few : n < 2 ^ 62
    pub fits : has_key l.role ≡ true → (q c : ℕ) → q < n → c < k.size → q * k.size + c < 2 ^ 63

  -- a level of the loop stores the values, where there are n positions and the entries stand at these
  pub record StoresValues (l : LevelTree) (n : ℕ) (rows : List Row) (at : ℕ → ℕ) : Type 0 where
    pub spreads : Spreads l.role
    pub rank : (x : ℕ) → x < T.count → is_at_rank l.role ≡ true → at x ≡ x
    pub room : T.base ≤ l.first
    pub reads_coord : Reads T.base l.coord
    pub reads_size : Reads T.base l.size
    pub values : (x : ℕ) → x < T.count → value T.env (T.held x) l.coord ≡ (row rows x).value
    pub crd_length : size_of T.env l.crd_length ≡ n
    pub few : n < 2 ^ 62

  -- the levels of the loop stand for the first levels of the format, or for all and one stores the values; their names rise from lo on
  abbrev pub AllStand : ℕ → List LevelTree → List Level → ℕ → List Row → (ℕ → ℕ) → Type 0
  AllStand lo [] ks n rows at = Unit {0}
  AllStand lo (l ∷ ls) (k ∷ ks) n rows at =
      (lo ≤ l.first) × StandsFor l k ks n rows at
      × AllStand (l.first + 4) ls ks (count_below k.kind k.size n rows) (down k.kind k.size rows) (inside T l at)
  AllStand lo (l ∷ []) [] n rows at = (lo ≤ l.first) × StoresValues l n rows at
  AllStand lo _ _ n rows at = ⊥
