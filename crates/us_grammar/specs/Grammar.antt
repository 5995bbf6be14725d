-- Grammars as data: their tables, the texts that they have, and the tests of a table.
use Rattle.std.specs.Prelude.{◌≡◌, ◌++◌, ◌&&◌, ℕ, zero, suc, List, [], ◌∷◌, Option, Some, None, Bool, true, false, cond, map, ◌⊎◌}

-- a terminal by its class, or a part by its name
pub data Symbol (N C : Type 0) : Type 0 where
  Fixed : C → Symbol N C
  Part : N → Symbol N C

-- the values of a row of parts; a terminal in it has none
abbrev pub Args : {N C : Type 0} → (N → Type 0) → List (Symbol N C) → Type 0
Args V [] = Unit {0}
Args V (Fixed c ∷ s) = Args V s
Args V (Part n ∷ s) = V n × Args V s

-- A choice begins with a token of a class. The note is for the limits.
pub record Choice (N C T M : Type 0) (V : N → Type 0) (A : Type 0) : Type 0 where
  pub first : C
  pub rest : List (Symbol N C)
  pub note : M
  pub value : T → Args V rest → A

-- Each part has choices, and may be empty with a value.
pub record Grammar (N C T M : Type 0) : Type 1 where
  pub Value : N → Type 0
  pub class : T → C
  pub same : C → C → Bool
  pub choices : (n : N) → List (Choice N C T M Value (Value n))
  pub empty : (n : N) → Option (Value n)
  pub follow : N → List C  -- classes that may stand behind it, for the tests alone
  pub sample : C → T  -- a token of each class, for the tests alone

abbrev pub append_left : {N C : Type 0} → (V : N → Type 0) → (r s : List (Symbol N C)) → Args V (r ++ s) → Args V r
append_left V [] s vs = tt
append_left V (Fixed c ∷ r) s vs = append_left V r s vs
append_left V (Part n ∷ r) s vs = (vs.0, append_left V r s vs.1)

abbrev pub append_right : {N C : Type 0} → (V : N → Type 0) → (r s : List (Symbol N C)) → Args V (r ++ s) → Args V s
append_right V [] s vs = vs
append_right V (Fixed c ∷ r) s vs = append_right V r s vs
append_right V (Part n ∷ r) s vs = append_right V r s vs.1

-- these choices with a row behind them
abbrev pub with_row : {N C T M : Type 0} {V : N → Type 0} {A B : Type 0} → (r : List (Symbol N C)) → (A → Args V r → B) → List (Choice N C T M V A) → List (Choice N C T M V B)
with_row r f [] = []
with_row {V = V} r f (c ∷ cs) = record { first = c.first; rest = c.rest ++ r; note = c.note; value = λ t vs. f (c.value t (append_left V c.rest r vs)) (append_right V c.rest r vs) } ∷ with_row r f cs

abbrev pub go_on : {A B : Type 0} → (A → Option B) → Option A → Option B
go_on f None = None
go_on f (Some a) = f a

abbrev pub is_some : {A : Type 0} → Option A → Bool
is_some None = false
is_some (Some a) = true

abbrev pub option_back : {A B : Type 0} → (A → B) → Option A → Option B
option_back f None = None
option_back f (Some a) = Some (f a)

module _ {N C T M : Type 0} (G : Grammar N C T M) where
  abbrev pub Row : Type 0
  Row = List (Symbol N C)

  abbrev pub Values : Row → Type 0
  Values s = Args G.Value s

  abbrev pub Pick : N → Type 0
  Pick n = Choice N C T M G.Value (G.Value n)

  -- what is left to read behind a token, and how the values of that give the values of all
  pub record Next (s : Row) : Type 0 where
    pub note : Option M
    pub row : Row
    pub back : Values row → Values s

  abbrev pub opened : (n : N) (s : Row) → T → Pick n → Next (Part n ∷ s)
  opened n s t c = record { note = Some c.note; row = c.rest ++ s; back = λ vs. (c.value t (append_left G.Value c.rest s vs), append_right G.Value c.rest s vs) }

  abbrev pub past : (n : N) (s : Row) → G.Value n → Next s → Next (Part n ∷ s)
  past n s v u = record { note = u.note; row = u.row; back = λ vs. (v, u.back vs) }

  abbrev pub behind : (c : C) (s : Row) → Next (Fixed c ∷ s)
  behind c s = record { note = None; row = s; back = λ vs. vs }

  -- one of the choices for this class
  abbrev pub Any_choice : {n : N} → List (Pick n) → C → (Pick n → Type 0) → Type 0
  Any_choice [] c P = ⊥
  Any_choice (x ∷ xs) c P = ((G.same x.first c ≡ true) × P x) ⊎ Any_choice xs c P

  -- The token may be read by the first of the row, in some way.
  abbrev pub Moves : (s : Row) → T → (Next s → Type 0) → Type 0
  Moves [] t P = ⊥
  Moves (Fixed c ∷ s) t P = (G.same c (G.class t) ≡ true) × P (behind c s)
  Moves (Part n ∷ s) t P = Any_choice (G.choices n) (G.class t) (λ x. P (opened n s t x)) ⊎ ((v : G.Value n) × (G.empty n ≡ Some v) × Moves s t (λ u. P (past n s v u)))

  abbrev pub Empties : (s : Row) → Values s → Type 0
  Empties [] vs = Unit {0}
  Empties (Fixed c ∷ s) vs = ⊥
  Empties (Part n ∷ s) vs = (G.empty n ≡ Some vs.0) × Empties s vs.1

  -- The tokens are a text of the row, with these values.
  abbrev pub Spells : List T → (s : Row) → Values s → Type 0
  Spells [] s vs = Empties s vs
  Spells (t ∷ ts) s vs = Moves s t (λ u. (bs : Values u.row) × Spells ts u.row bs × (u.back bs ≡ vs))

  -- The machine: the first choice for the token's class, else past the part if it may be empty.

  abbrev pub pick : {n : N} → List (Pick n) → C → Option (Pick n)
  pick [] c = None
  pick (x ∷ xs) c = cond (G.same x.first c) (Some x) (pick xs c)

  abbrev pub expand : (n : N) (s : Row) → T → Option (Next s) → Option (G.Value n) → Option (Pick n) → Option (Next (Part n ∷ s))
  expand n s t other e (Some x) = Some (opened n s t x)
  expand n s t (Some u) (Some v) None = Some (past n s v u)
  expand n s t None (Some v) None = None
  expand n s t other None None = None

  abbrev pub step : (s : Row) → T → Option (Next s)
  step [] t = None
  step (Fixed c ∷ s) t = cond (G.same c (G.class t)) (Some (behind c s)) None
  step (Part n ∷ s) t = expand n s t (step s t) (G.empty n) (pick (G.choices n) (G.class t))

  abbrev pub paired : (n : N) (s : Row) → Option (G.Value n) → Option (Values s) → Option (Values (Part n ∷ s))
  paired n s (Some v) (Some vs) = Some (v, vs)
  paired n s (Some v) None = None
  paired n s None o = None

  abbrev pub ends : (s : Row) → Option (Values s)
  ends [] = Some tt
  ends (Fixed c ∷ s) = None
  ends (Part n ∷ s) = paired n s (G.empty n) (ends s)

  abbrev pub read_on : (s : Row) → ((r : Row) → Option (Values r)) → Option (Next s) → Option (Values s)
  read_on s go None = None
  read_on s go (Some u) = option_back u.back (go u.row)

  -- the values of the tokens up to the end
  abbrev pub read : List T → (s : Row) → Option (Values s)
  read [] s = ends s
  read (t ∷ ts) s = read_on s (read ts) (step s t)

  -- The tests of a table.

  abbrev pub firsts : {n : N} → List (Pick n) → List C
  firsts xs = map (λ x. x.first) xs

  abbrev pub has : List C → C → Bool
  has [] c = false
  has (d ∷ ds) c = cond (G.same d c) true (has ds c)

  abbrev pub within : List C → List C → Bool
  within [] ds = true
  within (c ∷ cs) ds = has ds c && within cs ds

  abbrev pub apart : List C → List C → Bool
  apart [] ds = true
  apart (c ∷ cs) ds = cond (has ds c) false (apart cs ds)

  abbrev pub distinct : List C → Bool
  distinct [] = true
  distinct (c ∷ cs) = cond (has cs c) false (distinct cs)

  abbrev pub starts : Row → List C → List C
  starts [] f = f
  starts (Fixed c ∷ s) f = c ∷ []
  starts (Part n ∷ s) f = firsts (G.choices n) ++ cond (is_some (G.empty n)) (starts s f) []

  -- each part of the row is followed by its follow classes alone
  abbrev pub flows : Row → List C → Bool
  flows [] f = true
  flows (Fixed c ∷ s) f = flows s f
  flows (Part n ∷ s) f = within (starts s f) (G.follow n) && flows s f

  abbrev pub all_flow : {n : N} → List (Pick n) → List C → Bool
  all_flow [] f = true
  all_flow (x ∷ xs) f = flows x.rest f && all_flow xs f

  -- it has a text that needs this many choices inside one another at most
  abbrev pub all_short : (N → Bool) → Row → Bool
  all_short ok [] = true
  all_short ok (Fixed c ∷ s) = all_short ok s
  all_short ok (Part n ∷ s) = ok n && all_short ok s

  abbrev pub any_short : {n : N} → (N → Bool) → List (Pick n) → Bool
  any_short ok [] = false
  any_short ok (x ∷ xs) = cond (all_short ok x.rest) true (any_short ok xs)

  abbrev pub is_short : ℕ → N → Bool
  is_short zero n = false
  is_short (suc k) n = cond (is_some (G.empty n)) true (any_short (is_short k) (G.choices n))

  abbrev pub is_sound : N → Bool
  is_sound n = distinct (firsts (G.choices n)) && (cond (is_some (G.empty n)) (apart (firsts (G.choices n)) (G.follow n)) true && (all_flow (G.choices n) (G.follow n) && is_short 12 n))

  -- a row that ends with a terminal, so that no text of it goes on
  abbrev pub is_closed : Row → Bool
  is_closed [] = false
  is_closed (Fixed c ∷ []) = true
  is_closed (Fixed c ∷ x ∷ s) = is_closed (x ∷ s)
  is_closed (Part n ∷ s) = is_closed s

  abbrev pub all_closed : {n : N} → List (Pick n) → Bool
  all_closed [] = true
  all_closed (x ∷ xs) = is_closed x.rest && all_closed xs

  pub record IsTable : Type 0 where
    pub same_is : (c d : C) → G.same c d ≡ true → c ≡ d
    pub same_self : (c : C) → G.same c c ≡ true
    pub sampled : (c : C) → G.class (G.sample c) ≡ c
    pub sound : (n : N) → is_sound n ≡ true

  -- some text of the part begins with these tokens
  abbrev pub Begins : N → List T → Type 0
  Begins n ts = (more : List T) × (v : G.Value n) × Spells (ts ++ more) (Part n ∷ []) (v, tt)

  abbrev pub run : List T → (s : Row) → Option Row
  run [] s = Some s
  run (t ∷ ts) s = go_on (λ (u : Next s). run ts u.row) (step s t)
