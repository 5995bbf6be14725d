-- Reading a text from the front by a machine, and what its answers mean by the grammar.
use Rattle.std.specs.Prelude.{◌≡◌, ℕ, ◌+◌, List, [], ◌∷◌, ◌++◌, Option, Some, None, Bool, true, false, length}
use Rattle.us_tokens.specs.Text as text
use Rattle.us_tokens.specs.Text.{Text, Then, left_of}

-- A grammar gives the tokens of each text D. A machine's state is the piece of a text that has been read so far.
pub record Machine (K T S D F : Type 0) : Type 0 where
  pub tokens : D → List T
  pub token : K → List ℕ → T  -- of a kind and its bytes
  pub start : S
  pub step : S → T → Option S  -- None: the token can't go on from there
  pub done : S → Option D  -- a whole text
  pub check : S → Option F  -- the limit that the piece breaks, None if it keeps all
  pub stops : Bool  -- whether the first whole text is the answer, or all up to the end is one text

abbrev pub go_on : {A B : Type 0} → (A → Option B) → Option A → Option B
go_on f None = None
go_on f (Some a) = f a

pub data Answer (K D F : Type 0) : Type 0 where
  Read : D → ℕ → Text K → Answer K D F  -- a text, how many bytes are left behind its last token, and what stands there
  Whole : D → Answer K D F  -- a text up to the end
  NoToken : ℕ → Answer K D F  -- faults, with how many bytes are left there
  Form : ℕ → Answer K D F
  Broken : F → ℕ → Answer K D F

-- a token in its place, and tokens in front of a text
pub record Lexeme (K : Type 0) : Type 0 where
  pub kind : K
  pub bytes : List ℕ
  pub behind : ℕ

abbrev pub put : {K : Type 0} → List (Lexeme K) → Text K → Text K
put [] rest = rest
put (x ∷ xs) rest = Then x.kind x.bytes x.behind (put xs rest)

module _ {K T S D F : Type 0} (M : Machine K T S D F) where
  -- what the tokens make of a state
  abbrev pub run : List T → S → Option S
  run [] s = Some s
  run (t ∷ ts) s = go_on (run ts) (M.step s t)

  abbrev pub finished : Bool → Option D → Option D
  finished true o = o
  finished false o = None

  abbrev pub passed : ℕ → ℕ → Text K → Answer K D F → Option F → Option D → Answer K D F
  passed left behind more next (Some f) o = Broken f left
  passed left behind more next None (Some d) = Read d behind more
  passed left behind more next None None = next

  abbrev pub judged : ℕ → ℕ → Text K → (S → Answer K D F) → Option S → Answer K D F
  judged left behind more go None = Form left
  judged left behind more go (Some u) = passed left behind more (go u) (M.check u) (finished M.stops (M.done u))

  abbrev pub at_end : Option D → Answer K D F
  at_end (Some d) = Whole d
  at_end None = Form 0

  -- the answer of reading on from a state
  abbrev pub scan : Text K → S → Answer K D F
  scan text.End s = at_end (M.done s)
  scan (text.Bad left) s = NoToken left
  scan (Then k w behind more) s = judged (length w + behind) behind more (scan more) (M.step s (M.token k w))

  abbrev pub tokens_of : List (Lexeme K) → List T
  tokens_of [] = []
  tokens_of (x ∷ xs) = M.token x.kind x.bytes ∷ tokens_of xs

  -- some text of the grammar begins with these tokens
  abbrev pub Begins : List T → Type 0
  Begins ts = (d : D) × (more : List T) × (M.tokens d ≡ ts ++ more)

  -- each piece on the way keeps the limits
  abbrev pub Keeps : List T → Type 0
  Keeps ts = (front more : List T) (s : S) → ts ≡ front ++ more → run front M.start ≡ Some s → M.check s ≡ None

  -- no text of the grammar goes on from these tokens as this one does
  abbrev pub Refuses : List T → Text K → Type 0
  Refuses ts text.End = (d : D) → M.tokens d ≡ ts → ⊥
  Refuses ts (text.Bad left) = ⊥
  Refuses ts (Then k w behind more) = Begins (ts ++ (M.token k w ∷ [])) → ⊥

  pub record IsRead (all : Text K) (d : D) (behind : ℕ) (more : Text K) : Type 0 where
    pub front : List (Lexeme K)
    pub kind : K
    pub bytes : List ℕ
    pub parts : all ≡ put front (Then kind bytes behind more)
    pub spelled : tokens_of front ++ (M.token kind bytes ∷ []) ≡ M.tokens d
    pub kept : Keeps (M.tokens d)

  pub record IsWhole (all : Text K) (d : D) : Type 0 where
    pub front : List (Lexeme K)
    pub parts : all ≡ put front text.End
    pub spelled : tokens_of front ≡ M.tokens d
    pub kept : Keeps (M.tokens d)

  pub record IsNoToken (all : Text K) (left : ℕ) : Type 0 where
    pub front : List (Lexeme K)
    pub parts : all ≡ put front (text.Bad left)
    pub before : Begins (tokens_of front)
    pub kept : Keeps (tokens_of front)

  -- the tokens before the place begin a text, and with the token there, or the end, they are none
  pub record IsForm (all : Text K) (left : ℕ) : Type 0 where
    pub front : List (Lexeme K)
    pub rest : Text K
    pub parts : all ≡ put front rest
    pub place : left_of rest ≡ left
    pub before : Begins (tokens_of front)
    pub kept : Keeps (tokens_of front)
    pub there : Refuses (tokens_of front) rest

  -- the tokens up to this one begin a text, and it is the first with which a limit is broken
  pub record IsBroken (all : Text K) (f : F) (left : ℕ) : Type 0 where
    pub front : List (Lexeme K)
    pub kind : K
    pub bytes : List ℕ
    pub behind : ℕ
    pub more : Text K
    pub piece : S
    pub parts : all ≡ put front (Then kind bytes behind more)
    pub place : length bytes + behind ≡ left
    pub before : Begins (tokens_of front ++ (M.token kind bytes ∷ []))
    pub kept : Keeps (tokens_of front)
    pub leads : run (tokens_of front ++ (M.token kind bytes ∷ [])) M.start ≡ Some piece
    pub breaks : M.check piece ≡ Some f

  abbrev pub Means : Text K → Answer K D F → Type 0
  Means all (Read d behind more) = IsRead all d behind more
  Means all (Whole d) = IsWhole all d
  Means all (NoToken left) = IsNoToken all left
  Means all (Form left) = IsForm all left
  Means all (Broken f left) = IsBroken all f left

  -- some tokens lead on from a state to a whole text
  pub record Finishes (s : S) : Type 0 where
    pub more : List T
    pub last : S
    pub text : D
    pub leads : run more s ≡ Some last
    pub whole : M.done last ≡ Some text

  -- the tokens of a text are taken, as that text
  pub record IsTaken (d : D) : Type 0 where
    pub last : S
    pub leads : run (M.tokens d) M.start ≡ Some last
    pub whole : M.done last ≡ Some d

  -- what holds a machine to its grammar
  pub record IsHeld : Type 0 where
    pub spelled : S → List T  -- the tokens of a piece
    pub begins : spelled M.start ≡ []
    pub adds : (s : S) (t : T) (u : S) → M.step s t ≡ Some u → spelled u ≡ spelled s ++ (t ∷ [])
    pub ends : (s : S) (d : D) → M.done s ≡ Some d → spelled s ≡ M.tokens d
    pub finishes : (s : S) → Finishes s
    pub reads : (d : D) → IsTaken d
    pub last : M.stops ≡ true → (s : S) (t : T) (d : D) → M.done s ≡ Some d → M.step s t ≡ None
    pub fits : M.check M.start ≡ None
