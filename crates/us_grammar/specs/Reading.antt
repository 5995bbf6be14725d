-- Reading a text from the front by a grammar and its limits, and what the answers mean.
use Rattle.std.specs.Prelude.{◌≡◌, ◌&&◌, ℕ, ◌+◌, List, [], ◌∷◌, ◌++◌, Option, Some, None, Bool, true, false, length}
use Rattle.us_tokens.specs.Text as text
use Rattle.us_tokens.specs.Text.{Text, Then, left_of}
use Rattle.us_grammar.specs.Grammar.{Grammar, Symbol, Fixed, Part, Row, Pick, Values, Next, Spells, step, ends, pick}

-- A meter goes along with the tokens: what it makes of one more token, by the note of the choice that took it, and which limit is broken then.
pub record Limits (K T M S F : Type 0) : Type 0 where
  pub token : K → List ℕ → T  -- of a kind and its bytes
  pub start : S
  pub measure : S → Option M → T → S
  pub check : S → T → Option F

-- Faults come with how many bytes are left there.
pub data Answer (K A F : Type 0) : Type 0 where
  Read : A → ℕ → Text K → Answer K A F  -- a value, how many bytes are left behind its last token, and what stands there
  Whole : A → Answer K A F  -- a value, of all tokens up to the end
  NoToken : ℕ → Answer K A F
  Form : ℕ → Answer K A F
  Broken : F → ℕ → Answer K A F

pub record Lexeme (K : Type 0) : Type 0 where
  pub kind : K
  pub bytes : List ℕ
  pub behind : ℕ

abbrev pub put : {K : Type 0} → List (Lexeme K) → Text K → Text K
put [] rest = rest
put (x ∷ xs) rest = Then x.kind x.bytes x.behind (put xs rest)

-- the bytes that are left behind the last of some tokens
abbrev pub behind_last : {K : Type 0} → Lexeme K → List (Lexeme K) → ℕ
behind_last x [] = x.behind
behind_last x (y ∷ ys) = behind_last y ys

module _ {N C K T M S F : Type 0} (G : Grammar N C T M) (L : Limits K T M S F) where
  module _ {A : Type 0} where
    -- the first whole text is the answer
    abbrev pub stopped : (s : Row G) → (Values G s → A) → ℕ → Text K → Answer K A F → Answer K A F
    stopped [] k behind more next = Read (k tt) behind more
    stopped (x ∷ s) k behind more next = next

    abbrev pub passed : ℕ → Option F → Answer K A F → Answer K A F
    passed left (Some f) next = Broken f left
    passed left None next = next

    abbrev pub judged : ℕ → ℕ → Text K → T → (s : Row G) → (Values G s → A) → S → (S → (r : Row G) → (Values G r → A) → Answer K A F) → Option (Next G s) → Answer K A F
    judged left behind more t s k m go None = Form left
    judged left behind more t s k m go (Some u) = passed left (L.check (L.measure m u.note t) t) (stopped u.row (λ vs. k (u.back vs)) behind more (go (L.measure m u.note t) u.row (λ vs. k (u.back vs))))

    abbrev pub at_end : (s : Row G) → (Values G s → A) → Option (Values G s) → Answer K A F
    at_end s k None = Form 0
    at_end s k (Some vs) = Whole (k vs)

    -- the answer of reading on by a row of parts, with a meter, and with what its values make
    abbrev pub scan : Text K → S → (s : Row G) → (Values G s → A) → Answer K A F
    scan text.End m s k = at_end s k (ends G s)
    scan (text.Bad left) m s k = NoToken left
    scan (Then w b behind more) m s k = judged (length b + behind) behind more (L.token w b) s k m (scan more) (step G s (L.token w b))

  abbrev pub tokens_of : List (Lexeme K) → List T
  tokens_of [] = []
  tokens_of (x ∷ xs) = L.token x.kind x.bytes ∷ tokens_of xs

  abbrev pub or_else : {A : Type 0} → Option A → Option A → Option A
  or_else (Some a) o = Some a
  or_else None o = o

  abbrev pub broken_at : T → (s : Row G) → S → (S → Row G → Option F) → Option (Next G s) → Option F
  broken_at t s m go None = None
  broken_at t s m go (Some u) = or_else (L.check (L.measure m u.note t) t) (go (L.measure m u.note t) u.row)

  -- the first limit that is broken on the way along the tokens
  abbrev pub breaks : List T → S → Row G → Option F
  breaks [] m s = None
  breaks (t ∷ ts) m s = broken_at t s m (breaks ts) (step G s t)

  module _ (n : N) where
    abbrev pub Begins : List T → Type 0
    Begins ts = (more : List T) × (v : G.Value n) × Spells G (ts ++ more) (Part n ∷ []) (v, tt)

    -- each token keeps the limits
    abbrev pub Keeps : List T → Type 0
    Keeps ts = breaks ts L.start (Part n ∷ []) ≡ None

    -- with the token that stands there, or as a whole at the end, the tokens are none
    abbrev pub Refuses : List T → Text K → Type 0
    Refuses ts text.End = (v : G.Value n) → Spells G ts (Part n ∷ []) (v, tt) → ⊥
    Refuses ts (text.Bad left) = ⊥
    Refuses ts (Then w b behind more) = Begins (ts ++ (L.token w b ∷ [])) → ⊥

    pub record IsRead (all : Text K) (v : G.Value n) (behind : ℕ) (more : Text K) : Type 0 where
      pub front : List (Lexeme K)
      pub kind : K
      pub bytes : List ℕ
      pub parts : all ≡ put front (Then kind bytes behind more)
      pub spelled : Spells G (tokens_of front ++ (L.token kind bytes ∷ [])) (Part n ∷ []) (v, tt)
      pub kept : Keeps (tokens_of front ++ (L.token kind bytes ∷ []))

    pub record IsWhole (all : Text K) (v : G.Value n) : Type 0 where
      pub front : List (Lexeme K)
      pub parts : all ≡ put front text.End
      pub spelled : Spells G (tokens_of front) (Part n ∷ []) (v, tt)
      pub kept : Keeps (tokens_of front)

    pub record IsNoToken (all : Text K) (left : ℕ) : Type 0 where
      pub front : List (Lexeme K)
      pub parts : all ≡ put front (text.Bad left)
      pub before : Begins (tokens_of front)
      pub kept : Keeps (tokens_of front)

    pub record IsForm (all : Text K) (left : ℕ) : Type 0 where
      pub front : List (Lexeme K)
      pub rest : Text K
      pub parts : all ≡ put front rest
      pub place : left_of rest ≡ left
      pub before : Begins (tokens_of front)
      pub kept : Keeps (tokens_of front)
      pub there : Refuses (tokens_of front) rest

    pub record IsBroken (all : Text K) (f : F) (left : ℕ) : Type 0 where
      pub front : List (Lexeme K)
      pub kind : K
      pub bytes : List ℕ
      pub behind : ℕ
      pub more : Text K
      pub parts : all ≡ put front (Then kind bytes behind more)
      pub place : length bytes + behind ≡ left
      pub before : Begins (tokens_of front ++ (L.token kind bytes ∷ []))
      pub kept : Keeps (tokens_of front)
      pub broken : breaks (tokens_of front ++ (L.token kind bytes ∷ [])) L.start (Part n ∷ []) ≡ Some f

    abbrev pub Means : Text K → Answer K (G.Value n) F → Type 0
    Means all (Read v behind more) = IsRead all v behind more
    Means all (Whole v) = IsWhole all v
    Means all (NoToken left) = IsNoToken all left
    Means all (Form left) = IsForm all left
    Means all (Broken f left) = IsBroken all f left

    -- reading a text by the part
    abbrev pub answer : Text K → Answer K (G.Value n) F
    answer all = scan all L.start (Part n ∷ []) (λ vs. vs.0)

  -- a token was taken from the front of a text, with its note, within the limits
  pub record Takes (note : Option M) (t : T) (old : Text K) (m : S) (new : Text K) (v : S) : Type 0 where
    pub kind : K
    pub bytes : List ℕ
    pub behind : ℕ
    pub parts : old ≡ Then kind bytes behind new
    pub is : L.token kind bytes ≡ t
    pub meter : v ≡ L.measure m note t
    pub fits : L.check v t ≡ None

  -- the token in front breaks a limit
  pub record Exceeds (note : Option M) (t : T) (old : Text K) (m : S) (f : F) : Type 0 where
    pub kind : K
    pub bytes : List ℕ
    pub behind : ℕ
    pub new : Text K
    pub parts : old ≡ Then kind bytes behind new
    pub is : L.token kind bytes ≡ t
    pub breaks : L.check (L.measure m note t) t ≡ Some f

  -- the first token begins no choice of a part
  abbrev pub Lacks : N → Text K → Type 0
  Lacks n text.End = Unit {0}
  Lacks n (text.Bad left) = Unit {0}
  Lacks n (Then w b behind more) = pick G (G.choices n) (G.class (L.token w b)) ≡ None

  abbrev pub LacksFixed : C → Text K → Type 0
  LacksFixed c text.End = Unit {0}
  LacksFixed c (text.Bad left) = Unit {0}
  LacksFixed c (Then w b behind more) = G.same c (G.class (L.token w b)) ≡ false

  -- the fault where no token that stands here may stand
  abbrev pub refusal : {A : Type 0} → Text K → Answer K A F
  refusal text.End = Form 0
  refusal (text.Bad left) = NoToken left
  refusal (Then w b behind more) = Form (length b + behind)

  -- What a part of a reader did, wherever the part stands: it read the part, with this value.
  module _ (A : Type 0) where
    abbrev pub Goes : (n : N) → Text K → S → Text K → S → G.Value n → Type 0
    Goes n old m new v value = (x : Symbol N C) (s : Row G) (k : Values G (Part n ∷ x ∷ s) → A) → scan old m (Part n ∷ x ∷ s) k ≡ scan new v (x ∷ s) (λ vs. k (value, vs))

    -- it has read the part up to a part that ends it
    abbrev pub GoesInto : (n o : N) → Text K → S → Text K → S → (G.Value o → G.Value n) → Type 0
    GoesInto n o old m new v f = (x : Symbol N C) (s : Row G) (k : Values G (Part n ∷ x ∷ s) → A) → scan old m (Part n ∷ x ∷ s) k ≡ scan new v (Part o ∷ x ∷ s) (λ vs. k (f vs.0, vs.1))

    -- it ended with this answer
    abbrev pub Fails : (n : N) → Text K → S → Answer K A F → Type 0
    Fails n old m a = (x : Symbol N C) (s : Row G) (k : Values G (Part n ∷ x ∷ s) → A) → scan old m (Part n ∷ x ∷ s) k ≡ a
