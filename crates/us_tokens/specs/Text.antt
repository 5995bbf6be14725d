-- A text as its tokens, each with its place. Places are counted from the end: how many bytes are left.
use Rattle.std.specs.Prelude.{ℕ, ◌+◌, List, [], length}

-- Then has the kind of a token, its bytes and how many bytes are left behind it.
-- Bad has how many bytes are left at a byte that begins no token; nothing behind it is read.
pub data Text (K : Type 0) : Type 0 where
  End : Text K
  Bad : ℕ → Text K
  Then : K → List ℕ → ℕ → Text K → Text K

-- how many bytes are left at the first token
abbrev pub left_of : {K : Type 0} → Text K → ℕ
left_of End = 0
left_of (Bad left) = left
left_of (Then k w behind more) = length w + behind

-- the bytes of the first token
abbrev pub bytes_of : {K : Type 0} → Text K → List ℕ
bytes_of End = []
bytes_of (Bad left) = []
bytes_of (Then k w behind more) = w

-- how many bytes are left behind the first token
abbrev pub behind_of : {K : Type 0} → Text K → ℕ
behind_of End = 0
behind_of (Bad left) = left
behind_of (Then k w behind more) = behind

-- the text behind the first token
abbrev pub after : {K : Type 0} → Text K → Text K
after End = End
after (Bad left) = Bad left
after (Then k w behind more) = more
