-- What the owner of bytes behind a raw pointer owns, and what a `&` to it lends.
use Rattle.std.specs.Prelude.{ℕ, ◌+◌, ◌^◌, List, length}
use base.Fraction.{full_share}
use base.Fml.{Lft, Fml, ffalse, fsep, flt, froom}
use mir.Syntax.{Ty, w8, ty_int, ty_array}
use denote.Builtin.{u8}
use denote.Index.{row}
use denote.RawPtr.{Ptr, block_ptr, null_ptr}
use denote.Sharing.{said, beside}
use denote.Slice.{elements_shared}

-- the type that a block of n bytes is asked for
abbrev pub bytes_type : ℕ → Ty
bytes_type n = ty_array (ty_int w8) n

-- the bytes xs from the offset o of the block b on, and room for n more behind them
abbrev pub run_own : ℕ → ℕ → List ℕ → ℕ → Fml
run_own b o xs n = fsep (flt (length xs + n) (2 ^ 63)) (fsep (row u8 full_share xs b o) (froom (bytes_type n) b (o + length xs)))

abbrev pub bytes_own : Ptr → List ℕ → ℕ → Fml
bytes_own (block_ptr b o) xs n = run_own b o xs n
bytes_own null_ptr xs n = ffalse

abbrev pub bytes_lent : Ptr → List ℕ → ℕ → Lft → Fml
bytes_lent (block_ptr b o) xs n = beside (said (flt (length xs + n) (2 ^ 63))) (elements_shared u8 xs b o)
bytes_lent null_ptr xs n = said ffalse

-- the allocator's token for a block of n bytes
abbrev pub right_owns : (Ty → Ptr → Fml) → Ptr → ℕ → Fml
right_owns token p n = token (bytes_type n) p
