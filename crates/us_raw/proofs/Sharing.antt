-- A `&` to the owner of bytes lends them one by one. Assumes `Logic`.
use Prim.Native.Nat.{ℕ, ◌+◌, ◌^◌}
use mathlib.Core.List.{List}
use lib.ListN.{length}
use seplogic.Ra.Ura.{Ura}
use base.Fraction.{full_share}
use base.Fml.{Lft, Incl, ffalse, fsep, flt, froom}
use types.Logic.{Logic}
use denote.Builtin.{u8}
use denote.Index.{row}
use denote.Memory.{shared_of}
use denote.Param.Shared.{copy_shared}
use denote.RawPtr.{Ptr, block_ptr, null_ptr}
use denote.Sharing.{ShrLaws, said}
use denote.SharingLaws.{beside_shr_laws, said_shr_laws}
use denote.Plain.{uint_row_laws}
use mir.Syntax.{w8}
use denote.Shares.{Shares, Shares-less, shares_each}
use denote.Slice.{elements_shared, elements_shr_laws}
use denote.Struct.Field.{u8-field}
use denote.Struct.Laws.{u8-copy}
use denote.Struct.Lending.{Lends, Lends-both, Lends-false, Lends-first, Lends-said}
use Rattle.us_raw.specs.Ownership.{bytes_type, bytes_own, bytes_lent}

pub bytes_lent_laws : (p : Ptr) (xs : List ℕ) (n : ℕ) → ShrLaws (bytes_lent p xs n)
bytes_lent_laws (block_ptr b o) xs n = beside_shr_laws (said (flt (length xs + n) (2 ^ 63))) (elements_shared u8 xs b o)
    (said_shr_laws (flt (length xs + n) (2 ^ 63)) tt) (elements_shr_laws u8 (uint_row_laws w8) xs b o)
bytes_lent_laws null_ptr xs n = said_shr_laws ffalse tt

module _ {M : Type 1} {𝓤 : Ura M} (𝓛 : Logic 𝓤) (l : Lft) (inc : Incl l u8.lives) where
  byte_shares : Shares 𝓛 u8 l
  byte_shares = Shares-less 𝓛 u8 u8.lives l inc ((copy_shared u8-field u8-copy).shares M 𝓤 𝓛)

  Lends-row : (xs : List ℕ) (b o : ℕ) → Lends 𝓛 (row u8 full_share xs b o) (elements_shared u8 xs b o) l
  Lends-row xs b o κ ts within span = shares_each 𝓛 u8 (shared_of u8) l byte_shares xs κ ts b o within span

  pub Lends-bytes : (p : Ptr) (xs : List ℕ) (n : ℕ) → Lends 𝓛 (bytes_own p xs n) (bytes_lent p xs n) l
  Lends-bytes (block_ptr b o) xs n =
      let small = flt (length xs + n) (2 ^ 63) in
      let Held = row u8 full_share xs b o in
      let Room = froom (bytes_type n) b (o + length xs) in
      Lends-both 𝓛 small (fsep Held Room) (said small) (elements_shared u8 xs b o) l (Lends-said 𝓛 small tt l)
      (Lends-first 𝓛 Held Room (elements_shared u8 xs b o) l (Lends-row xs b o))
  Lends-bytes null_ptr xs n = Lends-false 𝓛 (said ffalse) l
