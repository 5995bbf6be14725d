-- A `&` to the owner lends its bytes, and no room. Assumes `Logic`.
use mathlib.Core.List.{[]}
use base.Fml.{Incl-refl}
use denote.RawPtr.{RawPtr}
use denote.Param.Shared.{copy_shared}
use denote.Struct.Laws.{field_copy}
use denote.Struct.Lending.{of_Lends}
use Rattle.core.specs.contracts.marker.PhantomData as phantom
use Rattle.us_raw.specs.contracts.raw.Bytes as bytes
use Rattle.us_raw.proofs.raw.Bytes.TheLaw.Statement.{statement}
use Rattle.us_raw.proofs.Sharing.{bytes_lent_laws, Lends-bytes}

pub shares : statement
shares =
    let codes = bytes.the_codes (phantom.the_row RawPtr).coded in
    let marks = copy_shared (phantom.the_field RawPtr) (field_copy (phantom.the_type RawPtr) tt) in
    of_Lends bytes.struct codes bytes.the_heap bytes.the_lent (λ d p. bytes_lent_laws d.at d.written d.room) (marks, tt)
    (λ M 𝓤 𝓛 d p. Lends-bytes 𝓛 bytes.the_row.lives (Incl-refl []) d.at d.written d.room)
