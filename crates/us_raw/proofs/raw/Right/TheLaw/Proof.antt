-- A `&` to the right lends nothing. Assumes `Logic`.
use denote.RattleType.{RattleType}
use denote.RawPtr.{RawPtr}
use denote.Param.Laws.{Laws}
use denote.Param.Shared.{copy_shared}
use denote.SharingLaws.{nothing_shr_laws}
use denote.Struct.Laws.{field_copy}
use denote.Struct.Lending.{of_Lends, Lends-nothing}
use Rattle.core.specs.declared.alloc.Allocator.{Ghosts}
use Rattle.core.specs.contracts.marker.PhantomData as phantom
use Rattle.us_raw.specs.contracts.raw.Right as right
use Rattle.us_raw.proofs.raw.Right.TheLaw.Statement.{statement}

pub shares : (A : RattleType) (g : Ghosts A.Denot) (L : Laws A) → statement A g L
shares A g L =
    let codes = right.the_codes A.Denot A.coded (phantom.the_row RawPtr).coded in
    let marks = copy_shared (phantom.the_field RawPtr) (field_copy (phantom.the_type RawPtr) tt) in
    of_Lends (right.struct A g) codes (right.the_heap A g) (right.the_lent A g) (λ d p. nothing_shr_laws) (marks, tt)
    (λ M 𝓤 𝓛 d p. Lends-nothing 𝓛 (right.the_heap A g d) (right.the_row A g).lives)
