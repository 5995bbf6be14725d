-- Stores in order, up to the first that isn't done.
use Rattle.std.proofs.Common.{◌≡◌, ℕ, ◌+◌, ◌-◌, ◌^◌, ◌<◌, ◌≤◌, min, List, [], ◌∷◌, ◌++◌, length, map, take, drop, get_or, Option, Some, None, IfSome, refl, sym, ap, ◌∙◌, subst, inl, inr, arith, drop-cons, add-one}
use Rattle.std.specs.Option.{option_map}
use Rattle.std.proofs.lemmas.List.{take_more, take_all, take-append-drop, map-append}
use Rattle.us_outside.specs.Causes.{Faults, NeverFell}
use Rattle.us_outside.specs.Files.{Files, stored}
use Rattle.us_outside.specs.declared.outside.Call.TheVariants.{Fetch}
use Rattle.us_status.specs.declared.status.Slot.{Slot}
use Rattle.us_status.specs.declared.status.Status.{Status}
use Rattle.us_status.specs.declared.status.Status.TheVariants.{Done, ReadFault, WriteFault, Memory}
use Rattle.us_status.specs.Uses.{Use}
use Rattle.us_status.specs.Answers.{IsAnswer, IsCaused, RoseAt, SomeUse, print_uses, store_use, writes}
use Rattle.us_status.specs.Stands.{Outcome, Store, Stands, StopsInStore, StopsInStores, after_stores}

-- the files before the k-th are stored
pub record Storing (ss : List Store) (k : ℕ) (before now : Option Files) (told tells : Option (List ℕ)) (rose rises : Faults) : Type 0 where
  pub files : IfSome before (λ fs. now ≡ Some (after_stores (take k ss) fs))
  pub printed : tells ≡ told
  pub later : NeverFell rose rises

none_stored : (ss : List Store) (o : Option Files) → IfSome o (λ fs. o ≡ Some (after_stores (take 0 ss) fs))
none_stored ss None = tt
none_stored ss (Some fs) = refl

same_counts : (a b : Faults) → b ≡ a → NeverFell a b
same_counts a b e call name =
    let same : b call name ≡ a call name = ap (λ (f : Faults). f call name) e in
    omega (arith, same)

pub storing_none : (ss : List Store) (before : Option Files) (told : Option (List ℕ)) (rose : Faults) → Storing ss 0 before before told told rose rose
storing_none ss before told rose = record { files = none_stored ss before; printed = refl; later = same_counts rose rose refl }

after_push : (xs : List Store) (s : Store) (fs : Files) → after_stores (xs ++ (s ∷ [])) fs ≡ stored s.name s.bytes (after_stores xs fs)
after_push [] s fs = refl
after_push (x ∷ xs) s fs = after_push xs s (stored x.name x.bytes fs)

more_stored : (ss : List Store) (k : ℕ) (s : Store) (before now now' : Option Files) → k < length ss → get_or ss k s ≡ s → now' ≡ option_map (stored s.name s.bytes) now
    → IfSome before (λ fs. now ≡ Some (after_stores (take k ss) fs)) → IfSome before (λ fs. now' ≡ Some (after_stores (take (k + 1) ss) fs))
more_stored ss k s None now now' lt at e h = tt
more_stored ss k s (Some fs) now now' lt at e h =
    e ∙ ap (option_map (stored s.name s.bytes)) h
    ∙ ap Some (sym (ap (λ xs. after_stores xs fs) (take_more ss k s lt ∙ ap (λ x. take k ss ++ (x ∷ [])) at) ∙ after_push (take k ss) s fs))

later_still : (a b c : Faults) → NeverFell a b → NeverFell b c → NeverFell a c
later_still a b c h k call name = omega (arith, h call name, k call name)

pub storing_more : (ss : List Store) (k : ℕ) (s : Store) (before now now' : Option Files) (told tells tells' : Option (List ℕ)) (rose rises rises' : Faults)
    → k < length ss → get_or ss k s ≡ s → now' ≡ option_map (stored s.name s.bytes) now → tells' ≡ tells → NeverFell rises rises'
    → Storing ss k before now told tells rose rises → Storing ss (k + 1) before now' told tells' rose rises'
storing_more ss k s before now now' told tells tells' rose rises rises' lt at e p l h = record {
  files = more_stored ss k s before now now' lt at e h.files;
  printed = p ∙ h.printed;
  later = later_still rose rises rises' h.later l;
}

pub all_stored : (ss : List Store) (k : ℕ) (before now : Option Files) → length ss ≤ k → IfSome before (λ fs. now ≡ Some (after_stores (take k ss) fs))
    → IfSome before (λ fs. now ≡ Some (after_stores ss fs))
all_stored ss k before now le h = subst (λ xs. IfSome before (λ fs. now ≡ Some (after_stores xs fs))) (take_all k ss le) h

-- the list in three pieces
pieces : (ss : List Store) (k : ℕ) (s : Store) → k < length ss → get_or ss k s ≡ s → take k ss ++ (s ∷ drop (k + 1) ss) ≡ ss
pieces ss k s lt at =
    ap (λ x. take k ss ++ (x ∷ drop (k + 1) ss)) (sym at) ∙ ap (λ n. take k ss ++ (get_or ss k s ∷ drop n ss)) (add-one k) ∙ ap (λ xs. take k ss ++ xs) (sym (drop-cons ss k s lt))
    ∙ take-append-drop k ss

stops_behind : (status : Status) (xs : List Store) (s : Store) (more : List Store) (fs : Files) (fs' : Option Files) → StopsInStore status s (after_stores xs fs) fs'
    → StopsInStores status (xs ++ (s ∷ more)) fs fs'
stops_behind status [] s more fs fs' h = inl h
stops_behind status (x ∷ xs) s more fs fs' h = inr (stops_behind status xs s more (stored x.name x.bytes fs) fs' h)

pub stops_there : (status : Status) (ss : List Store) (k : ℕ) (s : Store) (before now now' : Option Files) → k < length ss → get_or ss k s ≡ s
    → IfSome before (λ fs. now ≡ Some (after_stores (take k ss) fs)) → IfSome now (λ fs. StopsInStore status s fs now') → IfSome before (λ fs. StopsInStores status ss fs now')
stops_there status ss k s None now now' lt at h stops = tt
stops_there status ss k s (Some fs) now now' lt at h stops =
    subst (λ xs. StopsInStores status xs fs now') (pieces ss k s lt at)
    (stops_behind status (take k ss) s (drop (k + 1) ss) fs now' (subst (λ (o : Option Files). IfSome o (λ fs. StopsInStore status s fs now')) h stops))

some_behind : (P : Use → Type 0) (xs : List Use) (u : Use) (more : List Use) → SomeUse P (u ∷ []) → SomeUse P (xs ++ (u ∷ more))
some_behind P [] u more (inl h) = inl h
some_behind P [] u more (inr none) = absurd none
some_behind P (x ∷ xs) u more h = inr (some_behind P xs u more h)

rose_before : (a b c : ℕ) → a ≤ b → min (b + 1) (2 ^ 64 - 1) ≤ c → min (a + 1) (2 ^ 64 - 1) ≤ c
rose_before a b c h r = omega arith

-- a count that rose later rose
pub some_before : (X : Use → Type 0) (slot : Slot) (before middle now : Faults) (us : List Use) → NeverFell before middle → SomeUse (λ u. (u.slot ≡ slot) × X u × RoseAt middle now u) us
    → SomeUse (λ u. (u.slot ≡ slot) × X u × RoseAt before now u) us
some_before X slot before middle now [] later h = h
some_before X slot before middle now (u ∷ us) later (inl h) = inl (h.0, h.1, rose_before (before u.call u.name) (middle u.call u.name) (now u.call u.name) (later u.call u.name) h.2)
some_before X slot before middle now (u ∷ us) later (inr h) = inr (some_before X slot before middle now us later h)

caused_behind : (xs : List Use) (u : Use) (more : List Use) (before middle now : Faults) (status : Status) → NeverFell before middle → IsCaused (u ∷ []) middle now status
    → IsCaused (xs ++ (u ∷ more)) before now status
caused_behind xs u more before middle now (ReadFault slot) later h = some_behind (λ u. (u.slot ≡ slot) × (u.call ≡ Fetch) × RoseAt before now u) xs u more (some_before (λ u. u.call ≡ Fetch) slot before middle now (u ∷ []) later h)
caused_behind xs u more before middle now (WriteFault slot) later h = some_behind (λ u. (u.slot ≡ slot) × (u.call ≡ Fetch → ⊥) × RoseAt before now u) xs u more (some_before (λ u. u.call ≡ Fetch → ⊥) slot before middle now (u ∷ []) later h)
caused_behind xs u more before middle now status later h = tt

pub caused_there : (status : Status) (ss : List Store) (k : ℕ) (s : Store) (before middle now : Faults) → k < length ss → get_or ss k s ≡ s → NeverFell before middle
    → IsCaused (store_use s ∷ []) middle now status → IsCaused (map store_use ss) before now status
caused_there status ss k s before middle now lt at later h =
    subst (λ us. IsCaused us before now status) (sym (map-append store_use (take k ss) (s ∷ drop (k + 1) ss)) ∙ ap (map store_use) (pieces ss k s lt at))
    (caused_behind (map store_use (take k ss)) (store_use s) (map store_use (drop (k + 1) ss)) before middle now status later h)

pub some_in_front : (P : Use → Type 0) (us more : List Use) → SomeUse P us → SomeUse P (us ++ more)
some_in_front P [] more h = absurd h
some_in_front P (u ∷ us) more (inl h) = inl h
some_in_front P (u ∷ us) more (inr h) = inr (some_in_front P us more h)

-- a failed store is a cause, whatever is to be printed
pub store_caused : (o : Outcome) (before now : Faults) (status : Status) → IsCaused (map store_use o.stores) before now status → IsCaused (writes o) before now status
store_caused o before now (ReadFault slot) h = some_in_front _ (map store_use o.stores) (print_uses o.prints) h
store_caused o before now (WriteFault slot) h = some_in_front _ (map store_use o.stores) (print_uses o.prints) h
store_caused o before now status h = tt

-- so is a failed print
pub print_caused : (us : List Use) (u : Use) (before middle now : Faults) (status : Status) → NeverFell before middle → IsCaused (u ∷ []) middle now status → IsCaused (us ++ (u ∷ [])) before now status
print_caused us u before middle now status later h = caused_behind us u [] before middle now status later h

none_stops : (ss : List Store) (fs : Files) (fs' : Option Files) → StopsInStores Done ss fs fs' → ⊥
none_stops [] fs fs' h = h
none_stops (s ∷ ss) fs fs' (inl h) = h
none_stops (s ∷ ss) fs fs' (inr h) = none_stops ss (stored s.name s.bytes fs) fs' h

stops_stands : (o : Outcome) (status : Status) (fs : Files) (fs' : Option Files) (printed printed' : Option (List ℕ)) → IsAnswer [] Done status → StopsInStores status o.stores fs fs' → printed' ≡ printed
    → Stands o status fs printed fs' printed'
stops_stands o Done fs fs' printed printed' a h p = absurd (none_stops o.stores fs fs' h)
stops_stands o Memory fs fs' printed printed' a h p = inr (inl (h, p))
stops_stands o (WriteFault slot) fs fs' printed printed' a h p = inl (h, p)
stops_stands o (ReadFault slot) fs fs' printed printed' a h p = absurd a
stops_stands o status fs fs' printed printed' a h p = cc

-- a run that stopped at a store
pub store_stands : (o : Outcome) (status : Status) (before now : Option Files) (printed printed' : Option (List ℕ)) → IsAnswer [] Done status
    → IfSome before (λ fs. StopsInStores status o.stores fs now) → printed' ≡ printed → IfSome before (λ fs. Stands o status fs printed now printed')
store_stands o status None now printed printed' a h p = tt
store_stands o status (Some fs) now printed printed' a h p = stops_stands o status fs now printed printed' a h p
