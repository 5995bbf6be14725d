-- What a reader stands for, with some more bytes.
use Rattle.std.proofs.Common.{◌≡◌, ℕ, suc, ◌+◌, ◌-◌, ◌<◌, ◌≤◌, ◌^◌, ◌==◌, ◌⊎◌, min, Bool, true, false, List, [], ◌∷◌, ◌++◌, length, get_or, take, drop, map, Option, Some, None, is_some, Ok, Err, Result, All, inl, inr, refl, sym, ap, subst, ◌∙◌, arith, append_assoc, append-nil, length-append}
use Rattle.std.specs.Str.Lines.{strip_carriage_return}
use Rattle.std.proofs.lemmas.Bool.{false≢true}
use Rattle.std.proofs.lemmas.Bool.Decides.{nat_tests}
use Rattle.std.proofs.lemmas.Grind.{flat_map-append}
use Rattle.std.proofs.lemmas.List.{length-map, map-append, take_rest, take_at, get_or_at, get_or_append_left}
use Rattle.std.proofs.Math.Seq.{drop-append-add}
use Rattle.std.proofs.lemmas.List.Elements.{All-append}
use Rattle.us_mm_lines.proofs.LineLemmas.{split_at_place, lines_first, lines_last, lines-nil}
use Rattle.us_mm_lines.specs.Lines.{lines}
use Rattle.us_mm_lines.specs.States.{IsLineState}
use Rattle.us_mm.specs.declared.fault.MmFault.{MmFault}
use Rattle.us_mm.specs.declared.fault.MmFault.TheVariants.{Memory, Header, SizeLine}
use Rattle.us_mm.specs.declared.form.Form.{Form}
use Rattle.us_mm.specs.declared.pieces.Pieces.{Pieces}
use Rattle.us_mm.specs.Reads.{◌>>=◌, read_lines, reading_of, matrix_in, header_of}
use Rattle.us_matrix.specs.declared.matrix.Triple.{Triple}
use Rattle.us_matrix.specs.Map.{matrix_of}
use Rattle.us_mm.specs.Views.{IsFaultOf}
use Rattle.us_mm.specs.Readers.{HasRest}
use Rattle.us_mm_lines.proofs.CountLemmas.{few_lines}
use Rattle.us_mm.specs.Arrays.{array_lines, array_in, array_header_of}
use Rattle.us_mm_lines.specs.Words.{words}
use Rattle.us_mm.specs.Known.{Fails, HasForm, HasArray, Took}
use Rattle.us_mm.proofs.KnowsLemmas.{form_end, array_end}
use Rattle.us_mm.specs.Stages.{Knows, is_array}
use Rattle.us_mm.specs.Pieces.{joined, HasNoFeed, Keeps, Holds, IsLost, Goes, Ended, IsCounted}

-- ---- in general

pub goes_none : (r : Pieces) → Goes r r []
goes_none r = record { lost = λ l. l; more = λ array bytes lt h. inr (rw (append-nil bytes) h) }

pub goes_then : (a b c : Pieces) (x y : List ℕ) → Goes a b x → Goes b c y → Goes a c (x ++ y)
goes_then a b c x y p q = record {
  lost = λ l. q.lost (p.lost l);
  more = λ array bytes lt h.
      elim (p.more array bytes (omega (arith, lt, length-append x y)) h) [
        | inl gone ↦ inl (q.lost gone)
        | inr holds ↦
            elim (q.more array (bytes ++ x) (omega (arith, lt, length-append x y, length-append bytes x)) holds) [
              | inl gone ↦ inl gone
              | inr both ↦ inr (subst (Holds array c) (append_assoc bytes x y) both)
            ]
      ];
}

-- some of a piece is read
pub record Fed (old new : Pieces) (piece left : List ℕ) : Type 0 where
  pub done : List ℕ
  pub whole : piece ≡ done ++ left
  pub goes : Goes old new done

pub fed_none : (r : Pieces) (piece : List ℕ) → Fed r r piece piece
fed_none r piece = record { done = []; whole = refl; goes = goes_none r }

pub fed_more : (a b c : Pieces) (piece left front rest : List ℕ) → Fed a b piece left → left ≡ front ++ rest → Goes b c front → Fed a c piece rest
fed_more a b c piece left front rest f e g = record {
  done = f.done ++ front;
  whole = f.whole ∙ ap (λ l. f.done ++ l) e ∙ sym (append_assoc f.done front rest);
  goes = goes_then a b c f.done front f.goes g;
}

pub fed_all : (a b c : Pieces) (piece left : List ℕ) → Fed a b piece left → Goes b c left → Goes a c piece
fed_all a b c piece left f g = subst (Goes a c) (sym f.whole) (goes_then a b c f.done left f.goes g)

-- ---- a kept fault

keeps_longer : (array : Bool) (r : Pieces) (o : Option MmFault) (ended : List (List ℕ)) (rest left : List ℕ) → is_some o ≡ true → Keeps array r o ended rest → Keeps array r o ended (rest ++ left)
keeps_longer array r None ended rest left h k = absurd (false≢true h)
keeps_longer array r (Some f) ended rest left h k = k

pub goes_faulted : (r : Pieces) (left : List ℕ) → is_some r.fault ≡ true → Goes r r left
goes_faulted r left some = record {
  lost = λ l. l;
  more = λ array bytes lt h.
      inr (record {
        ended = h.ended;
        rest = h.rest ++ left;
        whole = ap (λ l. l ++ left) h.whole ∙ append_assoc (joined h.ended) h.rest left;
        feeds = h.feeds;
        keeps = keeps_longer array r r.fault h.ended h.rest left some h.keeps;
      });
}

-- ---- a rest without a line feed

not_lost : (r : Pieces) → r.fault ≡ None → IsLost r → ⊥
not_lost r none lost = of r.fault none lost
  where
    of : (o : Option MmFault) → o ≡ None → o ≡ Some Memory → ⊥
    of None h k = cc
    of (Some f) h k = cc

known : (array : Bool) (r : Pieces) (ended : List (List ℕ)) (rest : List ℕ) → r.fault ≡ None → Keeps array r r.fault ended rest → Keeps array r None ended rest
known array r ended rest none k = subst (λ o. Keeps array r o ended rest) none k

pub goes_rest : (r n : Pieces) (left : List ℕ) → r.fault ≡ None → n.fault ≡ None → n.stage ≡ r.stage → n.lines ≡ r.lines → HasNoFeed left → ((rest : List ℕ) → IsLineState r.line rest → IsLineState n.line (rest ++ left)) → Goes r n left
goes_rest r n left none still stage lines feeds line = record {
  lost = λ l. absurd (not_lost r none l);
  more = λ array bytes lt h.
      let k = known array r h.ended h.rest none h.keeps in
      inr (record {
        ended = h.ended;
        rest = h.rest ++ left;
        whole = ap (λ l. l ++ left) h.whole ∙ append_assoc (joined h.ended) h.rest left;
        feeds = h.feeds;
        keeps =
            subst (λ o. Keeps array n o h.ended (h.rest ++ left)) (sym still)
            (subst (λ s. Knows s (map strip_carriage_return h.ended)) (sym stage) k.0, ap is_array stage ∙ k.1, lines ∙ k.2, All-append (λ b. (b == 10) ≡ false) h.rest left k.3 feeds, line h.rest k.4);
      });
}

-- ---- a line that is ended

length_joined : (ended : List (List ℕ)) → length ended ≤ length (joined ended)
length_joined [] = omega arith
length_joined (l ∷ ended) = omega (arith, length-append (l ++ 10 ∷ []) (joined ended), length-append l (10 ∷ []), length_joined ended)

few_before : (bytes piece rest : List ℕ) (ended : List (List ℕ)) → bytes ≡ joined ended ++ rest → length bytes + length (piece ++ 10 ∷ []) < 2 ^ 64 → length ended + 1 < 2 ^ 64
few_before bytes piece rest ended e lt = omega (arith, lt, ap length e, length-append (joined ended) rest, length_joined ended, length-append piece (10 ∷ []))

exact : (n lines count : ℕ) → n ≡ min (lines + 1) (2 ^ 64 - 1) → lines ≡ count → count + 1 < 2 ^ 64 → n ≡ count + 1
exact n lines count e same lt = omega arith

one_more : (bytes piece rest : List ℕ) (ended : List (List ℕ)) → bytes ≡ joined ended ++ rest → bytes ++ (piece ++ 10 ∷ []) ≡ joined (ended ++ (rest ++ piece) ∷ []) ++ []
one_more bytes piece rest ended e =
    ap (λ l. l ++ (piece ++ 10 ∷ [])) e
    ∙ append_assoc (joined ended) rest (piece ++ 10 ∷ [])
    ∙ ap (λ l. joined ended ++ l) (sym (append_assoc rest piece (10 ∷ [])))
    ∙ ap (λ l. joined ended ++ l) (sym (append-nil ((rest ++ piece) ++ 10 ∷ [])))
    ∙ sym (flat_map-append (λ l. l ++ 10 ∷ []) ended ((rest ++ piece) ∷ []))
    ∙ sym (append-nil (joined (ended ++ (rest ++ piece) ∷ [])))

lines_more : (ended : List (List ℕ)) (l : List ℕ) → map strip_carriage_return ended ++ strip_carriage_return l ∷ [] ≡ map strip_carriage_return (ended ++ l ∷ [])
lines_more ended l = sym (map-append strip_carriage_return ended (l ∷ []))

All-one : (P : List ℕ → Type 0) (l : List ℕ) → P l → All P (l ∷ [])
All-one P l h k d lt = of k (omega arith)
  where
    of : (j : ℕ) → j ≡ 0 → P (get_or (l ∷ []) j d)
    of j e = subst (λ i. P (get_or (l ∷ []) i d)) (sym e) h

feeds_more : (ended : List (List ℕ)) (rest piece : List ℕ) → All HasNoFeed ended → HasNoFeed rest → HasNoFeed piece → All HasNoFeed (ended ++ (rest ++ piece) ∷ [])
feeds_more ended rest piece a b c = All-append HasNoFeed ended ((rest ++ piece) ∷ []) a (All-one HasNoFeed (rest ++ piece) (All-append (λ b. (b == 10) ≡ false) rest piece b c))

no_feed : HasNoFeed []
no_feed k d lt = absurd (omega arith)

-- what the step of a line gives
abbrev pub IsStep : Pieces → Pieces → ℕ → List ℕ → Result (Unit {0}) MmFault → Type 0
IsStep old new number piece result =
    (rest : List ℕ) (ls : List (List ℕ)) → IsLineState old.line rest → Knows old.stage ls → number ≡ length ls + 1
    → Took (λ _. Knows new.stage (ls ++ strip_carriage_return (rest ++ piece) ∷ []) × (is_array new.stage ≡ is_array old.stage)) (is_array old.stage) result (ls ++ strip_carriage_return (rest ++ piece) ∷ [])

pub goes_line : (old mid new : Pieces) (number : ℕ) (piece : List ℕ) → old.fault ≡ None → new.fault ≡ None → HasNoFeed piece → number ≡ min (old.lines + 1) (2 ^ 64 - 1)
    → new.stage ≡ mid.stage → new.lines ≡ number → IsLineState new.line [] → IsStep old mid number piece (Ok tt) → Goes old new (piece ++ 10 ∷ [])
goes_line old mid new number piece none still feeds is stage lines line step = record {
  lost = λ l. absurd (not_lost old none l);
  more = λ array bytes lt h.
      let k = known array old h.ended h.rest none h.keeps in
      let count : number ≡ length h.ended + 1 = exact number old.lines (length h.ended) is k.2 (few_before bytes piece h.rest h.ended h.whole lt) in
      let at : number ≡ length (map strip_carriage_return h.ended) + 1 = count ∙ ap (λ n. n + 1) (sym (length-map h.ended strip_carriage_return)) in
      let took = step h.rest (map strip_carriage_return h.ended) k.4 k.0 at in
      inr (record {
        ended = h.ended ++ (h.rest ++ piece) ∷ [];
        rest = [];
        whole = one_more bytes piece h.rest h.ended h.whole;
        feeds = feeds_more h.ended h.rest piece h.feeds k.3 feeds;
        keeps =
            subst (λ o. Keeps array new o (h.ended ++ (h.rest ++ piece) ∷ []) []) (sym still)
            (subst (λ s. Knows s (map strip_carriage_return (h.ended ++ (h.rest ++ piece) ∷ []))) (sym stage) (subst (Knows mid.stage) (lines_more h.ended (h.rest ++ piece)) took.0), ap is_array stage ∙ took.1 ∙ k.1, lines ∙ count ∙ sym (length-append h.ended ((h.rest ++ piece) ∷ [])), no_feed, line);
      });
}

-- a fault, or want of memory
fault_or_lost : (array : Bool) (new : Pieces) (P : Unit {0} → Type 0) (f : MmFault) (ended : List (List ℕ)) (rest : List ℕ) → new.fault ≡ Some f → Took P array (Err f) (map strip_carriage_return ended)
    → IsLost new ⊎ Keeps array new new.fault ended rest
fault_or_lost array new P Memory ended rest e h = inl e
fault_or_lost array new P f ended rest e h = inr (subst (λ o. Keeps array new o ended rest) (sym e) h)

pub goes_fault : (old mid new : Pieces) (number : ℕ) (piece : List ℕ) (f : MmFault) → old.fault ≡ None → new.fault ≡ Some f → HasNoFeed piece → number ≡ min (old.lines + 1) (2 ^ 64 - 1)
    → IsStep old mid number piece (Err f) → Goes old new (piece ++ 10 ∷ [])
goes_fault old mid new number piece f none faulted feeds is step = record {
  lost = λ l. absurd (not_lost old none l);
  more = λ array bytes lt h.
      let k = known array old h.ended h.rest none h.keeps in
      let count : number ≡ length h.ended + 1 = exact number old.lines (length h.ended) is k.2 (few_before bytes piece h.rest h.ended h.whole lt) in
      let at : number ≡ length (map strip_carriage_return h.ended) + 1 = count ∙ ap (λ n. n + 1) (sym (length-map h.ended strip_carriage_return)) in
      let P : Unit {0} → Type 0 = λ _. Knows mid.stage (map strip_carriage_return h.ended ++ strip_carriage_return (h.rest ++ piece) ∷ []) × (is_array mid.stage ≡ is_array old.stage) in
      let took : Took P array (Err f) (map strip_carriage_return (h.ended ++ (h.rest ++ piece) ∷ [])) =
      subst (λ b. Took P b (Err f) (map strip_carriage_return (h.ended ++ (h.rest ++ piece) ∷ []))) k.1
      (subst (Took P (is_array old.stage) (Err f)) (lines_more h.ended (h.rest ++ piece)) (step h.rest (map strip_carriage_return h.ended) k.4 k.0 at)) in
      elim (fault_or_lost array new P f (h.ended ++ (h.rest ++ piece) ∷ []) [] faulted took) [
        | inl gone ↦ inl gone
        | inr keeps ↦ inr (record {
          ended = h.ended ++ (h.rest ++ piece) ∷ [];
          rest = [];
          whole = one_more bytes piece h.rest h.ended h.whole;
          feeds = feeds_more h.ended h.rest piece h.feeds k.3 feeds;
          keeps = keeps;
        })
      ];
}

-- ---- the start

pub holds_none : (r : Pieces) (array : Bool) → r.fault ≡ None → r.lines ≡ 0 → Knows r.stage [] → is_array r.stage ≡ array → IsLineState r.line [] → Holds array r []
holds_none r array none nought knows kind line = record {
  ended = [];
  rest = [];
  whole = refl;
  feeds = λ k d lt. absurd (omega arith);
  keeps = subst (λ o. Keeps array r o [] []) (sym none) (knows, kind, nought, no_feed, line);
}

pub none_left : (rest : List ℕ) → (length rest == 0) ≡ true → rest ≡ []
none_left [] h = refl
none_left (x ∷ rest) h = absurd (false≢true (sym (of (length rest)) ∙ h))
  where
    of : (n : ℕ) → (suc n == 0) ≡ false
    of n = grind (arith, nat_tests)

pub no_fault : (o : Option MmFault) → is_some o ≡ false → o ≡ None
no_fault None h = refl
no_fault (Some f) h = absurd (false≢true (sym h))

is_feed : (b : ℕ) → (b == 10) ≡ true → 10 ≡ b
is_feed b h = grind (arith, nat_tests)

-- the bytes round a line feed
pub cut_at : (left : List ℕ) (n : ℕ) → n < length left → (get_or left n 0 == 10) ≡ true → left ≡ (take n left ++ 10 ∷ []) ++ take (length left - (n + 1)) (drop (n + 1) left)
cut_at left n lt here =
    sym (split_at_place left n lt) ∙ ap (λ b. take n left ++ b ∷ drop (n + 1) left) (sym (is_feed (get_or left n 0) here))
    ∙ sym (append_assoc (take n left) (10 ∷ []) (drop (n + 1) left))
    ∙ ap (λ l. (take n left ++ 10 ∷ []) ++ l) (sym (take_rest left (n + 1)))

-- ---- the lines of what was read

lines_one : (l rest : List ℕ) → HasNoFeed l → lines ((l ++ 10 ∷ []) ++ rest) ≡ strip_carriage_return l ∷ lines rest
lines_one l rest clear =
    ap lines (append_assoc l (10 ∷ []) rest)
    ∙ lines_first (l ++ 10 ∷ rest) (length l) (omega (arith, length-append l (10 ∷ rest)))
    (λ k lt. ap (λ b. b == 10) (get_or_append_left l (10 ∷ rest) 0 k lt) ∙ clear k 0 lt) (ap (λ b. b == 10) (get_or_at l 10 rest 0 (length l) refl))
    ∙ ap (λ x. strip_carriage_return x ∷ lines (drop (length l + 1) (l ++ 10 ∷ rest))) (take_at l (10 ∷ rest) (length l) refl)
    ∙ ap (λ x. strip_carriage_return l ∷ lines x) (drop-append-add l (10 ∷ rest) 1)

first_clear : (l : List ℕ) (ended : List (List ℕ)) → All HasNoFeed (l ∷ ended) → HasNoFeed l × All HasNoFeed ended
first_clear l ended h = (h 0 l (omega arith), λ k d lt. h (suc k) d (omega arith))

pub lines_joined : (ended : List (List ℕ)) (rest : List ℕ) → All HasNoFeed ended → lines (joined ended ++ rest) ≡ map strip_carriage_return ended ++ lines rest
lines_joined [] rest h = refl
lines_joined (l ∷ ended) rest h =
    let parts = first_clear l ended h in
    ap lines (append_assoc (l ++ 10 ∷ []) (joined ended) rest) ∙ lines_one l (joined ended ++ rest) parts.0
    ∙ ap (λ ls. strip_carriage_return l ∷ ls) (lines_joined ended rest parts.1)

all_lines : (array : Bool) (r : Pieces) (bytes : List ℕ) (h : Holds array r bytes) → lines bytes ≡ map strip_carriage_return h.ended ++ lines h.rest
all_lines array r bytes h = ap lines h.whole ∙ lines_joined h.ended h.rest h.feeds

no_rest : (rest : List ℕ) → rest ≡ [] → lines rest ≡ []
no_rest rest h = ap lines h ∙ lines-nil

fails_more : (array : Bool) (f : MmFault) (ls more : List (List ℕ)) → Fails array f ls → Fails array f (ls ++ more)
fails_more false f ls more h = λ rest. ap read_lines (append_assoc ls more rest) ∙ h (more ++ rest)
fails_more true f ls more h = λ rest. ap array_lines (append_assoc ls more rest) ∙ h (more ++ rest)

ended_fault : (array : Bool) (r : Pieces) (f : MmFault) (ls : List (List ℕ)) → Fails array f ls → Ended array r (Err f) ls
ended_fault array r Memory ls h = tt
ended_fault array r f ls h = h

-- a kept fault
pub end_faulted : (array : Bool) (r n : Pieces) (bytes : List ℕ) (f : MmFault) → Holds array r bytes → r.fault ≡ Some f → Ended array n (Err f) (lines bytes)
end_faulted array r n bytes f h e =
    let k : Fails array f (map strip_carriage_return h.ended) = subst (λ o. Keeps array r o h.ended h.rest) e h.keeps in
    ended_fault array n f (lines bytes) (subst (Fails array f) (sym (all_lines array r bytes h)) (fails_more array f (map strip_carriage_return h.ended) (lines h.rest) k))

-- no rest
pub end_empty : (array : Bool) (r : Pieces) (bytes : List ℕ) → Holds array r bytes → r.fault ≡ None → ((rest : List ℕ) → IsLineState r.line rest → (length rest == 0) ≡ true) → Ended array r (Ok tt) (lines bytes)
end_empty array r bytes h none empty =
    let k = known array r h.ended h.rest none h.keeps in
    let all : lines bytes ≡ map strip_carriage_return h.ended = all_lines array r bytes h ∙ ap (λ ls. map strip_carriage_return h.ended ++ ls) (no_rest h.rest (none_left h.rest (empty h.rest k.4))) ∙ append-nil (map strip_carriage_return h.ended) in
    (subst (Knows r.stage) (sym all) k.0, k.1, k.2 ∙ sym (ap length all ∙ length-map h.ended strip_carriage_return))

some_left : (rest : List ℕ) → (length rest == 0) ≡ false → 0 < length rest
some_left rest h = grind (arith, nat_tests)

last_line : (rest : List ℕ) → HasNoFeed rest → (length rest == 0) ≡ false → lines rest ≡ strip_carriage_return rest ∷ []
last_line rest clear some = lines_last rest (some_left rest some) (λ k lt. clear k 0 lt)

few_ended : (bytes rest : List ℕ) (ended : List (List ℕ)) → bytes ≡ joined ended ++ rest → 0 < length rest → length bytes < 2 ^ 64 → length ended + 1 < 2 ^ 64
few_ended bytes rest ended e some lt = omega (arith, lt, ap length e, length-append (joined ended) rest, length_joined ended)

-- a last line without a line feed
pub end_line : (array : Bool) (r n : Pieces) (bytes : List ℕ) (number : ℕ) (result : Result (Unit {0}) MmFault) → length bytes < 2 ^ 64 → Holds array r bytes → r.fault ≡ None
    → ((rest : List ℕ) → IsLineState r.line rest → (length rest == 0) ≡ false) → number ≡ min (r.lines + 1) (2 ^ 64 - 1) → n.lines ≡ number
    → ((rest : List ℕ) (ls : List (List ℕ)) → IsLineState r.line rest → Knows r.stage ls → number ≡ length ls + 1
    → Took (λ _. Knows n.stage (ls ++ strip_carriage_return rest ∷ []) × (is_array n.stage ≡ is_array r.stage)) (is_array r.stage) result (ls ++ strip_carriage_return rest ∷ []))
    → Ended array n result (lines bytes)
end_line array r n bytes number result lt h none full is lines_are step =
    let k = known array r h.ended h.rest none h.keeps in
    let some = full h.rest k.4 in
    let count : number ≡ length h.ended + 1 = exact number r.lines (length h.ended) is k.2 (few_ended bytes h.rest h.ended h.whole (some_left h.rest some) lt) in
    let ls = map strip_carriage_return h.ended in
    let at : number ≡ length ls + 1 = count ∙ ap (λ n. n + 1) (sym (length-map h.ended strip_carriage_return)) in
    let all : lines bytes ≡ ls ++ strip_carriage_return h.rest ∷ [] = all_lines array r bytes h ∙ ap (λ l. ls ++ l) (last_line h.rest k.3 some) in
    subst (Ended array n result) (sym all) (of result (ls ++ strip_carriage_return h.rest ∷ []) (step h.rest ls k.4 k.0 at) k.1 (lines_are ∙ at ∙ sym (length-append ls (strip_carriage_return h.rest ∷ []))))
  where
    of : (o : Result (Unit {0}) MmFault) (ls : List (List ℕ)) → Took (λ _. Knows n.stage ls × (is_array n.stage ≡ is_array r.stage)) (is_array r.stage) o ls → is_array r.stage ≡ array → n.lines ≡ length ls → Ended array n o ls
    of (Ok x) ls t kind count = (t.0, t.1 ∙ kind, count)
    of (Err Memory) ls t kind count = tt
    of (Err f) ls t kind count = subst (λ a. Fails a f ls) kind t

-- ---- files that end before their size line

exact_end : (n lines count : ℕ) → n ≡ min (lines + 1) (2 ^ 64 - 1) → lines ≡ count → count + 1 < 2 ^ 64 → n ≡ count + 1
exact_end n lines count e same lt = omega arith

pub ends_header : (ls : List (List ℕ)) → ls ≡ [] → read_lines ls ≡ Err Header
ends_header ls h = ap read_lines h

pub ends_array_header : (ls : List (List ℕ)) → ls ≡ [] → array_lines ls ≡ Err Header
ends_array_header ls h = ap array_lines h

header_some : (first : List ℕ) (form : Form) → header_of first ≡ Ok form → 0 < length first
unfolding header_of words
header_some [] form h = absurd (cc)
header_some (x ∷ first) form h = omega arith

array_some : (first : List ℕ) → array_header_of first ≡ Ok tt → 0 < length first
unfolding array_header_of words
array_some [] h = absurd (cc)
array_some (x ∷ first) h = omega arith

pub ends_size : (form : Form) (ls : List (List ℕ)) (lines n : ℕ) → HasForm form ls → lines ≡ length ls → IsCounted ls → n ≡ min (lines + 1) (2 ^ 64 - 1) → read_lines ls ≡ Err (SizeLine n)
ends_size form ls lines n h e lt is = form_end form ls h ∙ ap (λ k. Err (SizeLine k)) (sym (exact_end n lines (length ls) is e (lt h.first h.body h.begun (header_some h.first form h.header))))

pub ends_sides : (ls : List (List ℕ)) (lines n : ℕ) → HasArray ls → lines ≡ length ls → IsCounted ls → n ≡ min (lines + 1) (2 ^ 64 - 1) → array_lines ls ≡ Err (SizeLine n)
ends_sides ls lines n h e lt is = array_end ls h ∙ ap (λ k. Err (SizeLine k)) (sym (exact_end n lines (length ls) is e (lt h.first h.body h.begun (array_some h.first h.header))))

-- ---- what a reader answers

pub rest_of : (array : Bool) (r : Pieces) (bytes : List ℕ) → Holds array r bytes → r.fault ≡ None → HasRest r.line bytes
rest_of array r bytes h none =
    let k = known array r h.ended h.rest none h.keeps in
    record { ended = h.ended; rest = h.rest; whole = h.whole; feeds = k.3; state = k.4 }

pub reads_matrix : (bytes : List ℕ) (rows cols : ℕ) (ts : List Triple) → read_lines (lines bytes) ≡ Ok (record { rows = rows; cols = cols; triples = ts }) → matrix_in bytes ≡ Ok (matrix_of rows cols ts)
unfolding reading_of
reads_matrix bytes rows cols ts h = ap (λ r. r >>= λ x. Ok (matrix_of x.rows x.cols x.triples)) h

pub reads_fault : (bytes : List ℕ) (f : MmFault) → read_lines (lines bytes) ≡ Err f → matrix_in bytes ≡ Err f
unfolding reading_of
reads_fault bytes f h = ap (λ r. r >>= λ x. Ok (matrix_of x.rows x.cols x.triples)) h

pub reads_grid : (bytes : List ℕ) → array_in bytes ≡ array_lines (lines bytes)
unfolding array_in
reads_grid bytes = refl

-- a fault in a line
pub fault_in : (r : Pieces) (bytes : List ℕ) (f : MmFault) → Ended false r (Err f) (lines bytes) → IsFaultOf f (matrix_in bytes)
fault_in r bytes Memory h = tt
fault_in r bytes f h = reads_fault bytes f (ap read_lines (sym (append-nil (lines bytes))) ∙ h [])

pub array_fault_in : (r : Pieces) (bytes : List ℕ) (f : MmFault) → Ended true r (Err f) (lines bytes) → IsFaultOf f (array_in bytes)
array_fault_in r bytes Memory h = tt
array_fault_in r bytes f h = reads_grid bytes ∙ ap array_lines (sym (append-nil (lines bytes))) ∙ h []

-- a fault at the end
pub fault_at_end : (bytes : List ℕ) (f : MmFault) → IsFaultOf f (read_lines (lines bytes)) → IsFaultOf f (matrix_in bytes)
fault_at_end bytes Memory h = tt
fault_at_end bytes f h = reads_fault bytes f h

pub few : (bytes : List ℕ) → length bytes < 2 ^ 64 → IsCounted (lines bytes)
few bytes lt first body e some = few_lines bytes first body e some lt
