-- `new` lines and dim lines, one at a time.
use Rattle.std.proofs.Common.{◌≡◌, ℕ, ◌+◌, ◌<◌, ◌≤◌, List, [], ◌∷◌, Option, None, Result, Ok, Err, refl, sym, ap, ap₂, ◌∙◌, length, get_or, drop, map, arith, length-drop}
use Rattle.std.proofs.lemmas.List.{at_drop_all, drop_more}
use Rattle.std.specs.Result.{IsErrAnd}
use Rattle.us_code.specs.declared.program.Make.{Make}
use Rattle.us_code.specs.declared.program.DimLine.{DimLine}
use Rattle.us_code.specs.Plain.{LineTree, line_tree}
use Rattle.us_code.specs.Typing.{Context, with_buf, with_bufs, with_line, with_lines}
use Rattle.us_code.specs.Unbound.{Break, ◌or◌, broken_makes, broken_lines}
use Rattle.us_bounds.specs.declared.stop.Stop.{Stop}
use Rattle.us_bounds.specs.Steps.{Leads, Ahead}
use Rattle.us_bounds.proofs.Leading.{or_assoc, leads_none, leads_number, leads_seen, ahead_as, ahead_end, ahead_stop}

-- ---- `new` lines

makes_first : (g : Context) (i : ℕ) (m : Make) (ms : List Make) → broken_makes g i (m ∷ ms) ≡ broken_makes g i (m ∷ []) or broken_makes (with_buf g m) (i + 1) ms
makes_first g i m ms = sym (or_assoc _ None (broken_makes (with_buf g m) (i + 1) ms))

module _ {o : Option Break} {n : ℕ} {h : Context} (ms : List Make) (k : ℕ) (lt : k < length ms) (g : Context) (i : ℕ) (d : Make)
    (a : Ahead o (broken_makes g i (drop k ms)) n (i + length (drop k ms)) h (with_bufs g (drop k ms))) where
  makes_cut : Ahead o (broken_makes g i (get_or ms k d ∷ []) or broken_makes (with_buf g (get_or ms k d)) (i + 1) (drop (k + 1) ms)) n (i + 1 + length (drop (k + 1) ms)) h (with_bufs (with_buf g (get_or ms k d)) (drop (k + 1) ms))
  makes_cut =
      let m = get_or ms k d in
      let cut = drop_more ms k d lt in
      ahead_as a (ap (broken_makes g i) cut ∙ makes_first g i m (drop (k + 1) ms))
      (ap (λ (x : List Make). i + length x) cut ∙ omega arith)
      (ap (with_bufs g) cut)

  pub makes_more : (new : Context) (next : ℕ) → Leads (broken_makes g i (get_or ms k d ∷ [])) (i + 1) (with_buf g (get_or ms k d)) new (Ok next) → Ahead o (broken_makes new next (drop (k + 1) ms)) n (next + length (drop (k + 1) ms)) h (with_bufs new (drop (k + 1) ms))
  makes_more new next l =
      ahead_as makes_cut
      (ap (λ (x : Option Break). x or broken_makes (with_buf g (get_or ms k d)) (i + 1) (drop (k + 1) ms)) (leads_none l) ∙ ap₂ (λ (x : Context) (y : ℕ). broken_makes x y (drop (k + 1) ms)) (sym (leads_seen l)) (sym (leads_number l)))
      (ap (λ (x : ℕ). x + length (drop (k + 1) ms)) (sym (leads_number l)))
      (ap (λ (x : Context). with_bufs x (drop (k + 1) ms)) (sym (leads_seen l)))

  pub makes_stop : (new new' : Context) (r : Result ℕ Stop) {e : Stop} → IsErrAnd r (λ y. y ≡ e) → Leads (broken_makes g i (get_or ms k d ∷ [])) (i + 1) (with_buf g (get_or ms k d)) new (Err e) → Leads o n h new' r
  makes_stop new new' r x l = ahead_stop (broken_makes (with_buf g (get_or ms k d)) (i + 1) (drop (k + 1) ms)) new' r x makes_cut l

pub makes_start : (g : Context) (ms : List Make) → Ahead (broken_makes g 0 ms) (broken_makes g 0 ms) (length ms) (0 + length ms) (with_bufs g ms) (with_bufs g ms)
makes_start g ms = record { breaks = refl; number = omega arith; seen = refl }

-- there is room for one line more
pub makes_room : {o o' : Option Break} {n : ℕ} {h h' : Context} (i : ℕ) (ms : List Make) (k : ℕ) → k < length ms → Ahead o o' n (i + length (drop k ms)) h h' → n ≤ 65536 → i + 1 ≤ 65536
makes_room i ms k lt a b = let l = length-drop k ms in omega (arith, l, a.number)

pub makes_end : {o : Option Break} {n next : ℕ} {h new : Context} (ms : List Make) (k : ℕ) → length ms ≤ k → Ahead o (broken_makes new next (drop k ms)) n (next + length (drop k ms)) h (with_bufs new (drop k ms)) → Leads o n h new (Ok next)
makes_end {o} {n} {next} {h} {new} ms k e a =
    ahead_end (ahead_as a (at_drop_all (broken_makes new next) ms k e) (at_drop_all (λ (l : List Make). next + length l) ms k e ∙ omega arith) (at_drop_all (with_bufs new) ms k e))

-- ---- dim lines

lines_first : (g : Context) (i : ℕ) (l : LineTree) (ls : List LineTree) → broken_lines g i (l ∷ ls) ≡ broken_lines g i (l ∷ []) or broken_lines (with_line g l) (i + 1) ls
lines_first g i l ls = sym (or_assoc _ None (broken_lines (with_line g l) (i + 1) ls))

module _ {o : Option Break} {n : ℕ} {h : Context} (ls : List DimLine) (k : ℕ) (lt : k < length ls) (g : Context) (i : ℕ) (d : DimLine) (same : d ≡ get_or ls k d)
    (a : Ahead o (broken_lines g i (map line_tree (drop k ls))) n (i + length (drop k ls)) h (with_lines g (map line_tree (drop k ls)))) where
  others : List LineTree
  others = map line_tree (drop (k + 1) ls)

  lines_cut : Ahead o (broken_lines g i (line_tree d ∷ []) or broken_lines (with_line g (line_tree d)) (i + 1) others) n (i + 1 + length (drop (k + 1) ls)) h (with_lines (with_line g (line_tree d)) others)
  unfolding others
  lines_cut =
      let cut = drop_more ls k d lt ∙ ap (λ (x : DimLine). x ∷ drop (k + 1) ls) (sym same) in
      ahead_as a (ap (λ (x : List DimLine). broken_lines g i (map line_tree x)) cut ∙ lines_first g i (line_tree d) others)
      (ap (λ (x : List DimLine). i + length x) cut ∙ omega arith)
      (ap (λ (x : List DimLine). with_lines g (map line_tree x)) cut)

  pub lines_more : (new : Context) (next : ℕ) → Leads (broken_lines g i (line_tree d ∷ [])) (i + 1) (with_line g (line_tree d)) new (Ok next) → Ahead o (broken_lines new next (map line_tree (drop (k + 1) ls))) n (next + length (drop (k + 1) ls)) h (with_lines new (map line_tree (drop (k + 1) ls)))
  unfolding others
  lines_more new next l =
      ahead_as lines_cut
      (ap (λ (x : Option Break). x or broken_lines (with_line g (line_tree d)) (i + 1) others) (leads_none l) ∙ ap₂ (λ (x : Context) (y : ℕ). broken_lines x y others) (sym (leads_seen l)) (sym (leads_number l)))
      (ap (λ (x : ℕ). x + length (drop (k + 1) ls)) (sym (leads_number l)))
      (ap (λ (x : Context). with_lines x others) (sym (leads_seen l)))

  pub lines_stop : (new new' : Context) (r : Result ℕ Stop) {e : Stop} → IsErrAnd r (λ y. y ≡ e) → Leads (broken_lines g i (line_tree d ∷ [])) (i + 1) (with_line g (line_tree d)) new (Err e) → Leads o n h new' r
  lines_stop new new' r x l = ahead_stop (broken_lines (with_line g (line_tree d)) (i + 1) others) new' r x lines_cut l

pub lines_start : (g : Context) (i : ℕ) (ls : List DimLine) → Ahead (broken_lines g i (map line_tree ls)) (broken_lines g i (map line_tree ls)) (i + length ls) (i + length ls) (with_lines g (map line_tree ls)) (with_lines g (map line_tree ls))
lines_start g i ls = record { breaks = refl; number = refl; seen = refl }

pub lines_room : {o o' : Option Break} {n : ℕ} {h h' : Context} (i : ℕ) (ls : List DimLine) (k : ℕ) → k < length ls → Ahead o o' n (i + length (drop k ls)) h h' → n ≤ 65536 → i + 1 ≤ 65536
lines_room i ls k lt a b = let l = length-drop k ls in omega (arith, l, a.number)

pub lines_end : {o : Option Break} {n next : ℕ} {h new : Context} (ls : List DimLine) (k : ℕ) → length ls ≤ k → Ahead o (broken_lines new next (map line_tree (drop k ls))) n (next + length (drop k ls)) h (with_lines new (map line_tree (drop k ls))) → Leads o n h new (Ok next)
lines_end {o} {n} {next} {h} {new} ls k e a =
    ahead_end (ahead_as a (at_drop_all (λ (l : List DimLine). broken_lines new next (map line_tree l)) ls k e) (at_drop_all (λ (l : List DimLine). next + length l) ls k e ∙ omega arith) (at_drop_all (λ (l : List DimLine). with_lines new (map line_tree l)) ls k e))
