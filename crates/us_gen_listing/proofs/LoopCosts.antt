-- The steps of the loops over the levels of a part, where no number of positions is above a number.
use Rattle.std.proofs.Common.{◌≡◌, ℕ, suc, ◌+◌, ◌*◌, ◌≤◌, List, [], ◌∷◌, ◌++◌, map, length, drop, refl, ap, ◌∙◌, arith, mul-le-mul_right}
use Rattle.std.specs.List.{sum}
use Rattle.us_format.specs.declared.Kind.{Kind}
use Rattle.us_format.specs.declared.Kind.TheVariants as kinds
use Rattle.us_format.specs.Kinds.{Level}
use Rattle.us_format.specs.Packs.{written}
use Rattle.us_format.specs.Positions.{Row, count_below, counts, down}
use Rattle.us_format.specs.Buffers.{buffers_at, crd_buffer, level_buffers}
use Rattle.us_format.specs.Climb.{width}
use Rattle.us_format.proofs.Climb.{length-written}
use Rattle.us_format_loops.specs.Nodes.{count_after}
use Rattle.us_format_loops.proofs.Small.{sum-first}
use Rattle.us_code.specs.Run.{Env, size_of}
use Rattle.us_gen_walk.specs.declared.places.Column.{Column}
use Rattle.us_gen_walk.specs.declared.places.Column.TheVariants as column
use Rattle.us_gen_walk.specs.declared.places.Loop.{Loop}
use Rattle.us_gen_walk.specs.declared.places.Loop.TheVariants as over
use Rattle.us_gen_walk.specs.declared.places.Slot.{Slot}
use Rattle.us_gen_walk.specs.Runs.{HasLoop, HasLevels, read_cost, loop_cost}

pub read-few : (c : Column) → read_cost c ≤ 2
read-few (column.Own k) = omega arith
read-few (column.Packed k w digit) = omega arith

-- the numbers of positions are counted
pub after-counted : (ls : List Level) (n : ℕ) (rows : List Row) → count_after ls n rows ≤ n + sum (counts ls n rows)
after-counted [] n rows = omega arith
after-counted (l ∷ ls) n rows =
    omega (
      arith,
      after-counted ls (count_below l.kind l.size n rows) (down l.kind l.size rows),
      sum-first (count_below l.kind l.size n rows) (counts ls (count_below l.kind l.size n rows) (down l.kind l.size rows)),
    )

pub below-counted : (l : Level) (ls : List Level) (n : ℕ) (rows : List Row) → count_after (l ∷ ls) n rows ≤ sum (counts (l ∷ ls) n rows)
below-counted l ls n rows =
    omega (
      arith,
      after-counted ls (count_below l.kind l.size n rows) (down l.kind l.size rows),
      sum-first (count_below l.kind l.size n rows) (counts ls (count_below l.kind l.size n rows) (down l.kind l.size rows)),
    )

module _ (env : Env) (slots : List Slot) (T : ℕ) where
  -- what is known of the loops behind one
  abbrev Behind : List Loop → List Level → Type 0
  Behind loops ls =
      (n : ℕ) (rows : List Row) → HasLevels env loops slots ls (map written (level_buffers ls n rows)) → n ≤ T → sum (counts ls n rows) ≤ T → loop_cost env loops n ≤ 10 * (length loops * T)

  full : (x : ℕ → ℕ) (n size real rest k : ℕ) → real ≡ size → n ≤ T → n * size ≤ T → x (n * size) ≤ 10 * (k * T) → rest ≡ x (n * real) → n + n * real + rest ≤ 10 * (suc k * T)
  full x n size real rest k e a b c r =
      let same : n * real ≡ n * size = ap (λ z. n * z) e in
      let back : x (n * real) ≡ x (n * size) = ap x same in
      omega (arith, a, b, c, r, same, back)

  nodes : (x : ℕ → ℕ) (n count real rest k read : ℕ) → real ≡ count → read ≤ 2 → n ≤ T → count ≤ T → x count ≤ 10 * (k * T) → rest ≡ x real → 7 * n + (1 + read) * real + rest ≤ 10 * (suc k * T)
  nodes x n count real rest k read e few a b c r =
      let back : x real ≡ x count = ap x e in
      let most : (1 + read) * real ≤ 3 * real = mul-le-mul_right real (omega (arith, few)) in
      omega (arith, a, b, c, r, e, back, most)

  one : (x : Loop) (loops : List Loop) (ls : List Level) (size : ℕ) (kd : Kind) (n : ℕ) (rows : List Row)
      → HasLoop env x kd size (map written (buffers_at kd size n rows ++ level_buffers ls (count_below kd size n rows) (down kd size rows)))
      → HasLevels env loops slots ls (drop (width kd) (map written (buffers_at kd size n rows ++ level_buffers ls (count_below kd size n rows) (down kd size rows))))
      → n ≤ T → sum (count_below kd size n rows ∷ counts ls (count_below kd size n rows) (down kd size rows)) ≤ T → Behind loops ls
      → loop_cost env (x ∷ loops) n ≤ 10 * (suc (length loops) * T)
  one (over.Full dim low) loops ls size kinds.Full n rows h rest a b ih =
      let s : sum (n * size ∷ counts ls (n * size) (down kinds.Full size rows)) ≡ n * size + sum (counts ls (n * size) (down kinds.Full size rows)) = sum-first (n * size) (counts ls (n * size) (down kinds.Full size rows)) in
      full (λ z. loop_cost env loops z) n size (size_of env dim) (loop_cost env loops (n * size_of env dim)) (length loops) h a (omega (arith, b, s)) (ih (n * size) (down kinds.Full size rows) rest (omega (arith, b, s)) (omega (arith, b, s))) refl
  one (over.Full dim low) loops ls size kinds.Compressed n rows h rest a b ih = absurd h
  one (over.Full dim low) loops ls size kinds.Listed n rows h rest a b ih = absurd h
  one (over.Full dim low) loops ls size kinds.Slot n rows h rest a b ih = absurd h
  one (over.Nodes k more dim crd low) loops ls size kinds.Full n rows h rest a b ih = absurd h
  one (over.Nodes k more dim crd low) loops ls size kinds.Compressed n rows h rest a b ih =
      let s : sum (count_below kinds.Compressed size n rows ∷ counts ls (count_below kinds.Compressed size n rows) (down kinds.Compressed size rows))
      ≡ count_below kinds.Compressed size n rows + sum (counts ls (count_below kinds.Compressed size n rows) (down kinds.Compressed size rows))
      = sum-first (count_below kinds.Compressed size n rows) (counts ls (count_below kinds.Compressed size n rows) (down kinds.Compressed size rows)) in
      nodes (λ z. loop_cost env loops z) n (count_below kinds.Compressed size n rows) (size_of env dim) (loop_cost env loops (size_of env dim)) (length loops) (read_cost crd)
      (h.number ∙ length-written (crd_buffer kinds.Compressed size n rows)) (read-few crd) a (omega (arith, b, s))
      (ih (count_below kinds.Compressed size n rows) (down kinds.Compressed size rows) rest (omega (arith, b, s)) (omega (arith, b, s))) refl
  one (over.Nodes k more dim crd low) loops ls size kinds.Listed n rows h rest a b ih =
      let s : sum (count_below kinds.Listed size n rows ∷ counts ls (count_below kinds.Listed size n rows) (down kinds.Listed size rows))
      ≡ count_below kinds.Listed size n rows + sum (counts ls (count_below kinds.Listed size n rows) (down kinds.Listed size rows))
      = sum-first (count_below kinds.Listed size n rows) (counts ls (count_below kinds.Listed size n rows) (down kinds.Listed size rows)) in
      nodes (λ z. loop_cost env loops z) n (count_below kinds.Listed size n rows) (size_of env dim) (loop_cost env loops (size_of env dim)) (length loops) (read_cost crd)
      (h.number ∙ length-written (crd_buffer kinds.Listed size n rows)) (read-few crd) a (omega (arith, b, s))
      (ih (count_below kinds.Listed size n rows) (down kinds.Listed size rows) rest (omega (arith, b, s)) (omega (arith, b, s))) refl
  one (over.Nodes k more dim crd low) loops ls size kinds.Slot n rows h rest a b ih = absurd h

  pub loops-few : (loops : List Loop) (ls : List Level) → Behind loops ls
  loops-few [] ls n rows h a b = omega arith
  loops-few (x ∷ loops) [] n rows h a b = absurd h
  loops-few (x ∷ loops) (l ∷ ls) n rows h a b = one x loops ls l.size l.kind n rows h.0 h.1 a b (loops-few loops ls)
