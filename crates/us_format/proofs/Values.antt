-- The value at the last position of an entry is its value, and elsewhere 0.
use Rattle.std.proofs.Common.{◌≡◌, ℕ, ◌<◌, List, [], ◌∷◌, map, length, pos, sym, ap, ◌∙◌}
use Rattle.us_format.proofs.Order.{Mem, Mem-map, Mem-of_map}
use Rattle.us_format.proofs.Climb.{Placed, SlotsTell, placed-down, drop-width, cell-written, cell_of-found, cell_of-none, length-written, no-rest}
use Rattle.us_format.specs.Buffers.{level_buffers, val_buffer}
use Rattle.us_format.specs.Climb.{values}
use Rattle.us_format.specs.Kinds.{Level}
use Rattle.us_format.specs.Lists.{cell}
use Rattle.us_format.specs.Packs.{written}
use Rattle.us_format.specs.Positions.{Row, count_below, down, last_place, moved}

abbrev pub last_count : List Level → ℕ → List Row → ℕ
last_count [] n rows = n
last_count (l ∷ ls) n rows = last_count ls (count_below l.kind l.size n rows) (down l.kind l.size rows)

pub values-length : (ls : List Level) (n : ℕ) (rows : List Row) → length (values ls (map written (level_buffers ls n rows))) ≡ last_count ls n rows
values-length [] n rows = length-written (val_buffer n rows)
values-length (l ∷ ls) n rows =
    rw (drop-width l.kind l.size n rows (level_buffers ls (count_below l.kind l.size n rows) (down l.kind l.size rows))) (values-length ls (count_below l.kind l.size n rows) (down l.kind l.size rows))

pub last-below : (ls : List Level) (n : ℕ) (rows : List Row) (r : Row) → Placed ls n rows → SlotsTell ls rows → Mem r rows → last_place ls rows r < last_count ls n rows
last-below [] n rows r p t m = p.below r m
last-below (l ∷ ls) n rows r p t m = last-below ls (count_below l.kind l.size n rows) (down l.kind l.size rows) (moved l.kind l.size rows r) (placed-down l ls n rows p t.0) t.1 (Mem-map (moved l.kind l.size rows) r rows m)

pub value-there : (ls : List Level) (n : ℕ) (rows : List Row) (r : Row) → Placed ls n rows → SlotsTell ls rows → Mem r rows → cell (values ls (map written (level_buffers ls n rows))) (last_place ls rows r) ≡ r.value
value-there [] n rows r p t m =
    cell-written (val_buffer n rows) r.at (p.below r m)
    ∙ cell_of-found (λ z. z.at) (λ z. z.value) rows r m (λ z mz e. p.apart z r mz m e (no-rest z.rest (p.in_range z mz) ∙ sym (no-rest r.rest (p.in_range r m))))
value-there (l ∷ ls) n rows r p t m =
    rw (drop-width l.kind l.size n rows (level_buffers ls (count_below l.kind l.size n rows) (down l.kind l.size rows)))
    (value-there ls (count_below l.kind l.size n rows) (down l.kind l.size rows) (moved l.kind l.size rows r) (placed-down l ls n rows p t.0) t.1 (Mem-map (moved l.kind l.size rows) r rows m))

pub no-value : (ls : List Level) (n : ℕ) (rows : List Row) (y : ℕ) → y < last_count ls n rows → ((r : Row) → Mem r rows → last_place ls rows r ≡ y → ⊥) → cell (values ls (map written (level_buffers ls n rows))) y ≡ pos 0
no-value [] n rows y h none = cell-written (val_buffer n rows) y h ∙ cell_of-none (λ z. z.at) (λ z. z.value) rows y none
no-value (l ∷ ls) n rows y h none =
    rw (drop-width l.kind l.size n rows (level_buffers ls (count_below l.kind l.size n rows) (down l.kind l.size rows)))
    (no-value ls (count_below l.kind l.size n rows) (down l.kind l.size rows) y h
    (λ r m e. let a = Mem-of_map (moved l.kind l.size rows) r rows m in none a.0 a.1 (ap (last_place ls (down l.kind l.size rows)) a.2 ∙ e)))
