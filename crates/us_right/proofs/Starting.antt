-- The phases that list the entries of a format are a program that builds no part yet.
use Rattle.std.proofs.Common.{ℕ, ◌+◌, refl, arith, List, []}
use Rattle.us_format.specs.Matrix.{Shape, Entry}
use Rattle.us_format.specs.Buffers.{buffers}
use Rattle.us_format.specs.Reading.{total_count}
use Rattle.us_judge.specs.Views.{declaration_of}
use Rattle.us_code.specs.declared.pieces.Columns.{Columns}
use Rattle.us_code.specs.Runs.{World, phases, start}
use Rattle.us_code.specs.Typing.{before}
use Rattle.us_gen.proofs.Going.{leads_weaker}
use Rattle.us_gen_counting.specs.Rooms.{RoomFrom}
use Rattle.us_gen_counting.specs.Runs.{IsGiven}
use Rattle.us_gen_counting.proofs.PhaseRuns.{leads_looser}
use Rattle.us_gen_listing.specs.Unpack.{unpacking_room}
use Rattle.us_gen_joined.specs.Joined.{AreGiven}
use Rattle.us_gen_queries.specs.Plain.{bare}
use Rattle.us_limits.proofs.Phases.{text-looser}
use Rattle.us_right.specs.Costs.{listing_cost, parts_cost}
use Rattle.us_right.specs.Laws.{ListingStarts}
use Rattle.us_right.specs.Draft.{StandsAt}
use Rattle.us_right.proofs.Buffers.{new-none}
use Rattle.us_right.proofs.Sources.{source-is, sources-short}

given_bare : (w : World) (cs : Columns) (s : Shape) (m es : List Entry) (n : ℕ) → IsGiven w cs s m es n → IsGiven w (bare cs) s m es n
given_bare w cs s m es n g = record {
  matrix = g.matrix;
  rows = g.rows;
  cols = g.cols;
  few = g.few;
  held = record { shuffled = g.held.shuffled; count = g.held.count; rows = g.held.rows; cols = g.held.cols; values = g.held.values };
  plain = refl;
  count = g.count;
  i = g.i;
  j = g.j;
  v = g.v;
}

empty_room : (n : ℕ) → RoomFrom (before n) 0
empty_room n = record { regs = λ r. refl; bufs = λ b le. refl; dims = λ d le. refl }

pub starts : ListingStarts
starts sorts s f d cs ps lists =
    let typed = lists.typed (before (total_count (declaration_of f))) (omega arith) (empty_room (total_count (declaration_of f))) in
    record {
      leads = λ m im source target.
          let w = start (buffers s (declaration_of f) m) in
          leads_looser 0 (listing_cost s (declaration_of f) m) (listing_cost s (declaration_of f) m + parts_cost s d m 0) ps (start (buffers s (declaration_of f) m))
          (λ u. StandsAt u s (declaration_of f) d m cs 0 (0 + unpacking_room) []) (omega arith)
          (leads_weaker 0 (listing_cost s (declaration_of f) m) (start (buffers s (declaration_of f) m)) (phases ps (start (buffers s (declaration_of f) m)))
          (λ u. AreGiven u cs s (declaration_of f) m (0 + unpacking_room)) (λ u. StandsAt u s (declaration_of f) d m cs 0 (0 + unpacking_room) [])
          (λ u x keeps. record { listed = x.order; columns = given_bare u cs s m x.order (0 + unpacking_room) x.given; ascends = x.ascends; built = refl })
          (lists.leads (start (buffers s (declaration_of f) m)) m im source (λ j l. source-is (buffers s (declaration_of f) m) j) (sources-short s (declaration_of f) m source)));
      fit = typed.0;
      columns = record { count = typed.1.count; i = typed.1.i; j = typed.1.j; v = typed.1.v };
      seen = refl;
      new = new-none (0 + unpacking_room);
      few = omega arith;
      text = text-looser (omega arith) lists.text;
      unsorted = λ e. lists.unsorted;
    }
