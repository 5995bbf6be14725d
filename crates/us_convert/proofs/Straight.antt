-- A format of one part without queries, from columns whose entries stand in the order of its coordinates.
use Rattle.std.proofs.Common.{◌≡◌, ℕ, zero, suc, ◌+◌, ◌*◌, ◌<◌, ◌≤◌, Bool, true, false, refl, sym, ap, ◌∙◌, subst, arith, List, [], ◌∷◌, ◌++◌, map, length, take, drop, filter, Some, mul-le-mul_left}
use Rattle.std.specs.Prelude.{None, All}
use Rattle.std.proofs.lemmas.List.Elements.{All-nil}
use Rattle.std.proofs.lemmas.List.Sorted.{length_permutation}
use Rattle.us_expr.specs.declared.queries.Cond.{Cond}
use Rattle.us_format.specs.Matrix.{Shape, Entry}
use Rattle.us_format.specs.Declaration.{Query, Part, has_extent, has_table}
use Rattle.us_format.specs.Packs.{written}
use Rattle.us_format.specs.Buffers.{extent_buffer, table_buffer, holds, part_buffers}
use Rattle.std.specs.List.{count_by}
use Rattle.us_format.specs.Reading.{extent_count, limit}
use Rattle.us_decl.specs.Declares.{Declared, IsValid}
use Rattle.us_judge.specs.Acceptance.{first_refusal}
use Rattle.us_judge.specs.Format.{part_at}
use Rattle.us_judge.specs.Views.{declaration_of}
use Rattle.us_judge.proofs.LawfulDeclarations.{accepted-declaration}
use Rattle.us_code.specs.declared.pieces.Columns.{Columns}
use Rattle.us_code.specs.Plain.{PhaseTree}
use Rattle.us_code.specs.Runs.{World, phases}
use Rattle.us_code.specs.Typing.{Context, is_some, is_listed}
use Rattle.us_gen.specs.Goes.{Leads}
use Rattle.us_gen_query.specs.Counting.{one_word}
use Rattle.us_gen_query.specs.Filling.{column, width, words}
use Rattle.us_query_loops.specs.Chosen.{goes_to, is_first}
use Rattle.us_gen_counting.specs.Rooms.{SeesColumns}
use Rattle.us_gen_counting.specs.Runs.{IsGiven}
use Rattle.us_gen_counting.proofs.PhaseRuns.{leads_looser}
use Rattle.us_gen_queries.specs.Plain.{bare}
use Rattle.us_gen_parts_build.specs.Meaning.{share, HoldsQueries, SeesQueries, NamesQueries, BuildsPart}
use Rattle.us_limits.proofs.Phases.{text-looser}
use Rattle.us_right.specs.Costs.{own_size, part_cost}
use Rattle.us_right.specs.Piece.{MakesPart}
use Rattle.us_right.proofs.Shares.{share-within}
use Rattle.us_convert.specs.Own.{AreBelow}

filter_all : (f : Entry → Bool) (xs : List Entry) → ((x : Entry) → f x ≡ true) → filter f xs ≡ xs
filter_all f [] h = refl
filter_all f (x ∷ xs) h = rw (h x) (ap (λ (ys : List Entry). x ∷ ys) (filter_all f xs h))

no_conds : (cs : List Cond) → length cs ≡ 0 → cs ≡ []
no_conds [] h = refl
no_conds (c ∷ cs) h = absurd (omega (arith, h))

module _ (s : Shape) (d : Declared) (cs : Columns) (n : ℕ) (qs : List PhaseTree) (fin : List ℕ) (valid : IsValid d) (kept : first_refusal (declaration_of d) ≡ None) (one : length (declaration_of d).parts ≡ 1)
    (plain : (part_at (declaration_of d) 0).queries ≡ []) (builds : BuildsPart false s (part_at (declaration_of d) 0) (bare cs) [] n qs fin) where
  conds_none : (declaration_of d).conds ≡ []
  conds_none = no_conds (declaration_of d).conds (omega (arith, one, (accepted-declaration d valid kept).one_more))

  all_go : (m : List Entry) (x : Entry) → goes_to m s (declaration_of d) 0 x ≡ true
  all_go m x = ap (λ (c : List Cond). is_first (holds m s (declaration_of d)) c 0 x) conds_none

  mine : (m : List Entry) → filter (goes_to m s (declaration_of d) 0) m ≡ m
  mine m = filter_all (goes_to m s (declaration_of d) 0) m (all_go m)

  held : (w : World) (m es : List Entry) → IsGiven w (bare cs) s m es n → share s (part_at (declaration_of d) 0) m ≤ limit → HoldsQueries w s (part_at (declaration_of d) 0) (bare cs) [] m es
  held w m es g small = record {
    matrix = g.matrix;
    rows = g.rows;
    cols = g.cols;
    entries = g.held;
    variables = λ v lv a. absurd (omega (arith, lv));
    buffers = sym (ap (λ (ps : List Query). map written (map (extent_buffer m s) (filter has_extent ps) ++ map (table_buffer m s) (filter has_table ps))) plain);
    few = g.few;
    small = small;
  }

  seen_column : (g : Context) → SeesColumns g (bare cs) → (c : ℕ) → c < width (bare cs) → g.bufs (column (bare cs) c) ≡ Some (words (bare cs))
  seen_column g seen zero h = seen.i
  seen_column g seen (suc zero) h = seen.j
  seen_column g seen (suc (suc v)) h = absurd (omega (arith, h))

  sees : (g : Context) → SeesColumns g (bare cs) → SeesQueries g (part_at (declaration_of d) 0) (bare cs) []
  sees g seen =
      let none : 0 ≡ extent_count (part_at (declaration_of d) 0) = sym (ap (λ (ps : List Query). count_by has_extent ps) plain) in
      record {
        columns = record { count = seen.count; columns = seen_column g seen };
        values = seen.v;
        extents = subst (λ (k : ℕ). All (λ b. g.bufs b ≡ Some one_word) (take k [])) none (All-nil (λ b. g.bufs b ≡ Some one_word));
        tables = subst (λ (k : ℕ). All (λ b. is_some (g.bufs b) ≡ true) (drop k [])) none (All-nil (λ b. is_some (g.bufs b) ≡ true));
      }

  cost : (m es : List Entry) → length es ≡ length m
      → 64 * ((1 + length (part_at (declaration_of d) 0).levels + length (part_at (declaration_of d) 0).queries) * (length es + 1 + share s (part_at (declaration_of d) 0) m)) ≤ part_cost s (declaration_of d) m (part_at (declaration_of d) 0, m)
  cost m es same =
      let p = part_at (declaration_of d) 0 in
      let second : (1 + length (part_at (declaration_of d) 0).levels + length (part_at (declaration_of d) 0).queries) * (length es + 1 + share s (part_at (declaration_of d) 0) m)
      ≤ (1 + length (part_at (declaration_of d) 0).levels + length (part_at (declaration_of d) 0).queries) * (length m + own_size s (part_at (declaration_of d) 0, m) + 1) =
      mul-le-mul_left (1 + length (part_at (declaration_of d) 0).levels + length (part_at (declaration_of d) 0).queries) (omega (arith, same)) in
      more _ _ _ _ second
    where
      more : (a b c e : ℕ) → c ≤ e → 64 * c ≤ 32 * a + (32 * b + 64 * e)
      more a b c e h = omega (arith, h)

  new_in : (b : ℕ) → is_listed b fin ≡ true → (n ≤ b) × (b < n + 1024)
  new_in b l = builds.new.own b (ap (is_listed b) (sym builds.new.is) ∙ l)

  pub straight : MakesPart false s (declaration_of d) 0 cs n (n + 1024) qs fin
  straight = record {
    leads = λ w m es given stands target.
        let p = part_at (declaration_of d) 0 in
        let law = accepted-declaration d valid kept in
        let small : share s (part_at (declaration_of d) 0) m ≤ limit =
        subst (λ (xs : List Entry). own_size s (part_at (declaration_of d) 0, xs) ≤ limit) (mine m) (omega (arith, target, share-within s (declaration_of d) m (accepted-declaration d valid kept) 0 (omega (arith, one)))) in
        subst (λ (xs : List Entry). Leads n (part_cost s (declaration_of d) m (part_at (declaration_of d) 0, xs)) w (phases qs w) (λ u. map u.bufs fin ≡ map written (part_buffers s (part_at (declaration_of d) 0) xs))) (sym (mine m))
        (leads_looser n (64 * ((1 + length (part_at (declaration_of d) 0).levels + length (part_at (declaration_of d) 0).queries) * (length es + 1 + share s (part_at (declaration_of d) 0) m))) (part_cost s (declaration_of d) m (part_at (declaration_of d) 0, m)) qs w
        (λ u. map u.bufs fin ≡ map written (part_buffers s (part_at (declaration_of d) 0) m)) (cost m es (length_permutation m es given.held.shuffled))
        (builds.leads w m es (held w m es given small) stands));
    typed = λ g room seen. builds.typed g room (sees g seen);
    new = record { once = builds.new.once; own = new_in };
    few = builds.few;
    text = text-looser (omega arith) builds.text;
    unsorted = λ e. builds.unsorted refl;
  }

pub plain-names : (p : Part) (cs : Columns) (n : ℕ) → p.queries ≡ [] → p.names ≡ 0 → AreBelow cs n → NamesQueries p (bare cs) [] n
plain-names p cs n plain names below = record {
  variables = sym names;
  columns = low;
  count = below.count;
  values = below.v;
  buffers = sym (ap (λ (qs : List Query). count_by has_extent qs + count_by has_table qs) plain);
  low = λ b e. absurd cc;
  once = refl;
}
  where
    low : (c : ℕ) → c < width (bare cs) → column (bare cs) c < n
    low zero h = below.i
    low (suc zero) h = below.j
    low (suc (suc v)) h = absurd (omega (arith, h))
