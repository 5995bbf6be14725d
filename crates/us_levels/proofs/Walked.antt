-- Comparing level by level: what the loop keeps, and what its ends say.
use Rattle.std.proofs.Common.{◌≡◌, ℕ, suc, ◌+◌, ◌<◌, ◌≤◌, ℤ, List, [], ◌∷◌, ◌++◌, map, length, get_or, take, drop, Bool, true, false, cond, not, sym, refl, ap, ap₂, ◌∙◌, subst, arith, Option, Some, None, append_assoc}
use Rattle.std.specs.List.{filter, sum}
use Rattle.std.specs.Option.{is_some}
use Rattle.std.proofs.Math.Seq.{take-append_seam}
use Rattle.std.proofs.lemmas.Bool.{false≢true}
use Rattle.std.proofs.lemmas.List.{get_or-map, length-append, length-map, map-append}
use Rattle.us_expr.specs.Tree.{Tree}
use Rattle.us_format.specs.declared.Kind.{Kind}
use Rattle.us_format.specs.Buffers.{buffers_at, level_buffers, piece_buffers}
use Rattle.us_format.specs.Declaration.{Column, Part, ValueColumn}
use Rattle.us_format.specs.Kinds.{Level, kind, levels_of}
use Rattle.us_format.specs.Lists.{nth, or_else}
use Rattle.us_format.specs.Matrix.{Entry, Shape}
use Rattle.us_format.specs.Packs.{Buffer, CellsOf, Piece, buffer_of, is_packed, level_pieces, nothing, own_pieces, packed, pieces, written}
use Rattle.us_format.specs.Positions.{count_below, down}
use Rattle.us_format.specs.Queries.{extents_of}
use Rattle.us_format.specs.Reading.{counts_in, limit}
use Rattle.us_format.specs.Rules.{ArePacksLawful}
use Rattle.us_format.proofs.Climb.{length-written}
use Rattle.us_format.proofs.PartLaw.{map-map}
use Rattle.us_format.proofs.Packs.{AllLong, long-at}
use Rattle.us_format.proofs.Pieces.{buffers-of-pieces, pieces-distinct}
use Rattle.us_format.proofs.Places.{packs-long, pieces-number}
use Rattle.us_decl.specs.declared.decl.Part as held
use Rattle.us_judge.specs.Views.{column_of, plain_part}
use Rattle.us_judge.proofs.Accepted.{KeepsRules}
use Rattle.us_build.specs.Ways.{IsStartOf, Way, first_buffers, is_first_long, way_below}
use Rattle.us_build.proofs.Counts.{Mem-at}
use Rattle.us_layout.specs.Arranging.{PacksHaveOneLength, list_of, pieces_by, plain_piece}
use Rattle.us_layout.specs.declared.pieces.Piece as code
use Rattle.us_judge.specs.Kinds.{kinds_of}
use Rattle.us_layout.specs.Interleaving.{interleaved_cells}
use Rattle.us_layout.proofs.Arranged.{packed-lists, pieces-by-kinds, written-buffer_of}
use Rattle.us_levels.specs.declared.differing.Difference.{Difference}
use Rattle.us_levels.specs.Differences.{first_difference}
use Rattle.us_levels.specs.Lists.{lists_difference, own_lists}
use Rattle.us_levels.proofs.Agreeing.{Agrees, StandFrom, agrees-next, agrees-short, levels_left, size_of}
use Rattle.us_levels.proofs.Owning.{is_own, own-behind, own-none}
use Rattle.us_levels.proofs.Unlike.{differences-append, differences-found, differences-written}

-- the lists of the packs, where the pieces have these lists
abbrev pub pack_cells_of : Part → List (List ℤ) → List (List ℤ)
pack_cells_of p lists = map (λ pack. interleaved_cells (map (λ c. list_of (pieces p) lists (CellsOf c)) pack)) p.packs

-- ---- the loop

module _ (s : Shape) (p : Part) (m : List Entry) (bufs : List (List ℤ)) (base : ℕ) where
  -- what stands before the levels of a walk that are left
  pub record IsCompared (w : Way) (lists : List (List ℤ)) : Type 0 where
    pub held : List (List ℤ)
    pub stand : StandFrom p base held bufs
    pub at : ℕ
    pub rest : List Tree
    pub before : List Piece
    pub left : w.levels ≡ levels_left s p m at rest
    pub agrees : Agrees s p m bufs held base at rest before w.positions w.rows lists

  pub compared-start : (w : Way) (held : List (List ℤ)) → StandFrom p base held bufs → IsStartOf s p m w → sum (counts_in p held 0 (levels_of s (extents_of m s p) p) 1) ≤ limit → IsCompared w []
  compared-start w held stand start few = record {
    held = held;
    stand = stand;
    at = 0;
    rest = p.levels;
    before = [];
    left = start.levels;
    agrees = record {
      depth = omega arith;
      split = refl;
      long = refl;
      whole = ap (map written) (ap (λ (ls : List Level). level_buffers ls w.positions w.rows) (sym start.levels) ∙ start.buffers);
      same = ap (λ (ls : List (List ℤ)). lists_difference base ls bufs) (own-none p (pieces p));
      counts = λ h. subst (λ (n : ℕ). sum (counts_in p held 0 (levels_of s (extents_of m s p) p) n) ≤ limit) (sym start.positions) few;
    };
  }

  module _ (w : Way) (lists : List (List ℤ)) (h : 0 < length w.levels) (c : IsCompared w lists) where
    -- the lists with those of the next level
    abbrev pub longer : List (List ℤ)
    longer = lists ++ map written (first_buffers w.levels w.positions w.rows)

    pub compared-short : is_first_long w.levels w.positions ≡ false
    compared-short = go c.at c.rest c.before c.left c.agrees
      where
        go : (k : ℕ) (es : List Tree) (before : List Piece) → w.levels ≡ levels_left s p m k es → Agrees s p m bufs c.held base k es before w.positions w.rows lists → is_first_long w.levels w.positions ≡ false
        go k [] before q a = absurd (omega (arith, h, ap length q))
        go k (e ∷ es) before q a = ap (λ (ls : List Level). is_first_long ls w.positions) q ∙ agrees-short s p m bufs c.held base k e es before w.positions w.rows lists a

    lists-are : (k : ℕ) (e : Tree) (es : List Tree) → w.levels ≡ levels_left s p m k (e ∷ es) → longer ≡ lists ++ map written (buffers_at (kind p k) (size_of s p m e) w.positions w.rows)
    lists-are k e es q = ap (λ (ls : List Level). lists ++ map written (first_buffers ls w.positions w.rows)) q

    pub compared-next : KeepsRules p → lists_difference base (own_lists p (pieces p) longer) bufs ≡ None → IsCompared (way_below w.levels w.positions w.rows) longer
    compared-next kept d = go c.at c.rest c.before c.left c.agrees
      where
        go : (k : ℕ) (es : List Tree) (before : List Piece) → w.levels ≡ levels_left s p m k es → Agrees s p m bufs c.held base k es before w.positions w.rows lists → IsCompared (way_below w.levels w.positions w.rows) longer
        go k [] before q a = absurd (omega (arith, h, ap length q))
        go k (e ∷ es) before q a =
            subst (λ (ls : List Level). IsCompared (way_below ls w.positions w.rows) (lists ++ map written (first_buffers ls w.positions w.rows))) (sym q) (record {
              held = c.held;
              stand = c.stand;
              at = suc k;
              rest = es;
              before = before ++ level_pieces k (kind p k);
              left = refl;
              agrees = agrees-next s p m bufs c.held base k e es before w.positions w.rows lists a kept c.stand (ap (λ (ls : List (List ℤ)). lists_difference base (own_lists p (pieces p) ls) bufs) (sym (lists-are k e es q)) ∙ d);
            })

    -- the lists are the first of the part's
    pub compared-front : (more : List (List ℤ)) × (longer ++ more ≡ map written (piece_buffers s p m))
    compared-front = go c.at c.rest c.before c.left c.agrees
      where
        go : (k : ℕ) (es : List Tree) (before : List Piece) → w.levels ≡ levels_left s p m k es → Agrees s p m bufs c.held base k es before w.positions w.rows lists
            → (more : List (List ℤ)) × (longer ++ more ≡ map written (piece_buffers s p m))
        go k [] before q a = absurd (omega (arith, h, ap length q))
        go k (e ∷ es) before q a =
            let here : List Buffer = buffers_at (kind p k) (size_of s p m e) w.positions w.rows in
            let more : List Buffer = level_buffers (levels_left s p m (suc k) es) (count_below (kind p k) (size_of s p m e) w.positions w.rows) (down (kind p k) (size_of s p m e) w.rows) in (
              map written more,
              ap (λ (ls : List (List ℤ)). ls ++ map written more) (lists-are k e es q) ∙ append_assoc lists (map written here) (map written more)
                  ∙ ap (λ (l : List (List ℤ)). lists ++ l) (sym (map-append written here more)) ∙ a.whole,
            )

  pub compared-same : (w : Way) (lists : List (List ℤ)) → IsCompared w lists → lists_difference base (own_lists p (pieces p) lists) bufs ≡ None
  compared-same w lists c = c.agrees.same

  -- where no level is left, all lists but the values are there
  pub compared-end : (w : Way) (lists : List (List ℤ)) → w.levels ≡ [] → IsCompared w lists → lists ++ map written (level_buffers [] w.positions w.rows) ≡ map written (piece_buffers s p m)
  compared-end w lists none c =
      ap (λ (ls : List Level). lists ++ map written (level_buffers ls w.positions w.rows)) (sym none ∙ c.left) ∙ c.agrees.whole

  -- ---- the whole

  module _ (packs : ArePacksLawful p) where
    abbrev pub true_lists : List (List ℤ)
    true_lists = map written (piece_buffers s p m)

    pub true-long : length true_lists ≡ length (pieces p)
    true-long = length-map (piece_buffers s p m) written ∙ pieces-number s p m packs []

    pub front-few : (front more : List (List ℤ)) → front ++ more ≡ true_lists → length front ≤ length (pieces p)
    front-few front more e = omega (arith, length-append front more, ap length e, true-long)

    pub one-length : PacksHaveOneLength p true_lists
    one-length j d l y h =
        column-long y h ∙ sym (column-long 0 (omega (arith, h)))
      where
        pack : List Column
        pack = get_or p.packs j d

        its : Column → Buffer
        its c = buffer_of (CellsOf c) (pieces p) (piece_buffers s p m)

        lg : (len : ℕ) × AllLong len (map its pack)
        lg = packs-long s p m packs [] pack (Mem-at p.packs j d l)

        cells : Column → List ℤ
        cells c = list_of (pieces p) true_lists (CellsOf c)

        column-long : (i : ℕ) → i < length (map cells pack) → length (nth (map cells pack) i) ≡ lg.0
        column-long i b =
            let n : i < length pack = omega (arith, b, length-map pack cells) in
            let c : Column = get_or pack i ValueColumn in
            ap length (get_or-map cells pack i ValueColumn [] n)
            ∙ ap length (sym (written-buffer_of (piece_buffers s p m) (pieces p) (CellsOf c)))
            ∙ length-written (its c)
            ∙ ap (λ (b : Buffer). b.len) (sym (get_or-map its pack i ValueColumn nothing n))
            ∙ long-at lg.0 (map its pack) i lg.1 (omega (arith, n, length-map pack its))

    own-by : (f : Piece → List ℤ) (xs : List Piece) → own_lists p xs (map f xs) ≡ map f (filter (is_own p) xs)
    own-by f [] = refl
    own-by f (x ∷ xs) = go (is_packed p x) (own-by f xs)
      where
        go : (b : Bool) → own_lists p xs (map f xs) ≡ map f (filter (is_own p) xs)
            → cond b (own_lists p xs (map f xs)) (f x ∷ own_lists p xs (map f xs)) ≡ map f (cond (not b) (x ∷ filter (is_own p) xs) (filter (is_own p) xs))
        go true ih = ih
        go false ih = ap (λ (l : List (List ℤ)). f x ∷ l) ih

    lists-of : map (list_of (pieces p) true_lists) (pieces p) ≡ true_lists
    lists-of =
        sym (same (pieces p)) ∙ sym (map-map written its (pieces p))
        ∙ ap (map written) (buffers-of-pieces (pieces p) (piece_buffers s p m) (pieces-distinct p 0 p.levels) (pieces-number s p m packs []))
      where
        its : Piece → Buffer
        its x = buffer_of x (pieces p) (piece_buffers s p m)

        same : (xs : List Piece) → map (λ x. written (its x)) xs ≡ map (list_of (pieces p) true_lists) xs
        same [] = refl
        same (x ∷ xs) = ap₂ (λ (a : List ℤ) (l : List (List ℤ)). a ∷ l) (written-buffer_of (piece_buffers s p m) (pieces p) x) (same xs)

    own-whole : map (list_of (pieces p) true_lists) (own_pieces p) ≡ own_lists p (pieces p) true_lists
    own-whole = sym (own-by (list_of (pieces p) true_lists) (pieces p)) ∙ ap (own_lists p (pieces p)) lists-of

    -- the lists of the packs, where the pieces have these lists
    abbrev pub pack_cells : List (List ℤ) → List (List ℤ)
    pack_cells lists = pack_cells_of p lists

    abbrev pub whole_difference : Option Difference
    whole_difference = first_difference base (packed p (piece_buffers s p m)) bufs

    whole-is : whole_difference ≡ lists_difference base (own_lists p (pieces p) true_lists ++ pack_cells true_lists) bufs
    whole-is =
        differences-written base (packed p (piece_buffers s p m)) bufs
        ∙ ap (λ (ls : List (List ℤ)). lists_difference base ls bufs) (packed-lists p (piece_buffers s p m) one-length ∙ ap (λ (l : List (List ℤ)). l ++ pack_cells true_lists) own-whole)

    -- a difference of the lists so far is that of all
    pub found-early : (front more : List (List ℤ)) (found : Option Difference) → front ++ more ≡ true_lists → found ≡ lists_difference base (own_lists p (pieces p) front) bufs → is_some found ≡ true → found ≡ whole_difference
    found-early front more None e f t = absurd (false≢true t)
    found-early front more (Some d) e f t =
        sym (whole-is
        ∙ ap (λ (ls : List (List ℤ)). lists_difference base (own_lists p (pieces p) ls ++ pack_cells true_lists) bufs) (sym e)
        ∙ ap (λ (ls : List (List ℤ)). lists_difference base (ls ++ pack_cells true_lists) bufs) (own-behind p (pieces p) front more)
        ∙ differences-found base (own_lists p (pieces p) front ++ behind) (pack_cells true_lists) bufs d (differences-found base (own_lists p (pieces p) front) behind bufs d (sym f)))
      where
        behind : List (List ℤ)
        behind = own_lists p (drop (length front) (pieces p)) more

    -- where no list of a piece differs, the packs decide
    pub found-late : (found d : Option Difference) → found ≡ lists_difference base (own_lists p (pieces p) true_lists) bufs → is_some found ≡ false
        → d ≡ lists_difference (base + length (filter (is_own p) (pieces p))) (pack_cells true_lists) bufs → d ≡ whole_difference
    found-late (Some x) d f t e = absurd (false≢true (sym t))
    found-late None d f t e =
        e
        ∙ ap (λ (k : ℕ). lists_difference (base + k) (pack_cells true_lists) bufs) (sym (ap length (sym own-whole) ∙ length-map (own_pieces p) (list_of (pieces p) true_lists)))
        ∙ ap (λ (r : Option Difference). or_else r (lists_difference (base + length (own_lists p (pieces p) true_lists)) (pack_cells true_lists) bufs)) f
        ∙ sym (whole-is ∙ differences-append base (own_lists p (pieces p) true_lists) (pack_cells true_lists) bufs)

-- ---- what a comparison of the lists behind others says

pub own-of : (p : Part) (base : ℕ) (bufs lists more new : List (List ℤ)) (xs : List Piece) (first : ℕ) (found : Option Difference) → lists_difference base (own_lists p (pieces p) lists) bufs ≡ None → new ≡ lists ++ more → xs ≡ pieces p → first ≡ length lists
    → (lists_difference base (own_lists p xs (take first new)) bufs ≡ None → found ≡ lists_difference base (own_lists p xs new) bufs) → found ≡ lists_difference base (own_lists p (pieces p) new) bufs
own-of p base bufs lists more new xs first found none e x f h =
    let before : take first new ≡ lists = ap₂ take f e ∙ take-append_seam lists more in
    h (ap₂ (λ (ys : List Piece) (ls : List (List ℤ)). lists_difference base (own_lists p ys ls) bufs) x before ∙ none) ∙ ap (λ (ys : List Piece). lists_difference base (own_lists p ys new) bufs) x

-- lists that are all, or the first of all, are no more than the pieces
pub few-names : (s : Shape) (p : Part) (m : List Entry) (packs : ArePacksLawful p) (front more : List (List ℤ)) (xs : List Piece) → front ++ more ≡ map written (piece_buffers s p m) → xs ≡ pieces p → length front ≤ length xs
few-names s p m packs front more xs e x = omega (arith, front-few s p m [] 0 packs front more e, ap length x)

pub pack_cells-are : (part : held.Part) (lists : List (List ℤ)) (xs : List Piece) → xs ≡ pieces (plain_part part)
    → map (λ pack. interleaved_cells (map (λ c. list_of xs lists (CellsOf c)) (map column_of pack))) part.packs ≡ pack_cells_of (plain_part part) lists
pack_cells-are part lists xs x =
    ap (λ (ys : List Piece). map (λ pack. interleaved_cells (map (λ c. list_of ys lists (CellsOf c)) (map column_of pack))) part.packs) x
    ∙ sym (map-map (λ pack. interleaved_cells (map (λ c. list_of (pieces (plain_part part)) lists (CellsOf c)) pack)) (map column_of) part.packs)

-- the lists of the packs of a part of the program
abbrev pub pack_lists_of : held.Part → List (List ℤ) → List Piece → List (List ℤ)
pack_lists_of part lists xs = map (λ pack. interleaved_cells (map (λ c. list_of xs lists (CellsOf c)) (map column_of pack))) part.packs

pub none-found : (found same : Option Difference) → found ≡ same → is_some found ≡ false → same ≡ None
none-found None same e t = sym e
none-found (Some d) same e t = absurd (false≢true (sym t))

-- the names of the pieces are those of the part
pub same-names : (p : Part) (lent names : List code.Piece) (kinds : List Kind) → lent ≡ names → map plain_piece names ≡ pieces_by 0 kinds → kinds ≡ kinds_of p → map plain_piece lent ≡ pieces p
same-names p lent names kinds e f g = ap (map plain_piece) e ∙ f ∙ ap (pieces_by 0) g ∙ pieces-by-kinds p
