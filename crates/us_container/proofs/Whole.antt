-- The bytes of a container that holds something.
use Rattle.std.proofs.Common.{◌≡◌, ℕ, List, [], ◌∷◌, ◌++◌, length, sym, ap, ap₂, ◌∙◌}
use Rattle.std.proofs.lemmas.List.{append-nil}
use Rattle.std.specs.Prelude.{ℤ, Ok}
use Rattle.std.specs.List.{flat_map}
use Rattle.us_format.specs.Matrix.{Shape, Entry}
use Rattle.us_format.specs.Reading.{total_count}
use Rattle.us_decl.specs.Declares.{Declared}
use Rattle.us_print.specs.Canon.{decl_text}
use Rattle.us_judge.specs.Acceptance.{first_refusal}
use Rattle.us_judge.specs.Views.{declaration_of}
use Rattle.us_check.specs.Checks.{checked}
use Rattle.us_container.specs.Bytes.{magic, number_bytes, text_bytes, buffer_bytes, container_bytes}
use Rattle.us_container.specs.Contained.{Contained, number, buffers, right_count, at_end, well_formed, buffers_in, with_magic, version, declaration, accepted, side, contained_in}
use Rattle.us_container.proofs.Chain.{what, when_checked, behind_buffers, when_counted, behind_count, behind_rows, when_accepted, when_declared, behind_version, behind_magic}
use Rattle.us_container.proofs.Spelled.{AreBytes, undo, number_spelled, buffers_spelled, magic_spelled, version_spelled, declaration_spelled, side_spelled, end_spelled}

record Ends (d : Declared) (s : Shape) (rest : List ℕ) (c : Contained) : Type 0 where
  declared : c.declared ≡ d
  shape : c.shape ≡ s
  spelled : rest ≡ number_bytes (length c.buffers) ++ flat_map buffer_bytes c.buffers

-- the field of the number of buffers, and all behind it
ends : (len : ℕ) (d : Declared) (s : Shape) (rest : List ℕ) (c : Contained) → AreBytes rest → buffers_in len d s rest ≡ Ok c → Ends d s rest c
ends len d s rest c b h =
    let v1 = undo (number len rest) (behind_count len d s) c h in
    let n : ℕ = v1.0.0 in
    let ys : List ℕ = v1.0.1 in
    let v2 = undo (right_count n (total_count (declaration_of d))) (λ _. when_counted len d s (n, ys)) c v1.2 in
    let v3 = undo (buffers len n [] ys) (behind_buffers len d s) c v2.2 in
    let bufs : List (List ℤ) = v3.0.0 in
    let zs : List ℕ = v3.0.1 in
    let v4 = undo (at_end len zs) (λ _. when_checked len d s bufs) c v3.2 in
    let v5 = undo (well_formed (checked s (declaration_of d) bufs)) (what len d s bufs) c v4.2 in
    let m : List Entry = v5.0 in
    let k : Contained = record { declared = d; shape = s; buffers = bufs; entries = m } in
    let same : k ≡ c = cc (v5.2) in
    let p = number_spelled len rest n ys b v1.1 in
    let r = buffers_spelled len n [] ys bufs zs p.1 v3.1 in
    let none : zs ≡ [] = end_spelled len zs v4.1 in
    let are : r.new ≡ c.buffers = sym r.all ∙ ap (λ (x : Contained). x.buffers) same in
    let behind : ys ≡ flat_map buffer_bytes c.buffers = r.spelled ∙ ap₂ (λ (x y : List ℕ). x ++ y) (ap (flat_map buffer_bytes) are) none ∙ append-nil (flat_map buffer_bytes c.buffers) in
    record {
      declared = sym (ap (λ (x : Contained). x.declared) same);
      shape = sym (ap (λ (x : Contained). x.shape) same);
      spelled = p.0 ∙ ap₂ (λ (x y : List ℕ). x ++ y) (ap number_bytes (sym r.count ∙ ap length are)) behind;
    }

pub only_spelling : (bytes : List ℕ) (c : Contained) → AreBytes bytes → contained_in bytes ≡ Ok c → bytes ≡ container_bytes c.declared c.shape.rows c.shape.cols c.buffers
only_spelling bytes c b h =
    let len : ℕ = length bytes in
    let u1 = undo (with_magic bytes) (behind_magic bytes) c h in
    let body : List ℕ = u1.0 in
    let u2 = undo (version len body) (behind_version bytes) c u1.2 in
    let rest : List ℕ = u2.0 in
    let u3 = undo (declaration len rest) (when_declared bytes) c u2.2 in
    let d : Declared = u3.0.0 in
    let sides : List ℕ = u3.0.1 in
    let u4 = undo (accepted (first_refusal (declaration_of d))) (λ _. when_accepted bytes d sides) c u3.2 in
    let u5 = undo (side len sides) (behind_rows bytes d) c u4.2 in
    let rows : ℕ = u5.0.0 in
    let left : List ℕ = u5.0.1 in
    let u6 = undo (side len left) (λ cols. buffers_in len d (record { rows = rows; cols = cols.0 }) cols.1) c u5.2 in
    let cols : ℕ = u6.0.0 in
    let behind : List ℕ = u6.0.1 in
    let p1 = magic_spelled bytes body b u1.1 in
    let p2 = version_spelled len body rest p1.1 u2.1 in
    let p3 = declaration_spelled len rest d sides p2.1 u3.1 in
    let p4 = side_spelled len sides rows left p3.1 u5.1 in
    let p5 = side_spelled len left cols behind p4.1 u6.1 in
    let e = ends len d (record { rows = rows; cols = cols }) behind c p5.1 u6.2 in
    let tail : List ℕ = number_bytes (length c.buffers) ++ flat_map buffer_bytes c.buffers in
    let whole : bytes ≡ magic ++ (1 ∷ (text_bytes (decl_text d) ++ (number_bytes rows ++ (number_bytes cols ++ tail)))) =
    p1.0 ∙ ap (λ (x : List ℕ). magic ++ x) (p2.0 ∙ ap (λ (x : List ℕ). 1 ∷ x) (p3.0 ∙ ap (λ (x : List ℕ). text_bytes (decl_text d) ++ x)
    (p4.0 ∙ ap (λ (x : List ℕ). number_bytes rows ++ x) (p5.0 ∙ ap (λ (x : List ℕ). number_bytes cols ++ x) e.spelled)))) in
    whole ∙ ap₂ (λ (x : Declared) (s : Shape). magic ++ (1 ∷ (text_bytes (decl_text x) ++ (number_bytes s.rows ++ (number_bytes s.cols ++ tail))))) (sym e.declared) (sym e.shape)
