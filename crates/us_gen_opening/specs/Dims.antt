-- The dims that the phase makes: their names, their values and how they are defined.
use Rattle.std.specs.Prelude.{◌≡◌, ◌≢◌, ℕ, ◌+◌, ◌/◌, ◌≤◌, List, [], ◌∷◌, length, ℤ, pos, Option, Some, None}
use Rattle.us_code.specs.declared.program.Dim.{Dim}
use Rattle.us_code.specs.declared.program.Dim.TheVariants as dim
use Rattle.us_code.specs.Plain.{LineTree}
use Rattle.us_code.specs.Plain as plain
use Rattle.us_code.specs.Run.{Env, size_of}
use Rattle.us_code.specs.Typing.{Form, Of, Successor, Context}
use Rattle.us_format.specs.Reading.{limit}
use Rattle.us_gen_walk.specs.declared.places.Column.{Column}
use Rattle.us_gen_walk.specs.declared.places.Column.TheVariants as column
use Rattle.us_gen_walk.specs.declared.places.Loop.{Loop}
use Rattle.us_gen_walk.specs.declared.places.Loop.TheVariants as over
use Rattle.us_gen_opening.specs.declared.parts.Extent.{Extent}
use Rattle.us_gen_opening.specs.declared.parts.Opening.{Opening}

-- ---- names

-- the dim that a line makes
abbrev pub name_of : LineTree → ℕ
name_of (plain.Of d e) = d
name_of (plain.Product d left right) = d
name_of (plain.Successor d of) = d

-- no line makes this dim
abbrev pub IsOther : ℕ → List LineTree → Type 0
IsOther d [] = Unit {0}
IsOther d (l ∷ ls) = (d ≢ name_of l) × IsOther d ls

-- dims numbered from low on, each made once
abbrev pub AreNew : ℕ → List LineTree → Type 0
AreNew low [] = Unit {0}
AreNew low (l ∷ ls) = (low ≤ name_of l) × IsOther (name_of l) ls × AreNew low ls

abbrev pub IsName : Dim → Type 0
IsName (dim.Name d) = Unit {0}
IsName (dim.Number n) = ⊥
IsName (dim.Len k) = ⊥

-- as many nodes as coordinates: the length of their source, or a dim where they are in a pack
abbrev pub CountsNodes : Column → Dim → Type 0
CountsNodes (column.Own k) nodes = nodes ≡ dim.Len k
CountsNodes (column.Packed k w digit) nodes = IsName nodes

-- the levels with nodes have dims for them
abbrev pub AreNamed : List Loop → Type 0
AreNamed [] = Unit {0}
AreNamed (over.Full size low ∷ ls) = AreNamed ls
AreNamed (over.Nodes k more nodes crd low ∷ ls) = IsName more × CountsNodes crd nodes × AreNamed ls

-- ---- values

-- how many cells a column has
abbrev pub cell_count : (ℕ → List ℤ) → Column → ℕ
cell_count sources (column.Own k) = length (sources k)
cell_count sources (column.Packed k w digit) = length (sources k) / w

-- each extent has its one cell, which is within the limit
abbrev pub ExtentsStand : (ℕ → List ℤ) → List Extent → Type 0
ExtentsStand sources [] = Unit {0}
ExtentsStand sources (e ∷ es) = (n : ℕ) × (sources e.source ≡ pos n ∷ []) × (n ≤ limit) × ExtentsStand sources es

-- the dim of each extent is its cell
abbrev pub ExtentsAre : Env → List Extent → Type 0
ExtentsAre env [] = Unit {0}
ExtentsAre env (e ∷ es) = (env.sources e.source ≡ pos (env.dims e.dim) ∷ []) × ExtentsAre env es

-- of each level with nodes: as many as its coordinates, and one more
abbrev pub NodesAre : Env → List Loop → Type 0
NodesAre env [] = Unit {0}
NodesAre env (over.Full size low ∷ ls) = NodesAre env ls
NodesAre env (over.Nodes k more nodes crd low ∷ ls) =
    (size_of env nodes ≡ cell_count env.sources crd) × (size_of env more ≡ size_of env nodes + 1) × NodesAre env ls

abbrev pub DimsAre : Env → List Opening → Type 0
DimsAre env [] = Unit {0}
DimsAre env (o ∷ os) = ExtentsAre env o.extents.items × NodesAre env o.loops.items × DimsAre env os

-- ---- forms

abbrev pub form_of : Context → Dim → Option Form
form_of g (dim.Name d) = g.dims d
form_of g (dim.Number n) = None
form_of g (dim.Len k) = None

abbrev pub ExtentsSeen : Context → List Extent → Type 0
ExtentsSeen g [] = Unit {0}
ExtentsSeen g (e ∷ es) = (g.dims e.dim ≡ Some Of) × ExtentsSeen g es

abbrev pub CountSeen : Context → Column → Dim → Type 0
CountSeen g (column.Own k) nodes = nodes ≡ dim.Len k
CountSeen g (column.Packed k w digit) nodes = form_of g nodes ≡ Some Of

abbrev pub NodesSeen : Context → List Loop → Type 0
NodesSeen g [] = Unit {0}
NodesSeen g (over.Full size low ∷ ls) = NodesSeen g ls
NodesSeen g (over.Nodes k more nodes crd low ∷ ls) = CountSeen g crd nodes × (form_of g more ≡ Some (Successor nodes)) × NodesSeen g ls

abbrev pub DimsSeen : Context → List Opening → Type 0
DimsSeen g [] = Unit {0}
DimsSeen g (o ∷ os) = ExtentsSeen g o.extents.items × NodesSeen g o.loops.items × DimsSeen g os
