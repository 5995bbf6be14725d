-- Worked formats: the declarations of a small library, and the format in which a matrix file is held.
use Rattle.std.specs.Prelude.{[], ◌∷◌, true, false}
use Rattle.us_expr.specs.Tree.{RowIndex, ColIndex, Variable, Difference, Quotient, Remainder}
use Rattle.us_format.specs.Declaration.{SumOf, Enumerate, Reorder, Schedule, LevelColumn, ValueColumn, Part, Declaration}

-- map (i, j) trim 1 merge 1
abbrev pub csr_part : Part
csr_part = record { names = 0; queries = []; levels = RowIndex ∷ ColIndex ∷ []; trim = 1 ∷ []; merge = 1 ∷ []; packs = [] }

abbrev pub csr : Declaration
csr = record { head_names = 0; head = []; conds = []; parts = csr_part ∷ [] }

-- map (j, i) trim 1 merge 1
abbrev pub csc_part : Part
csc_part = record { names = 0; queries = []; levels = ColIndex ∷ RowIndex ∷ []; trim = 1 ∷ []; merge = 1 ∷ []; packs = [] }

abbrev pub csc : Declaration
csc = record { head_names = 0; head = []; conds = []; parts = csc_part ∷ [] }

-- map (i, j) trim 0, 1
abbrev pub coo_part : Part
coo_part = record { names = 0; queries = []; levels = RowIndex ∷ ColIndex ∷ []; trim = 0 ∷ 1 ∷ []; merge = []; packs = [] }

abbrev pub coo : Declaration
coo = record { head_names = 0; head = []; conds = []; parts = coo_part ∷ [] }

-- map (i, j) trim 0, 1 merge 0, 1
abbrev pub dcsr_part : Part
dcsr_part = record { names = 0; queries = []; levels = RowIndex ∷ ColIndex ∷ []; trim = 0 ∷ 1 ∷ []; merge = 0 ∷ 1 ∷ []; packs = [] }

abbrev pub dcsr : Declaration
dcsr = record { head_names = 0; head = []; conds = []; parts = dcsr_part ∷ [] }

-- map (i / 2, j / 2, i % 2, j % 2) trim 1 merge 1
abbrev pub bcsr_part : Part
bcsr_part = record { names = 0; queries = []; levels = Quotient RowIndex 2 ∷ Quotient ColIndex 2 ∷ Remainder RowIndex 2 ∷ Remainder ColIndex 2 ∷ []; trim = 1 ∷ []; merge = 1 ∷ []; packs = [] }

abbrev pub bcsr : Declaration
bcsr = record { head_names = 0; head = []; conds = []; parts = bcsr_part ∷ [] }

-- map (j - i, i) trim 0 merge 0
abbrev pub dia_part : Part
dia_part = record { names = 0; queries = []; levels = Difference ColIndex RowIndex ∷ RowIndex ∷ []; trim = 0 ∷ []; merge = 0 ∷ []; packs = [] }

abbrev pub dia : Declaration
dia = record { head_names = 0; head = []; conds = []; parts = dia_part ∷ [] }

-- let k = enumerate(i) map (i, k, j) trim 2
abbrev pub ell_part : Part
ell_part = record { names = 1; queries = Enumerate 0 RowIndex ∷ []; levels = RowIndex ∷ Variable 0 ∷ ColIndex ∷ []; trim = 2 ∷ []; merge = []; packs = [] }

abbrev pub ell : Declaration
ell = record { head_names = 0; head = []; conds = []; parts = ell_part ∷ [] }

-- let k = enumerate(i) let p = reorder(i) map (p, k, j) trim 2
abbrev pub jds_part : Part
jds_part = record { names = 2; queries = Enumerate 0 RowIndex ∷ Reorder 1 RowIndex ∷ []; levels = Variable 1 ∷ Variable 0 ∷ ColIndex ∷ []; trim = 2 ∷ []; merge = []; packs = [] }

abbrev pub jds : Declaration
jds = record { head_names = 0; head = []; conds = []; parts = jds_part ∷ [] }

-- let lane, slot = schedule(i) into 2 map (lane, slot, j) trim 2 merge 2
abbrev pub cisr_part : Part
cisr_part = record { names = 2; queries = Schedule 0 1 RowIndex 2 ∷ []; levels = Variable 0 ∷ Variable 1 ∷ ColIndex ∷ []; trim = 2 ∷ []; merge = 2 ∷ []; packs = [] }

abbrev pub cisr : Declaration
cisr = record { head_names = 0; head = []; conds = []; parts = cisr_part ∷ [] }

-- map (i, j) trim 0, 1 pack (0, 1, val)
abbrev pub aos_part : Part
aos_part = record { names = 0; queries = []; levels = RowIndex ∷ ColIndex ∷ []; trim = 0 ∷ 1 ∷ []; merge = []; packs = (LevelColumn 0 ∷ LevelColumn 1 ∷ ValueColumn ∷ []) ∷ [] }

abbrev pub aos : Declaration
aos = record { head_names = 0; head = []; conds = []; parts = aos_part ∷ [] }

-- let k = enumerate(i) part when k < 1 { let e = enumerate(i) map (i, e, j) trim 2 } rest { map (i, j) trim 0, 1 }
abbrev pub hyb_first : Part
hyb_first = record { names = 1; queries = Enumerate 0 RowIndex ∷ []; levels = RowIndex ∷ Variable 0 ∷ ColIndex ∷ []; trim = 2 ∷ []; merge = []; packs = [] }

abbrev pub hyb_rest : Part
hyb_rest = record { names = 0; queries = []; levels = RowIndex ∷ ColIndex ∷ []; trim = 0 ∷ 1 ∷ []; merge = []; packs = [] }

abbrev pub hyb : Declaration
hyb = record { head_names = 1; head = Enumerate 0 RowIndex ∷ []; conds = record { var = 0; less = true; bound = 1 } ∷ []; parts = hyb_first ∷ hyb_rest ∷ [] }

-- let n = sum(i) part when n >= 2 { map (i, j) trim 1 merge 1 } rest { map (i, j) trim 0, 1 }
abbrev pub heavy_first : Part
heavy_first = record { names = 0; queries = []; levels = RowIndex ∷ ColIndex ∷ []; trim = 1 ∷ []; merge = 1 ∷ []; packs = [] }

abbrev pub heavy_rest : Part
heavy_rest = record { names = 0; queries = []; levels = RowIndex ∷ ColIndex ∷ []; trim = 0 ∷ 1 ∷ []; merge = []; packs = [] }

abbrev pub heavy : Declaration
heavy = record { head_names = 1; head = SumOf 0 RowIndex ∷ []; conds = record { var = 0; less = false; bound = 2 } ∷ []; parts = heavy_first ∷ heavy_rest ∷ [] }

-- the format in which a matrix file is held: map (i, j) trim 0, 1
abbrev pub entry : Declaration
entry = record { head_names = 0; head = []; conds = []; parts = record { names = 0; queries = []; levels = RowIndex ∷ ColIndex ∷ []; trim = 0 ∷ 1 ∷ []; merge = []; packs = [] } ∷ [] }
