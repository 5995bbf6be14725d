-- The files that a log of stores stands for.
use Rattle.std.specs.Prelude.{ℕ, List, map, string_bytes}
use Rattle.std.specs.FinMap as finite
use Rattle.us_outside.specs.declared.folder.File.{File}
use Rattle.us_outside.specs.declared.folder.Folder.{Folder}
use Rattle.us_outside.specs.Files.{Files}

abbrev pub entry_of : File → List ℕ × List ℕ
entry_of f = (string_bytes f.name, f.bytes.items)

-- the newest first: of one name the first counts
abbrev pub files_of : List File → Files
files_of log = finite.from_entries (map entry_of log)

abbrev pub files_in : Folder → Files
files_in folder = files_of folder.log.items
