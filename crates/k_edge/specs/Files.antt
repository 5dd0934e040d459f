-- Files in memory, as pairs of a name's bytes and the file's bytes.
use Rattle.std.specs.Prelude.{ℕ, List, [], map, unwrap_or, Option, nat_eq, find, String, string_bytes, Vec}
use Rattle.std.specs.Option.{option_map}
use Rattle.std.specs.declared.alloc.Global.{Global}
use lib.Pointwise.{pointwise}

-- the files, each seen as its name's bytes and its own
abbrev pub files_of : List (String Global × Vec ℕ Global) → List (List ℕ × List ℕ)
files_of files = map (λ file. (string_bytes file.0, file.1.items)) files

-- the bytes of the first file of this name
abbrev pub file_named : List (List ℕ × List ℕ) → List ℕ → Option (List ℕ)
file_named files name = option_map (λ file. file.1) (find (λ file. pointwise nat_eq file.0 name) files)

-- the same, where a name that is not there has no bytes
abbrev pub bytes_named : List (List ℕ × List ℕ) → List ℕ → List ℕ
bytes_named files name = unwrap_or (file_named files name) []
