use Rattle.std.proofs.Common.{◌≡◌, drop}
use Rattle.k_edge.specs.Files.{file_named, files_of}
use Rattle.k_edge.proofs.files.find_file.Given as goal

-- the first file of this name is among those that are left
abbrev pub invariant-loop-known : goal.invariant-loop-known
invariant-loop-known l = file_named (files_of l.files) l.name ≡ file_named (files_of (drop l.known-index l.files)) l.name
