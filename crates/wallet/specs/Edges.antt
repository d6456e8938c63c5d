-- The edges that the program makes.
use Rattle.std.specs.Prelude.{ℕ, List, string_bytes}
use Rattle.op_disk.specs.declared.file.FileDisk.{FileDisk}

-- the name of the file of a disk
abbrev pub path_of : {R F : Type 0} → FileDisk R F → List ℕ
path_of disk = string_bytes disk.path
