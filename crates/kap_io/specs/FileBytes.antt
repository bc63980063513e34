-- The bytes of three files.
use Rattle.std.specs.Prelude.{ℕ, Bool, true, false, List}
use Rattle.kap_io.specs.declared.disk.Part.{Part}
use Rattle.kap_io.specs.declared.disk.Part.TheVariants.{Head, Left, Right}

-- the bytes of three files
pub record FileBytes : Type 0 where
  pub head : List ℕ
  pub left : List ℕ
  pub right : List ℕ

-- the bytes of one of them
abbrev pub file_of : FileBytes → Part → List ℕ
file_of files Head = files.head
file_of files Left = files.left
file_of files Right = files.right

-- the files with these bytes in one of them
abbrev pub with_file : Part → List ℕ → FileBytes → FileBytes
with_file Head file files = record { head = file; left = files.left; right = files.right }
with_file Left file files = record { head = files.head; left = file; right = files.right }
with_file Right file files = record { head = files.head; left = files.left; right = file }

-- both name the same file
abbrev pub same_part : Part → Part → Bool
same_part Head Head = true
same_part Left Left = true
same_part Right Right = true
same_part _ _ = false
