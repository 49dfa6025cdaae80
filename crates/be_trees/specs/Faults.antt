-- What the reading of an archive's line gives beside a tree.
use Rattle.std.specs.Prelude.{◌≡◌, Result, Ok, Err}
use Rattle.be_reader.specs.Grammar.{Fault}
use Rattle.be_reader.specs.declared.fault.ScriptFault.{ScriptFault}
use Rattle.be_reader.specs.declared.fault.ScriptFault.TheVariants as fault
use Rattle.be_views.specs.Trees.{Tree}

-- the bytes are this tree's line, or have this fault; there may be no memory for either
abbrev pub IsRead : Result Tree Fault → Result Tree ScriptFault → Type 0
IsRead due (Ok tree) = due ≡ Ok tree
IsRead due (Err (fault.At line reason)) = due ≡ Err (record { line = line; reason = reason })
IsRead due (Err fault.NoMemory) = Unit {0}
