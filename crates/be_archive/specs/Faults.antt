-- What a fault says of a message: the reason, or that there is none but want of memory (this
-- project's own).
use Rattle.std.specs.Prelude.{◌≡◌, Result, Ok, Err}
use Rattle.be_views.specs.Trees.{Tree}
use Rattle.be_archive.specs.declared.fault.ArchiveFault.{ArchiveFault}
use Rattle.be_archive.specs.declared.fault.ArchiveFault.TheVariants as fault
use Rattle.be_archive.specs.Reading.{Refusal, not_archive, bad_size, too_many, bad_view}

-- the fault is this reason
abbrev pub IsRefusal : {X : Type 0} → ArchiveFault → Result X Refusal → Type 0
IsRefusal fault.NotArchive r = r ≡ Err not_archive
IsRefusal fault.BadSize r = r ≡ Err bad_size
IsRefusal fault.TooMany r = r ≡ Err too_many
IsRefusal (fault.BadView view) r = r ≡ Err (bad_view view)
IsRefusal fault.NoMemory r = ⊥

-- the same, and memory wants only where there is none
abbrev pub IsFault : ArchiveFault → Result Tree Refusal → Type 0
IsFault fault.NotArchive r = r ≡ Err not_archive
IsFault fault.BadSize r = r ≡ Err bad_size
IsFault fault.TooMany r = r ≡ Err too_many
IsFault (fault.BadView view) r = r ≡ Err (bad_view view)
IsFault fault.NoMemory r = (tree : Tree) × (r ≡ Ok tree)
