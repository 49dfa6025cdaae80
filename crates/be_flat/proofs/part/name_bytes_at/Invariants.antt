use Rattle.std.proofs.Common.{◌≡◌, ◌-◌, ◌≤◌, [], take}
use Rattle.be_flat.specs.Reading.{bytes_that, goes_on_name}
use Rattle.be_flat.proofs.Loops.{Stands}
use Rattle.be_flat.proofs.part.name_bytes_at.Given as goal

abbrev pub invariant-loop-place : goal.invariant-loop-place
invariant-loop-place l =
    record {
      stands : Stands l.start l.place l.cursor.bytes;
      read : bytes_that goes_on_name (l.length - l.place) (take l.place l.start) l.cursor ≡ bytes_that goes_on_name l.length [] l.fn.cursor;
      most : l.place ≤ l.length;
    }
