use Rattle.std.proofs.Common.{◌≡◌, ◌-◌, ◌≤◌, [], take}
use Rattle.be_message.specs.Names.{is_text_byte}
use Rattle.be_flat.specs.Reading.{bytes_that}
use Rattle.be_flat.proofs.Loops.{Stands}
use Rattle.be_flat.proofs.part.text_bytes_at.Given as goal

abbrev pub invariant-loop : goal.invariant-loop
invariant-loop l =
    record {
      stands : Stands l.start l.counter l.cursor.bytes;
      read : bytes_that (λ read b. is_text_byte b) (l.length - l.counter) (take l.counter l.start) l.cursor ≡ bytes_that (λ read b. is_text_byte b) l.length [] l.fn.cursor;
      most : l.counter ≤ l.length;
    }
