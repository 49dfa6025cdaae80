-- By what cells are told apart.
use Rattle.std.specs.Prelude.{◌≡◌, Option, Some, None, refl}
use Rattle.std.specs.Coded.{Coded, code_by, coded_option}
use Rattle.be_message.specs.Messages.{Message}
use Rattle.be_message.specs.Codes.{message_code}
use Rattle.be_reply.specs.Cells.{Cell, idle, waiting, replied}

abbrev pub parts_of : Cell → Option (Option Message)
parts_of idle = None
parts_of waiting = Some None
parts_of (replied m) = Some (Some m)

abbrev pub cell_from : Option (Option Message) → Cell
cell_from None = idle
cell_from (Some None) = waiting
cell_from (Some (Some m)) = replied m

abbrev pub cell_again : (c : Cell) → cell_from (parts_of c) ≡ c
cell_again idle = refl
cell_again waiting = refl
cell_again (replied m) = refl

abbrev pub cell_code : Coded Cell
cell_code =
    code_by (Option (Option Message)) (coded_option (coded_option message_code)) parts_of cell_from
    cell_again
