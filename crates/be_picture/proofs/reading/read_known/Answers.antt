use Rattle.std.proofs.Common.{Result, ap, subst, sym}
use Rattle.be_command.specs.declared.Command.{Command}
use Rattle.be_command.specs.declared.fault.Reason.{Reason}
use Rattle.be_picture.specs.Faults.{IsTaken}
use Rattle.be_picture.specs.Text.{with_command}
use Rattle.be_picture.proofs.LineLemmas.{command_is, reason_is}
use Rattle.be_picture.proofs.reading.read_known.Goals as goal

pub returns-in-Ok : goal.returns-in-Ok
returns-in-Ok c =
    subst (λ (r : Result Command Reason). IsTaken (with_command c.args.recorder.now r) c.record.new.recorder c.record.result)
    (sym (command_is c.args.names.now c.args.text.now c.in-Ok.command c.in-Ok.ensures))
    c.record.ensures

pub returns-in-Err-BadCommand : goal.returns-in-Err-BadCommand
returns-in-Err-BadCommand c =
    ap (with_command c.args.recorder.now)
    (reason_is c.args.names.now c.args.text.now c.in-Err-BadCommand.field-0-0 c.in-Err-BadCommand.reason
    (rw c.in-Err-BadCommand.field-0-is at c.in-Err-BadCommand.ensures))
