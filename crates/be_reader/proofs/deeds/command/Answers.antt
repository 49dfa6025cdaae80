use Rattle.std.proofs.Common.{◌≡◌, Bor, Option, subst}
use Rattle.std.specs.Option.{IfSome}
use Rattle.be_command.specs.Names.{Known}
use Rattle.be_said.specs.SoFar.{known_in, window_of}
use Rattle.be_reader.proofs.CommandLemmas.{command_faulty, command_made}
use Rattle.be_reader.proofs.deeds.command.Goals as goal

pub returns-in-Ok : goal.returns-in-Ok
returns-in-Ok c =
    command_made c.args.said.now c.unwrap.result.now (window_of c.args.said.now.begun) c.args.text.now c.in-Ok.command
    (subst (λ (o : Option (Bor Known)). IfSome o (λ names. names.now ≡ known_in c.args.said.now (window_of c.args.said.now.begun))) c.unwrap.ensures c.names.ensures.names)
    c.in-Ok.ensures

pub returns-in-Err-BadCommand : goal.returns-in-Err-BadCommand
returns-in-Err-BadCommand c =
    command_faulty c.args.said.now c.unwrap.result.now (window_of c.args.said.now.begun) c.args.text.now c.in-Err-BadCommand.field-0-0 c.in-Err-BadCommand.reason
    (subst (λ (o : Option (Bor Known)). IfSome o (λ names. names.now ≡ known_in c.args.said.now (window_of c.args.said.now.begun))) c.unwrap.ensures c.names.ensures.names)
    (rw c.in-Err-BadCommand.field-0-is at c.in-Err-BadCommand.ensures)
