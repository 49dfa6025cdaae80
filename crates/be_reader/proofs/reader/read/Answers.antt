use Rattle.std.proofs.Common.{refl, ◌∙◌}
use Rattle.be_reader.proofs.LineLemmas.{short_enough}
use Rattle.be_said.specs.Whole.{said_by}
use Rattle.be_reader.proofs.reader.read.Goals as goal

pub returns-clause-limits : goal.returns-clause-limits
returns-clause-limits c =
    c.an_accepted_script_keeps_its_limits.ensures (said_by c.in_ok-script.script) c.in_ok-script.script.screen
    (short_enough c.args.bytes.now c.if-bytes-gt-SCRIPT_BYTES.false ∙ c.in_ok-script.ensures) refl
