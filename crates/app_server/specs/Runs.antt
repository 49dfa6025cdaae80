-- What is answered where a text was due.
use Rattle.std.specs.Prelude.{◌≡◌, ℕ, List}
use Rattle.app_server.specs.declared.status.Status.{Status}
use Rattle.app_server.specs.declared.status.Status.TheVariants.{Finished, Illegal, Usage}
use Rattle.app_server.specs.declared.status.Status.TheVariants.{BadScript, ReadFault, WriteFault}
use Rattle.app_server.specs.declared.status.Status.TheVariants.{NoMemory}
use Rattle.app_server.specs.Headline.{HasFailed, IsUntouched, Turn}
use Rattle.be_outside.specs.Telling.{TakesPrefix, with_end}

-- it was written, or a front part of it, or there was no memory for it
abbrev pub IsAnswered : {K : Type 0} → List ℕ → Turn K → Status → Type 0
IsAnswered text sink Finished = sink.after ≡ with_end sink.before text
IsAnswered text sink WriteFault = HasFailed sink × TakesPrefix sink.before sink.after text
IsAnswered text sink NoMemory = IsUntouched sink
IsAnswered text sink ReadFault = ⊥
IsAnswered text sink (BadScript line reason) = ⊥
IsAnswered text sink Usage = ⊥
IsAnswered text sink (Illegal entry) = ⊥
