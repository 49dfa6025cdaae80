-- What a refusal hands back.
use Rattle.std.specs.Prelude.{◌≡◌}
use Rattle.be_span.specs.declared.append.AppendFault.{AppendFault}
use Rattle.be_span.specs.declared.append.AppendFault.TheVariants.{NoMemory}
use Rattle.be_span.specs.Spans.{Spans}

-- a buffer comes back as it was
abbrev pub HandsBack : AppendFault → Spans → Type 0
HandsBack (NoMemory back) spans = back ≡ spans
