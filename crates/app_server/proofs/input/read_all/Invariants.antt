use Rattle.std.proofs.Common.{◌≡◌, ◌+◌, ◌≤◌, ◌-◌, vec_len}
use Rattle.be_outside.specs.Telling.{with_front}
use Rattle.app_server.proofs.input.read_all.Given as goal

-- what was read so far, and no more of it than that
abbrev pub invariant-loop-buffer : goal.invariant-loop-buffer
invariant-loop-buffer g l =
    (g.S.Source.left l.initial.source ≡ with_front l.bytes.items (g.S.Source.left l.source)) × (g.S.Source.faults l.initial.source ≤ g.S.Source.faults l.source) × (vec_len l.bytes ≤ l.most + 1)

abbrev pub decreases-loop-buffer : goal.decreases-loop-buffer
decreases-loop-buffer g l = l.most + 1 - vec_len l.bytes
