-- The steps that are left find from here what all steps find from the target.
use Rattle.std.proofs.Common.{◌≡◌, ◌+◌, ◌-◌, length}
use Rattle.be_handler.specs.Routes.{handler_from}
use Rattle.be_handler.proofs.chain.Chain.handler_from.Given as goal

abbrev pub invariant-up : goal.invariant-up
invariant-up l =
    handler_from (length l.self.parents + length l.self.nexts + 1) l.self l.what l.fn.target
    ≡ handler_from (length l.self.parents + length l.self.nexts + 1 - l._step) l.self l.what l.at
