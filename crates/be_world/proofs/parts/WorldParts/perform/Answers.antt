use Rattle.std.proofs.Common.{subst}
use Rattle.be_hall.specs.Machine.{IsReady}
use Rattle.be_rules.specs.Rules.{world_machine}
use Rattle.be_world.proofs.parts.WorldParts.perform.Goals as goal

pub make-requires : goal.make-requires
make-requires c =
    let ready = c.args.ready in
    record {
      limits = c.requires.fitting.1.limits;
      fitting = c.requires.fitting;
      number = c.requires.number;
      fits = c.requires.fits;
      prepared = c.requires.prepared;
      ready =
          subst (λ h. IsReady (world_machine c.args.self.now) h ready.entry) c.requires.seen
          c.requires.permitted;
      spare = c.requires.spare;
    }
