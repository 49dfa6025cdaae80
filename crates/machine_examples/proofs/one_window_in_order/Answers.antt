use Rattle.std.specs.Prelude.{refl}
use Rattle.std.proofs.Common.{arith}
use Rattle.be_machine.specs.Activities.{activity_of}
use Rattle.be_machine.specs.Happenings.{happenings_at}
use Rattle.machine_examples.proofs.one_window_in_order.Goals as goal

pub returns : goal.returns
unfolding happenings_at activity_of
returns c = record {
  happened = refl;
  in_turn = (record { ended = refl; unlocked = refl }, (refl, (refl, (tt, (tt, ((refl, omega arith), (refl, ((refl, omega arith, record { ended = refl; unlocked = refl }), ((refl, omega arith), (refl, (tt, ((λ _. refl), ((refl, omega arith), tt)))))))))))));
  even = refl;
  too_soon = λ h. omega (arith, h.0.1);
}
