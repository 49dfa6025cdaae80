-- One of the maps has the new key, and the others are as they were.
use Rattle.std.proofs.Common.{subst, sym}
use Rattle.be_message.specs.declared.target.Target.{Target}
use Rattle.be_script.specs.BodyNumbers.{HasNew}
use Rattle.be_script.proofs.WorkNumbers.{window-new, view-new, plain-new}
use Rattle.be_script.proofs.costs.body_numbers.BodyNumbers.insert.Goals as goal

pub returns-in_ok-insert-in-Window : goal.returns-in_ok-insert-in-Window
returns-in_ok-insert-in-Window c =
    subst (λ (t : Target). HasNew c.args.self.now record { of_windows = c.insert.new.self; of_views = c.args.self.now.of_views; of_plains = c.args.self.now.of_plains }
    c.args.window t c.args.what c.args.number) (sym c.in-Window.is)
    (window-new c.args.self.now c.insert.new.self c.args.window c.args.what c.args.number c.in_ok-insert-in-Window.ensures.updates)

pub returns-in_ok-insert-in-View : goal.returns-in_ok-insert-in-View
returns-in_ok-insert-in-View c =
    subst (λ (t : Target). HasNew c.args.self.now record { of_windows = c.args.self.now.of_windows; of_views = c.insert-in-View.new.self; of_plains = c.args.self.now.of_plains }
    c.args.window t c.args.what c.args.number) (sym c.in-View.is)
    (view-new c.args.self.now c.insert-in-View.new.self c.args.window c.in-View.view c.args.what c.args.number c.in_ok-insert-in-View.ensures.updates)

pub returns-in_ok-insert-in-Plain : goal.returns-in_ok-insert-in-Plain
returns-in_ok-insert-in-Plain c =
    subst (λ (t : Target). HasNew c.args.self.now record { of_windows = c.args.self.now.of_windows; of_views = c.args.self.now.of_views; of_plains = c.insert-in-Plain.new.self }
    c.args.window t c.args.what c.args.number) (sym c.in-Plain.is)
    (plain-new c.args.self.now c.insert-in-Plain.new.self c.args.window c.in-Plain.plain c.args.what c.args.number c.in_ok-insert-in-Plain.ensures.updates)
