-- Where a notice is owed the window's port is open, and no notice waits in it.
use Rattle.std.proofs.Common.{◌≡◌, ℕ, Bool, true, false, List, [], ◌∷◌, Option, Some, None, refl, ap, ◌∙◌, arith}
use Rattle.std.specs.Prelude.{◌&&◌, ◌||◌, not, slice_get}
use Rattle.std.specs.List.{list_any}
use Rattle.std.specs.Option.{is_none}
use Rattle.std.proofs.lemmas.Option.{slice_get_within}
use Rattle.be_facts.proofs.Truths.{not_true, and_second, and_first}
use Rattle.be_message.specs.Messages.{Message}
use Rattle.be_pane.specs.Panes.{Pane}
use Rattle.be_port.specs.Ports.{Letter, Port, has_notice, queue_of}
use Rattle.be_script.specs.Limits.{IsWithinLimits}
use Rattle.be_script.specs.Script.{Declared}
use Rattle.be_stack.specs.declared.window.Window.{Window}
use Rattle.be_update.specs.Sessions.{is_any}
use Rattle.be_machine.specs.declared.Entry.{Entry}
use Rattle.be_machine.specs.History.{IsLegalHistory, state_after}
use Rattle.be_machine.specs.State.{State}
use Rattle.be_machine.specs.Update.{owes, owes_notice}
use Rattle.be_machine.specs.Windows.{dirty_of}
use Rattle.be_machine.proofs.HasParts.{HasParts}
use Rattle.be_machine.proofs.Histories.{parts_after}
use Rattle.be_machine.proofs.KeptNotices.{IsNoted, is_notice}
use Rattle.be_machine.proofs.KeptPorts.{closed_alike}
use Rattle.be_machine.proofs.KeptSessions.{noted_after}
use Rattle.be_machine.proofs.Lists.{IsThere, there}
use Rattle.be_machine.proofs.Waiting.{one_where, total}

-- a window that is open, and a pane that owes a notice
record IsOwed (s : State) (w : ℕ) : Type 0 where
  window : Window
  pane : Pane
  at_window : slice_get s.desk.windows.windows w ≡ Some window
  at_pane : slice_get s.panes w ≡ Some pane
  open_still : window.closed ≡ false
  first : pane.notified ≡ false

owed_by : (s : State) (w : ℕ) (a : Option Window) (b : Option Pane) → slice_get s.desk.windows.windows w ≡ a → slice_get s.panes w ≡ b → owes s w a b ≡ true → IsOwed s w
owed_by s w (Some window) (Some pane) read there_pane e =
    let dirty : Bool = is_any (dirty_of s w) in
    let three : (not window.closed && dirty && is_none pane.session) ≡ true = and_first (not window.closed && dirty && is_none pane.session) (not pane.notified) e in
    let two : (not window.closed && dirty) ≡ true = and_first (not window.closed && dirty) (is_none pane.session) three in
    record {
      window = window;
      pane = pane;
      at_window = read;
      at_pane = there_pane;
      open_still = not_true window.closed (and_first (not window.closed) dirty two);
      first = not_true pane.notified (and_second (not window.closed && dirty && is_none pane.session) (not pane.notified) e);
    }
owed_by s w (Some window) None read there_pane e = cc
owed_by s w None b read there_pane e = cc

is_owed_at : (s : State) (w : ℕ) → owes_notice s w ≡ true → IsOwed s w
unfolding owes_notice
is_owed_at s w e = owed_by s w (slice_get s.desk.windows.windows w) (slice_get s.panes w) refl refl e

not_one : (b : Bool) → one_where b ≡ 0 → b ≡ false
not_one true e = absurd (omega (arith, e))
not_one false e = refl

none_waits : (letters : List (Letter Message)) → total is_notice letters ≡ 0 → list_any (λ letter. letter.notice) letters ≡ false
none_waits [] e = refl
none_waits (x ∷ xs) e =
    let here : one_where x.notice ≡ 0 = omega (arith, e) in
    let rest : list_any (λ letter. letter.notice) xs ≡ false = none_waits xs (omega (arith, e)) in
    ap (λ b. b || list_any (λ letter. letter.notice) xs) (not_one x.notice here) ∙ rest

pub owed_alone : (d : Declared) (h : List Entry) (w : ℕ) (p : Port Message) → IsWithinLimits d → IsLegalHistory d h → owes_notice (state_after d h) w ≡ true → slice_get (state_after d h).ports w ≡ Some p → (p.closed ≡ false) × (has_notice p ≡ false)
owed_alone d h w p limits legal owed read =
    let s : State = state_after d h in
    let is : IsOwed s w = is_owed_at s w owed in
    let parts : HasParts d s = parts_after d h legal in
    let inside = slice_get_within s.ports w p read in
    let looper : IsThere s.loopers w = there s.loopers w (omega (arith, inside, parts.loopers, parts.ports)) in
    let noted : IsNoted p looper.element is.pane = noted_after d h limits legal w p looper.element is.pane read looper.read is.at_pane in
    let nothing : one_where is.pane.notified ≡ 0 = ap one_where is.first in (
      closed_alike d h w p is.window legal read is.at_window ∙ is.open_still,
      none_waits (queue_of p) (omega (arith, noted.count, nothing)),
    )
