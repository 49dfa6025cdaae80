-- The state has a port, a looper, a buffer, a link, a pane and a view tree for each window, each application, and a screen
-- of the size that the script says.
use Rattle.std.proofs.Common.{◌≡◌, ◌*◌, List, [], ◌∷◌, length, refl, sym, subst, ◌∙◌}
use Rattle.be_script.specs.Script.{Declared}
use Rattle.be_machine.specs.declared.Entry.{Entry}
use Rattle.be_machine.specs.History.{AreLegalFrom, state_from}
use Rattle.be_machine.specs.Input.{used, with_event}
use Rattle.be_machine.specs.Legal.{IsLegal}
use Rattle.be_machine.specs.State.{State}
use Rattle.be_machine.specs.Step.{met, step}
use Rattle.be_machine.specs.Wants.{Want, asks, takes, begins, flushes, draws_end, ends, notifies, executes, uses, stops}
use Rattle.be_machine.specs.Windows.{width_of}
use Rattle.be_machine.proofs.LegalEntries.{IsMet, met_by}
use Rattle.be_machine.proofs.ProgressBeside.{beside_event}
use Rattle.be_machine.proofs.ProgressParts.{SameSizes, same_beside, same_met}
use Rattle.be_machine.proofs.ReadsScreen.{SameScreen, step_screen}

-- ---- the lists of ports, loopers and so on

record HasLists (d : Declared) (s : State) : Type 0 where
  pub ports : length s.ports ≡ length d.windows
  pub loopers : length s.loopers ≡ length d.windows
  pub buffers : length s.buffers ≡ length d.windows
  pub links : length s.links ≡ length d.windows
  pub panes : length s.panes ≡ length d.windows
  pub apps : length s.apps ≡ length d.apps

lists_kept : (d : Declared) (s t : State) → SameSizes s t → HasLists d s → HasLists d t
lists_kept d s t h k = record {
  ports = h.ports ∙ k.ports;
  loopers = h.loopers ∙ k.loopers;
  buffers = h.buffers ∙ k.buffers;
  links = h.links ∙ k.links;
  panes = h.panes ∙ k.panes;
  apps = h.apps ∙ k.apps;
}

lists_met : (d : Declared) (s : State) (want : Want) → HasLists d s → HasLists d (met d s want)
unfolding met
lists_met d s (asks who x) h = lists_kept d s _ (same_met d s (asks who x) refl) h
lists_met d s (takes w) h = lists_kept d s _ (same_met d s (takes w) refl) h
lists_met d s (begins w) h = lists_kept d s _ (same_met d s (begins w) refl) h
lists_met d s (flushes w) h = lists_kept d s _ (same_met d s (flushes w) refl) h
lists_met d s (draws_end w) h = lists_kept d s _ (same_met d s (draws_end w) refl) h
lists_met d s (ends w) h = lists_kept d s _ (same_met d s (ends w) refl) h
lists_met d s (notifies w) h = lists_kept d s _ (same_met d s (notifies w) refl) h
lists_met d s (executes w) h = lists_kept d s _ (same_met d s (executes w) refl) h
lists_met d s (uses x) h = lists_kept d (used s) (with_event s x) (same_beside (used s) (with_event s x) (beside_event s x)) (record { ports = h.ports; loopers = h.loopers; buffers = h.buffers; links = h.links; panes = h.panes; apps = h.apps })
lists_met d s stops h = record { ports = h.ports; loopers = h.loopers; buffers = h.buffers; links = h.links; panes = h.panes; apps = h.apps }

-- ---- all parts

-- a list of each kind is as long as the script says, and the screen has its size
pub record HasParts (d : Declared) (s : State) : Type 0 where
  pub ports : length s.ports ≡ length d.windows
  pub loopers : length s.loopers ≡ length d.windows
  pub buffers : length s.buffers ≡ length d.windows
  pub links : length s.links ≡ length d.windows
  pub panes : length s.panes ≡ length d.windows
  pub apps : length s.apps ≡ length d.apps
  pub windows : length s.desk.windows.windows ≡ length d.windows
  pub trees : length s.desk.pointing.trees ≡ length d.windows
  pub focus : length s.desk.pointing.focus ≡ length d.windows
  pub width : width_of s ≡ d.width
  pub height : s.desk.windows.height ≡ d.height
  pub screen : length s.screen ≡ d.width * d.height

-- a legal entry keeps all parts
pub step_parts : (d : Declared) (s : State) (e : Entry) → IsLegal d s e → HasParts d s → HasParts d (step d s e)
step_parts d s e legal h =
    let is : IsMet d s e = met_by d s e legal in
    let old : HasLists d s = record { ports = h.ports; loopers = h.loopers; buffers = h.buffers; links = h.links; panes = h.panes; apps = h.apps } in
    let new : HasLists d (step d s e) = subst (HasLists d) (sym is.stepped) (lists_met d s is.want old) in
    let seen : SameScreen s (step d s e) = step_screen d s e legal in
    record {
      ports = new.ports;
      loopers = new.loopers;
      buffers = new.buffers;
      links = new.links;
      panes = new.panes;
      apps = new.apps;
      windows = seen.windows ∙ h.windows;
      trees = seen.trees ∙ h.trees;
      focus = seen.focus ∙ h.focus;
      width = seen.width ∙ h.width;
      height = seen.height ∙ h.height;
      screen = seen.cells ∙ h.screen;
    }

pub parts_from : (d : Declared) (s : State) (h : List Entry) → AreLegalFrom d s h → HasParts d s → HasParts d (state_from d s h)
unfolding AreLegalFrom state_from
parts_from d s [] legal parts = parts
parts_from d s (e ∷ es) legal parts = parts_from d (step d s e) es legal.1 (step_parts d s e legal.0 parts)
