-- The end of a run reads all parts.
use Rattle.std.proofs.Common.{◌≡◌, ℕ, suc, Bool, false, List, [], ◌∷◌, length, Some, None, refl, ap, ◌∙◌}
use Rattle.std.specs.Prelude.{slice_get, ◌==◌, ◌&&◌, not, if◌then◌else◌}
use Rattle.std.specs.List.{list_all, range_with_len}
use Rattle.std.specs.Option.{option_map_or}
use Rattle.std.proofs.lemmas.Option.{same_Some}
use Rattle.be_actor.specs.Wishes.{is_at_end}
use Rattle.be_link.specs.Queues.{Buffer, Numbered, is_flushed}
use Rattle.be_message.specs.Messages.{Message}
use Rattle.be_pane.specs.Panes.{Pane}
use Rattle.be_port.specs.Ports.{Port, queue_of}
use Rattle.be_script.specs.Script.{Declared}
use Rattle.be_machine.specs.Closing.{is_free, all_done, all_quiet, stop_act}
use Rattle.be_machine.specs.declared.Act.TheVariants as act
use Rattle.be_machine.specs.Legal.{want_act}
use Rattle.be_machine.specs.Program.{app_program}
use Rattle.be_machine.specs.State.{State, App, Looper}
use Rattle.be_machine.specs.Step.{met}
use Rattle.be_machine.specs.Touched.{Part, SamePart}
use Rattle.be_machine.specs.Touched as part
use Rattle.be_machine.specs.Update.{owes_notice}
use Rattle.be_machine.specs.Wants.{stops, want_of}
use Rattle.be_machine.proofs.ReadsBoth.{Wanted, Reads}
use Rattle.be_machine.proofs.ReadsDirt.{same_owes}
use Rattle.be_machine.proofs.ReadsParts.{stopped_keeps}

-- lists with the same elements
same_list : {X : Type 0} (xs ys : List X) → ((i : ℕ) → slice_get ys i ≡ slice_get xs i) → ys ≡ xs
same_list [] [] same = refl
same_list [] (y ∷ ys) same = let no : Some y ≡ None = same 0 in cc
same_list (x ∷ xs) [] same = let no : None ≡ Some x = same 0 in cc
same_list (x ∷ xs) (y ∷ ys) same = ap (λ z. z ∷ ys) (same_Some y x (same 0)) ∙ ap (λ zs. x ∷ zs) (same_list xs ys (λ i. same (suc i)))

same_tests : (p q : ℕ → Bool) (xs : List ℕ) → ((n : ℕ) → q n ≡ p n) → list_all q xs ≡ list_all p xs
same_tests p q [] same = refl
same_tests p q (x ∷ xs) same = ap (λ b. b && list_all q xs) (same x) ∙ ap (λ b. p x && b) (same_tests p q xs same)

same_done : (d : Declared) (s r : State) → r.apps ≡ s.apps → r.events ≡ s.events → all_done d r ≡ all_done d s
same_done d s r apps events =
    ap (λ (xs : List App). list_all (λ m. option_map_or (λ (a : App). is_at_end (app_program d m) a.place) (slice_get xs m) false) (range_with_len 0 (length xs)) && r.events == length d.input) apps
    ∙ ap (λ n. list_all (λ m. option_map_or (λ (a : App). is_at_end (app_program d m) a.place) (slice_get s.apps m) false) (range_with_len 0 (length s.apps)) && n == length d.input) events

-- by what there is
abbrev quiet_by : List Looper → List (Port Message) → List Buffer → List (List Numbered) → Bool → Bool
quiet_by loopers ports buffers links notices =
    list_all is_free loopers
    && list_all (λ p. length (queue_of p) == 0) ports
    && list_all is_flushed buffers
    && list_all (λ link. length link == 0) links
    && notices

same_quiet : (s r : State) → r.loopers ≡ s.loopers → r.ports ≡ s.ports → r.buffers ≡ s.buffers → r.links ≡ s.links → r.panes ≡ s.panes → ((w : ℕ) → owes_notice r w ≡ owes_notice s w) → all_quiet r ≡ all_quiet s
same_quiet s r loopers ports buffers links panes owes =
    let rest : State → Bool = λ t. list_all (λ w. not (owes_notice t w)) (range_with_len 0 (length t.panes)) in
    let notices : rest r ≡ rest s = ap (λ (xs : List Pane). list_all (λ w. not (owes_notice r w)) (range_with_len 0 (length xs))) panes ∙ same_tests (λ w. not (owes_notice s w)) (λ w. not (owes_notice r w)) (range_with_len 0 (length s.panes)) (λ w. ap not (owes w)) in
    ap (λ xs. quiet_by xs r.ports r.buffers r.links (rest r)) loopers
    ∙ ap (λ xs. quiet_by s.loopers xs r.buffers r.links (rest r)) ports
    ∙ ap (λ xs. quiet_by s.loopers s.ports xs r.links (rest r)) buffers
    ∙ ap (λ xs. quiet_by s.loopers s.ports s.buffers xs (rest r)) links
    ∙ ap (quiet_by s.loopers s.ports s.buffers s.links) notices

same_stop : (d : Declared) (s r : State) → r.stopped ≡ s.stopped → all_done d r ≡ all_done d s → all_quiet r ≡ all_quiet s → stop_act d r ≡ stop_act d s
same_stop d s r stop done quiet =
    ap (λ b. if not b && all_done d r && all_quiet r then Some act.Stop else None) stop
    ∙ ap (λ b. if not s.stopped && b && all_quiet r then Some act.Stop else None) done
    ∙ ap (λ b. if not s.stopped && all_done d s && b then Some act.Stop else None) quiet

pub reads_stop : (d : Declared) (s r : State) → Wanted d s r stops → Reads d s r stops
unfolding want_of want_act met
reads_stop d s r is =
    let all : (p : Part) → SamePart s r p = λ p. is.touched p tt in
    let input : SamePart s r part.input = all part.input in
    let looper : (w : ℕ) → SamePart s r (part.looper w) = λ w. all (part.looper w) in
    let pane : (w : ℕ) → SamePart s r (part.pane w) = λ w. all (part.pane w) in
    record {
      wanted = refl;
      granted = same_stop d s r input.1 (same_done d s r (same_list s.apps r.apps (λ m. all (part.cell m))) input.0)
          (same_quiet s r (same_list s.loopers r.loopers (λ w. (looper w).0)) (same_list s.ports r.ports (λ w. all (part.port w))) (same_list s.buffers r.buffers (λ w. (looper w).1)) (same_list s.links r.links (λ w. all (part.link w))) (same_list s.panes r.panes (λ w. (pane w).0)) (λ w. same_owes s r w is.both.screens.width (pane w)));
      kept = stopped_keeps s r;
    }
