-- A legal entry reads only what it touches.
use Rattle.std.proofs.Common.{◌≡◌, List, Some, sym, ap, subst, ◌∙◌}
use Rattle.std.proofs.lemmas.Option.{same_Some}
use Rattle.std.specs.Prelude.{◌↔◌, option_and_then}
use Rattle.std.specs.Option.{option_map_or}
use Rattle.be_script.specs.Limits.{IsWithinLimits}
use Rattle.be_script.specs.Script.{Declared}
use Rattle.be_machine.specs.Activities.{app, looper, activity_of}
use Rattle.be_machine.specs.declared.Entry.{Entry}
use Rattle.be_machine.specs.History.{IsLegalHistory, state_after}
use Rattle.be_machine.specs.Legal.{IsLegal, want_act, legal_act}
use Rattle.be_machine.specs.State.{State}
use Rattle.be_machine.specs.Step.{met, step}
use Rattle.be_machine.specs.Touched.{Part, SamePart, Touches}
use Rattle.be_machine.specs.Wants.{Want, asks, takes, begins, flushes, draws_end, ends, notifies, executes, uses, stops, want_of}
use Rattle.be_machine.proofs.LegalEntries.{IsMet, met_by, maker, maker_is}
use Rattle.be_machine.proofs.ReadsBoth.{Both, both_after, Wanted, Reads}
use Rattle.be_machine.proofs.ReadsLocks.{reads_app}
use Rattle.be_machine.proofs.ReadsLoopers.{reads_body, reads_take, reads_flush, reads_draw_end, reads_end}
use Rattle.be_machine.proofs.ReadsUpdates.{reads_notice, reads_begin}
use Rattle.be_machine.proofs.ReadsCommands.{reads_exec}
use Rattle.be_machine.proofs.ReadsInput.{reads_event}
use Rattle.be_machine.proofs.ReadsStop.{reads_stop}
use Rattle.be_machine.proofs.ReadsTables.{same_touches}

reads_want : (d : Declared) (s r : State) (want : Want) → Wanted d s r want → Reads d s r want
reads_want d s r (asks (app m) x) is = reads_app d s r m x is
reads_want d s r (asks (looper w) x) is = reads_body d s r w x is
reads_want d s r (takes w) is = reads_take d s r w is
reads_want d s r (begins w) is = reads_begin d s r w is
reads_want d s r (flushes w) is = reads_flush d s r w is
reads_want d s r (draws_end w) is = reads_draw_end d s r w is
reads_want d s r (ends w) is = reads_end d s r w is
reads_want d s r (notifies w) is = reads_notice d s r w is
reads_want d s r (executes w) is = reads_exec d s r w is
reads_want d s r (uses x) is = reads_event d s r x is
reads_want d s r stops is = reads_stop d s r is

-- the entry meets the same want in the other state
pub record IsReadIn (d : Declared) (s r : State) (e : Entry) (want : Want) : Type 0 where
  pub wanted : option_and_then (want_of d r) (activity_of d e.actor) ≡ Some want
  pub legal : IsLegal d r e
  pub kept : (p : Part) → SamePart s r p → SamePart (step d s e) (step d r e) p
  pub touches : (p : Part) → Touches s (step d s e) want p ↔ Touches r (step d r e) want p

read_in : (d : Declared) (s r : State) (e : Entry) (want : Want) → Both d s r → IsLegal d s e → option_and_then (want_of d s) (activity_of d e.actor) ≡ Some want → ((p : Part) → Touches s (step d s e) want p → SamePart s r p) → IsReadIn d s r e want
unfolding step legal_act
read_in d s r e want both legal wants touched =
    let is : IsMet d s e = met_by d s e legal in
    let same : is.want ≡ want = same_Some is.want want (sym (ap (option_and_then (want_of d s)) is.numbered ∙ is.wanted) ∙ wants) in
    let made : maker want ≡ is.who = ap maker (sym same) ∙ maker_is d s is.who is.want is.wanted in
    let after : step d s e ≡ met d s want = is.stepped ∙ ap (met d s) same in
    let known : Wanted d s r want = record {
      both = both;
      act = e.act;
      wanted = ap (want_of d s) made ∙ is.wanted ∙ ap Some same;
      granted = ap (want_act d s) (sym same) ∙ is.granted;
      touched = λ p h. touched p (subst (λ t. Touches s t want p) (sym after) h);
    } in
    let reads : Reads d s r want = reads_want d s r want known in
    let now : option_and_then (want_of d r) (activity_of d e.actor) ≡ Some want = ap (option_and_then (want_of d r)) (is.numbered ∙ ap Some (sym made)) ∙ reads.wanted in
    let other : step d r e ≡ met d r want = ap (λ o. option_map_or (met d r) o r) now in
    record {
      wanted = now;
      legal = ap (option_and_then (want_act d r)) now ∙ reads.granted ∙ ap (want_act d s) (sym same) ∙ is.granted;
      kept = λ p h. subst (λ t. SamePart t (step d r e) p) (sym after) (subst (λ t. SamePart (met d s want) t p) (sym other) (reads.kept p h));
      touches = λ p. subst (λ t. Touches s t want p ↔ Touches r (step d r e) want p) (sym after) (subst (λ t. Touches s (met d s want) want p ↔ Touches r t want p) (sym other) (same_touches d s r want p known reads));
    }

pub read_by : (d : Declared) (g h : List Entry) (e : Entry) (want : Want) → IsWithinLimits d → IsLegalHistory d g → IsLegalHistory d h → IsLegal d (state_after d g) e → option_and_then (want_of d (state_after d g)) (activity_of d e.actor) ≡ Some want → ((p : Part) → Touches (state_after d g) (step d (state_after d g) e) want p → SamePart (state_after d g) (state_after d h) p) → IsReadIn d (state_after d g) (state_after d h) e want
read_by d g h e want limits one two legal wants touched = read_in d (state_after d g) (state_after d h) e want (both_after d g h limits one two) legal wants touched
