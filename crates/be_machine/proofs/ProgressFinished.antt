-- A finished history ends in Stop, and one that ends in Stop is finished.
use Rattle.std.proofs.Common.{◌≡◌, ℕ, Bool, true, false, List, [], ◌∷◌, ◌++◌, Some, None, refl, sym, ap, subst, ◌∙◌}
use Rattle.be_script.specs.Script.{Declared}
use Rattle.be_machine.specs.Closing.{all_done, all_quiet, stopped}
use Rattle.be_machine.specs.declared.Act.TheVariants as act
use Rattle.be_machine.specs.declared.Entry.{Entry}
use Rattle.be_machine.specs.History.{AreLegalFrom, state_from, IsLegalHistory, state_after, IsFinished}
use Rattle.be_machine.specs.Legal.{IsLegal, legal_act}
use Rattle.be_machine.specs.Orderly.{EndsInStop}
use Rattle.be_machine.specs.State.{State, opening_state}
use Rattle.be_machine.specs.Step.{step}
use Rattle.be_machine.specs.Update.{owes_notice}
use Rattle.be_machine.specs.Windows.{dirty_of}
use Rattle.be_machine.proofs.ProgressRest.{IsAtRest, rest_tells, all_rest}
use Rattle.be_machine.proofs.ProgressStops.{Stops, IsTheEnd, end_by_state, end_by_act}

-- ---- nobody acts once the machine has stopped

rest_stopped : (d : Declared) (s : State) → IsAtRest d s → IsAtRest d (stopped s)
unfolding owes_notice dirty_of
rest_stopped d s rest = record { ended = rest.ended; used = rest.used; loopers = rest.loopers; ports = rest.ports; links = rest.links; owed = rest.owed }

none_behind : (d : Declared) (s : State) (e : Entry) (a : ℕ) → IsTheEnd d s e → legal_act d (step d s e) a ≡ None
none_behind d s e a is = ap (λ t. legal_act d t a) is.after ∙ all_rest d (stopped s) a (rest_stopped d s (rest_tells d s is.tells.done is.tells.quiet)) refl

-- ---- where it stops

-- the machine stopped with the last of these entries
record StopsLast (d : Declared) (s : State) (h : List Entry) : Type 0 where
  pub ends : EndsInStop h
  pub none : (a : ℕ) → legal_act d (state_from d s h) a ≡ None

alone : (d : Declared) (s : State) (e : Entry) (es : List Entry) → IsTheEnd d s e → AreLegalFrom d (step d s e) es → StopsLast d s (e ∷ es)
unfolding AreLegalFrom state_from
alone d s e [] is legal = record { ends = record { before = []; last = e; split = refl; stop = is.tells.stop }; none = λ a. none_behind d s e a is }
alone d s e (f ∷ fs) is legal = let no : None ≡ Some f.act = sym (none_behind d s e f.actor is) ∙ legal.0 in cc

later : (d : Declared) (s : State) (e : Entry) (es : List Entry) → StopsLast d (step d s e) es → StopsLast d s (e ∷ es)
unfolding state_from
later d s e es is = record { ends = record { before = e ∷ is.ends.before; last = is.ends.last; split = ap (λ xs. e ∷ xs) is.ends.split; stop = is.ends.stop }; none = is.none }

stops_by : (d : Declared) (s : State) (e : Entry) (es : List Entry) (b : Bool) → (step d s e).stopped ≡ b → IsLegal d s e → s.stopped ≡ false → AreLegalFrom d (step d s e) es → (b ≡ false → StopsLast d (step d s e) es) → StopsLast d s (e ∷ es)
stops_by d s e es true is legal runs rest go = alone d s e es (end_by_state d s e legal runs is) rest
stops_by d s e es false is legal runs rest go = later d s e es (go refl)

stops_from : (d : Declared) (s : State) (h : List Entry) → AreLegalFrom d s h → s.stopped ≡ false → (state_from d s h).stopped ≡ true → StopsLast d s h
unfolding AreLegalFrom state_from
stops_from d s [] legal runs e = let no : true ≡ false = sym e ∙ runs in cc
stops_from d s (f ∷ fs) legal runs e = stops_by d s f fs (step d s f).stopped refl legal.0 runs legal.1 (λ still. stops_from d (step d s f) fs legal.1 still e)

opens_running : (d : Declared) → (opening_state d).stopped ≡ false
unfolding opening_state
opens_running d = refl

finished_last : (d : Declared) (h : List Entry) → IsFinished d h → StopsLast d (opening_state d) h
finished_last d h is = stops_from d (opening_state d) h is.legal (opens_running d) is.stopped

pub finished_ends : (d : Declared) (h : List Entry) → IsFinished d h → EndsInStop h
finished_ends d h is = (finished_last d h is).ends

pub finished_none : (d : Declared) (h : List Entry) (a : ℕ) → IsFinished d h → legal_act d (state_after d h) a ≡ None
finished_none d h a is = (finished_last d h is).none a

-- ---- a history that ends in Stop

last_stops : (d : Declared) (s : State) (before : List Entry) (e : Entry) → AreLegalFrom d s (before ++ e ∷ []) → e.act ≡ act.Stop → (state_from d s (before ++ e ∷ [])).stopped ≡ true
unfolding AreLegalFrom state_from
last_stops d s [] e legal stop = ap (λ (t : State). t.stopped) (end_by_act d s e legal.0 stop).after
last_stops d s (f ∷ fs) e legal stop = last_stops d (step d s f) fs e legal.1 stop

pub ends_finished : (d : Declared) (h : List Entry) → IsLegalHistory d h → EndsInStop h → IsFinished d h
ends_finished d h legal is = record {
  legal = legal;
  stopped = subst (λ xs. (state_after d xs).stopped ≡ true) (sym is.split) (last_stops d (opening_state d) is.before is.last (subst (IsLegalHistory d) is.split legal) is.stop);
}

-- ---- Stop

pub stop_rests : (d : Declared) (s : State) (e : Entry) → IsLegal d s e → e.act ≡ act.Stop → (all_done d s ≡ true) × (all_quiet s ≡ true)
stop_rests d s e legal stop = let is : Stops d s e.act = (end_by_act d s e legal stop).tells in (is.done, is.quiet)
