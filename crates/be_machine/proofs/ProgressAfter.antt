-- What holds of the state after every legal history.
use Rattle.std.proofs.Common.{◌≡◌, ◌<◌, ◌≤◌, true, false, List, [], ◌∷◌, length, replicate, Option, Some, None, refl, sym, ap, subst, ◌∙◌, arith}
use Rattle.std.specs.Prelude.{slice_get, option_map}
use Rattle.std.proofs.lemmas.Option.{slice_get_within}
use Rattle.be_link.specs.Queues.{empty_buffer}
use Rattle.be_script.specs.declared.InputLine.{InputLine}
use Rattle.be_script.specs.Limits.{IsWithinLimits}
use Rattle.be_script.specs.Script.{Declared}
use Rattle.be_machine.specs.Activities.{Activity}
use Rattle.be_machine.specs.declared.Entry.{Entry}
use Rattle.be_machine.specs.History.{AreLegalFrom, state_from, IsLegalHistory, state_after}
use Rattle.be_machine.specs.Input.{used, with_event}
use Rattle.be_machine.specs.Legal.{IsLegal}
use Rattle.be_actor.specs.declared.Instruction.{Instruction}
use Rattle.be_machine.specs.Program.{lock_before, app_program, is_locked_by}
use Rattle.be_machine.specs.State.{State, free, opening_app, opening_state}
use Rattle.be_machine.specs.Step.{met, step}
use Rattle.be_machine.specs.Wants.{Want, asks, takes, begins, flushes, draws_end, ends, notifies, executes, uses, stops, want_of}
use Rattle.be_machine.proofs.LegalEntries.{IsMet, met_by, maker, maker_is}
use Rattle.be_machine.proofs.Programs.{app_rest}
use Rattle.be_machine.proofs.ProgressBeside.{beside_event}
use Rattle.be_machine.proofs.ProgressCalm.{IsCalm}
use Rattle.be_machine.proofs.ProgressCalmSteps.{IsCalmState, calm_met}
use Rattle.be_machine.proofs.ProgressLocks.{Follows}
use Rattle.be_machine.proofs.ProgressLocksMet.{IsLockedState, locked_met}
use Rattle.be_machine.proofs.HasParts.{HasParts, step_parts}
use Rattle.be_machine.proofs.Opening.{parts_opening}
use Rattle.be_machine.proofs.ProgressParts.{SameSizes, same_beside, same_met}
use Rattle.be_machine.proofs.Waiting.{IsWaiting}
use Rattle.be_machine.proofs.WaitingAfter.{repeated, opening_waiting}
use Rattle.be_machine.proofs.WaitingSteps.{waiting_step}

pub record IsSettled (d : Declared) (s : State) : Type 0 where
  pub parts : HasParts d s
  pub calm : IsCalmState s
  pub locks : IsLockedState d s
  pub waits : IsWaiting d s
  pub events : s.events ≤ length d.input

-- ---- an entry

-- no more events are used than there are
abbrev IsInTime : Declared → State → Type 0
IsInTime d s = s.events ≤ length d.input

same_time : (d : Declared) (s t : State) → SameSizes s t → IsInTime d s → IsInTime d t
same_time d s t same h = subst (λ n. n ≤ length d.input) (sym same.events) h

used_in_time : (d : Declared) (s : State) (x : InputLine) → slice_get d.input s.events ≡ Some x → IsInTime d (with_event s x)
used_in_time d s x read =
    let inside : s.events < length d.input = slice_get_within d.input s.events x read in
    same_time d (used s) (with_event s x) (same_beside (used s) (with_event s x) (beside_event s x)) (omega (arith, inside))

the_line : (o : Option InputLine) (x : InputLine) → option_map uses o ≡ Some (uses x) → o ≡ Some x
the_line (Some y) x e = let same : y ≡ x = cc in ap Some same
the_line None x e = cc

in_time : (d : Declared) (s : State) (who : Activity) (want : Want) → maker want ≡ who → want_of d s who ≡ Some want → IsInTime d s → IsInTime d (met d s want)
unfolding met want_of
in_time d s who (asks x y) made wanted h = same_time d s _ (same_met d s (asks x y) refl) h
in_time d s who (takes w) made wanted h = same_time d s _ (same_met d s (takes w) refl) h
in_time d s who (begins w) made wanted h = same_time d s _ (same_met d s (begins w) refl) h
in_time d s who (flushes w) made wanted h = same_time d s _ (same_met d s (flushes w) refl) h
in_time d s who (draws_end w) made wanted h = same_time d s _ (same_met d s (draws_end w) refl) h
in_time d s who (ends w) made wanted h = same_time d s _ (same_met d s (ends w) refl) h
in_time d s who (notifies w) made wanted h = same_time d s _ (same_met d s (notifies w) refl) h
in_time d s who (executes w) made wanted h = same_time d s _ (same_met d s (executes w) refl) h
in_time d s who (uses x) made wanted h = used_in_time d s x (the_line (slice_get d.input s.events) x (ap (want_of d s) made ∙ wanted))
in_time d s who stops made wanted h = h

pub settled_step : (d : Declared) (s : State) (e : Entry) → IsWithinLimits d → IsLegal d s e → IsSettled d s → IsSettled d (step d s e)
settled_step d s e limits legal h =
    let is : IsMet d s e = met_by d s e legal in
    let made : maker is.want ≡ is.who = maker_is d s is.who is.want is.wanted in
    record {
      parts = step_parts d s e legal h.parts;
      calm = subst IsCalmState (sym is.stepped) (calm_met d s is.who is.want e.act limits made is.wanted is.granted h.calm);
      locks = subst (IsLockedState d) (sym is.stepped) (locked_met d s is.who is.want e.act limits h.parts made is.wanted is.granted h.locks);
      waits = waiting_step d s e limits legal h.waits;
      events = subst (λ t. t.events ≤ length d.input) (sym is.stepped) (in_time d s is.who is.want made is.wanted h.events);
    }

-- ---- the start

opening_calm : (d : Declared) → IsCalmState (opening_state d)
unfolding opening_state
opening_calm d = λ w l read b there. subst (IsCalm l) (repeated (length d.windows) w empty_buffer b there) (record { within = omega arith; idle = λ e. refl })

first_lock : (program : List Instruction) → lock_before None program 0 ≡ None
first_lock [] = refl
first_lock (i ∷ rest) = refl

opening_locks : (d : Declared) → IsWithinLimits d → IsLockedState d (opening_state d)
unfolding opening_state
opening_locks d limits = record {
  follows = λ m a read. subst (Follows d (replicate (length d.windows) free) m) (repeated (length d.apps) m opening_app a read) (record {
    lock = None;
    placed = sym (first_lock (app_program d m));
    has = record { inside = tt; alone = λ w l there. ap (is_locked_by m) (sym (repeated (length d.windows) w free l there)) };
    keeps = app_rest d m limits;
  });
  known = λ w l there m e. let no : false ≡ true = ap (is_locked_by m) (repeated (length d.windows) w free l there) ∙ e in cc;
}

no_events : (d : Declared) → (opening_state d).events ≤ length d.input
unfolding opening_state
no_events d = omega arith

pub opening_settled : (d : Declared) → IsWithinLimits d → IsSettled d (opening_state d)
opening_settled d limits = record { parts = parts_opening d; calm = opening_calm d; locks = opening_locks d limits; waits = opening_waiting d; events = no_events d }

-- ---- after a history

pub settled_from : (d : Declared) (s : State) (h : List Entry) → IsWithinLimits d → AreLegalFrom d s h → IsSettled d s → IsSettled d (state_from d s h)
unfolding AreLegalFrom state_from
settled_from d s [] limits legal is = is
settled_from d s (e ∷ es) limits legal is = settled_from d (step d s e) es limits legal.1 (settled_step d s e limits legal.0 is)

pub settled_after : (d : Declared) (h : List Entry) → IsWithinLimits d → IsLegalHistory d h → IsSettled d (state_after d h)
settled_after d h limits legal = settled_from d (opening_state d) h limits legal (opening_settled d limits)
