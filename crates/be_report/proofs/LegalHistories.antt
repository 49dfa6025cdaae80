-- Every entry of a legal history can be written down, so that a report tells its history.
use Rattle.std.proofs.Common.{◌≡◌, ℕ, ◌+◌, ◌*◌, ◌^◌, ◌<◌, Bool, true, false, List, [], ◌∷◌, ◌++◌, length, codes, Some, None, All, refl, sym, ap, ◌∙◌, arith, append_assoc}
use Rattle.std.specs.Prelude.{nat_lt, ◌==◌, ◌-◌, if◌then◌else◌}
use Rattle.std.proofs.lemmas.Bool.{ltb-true, eqb-true}
use Rattle.std.proofs.lemmas.List.Elements.{All-nil, All-cons}
use Rattle.be_script.specs.Limits.{IsWithinLimits}
use Rattle.be_script.specs.Script.{Declared}
use Rattle.be_machine.specs.Activities.{Runner, app, looper, Activity, runner, input, closing, window_activity, activities, activity_of}
use Rattle.be_machine.specs.declared.Entry.{Entry}
use Rattle.be_machine.specs.History.{AreLegalFrom, IsLegalHistory, state_from, state_after}
use Rattle.be_machine.specs.Legal.{IsLegal}
use Rattle.be_machine.specs.Orderly.{first_tally}
use Rattle.be_machine.specs.State.{State, opening_state}
use Rattle.be_machine.specs.Step.{step}
use Rattle.be_machine.specs.Wants.{Want, asks, takes, begins, flushes, draws_end, ends, notifies, executes, uses, stops, want_of}
use Rattle.be_machine.proofs.HasParts.{step_parts}
use Rattle.be_machine.proofs.Histories.{in_range}
use Rattle.be_machine.proofs.LegalEntries.{met_by, maker, maker_is}
use Rattle.be_machine.proofs.NumbersGrow.{Grows}
use Rattle.be_machine.proofs.NumbersSmall.{letters_small, commands_small, events_small}
use Rattle.be_machine.proofs.NumbersSteps.{grows_step}
use Rattle.be_machine.proofs.Opening.{parts_opening, tallied_opening}
use Rattle.be_machine.proofs.OrderlyEntries.{legal_goes}
use Rattle.be_machine.proofs.WorkHistory.{history_bound}
use Rattle.be_written.specs.EntryText.{history_text}
use Rattle.be_written.specs.Lines.{line_of}
use Rattle.be_report.specs.Possible.{IsPossible, ArePossible}
use Rattle.be_report.specs.Report.{report_of}
use Rattle.be_written.specs.ScreenText.{screen_text}
use Rattle.be_report.specs.Told.{told_by}
use Rattle.be_written.specs.TraceText.{apps_text, loopers_text, traces_text}
use Rattle.be_report.proofs.LegalActs.{IsSmall, IsRunner, IsAsked, want_fits}
use Rattle.be_report.proofs.NotedWords.{asked_note}
use Rattle.be_report.proofs.TextBack.{text_tells_history}

-- ---- counts

small_opening : (d : Declared) → IsSmall d 0 (opening_state d)
unfolding state_from AreLegalFrom
small_opening d = record {
  parts = parts_opening d;
  letters = λ w p read. letters_small d [] w p tt read;
  made = λ w b read. commands_small d [] w b tt read;
  used = events_small d [] tt;
  tallies = λ w. (first_tally, tallied_opening d w);
}

small_step : (d : Declared) (n : ℕ) (s : State) (e : Entry) → IsWithinLimits d → IsLegal d s e → IsSmall d n s → IsSmall d (n + 2) (step d s e)
small_step d n s e limits legal h =
    let g : Grows 2 1 1 s (step d s e) = grows_step d s e in
    let used = g.used in
    let old = h.used in
    record {
      parts = step_parts d s e legal h.parts;
      letters = λ w. g.arrived w n (n + 2) (omega arith) (h.letters w);
      made = λ w. g.made w n (n + 2) (omega arith) (h.made w);
      used = omega arith;
      tallies = λ w. let t = h.tallies w in (_, (legal_goes d s e w t.0 limits legal t.1).tallied);
    }

-- ---- one entry

maker_by : (apps windows a : ℕ) (b c e f : Bool) (who : Activity) → nat_lt a apps ≡ b → nat_lt a (apps + 2 * windows) ≡ c → (a == apps + 2 * windows) ≡ e → (a == apps + 2 * windows + 1) ≡ f
    → (if b then Some (runner (app a)) else if c then Some (window_activity (a - apps)) else if e then Some input else if f then Some closing else None) ≡ Some who → a < apps + 2 * windows + 2
maker_by apps windows a true c e f who one two three four is = let lt = ltb-true a apps one in omega arith
maker_by apps windows a false true e f who one two three four is = let lt = ltb-true a (apps + 2 * windows) two in omega arith
maker_by apps windows a false false true f who one two three four is = let same = eqb-true a (apps + 2 * windows) three in omega arith
maker_by apps windows a false false false true who one two three four is = let same = eqb-true a (apps + 2 * windows + 1) four in omega arith
maker_by apps windows a false false false false who one two three four is = absurd (cc)

maker_there : (d : Declared) (a : ℕ) (who : Activity) → activity_of d a ≡ Some who → a < activities d
unfolding activity_of
maker_there d a who is = maker_by (length d.apps) (length d.windows) a _ _ _ _ who refl refl refl refl is

runner_there : (d : Declared) (a : ℕ) (who : Runner) → activity_of d a ≡ Some (runner who) → IsRunner d who
runner_there d a (app m) is = in_range d a (runner (app m)) is
runner_there d a (looper w) is = in_range d a (runner (looper w)) is

asked_well : (d : Declared) (s : State) (a : ℕ) (who : Activity) (want : Want) → IsWithinLimits d → activity_of d a ≡ Some who → want_of d s who ≡ Some want → maker want ≡ who → IsAsked d want
asked_well d s a who (asks other x) limits number wanted same =
    let numbered : activity_of d a ≡ Some (runner other) = number ∙ ap Some (sym same) in
    let wants : want_of d s (runner other) ≡ Some (asks other x) = ap (want_of d s) same ∙ wanted in
    (runner_there d a other numbered, asked_note d s other x limits wants)
asked_well d s a who (takes w) limits number wanted same = tt
asked_well d s a who (begins w) limits number wanted same = tt
asked_well d s a who (flushes w) limits number wanted same = tt
asked_well d s a who (draws_end w) limits number wanted same = tt
asked_well d s a who (ends w) limits number wanted same = tt
asked_well d s a who (notifies w) limits number wanted same = tt
asked_well d s a who (executes w) limits number wanted same = tt
asked_well d s a who (uses x) limits number wanted same = tt
asked_well d s a who stops limits number wanted same = tt

legal_possible : (d : Declared) (n : ℕ) (s : State) (e : Entry) → IsWithinLimits d → n + 1 < 2 ^ 31 → IsSmall d n s → IsLegal d s e → IsPossible d e
legal_possible d n s e limits few h legal =
    let is = met_by d s e legal in
    let asked = asked_well d s e.actor is.who is.want limits is.numbered is.wanted (maker_is d s is.who is.want is.wanted) in
    record { maker = maker_there d e.actor is.who is.numbered; act = want_fits d n s is.want e.act few h asked is.granted }

-- ---- a history

legal_from : (d : Declared) (n : ℕ) (s : State) (h : List Entry) → IsWithinLimits d → n + 2 * length h + 1 < 2 ^ 31 → IsSmall d n s → AreLegalFrom d s h → All (IsPossible d) h
unfolding AreLegalFrom
legal_from d n s [] limits few small legal = All-nil (IsPossible d)
legal_from d n s (e ∷ es) limits few small legal =
    All-cons (IsPossible d) e es (legal_possible d n s e limits (omega arith) small legal.0) (legal_from d (n + 2) (step d s e) es limits (omega arith) (small_step d n s e limits legal.0 small) legal.1)

pub legal_is_possible : (d : Declared) (h : List Entry) → IsWithinLimits d → IsLegalHistory d h → ArePossible d h
legal_is_possible d h limits legal =
    let bound = history_bound d h limits legal in
    let work = limits.counts.work in
    record { each = legal_from d 0 (opening_state d) h limits (omega arith) (small_opening d) legal; counted = omega arith }

regroup : (h t a b s e : List ℕ) → ((h ++ ((t ++ a) ++ b)) ++ s) ++ e ≡ (h ++ t) ++ (a ++ (b ++ (s ++ e)))
regroup h t a b s e = simp append_assoc

pub report_tells_history : (d : Declared) (h : List Entry) → IsWithinLimits d → IsLegalHistory d h → told_by d (report_of d h) ≡ Some h
unfolding traces_text
report_tells_history d h limits legal =
    let screen = screen_text d.width d.height (state_after d h).screen in
    let last = line_of (codes "end" ∷ []) in
    let behind = apps_text d h ++ (loopers_text d h ++ (screen ++ last)) in
    ap (told_by d) (regroup (history_text d h) (line_of (codes "traces" ∷ [])) (apps_text d h) (loopers_text d h) screen last) ∙ text_tells_history d h behind limits (legal_is_possible d h limits legal)
