-- The activities keep the laws of turns.
use Rattle.std.proofs.Common.{◌≡◌, ℕ, ◌+◌, ◌*◌, ◌<◌, ◌≤◌, true, List, length, Option, Some}
use Rattle.std.proofs.Common.{None, refl, sym, ap, subst, ◌∙◌, arith}
use Rattle.std.specs.Prelude.{option_map, option_and_then}
use Rattle.std.proofs.lemmas.Bool.Decides.{nat_tests}
use Rattle.std.proofs.lemmas.Option.{same_Some}
use mathlib.Core.Logic.{dite}
use native.Mathlib.Decide.{dec_le}
use Rattle.be_machine.specs.Activities.{activities, activity_of, numbered}
use Rattle.be_machine.specs.Legal.{IsLegal, legal_act, want_act}
use Rattle.be_machine.specs.Wants.{want_of}
use Rattle.be_machine.specs.declared.Act.{Act}
use Rattle.be_machine.specs.declared.Act.TheVariants.{Post, Take, Note, Reply, Claim, Lock}
use Rattle.be_machine.specs.declared.Act.TheVariants.{Unlock, Draw, Flush, SyncDone, Exec}
use Rattle.be_machine.specs.declared.Act.TheVariants.{Notify, Begin, Event, End, Stop}
use Rattle.be_machine.specs.declared.Entry.{Entry}
use Rattle.be_rules.proofs.Ending.{last_stops, nobody_stuck, nothing_follows, stop_stops}
use Rattle.be_rules.specs.Rules.{world_machine}
use Rattle.be_rules.specs.Slices.{Slice, state_of}
use Rattle.be_script.specs.Script.{Declared}
use Rattle.be_serial.specs.Running.{NeverStuck}
use Rattle.be_turns.specs.Turning.{Turning}
use Rattle.be_world.specs.Turns.{entry_by, has_stopped, is_last, legal_entry}

stop_if : (act : Act) → is_last act ≡ true → act ≡ Stop
stop_if (Post w answer) e = absurd (cc)
stop_if (Take number) e = absurd (cc)
stop_if (Note word) e = absurd (cc)
stop_if (Reply answer) e = absurd (cc)
stop_if (Claim answer) e = absurd (cc)
stop_if (Lock w) e = absurd (cc)
stop_if (Unlock w) e = absurd (cc)
stop_if (Draw w number) e = absurd (cc)
stop_if (Flush w count) e = absurd (cc)
stop_if (SyncDone w) e = absurd (cc)
stop_if (Exec number outcome) e = absurd (cc)
stop_if (Notify number) e = absurd (cc)
stop_if (Begin opened) e = absurd (cc)
stop_if (Event number first second) e = absurd (cc)
stop_if (End answer) e = absurd (cc)
stop_if Stop e = refl

act_by : (a : ℕ) (o : Option Act) (e : Entry) → option_map (entry_by a) o ≡ Some e
    → (o ≡ Some e.act) × (e.actor ≡ a)
act_by a (Some act) e is =
    let same : entry_by a act ≡ e = same_Some (entry_by a act) e is in
    (ap (λ (x : Entry). Some x.act) same, sym (ap (λ (x : Entry). x.actor) same))
act_by a None e is = absurd (cc)

module _ (d : Declared) (all : List Slice) where
  made_of : (who : ℕ) (e : Entry) → legal_entry d all who ≡ Some e
      → (legal_act d (state_of d all) who ≡ Some e.act) × (e.actor ≡ who)
  made_of who e is = act_by who (legal_act d (state_of d all) who) e is

  permitted : (who : ℕ) (e : Entry) → legal_entry d all who ≡ Some e → IsLegal d (state_of d all) e
  permitted who e is =
      let m = made_of who e is in
      subst (λ (a : ℕ). legal_act d (state_of d all) a ≡ Some e.act) (sym m.1) m.0

  closing_stops : (who : ℕ) (e : Entry) → who + 1 ≡ activities d
      → legal_entry d all who ≡ Some e → is_last e.act ≡ true
  closing_stops who e last is = ap is_last (last_stops d all who e.act last (made_of who e is).0)

pub world_turning : (d : Declared)
    → Turning (world_machine d) (legal_entry d) (λ e. is_last e.act) (activities d)
world_turning d = record {
  permits = λ all who e sound is. permitted d all who e is;
  closes = λ all who e last sound is. closing_stops d all who e last is;
  none_follows = λ all s e sound legal stops follows.
      nothing_follows d all s e sound legal (stop_if s.act stops) follows;
}

-- ---- a run doesn't end before its last entry

module _ (apps windows : ℕ) where
  -- past the last activity there is none
  none_past : (a : ℕ) → apps + 2 * windows + 2 ≤ a → numbered apps windows a ≡ None
  none_past a past = grind (arith, nat_tests)

module _ (d : Declared) (all : List Slice) where
  nobody_past : (a : ℕ) → activities d ≤ a → legal_act d (state_of d all) a ≡ None
  unfolding legal_act activity_of
  nobody_past a past =
      ap (λ o. option_and_then (want_act d (state_of d all))
      (option_and_then (want_of d (state_of d all)) o))
      (none_past (length d.apps) (length d.windows) a past)

  is_none : (a : ℕ) (act : Act) → legal_act d (state_of d all) a ≡ None
      → legal_act d (state_of d all) a ≡ Some act → ⊥
  is_none a act none some = let no : None ≡ Some act = sym none ∙ some in absurd (cc)

  none_back : (a : ℕ) (o : Option Act) → option_map (entry_by a) o ≡ None → o ≡ None
  none_back a (Some act) e = absurd (cc)
  none_back a None e = refl

  nobody : ((who : ℕ) → who < activities d → legal_entry d all who ≡ None) → (e : Entry)
      → IsLegal d (state_of d all) e → ⊥
  nobody none e legal =
      dite (dec_le (activities d) e.actor)
      (λ past. is_none e.actor e.act (nobody_past e.actor past) legal)
      (λ below. is_none e.actor e.act (none_back e.actor (legal_act d (state_of d all) e.actor)
      (none e.actor (omega arith))) legal)

pub world_closing : (d : Declared)
    → NeverStuck (world_machine d) (legal_entry d) (λ e. is_last e.act) (activities d)
    (has_stopped d)
world_closing d = record {
  stuck = λ all sound none. nobody_stuck d all sound (nobody d all none);
  closing = λ all e sound legal stopped. ap is_last (stop_stops d all e sound legal stopped);
}
