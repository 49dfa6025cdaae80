-- An activity that an entry doesn't stir has a legal entry behind it exactly where it had one
-- before.
use Rattle.std.proofs.Common.{◌≡◌, ℕ, ◌<◌, Bool, true, false, List, length, Option, Some, None}
use Rattle.std.proofs.Common.{refl, sym, ap, subst, ◌∙◌}
use Rattle.std.specs.Prelude.{◌||◌, option_map, option_and_then}
use Rattle.std.proofs.lemmas.Bool.{false_from_ne_true, or_from}
use Rattle.be_facts.proofs.Truths.{or_false_second, or_false_first}
use Rattle.be_machine.specs.Activities.{Activity, runner, app, looper, twin, input, closing}
use Rattle.be_machine.specs.Activities.{activities, activity_of}
use Rattle.be_machine.specs.declared.Act.{Act}
use Rattle.be_machine.specs.declared.Entry.{Entry}
use Rattle.be_machine.specs.History.{state_after}
use Rattle.be_machine.specs.Laws.{IsWantOf}
use Rattle.be_machine.specs.Legal.{IsLegal, legal_act, want_act}
use Rattle.be_machine.specs.State.{State, opening_state}
use Rattle.be_machine.specs.Step.{step}
use Rattle.be_machine.specs.Touched.{Part, SamePart, Touches}
use Rattle.be_machine.specs.Touched as part
use Rattle.be_machine.specs.Wants.{want_of}
use Rattle.be_machine.proofs.HasParts.{HasParts}
use Rattle.be_machine.proofs.Histories.{parts_after, state_more}
use Rattle.be_machine.proofs.LegalEntries.{IsMet, maker, maker_is, met_by}
use Rattle.be_machine.proofs.TouchedEntries.{untouched}
use Rattle.be_rules.proofs.Lawfully.{back, legal_longer, legal_there, longer, sound_after, state}
use Rattle.be_rules.proofs.WantBy.{want_after}
use Rattle.be_rules.specs.Rules.{IsSound, world_machine}
use Rattle.be_rules.specs.Slices.{Slice, slices, state_of}
use Rattle.be_script.specs.Script.{Declared}
use Rattle.be_serial.specs.Known.{Stirs}
use Rattle.be_turns.specs.Turning.{is_some}
use Rattle.be_world.specs.Marks.{Marks}
use Rattle.be_world.specs.Stirring.{is_command, is_near, may_stir, may_touch_all, stirs, stirs_by}
use Rattle.be_world.specs.Turns.{entry_by, legal_entry}
use Rattle.be_world.proofs.Having.{SameLooper, SameTwin, looper_has, twin_has}
use Rattle.be_world.proofs.Untouched.{reached, reaches}

entry_there : (a : ℕ) (o : Option Act) → is_some (option_map (entry_by a) o) ≡ is_some o
entry_there a (Some act) = refl
entry_there a None = refl

module _ (d : Declared) (all : List Slice) (sound : IsSound d all) (e : Entry)
    (legal : IsLegal d (state_of d all) e) where
  abbrev s : State
  s = state d all sound

  abbrev now : IsLegal d s e
  now = legal_there d all sound e legal

  abbrev r : State
  r = state_after d (longer d all sound e legal)

  next : r ≡ step d s e
  next = state_more d (opening_state d) sound.history e

  next_is : state_of d (slices d (step d (state_of d all) e)) ≡ r
  unfolding sound_after
  next_is = back d (slices d (step d (state_of d all) e)) (sound_after d all sound e legal)

  abbrev met : IsMet d s e
  met = met_by d s e now

  wanted : IsWantOf d s e met.want
  wanted = ap (option_and_then (want_of d s)) met.numbered ∙ met.wanted

  made : maker met.want ≡ met.who
  made = maker_is d s met.who met.want met.wanted

  -- what its act doesn't reach stays
  stays : (p : Part) → reaches met.who e.act p ≡ false → SamePart s r p
  stays p out =
      subst (λ (t : State). SamePart s t p) (sym next)
      (untouched d s e met.want p now wanted (λ t.
      let yes : reaches met.who e.act p ≡ true =
      subst (λ (who : Activity). reaches who e.act p ≡ true) made
      (reached d s (step d s e) e.act p met.want met.granted t) in
      let no : true ≡ false = sym yes ∙ out in
      absurd (cc)))

  as_many : length r.ports ≡ length s.ports
  as_many =
      let a : HasParts d r = parts_after d (longer d all sound e legal)
      (legal_longer d all sound e legal) in
      let b : HasParts d s = parts_after d sound.history sound.legal in
      a.ports ∙ sym b.ports

  abbrev IsSame : ℕ → Type 0
  IsSame a = is_some (legal_act d r a) ≡ is_some (legal_act d s a)

  looper_same : (a w : ℕ) → activity_of d a ≡ Some (runner (looper w))
      → (may_touch_all met.who || is_near met.who e.act w) ≡ false → IsSame a
  looper_same a w number out =
      let own : SamePart s r (part.looper w) = stays (part.looper w) out in
      looper_has d s r w (record {
        own = own;
        port = stays (part.port w) out;
        link =
            stays (part.link w) out;
        ports = as_many;
      }) a sound.limits number
      (want_after d sound.history (longer d all sound e legal) (runner (looper w)) sound.limits
      sound.legal (legal_longer d all sound e legal) own)

  twin_same : (a w : ℕ) → activity_of d a ≡ Some (twin w)
      → (may_touch_all met.who || (is_command e.act || is_near met.who e.act w)) ≡ false → IsSame a
  twin_same a w number out =
      let one : may_touch_all met.who ≡ false =
      or_false_first (may_touch_all met.who) (is_command e.act || is_near met.who e.act w) out in
      let two : is_near met.who e.act w ≡ false =
      or_false_second (is_command e.act) (is_near met.who e.act w)
      (or_false_second (may_touch_all met.who) (is_command e.act || is_near met.who e.act w)
      out) in
      let pane : SamePart s r (part.pane w) = stays (part.pane w) out in
      twin_has d s r w (record {
        pane = pane;
        link =
            stays (part.link w) (or_from (may_touch_all met.who) (is_near met.who e.act w) one two);
        ports = as_many;
      }) a number
      (want_after d sound.history (longer d all sound e legal) (twin w) sound.limits sound.legal
      (legal_longer d all sound e legal) pane)

  by_activity : (a : ℕ) (o : Option Activity) → activity_of d a ≡ o
      → stirs_by e.act (Some met.who) o ≡ false → IsSame a
  unfolding legal_act
  by_activity a (Some (runner (app m))) number out = absurd (cc)
  by_activity a (Some (runner (looper w))) number out = looper_same a w number out
  by_activity a (Some (twin w)) number out = twin_same a w number out
  by_activity a (Some input) number out = absurd (cc)
  by_activity a (Some closing) number out = absurd (cc)
  by_activity a None number out =
      ap (λ o. is_some (option_and_then (want_act d r) (option_and_then (want_of d r) o))) number
      ∙ sym (ap (λ o. is_some (option_and_then (want_act d s) (option_and_then (want_of d s) o)))
      number)

  unstirred : (a : ℕ) → may_stir d e a ≡ false → IsSame a
  unstirred a out = by_activity a (activity_of d a) refl
      (ap (λ o. stirs_by e.act o (activity_of d a)) (sym met.numbered) ∙ out)

  -- it has an entry as before
  pub has_as_before : (a : ℕ) → may_stir d e a ≡ false
      → is_some (legal_entry d (slices d (step d (state_of d all) e)) a) ≡ is_some
      (legal_entry d all a)
  has_as_before a out =
      entry_there a (legal_act d (state_of d (slices d (step d (state_of d all) e))) a)
      ∙ ap (λ (t : State). is_some (legal_act d t a)) next_is
      ∙ unstirred a out
      ∙ sym (ap (λ (t : State). is_some (legal_act d t a)) (back d all sound))
      ∙ sym (entry_there a (legal_act d (state_of d all) a))

-- whoever has no mark behind the entry had none before it, and has an entry as before
pub stirs_no_other : (d : Declared) (e : Entry) (old new : List Bool) → length old ≡ activities d
    → Marks (λ a. may_stir d e a ≡ true) old new
    → Stirs (world_machine d) (legal_entry d) (activities d) e old new
stirs_no_other d e old new long m a lt out =
    let there : a < length old = subst (λ n. a < n) (sym long) lt in (
      m.kept a there out,
      λ all sound legal. has_as_before d all sound e legal a
          (false_from_ne_true (may_stir d e a) (m.marked a there out)),
    )
