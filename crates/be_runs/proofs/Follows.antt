-- The entries of a run over slices are a history of the machine, and what is left of the parts is
-- cut from the state after it.
use Rattle.std.proofs.Common.{◌≡◌, List, [], ◌∷◌, true, refl, sym, ap, subst, ◌∙◌}
use Rattle.be_hall.specs.Machine.{Legal, leads}
use Rattle.be_machine.proofs.Histories.{state_more}
use Rattle.be_machine.proofs.ProgressFinished.{ends_finished}
use Rattle.be_machine.specs.History.{AreLegalFrom, IsFinished, state_after, state_from}
use Rattle.be_machine.specs.Legal.{IsLegal}
use Rattle.be_machine.specs.Orderly.{EndsInStop}
use Rattle.be_machine.specs.State.{opening_state}
use Rattle.be_machine.specs.Step.{step}
use Rattle.be_machine.specs.declared.Act.{Act}
use Rattle.be_machine.specs.declared.Act.TheVariants.{Post, Take, Note, Reply, Claim, Lock}
use Rattle.be_machine.specs.declared.Act.TheVariants.{Unlock, Draw, Flush, SyncDone, Exec}
use Rattle.be_machine.specs.declared.Act.TheVariants.{Notify, Begin, Event, End, Stop}
use Rattle.be_machine.specs.declared.Entry.{Entry}
use Rattle.be_rules.proofs.Lawfully.{back, legal_there, sound_after, state}
use Rattle.be_rules.specs.Rules.{IsSound, world_machine}
use Rattle.be_rules.specs.Slices.{Slice, slices, state_of}
use Rattle.be_script.specs.Limits.{IsWithinLimits}
use Rattle.be_script.specs.Script.{Declared}
use Rattle.be_turns.specs.Turning as turning
use Rattle.be_world.specs.Turns.{is_last}

module _ (d : Declared) where
  -- the slices after an entry
  abbrev pub after : List Slice → Entry → List Slice
  after all e = slices d (step d (state_of d all) e)

  -- the state that the slices after an entry are cut from
  pub state_next : (all : List Slice) (sound : IsSound d all) (e : Entry)
      (legal : (world_machine d).permits all e)
      → state d (after all e) (sound_after d all sound e legal) ≡ step d (state d all sound) e
  unfolding sound_after
  state_next all sound e legal = state_more d (opening_state d) sound.history e

  pub legal_from : (h : List Entry) (all : List Slice) (sound : IsSound d all)
      → Legal (world_machine d) all h → AreLegalFrom d (state d all sound) h
  unfolding AreLegalFrom
  legal_from [] all sound legal = tt
  legal_from (e ∷ es) all sound legal = (
    legal_there d all sound e legal.0,
    subst (λ s. AreLegalFrom d s es) (state_next all sound e legal.0)
        (legal_from es (after all e) (sound_after d all sound e legal.0) legal.1),
  )

  -- a history of the machine is one over slices
  pub legal_to : (h : List Entry) (all : List Slice) (sound : IsSound d all)
      → AreLegalFrom d (state d all sound) h → Legal (world_machine d) all h
  unfolding AreLegalFrom
  legal_to [] all sound legal = tt
  legal_to (e ∷ es) all sound legal =
      let first : (world_machine d).permits all e =
      subst (λ s. IsLegal d s e) (sym (back d all sound)) legal.0 in (
        first,
        legal_to es (after all e) (sound_after d all sound e first)
            (subst (λ s. AreLegalFrom d s es) (sym (state_next all sound e first)) legal.1),
      )

  pub leads_to : (h : List Entry) (all : List Slice) (sound : IsSound d all)
      → Legal (world_machine d) all h
      → leads (world_machine d) all h ≡ slices d (state_from d (state d all sound) h)
  unfolding state_from
  leads_to [] all sound legal = sound.is
  leads_to (e ∷ es) all sound legal =
      leads_to es (after all e) (sound_after d all sound e legal.0) legal.1
      ∙ ap (λ s. slices d (state_from d s es)) (state_next all sound e legal.0)

-- ---- from the opening on

is_stop : (act : Act) → is_last act ≡ true → act ≡ Stop
is_stop (Post w answer) e = absurd (cc)
is_stop (Take number) e = absurd (cc)
is_stop (Note word) e = absurd (cc)
is_stop (Reply answer) e = absurd (cc)
is_stop (Claim answer) e = absurd (cc)
is_stop (Lock w) e = absurd (cc)
is_stop (Unlock w) e = absurd (cc)
is_stop (Draw w number) e = absurd (cc)
is_stop (Flush w count) e = absurd (cc)
is_stop (SyncDone w) e = absurd (cc)
is_stop (Exec number outcome) e = absurd (cc)
is_stop (Notify number) e = absurd (cc)
is_stop (Begin opened) e = absurd (cc)
is_stop (Event number first second) e = absurd (cc)
is_stop (End answer) e = absurd (cc)
is_stop Stop e = refl

module _ (d : Declared) (limits : IsWithinLimits d) (all : List Slice)
    (opens : all ≡ slices d (opening_state d)) where
  unfoldable pub opening_sound : IsSound d all
  unfolding AreLegalFrom state_from
  opening_sound = record { limits = limits; history = []; legal = tt; is = opens }

  pub opening_is : state d all opening_sound ≡ opening_state d
  unfolding opening_sound state_from
  opening_is = refl

  module _ (h : List Entry) (left : List Slice)
      (ran : turning.IsFinished (world_machine d) (λ e. is_last e.act) all h left) where
    legal : AreLegalFrom d (opening_state d) h
    legal = subst (λ s. AreLegalFrom d s h) opening_is (legal_from d h all opening_sound ran.legal)

    ends : EndsInStop h
    ends = record {
      before = ran.ends.0;
      last = ran.ends.1;
      split = ran.ends.2;
      stop = is_stop ran.ends.1.act ran.ends.3;
    }

    pub finished : IsFinished d h
    finished = ends_finished d h legal ends

    pub leaves : left ≡ slices d (state_after d h)
    leaves =
        ran.leads_to ∙ leads_to d h all opening_sound ran.legal
        ∙ ap (λ s. slices d (state_from d s h)) opening_is
