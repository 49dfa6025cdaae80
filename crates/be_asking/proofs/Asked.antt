-- What is answered to who wants something: whatever the kind of what is wanted.
use Rattle.std.proofs.Common.{◌≡◌, ℕ, List, Some, None, sym, ap, subst, ◌∙◌}
use Rattle.std.specs.Prelude.{slice_get}
use Rattle.be_hall.specs.Hands.{meant, part_at}
use Rattle.be_hall.specs.Machine.{Fits, IsHeld}
use Rattle.be_script.specs.Script.{Declared}
use Rattle.be_machine.specs.declared.Act.{Act}
use Rattle.be_machine.specs.Legal.{want_act}
use Rattle.be_machine.specs.State.{State}
use Rattle.be_machine.specs.Step.{step}
use Rattle.be_machine.specs.Touched.{Part}
use Rattle.be_machine.specs.Touched as part
use Rattle.be_machine.specs.Wants as wants
use Rattle.be_machine.proofs.ProgressAfter.{IsSettled, settled_after}
use Rattle.be_parts.specs.Parts.{meaning_of}
use Rattle.be_parts.specs.declared.part.Part as parts
use Rattle.be_rules.specs.Far.{IsFar}
use Rattle.be_rules.specs.Found.{CannotAct, NeedsPart, OwnHeld}
use Rattle.be_rules.specs.Places.{IsPart, place_of}
use Rattle.be_rules.specs.Rules.{IsSound}
use Rattle.be_rules.specs.Slices.{Slice, app_in, looper_in, buffer_in, port_in, link_in}
use Rattle.be_rules.specs.Sure.{IsAmong, in_hand, parts_by, seen_in}
use Rattle.be_rules.proofs.Everywhere.{cannot_act, needs_part}
use Rattle.be_rules.proofs.InHand.{IsLess, less, more}
use Rattle.be_rules.proofs.Lawfully.{state, back}
use Rattle.be_rules.proofs.Named.{parts_named}
use Rattle.be_machine.proofs.Histories.{in_range}
use Rattle.be_asking.specs.Deeds.{IsAsked, MayAct}
use Rattle.be_asking.specs.Wants.{activity_in, message_of, want_in}
use Rattle.be_asking.specs.declared.activity.Activity.{Activity}
use Rattle.be_asking.specs.declared.want.Want.{Want}
use Rattle.be_asking.specs.Finding.{IsMissing, IsReachable}
use Rattle.be_asking.proofs.Acting.{can_act}
use Rattle.be_asking.proofs.InHand.{buffer_read, cell_read, is_held, link_read, looper_read, not_held, port_read}

module _ (d : Declared) (inhand : List (ℕ × parts.Part)) (a : ℕ) (who : Activity) (want : Want) (asked : IsAsked d inhand a who want) where
  abbrev held : List (ℕ × Slice)
  held = meant meaning_of inhand

  abbrev all : List Slice
  all = asked.fitting.0

  pub sound : IsSound d all
  sound = asked.fitting.1

  pub fits : Fits all held
  fits = asked.fitting.2

  -- the state of one list that has the parts
  abbrev pub s : State
  s = state d all sound

  pub own : OwnHeld d held all (activity_in who)
  own = (asked.wanted all sound fits).1

  abbrev pub wish : wants.Want
  wish = want_in (message_of s (activity_in who)) want

  pub wanted : wants.want_of d s (activity_in who) ≡ Some wish
  wanted = subst (λ (t : State). wants.want_of d t (activity_in who) ≡ Some (want_in (message_of t (activity_in who)) want)) (back d all sound) (asked.wanted all sound fits).0

  pub settled : IsSettled d s
  settled = settled_after d sound.history sound.limits sound.legal

  pub is_there : (x : Part) → IsAmong x (parts_by (seen_in s) wish) → IsPart d x
  is_there x among = parts_named d s settled sound.limits (activity_in who) wish (in_range d a (activity_in who) asked.number) wanted x among

  -- what is told in hand is so in the state
  pub seen : IsLess (in_hand d held) (seen_in s)
  seen = less d s held settled.locks (subst (λ l. Fits l held) sound.is fits)

  pub told : (x : Part) → IsAmong x (parts_by (in_hand d held) wish) → IsAmong x (parts_by (seen_in s) wish)
  told x among = more (in_hand d held) (seen_in s) seen x wish among

  -- a part that is told, and isn't in hand
  pub needs : (x : Part) → IsAmong x (parts_by (in_hand d held) wish) → (IsHeld held (place_of d x) → ⊥) → NeedsPart d held a (place_of d x)
  needs x among out = needs_part d held all sound fits a (activity_in who) wish x asked.number own wanted (is_there x (told x among)) among out

  -- it waits
  pub waits : (wish ≡ wants.stops → ⊥) → ((p : Part) → IsAmong p (parts_by (seen_in s) wish) → IsHeld held (place_of d p)) → want_act d s wish ≡ None → CannotAct d held a
  waits still there nothing = cannot_act d held all sound fits a (activity_in who) wish asked.number own wanted still there nothing

  -- it may
  pub may : (act : Act) → ((p : Part) → IsFar s (step d s (record { actor = a; act = act })) wish p → IsHeld held (place_of d p)) → ((p : Part) → IsAmong p (parts_by (seen_in s) wish) → IsHeld held (place_of d p)) → want_act d s wish ≡ Some act → MayAct d held a act
  may act far there may_now = can_act d held all sound fits a (activity_in who) wish act asked.number wanted may_now far there

  -- ---- the parts that a call looks for

  pub reach : (x : Part) → IsAmong x (parts_by (seen_in s) wish) → IsReachable d inhand x
  reach x among = record { limits = asked.limits; fitting = asked.fitting; there = is_there x among }

  pub missing : (x : Part) (place : ℕ) → IsMissing d inhand x place → IsAmong x (parts_by (in_hand d held) wish) → NeedsPart d held a place
  missing x place m among = subst (NeedsPart d held a) (sym m.0) (needs x among (not_held inhand (place_of d x) (ap (part_at inhand) (sym m.0) ∙ m.1)))

  pub here : (x : Part) (y : parts.Part) → part_at inhand (place_of d x) ≡ Some y → IsHeld held (place_of d x)
  here x y at = is_held inhand (place_of d x) y at

  -- ---- what they tell

  pub cell_is : (m : ℕ) (y : parts.Part) → IsPart d (part.cell m) → part_at inhand (place_of d (part.cell m)) ≡ Some y → slice_get s.apps m ≡ app_in (meaning_of y)
  cell_is m y there at = cell_read d inhand all sound fits y m there at

  pub looper_is : (w : ℕ) (y : parts.Part) → IsPart d (part.looper w) → part_at inhand (place_of d (part.looper w)) ≡ Some y → slice_get s.loopers w ≡ looper_in (meaning_of y)
  looper_is w y there at = looper_read d inhand all sound fits y w there at

  pub buffer_is : (w : ℕ) (y : parts.Part) → IsPart d (part.looper w) → part_at inhand (place_of d (part.looper w)) ≡ Some y → slice_get s.buffers w ≡ buffer_in (meaning_of y)
  buffer_is w y there at = buffer_read d inhand all sound fits y w there at

  pub port_is : (w : ℕ) (y : parts.Part) → IsPart d (part.port w) → part_at inhand (place_of d (part.port w)) ≡ Some y → slice_get s.ports w ≡ port_in (meaning_of y)
  port_is w y there at = port_read d inhand all sound fits y w there at

  pub link_is : (w : ℕ) (y : parts.Part) → IsPart d (part.link w) → part_at inhand (place_of d (part.link w)) ≡ Some y → slice_get s.links w ≡ link_in (meaning_of y)
  link_is w y there at = link_read d inhand all sound fits y w there at
