-- An entry is tried with all parts in hand: it may be made, or it isn't legal.
use Rattle.std.proofs.Common.{◌≡◌, ℕ, ◌+◌, ◌<◌, List, length, Option, Some, None, inl, inr}
use Rattle.std.proofs.Common.{refl, sym, ap, subst, ◌∙◌}
use Rattle.be_hall.specs.Answers.{Answers}
use Rattle.be_hall.specs.Hands.{meant, places_of}
use Rattle.be_hall.specs.Logs.{appended}
use Rattle.be_hall.specs.Machine.{Fits, HeldFit, IsHeld}
use Rattle.be_hall.specs.declared.parts.Verdict.{Verdict}
use Rattle.be_hall.specs.declared.parts.Verdict.TheVariants as verdict
use Rattle.be_machine.proofs.Histories.{in_range}
use Rattle.be_machine.specs.Activities.{Activity, activity_of}
use Rattle.be_machine.specs.Legal.{IsLegal}
use Rattle.be_machine.specs.State.{State}
use Rattle.be_machine.specs.Step.{step}
use Rattle.be_machine.specs.Touched as part
use Rattle.be_machine.specs.declared.Entry.{Entry}
use Rattle.be_check.proofs.Following.{all_held, fits_now, follows, now_is, state_then}
use Rattle.be_check.specs.Following.{Follows, now_of, state_in}
use Rattle.be_parts.specs.Parts.{log_of, meaning_of, spare_of}
use Rattle.be_parts.specs.declared.part.Part.{Part}
use Rattle.be_rules.proofs.Keepers.{kept_there, own_of}
use Rattle.be_rules.proofs.ListLemmas.{there_in}
use Rattle.be_rules.specs.Rules.{IsSound, SliceFits, TouchesAt, kept_at, world_machine}
use Rattle.be_rules.specs.Slices.{Slice, all_parts, slices, state_of}
use Rattle.be_script.specs.Script.{Declared}
use Rattle.be_world.specs.Preparing.{IsPreparedEntry, entry_in, seen_in}
use Rattle.be_world.specs.declared.preparing.ReadyEntry.{ReadyEntry}
use Rattle.be_check.specs.Stepping.{IsMade}

-- what the world answered of the entry, with these parts
abbrev pub Answered : Declared → List (ℕ × Part) → Entry → Verdict ReadyEntry → Type 0
Answered d parts e v =
    Answers (world_machine d) (meant meaning_of parts) (meant spare_of parts) entry_in seen_in
    (IsPreparedEntry d parts) e v

-- ---- an entry touches no place past the last, legal or not

module _ (d : Declared) (e : Entry) where
  kept_below : (o : Option Activity) (p : ℕ) → activity_of d e.actor ≡ o
      → p ≡ kept_at d (activity_of d e.actor) → p < length (all_parts d)
  kept_below (Some who) p number is =
      subst (λ (k : ℕ). k < length (all_parts d)) (sym (is ∙ ap (kept_at d) number))
      (there_in (all_parts d) (kept_at d (Some who)) (own_of who)
      (kept_there d who (in_range d e.actor who number)))
  kept_below None p number is =
      subst (λ (k : ℕ). k < length (all_parts d)) (sym (is ∙ ap (kept_at d) number))
      (there_in (all_parts d) 1 part.input refl)

  pub touched_below : (s : State) (p : ℕ) → TouchesAt d s e p → p < length (all_parts d)
  touched_below s p (inl is) = kept_below (activity_of d e.actor) p refl is
  touched_below s p (inr touched) = there_in (all_parts d) p touched.part touched.there

-- ---- what the world answers

module _ (d : Declared) (parts : List (ℕ × Part)) (n : ℕ) (f : Follows d parts n) (e : Entry)
    (mid : List (ℕ × Part)) (same : meant meaning_of mid ≡ meant meaning_of parts) where
  fits_mid : Fits (now_of parts) (meant meaning_of mid)
  fits_mid = subst (Fits (now_of parts)) (sym same) (fits_now d parts n f)

  pub needs_none : (p : ℕ) → Answered d mid e (verdict.Needs p) → ⊥
  needs_none p answer =
      answer.0 (subst (λ h. IsHeld h p) (sym same) (all_held d parts n f p
      (touched_below d e (state_in d parts) p (answer.1 (now_of parts) f.sound fits_mid))))

  pub never_needs : (v : Verdict ReadyEntry) (p : ℕ) → v ≡ verdict.Needs p → Answered d mid e v → ⊥
  never_needs v p is answer =
      needs_none p (subst (λ (x : Verdict ReadyEntry). Answered d mid e x) is answer)

  pub not_legal : (v : Verdict ReadyEntry) → v ≡ verdict.NotLegal → Answered d mid e v
      → ¬ IsLegal d (state_in d parts) e
  not_legal v is answer =
      subst (λ (x : Verdict ReadyEntry). Answered d mid e x) is answer (now_of parts) f.sound
      fits_mid

  module _ (v : Verdict ReadyEntry) (r : ReadyEntry) (answer : Answered d mid e v)
      (is : v ≡ verdict.Ready r) where
    pub is_legal : IsLegal d (state_in d parts) e
    is_legal =
        let ready = subst (λ (x : Verdict ReadyEntry). Answered d mid e x) is answer in
        (ready.2 (now_of parts) f.sound fits_mid).0

    pub is_made : (new : List (ℕ × Part)) → places_of new ≡ places_of mid
        → ((all : List Slice) → IsSound d all → Fits all (meant meaning_of mid)
        → Fits (slices d (step d (state_of d all) (entry_in r))) (meant meaning_of new))
        → HeldFit SliceFits (n + 1) (meant meaning_of new)
        → meant log_of new
        ≡ appended (kept_at d (activity_of d (entry_in r).actor)) (n + 1, entry_in r)
        (meant log_of mid)
        → meant log_of mid ≡ meant log_of parts → IsMade d e n parts new
    is_made new places after fits logs logs_mid = record {
      legal = is_legal;
      follows =
          follows d parts n f e is_legal mid same v r answer is new places after fits logs logs_mid;
      state =
          state_then d parts n f e is_legal new
          (now_is d parts n f e is_legal mid same v r answer is new places after);
    }
