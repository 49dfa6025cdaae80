-- An entry is tried with all parts in hand, which keep what is noted.
use Rattle.std.proofs.Common.{◌≡◌, ℕ, ◌+◌, ◌-◌, ◌<◌, ◌≤◌, List, [], ◌∷◌, length, map, refl, sym, ap}
use Rattle.std.proofs.Common.{subst, ◌∙◌, ◌++◌, arith, take, get_or, All}
use Rattle.std.proofs.lemmas.List.{take_all, take_more}
use Rattle.be_check.proofs.Trying.{touched_below}
use Rattle.be_check.specs.Stepping.{IsMadeNoted, noted_now}
use Rattle.be_hall.specs.Hands.{meant, numbered, places_of, up_from}
use Rattle.be_hall.specs.Logs.{IsAbove, appended}
use Rattle.be_hall.specs.Machine.{AllFit, Fits, HeldFit, IsHeld, IsReady, Legal, Machine}
use Rattle.be_hall.specs.Machine.{SomeFits, leads}
use Rattle.be_hall.specs.Numbers.{total}
use Rattle.be_hall.specs.declared.parts.Verdict.{Verdict}
use Rattle.be_hall.specs.declared.parts.Verdict.TheVariants as verdict
use Rattle.be_hall.proofs.Gathered.{fits_from, held_at, numbered_means, same_firsts, whole}
use Rattle.be_machine.specs.Activities.{activity_of}
use Rattle.be_machine.specs.History.{AreLegalFrom, IsFinished}
use Rattle.be_machine.specs.Legal.{IsLegal}
use Rattle.be_machine.specs.Orderly.{EndsInStop}
use Rattle.be_machine.specs.State.{opening_state}
use Rattle.be_machine.specs.Step.{step}
use Rattle.be_machine.specs.declared.Entry.{Entry}
use Rattle.be_check.proofs.Following.{fits_last, one_more, state_then}
use Rattle.be_noted.proofs.Lawful.{means_of}
use Rattle.be_noted.specs.NotingLaws.{noting_is_lawful}
use Rattle.be_serial.proofs.Going.{each_appended, is_above}
use Rattle.be_check.specs.Following.{Follows, now_of, state_in}
use Rattle.be_noted.specs.Noting.{IsNotedVerdict, noted_entry, noted_of, noted_seen}
use Rattle.be_noted.specs.declared.parts.NotedEntry.{NotedEntry}
use Rattle.be_noting.proofs.KeepLaws.{means_after}
use Rattle.be_noting.proofs.NotedHistories.{legal_noted}
use Rattle.be_noting.specs.Noting.{Noted, meanings}
use Rattle.be_parts.specs.Parts.{log_of, meaning_of, notes_of}
use Rattle.be_parts.specs.declared.part.Part.{Part}
use Rattle.be_rules.proofs.Lawfully.{world_lawful}
use Rattle.be_rules.specs.Rules.{IsSound, SliceFits, kept_at, world_machine}
use Rattle.be_rules.specs.Shares.{share}
use Rattle.be_rules.specs.Slices.{Slice, all_parts, slices, state_of}
use Rattle.be_runs.proofs.Follows.{legal_to, opening_is, opening_sound}
use Rattle.be_script.specs.Limits.{IsWithinLimits}
use Rattle.be_script.specs.Script.{Declared}
use Rattle.be_serial.specs.Running.{EachBefore}
use Rattle.be_turns.specs.Turning as turning
use Rattle.be_world.specs.Turns.{is_last}
use Rattle.be_jotted.specs.Jotting.{noted_machine, told_of}

pub means_now : (parts : List (ℕ × Part)) → meanings (noted_now parts) ≡ now_of parts
means_now [] = refl
means_now (x ∷ xs) = ap (λ (l : List Slice). meaning_of x.1 ∷ l) (means_now xs)

fits_with_notes : (d : Declared) (n : ℕ) (parts : List (ℕ × Part))
    → HeldFit SliceFits n (meant meaning_of parts)
    → HeldFit (noted_machine d).fits n (meant noted_of parts)
fits_with_notes d n [] fits = tt
fits_with_notes d n (x ∷ xs) fits = (fits.0, fits_with_notes d n xs fits.1)

fits_without : (d : Declared) (n : ℕ) (parts : List (ℕ × Part))
    → HeldFit (noted_machine d).fits n (meant noted_of parts)
    → HeldFit SliceFits n (meant meaning_of parts)
fits_without d n [] fits = tt
fits_without d n (x ∷ xs) fits = (fits.0, fits_without d n xs fits.1)

pub fits_back : (d : Declared) (n : ℕ) (xs : List Part)
    → AllFit (noted_machine d).fits n (map noted_of xs) → AllFit SliceFits n (map meaning_of xs)
fits_back d n [] fits = tt
fits_back d n (x ∷ xs) fits = (fits.0, fits_back d n xs fits.1)

module _ (d : Declared) (parts : List (ℕ × Part)) (n : ℕ) (f : Follows d parts n) where
  sound_now : (noted_machine d).sound (noted_now parts)
  sound_now = subst (IsSound d) (sym (means_now parts)) f.sound

  fits_now : Fits (noted_now parts) (meant noted_of parts)
  fits_now = fits_from noted_of [] 0 (length (all_parts d)) parts refl f.places

  pub some_now : SomeFits (noted_machine d) (meant noted_of parts)
  some_now = (noted_now parts, sound_now, fits_now)

  pub fits_last_noted : HeldFit (noted_machine d).fits 4611686018427387904 (meant noted_of parts)
  fits_last_noted = fits_with_notes d 4611686018427387904 parts (fits_last d parts n f)

  module _ (e : Entry) (mid : List (ℕ × Part)) (same : meant noted_of mid ≡ meant noted_of parts)
    where
      fits_mid : Fits (noted_now parts) (meant noted_of mid)
      fits_mid = subst (Fits (noted_now parts)) (sym same) fits_now

      pub some_mid : SomeFits (noted_machine d) (meant noted_of mid)
      some_mid = (noted_now parts, sound_now, fits_mid)

      pub fits_before : HeldFit (noted_machine d).fits (n + 1 - 1) (meant noted_of mid)
      fits_before =
          let back : n ≡ n + 1 - 1 = omega arith in
          subst (λ h. HeldFit (noted_machine d).fits (n + 1 - 1) h) (sym same)
          (subst (λ (k : ℕ). HeldFit (noted_machine d).fits k (meant noted_of parts)) back
          (fits_with_notes d n parts f.fits))

      needs_none : (p : ℕ) → IsNotedVerdict d mid e (verdict.Needs p) → ⊥
      needs_none p answer =
          answer.0 (subst (λ h. IsHeld h p) (sym same)
          (held_at noted_of 0 (length (all_parts d)) p parts f.places (omega arith)
          (let below = touched_below d e (state_of d (meanings (noted_now parts))) p
          (answer.1 (noted_now parts) sound_now fits_mid) in omega arith)))

      pub never_needs : (v : Verdict NotedEntry) (p : ℕ) → v ≡ verdict.Needs p
          → IsNotedVerdict d mid e v → ⊥
      never_needs v p is answer =
          needs_none p (subst (λ (x : Verdict NotedEntry). IsNotedVerdict d mid e x) is answer)

      legal_as : IsLegal d (state_of d (meanings (noted_now parts))) e
          → IsLegal d (state_in d parts) e
      legal_as legal = subst (λ (l : List Slice). IsLegal d (state_of d l) e) (means_now parts) legal

      legal_back : IsLegal d (state_in d parts) e
          → IsLegal d (state_of d (meanings (noted_now parts))) e
      legal_back legal =
          subst (λ (l : List Slice). IsLegal d (state_of d l) e) (sym (means_now parts)) legal

      pub not_legal : (v : Verdict NotedEntry) → v ≡ verdict.NotLegal → IsNotedVerdict d mid e v
          → ¬ IsLegal d (state_in d parts) e
      not_legal v is answer legal =
          subst (λ (x : Verdict NotedEntry). IsNotedVerdict d mid e x) is answer (noted_now parts)
          sound_now fits_mid (legal_back legal)

      module _ (v : Verdict NotedEntry) (r : NotedEntry) (answer : IsNotedVerdict d mid e v)
          (is : v ≡ verdict.Ready r) where
        abbrev ready : IsNotedVerdict d mid e (verdict.Ready r)
        ready = subst (λ (x : Verdict NotedEntry). IsNotedVerdict d mid e x) is answer

        entry_is : noted_entry r ≡ e
        entry_is = ready.0

        legal_there : IsLegal d (state_of d (meanings (noted_now parts))) e
        legal_there = (ready.2 (noted_now parts) sound_now fits_mid).0

        pub is_legal : IsLegal d (state_in d parts) e
        is_legal = legal_as legal_there

        pub permitted : IsReady (noted_machine d) (noted_seen r) (noted_entry r)
        permitted =
            subst (λ h. IsReady (noted_machine d) h (noted_entry r)) (sym ready.1)
            (subst (λ (x : Entry). IsReady (noted_machine d) (meant noted_of mid) x)
            (sym entry_is) ready.2)

        pub above : meant log_of mid ≡ meant log_of parts
            → IsAbove (n + 1) (kept_at d (activity_of d (noted_entry r).actor)) (meant log_of mid)
        above logs =
            subst (IsAbove (n + 1) (kept_at d (activity_of d (noted_entry r).actor))) (sym logs)
            (is_above (n + 1) (kept_at d (activity_of d (noted_entry r).actor)) (meant log_of parts)
            f.logs)

        pub number_is : n + 1 ≤ 4611686018427387904
        number_is = one_more d parts n f e is_legal

        module _ (new : List (ℕ × Part)) (places : places_of new ≡ places_of mid)
            (after : (all : List (Noted Slice ℕ)) → (noted_machine d).sound all
            → Fits all (meant noted_of mid)
            → Fits ((noted_machine d).after all (noted_entry r)) (meant noted_of new)) where
          places_now : places_of new ≡ up_from 0 (length (all_parts d))
          places_now = places ∙ same_firsts noted_of mid parts same ∙ f.places

          abbrev next : List (Noted Slice ℕ)
          next = (noted_machine d).after (noted_now parts) e

          gives : Fits next (meant noted_of new)
          gives =
              subst
              (λ (x : Entry). Fits ((noted_machine d).after (noted_now parts) x) (meant noted_of new))
              entry_is (after (noted_now parts) sound_now fits_mid)

          long : length next ≡ length (all_parts d)
          long = (noting_is_lawful d).as_many next
              ((noting_is_lawful d).stays_sound (noted_now parts) e sound_now legal_there)

          noted_is : noted_now new ≡ next
          noted_is = whole noted_of 0 (length (all_parts d)) [] next new places_now refl long gives

          now_is : now_of new ≡ slices d (step d (state_in d parts) e)
          now_is =
              sym (means_now new) ∙ ap meanings noted_is
              ∙ means_after (world_machine d) (told_of d) (noted_now parts) e
              ∙ ap (λ (l : List Slice). slices d (step d (state_of d l) e)) (means_now parts)

          follows : HeldFit SliceFits (n + 1) (meant meaning_of new)
              → meant log_of new
              ≡ appended (kept_at d (activity_of d (noted_entry r).actor)) (n + 1, noted_entry r)
              (meant log_of mid)
              → meant log_of mid ≡ meant log_of parts → Follows d new (n + 1)
          follows fits logs logs_mid =
              let less : total (share d) (slices d (step d (state_in d parts) e))
              < total (share d) (now_of parts) =
              (world_lawful d).falls (now_of parts) e f.sound is_legal in
              let room = f.room in
              let same_total : total (share d) (now_of new)
              ≡ total (share d) (slices d (step d (state_in d parts) e)) =
              ap (total (share d)) now_is in
              record {
                sound =
                    subst (IsSound d) (sym now_is)
                    ((world_lawful d).stays_sound (now_of parts) e f.sound is_legal);
                places = places_now;
                fits = fits;
                room = omega (arith, same_total, less, room);
                logs =
                    subst (EachBefore (n + 1 + 1))
                    (sym (logs ∙ ap (appended (kept_at d (activity_of d (noted_entry r).actor))
                    (n + 1, noted_entry r)) logs_mid))
                    (each_appended (n + 1) (kept_at d (activity_of d (noted_entry r).actor))
                    (noted_entry r) (meant log_of parts) f.logs);
              }

          pub is_made_noted : HeldFit (noted_machine d).fits (n + 1) (meant noted_of new)
              → meant log_of new
              ≡ appended (kept_at d (activity_of d (noted_entry r).actor)) (n + 1, noted_entry r)
              (meant log_of mid)
              → meant log_of mid ≡ meant log_of parts → IsMadeNoted d e n parts new
          is_made_noted fits logs logs_mid = record {
            made = record {
              legal = is_legal;
              follows = follows (fits_without d (n + 1) new fits) logs logs_mid;
              state = state_then d parts n f e is_legal new now_is;
            };
            noted = noted_is;
          }

-- ---- along a history

leads_more : {M E : Type 0} (x : Machine M E) (now : List M) (h : List E) (e : E)
    → leads x now (h ++ e ∷ []) ≡ x.after (leads x now h) e
leads_more x now [] e = refl
leads_more x now (a ∷ rest) e = leads_more x (x.after now a) rest e

-- what was noted is what the first n entries of a history note, from some opening on
pub record IsLed (d : Declared) (h : List Entry) (n : ℕ) (parts : List (ℕ × Part)) : Type 0 where
  pub opening : List Part
  pub opens : map meaning_of opening ≡ slices d (opening_state d)
  pub blank : All (λ (x : Part). notes_of x ≡ []) opening
  pub led : noted_now parts ≡ leads (noted_machine d) (map noted_of opening) (take n h)

module _ (d : Declared) (h : List Entry) where
  pub led_first : (xs : List Part) → map meaning_of xs ≡ slices d (opening_state d)
      → All (λ (x : Part). notes_of x ≡ []) xs → (parts : List (ℕ × Part)) → parts ≡ numbered 0 xs
      → IsLed d h 0 parts
  led_first xs opens blank parts is = record {
    opening = xs;
    opens = opens;
    blank = blank;
    led = ap noted_now is ∙ numbered_means noted_of 0 xs;
  }

  pub led_further : (n : ℕ) (e : Entry) → n < length h → e ≡ get_or h n e
      → (old new : List (ℕ × Part)) → IsLed d h n old
      → noted_now new ≡ (noted_machine d).after (noted_now old) e → IsLed d h (n + 1) new
  led_further n e within is old new led made =
      let opening = map noted_of led.opening in
      let longer : take (n + 1) h ≡ take n h ++ e ∷ [] =
      take_more h n e within ∙ ap (λ (x : Entry). take n h ++ x ∷ []) (sym is) in
      record {
        opening = led.opening;
        opens = led.opens;
        blank = led.blank;
        led =
            made ∙ ap (λ all. (noted_machine d).after all e) led.led
            ∙ sym (leads_more (noted_machine d) opening (take n h) e)
            ∙ ap (leads (noted_machine d) opening) (sym longer);
      }

  -- behind the last entry
  module _ (n : ℕ) (whole_length : n ≡ length h) (parts : List (ℕ × Part)) (led : IsLed d h n parts)
      (finished : IsFinished d h) (ends : EndsInStop h) (limits : IsWithinLimits d) where
    abbrev first : List Slice
    first = map meaning_of led.opening

    first_sound : IsSound d first
    first_sound = opening_sound d limits first led.opens

    legal : Legal (world_machine d) first h
    unfolding first_sound
    legal =
        legal_to d h first first_sound
        (subst (λ s. AreLegalFrom d s h) (sym (opening_is d limits first led.opens)) finished.legal)

    seconds : (xs : List (ℕ × Part)) → map noted_of (map (λ x. x.1) xs) ≡ noted_now xs
    seconds [] = refl
    seconds (x ∷ xs) = ap (λ (l : List (Noted Slice ℕ)). noted_of x.1 ∷ l) (seconds xs)

    pub ran : (left : List Part) → left ≡ map (λ x. x.1) parts
        → turning.IsFinished (noted_machine d) (λ (e : Entry). is_last e.act)
        (map noted_of led.opening) h (map noted_of left)
    ran left is = record {
      legal =
          legal_noted (world_machine d) (told_of d) (map noted_of led.opening) h
          (subst (λ all. Legal (world_machine d) all h) (sym (means_of led.opening)) legal);
      ends = (ends.before, ends.last, ends.split, ap is_last ends.stop);
      leads_to =
          ap (map noted_of) is ∙ seconds parts ∙ led.led
          ∙ ap (leads (noted_machine d) (map noted_of led.opening))
          (take_all n h (omega (arith, whole_length)));
    }
