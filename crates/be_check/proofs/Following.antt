-- The parts that follow a history, before an entry and after it.
use Rattle.std.proofs.Common.{◌≡◌, ℕ, ◌+◌, ◌<◌, ◌≤◌, true, List, [], map, length, All, Some, refl, sym, ap, ◌∙◌, subst, arith}
use Rattle.std.proofs.lemmas.List.{length-map}
use Rattle.be_asking.specs.Wants.{activity_in}
use Rattle.be_asking.specs.declared.activity.Activity.{Activity}
use Rattle.be_hall.proofs.Holding.{fit_after}
use Rattle.be_hall.specs.Answers.{Answers}
use Rattle.be_hall.specs.Hands.{meant, numbered, places_of, rises_from, up_from}
use Rattle.be_hall.specs.Logs.{IsAbove, appended}
use Rattle.be_hall.specs.Machine.{AllFit, Fits, HeldFit, IsHeld, IsReady, SomeFits}
use Rattle.be_hall.specs.Numbers.{total}
use Rattle.be_hall.specs.declared.parts.Verdict.{Verdict}
use Rattle.be_hall.specs.declared.parts.Verdict.TheVariants as verdict
use Rattle.be_hall.proofs.Gathered.{fits_from, held_at, numbered_fit, numbered_means, numbered_places, same_firsts, same_seconds, whole}
use Rattle.be_machine.specs.Activities.{activity_of}
use Rattle.be_machine.specs.History.{AreLegalFrom, state_from}
use Rattle.be_machine.specs.Legal.{IsLegal}
use Rattle.be_machine.specs.State.{opening_state}
use Rattle.be_machine.specs.Step.{step}
use Rattle.be_machine.specs.declared.Entry.{Entry}
use Rattle.be_parts.specs.Parts.{log_of, meaning_of, spare_of}
use Rattle.be_parts.specs.declared.part.Part.{Part}
use Rattle.be_rules.proofs.Cut.{put_together}
use Rattle.be_rules.proofs.Known.{ready_by}
use Rattle.be_rules.proofs.Lawfully.{back, state, whole_after, whole_next, world_lawful}
use Rattle.be_rules.specs.Rules.{IsSound, SliceFits, TouchesAt, kept_at, world_machine}
use Rattle.be_rules.specs.Shares.{share}
use Rattle.be_rules.specs.Slices.{Slice, all_parts, slice_of, slices, state_of}
use Rattle.be_script.specs.Script.{Declared}
use Rattle.be_script.specs.Work.{work_of}
use Rattle.be_serial.specs.Running.{EachBefore}
use Rattle.be_world.specs.Preparing.{IsPreparedEntry, entry_in, seen_in}
use Rattle.be_world.specs.Suits.{MayStep}
use Rattle.be_world.specs.declared.preparing.ReadyEntry.{ReadyEntry}
use Rattle.be_check.specs.Following.{Follows, SameHand, now_of, state_in}
use Rattle.be_serial.proofs.Going.{each_appended, is_above, numbered_logs}

module _ (d : Declared) (parts : List (ℕ × Part)) (n : ℕ) (f : Follows d parts n) where
  abbrev pub held : List (ℕ × Slice)
  held = meant meaning_of parts

  pub fits_now : Fits (now_of parts) held
  fits_now = fits_from meaning_of [] 0 (length (all_parts d)) parts refl f.places

  pub some_fits : SomeFits (world_machine d) held
  some_fits = (now_of parts, f.sound, fits_now)

  pub all_held : (p : ℕ) → p < length (all_parts d) → IsHeld held p
  all_held p lt = held_at meaning_of 0 (length (all_parts d)) p parts f.places (omega arith) (omega arith)

  pub fit_more : (k : ℕ) → n ≤ k → HeldFit SliceFits k held
  fit_more k le = fit_after meaning_of SliceFits n k parts (λ m h. (world_lawful d).fits_more n k m le h) f.fits

  pub small : n ≤ 4611686018427387904
  small = let room = f.room in omega arith

  pub fits_last : HeldFit SliceFits 4611686018427387904 held
  fits_last = fit_more 4611686018427387904 small

  module _ (e : Entry) (legal : IsLegal d (state_in d parts) e) where
    touched : (p : ℕ) → TouchesAt d (state_in d parts) e p → IsHeld held p
    touched p t = all_held p ((world_lawful d).touched_below (now_of parts) e p f.sound legal t)

    pub ready : IsReady (world_machine d) held e
    ready = ready_by d e held (now_of parts) f.sound fits_now legal touched

    falls : total (share d) (slices d (step d (state_in d parts) e)) < total (share d) (now_of parts)
    falls = (world_lawful d).falls (now_of parts) e f.sound legal

    pub one_more : n + 1 ≤ 4611686018427387904
    one_more = let room = f.room in let less = falls in omega arith

    pub may_step : (who : Activity) → activity_of d e.actor ≡ Some (activity_in who) → rises_from 0 (places_of parts) ≡ true → MayStep d parts e.actor who
    may_step who is rises = record {
      limits = f.sound.limits;
      is = is;
      fitting = some_fits;
      small = fits_last;
      act = e.act;
      ready = ready;
      ascending = rises;
    }

    -- ---- it is made ready

    module _ (mid : List (ℕ × Part)) (same : meant meaning_of mid ≡ held) where
      fits_mid : Fits (now_of parts) (meant meaning_of mid)
      fits_mid = subst (Fits (now_of parts)) (sym same) fits_now

      pub some_mid : SomeFits (world_machine d) (meant meaning_of mid)
      some_mid = (now_of parts, f.sound, fits_mid)

      pub is_ready : (v : Verdict ReadyEntry) → Answers (world_machine d) (meant meaning_of mid) (meant spare_of mid) entry_in seen_in (IsPreparedEntry d mid) e v → ((r : ReadyEntry) → v ≡ verdict.Ready r → ⊥) → ⊥
      is_ready (verdict.Ready r) a nope = nope r refl
      is_ready verdict.NotLegal a nope = a (now_of parts) f.sound fits_mid legal
      is_ready (verdict.Needs p) a nope = a.0 (subst (λ h. IsHeld h p) (sym same) (touched p (a.1 (now_of parts) f.sound fits_mid)))

      module _ (v : Verdict ReadyEntry) (r : ReadyEntry) (answer : Answers (world_machine d) (meant meaning_of mid) (meant spare_of mid) entry_in seen_in (IsPreparedEntry d mid) e v) (is : v ≡ verdict.Ready r) where
        pub entry_is : entry_in r ≡ e
        entry_is = (subst (λ (x : Verdict ReadyEntry). Answers (world_machine d) (meant meaning_of mid) (meant spare_of mid) entry_in seen_in (IsPreparedEntry d mid) e x) is answer).0

        pub permitted : IsReady (world_machine d) (seen_in r) (entry_in r)
        permitted =
            let answered = subst (λ (x : Verdict ReadyEntry). Answers (world_machine d) (meant meaning_of mid) (meant spare_of mid) entry_in seen_in (IsPreparedEntry d mid) e x) is answer in
            subst (λ h. IsReady (world_machine d) h (entry_in r)) (sym answered.1) (subst (λ (x : Entry). IsReady (world_machine d) (meant meaning_of mid) x) (sym answered.0) answered.2)

        pub above : meant log_of mid ≡ meant log_of parts → IsAbove (n + 1) (kept_at d (activity_of d (entry_in r).actor)) (meant log_of mid)
        above logs = subst (IsAbove (n + 1) (kept_at d (activity_of d (entry_in r).actor))) (sym logs) (is_above (n + 1) (kept_at d (activity_of d (entry_in r).actor)) (meant log_of parts) f.logs)

        -- ---- it is made

        module _ (new : List (ℕ × Part)) (places : places_of new ≡ places_of mid)
            (after : (all : List Slice) → IsSound d all → Fits all (meant meaning_of mid) → Fits (slices d (step d (state_of d all) (entry_in r))) (meant meaning_of new)) where
          places_now : places_of new ≡ up_from 0 (length (all_parts d))
          places_now = places ∙ same_firsts meaning_of mid parts same ∙ f.places

          gives : Fits (slices d (step d (state_in d parts) e)) (meant meaning_of new)
          gives = subst (λ (x : Entry). Fits (slices d (step d (state_in d parts) x)) (meant meaning_of new)) entry_is (after (now_of parts) f.sound fits_mid)

          pub now_is : now_of new ≡ slices d (step d (state_in d parts) e)
          now_is =
              whole meaning_of 0 (length (all_parts d)) [] (slices d (step d (state_in d parts) e)) new places_now refl
              (length-map (all_parts d) (slice_of (step d (state_in d parts) e))) gives

          pub follows : HeldFit SliceFits (n + 1) (meant meaning_of new) → meant log_of new ≡ appended (kept_at d (activity_of d (entry_in r).actor)) (n + 1, entry_in r) (meant log_of mid) → meant log_of mid ≡ meant log_of parts → Follows d new (n + 1)
          follows fits logs logs_mid =
              let less = falls in
              let room = f.room in
              let same_total : total (share d) (now_of new) ≡ total (share d) (slices d (step d (state_in d parts) e)) = ap (total (share d)) now_is in
              record {
                sound = subst (IsSound d) (sym now_is) ((world_lawful d).stays_sound (now_of parts) e f.sound legal);
                places = places_now;
                fits = fits;
                room = omega (arith, same_total, less, room);
                logs = subst (EachBefore (n + 1 + 1)) (sym (logs ∙ ap (appended (kept_at d (activity_of d (entry_in r).actor)) (n + 1, entry_in r)) logs_mid)) (each_appended (n + 1) (kept_at d (activity_of d (entry_in r).actor)) (entry_in r) (meant log_of parts) f.logs);
              }

    -- the state after it
    pub state_then : (new : List (ℕ × Part)) → now_of new ≡ slices d (step d (state_in d parts) e) → state_in d new ≡ step d (state_in d parts) e
    state_then new now_is =
        let all : List Slice = now_of parts in
        let is : state_of d all ≡ state d all f.sound = back d all f.sound in
        ap (state_of d) now_is
        ∙ ap (λ t. state_of d (slices d (step d t e))) is
        ∙ put_together d (step d (state d all f.sound) e) (whole_next d all f.sound e legal)
        ∙ sym (ap (λ t. step d t e) is)

  -- where no entry was made
  pub follows_still : (new : List (ℕ × Part)) → SameHand parts new → Follows d new n
  follows_still new same = record {
    sound = subst (IsSound d) (sym (same_seconds meaning_of new parts same.means)) f.sound;
    places = same_firsts meaning_of new parts same.means ∙ f.places;
    fits = subst (HeldFit SliceFits n) (sym same.means) f.fits;
    room = subst (λ all. n + total (share d) all ≤ 4611686018427387904) (sym (same_seconds meaning_of new parts same.means)) f.room;
    logs = subst (EachBefore (n + 1)) (sym same.logs) f.logs;
  }

-- ---- the opening

module _ (d : Declared) (xs : List Part) (means : map meaning_of xs ≡ slices d (opening_state d)) (sound : IsSound d (map meaning_of xs)) where
  now_opening : now_of (numbered 0 xs) ≡ map meaning_of xs
  now_opening = numbered_means meaning_of 0 xs

  pub follows_opening : total (share d) (map meaning_of xs) ≤ work_of d → AllFit SliceFits 0 (map meaning_of xs) → All (λ part. log_of part ≡ []) xs → Follows d (numbered 0 xs) 0
  follows_opening budgets fits logs =
      let many : length xs ≡ length (all_parts d) = sym (length-map xs meaning_of) ∙ ap (λ (l : List Slice). length l) means ∙ length-map (all_parts d) (slice_of (opening_state d)) in
      let work = sound.limits.counts.work in
      let same_total : total (share d) (now_of (numbered 0 xs)) ≡ total (share d) (map meaning_of xs) = ap (total (share d)) now_opening in
      record {
        sound = subst (IsSound d) (sym now_opening) sound;
        places = numbered_places meaning_of 0 xs ∙ ap (up_from 0) many;
        fits = numbered_fit meaning_of SliceFits 0 0 xs fits;
        room = omega (arith, same_total, budgets, work);
        logs = numbered_logs log_of (0 + 1) 0 xs logs;
      }

  pub state_opening : state_in d (numbered 0 xs) ≡ opening_state d
  unfolding state_from AreLegalFrom
  state_opening = ap (state_of d) (now_opening ∙ means) ∙ put_together d (opening_state d) (whole_after d [] sound.limits tt)
