-- Where nothing is left to do, application by application and window by window.
use Rattle.std.proofs.Common.{◌≡◌, ℕ, ◌+◌, ◌<◌, Bool, true, false, List, length, Option, Some, None, refl, sym, ap, subst, ◌∙◌, arith}
use Rattle.std.specs.Prelude.{◌==◌, ◌&&◌, not, slice_get}
use Rattle.std.specs.List.{list_all, range_with_len}
use Rattle.std.proofs.lemmas.Option.{slice_get_within}
use Rattle.std.proofs.lemmas.Bool.{false_from_ne_true, and_from}
use Rattle.be_facts.proofs.Lists.{get_range, all_below, all_at}
use Rattle.be_facts.proofs.Truths.{and_first, and_second}
use Rattle.be_link.specs.Queues.{Numbered, is_flushed}
use Rattle.be_message.specs.Messages.{Message}
use Rattle.be_port.specs.Ports.{Port, queue_of}
use Rattle.be_script.specs.Script.{Declared}
use Rattle.be_machine.specs.Closing.{all_quiet, is_free}
use Rattle.be_machine.specs.Program.{has_ended}
use Rattle.be_machine.specs.State.{State}
use Rattle.be_machine.specs.Update.{owes_notice}
use Rattle.be_machine.proofs.HasParts.{HasParts}
use Rattle.be_machine.proofs.ProgressPlaces.{all_pass}
use Rattle.be_parts.specs.declared.part.Part.{Part}
use Rattle.be_rules.specs.Rules.{IsSound}
use Rattle.be_rules.specs.Slices.{Slice, state_of}
use Rattle.be_rules.proofs.Lawfully.{back, whole}
use Rattle.be_asking.specs.Stopping.{Tells, is_quiet, passes}

-- ---- tests of all

never : (b : Bool) → b ≡ false → b ≡ true → ⊥
never b out is = let same : true ≡ false = sym is ∙ out in absurd (cc)

passes_by : {X : Type 0} (p : X → Bool) (xs : List X) (i : ℕ) (o : Option X) → slice_get xs i ≡ o → list_all p xs ≡ true → passes p o ≡ true
passes_by p xs i (Some x) read all = all_at p xs i x all read
passes_by p xs i None read all = refl

passes_at : {X : Type 0} (p : X → Bool) (xs : List X) (i : ℕ) → list_all p xs ≡ true → passes p (slice_get xs i) ≡ true
passes_at p xs i all = passes_by p xs i (slice_get xs i) refl all

all_passes : {X : Type 0} (p : X → Bool) (xs : List X) → ((i : ℕ) → i < length xs → passes p (slice_get xs i) ≡ true) → list_all p xs ≡ true
all_passes p xs each = all_pass p xs (λ i x read. ap (passes p) (sym read) ∙ each i (slice_get_within xs i x read))

passes_below : (p : ℕ → Bool) (n i : ℕ) → i < n → list_all p (range_with_len 0 n) ≡ true → p i ≡ true
passes_below p n i lt all = let same : 0 + i ≡ i = omega arith in all_at p (range_with_len 0 n) i i all (get_range 0 n i lt ∙ ap (λ k. Some k) same)

-- ---- in a state

module _ (d : Declared) (s : State) (h : HasParts d s) where
  abbrev Below : ℕ → ℕ → Type 0
  Below n w = w < n → w < length d.windows

  below : (n : ℕ) → n ≡ length d.windows → (w : ℕ) → w < n → w < length d.windows
  below n same w lt = subst (λ k. w < k) same lt

  module _ (each : (w : ℕ) → w < length d.windows → is_quiet w s ≡ true) (w : ℕ) (lt : w < length d.windows) where
    abbrev holders : Bool
    holders = passes is_free (slice_get s.loopers w) && passes is_flushed (slice_get s.buffers w)

    abbrev letters : Bool
    letters = passes (λ p. length (queue_of p) == 0) (slice_get s.ports w)

    abbrev commands : Bool
    commands = passes (λ link. length link == 0) (slice_get s.links w)

    three : (holders && letters && commands) ≡ true
    three = and_first (holders && letters && commands) (not (owes_notice s w)) (each w lt)

    two : (holders && letters) ≡ true
    two = and_first (holders && letters) commands three

    one : holders ≡ true
    one = and_first holders letters two

    free_at : passes is_free (slice_get s.loopers w) ≡ true
    free_at = and_first (passes is_free (slice_get s.loopers w)) _ one

    flushed_at : passes is_flushed (slice_get s.buffers w) ≡ true
    flushed_at = and_second (passes is_free (slice_get s.loopers w)) _ one

    port_at : letters ≡ true
    port_at = and_second holders letters two

    link_at : commands ≡ true
    link_at = and_second (holders && letters) commands three

    settled_at : not (owes_notice s w) ≡ true
    settled_at = and_second (holders && letters && commands) (not (owes_notice s w)) (each w lt)

  all_rest : ((w : ℕ) → w < length d.windows → is_quiet w s ≡ true) → all_quiet s ≡ true
  all_rest each =
      and_from _ _ (and_from _ _ (and_from _ _ (and_from (list_all is_free s.loopers) (list_all (λ p. length (queue_of p) == 0) s.ports)
      (all_passes is_free s.loopers (λ w lt. free_at each w (below (length s.loopers) h.loopers w lt)))
      (all_passes (λ (p : Port Message). length (queue_of p) == 0) s.ports (λ w lt. port_at each w (below (length s.ports) h.ports w lt))))
      (all_passes is_flushed s.buffers (λ w lt. flushed_at each w (below (length s.buffers) h.buffers w lt))))
      (all_passes (λ (link : List Numbered). length link == 0) s.links (λ w lt. link_at each w (below (length s.links) h.links w lt))))
      (all_below (λ w. not (owes_notice s w)) (length s.panes) (λ w lt. settled_at each w (below (length s.panes) h.panes w lt)))

  rests_at : (w : ℕ) → w < length d.windows → all_quiet s ≡ true → is_quiet w s ≡ true
  rests_at w lt quiet =
      let loopers : Bool = list_all is_free s.loopers in
      let ports : Bool = list_all (λ p. length (queue_of p) == 0) s.ports in
      let buffers : Bool = list_all is_flushed s.buffers in
      let links : Bool = list_all (λ link. length link == 0) s.links in
      let owed : Bool = list_all (λ w. not (owes_notice s w)) (range_with_len 0 (length s.panes)) in
      let four : (loopers && ports && buffers && links) ≡ true = and_first (loopers && ports && buffers && links) owed quiet in
      let three : (loopers && ports && buffers) ≡ true = and_first (loopers && ports && buffers) links four in
      let two : (loopers && ports) ≡ true = and_first (loopers && ports) buffers three in
      let shown : w < length s.panes = subst (λ k. w < k) (sym h.panes) lt in
      and_from _ _ (and_from _ _ (and_from _ _
      (and_from (passes is_free (slice_get s.loopers w)) (passes is_flushed (slice_get s.buffers w)) (passes_at is_free s.loopers w (and_first loopers ports two)) (passes_at is_flushed s.buffers w (and_second (loopers && ports) buffers three)))
      (passes_at (λ (p : Port Message). length (queue_of p) == 0) s.ports w (and_second loopers ports two)))
      (passes_at (λ (link : List Numbered). length link == 0) s.links w (and_second (loopers && ports && buffers) links four)))
      (passes_below (λ w. not (owes_notice s w)) (length s.panes) w shown (and_second (loopers && ports && buffers && links) owed quiet))

-- ---- in each list that has the parts

module _ (d : Declared) (parts : List (ℕ × Part)) where
  has_parts : (all : List Slice) → IsSound d all → HasParts d (state_of d all)
  has_parts all sound = subst (HasParts d) (sym (back d all sound)) (whole d all sound).parts

  pub quiet_told : ((w : ℕ) → w < length d.windows → Tells d parts (is_quiet w) true) → Tells d parts all_quiet true
  quiet_told each all sound fits = all_rest d (state_of d all) (has_parts all sound) (λ w lt. each w lt all sound fits)

  pub busy_told : (w : ℕ) → w < length d.windows → Tells d parts (is_quiet w) false → Tells d parts all_quiet false
  busy_told w lt busy all sound fits =
      false_from_ne_true (all_quiet (state_of d all)) (λ quiet. never (is_quiet w (state_of d all)) (busy all sound fits) (rests_at d (state_of d all) (has_parts all sound) w lt quiet))

  pub ended_told : ((m : ℕ) → m < length d.apps → Tells d parts (λ s. has_ended d s m) true) → Tells d parts (λ s. list_all (has_ended d s) (range_with_len 0 (length s.apps))) true
  ended_told each all sound fits =
      let s : State = state_of d all in
      let h : HasParts d s = has_parts all sound in
      all_below (has_ended d s) (length s.apps) (λ m lt. each m (subst (λ k. m < k) h.apps lt) all sound fits)

  pub going_told : (m : ℕ) → m < length d.apps → Tells d parts (λ s. has_ended d s m) false → Tells d parts (λ s. list_all (has_ended d s) (range_with_len 0 (length s.apps))) false
  going_told m lt going all sound fits =
      let s : State = state_of d all in
      let h : HasParts d s = has_parts all sound in
      false_from_ne_true _ (λ ended. never (has_ended d s m) (going all sound fits) (passes_below (has_ended d s) (length s.apps) m (subst (λ k. m < k) (sym h.apps) lt) ended))
