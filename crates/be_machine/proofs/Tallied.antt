-- The tally of a window is that of its port, its looper, its buffer and its link.
use Rattle.std.proofs.Common.{◌≡◌, ℕ, ◌+◌, ◌≤◌, Bool, true, false, List, [], ◌∷◌, ◌++◌, length, Option, None, refl, sym, subst, arith}
use Rattle.std.specs.Prelude.{◌==◌, if◌then◌else◌}
use Rattle.be_facts.proofs.Numbers.{eq_tells, eq_false_tells}
use Rattle.be_link.specs.Queues.{Numbered, Buffer}
use Rattle.be_looper.specs.Duties.{waiter}
use Rattle.be_message.specs.Messages.{Message}
use Rattle.be_port.specs.Ports.{Port}
use Rattle.be_machine.specs.Happenings.{Happening}
use Rattle.be_machine.specs.Orderly.{Tally, counted, tally_from, AreInTurn}
use Rattle.be_machine.specs.State.{State, Looper, free, locked, handling}
use Rattle.be_machine.proofs.Lists.{AtPlace}

-- ---- what the parts show

abbrev pub is_handling : Looper → Bool
is_handling (handling hand stage) = true
is_handling (locked m) = false
is_handling free = false

abbrev pub is_locked : Looper → Bool
is_locked (locked m) = true
is_locked (handling hand stage) = false
is_locked free = false

-- the application that waits for the reply to the letter in hand
abbrev pub waits_for : Looper → Option ℕ
waits_for (handling hand stage) = waiter hand.duty
waits_for (locked m) = None
waits_for free = None

-- the commands have the numbers after n
abbrev pub AreNumbered : ℕ → List Numbered → Type 0
AreNumbered n [] = Unit {0}
AreNumbered n (c ∷ cs) = (c.number ≡ n + 1) × AreNumbered (n + 1) cs

pub record PortTallied (arrived taken : ℕ) (p : Port Message) : Type 0 where
  pub arrived_are : arrived ≡ length p.arrived
  pub taken_are : taken ≡ p.taken
  pub within : taken ≤ arrived

pub record LooperTallied (in_hand in_lock was_replied : Bool) (l : Looper) : Type 0 where
  pub handles : in_hand ≡ is_handling l
  pub locks : in_lock ≡ is_locked l
  pub replied : was_replied ≡ true → waits_for l ≡ None

pub record BufferTallied (drawn flushed : ℕ) (b : Buffer) : Type 0 where
  pub made : drawn ≡ b.made
  pub waiting : drawn ≡ flushed + length b.commands
  pub numbers : AreNumbered flushed b.commands

pub record LinkTallied (flushed executed : ℕ) (link : List Numbered) : Type 0 where
  pub waiting : flushed ≡ executed + length link
  pub numbers : AreNumbered executed link

abbrev pub OfPort : Tally → Port Message → Type 0
OfPort t p = PortTallied t.arrived_count t.taken_count p

abbrev pub OfLooper : Tally → Looper → Type 0
OfLooper t l = LooperTallied t.in_hand t.in_lock t.was_replied l

abbrev pub OfBuffer : Tally → Buffer → Type 0
OfBuffer t b = BufferTallied t.drawn_count t.flushed_count b

abbrev pub OfLink : Tally → List Numbered → Type 0
OfLink t link = LinkTallied t.flushed_count t.executed_count link

pub record IsTallied (s : State) (w : ℕ) (t : Tally) : Type 0 where
  pub port : AtPlace (OfPort t) s.ports w
  pub looper : AtPlace (OfLooper t) s.loopers w
  pub buffer : AtPlace (OfBuffer t) s.buffers w
  pub link : AtPlace (OfLink t) s.links w

-- what happens may happen, and the tally behind it is that of the state
pub record GoesOn (s : State) (w : ℕ) (t : Tally) (happenings : List Happening) : Type 0 where
  pub in_turn : AreInTurn t happenings
  pub tallied : IsTallied s w (tally_from t happenings)

pub nothing_happens : (s : State) (w : ℕ) (t : Tally) → IsTallied s w t → GoesOn s w t []
nothing_happens s w t h = record { in_turn = tt; tallied = h }

-- one after the other
pub in_turn_append : (t : Tally) (xs ys : List Happening) → AreInTurn t xs → AreInTurn (tally_from t xs) ys → AreInTurn t (xs ++ ys)
in_turn_append t [] ys h k = k
in_turn_append t (x ∷ xs) ys h k = (h.0, in_turn_append (counted t x) xs ys h.1 k)

pub tally_append : (t : Tally) (xs ys : List Happening) → tally_from t (xs ++ ys) ≡ tally_from (tally_from t xs) ys
tally_append t [] ys = refl
tally_append t (x ∷ xs) ys = tally_append (counted t x) xs ys

-- ---- numbers of commands

pub numbered_append : (n : ℕ) (xs ys : List Numbered) → AreNumbered n xs → AreNumbered (n + length xs) ys → AreNumbered n (xs ++ ys)
numbered_append n [] ys h k = let same : n + 0 ≡ n = omega arith in subst (λ i. AreNumbered i ys) same k
numbered_append n (x ∷ xs) ys h k =
    let same : n + length (x ∷ xs) ≡ n + 1 + length xs = omega arith in
    (h.0, numbered_append (n + 1) xs ys h.1 (subst (λ i. AreNumbered i ys) same k))

-- ---- by window

-- what happens at window v happens at window w only where the two are one
pub at_window : (s : State) (w v : ℕ) (t : Tally) (happenings : List Happening) (b : Bool) → (w == v) ≡ b → (w ≡ v → GoesOn s v t happenings) → ((w ≡ v → ⊥) → IsTallied s w t) → GoesOn s w t (if b then happenings else [])
at_window s w v t happenings true e here elsewhere = let same : w ≡ v = eq_tells w v e in subst (λ u. GoesOn s u t happenings) (sym same) (here same)
at_window s w v t happenings false e here elsewhere = nothing_happens s w t (elsewhere (eq_false_tells w v e))
