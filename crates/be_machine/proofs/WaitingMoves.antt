-- What changes of ports, loopers and applications keep who waits for whom.
use Rattle.std.proofs.Common.{◌≡◌, ℕ, ◌+◌, ◌<◌, ◌≤◌, Bool, true, false, List, [], ◌∷◌, ◌++◌, length, Option, Some, None, refl, sym, ap, subst, ◌∙◌, arith, length-append}
use Rattle.std.specs.Prelude.{slice_get, ◌==◌}
use Rattle.std.proofs.lemmas.Option.{same_Some, slice_get_within}
use Rattle.be_facts.proofs.Numbers.{eq_tells, eq_false_tells}
use Rattle.be_handler.specs.declared.Route.{Route}
use Rattle.be_looper.specs.Duties.{in_hand}
use Rattle.be_message.specs.Messages.{Message}
use Rattle.be_port.specs.declared.Duty.TheVariants.{Free, Owed}
use Rattle.be_port.specs.Ports.{Letter, Port, judged, is_accepted, with_letter, posted, front, without_front}
use Rattle.be_reply.specs.Cells as reply
use Rattle.be_script.specs.Script.{Declared}
use Rattle.be_machine.specs.Lists.{at}
use Rattle.be_machine.specs.State.{Looper, free, handling, Stage, App}
use Rattle.be_machine.proofs.ProgressCases.{by_test}
use Rattle.be_machine.proofs.Lists.{AtPlace, place_here, place_kept, place_elsewhere, at_here, at_elsewhere, at_past}
use Rattle.be_machine.proofs.Waiting.{total, one_where, owes, owed_by_letter, owed_by_port, owed_by_looper, owed_in, due_in, due_to, is_busy, IsBusyByPlace, IsTakenInTime, Waits}
use Rattle.be_machine.proofs.WaitingSums.{total_at, total_kept, total_more, total_front}

-- ---- all elements of a list

placed_by : {X : Type 0} (P : X → Type 0) (xs : List X) (v w : ℕ) (f : X → X) (b : Bool) → (w == v) ≡ b → ((x : X) → slice_get xs v ≡ Some x → P x → P (f x)) → ((w : ℕ) → AtPlace P xs w) → AtPlace P (at xs v f) w
placed_by P xs v w f true e keep h = subst (λ u. AtPlace P (at xs v f) u) (sym (eq_tells w v e)) (place_here P P xs v f keep (h v))
placed_by P xs v w f false e keep h = place_elsewhere P xs v w f (λ same. eq_false_tells w v e (sym same)) (h w)

-- one is changed in a way that keeps what holds of it
pub place_all : {X : Type 0} (P : X → Type 0) (xs : List X) (v : ℕ) (f : X → X) → ((x : X) → slice_get xs v ≡ Some x → P x → P (f x)) → ((w : ℕ) → AtPlace P xs w) → (w : ℕ) → AtPlace P (at xs v f) w
place_all P xs v f keep h w = placed_by P xs v w f (w == v) refl keep h

-- ---- loopers

-- a looper keeps what the letter in its hand owes
pub loopers_kept : (d : Declared) (ports : List (Port Message)) (loopers : List Looper) (apps : List App) (w : ℕ) (f : Looper → Looper) → ((m : ℕ) (l : Looper) → slice_get loopers w ≡ Some l → owed_by_looper m (f l) ≡ owed_by_looper m l) → Waits d ports loopers apps → Waits d ports (at loopers w f) apps
loopers_kept d ports loopers apps w f keep h = record {
  busy = h.busy;
  taken = h.taken;
  owed = λ m. ap (λ n. total (owed_by_port m) ports + n) (total_kept (owed_by_looper m) loopers w f (keep m)) ∙ h.owed m;
}

-- ---- ports

-- a port keeps what its letters owe
pub ports_kept : (d : Declared) (ports : List (Port Message)) (loopers : List Looper) (apps : List App) (v : ℕ) (g : Port Message → Port Message) → ((m : ℕ) (p : Port Message) → slice_get ports v ≡ Some p → IsTakenInTime p → owed_by_port m (g p) ≡ owed_by_port m p) → ((p : Port Message) → IsTakenInTime p → IsTakenInTime (g p)) → Waits d ports loopers apps → Waits d (at ports v g) loopers apps
ports_kept d ports loopers apps v g keep in_time h = record {
  busy = h.busy;
  taken = λ w. place_all IsTakenInTime ports v g (λ p read. in_time p) h.taken w;
  owed = λ m. ap (λ n. n + total (owed_by_looper m) loopers) (total_kept (owed_by_port m) ports v g (λ p read. keep m p read (h.taken v p read))) ∙ h.owed m;
}

-- a letter more owes what it owes
pub more_owed : (m : ℕ) (letter : Letter Message) (p : Port Message) → IsTakenInTime p → owed_by_port m (with_letter letter p) ≡ owed_by_port m p + owes m letter.duty
more_owed m letter p h = total_more (owed_by_letter m) p.arrived p.taken letter h

in_time_more : (letter : Letter Message) (p : Port Message) → IsTakenInTime p → IsTakenInTime (with_letter letter p)
in_time_more letter p h = let longer : length (p.arrived ++ letter ∷ []) ≡ length p.arrived + 1 = length-append p.arrived (letter ∷ []) in omega (arith, longer)

pub in_time_posted : (letter : Letter Message) (p : Port Message) → IsTakenInTime p → IsTakenInTime (posted letter p)
unfolding posted
in_time_posted letter p h = by_test IsTakenInTime (is_accepted (judged p letter.hop)) (with_letter letter p) p (in_time_more letter p h) h

-- a letter that owes nothing
pub free_letter : (m : ℕ) (letter : Letter Message) (p : Port Message) → letter.duty ≡ Free → IsTakenInTime p → owed_by_port m (with_letter letter p) ≡ owed_by_port m p
free_letter m letter p nothing h =
    let more : owed_by_port m (with_letter letter p) ≡ owed_by_port m p + owes m letter.duty = more_owed m letter p h in
    let none : owes m letter.duty ≡ 0 = ap (owes m) nothing in
    omega (arith, more, none)

free_posted : (m : ℕ) (letter : Letter Message) (p : Port Message) → letter.duty ≡ Free → IsTakenInTime p → owed_by_port m (posted letter p) ≡ owed_by_port m p
unfolding posted
free_posted m letter p nothing h = by_test (λ q. owed_by_port m q ≡ owed_by_port m p) (is_accepted (judged p letter.hop)) (with_letter letter p) p (free_letter m letter p nothing h) refl

-- a post to which nobody waits for a reply
pub post_kept : (d : Declared) (ports : List (Port Message)) (loopers : List Looper) (apps : List App) (v : ℕ) (letter : Letter Message) → letter.duty ≡ Free → Waits d ports loopers apps → Waits d (at ports v (posted letter)) loopers apps
post_kept d ports loopers apps v letter nothing h = ports_kept d ports loopers apps v (posted letter) (λ m p read. free_posted m letter p nothing) (in_time_posted letter) h

-- a notice
pub notice_kept : (d : Declared) (ports : List (Port Message)) (loopers : List Looper) (apps : List App) (v : ℕ) (letter : Letter Message) → letter.duty ≡ Free → Waits d ports loopers apps → Waits d (at ports v (with_letter letter)) loopers apps
notice_kept d ports loopers apps v letter nothing h = ports_kept d ports loopers apps v (with_letter letter) (λ m p read. free_letter m letter p nothing) (in_time_more letter) h

-- ---- applications

due_here : (apps : List App) (m n : ℕ) (g : App → App) (a : App) → slice_get apps m ≡ Some a → (n == m) ≡ true → due_to (slice_get (at apps m g) n) ≡ due_in (g a).cell
due_here apps m n g a read e = subst (λ k. due_to (slice_get (at apps m g) k) ≡ due_in (g a).cell) (sym (eq_tells n m e)) (ap due_to (at_here apps m g a read))

due_there : (apps : List App) (m n : ℕ) (g : App → App) → (n == m) ≡ false → due_to (slice_get (at apps m g) n) ≡ due_to (slice_get apps n)
due_there apps m n g e = ap due_to (at_elsewhere apps m n g (λ same. eq_false_tells n m e (sym same)))

due_same : (apps : List App) (m n : ℕ) (g : App → App) (a : App) (b : Bool) → slice_get apps m ≡ Some a → (n == m) ≡ b → due_in (g a).cell ≡ due_in a.cell → due_to (slice_get (at apps m g) n) ≡ due_to (slice_get apps n)
due_same apps m n g a true read e keep =
    due_here apps m n g a read e ∙ keep ∙ sym (ap due_to (ap (slice_get apps) (eq_tells n m e) ∙ read))
due_same apps m n g a false read e keep = due_there apps m n g e

busy_at : (d : Declared) (apps : List App) (m n : ℕ) (g : App → App) (a : App) (b : Bool) → slice_get apps m ≡ Some a → (n == m) ≡ b → (IsBusyByPlace d m a → IsBusyByPlace d m (g a)) → AtPlace (IsBusyByPlace d n) apps n → AtPlace (IsBusyByPlace d n) (at apps m g) n
busy_at d apps m n g a true read e busy h =
    subst (λ k. AtPlace (IsBusyByPlace d k) apps k → AtPlace (IsBusyByPlace d k) (at apps m g) k) (sym (eq_tells n m e))
    (λ old. place_here (IsBusyByPlace d m) (IsBusyByPlace d m) apps m g (λ x there k. subst (λ y. IsBusyByPlace d m y → IsBusyByPlace d m (g y)) (same_Some a x (sym read ∙ there)) busy k) old) h
busy_at d apps m n g a false read e busy h = λ x there. h x (sym (at_elsewhere apps m n g (λ same. eq_false_tells n m e (sym same))) ∙ there)

-- an application goes on, and is due what it was
pub apps_kept : (d : Declared) (ports : List (Port Message)) (loopers : List Looper) (apps : List App) (m : ℕ) (g : App → App) (a : App) → slice_get apps m ≡ Some a → (IsBusyByPlace d m a → IsBusyByPlace d m (g a)) → due_in (g a).cell ≡ due_in a.cell → Waits d ports loopers apps → Waits d ports loopers (at apps m g)
apps_kept d ports loopers apps m g a read busy keep h = record {
  busy = λ n. busy_at d apps m n g a (n == m) read refl busy (h.busy n);
  taken = h.taken;
  owed = λ n. h.owed n ∙ sym (due_same apps m n g a (n == m) read refl keep);
}

sent_sum : (d : Declared) (ports : List (Port Message)) (loopers : List Looper) (apps : List App) (v m n : ℕ) (letter : Letter Message) (p : Port Message) (g : App → App) (a : App) (b : Bool) → slice_get ports v ≡ Some p → posted letter p ≡ with_letter letter p → letter.duty ≡ Owed m → slice_get apps m ≡ Some a → (n == m) ≡ b → due_in a.cell ≡ 0 → due_in (g a).cell ≡ 1 → Waits d ports loopers apps → owed_in (at ports v (posted letter)) loopers n ≡ due_to (slice_get (at apps m g) n)
sent_sum d ports loopers apps v m n letter p g a true port accepted duty read e before after h =
    let sum : total (owed_by_port n) (at ports v (posted letter)) + owed_by_port n p ≡ total (owed_by_port n) ports + owed_by_port n (posted letter p) = total_at (owed_by_port n) ports v (posted letter) p port in
    let more : owed_by_port n (posted letter p) ≡ owed_by_port n p + owes n letter.duty = ap (owed_by_port n) accepted ∙ more_owed n letter p (h.taken v p port) in
    let one : owes n letter.duty ≡ 1 = ap (owes n) duty ∙ ap one_where e in
    let old : owed_in ports loopers n ≡ 0 = h.owed n ∙ ap due_to (ap (slice_get apps) (eq_tells n m e) ∙ read) ∙ before in
    let new : due_to (slice_get (at apps m g) n) ≡ 1 = due_here apps m n g a read e ∙ after in
    omega (arith, sum, more, one, old, new)
sent_sum d ports loopers apps v m n letter p g a false port accepted duty read e before after h =
    let sum : total (owed_by_port n) (at ports v (posted letter)) + owed_by_port n p ≡ total (owed_by_port n) ports + owed_by_port n (posted letter p) = total_at (owed_by_port n) ports v (posted letter) p port in
    let more : owed_by_port n (posted letter p) ≡ owed_by_port n p + owes n letter.duty = ap (owed_by_port n) accepted ∙ more_owed n letter p (h.taken v p port) in
    let none : owes n letter.duty ≡ 0 = ap (owes n) duty ∙ ap one_where e in
    let old : owed_in ports loopers n ≡ due_to (slice_get apps n) = h.owed n in
    let new : due_to (slice_get (at apps m g) n) ≡ due_to (slice_get apps n) = due_there apps m n g e in
    omega (arith, sum, more, none, old, new)

-- a letter for whose reply the application waits from now on
pub sent_kept : (d : Declared) (ports : List (Port Message)) (loopers : List Looper) (apps : List App) (v m : ℕ) (letter : Letter Message) (p : Port Message) (g : App → App) (a : App) → slice_get ports v ≡ Some p → posted letter p ≡ with_letter letter p → letter.duty ≡ Owed m → slice_get apps m ≡ Some a → (IsBusyByPlace d m a → IsBusyByPlace d m (g a)) → due_in a.cell ≡ 0 → due_in (g a).cell ≡ 1 → Waits d ports loopers apps → Waits d (at ports v (posted letter)) loopers (at apps m g)
sent_kept d ports loopers apps v m letter p g a port accepted duty read busy before after h = record {
  busy = λ n. busy_at d apps m n g a (n == m) read refl busy (h.busy n);
  taken = λ w. place_all IsTakenInTime ports v (posted letter) (λ q there. in_time_posted letter q) h.taken w;
  owed = λ n. sent_sum d ports loopers apps v m n letter p g a (n == m) port accepted duty read refl before after h;
}

-- ---- letters and hands

-- a letter goes into another port, and its duty with it
pub forward_kept : (d : Declared) (ports : List (Port Message)) (loopers : List Looper) (apps : List App) (v w : ℕ) (letter : Letter Message) (p : Port Message) (f : Looper → Looper) (l : Looper) → slice_get ports v ≡ Some p → posted letter p ≡ with_letter letter p → slice_get loopers w ≡ Some l → ((m : ℕ) → owes m letter.duty + owed_by_looper m (f l) ≡ owed_by_looper m l) → Waits d ports loopers apps → Waits d (at ports v (posted letter)) (at loopers w f) apps
forward_kept d ports loopers apps v w letter p f l port accepted read keep h = record {
  busy = h.busy;
  taken = λ u. place_all IsTakenInTime ports v (posted letter) (λ q there. in_time_posted letter q) h.taken u;
  owed = λ m.
      let sum : total (owed_by_port m) (at ports v (posted letter)) + owed_by_port m p ≡ total (owed_by_port m) ports + owed_by_port m (posted letter p) = total_at (owed_by_port m) ports v (posted letter) p port in
      let more : owed_by_port m (posted letter p) ≡ owed_by_port m p + owes m letter.duty = ap (owed_by_port m) accepted ∙ more_owed m letter p (h.taken v p port) in
      let hands : total (owed_by_looper m) (at loopers w f) + owed_by_looper m l ≡ total (owed_by_looper m) loopers + owed_by_looper m (f l) = total_at (owed_by_looper m) loopers w f l read in
      let same : owes m letter.duty + owed_by_looper m (f l) ≡ owed_by_looper m l = keep m in
      let old : owed_in ports loopers m ≡ due_to (slice_get apps m) = h.owed m in
      omega (arith, sum, more, hands, same, old);
}

in_time_taken : (p : Port Message) (letter : Letter Message) → front p ≡ Some letter → IsTakenInTime (without_front p)
in_time_taken p letter first = let within : p.taken < length p.arrived = slice_get_within p.arrived p.taken letter first in omega (arith, within)

-- a free looper takes the front letter
pub take_kept : (d : Declared) (ports : List (Port Message)) (loopers : List Looper) (apps : List App) (w : ℕ) (letter : Letter Message) (route : Route) (stage : Stage) (p : Port Message) → slice_get ports w ≡ Some p → front p ≡ Some letter → slice_get loopers w ≡ Some free → Waits d ports loopers apps → Waits d (at ports w without_front) (at loopers w (λ _. handling (in_hand letter route) stage)) apps
take_kept d ports loopers apps w letter route stage p port first read h = record {
  busy = h.busy;
  taken = λ u. place_all IsTakenInTime ports w without_front (λ q there old. in_time_taken q letter (ap front (same_Some q p (sym there ∙ port)) ∙ first)) h.taken u;
  owed = λ m.
      let sum : total (owed_by_port m) (at ports w without_front) + owed_by_port m p ≡ total (owed_by_port m) ports + owed_by_port m (without_front p) = total_at (owed_by_port m) ports w without_front p port in
      let less : owed_by_port m p ≡ owes m letter.duty + owed_by_port m (without_front p) = total_front (owed_by_letter m) p.arrived p.taken letter first in
      let hands : total (owed_by_looper m) (at loopers w (λ _. handling (in_hand letter route) stage)) + owed_by_looper m free ≡ total (owed_by_looper m) loopers + owes m letter.duty = total_at (owed_by_looper m) loopers w (λ _. handling (in_hand letter route) stage) free read in
      let old : owed_in ports loopers m ≡ due_to (slice_get apps m) = h.owed m in
      omega (arith, sum, less, hands, old);
}

-- ---- answers

-- a reply in the cell, as far as it is taken
abbrev pub with_answer : Message → App → App
with_answer message a = record a { cell = reply.with_reply message a.cell }

still_busy : (message : Message) (c : reply.Cell) → is_busy (reply.with_reply message c) ≡ is_busy c
still_busy message reply.waiting = refl
still_busy message (reply.replied other) = refl
still_busy message reply.idle = refl

none_due : (message : Message) (c : reply.Cell) → due_in (reply.with_reply message c) ≡ 0
none_due message reply.waiting = refl
none_due message (reply.replied other) = refl
none_due message reply.idle = refl

answered_busy : (d : Declared) (m : ℕ) (message : Message) (a : App) → IsBusyByPlace d m a → IsBusyByPlace d m (with_answer message a)
answered_busy d m message a h = still_busy message a.cell ∙ h

answered_place : (d : Declared) (apps : List App) (m n : ℕ) (message : Message) (b : Bool) → (n == m) ≡ b → AtPlace (IsBusyByPlace d n) apps n → AtPlace (IsBusyByPlace d n) (at apps m (with_answer message)) n
answered_place d apps m n message b e h = place_kept (IsBusyByPlace d n) apps m n (with_answer message) b e (λ a read. answered_busy d n message a) h

due_answered : (apps : List App) (m n : ℕ) (message : Message) (o : Option App) → slice_get apps m ≡ o → (n == m) ≡ true → due_to (slice_get (at apps m (with_answer message)) n) ≡ 0
due_answered apps m n message (Some a) read e = due_here apps m n (with_answer message) a read e ∙ none_due message a.cell
due_answered apps m n message None read e = ap (λ xs. due_to (slice_get xs n)) (at_past apps m (with_answer message) read) ∙ ap due_to (ap (slice_get apps) (eq_tells n m e) ∙ read)

at_most_one : (o : Option App) → due_to o ≤ 1
at_most_one (Some a) = at_most_one_in a.cell
  where
    at_most_one_in : (c : reply.Cell) → due_in c ≤ 1
    at_most_one_in reply.waiting = omega arith
    at_most_one_in (reply.replied m) = omega arith
    at_most_one_in reply.idle = omega arith
at_most_one None = omega arith

answer_sum : (d : Declared) (ports : List (Port Message)) (loopers : List Looper) (apps : List App) (w m n : ℕ) (f : Looper → Looper) (l : Looper) (message : Message) (b : Bool) → slice_get loopers w ≡ Some l → ((k : ℕ) → owed_by_looper k l ≡ owes k (Owed m)) → ((k : ℕ) → owed_by_looper k (f l) ≡ 0) → (n == m) ≡ b → Waits d ports loopers apps → owed_in ports (at loopers w f) n ≡ due_to (slice_get (at apps m (with_answer message)) n)
answer_sum d ports loopers apps w m n f l message true read was now e h =
    let hands : total (owed_by_looper n) (at loopers w f) + owed_by_looper n l ≡ total (owed_by_looper n) loopers + owed_by_looper n (f l) = total_at (owed_by_looper n) loopers w f l read in
    let one : owed_by_looper n l ≡ 1 = was n ∙ ap one_where e in
    let none : owed_by_looper n (f l) ≡ 0 = now n in
    let old : owed_in ports loopers n ≡ due_to (slice_get apps n) = h.owed n in
    let most : due_to (slice_get apps n) ≤ 1 = at_most_one (slice_get apps n) in
    let new : due_to (slice_get (at apps m (with_answer message)) n) ≡ 0 = due_answered apps m n message (slice_get apps m) refl e in
    omega (arith, hands, one, none, old, most, new)
answer_sum d ports loopers apps w m n f l message false read was now e h =
    let hands : total (owed_by_looper n) (at loopers w f) + owed_by_looper n l ≡ total (owed_by_looper n) loopers + owed_by_looper n (f l) = total_at (owed_by_looper n) loopers w f l read in
    let zero_was : owed_by_looper n l ≡ 0 = was n ∙ ap one_where e in
    let none : owed_by_looper n (f l) ≡ 0 = now n in
    let old : owed_in ports loopers n ≡ due_to (slice_get apps n) = h.owed n in
    let new : due_to (slice_get (at apps m (with_answer message)) n) ≡ due_to (slice_get apps n) = due_there apps m n (with_answer message) e in
    omega (arith, hands, zero_was, none, old, new)

-- the letter in a hand owed a reply, and it has come
pub answer_kept : (d : Declared) (ports : List (Port Message)) (loopers : List Looper) (apps : List App) (w m : ℕ) (f : Looper → Looper) (l : Looper) (message : Message) → slice_get loopers w ≡ Some l → ((k : ℕ) → owed_by_looper k l ≡ owes k (Owed m)) → ((k : ℕ) → owed_by_looper k (f l) ≡ 0) → Waits d ports loopers apps → Waits d ports (at loopers w f) (at apps m (with_answer message))
answer_kept d ports loopers apps w m f l message read was now h = record {
  busy = λ n. answered_place d apps m n message (n == m) refl (h.busy n);
  taken = h.taken;
  owed = λ n. answer_sum d ports loopers apps w m n f l message (n == m) read was now refl h;
}
