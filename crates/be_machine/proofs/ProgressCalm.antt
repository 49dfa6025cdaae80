-- A buffer holds 32 commands at most, and that of a free looper none.
use Rattle.std.proofs.Common.{◌≡◌, ℕ, ◌+◌, ◌<◌, ◌≤◌, Bool, true, false, List, length, Some, None, refl, sym, ap, ◌∙◌, arith, length-append}
use Rattle.std.specs.Prelude.{slice_get, nat_le, option_and_then, if◌then◌else◌}
use Rattle.std.proofs.lemmas.Bool.Decides.{nat_tests}
use Rattle.be_command.specs.declared.Command.{Command}
use Rattle.be_link.specs.Queues.{Buffer, is_full, with_command, emptied}
use Rattle.be_machine.specs.Commands.{draw_act, drawn, flushed, flushed_into}
use Rattle.be_machine.specs.declared.Act.{Act}
use Rattle.be_machine.specs.declared.Act.TheVariants as act
use Rattle.be_machine.specs.Lists.{at}
use Rattle.be_machine.specs.State.{State, Looper, free, locked, handling}
use Rattle.be_machine.proofs.ProgressCases.{by_option}
use Rattle.be_machine.proofs.Lists.{AtPlace}
use Rattle.be_machine.proofs.ProgressPlaces.{Each, each_kept}

abbrev pub is_free_looper : Looper → Bool
is_free_looper free = true
is_free_looper (locked m) = false
is_free_looper (handling hand stage) = false

-- a looper and its buffer
pub record IsCalm (l : Looper) (b : Buffer) : Type 0 where
  pub within : length b.commands ≤ 32
  pub idle : is_free_looper l ≡ true → length b.commands ≡ 0

abbrev pub AreCalm : List Looper → List Buffer → Type 0
AreCalm loopers buffers = Each (λ w l. AtPlace (IsCalm l) buffers w) loopers

-- ---- changes

-- a looper that wasn't free, or doesn't become free
pub calm_looper : (loopers : List Looper) (buffers : List Buffer) (w : ℕ) (f : Looper → Looper) → ((l : Looper) → slice_get loopers w ≡ Some l → is_free_looper (f l) ≡ true → is_free_looper l ≡ true) → AreCalm loopers buffers → AreCalm (at loopers w f) buffers
calm_looper loopers buffers w f keep h =
    each_kept (λ u l. AtPlace (IsCalm l) buffers u) loopers w f (λ l read calm b there.
    let old : IsCalm l b = calm b there in
    record { within = old.within; idle = λ e. old.idle (keep l read e) }) h

-- a looper whose buffer is empty becomes free
pub calm_freed : (loopers : List Looper) (buffers : List Buffer) (w : ℕ) (f : Looper → Looper) → ((b : Buffer) → slice_get buffers w ≡ Some b → length b.commands ≡ 0) → AreCalm loopers buffers → AreCalm (at loopers w f) buffers
calm_freed loopers buffers w f empty h =
    each_kept (λ u l. AtPlace (IsCalm l) buffers u) loopers w f (λ l read calm b there.
    let old : IsCalm l b = calm b there in
    record { within = old.within; idle = λ e. empty b there }) h

calm_buffer : (loopers : List Looper) (buffers : List Buffer) (w : ℕ) (f : Buffer → Buffer) → ((l : Looper) (b : Buffer) → slice_get loopers w ≡ Some l → slice_get buffers w ≡ Some b → IsCalm l b → IsCalm l (f b)) → AreCalm loopers buffers → AreCalm loopers (at buffers w f)
calm_buffer loopers buffers w f change h =
    let turned : Each (λ v b. (x : Looper) → slice_get loopers v ≡ Some x → IsCalm x b) (at buffers w f) =
    each_kept (λ v b. (x : Looper) → slice_get loopers v ≡ Some x → IsCalm x b) buffers w f (λ b there calm x here. change x b here there (calm x here)) (λ v b there x here. h v x here b there) in
    λ u l read b there. turned u b there l read

-- the buffer is emptied
pub calm_flushed : (s : State) (w : ℕ) → AreCalm s.loopers s.buffers → AreCalm (flushed s w).loopers (flushed s w).buffers
calm_flushed s w h = by_option (λ t. AreCalm t.loopers t.buffers) (flushed_into s w) s (slice_get s.buffers w) h (λ b. calm_buffer s.loopers s.buffers w emptied (λ l b here there calm. record { within = omega arith; idle = λ e. refl }) h)

-- ---- a command more

room_by : (w : ℕ) (b : Buffer) (full : Bool) (a : Act) → (if full then None else Some (act.Draw w (b.made + 1))) ≡ Some a → full ≡ false
room_by w b true a e = cc
room_by w b false a e = refl

below_32 : (n : ℕ) → nat_le 32 n ≡ false → n < 32
below_32 n e = grind (arith, nat_tests)

-- only where there is room
has_room : (s : State) (w : ℕ) (a : Act) (b : Buffer) → draw_act s w ≡ Some a → slice_get s.buffers w ≡ Some b → length b.commands < 32
has_room s w a b e read =
    below_32 (length b.commands) (room_by w b (is_full b) a (sym (ap (option_and_then (λ x. if is_full x then None else Some (act.Draw w (x.made + 1)))) read) ∙ e))

with_command_calm : (l : Looper) (b : Buffer) (c : Command) → length b.commands < 32 → is_free_looper l ≡ false → IsCalm l (with_command c b)
with_command_calm l b c room busy =
    let more : length (with_command c b).commands ≡ length b.commands + 1 = length-append b.commands _ in
    record { within = omega (arith, more, room); idle = λ e. let no : true ≡ false = sym e ∙ busy in cc }

pub calm_drawn : (s : State) (w : ℕ) (a : Act) (c : Command) → draw_act s w ≡ Some a → ((l : Looper) → slice_get s.loopers w ≡ Some l → is_free_looper l ≡ false) → AreCalm s.loopers s.buffers → AreCalm (drawn s w c).loopers (drawn s w c).buffers
calm_drawn s w a c e busy h = calm_buffer s.loopers s.buffers w (with_command c) (λ l b here there calm. with_command_calm l b c (has_room s w a b e there) (busy l here)) h
