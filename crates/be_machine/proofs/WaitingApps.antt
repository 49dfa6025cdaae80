-- What an application is granted keeps who waits for whom.
use Rattle.std.proofs.Common.{◌≡◌, ℕ, ◌+◌, Bool, true, false, List, Option, Some, None, refl, sym, ap, ◌∙◌}
use Rattle.std.specs.Prelude.{slice_get, ◌==◌, not, option_and_then, if◌then◌else◌}
use Rattle.std.specs.Option.{option_map_or}
use Rattle.std.proofs.lemmas.Option.{same_Some}
use Rattle.be_actor.specs.declared.Instruction.{Instruction}
use Rattle.be_actor.specs.declared.Instruction.TheVariants.{Note, Post, Send, Reply, Forward, Lock, Unlock, Flush, Sync, Draw}
use Rattle.be_actor.specs.declared.Place.{Place}
use Rattle.be_actor.specs.declared.Wish.{Wish}
use Rattle.be_actor.specs.declared.Wish.TheVariants as wish
use Rattle.be_actor.specs.Wishes.{wish_at, place_after, place_after_flush, next_place}
use Rattle.be_script.specs.Script.{Declared}
use Rattle.be_machine.specs.Activities.{app}
use Rattle.be_machine.specs.Commands.{flushed, flushed_into}
use Rattle.be_machine.specs.declared.Act.{Act}
use Rattle.be_machine.specs.Looper.{lock_act, locked_for, with_looper}
use Rattle.be_machine.specs.Program.{app_program, buffered, gone_on, app_gone_on, moved_on}
use Rattle.be_machine.specs.State.{State, Looper, free, locked, handling}
use Rattle.be_machine.proofs.ProgressCases.{by_option}
use Rattle.be_machine.proofs.ProgressStands.{AppStands}
use Rattle.be_machine.proofs.Waiting.{owed_by_looper, claims, claims_at, IsBusyByPlace, IsWaiting}
use Rattle.be_machine.proofs.WaitingMoves.{loopers_kept, apps_kept}

-- ---- where an application is after what it was granted

-- all wishes but those of a Send
abbrev pub is_quiet : Wish → Bool
is_quiet (wish.Send w target message) = false
is_quiet wish.Claim = false
is_quiet (wish.Note word) = true
is_quiet (wish.Post w target message) = true
is_quiet (wish.Forward w target) = true
is_quiet (wish.Reply message) = true
is_quiet (wish.Lock w) = true
is_quiet wish.Unlock = true
is_quiet wish.Flush = true
is_quiet wish.SyncDone = true
is_quiet (wish.Draw command) = true

abbrev pub is_claim : Wish → Bool
is_claim wish.Claim = true
is_claim (wish.Send w target message) = false
is_claim (wish.Note word) = false
is_claim (wish.Post w target message) = false
is_claim (wish.Forward w target) = false
is_claim (wish.Reply message) = false
is_claim (wish.Lock w) = false
is_claim wish.Unlock = false
is_claim wish.Flush = false
is_claim wish.SyncDone = false
is_claim (wish.Draw command) = false

quiet_claims : (x : Wish) → is_quiet x ≡ true → is_claim x ≡ false
quiet_claims (wish.Send w target message) h = cc
quiet_claims wish.Claim h = cc
quiet_claims (wish.Note word) h = refl
quiet_claims (wish.Post w target message) h = refl
quiet_claims (wish.Forward w target) h = refl
quiet_claims (wish.Reply message) h = refl
quiet_claims (wish.Lock w) h = refl
quiet_claims wish.Unlock h = refl
quiet_claims wish.Flush h = refl
quiet_claims wish.SyncDone h = refl
quiet_claims (wish.Draw command) h = refl

pub claims_first : (o : Option Instruction) → claims o 0 ≡ false
claims_first (Some (Send w target draft)) = refl
claims_first (Some (Note word)) = refl
claims_first (Some (Post w target draft)) = refl
claims_first (Some (Reply draft)) = refl
claims_first (Some (Forward w target)) = refl
claims_first (Some (Lock w)) = refl
claims_first (Some Unlock) = refl
claims_first (Some Flush) = refl
claims_first (Some Sync) = refl
claims_first (Some (Draw c)) = refl
claims_first None = refl

-- the next instruction is at its first part
pub next_claims : (program : List Instruction) (place : Place) → claims_at program (next_place place) ≡ false
next_claims program place = claims_first (slice_get program (place.step + 1))

send_part : (b : Bool) (x y : Wish) → (if b then x else wish.Claim) ≡ y → is_claim y ≡ false → not b ≡ false
send_part true x y e other = refl
send_part false x y e other = let claim : is_claim y ≡ true = ap is_claim (sym e) in cc

-- who asks for anything else isn't at the part that claims
unclaimed : (part buffered : ℕ) (i : Instruction) (x : Wish) → wish_at part None buffered i ≡ x → is_claim x ≡ false → claims (Some i) part ≡ false
unclaimed part buffered (Send w target draft) x e other = send_part (part == 0) _ x e other
unclaimed part buffered (Note word) x e other = refl
unclaimed part buffered (Post w target draft) x e other = refl
unclaimed part buffered (Reply draft) x e other = refl
unclaimed part buffered (Forward w target) x e other = refl
unclaimed part buffered (Lock w) x e other = refl
unclaimed part buffered Unlock x e other = refl
unclaimed part buffered Flush x e other = refl
unclaimed part buffered Sync x e other = refl
unclaimed part buffered (Draw c) x e other = refl

pub before_claims : (program : List Instruction) (place : Place) (buffered : ℕ) (i : Instruction) (x : Wish) → slice_get program place.step ≡ Some i → wish_at place.part None buffered i ≡ x → is_claim x ≡ false → claims_at program place ≡ false
before_claims program place buffered i x next e other = ap (λ o. claims o place.part) next ∙ unclaimed place.part buffered i x e other

after_flush : (program : List Instruction) (place : Place) (i : Instruction) → slice_get program place.step ≡ Some i → claims_at program place ≡ false → claims_at program (place_after_flush place i) ≡ false
after_flush program place Flush next before = next_claims program place
after_flush program place Sync next before = ap (λ o. claims o 1) next
after_flush program place Unlock next before = before
after_flush program place (Draw c) next before = before
after_flush program place (Note word) next before = before
after_flush program place (Post w target draft) next before = before
after_flush program place (Send w target draft) next before = before
after_flush program place (Reply draft) next before = before
after_flush program place (Forward w target) next before = before
after_flush program place (Lock w) next before = before

after_quiet : (program : List Instruction) (place : Place) (i : Instruction) (accepted : Bool) (x : Wish) → slice_get program place.step ≡ Some i → is_quiet x ≡ true → claims_at program place ≡ false → claims_at program (place_after i place accepted x) ≡ false
unfolding place_after
after_quiet program place i accepted (wish.Send w target message) next quiet before = cc
after_quiet program place i accepted wish.Claim next quiet before = cc
after_quiet program place i accepted (wish.Note word) next quiet before = next_claims program place
after_quiet program place i accepted (wish.Post w target message) next quiet before = next_claims program place
after_quiet program place i accepted (wish.Forward w target) next quiet before = next_claims program place
after_quiet program place i accepted (wish.Reply message) next quiet before = next_claims program place
after_quiet program place i accepted (wish.Lock w) next quiet before = next_claims program place
after_quiet program place i accepted wish.Unlock next quiet before = next_claims program place
after_quiet program place i accepted wish.Flush next quiet before = after_flush program place i next before
after_quiet program place i accepted wish.SyncDone next quiet before = next_claims program place
after_quiet program place i accepted (wish.Draw command) next quiet before = next_claims program place

-- the place after a wish, at the instruction that is there
pub gone_to : (program : List Instruction) (place : Place) (i : Instruction) (accepted : Bool) (x : Wish) → slice_get program place.step ≡ Some i → gone_on program accepted x place ≡ place_after i place accepted x
gone_to program place i accepted x next = ap (λ o. option_map_or (λ instruction. place_after instruction place accepted x) o place) next

busy_quiet : (d : Declared) (s : State) (m : ℕ) (accepted : Bool) (x : Wish) (is : AppStands d s m x) → is_quiet x ≡ true → IsBusyByPlace d m is.it → IsBusyByPlace d m (app_gone_on d m accepted x is.it)
busy_quiet d s m accepted x is quiet h =
    let program = app_program d m in
    let before : claims_at program is.it.place ≡ false = before_claims program is.it.place (buffered s (app m)) is.step x is.next is.asked (quiet_claims x quiet) in
    let after : claims_at program (place_after is.step is.it.place accepted x) ≡ false = after_quiet program is.it.place is.step accepted x is.next quiet before in
    h ∙ before ∙ sym (ap (claims_at program) (gone_to program is.it.place is.step accepted x is.next) ∙ after)

-- the application goes on, beside what else was granted
pub quiet_kept : (d : Declared) (s t : State) (m : ℕ) (accepted : Bool) (x : Wish) (is : AppStands d s m x) → is_quiet x ≡ true → t.apps ≡ s.apps → IsWaiting d t → IsWaiting d (moved_on d (app m) accepted x t)
unfolding moved_on
quiet_kept d s t m accepted x is quiet same h =
    apps_kept d t.ports t.loopers t.apps m (app_gone_on d m accepted x) is.it (ap (λ xs. slice_get xs m) same ∙ is.read) (busy_quiet d s m accepted x is quiet) refl h

-- ---- what is granted

-- only a free looper is locked
pub lock_tells : (loopers : List Looper) (v : ℕ) (act : Act) (o : Option Looper) → slice_get loopers v ≡ o → option_and_then (lock_act v) o ≡ Some act → slice_get loopers v ≡ Some free
lock_tells loopers v act (Some free) read e = read
lock_tells loopers v act (Some (locked m)) read e = cc
lock_tells loopers v act (Some (handling hand stage)) read e = cc
lock_tells loopers v act None read e = cc

pub lock_kept : (d : Declared) (s : State) (m v : ℕ) → slice_get s.loopers v ≡ Some free → IsWaiting d s → IsWaiting d (with_looper s v (locked_for (app m)))
lock_kept d s m v read h = loopers_kept d s.ports s.loopers s.apps v (locked_for (app m)) (λ k l there. ap (owed_by_looper k) (same_Some free l (sym read ∙ there))) h

pub flushed_kept : (d : Declared) (s : State) (w : ℕ) → IsWaiting d s → IsWaiting d (flushed s w)
flushed_kept d s w h = by_option (IsWaiting d) (flushed_into s w) s (slice_get s.buffers w) h (λ b. h)
