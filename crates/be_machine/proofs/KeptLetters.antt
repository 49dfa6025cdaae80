-- Every letter that arrived lies at most one deeper than its hop, and its hop is at most 7.
use Rattle.std.proofs.Common.{◌≡◌, ℕ, zero, suc, ◌+◌, ◌≤◌, Bool, true, false, List, [], ◌∷◌, ◌++◌, Option, Some, None, refl, subst, arith}
use Rattle.std.specs.Prelude.{◌==◌, nat_le, slice_get, if◌then◌else◌}
use Rattle.std.proofs.lemmas.Bool.Decides.{nat_tests}
use Rattle.std.proofs.lemmas.Option.{same_Some}
use Rattle.be_facts.proofs.Truths.{and_second}
use Rattle.be_actor.specs.declared.Instruction.{Instruction}
use Rattle.be_actor.specs.declared.Instruction.TheVariants.{Note, Post, Send, Reply, Forward, Lock, Unlock, Flush, Sync, Draw}
use Rattle.be_actor.specs.declared.Wish.{Wish}
use Rattle.be_actor.specs.declared.Wish.TheVariants as wish
use Rattle.be_actor.specs.Drafts.{DraftWords, filled}
use Rattle.be_actor.specs.Limits.{is_draft}
use Rattle.be_actor.specs.Wishes.{wish_at, has_no_room}
use Rattle.be_message.specs.Depths.{depth_of}
use Rattle.be_message.specs.Messages.{Message}
use Rattle.be_port.specs.declared.Duty.{Duty}
use Rattle.be_port.specs.declared.Posted.TheVariants.{Accepted, WouldBlock, BadPort, TooDeep}
use Rattle.be_port.specs.Ports.{Letter, Port, counted, is_accepted, judged, posted, with_letter}
use Rattle.be_script.specs.Programs.{is_address, is_body_step, is_app_step}
use Rattle.be_script.specs.Script.{Declared}
use Rattle.be_machine.specs.Lists.{at}
use Rattle.be_machine.specs.Looper.{with_duty_by}
use Rattle.be_machine.specs.Program.{looper_gone_on}
use Rattle.be_machine.specs.State.{Looper, free, locked, handling, Stage}
use Rattle.be_machine.specs.Update.{at_stage}
use Rattle.be_machine.proofs.KeptDepths.{IsWithin, filled_depth}
use Rattle.be_machine.proofs.ProgressPlaces.{Each, each_kept}

-- a letter that a port takes
abbrev pub IsShallow : Letter Message → Type 0
IsShallow letter = (depth_of letter.body ≤ letter.hop + 1) × (letter.hop ≤ 7)

abbrev pub AreShallow : Port Message → Type 0
AreShallow p = (i : ℕ) (letter : Letter Message) → slice_get p.arrived i ≡ Some letter → IsShallow letter

abbrev pub IsShallowHand : Looper → Type 0
IsShallowHand (handling hand stage) = IsShallow hand.letter
IsShallowHand (locked m) = Unit {0}
IsShallowHand free = Unit {0}

-- ---- posts

accepted_hop : (a c : Bool) (hop n m : ℕ) (b : Bool) → nat_le 8 hop ≡ b → is_accepted (if a then BadPort else if b then TooDeep else if c then WouldBlock n else Accepted m) ≡ true → hop ≤ 7
accepted_hop true c hop n m b test e = cc
accepted_hop false c hop n m true test e = cc
accepted_hop false true hop n m false test e = cc
accepted_hop false false hop n m false test e = grind (arith, nat_tests)

judged_hop : (p : Port Message) (hop : ℕ) → is_accepted (judged p hop) ≡ true → hop ≤ 7
unfolding judged
judged_hop p hop e = accepted_hop p.closed (nat_le p.capacity (counted p)) hop _ _ (nat_le 8 hop) refl e

pub one_arrives : (xs : List (Letter Message)) (letter : Letter Message) → ((i : ℕ) (x : Letter Message) → slice_get xs i ≡ Some x → IsShallow x) → IsShallow letter → (i : ℕ) (x : Letter Message) → slice_get (xs ++ letter ∷ []) i ≡ Some x → IsShallow x
one_arrives [] letter h k zero x e = subst IsShallow (same_Some letter x e) k
one_arrives [] letter h k (suc i) x e = absurd (cc)
one_arrives (y ∷ ys) letter h k zero x e = h zero x e
one_arrives (y ∷ ys) letter h k (suc i) x e = one_arrives ys letter (λ j z read. h (suc j) z read) k i x e

posted_by : (b : Bool) (letter : Letter Message) (p : Port Message) → (b ≡ true → letter.hop ≤ 7) → depth_of letter.body ≤ letter.hop + 1 → AreShallow p → AreShallow (if b then with_letter letter p else p)
posted_by true letter p hop deep h = one_arrives p.arrived letter h (deep, hop refl)
posted_by false letter p hop deep h = h

pub post_shallow : (letter : Letter Message) (p : Port Message) → depth_of letter.body ≤ letter.hop + 1 → AreShallow p → AreShallow (posted letter p)
unfolding posted
post_shallow letter p deep h = posted_by (is_accepted (judged p letter.hop)) letter p (judged_hop p letter.hop) deep h

pub ports_shallow : (ports : List (Port Message)) (v : ℕ) (letter : Letter Message) → depth_of letter.body ≤ letter.hop + 1 → Each (λ w p. AreShallow p) ports → Each (λ w p. AreShallow p) (at ports v (posted letter))
ports_shallow ports v letter deep h = each_kept (λ w p. AreShallow p) ports v (posted letter) (λ p read old. post_shallow letter p deep old) h

-- ---- what is posted

-- a post is of a draft
pub record IsDrafted (has : Bool) (now : Option Message) (m : Message) : Type 0 where
  pub draft : DraftWords
  pub fits : is_draft has draft ≡ true
  pub is : filled draft now ≡ m

pub drafted_depth : (n : ℕ) (has : Bool) (now : Option Message) (m : Message) → IsWithin n now → IsDrafted has now m → depth_of m ≤ n + 1
drafted_depth n has now m deep is = subst (λ x. depth_of x ≤ n + 1) is.is (filled_depth n has now is.draft is.fits deep)

abbrev pub IsMade : Bool → Option Message → Wish → Type 0
IsMade has now (wish.Post w target m) = IsDrafted has now m
IsMade has now (wish.Send w target m) = IsDrafted has now m
IsMade has now (wish.Note word) = Unit {0}
IsMade has now wish.Claim = Unit {0}
IsMade has now (wish.Forward w target) = Unit {0}
IsMade has now (wish.Reply m) = Unit {0}
IsMade has now (wish.Lock w) = Unit {0}
IsMade has now wish.Unlock = Unit {0}
IsMade has now wish.Flush = Unit {0}
IsMade has now wish.SyncDone = Unit {0}
IsMade has now (wish.Draw c) = Unit {0}

made_if : (has : Bool) (now : Option Message) (b : Bool) (x y : Wish) → IsMade has now x → IsMade has now y → IsMade has now (if b then x else y)
made_if has now true x y h k = h
made_if has now false x y h k = k

pub body_made : (d : Declared) (w : ℕ) (i : Instruction) (part n : ℕ) (now : Option Message) → is_body_step d w i ≡ true → IsMade true now (wish_at part now n i)
body_made d w (Post v target draft) part n now e = record { draft = draft; fits = and_second (is_address d v target) (is_draft true draft) e; is = refl }
body_made d w (Send v target draft) part n now e = cc
body_made d w (Note word) part n now e = tt
body_made d w (Reply draft) part n now e = tt
body_made d w (Forward v target) part n now e = tt
body_made d w (Lock v) part n now e = tt
body_made d w Unlock part n now e = made_if true now (n == 0) wish.Unlock wish.Flush tt tt
body_made d w Flush part n now e = tt
body_made d w Sync part n now e = made_if true now (part == 0) wish.Flush wish.SyncDone tt tt
body_made d w (Draw c) part n now e = made_if true now (has_no_room n) wish.Flush (wish.Draw c) tt tt

pub app_made : (d : Declared) (lock : Option ℕ) (i : Instruction) (part n : ℕ) → is_app_step d lock i ≡ true → IsMade false None (wish_at part None n i)
app_made d None (Post v target draft) part n e = record { draft = draft; fits = and_second (is_address d v target) (is_draft false draft) e; is = refl }
app_made d (Some w) (Post v target draft) part n e = record { draft = draft; fits = and_second (is_address d v target) (is_draft false draft) e; is = refl }
app_made d None (Send v target draft) part n e = made_if false None (part == 0) (wish.Send v target (filled draft None)) wish.Claim (record { draft = draft; fits = and_second (is_address d v target) (is_draft false draft) e; is = refl }) tt
app_made d (Some w) (Send v target draft) part n e = cc
app_made d lock (Note word) part n e = tt
app_made d lock (Reply draft) part n e = tt
app_made d lock (Forward v target) part n e = tt
app_made d lock (Lock v) part n e = tt
app_made d lock Unlock part n e = made_if false None (n == 0) wish.Unlock wish.Flush tt tt
app_made d lock Flush part n e = tt
app_made d lock Sync part n e = made_if false None (part == 0) wish.Flush wish.SyncDone tt tt
app_made d lock (Draw c) part n e = made_if false None (has_no_room n) wish.Flush (wish.Draw c) tt tt

-- ---- loopers

pub gone_hand : (d : Declared) (w : ℕ) (accepted : Bool) (x : Wish) (l : Looper) → IsShallowHand l → IsShallowHand (looper_gone_on d w accepted x l)
gone_hand d w accepted x (handling hand stage) h = h
gone_hand d w accepted x (locked m) h = h
gone_hand d w accepted x free h = h

pub duty_hand : (f : Duty → Duty) (l : Looper) → IsShallowHand l → IsShallowHand (with_duty_by f l)
duty_hand f (handling hand stage) h = h
duty_hand f (locked m) h = h
duty_hand f free h = h

pub stage_hand : (stage : Stage) (l : Looper) → IsShallowHand l → IsShallowHand (at_stage stage l)
stage_hand stage (handling hand old) h = h
stage_hand stage (locked m) h = h
stage_hand stage free h = h
