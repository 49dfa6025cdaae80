-- Ports before and after the letters of an event.
use Rattle.std.proofs.Common.{◌≡◌, ℕ, ◌+◌, ◌≤◌, ◌<◌, Bool, true, false, List, [], ◌∷◌, ◌++◌, length, Option, Some, None, ◌⊎◌, inl, inr, refl, sym, ap, ◌∙◌, subst, arith}
use Rattle.std.specs.Prelude.{◌==◌, if◌then◌else◌, option_map, slice_get}
use Rattle.std.proofs.lemmas.Option.{same_Some}
use mathlib.Core.Logic.{dite}
use native.Mathlib.Decide.{ℕ_discrete}
use Rattle.be_facts.proofs.Numbers.{eq_false_tells, eq_tells}
use Rattle.be_changes.proofs.MadeLists.{made_join, names_join, names_of}
use Rattle.be_changes.specs.Events.{IsAddressed}
use Rattle.be_changes.specs.Left.{AreLeft, HasLeft}
use Rattle.be_changes.specs.Posts.{HasPostedTo, IsOpenTo, MayPost}
use Rattle.be_changes.specs.declared.events.Addressed.{Addressed}
use Rattle.be_asking.specs.declared.activity.Activity.{Activity}
use Rattle.be_flat.specs.Grammar.{Spells}
use Rattle.be_hall.proofs.Holding.{with_here, with_other}
use Rattle.be_hall.specs.Hands.{Hand, part_at, with_part}
use Rattle.be_input.specs.Deliveries.{Post}
use Rattle.be_machine.proofs.Lists.{at_elsewhere}
use Rattle.be_machine.specs.Input.{input_letter, ports_with}
use Rattle.be_machine.specs.Lists.{at}
use Rattle.be_machine.specs.Touched as part
use Rattle.be_message.specs.Messages.{Message}
use Rattle.be_parts.specs.Parts.{meaning_of}
use Rattle.be_parts.specs.declared.part.Part.{Part}
use Rattle.be_parts.specs.declared.part.Part.TheVariants as kinds
use Rattle.be_port.specs.Ports.{Letter, Port, posted}
use Rattle.be_port.specs.StandsFor.{Carries}
use Rattle.be_port.specs.declared.letter.Letter as held
use Rattle.be_rules.specs.Places.{IsPart, place_of}
use Rattle.be_rules.specs.Slices.{Slice, desk, input, cell, looper, port, link, pane, port_in}
use Rattle.be_rules.specs.Sure.{post_parts}
use Rattle.be_script.specs.Script.{Declared}
use Rattle.be_machine.proofs.NumbersSteps.{posted_more}
use Rattle.be_steps.proofs.Moved.{at_map}
use Rattle.be_steps.specs.Made.{AreMade, IsMade}
use Rattle.be_steps.specs.Steps.{LeavesAt}

-- ---- letters

-- a spelling is of one message
abbrev pub OneMessage : Type 0
OneMessage = (a b x y : List ℕ) (m n : Message) → Spells a m → Spells b n → a ++ x ≡ b ++ y → (a ≡ b) × (m ≡ n)

-- ordinary letters that the same one carries
same_letter : OneMessage → (l : held.Letter) (m n : Letter Message) → Carries l m → Carries l n → m.notice ≡ false → n.notice ≡ false → m ≡ n
same_letter law l m n a b plain plainly i = record {
  sender = (sym a.sender ∙ b.sender) i;
  target = (sym a.target ∙ b.target) i;
  hop = (sym a.hop ∙ b.hop) i;
  duty = (sym a.duty ∙ b.duty) i;
  notice = (plain ∙ sym plainly) i;
  body = (law l.bytes l.bytes [] [] m.body n.body a.body b.body refl).1 i;
}

-- ---- ports

-- window w's port after a message
abbrev pub after_post : Option Post → ℕ → Port Message → Port Message
after_post (Some post) w p = if post.window == w then posted (input_letter post) p else p
after_post None w p = p

map_same : (o : Option (Port Message)) → option_map (λ p. p) o ≡ o
map_same (Some p) = refl
map_same None = refl

pub ports_after_post : (ports : List (Port Message)) (o : Option Post) (w : ℕ) → slice_get (ports_with ports o) w ≡ option_map (after_post o w) (slice_get ports w)
ports_after_post ports None w = sym (map_same (slice_get ports w))
ports_after_post ports (Some post) w = by (post.window == w) refl
  where
    by : (b : Bool) → (post.window == w) ≡ b → slice_get (at ports post.window (posted (input_letter post))) w ≡ option_map (λ p. if b then posted (input_letter post) p else p) (slice_get ports w)
    by true e = ap (λ n. slice_get (at ports n (posted (input_letter post))) w) (eq_tells post.window w e) ∙ at_map ports w (posted (input_letter post))
    by false e = at_elsewhere ports post.window w (posted (input_letter post)) (eq_false_tells post.window w e) ∙ sym (map_same (slice_get ports w))

pub few_after : (o : Option Post) (w : ℕ) (p : Port Message) → length (after_post o w p).arrived ≤ length p.arrived + 1
few_after None w p = omega arith
few_after (Some post) w p = by (post.window == w)
  where
    by : (b : Bool) → length (if b then posted (input_letter post) p else p).arrived ≤ length p.arrived + 1
    by true = posted_more (input_letter post) p
    by false = omega arith

-- ---- parts

abbrev number_of : Slice → ℕ
number_of (port w p) = w
number_of (desk x) = 0
number_of (input k b) = 0
number_of (cell m a) = 0
number_of (looper w l b) = 0
number_of (link w l) = 0
number_of (pane w x) = 0

module _ (d : Declared) where
  -- window w's port is in hand, and means this one
  pub record IsPort (parts : List (ℕ × Part)) (w : ℕ) (p : Port Message) : Type 0 where
    pub kept : Part
    pub there : part_at parts (place_of d (part.port w)) ≡ Some kept
    pub means : meaning_of kept ≡ port w (Some p)

  port_apart : (u v : ℕ) → place_of d (part.port u) ≡ place_of d (part.port v) → u ≡ v
  port_apart u v same = omega arith

  -- a letter can be posted to it
  pub may_post : (parts : List (ℕ × Part)) (o : Option Post) (a : Option Addressed) → IsAddressed o a → ((post : Post) → o ≡ Some post → (p : Port Message) × IsPort parts post.window p × (length p.arrived + 1 < 18446744073709551616)) → MayPost d parts 1 a
  may_post parts (Some post) (Some made) addressed has =
      let p = has post refl in (
        subst (λ n. IsOpenTo d parts n 1) (sym addressed.0) (record { kept = p.1.kept; there = p.1.there; of = p.0; means = p.1.means; few = p.2 }),
        (input_letter post, addressed.1, refl),
      )
  may_post parts (Some post) None addressed has = absurd addressed
  may_post parts None (Some made) addressed has = absurd addressed
  may_post parts None None addressed has = tt

  -- and is in it then
  pub post_moves : OneMessage → (o : Option Post) (a : Option Addressed) (old new : Hand Part) → IsAddressed o a → HasPostedTo d a old new → (w : ℕ) (p : Port Message) → IsPort old.parts w p → IsPort new.parts w (after_post o w p)
  post_moves law None None old new addressed moved w p is = subst (λ (h : Hand Part). IsPort h.parts w p) (sym moved) is
  post_moves law None (Some made) old new addressed moved w p is = absurd addressed
  post_moves law (Some post) None old new addressed moved w p is = absurd addressed
  post_moves law (Some post) (Some made) old new addressed (was, now, there, new_is, has) w p is = subst (λ (h : Hand Part). IsPort h.parts w (after_post (Some post) w p)) (sym new_is) (by (post.window == w) refl)
    where
      later : List (ℕ × Part)
      later = with_part old.parts (place_of d (part.port made.window)) (kinds.Port now)

      by : (b : Bool) → (post.window == w) ≡ b → IsPort later w (if b then posted (input_letter post) p else p)
      by true e =
          let same : made.window ≡ w = addressed.0 ∙ eq_tells post.window w e in
          let was_is : was ≡ port w (Some p) = ap meaning_of (same_Some (kinds.Port was) is.kept (sym there ∙ ap (λ n. part_at old.parts (place_of d (part.port n))) same ∙ is.there)) ∙ is.means in
          let both : port has.window (Some has.of) ≡ port w (Some p) = sym has.before ∙ was_is in
          let of_is : has.of ≡ p = same_Some has.of p (ap port_in both) in
          let letter_is : has.means ≡ input_letter post = same_letter law made.letter has.means (input_letter post) has.carries addressed.1 has.ordinary refl in
          record {
            kept = kinds.Port now;
            there = ap (λ n. part_at later (place_of d (part.port n))) (sym same) ∙ with_here old.parts (place_of d (part.port made.window)) (kinds.Port was) (kinds.Port now) there;
            means = has.after_is ∙ (λ i. port (ap number_of both i) (Some (posted (letter_is i) (of_is i))));
          }
      by false e = record {
        kept = is.kept;
        there = with_other old.parts (place_of d (part.port made.window)) (place_of d (part.port w)) (kinds.Port now) (λ same. eq_false_tells post.window w e (sym addressed.0 ∙ sym (port_apart w made.window same))) ∙ is.there;
        means = is.means;
      }

  -- ---- what was made

  abbrev changes_of : (a : Option Addressed) (old new : Hand Part) → HasPostedTo d a old new → List (part.Part × Part)
  changes_of (Some made) old new moved = (part.port made.window, kinds.Port moved.1) ∷ []
  changes_of None old new moved = []

  made_of : (a : Option Addressed) (old new : Hand Part) (moved : HasPostedTo d a old new) → AreMade d (changes_of a old new moved) old.parts new.parts
  made_of (Some made) old new (was, now, there, new_is, has) = (kinds.Port was, there, refl, ap (λ (h : Hand Part). h.parts) new_is)
  made_of None old new moved = ap (λ (h : Hand Part). h.parts) moved

  room_of : (a : Option Addressed) (old new : Hand Part) → HasPostedTo d a old new → new.room ≡ old.room
  room_of (Some made) old new (was, now, there, new_is, has) = ap (λ (h : Hand Part). h.room) new_is
  room_of None old new moved = ap (λ (h : Hand Part). h.room) moved

  named_of : (o : Option Post) (a : Option Addressed) (old new : Hand Part) → IsAddressed o a → (moved : HasPostedTo d a old new) → names_of (changes_of a old new moved) ≡ post_parts o
  named_of (Some post) (Some made) old new addressed moved = ap (λ n. part.port n ∷ []) addressed.0
  named_of (Some post) None old new addressed moved = absurd addressed
  named_of None (Some made) old new addressed moved = absurd addressed
  named_of None None old new addressed moved = refl

  -- a port stays where nothing was posted to it
  made_or_kept : (a : Option Addressed) (old new : Hand Part) (moved : HasPostedTo d a old new) (w : ℕ) → IsMade (part.port w) (changes_of a old new moved) ⊎ (part_at new.parts (place_of d (part.port w)) ≡ part_at old.parts (place_of d (part.port w)))
  made_or_kept (Some made) old new (was, now, there, new_is, has) w =
      dite (ℕ_discrete w made.window) (λ same. inl (inl (ap part.port same)))
      (λ other. inr (ap (λ (h : Hand Part). part_at h.parts (place_of d (part.port w))) new_is ∙ with_other old.parts (place_of d (part.port made.window)) (place_of d (part.port w)) (kinds.Port now) (λ same. other (port_apart w made.window same))))
  made_or_kept None old new moved w = inr (ap (λ (h : Hand Part). part_at h.parts (place_of d (part.port w))) moved)

  -- what is made and not made again is what is in hand at last
  left_of : (parts : List (ℕ × Part)) (who : Activity) (a : Option Addressed) (old new last : Hand Part) (moved : HasPostedTo d a old new) (again : List (part.Part × Part))
      → ((made : Addressed) → a ≡ Some made → IsPart d (part.port made.window)
      × (IsMade (part.port made.window) again ⊎ (part_at last.parts (place_of d (part.port made.window)) ≡ part_at new.parts (place_of d (part.port made.window))))
      × ((y : Part) → part_at last.parts (place_of d (part.port made.window)) ≡ Some y → LeavesAt d parts who (place_of d (part.port made.window)) (meaning_of y)))
      → AreLeft d parts who again → AreLeft d parts who (changes_of a old new moved ++ again)
  left_of parts who (Some made) old new last (was, now, there, new_is, has) again right rest =
      let r = right made refl in
      ((r.0, by r), rest)
    where
      here : part_at new.parts (place_of d (part.port made.window)) ≡ Some (kinds.Port now)
      here = ap (λ (h : Hand Part). part_at h.parts (place_of d (part.port made.window))) new_is ∙ with_here old.parts (place_of d (part.port made.window)) (kinds.Port was) (kinds.Port now) there

      by : (IsPart d (part.port made.window)
          × (IsMade (part.port made.window) again ⊎ (part_at last.parts (place_of d (part.port made.window)) ≡ part_at new.parts (place_of d (part.port made.window))))
          × ((y : Part) → part_at last.parts (place_of d (part.port made.window)) ≡ Some y → LeavesAt d parts who (place_of d (part.port made.window)) (meaning_of y)))
          → IsMade (part.port made.window) again ⊎ LeavesAt d parts who (place_of d (part.port made.window)) (meaning_of (kinds.Port now))
      by (there, inl made_again, leaves) = inl made_again
      by (there, inr same, leaves) = inr (leaves (kinds.Port now) (same ∙ here))
  left_of parts who None old new last moved again right rest = rest

  -- both letters were posted
  pub posts_left : (parts : List (ℕ × Part)) (who : Activity) (o1 o2 : Option Post) (a1 a2 : Option Addressed) (h1 h2 h3 : Hand Part) → IsAddressed o1 a1 → IsAddressed o2 a2 → HasPostedTo d a1 h1 h2 → HasPostedTo d a2 h2 h3
      → ((made : Addressed) → (a1 ≡ Some made) ⊎ (a2 ≡ Some made) → IsPart d (part.port made.window) × ((y : Part) → part_at h3.parts (place_of d (part.port made.window)) ≡ Some y → LeavesAt d parts who (place_of d (part.port made.window)) (meaning_of y)))
      → HasLeft d parts who (post_parts o1 ++ post_parts o2) h1 h3
  posts_left parts who o1 o2 a1 a2 h1 h2 h3 first second moved1 moved2 right = record {
    changes = changes_of a1 h1 h2 moved1 ++ changes_of a2 h2 h3 moved2;
    names =
        names_join (changes_of a1 h1 h2 moved1) (changes_of a2 h2 h3 moved2)
        ∙ (λ i. named_of o1 a1 h1 h2 first moved1 i ++ named_of o2 a2 h2 h3 second moved2 i);
    made = made_join d (changes_of a1 h1 h2 moved1) (changes_of a2 h2 h3 moved2) h1.parts h2.parts h3.parts (made_of a1 h1 h2 moved1) (made_of a2 h2 h3 moved2);
    left =
        left_of parts who a1 h1 h2 h3 moved1 (changes_of a2 h2 h3 moved2)
        (λ made is. let r = right made (inl is) in (r.0, made_or_kept a2 h2 h3 moved2 made.window, r.1))
        (subst (AreLeft d parts who) (append_nil (changes_of a2 h2 h3 moved2))
        (left_of parts who a2 h2 h3 h3 moved2 [] (λ made is. let r = right made (inr is) in (r.0, inr refl, r.1)) tt));
    room = room_of a2 h2 h3 moved2 ∙ room_of a1 h1 h2 moved1;
  }
    where
      append_nil : (xs : List (part.Part × Part)) → xs ++ [] ≡ xs
      append_nil [] = refl
      append_nil (x ∷ xs) = ap (λ l. x ∷ l) (append_nil xs)
