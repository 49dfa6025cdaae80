-- Commands that go over from a buffer to a link, one after the other.
use Rattle.std.proofs.Common.{◌≡◌, ◌≢◌, ℕ, zero, suc, ◌+◌, ◌<◌, ◌≤◌, List, [], ◌∷◌, ◌++◌, drop, length, take, append_assoc, Option, Some, None, refl, sym, ap, ◌∙◌, subst, arith}
use Rattle.std.specs.Prelude.{slice_get, unwrap_or}
use Rattle.std.proofs.lemmas.Option.{same_Some}
use Rattle.be_facts.proofs.Lists.{append_none}
use Rattle.be_hall.proofs.Holding.{with_here, with_other}
use Rattle.be_hall.specs.Hands.{Hand, part_at, with_part}
use Rattle.be_link.specs.Queues.{Buffer, Numbered, empty_buffer, emptied, lengthened, without_oldest}
use Rattle.be_parts.specs.Effects.{buffer_with, link_with}
use Rattle.be_parts.specs.Kept.{Kept}
use Rattle.be_parts.specs.Links.{commands_of}
use Rattle.be_parts.specs.Loopers.{buffer_of, oldest_of}
use Rattle.be_parts.specs.Parts.{hand_with}
use Rattle.be_parts.specs.declared.part.Part.{Part}
use Rattle.be_parts.specs.declared.part.Part.TheVariants as kinds
use Rattle.be_rules.specs.Slices.{Slice, desk, input, cell, looper, port, link, pane, buffer_in}
use Rattle.be_steps.proofs.PartsKept.{kept, swap, twice}
use Rattle.be_steps.specs.Commands.{HasMoved, HasMovedFirst, HasRoom, with_first, without_first}

-- ---- lists

module _ {X : Type 0} where
  drop_one_more : (n : ℕ) (xs : List X) → drop 1 (drop n xs) ≡ drop (suc n) xs
  drop_one_more zero [] = refl
  drop_one_more zero (x ∷ xs) = refl
  drop_one_more (suc n) [] = refl
  drop_one_more (suc n) (x ∷ xs) = drop_one_more n xs

  take_one_more : (n : ℕ) (xs : List X) → take n xs ++ take 1 (drop n xs) ≡ take (suc n) xs
  take_one_more zero [] = refl
  take_one_more zero (x ∷ xs) = refl
  take_one_more (suc n) [] = refl
  take_one_more (suc n) (x ∷ xs) = ap (λ l. x ∷ l) (take_one_more n xs)

  drop_all : (xs : List X) → drop (length xs) xs ≡ []
  drop_all [] = refl
  drop_all (x ∷ xs) = drop_all xs

  take_all : (xs : List X) → take (length xs) xs ≡ xs
  take_all [] = refl
  take_all (x ∷ xs) = ap (λ l. x ∷ l) (take_all xs)

  split_length : (n : ℕ) (xs : List X) → length (drop n xs) + length (take n xs) ≡ length xs
  split_length zero xs = omega arith
  split_length (suc n) [] = refl
  split_length (suc n) (x ∷ xs) = let rest : length (drop n xs) + length (take n xs) ≡ length xs = split_length n xs in omega arith

  both_length : (xs ys : List X) → length (xs ++ ys) ≡ length xs + length ys
  both_length [] ys = omega arith
  both_length (x ∷ xs) ys = let rest : length (xs ++ ys) ≡ length xs + length ys = both_length xs ys in omega arith

  -- the first, or none
  take_first : (xs : List X) (x : X) → slice_get xs 0 ≡ Some x → take 1 xs ≡ x ∷ []
  take_first [] x e = absurd (cc)
  take_first (y ∷ ys) x e = ap (λ z. z ∷ []) (same_Some y x e)

  take_nothing : (xs : List X) → slice_get xs 0 ≡ None → take 1 xs ≡ []
  take_nothing [] e = refl
  take_nothing (y ∷ ys) e = absurd (cc)

  some_first : (xs : List X) (x : X) → slice_get xs 0 ≡ Some x → 0 < length xs
  some_first [] x e = absurd (cc)
  some_first (y ∷ ys) x e = omega arith

abbrev nothing : List Numbered
nothing = []

drop_none : (n : ℕ) → drop n nothing ≡ nothing
drop_none zero = refl
drop_none (suc n) = refl

-- ---- slices

buffer_start : (slice : Slice) → slice ≡ buffer_with (without_first 0) slice
buffer_start (looper w l (Some b)) = refl
buffer_start (looper w l None) = refl
buffer_start (desk x) = refl
buffer_start (input k f) = refl
buffer_start (cell m a) = refl
buffer_start (port w p) = refl
buffer_start (link w l) = refl
buffer_start (pane w p) = refl

buffer_more : (n : ℕ) (slice : Slice) → buffer_with (without_first 1) (buffer_with (without_first n) slice) ≡ buffer_with (without_first (suc n)) slice
buffer_more n (looper w l (Some b)) = ap (λ c. looper w l (Some (record b { commands = c }))) (drop_one_more n b.commands)
buffer_more n (looper w l None) = refl
buffer_more n (desk x) = refl
buffer_more n (input k f) = refl
buffer_more n (cell m a) = refl
buffer_more n (port w p) = refl
buffer_more n (link w l) = refl
buffer_more n (pane w p) = refl

buffer_all : (n : ℕ) (slice : Slice) → n ≡ length (buffer_of slice).commands → buffer_with (without_first n) slice ≡ buffer_with emptied slice
buffer_all n (looper w l (Some b)) e = ap (λ c. looper w l (Some (record b { commands = c }))) (ap (λ k. drop k b.commands) e ∙ drop_all b.commands)
buffer_all n (looper w l None) e = refl
buffer_all n (desk x) e = refl
buffer_all n (input k f) e = refl
buffer_all n (cell m a) e = refl
buffer_all n (port w p) e = refl
buffer_all n (link w l) e = refl
buffer_all n (pane w p) e = refl

-- what is left in the buffer
left_of : (n : ℕ) (slice : Slice) → (buffer_of (buffer_with (without_first n) slice)).commands ≡ drop n (buffer_of slice).commands
left_of n (looper w l (Some b)) = refl
left_of n (looper w l None) = sym (drop_none n)
left_of n (desk x) = sym (drop_none n)
left_of n (input k f) = sym (drop_none n)
left_of n (cell m a) = sym (drop_none n)
left_of n (port w p) = sym (drop_none n)
left_of n (link w l) = sym (drop_none n)
left_of n (pane w p) = sym (drop_none n)

link_as : (f g : List Numbered → List Numbered) (slice : Slice) → ((l : List Numbered) → f l ≡ g l) → link_with f slice ≡ link_with g slice
link_as f g (link w (Some l)) each = ap (λ x. link w (Some x)) (each l)
link_as f g (link w None) each = refl
link_as f g (looper w l b) each = refl
link_as f g (desk x) each = refl
link_as f g (input k b) each = refl
link_as f g (cell m a) each = refl
link_as f g (port w p) each = refl
link_as f g (pane w p) each = refl

link_same : (slice : Slice) → link_with (λ l. l) slice ≡ slice
link_same (link w (Some l)) = refl
link_same (link w None) = refl
link_same (looper w l b) = refl
link_same (desk x) = refl
link_same (input k b) = refl
link_same (cell m a) = refl
link_same (port w p) = refl
link_same (pane w p) = refl

link_both : (f g : List Numbered → List Numbered) (slice : Slice) → link_with g (link_with f slice) ≡ link_with (λ l. g (f l)) slice
link_both f g (link w (Some l)) = refl
link_both f g (link w None) = refl
link_both f g (looper w l b) = refl
link_both f g (desk x) = refl
link_both f g (input k b) = refl
link_both f g (cell m a) = refl
link_both f g (port w p) = refl
link_both f g (pane w p) = refl

link_long : (xs : List Numbered) (slice : Slice) → length (commands_of (link_with (λ l. l ++ xs) slice)) ≤ length (commands_of slice) + length xs
link_long xs (link w (Some l)) = let is : length (l ++ xs) ≡ length l + length xs = both_length l xs in omega arith
link_long xs (link w None) = omega arith
link_long xs (looper w l b) = omega arith
link_long xs (desk x) = omega arith
link_long xs (input k b) = omega arith
link_long xs (cell m a) = omega arith
link_long xs (port w p) = omega arith
link_long xs (pane w p) = omega arith

link_start : (b : Buffer) (slice : Slice) → slice ≡ link_with (with_first 0 b) slice
link_start b slice = sym (link_as (with_first 0 b) (λ l. l) slice append_none ∙ link_same slice)

-- ---- parts

abbrev kept_or : Kept → Option Part → Kept
kept_or other (Some (kinds.Looper k)) = k
kept_or other (Some (kinds.Desk x)) = other
kept_or other (Some (kinds.Input x)) = other
kept_or other (Some (kinds.Cell x)) = other
kept_or other (Some (kinds.Port x)) = other
kept_or other (Some (kinds.Link x)) = other
kept_or other (Some (kinds.Pane x)) = other
kept_or other None = other

abbrev slice_or : Slice → Option Part → Slice
slice_or other (Some (kinds.Link k)) = k
slice_or other (Some (kinds.Desk x)) = other
slice_or other (Some (kinds.Input x)) = other
slice_or other (Some (kinds.Cell x)) = other
slice_or other (Some (kinds.Port x)) = other
slice_or other (Some (kinds.Looper x)) = other
slice_or other (Some (kinds.Pane x)) = other
slice_or other None = other

module _ (p q : ℕ) (apart : p ≢ q) where
  -- no command went over yet
  pub moved_none : (old : Hand Part) (was : Kept) (before : Slice) → part_at old.parts p ≡ Some (kinds.Looper was) → part_at old.parts q ≡ Some (kinds.Link before) → HasMovedFirst 0 p q old old
  moved_none old was before there far = record {
    was = was;
    is = was;
    before = before;
    at_looper = there;
    at_link = far;
    buffer = buffer_start was.slice;
    log = refl;
    moved = sym (
        ap (λ l. hand_with (hand_with old p (kinds.Looper was)) q (kinds.Link l)) (sym (link_start (buffer_of was.slice) before))
        ∙ ap (λ (l : List (ℕ × Part)). record { parts = with_part l q (kinds.Link before); room = old.room }) (kept old.parts p (kinds.Looper was) there)
        ∙ ap (λ (l : List (ℕ × Part)). record { parts = l; room = old.room }) (kept old.parts q (kinds.Link before) far)
        );
  }

  module _ (n : ℕ) (old mid : Hand Part) (first : HasMovedFirst n p q old mid) where
    abbrev went : Slice
    went = link_with (with_first n (buffer_of first.was.slice)) first.before

    -- the parts then
    mid_looper : part_at mid.parts p ≡ Some (kinds.Looper first.is)
    mid_looper =
        ap (λ (h : Hand Part). part_at h.parts p) first.moved
        ∙ with_other (with_part old.parts p (kinds.Looper first.is)) q p (kinds.Link went) apart
        ∙ with_here old.parts p (kinds.Looper first.was) (kinds.Looper first.is) first.at_looper

    mid_link : part_at mid.parts q ≡ Some (kinds.Link went)
    mid_link =
        ap (λ (h : Hand Part). part_at h.parts q) first.moved
        ∙ with_here (with_part old.parts p (kinds.Looper first.is)) q (kinds.Link first.before) (kinds.Link went)
        (with_other old.parts p q (kinds.Looper first.is) (λ same. apart (sym same)) ∙ first.at_link)

    pub still_looper : (k : Kept) × (part_at mid.parts p ≡ Some (kinds.Looper k))
    still_looper = (first.is, mid_looper)

    pub still_link : (l : Slice) × (part_at mid.parts q ≡ Some (kinds.Link l))
    still_link = (went, mid_link)

    looper_then : (k : Kept) → part_at mid.parts p ≡ Some (kinds.Looper k) → k ≡ first.is
    looper_then k at = ap (kept_or k) (sym at ∙ mid_looper)

    link_then : (l : Slice) → part_at mid.parts q ≡ Some (kinds.Link l) → l ≡ went
    link_then l at = ap (slice_or l) (sym at ∙ mid_link)

    left_then : (buffer_of first.is.slice).commands ≡ drop n (buffer_of first.was.slice).commands
    left_then = ap (λ x. (buffer_of x).commands) first.buffer ∙ left_of n first.was.slice

    pub still_room : HasRoom p q old.parts → HasRoom p q mid.parts
    still_room room k l at far =
        let all : length (buffer_of first.was.slice).commands + length (commands_of first.before) ≤ 256 = room first.was first.before first.at_looper first.at_link in
        let split : length (drop n (buffer_of first.was.slice).commands) + length (take n (buffer_of first.was.slice).commands) ≡ length (buffer_of first.was.slice).commands = split_length n (buffer_of first.was.slice).commands in
        let left : length (buffer_of k.slice).commands ≡ length (drop n (buffer_of first.was.slice).commands) = ap (λ (x : Kept). length (buffer_of x.slice).commands) (looper_then k at) ∙ ap length left_then in
        let over : length (commands_of l) ≤ length (commands_of first.before) + length (take n (buffer_of first.was.slice).commands) =
        subst (λ x. length (commands_of x) ≤ length (commands_of first.before) + length (take n (buffer_of first.was.slice).commands)) (sym (link_then l far)) (link_long (take n (buffer_of first.was.slice).commands) first.before) in
        omega (arith, all, split, left, over)

    -- and one more
    pub moved_more : (new : Hand Part) → HasMovedFirst 1 p q mid new → HasMovedFirst (suc n) p q old new
    moved_more new second = record {
      was = first.was;
      is = second.is;
      before = first.before;
      at_looper = first.at_looper;
      at_link = first.at_link;
      buffer = second.buffer ∙ ap (λ (k : Kept). buffer_with (without_first 1) k.slice) same_kept ∙ ap (buffer_with (without_first 1)) first.buffer ∙ buffer_more n first.was.slice;
      log = second.log ∙ ap (λ (k : Kept). k.log) same_kept ∙ first.log;
      moved = second.moved ∙ (λ i. record { parts = list i; room = rooms i });
    }
      where
        same_kept : second.was ≡ first.is
        same_kept = looper_then second.was second.at_looper

        last_is : link_with (with_first 1 (buffer_of second.was.slice)) second.before ≡ link_with (with_first (suc n) (buffer_of first.was.slice)) first.before
        last_is =
            ap (link_with (with_first 1 (buffer_of second.was.slice))) (link_then second.before second.at_link)
            ∙ link_both (with_first n (buffer_of first.was.slice)) (with_first 1 (buffer_of second.was.slice)) first.before
            ∙ link_as (λ l. (l ++ take n (buffer_of first.was.slice).commands) ++ take 1 (buffer_of second.was.slice).commands) (with_first (suc n) (buffer_of first.was.slice)) first.before (λ l.
            append_assoc l (take n (buffer_of first.was.slice).commands) (take 1 (buffer_of second.was.slice).commands)
            ∙ ap (λ c. l ++ (take n (buffer_of first.was.slice).commands ++ take 1 c)) (ap (λ (k : Kept). (buffer_of k.slice).commands) same_kept ∙ left_then)
            ∙ ap (λ c. l ++ c) (take_one_more n (buffer_of first.was.slice).commands))

        rooms : mid.room ≡ old.room
        rooms = ap (λ (h : Hand Part). h.room) first.moved

        list : with_part (with_part mid.parts p (kinds.Looper second.is)) q (kinds.Link (link_with (with_first 1 (buffer_of second.was.slice)) second.before)) ≡ with_part (with_part old.parts p (kinds.Looper second.is)) q (kinds.Link (link_with (with_first (suc n) (buffer_of first.was.slice)) first.before))
        list =
            ap (λ (h : Hand Part). with_part (with_part h.parts p (kinds.Looper second.is)) q (kinds.Link (link_with (with_first 1 (buffer_of second.was.slice)) second.before))) first.moved
            ∙ ap (λ l. with_part l q (kinds.Link (link_with (with_first 1 (buffer_of second.was.slice)) second.before))) (
            swap (with_part old.parts p (kinds.Looper first.is)) q p (kinds.Link went) (kinds.Looper second.is) (λ same. apart (sym same))
            ∙ ap (λ l. with_part l q (kinds.Link went)) (twice old.parts p (kinds.Looper first.is) (kinds.Looper second.is)))
            ∙ twice (with_part old.parts p (kinds.Looper second.is)) q (kinds.Link went) (kinds.Link (link_with (with_first 1 (buffer_of second.was.slice)) second.before))
            ∙ ap (λ x. with_part (with_part old.parts p (kinds.Looper second.is)) q (kinds.Link x)) last_is

    pub moved_next : (new : Hand Part) → HasMovedFirst 1 p q mid new → HasMovedFirst (n + 1) p q old new
    moved_next new second = let next : suc n ≡ n + 1 = omega arith in subst (λ k. HasMovedFirst k p q old new) next (moved_more new second)

  -- at the end all are over
  pub moved_all : (n : ℕ) (old new : Hand Part) (k : Kept) (b : Buffer) → part_at old.parts p ≡ Some (kinds.Looper k) → buffer_in k.slice ≡ Some b → n ≡ length b.commands → HasMovedFirst n p q old new → HasMoved p q old new
  moved_all n old new k b at has count first = record {
    was = first.was;
    is = first.is;
    before = first.before;
    at_looper = first.at_looper;
    at_link = first.at_link;
    buffer = first.buffer ∙ buffer_all n first.was.slice number;
    log = first.log;
    moved = first.moved ∙ ap (λ l. hand_with (hand_with old p (kinds.Looper first.is)) q (kinds.Link l))
        (link_as (with_first n (buffer_of first.was.slice)) (lengthened (buffer_of first.was.slice)) first.before (λ l. ap (λ c. l ++ c) (ap (λ m. take m (buffer_of first.was.slice).commands) number ∙ take_all (buffer_of first.was.slice).commands)));
  }
    where
      was_it : k ≡ first.was
      was_it = ap (kept_or k) (sym at ∙ first.at_looper)

      number : n ≡ length (buffer_of first.was.slice).commands
      number = count ∙ sym (ap (λ (o : Option Buffer). length (unwrap_or o empty_buffer).commands) has) ∙ ap (λ (x : Kept). length (buffer_of x.slice).commands) was_it

  -- ---- one command

  module _ (old : Hand Part) (was is : Kept) (at : part_at old.parts p ≡ Some (kinds.Looper was)) (popped : is.slice ≡ buffer_with without_oldest was.slice) (log : is.log ≡ was.log) where
    abbrev taken : Hand Part
    taken = hand_with old p (kinds.Looper is)

    pub link_stays : (l : Slice) → part_at old.parts q ≡ Some (kinds.Link l) → part_at (with_part old.parts p (kinds.Looper is)) q ≡ Some (kinds.Link l)
    link_stays l far = with_other old.parts p q (kinds.Looper is) (λ same. apart (sym same)) ∙ far

    pub link_was : (l : Slice) → part_at (with_part old.parts p (kinds.Looper is)) q ≡ Some (kinds.Link l) → part_at old.parts q ≡ Some (kinds.Link l)
    link_was l far = sym (with_other old.parts p q (kinds.Looper is) (λ same. apart (sym same))) ∙ far

    pub room_for_one : HasRoom p q old.parts → (c : Numbered) → Some c ≡ oldest_of was.slice → (l : Slice) → part_at (with_part old.parts p (kinds.Looper is)) q ≡ Some (kinds.Link l) → length (commands_of l) < 256
    room_for_one room c oldest l far =
        let all : length (buffer_of was.slice).commands + length (commands_of l) ≤ 256 = room was l at (link_was l far) in
        let some : 0 < length (buffer_of was.slice).commands = some_first (buffer_of was.slice).commands c (sym oldest) in
        omega (arith, all, some)

    pub moved_one : (c : Numbered) → Some c ≡ oldest_of was.slice → (l z : Slice) → part_at (with_part old.parts p (kinds.Looper is)) q ≡ Some (kinds.Link l) → z ≡ link_with (λ commands. commands ++ c ∷ []) l → HasMovedFirst 1 p q old (hand_with taken q (kinds.Link z))
    moved_one c oldest l z far pushed = record {
      was = was;
      is = is;
      before = l;
      at_looper = at;
      at_link = link_was l far;
      buffer = popped;
      log = log;
      moved = ap (λ x. hand_with taken q (kinds.Link x)) (pushed ∙ link_as (λ commands. commands ++ c ∷ []) (with_first 1 (buffer_of was.slice)) l (λ commands. ap (λ t. commands ++ t) (sym (take_first (buffer_of was.slice).commands c (sym oldest)))));
    }

    pub moved_nothing : None ≡ oldest_of was.slice → (l : Slice) → part_at old.parts q ≡ Some (kinds.Link l) → HasMovedFirst 1 p q old taken
    moved_nothing nothing l far = record {
      was = was;
      is = is;
      before = l;
      at_looper = at;
      at_link = far;
      buffer = popped;
      log = log;
      moved = sym (
          ap (λ x. hand_with taken q (kinds.Link x)) (
          link_as (with_first 1 (buffer_of was.slice)) (λ commands. commands) l (λ commands. ap (λ t. commands ++ t) (take_nothing (buffer_of was.slice).commands (sym nothing)) ∙ append_none commands)
          ∙ link_same l)
          ∙ ap (λ (x : List (ℕ × Part)). record { parts = x; room = old.room }) (kept (with_part old.parts p (kinds.Looper is)) q (kinds.Link l) (link_stays l far))
          );
    }
