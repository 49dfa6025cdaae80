-- The letters that are taken, gathered while a history is carried out.
use Rattle.std.proofs.Common.{◌≡◌, ℕ, ◌+◌, ◌<◌, List, [], ◌∷◌, ◌++◌, length, take, get_or}
use Rattle.std.proofs.Common.{Option, Some, refl, sym, ap, subst, ◌∙◌, arith}
use Rattle.std.specs.Prelude.{option_map, slice_get}
use Rattle.std.proofs.lemmas.List.{take_all, take_more}
use Rattle.be_asking.proofs.InHand.{looper_read, port_read}
use Rattle.be_hall.specs.Hands.{part_at}
use Rattle.be_looper.specs.declared.Owner.{Owner}
use Rattle.be_machine.specs.State.{Looper, State, opening_state}
use Rattle.be_machine.specs.Touched as part
use Rattle.be_machine.specs.declared.Entry.{Entry}
use Rattle.be_check.specs.Following.{now_of, state_in}
use Rattle.be_parts.specs.Kept.{Kept}
use Rattle.be_parts.specs.Loopers.{owner_in, owner_of}
use Rattle.be_parts.specs.Stands.{PortIs}
use Rattle.be_parts.specs.declared.part.Part.{Part}
use Rattle.be_parts.specs.declared.part.Part.TheVariants as kinds
use Rattle.be_port.specs.Ports.{Port}
use Rattle.be_port.specs.Queues.{Queue}
use Rattle.be_port.specs.declared.letter.Letter as held
use Rattle.be_pressed.specs.Taken.{entry_takes, letters_from, letters_taken}
use Rattle.be_pressed.specs.declared.letter.TakenLetter.{TakenLetter}
use Rattle.be_rules.specs.Places.{place_of}
use Rattle.be_rules.specs.Slices.{Slice, looper, port}
use Rattle.be_script.specs.Script.{Declared}
use Rattle.be_ready.proofs.Fronts.{port_of}
use Rattle.be_check.specs.Stepping.{HasAll, IsMade}
use Rattle.be_check.specs.Taking.{IsFrontPort, TakesNow}
use Rattle.be_check.proofs.Coming.{HasCome, come_further}
use Rattle.be_check.proofs.Looking.{fits, now_is}
use Rattle.be_check.proofs.Takers.{letters_more}

-- ---- what parts in hand tell

module _ (d : Declared) (parts : List (ℕ × Part)) (has : HasAll d parts) (w : ℕ)
    (there : w < length d.windows) where
  pub owner_is : (kept : Kept) (owner : Owner)
      → part_at parts (place_of d (part.looper w)) ≡ Some (kinds.Looper kept)
      → Some owner ≡ owner_of kept.slice
      → Some owner ≡ option_map owner_in (slice_get (state_in d parts).loopers w)
  owner_is kept owner at is =
      is
      ∙ ap (option_map owner_in)
      (sym (ap (λ (s : State). slice_get s.loopers w) (now_is d parts has)
      ∙ looper_read d parts (now_of parts) has.sound (fits d parts has) (kinds.Looper kept) w there
      at))

  pub front_is : (k : Slice) (q : Queue)
      → part_at parts (place_of d (part.port w)) ≡ Some (kinds.Port k) → PortIs k q
      → (first : Option held.Letter) → first ≡ slice_get q.letters 0
      → IsFrontPort (state_in d parts) w first
  front_is k q at stands first is =
      let machine = port_of k q stands in
      record {
        queue = q;
        port = machine.0;
        there =
            ap (λ (s : State). slice_get s.ports w) (now_is d parts has)
            ∙ port_read d parts (now_of parts) has.sound (fits d parts has) (kinds.Port k) w there
            at ∙ machine.1;
        stands = machine.2;
        front = sym is;
      }

-- ---- one entry after the other

-- the first n entries were made, and their letters are these
pub record Gathers (d : Declared) (h : List Entry) (n : ℕ) (parts : List (ℕ × Part))
    (letters : List TakenLetter) : Type 0 where
  pub come : HasCome d h n parts
  pub are : letters ≡ letters_taken d (take n h)

module _ (d : Declared) (h : List Entry) where
  pub gather_first : (parts : List (ℕ × Part)) (letters : List TakenLetter) → letters ≡ []
      → HasCome d h 0 parts → Gathers d h 0 parts letters
  unfolding letters_from
  gather_first parts letters none come = record { come = come; are = none }

  module _ (n : ℕ) (e : Entry) (within : n < length h) (is : e ≡ get_or h n e)
      (parts new : List (ℕ × Part)) (made : IsMade d e n parts new)
      (letters more : List TakenLetter) (gathers : Gathers d h n parts letters) where
    longer : take (n + 1) h ≡ take n h ++ e ∷ []
    longer = take_more h n e within ∙ ap (λ (x : Entry). take n h ++ x ∷ []) (sym is)

    pub gather_next : (other : Declared) → other ≡ d
        → TakesNow other (state_in other parts) e.actor letters more
        → Gathers d h (n + 1) new more
    gather_next other same takes =
        let takes_here : TakesNow d (state_in d parts) e.actor letters more =
        subst (λ (z : Declared). TakesNow z (state_in z parts) e.actor letters more) same takes in
        record {
          come = come_further d h n e within is parts gathers.come new made;
          are =
              takes_here e refl made.legal
              ∙ ap (λ (l : List TakenLetter). l ++ entry_takes d (state_in d parts) e) gathers.are
              ∙ ap (λ (s : State). letters_taken d (take n h) ++ entry_takes d s e)
              gathers.come.state
              ∙ sym (letters_more d (opening_state d) (take n h) e)
              ∙ ap (letters_taken d) (sym longer);
        }

  -- ---- behind the last entry

  pub gathered : (n : ℕ) → n ≡ length h → (parts : List (ℕ × Part)) (letters : List TakenLetter)
      → Gathers d h n parts letters → letters ≡ letters_taken d h
  gathered n whole parts letters gathers =
      let all : take n h ≡ h = take_all n h (omega arith) in
      gathers.are ∙ ap (letters_taken d) all
