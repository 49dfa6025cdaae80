-- The wishes of each instruction in turn, and that there are no others.
use Rattle.std.specs.Prelude.{nat_le, slice_get, option_map}
use Rattle.std.proofs.Common.{◌≡◌, ℕ, ◌+◌, ◌==◌, Bool, true, false, if◌then◌else◌, List, [], ◌∷◌, Option, Some, arith, refl, sym, ap, subst, ◌∙◌}
use Rattle.std.proofs.lemmas.Option.{same_Some}
use Rattle.be_command.specs.declared.Command.{Command}
use Rattle.be_message.specs.Messages.{Message}
use Rattle.be_actor.specs.declared.Instruction.{Instruction}
use Rattle.be_actor.specs.declared.Instruction.TheVariants as instruction
use Rattle.be_actor.specs.declared.Place.{Place}
use Rattle.be_actor.specs.declared.Wish.{Wish}
use Rattle.be_actor.specs.declared.Wish.TheVariants as wish
use Rattle.be_actor.specs.Drafts.{filled}
use Rattle.be_actor.specs.Wishes.{wish_at, wish_of, place_after}
use Rattle.be_actor.specs.Laws.{wishes_in_turn, buffered_after, AsksInTurn, EachAsksInTurn}

abbrev part_of : ℕ → ℕ → Place
part_of step part = record { step = step; part = part }

-- what the place of a program asks for is what its instruction does
asks : (program : List Instruction) (step part : ℕ) (at : Instruction) (now : Option Message) (buffered : ℕ) → slice_get program step ≡ Some at →
    wish_of program (part_of step part) now buffered ≡ Some (wish_at part now buffered at)
unfolding wish_of
asks program step part at now buffered is = ap (option_map (wish_at part now buffered)) is

module _ (program : List Instruction) (step : ℕ) (now : Option Message) where
  abbrev Asks : Instruction → Bool → ℕ → ℕ → List Wish → Type 0
  Asks at accepted part buffered wishes = AsksInTurn program step at now accepted (part_of step part) buffered wishes (part_of (step + 1) 0)

  -- ---- one wish, or two

  one : (at : Instruction) (accepted : Bool) (part buffered : ℕ) (w : Wish) → slice_get program step ≡ Some at → wish_at part now buffered at ≡ w →
      place_after at (part_of step part) accepted w ≡ part_of (step + 1) 0 →
      Asks at accepted part buffered (w ∷ [])
  one at accepted part buffered w is first ends =
      (refl, asks program step part at now buffered is ∙ ap Some first, (rw ends (omega arith), ends))

  two : (at : Instruction) (accepted : Bool) (part buffered : ℕ) (w v : Wish) → slice_get program step ≡ Some at → wish_at 0 now buffered at ≡ w →
      place_after at (part_of step 0) accepted w ≡ part_of step part → wish_at part now (buffered_after buffered w) at ≡ v →
      place_after at (part_of step part) accepted v ≡ part_of (step + 1) 0 →
      Asks at accepted 0 buffered (w ∷ v ∷ [])
  two at accepted part buffered w v is first goes second ends =
      (refl, asks program step 0 at now buffered is ∙ ap Some first, rw goes (one at accepted part (buffered_after buffered w) v is second ends))

  -- ---- each instruction

  unlocks : (accepted : Bool) (buffered : ℕ) → slice_get program step ≡ Some instruction.Unlock → (b : Bool) → (buffered == 0) ≡ b →
      Asks instruction.Unlock accepted 0 buffered (if b then wish.Unlock ∷ [] else wish.Flush ∷ wish.Unlock ∷ [])
  unfolding place_after
  unlocks accepted buffered is true e = one instruction.Unlock accepted 0 buffered wish.Unlock is (rw e refl) refl
  unlocks accepted buffered is false e = two instruction.Unlock accepted 0 buffered wish.Flush wish.Unlock is (rw e refl) refl refl refl

  draws : (command : Command) (accepted : Bool) (buffered : ℕ) → slice_get program step ≡ Some (instruction.Draw command) → (b : Bool) → nat_le 32 buffered ≡ b →
      Asks (instruction.Draw command) accepted 0 buffered (if b then wish.Flush ∷ wish.Draw command ∷ [] else wish.Draw command ∷ [])
  unfolding place_after
  draws command accepted buffered is true e = two (instruction.Draw command) accepted 0 buffered wish.Flush (wish.Draw command) is (rw e refl) refl refl refl
  draws command accepted buffered is false e = one (instruction.Draw command) accepted 0 buffered (wish.Draw command) is (rw e refl) refl

  turn : (at : Instruction) (accepted : Bool) (buffered : ℕ) → slice_get program step ≡ Some at → Asks at accepted 0 buffered (wishes_in_turn now buffered accepted at)
  unfolding place_after
  turn (instruction.Note text) accepted buffered is = one (instruction.Note text) accepted 0 buffered (wish.Note text) is refl refl
  turn (instruction.Post w target draft) accepted buffered is =
      one (instruction.Post w target draft) accepted 0 buffered (wish.Post w target (filled draft now)) is refl refl
  turn (instruction.Send w target draft) true buffered is =
      two (instruction.Send w target draft) true 1 buffered (wish.Send w target (filled draft now)) wish.Claim is refl refl refl refl
  turn (instruction.Send w target draft) false buffered is =
      one (instruction.Send w target draft) false 0 buffered (wish.Send w target (filled draft now)) is refl refl
  turn (instruction.Reply draft) accepted buffered is = one (instruction.Reply draft) accepted 0 buffered (wish.Reply (filled draft now)) is refl refl
  turn (instruction.Forward w target) accepted buffered is = one (instruction.Forward w target) accepted 0 buffered (wish.Forward w target) is refl refl
  turn (instruction.Lock w) accepted buffered is = one (instruction.Lock w) accepted 0 buffered (wish.Lock w) is refl refl
  turn instruction.Unlock accepted buffered is = unlocks accepted buffered is (buffered == 0) refl
  turn instruction.Flush accepted buffered is = one instruction.Flush accepted 0 buffered wish.Flush is refl refl
  turn instruction.Sync accepted buffered is = two instruction.Sync accepted 1 buffered wish.Flush wish.SyncDone is refl refl refl refl
  turn (instruction.Draw command) accepted buffered is = draws command accepted buffered is (nat_le 32 buffered) refl

  -- ---- no others

  abbrev AreSame : List Wish → List Wish → Place → Place → Type 0
  AreSame ws vs last other = (ws ≡ vs) × (last ≡ other)

  only_one : (at : Instruction) (accepted : Bool) (place : Place) (buffered : ℕ) (ws vs : List Wish) (last other : Place) →
      AsksInTurn program step at now accepted place buffered ws last → AsksInTurn program step at now accepted place buffered vs other →
      AreSame ws vs last other
  only_one at accepted place buffered [] [] last other a b = (refl, sym a.1 ∙ b.1)
  only_one at accepted place buffered [] (v ∷ vs) last other a b = absurd (omega (arith, a.0, b.0))
  only_one at accepted place buffered (w ∷ ws) [] last other a b = absurd (omega (arith, a.0, b.0))
  only_one at accepted place buffered (w ∷ ws) (v ∷ vs) last other a b =
      let same : v ≡ w = same_Some v w (sym b.1 ∙ a.1) in
      let rest = subst (λ (x : Wish). AsksInTurn program step at now accepted (place_after at place accepted x) (buffered_after buffered x) vs other) same b.2 in
      let others = only_one at accepted (place_after at place accepted w) (buffered_after buffered w) ws vs last other a.2 rest in
      (ap (λ (xs : List Wish). w ∷ xs) others.0 ∙ ap (λ (x : Wish). x ∷ vs) (sym same), others.1)

pub each_asks_in_turn : EachAsksInTurn
each_asks_in_turn program step at is now accepted buffered wishes last =
    let goes = turn program step now at accepted buffered is in (
      λ other. only_one program step now at accepted (part_of step 0) buffered wishes (wishes_in_turn now buffered accepted at) last (part_of (step + 1) 0) other goes,
      λ same. rw (same.0, same.1) goes,
    )
