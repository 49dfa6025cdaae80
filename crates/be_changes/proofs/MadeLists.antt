-- Parts that were made what a step leaves, one list of them after the other.
use Rattle.std.proofs.Common.{◌≡◌, ℕ, List, [], ◌∷◌, ◌++◌, map, Some, inl, inr, ⊎_elim, refl, sym, ap, ◌∙◌, subst}
use Rattle.be_asking.specs.declared.activity.Activity.{Activity}
use Rattle.be_asking.specs.declared.want.Want.{Want}
use Rattle.be_changes.specs.Left.{AreLeft, HasLeft}
use Rattle.be_hall.proofs.Holding.{with_other}
use Rattle.be_hall.specs.Hands.{Hand, part_at, with_part}
use Rattle.be_machine.specs.Touched as part
use Rattle.be_machine.specs.Touched.{Touches}
use Rattle.be_parts.specs.Parts.{hand_with, logged_of, meaning_of}
use Rattle.be_parts.specs.declared.part.Part.{Part}
use Rattle.be_rules.specs.Places.{IsPart, place_of}
use Rattle.be_rules.specs.Sure.{IsAmong}
use Rattle.be_script.specs.Script.{Declared}
use Rattle.be_steps.proofs.Apart.{apart}
use Rattle.be_steps.proofs.Leaving.{left_is}
use Rattle.be_steps.proofs.Making.{done, now, meets, then_is}
use Rattle.be_steps.specs.Made.{AreIn, AreMade, IsMade}
use Rattle.be_steps.specs.Steps.{IsAllowed, IsDone, LeavesAt}

-- ---- lists

abbrev pub names_of : List (part.Part × Part) → List part.Part
names_of changes = map (λ (made : part.Part × Part). made.0) changes

pub names_join : (xs ys : List (part.Part × Part)) → names_of (xs ++ ys) ≡ names_of xs ++ names_of ys
names_join [] ys = refl
names_join (x ∷ xs) ys = ap (λ l. x.0 ∷ l) (names_join xs ys)

pub made_join : (d : Declared) (xs ys : List (part.Part × Part)) (old mid new : List (ℕ × Part)) → AreMade d xs old mid → AreMade d ys mid new → AreMade d (xs ++ ys) old new
made_join d [] ys old mid new first second = subst (λ (l : List (ℕ × Part)). AreMade d ys l new) first second
made_join d (x ∷ xs) ys old mid new first second = (first.0, first.1, first.2, made_join d xs ys (with_part old (place_of d x.0) x.1) mid new first.3 second)

made_front : (x : part.Part) (xs ys : List (part.Part × Part)) → IsMade x xs → IsMade x (xs ++ ys)
made_front x [] ys made = absurd made
made_front x (y ∷ xs) ys (inl is) = inl is
made_front x (y ∷ xs) ys (inr later) = inr (made_front x xs ys later)

pub left_join : (d : Declared) (parts : List (ℕ × Part)) (who : Activity) (xs ys : List (part.Part × Part)) → AreLeft d parts who xs → AreLeft d parts who ys → AreLeft d parts who (xs ++ ys)
left_join d parts who [] ys first second = second
left_join d parts who (x ∷ xs) ys first second = ((first.0.0, ⊎_elim (λ again. inl (made_front x.0 xs ys again)) (λ leaves. inr leaves) first.0.1), left_join d parts who xs ys first.1 second)

-- a part that is named was made
named_made : (changes : List (part.Part × Part)) (x : part.Part) → IsAmong x (names_of changes) → IsMade x changes
named_made [] x among = among
named_made (made ∷ rest) x (inl is) = inl is
named_made (made ∷ rest) x (inr later) = inr (named_made rest x later)

made_named : (changes : List (part.Part × Part)) (x : part.Part) → IsMade x changes → IsAmong x (names_of changes)
made_named [] x made = made
made_named (made ∷ rest) x (inl is) = inl is
made_named (made ∷ rest) x (inr later) = inr (made_named rest x later)

-- what is at another place stays
made_apart : (d : Declared) (parts : List (ℕ × Part)) (who : Activity) (changes : List (part.Part × Part)) (old new : List (ℕ × Part)) (y : part.Part) → IsPart d y → (IsMade y changes → ⊥) → AreLeft d parts who changes → AreMade d changes old new
    → part_at new (place_of d y) ≡ part_at old (place_of d y)
made_apart d parts who [] old new y there never left made = ap (λ (l : List (ℕ × Part)). part_at l (place_of d y)) made
made_apart d parts who (x ∷ xs) old new y there never left made =
    made_apart d parts who xs (with_part old (place_of d x.0) x.1) new y there (λ h. never (inr h)) left.1 made.3
    ∙ with_other old (place_of d x.0) (place_of d y) x.1 (λ same. apart d y x.0 there left.0.0 (λ is. never (inl is)) same)

-- ---- what was made

module _ (d : Declared) (parts : List (ℕ × Part)) (who : Activity) where
  pub none_left : (old : Hand Part) → HasLeft d parts who [] old old
  none_left old = record { changes = []; names = refl; made = refl; left = tt; room = refl }

  pub one_left : (old : Hand Part) (x : part.Part) (place : ℕ) (was is : Part) → place ≡ place_of d x → IsPart d x → part_at old.parts place ≡ Some was → logged_of is ≡ logged_of was → LeavesAt d parts who (place_of d x) (meaning_of is) → HasLeft d parts who (x ∷ []) old (hand_with old place is)
  one_left old x place was is spot there at log leaves = record {
    changes = (x, is) ∷ [];
    names = refl;
    made = (was, ap (part_at old.parts) (sym spot) ∙ at, log, ap (λ n. with_part old.parts n is) spot);
    left = ((there, inr leaves), tt);
    room = refl;
  }

  pub both_left : (xs ys : List part.Part) (old mid new : Hand Part) → HasLeft d parts who xs old mid → HasLeft d parts who ys mid new → HasLeft d parts who (xs ++ ys) old new
  both_left xs ys old mid new first second = record {
    changes = first.changes ++ second.changes;
    names = names_join first.changes second.changes ∙ ap (λ l. l ++ names_of second.changes) first.names ∙ ap (λ l. xs ++ l) second.names;
    made = made_join d first.changes second.changes old.parts mid.parts new.parts first.made second.made;
    left = left_join d parts who first.changes second.changes first.left second.left;
    room = second.room ∙ first.room;
  }

  -- a part that isn't named is as it was
  pub others_stay : (xs : List part.Part) (old new : Hand Part) (y : part.Part) → IsPart d y → (IsAmong y xs → ⊥) → HasLeft d parts who xs old new → part_at new.parts (place_of d y) ≡ part_at old.parts (place_of d y)
  others_stay xs old new y there never is =
      made_apart d parts who is.changes old.parts new.parts y there
      (λ made. never (subst (IsAmong y) is.names (made_named is.changes y made))) is.left is.made

-- what is said of a copy of the parts holds of the parts
pub left_of_copy : (d : Declared) (who : Activity) (xs : List part.Part) (b parts old new : Hand Part) → b ≡ parts → HasLeft d b.parts who xs old new → HasLeft d parts.parts who xs old new
left_of_copy d who xs b parts old new copy left = subst (λ (h : Hand Part). HasLeft d h.parts who xs old new) copy left

-- ---- the step

module _ (d : Declared) (inhand : List (ℕ × Part)) (who : Activity) (want : Want) (allowed : IsAllowed d inhand who want) where
  left_in : (changes : List (part.Part × Part)) → AreLeft d inhand who changes → AreIn d (then_is d inhand who want allowed) changes
  left_in [] left = tt
  left_in (made ∷ rest) left = (⊎_elim (λ again. inl again) (λ leaves. inr (left.0.0, sym (left_is d inhand who want allowed made.0 left.0.0 (meaning_of made.1) leaves))) left.0.1, left_in rest left.1)

  -- where all that is touched was made, the step is done
  pub all_left : (old new : Hand Part) (xs : List part.Part) → old.parts ≡ inhand → HasLeft d inhand who xs old new → ((x : part.Part) → Touches (now d inhand who want allowed) (then_is d inhand who want allowed) (meets d inhand who want allowed) x → IsAmong x xs) → IsDone d who old new
  all_left old new xs is left covers =
      done d inhand who want allowed old new left.changes is left.room (subst (λ (l : List (ℕ × Part)). AreMade d left.changes l new.parts) is left.made) (left_in left.changes left.left)
      (λ x touched. named_made left.changes x (subst (IsAmong x) (sym left.names) (covers x touched)))
