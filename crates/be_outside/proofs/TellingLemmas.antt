-- How told bytes add up over several reads and puts, for callers that are generic in their source or sink.
use Rattle.std.proofs.Common.{◌≡◌, ℕ, ◌+◌, ◌<◌, List, ◌++◌, Option, Some, None, length, get_or, take, drop, refl, sym, ap, ◌∙◌, append_assoc}
use Rattle.std.specs.Prelude.{flat_map}
use Rattle.std.proofs.lemmas.List.{take-append-drop, drop_more}
use Rattle.std.proofs.lemmas.List.Concat.{flat_map-append}
use Rattle.be_outside.specs.Telling.{with_end, TakesPrefix}

pub with_end-with_end : (told : Option (List ℕ)) (xs ys : List ℕ) → with_end (with_end told xs) ys ≡ with_end told (xs ++ ys)
with_end-with_end None xs ys = refl
with_end-with_end (Some front) xs ys = ap Some (append_assoc front xs ys)

-- a put that failed in the middle of a text: xs was put before, and zs was to follow
pub TakesPrefix-within : {old mid new : Option (List ℕ)} {ys : List ℕ} (xs zs all : List ℕ) → mid ≡ with_end old xs → TakesPrefix mid new ys → all ≡ xs ++ (ys ++ zs) → TakesPrefix old new all
TakesPrefix-within {old} xs zs all before part whole =
    record {
      taken = xs ++ part.taken;
      rest = part.rest ++ zs;
      parts = whole ∙ ap (λ l. xs ++ (l ++ zs)) part.parts ∙ ap (λ l. xs ++ l) (append_assoc part.taken part.rest zs) ∙ sym (append_assoc xs part.taken (part.rest ++ zs));
      put = part.put ∙ ap (λ o. with_end o part.taken) before ∙ with_end-with_end old xs part.taken;
    }

-- the texts of a list one behind another, cut before and behind the one at i
pub flat_map_around : {X : Type 0} (f : X → List ℕ) (xs : List X) (i : ℕ) (d : X) → i < length xs → flat_map f xs ≡ flat_map f (take i xs) ++ (f (get_or xs i d) ++ flat_map f (drop (i + 1) xs))
flat_map_around f xs i d within =
    ap (flat_map f) (sym (take-append-drop i xs)) ∙ flat_map-append f (take i xs) (drop i xs)
    ∙ ap (λ l. flat_map f (take i xs) ++ flat_map f l) (drop_more xs i d within)

-- A put failed at the text at i of a list, behind the texts before it.
pub TakesPrefix-at : {X : Type 0} {old mid new : Option (List ℕ)} (f : X → List ℕ) (xs : List X) (i : ℕ) (d : X) → i < length xs → mid ≡ with_end old (flat_map f (take i xs)) → TakesPrefix mid new (f (get_or xs i d)) → TakesPrefix old new (flat_map f xs)
TakesPrefix-at f xs i d within before part = TakesPrefix-within (flat_map f (take i xs)) (flat_map f (drop (i + 1) xs)) (flat_map f xs) before part (flat_map_around f xs i d within)
