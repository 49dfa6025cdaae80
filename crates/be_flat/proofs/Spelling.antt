-- Writing parts one after the other: a part behind those before it.
use Rattle.std.proofs.Common.{◌≡◌, ◌<◌, ◌≤◌, ◌+◌, ℕ, suc, true, List, [], ◌∷◌, ◌++◌, length, map, drop, get_or, refl, sym, ap, ◌∙◌, subst, arith, append_assoc}
use Rattle.std.specs.Int.{w32, to_le_bytes}
use Rattle.std.proofs.lemmas.Bool.Decides.{nat_tests}
use Rattle.std.proofs.lemmas.List.{append-nil}
use Rattle.std.proofs.Math.Seq.{drop-cons}
use Rattle.std.proofs.Math.ListN.{drop_of_length-le}
use Rattle.be_facts.proofs.Lists.{append_three}
use Rattle.be_message.specs.declared.kind.Kind.{Kind}
use Rattle.be_message.specs.Depths.{values_depth, fields_depth}
use Rattle.be_message.specs.Limits.{most_name_bytes, most_text_bytes}
use Rattle.be_message.specs.Messages.{Datum, Field, Message, all_values, all_fields}
use Rattle.be_message.specs.Names.{is_name, is_text}
use Rattle.be_message.specs.Sound.{field_count, value_count, AreSoundFields, AreSoundValues, IsMessage}
use Rattle.be_message.proofs.SoundLemmas.{values_are, count_is}
use Rattle.be_flat.specs.Codes.{code_of}
use Rattle.be_flat.specs.Grammar.{Spells, SpellsDatum, SpellsFields, SpellsValues}
use Rattle.be_flat.specs.Writing.{Appends}

-- ---- sizes

pub length-name : (name : List ℕ) → is_name name ≡ true → length name ≤ most_name_bytes
unfolding is_name
length-name [] h = omega arith
length-name (b ∷ bytes) h = grind (arith, nat_tests)

pub length-text : (t : List ℕ) → is_text t ≡ true → length t ≤ most_text_bytes
unfolding is_text
length-text t h = grind (arith, nat_tests)

-- ---- what a loop has before it

next_left : {X Y : Type 0} (view : X → Y) (xs : List X) (i : ℕ) (x : X) → i < length xs → x ≡ get_or xs i x → map view (drop i xs) ≡ view x ∷ map view (drop (i + 1) xs)
next_left view xs i x h e =
    let k : i + 1 ≡ suc i = omega arith in
    rw k (ap (map view) (drop-cons xs i x h) ∙ ap (λ y. view y ∷ map view (drop (suc i) xs)) (sym e))

none_left : {X Y : Type 0} (view : X → Y) (xs : List X) (i : ℕ) → length xs ≤ i → map view (drop i xs) ≡ []
none_left view xs i h = ap (map view) (drop_of_length-le xs h)

-- ---- the values of a field

-- what is written so far and whatever spells the values that are left spell them all
pub record WritesValues (kind : Kind) (all left : List Datum) (start so_far : List ℕ) : Type 0 where
  pub sound : AreSoundValues kind (all_values left)
  pub depth : values_depth (all_values left) ≤ values_depth (all_values all)
  pub completes : (tail : List ℕ) → SpellsValues kind tail (all_values left) → Appends (λ bytes. SpellsValues kind bytes (all_values all)) start (so_far ++ tail)

pub value_left : {X : Type 0} (view : X → Datum) (kind : Kind) (xs : List X) (i : ℕ) (x : X) (start so_far : List ℕ) → i < length xs → x ≡ get_or xs i x
    → WritesValues kind (map view xs) (map view (drop i xs)) start so_far → WritesValues kind (map view xs) (view x ∷ map view (drop (i + 1) xs)) start so_far
value_left view kind xs i x start so_far h e w =
    let P : List Datum → Type 0 = λ left. WritesValues kind (map view xs) left start so_far in
    subst P (next_left view xs i x h e) w

pub next_value : (kind : Kind) (all : List Datum) (d : Datum) (left : List Datum) (start so_far next : List ℕ) → WritesValues kind all (d ∷ left) start so_far
    → Appends (λ bytes. SpellsDatum bytes d) so_far next → WritesValues kind all left start next
next_value kind all d left start so_far next h w =
    let P : List ℕ → Type 0 = λ bytes. SpellsValues kind bytes (all_values all) in
    let moved : (tail : List ℕ) → so_far ++ (w.bytes ++ tail) ≡ next ++ tail = λ tail. sym (append_assoc so_far w.bytes tail) ∙ ap (λ (l : List ℕ). l ++ tail) (sym w.behind) in
    record {
      sound = h.sound.2;
      depth = omega (arith, h.depth);
      completes = λ tail t. subst (λ (l : List ℕ). Appends P start l) (moved tail) (h.completes (w.bytes ++ tail) (h.sound.0, w.bytes, tail, refl, w.spelt, t));
    }

pub every_value : {X : Type 0} (view : X → Datum) (kind : Kind) (xs : List X) (i : ℕ) (start done : List ℕ) → length xs ≤ i
    → WritesValues kind (map view xs) (map view (drop i xs)) start done → Appends (λ bytes. SpellsValues kind bytes (all_values (map view xs))) start done
every_value view kind xs i start done le w =
    let P : List Datum → Type 0 = λ left. WritesValues kind (map view xs) left start done in
    let h = subst P (none_left view xs i le) w in
    subst (λ (l : List ℕ). Appends (λ bytes. SpellsValues kind bytes (all_values (map view xs))) start l) (append-nil done) (h.completes [] refl)

-- ---- the fields of a message

-- what is written so far and whatever spells the fields that are left spell them all
pub record WritesFields (all left : List Field) (start so_far : List ℕ) : Type 0 where
  pub sound : AreSoundFields (all_fields left)
  pub depth : fields_depth (all_fields left) ≤ fields_depth (all_fields all)
  pub completes : (tail : List ℕ) → SpellsFields tail (all_fields left) → Appends (λ bytes. SpellsFields bytes (all_fields all)) start (so_far ++ tail)

pub field_left : {X : Type 0} (view : X → Field) (xs : List X) (i : ℕ) (x : X) (start so_far : List ℕ) → i < length xs → x ≡ get_or xs i x
    → WritesFields (map view xs) (map view (drop i xs)) start so_far → WritesFields (map view xs) (view x ∷ map view (drop (i + 1) xs)) start so_far
field_left view xs i x start so_far h e w =
    let P : List Field → Type 0 = λ left. WritesFields (map view xs) left start so_far in
    subst P (next_left view xs i x h e) w

-- a field alone keeps the limits
pub alone : (f : Field) (left : List Field) → AreSoundFields (all_fields (f ∷ left)) → AreSoundFields (all_fields (f ∷ []))
alone f left h = (h.0, refl, h.2, h.3, h.4, tt)

pub next_field : (all : List Field) (f : Field) (left : List Field) (start so_far next : List ℕ) → WritesFields all (f ∷ left) start so_far
    → Appends (λ bytes. SpellsFields bytes (all_fields (f ∷ []))) so_far next → WritesFields all left start next
next_field all f left start so_far next h w =
    let P : List ℕ → Type 0 = λ bytes. SpellsFields bytes (all_fields all) in
    let moved : (tail : List ℕ) → so_far ++ (w.bytes ++ tail) ≡ next ++ tail = λ tail. sym (append_assoc so_far w.bytes tail) ∙ ap (λ (l : List ℕ). l ++ tail) (sym w.behind) in
    let a = w.spelt.4 in
    let front : List ℕ = code_of f.kind ++ length f.name ∷ f.name ++ value_count (all_values f.values) ∷ a in
    let ends : w.bytes ≡ front = w.spelt.6 ∙ ap (λ (l : List ℕ). front ++ l) w.spelt.8 ∙ append-nil front in
    record {
      sound = h.sound.5;
      depth = omega (arith, h.depth);
      completes = λ tail t. subst (λ (l : List ℕ). Appends P start l) (moved tail)
          (h.completes (w.bytes ++ tail) (h.sound.0, h.sound.1, h.sound.2, h.sound.3, a, tail, ap (λ (l : List ℕ). l ++ tail) ends, w.spelt.7, t));
    }

pub every_field : {X : Type 0} (view : X → Field) (xs : List X) (i : ℕ) (start done : List ℕ) → length xs ≤ i
    → WritesFields (map view xs) (map view (drop i xs)) start done → Appends (λ bytes. SpellsFields bytes (all_fields (map view xs))) start done
every_field view xs i start done le w =
    let P : List Field → Type 0 = λ left. WritesFields (map view xs) left start done in
    let h = subst P (none_left view xs i le) w in
    subst (λ (l : List ℕ). Appends (λ bytes. SpellsFields bytes (all_fields (map view xs))) start l) (append-nil done) (h.completes [] refl)

-- ---- a field, and a message

-- four parts behind a start
row_of_four : (start a b c d : List ℕ) → (((start ++ a) ++ b) ++ c) ++ d ≡ start ++ (((a ++ b) ++ (c ++ d)) ++ [])
row_of_four start a b c d = simp (append_assoc, append-nil {A = ℕ})

pub whole_field : (f : Field) (start coded named counted done letters name : List ℕ) (count : ℕ) → AreSoundFields (all_fields (f ∷ []))
    → letters ≡ code_of f.kind → name ≡ f.name → count ≡ length f.values → coded ≡ start ++ letters → named ≡ coded ++ length name ∷ name → counted ≡ named ++ count ∷ []
    → Appends (λ bytes. SpellsValues f.kind bytes (all_values f.values)) counted done → Appends (λ bytes. SpellsFields bytes (all_fields (f ∷ []))) start done
whole_field f start coded named counted done letters name count h same_code same_name same_count c n k w =
    let sized : List ℕ = length name ∷ name in
    let spelling : List ℕ = letters ++ length name ∷ name ++ count ∷ w.bytes ++ [] in
    let row : done ≡ start ++ spelling =
    w.behind ∙ ap (λ (l : List ℕ). l ++ w.bytes) (k ∙ ap (λ (l : List ℕ). l ++ count ∷ []) (n ∙ ap (λ (l : List ℕ). l ++ sized) c)) ∙ row_of_four start letters sized (count ∷ []) w.bytes in
    let spelt : spelling ≡ code_of f.kind ++ length f.name ∷ f.name ++ value_count (all_values f.values) ∷ w.bytes ++ [] = rw (same_code, same_name, same_count, values_are f.values) refl in
    record { bytes = spelling; spelt = (h.0, refl, h.2, h.3, w.bytes, [], spelt, w.spelt, refl); behind = row }

pub whole_message : (m : Message) (start headed counted done : List ℕ) (what count : ℕ) (fields : List Field) → IsMessage m
    → what ≡ m.what → count ≡ length m.fields → fields ≡ m.fields → headed ≡ start ++ to_le_bytes w32 what → counted ≡ headed ++ count ∷ []
    → Appends (λ bytes. SpellsFields bytes (all_fields fields)) counted done → Appends (λ bytes. Spells bytes m) start done
whole_message m start headed counted done what count fields h same_what same_count same_fields n k w =
    let spelling : List ℕ = to_le_bytes w32 what ++ count ∷ w.bytes in
    let row : done ≡ start ++ spelling = w.behind ∙ ap (λ (l : List ℕ). l ++ w.bytes) (k ∙ ap (λ (l : List ℕ). l ++ count ∷ []) n) ∙ append_three start (to_le_bytes w32 what) (count ∷ []) w.bytes in
    let spelt : spelling ≡ to_le_bytes w32 m.what ++ field_count (all_fields m.fields) ∷ w.bytes = ap (λ (n : ℕ). to_le_bytes w32 n ++ count ∷ w.bytes) same_what ∙ ap (λ (n : ℕ). to_le_bytes w32 m.what ++ n ∷ w.bytes) (same_count ∙ sym (count_is m.fields)) in
    let P : List Field → Type 0 = λ fs. SpellsFields w.bytes (all_fields fs) in
    record { bytes = spelling; spelt = record { depth = h.depth; parts = (h.sound.0, h.sound.1, w.bytes, spelt, subst P same_fields w.spelt) }; behind = row }

-- ---- two parts in a row

pub row_of_two : {P Q R : List ℕ → Type 0} (start middle done : List ℕ) → ((a b : List ℕ) → P a → Q b → R (a ++ b)) → Appends P start middle → Appends Q middle done → Appends R start done
row_of_two start middle done joins p q =
    record { bytes = p.bytes ++ q.bytes; spelt = joins p.bytes q.bytes p.spelt q.spelt; behind = q.behind ∙ ap (λ (l : List ℕ). l ++ q.bytes) p.behind ∙ append_assoc start p.bytes q.bytes }
