-- The words of a draft are put into its message one after the other, and none is refused.
use Rattle.std.proofs.Common.{◌≡◌, ℕ, ◌+◌, ◌<◌, ◌≤◌, true, false, not, ◌&&◌, ◌||◌, List, [], ◌∷◌, ◌++◌, length, Option, Some, None, inl, inr, refl, sym, ap, ◌∙◌, arith, append-nil, get_or, drop}
use Rattle.std.specs.List.{list_any, list_all, fold}
use Rattle.std.specs.Option.{IsSomeAnd, option_to_list}
use Rattle.std.specs.Prelude.{nat_le}
use Rattle.std.specs.Str.{bytes_eq}
use Rattle.std.proofs.lemmas.Bool.{and_parts, cases_Bool, not-true, leb-true, le-leb, lt-leb}
use Rattle.std.proofs.lemmas.List.{length_push, drop_more, drop_all}
use Rattle.std.proofs.lemmas.Slice.Eq.{bytes_eq-Decides}
use Rattle.std.proofs.lemmas.Bool.{or_right}
use Rattle.be_message.specs.Depths.{depth_of}
use Rattle.be_message.specs.Fields.{has_name, field_named, is_allowed, add_refusal, with_one_more, new_field, with_value_in}
use Rattle.be_message.specs.Kinds.{is_kind}
use Rattle.be_message.specs.Messages.{Datum, bool, int, text, point, rect, message, Field, Message, packed}
use Rattle.be_message.specs.Names.{is_name}
use Rattle.be_message.specs.Sound.{kind_of}
use Rattle.be_actor.specs.Conditions.{keeps_fields, takes_current, HasCurrent}
use Rattle.be_actor.specs.declared.FieldWord.{FieldWord}
use Rattle.be_actor.specs.Drafts.{DraftWords, Word, value, current, copied, with_word, filled}
use Rattle.be_actor.specs.DraftViews.{seen_word, seen_words}
use Rattle.be_actor.specs.Filling.{FitsInto}
use Rattle.be_actor.specs.Limits.{is_spelt, is_word, go_together, all_go_together}
use Rattle.be_actor.proofs.FieldLemmas.{any_none, found_name, last_other, value_other, value_more, value_new, value_length}

-- ---- one word more

abbrev name_of : Word → List ℕ
name_of (value name d) = name
name_of (current name) = name
name_of (copied name) = name

copied_other : (a b : List ℕ) (fs gs : List Field) (o : Option Field) → field_named a gs ≡ o → bytes_eq a b ≡ false → field_named b (fs ++ option_to_list o) ≡ field_named b fs
copied_other a b fs gs (Some g) e h =
    let n : g.name ≡ a = found_name a gs g e in
    let other : has_name b g ≡ false = rw n h in
    last_other b fs g other
copied_other a b fs gs None e h = ap (field_named b) (append-nil fs)

-- what stands under another name stays
other_stays : (now : Option Message) (m : Message) (w : Word) (b : List ℕ) → bytes_eq (name_of w) b ≡ false → field_named b (with_word now m w).fields ≡ field_named b m.fields
other_stays now m (value a d) b h = value_other m.fields a d b h
other_stays (Some c) m (current a) b h = value_other m.fields a (packed c) b h
other_stays None m (current a) b h = refl
other_stays (Some c) m (copied a) b h = copied_other a b m.fields c.fields (field_named a c.fields) refl h
other_stays None m (copied a) b h = refl

copied_length : (fs : List Field) (o : Option Field) → length (fs ++ option_to_list o) ≤ length fs + 1
copied_length fs (Some g) = omega (arith, length_push fs g)
copied_length fs None = omega (arith, ap length (append-nil fs))

one_field_more : (now : Option Message) (m : Message) (w : Word) → length (with_word now m w).fields ≤ length m.fields + 1
one_field_more now m (value a d) = value_length m.fields a d
one_field_more (Some c) m (current a) = value_length m.fields a (packed c)
one_field_more None m (current a) = omega arith
one_field_more (Some c) m (copied a) = copied_length m.fields (field_named a c.fields)
one_field_more None m (copied a) = omega arith

-- ---- what goes with the fields that stand there, after some words

abbrev SuitsField : ℕ → Datum → Option Field → Type 0
SuitsField n d (Some f) = (is_kind f.kind (kind_of d) ≡ true) × (length f.values ≤ n)
SuitsField n d None = Unit {0}

abbrev Suits : ℕ → List Field → Word → Type 0
Suits n fs (value name d) = SuitsField n d (field_named name fs)
Suits n fs (current name) = field_named name fs ≡ None
Suits n fs (copied name) = field_named name fs ≡ None

abbrev pub AllSuit : ℕ → List Field → List Word → Type 0
AllSuit n fs [] = Unit {0}
AllSuit n fs (w ∷ ws) = Suits n fs w × AllSuit n fs ws

suits_later : (n : ℕ) (d : Datum) (o : Option Field) → SuitsField n d o → SuitsField (n + 1) d o
suits_later n d (Some f) s = (s.0, omega (arith, s.1))
suits_later n d None s = tt

same_name : (n : ℕ) (fs : List Field) (a : List ℕ) (x y : Datum) (o : Option Field) → field_named a fs ≡ o → is_kind (kind_of x) (kind_of y) ≡ true → SuitsField n y o → SuitsField (n + 1) y (field_named a (with_value_in fs a x))
same_name n fs a x y (Some f) e k s =
    let more : field_named a (with_value_in fs a x) ≡ Some (with_one_more x f) = value_more fs a x f e in
    rw more (s.0, omega (arith, s.1, length_push f.values x))
same_name n fs a x y None e k s =
    let new : field_named a (with_value_in fs a x) ≡ Some (new_field a x) = value_new fs a x e in
    rw new (k, omega arith)

values_suit : (n : ℕ) (fs : List Field) (a b : List ℕ) (x y : Datum) → (not (bytes_eq a b) || is_kind (kind_of x) (kind_of y)) ≡ true → SuitsField n y (field_named b fs) → SuitsField (n + 1) y (field_named b (with_value_in fs a x))
values_suit n fs a b x y h s =
    elim (cases_Bool (bytes_eq a b)) [
      | inl t ↦
          let k : is_kind (kind_of x) (kind_of y) ≡ true = rw t at h in
          let same : b ≡ a = sym ((bytes_eq-Decides a b).0 t) in
          let P : List ℕ → Type 0 = λ name. SuitsField n y (field_named name fs) → SuitsField (n + 1) y (field_named name (with_value_in fs a x)) in
          let all : P a = same_name n fs a x y (field_named a fs) refl k in
          let back : P b = rw same all in
          back s
      | inr t ↦
          let stays : field_named b (with_value_in fs a x) ≡ field_named b fs = value_other fs a x b t in
          rw stays (suits_later n y (field_named b fs) s)
    ]

value_later : (now : Option Message) (n : ℕ) (m : Message) (w : Word) (b : List ℕ) (y : Datum) → bytes_eq (name_of w) b ≡ false → SuitsField n y (field_named b m.fields) → SuitsField (n + 1) y (field_named b (with_word now m w).fields)
value_later now n m w b y h s =
    let stays : field_named b (with_word now m w).fields ≡ field_named b m.fields = other_stays now m w b h in
    rw stays (suits_later n y (field_named b m.fields) s)

suits_after : (now : Option Message) (n : ℕ) (m : Message) (w v : Word) → go_together w v ≡ true → Suits n m.fields v → Suits (n + 1) (with_word now m w).fields v
suits_after now n m (value a x) (value b y) g s = values_suit n m.fields a b x y g s
suits_after now n m (value a x) (current b) g s = other_stays now m (value a x) b (not-true _ g) ∙ s
suits_after now n m (value a x) (copied b) g s = other_stays now m (value a x) b (not-true _ g) ∙ s
suits_after now n m (current a) (value b y) g s = value_later now n m (current a) b y (not-true _ g) s
suits_after now n m (current a) (current b) g s = absurd (cc)
suits_after now n m (current a) (copied b) g s = absurd (cc)
suits_after now n m (copied a) (value b y) g s = value_later now n m (copied a) b y (not-true _ g) s
suits_after now n m (copied a) (current b) g s = absurd (cc)
suits_after now n m (copied a) (copied b) g s = other_stays now m (copied a) b (not-true _ g) ∙ s

all_suit_after : (now : Option Message) (n : ℕ) (m : Message) (w : Word) (ws : List Word) → list_all (go_together w) ws ≡ true → AllSuit n m.fields ws → AllSuit (n + 1) (with_word now m w).fields ws
all_suit_after now n m w [] g s = tt
all_suit_after now n m w (v ∷ vs) g s =
    let p = and_parts (go_together w v) (list_all (go_together w) vs) g in
    (suits_after now n m w v p.0 s.0, all_suit_after now n m w vs p.1 s.1)

-- ---- the message so far, and the words that are left

pub record IsReady (now : Option Message) (n : ℕ) (m : Message) (rest : List Word) : Type 0 where
  pub few : length m.fields ≤ n
  pub room : n + length rest ≤ 255
  pub words : list_all (is_word true) rest ≡ true
  pub together : all_go_together rest ≡ true
  pub suit : AllSuit n m.fields rest
  pub current : HasCurrent rest now

none_stands : (ws : List Word) → AllSuit 0 [] ws
none_stands [] = tt
none_stands (value name d ∷ ws) = (tt, none_stands ws)
none_stands (current name ∷ ws) = (refl, none_stands ws)
none_stands (copied name ∷ ws) = (refl, none_stands ws)

pub ready_first : (now : Option Message) (draft : DraftWords) → keeps_fields draft ≡ true → HasCurrent draft.words now → IsReady now 0 (record { what = draft.what; fields = [] }) draft.words
ready_first now draft kept given =
    let p = and_parts (nat_le (length draft.words) 255 && list_all (is_word true) draft.words) (all_go_together draft.words) kept in
    let q = and_parts (nat_le (length draft.words) 255) (list_all (is_word true) draft.words) p.0 in
    record {
      few = omega arith;
      room = omega (arith, leb-true _ _ q.0);
      words = q.1;
      together = p.1;
      suit = none_stands draft.words;
      current = given;
    }

pub ready_after : (now : Option Message) (n : ℕ) (m : Message) (w : Word) (ws : List Word) → IsReady now n m (w ∷ ws) → IsReady now (n + 1) (with_word now m w) ws
ready_after now n m w ws r =
    let p = and_parts (is_word true w) (list_all (is_word true) ws) r.words in
    let g = and_parts (list_all (go_together w) ws) (all_go_together ws) r.together in
    record {
      few = omega (arith, r.few, one_field_more now m w);
      room = omega (arith, r.room);
      words = p.1;
      together = g.1;
      suit = all_suit_after now n m w ws g.0 r.suit.1;
      current = λ h. r.current (or_right (takes_current w) (list_any takes_current ws) h);
    }

-- ---- no word is refused

not_full : (n : ℕ) → n < 255 → nat_le 255 n ≡ false
not_full n h = lt-leb 255 n h

taken : (m : Message) (name : List ℕ) (d : Datum) (n : ℕ) (o : Option Field) → field_named name m.fields ≡ o → is_name name ≡ true → is_allowed d ≡ true → SuitsField n d o → length m.fields ≤ n → n < 255 → add_refusal m name d ≡ None
taken m name d n (Some f) e named allowed s few room =
    let free : nat_le 255 (length f.values) ≡ false = not_full _ (omega (arith, s.1)) in
    rw (named, allowed, e, s.0, free)
taken m name d n None e named allowed s few room =
    let free : nat_le 255 (length m.fields) ≡ false = not_full _ (omega arith) in
    rw (named, allowed, e, free)

is_taken_if_spelt : (d : Datum) → is_spelt d ≡ true → is_allowed d ≡ true
is_taken_if_spelt (bool b) h = refl
is_taken_if_spelt (int z) h = refl
is_taken_if_spelt (text t) h = (and_parts _ _ h).0
is_taken_if_spelt (point p) h = refl
is_taken_if_spelt (rect r) h = refl
is_taken_if_spelt (message what fs) h = absurd (cc)

current_taken : (now : Option Message) (m : Message) (name : List ℕ) (n : ℕ) → is_name name ≡ true → field_named name m.fields ≡ None → length m.fields ≤ n → n < 255 → IsSomeAnd now (λ c. depth_of c ≤ 15) → IsSomeAnd now (λ c. add_refusal m name (packed c) ≡ None)
current_taken (Some c) m name n named e few room h =
    let deep : depth_of c + 1 ≤ 16 = omega (arith, h) in
    let allowed : is_allowed (packed c) ≡ true = le-leb _ _ (omega (arith, deep)) in
    taken m name (packed c) n None e named allowed tt few room
current_taken None m name n named e few room h = absurd h

copied_taken : (now : Option Message) (m : Message) (name : List ℕ) (n : ℕ) → field_named name m.fields ≡ None → length m.fields ≤ n → n < 255 → IsSomeAnd now (λ c. depth_of c ≤ 15) → IsSomeAnd now (λ c. (list_any (has_name name) m.fields ≡ false) × (length m.fields < 255))
copied_taken (Some c) m name n e few room h = (any_none name m.fields e, omega arith)
copied_taken None m name n e few room h = absurd h

pub ready_fits : (now : Option Message) (n : ℕ) (m : Message) (w : Word) (ws : List Word) → IsReady now n m (w ∷ ws) → FitsInto now m w
ready_fits now n m (value name d) ws r =
    let p = and_parts (is_word true (value name d)) (list_all (is_word true) ws) r.words in
    let q = and_parts (is_name name) (is_spelt d) p.0 in
    (q.0, taken m name d n (field_named name m.fields) refl q.0 (is_taken_if_spelt d q.1) r.suit.0 r.few (omega (arith, r.room)))
ready_fits now n m (current name) ws r =
    let p = and_parts (is_word true (current name)) (list_all (is_word true) ws) r.words in
    (p.0, current_taken now m name n p.0 r.suit.0 r.few (omega (arith, r.room)) (r.current refl))
ready_fits now n m (copied name) ws r =
    let p = and_parts (is_word true (copied name)) (list_all (is_word true) ws) r.words in
    (p.0, copied_taken now m name n r.suit.0 r.few (omega (arith, r.room)) (r.current refl))

-- ---- at a step of the loop

-- the words that are left make the draft's message of the one so far
pub record IsFilling (now : Option Message) (draft : DraftWords) (n : ℕ) (m : Message) (rest : List Word) : Type 0 where
  pub goes_on : fold (with_word now) m rest ≡ fold (with_word now) (record { what = draft.what; fields = [] }) draft.words
  pub ready : IsReady now n m rest

pub filling_first : (now : Option Message) (draft : DraftWords) → keeps_fields draft ≡ true → HasCurrent draft.words now → IsFilling now draft 0 (record { what = draft.what; fields = [] }) draft.words
filling_first now draft kept given = record { goes_on = refl; ready = ready_first now draft kept given }

pub filling_after : (now : Option Message) (draft : DraftWords) (n : ℕ) (m : Message) (w : Word) (ws : List Word) → IsFilling now draft n m (w ∷ ws) → IsFilling now draft (n + 1) (with_word now m w) ws
filling_after now draft n m w ws f = record { goes_on = f.goes_on; ready = ready_after now n m w ws f.ready }

pub filling_last : (now : Option Message) (draft : DraftWords) (n : ℕ) (m : Message) → IsFilling now draft n m [] → m ≡ filled draft now
unfolding filled
filling_last now draft n m f = f.goes_on

pub words_left : (words : List FieldWord) (i : ℕ) (word : FieldWord) → i < length words → word ≡ get_or words i word → seen_words (drop i words) ≡ seen_word word ∷ seen_words (drop (i + 1) words)
words_left words i word short is =
    ap seen_words (drop_more words i word short) ∙ ap (λ w. seen_word w ∷ seen_words (drop (i + 1) words)) (sym is)

pub none_left : (words : List FieldWord) (i : ℕ) → length words ≤ i → seen_words (drop i words) ≡ []
none_left words i h = ap seen_words (drop_all i words h)
