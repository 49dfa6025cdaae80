-- What stands under a name after one word more, and which words go together.
use Rattle.std.proofs.Common.{◌≡◌, ℕ, Bool, true, false, not, ◌&&◌, ◌||◌, cond, List, [], ◌∷◌, ◌++◌, Option, Some, None, refl, ap, sym, ◌∙◌, eq-eqb, eqb-true}
use Rattle.std.specs.Option.{option_or}
use Rattle.std.specs.List.{list_all, list_any}
use Rattle.std.specs.Str.{bytes_eq}
use Rattle.std.proofs.lemmas.List.Folds.{list_any-append}
use Rattle.std.proofs.lemmas.Slice.Eq.{bytes_eq-Decides}
use Rattle.be_facts.proofs.Truths.{or_false, and_false, and_first, and_second}
use Rattle.be_facts.proofs.Bytes.{bytes_eq_turned}
use Rattle.be_actor.specs.Drafts.{Word, value, current, copied}
use Rattle.be_actor.specs.Limits.{go_together, all_go_together}
use Rattle.be_message.specs.Messages.{Datum}
use Rattle.be_message.specs.declared.kind.Kind.{Kind}
use Rattle.be_message.specs.Kinds.{is_kind, kind_number}
use Rattle.be_message.specs.Sound.{kind_of}
use Rattle.be_message.proofs.SoundLemmas.{same_kind}
use Rattle.be_line.specs.Words.{name_of, sort_of, is_current, is_copied, standing, fits, is_free, goes_with}

-- ---- names and types

-- a name that is this one is like another where this one is
like_name : (a b c : List ℕ) → bytes_eq a b ≡ true → bytes_eq c b ≡ bytes_eq a c
like_name a b c same = ap (bytes_eq c) (sym ((bytes_eq-Decides a b).0 same)) ∙ bytes_eq_turned c a

-- types that are one have one number
like_kind : (x y z : Kind) → is_kind x y ≡ true → is_kind x z ≡ true → is_kind z y ≡ true
like_kind x y z one other =
    eq-eqb (kind_number z) (kind_number y) (sym (eqb-true (kind_number x) (kind_number z) other) ∙ eqb-true (kind_number x) (kind_number y) one)

-- ---- a value beside others

either : (v w u : Bool) → (u ≡ true → w ≡ true) → (not v || u) ≡ true → (not v || w) ≡ true
either true w u step h = step h
either false w u step h = refl

-- what goes with the first value of a name goes with another of its type
beside_one : (a b : List ℕ) (x y : Datum) (w : Word) → bytes_eq a b ≡ true → is_kind (kind_of x) (kind_of y) ≡ true →
    go_together (value a x) w ≡ true → go_together w (value b y) ≡ true
beside_one a b x y (value c z) same kind h =
    ap (λ v. not v || is_kind (kind_of z) (kind_of y)) (like_name a b c same)
    ∙ either (bytes_eq a c) (is_kind (kind_of z) (kind_of y)) (is_kind (kind_of x) (kind_of z)) (like_kind (kind_of x) (kind_of y) (kind_of z) kind) h
beside_one a b x y (current c) same kind h = ap not (like_name a b c same) ∙ h
beside_one a b x y (copied c) same kind h = ap not (like_name a b c same) ∙ h

beside_all : (a b : List ℕ) (x y : Datum) (ws : List Word) → bytes_eq a b ≡ true → is_kind (kind_of x) (kind_of y) ≡ true →
    list_all (go_together (value a x)) ws ≡ true → list_all (λ w. go_together w (value b y)) ws ≡ true
beside_all a b x y [] same kind h = refl
beside_all a b x y (w ∷ ws) same kind h =
    ap (λ v. v && list_all (λ w. go_together w (value b y)) ws) (beside_one a b x y w same kind (and_first _ _ h))
    ∙ beside_all a b x y ws same kind (and_second _ _ h)

first_value : (v k : Bool) (kind : Kind) (there : Option (Option Kind)) (other : Kind) (rest : Bool) → is_kind kind other ≡ k →
    (v ≡ true → k ≡ true → rest ≡ true) → (v ≡ false → rest ≡ fits there other) →
    ((not v || k) && rest) ≡ fits (cond v (Some (Some kind)) there) other
first_value true true kind there other rest same all some = all refl refl ∙ sym same
first_value true false kind there other rest same all some = sym same
first_value false k kind there other rest same all some = some refl

first_alone : (v : Bool) (there : Option (Option Kind)) (other : Kind) (rest : Bool) → rest ≡ fits there other →
    (not v && rest) ≡ fits (cond v (Some None) there) other
first_alone true there other rest same = refl
first_alone false there other rest same = same

value_goes : (ws : List Word) (b : List ℕ) (y : Datum) → all_go_together ws ≡ true →
    list_all (λ w. go_together w (value b y)) ws ≡ fits (standing ws b) (kind_of y)
value_goes [] b y together = refl
value_goes (value a x ∷ ws) b y together =
    first_value (bytes_eq a b) (is_kind (kind_of x) (kind_of y)) (kind_of x) (standing ws b) (kind_of y) _ refl
    (λ same kind. beside_all a b x y ws same kind (and_first _ _ together))
    (λ _. value_goes ws b y (and_second _ _ together))
value_goes (current a ∷ ws) b y together = first_alone (bytes_eq a b) (standing ws b) (kind_of y) _ (value_goes ws b y (and_second _ _ together))
value_goes (copied a ∷ ws) b y together = first_alone (bytes_eq a b) (standing ws b) (kind_of y) _ (value_goes ws b y (and_second _ _ together))

-- ---- what stands alone

free_step : (v : Bool) (sort : Option Kind) (there : Option (Option Kind)) (c d rest : Bool) → rest ≡ (c && (d && is_free there)) →
    (not v && rest) ≡ (c && (d && is_free (cond v (Some sort) there)))
free_step true sort there c d rest same = sym (ap (λ e. c && e) (and_false d) ∙ and_false c)
free_step false sort there c d rest same = same

current_goes : (ws : List Word) (b : List ℕ) →
    list_all (λ w. go_together w (current b)) ws ≡ (not (list_any is_current ws) && (not (list_any is_copied ws) && is_free (standing ws b)))
current_goes [] b = refl
current_goes (value a x ∷ ws) b =
    free_step (bytes_eq a b) (Some (kind_of x)) (standing ws b) (not (list_any is_current ws)) (not (list_any is_copied ws)) _ (current_goes ws b)
current_goes (current a ∷ ws) b = refl
current_goes (copied a ∷ ws) b = sym (and_false (not (list_any is_current ws)))

copied_step : (v : Bool) (sort : Option Kind) (there : Option (Option Kind)) (c rest : Bool) → rest ≡ (c && is_free there) →
    (not v && rest) ≡ (c && is_free (cond v (Some sort) there))
copied_step true sort there c rest same = sym (and_false c)
copied_step false sort there c rest same = same

copied_goes : (ws : List Word) (b : List ℕ) →
    list_all (λ w. go_together w (copied b)) ws ≡ (not (list_any is_current ws) && is_free (standing ws b))
copied_goes [] b = refl
copied_goes (value a x ∷ ws) b = copied_step (bytes_eq a b) (Some (kind_of x)) (standing ws b) (not (list_any is_current ws)) _ (copied_goes ws b)
copied_goes (current a ∷ ws) b = refl
copied_goes (copied a ∷ ws) b = copied_step (bytes_eq a b) None (standing ws b) (not (list_any is_current ws)) _ (copied_goes ws b)

-- what is known of words that go together says which goes with them
pub word_goes : (ws : List Word) (w : Word) → all_go_together ws ≡ true →
    list_all (λ other. go_together other w) ws ≡ goes_with (standing ws (name_of w)) (list_any is_current ws) (list_any is_copied ws) w
word_goes ws (value b y) together = value_goes ws b y together
word_goes ws (current b) together = current_goes ws b
word_goes ws (copied b) together = copied_goes ws b

-- ---- one word more

chosen : (v : Bool) (sort : Option Kind) (there more : Option (Option Kind)) → cond v (Some sort) (option_or there more) ≡ option_or (cond v (Some sort) there) more
chosen true sort there more = refl
chosen false sort there more = refl

-- the first word of a name counts
pub standing_more : (ws : List Word) (w : Word) (name : List ℕ) →
    standing (ws ++ w ∷ []) name ≡ option_or (standing ws name) (cond (bytes_eq (name_of w) name) (Some (sort_of w)) None)
standing_more [] w name = refl
standing_more (other ∷ ws) w name =
    ap (cond (bytes_eq (name_of other) name) (Some (sort_of other))) (standing_more ws w name)
    ∙ chosen (bytes_eq (name_of other) name) (sort_of other) (standing ws name) _

none_or : (before : Option (Option Kind)) → before ≡ option_or before None
none_or None = refl
none_or (Some sort) = refl

-- a word that goes with others is of the sort of what stands under its name, if anything does
same_sort : (there : Option (Option Kind)) (c d : Bool) (w : Word) → goes_with there c d w ≡ true → option_or there (Some (sort_of w)) ≡ Some (sort_of w)
same_sort None c d w goes = refl
same_sort (Some (Some kind)) c d (value name datum) goes = ap (λ k. Some (Some k)) (sym (same_kind kind (kind_of datum) goes))
same_sort (Some None) c d (value name datum) goes = (cc)
same_sort (Some sort) c d (current name) goes = (cc (and_second (not d) false (and_second (not c) (not d && false) goes)))
same_sort (Some sort) c d (copied name) goes = (cc (and_second (not c) false goes))

put_step : (v : Bool) (sort : Option Kind) (there before : Option (Option Kind)) → (v ≡ true → before ≡ there) →
    option_or there (Some sort) ≡ Some sort → cond v (Some sort) before ≡ option_or before (cond v (Some sort) None)
put_step true sort there before same first = sym (ap (λ b. option_or b (Some sort)) (same refl) ∙ first)
put_step false sort there before same first = none_or before

-- what stands once the sort of a word that goes with the others was put under its name
pub stands_then : (there : List ℕ → Option (Option Kind)) (ws : List Word) (w : Word) (c d : Bool) → ((other : List ℕ) → there other ≡ standing ws other) →
    goes_with (there (name_of w)) c d w ≡ true → (other : List ℕ) →
    cond (bytes_eq (name_of w) other) (Some (sort_of w)) (there other) ≡ standing (ws ++ w ∷ []) other
stands_then there ws w c d known goes other =
    ap (cond (bytes_eq (name_of w) other) (Some (sort_of w))) (known other)
    ∙ put_step (bytes_eq (name_of w) other) (sort_of w) (there (name_of w)) (standing ws other)
    (λ same. ap (standing ws) (sym ((bytes_eq-Decides (name_of w) other).0 same)) ∙ sym (known (name_of w)))
    (same_sort (there (name_of w)) c d w goes)
    ∙ sym (standing_more ws w other)

-- whether one of them is of a sort
pub any_more : (test : Word → Bool) (ws : List Word) (w : Word) → (list_any test ws || test w) ≡ list_any test (ws ++ w ∷ [])
any_more test ws w = sym (list_any-append test ws (w ∷ []) ∙ ap (λ v. list_any test ws || v) (or_false (test w)))
