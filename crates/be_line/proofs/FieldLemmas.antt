-- The words of FIELDS, read one after the other, are those of the whole line.
use Rattle.std.proofs.Common.{◌≡◌, Bool, true, false, ◌&&◌, cond, List, [], ◌∷◌, ◌++◌, Option, Some, None, Result, Ok, Err, refl, ap, sym, subst, ◌∙◌, append_assoc}
use Rattle.std.specs.Prelude.{fold, option_map, OnOk}
use Rattle.std.specs.List.{list_all, list_any}
use Rattle.std.proofs.lemmas.List.{map-append}
use Rattle.std.proofs.lemmas.List.Folds.{list_all-append}
use Rattle.std.proofs.lemmas.Bool.{and_from}
use Rattle.be_facts.proofs.Truths.{and_false, and_first, and_second, and_true}
use Rattle.be_actor.specs.declared.FieldWord.{FieldWord}
use Rattle.be_actor.specs.Drafts.{Word}
use Rattle.be_actor.specs.DraftViews as views
use Rattle.be_actor.specs.Limits.{go_together, all_go_together}
use Rattle.be_command.specs.declared.fault.Reason.TheVariants.{Shape}
use Rattle.be_line.specs.declared.fields.GivenFields.{GivenFields}
use Rattle.be_line.specs.declared.standing.Standing.{Standing}
use Rattle.be_line.specs.Fields.{all_there, is_in_range, ranged, together}
use Rattle.be_line.specs.Standing.{IsFormed, IsGiven, IsPushed, IsStanding, kind_under}
use Rattle.be_line.specs.Words.{ended, goes_with, is_current, name_of, next, standing}
use Rattle.be_line.proofs.StandingLemmas.{word_goes}

-- ---- words that go together

-- a word goes with each of these
abbrev goes : List Word → Word → Bool
goes ws w = list_all (λ other. go_together other w) ws

shuffled : (a b c d : Bool) → ((a && (b && true)) && (c && d)) ≡ ((a && c) && (b && d))
shuffled true true c d = refl
shuffled true false true d = refl
shuffled true false false d = refl
shuffled false b c d = refl

-- one more goes with others where it goes with each
together_more : (ws : List Word) (w : Word) → all_go_together (ws ++ w ∷ []) ≡ (all_go_together ws && goes ws w)
together_more [] w = refl
together_more (other ∷ ws) w =
    ap (λ b. b && all_go_together (ws ++ w ∷ [])) (list_all-append (go_together other) ws (w ∷ []))
    ∙ ap (λ b. (list_all (go_together other) ws && (go_together other w && true)) && b) (together_more ws w)
    ∙ shuffled (list_all (go_together other) ws) (go_together other w) (all_go_together ws) (goes ws w)

together_then : (ws : List Word) (w : Word) → all_go_together ws ≡ true → goes ws w ≡ true → all_go_together (ws ++ w ∷ []) ≡ true
together_then ws w all one = together_more ws w ∙ and_from (all_go_together ws) (goes ws w) all one

broken_step : (a b c d : Bool) → (a && c) ≡ false → (c ≡ false → d ≡ false) → ((a && b) && d) ≡ false
broken_step true b true d broken same = (cc)
broken_step true b false d broken same = ap (λ v. (true && b) && v) (same refl) ∙ and_false (true && b)
broken_step false b c d broken same = refl

-- where one doesn't go with those before it, all don't go together
together_prefix : (ws more : List Word) → all_go_together ws ≡ false → all_go_together (ws ++ more) ≡ false
together_prefix [] more broken = (cc)
together_prefix (w ∷ ws) more broken =
    ap (λ b. b && all_go_together (ws ++ more)) (list_all-append (go_together w) ws more)
    ∙ broken_step (list_all (go_together w) ws) (list_all (go_together w) more) (all_go_together ws) (all_go_together (ws ++ more)) broken (together_prefix ws more)

together_broken : (ws : List Word) (w : Word) (more : List Word) → goes ws w ≡ false → all_go_together (ws ++ w ∷ more) ≡ false
together_broken ws w more broken =
    ap all_go_together (sym (append_assoc ws (w ∷ []) more))
    ∙ together_prefix (ws ++ w ∷ []) more (together_more ws w ∙ ap (λ b. all_go_together ws && b) broken ∙ and_false (all_go_together ws))

-- ---- to the last word

nothing_next : (xs : List (Option Word)) → fold next None xs ≡ None
nothing_next [] = refl
nothing_next (x ∷ xs) = nothing_next xs

append-none : (ws : List Word) → ws ≡ ws ++ []
append-none [] = refl
append-none (w ∷ ws) = ap (λ more. w ∷ more) (append-none ws)

whole : (ws : List Word) → all_go_together ws ≡ true → ranged ws ≡ together (Some (ws ++ []))
whole ws all =
    sym (ap (λ b. cond b (ranged ws) (Err Shape)) all) ∙ ap (λ more. together (Some more)) (append-none ws)

moved : (ws : List Word) (w : Word) (more : Option (List Word)) →
    option_map (λ rest. (ws ++ w ∷ []) ++ rest) more ≡ option_map (λ rest. ws ++ rest) (option_map (λ rest. w ∷ rest) more)
moved ws w None = refl
moved ws w (Some rest) = ap Some (append_assoc ws (w ∷ []) rest)

refused : (ws : List Word) (w : Word) (more : Option (List Word)) → goes ws w ≡ false →
    Err Shape ≡ together (option_map (λ rest. ws ++ rest) (option_map (λ rest. w ∷ rest) more))
refused ws w None broken = refl
refused ws w (Some rest) broken =
    sym (ap (λ b. cond b (ranged (ws ++ w ∷ rest)) (Err Shape)) (together_broken ws w rest broken))

told_step : (ws : List Word) (w : Word) (xs : List (Option Word)) (v : Bool) → goes ws w ≡ v →
    (v ≡ true → ended (fold next (Some (ws ++ w ∷ [])) xs) ≡ together (option_map (λ rest. (ws ++ w ∷ []) ++ rest) (all_there xs))) →
    ended (fold next (cond v (Some (ws ++ w ∷ [])) None) xs) ≡ together (option_map (λ rest. ws ++ rest) (option_map (λ rest. w ∷ rest) (all_there xs)))
told_step ws w xs true e rest = rest refl ∙ ap together (moved ws w (all_there xs))
told_step ws w xs false e rest = ap ended (nothing_next xs) ∙ refused ws w (all_there xs) e

told_from : (xs : List (Option Word)) (ws : List Word) → all_go_together ws ≡ true →
    ended (fold next (Some ws) xs) ≡ together (option_map (λ rest. ws ++ rest) (all_there xs))
told_from [] ws all = whole ws all
told_from (None ∷ xs) ws all = ap ended (nothing_next xs)
told_from (Some w ∷ xs) ws all =
    told_step ws w xs (goes ws w) refl (λ one. told_from xs (ws ++ w ∷ []) (together_then ws w all one))

all_same : (more : Option (List Word)) → option_map (λ rest. [] ++ rest) more ≡ more
all_same None = refl
all_same (Some rest) = refl

-- one after the other they say what they say together
pub fields_are_told : (xs : List (Option Word)) → ended (fold next (Some []) xs) ≡ together (all_there xs)
fields_are_told xs = told_from xs [] refl ∙ ap together (all_same (all_there xs))

-- ---- what the code knows

goes_is : (ws : List Word) (w : Word) (s : Standing) → IsStanding ws s → all_go_together ws ≡ true →
    goes_with (kind_under s (name_of w)) s.has_current s.has_copy w ≡ goes ws w
goes_is ws w s k all =
    ap (λ there. goes_with there s.has_current s.has_copy w) (k.kinds (name_of w))
    ∙ ap (λ b. goes_with (standing ws (name_of w)) b s.has_copy w) k.current
    ∙ ap (λ b. goes_with (standing ws (name_of w)) (list_any is_current ws) b w) k.copies
    ∙ sym (word_goes ws w all)

some_is : (v : Bool) (w x : Word) → Some x ≡ cond v (Some w) None → (v ≡ true) × (x ≡ w)
some_is true w x e = (refl, (cc))
some_is false w x e = (cc)

none_is : (v : Bool) (w : Word) → None ≡ cond v (Some w) None → v ≡ false
none_is true w e = (cc)
none_is false w e = refl

ranged_more : (ws : List Word) (w : Word) → list_all is_in_range (ws ++ w ∷ []) ≡ (list_all is_in_range ws && is_in_range w)
ranged_more ws w = list_all-append is_in_range ws (w ∷ []) ∙ ap (λ b. list_all is_in_range ws && b) (and_true (is_in_range w))

-- one word more that is given
pub pushed_some : (w : Word) (g h : GivenFields) (field : FieldWord) → h.is_formed ≡ g.is_formed → h.standing ≡ g.standing →
    h.is_in_range ≡ g.is_in_range → h.fields.items ≡ g.fields.items ++ field ∷ [] →
    Some (views.seen_word field) ≡ cond (is_in_range w) (Some w) None → IsPushed w g h
pushed_some w g h field formed stand same items is =
    let parts = some_is (is_in_range w) w (views.seen_word field) is in
    record {
      formed = formed;
      stand = stand;
      in_range = same ∙ sym (ap (λ b. g.is_in_range && b) parts.0 ∙ and_true g.is_in_range);
      fields =
          ap views.seen_words items
          ∙ map-append views.seen_word g.fields.items (field ∷ [])
          ∙ ap (λ x. views.seen_words g.fields.items ++ x ∷ []) parts.1
          ∙ sym (ap (λ b. cond b (views.seen_words g.fields.items ++ w ∷ []) (views.seen_words g.fields.items)) parts.0);
    }

-- and one whose number is out of its range
pub pushed_none : (w : Word) (g h : GivenFields) → h.is_formed ≡ g.is_formed → h.standing ≡ g.standing → h.is_in_range ≡ false →
    h.fields.items ≡ g.fields.items → None ≡ cond (is_in_range w) (Some w) None → IsPushed w g h
pushed_none w g h formed stand out items is =
    let never = none_is (is_in_range w) w is in
    record {
      formed = formed;
      stand = stand;
      in_range = out ∙ sym (ap (λ b. g.is_in_range && b) never ∙ and_false g.is_in_range);
      fields =
          ap views.seen_words items
          ∙ sym (ap (λ b. cond b (views.seen_words g.fields.items ++ w ∷ []) (views.seen_words g.fields.items)) never);
    }

-- words that go together, and one more that goes with them
formed_more : (ws : List Word) (w : Word) (g h : GivenFields) (s : Standing) → IsFormed ws g → goes ws w ≡ true →
    IsStanding (ws ++ w ∷ []) s → IsPushed w (record g { standing = s }) h → IsFormed (ws ++ w ∷ []) h
formed_more ws w g h s k one stand p = record {
  formed = p.formed ∙ k.formed;
  together = together_then ws w k.together one;
  stand = subst (λ (t : Standing). IsStanding (ws ++ w ∷ []) t) (sym p.stand) stand;
  in_range = p.in_range ∙ ap (λ b. b && is_in_range w) k.in_range ∙ sym (ranged_more ws w);
  fields = λ e.
      let both : (g.is_in_range && is_in_range w) ≡ true = sym p.in_range ∙ e in
      p.fields
      ∙ ap (λ b. cond b (views.seen_words g.fields.items ++ w ∷ []) (views.seen_words g.fields.items)) (and_second g.is_in_range (is_in_range w) both)
      ∙ ap (λ before. before ++ w ∷ []) (k.fields (and_first g.is_in_range (is_in_range w) both));
}

-- a word without a form
pub none_next : (state : Option (List Word)) (g : GivenFields) → g.is_formed ≡ false → IsGiven (next state None) g
none_next None g broken = broken
none_next (Some ws) g broken = broken

given_unless : (v : Bool) (ws : List Word) (g : GivenFields) → v ≡ false → g.is_formed ≡ false → IsGiven (cond v (Some ws) None) g
given_unless true ws g never broken = (cc)
given_unless false ws g never broken = broken

given_if : (v : Bool) (ws : List Word) (g : GivenFields) → v ≡ true → IsFormed ws g → IsGiven (cond v (Some ws) None) g
given_if true ws g always k = k
given_if false ws g always k = (cc)

-- a word that doesn't go with the others
pub refused_next : (state : Option (List Word)) (w : Word) (g h : GivenFields) → g.is_formed ≡ true →
    goes_with (kind_under g.standing (name_of w)) g.standing.has_current g.standing.has_copy w ≡ false → h.is_formed ≡ false →
    IsGiven state g → IsGiven (next state (Some w)) h
refused_next None w g h formed never broken k = (cc)
refused_next (Some ws) w g h formed never broken k =
    given_unless (goes ws w) (ws ++ w ∷ []) h (sym (goes_is ws w g.standing k.stand k.together) ∙ never) broken

-- a word that does
pub pushed_next : (state : Option (List Word)) (w : Word) (g h : GivenFields) (s : Standing) → g.is_formed ≡ true →
    goes_with (kind_under g.standing (name_of w)) g.standing.has_current g.standing.has_copy w ≡ true →
    ((ws : List Word) → IsStanding ws g.standing → IsStanding (ws ++ w ∷ []) s) → IsPushed w (record g { standing = s }) h →
    IsGiven state g → IsGiven (next state (Some w)) h
pushed_next None w g h s formed always stands p k = (cc)
pushed_next (Some ws) w g h s formed always stands p k =
    let one : goes ws w ≡ true = sym (goes_is ws w g.standing k.stand k.together) ∙ always in
    given_if (goes ws w) (ws ++ w ∷ []) h one (formed_more ws w g h s k one (stands ws k.stand) p)

-- ---- results

pub ok_then : {A E P Q : Type 0} (r : Result A E) → (P → Q) → OnOk r P → OnOk r Q
ok_then (Ok x) f p = f p
ok_then (Err e) f p = p
