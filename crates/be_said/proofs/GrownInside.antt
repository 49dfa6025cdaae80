-- What is kept of the windows, where a line changes one of them or none.
use Rattle.std.proofs.Common.{◌≡◌, ℕ, ◌<◌, ◌==◌, false, List, length, set, get_or, take, drop, ◌++◌, Some, None, ap, sym, ◌∙◌, subst, inl, inr, arith, length-set, ne_eqb}
use Rattle.std.proofs.lemmas.Bool.{cases_eq}
use Rattle.std.proofs.lemmas.List.{take_all, take-append-le}
use Rattle.std.proofs.lemmas.Option.{same_Some, slice_get-get_or}
use Rattle.std.specs.List.{range_with_len}
use Rattle.std.specs.Prelude.{slice_get}
use Rattle.be_facts.proofs.Lists.{set_same}
use Rattle.be_script.specs.Windows.{chain_of}
use Rattle.be_said.specs.declared.inside.Inside.{Inside}
use Rattle.be_said.specs.Inside.{IsInside, AreInside, is_drawn, with_begun}
use Rattle.be_said.specs.Judging.{depths_of}
use Rattle.be_said.specs.SoFar.{SoFar, declared_in, known_in, plain_names, views_in}
use Rattle.be_said.proofs.ListLemmas.{get_set_other, map_same, none_of_length}

-- a window of which nothing changed
pub inside_as : (old new : SoFar) (w : ℕ) (inside : Inside) → IsInside old w inside →
    known_in new (Some w) ≡ known_in old (Some w) → plain_names new (Some w) ≡ plain_names old (Some w) → views_in new w ≡ views_in old w →
    with_begun new.begun w (chain_of (declared_in new (0, 0)) w) ≡ with_begun old.begun w (chain_of (declared_in old (0, 0)) w) →
    ((v : ℕ) → is_drawn new w v ≡ is_drawn old w v) → IsInside new w inside
inside_as old new w inside kept names plain views chain drawn = record {
  names = kept.names ∙ sym names;
  plain = kept.plain ∙ sym plain;
  few_plain = kept.few_plain;
  depths = kept.depths ∙ ap depths_of (sym views);
  chain = kept.chain ∙ sym chain;
  draws = kept.draws ∙ sym (map_same (is_drawn new w) (is_drawn old w) (range_with_len 0 (length inside.depths.items)) drawn);
}

-- all windows, where one gets something
pub each_set : (old new : SoFar) (insides : List Inside) (w : ℕ) (here : Inside) → w < length insides →
    ((u : ℕ) (inside : Inside) → slice_get insides u ≡ Some inside → IsInside old u inside) → IsInside new w here →
    ((u : ℕ) (inside : Inside) → (w == u) ≡ false → IsInside old u inside → IsInside new u inside) →
    (u : ℕ) (inside : Inside) → slice_get (set insides w here) u ≡ Some inside → IsInside new u inside
each_set old new insides w here below kept made others u inside there =
    elim (cases_eq u w) [
      | inl at ↦
          let at_w : slice_get (set insides w here) w ≡ Some inside = subst (λ (k : ℕ). slice_get (set insides w here) k ≡ Some inside) at there in
          let is : here ≡ inside = same_Some here inside (sym (set_same insides w here below) ∙ at_w) in
          subst (λ (k : ℕ). IsInside new k inside) (sym at) (subst (λ (i : Inside). IsInside new w i) is made)
      | inr apart ↦
          others u inside (ne_eqb w u (λ at. apart (sym at))) (kept u inside (get_set_other insides w u here inside apart there))
    ]

pub none_set : (insides : List Inside) (w : ℕ) (here : Inside) (u : ℕ) → slice_get (set insides w here) u ≡ None → slice_get insides u ≡ None
none_set insides w here u none = none_of_length insides (set insides w here) u (length-set insides w here) none

-- the window of a line is there
pub here_is : (said : SoFar) (insides : List Inside) (w : ℕ) (here : Inside) → AreInside said insides → w < length insides → here ≡ get_or insides w here → IsInside said w here
here_is said insides w here kept below is = kept.each w here (slice_get-get_or insides w here below ∙ ap Some (sym is))

pub here_at : (said : SoFar) (insides : List Inside) (w k : ℕ) (here : Inside) → AreInside said insides → k ≡ w → w < length said.windows → here ≡ get_or insides k here →
    (w < length insides) × IsInside said w here
here_at said insides w k here kept at there is =
    let below : w < length insides = let count = kept.count in omega arith in
    (below, here_is said insides w here kept below (is ∙ ap (λ (n : ℕ). get_or insides n here) at))

pub set_at : (said : SoFar) (insides : List Inside) (w k : ℕ) (new : Inside) → k ≡ w → AreInside said (set insides w new) → AreInside said (set insides k new)
set_at said insides w k new at kept = subst (λ (n : ℕ). AreInside said (set insides n new)) (sym at) kept

-- all of the windows are there
pub taken_whole : (said : SoFar) (n : ℕ) (xs olds ys : List Inside) → xs ≡ ys → length ys ≡ n → AreInside said ys → AreInside said (take n (xs ++ drop (length xs) olds))
taken_whole said n xs olds ys same all kept =
    let count : length xs ≡ n = ap length same ∙ all in
    subst (AreInside said) (sym (take-append-le n xs (drop (length xs) olds) (omega arith) ∙ take_all n xs (omega arith) ∙ same)) kept
