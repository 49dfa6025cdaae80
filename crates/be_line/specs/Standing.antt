-- What the code knows of the words of FIELDS that were read (this project's own).
use Rattle.std.specs.Prelude.{◌≡◌, ℕ, true, false, ◌&&◌, if◌then◌else◌, List, [], ◌∷◌, ◌++◌, Option}
use Rattle.std.specs.Prelude.{Some, None}
use Rattle.std.specs.BTreeMap.{get_by}
use Rattle.std.specs.Cmp.Lexicographic.{slice_cmp}
use Rattle.std.specs.List.{list_all, list_any}
use Rattle.std.specs.Ordering.{nat_cmp}
use Rattle.be_actor.specs.DraftViews.{seen_words}
use Rattle.be_actor.specs.Drafts.{Word}
use Rattle.be_actor.specs.Limits.{all_go_together}
use Rattle.be_message.specs.declared.kind.Kind.{Kind}
use Rattle.be_line.specs.declared.fields.GivenFields.{GivenFields}
use Rattle.be_line.specs.declared.standing.Standing.{Standing}
use Rattle.be_line.specs.Fields.{is_in_range}
use Rattle.be_line.specs.Words.{is_current, is_copied, standing}

-- what stands under a name
abbrev pub kind_under : Standing → List ℕ → Option (Option Kind)
kind_under s name = get_by (λ k. slice_cmp nat_cmp name k.now) s.kinds

-- these words were taken in
pub record IsStanding (ws : List Word) (s : Standing) : Type 0 where
  pub kinds : (name : List ℕ) → kind_under s name ≡ standing ws name
  pub current : s.has_current ≡ list_any is_current ws
  pub copies : s.has_copy ≡ list_any is_copied ws

pub record IsFormed (ws : List Word) (g : GivenFields) : Type 0 where
  pub formed : g.is_formed ≡ true
  pub together : all_go_together ws ≡ true
  pub stand : IsStanding ws g.standing
  pub in_range : g.is_in_range ≡ list_all is_in_range ws
  pub fields : g.is_in_range ≡ true → seen_words g.fields.items ≡ ws

-- one word more is there to be given, unless its number is out of its range
pub record IsPushed (w : Word) (before after : GivenFields) : Type 0 where
  pub formed : after.is_formed ≡ before.is_formed
  pub stand : after.standing ≡ before.standing
  pub in_range : after.is_in_range ≡ (before.is_in_range && is_in_range w)
  pub fields : seen_words after.fields.items
      ≡ (if is_in_range w then seen_words before.fields.items ++ w ∷ []
      else seen_words before.fields.items)

-- so much was read
abbrev pub IsGiven : Option (List Word) → GivenFields → Type 0
IsGiven (Some ws) g = IsFormed ws g
IsGiven None g = g.is_formed ≡ false
