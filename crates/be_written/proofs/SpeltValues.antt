-- What bytes begin with, by the type of the value that they spell.
use Rattle.std.proofs.Common.{◌≡◌, ℕ, ℤ, ◌-◌, ◌≤◌, Bool, List, ◌∷◌, ◌++◌, refl, sym, ap, ◌∙◌, arith, append_assoc, append-nil}
use Rattle.std.specs.Prelude.{if◌then◌else◌}
use Rattle.be_flat.specs.Grammar.{SpellsDatum, SpellsInt, SpellsPoint, SpellsText}
use Rattle.be_geom.specs.declared.point.Point.{Point}
use Rattle.be_geom.specs.declared.rect.Rect.{Rect}
use Rattle.be_message.specs.declared.kind.Kind.{Kind}
use Rattle.be_message.specs.declared.kind.Kind.TheVariants as kinds
use Rattle.be_message.specs.Depths.{datum_depth}
use Rattle.be_message.specs.Messages.{Datum, bool, int, text, point, rect, message, Fields, Values, no_values, value}
use Rattle.be_written.specs.MessageText.{values_text}
use Rattle.be_written.specs.Spelt.{StartsDatum, StartsValues}

-- ---- a value of each type

pub bool_started : (d : Datum) (bytes : List ℕ) (levels : ℕ) (kind : Kind) (behind : List ℕ) → StartsDatum bytes levels kind d behind → kind ≡ kinds.Bool → (b : Bool) × ((d ≡ bool b) × (bytes ≡ (if b then 1 else 0) ∷ behind))
bool_started (bool b) bytes levels kind behind starts is = (b, (refl, starts.parts ∙ ap (λ (t : List ℕ). t ++ behind) starts.spells))
bool_started (int z) bytes levels kind behind starts is = let e : kinds.Int ≡ kinds.Bool = starts.same ∙ is in absurd (cc)
bool_started (text t) bytes levels kind behind starts is = let e : kinds.Text ≡ kinds.Bool = starts.same ∙ is in absurd (cc)
bool_started (point p) bytes levels kind behind starts is = let e : kinds.Point ≡ kinds.Bool = starts.same ∙ is in absurd (cc)
bool_started (rect r) bytes levels kind behind starts is = let e : kinds.Rect ≡ kinds.Bool = starts.same ∙ is in absurd (cc)
bool_started (message what fs) bytes levels kind behind starts is = let e : kinds.Message ≡ kinds.Bool = starts.same ∙ is in absurd (cc)

pub int_started : (d : Datum) (bytes : List ℕ) (levels : ℕ) (kind : Kind) (behind : List ℕ) (starts : StartsDatum bytes levels kind d behind) → kind ≡ kinds.Int → (z : ℤ) × ((d ≡ int z) × SpellsInt starts.front z)
int_started (bool b) bytes levels kind behind starts is = let e : kinds.Bool ≡ kinds.Int = starts.same ∙ is in absurd (cc)
int_started (int z) bytes levels kind behind starts is = (z, (refl, starts.spells))
int_started (text t) bytes levels kind behind starts is = let e : kinds.Text ≡ kinds.Int = starts.same ∙ is in absurd (cc)
int_started (point p) bytes levels kind behind starts is = let e : kinds.Point ≡ kinds.Int = starts.same ∙ is in absurd (cc)
int_started (rect r) bytes levels kind behind starts is = let e : kinds.Rect ≡ kinds.Int = starts.same ∙ is in absurd (cc)
int_started (message what fs) bytes levels kind behind starts is = let e : kinds.Message ≡ kinds.Int = starts.same ∙ is in absurd (cc)

pub text_started : (d : Datum) (bytes : List ℕ) (levels : ℕ) (kind : Kind) (behind : List ℕ) (starts : StartsDatum bytes levels kind d behind) → kind ≡ kinds.Text → (t : List ℕ) × ((d ≡ text t) × SpellsText starts.front t)
text_started (bool b) bytes levels kind behind starts is = let e : kinds.Bool ≡ kinds.Text = starts.same ∙ is in absurd (cc)
text_started (int z) bytes levels kind behind starts is = let e : kinds.Int ≡ kinds.Text = starts.same ∙ is in absurd (cc)
text_started (text t) bytes levels kind behind starts is = (t, (refl, starts.spells))
text_started (point p) bytes levels kind behind starts is = let e : kinds.Point ≡ kinds.Text = starts.same ∙ is in absurd (cc)
text_started (rect r) bytes levels kind behind starts is = let e : kinds.Rect ≡ kinds.Text = starts.same ∙ is in absurd (cc)
text_started (message what fs) bytes levels kind behind starts is = let e : kinds.Message ≡ kinds.Text = starts.same ∙ is in absurd (cc)

pub point_started : (d : Datum) (bytes : List ℕ) (levels : ℕ) (kind : Kind) (behind : List ℕ) (starts : StartsDatum bytes levels kind d behind) → kind ≡ kinds.Point → (p : Point) × ((d ≡ point p) × SpellsPoint starts.front p.x p.y)
point_started (bool b) bytes levels kind behind starts is = let e : kinds.Bool ≡ kinds.Point = starts.same ∙ is in absurd (cc)
point_started (int z) bytes levels kind behind starts is = let e : kinds.Int ≡ kinds.Point = starts.same ∙ is in absurd (cc)
point_started (text t) bytes levels kind behind starts is = let e : kinds.Text ≡ kinds.Point = starts.same ∙ is in absurd (cc)
point_started (point p) bytes levels kind behind starts is = (p, (refl, starts.spells))
point_started (rect r) bytes levels kind behind starts is = let e : kinds.Rect ≡ kinds.Point = starts.same ∙ is in absurd (cc)
point_started (message what fs) bytes levels kind behind starts is = let e : kinds.Message ≡ kinds.Point = starts.same ∙ is in absurd (cc)

pub rect_started : (d : Datum) (bytes : List ℕ) (levels : ℕ) (kind : Kind) (behind : List ℕ) (starts : StartsDatum bytes levels kind d behind) → kind ≡ kinds.Rect → (r : Rect) × ((d ≡ rect r) × SpellsDatum starts.front (rect r))
rect_started (bool b) bytes levels kind behind starts is = let e : kinds.Bool ≡ kinds.Rect = starts.same ∙ is in absurd (cc)
rect_started (int z) bytes levels kind behind starts is = let e : kinds.Int ≡ kinds.Rect = starts.same ∙ is in absurd (cc)
rect_started (text t) bytes levels kind behind starts is = let e : kinds.Text ≡ kinds.Rect = starts.same ∙ is in absurd (cc)
rect_started (point p) bytes levels kind behind starts is = let e : kinds.Point ≡ kinds.Rect = starts.same ∙ is in absurd (cc)
rect_started (rect r) bytes levels kind behind starts is = (r, (refl, starts.spells))
rect_started (message what fs) bytes levels kind behind starts is = let e : kinds.Message ≡ kinds.Rect = starts.same ∙ is in absurd (cc)

pub record HasInner (d : Datum) (front : List ℕ) (levels : ℕ) : Type 0 where
  pub what : ℕ
  pub fields : Fields
  pub is : d ≡ message what fields
  pub spells : SpellsDatum front (message what fields)
  pub deep : datum_depth (message what fields) ≤ levels

pub inner_started : (d : Datum) (bytes : List ℕ) (levels : ℕ) (kind : Kind) (behind : List ℕ) (starts : StartsDatum bytes levels kind d behind) → kind ≡ kinds.Message → HasInner d starts.front levels
inner_started (bool b) bytes levels kind behind starts is = let e : kinds.Bool ≡ kinds.Message = starts.same ∙ is in absurd (cc)
inner_started (int z) bytes levels kind behind starts is = let e : kinds.Int ≡ kinds.Message = starts.same ∙ is in absurd (cc)
inner_started (text t) bytes levels kind behind starts is = let e : kinds.Text ≡ kinds.Message = starts.same ∙ is in absurd (cc)
inner_started (point p) bytes levels kind behind starts is = let e : kinds.Point ≡ kinds.Message = starts.same ∙ is in absurd (cc)
inner_started (rect r) bytes levels kind behind starts is = let e : kinds.Rect ≡ kinds.Message = starts.same ∙ is in absurd (cc)
inner_started (message what fs) bytes levels kind behind starts is = record { what = what; fields = fs; is = refl; spells = starts.spells; deep = starts.deep }

-- ---- the first value

pub record FirstValue (bytes : List ℕ) (levels : ℕ) (kind : Kind) (count : ℕ) (vs : Values) (behind : List ℕ) : Type 0 where
  pub first : Datum
  pub others : Values
  pub is : vs ≡ value first others
  pub left : List ℕ
  pub starts : StartsDatum bytes levels kind first (left ++ behind)
  pub goes_on : (rest : List ℕ) → rest ≡ left ++ behind → StartsValues rest levels kind (count - 1) others behind

pub first_value : (vs : Values) (bytes : List ℕ) (levels : ℕ) (kind : Kind) (count : ℕ) (behind : List ℕ) → StartsValues bytes levels kind count vs behind → (count ≡ 0 → ⊥) → FirstValue bytes levels kind count vs behind
first_value no_values bytes levels kind count behind starts some = absurd (some (sym starts.many))
first_value (value d vs) bytes levels kind count behind starts some =
    let (same, a, b, parts, datum, values) = starts.spells in
    let whole : bytes ≡ a ++ (b ++ behind) = starts.parts ∙ ap (λ (t : List ℕ). t ++ behind) parts ∙ append_assoc a b behind in
    record {
      first = d;
      others = vs;
      is = refl;
      left = b;
      starts = record { front = a; parts = whole; spells = datum; same = same; deep = omega (arith, starts.deep) };
      goes_on = λ rest here. record { front = b; parts = here; spells = values; many = omega (arith, starts.many); deep = omega (arith, starts.deep) };
    }

pub no_values_started : (vs : Values) (bytes : List ℕ) (levels : ℕ) (kind : Kind) (count : ℕ) (behind page : List ℕ) → StartsValues bytes levels kind count vs behind → count ≡ 0 → (page ≡ page ++ values_text vs) × (bytes ≡ behind)
unfolding values_text
no_values_started no_values bytes levels kind count behind page starts none = (sym (append-nil page), starts.parts ∙ ap (λ (t : List ℕ). t ++ behind) starts.spells)
no_values_started (value d vs) bytes levels kind count behind page starts none = absurd (omega (arith, starts.many))
