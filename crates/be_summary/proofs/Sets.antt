-- The set of the colours, where there is one more cell.
use Rattle.std.proofs.Common.{◌≡◌, ℕ, ◌+◌, ◌==◌, Bool, true, false, cond, not, ◌&&◌, ◌||◌}
use Rattle.std.proofs.Common.{List, [], ◌∷◌, ◌++◌, Some, None, refl, sym, ap, ◌∙◌, subst, arith}
use Rattle.std.proofs.Common.{Option, length}
use Rattle.std.specs.Prelude.{if◌then◌else◌}
use Rattle.std.specs.BTreeSet.{BTreeSet, IsEmpty, Updates, btree_set_len, contains}
use Rattle.std.specs.List.{list_any}
use Rattle.std.specs.Option.{IfSome, option_eq}
use Rattle.std.specs.Ordering.{is_eq, nat_cmp, ordering_then}
use Rattle.std.proofs.lemmas.List.Folds.{list_any-append}
use Rattle.be_facts.proofs.Truths.{or_middle}
use Rattle.be_facts.proofs.Orderings.{is_eq_then, is_eq_nat_cmp}
use Rattle.be_color.specs.declared.colors.Rgb.{Rgb}
use Rattle.be_span.specs.declared.Cell.{Cell}
use Rattle.be_written.specs.ScreenText.{same_rgb}
use Rattle.be_written.proofs.ScreenRows.{same_is, same_itself}
use Rattle.be_summary.specs.Colors.{HasColors, color_cmp}
use Rattle.be_summary.specs.Summary.{color_count, has_color}
use Rattle.be_summary.specs.declared.colors.Colors.{Colors}
use Rattle.be_summary.proofs.ColorLemmas.{count_more}

-- ---- keys

-- a colour's place in the order
abbrev key : Rgb → ℕ × ℕ × ℕ
key rgb = (rgb.red, rgb.green, rgb.blue)

equal_keys : (a b : Rgb) → is_eq (color_cmp (key a) (key b)) ≡ same_rgb a b
equal_keys a b =
    is_eq_then (ordering_then (nat_cmp a.red b.red) (nat_cmp a.green b.green))
    (nat_cmp a.blue b.blue)
    ∙ rw (
      is_eq_then (nat_cmp a.red b.red) (nat_cmp a.green b.green),
      is_eq_nat_cmp a.red b.red,
      is_eq_nat_cmp a.green b.green,
      is_eq_nat_cmp a.blue b.blue,
    ) refl

-- ---- cells

-- of no cells
pub begun : (seen : BTreeSet (ℕ × ℕ × ℕ)) → IsEmpty seen
    → HasColors [] (record { seen = seen; last = None })
unfolding color_count
begun seen empty = record {
  many = ap (λ keys. length keys) empty;
  each = λ rgb. ap (list_any (λ k. is_eq (color_cmp (key rgb) k))) empty;
  last = tt;
}

there : (others : List Cell) (cell : Cell) (rgb : Rgb) → cell.rgb ≡ rgb
    → list_any (has_color rgb) (others ++ cell ∷ []) ≡ true
there others cell rgb e =
    list_any-append (has_color rgb) others (cell ∷ [])
    ∙ or_middle (list_any (has_color rgb) others) (same_rgb cell.rgb rgb)
    (ap (λ r. same_rgb r rgb) e ∙ same_itself rgb)

counted : (b : Bool) (n m : ℕ) → m ≡ n + (if not b then 1 else 0)
    → (if b then n else n + 1) ≡ m
counted true n m e = omega arith
counted false n m e = sym e

one_more : (same any : Bool) → cond same true any ≡ (any || (same || false))
one_more true true = refl
one_more true false = refl
one_more false true = refl
one_more false false = refl

-- one more cell, whose colour was inserted
pub added : (others : List Cell) (cell : Cell) (rgb : Rgb) (old : Colors)
    (seen : BTreeSet (ℕ × ℕ × ℕ)) → cell.rgb ≡ rgb → HasColors others old
    → Updates color_cmp old.seen seen (key rgb) true
    → btree_set_len seen
    ≡ btree_set_len old.seen + (if not (contains color_cmp old.seen (key rgb)) then 1 else 0)
    → HasColors (others ++ cell ∷ []) (record { seen = seen; last = Some rgb })
added others cell rgb old seen is has updates len =
    let any = list_any (has_color rgb) others in
    let more : btree_set_len seen ≡ color_count others + (if not any then 1 else 0) =
    len
    ∙ ap (λ (n : ℕ). n + (if not (contains color_cmp old.seen (key rgb)) then 1 else 0)) has.many
    ∙ ap (λ (b : Bool). color_count others + (if not b then 1 else 0)) (has.each rgb) in
    record {
      many =
          sym (count_more others cell
          ∙ ap (λ (r : Rgb). if list_any (has_color r) others then color_count others
          else color_count others + 1) is
          ∙ counted any (color_count others) (btree_set_len seen) more);
      each = λ q.
          updates.0 (key q)
          ∙ ap (λ (b : Bool). cond b true (contains color_cmp old.seen (key q))) (equal_keys rgb q)
          ∙ ap (λ (b : Bool). cond (same_rgb rgb q) true b) (has.each q)
          ∙ one_more (same_rgb rgb q) (list_any (has_color q) others)
          ∙ ap (λ (r : Rgb). list_any (has_color q) others || (same_rgb r q || false)) (sym is)
          ∙ sym (list_any-append (has_color q) others (cell ∷ []));
      last = there others cell rgb is;
    }

kept : (same any : Bool) → (same ≡ true → any ≡ true) → any ≡ (any || (same || false))
kept same true h = refl
kept true false h = h refl
kept false false h = refl

-- one more cell, of the colour of the last
pub same_again : (others : List Cell) (cell : Cell) (colors : Colors)
    → colors.last ≡ Some cell.rgb → HasColors others colors
    → HasColors (others ++ cell ∷ []) colors
same_again others cell colors is has =
    let seen : list_any (has_color cell.rgb) others ≡ true =
    subst (λ (o : Option Rgb). IfSome o (λ rgb. list_any (has_color rgb) others ≡ true)) is
    has.last in
    let again : (q : Rgb)
    → list_any (has_color q) others ≡ list_any (has_color q) (others ++ cell ∷ []) =
    λ q.
    kept (same_rgb cell.rgb q) (list_any (has_color q) others)
    (λ e. ap (λ (r : Rgb). list_any (has_color r) others) (sym (same_is cell.rgb q e)) ∙ seen)
    ∙ sym (list_any-append (has_color q) others (cell ∷ [])) in
    record {
      many =
          has.many
          ∙ sym (count_more others cell
          ∙ ap (λ (b : Bool). if b then color_count others else color_count others + 1) seen);
      each = λ q. has.each q ∙ again q;
      last =
          subst (λ (o : Option Rgb). IfSome o (λ rgb. list_any (has_color rgb)
          (others ++ cell ∷ []) ≡ true)) (sym is) (there others cell cell.rgb refl);
    }

-- the test of the last colour
last_same : (p q r : Bool) → (p && (q && r)) ≡ true → ((p && q) && r) ≡ true
last_same true true true e = refl
last_same true true false e = e
last_same true false r e = e
last_same false q r e = e

pub last_is : (last : Option Rgb) (rgb : Rgb)
    → option_eq
    (λ a b. (a.red == b.red) && ((a.green == b.green) && (a.blue == b.blue))) last (Some rgb)
    ≡ true
    → last ≡ Some rgb
last_is (Some r) rgb e =
    ap Some
    (same_is r rgb
    (last_same (r.red == rgb.red) (r.green == rgb.green) (r.blue == rgb.blue) e))
last_is None rgb e = absurd (cc)
