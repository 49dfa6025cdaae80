-- What is kept stays so, where the screen is said or input is added, or something is begun.
use Rattle.std.proofs.Common.{◌≡◌, ℕ, ◌<◌, ◌≤◌, ◌||◌, Bool, List, length, Some, refl, ap, sym, ◌∙◌, subst}
use Rattle.std.specs.List.{list_any}
use Rattle.std.specs.Prelude.{◌==◌, ◌&&◌}
use Rattle.be_handler.specs.Routes.{Chain}
use Rattle.be_script.specs.declared.InputLine.{InputLine}
use Rattle.be_script.specs.Windows.{chain_of}
use Rattle.be_said.specs.declared.inside.Inside.{Inside}
use Rattle.be_said.specs.Deeds.{sizes_screen, adds_input}
use Rattle.be_said.specs.Inside.{AreInside, CanClose, is_drawn, is_drawn_by, with_begun}
use Rattle.be_said.specs.Judging.{said_then}
use Rattle.be_said.specs.SoFar.{SoFar, Begun, declared_in, window_of}
use Rattle.be_said.proofs.GrownInside.{inside_as}

pub screen-kept : (said : SoFar) (insides : List Inside) (width height : ℕ) → AreInside said insides → width ≤ 1024 → height ≤ 768 →
    AreInside (said_then said (sizes_screen width height)) insides
unfolding chain_of
screen-kept said insides width height kept narrow low =
    let new = said_then said (sizes_screen width height) in
    record {
      count = kept.count;
      small_screen = λ (size : ℕ × ℕ) (e : Some (width, height) ≡ Some size).
          let is : (width, height) ≡ size = (cc) in
          (subst (λ (s : ℕ × ℕ). s.0 ≤ 1024) is narrow, subst (λ (s : ℕ × ℕ). s.1 ≤ 768) is low);
      few_windows = kept.few_windows;
      few_apps = kept.few_apps;
      each = λ w inside there. inside_as said new w inside (kept.each w inside there) refl refl refl refl (λ v. refl);
      no_views = kept.no_views;
      no_plain = kept.no_plain;
      begun_there = kept.begun_there;
      few_bitmaps = kept.few_bitmaps;
      new_windows = kept.new_windows;
      new_bitmaps = kept.new_bitmaps;
      no_filters = kept.no_filters;
      no_bodies = kept.no_bodies;
      drawn_there = kept.drawn_there;
      can_close = kept.can_close;
    }

pub input-kept : (said : SoFar) (insides : List Inside) (event : InputLine) → AreInside said insides → AreInside (said_then said (adds_input event)) insides
unfolding chain_of
input-kept said insides event kept =
    let new = said_then said (adds_input event) in
    record {
      count = kept.count;
      small_screen = kept.small_screen;
      few_windows = kept.few_windows;
      few_apps = kept.few_apps;
      each = λ w inside there. inside_as said new w inside (kept.each w inside there) refl refl refl refl (λ v. refl);
      no_views = kept.no_views;
      no_plain = kept.no_plain;
      begun_there = kept.begun_there;
      few_bitmaps = kept.few_bitmaps;
      new_windows = kept.new_windows;
      new_bitmaps = kept.new_bitmaps;
      no_filters = kept.no_filters;
      no_bodies = kept.no_bodies;
      drawn_there = kept.drawn_there;
      can_close = kept.can_close;
    }

-- what was begun changes alone, and the windows have the same bodies with it
pub begun-kept : (said : SoFar) (insides : List Inside) (begun : Begun) → AreInside said insides →
    ((w : ℕ) (c : Chain) → with_begun begun w c ≡ with_begun said.begun w c) → ((w v : ℕ) → is_drawn_by begun w v ≡ is_drawn_by said.begun w v) →
    ((w : ℕ) → window_of begun ≡ Some w → w < length insides) → CanClose said begun → AreInside (record said { begun = begun }) insides
unfolding chain_of
begun-kept said insides begun kept chains draws window closes =
    let new : SoFar = record said { begun = begun } in
    let drawn : (w v : ℕ) → is_drawn new w v ≡ is_drawn said w v = λ w v. ap (λ (b : Bool). list_any (λ line. line.window == w && line.view == v) said.draws || b) (draws w v) in
    record {
      count = kept.count;
      small_screen = kept.small_screen;
      few_windows = kept.few_windows;
      few_apps = kept.few_apps;
      each = λ w inside there.
          inside_as said new w inside (kept.each w inside there) refl refl refl (chains w (chain_of (declared_in said (0, 0)) w)) (drawn w);
      no_views = kept.no_views;
      no_plain = kept.no_plain;
      begun_there = window;
      few_bitmaps = kept.few_bitmaps;
      new_windows = kept.new_windows;
      new_bitmaps = kept.new_bitmaps;
      no_filters = kept.no_filters;
      no_bodies = kept.no_bodies;
      drawn_there = λ w v is. kept.drawn_there w v (sym (drawn w v) ∙ is);
      can_close = closes;
    }
