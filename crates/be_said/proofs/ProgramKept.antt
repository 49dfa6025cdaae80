-- What is kept stays so, where a body or a program is begun, gets an instruction or is closed.
use Rattle.std.proofs.Common.{◌≡◌, ℕ, ◌+◌, ◌<◌, ◌≤◌, ◌==◌, ◌&&◌, ◌||◌, ◌++◌, ◌∷◌, Bool, true, false, cond, List, [], length, map, filter, set, Option, Some, None, refl, ap, sym, ◌∙◌, subst, arith, inl, inr, eq-eqb, ne_eqb, length-append, length-set}
use Rattle.std.proofs.lemmas.Bool.{cases_eq, and_right}
use Rattle.std.proofs.lemmas.List.{map-append}
use Rattle.std.proofs.lemmas.List.Folds.{list_any-append}
use Rattle.std.specs.List.{list_any, range_with_len}
use Rattle.be_facts.proofs.Truths.{or_true, true_or_false}
use Rattle.be_facts.proofs.Lists.{none_past}
use Rattle.be_actor.specs.declared.Instruction.{Instruction}
use Rattle.be_actor.specs.declared.Instruction.TheVariants as instruction
use Rattle.be_handler.specs.Growth.{with_new_body}
use Rattle.be_handler.specs.Routes.{Chain}
use Rattle.be_message.specs.declared.target.Target.{Target}
use Rattle.be_script.specs.declared.AppLine.{AppLine}
use Rattle.be_script.specs.declared.BodyLine.{BodyLine}
use Rattle.be_script.specs.declared.DrawLine.{DrawLine}
use Rattle.be_script.specs.Programs.{lock_behind}
use Rattle.be_script.specs.Windows.{chain_of, declared_body}
use Rattle.be_said.specs.declared.inside.Inside.{Inside}
use Rattle.be_said.specs.Fits.{HasSteps, IsNew, IsStep}
use Rattle.be_said.specs.Deeds.{begins_program}
use Rattle.be_said.specs.Inside.{AreInside, IsInside, is_drawn, is_drawn_by, with_begun}
use Rattle.be_said.specs.Judging.{closed, said_then, with_step}
use Rattle.be_said.specs.SoFar.{SoFar, Begun, nothing, bitmap, handler_body, draw_body, program, app_names, declared_in, views_in}
use Rattle.be_said.proofs.EventKept.{begun-kept}
use Rattle.be_said.proofs.GrownInside.{inside_as, each_set, none_set}
use Rattle.be_said.proofs.ListLemmas.{filter_same, filter_other, map_same, table_set}

or_none : (a b : Bool) → ((a || (b || false)) || false) ≡ (a || b)
or_none true b = refl
or_none false true = refl
or_none false false = refl

-- ---- programs

pub program-kept : (said : SoFar) (insides : List Inside) (name : List ℕ) → AreInside said insides → said.begun ≡ nothing → length said.apps < 16 → IsNew (app_names said) name →
    AreInside (said_then said (begins_program name)) insides
program-kept said insides name kept free few new =
    begun-kept said insides (program name None []) kept
    (λ w c. sym (ap (λ (b : Begun). with_begun b w c) free)) (λ w v. sym (ap (λ (b : Begun). is_drawn_by b w v) free))
    (λ (w : ℕ) (e : None ≡ Some w). (cc)) (few, new)

-- ---- instructions

lock_there : (said : SoFar) (insides : List Inside) (lock : Option ℕ) (step : Instruction) → length insides ≡ length said.windows → ((w : ℕ) → lock ≡ Some w → w < length insides) →
    IsStep said step → (w : ℕ) → lock_behind lock step ≡ Some w → w < length insides
lock_there said insides lock (instruction.Lock v) count locked fits w e = let is : v ≡ w = (cc) in omega arith
lock_there said insides lock instruction.Unlock count locked fits w e = (cc)
lock_there said insides lock (instruction.Note text) count locked fits w e = locked w e
lock_there said insides lock (instruction.Post v target draft) count locked fits w e = locked w e
lock_there said insides lock (instruction.Send v target draft) count locked fits w e = locked w e
lock_there said insides lock (instruction.Reply draft) count locked fits w e = locked w e
lock_there said insides lock (instruction.Forward v target) count locked fits w e = locked w e
lock_there said insides lock instruction.Flush count locked fits w e = locked w e
lock_there said insides lock instruction.Sync count locked fits w e = locked w e
lock_there said insides lock (instruction.Draw command) count locked fits w e = locked w e

step-kept-in : (said : SoFar) (insides : List Inside) (begun : Begun) (step : Instruction) → AreInside (record said { begun = begun }) insides → HasSteps begun → IsStep said step →
    AreInside (record said { begun = with_step step begun }) insides
step-kept-in said insides nothing step kept has fits = absurd has
step-kept-in said insides (bitmap name width height colors) step kept has fits = absurd has
step-kept-in said insides (handler_body w target what steps) step kept has fits =
    begun-kept (record said { begun = handler_body w target what steps }) insides (handler_body w target what (steps ++ step ∷ [])) kept
    (λ u c. refl) (λ u v. refl) kept.begun_there tt
step-kept-in said insides (draw_body w v steps) step kept has fits =
    begun-kept (record said { begun = draw_body w v steps }) insides (draw_body w v (steps ++ step ∷ [])) kept (λ u c. refl) (λ u t. refl) kept.begun_there tt
step-kept-in said insides (program name lock steps) step kept has fits =
    begun-kept (record said { begun = program name lock steps }) insides (program name (lock_behind lock step) (steps ++ step ∷ [])) kept
    (λ u c. refl) (λ u v. refl) (lock_there said insides lock step kept.count kept.begun_there fits) kept.can_close

pub step-kept : (said : SoFar) (insides : List Inside) (step : Instruction) → AreInside said insides → HasSteps said.begun → IsStep said step →
    AreInside (record said { begun = with_step step said.begun }) insides
step-kept said insides step kept has fits = step-kept-in said insides said.begun step kept has fits

-- ---- what is begun in a window

-- a body that is begun
pub body-kept : (said : SoFar) (insides : List Inside) (w : ℕ) (target : Target) (what : ℕ) (here new : Inside) →
    AreInside said insides → said.begun ≡ nothing → w < length insides → IsInside said w here →
    new.names ≡ here.names → new.plain.items ≡ here.plain.items → new.depths.items ≡ here.depths.items → new.chain ≡ with_new_body here.chain target what →
    new.draws.items ≡ here.draws.items → AreInside (record said { begun = handler_body w target what [] }) (set insides w new)
unfolding chain_of
body-kept said insides w target what here new kept free below is names plain depths chain draws =
    let next : SoFar = record said { begun = handler_body w target what [] } in
    let chain_at : ℕ → Chain = λ u. chain_of (declared_in said (0, 0)) u in
    let drawn : (u v : ℕ) → is_drawn next u v ≡ is_drawn said u v =
    λ u v. ap (λ (b : Begun). list_any (λ line. line.window == u && line.view == v) said.draws || is_drawn_by b u v) (sym free) in
    let chosen : (u : ℕ) → Bool → Chain = λ u b. cond b (with_new_body (chain_at u) target what) (chain_at u) in
    let as_nothing : (u : ℕ) → with_begun said.begun u (chain_at u) ≡ chain_at u = λ u. ap (λ (b : Begun). with_begun b u (chain_at u)) free in
    let made : IsInside next w new = record {
      names = names ∙ is.names;
      plain = plain ∙ is.plain;
      few_plain = subst (λ (xs : List (List ℕ)). length xs ≤ 16) (sym plain) is.few_plain;
      depths = depths ∙ is.depths;
      chain =
          chain ∙ ap (λ (c : Chain). with_new_body c target what) (is.chain ∙ as_nothing w) ∙ sym (ap (chosen w) (eq-eqb w w refl));
      draws =
          draws ∙ is.draws ∙ sym (map_same (is_drawn next w) (is_drawn said w) (range_with_len 0 (length here.depths.items)) (drawn w))
          ∙ ap (λ (xs : List ℕ). map (is_drawn next w) (range_with_len 0 (length xs))) (sym depths);
    } in
    let same_count : length (set insides w new) ≡ length insides = length-set insides w new in
    record {
      count = same_count ∙ kept.count;
      small_screen = kept.small_screen;
      few_windows = kept.few_windows;
      few_apps = kept.few_apps;
      each = each_set said next insides w new below kept.each made
          (λ u inside apart old. inside_as said next u inside old refl refl refl (ap (chosen u) apart ∙ sym (as_nothing u)) (drawn u));
      no_views = λ u none. kept.no_views u (none_set insides w new u none);
      no_plain = λ u none. kept.no_plain u (none_set insides w new u none);
      begun_there = λ (u : ℕ) (e : Some w ≡ Some u). let at : w ≡ u = (cc) in omega arith;
      few_bitmaps = kept.few_bitmaps;
      new_windows = kept.new_windows;
      new_bitmaps = kept.new_bitmaps;
      no_filters = λ u none. kept.no_filters u (none_set insides w new u none);
      no_bodies = λ u none. kept.no_bodies u (none_set insides w new u none);
      drawn_there = λ u v hit.
          let old = kept.drawn_there u v (sym (drawn u v) ∙ hit) in
          (omega (arith, old.0), old.1);
      can_close = tt;
    }

-- a Draw body that is begun
pub draw-kept : (said : SoFar) (insides : List Inside) (w v : ℕ) (here new : Inside) →
    AreInside said insides → said.begun ≡ nothing → w < length insides → v < length here.depths.items → v < length (views_in said w) + 1 → IsInside said w here →
    new.names ≡ here.names → new.plain.items ≡ here.plain.items → new.depths.items ≡ here.depths.items → new.chain ≡ here.chain →
    new.draws.items ≡ set here.draws.items v true → AreInside (record said { begun = draw_body w v [] }) (set insides w new)
unfolding chain_of
draw-kept said insides w v here new kept free below low view is names plain depths chain draws =
    let next : SoFar = record said { begun = draw_body w v [] } in
    let chain_at : ℕ → Chain = λ u. chain_of (declared_in said (0, 0)) u in
    let lines : ℕ → ℕ → Bool = λ u t. list_any (λ line. line.window == u && line.view == t) said.draws in
    let as_nothing : (u : ℕ) → with_begun said.begun u (chain_at u) ≡ chain_at u = λ u. ap (λ (b : Begun). with_begun b u (chain_at u)) free in
    let before : (u t : ℕ) → is_drawn said u t ≡ (lines u t || false) = λ u t. ap (λ (b : Begun). lines u t || is_drawn_by b u t) free in
    let other_window : (u t : ℕ) → (w == u) ≡ false → is_drawn next u t ≡ is_drawn said u t =
    λ u t apart. ap (λ (b : Bool). lines u t || (b && v == t)) apart ∙ sym (before u t) in
    let other_view : (t : ℕ) → (t ≡ v → ⊥) → is_drawn next w t ≡ is_drawn said w t =
    λ t apart. ap (λ (b : Bool). lines w t || b) (and_right (w == w) (v == t) (ne_eqb v t (λ at. apart (sym at)))) ∙ sym (before w t) in
    let hit : is_drawn next w v ≡ true =
    ap (λ (b : Bool). lines w v || (b && v == v)) (eq-eqb w w refl) ∙ ap (λ (b : Bool). lines w v || b) (eq-eqb v v refl) ∙ or_true (lines w v) in
    let made : IsInside next w new = record {
      names = names ∙ is.names;
      plain = plain ∙ is.plain;
      few_plain = subst (λ (xs : List (List ℕ)). length xs ≤ 16) (sym plain) is.few_plain;
      depths = depths ∙ is.depths;
      chain = chain ∙ is.chain ∙ as_nothing w;
      draws =
          draws ∙ ap (λ (xs : List Bool). set xs v true) is.draws
          ∙ table_set (is_drawn said w) (is_drawn next w) (length here.depths.items) v low hit other_view
          ∙ ap (λ (xs : List ℕ). map (is_drawn next w) (range_with_len 0 (length xs))) (sym depths);
    } in
    let same_count : length (set insides w new) ≡ length insides = length-set insides w new in
    record {
      count = same_count ∙ kept.count;
      small_screen = kept.small_screen;
      few_windows = kept.few_windows;
      few_apps = kept.few_apps;
      each = each_set said next insides w new below kept.each made
          (λ u inside apart old. inside_as said next u inside old refl refl refl (sym (as_nothing u)) (λ t. other_window u t apart));
      no_views = λ u none. kept.no_views u (none_set insides w new u none);
      no_plain = λ u none. kept.no_plain u (none_set insides w new u none);
      begun_there = λ (u : ℕ) (e : Some w ≡ Some u). let at : w ≡ u = (cc) in omega arith;
      few_bitmaps = kept.few_bitmaps;
      new_windows = kept.new_windows;
      new_bitmaps = kept.new_bitmaps;
      no_filters = λ u none. kept.no_filters u (none_set insides w new u none);
      no_bodies = λ u none. kept.no_bodies u (none_set insides w new u none);
      drawn_there = λ u t drawn.
          elim (cases_eq u w) [
            | inl at ↦ elim (cases_eq t v) [
              | inl is_v ↦ (omega arith, subst (λ (n : ℕ). t < length (views_in said n) + 1) (sym at) (omega arith))
              | inr not_v ↦
                  let hit_w : is_drawn next w t ≡ true = subst (λ (n : ℕ). is_drawn next n t ≡ true) at drawn in
                  let old = kept.drawn_there w t (sym (other_view t not_v) ∙ hit_w) in
                  (omega (arith, old.0), subst (λ (n : ℕ). t < length (views_in said n) + 1) (sym at) old.1)
            ]
            | inr apart ↦
                let old = kept.drawn_there u t (sym (other_window u t (ne_eqb w u (λ at. apart (sym at)))) ∙ drawn) in
                (omega (arith, old.0), old.1)
          ];
      can_close = tt;
    }

-- ---- what is closed

-- the body of a handler
pub body-closed : (said : SoFar) (insides : List Inside) (w : ℕ) (target : Target) (what : ℕ) (steps : List Instruction) →
    AreInside (record said { begun = handler_body w target what steps }) insides →
    AreInside (record said { bodies = said.bodies ++ record { window = w; target = target; what = what; program = steps } ∷ []; begun = nothing }) insides
unfolding chain_of
body-closed said insides w target what steps kept =
    let old : SoFar = record said { begun = handler_body w target what steps } in
    let line : BodyLine = record { window = w; target = target; what = what; program = steps } in
    let next : SoFar = record said { bodies = said.bodies ++ line ∷ []; begun = nothing } in
    let there : w < length insides = kept.begun_there w refl in
    let chain_at : ℕ → Chain = λ u. chain_of (declared_in said (0, 0)) u in
    let with_lines : (u : ℕ) → List BodyLine → Chain = λ u lines. record (chain_at u) { bodies = map declared_body lines } in
    let before : (u : ℕ) → List BodyLine = λ u. filter (λ other. other.window == u) said.bodies in
    let chosen : (u : ℕ) → Bool → Chain = λ u b. cond b (with_new_body (chain_at u) target what) (chain_at u) in
    let chains : (u : ℕ) → chain_of (declared_in next (0, 0)) u ≡ chosen u (w == u) =
    λ u. elim (true_or_false (w == u)) [
      | inl hit ↦
          ap (with_lines u) (filter_same (λ (other : BodyLine). other.window == u) said.bodies line hit)
          ∙ ap (λ bodies. record (chain_at u) { bodies = bodies }) (map-append declared_body (before u) (line ∷ []))
          ∙ sym (ap (chosen u) hit)
      | inr apart ↦
          ap (with_lines u) (filter_other (λ (other : BodyLine). other.window == u) said.bodies line apart) ∙ sym (ap (chosen u) apart)
    ] in
    record {
      count = kept.count;
      small_screen = kept.small_screen;
      few_windows = kept.few_windows;
      few_apps = kept.few_apps;
      each = λ u inside is. inside_as old next u inside (kept.each u inside is) refl refl refl (chains u) (λ v. refl);
      no_views = kept.no_views;
      no_plain = kept.no_plain;
      begun_there = λ (u : ℕ) (e : None ≡ Some u). (cc);
      few_bitmaps = kept.few_bitmaps;
      new_windows = kept.new_windows;
      new_bitmaps = kept.new_bitmaps;
      no_filters = kept.no_filters;
      no_bodies = λ u none.
          let past : length insides ≤ u = none_past insides u none in
          let apart : (w == u) ≡ false = ne_eqb w u (λ at. let same : w ≡ u = at in omega arith) in
          filter_other (λ (other : BodyLine). other.window == u) said.bodies line apart ∙ kept.no_bodies u none;
      drawn_there = kept.drawn_there;
      can_close = tt;
    }

-- a Draw body
pub draw-closed : (said : SoFar) (insides : List Inside) (w v : ℕ) (steps : List Instruction) →
    AreInside (record said { begun = draw_body w v steps }) insides →
    AreInside (record said { draws = said.draws ++ record { window = w; view = v; program = steps } ∷ []; begun = nothing }) insides
unfolding chain_of
draw-closed said insides w v steps kept =
    let old : SoFar = record said { begun = draw_body w v steps } in
    let line : DrawLine = record { window = w; view = v; program = steps } in
    let next : SoFar = record said { draws = said.draws ++ line ∷ []; begun = nothing } in
    let drawn : (u t : ℕ) → is_drawn next u t ≡ is_drawn old u t =
    λ u t.
    ap (λ (b : Bool). b || false) (list_any-append (λ (other : DrawLine). other.window == u && other.view == t) said.draws (line ∷ []))
    ∙ or_none (list_any (λ (other : DrawLine). other.window == u && other.view == t) said.draws) (w == u && v == t) in
    record {
      count = kept.count;
      small_screen = kept.small_screen;
      few_windows = kept.few_windows;
      few_apps = kept.few_apps;
      each = λ u inside is. inside_as old next u inside (kept.each u inside is) refl refl refl refl (drawn u);
      no_views = kept.no_views;
      no_plain = kept.no_plain;
      begun_there = λ (u : ℕ) (e : None ≡ Some u). (cc);
      few_bitmaps = kept.few_bitmaps;
      new_windows = kept.new_windows;
      new_bitmaps = kept.new_bitmaps;
      no_filters = kept.no_filters;
      no_bodies = kept.no_bodies;
      drawn_there = λ u t hit. kept.drawn_there u t (sym (drawn u t) ∙ hit);
      can_close = tt;
    }

-- a program
pub program-closed : (said : SoFar) (insides : List Inside) (name : List ℕ) (lock : Option ℕ) (steps : List Instruction) →
    AreInside (record said { begun = program name lock steps }) insides →
    AreInside (record said { apps = said.apps ++ record { name = name; program = steps } ∷ []; begun = nothing }) insides
unfolding chain_of
program-closed said insides name lock steps kept =
    let old : SoFar = record said { begun = program name lock steps } in
    let line : AppLine = record { name = name; program = steps } in
    let next : SoFar = record said { apps = said.apps ++ line ∷ []; begun = nothing } in
    record {
      count = kept.count;
      small_screen = kept.small_screen;
      few_windows = kept.few_windows;
      few_apps = omega (arith, length-append said.apps (line ∷ []), kept.can_close.0);
      each = λ u inside is. inside_as old next u inside (kept.each u inside is) refl refl refl refl (λ v. refl);
      no_views = kept.no_views;
      no_plain = kept.no_plain;
      begun_there = λ (u : ℕ) (e : None ≡ Some u). (cc);
      few_bitmaps = kept.few_bitmaps;
      new_windows = kept.new_windows;
      new_bitmaps = kept.new_bitmaps;
      no_filters = kept.no_filters;
      no_bodies = kept.no_bodies;
      drawn_there = kept.drawn_there;
      can_close = tt;
    }

-- ---- what was begun is one of these

as_begun : (said : SoFar) (insides : List Inside) (begun : Begun) → AreInside said insides → said.begun ≡ begun → AreInside (record said { begun = begun }) insides
as_begun said insides begun kept is = subst (λ (b : Begun). AreInside (record said { begun = b }) insides) is kept

pub body-closed-as : (said : SoFar) (insides : List Inside) (w : ℕ) (target : Target) (what : ℕ) (steps : List Instruction) →
    AreInside said insides → said.begun ≡ handler_body w target what steps → AreInside (closed said (handler_body w target what steps)) insides
body-closed-as said insides w target what steps kept is = body-closed said insides w target what steps (as_begun said insides (handler_body w target what steps) kept is)

pub draw-closed-as : (said : SoFar) (insides : List Inside) (w v : ℕ) (steps : List Instruction) →
    AreInside said insides → said.begun ≡ draw_body w v steps → AreInside (closed said (draw_body w v steps)) insides
draw-closed-as said insides w v steps kept is = draw-closed said insides w v steps (as_begun said insides (draw_body w v steps) kept is)

pub program-closed-as : (said : SoFar) (insides : List Inside) (name : List ℕ) (lock : Option ℕ) (steps : List Instruction) →
    AreInside said insides → said.begun ≡ program name lock steps → AreInside (closed said (program name lock steps)) insides
program-closed-as said insides name lock steps kept is = program-closed said insides name lock steps (as_begun said insides (program name lock steps) kept is)
