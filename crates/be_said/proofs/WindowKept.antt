-- What is kept stays so, where a window gets a view, a plain handler or a filter.
use Rattle.std.proofs.Common.{◌≡◌, ℕ, ◌+◌, ◌<◌, ◌≤◌, ◌==◌, ◌++◌, ◌∷◌, Bool, false, List, [], length, map, filter, set, Option, Some, None, refl, ap, sym, ◌∙◌, subst, arith, inl, inr, eq-eqb, ne_eqb, length-append, length-set, codes}
use Rattle.std.proofs.lemmas.List.{map-append}
use Rattle.std.proofs.lemmas.List.FromFn.{map-range_with_len_more}
use Rattle.std.proofs.lemmas.List.Sums.{fold-append}
use Rattle.std.specs.List.{range_with_len, fold}
use Rattle.std.specs.Prelude.{slice_get, slice_index_or}
use Rattle.be_facts.proofs.Lists.{none_past}
use Rattle.be_facts.proofs.Truths.{true_or_false}
use Rattle.be_message.specs.declared.target.Target.{Target}
use Rattle.be_command.specs.Names.{Known}
use Rattle.be_handler.specs.Growth.{with_view, with_plain, with_filter}
use Rattle.be_handler.specs.Routes.{Chain}
use Rattle.be_script.specs.declared.FilterLine.{FilterLine}
use Rattle.be_script.specs.declared.HandlerLine.{HandlerLine}
use Rattle.be_script.specs.declared.ViewLine.{ViewLine}
use Rattle.be_script.specs.Windows.{chain_of, declared_filter}
use Rattle.be_said.specs.declared.inside.Inside.{Inside}
use Rattle.be_said.specs.Deeds.{adds_view, adds_handler, adds_filter}
use Rattle.be_said.specs.Inside.{AreInside, IsInside, is_drawn, with_begun}
use Rattle.be_said.specs.Judging.{said_then, depths_of, with_depth}
use Rattle.be_said.specs.SoFar.{SoFar, Begun, nothing, declared_in, known_in, plain_in, views_in}
use Rattle.be_said.proofs.GrownInside.{inside_as, each_set, none_set}
use Rattle.be_said.proofs.ListLemmas.{filter_same, filter_other}

-- nothing is begun, so the chain is that of the lines
free_chain : (said : SoFar) (w : ℕ) (c : Chain) → said.begun ≡ nothing → with_begun said.begun w c ≡ c
free_chain said w c free = ap (λ (b : Begun). with_begun b w c) free

-- no line is for a window that isn't there
other_past : (insides : List Inside) (w u : ℕ) → w < length insides → slice_get insides u ≡ None → (w == u) ≡ false
other_past insides w u below none = let past = none_past insides u none in ne_eqb w u (λ at. let same : w ≡ u = at in omega arith)

-- ---- filters

pub filter-kept : (said : SoFar) (insides : List Inside) (line : FilterLine) (here new : Inside) →
    AreInside said insides → said.begun ≡ nothing → line.window < length insides → IsInside said line.window here →
    new.names ≡ here.names → new.plain.items ≡ here.plain.items → new.depths.items ≡ here.depths.items → new.chain ≡ with_filter here.chain (declared_filter line) →
    new.draws.items ≡ here.draws.items → AreInside (said_then said (adds_filter line)) (set insides line.window new)
unfolding chain_of
filter-kept said insides line here new kept free below is names plain depths chain draws =
    let w : ℕ = line.window in
    let next : SoFar = said_then said (adds_filter line) in
    let chain_at : ℕ → Chain = λ u. chain_of (declared_in said (0, 0)) u in
    let with_lines : (u : ℕ) → List FilterLine → Chain = λ u lines. record (chain_at u) { filters = map declared_filter lines } in
    let before : (u : ℕ) → List FilterLine = λ u. filter (λ other. other.window == u) said.filters in
    let grown : chain_of (declared_in next (0, 0)) w ≡ with_filter (chain_at w) (declared_filter line) =
    ap (with_lines w) (filter_same (λ (other : FilterLine). other.window == w) said.filters line (eq-eqb w w refl))
    ∙ ap (λ filters. record (chain_at w) { filters = filters }) (map-append declared_filter (before w) (line ∷ [])) in
    let made : IsInside next w new = record {
      names = names ∙ is.names;
      plain = plain ∙ is.plain;
      few_plain = subst (λ (xs : List (List ℕ)). length xs ≤ 16) (sym plain) is.few_plain;
      depths = depths ∙ is.depths;
      chain =
          chain ∙ ap (λ (c : Chain). with_filter c (declared_filter line)) (is.chain ∙ free_chain said w (chain_at w) free) ∙ sym grown
          ∙ sym (free_chain said w (chain_of (declared_in next (0, 0)) w) free);
      draws = draws ∙ is.draws ∙ ap (λ (xs : List ℕ). map (is_drawn said w) (range_with_len 0 (length xs))) (sym depths);
    } in
    let same_count : length (set insides w new) ≡ length insides = length-set insides w new in
    record {
      count = same_count ∙ kept.count;
      small_screen = kept.small_screen;
      few_windows = kept.few_windows;
      few_apps = kept.few_apps;
      each = each_set said next insides w new below kept.each made
          (λ u inside apart old.
          inside_as said next u inside old refl refl refl
          (free_chain said u (chain_of (declared_in next (0, 0)) u) free
          ∙ ap (with_lines u) (filter_other (λ (other : FilterLine). other.window == u) said.filters line apart)
          ∙ sym (free_chain said u (chain_at u) free))
          (λ v. refl));
      no_views = λ u none. kept.no_views u (none_set insides w new u none);
      no_plain = λ u none. kept.no_plain u (none_set insides w new u none);
      begun_there = λ u at. let there = kept.begun_there u at in omega arith;
      few_bitmaps = kept.few_bitmaps;
      new_windows = kept.new_windows;
      new_bitmaps = kept.new_bitmaps;
      no_filters = λ u none.
          let missing = none_set insides w new u none in
          filter_other (λ (other : FilterLine). other.window == u) said.filters line (other_past insides w u below missing) ∙ kept.no_filters u missing;
      no_bodies = λ u none. kept.no_bodies u (none_set insides w new u none);
      drawn_there = λ u v hit. let old = kept.drawn_there u v hit in (omega (arith, old.0), old.1);
      can_close = kept.can_close;
    }

-- ---- plain handlers

pub plain-kept : (said : SoFar) (insides : List Inside) (line : HandlerLine) (here new : Inside) →
    AreInside said insides → said.begun ≡ nothing → line.window < length insides → IsInside said line.window here → length here.plain.items < 16 →
    new.names ≡ here.names → new.plain.items ≡ here.plain.items ++ line.name ∷ [] → new.depths.items ≡ here.depths.items → new.chain ≡ with_plain here.chain line.next →
    new.draws.items ≡ here.draws.items → AreInside (said_then said (adds_handler line)) (set insides line.window new)
unfolding chain_of
plain-kept said insides line here new kept free below is room names plain depths chain draws =
    let w : ℕ = line.window in
    let next : SoFar = said_then said (adds_handler line) in
    let chain_at : ℕ → Chain = λ u. chain_of (declared_in said (0, 0)) u in
    let with_lines : (u : ℕ) → List HandlerLine → Chain = λ u lines. record (chain_at u) { nexts = map (λ other. other.next) lines } in
    let name_of : HandlerLine → List ℕ = λ other. other.name in
    let next_of : HandlerLine → Target = λ other. other.next in
    let here_more : plain_in next w ≡ plain_in said w ++ line ∷ [] = filter_same (λ (other : HandlerLine). other.window == w) said.handlers line (eq-eqb w w refl) in
    let others_same : (u : ℕ) → (w == u) ≡ false → plain_in next u ≡ plain_in said u =
    λ u apart. filter_other (λ (other : HandlerLine). other.window == u) said.handlers line apart in
    let grown : chain_of (declared_in next (0, 0)) w ≡ with_plain (chain_at w) line.next =
    ap (with_lines w) here_more ∙ ap (λ nexts. record (chain_at w) { nexts = nexts }) (map-append next_of (plain_in said w) (line ∷ [])) in
    let made : IsInside next w new = record {
      names = names ∙ is.names;
      plain =
          plain ∙ ap (λ (xs : List (List ℕ)). xs ++ line.name ∷ []) is.plain
          ∙ sym (ap (map name_of) here_more ∙ map-append name_of (plain_in said w) (line ∷ []));
      few_plain = omega (arith, room, ap length plain, length-append here.plain.items (line.name ∷ []));
      depths = depths ∙ is.depths;
      chain =
          chain ∙ ap (λ (c : Chain). with_plain c line.next) (is.chain ∙ free_chain said w (chain_at w) free) ∙ sym grown
          ∙ sym (free_chain said w (chain_of (declared_in next (0, 0)) w) free);
      draws = draws ∙ is.draws ∙ ap (λ (xs : List ℕ). map (is_drawn said w) (range_with_len 0 (length xs))) (sym depths);
    } in
    let same_count : length (set insides w new) ≡ length insides = length-set insides w new in
    record {
      count = same_count ∙ kept.count;
      small_screen = kept.small_screen;
      few_windows = kept.few_windows;
      few_apps = kept.few_apps;
      each = each_set said next insides w new below kept.each made
          (λ u inside apart old.
          inside_as said next u inside old refl (ap (map name_of) (others_same u apart)) refl
          (free_chain said u (chain_of (declared_in next (0, 0)) u) free ∙ ap (with_lines u) (others_same u apart) ∙ sym (free_chain said u (chain_at u) free))
          (λ v. refl));
      no_views = λ u none. kept.no_views u (none_set insides w new u none);
      no_plain = λ u none.
          let missing = none_set insides w new u none in
          others_same u (other_past insides w u below missing) ∙ kept.no_plain u missing;
      begun_there = λ u at. let there = kept.begun_there u at in omega arith;
      few_bitmaps = kept.few_bitmaps;
      new_windows = kept.new_windows;
      new_bitmaps = kept.new_bitmaps;
      no_filters = λ u none. kept.no_filters u (none_set insides w new u none);
      no_bodies = λ u none. kept.no_bodies u (none_set insides w new u none);
      drawn_there = λ u v hit. let old = kept.drawn_there u v hit in (omega (arith, old.0), old.1);
      can_close = kept.can_close;
    }

-- ---- views

depths_from : (lines : List ViewLine) (depths : List ℕ) → length (fold with_depth depths lines) ≡ length depths + length lines
depths_from [] depths = omega arith
depths_from (line ∷ lines) depths = omega (arith, depths_from lines (with_depth depths line), length-append depths ((slice_index_or depths line.parent 0 + 1) ∷ []))

-- each view has a depth, and the root too
pub depth_count : (lines : List ViewLine) → length (depths_of lines) ≡ length lines + 1
depth_count lines = omega (arith, depths_from lines (1 ∷ []))

pub view-kept : (said : SoFar) (insides : List Inside) (line : ViewLine) (here new : Inside) →
    AreInside said insides → said.begun ≡ nothing → line.window < length insides → IsInside said line.window here →
    new.names ≡ record here.names { views = here.names.views ++ line.name ∷ [] } → new.plain.items ≡ here.plain.items →
    new.depths.items ≡ with_depth here.depths.items line → new.chain ≡ with_view here.chain (Some line.parent) →
    new.draws.items ≡ here.draws.items ++ false ∷ [] → AreInside (said_then said (adds_view line)) (set insides line.window new)
unfolding chain_of
view-kept said insides line here new kept free below is names plain depths chain draws =
    let w : ℕ = line.window in
    let next : SoFar = said_then said (adds_view line) in
    let chain_at : ℕ → Chain = λ u. chain_of (declared_in said (0, 0)) u in
    let parent_of : ViewLine → Option ℕ = λ other. Some other.parent in
    let name_of : ViewLine → List ℕ = λ other. other.name in
    let with_lines : (u : ℕ) → List ViewLine → Chain = λ u lines. record (chain_at u) { parents = None ∷ map parent_of lines } in
    let known_with : (u : ℕ) → List ViewLine → Known = λ u lines. record (known_in said (Some u)) { views = codes "root" ∷ map name_of lines } in
    let here_more : views_in next w ≡ views_in said w ++ line ∷ [] = filter_same (λ (other : ViewLine). other.window == w) said.views line (eq-eqb w w refl) in
    let others_same : (u : ℕ) → (w == u) ≡ false → views_in next u ≡ views_in said u =
    λ u apart. filter_other (λ (other : ViewLine). other.window == u) said.views line apart in
    let grown : chain_of (declared_in next (0, 0)) w ≡ with_view (chain_at w) (Some line.parent) =
    ap (with_lines w) here_more ∙ ap (λ parents. record (chain_at w) { parents = None ∷ parents }) (map-append parent_of (views_in said w) (line ∷ [])) in
    let named : known_in next (Some w) ≡ record (known_in said (Some w)) { views = (codes "root" ∷ map name_of (views_in said w)) ++ line.name ∷ [] } =
    ap (known_with w) here_more
    ∙ ap (λ views. record (known_in said (Some w)) { views = codes "root" ∷ views }) (map-append name_of (views_in said w) (line ∷ [])) in
    let old_count : length here.depths.items ≡ length (views_in said w) + 1 = ap length is.depths ∙ depth_count (views_in said w) in
    let new_count : length new.depths.items ≡ length here.depths.items + 1 =
    ap length depths ∙ length-append here.depths.items ((slice_index_or here.depths.items line.parent 0 + 1) ∷ []) in
    let not_drawn : is_drawn said w (length here.depths.items) ≡ false =
    elim (true_or_false (is_drawn said w (length here.depths.items))) [
      | inl hit ↦ absurd (omega (arith, old_count, (kept.drawn_there w (length here.depths.items) hit).1))
      | inr none ↦ none
    ] in
    let table : ℕ → List Bool = λ n. map (is_drawn said w) (range_with_len 0 n) in
    let made : IsInside next w new = record {
      names = names ∙ ap (λ (k : Known). record k { views = k.views ++ line.name ∷ [] }) is.names ∙ sym named;
      plain = plain ∙ is.plain;
      few_plain = subst (λ (xs : List (List ℕ)). length xs ≤ 16) (sym plain) is.few_plain;
      depths =
          depths ∙ ap (λ (ds : List ℕ). with_depth ds line) is.depths
          ∙ sym (ap depths_of here_more ∙ fold-append with_depth (1 ∷ []) (views_in said w) (line ∷ []));
      chain =
          chain ∙ ap (λ (c : Chain). with_view c (Some line.parent)) (is.chain ∙ free_chain said w (chain_at w) free) ∙ sym grown
          ∙ sym (free_chain said w (chain_of (declared_in next (0, 0)) w) free);
      draws =
          draws ∙ ap (λ (xs : List Bool). xs ++ false ∷ []) is.draws
          ∙ sym (ap (λ (b : Bool). table (length here.depths.items) ++ b ∷ []) not_drawn)
          ∙ sym (map-range_with_len_more (is_drawn said w) 0 (length here.depths.items) (length here.depths.items) (omega arith))
          ∙ ap table (sym new_count);
    } in
    let same_count : length (set insides w new) ≡ length insides = length-set insides w new in
    record {
      count = same_count ∙ kept.count;
      small_screen = kept.small_screen;
      few_windows = kept.few_windows;
      few_apps = kept.few_apps;
      each = each_set said next insides w new below kept.each made
          (λ u inside apart old.
          inside_as said next u inside old (ap (known_with u) (others_same u apart)) refl (others_same u apart)
          (free_chain said u (chain_of (declared_in next (0, 0)) u) free ∙ ap (with_lines u) (others_same u apart) ∙ sym (free_chain said u (chain_at u) free))
          (λ v. refl));
      no_views = λ u none.
          let missing = none_set insides w new u none in
          others_same u (other_past insides w u below missing) ∙ kept.no_views u missing;
      no_plain = λ u none. kept.no_plain u (none_set insides w new u none);
      begun_there = λ u at. let there = kept.begun_there u at in omega arith;
      few_bitmaps = kept.few_bitmaps;
      new_windows = kept.new_windows;
      new_bitmaps = kept.new_bitmaps;
      no_filters = λ u none. kept.no_filters u (none_set insides w new u none);
      no_bodies = λ u none. kept.no_bodies u (none_set insides w new u none);
      drawn_there = λ u v hit.
          let old = kept.drawn_there u v hit in (
            omega (arith, old.0),
            elim (true_or_false (w == u)) [
              | inl at ↦
                  let more = ap length (filter_same (λ (other : ViewLine). other.window == u) said.views line at) ∙ length-append (views_in said u) (line ∷ []) in
                  omega (arith, old.1, more)
              | inr apart ↦ omega (arith, old.1, ap length (others_same u apart))
            ],
          );
      can_close = kept.can_close;
    }
