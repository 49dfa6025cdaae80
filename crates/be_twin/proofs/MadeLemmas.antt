-- What the small steps of a command make of a pane.
use Rattle.std.specs.Prelude.{is_some, option_map, slice_get, slice_set}
use Rattle.std.specs.Global.{Vec}
use Rattle.std.specs.Result.{IsErr, IsOk, OnOk}
use Rattle.std.specs.Int.{int_min, saturate_signed}
use Rattle.std.proofs.lemmas.Bool.{true≢false}
use Rattle.std.proofs.lemmas.Bool.Decides.{nat_tests}
use Rattle.std.proofs.lemmas.Int.{ints}
use Rattle.std.proofs.Common.{◌≡◌, ℕ, zero, suc, ◌+◌, ◌<◌, ◌↔◌, ℤ, pos, negsuc, ◌+ℤ◌, ◌≤ℤ◌, SFits, w16, Bool, true, false, List, [], ◌∷◌, drop, arith, Result, Ok, Err, IsNone, Option, Some, None, length, get_or, refl, sym, ap, subst, ◌∙◌}
use Rattle.std.proofs.lemmas.Option.{get_or_from_slice_get, none-some, same_Some}
use Rattle.be_facts.proofs.Numbers.{suc_more}
use Rattle.be_geom.specs.declared.point.Point.{Point}
use Rattle.be_geom.specs.declared.rect.Rect.{Rect}
use Rattle.be_command.specs.Effects.{pen_place}
use Rattle.be_paint.specs.Inks.{Ink, pen_after, pen_after_text, pen_behind}
use Rattle.be_paint.specs.Reach.{Reach}
use Rattle.be_paint.specs.Seen.{IsSeenAs}
use Rattle.be_paint.specs.declared.reach.Reach as given
use Rattle.be_pane.specs.SameStacks.{SameClip, SameStacks}
use Rattle.be_region.specs.Sessions.{SameSession}
use Rattle.be_pane.specs.declared.pane.Pane.{Pane}
use Rattle.be_pane.proofs.SameLemmas.{stacks_equal, stacks_set, stacks_trans, stack_self}
use Rattle.be_region.specs.Regions.{region_has}
use Rattle.be_span.specs.Spans.{Spans, cell_in}
use Rattle.be_state.specs.declared.State.{State}
use Rattle.be_state.specs.Stacks.{Stack, with_clip, with_state}
use Rattle.be_views.specs.Trees.{Tree, place_of}
use Rattle.be_twin.specs.Deeds.{set_by, with_pen}
use Rattle.be_twin.proofs.StackLemmas.{clipped_same}
use Rattle.be_twin.specs.Made.{IsSameWindow, IsRestacked, IsRepainted, IsInked, IsReachOf, Rule, painting}

-- what stands at a view's place is the view's
pub at_place : {A : Type 0} (xs : List A) (v k : ℕ) (a s : A) → k ≡ v → a ≡ get_or xs k a → slice_get xs v ≡ Some s → a ≡ s
at_place xs v k a s e h at = h ∙ ap (λ n. get_or xs n a) e ∙ get_or_from_slice_get xs v s a at

-- other states in their place
pub set_there : (xs : List Stack) (v k : ℕ) (a w : Stack) (change : Stack → Stack) → k ≡ v → a ≡ get_or xs k a → w ≡ change a → (s : Stack) → slice_get xs v ≡ Some s → SameStacks (slice_set xs k w) (slice_set xs v (change s))
set_there xs v k a w change e h made s at =
    stacks_equal (slice_set xs k w) (slice_set xs v (change s))
    (ap (λ n. slice_set xs n w) e ∙ ap (λ t. slice_set xs v t) (made ∙ ap change (at_place xs v k a s e h at)))

-- a pane whose states at one place are others
pub restacked : (v k : ℕ) (old : Pane) (states : Vec Stack) (a w : Stack) (change : Stack → Stack) → states.items ≡ slice_set old.states.items k w → k ≡ v → a ≡ get_or old.states.items k a → w ≡ change a → IsRestacked v change old (record old { states = states })
restacked v k old states a w change items e h made = record {
  window = record { number = refl; place = refl; region = refl; tree = refl; session = refl; notice = refl };
  cells = refl;
  colors = refl;
  stacks = λ s at. subst (λ (l : List Stack). SameStacks l (slice_set old.states.items v (change s))) (sym items) (set_there old.states.items v k a w change e h made s at);
}

-- ---- where a view may draw

seen_as : (reach : given.Reach) (pane : Pane) (v : ℕ) (seen : Reach) → reach.window ≡ pane.place → reach.tree.now ≡ pane.tree → reach.view ≡ v → slice_get pane.states.items v ≡ Some reach.states.now → option_map (λ r. r.now) reach.session ≡ pane.session → IsReachOf pane v seen → IsSeenAs reach seen
seen_as reach pane v seen window tree view states session is = record {
  window = is.window ∙ sym window;
  place = ap (λ (t : Tree). place_of t reach.view) tree ∙ ap (λ n. place_of pane.tree n) view ∙ is.place;
  tree = is.tree ∙ sym tree;
  view = is.view ∙ sym view;
  stack = same_Some seen.stack reach.states.now (sym is.stack ∙ states);
  session = subst (λ (o : Option (List Rect)). SameSession o seen.session) (sym session) is.session;
}

-- a pane whose cells are others, by what a call on where the view may draw makes of them
pub repainted : (v : ℕ) (rule : Rule) (reach : given.Reach) (old : Pane) (states : List Stack) (spans : Spans) → spans.rects ≡ old.spans.rects → reach.window ≡ old.place → reach.tree.now ≡ old.tree → reach.view ≡ v → slice_get states v ≡ Some reach.states.now → states ≡ old.states.items → option_map (λ r. r.now) reach.session ≡ old.session →
    ((seen : Reach) → IsSeenAs reach seen → (x y : ℤ) → cell_in spans x y ≡ option_map (rule (region_has old.spans.rects) seen (cell_in old.spans) x y) (cell_in old.spans x y)) → IsRepainted v rule old (record old { spans = spans })
repainted v rule reach old states spans region window tree view at items session cells = record {
  window = record { number = refl; place = refl; region = region; tree = refl; session = refl; notice = refl };
  cells = λ seen is. cells seen (seen_as reach old v seen window tree view (ap (λ l. slice_get l v) (sym items) ∙ at) session is);
  colors = refl;
  stacks = refl;
}

-- ---- the pen

with_states : (a b : Option Stack) (state : State) (s : Stack) → option_map (λ t. t.top.state) a ≡ Some state → b ≡ a → b ≡ Some s → state ≡ s.top.state
with_states (Some t) b state s h e f = sym (same_Some t.top.state state h) ∙ ap (λ (u : Stack). u.top.state) (same_Some t s (sym e ∙ f))
with_states None b state s h e f = absurd (none-some state h)

same_window : (old mid new : Pane) → IsSameWindow old mid → IsSameWindow mid new → IsSameWindow old new
same_window old mid new a b = record {
  number = b.number ∙ a.number;
  place = b.place ∙ a.place;
  region = b.region ∙ a.region;
  tree = b.tree ∙ a.tree;
  session = b.session ∙ a.session;
  notice = b.notice ∙ a.notice;
}

pen_stacked : (v : ℕ) (ink : Ink) (old mid new : List Stack) (pen : Point) (state : State) → mid ≡ old → option_map (λ t. t.top.state) (slice_get old v) ≡ Some state → pen ≡ pen_after ink state.pen → ((s : Stack) → slice_get mid v ≡ Some s → SameStacks new (slice_set mid v (set_by (pen_place pen) s))) → (s : Stack) → slice_get old v ≡ Some s → SameStacks new (slice_set old v (with_pen s (Some ink)))
pen_stacked v ink old mid new pen state e h p stacked s at =
    let is = with_states (slice_get old v) (slice_get old v) state s h refl at in
    let pen_is : pen ≡ pen_after ink s.top.state.pen = p ∙ ap (λ (t : State). pen_after ink t.pen) is in
    let there : SameStacks new (slice_set mid v (set_by (pen_place pen) s)) = stacked s (ap (λ (l : List Stack). slice_get l v) e ∙ at) in
    subst (λ (l : List Stack). SameStacks new (slice_set l v (with_pen s (Some ink)))) e
    (subst (λ (q : Point). SameStacks new (slice_set mid v (with_state s (record s.top.state { pen = q })))) pen_is there)

-- an ink was laid, and then the pen was moved
pub inked_by : (v : ℕ) (ink : Ink) (old mid new : Pane) (pen : Point) (state : State) → IsRepainted v (painting ink) old mid → IsRestacked v (set_by (pen_place pen)) mid new → option_map (λ t. t.top.state) (slice_get old.states.items v) ≡ Some state → pen ≡ pen_after ink state.pen → IsInked v ink old new
inked_by v ink old mid new pen state laid moved h p = record {
  window = same_window old mid new laid.window moved.window;
  cells = λ seen is x y. ap (λ s. cell_in s x y) moved.cells ∙ laid.cells seen is x y;
  colors = moved.colors ∙ laid.colors;
  stacks = pen_stacked v ink old.states.items mid.states.items new.states.items pen state laid.stacks h p moved.stacks;
}

-- ---- states that are saved or taken back

passed : (o : Option Stack) (test : Stack → Bool) → option_map test o ≡ Some true → (s : Stack) × (o ≡ Some s) × (test s ≡ true)
passed (Some s) test h = (s, refl, same_Some (test s) true h)
passed None test h = absurd (none-some true h)

-- the view is there, and its states pass the test
pub passing : (xs : List Stack) (v : ℕ) (test : Stack → Bool) → option_map test (slice_get xs v) ≡ Some true → (s : Stack) × (slice_get xs v ≡ Some s) × (test s ≡ true)
passing xs v test h = passed (slice_get xs v) test h

-- what holds where there is no error
pub on_ok : {A E : Type 0} (r : Result A E) (P : Type 0) → (IsErr r → ⊥) → OnOk r P → P
on_ok (Ok a) P ok h = h
on_ok (Err e) P ok h = absurd (ok refl)

pub is_ok : {A E : Type 0} (r : Result A E) → (IsErr r → ⊥) → IsOk r
is_ok (Ok a) ok = refl
is_ok (Err e) ok = absurd (ok refl)

pub no_full : {A E : Type 0} (r : Result A E) (b : Bool) → (IsErr r ↔ (b ≡ false)) → b ≡ true → IsErr r → ⊥
no_full r b full holds e = true≢false (sym holds ∙ full.0 e)

some_not_none : (o : Option Stack) → is_some o ≡ true → IsNone o → ⊥
some_not_none (Some s) holds none = true≢false none
some_not_none None holds none = true≢false (sym holds)

pub no_empty : {A E : Type 0} (r : Result A E) (o : Option Stack) → (IsErr r ↔ IsNone o) → is_some o ≡ true → IsErr r → ⊥
no_empty r o empty holds e = some_not_none o holds (empty.0 e)

-- ---- clips

-- a clip of the same pixels
pub clipped_alike : (v : ℕ) (old new : Pane) (given said : Option (List Rect)) → SameClip given said → IsRestacked v (λ s. with_clip s given) old new → IsRestacked v (λ s. with_clip s said) old new
clipped_alike v old new given said alike made = record {
  window = made.window;
  cells = made.cells;
  colors = made.colors;
  stacks = λ s at.
      stacks_trans new.states.items (slice_set old.states.items v (with_clip s given)) (slice_set old.states.items v (with_clip s said)) (made.stacks s at)
      (stacks_set old.states.items old.states.items v (with_clip s given) (with_clip s said) (stacks_equal old.states.items old.states.items refl) (clipped_same s s given said (stack_self s) alike));
}

-- ---- texts

-- one glyph more
pub behind_more : (codes : List ℕ) (k : ℕ) (x : ℤ) → k < length codes → pen_after_text (drop k codes) x ≡ pen_after_text (drop (k + 1) codes) (pen_behind x)
behind_more [] k x h = absurd (omega arith)
behind_more (code ∷ codes) zero x h = refl
behind_more (code ∷ codes) (suc k) x h =
    behind_more codes k x (omega arith) ∙ ap (λ n. pen_after_text (drop n (code ∷ codes)) (pen_behind x)) (sym (suc_more k))

stopped_at : (z : ℤ) → negsuc 32767 ≤ℤ z → saturate_signed w16 z ≡ int_min z (pos 32767)
stopped_at (pos n) h = grind (arith, ints, nat_tests)
stopped_at (negsuc n) h = grind (arith, ints, nat_tests)

low : (x : ℤ) → SFits w16 x → negsuc 32767 ≤ℤ (x +ℤ pos 6)
low x f = omega (arith, ints)

-- the pen stops at the range's end
pub stopped : (x : ℤ) → SFits w16 x → saturate_signed w16 (x +ℤ pos 6) ≡ pen_behind x
stopped x f = stopped_at (x +ℤ pos 6) (low x f)
