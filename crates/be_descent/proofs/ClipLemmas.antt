-- The clips of a view's states, one after the other.
use Rattle.std.proofs.Common.{◌≡◌, ℕ, zero, suc, ◌+◌, ◌-◌, ◌<◌, ◌≤◌, ℤ, ◌+ℤ◌, ◌-ℤ◌}
use Rattle.std.proofs.Common.{Bool, true, false, ◌&&◌}
use Rattle.std.proofs.Common.{List, [], ◌∷◌, length, take, slice_get, Some, None}
use Rattle.std.proofs.Common.{arith, refl, sym, ap, ap₂, ◌∙◌}
use Rattle.std.specs.List.{list_all}
use Rattle.std.proofs.lemmas.Int.{ints}
use Rattle.std.proofs.lemmas.List.{take_all}
use Rattle.std.proofs.lemmas.List.Folds.{list_all_more}
use Rattle.std.proofs.lemmas.Option.{get_or_from_slice_get}
use Rattle.be_facts.proofs.Truths.{and_true}
use Rattle.be_region.specs.Regions.{region_has}
use Rattle.be_region.proofs.MoveLemmas.{moved_region}
use Rattle.be_state.specs.Clips.{shown_clip}
use Rattle.be_state.specs.Stacks.{Layer, Stack, clip_has, from_oldest}
use Rattle.be_state.specs.declared.clip.Placed.{Placed}
use Rattle.be_state.proofs.StackLemmas.{allows_from_oldest, number_of_layers}
use Rattle.be_descent.specs.declared.way.Way.{Way}
use Rattle.be_descent.specs.Clips.{first_hold, states_allow}
use Rattle.be_descent.specs.Places.{lies_at}

-- there is a state with a number
pub there : (layers : List Layer) (n : ℕ) → n < length layers
    → (layer : Layer) × (slice_get layers n ≡ Some layer)
there [] n h = absurd (omega (arith, h))
there (layer ∷ layers) zero h = (layer, refl)
there (layer ∷ layers) (suc n) h = there layers n (omega (arith, h))

-- one more state
one_more : (stack : Stack) (count : ℕ) (corner : Way) (layer : Layer) (x y : ℤ) → 0 < count
    → count ≤ length (from_oldest stack) → slice_get (from_oldest stack) (count - 1) ≡ Some layer
    → first_hold stack count corner x y ≡ (first_hold stack (count - 1) corner x y
    && clip_has layer.clip (x -ℤ corner.right) (y -ℤ corner.down))
one_more stack count corner layer x y some within is =
    let n : count ≡ count - 1 + 1 = omega arith in
    let has : Layer → Bool = λ l. clip_has l.clip (x -ℤ corner.right) (y -ℤ corner.down) in
    ap (λ k. list_all has (take k (from_oldest stack))) n
    ∙ list_all_more has (from_oldest stack) (count - 1) layer (omega arith)
    ∙ ap (λ l. list_all has (take (count - 1) (from_oldest stack)) && has l)
    (get_or_from_slice_get (from_oldest stack) (count - 1) layer layer is)

-- a clip where it lies
shown_lies : (clip : Placed) (corner way : Way) (x y : ℤ)
    → way.right ≡ corner.right +ℤ clip.right → way.down ≡ corner.down +ℤ clip.down
    → region_has (shown_clip clip) (x -ℤ corner.right) (y -ℤ corner.down)
    ≡ lies_at clip.region.now way x y
shown_lies clip corner way x y across down =
    let u : x -ℤ corner.right -ℤ clip.right ≡ x -ℤ way.right = omega (arith, ints, across) in
    let v : y -ℤ corner.down -ℤ clip.down ≡ y -ℤ way.down = omega (arith, ints, down) in
    moved_region clip.region.now clip.right clip.down (x -ℤ corner.right) (y -ℤ corner.down)
    ∙ ap₂ (region_has clip.region.now) u v

-- with no state no clip is asked
pub none_held : (stack : Stack) (count : ℕ) (corner : Way) (x y : ℤ) (a t : Bool) → count ≡ 0
    → (a && t) ≡ (a && (first_hold stack count corner x y && t))
none_held stack count corner x y a t none =
    sym (ap (λ n. a && (list_all (λ layer. clip_has layer.clip (x -ℤ corner.right)
    (y -ℤ corner.down)) (take n (from_oldest stack)) && t)) none)

-- a state without a clip
pub none_more : (stack : Stack) (count : ℕ) (corner : Way) (layer : Layer) (x y : ℤ) → 0 < count
    → count ≤ length (from_oldest stack) → slice_get (from_oldest stack) (count - 1) ≡ Some layer
    → layer.clip ≡ None
    → first_hold stack (count - 1) corner x y ≡ first_hold stack count corner x y
none_more stack count corner layer x y some within is none =
    sym (one_more stack count corner layer x y some within is
    ∙ ap (λ c. first_hold stack (count - 1) corner x y
    && clip_has c (x -ℤ corner.right) (y -ℤ corner.down)) none
    ∙ and_true (first_hold stack (count - 1) corner x y))

-- a state with a clip
pub clip_more : (stack : Stack) (count : ℕ) (corner way : Way) (layer : Layer) (clip : Placed)
    (x y : ℤ) → 0 < count → count ≤ length (from_oldest stack)
    → slice_get (from_oldest stack) (count - 1) ≡ Some layer
    → layer.clip ≡ Some (shown_clip clip) → way.right ≡ corner.right +ℤ clip.right
    → way.down ≡ corner.down +ℤ clip.down → first_hold stack count corner x y
    ≡ (first_hold stack (count - 1) corner x y && lies_at clip.region.now way x y)
clip_more stack count corner way layer clip x y some within is shown across down =
    one_more stack count corner layer x y some within is
    ∙ ap (λ c. first_hold stack (count - 1) corner x y
    && clip_has c (x -ℤ corner.right) (y -ℤ corner.down)) shown
    ∙ ap (λ b. first_hold stack (count - 1) corner x y && b)
    (shown_lies clip corner way x y across down)

-- all states
pub all_allow : (stack : Stack) (count : ℕ) (corner : Way) (x y : ℤ)
    → count ≡ length stack.saved + 1
    → first_hold stack count corner x y ≡ states_allow stack corner x y
all_allow stack count corner x y is =
    let u = x -ℤ corner.right in
    let v = y -ℤ corner.down in
    let long = number_of_layers stack in
    ap (list_all (λ (layer : Layer). clip_has layer.clip u v))
    (take_all count (from_oldest stack) (omega (arith, is, long)))
    ∙ sym (allows_from_oldest stack u v)

turned : (a l h t : Bool) → (a && (l && (h && t))) ≡ (a && ((h && l) && t))
turned true true true t = refl
turned true true false t = refl
turned true false true t = refl
turned true false false t = refl
turned false l h t = refl

pub in_turn : (a l h g t : Bool) → g ≡ (h && l) → (a && (l && (h && t))) ≡ (a && (g && t))
in_turn a l h g t e = turned a l h t ∙ ap (λ b. a && (b && t)) (sym e)
