-- A letter that is posted to a port in hand.
use Rattle.std.proofs.Common.{◌≡◌, ℕ, ◌+◌, ◌<◌, List, Option, Some, length, refl, sym, ap, ◌∙◌, subst, arith}
use Rattle.std.proofs.lemmas.Option.{same_Some}
use Rattle.be_changes.specs.Posts.{HasPostedTo, IsOpenTo, IsOrdinary, MayPost}
use Rattle.be_changes.specs.Ports.{MeansPort}
use Rattle.be_changes.specs.declared.events.Addressed.{Addressed}
use Rattle.be_hall.specs.Hands.{Hand, part_at}
use Rattle.be_machine.specs.Touched as part
use Rattle.be_parts.specs.Kinds.{kind_of}
use Rattle.be_parts.specs.Parts.{hand_with, meaning_of}
use Rattle.be_parts.specs.Ports.{HasPosted, letters_of}
use Rattle.be_parts.specs.declared.part.Part.{Part}
use Rattle.be_parts.specs.declared.part.Part.TheVariants as kinds
use Rattle.be_port.specs.Ports.{posted}
use Rattle.be_port.specs.declared.letter.Letter as held
use Rattle.be_rules.specs.Places.{place_of}
use Rattle.be_rules.specs.Slices.{Slice, port}
use Rattle.be_script.specs.Script.{Declared}

-- ---- what is told of a port

-- a port at this place, and what it is once it was asked to take the letter
abbrev pub IsToldOf : held.Letter → List (ℕ × Part) → ℕ → Slice → Type 0
IsToldOf letter parts place v = (was : Slice) → part_at parts place ≡ Some (kinds.Port was) → HasPosted letter was v

pub told_of : (h b : Hand Part) (l m : held.Letter) (place : ℕ) → b ≡ h → m ≡ l → ((was : Slice) × (is : Slice) × (part_at h.parts place ≡ Some (kinds.Port was)) × HasPosted l was is) → (v : Slice) × IsToldOf m b.parts place v
told_of h b l m place copy same (was, is, at, has) = (
  is,
  λ other there.
      let same_port : was ≡ other = ap meaning_of (same_Some (kinds.Port was) (kinds.Port other) (sym at ∙ ap (λ (x : Hand Part). part_at x.parts place) (sym copy) ∙ there)) in
      subst (λ (x : held.Letter). HasPosted x other is) (sym same) (subst (λ (s : Slice). HasPosted l s is) same_port has),
)

pub told_back : (h b : Hand Part) (l m : held.Letter) (place : ℕ) (v : Slice) → b ≡ h → m ≡ l → IsToldOf m b.parts place v → IsToldOf l h.parts place v
told_back h b l m place v copy same told was at = subst (λ (x : held.Letter). HasPosted x was v) same (told was (ap (λ (x : Hand Part). part_at x.parts place) copy ∙ at))

-- ---- a post

module _ (d : Declared) (old : Hand Part) (o : Option Addressed) (may : MayPost d old.parts 1 o) (a : Addressed) (is : o ≡ Some a) (place : ℕ) (spot : place ≡ place_of d (part.port a.window)) where
  open_to : IsOpenTo d old.parts a.window 1
  open_to = (subst (MayPost d old.parts 1) is may).0

  ordinary : IsOrdinary a.letter
  ordinary = (subst (MayPost d old.parts 1) is may).1

  pub post_port : MeansPort old.parts place
  post_port = (open_to.kept, ap (part_at old.parts) spot ∙ open_to.there, ap kind_of open_to.means)

  was_is : (was : Slice) → part_at old.parts place ≡ Some (kinds.Port was) → was ≡ port a.window (Some open_to.of)
  was_is was at = ap meaning_of (same_Some (kinds.Port was) open_to.kept (sym at ∙ ap (part_at old.parts) spot ∙ open_to.there)) ∙ open_to.means

  pub post_leads : (p : Slice) × (part_at old.parts place ≡ Some (kinds.Port p)) → (was : Slice) × (is : Slice) × (part_at old.parts place ≡ Some (kinds.Port was)) × HasPosted a.letter was is
  post_leads (p, at) = (
    p,
    port a.window (Some (posted ordinary.0 open_to.of)),
    at,
    record {
      window = a.window;
      of = open_to.of;
      means = ordinary.0;
      carries = ordinary.1;
      ordinary = ordinary.2;
      before = was_is p at;
      after_is = refl;
    },
  )

  pub post_few : (was : Slice) → part_at old.parts place ≡ Some (kinds.Port was) → letters_of was < 18446744073709551615
  post_few was at =
      let few : length open_to.of.arrived + 1 < 18446744073709551616 = open_to.few in
      subst (λ (s : Slice). letters_of s < 18446744073709551615) (sym (was_is was at)) (omega (arith, few))

  pub has_posted_to : (was now v : Slice) → part_at old.parts place ≡ Some (kinds.Port was) → IsToldOf a.letter old.parts place v → now ≡ v → HasPostedTo d o old (hand_with old place (kinds.Port now))
  has_posted_to was now v at told same =
      subst (λ (x : Option Addressed). HasPostedTo d x old (hand_with old place (kinds.Port now))) (sym is)
      (was, now, ap (part_at old.parts) (sym spot) ∙ at, ap (λ n. hand_with old n (kinds.Port now)) spot, subst (HasPosted a.letter was) (sym same) (told was at))
