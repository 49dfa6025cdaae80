-- One notice at most is on its way to a window or in its looper's hand, and no session is open then.
use Rattle.std.proofs.Common.{◌≡◌, ℕ, ◌+◌, ◌≤◌, Bool, true, false, List, [], Option, Some, None, refl, sym, ap, subst, ◌∙◌, arith}
use Rattle.std.specs.Prelude.{slice_get, if◌then◌else◌}
use Rattle.be_facts.proofs.Lists.{set_self}
use Rattle.be_message.specs.Messages.{Message}
use Rattle.be_pane.specs.Panes.{Pane}
use Rattle.be_port.specs.Ports.{Letter, Port, queue_of, is_accepted, judged, posted, with_letter}
use Rattle.be_machine.specs.Lists.{at, set_at}
use Rattle.be_machine.specs.State.{Looper, free, locked, handling, Stage, in_body, beginning, in_update, ending}
use Rattle.be_machine.proofs.Fitted.{SetRead, here, elsewhere, set_read}
use Rattle.be_machine.proofs.Waiting.{total, one_where, IsTakenInTime}
use Rattle.be_machine.proofs.WaitingSums.{total_more}

-- ---- what is read of a changed list

data AtRead {X : Type 0} (xs : List X) (v u : ℕ) (f : X → X) (z : X) : Type 0 where
  changed_here : (x : X) → v ≡ u → slice_get xs u ≡ Some x → f x ≡ z → AtRead xs v u f z
  as_before : (v ≡ u → ⊥) → slice_get xs u ≡ Some z → AtRead xs v u f z

set_is : {X : Type 0} (xs : List X) (v u : ℕ) (f : X → X) (x z : X) → slice_get xs v ≡ Some x → SetRead xs v u (f x) z → AtRead xs v u f z
set_is xs v u f x z there (here same is) = changed_here x same (ap (slice_get xs) (sym same) ∙ there) is
set_is xs v u f x z there (elsewhere other read) = as_before other read

at_by : {X : Type 0} (xs : List X) (v u : ℕ) (f : X → X) (z : X) (o : Option X) → slice_get xs v ≡ o → slice_get (set_at xs v f o) u ≡ Some z → AtRead xs v u f z
at_by xs v u f z (Some x) there e = set_is xs v u f x z there (set_read xs v u (f x) z e)
at_by xs v u f z None there e = as_before (λ same. (let none : None ≡ Some z = sym there ∙ ap (slice_get xs) same ∙ e in absurd (cc))) e

at_read : {X : Type 0} (xs : List X) (v u : ℕ) (f : X → X) (z : X) → slice_get (at xs v f) u ≡ Some z → AtRead xs v u f z
at_read xs v u f z e = at_by xs v u f z (slice_get xs v) refl e

same_by : {X : Type 0} (xs : List X) (v : ℕ) (o : Option X) → slice_get xs v ≡ o → set_at xs v (λ x. x) o ≡ xs
same_by xs v (Some x) e = set_self xs v x e
same_by xs v None e = refl

pub at_same : {X : Type 0} (xs : List X) (v : ℕ) → at xs v (λ x. x) ≡ xs
at_same xs v = same_by xs v (slice_get xs v) refl

-- ---- notices

abbrev pub is_notice : Letter Message → ℕ
is_notice letter = one_where letter.notice

-- how many notices wait in a port, and are in a hand without being begun
abbrev pub notices : Port Message → ℕ
notices p = total is_notice (queue_of p)

abbrev pub begins_at : Stage → ℕ
begins_at beginning = 1
begins_at (in_body place) = 0
begins_at (in_update views place) = 0
begins_at ending = 0

abbrev pub begins_in : Looper → ℕ
begins_in (handling hand stage) = begins_at stage
begins_in (locked m) = 0
begins_in free = 0

pub record IsNoted (p : Port Message) (l : Looper) (pane : Pane) : Type 0 where
  pub count : notices p + begins_in l ≤ one_where pane.notified
  pub closed : pane.notified ≡ true → pane.session ≡ None

abbrev pub AreNoted : List (Port Message) → List Looper → List Pane → Type 0
AreNoted ports loopers panes = (w : ℕ) (p : Port Message) (l : Looper) (pane : Pane) → slice_get ports w ≡ Some p → slice_get loopers w ≡ Some l → slice_get panes w ≡ Some pane → IsNoted p l pane

-- ---- a change of one window's

noted_by : (ports : List (Port Message)) (loopers : List Looper) (panes : List Pane) (v u : ℕ) (f : Port Message → Port Message) (g : Looper → Looper) (k : Pane → Pane) (p : Port Message) (l : Looper) (pane : Pane) → ((p : Port Message) (l : Looper) (pane : Pane) → slice_get ports u ≡ Some p → slice_get loopers u ≡ Some l → slice_get panes u ≡ Some pane → v ≡ u → IsNoted p l pane → IsNoted (f p) (g l) (k pane)) → AreNoted ports loopers panes → AtRead ports v u f p → AtRead loopers v u g l → AtRead panes v u k pane → IsNoted p l pane
noted_by ports loopers panes v u f g k p l pane change h (changed_here a same a_read a_is) (changed_here b _ b_read b_is) (changed_here c _ c_read c_is) =
    subst (λ x. IsNoted x l pane) a_is (subst (λ x. IsNoted (f a) x pane) b_is (subst (IsNoted (f a) (g b)) c_is (change a b c a_read b_read c_read same (h u a b c a_read b_read c_read))))
noted_by ports loopers panes v u f g k p l pane change h (as_before other a_read) (as_before _ b_read) (as_before _ c_read) = h u p l pane a_read b_read c_read
noted_by ports loopers panes v u f g k p l pane change h (changed_here a same a_read a_is) (changed_here b _ b_read b_is) (as_before other c_read) = absurd (other same)
noted_by ports loopers panes v u f g k p l pane change h (changed_here a same a_read a_is) (as_before other b_read) c = absurd (other same)
noted_by ports loopers panes v u f g k p l pane change h (as_before other a_read) (changed_here b same b_read b_is) c = absurd (other same)
noted_by ports loopers panes v u f g k p l pane change h (as_before other a_read) (as_before _ b_read) (changed_here c same c_read c_is) = absurd (other same)

-- the port, the looper and the pane of one window change
pub all_noted : (ports : List (Port Message)) (loopers : List Looper) (panes : List Pane) (v : ℕ) (f : Port Message → Port Message) (g : Looper → Looper) (k : Pane → Pane) → ((p : Port Message) (l : Looper) (pane : Pane) → slice_get ports v ≡ Some p → slice_get loopers v ≡ Some l → slice_get panes v ≡ Some pane → IsNoted p l pane → IsNoted (f p) (g l) (k pane)) → AreNoted ports loopers panes → AreNoted (at ports v f) (at loopers v g) (at panes v k)
all_noted ports loopers panes v f g k change h u p l pane a b c =
    noted_by ports loopers panes v u f g k p l pane (λ p l pane a b c same old. change p l pane (ap (slice_get ports) same ∙ a) (ap (slice_get loopers) same ∙ b) (ap (slice_get panes) same ∙ c) old) h
    (at_read ports v u f p a) (at_read loopers v u g l b) (at_read panes v u k pane c)

pub port_noted : (ports : List (Port Message)) (loopers : List Looper) (panes : List Pane) (v : ℕ) (f : Port Message → Port Message) → ((p : Port Message) → slice_get ports v ≡ Some p → notices (f p) ≤ notices p) → AreNoted ports loopers panes → AreNoted (at ports v f) loopers panes
port_noted ports loopers panes v f few h =
    subst (λ x. AreNoted (at ports v f) x panes) (at_same loopers v) (subst (AreNoted (at ports v f) (at loopers v (λ x. x))) (at_same panes v)
    (all_noted ports loopers panes v f (λ x. x) (λ x. x) (λ p l pane a b c old. record { count = omega (arith, few p a, old.count); closed = old.closed }) h))

pub looper_noted : (ports : List (Port Message)) (loopers : List Looper) (panes : List Pane) (v : ℕ) (g : Looper → Looper) → ((l : Looper) → slice_get loopers v ≡ Some l → begins_in (g l) ≤ begins_in l) → AreNoted ports loopers panes → AreNoted ports (at loopers v g) panes
looper_noted ports loopers panes v g few h =
    subst (λ x. AreNoted x (at loopers v g) panes) (at_same ports v) (subst (AreNoted (at ports v (λ x. x)) (at loopers v g)) (at_same panes v)
    (all_noted ports loopers panes v (λ x. x) g (λ x. x) (λ p l pane a b c old. record { count = omega (arith, few l b, old.count); closed = old.closed }) h))

pub pane_noted : (ports : List (Port Message)) (loopers : List Looper) (panes : List Pane) (v : ℕ) (k : Pane → Pane) → ((p : Port Message) (l : Looper) (pane : Pane) → IsNoted p l pane → IsNoted p l (k pane)) → AreNoted ports loopers panes → AreNoted ports loopers (at panes v k)
pane_noted ports loopers panes v k keep h =
    subst (λ x. AreNoted x loopers (at panes v k)) (at_same ports v) (subst (λ x. AreNoted (at ports v (λ x. x)) x (at panes v k)) (at_same loopers v)
    (all_noted ports loopers panes v (λ x. x) (λ x. x) k (λ p l pane a b c old. keep p l pane old) h))

-- ---- letters

pub more_waits : (letter : Letter Message) (p : Port Message) → IsTakenInTime p → notices (with_letter letter p) ≡ notices p + one_where letter.notice
more_waits letter p in_time = total_more is_notice p.arrived p.taken letter in_time

post_by : (b : Bool) (letter : Letter Message) (p : Port Message) → letter.notice ≡ false → IsTakenInTime p → notices (if b then with_letter letter p else p) ≤ notices p
post_by true letter p ordinary in_time = let none : one_where letter.notice ≡ 0 = ap one_where ordinary in omega (arith, more_waits letter p in_time, none)
post_by false letter p ordinary in_time = omega arith

-- an ordinary letter
pub post_notices : (letter : Letter Message) (p : Port Message) → letter.notice ≡ false → IsTakenInTime p → notices (posted letter p) ≤ notices p
unfolding posted
post_notices letter p ordinary in_time = post_by (is_accepted (judged p letter.hop)) letter p ordinary in_time
