-- What a line names in a window stands in its chain, and the chain counts what its lists hold.
use Rattle.std.proofs.Common.{◌≡◌, ℕ, suc, ◌+◌, ◌<◌, ◌≤◌, ◌==◌, ◌&&◌, Bool, true, false, cond, length, map, filter, Option, Some, None, Result, Ok, Err, refl, ap, sym, ◌∙◌, subst, inl, inr, arith}
use Rattle.std.proofs.lemmas.Bool.{cases_lt, lt-ltb, le-leb, lt-leb}
use Rattle.std.specs.List.{list_any}
use Rattle.std.specs.Result.{IsErrAnd, OnOk}
use Rattle.be_facts.proofs.Lists.{map_length}
use Rattle.be_command.specs.declared.fault.Reason.{Reason}
use Rattle.be_command.specs.declared.fault.Reason.TheVariants.{NameTaken, TooMany}
use Rattle.be_handler.specs.declared.fault.ChainFault.{ChainFault}
use Rattle.be_handler.specs.declared.fault.ChainFault.TheVariants as chain
use Rattle.be_handler.specs.declared.Rule.{Rule}
use Rattle.be_handler.specs.declared.Rule.TheVariants.{Skip, Pass, Redirect}
use Rattle.be_handler.specs.Growth.{is_there, is_place, has_owner, has_end, listed, with_body, with_new_body}
use Rattle.be_handler.specs.Lists.{is_in_list}
use Rattle.be_handler.specs.Routes.{Body, Chain, Filter, has_body, same_target}
use Rattle.be_message.specs.declared.target.Target.{Target}
use Rattle.be_message.specs.declared.target.Target.TheVariants as target
use Rattle.be_script.specs.declared.BodyLine.{BodyLine}
use Rattle.be_script.specs.declared.FilterLine.{FilterLine}
use Rattle.be_script.specs.declared.HandlerLine.{HandlerLine}
use Rattle.be_script.specs.declared.ViewLine.{ViewLine}
use Rattle.be_script.specs.Limits.{same_list}
use Rattle.be_script.specs.Windows.{chain_of, declared_body, declared_filter}
use Rattle.be_said.specs.declared.fault.LineFault.{LineFault}
use Rattle.be_said.specs.declared.fault.LineFault.TheVariants as fault
use Rattle.be_said.specs.declared.inside.Inside.{Inside}
use Rattle.be_said.specs.Due.{IsDue, chain_due}
use Rattle.be_said.specs.Fits.{IsList, IsRule, IsTarget}
use Rattle.be_said.specs.Deeds.{adds_filter, adds_handler, begins_body}
use Rattle.be_said.specs.Inside.{IsInside, with_begun}
use Rattle.be_said.specs.Judging.{done, filters_beside, said_then}
use Rattle.be_said.specs.SoFar.{SoFar, Begun, nothing, declared_in, plain_in, views_in}
use Rattle.be_said.proofs.DueLemmas.{may-be-done, taken-before, too-many}
use Rattle.be_said.proofs.ListLemmas.{any_twice, filter_twice}

-- ---- what a chain answers

pub on_ok : {A E : Type 0} (r : Result A E) (u : A) (P : Type 0) → r ≡ Ok u → OnOk r P → P
on_ok (Ok x) u P is p = p
on_ok (Err e) u P is p = (cc)

pub taken_ok : (added : Result (Unit {0}) ChainFault) (u : Unit {0}) → chain_due added ≡ Ok u → added ≡ Ok u
taken_ok (Ok x) u is = (cc)
taken_ok (Err chain.TooMany) u is = (cc)
taken_ok (Err chain.NoMemory) u is = (cc)
taken_ok (Err chain.NoTarget) u is = (cc)

refused : (due : Result SoFar Reason) (added : Result (Unit {0}) ChainFault) (given : LineFault) → chain_due added ≡ Err given →
    (added ≡ Err chain.NoTarget → ⊥) → (added ≡ Err chain.TooMany → due ≡ Err TooMany) → IsDue due (Err given)
refused due (Ok x) given is there many = (cc)
refused due (Err chain.TooMany) given is there many =
    let at : fault.Bad TooMany ≡ given = (cc) in
    subst (λ (f : LineFault). IsDue due (Err f)) at (many refl)
refused due (Err chain.NoMemory) given is there many =
    let at : fault.NoMemory ≡ given = (cc) in
    subst (λ (f : LineFault). IsDue due (Err f)) at tt
refused due (Err chain.NoTarget) given is there many = absurd (there refl)

-- a chain that takes no more makes the fault of the line
pub chain-refuses : (due : Result SoFar Reason) (added : Result (Unit {0}) ChainFault) (fault : LineFault) (result : Result SoFar LineFault) → chain_due added ≡ Err fault →
    IsErrAnd result (λ given. given ≡ fault) → (added ≡ Err chain.NoTarget → ⊥) → (added ≡ Err chain.TooMany → due ≡ Err TooMany) → IsDue due result
chain-refuses due added fault (Ok said) is given there many = absurd given
chain-refuses due added fault (Err given) is same there many = refused due added given (is ∙ ap Err (sym same)) there many

-- ---- the chain of a window

pub here_chain : (said : SoFar) (w : ℕ) (here : Inside) → IsInside said w here → said.begun ≡ nothing → here.chain ≡ chain_of (declared_in said (0, 0)) w
here_chain said w here is free = is.chain ∙ ap (λ (b : Begun). with_begun b w (chain_of (declared_in said (0, 0)) w)) free

there_of : (said : SoFar) (w : ℕ) (handler : Target) → IsTarget said w handler → is_there (chain_of (declared_in said (0, 0)) w) handler ≡ true
unfolding chain_of
there_of said w target.Window fits = refl
there_of said w (target.View v) fits =
    lt-ltb v (suc (length (map (λ (line : ViewLine). Some line.parent) (views_in said w))))
    (omega (arith, fits, map_length (λ (line : ViewLine). Some line.parent) (views_in said w), map_length (λ (line : ViewLine). line.name) (views_in said w)))
there_of said w (target.Plain p) fits =
    lt-ltb p (length (map (λ (line : HandlerLine). line.next) (plain_in said w)))
    (omega (arith, fits, map_length (λ (line : HandlerLine). line.next) (plain_in said w), map_length (λ (line : HandlerLine). line.name) (plain_in said w)))

-- a handler that a line names is there
pub target_there : (said : SoFar) (w : ℕ) (here : Inside) (handler : Target) → IsInside said w here → said.begun ≡ nothing → IsTarget said w handler →
    is_there here.chain handler ≡ true
target_there said w here handler is free fits = ap (λ (c : Chain). is_there c handler) (here_chain said w here is free) ∙ there_of said w handler fits

-- ---- bodies

and_same : (a b c : Bool) → (a && (b && c)) ≡ (a && b && c)
and_same true b c = refl
and_same false b c = refl

body_before : (said : SoFar) (w : ℕ) (handler : Target) (what : ℕ) → has_body (chain_of (declared_in said (0, 0)) w) what handler
    ≡ list_any (λ (line : BodyLine). line.window == w && same_target line.target handler && line.what == what) said.bodies
unfolding chain_of
body_before said w handler what =
    any_twice (λ (line : BodyLine). line.window == w) (λ (line : BodyLine). line.window == w && same_target line.target handler && line.what == what)
    (λ (b : Body). same_target b.target handler && b.what == what) declared_body said.bodies
    (λ line. and_same (line.window == w) (same_target line.target handler) (line.what == what))

body_count : (said : SoFar) (w : ℕ) → length (chain_of (declared_in said (0, 0)) w).bodies ≡ length (filter (λ (line : BodyLine). line.window == w) said.bodies)
unfolding chain_of
body_count said w = map_length declared_body (filter (λ (line : BodyLine). line.window == w) said.bodies)

pub body-taken : (said : SoFar) (w : ℕ) (handler : Target) (what : ℕ) (here : Inside) → IsInside said w here → said.begun ≡ nothing →
    has_body here.chain what handler ≡ true → done said (begins_body w handler what) ≡ Err NameTaken
body-taken said w handler what here is free hit =
    taken-before said (begins_body w handler what)
    (sym (body_before said w handler what) ∙ sym (ap (λ (c : Chain). has_body c what handler) (here_chain said w here is free)) ∙ hit)

body_free : (said : SoFar) (w : ℕ) (handler : Target) (what : ℕ) (here : Inside) → IsInside said w here → said.begun ≡ nothing → has_body here.chain what handler ≡ false →
    list_any (λ (line : BodyLine). line.window == w && same_target line.target handler && line.what == what) said.bodies ≡ false
body_free said w handler what here is free none =
    sym (body_before said w handler what) ∙ sym (ap (λ (c : Chain). has_body c what handler) (here_chain said w here is free)) ∙ none

body_length : (said : SoFar) (w : ℕ) (here : Inside) → IsInside said w here → said.begun ≡ nothing →
    length here.chain.bodies ≡ length (filter (λ (line : BodyLine). line.window == w) said.bodies)
body_length said w here is free = ap (λ (c : Chain). length c.bodies) (here_chain said w here is free) ∙ body_count said w

pub body-many : (said : SoFar) (w : ℕ) (handler : Target) (what : ℕ) (here : Inside) → IsInside said w here → said.begun ≡ nothing →
    has_body here.chain what handler ≡ false → 512 ≤ length here.chain.bodies → done said (begins_body w handler what) ≡ Err TooMany
body-many said w handler what here is free none many =
    too-many said (begins_body w handler what) (body_free said w handler what here is free none)
    (le-leb 512 (length (filter (λ (line : BodyLine). line.window == w) said.bodies)) (omega (arith, many, body_length said w here is free)))

pub body-done : (said : SoFar) (w : ℕ) (handler : Target) (what : ℕ) (here : Inside) → IsInside said w here → said.begun ≡ nothing →
    has_body here.chain what handler ≡ false → length here.chain.bodies < 512 → done said (begins_body w handler what) ≡ Ok (said_then said (begins_body w handler what))
body-done said w handler what here is free none few =
    may-be-done said (begins_body w handler what) (body_free said w handler what here is free none)
    (lt-leb 512 (length (filter (λ (line : BodyLine). line.window == w) said.bodies)) (omega (arith, few, body_length said w here is free)))

-- a body that isn't there is a new one
pub new_body : (c : Chain) (handler : Target) (what : ℕ) → has_body c what handler ≡ false → with_body c handler what ≡ with_new_body c handler what
new_body c handler what none =
    let chosen : Bool → Chain = λ b. cond b c (with_new_body c handler what) in ap chosen none

-- what was taken found room
pub room_left : (added : Result (Unit {0}) ChainFault) (u : Unit {0}) (count most : ℕ) → (most ≤ count → added ≡ Err chain.TooMany) → added ≡ Ok u → count < most
room_left added u count most full is =
    elim (cases_lt count most) [
      | inl room ↦ room
      | inr many ↦ let refused = full many in (cc)
    ]

-- ---- filters

same_in_list : (list owner : Option Target) → is_in_list list owner ≡ same_list owner list
same_in_list None None = refl
same_in_list None (Some owner) = refl
same_in_list (Some handler) None = refl
same_in_list (Some handler) (Some owner) = refl

owner_there : (said : SoFar) (w : ℕ) (here : Inside) (list : Option Target) → IsInside said w here → said.begun ≡ nothing → IsList said w list → has_owner here.chain list ≡ true
owner_there said w here None is free fits = refl
owner_there said w here (Some handler) is free fits = target_there said w here handler is free fits

end_there : (said : SoFar) (w : ℕ) (here : Inside) (rule : Rule) → IsInside said w here → said.begun ≡ nothing → IsRule said w rule → has_end here.chain rule ≡ true
end_there said w here Skip is free fits = refl
end_there said w here Pass is free fits = refl
end_there said w here (Redirect handler) is free fits = target_there said w here handler is free fits

pub place_there : (said : SoFar) (w : ℕ) (here : Inside) (list : Option Target) (rule : Rule) → IsInside said w here → said.begun ≡ nothing →
    IsList said w list → IsRule said w rule → is_place here.chain list rule ≡ true
place_there said w here list rule is free owner end =
    let either : Bool → Bool = λ b. b && has_end here.chain rule in
    ap either (owner_there said w here list is free owner) ∙ end_there said w here rule is free end

filter_count : (said : SoFar) (line : FilterLine) → length (listed (chain_of (declared_in said (0, 0)) line.window) line.list) ≡ length (filters_beside said line)
unfolding chain_of
filter_count said line =
    filter_twice (λ (other : FilterLine). other.window == line.window) (λ (other : FilterLine). same_list other.list line.list)
    (λ (f : Filter). is_in_list line.list f.list) declared_filter said.filters (λ other. same_in_list line.list other.list)

filter_length : (said : SoFar) (line : FilterLine) (here : Inside) → IsInside said line.window here → said.begun ≡ nothing →
    length (listed here.chain line.list) ≡ length (filters_beside said line)
filter_length said line here is free = ap (λ (c : Chain). length (listed c line.list)) (here_chain said line.window here is free) ∙ filter_count said line

pub filter-many : (said : SoFar) (line : FilterLine) (here : Inside) → IsInside said line.window here → said.begun ≡ nothing →
    32 ≤ length (listed here.chain line.list) → done said (adds_filter line) ≡ Err TooMany
filter-many said line here is free many =
    too-many said (adds_filter line) refl (le-leb 32 (length (filters_beside said line)) (omega (arith, many, filter_length said line here is free)))

pub filter-done : (said : SoFar) (line : FilterLine) (here : Inside) → IsInside said line.window here → said.begun ≡ nothing →
    length (listed here.chain line.list) < 32 → done said (adds_filter line) ≡ Ok (said_then said (adds_filter line))
filter-done said line here is free few =
    may-be-done said (adds_filter line) refl (lt-leb 32 (length (filters_beside said line)) (omega (arith, few, filter_length said line here is free)))

-- ---- plain handlers

plain_count : (said : SoFar) (w : ℕ) → length (chain_of (declared_in said (0, 0)) w).nexts ≡ length (plain_in said w)
unfolding chain_of
plain_count said w = map_length (λ (line : HandlerLine). line.next) (plain_in said w)

plain_length : (said : SoFar) (w : ℕ) (here : Inside) → IsInside said w here → said.begun ≡ nothing → length here.chain.nexts ≡ length (plain_in said w)
plain_length said w here is free = ap (λ (c : Chain). length c.nexts) (here_chain said w here is free) ∙ plain_count said w

pub plain-many : (said : SoFar) (line : HandlerLine) (here : Inside) → IsInside said line.window here → said.begun ≡ nothing →
    16 ≤ length here.chain.nexts → done said (adds_handler line) ≡ Err TooMany
plain-many said line here is free many =
    too-many said (adds_handler line) refl (le-leb 16 (length (plain_in said line.window)) (omega (arith, many, plain_length said line.window here is free)))

pub plain-done : (said : SoFar) (line : HandlerLine) (here : Inside) → IsInside said line.window here → said.begun ≡ nothing →
    length here.chain.nexts < 16 → done said (adds_handler line) ≡ Ok (said_then said (adds_handler line))
plain-done said line here is free few =
    may-be-done said (adds_handler line) refl (lt-leb 16 (length (plain_in said line.window)) (omega (arith, few, plain_length said line.window here is free)))

-- each plain handler has a name
pub plain_room : (said : SoFar) (w : ℕ) (here : Inside) → IsInside said w here → said.begun ≡ nothing → length here.chain.nexts < 16 → length here.plain.items < 16
plain_room said w here is free few =
    let names : length here.plain.items ≡ length (plain_in said w) = ap length is.plain ∙ map_length (λ (line : HandlerLine). line.name) (plain_in said w) in
    omega (arith, few, names, plain_length said w here is free)

-- ---- views

parent_count : (said : SoFar) (w : ℕ) → length (chain_of (declared_in said (0, 0)) w).parents ≡ length (views_in said w) + 1
unfolding chain_of
parent_count said w = omega (arith, map_length (λ (line : ViewLine). Some line.parent) (views_in said w))

pub parent_length : (said : SoFar) (w : ℕ) (here : Inside) → IsInside said w here → said.begun ≡ nothing → length here.chain.parents ≡ length (views_in said w) + 1
parent_length said w here is free = ap (λ (c : Chain). length c.parents) (here_chain said w here is free) ∙ parent_count said w
